use Rattle.std.proofs.Common.{ap, sym, ◌∙◌}
use Rattle.std.specs.Option.{option_copied}
use Rattle.std.proofs.lemmas.Result.{IfOk-weaker}
use Rattle.wc_cache.specs.Keys.{IsKey, IsKeyOf}
use Rattle.wc_cache.proofs.Parts.{key_kept}
use Rattle.wc_cache.proofs.keys.key_of_process.Goals as goal

pub returns : goal.returns
returns c =
    let w = c.args.world.now.world in
    let p = c.args.process.now in
    let text = c.unwrap-text.result.now in
    let inputs = c.in_ok-inputs.inputs in
    IfOk-weaker c.key_with.result (IsKey text inputs) (IsKeyOf w p)
    (λ key k. key_kept w p text inputs key (sym (ap option_copied c.unwrap-text.ensures) ∙ c.text_of.ensures) c.in_ok-inputs.ensures k) c.key_with.ensures
