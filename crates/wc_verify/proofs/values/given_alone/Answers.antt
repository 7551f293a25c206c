use Rattle.std.proofs.Common.{sym, subst, ◌≡◌, ◌∙◌}
use Rattle.std.specs.Prelude.{IfOk}
use Rattle.std.specs.Option.{option_copied}
use Rattle.wc_verify.proofs.Given.{given_by_itself}
use Rattle.wc_verify.proofs.values.given_alone.Goals as goal

pub returns : goal.returns
returns c =
    let w = c.args.world.now.world in
    subst (λ o. IfOk c.given_by.result (λ given. given ≡ o))
    (given_by_itself w c.args.process.now (option_copied c.definition_of.result) c.in_ok-inputs.inputs c.in_ok-files.files
    (sym c.is_killed.ensures ∙ c.if-is_killed.false) (sym c.is_some.ensures ∙ c.if-is_some.false) c.definition_of.ensures c.in_ok-inputs.ensures c.in_ok-files.ensures)
    c.given_by.ensures
