use Rattle.std.proofs.Common.{Bool, None, sym, ap, ◌∙◌}
use Rattle.std.specs.Prelude.{if◌then◌else◌}
use Rattle.wc_keys.specs.Beginnings.{text_at}
use Rattle.wc_keys.proofs.digests.text_of.Goals as goal

pub returns-then-is_finished_calculation : goal.returns-then-is_finished_calculation
returns-then-is_finished_calculation c =
    let ran = c.args.record.now in
    c.text_in.ensures
    ∙ ap (λ (b : Bool). if b then text_at c.args.libraries.now ran.library ran.definition else None)
    (sym (sym c.is_finished_calculation.ensures ∙ c.if-is_finished_calculation.true))
