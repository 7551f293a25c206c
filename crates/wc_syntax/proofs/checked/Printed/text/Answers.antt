use Rattle.std.proofs.Common.{◌≡◌, ◌∙◌, ℕ, List, IfOk, map, arith, ap, subst}
use Rattle.std.specs.Prelude.{string_bytes}
use Rattle.wc_syntax.specs.Printing.{printed, printed_definition}
use Rattle.wc_syntax.proofs.Joined.{joined}
use Rattle.wc_syntax.proofs.checked.Printed.text.Goals as goal

pub returns : goal.returns
returns c =
    let texts = c.as_slice-text-items.result.now in
    let same : texts ≡ map printed_definition c.self.inside.library = c.as_slice-text-items.ensures ∙ c.self.invariant in
    let all : string_bytes c.loop-text.out ≡ printed c.self.inside.library
    = joined c.self.inside.library texts c.loop-text.text-index (string_bytes c.loop-text.out) same (omega (arith, c.loop-text-test.false)) c.loop-text.invariant in
    subst (λ (t : List ℕ). IfOk c.of_string.result (λ text. text ≡ t)) (all ∙ ap printed c.self.view_is) c.of_string.ensures
