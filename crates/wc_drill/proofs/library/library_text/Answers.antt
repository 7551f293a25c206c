use Rattle.std.proofs.Common.{◌≡◌, ℕ, List, IfOk, sym, subst}
use Rattle.wc_drill.proofs.Writable.{printed_as}
use Rattle.wc_drill.proofs.library.library_text.Goals as goal

pub returns : goal.returns
returns c = subst (λ (t : List ℕ). IfOk c.of_str.result (λ x. x ≡ t)) (sym printed_as) c.of_str.ensures
