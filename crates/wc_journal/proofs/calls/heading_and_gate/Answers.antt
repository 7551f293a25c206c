use Rattle.std.proofs.Common.{ap, get_or, List, ℕ, [], ◌∷◌}
use Rattle.wc_journal.specs.Frame.{heading}
use Rattle.wc_journal.proofs.calls.heading_and_gate.Goals as goal

pub returns : goal.returns
unfolding heading
returns c =
    ap (λ (r : List ℕ). 67 ∷ 74 ∷ 78 ∷ 76 ∷ 0 ∷ 0 ∷ 2 ∷ get_or r 0 0 ∷ get_or r 1 0 ∷ get_or r 2 0 ∷ get_or r 3 0 ∷ get_or r 4 0 ∷ get_or r 5 0 ∷ get_or r 6 0 ∷ get_or r 7 0 ∷ 0 ∷ [])
    c.to_be_bytes.ensures
