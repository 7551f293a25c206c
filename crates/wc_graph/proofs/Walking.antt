-- Walks down the links of a node.
use Rattle.std.proofs.Common.{◌≡◌, ◌≢◌, ℕ, List, [], ◌∷◌, zero, suc, refl, ◌∙◌, arith, drop}
use Rattle.wc_graph.specs.declared.link.Link.{Link}
use Rattle.wc_graph.specs.Index.{Skips}

-- What doesn't look at links of other nodes is the same at both ends of what is skipped.
pub skipped : {T : Type 0} (f : List Link → T) (side : Link → ℕ) (n : ℕ) → ((l : Link) (ls : List Link) → side l ≢ n → f (l ∷ ls) ≡ f ls)
    → (links : List Link) (below at : ℕ) → Skips side links n below at → f (drop at links) ≡ f (drop below links)
skipped f side n passes [] zero zero s = refl
skipped f side n passes [] zero (suc at) s = refl
skipped f side n passes [] (suc below) zero s = refl
skipped f side n passes [] (suc below) (suc at) s = refl
skipped f side n passes (l ∷ ls) zero zero s = refl
skipped f side n passes (l ∷ ls) zero (suc at) s = absurd (omega (arith, s.within))
skipped f side n passes (l ∷ ls) (suc below) zero s =
    passes l ls (s.others 0 l refl (omega arith) (omega arith))
    ∙ skipped f side n passes ls below zero (record {
      within = omega arith;
      others = λ k x found from under. s.others (suc k) x found (omega arith) (omega (arith, under));
    })
skipped f side n passes (l ∷ ls) (suc below) (suc at) s =
    skipped f side n passes ls below at (record {
      within = omega (arith, s.within);
      others = λ k x found from under. s.others (suc k) x found (omega (arith, from)) (omega (arith, under));
    })
