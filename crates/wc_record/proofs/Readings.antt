-- Readings at numbers that are not written as successors.
use Rattle.std.proofs.Common.{◌≡◌, ℕ, suc, ◌+◌, ◌-◌, ◌<◌, List, [], ◌∷◌, ◌++◌, ap, arith}
use Rattle.wc_record.specs.Readers.{Reader, ◌>>=◌, several}

-- one item, and the others behind it
pub several_at : {A : Type 0} (count i : ℕ) (item : List A → Reader A) (front : List A) (bytes : List ℕ) (at : ℕ) → i < count
    → several (count - i) item front bytes at ≡ (item front bytes at >>= (λ x. several (count - (i + 1)) item (front ++ x.0 ∷ []) bytes x.1))
several_at count i item front bytes at h = let p : count - i ≡ suc (count - (i + 1)) = omega arith in ap (λ (k : ℕ). several k item front bytes at) p
