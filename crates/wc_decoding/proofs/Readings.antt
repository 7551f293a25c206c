-- Readings at numbers that are not written as successors.
use Rattle.std.proofs.Common.{◌≡◌, ℕ, suc, ◌+◌, ◌-◌, ◌<◌, List, [], ◌∷◌, ◌++◌, Result, ap, arith}
use Rattle.wc_value.specs.declared.refusal.ValueError.{ValueError}
use Rattle.wc_value.specs.Reading.{◌>>=◌, byte_at, behind, value_at, several}

pub value_at_below : (levels : ℕ) (bytes : List ℕ) (at : ℕ) → 0 < levels
    → value_at levels bytes at ≡ (byte_at bytes at >>= behind (value_at (levels - 1) bytes) bytes at)
value_at_below levels bytes at h = let p : levels ≡ suc (levels - 1) = omega arith in ap (λ (k : ℕ). value_at k bytes at) p

-- one item, and the others behind it
pub several_at : {A : Type 0} (count i : ℕ) (item : List A → ℕ → Result (A × ℕ) ValueError) (front : List A) (at : ℕ) → i < count
    → several (count - i) item front at ≡ (item front at >>= (λ x. several (count - (i + 1)) item (front ++ x.0 ∷ []) x.1))
several_at count i item front at h = let p : count - i ≡ suc (count - (i + 1)) = omega arith in ap (λ (k : ℕ). several k item front at) p
