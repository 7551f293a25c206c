-- Whether something holds, of what is built of parts.
use Rattle.std.proofs.Common.{◌≡◌, ◌⊎◌, inl, inr, ℕ, zero, suc, ◌<◌, Bool, true, false, List, [], ◌∷◌, length, Option, Some, None, refl, sym, subst, ◌∙◌, arith}
use Rattle.std.specs.Prelude.{Any, IsSome, IsNone, IsSomeAnd, slice_index_or}
use Rattle.std.specs.Str.{bytes_eq}
use Rattle.std.proofs.lemmas.Bool.{false≢true}
use Rattle.std.proofs.lemmas.Slice.Eq.{bytes_eq-Decides}

-- it holds or it doesn't
abbrev pub IsDecided : Type 0 → Type 0
IsDecided P = P ⊎ (P → ⊥)

pub never : IsDecided ⊥
never = inr (λ h. h)

pub always : IsDecided (Unit {0})
always = inl tt

pub both : {P Q : Type 0} → IsDecided P → IsDecided Q → IsDecided (P × Q)
both (inl p) (inl q) = inl (p, q)
both (inl p) (inr n) = inr (λ h. n h.1)
both (inr n) d = inr (λ h. n h.0)

pub three : {P Q R : Type 0} → IsDecided P → IsDecided Q → IsDecided R → IsDecided (P × Q × R)
three (inl p) (inl q) (inl r) = inl (p, q, r)
three (inl p) (inl q) (inr n) = inr (λ h. n h.2)
three (inl p) (inr n) d = inr (λ h. n h.1)
three (inr n) c d = inr (λ h. n h.0)

pub four : {P Q R S : Type 0} → IsDecided P → IsDecided Q → IsDecided R → IsDecided S → IsDecided (P × Q × R × S)
four (inl p) (inl q) (inl r) (inl s) = inl (p, q, r, s)
four (inl p) (inl q) (inl r) (inr n) = inr (λ h. n h.3)
four (inl p) (inl q) (inr n) d = inr (λ h. n h.2)
four (inl p) (inr n) c d = inr (λ h. n h.1)
four (inr n) b c d = inr (λ h. n h.0)

-- ---- tests
pub true_or_false : (b : Bool) → (b ≡ true) ⊎ (b ≡ false)
true_or_false true = inl refl
true_or_false false = inr refl

bytes_by : (xs ys : List ℕ) (b : Bool) → bytes_eq xs ys ≡ b → IsDecided (xs ≡ ys)
bytes_by xs ys true e = inl ((bytes_eq-Decides xs ys).0 e)
bytes_by xs ys false e = inr (λ same. false≢true (sym e ∙ (bytes_eq-Decides xs ys).1 same))

pub same_bytes : (xs ys : List ℕ) → IsDecided (xs ≡ ys)
same_bytes xs ys = bytes_by xs ys (bytes_eq xs ys) refl

-- ---- what may be there
pub none_or_some : {T : Type 0} (o : Option T) → IsNone o ⊎ IsSome o
none_or_some None = inl refl
none_or_some (Some x) = inr refl

pub some_and : {T : Type 0} (P : T → Type 0) → ((x : T) → IsDecided (P x)) → (o : Option T) → IsDecided (IsSomeAnd o P)
some_and P each None = never
some_and P each (Some x) = each x

-- ---- lists
module _ {T : Type 0} (P : T → Type 0) where
  not_first : (x : T) (xs : List T) → (P x → ⊥) → (Any P xs → ⊥) → (k : ℕ) (y : T) → k < length (x ∷ xs) → slice_index_or (x ∷ xs) k y ≡ y → P y → ⊥
  not_first x xs first rest zero y lt is p = first (subst P (sym is) p)
  not_first x xs first rest (suc k) y lt is p = rest (k, y, omega (arith, lt), is, p)

  first_or_rest : (x : T) (xs : List T) → IsDecided (P x) → IsDecided (Any P xs) → IsDecided (Any P (x ∷ xs))
  first_or_rest x xs (inl p) rest = inl (0, x, omega arith, refl, p)
  first_or_rest x xs (inr n) (inl h) = inl (suc h.0, h.1, omega (arith, h.2), h.3, h.4)
  first_or_rest x xs (inr n) (inr m) = inr (λ h. not_first x xs n m h.0 h.1 h.2 h.3 h.4)

  pub any : ((x : T) → IsDecided (P x)) → (xs : List T) → IsDecided (Any P xs)
  any each [] = inr (λ h. let lt = h.2 in omega (arith, lt))
  any each (x ∷ xs) = first_or_rest x xs (each x) (any each xs)
