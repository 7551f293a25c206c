-- Bytes are a text exactly where the test says so.
use Rattle.std.proofs.Common.{◌≡◌, ℕ, List, Bool, true, false, Some, None, if◌then◌else◌, refl, sym, ap, ◌∙◌}
use Rattle.std.proofs.Math.Logic.{∥∥₁_elim}
use Rattle.std.specs.Coded.{Coded-set, coded_bool}
use Rattle.std.specs.Str.{IsUtf8, is_utf8}
use Rattle.std.proofs.lemmas.Str.{IsUtf8-from_is_utf8, is_utf8-from_IsUtf8}

pub some_text : (xs bs : List ℕ) → ∥ IsUtf8 xs ∥₁ → xs ≡ bs → Some xs ≡ (if is_utf8 bs then Some bs else None)
some_text xs bs h e =
    let t : is_utf8 xs ≡ true = ∥∥₁_elim h (Coded-set coded_bool _ _) (is_utf8-from_IsUtf8 xs) in
    ap (λ (b : Bool). if b then Some xs else None) (sym t) ∙ ap (λ (l : List ℕ). if is_utf8 l then Some l else None) e

no_text_at : (bs : List ℕ) → (IsUtf8 bs → ⊥) → (b : Bool) → is_utf8 bs ≡ b → None ≡ (if b then Some bs else None)
no_text_at bs h true e = absurd (h (IsUtf8-from_is_utf8 bs e))
no_text_at bs h false e = refl

pub no_text : (bs : List ℕ) → (IsUtf8 bs → ⊥) → None ≡ (if is_utf8 bs then Some bs else None)
no_text bs h = no_text_at bs h (is_utf8 bs) refl

pub utf8_of : (xs ys : List ℕ) → ∥ IsUtf8 xs ∥₁ → xs ≡ ys → is_utf8 ys ≡ true
utf8_of xs ys h e = ap is_utf8 (sym e) ∙ ∥∥₁_elim h (Coded-set coded_bool _ _) (is_utf8-from_IsUtf8 xs)
