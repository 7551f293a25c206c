-- Numbers as JSON.
use Rattle.std.proofs.Common.{◌≡◌, ℕ, ℤ, pos, negsuc, ◌<◌, ◌^◌, Bool, true, false, ◌||◌, Some, None, option_and_then, refl, sym, ap, ◌∙◌, arith, if◌then◌else◌}
use Rattle.std.specs.Prelude.{FitsSigned, int_lt, nat_lt}
use Rattle.std.specs.Int.{w64}
use Rattle.std.proofs.lemmas.Bool.{lt-ltb}
use Rattle.std.proofs.lemmas.Int.{ints}
use Rattle.serde_json.specs.Data.{Data, unsigned, negative, float, null, boolean, number, string, array, object}
use Rattle.serde_json.specs.Find.{as_i64, as_number, as_u64}
use Rattle.wc_archive_file.specs.Archives.{code_data, number_data}
use Rattle.wc_archive_file.specs.Reads.{below_zero, is_written_so}

-- ---- without sign

pub u64_some : (d : Data) (n : ℕ) → Some n ≡ option_and_then as_u64 (as_number d) → d ≡ number_data n
u64_some null n e = cc
u64_some (boolean b) n e = cc
u64_some (number (unsigned m)) n e = let same : n ≡ m = cc in ap number_data (sym same)
u64_some (number (negative z)) n e = cc
u64_some (number (float x)) n e = cc
u64_some (string s) n e = cc
u64_some (array ds) n e = cc
u64_some (object ms) n e = cc

pub u64_none : (d : Data) → None ≡ option_and_then as_u64 (as_number d) → (n : ℕ) → d ≡ number_data n → ⊥
u64_none d e n is = let some : None ≡ Some n = e ∙ ap (λ (c : Data). option_and_then as_u64 (as_number c)) is in cc

pub one_number : (n m : ℕ) → number_data n ≡ number_data m → n ≡ m
one_number n m e = cc

pub too_wide : (d : Data) (n : ℕ) → d ≡ number_data n → (n < 2 ^ 32 → ⊥) → (m : ℕ) → m < 2 ^ 32 → d ≡ number_data m → ⊥
too_wide d n is wide m low same = let e : n ≡ m = one_number n m (sym is ∙ same) in wide (omega arith)

-- ---- with sign

signed_some : (n : ℕ) (b : Bool) (z : ℤ) → Some z ≡ (if b then Some (pos n) else None) → z ≡ pos n
signed_some n true z e = cc
signed_some n false z e = cc

pub code_some : (d : Data) (z : ℤ) → Some z ≡ option_and_then as_i64 (as_number d) → true ≡ is_written_so d → d ≡ code_data z
code_some null z e h = cc
code_some (boolean b) z e h = cc
code_some (number (unsigned n)) z e h = rw (signed_some n (nat_lt n (2 ^ 63)) z e) refl
code_some (number (negative (pos n))) z e h = let no : int_lt (pos n) (pos 0) ≡ false = grind (arith, ints) in let wrong : true ≡ false = h ∙ ap (λ (b : Bool). b || false) no in cc
code_some (number (negative (negsuc n))) z e h = let same : z ≡ negsuc n = cc in rw same refl
code_some (number (float x)) z e h = cc
code_some (string s) z e h = cc
code_some (array ds) z e h = cc
code_some (object ms) z e h = cc

below : (n : ℕ) → FitsSigned w64 (pos n) → n < 2 ^ 63
below n h = omega (arith, ints, h.sfits)

pub reads_code : (a : ℤ) → FitsSigned w64 a → option_and_then as_i64 (as_number (code_data a)) ≡ Some a
reads_code (pos n) h = ap (λ (b : Bool). if b then Some (pos n) else None) (lt-ltb n (2 ^ 63) (below n h))
reads_code (negsuc n) h = refl

or_true : (b : Bool) → (b || true) ≡ true
or_true true = refl
or_true false = refl

writes_code : (a : ℤ) → is_written_so (code_data a) ≡ true
writes_code (pos n) = or_true (below_zero (option_and_then as_i64 (as_number (code_data (pos n)))))
writes_code (negsuc n) = refl

pub code_none : (d : Data) → None ≡ option_and_then as_i64 (as_number d) → (a : ℤ) → FitsSigned w64 a → d ≡ code_data a → ⊥
code_none d e a fits is = let some : None ≡ Some a = e ∙ ap (λ (c : Data). option_and_then as_i64 (as_number c)) is ∙ reads_code a fits in cc

pub code_other : (d : Data) → false ≡ is_written_so d → (a : ℤ) → FitsSigned w64 a → d ≡ code_data a → ⊥
code_other d h a fits is = let wrong : false ≡ true = h ∙ ap is_written_so is ∙ writes_code a in cc
