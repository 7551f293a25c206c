-- Numbers, texts and values: what is spelled is read, and what is read is spelled.
use Rattle.std.proofs.Common.{◌≡◌, ℕ, ◌+◌, ◌^◌, ◌<◌, ◌≤◌, Bool, true, false, cond, ltb, List, [], ◌∷◌, length, take, drop, get_or, Option, Some, None, Result, Ok, Err, refl, sym, ap, subst, ◌∙◌, inl, inr, arith}
use Rattle.std.specs.Prelude.{FitsSigned, is_some}
use Rattle.std.specs.Int.{w64, to_be_bytes, from_be_bytes}
use Rattle.std.proofs.lemmas.Bool.{lt-ltb, ltb-true}
use Rattle.std.proofs.lemmas.List.{take_at, get_or-drop, get_or-take, get_or_past}
use Rattle.std.proofs.lemmas.Bool.{cases_lt}
use Rattle.std.proofs.lemmas.Nat.{be_bytes_8, from_be_bytes-to_be_bytes_8}
use Rattle.wc_value.specs.Ascending.{goes_last}
use Rattle.wc_value.specs.Spelling.{spelling}
use Rattle.wc_value.specs.Spells.{Spells, IsText}
use Rattle.wc_value.specs.Reading as read
use Rattle.wc_value.specs.Reading.{◌>>=◌ as ◌>=>◌}
use Rattle.wc_value.specs.declared.value.Value.{Value}
use Rattle.wc_value.specs.declared.refusal.ValueError.{ValueError}
use Rattle.wc_value.specs.declared.refusal.ValueError.TheVariants as value_error
use Rattle.wc_value.proofs.Places.{IsBytes, Covers, bytes_again, bytes_take, u32_again, u32_take, i64_again, i64_take, text_again, text_take}
use Rattle.wc_value.proofs.Readback.{value_again, value_take}
use Rattle.wc_value.proofs.Respelled.{spells_is}
use Rattle.wc_state.specs.Context.{Pairs, found_at}
use Rattle.wc_state.specs.declared.context.CtxRef.{CtxRef}
use Rattle.wc_world.specs.Fits.{comes_after}
use Rattle.wc_record.specs.declared.error.RecordError.{RecordError}
use Rattle.wc_record.specs.declared.error.RecordError.TheVariants.{BadTag, Unsorted}
use Rattle.wc_record.specs.Readers.{◌>>=◌, lifted, byte, byte_below, u32, eight, u64, i64, text, value, last_of, name, label}
use Rattle.wc_record.specs.Fields.{key}
use Rattle.wc_record.specs.Spelled.{u32_bytes, u64_bytes, i64_bytes, text_bytes}
use Rattle.wc_record.specs.Written.{IsNumber, IsValue}
use Rattle.wc_record.proofs.Codes.{Codes, bind_ok, ok_is, pass_ok, byte_read, byte_taken}

abbrev found : {A : Type 0} → A → Result A ValueError
found x = Ok x

lifted_ok : {A : Type 0} (r : Result A ValueError) (x : A) → lifted r ≡ Ok x → r ≡ Ok x
lifted_ok (Ok y) x e = ap found (ok_is y x e)
lifted_ok (Err d) x e = absurd cc

-- ---- numbers
pub u32_codes : Codes IsNumber u32_bytes u32
unfolding u32_bytes
u32_codes = record {
  back = λ bytes n at next h p. ap lifted (u32_again bytes n at next h p);
  taken = λ bytes fits n at next le e. let t = u32_take bytes n at next fits le (lifted_ok (read.u32_at bytes at) (n, next) e) in (t.1, t.0);
}

pub i64_codes : Codes (FitsSigned w64) i64_bytes i64
unfolding i64_bytes
i64_codes = record {
  back = λ bytes n at next h p. ap lifted (i64_again bytes n at next h p);
  taken = λ bytes fits n at next le e. let t = i64_take bytes n at next fits le (lifted_ok (read.i64_at bytes at) (n, next) e) in (t.1, t.0);
}

abbrev pub IsLong : ℕ → Type 0
IsLong n = n < 2 ^ 64

-- bytes that stand in bytes are bytes
covered_fit : (bytes b : List ℕ) (at next : ℕ) → IsBytes bytes → Covers bytes at b next → IsBytes b
covered_fit bytes b at next fits p i =
    elim (cases_lt i (length b)) [
      | inl lt ↦ subst (λ (l : List ℕ). get_or l i 0 < 256) (ap (take (length b)) p.parts ∙ take_at b (drop next bytes) (length b) refl)
          (rw (get_or-take (length b) (drop at bytes) i 0 lt, get_or-drop) (fits (at + i)))
      | inr le ↦ rw (get_or_past b i 0 le) (omega arith)
    ]

u64_below : (bytes : List ℕ) → IsBytes bytes → from_be_bytes w64 bytes < 2 ^ 64
u64_below bytes fits = omega (arith, fits 0, fits 1, fits 2, fits 3, fits 4, fits 5, fits 6, fits 7)

pub u64_codes : Codes IsLong u64_bytes u64
unfolding u64_bytes
u64_codes = record { back = back; taken = taken }
  where
    back : (bytes : List ℕ) (n at next : ℕ) → IsLong n → Covers bytes at (to_be_bytes w64 n) next → u64 bytes at ≡ Ok (n, next)
    back bytes n at next h p =
        ap (λ r. lifted r >>= (λ x. Ok (from_be_bytes w64 x.0, x.1))) (bytes_again 8 bytes (to_be_bytes w64 n) at next refl p)
        ∙ ap (λ m. Ok (m, next)) (from_be_bytes-to_be_bytes_8 n h)

    taken : (bytes : List ℕ) → IsBytes bytes → (n at next : ℕ) → at ≤ length bytes → u64 bytes at ≡ Ok (n, next) → IsLong n × Covers bytes at (to_be_bytes w64 n) next
    taken bytes fits n at next le e =
        let r = bind_ok (eight bytes at) (λ x. Ok (from_be_bytes w64 x.0, x.1)) (n, next) e in
        let t = bytes_take 8 bytes r.0.0 at r.0.1 le (lifted_ok (read.bytes_at 8 bytes at) r.0 r.1) in
        let b_fits = covered_fit bytes r.0.0 at r.0.1 fits t.0 in
        let digits : to_be_bytes w64 (from_be_bytes w64 r.0.0) ≡ r.0.0 = be_bytes_8 r.0.0 (from_be_bytes w64 r.0.0) t.1 b_fits refl in
        subst (λ (w : ℕ × ℕ). IsLong w.0 × Covers bytes at (to_be_bytes w64 w.0) w.1) (ok_is (from_be_bytes w64 r.0.0, r.0.1) (n, next) r.2)
        (u64_below r.0.0 b_fits, subst (λ l. Covers bytes at l r.0.1) (sym digits) t.0)

pub below_codes : (bound : ℕ) → Codes (λ n. n < bound) (λ n. n ∷ []) (byte_below bound)
below_codes bound = record { back = back; taken = taken }
  where
    back : (bytes : List ℕ) (n at next : ℕ) → n < bound → Covers bytes at (n ∷ []) next → byte_below bound bytes at ≡ Ok (n, next)
    back bytes n at next h p =
        ap (λ r. r >>= (λ b. cond (ltb b.0 bound) (Ok b) (Err (BadTag at)))) (byte_read bytes n at next p)
        ∙ ap (λ (b : Bool). cond b (Ok (n, next)) (Err (BadTag at))) (lt-ltb n bound h)

    taken : (bytes : List ℕ) → IsBytes bytes → (n at next : ℕ) → at ≤ length bytes → byte_below bound bytes at ≡ Ok (n, next) → (n < bound) × Covers bytes at (n ∷ []) next
    taken bytes fits n at next le e =
        let r = bind_ok (byte bytes at) (λ b. cond (ltb b.0 bound) (Ok b) (Err (BadTag at))) (n, next) e in
        let g = pass_ok (ltb r.0.0 bound) (BadTag at) r.0 (n, next) r.2 in
        subst (λ (w : ℕ × ℕ). (w.0 < bound) × Covers bytes at (w.0 ∷ []) w.1) g.1 (ltb-true r.0.0 bound g.0, byte_taken bytes r.0.0 at r.0.1 r.1)

-- ---- values
pub value_codes : Codes IsValue spelling value
value_codes = record {
  back = λ bytes v at next h p. ap lifted (value_again 32 bytes v (spelling v) at next (h.spelled, h.shallow) p);
  taken = taken;
}
  where
    taken : (bytes : List ℕ) → IsBytes bytes → (v : Value) (at next : ℕ) → at ≤ length bytes → value bytes at ≡ Ok (v, next) → IsValue v × Covers bytes at (spelling v) next
    taken bytes fits v at next le e =
        let t = value_take 32 bytes fits v at next le (lifted_ok (read.value_at 32 bytes at) (v, next) e) in
        subst (λ (b : List ℕ). IsValue v × Covers bytes at b next) (spells_is v t.0 t.1.0)
        (record { spelled = subst (λ b. Spells v b) (spells_is v t.0 t.1.0) t.1.0; shallow = t.1.1 }, t.2)

-- ---- texts
pub text_codes : Codes IsText text_bytes text
unfolding text_bytes
text_codes = record {
  back = λ bytes t at next h p. ap lifted (text_again bytes t at next h p);
  taken = λ bytes fits t at next le e. let x = text_take bytes t at next fits le (lifted_ok (read.text_at bytes at) (t, next) e) in (x.1, x.0);
}

-- a text that passes a test
pub tested_codes : (test : List ℕ → Bool) → Codes (λ t. IsText t × (test t ≡ true)) text_bytes (λ bytes at. text bytes at >>= (λ k. cond (test k.0) (Ok k) (Err (Unsorted at))))
tested_codes test = record { back = back; taken = taken }
  where
    back : (bytes t : List ℕ) (at next : ℕ) → IsText t × (test t ≡ true) → Covers bytes at (text_bytes t) next
        → (text bytes at >>= (λ k. cond (test k.0) (Ok k) (Err (Unsorted at)))) ≡ Ok (t, next)
    back bytes t at next h p =
        ap (λ r. r >>= (λ k. cond (test k.0) (Ok k) (Err (Unsorted at)))) (text_codes.back bytes t at next h.0 p)
        ∙ ap (λ (b : Bool). cond b (Ok (t, next)) (Err (Unsorted at))) h.1

    taken : (bytes : List ℕ) → IsBytes bytes → (t : List ℕ) (at next : ℕ) → at ≤ length bytes
        → (text bytes at >>= (λ k. cond (test k.0) (Ok k) (Err (Unsorted at)))) ≡ Ok (t, next) → (IsText t × (test t ≡ true)) × Covers bytes at (text_bytes t) next
    taken bytes fits t at next le e =
        let r = bind_ok (text bytes at) (λ k. cond (test k.0) (Ok k) (Err (Unsorted at))) (t, next) e in
        let g = pass_ok (test r.0.0) (Unsorted at) r.0 (t, next) r.2 in
        let x = text_codes.taken bytes fits r.0.0 at r.0.1 le r.1 in
        subst (λ (w : List ℕ × ℕ). (IsText w.0 × (test w.0 ≡ true)) × Covers bytes at (text_bytes w.0) w.1) g.1 ((x.0, g.0), x.1)

pub name_codes : (front : List (List ℕ)) → Codes (λ t. IsText t × (comes_after (last_of front) t ≡ true)) text_bytes (name front)
name_codes front = tested_codes (comes_after (last_of front))

-- the same test, before and after the refusals are moved
label_is : (r : Result (List ℕ × ℕ) ValueError) (test : List ℕ → Bool) (at : ℕ)
    → (lifted r >>= (λ k. cond (test k.0) (Ok k) (Err (Unsorted at)))) ≡ lifted (r >=> (λ k. cond (test k.0) (Ok k) (Err (value_error.Unsorted at))))
label_is (Err d) test at = refl
label_is (Ok k) test at = by_test (test k.0)
  where
    by_test : (b : Bool) → cond b (Ok k) (Err (Unsorted at)) ≡ lifted (cond b (Ok k) (Err (value_error.Unsorted at)))
    by_test true = refl
    by_test false = refl

pub label_codes : {T : Type 0} (front : List (List ℕ × T)) → Codes (λ t. IsText t × (goes_last t front ≡ true)) text_bytes (label front)
label_codes front =
    let c = tested_codes (λ t. goes_last t front) in
    record {
      back = λ bytes t at next h p. sym (label_is (read.text_at bytes at) (λ t. goes_last t front) at) ∙ c.back bytes t at next h p;
      taken = λ bytes fits t at next le e. c.taken bytes fits t at next le (label_is (read.text_at bytes at) (λ t. goes_last t front) at ∙ e);
    }

-- whether a key isn't set
abbrev is_new : Option CtxRef → Bool
is_new None = true
is_new (Some held) = false

new_key : (o : Option CtxRef) → is_new o ≡ true → o ≡ None
new_key None e = refl
new_key (Some held) e = absurd cc

key_is : (o : Option CtxRef) (k : List ℕ × ℕ) (at : ℕ) → cond (is_new o) (Ok k) (Err (Unsorted at)) ≡ cond (is_some o) (Err (Unsorted at)) (Ok k)
key_is None k at = refl
key_is (Some held) k at = refl

key_reads : (front : Pairs) (r : Result (List ℕ × ℕ) RecordError) (at : ℕ)
    → (r >>= (λ k. cond (is_new (found_at front k.0)) (Ok k) (Err (Unsorted at)))) ≡ (r >>= (λ k. cond (is_some (found_at front k.0)) (Err (Unsorted at)) (Ok k)))
key_reads front (Err d) at = refl
key_reads front (Ok k) at = key_is (found_at front k.0) k at

pub key_codes : (front : Pairs) → Codes (λ t. IsText t × (found_at front t ≡ None)) text_bytes (key front)
key_codes front =
    let c = tested_codes (λ t. is_new (found_at front t)) in
    record {
      back = λ bytes t at next h p. sym (key_reads front (text bytes at) at) ∙ c.back bytes t at next (h.0, ap is_new h.1) p;
      taken = λ bytes fits t at next le e.
          let x = c.taken bytes fits t at next le (key_reads front (text bytes at) at ∙ e) in ((x.0.0, new_key (found_at front t) x.0.1), x.1);
    }
