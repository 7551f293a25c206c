-- What stands at a place: read from what was written there, and written there where it was read.
use Rattle.std.proofs.Common.{◌≡◌, ℕ, suc, ◌+◌, ◌-◌, ◌^◌, ◌<◌, ◌≤◌, ℤ, Bool, true, false, cond, ltb, List, [], ◌∷◌, ◌++◌, length, get_or, take, drop, Result, Ok, Err, refl, sym, ap, subst, ◌∙◌, append_assoc, add-one, drop-cons, inl, inr, arith}
use Rattle.std.specs.Prelude.{FitsSigned, slice_index}
use Rattle.std.specs.Int.{w32, w64, from_be_bytes, to_be_bytes, cast_signed, cast_unsigned}
use Rattle.std.specs.Str.{is_utf8}
use Rattle.std.proofs.lemmas.Bool.{cases_lt, ltb-false, ltb-true, le-ltb, lt-ltb}
use Rattle.std.proofs.lemmas.List.{take_at, drop_at, drop-drop, take-append-drop, length-append, length-take, length-drop, get_or-drop, get_or-take, get_or_past}
use Rattle.std.proofs.lemmas.Nat.{be_bytes_4, be_bytes_8, from_be_bytes-to_be_bytes_4, from_be_bytes-to_be_bytes_8}
use Rattle.std.proofs.lemmas.Int.{to_z-of_z, of_z-to_z}
use Rattle.std.proofs.Math.Facts.{sfits_to_z, Fits-of_z, Fits-of_lt}
use Rattle.wc_value.specs.declared.refusal.ValueError.{ValueError}
use Rattle.wc_value.specs.declared.refusal.ValueError.TheVariants.{Truncated, NotUtf8}
use Rattle.wc_value.specs.Spelling.{text}
use Rattle.wc_value.specs.Spells.{IsText}
use Rattle.wc_value.specs.Reading.{◌>>=◌, bytes_at, byte_at, u32_at, i64_at, content_at, checked, text_at}

abbrev pub IsBytes : List ℕ → Type 0
IsBytes bytes = (i : ℕ) → get_or bytes i 0 < 256

IsBytes-drop : (n : ℕ) (bytes : List ℕ) → IsBytes bytes → IsBytes (drop n bytes)
IsBytes-drop n bytes h i = rw get_or-drop (h (n + i))

IsBytes-take : (n : ℕ) (bytes : List ℕ) → IsBytes bytes → IsBytes (take n bytes)
IsBytes-take n bytes h i =
    elim (cases_lt i n) [
      | inl lt ↦ rw (get_or-take n bytes i 0 lt) (h i)
      | inr le ↦ rw (get_or_past (take n bytes) i 0 (omega (arith, length-take n bytes))) (omega arith)
    ]

-- the value of a step that did not fail
pub bind_ok : {A B : Type 0} (r : Result A ValueError) (f : A → Result B ValueError) (y : B) → (r >>= f) ≡ Ok y → (x : A) × (r ≡ Ok x) × (f x ≡ Ok y)
bind_ok (Ok x) f y e = (x, refl, e)
bind_ok (Err d) f y e = absurd cc

-- a test that did not fail, and one that did not refuse
pub guard_ok : {A : Type 0} (b : Bool) (d : ValueError) (x y : A) → cond b (Err d) (Ok x) ≡ Ok y → (b ≡ false) × (x ≡ y)
guard_ok true d x y e = absurd cc
guard_ok false d x y e = (refl, cc)

pub pass_ok : {A : Type 0} (b : Bool) (d : ValueError) (x y : A) → cond b (Ok x) (Err d) ≡ Ok y → (b ≡ true) × (x ≡ y)
pass_ok true d x y e = (refl, cc)
pass_ok false d x y e = absurd cc

abbrev done : {A : Type 0} → A → Result A ValueError
done x = Ok x

pub ok_is : {A : Type 0} (x y : A) → done x ≡ done y → x ≡ y
ok_is x y e = cc

-- The bytes b stand at a place, up to the place next.
pub record Covers (bytes : List ℕ) (at : ℕ) (b : List ℕ) (next : ℕ) : Type 0 where
  pub parts : drop at bytes ≡ b ++ drop next bytes
  pub next_is : next ≡ at + length b
  pub within : next ≤ length bytes

pub covers_join : (bytes b c : List ℕ) (at mid next : ℕ) → Covers bytes at b mid → Covers bytes mid c next → Covers bytes at (b ++ c) next
covers_join bytes b c at mid next p q = record {
  parts = p.parts ∙ ap (λ l. b ++ l) q.parts ∙ sym (append_assoc b c (drop next bytes));
  next_is = let e = p.next_is in let f = q.next_is in omega (arith, length-append b c);
  within = q.within;
}

pub covers_first : (bytes b c : List ℕ) (at next : ℕ) → Covers bytes at (b ++ c) next → Covers bytes at b (at + length b)
covers_first bytes b c at next p =
    let whole : drop at bytes ≡ b ++ (c ++ drop next bytes) = p.parts ∙ append_assoc b c (drop next bytes) in
    let rest : drop (at + length b) bytes ≡ c ++ drop next bytes = sym (drop-drop (length b) at bytes) ∙ ap (drop (length b)) whole ∙ drop_at b (c ++ drop next bytes) (length b) refl in
    record {
      parts = whole ∙ ap (λ l. b ++ l) (sym rest);
      next_is = refl;
      within = let e = p.next_is in let f = p.within in omega (arith, length-append b c);
    }

pub covers_second : (bytes b c : List ℕ) (at next : ℕ) → Covers bytes at (b ++ c) next → Covers bytes (at + length b) c next
covers_second bytes b c at next p =
    let whole : drop at bytes ≡ b ++ (c ++ drop next bytes) = p.parts ∙ append_assoc b c (drop next bytes) in
    record {
      parts = sym (drop-drop (length b) at bytes) ∙ ap (drop (length b)) whole ∙ drop_at b (c ++ drop next bytes) (length b) refl;
      next_is = let e = p.next_is in omega (arith, length-append b c);
      within = p.within;
    }

-- ---- bytes
pub bytes_again : (n : ℕ) (bytes b : List ℕ) (at next : ℕ) → length b ≡ n → Covers bytes at b next → bytes_at n bytes at ≡ Ok (b, next)
bytes_again n bytes b at next len p =
    let e = p.next_is in let f = p.within in
    let long : ltb (length bytes - at) n ≡ false = le-ltb _ _ (omega arith) in
    let taken : take n (drop at bytes) ≡ b = ap (take n) p.parts ∙ take_at b (drop next bytes) n len in
    let ends : at + n ≡ next = omega arith in
    rw long (λ i. Ok (taken i, ends i))

pub bytes_take : (n : ℕ) (bytes b : List ℕ) (at next : ℕ) → at ≤ length bytes → bytes_at n bytes at ≡ Ok (b, next) → Covers bytes at b next × (length b ≡ n)
bytes_take n bytes b at next h e =
    let g = guard_ok (ltb (length bytes - at) n) (Truncated (length bytes)) (take n (drop at bytes), at + n) (b, next) e in
    let long : n ≤ length bytes - at = ltb-false _ _ g.0 in
    let b-is : take n (drop at bytes) ≡ b = ap (λ (x : List ℕ × ℕ). x.0) g.1 in
    let next-is : at + n ≡ next = ap (λ (x : List ℕ × ℕ). x.1) g.1 in
    let len : length b ≡ n = ap length (sym b-is) ∙ omega (arith, length-take n (drop at bytes), length-drop at bytes) in (
      record {
        parts = sym (take-append-drop n (drop at bytes)) ∙ (λ i. b-is i ++ (drop-drop n at bytes ∙ ap (λ k. drop k bytes) next-is) i);
        next_is = omega arith;
        within = omega arith;
      },
      len,
    )

pub byte_again : (bytes : List ℕ) (x at : ℕ) → Covers bytes at (x ∷ []) (at + 1) → byte_at bytes at ≡ Ok x
byte_again bytes x at p =
    let f = p.within in
    let inside : ltb at (length bytes) ≡ true = lt-ltb _ _ (omega arith) in
    let is : get_or bytes at 0 ≡ x = let z : at ≡ at + 0 = omega arith in ap (λ k. get_or bytes k 0) z ∙ sym (get_or-drop at bytes 0 0) ∙ ap (λ l. get_or l 0 0) p.parts in
    rw inside (ap Ok is)

pub byte_take : (bytes : List ℕ) (x at : ℕ) → byte_at bytes at ≡ Ok x → Covers bytes at (x ∷ []) (at + 1)
byte_take bytes x at e =
    let g = pass_ok (ltb at (length bytes)) (Truncated (length bytes)) (slice_index bytes at) x e in
    let inside : at < length bytes = ltb-true _ _ g.0 in
    record { parts = rw (add-one, drop-cons bytes at 0) (ap (λ y. y ∷ drop (suc at) bytes) g.1); next_is = refl; within = omega arith }

-- ---- numbers
u32_back : (bytes : List ℕ) → length bytes ≡ 4 → IsBytes bytes → to_be_bytes w32 (from_be_bytes w32 bytes) ≡ bytes
u32_back bytes len fits = be_bytes_4 bytes _ len fits refl

u32_below : (bytes : List ℕ) → IsBytes bytes → from_be_bytes w32 bytes < 2 ^ 32
u32_below bytes fits = omega (arith, fits 0, fits 1, fits 2, fits 3)

u64_back : (bytes : List ℕ) → length bytes ≡ 8 → IsBytes bytes → to_be_bytes w64 (from_be_bytes w64 bytes) ≡ bytes
u64_back bytes len fits = be_bytes_8 bytes _ len fits refl

u64_below : (bytes : List ℕ) → IsBytes bytes → from_be_bytes w64 bytes < 2 ^ 64
u64_below bytes fits = omega (arith, fits 0, fits 1, fits 2, fits 3, fits 4, fits 5, fits 6, fits 7)

-- bytes that stand in bytes are bytes
covered_fit : (bytes b : List ℕ) (at next : ℕ) → IsBytes bytes → Covers bytes at b next → IsBytes b
covered_fit bytes b at next fits p =
    subst IsBytes (ap (take (length b)) p.parts ∙ take_at b (drop next bytes) (length b) refl) (IsBytes-take (length b) (drop at bytes) (IsBytes-drop at bytes fits))

pub u32_again : (bytes : List ℕ) (n at next : ℕ) → n < 2 ^ 32 → Covers bytes at (to_be_bytes w32 n) next → u32_at bytes at ≡ Ok (n, next)
u32_again bytes n at next lt p =
    ap (λ r. r >>= (λ x. Ok (from_be_bytes w32 x.0, x.1))) (bytes_again 4 bytes (to_be_bytes w32 n) at next refl p) ∙ ap (λ m. Ok (m, next)) (from_be_bytes-to_be_bytes_4 n lt)

pub u32_take : (bytes : List ℕ) (n at next : ℕ) → IsBytes bytes → at ≤ length bytes → u32_at bytes at ≡ Ok (n, next) → Covers bytes at (to_be_bytes w32 n) next × (n < 2 ^ 32)
u32_take bytes n at next fits h e =
    let r = bind_ok (bytes_at 4 bytes at) (λ x. Ok (from_be_bytes w32 x.0, x.1)) (n, next) e in
    let t = bytes_take 4 bytes r.0.0 at r.0.1 h r.1 in
    let b_fits = covered_fit bytes r.0.0 at r.0.1 fits t.0 in
    let same : (from_be_bytes w32 r.0.0, r.0.1) ≡ (n, next) = ok_is _ _ r.2 in
    let digits : to_be_bytes w32 (from_be_bytes w32 r.0.0) ≡ r.0.0 = u32_back r.0.0 t.1 b_fits in
    subst (λ (x : ℕ × ℕ). Covers bytes at (to_be_bytes w32 x.0) x.1 × (x.0 < 2 ^ 32)) same
    (subst (λ l. Covers bytes at l r.0.1) (sym digits) t.0, u32_below r.0.0 b_fits)

pub i64_again : (bytes : List ℕ) (n : ℤ) (at next : ℕ) → FitsSigned w64 n → Covers bytes at (to_be_bytes w64 (cast_unsigned w64 n)) next → i64_at bytes at ≡ Ok (n, next)
i64_again bytes n at next h p =
    ap (λ r. r >>= (λ x. Ok (cast_signed w64 (from_be_bytes w64 x.0), x.1))) (bytes_again 8 bytes (to_be_bytes w64 (cast_unsigned w64 n)) at next refl p)
    ∙ ap (λ m. Ok (cast_signed w64 m, next)) (from_be_bytes-to_be_bytes_8 (cast_unsigned w64 n) (Fits-of_z {w = w64} {z = n} h).fits)
    ∙ ap (λ m. Ok (m, next)) (to_z-of_z w64 n h)

pub i64_take : (bytes : List ℕ) (n : ℤ) (at next : ℕ) → IsBytes bytes → at ≤ length bytes → i64_at bytes at ≡ Ok (n, next)
    → Covers bytes at (to_be_bytes w64 (cast_unsigned w64 n)) next × FitsSigned w64 n
i64_take bytes n at next fits h e =
    let r = bind_ok (bytes_at 8 bytes at) (λ x. Ok (cast_signed w64 (from_be_bytes w64 x.0), x.1)) (n, next) e in
    let t = bytes_take 8 bytes r.0.0 at r.0.1 h r.1 in
    let b_fits = covered_fit bytes r.0.0 at r.0.1 fits t.0 in
    let same : (cast_signed w64 (from_be_bytes w64 r.0.0), r.0.1) ≡ (n, next) = ok_is _ _ r.2 in
    let below = u64_below r.0.0 b_fits in
    let digits : to_be_bytes w64 (cast_unsigned w64 (cast_signed w64 (from_be_bytes w64 r.0.0))) ≡ r.0.0
    = ap (to_be_bytes w64) (of_z-to_z w64 (from_be_bytes w64 r.0.0) below) ∙ u64_back r.0.0 t.1 b_fits in
    subst (λ (x : ℤ × ℕ). Covers bytes at (to_be_bytes w64 (cast_unsigned w64 x.0)) x.1 × FitsSigned w64 x.0) same
    (subst (λ l. Covers bytes at l r.0.1) (sym digits) t.0, sfits_to_z (Fits-of_lt {w = w64} below))

-- ---- contents and texts
pub content_again : (bytes c : List ℕ) (at next : ℕ) → length c < 2 ^ 32 → Covers bytes at (text c) next → content_at bytes at ≡ Ok (c, next)
content_again bytes c at next lt p =
    let first = covers_first bytes (to_be_bytes w32 (length c)) c at next p in
    let second = covers_second bytes (to_be_bytes w32 (length c)) c at next p in
    ap (λ r. r >>= (λ n. bytes_at n.0 bytes n.1)) (u32_again bytes (length c) at (at + 4) lt first) ∙ bytes_again (length c) bytes c (at + 4) next refl second

pub content_take : (bytes c : List ℕ) (at next : ℕ) → IsBytes bytes → at ≤ length bytes → content_at bytes at ≡ Ok (c, next) → Covers bytes at (text c) next × (length c < 2 ^ 32)
content_take bytes c at next fits h e =
    let r = bind_ok (u32_at bytes at) (λ n. bytes_at n.0 bytes n.1) (c, next) e in
    let t = u32_take bytes r.0.0 at r.0.1 fits h r.1 in
    let b = bytes_take r.0.0 bytes c r.0.1 next t.0.within r.2 in
    let first : Covers bytes at (to_be_bytes w32 (length c)) r.0.1 = subst (λ k. Covers bytes at (to_be_bytes w32 k) r.0.1) (sym b.1) t.0 in
    (covers_join bytes (to_be_bytes w32 (length c)) c at r.0.1 next first b.0, let l = b.1 in let k = t.1 in omega arith)

pub text_again : (bytes t : List ℕ) (at next : ℕ) → IsText t → Covers bytes at (text t) next → text_at bytes at ≡ Ok (t, next)
text_again bytes t at next h p =
    ap (λ r. r >>= checked at) (content_again bytes t at next h.1 p) ∙ ap (λ (b : Bool). cond b (Ok (t, next)) (Err (NotUtf8 (at + 4)))) h.0

pub text_take : (bytes t : List ℕ) (at next : ℕ) → IsBytes bytes → at ≤ length bytes → text_at bytes at ≡ Ok (t, next) → Covers bytes at (text t) next × IsText t
text_take bytes t at next fits h e =
    let r = bind_ok (content_at bytes at) (checked at) (t, next) e in
    let c = content_take bytes r.0.0 at r.0.1 fits h r.1 in
    let g = pass_ok (is_utf8 r.0.0) (NotUtf8 (at + 4)) r.0 (t, next) r.2 in
    subst (λ (x : List ℕ × ℕ). Covers bytes at (text x.0) x.1 × IsText x.0) g.1 (c.0, (g.0, c.1))
