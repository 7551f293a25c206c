-- A text's content is text too: escapes and what they stand for are ASCII.
use Rattle.std.proofs.Common.{◌≡◌, ℕ, suc, ◌+◌, ◌-◌, ◌<◌, ◌≤◌, List, [], ◌∷◌, ◌++◌, length, take, drop, get_or, Bool, true, false, Option, Some, None, Result, Ok, Err, refl, sym, ap, ◌∙◌, subst, arith, inl, inr, if◌then◌else◌}
use Rattle.std.specs.Prelude.{◌==◌}
use Rattle.std.specs.Str.{IsUtf8}
use Rattle.std.proofs.Math.Utf8.{scalar, low_scalar, scalars, encode, encodes}
use Rattle.std.proofs.lemmas.Bool.{cases_lt, and_parts, ne_eqb}
use Rattle.std.proofs.lemmas.List.{append-nil}
use Rattle.std.proofs.lemmas.Str.{IsUtf8-nil, IsUtf8-append, IsUtf8-encode, IsUtf8-between, IsCharBoundary-after_ascii, IsCharBoundary-before_ascii, encode_ascii, inside_one, len_utf8_bounds, length-encode}
use Rattle.wc_lexer.specs.declared.error.LexError.{LexError}
use Rattle.wc_lexer.specs.Tokens.{joined, escaped, unescaped, unescaped_as}

joined_nil : {X : Type 0} (r : Result (List X) LexError) → joined [] r ≡ r
joined_nil (Ok xs) = refl
joined_nil (Err e) = refl

joined_cons : {X : Type 0} (x : X) (xs : List X) (r : Result (List X) LexError) → joined (x ∷ []) (joined xs r) ≡ joined (x ∷ xs) r
joined_cons x xs (Ok ys) = refl
joined_cons x xs (Err e) = refl

-- ---- ASCII
if_some : (t : Bool) (a : ℕ) (o : Option ℕ) (b : ℕ) → a < 128 → (o ≡ Some b → b < 128) → (if t then Some a else o) ≡ Some b → b < 128
if_some true a o b h k e = let q : a ≡ b = cc in omega arith
if_some false a o b h k e = k e

escaped_ascii : (c b : ℕ) → escaped c ≡ Some b → b < 128
escaped_ascii c b = if_some (c == 110) 10 _ b (omega arith) (if_some (c == 116) 9 _ b (omega arith) (if_some (c == 34) 34 _ b (omega arith) (if_some (c == 92) 92 None b (omega arith) (λ e. absurd (cc)))))

if_none : (c k a : ℕ) (o : Option ℕ) → 128 ≤ c → k < 128 → o ≡ None → (if c == k then Some a else o) ≡ None
if_none c k a o h l e = ap (λ (t : Bool). if t then Some a else o) (ne_eqb c k (λ q. absurd (omega arith))) ∙ e

no_escape : (c : ℕ) → 128 ≤ c → escaped c ≡ None
no_escape c h = if_none c 110 10 _ h (omega arith) (if_none c 116 9 _ h (omega arith) (if_none c 34 34 _ h (omega arith) (if_none c 92 92 None h (omega arith) refl)))

one_utf8 : (b : ℕ) → b < 128 → IsUtf8 (b ∷ [])
one_utf8 b h = subst IsUtf8 (encode_ascii b h) (IsUtf8-encode b (low_scalar b (omega arith)))

-- ---- what stands in front of text
before_text : (front : List ℕ) (r : Result (List ℕ) LexError) (content : List ℕ) → IsUtf8 front → ((ds : List ℕ) → r ≡ Ok ds → IsUtf8 ds) → joined front r ≡ Ok content → IsUtf8 content
before_text front (Ok ds) content u k e = let q : front ++ ds ≡ content = cc in subst IsUtf8 q (IsUtf8-append front ds u (k ds refl))
before_text front (Err d) content u k e = absurd (cc)

-- ---- bytes of a character that isn't ASCII stay
plain : (xs : List ℕ) → ((k : ℕ) → k < length xs → 128 ≤ get_or xs k 0) → (at : ℕ) (rest : List ℕ) → unescaped at false (xs ++ rest) ≡ joined xs (unescaped (at + length xs) false rest)
plain [] h at rest = let e : at ≡ at + 0 = omega arith in ap (λ (n : ℕ). unescaped n false rest) e ∙ sym (joined_nil _)
plain (x ∷ xs) h at rest =
    let p : 128 ≤ x = h 0 (omega arith) in
    let e : at + 1 + length xs ≡ at + suc (length xs) = omega arith in
    ap (λ (t : Bool). if t then unescaped (at + 1) true (xs ++ rest) else joined (x ∷ []) (unescaped (at + 1) false (xs ++ rest))) (ne_eqb x 92 (λ q. absurd (omega arith)))
    ∙ ap (joined (x ∷ [])) (plain xs (λ k l. h (suc k) (omega arith)) (at + 1) rest ∙ ap (λ (n : ℕ). joined xs (unescaped n false rest)) e)
    ∙ joined_cons x xs _

high : (c : ℕ) → 128 ≤ c → (k : ℕ) → k < length (encode c) → 128 ≤ get_or (encode c) k 0
high c h k l = elim (cases_lt (get_or (encode c) k 0) 128) [
  | inl b ↦ (let e : c ≡ get_or (encode c) k 0 = inside_one c [] (encode c) k (sym (append-nil (encode c))) l b in absurd (omega arith))
  | inr b ↦ b
]

-- the first byte of a character that isn't ASCII begins no escape
no_escape_at : (c : ℕ) (xs rest : List ℕ) → encode c ≡ xs → 0 < length xs → 128 ≤ c → (at : ℕ) (content : List ℕ) → unescaped at true (xs ++ rest) ≡ Ok content → ⊥
no_escape_at c [] rest e l h at content q = absurd (omega arith)
no_escape_at c (x ∷ xs) rest e l h at content q =
    let b : 128 ≤ x = subst (λ (z : List ℕ). 128 ≤ get_or z 0 0) e (high c h 0 (subst (λ (z : List ℕ). 0 < length z) (sym e) l)) in
    let k : unescaped_as at None (unescaped (at + 1) false (xs ++ rest)) ≡ Ok content = ap (λ o. unescaped_as at o (unescaped (at + 1) false (xs ++ rest))) (sym (no_escape x b)) ∙ q in
    absurd (cc)

escape_text : (c : ℕ) (o : Option ℕ) → escaped c ≡ o → (at : ℕ) (r : Result (List ℕ) LexError) (content : List ℕ) → ((ds : List ℕ) → r ≡ Ok ds → IsUtf8 ds)
    → unescaped_as at o r ≡ Ok content → IsUtf8 content
escape_text c (Some b) e at r content k h = before_text (b ∷ []) r content (one_utf8 b (escaped_ascii c b e)) k h
escape_text c None e at r content k h = absurd (cc)

step_text : (c : ℕ) → c < 128 → (b : Bool) (r s : Result (List ℕ) LexError) (content : List ℕ) → ((ds : List ℕ) → r ≡ Ok ds → IsUtf8 ds) → ((ds : List ℕ) → s ≡ Ok ds → IsUtf8 ds)
    → (if b then r else joined (c ∷ []) s) ≡ Ok content → IsUtf8 content
step_text c l true r s content k m h = k content h
step_text c l false r s content k m h = before_text (c ∷ []) s content (one_utf8 c l) m h

content_text : (cs : List ℕ) → scalars cs ≡ true → (at : ℕ) (e : Bool) (content : List ℕ) → unescaped at e (encodes cs) ≡ Ok content → IsUtf8 content
content_text [] s at e content h = let q : [] ≡ content = cc in subst IsUtf8 q IsUtf8-nil
content_text (c ∷ cs) s at true content h =
    let p = and_parts (scalar c) (scalars cs) s in
    elim (cases_lt c 128) [
      | inl l ↦ escape_text c (escaped c) refl at (unescaped (at + 1) false (encodes cs)) content (content_text cs p.1 (at + 1) false)
          (ap (λ (z : List ℕ). unescaped at true (z ++ encodes cs)) (sym (encode_ascii c l)) ∙ h)
      | inr l ↦ absurd (no_escape_at c (encode c) (encodes cs) refl (omega (arith, length-encode c, len_utf8_bounds c)) l at content h)
    ]
content_text (c ∷ cs) s at false content h =
    let p = and_parts (scalar c) (scalars cs) s in
    elim (cases_lt c 128) [
      | inl l ↦ step_text c l (c == 92) (unescaped (at + 1) true (encodes cs)) (unescaped (at + 1) false (encodes cs)) content
          (content_text cs p.1 (at + 1) true) (content_text cs p.1 (at + 1) false)
          (ap (λ (z : List ℕ). unescaped at false (z ++ encodes cs)) (sym (encode_ascii c l)) ∙ h)
      | inr l ↦ before_text (encode c) (unescaped (at + length (encode c)) false (encodes cs)) content (IsUtf8-encode c p.0)
          (content_text cs p.1 (at + length (encode c)) false) (sym (plain (encode c) (high c l) at (encodes cs)) ∙ h)
    ]

pub content_utf8 : (bs content : List ℕ) (at : ℕ) → IsUtf8 bs → unescaped at false bs ≡ Ok content → IsUtf8 content
content_utf8 bs content at u h = content_text u.0 u.1.0 at false content (ap (unescaped at false) u.1.1 ∙ h)

-- what stands between two quotes is text
pub between_quotes : (bs : List ℕ) (at end : ℕ) → IsUtf8 bs → at < length bs → end < length bs → at + 1 ≤ end → get_or bs at 0 ≡ 34 → get_or bs end 0 ≡ 34
    → IsUtf8 (take (end - (at + 1)) (drop (at + 1) bs))
between_quotes bs at end u l m n p q =
    IsUtf8-between bs (at + 1) end u n (IsCharBoundary-after_ascii bs at u l (omega arith)) (IsCharBoundary-before_ascii bs end m (omega arith))
