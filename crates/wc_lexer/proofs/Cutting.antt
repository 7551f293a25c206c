-- The tokens that are read are those of the text: each is spelled at its offset, between them stand separators and
-- comments alone, and no longer token begins at their offsets.
use Rattle.std.proofs.Common.{◌≡◌, ℕ, zero, suc, ◌+◌, ◌-◌, List, [], ◌∷◌, ◌++◌, length, take, drop, Bool, true, false, Some, None, Result, Ok, Err, refl, sym, ap, ◌∙◌, subst, arith, append_assoc, if◌then◌else◌, length-append, ◌⊎◌, inl, inr, ⊎_elim}
use Rattle.std.specs.Prelude.{◌==◌, not, cond, IsSome, IfOk}
use Rattle.std.specs.List.{prefix_len, take_while}
use Rattle.std.proofs.lemmas.Bool.{eqb-true}
use Rattle.std.proofs.lemmas.List.{take-append-drop, drop-drop, length-take-le, drop_at}
use Rattle.std.proofs.lemmas.List.Sums.{prefix_len-le-length}
use Rattle.wc_lexer.specs.declared.token.Token.{Token}
use Rattle.wc_lexer.specs.declared.error.LexError.{LexError}
use Rattle.wc_lexer.specs.Tokens.{Gives, ◌>>=◌, joined, is_separator, is_in_line, token_at, as_some, piece_at, kept_at, tokens_from, tokens_of}
use Rattle.wc_lexer.specs.Cuts.{comment_after, AreTokens}
use Rattle.wc_lexer.proofs.Places.{skip}
use Rattle.wc_lexer.proofs.Longest.{Stands, token_stands}

abbrev pub Toks : Type 0
Toks = List (Token × ℕ)

pub joined_nil : (r : Result Toks LexError) → joined [] r ≡ r
joined_nil (Ok xs) = refl
joined_nil (Err e) = refl

-- ---- separators and comments in front
-- what stands in front of bytes is passed first
comment_append : (xs ys : List ℕ) (e f : Bool) → comment_after e xs ≡ Some f → comment_after e (xs ++ ys) ≡ comment_after f ys
comment_append [] ys e f h = let q : e ≡ f = cc in ap (λ (z : Bool). comment_after z ys) q
comment_append (x ∷ xs) ys true f h = comment_append xs ys (not (x == 10)) f h
comment_append (x ∷ xs) ys false f h = passed x xs ys f (is_separator x) (x == 35) (comment_append xs ys false f) (comment_append xs ys true f) h
  where
    passed : (x : ℕ) (xs ys : List ℕ) (f a b : Bool) → (comment_after false xs ≡ Some f → comment_after false (xs ++ ys) ≡ comment_after f ys) → (comment_after true xs ≡ Some f → comment_after true (xs ++ ys) ≡ comment_after f ys)
        → (if a then comment_after false xs else (if b then comment_after true xs else None)) ≡ Some f → (if a then comment_after false (xs ++ ys) else (if b then comment_after true (xs ++ ys) else None)) ≡ comment_after f ys
    passed x xs ys f true b k l h = k h
    passed x xs ys f false true k l h = l h
    passed x xs ys f false false k l h = absurd (cc)

-- behind separators and whole comments
moved : (at : ℕ) (gap rest : List ℕ) (ts : Toks) → comment_after false gap ≡ Some false → AreTokens (at + length gap) rest ts → AreTokens at (gap ++ rest) ts
moved at gap rest [] h k = subst IsSome (sym (comment_append gap rest false false h)) k
moved at gap rest (t ∷ ts) h k =
    let n = k.2.0 in (
      k.0,
      k.1,
      (
        record {
          gap = gap ++ n.gap;
          splits = ap (λ z. gap ++ z) n.splits ∙ sym (append_assoc gap n.gap (k.0 ++ k.1));
          between = comment_append gap n.gap false false h ∙ n.between;
          here = n.here ∙ (let q : at + length gap + length n.gap ≡ at + length (gap ++ n.gap) = omega (arith, length-append gap n.gap) in q);
          spells = n.spells;
          fits = n.fits;
          longest = n.longest;
        },
        k.2.1,
      ),
    )

-- ---- a comment
-- the rest of a line leaves the comment open
line_open : (bs : List ℕ) → comment_after true (take_while is_in_line bs) ≡ Some true
line_open [] = refl
line_open (b ∷ bs) = line_at b bs (b == 10) refl (line_open bs)
  where
    line_at : (b : ℕ) (bs : List ℕ) (x : Bool) → (b == 10) ≡ x → comment_after true (take_while is_in_line bs) ≡ Some true → comment_after true (take (cond (not x) (1 + prefix_len is_in_line bs) 0) (b ∷ bs)) ≡ Some true
    line_at b bs true e k = refl
    line_at b bs false e k =
        let q : suc (prefix_len is_in_line bs) ≡ 1 + prefix_len is_in_line bs = omega arith in
        subst (λ (m : ℕ). comment_after true (take m (b ∷ bs)) ≡ Some true) q (ap (λ (z : Bool). comment_after (not z) (take_while is_in_line bs)) e ∙ k)

-- the line's end stands behind it, or nothing
line_stops : (bs : List ℕ) → (drop (prefix_len is_in_line bs) bs ≡ []) ⊎ ((after : List ℕ) × (drop (prefix_len is_in_line bs) bs ≡ 10 ∷ after))
line_stops [] = inl refl
line_stops (b ∷ bs) = line_at b bs (b == 10) refl (line_stops bs)
  where
    line_at : (b : ℕ) (bs : List ℕ) (x : Bool) → (b == 10) ≡ x → (drop (prefix_len is_in_line bs) bs ≡ []) ⊎ ((after : List ℕ) × (drop (prefix_len is_in_line bs) bs ≡ 10 ∷ after))
        → (drop (cond (not x) (1 + prefix_len is_in_line bs) 0) (b ∷ bs) ≡ []) ⊎ ((after : List ℕ) × (drop (cond (not x) (1 + prefix_len is_in_line bs) 0) (b ∷ bs) ≡ 10 ∷ after))
    line_at b bs true e k = inr (bs, ap (λ (z : ℕ). z ∷ bs) (eqb-true b 10 e))
    line_at b bs false e k =
        let q : suc (prefix_len is_in_line bs) ≡ 1 + prefix_len is_in_line bs = omega arith in
        subst (λ (m : ℕ). (drop m (b ∷ bs) ≡ []) ⊎ ((after : List ℕ) × (drop m (b ∷ bs) ≡ 10 ∷ after))) q k

-- ---- all of the bytes
-- what is shown of the bytes behind the next one
abbrev Below : ℕ → List ℕ → Type 0
Below at bs = (n : ℕ) (ts : Toks) → tokens_from n (at + 1) bs ≡ Ok ts → AreTokens (at + 1 + n) (drop n bs) ts

same_tokens : (us ts : Toks) → (let r : Result Toks LexError = Ok us in r) ≡ Ok ts → us ≡ ts
same_tokens us ts h = cc

past_separator : (at b : ℕ) (bs : List ℕ) (ts : Toks) → Below at bs → is_separator b ≡ true → joined [] (tokens_from (at + 1 - (at + 1)) (at + 1) bs) ≡ Ok ts → AreTokens at (b ∷ bs) ts
past_separator at b bs ts below e h =
    let z : at + 1 - (at + 1) ≡ zero = omega arith in
    let n : at + 1 + 0 ≡ at + 1 = omega arith in
    let k = below 0 ts (ap (λ (m : ℕ). tokens_from m (at + 1) bs) (sym z) ∙ sym (joined_nil (tokens_from (at + 1 - (at + 1)) (at + 1) bs)) ∙ h) in
    moved at (b ∷ []) bs ts (ap (λ (x : Bool). if x then Some false else (if b == 35 then Some true else None)) e) (subst (λ (m : ℕ). AreTokens m bs ts) n k)

-- a comment at the end of the text
last_comment : (at : ℕ) (bs : List ℕ) (ts : Toks) → drop (prefix_len is_in_line bs) bs ≡ [] → tokens_from (prefix_len is_in_line bs) (at + 1) bs ≡ Ok ts → AreTokens at (35 ∷ bs) ts
last_comment at bs ts e h =
    let m = prefix_len is_in_line bs in
    let none : [] ≡ ts = same_tokens [] ts (ap (λ z. tokens_from 0 (at + 1 + m) z) (sym e) ∙ sym (skip m (at + 1) bs) ∙ h) in
    let open_still : comment_after true bs ≡ Some true
    = ap (comment_after true) (sym (take-append-drop m bs) ∙ ap (λ z. take m bs ++ z) e) ∙ comment_append (take_while is_in_line bs) [] true true (line_open bs) in
    subst (AreTokens at (35 ∷ bs)) none (subst IsSome (sym open_still) refl)

-- a comment and the end of its line
whole_comment : (at : ℕ) (bs after : List ℕ) (ts : Toks) → Below at bs → drop (prefix_len is_in_line bs) bs ≡ 10 ∷ after → tokens_from (prefix_len is_in_line bs) (at + 1) bs ≡ Ok ts → AreTokens at (35 ∷ bs) ts
unfolding piece_at
whole_comment at bs after ts below e h =
    let m = prefix_len is_in_line bs in
    let here = at + 1 + m in
    let z : here + 1 - (here + 1) ≡ zero = omega arith in
    let k : tokens_from 0 here (10 ∷ after) ≡ Ok ts = ap (λ w. tokens_from 0 here w) (sym e) ∙ sym (skip m (at + 1) bs) ∙ h in
    let behind : tokens_from 0 (here + 1) after ≡ Ok ts = ap (λ (n : ℕ). tokens_from n (here + 1) after) (sym z) ∙ sym (joined_nil (tokens_from (here + 1 - (here + 1)) (here + 1) after)) ∙ k in
    let left : drop (m + 1) bs ≡ after = sym (drop-drop 1 m bs) ∙ ap (drop 1) e in
    let place : at + 1 + (m + 1) ≡ here + 1 = omega arith in
    let further : tokens_from (m + 1) (at + 1) bs ≡ Ok ts
    = skip (m + 1) (at + 1) bs ∙ ap (λ w. tokens_from 0 (at + 1 + (m + 1)) w) left ∙ ap (λ (n : ℕ). tokens_from 0 n after) place ∙ behind in
    let gap = 35 ∷ (take m bs ++ 10 ∷ []) in
    let size : at + 1 + (m + 1) ≡ at + length gap = omega (arith, length-append (take m bs) (10 ∷ []), length-take-le m bs (prefix_len-le-length is_in_line bs)) in
    let splits : 35 ∷ bs ≡ gap ++ after
    = ap (λ w. 35 ∷ w) (sym (take-append-drop m bs) ∙ ap (λ w. take m bs ++ w) e ∙ sym (append_assoc (take m bs) (10 ∷ []) after)) in
    subst (λ w. AreTokens at w ts) (sym splits)
    (moved at gap after ts (comment_append (take_while is_in_line bs) (10 ∷ []) true true (line_open bs))
    (subst (λ (n : ℕ). AreTokens n after ts) size (subst (λ w. AreTokens (at + 1 + (m + 1)) w ts) left (below (m + 1) ts further))))

past_comment : (at : ℕ) (bs : List ℕ) (ts : Toks) → Below at bs → joined [] (tokens_from (at + prefix_len is_in_line (35 ∷ bs) - (at + 1)) (at + 1) bs) ≡ Ok ts → AreTokens at (35 ∷ bs) ts
past_comment at bs ts below h =
    let m = prefix_len is_in_line bs in
    let z : m ≡ at + (1 + m) - (at + 1) = omega arith in
    let k : tokens_from m (at + 1) bs ≡ Ok ts = ap (λ (n : ℕ). tokens_from n (at + 1) bs) z ∙ sym (joined_nil (tokens_from (at + (1 + m) - (at + 1)) (at + 1) bs)) ∙ h in
    ⊎_elim (λ e. last_comment at bs ts e k) (λ e. whole_comment at bs e.0 ts below e.1 k) (line_stops bs)

-- a token, and those behind it
first_token : (at b : ℕ) (bs : List ℕ) (t : Token) (end : ℕ) (us : Toks) → Stands at (b ∷ bs) t end → AreTokens (at + 1 + (end - (at + 1))) (drop (end - (at + 1)) bs) us → AreTokens at (b ∷ bs) ((t, at) ∷ us)
first_token at b bs t end us s k =
    let n : suc (end - (at + 1)) ≡ length s.lexeme = omega (arith, s.ends, s.some) in
    let place : at + 1 + (end - (at + 1)) ≡ at + length s.lexeme = omega (arith, s.ends, s.some) in
    let left : drop (end - (at + 1)) bs ≡ s.rest = ap (λ (m : ℕ). drop m (b ∷ bs)) n ∙ ap (drop (length s.lexeme)) s.splits ∙ drop_at s.lexeme s.rest (length s.lexeme) refl in
    let here : at ≡ at + 0 = omega arith in (
      s.lexeme,
      s.rest,
      (
        record { gap = []; splits = s.splits; between = refl; here = here; spells = s.spells; fits = s.fits; longest = s.longest },
        subst (λ (m : ℕ). AreTokens m s.rest us) place (subst (λ w. AreTokens (at + 1 + (end - (at + 1))) w us) left k),
      ),
    )

past_token : (at b : ℕ) (bs : List ℕ) (t : Token) (end : ℕ) (ts : Toks) → Below at bs → Stands at (b ∷ bs) t end
    → (r : Result Toks LexError) → tokens_from (end - (at + 1)) (at + 1) bs ≡ r → joined ((t, at) ∷ []) r ≡ Ok ts → AreTokens at (b ∷ bs) ts
past_token at b bs t end ts below s (Err e) i h = absurd (cc)
past_token at b bs t end ts below s (Ok us) i h = subst (AreTokens at (b ∷ bs)) (same_tokens ((t, at) ∷ us) ts h) (first_token at b bs t end us s (below (end - (at + 1)) us i))

if_token : (at b : ℕ) (bs : List ℕ) (ts : Toks) → Below at bs → (r : Result (Token × ℕ) LexError) → token_at at (b ∷ bs) ≡ r
    → ((r >>= as_some) >>= (λ p. joined (kept_at at p.0) (tokens_from (p.1 - (at + 1)) (at + 1) bs))) ≡ Ok ts → AreTokens at (b ∷ bs) ts
if_token at b bs ts below (Err e) i h = absurd (cc)
if_token at b bs ts below (Ok x) i h = past_token at b bs x.0 x.1 ts below (token_stands at b bs x.0 x.1 i) (tokens_from (x.1 - (at + 1)) (at + 1) bs) refl h

by_byte : (at b : ℕ) (bs : List ℕ) (ts : Toks) → Below at bs → (x y : Bool) → is_separator b ≡ x → (b == 35) ≡ y
    → ((if x then Ok (None, at + 1) else (if y then Ok (None, at + prefix_len is_in_line (b ∷ bs)) else (token_at at (b ∷ bs) >>= as_some))) >>= (λ p. joined (kept_at at p.0) (tokens_from (p.1 - (at + 1)) (at + 1) bs))) ≡ Ok ts
    → AreTokens at (b ∷ bs) ts
by_byte at b bs ts below true y e f h = past_separator at b bs ts below e h
by_byte at b bs ts below false true e f h =
    let q = eqb-true b 35 f in
    subst (λ (z : ℕ). AreTokens at (z ∷ bs) ts) (sym q)
    (past_comment at bs ts below (ap (λ (z : ℕ). joined [] (tokens_from (at + prefix_len is_in_line (z ∷ bs) - (at + 1)) (at + 1) bs)) (sym q) ∙ h))
by_byte at b bs ts below false false e f h = if_token at b bs ts below (token_at at (b ∷ bs)) refl h

sound : (bs : List ℕ) (n at : ℕ) (ts : Toks) → tokens_from n at bs ≡ Ok ts → AreTokens (at + n) (drop n bs) ts
unfolding piece_at
sound [] zero at ts h = subst (AreTokens (at + 0) []) (same_tokens [] ts h) refl
sound [] (suc n) at ts h = subst (AreTokens (at + suc n) []) (same_tokens [] ts h) refl
sound (b ∷ bs) (suc n) at ts h = let e : at + 1 + n ≡ at + suc n = omega arith in subst (λ (m : ℕ). AreTokens m (drop n bs) ts) e (sound bs n (at + 1) ts h)
sound (b ∷ bs) zero at ts h =
    let e : at ≡ at + 0 = omega arith in
    subst (λ (m : ℕ). AreTokens m (b ∷ bs) ts) e (by_byte at b bs ts (λ n us k. sound bs n (at + 1) us k) (is_separator b) (b == 35) refl refl h)

-- the tokens that are read are the text's
cuts : (bytes : List ℕ) (ts : Toks) → tokens_of bytes ≡ Ok ts → AreTokens 0 bytes ts
cuts bytes ts h = sound bytes 0 0 ts h

-- what a call answered
pub cut_of : (bytes : List ℕ) (r : Result Toks LexError) → Gives r (tokens_of bytes) → IfOk r (λ ts. AreTokens 0 bytes ts)
cut_of bytes (Ok ts) h = cuts bytes ts h
cut_of bytes (Err e) h = tt
