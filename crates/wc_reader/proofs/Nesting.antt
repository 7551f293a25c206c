-- The walk names exactly the first token that leads past a bound.
use Rattle.std.proofs.Common.{◌≡◌, ℕ, zero, suc, ◌+◌, ◌<◌, ◌≤◌, ◌↔◌, List, [], ◌∷◌, ◌++◌, Bool, true, false, if◌then◌else◌, Option, Some, None, refl, sym, ap, ◌∙◌, append_assoc, append-nil, arith, subst, ◌⊎◌, inl, inr}
use Rattle.std.specs.Prelude.{nat_lt, ◌||◌}
use Rattle.std.proofs.lemmas.Bool.{ltb-true, ltb-false, or_parts}
use Rattle.wc_lexer.specs.declared.token.Token.{Token}
use Rattle.wc_lexer.specs.declared.token.Token.TheVariants as token
use Rattle.wc_lexer.specs.declared.token.Symbol.{Symbol}
use Rattle.wc_lexer.specs.declared.token.Symbol.TheVariants as symbol
use Rattle.wc_lexer.specs.Bounds.{is_called, weight_of, ends_statement, is_open_brace, is_close_brace, is_open_bracket, is_close_bracket, opens_brace, closes_brace, opens_bracket, closes_bracket, count, called_after, weight, MoreOpen, Heavier, IsPast}
use Rattle.wc_reader.specs.declared.depth.Walk.{Walk}
use Rattle.wc_grammar.specs.Rules.{Tok}
use Rattle.wc_reader.specs.Depth.{level_after, after, start, is_past, deep_from, too_deep}
use Rattle.wc_reader.specs.Nesting.{FirstPast, SaysDeep}
use Rattle.wc_reader.proofs.Places.{Places, places}

-- ---- one token more
-- a split of tokens with one more behind them
abbrev More : (ts : List Tok) (t : Tok) (front back : List Tok) → Type 0
More ts t front back = ((back ≡ []) × (front ≡ ts ++ t ∷ [])) ⊎ ((most : List Tok) × (back ≡ most ++ t ∷ []) × (ts ≡ front ++ most))

more_behind : (x y : Tok) (ts : List Tok) (t : Tok) (front back : List Tok) → x ≡ y → More ts t front back → More (x ∷ ts) t (y ∷ front) back
more_behind x y ts t front back e (inl m) = inl (m.0, λ i. sym e i ∷ m.1 i)
more_behind x y ts t front back e (inr m) = inr (m.0, m.1, λ i. e i ∷ m.2 i)

none_of : (f back : List Tok) → [] ≡ f ++ back → (f ≡ []) × (back ≡ [])
none_of [] back e = (refl, sym e)
none_of (x ∷ f) back e = absurd (cc)

one_more : (ts : List Tok) (t : Tok) (front back : List Tok) → ts ++ t ∷ [] ≡ front ++ back → More ts t front back
one_more [] t [] back e = inr ([], sym e, refl)
one_more [] t (x ∷ front) back e =
    let p : t ≡ x = cc in
    let q : [] ≡ front ++ back = cc in
    let k = none_of front back q in
    inl (k.1, λ i. sym p i ∷ k.0 i)
one_more (y ∷ ts) t [] back e = inr (y ∷ ts, sym e, refl)
one_more (y ∷ ts) t (x ∷ front) back e =
    let p : y ≡ x = cc in
    let q : ts ++ t ∷ [] ≡ front ++ back = cc in
    more_behind y x ts t front back p (one_more ts t front back q)

count_more : (p : Token → Bool) (ts : List Tok) (t : Tok) → count p (ts ++ t ∷ []) ≡ (if p t.0 then suc (count p ts) else count p ts)
count_more p [] t = refl
count_more p (x ∷ ts) t = at (p x.0) (p t.0) (count_more p ts t)
  where
    at : (b c : Bool) → count p (ts ++ t ∷ []) ≡ (if c then suc (count p ts) else count p ts)
        → (if b then suc (count p (ts ++ t ∷ [])) else count p (ts ++ t ∷ []))
        ≡ (if c then suc (if b then suc (count p ts) else count p ts) else (if b then suc (count p ts) else count p ts))
    at true true e = ap suc e
    at true false e = ap suc e
    at false true e = e
    at false false e = e

-- ---- how many are open
record Open (opens closes : Token → Bool) (ts : List Tok) (n : ℕ) : Type 0 where
  front : List Tok
  back : List Tok
  splits : ts ≡ front ++ back
  some : count opens back ≡ count closes back + n
  most : (f b : List Tok) → ts ≡ f ++ b → count opens b ≤ count closes b + n

none_open : (opens closes : Token → Bool) → Open opens closes [] 0
none_open opens closes = record {
  front = [];
  back = [];
  splits = refl;
  some = refl;
  most = λ f b e. let k = none_of f b e in subst (λ z. count opens z ≤ count closes z + 0) (sym k.1) (omega arith);
}

-- the numbers behind one token more, where x and y count what opens and closes in the last tokens before it
raised : (o c : Bool) (x y n : ℕ) → (o ≡ true → c ≡ false) → x ≤ y + n → (if o then suc x else x) ≤ (if c then suc y else y) + level_after o c n
raised true true x y n d h = let k : true ≡ false = d refl in absurd (cc)
raised true false x y n d h = omega arith
raised false true x y n d h = omega arith
raised false false x y n d h = h

kept : (o c : Bool) (x y n : ℕ) → (o ≡ true → c ≡ false) → x ≡ y + n → (c ≡ true → 0 < n) → (if o then suc x else x) ≡ (if c then suc y else y) + level_after o c n
kept true true x y n d h k = let e : true ≡ false = d refl in absurd (cc)
kept true false x y n d h k = omega arith
kept false true x y n d h k = let l : 0 < n = k refl in omega arith
kept false false x y n d h k = h

open_most : (opens closes : Token → Bool) (ts : List Tok) (n : ℕ) (t : Tok) → (opens t.0 ≡ true → closes t.0 ≡ false) → Open opens closes ts n
    → (f b : List Tok) → More ts t f b → count opens b ≤ count closes b + level_after (opens t.0) (closes t.0) n
open_most opens closes ts n t d l f b (inl m) = subst (λ z. count opens z ≤ count closes z + level_after (opens t.0) (closes t.0) n) (sym m.0) (omega arith)
open_most opens closes ts n t d l f b (inr m) =
    subst (λ z. count opens z ≤ count closes z + level_after (opens t.0) (closes t.0) n) (sym m.1)
    (subst (λ (z : ℕ). z ≤ count closes (m.0 ++ t ∷ []) + level_after (opens t.0) (closes t.0) n) (sym (count_more opens m.0 t))
    (subst (λ (z : ℕ). (if opens t.0 then suc (count opens m.0) else count opens m.0) ≤ z + level_after (opens t.0) (closes t.0) n) (sym (count_more closes m.0 t))
    (raised (opens t.0) (closes t.0) (count opens m.0) (count closes m.0) n d (l.most f m.0 m.2))))

-- behind a token that closes nothing none of the last tokens count
closed_of : (o c : Bool) → (o ≡ true → c ≡ false) → c ≡ true → level_after o c 0 ≡ 0
closed_of true true d e = let k : true ≡ false = d refl in absurd (cc)
closed_of true false d e = absurd (cc)
closed_of false true d e = refl
closed_of false false d e = refl

open_kept : (opens closes : Token → Bool) (ts : List Tok) (n : ℕ) (t : Tok) → (opens t.0 ≡ true → closes t.0 ≡ false) → Open opens closes ts n → (closes t.0 ≡ true → 0 < n)
    → Open opens closes (ts ++ t ∷ []) (level_after (opens t.0) (closes t.0) n)
open_kept opens closes ts n t d l k = record {
  front = l.front;
  back = l.back ++ t ∷ [];
  splits = ap (λ z. z ++ t ∷ []) l.splits ∙ append_assoc l.front l.back (t ∷ []);
  some = count_more opens l.back t ∙ kept (opens t.0) (closes t.0) (count opens l.back) (count closes l.back) n d l.some k
      ∙ ap (λ (z : ℕ). z + level_after (opens t.0) (closes t.0) n) (sym (count_more closes l.back t));
  most = λ f b e. open_most opens closes ts n t d l f b (one_more ts t f b e);
}

open_least : (opens closes : Token → Bool) (ts : List Tok) (t : Tok) → (opens t.0 ≡ true → closes t.0 ≡ false) → Open opens closes ts 0 → closes t.0 ≡ true
    → Open opens closes (ts ++ t ∷ []) (level_after (opens t.0) (closes t.0) 0)
open_least opens closes ts t d l e = record {
  front = ts ++ t ∷ [];
  back = [];
  splits = sym (append-nil (ts ++ t ∷ []));
  some = ap (λ (z : ℕ). 0 + z) (sym (closed_of (opens t.0) (closes t.0) d e));
  most = λ f b e. open_most opens closes ts 0 t d l f b (one_more ts t f b e);
}

open_from : (opens closes : Token → Bool) (ts : List Tok) (n : ℕ) (t : Tok) → (opens t.0 ≡ true → closes t.0 ≡ false) → Open opens closes ts n
    → (c : Bool) → closes t.0 ≡ c → Open opens closes (ts ++ t ∷ []) (level_after (opens t.0) (closes t.0) n)
open_from opens closes ts zero t d l true e = open_least opens closes ts t d l e
open_from opens closes ts (suc n) t d l true e = open_kept opens closes ts (suc n) t d l (λ h. omega arith)
open_from opens closes ts n t d l false e = open_kept opens closes ts n t d l (λ h. let k : true ≡ false = sym h ∙ e in absurd (cc))

open_more : (opens closes : Token → Bool) (ts : List Tok) (n : ℕ) (t : Tok) → (opens t.0 ≡ true → closes t.0 ≡ false) → Open opens closes ts n
    → Open opens closes (ts ++ t ∷ []) (level_after (opens t.0) (closes t.0) n)
open_more opens closes ts n t d l = open_from opens closes ts n t d l (closes t.0) refl

open_past : (opens closes : Token → Bool) (ts : List Tok) (n most : ℕ) → Open opens closes ts n → most < n → MoreOpen opens closes most ts
open_past opens closes ts n most l h = (l.front, l.back, l.splits, omega (arith, l.some))

open_within : (opens closes : Token → Bool) (ts : List Tok) (n most : ℕ) → Open opens closes ts n → n ≤ most → MoreOpen opens closes most ts → ⊥
open_within opens closes ts n most l h m = let k = l.most m.0 m.1 m.2 in let e : most + count closes m.1 < count opens m.1 = m.3 in omega arith

-- ---- how much a statement weighs
called_more : (called : Bool) (ts : List Tok) (t : Tok) → called_after called (ts ++ t ∷ []) ≡ is_called t.0
called_more called [] t = refl
called_more called (x ∷ ts) t = called_more (is_called x.0) ts t

called_both : (called : Bool) (f b : List Tok) → called_after called (f ++ b) ≡ called_after (called_after called f) b
called_both called [] b = refl
called_both called (x ∷ f) b = called_both (is_called x.0) f b

weight_more : (called : Bool) (ts : List Tok) (t : Tok) → weight called (ts ++ t ∷ []) ≡ weight called ts + weight_of (called_after called ts) t.0
weight_more called [] t = omega arith
weight_more called (x ∷ ts) t = let e = weight_more (is_called x.0) ts t in omega (arith, e)

record Weighs (ts : List Tok) (n : ℕ) : Type 0 where
  front : List Tok
  back : List Tok
  splits : ts ≡ front ++ back
  whole : count ends_statement back ≡ 0
  some : weight (called_after false front) back ≡ n
  most : (f b : List Tok) → ts ≡ f ++ b → count ends_statement b ≡ 0 → weight (called_after false f) b ≤ n

none_weighs : Weighs [] 0
none_weighs = record {
  front = [];
  back = [];
  splits = refl;
  whole = refl;
  some = refl;
  most = λ f b e h. let k = none_of f b e in subst (λ z. weight (called_after false f) z ≤ 0) (sym k.1) (omega arith);
}

-- none of the last tokens but the new one ends a statement
not_ending : (b : Bool) (n : ℕ) → (if b then suc n else n) ≡ 0 → (b ≡ false) × (n ≡ 0)
not_ending true n e = absurd (cc)
not_ending false n e = (refl, e)

ended_more : (ts : List Tok) (t : Tok) (f b : List Tok) → ends_statement t.0 ≡ true → More ts t f b → count ends_statement b ≡ 0 → weight (called_after false f) b ≤ 0
ended_more ts t f b e (inl m) h = subst (λ z. weight (called_after false f) z ≤ 0) (sym m.0) (omega arith)
ended_more ts t f b e (inr m) h =
    let k = not_ending (ends_statement t.0) (count ends_statement m.0) (sym (count_more ends_statement m.0 t) ∙ ap (count ends_statement) (sym m.1) ∙ h) in
    let q : true ≡ false = sym e ∙ k.0 in
    absurd (cc)

ended_weighs : (ts : List Tok) (t : Tok) → ends_statement t.0 ≡ true → Weighs (ts ++ t ∷ []) 0
ended_weighs ts t e = record {
  front = ts ++ t ∷ [];
  back = [];
  splits = sym (append-nil (ts ++ t ∷ []));
  whole = refl;
  some = refl;
  most = λ f b h k. ended_more ts t f b e (one_more ts t f b h) k;
}

-- the weight of the last tokens with one more
weight_last : (ts front most : List Tok) (t : Tok) (n : ℕ) (called : Bool) → ts ≡ front ++ most → called ≡ called_after false ts
    → weight (called_after false front) (most ++ t ∷ []) ≡ weight (called_after false front) most + weight_of called t.0
weight_last ts front most t n called e c =
    weight_more (called_after false front) most t
    ∙ ap (λ (z : Bool). weight (called_after false front) most + weight_of z t.0) (sym (called_both false front most) ∙ ap (called_after false) (sym e) ∙ sym c)

further_more : (ts : List Tok) (t : Tok) (n : ℕ) (called : Bool) → called ≡ called_after false ts → Weighs ts n
    → (f b : List Tok) → More ts t f b → count ends_statement b ≡ 0 → weight (called_after false f) b ≤ n + weight_of called t.0
further_more ts t n called c l f b (inl m) h = subst (λ z. weight (called_after false f) z ≤ n + weight_of called t.0) (sym m.0) (omega arith)
further_more ts t n called c l f b (inr m) h =
    let k = not_ending (ends_statement t.0) (count ends_statement m.0) (sym (count_more ends_statement m.0 t) ∙ ap (count ends_statement) (sym m.1) ∙ h) in
    let w = l.most f m.0 m.2 k.1 in
    subst (λ z. weight (called_after false f) z ≤ n + weight_of called t.0) (sym m.1)
    (subst (λ (z : ℕ). z ≤ n + weight_of called t.0) (sym (weight_last ts f m.0 t n called m.2 c)) (omega arith))

further_weighs : (ts : List Tok) (t : Tok) (n : ℕ) (called : Bool) → called ≡ called_after false ts → ends_statement t.0 ≡ false → Weighs ts n
    → Weighs (ts ++ t ∷ []) (n + weight_of called t.0)
further_weighs ts t n called c e l = record {
  front = l.front;
  back = l.back ++ t ∷ [];
  splits = ap (λ z. z ++ t ∷ []) l.splits ∙ append_assoc l.front l.back (t ∷ []);
  whole = count_more ends_statement l.back t ∙ ap (λ (z : Bool). if z then suc (count ends_statement l.back) else count ends_statement l.back) e ∙ l.whole;
  some = weight_last ts l.front l.back t n called l.splits c ∙ ap (λ (z : ℕ). z + weight_of called t.0) l.some;
  most = λ f b h k. further_more ts t n called c l f b (one_more ts t f b h) k;
}

weighs_from : (ts : List Tok) (t : Tok) (n : ℕ) (called : Bool) → called ≡ called_after false ts → Weighs ts n
    → (b : Bool) → ends_statement t.0 ≡ b → Weighs (ts ++ t ∷ []) (if b then 0 else n + weight_of called t.0)
weighs_from ts t n called c l true e = ended_weighs ts t e
weighs_from ts t n called c l false e = further_weighs ts t n called c e l

heavy_past : (ts : List Tok) (n most : ℕ) → Weighs ts n → most < n → Heavier most ts
heavy_past ts n most l h = (l.front, l.back, l.splits, l.whole, subst (λ (z : ℕ). most < z) (sym l.some) h)

heavy_within : (ts : List Tok) (n most : ℕ) → Weighs ts n → n ≤ most → Heavier most ts → ⊥
heavy_within ts n most l h m =
    let k = l.most m.0 m.1 m.2 m.3 in
    let e : most < weight (called_after false m.0) m.1 = m.4 in
    omega arith

-- ---- where the walk stands
record Stands (ts : List Tok) (w : Walk) : Type 0 where
  braces : Open opens_brace closes_brace ts w.braces
  brackets : Open opens_bracket closes_bracket ts w.brackets
  heavy : Weighs ts w.weight
  called : w.called ≡ called_after false ts

brace_symbol : (s : Symbol) → is_open_brace s ≡ true → is_close_brace s ≡ false
brace_symbol symbol.OpenBrace e = refl
brace_symbol symbol.CloseBrace e = absurd (cc)
brace_symbol symbol.Open e = refl
brace_symbol symbol.Close e = refl
brace_symbol symbol.OpenSquare e = refl
brace_symbol symbol.CloseSquare e = refl
brace_symbol symbol.Comma e = refl
brace_symbol symbol.Semi e = refl
brace_symbol symbol.Colon e = refl
brace_symbol symbol.Dot e = refl
brace_symbol symbol.Question e = refl
brace_symbol symbol.Is e = refl
brace_symbol symbol.Equal e = refl
brace_symbol symbol.Differs e = refl
brace_symbol symbol.Less e = refl
brace_symbol symbol.AtMost e = refl
brace_symbol symbol.Greater e = refl
brace_symbol symbol.AtLeast e = refl
brace_symbol symbol.Plus e = refl
brace_symbol symbol.Minus e = refl
brace_symbol symbol.Star e = refl
brace_symbol symbol.Slash e = refl
brace_symbol symbol.Percent e = refl
brace_symbol symbol.Arrow e = refl

brace_apart : (t : Token) → opens_brace t ≡ true → closes_brace t ≡ false
brace_apart (token.Symbol s) e = brace_symbol s e
brace_apart (token.Name x) e = refl
brace_apart (token.Number x) e = refl
brace_apart (token.Quoted x) e = refl
brace_apart (token.Word x) e = refl

bracket_symbol : (s : Symbol) → is_open_bracket s ≡ true → is_close_bracket s ≡ false
bracket_symbol symbol.OpenBrace e = refl
bracket_symbol symbol.CloseBrace e = refl
bracket_symbol symbol.Open e = refl
bracket_symbol symbol.Close e = absurd (cc)
bracket_symbol symbol.OpenSquare e = refl
bracket_symbol symbol.CloseSquare e = absurd (cc)
bracket_symbol symbol.Comma e = refl
bracket_symbol symbol.Semi e = refl
bracket_symbol symbol.Colon e = refl
bracket_symbol symbol.Dot e = refl
bracket_symbol symbol.Question e = refl
bracket_symbol symbol.Is e = refl
bracket_symbol symbol.Equal e = refl
bracket_symbol symbol.Differs e = refl
bracket_symbol symbol.Less e = refl
bracket_symbol symbol.AtMost e = refl
bracket_symbol symbol.Greater e = refl
bracket_symbol symbol.AtLeast e = refl
bracket_symbol symbol.Plus e = refl
bracket_symbol symbol.Minus e = refl
bracket_symbol symbol.Star e = refl
bracket_symbol symbol.Slash e = refl
bracket_symbol symbol.Percent e = refl
bracket_symbol symbol.Arrow e = refl

bracket_apart : (t : Token) → opens_bracket t ≡ true → closes_bracket t ≡ false
bracket_apart (token.Symbol s) e = bracket_symbol s e
bracket_apart (token.Name x) e = refl
bracket_apart (token.Number x) e = refl
bracket_apart (token.Quoted x) e = refl
bracket_apart (token.Word x) e = refl

stands_after : (ts : List Tok) (t : Tok) (w : Walk) → Stands ts w → Stands (ts ++ t ∷ []) (after w t.0)
stands_after ts t w l = record {
  braces = open_more opens_brace closes_brace ts w.braces t (brace_apart t.0) l.braces;
  brackets = open_more opens_bracket closes_bracket ts w.brackets t (bracket_apart t.0) l.brackets;
  heavy = weighs_from ts t w.weight w.called l.called l.heavy (ends_statement t.0) refl;
  called = sym (called_more false ts t);
}

or_true : (a b : Bool) → (a || b) ≡ true → (a ≡ true) ⊎ (b ≡ true)
or_true true b e = inl refl
or_true false b e = inr e

past_of : (ts : List Tok) (w : Walk) → Stands ts w → (nat_lt 24 w.braces ≡ true) ⊎ ((nat_lt 128 w.brackets || nat_lt 100 w.weight) ≡ true) → IsPast ts
past_of ts w l (inl e) = inl (open_past opens_brace closes_brace ts w.braces 24 l.braces (ltb-true 24 w.braces e))
past_of ts w l (inr e) = inr (at (or_true (nat_lt 128 w.brackets) (nat_lt 100 w.weight) e))
  where
    at : (nat_lt 128 w.brackets ≡ true) ⊎ (nat_lt 100 w.weight ≡ true) → MoreOpen opens_bracket closes_bracket 128 ts ⊎ Heavier 100 ts
    at (inl k) = inl (open_past opens_bracket closes_bracket ts w.brackets 128 l.brackets (ltb-true 128 w.brackets k))
    at (inr k) = inr (heavy_past ts w.weight 100 l.heavy (ltb-true 100 w.weight k))

is_past_yes : (ts : List Tok) (w : Walk) → Stands ts w → is_past w ≡ true → IsPast ts
is_past_yes ts w l e = past_of ts w l (or_true (nat_lt 24 w.braces) (nat_lt 128 w.brackets || nat_lt 100 w.weight) e)

is_past_no : (ts : List Tok) (w : Walk) → Stands ts w → is_past w ≡ false → IsPast ts → ⊥
is_past_no ts w l e p = at p
  where
    parts : (nat_lt 24 w.braces ≡ false) × ((nat_lt 128 w.brackets || nat_lt 100 w.weight) ≡ false)
    parts = or_parts (nat_lt 24 w.braces) (nat_lt 128 w.brackets || nat_lt 100 w.weight) e

    others : (nat_lt 128 w.brackets ≡ false) × (nat_lt 100 w.weight ≡ false)
    others = or_parts (nat_lt 128 w.brackets) (nat_lt 100 w.weight) parts.1

    at : IsPast ts → ⊥
    at (inl m) = open_within opens_brace closes_brace ts w.braces 24 l.braces (ltb-false 24 w.braces parts.0) m
    at (inr (inl m)) = open_within opens_bracket closes_bracket ts w.brackets 128 l.brackets (ltb-false 128 w.brackets others.0) m
    at (inr (inr m)) = heavy_within ts w.weight 100 l.heavy (ltb-false 100 w.weight others.1) m

-- ---- the walk's answer
abbrev Within : List Tok → Type 0
Within ts = (f g : List Tok) → ts ≡ f ++ g → IsPast f → ⊥

within_of : (ts : List Tok) (t : Tok) → Within ts → (IsPast (ts ++ t ∷ []) → ⊥) → (f g : List Tok) → More ts t f g → IsPast f → ⊥
within_of ts t h k f g (inl m) p = k (subst IsPast m.1 p)
within_of ts t h k f g (inr m) p = h f m.0 m.2 p

says_one : (front : List Tok) (t : Tok) (ts : List Tok) (w : Walk) → Stands (front ++ t ∷ []) (after w t.0) → Within front
    → (Within (front ++ t ∷ []) → SaysDeep ((front ++ t ∷ []) ++ ts) (deep_from (after w t.0) ts))
    → (b : Bool) → is_past (after w t.0) ≡ b → SaysDeep (front ++ t ∷ ts) (if b then Some t.1 else deep_from (after w t.0) ts)
says_one front t ts w l h k true e = record {
  front = front;
  token = t;
  after = ts;
  splits = refl;
  here = refl;
  past = is_past_yes (front ++ t ∷ []) (after w t.0) l e;
  within = h;
}
says_one front t ts w l h k false e = subst (λ z. SaysDeep z (deep_from (after w t.0) ts)) (append_assoc front (t ∷ []) ts)
    (k (λ f g m p. within_of front t h (is_past_no (front ++ t ∷ []) (after w t.0) l e) f g (one_more front t f g m) p))

says_from : (front ts : List Tok) (w : Walk) → Stands front w → Within front → SaysDeep (front ++ ts) (deep_from w ts)
says_from front [] w l h = λ f g e p. h f g (sym (append-nil front) ∙ e) p
says_from front (t ∷ ts) w l h =
    let stands = stands_after front t w l in
    says_one front t ts w stands h (says_from (front ++ t ∷ []) ts (after w t.0) stands) (is_past (after w t.0)) refl

standing : Stands [] start
standing = record {
  braces = none_open opens_brace closes_brace;
  brackets = none_open opens_bracket closes_bracket;
  heavy = none_weighs;
  called = refl;
}

none_past : (f g : List Tok) → [] ≡ f ++ g → IsPast f → ⊥
none_past f g e p = is_past_no [] start standing refl (subst IsPast (none_of f g e).0 p)

pub walk_says : (ts : List Tok) → SaysDeep ts (too_deep ts)
walk_says ts = says_from [] ts start standing none_past

-- ---- one answer alone
one_first : (ts : List Tok) (a b : ℕ) (k : FirstPast ts a) (l : FirstPast ts b) → Places k.front l.front k.token l.token → a ≡ b
one_first ts a b k l (inl p) = k.here ∙ ap (λ (t : Tok). t.1) p.1 ∙ sym l.here
one_first ts a b k l (inr (inl p)) = absurd (l.within (k.front ++ k.token ∷ []) p.0 (p.1 ∙ sym (append_assoc k.front (k.token ∷ []) p.0)) k.past)
one_first ts a b k l (inr (inr p)) = absurd (k.within (l.front ++ l.token ∷ []) p.0 (p.1 ∙ sym (append_assoc l.front (l.token ∷ []) p.0)) l.past)

first_not_within : (ts : List Tok) (a : ℕ) → FirstPast ts a → Within ts → ⊥
first_not_within ts a k h = h (k.front ++ k.token ∷ []) k.after (k.splits ∙ sym (append_assoc k.front (k.token ∷ []) k.after)) k.past

one_deep : (ts : List Tok) (o p : Option ℕ) → SaysDeep ts o → SaysDeep ts p → o ≡ p
one_deep ts (Some a) (Some b) k l = ap (λ z. Some z) (one_first ts a b k l (places k.front l.front k.token l.token k.after l.after (sym k.splits ∙ l.splits)))
one_deep ts (Some a) None k l = absurd (first_not_within ts a k l)
one_deep ts None (Some b) k l = absurd (first_not_within ts b l k)
one_deep ts None None k l = refl

pub names_first : (ts : List Tok) (o : Option ℕ) → (too_deep ts ≡ o) ↔ SaysDeep ts o
names_first ts o = ((λ e. subst (SaysDeep ts) e (walk_says ts)), (λ h. one_deep ts (too_deep ts) o (walk_says ts) h))
