-- Walks over tokens by steps that compute, and tokens that differ in grouping brackets alone.
use Rattle.std.proofs.Common.{◌≡◌, ℕ, zero, suc, ◌+◌, ◌<◌, ◌≤◌, List, [], ◌∷◌, ◌++◌, Bool, true, false, if◌then◌else◌, Option, Some, None, refl, sym, ap, ◌∙◌, subst, arith}
use Rattle.std.specs.Prelude.{nat_lt, ◌||◌}
use Rattle.std.proofs.lemmas.Bool.{ltb-true, ltb-false, or_parts}
use Rattle.wc_lexer.specs.declared.token.Token.{Token}
use Rattle.wc_lexer.specs.declared.token.Symbol.TheVariants as symbol
use Rattle.wc_lexer.specs.Bounds.{is_called, weight_of, ends_statement, opens_brace, closes_brace, opens_bracket, closes_bracket}
use Rattle.wc_reader.specs.declared.depth.Walk.{Walk}
use Rattle.wc_grammar.specs.Rules.{Tok}
use Rattle.wc_reader.specs.Depth.{level_after, braces_after, brackets_after, weight_after, after, start, is_past, deep_from, too_deep}
use Rattle.wc_parser.specs.PrintedTokens.{Tokens}
use Rattle.wc_parser.proofs.Derived.{bare}
use Rattle.wc_parser.proofs.Expressions.{s, round, square}

-- ---- steps
-- one fewer, and none of none
abbrev pub lower : ℕ → ℕ
lower zero = zero
lower (suc n) = n

-- how much is open once a token is passed
abbrev pub level : Bool → Bool → ℕ → ℕ
level opens closes n = if opens then suc n else (if closes then lower n else n)

-- the open braces once a token is passed
abbrev pub braces : Token → ℕ → ℕ
braces t n = level (opens_brace t) (closes_brace t) n

-- the open brackets once a token is passed
abbrev pub brackets : Token → ℕ → ℕ
brackets t n = level (opens_bracket t) (closes_bracket t) n

-- the second number with the first added to it, one at a time
abbrev pub heavier : ℕ → ℕ → ℕ
heavier zero n = n
heavier (suc m) n = heavier m (suc n)

-- the weight of a statement once a token is passed
abbrev pub weigh : Bool → Token → ℕ → ℕ
weigh called t n = if ends_statement t then 0 else heavier (weight_of called t) n

-- No token leads past the bound on braces or on weight, and K holds of the braces, the weight and the flag behind them.
abbrev pub Lean : Tokens → (ℕ → ℕ → Bool → Type 0) → ℕ → ℕ → Bool → Type 0
Lean [] K b w c = K b w c
Lean (t ∷ ts) K b w c = (braces t b ≤ 24) × (weigh c t w ≤ 100) × Lean ts K (braces t b) (weigh c t w) (is_called t)

-- the numbers of open braces and brackets and the weight are within the bounds
abbrev pub Within : ℕ → ℕ → ℕ → Type 0
Within b r w = (b ≤ 24) × (r ≤ 128) × (w ≤ 100)

-- No token leads past a bound, and K holds of the braces, the brackets, the weight and the flag behind them.
abbrev pub Flat : Tokens → (ℕ → ℕ → ℕ → Bool → Type 0) → ℕ → ℕ → ℕ → Bool → Type 0
Flat [] K b r w c = K b r w c
Flat (t ∷ ts) K b r w c = Within (braces t b) (brackets t r) (weigh c t w) × Flat ts K (braces t b) (brackets t r) (weigh c t w) (is_called t)

pub lean_append : (xs ys : Tokens) (K : ℕ → ℕ → Bool → Type 0) (b w : ℕ) (c : Bool) → Lean (xs ++ ys) K b w c → Lean xs (Lean ys K) b w c
lean_append [] ys K b w c l = l
lean_append (t ∷ xs) ys K b w c l = (l.0, l.1, lean_append xs ys K (braces t b) (weigh c t w) (is_called t) l.2)

pub flat_append : (xs ys : Tokens) (K : ℕ → ℕ → ℕ → Bool → Type 0) (b r w : ℕ) (c : Bool) → Flat xs (Flat ys K) b r w c → Flat (xs ++ ys) K b r w c
flat_append [] ys K b r w c l = l
flat_append (t ∷ xs) ys K b r w c l = (l.0, flat_append xs ys K (braces t b) (brackets t r) (weigh c t w) (is_called t) l.1)

-- ---- the walks of the bounds
level_is : (o c : Bool) (n : ℕ) → level_after o c n ≡ level o c n
level_is true c n = omega arith
level_is false true zero = refl
level_is false true (suc n) = omega arith
level_is false false n = refl

heavier_is : (m n : ℕ) → n + m ≡ heavier m n
heavier_is zero n = omega arith
heavier_is (suc m) n = let e : n + suc m ≡ suc n + m = omega arith in e ∙ heavier_is m (suc n)

weigh_is : (t : Token) (c : Bool) (n : ℕ) → weight_after n c t ≡ weigh c t n
weigh_is t c n = ap (λ (z : ℕ). if ends_statement t then 0 else z) (heavier_is (weight_of c t) n)

within_of : (w : Walk) → is_past w ≡ false → Within w.braces w.brackets w.weight
within_of w e =
    let p = or_parts (nat_lt 24 w.braces) (nat_lt 128 w.brackets || nat_lt 100 w.weight) e in
    let q = or_parts (nat_lt 128 w.brackets) (nat_lt 100 w.weight) p.1 in
    (ltb-false 24 w.braces p.0, ltb-false 128 w.brackets q.0, ltb-false 100 w.weight q.1)

not_less : (m n : ℕ) (b : Bool) → nat_lt m n ≡ b → n ≤ m → b ≡ false
not_less m n true e h = let k : m < n = ltb-true m n e in absurd (omega arith)
not_less m n false e h = refl

or_false : (a b : Bool) → a ≡ false → b ≡ false → (a || b) ≡ false
or_false a b h k = ap (λ z. z || b) h ∙ k

past_not : (w : Walk) → Within w.braces w.brackets w.weight → is_past w ≡ false
past_not w h = or_false (nat_lt 24 w.braces) (nat_lt 128 w.brackets || nat_lt 100 w.weight) (not_less 24 w.braces (nat_lt 24 w.braces) refl h.0)
    (or_false (nat_lt 128 w.brackets) (nat_lt 100 w.weight) (not_less 128 w.brackets (nat_lt 128 w.brackets) refl h.1) (not_less 100 w.weight (nat_lt 100 w.weight) refl h.2))

goes_on : (b : Bool) (at : ℕ) (o : Option ℕ) → (if b then Some at else o) ≡ None → (b ≡ false) × (o ≡ None)
goes_on true at o e = absurd (cc)
goes_on false at o e = (refl, e)

abbrev pub nowhere : ℕ → ℕ → Bool → Type 0
nowhere b w c = Unit {0}

abbrev pub anywhere : ℕ → ℕ → ℕ → Bool → Type 0
anywhere b r w c = Unit {0}

lean_from : (ts : List Tok) (w : Walk) → deep_from w ts ≡ None → Lean (bare ts) nowhere w.braces w.weight w.called
lean_from [] w e = tt
lean_from (t ∷ ts) w e =
    let g = goes_on (is_past (after w t.0)) t.1 (deep_from (after w t.0) ts) e in
    let h = within_of (after w t.0) g.0 in
    let k = lean_from ts (after w t.0) g.1 in
    let x : braces_after w.braces t.0 ≡ braces t.0 w.braces = level_is (opens_brace t.0) (closes_brace t.0) w.braces in
    let y : weight_after w.weight w.called t.0 ≡ weigh w.called t.0 w.weight = weigh_is t.0 w.called w.weight in
    subst (λ (z : ℕ). (z ≤ 24) × (weigh w.called t.0 w.weight ≤ 100) × Lean (bare ts) nowhere z (weigh w.called t.0 w.weight) (is_called t.0)) x
    (subst (λ (z : ℕ). (braces_after w.braces t.0 ≤ 24) × (z ≤ 100) × Lean (bare ts) nowhere (braces_after w.braces t.0) z (is_called t.0)) y (h.0, h.2, k))

-- Tokens whose walk goes past no bound have few enough braces and weigh little enough.
pub lean_of : (ts : List Tok) → too_deep ts ≡ None → Lean (bare ts) nowhere 0 0 false
lean_of ts e = lean_from ts start e

-- the walk's steps in place of those that compute
flat_step : (ts : Tokens) (t : Token) (w : Walk) → Flat (t ∷ ts) anywhere w.braces w.brackets w.weight w.called
    → Within (after w t).braces (after w t).brackets (after w t).weight × Flat ts anywhere (after w t).braces (after w t).brackets (after w t).weight (is_called t)
flat_step ts t w l =
    let x : braces_after w.braces t ≡ braces t w.braces = level_is (opens_brace t) (closes_brace t) w.braces in
    let y : brackets_after w.brackets t ≡ brackets t w.brackets = level_is (opens_bracket t) (closes_bracket t) w.brackets in
    let z : weight_after w.weight w.called t ≡ weigh w.called t w.weight = weigh_is t w.called w.weight in
    subst (λ (n : ℕ). Within n (brackets_after w.brackets t) (weight_after w.weight w.called t) × Flat ts anywhere n (brackets_after w.brackets t) (weight_after w.weight w.called t) (is_called t)) (sym x)
    (subst (λ (n : ℕ). Within (braces t w.braces) n (weight_after w.weight w.called t) × Flat ts anywhere (braces t w.braces) n (weight_after w.weight w.called t) (is_called t)) (sym y)
    (subst (λ (n : ℕ). Within (braces t w.braces) (brackets t w.brackets) n × Flat ts anywhere (braces t w.braces) (brackets t w.brackets) n (is_called t)) (sym z) l))

flat_from : (ts : List Tok) (w : Walk) → Flat (bare ts) anywhere w.braces w.brackets w.weight w.called → deep_from w ts ≡ None
flat_from [] w l = refl
flat_from (t ∷ ts) w l =
    let k = flat_step (bare ts) t.0 w l in
    ap (λ (b : Bool). if b then Some t.1 else deep_from (after w t.0) ts) (past_not (after w t.0) k.0) ∙ flat_from ts (after w t.0) k.1

-- The walk over tokens that stay within the bounds goes past none.
pub flat_too : (ts : List Tok) → Flat (bare ts) anywhere 0 0 0 false → too_deep ts ≡ None
flat_too ts l = flat_from ts start l

-- ---- tokens that weigh nothing or one and open nothing
-- Behind the tokens, which weigh nothing, the flag is f.
pub record Light (o : Tokens) (f : Bool) : Type 1 where
  pub lean : (K : ℕ → ℕ → Bool → Type 0) (b w : ℕ) (c : Bool) → Lean o K b w c → K b w f
  pub flat : (K : ℕ → ℕ → ℕ → Bool → Type 0) (b r w : ℕ) (c : Bool) → Within b r w → K b r w f → Flat o K b r w c

-- the tokens weigh one
pub record Heavy (o : Tokens) : Type 1 where
  pub lean : (K : ℕ → ℕ → Bool → Type 0) (b w : ℕ) (c : Bool) → Lean o K b w c → (suc w ≤ 100) × K b (suc w) false
  pub flat : (K : ℕ → ℕ → ℕ → Bool → Type 0) (b r w : ℕ) (c : Bool) → Within b r (suc w) → K b r (suc w) false → Flat o K b r w c

-- Both together weigh nothing.
pub light_append : {o p : Tokens} {f g : Bool} → Light o f → Light p g → Light (o ++ p) g
light_append {o = o} {p = p} {f = f} x y = record {
  lean = λ K b w c l. y.lean K b w f (x.lean (Lean p K) b w c (lean_append o p K b w c l));
  flat = λ K b r w c h k. flat_append o p K b r w c (x.flat (Flat p K) b r w c h (y.flat K b r w f h k));
}

-- ---- within a statement
-- any flag
abbrev pub Any : Bool → Type 0
Any c = Unit {0}

-- behind no token that a call's bracket follows
abbrev pub Shut : Bool → Type 0
Shut c = c ≡ false

-- behind a token that a call's bracket follows
abbrev pub Called : Bool → Type 0
Called c = c ≡ true

-- Both weigh so much within one statement, from a flag as F says; of the second so many brackets are open at once at most, and none behind them.
pub record Inner (F : Bool → Type 0) (depth size : ℕ) (ts ps : Tokens) : Type 1 where
  pub lean : (K : ℕ → ℕ → Bool → Type 0) (b w : ℕ) (c : Bool) → F c → w ≤ 100 → Lean ts K b w c → (w + size ≤ 100) × ((f : Bool) × K b (w + size) f)
  pub flat : (K : ℕ → ℕ → ℕ → Bool → Type 0) (b r w : ℕ) (c : Bool) → F c → b ≤ 24 → r + depth ≤ 128 → w + size ≤ 100 → ((f : Bool) → K b r (w + size) f) → Flat ps K b r w c

pub weaken : {F G : Bool → Type 0} {d n : ℕ} {ts ps : Tokens} → ((c : Bool) → G c → F c) → Inner F d n ts ps → Inner G d n ts ps
weaken g x = record { lean = λ K b w c h. x.lean K b w c (g c h); flat = λ K b r w c h. x.flat K b r w c (g c h) }

pub shut : {d n : ℕ} {ts ps : Tokens} → Inner Any d n ts ps → Inner Shut d n ts ps
shut x = weaken (λ c h. tt) x

pub deeper : {F : Bool → Type 0} {d e n : ℕ} {ts ps : Tokens} → d ≤ e → Inner F d n ts ps → Inner F e n ts ps
deeper h x = record { lean = x.lean; flat = λ K b r w c f i j. x.flat K b r w c f i (omega arith) }

pub light_inner : {o : Tokens} {f : Bool} → Light o f → Inner Any 0 0 o o
light_inner {f = f} x = record {
  lean = λ K b w c h l m. let e : w ≡ w + 0 = omega arith in (omega arith, (f, subst (λ (z : ℕ). K b z f) e (x.lean K b w c m)));
  flat = λ K b r w c h i j l k. let e : w + 0 ≡ w = omega arith in x.flat K b r w c (i, omega arith, omega arith) (subst (λ (z : ℕ). K b r z f) e (k f));
}

pub nothing_inner : {F : Bool → Type 0} → Inner F 0 0 [] []
nothing_inner = record {
  lean = λ K b w c h l m. let e : w ≡ w + 0 = omega arith in (omega arith, (c, subst (λ (z : ℕ). K b z c) e m));
  flat = λ K b r w c h i j l k. let e : w + 0 ≡ w = omega arith in subst (λ (z : ℕ). K b r z c) e (k c);
}

-- one behind the other
pub join : {F : Bool → Type 0} {d e m n : ℕ} {ts us ps qs : Tokens} → Inner F d m ts ps → Inner Any e n us qs → Inner F (d + e) (m + n) (ts ++ us) (ps ++ qs)
join {d = d} {e = e} {m = m} {n = n} {ts = ts} {us = us} {ps = ps} {qs = qs} x y = record {
  lean = λ K b w c h l k.
      let p = x.lean (Lean us K) b w c h l (lean_append ts us K b w c k) in
      let q = y.lean K b (w + m) p.1.0 tt p.0 p.1.1 in
      let i : w + m + n ≡ w + (m + n) = omega arith in
      (subst (λ (z : ℕ). z ≤ 100) i q.0, (q.1.0, subst (λ (z : ℕ). K b z q.1.0) i q.1.1));
  flat = λ K b r w c h i j l k.
      let g : w + (m + n) ≡ w + m + n = omega arith in
      flat_append ps qs K b r w c (x.flat (Flat qs K) b r w c h i (omega arith) (omega arith)
      (λ f. y.flat K b r (w + m) f tt i (omega arith) (omega arith) (λ a. subst (λ (z : ℕ). K b r z a) g (k a))));
}

-- behind tokens that weigh nothing
pub ahead : {F : Bool → Type 0} {d n : ℕ} {o ts ps : Tokens} {f : Bool} → Light o f → F f → Inner F d n ts ps → Inner Any d n (o ++ ts) (o ++ ps)
ahead {n = n} {o = o} {ts = ts} {ps = ps} {f = f} a h x = record {
  lean = λ K b w c g l k. x.lean K b w f h l (a.lean (Lean ts K) b w c (lean_append o ts K b w c k));
  flat = λ K b r w c g i j l k. flat_append o ps K b r w c (a.flat (Flat ps K) b r w c (i, omega arith, omega arith) (x.flat K b r w f h i j l k));
}

-- behind tokens that weigh one
pub ahead_heavy : {d n : ℕ} {o ts ps : Tokens} → Heavy o → Inner Shut d n ts ps → Inner Any d (suc n) (o ++ ts) (o ++ ps)
ahead_heavy {n = n} {o = o} {ts = ts} {ps = ps} a x = record {
  lean = λ K b w c g l k.
      let p = a.lean (Lean ts K) b w c (lean_append o ts K b w c k) in
      let q = x.lean K b (suc w) false refl p.0 p.1 in
      let i : suc w + n ≡ w + suc n = omega arith in
      (subst (λ (z : ℕ). z ≤ 100) i q.0, (q.1.0, subst (λ (z : ℕ). K b z q.1.0) i q.1.1));
  flat = λ K b r w c g i j l k.
      let e : w + suc n ≡ suc w + n = omega arith in
      flat_append o ps K b r w c (a.flat (Flat ps K) b r w c (i, omega arith, omega arith)
      (x.flat K b r (suc w) false refl i j (omega arith) (λ f. subst (λ (z : ℕ). K b r z f) e (k f))));
}

-- ---- brackets
abbrev close : Tokens
close = s symbol.Close ∷ []

-- a grouping bracket in the first alone
pub grouped : {d n : ℕ} {ts ps : Tokens} → Inner Shut d n ts ps → Inner Shut d n (round ts) ps
grouped {n = n} {ts = ts} x = record {
  lean = λ K b w c h l k.
      let m : Lean (round ts) K b w false = subst (λ z. Lean (round ts) K b w z) h k in
      let p = x.lean (Lean close K) b w false refl l (lean_append ts close K b w false m.2) in
      (p.0, (false, p.1.1.2));
  flat = x.flat;
}

-- a grouping bracket in the second alone
pub bracketed : {d n : ℕ} {ts ps : Tokens} → Inner Shut d n ts ps → Inner Shut (suc d) n ts (round ps)
bracketed {n = n} {ps = ps} x = record {
  lean = x.lean;
  flat = λ K b r w c h i j l k.
      let o : Within b r (w + n) = (i, omega arith, l) in
      let e : Within b (suc r) w = (i, omega arith, omega arith) in
      subst (λ z. Flat (round ps) K b r w z) (sym h)
      (e, flat_append ps close K b (suc r) w false (x.flat (Flat close K) b (suc r) w false refl i (omega arith) l (λ f. (o, k false))));
}

-- the brackets of a call
pub called : {d n : ℕ} {ts ps : Tokens} → Inner Shut d n ts ps → Inner Called (suc d) (suc n) (round ts) (round ps)
called {n = n} {ts = ts} {ps = ps} x = record {
  lean = λ K b w c h l k.
      let m : Lean (round ts) K b w true = subst (λ z. Lean (round ts) K b w z) h k in
      let p = x.lean (Lean close K) b (suc w) false refl m.1 (lean_append ts close K b (suc w) false m.2) in
      let i : suc w + n ≡ w + suc n = omega arith in
      (subst (λ (z : ℕ). z ≤ 100) i p.0, (false, subst (λ (z : ℕ). K b z false) i p.1.1.2));
  flat = λ K b r w c h i j l k.
      let q : w + suc n ≡ suc w + n = omega arith in
      let o : Within b r (suc w + n) = (i, omega arith, omega arith) in
      let e : Within b (suc r) (suc w) = (i, omega arith, omega arith) in
      subst (λ z. Flat (round ps) K b r w z) (sym h) (
        e,
        flat_append ps close K b (suc r) (suc w) false (x.flat (Flat close K) b (suc r) (suc w) false refl i (omega arith) (omega arith)
            (λ f. (o, subst (λ (z : ℕ). K b r z false) q (k false)))),
      );
}

abbrev close_square : Tokens
close_square = s symbol.CloseSquare ∷ []

-- in square brackets
pub squared : {d n : ℕ} {ts ps : Tokens} → Inner Shut d n ts ps → Inner Any (suc d) (suc n) (square ts) (square ps)
squared {n = n} {ts = ts} {ps = ps} x = record {
  lean = λ K b w c h l m.
      let p = x.lean (Lean close_square K) b (suc w) false refl m.1 (lean_append ts close_square K b (suc w) false m.2) in
      let i : suc w + n ≡ w + suc n = omega arith in
      (subst (λ (z : ℕ). z ≤ 100) i p.0, (false, subst (λ (z : ℕ). K b z false) i p.1.1.2));
  flat = λ K b r w c h i j l k.
      let q : w + suc n ≡ suc w + n = omega arith in
      let o : Within b r (suc w + n) = (i, omega arith, omega arith) in
      let e : Within b (suc r) (suc w) = (i, omega arith, omega arith) in (
        e,
        flat_append ps close_square K b (suc r) (suc w) false (x.flat (Flat close_square K) b (suc r) (suc w) false refl i (omega arith) (omega arith)
            (λ f. (o, subst (λ (z : ℕ). K b r z false) q (k false)))),
      );
}

-- ---- whole statements
-- From the beginning of a statement, the second stays within the bounds where the first does.
abbrev pub Carries : Tokens → Tokens → Type 1
Carries ts ps = (K : ℕ → ℕ → Bool → Type 0) (J : ℕ → ℕ → ℕ → Bool → Type 0) (b : ℕ) → b ≤ 24 → (K b 0 false → J b 0 0 false) → Lean ts K b 0 false → Flat ps J b 0 0 false

-- so too from the end of a statement's expressions
abbrev pub Ends : Tokens → Tokens → Type 1
Ends ts ps = (K : ℕ → ℕ → Bool → Type 0) (J : ℕ → ℕ → ℕ → Bool → Type 0) (b w : ℕ) (c f : Bool) → b ≤ 24 → (K b 0 false → J b 0 0 false) → Lean ts K b w c → Flat ps J b 0 w f

pub carries_nothing : Carries [] []
carries_nothing K J b i k m = k m

pub carries_append : (ts ps us qs : Tokens) → Carries ts ps → Carries us qs → Carries (ts ++ us) (ps ++ qs)
carries_append ts ps us qs x y K J b i k m =
    flat_append ps qs J b 0 0 false (x (Lean us K) (Flat qs J) b i (λ l. y K J b i k l) (lean_append ts us K b 0 false m))

-- the end of a line
pub semi : Ends (s symbol.Semi ∷ []) (s symbol.Semi ∷ [])
semi K J b w c f i k m = ((i, omega arith, omega arith), k m.2)

-- statements in braces
pub braced : (ts ps : Tokens) → Carries ts ps → Ends (s symbol.OpenBrace ∷ (ts ++ s symbol.CloseBrace ∷ [])) (s symbol.OpenBrace ∷ (ps ++ s symbol.CloseBrace ∷ []))
braced ts ps x K J b w c f i k m =
    let end = s symbol.CloseBrace ∷ [] in
    let closing : Lean end K (suc b) 0 false → Flat end J (suc b) 0 0 false = λ l. ((i, omega arith, omega arith), k l.2) in
    ((m.0, omega arith, omega arith), flat_append ps end J (suc b) 0 0 false (x (Lean end K) (Flat end J) (suc b) m.0 closing (lean_append ts end K (suc b) 0 false m.2)))

-- a statement and what ends it
pub ended : {F : Bool → Type 0} {d n : ℕ} {ts ps : Tokens} (us qs : Tokens) → F false → d ≤ n + 28 → Inner F d n ts ps → Ends us qs → Carries (ts ++ us) (ps ++ qs)
ended {n = n} {ts = ts} {ps = ps} us qs f h x y = λ K J b i k m.
    let p = x.lean (Lean us K) b 0 false f (omega arith) (lean_append ts us K b 0 false m) in
    let o : 0 + n ≤ 100 = p.0 in
    flat_append ps qs J b 0 0 false (x.flat (Flat qs J) b 0 0 false f i (omega arith) p.0 (λ g. y K J b (0 + n) p.1.0 g i k p.1.1))
