-- What holds of tokens and of what they derive, by the ways in which rules are joined.
use Rattle.std.proofs.Common.{◌≡◌, ℕ, zero, suc, List, [], ◌∷◌, ◌++◌, map, Bool, true, false, if◌then◌else◌, Option, Some, None, refl, sym, ap, ◌∙◌, append_assoc, append-nil, subst, inl, inr}
use Rattle.std.specs.Prelude.{nat_eq}
use Rattle.wc_lexer.specs.declared.token.Token.{Token}
use Rattle.wc_lexer.specs.declared.token.Token.TheVariants as token
use Rattle.wc_syntax.specs.declared.expression.Name.{Name}
use Rattle.wc_syntax.specs.declared.expression.Number.{Number}
use Rattle.wc_syntax.specs.declared.expression.Quoted.{Quoted}
use Rattle.wc_grammar.specs.Kinds.{kind}
use Rattle.wc_grammar.specs.Rules.{Tok, Rule, Done, Never, One, Seq, Either, Turns, As, Many, Sign, Between, pick, placed, Pick, Chain}
use Rattle.wc_grammar.specs.Grammar.{name_in, number_in, quoted_in, NAME, NUMBER, TEXT}
use Rattle.wc_grammar.proofs.Laws.{same_number}
use Rattle.wc_parser.specs.PrintedTokens.{Tokens}
use Rattle.wc_parser.proofs.TokenKinds.{token_of, token_known}

-- the tokens without their offsets
abbrev pub bare : List Tok → Tokens
bare ts = map (λ t. t.0) ts

pub bare_append : (xs ys : List Tok) → bare (xs ++ ys) ≡ bare xs ++ bare ys
bare_append [] ys = refl
bare_append (x ∷ xs) ys = ap (λ z. x.0 ∷ z) (bare_append xs ys)

-- whatever tokens derive by the rule is so related to them
pub record Holds {ℓ} {A : Type 0} (P : Tokens → A → Type ℓ) (R : Rule A) : Type ℓ where
  pub by : (ts : List Tok) (a : A) → R ts a → P (bare ts) a

-- What follows holds too.
pub holds_more {ℓ κ} : {A : Type 0} {R : Rule A} (P : Tokens → A → Type κ) (Q : Tokens → A → Type ℓ)
    → ((ts : Tokens) (a : A) → P ts a → Q ts a) → Holds P R → Holds Q R
holds_more P Q f h = record { by = λ ts a d. f (bare ts) a (h.by ts a d) }

pub never_holds {ℓ} : {A : Type 0} {Q : Tokens → A → Type ℓ} → Holds Q Never
never_holds = record { by = λ ts a d. absurd d }

pub done_holds {ℓ} : {A : Type 0} {Q : Tokens → A → Type ℓ} {a : A} → Q [] a → Holds Q (Done a)
done_holds {Q = Q} {a = a} h = record { by = λ ts b d. subst (λ z. Q (bare z) b) (sym d.0) (subst (λ z. Q [] z) (sym d.1) h) }

-- What holds by each of two rules holds by either.
pub either_holds {ℓ} : {A : Type 0} {Q : Tokens → A → Type ℓ} {R S : Rule A} → Holds Q R → Holds Q S → Holds Q (Either R S)
either_holds {Q = Q} {R = R} {S = S} r s = record { by = go }
  where
    go : (ts : List Tok) (a : _) → Either R S ts a → Q (bare ts) a
    go ts a (inl d) = r.by ts a d
    go ts a (inr d) = s.by ts a d

-- what the second part derives is seen behind tokens of the first
pub seq_holds {ℓ κ} : {A B : Type 0} {R : Rule A} {S : A → Rule B} {Q : Tokens → B → Type ℓ} (P : Tokens → A → Type κ)
    → Holds P R → ((front : Tokens) (a : A) → P front a → Holds (λ ts b. Q (front ++ ts) b) (S a)) → Holds Q (Seq R S)
seq_holds {Q = Q} P r s = record {
  by = λ ts b d. subst (λ z. Q z b) (sym (ap bare d.3 ∙ bare_append d.0 d.1)) ((s (bare d.0) d.2 (r.by d.0 d.2 d.4)).by d.1 b d.5);
}

-- What is derived is seen as something else.
pub as_holds {ℓ} : {A B : Type 0} {R : Rule A} {g : A → B} {Q : Tokens → B → Type ℓ} → Holds (λ ts a. Q ts (g a)) R → Holds Q (As R g)
as_holds {g = g} {Q = Q} r = seq_holds (λ ts a. Q ts (g a)) r
    (λ front a h. record { by = λ ts b d. subst (λ z. Q (front ++ bare z) b) (sym d.0) (subst (λ z. Q z b) (sym (append-nil front)) (subst (λ z. Q front z) (sym d.1) h)) })

-- ---- one token
-- What holds of each token that is let in holds by the rule.
pub one_holds {ℓ} : {A : Type 0} {v : Tok → Option A} {Q : Tokens → A → Type ℓ} → ((t : Tok) (a : A) → v t ≡ Some a → Q (t.0 ∷ []) a) → Holds Q (One v)
one_holds {Q = Q} h = record { by = λ ts a d. subst (λ z. Q (bare z) a) (sym d.1) (h d.0 a d.2) }

if_some : (b : Bool) (x a : ℕ) → (if b then Some x else None) ≡ Some a → b ≡ true
if_some true x a e = refl
if_some false x a e = absurd (cc)

-- the symbol or the word of a kind
pub sign_is : (u : Token) → token_of (kind u) ≡ Some u → Holds (λ ts a. ts ≡ u ∷ []) (Sign (kind u))
sign_is u e = one_holds (λ t a h. ap (λ z. z ∷ []) (token_known t.0 u (ap token_of (same_number (kind t.0) (kind u) (if_some (nat_eq (kind t.0) (kind u)) t.1 a h)) ∙ e)))

pub sign_then {ℓ} : {B : Type 0} {S : ℕ → Rule B} {Q : Tokens → B → Type ℓ} (u : Token) → token_of (kind u) ≡ Some u
    → ((at : ℕ) → Holds (λ ts b. Q (u ∷ ts) b) (S at)) → Holds Q (Seq (Sign (kind u)) S)
sign_then {S = S} {Q = Q} u e h = seq_holds (λ ts a. ts ≡ u ∷ []) (sign_is u e)
    (λ front at k. subst (λ z. Holds (λ ts b. Q (z ++ ts) b) (S at)) (sym k) (h at))

pub sign_last {ℓ} : {B : Type 0} {g : ℕ → B} {Q : Tokens → B → Type ℓ} (u : Token) → token_of (kind u) ≡ Some u
    → ((at : ℕ) → Q (u ∷ []) (g at)) → Holds Q (As (Sign (kind u)) g)
sign_last {g = g} {Q = Q} u e h = as_holds (holds_more (λ ts a. ts ≡ u ∷ []) (λ ts a. Q ts (g a)) (λ ts a p. subst (λ z. Q z (g a)) (sym p) (h a)) (sign_is u e))

name_in_some : Option Name → Token → Token
name_in_some None t = t
name_in_some (Some n) t = token.Name n.text

name_is : (t : Token) (at : ℕ) (n : Name) → name_in t at ≡ Some n → t ≡ token.Name n.text
unfolding name_in_some
name_is (token.Name text) at n e = ap (λ o. name_in_some o (token.Name text)) e
name_is (token.Number v) at n e = absurd (cc)
name_is (token.Quoted text) at n e = absurd (cc)
name_is (token.Word w) at n e = absurd (cc)
name_is (token.Symbol s) at n e = absurd (cc)

number_in_some : Option Number → Token → Token
number_in_some None t = t
number_in_some (Some n) t = token.Number n.value

number_is : (t : Token) (at : ℕ) (n : Number) → number_in t at ≡ Some n → t ≡ token.Number n.value
unfolding number_in_some
number_is (token.Name text) at n e = absurd (cc)
number_is (token.Number v) at n e = ap (λ o. number_in_some o (token.Number v)) e
number_is (token.Quoted text) at n e = absurd (cc)
number_is (token.Word w) at n e = absurd (cc)
number_is (token.Symbol s) at n e = absurd (cc)

quoted_in_some : Option Quoted → Token → Token
quoted_in_some None t = t
quoted_in_some (Some q) t = token.Quoted q.text

quoted_is : (t : Token) (at : ℕ) (q : Quoted) → quoted_in t at ≡ Some q → t ≡ token.Quoted q.text
unfolding quoted_in_some
quoted_is (token.Name text) at q e = absurd (cc)
quoted_is (token.Number v) at q e = absurd (cc)
quoted_is (token.Quoted text) at q e = ap (λ o. quoted_in_some o (token.Quoted text)) e
quoted_is (token.Word w) at q e = absurd (cc)
quoted_is (token.Symbol s) at q e = absurd (cc)

pub name_holds {ℓ} : {Q : Tokens → Name → Type ℓ} → ((n : Name) → Q (token.Name n.text ∷ []) n) → Holds Q NAME
name_holds {Q = Q} h = one_holds (λ t n e. subst (λ z. Q (z ∷ []) n) (sym (name_is t.0 t.1 n e)) (h n))

pub number_holds {ℓ} : {Q : Tokens → Number → Type ℓ} → ((n : Number) → Q (token.Number n.value ∷ []) n) → Holds Q NUMBER
number_holds {Q = Q} h = one_holds (λ t n e. subst (λ z. Q (z ∷ []) n) (sym (number_is t.0 t.1 n e)) (h n))

pub text_holds {ℓ} : {Q : Tokens → Quoted → Type ℓ} → ((q : Quoted) → Q (token.Quoted q.text ∷ []) q) → Holds Q TEXT
text_holds {Q = Q} h = one_holds (λ t q e. subst (λ z. Q (z ∷ []) q) (sym (quoted_is t.0 t.1 q e)) (h q))

-- a first part that says all of its tokens
pub first_says {ℓ} : {A B : Type 0} {R : Rule A} {S : A → Rule B} {Q : Tokens → B → Type ℓ} (says : A → Tokens)
    → Holds (λ ts a. ts ≡ says a) R → ((a : A) → Holds (λ ts b. Q (says a ++ ts) b) (S a)) → Holds Q (Seq R S)
first_says {S = S} {Q = Q} says r s = seq_holds (λ ts a. ts ≡ says a) r (λ front a h. subst (λ z. Holds (λ ts b. Q (z ++ ts) b) (S a)) (sym h) (s a))

pub name_then {ℓ} : {B : Type 0} {S : Name → Rule B} {Q : Tokens → B → Type ℓ}
    → ((n : Name) → Holds (λ ts b. Q (token.Name n.text ∷ ts) b) (S n)) → Holds Q (Seq NAME S)
name_then s = first_says (λ n. token.Name n.text ∷ []) (name_holds (λ n. refl)) s

pub number_then {ℓ} : {B : Type 0} {S : Number → Rule B} {Q : Tokens → B → Type ℓ}
    → ((n : Number) → Holds (λ ts b. Q (token.Number n.value ∷ ts) b) (S n)) → Holds Q (Seq NUMBER S)
number_then s = first_says (λ n. token.Number n.value ∷ []) (number_holds (λ n. refl)) s

pub text_then {ℓ} : {B : Type 0} {S : Quoted → Rule B} {Q : Tokens → B → Type ℓ}
    → ((q : Quoted) → Holds (λ ts b. Q (token.Quoted q.text ∷ ts) b) (S q)) → Holds Q (Seq TEXT S)
text_then s = first_says (λ q. token.Quoted q.text ∷ []) (text_holds (λ q. refl)) s

-- ---- one of several tokens
-- each entry's token is the one that is said of its value
abbrev pub Words : {B : Type 0} → (B → Tokens) → List (ℕ × B) → Type 0
Words says [] = Unit {0}
Words says (e ∷ es) = (u : Token) × (token_of e.0 ≡ Some u) × (says e.1 ≡ u ∷ []) × Words says es

same_value : {B : Type 0} (a b : B) → (let o : Option B = Some a in o) ≡ Some b → a ≡ b
same_value a b e = cc

pick_at : {B : Type 0} (says : B → Tokens) (d : ℕ × B) (es : List (ℕ × B)) (u : Token) → token_of d.0 ≡ Some u → says d.1 ≡ u ∷ [] → (t : Token) (b : B)
    → (pick es (kind t) ≡ Some b → t ∷ [] ≡ says b) → (x : Bool) → nat_eq (kind t) d.0 ≡ x → (if x then Some d.1 else pick es (kind t)) ≡ Some b → t ∷ [] ≡ says b
pick_at says d es u i j t b go true h g = ap (λ z. z ∷ []) (token_known t u (ap token_of (same_number (kind t) d.0 h) ∙ i)) ∙ sym j ∙ ap says (same_value d.1 b g)
pick_at says d es u i j t b go false h g = go g

pick_is : {B : Type 0} (says : B → Tokens) (es : List (ℕ × B)) → Words says es → (t : Token) (b : B) → pick es (kind t) ≡ Some b → t ∷ [] ≡ says b
pick_is says [] w t b e = absurd (cc)
pick_is says (d ∷ es) w t b e = pick_at says d es w.0 w.1 w.2 t b (pick_is says es w.3 t b) (nat_eq (kind t) d.0) refl e

placed_is : {B : Type 0} (o : Option B) (at : ℕ) (b : B × ℕ) → placed at o ≡ Some b → o ≡ Some b.0
placed_is None at b e = absurd (cc)
placed_is {B = B} (Some a) at b e = ap (λ (p : B × ℕ). Some p.0) (same_value (a, at) b e)

pub pick_says : {B : Type 0} (says : B → Tokens) (es : List (ℕ × B)) → Words says es → Holds (λ ts o. ts ≡ says o.0) (Pick es)
pick_says says es w = one_holds (λ t o e. pick_is says es w t.0 o.0 (placed_is (pick es (kind t.0)) t.1 o e))

pub pick_then {ℓ} : {B C : Type 0} {S : B × ℕ → Rule C} {Q : Tokens → C → Type ℓ} (says : B → Tokens) (es : List (ℕ × B)) → Words says es
    → ((o : B × ℕ) → Holds (λ ts b. Q (says o.0 ++ ts) b) (S o)) → Holds Q (Seq (Pick es) S)
pick_then says es w s = first_says (λ o. says o.0) (pick_says says es w) s

-- ---- as often as there is one
-- What each turn keeps holds behind all of them.
pub turns_hold {ℓ} : {A : Type 0} {R : A → Rule A} (P : Tokens → A → Type ℓ) (n : ℕ)
    → ((front : Tokens) (a : A) → P front a → Holds (λ ts b. P (front ++ ts) b) (R a))
    → (front : Tokens) (a : A) → P front a → Holds (λ ts b. P (front ++ ts) b) (Turns n R a)
turns_hold P zero s front a h = done_holds (subst (λ z. P z a) (sym (append-nil front)) h)
turns_hold P (suc n) s front a h = either_holds
    (seq_holds (λ ts b. P (front ++ ts) b) (s front a h)
    (λ more b k. holds_more (λ ts c. P ((front ++ more) ++ ts) c) (λ ts c. P (front ++ (more ++ ts)) c) (λ ts c. subst (λ z. P z c) (append_assoc front more ts)) (turns_hold P n s (front ++ more) b k)))
    (done_holds (subst (λ z. P z a) (sym (append-nil front)) h))

-- What holds of none, and with one more, holds of as many as there are.
pub many_hold {ℓ κ} : {A : Type 0} {R : Rule A} (n : ℕ) (P : Tokens → A → Type κ) (Q : Tokens → List A → Type ℓ) → Q [] []
    → ((front : Tokens) (xs : List A) (ts : Tokens) (x : A) → Q front xs → P ts x → Q (front ++ ts) (xs ++ x ∷ [])) → Holds P R → Holds Q (Many n R)
many_hold n P Q none more r = turns_hold Q n
    (λ front xs h. as_holds (holds_more P (λ ts x. Q (front ++ ts) (xs ++ x ∷ [])) (λ ts x k. more front xs ts x h k) r)) [] [] none

-- none, or some with the token between them
pub between_holds {ℓ κ} : {A : Type 0} {R : Rule A} {Q : Tokens → List A → Type ℓ} (n : ℕ) (P : Tokens → A → Type κ) (S : Tokens → List A → Type ℓ)
    → (u : Token) → token_of (kind u) ≡ Some u → Q [] [] → ((ts : Tokens) (xs : List A) → S ts xs → Q ts xs)
    → ((ts : Tokens) (x : A) → P ts x → S ts (x ∷ []))
    → ((front : Tokens) (xs : List A) (ts : Tokens) (x : A) → S front xs → P ts x → S (front ++ u ∷ ts) (xs ++ x ∷ []))
    → Holds P R → Holds Q (Between n (kind u) R)
between_holds {Q = Q} n P S u e none all first more r = either_holds
    (seq_holds P r (λ front x h. holds_more (λ ts xs. S (front ++ ts) xs) (λ ts xs. Q (front ++ ts) xs) (λ ts xs. all (front ++ ts) xs)
    (turns_hold S n (λ front xs h. sign_then u e (λ at. as_holds (holds_more P (λ ts x. S (front ++ u ∷ ts) (xs ++ x ∷ [])) (λ ts x k. more front xs ts x h k) r))) front (x ∷ []) (first front x h))))
    (done_holds none)

-- parts with operators between them
pub chain_holds {ℓ} : {A B : Type 0} {R : Rule A} {g : B → A → A → A} (n : ℕ) (P : Tokens → A → Type ℓ) (says : B → Tokens) (es : List (ℕ × B)) → Words says es
    → ((o : B) (ts us : Tokens) (a b : A) → P ts a → P us b → P (ts ++ (says o ++ us)) (g o a b)) → Holds P R → Holds P (Chain n es g R)
chain_holds {g = g} n P says es w more r = seq_holds P r (turns_hold P n
    (λ front a h. pick_then says es w (λ o. as_holds (holds_more P (λ ts b. P (front ++ (says o.0 ++ ts)) (g o.0 a b)) (λ ts b k. more o.0 front ts a b h k) r))))

-- ---- what may be there or not
abbrev pub SomeWith {κ} : {A : Type 0} → (Tokens → A → Type κ) → Tokens → Option A → Type κ
SomeWith {A = A} P ts o = (a : A) × (o ≡ Some a) × P ts a

pub some_holds {κ} : {A : Type 0} {R : Rule A} (P : Tokens → A → Type κ) → Holds P R → Holds (SomeWith P) (As R Some)
some_holds P r = as_holds (holds_more P (λ ts a. SomeWith P ts (Some a)) (λ ts a h. (a, refl, h)) r)

pub maybe_then {ℓ κ} : {A B : Type 0} {R : Rule (Option A)} {S : Option A → Rule B} {Q : Tokens → B → Type ℓ} (P : Tokens → A → Type κ)
    → Holds (SomeWith P) R → ((front : Tokens) (a : A) → P front a → Holds (λ ts b. Q (front ++ ts) b) (S (Some a))) → Holds Q (S None)
    → Holds Q (Seq (Either R (Done None)) S)
maybe_then {A = A} {B = B} {R = R} {S = S} {Q = Q} P r some none = record {
  by = λ ts b d. subst (λ z. Q z b) (sym (ap bare d.3 ∙ bare_append d.0 d.1)) (go d.0 d.1 d.2 b d.4 d.5);
}
  where
    go : (front back : List Tok) (o : Option A) (b : B) → Either R (Done None) front o → S o back b → Q (bare front ++ bare back) b
    go front back o b (inl d) k =
        let w = r.by front o d in
        (some (bare front) w.0 w.2).by back b (subst (λ z. S z back b) w.1 k)
    go front back o b (inr d) k = subst (λ z. Q (bare z ++ bare back) b) (sym d.0) (none.by back b (subst (λ z. S z back b) d.1 k))
