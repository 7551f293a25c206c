-- What a rule makes of tokens, whatever their offsets are.
use Rattle.std.proofs.Common.{◌≡◌, ℕ, zero, suc, ◌+◌, ◌≤◌, List, [], ◌∷◌, ◌++◌, map, length, true, false, if◌then◌else◌, Option, Some, None, refl, sym, ap, ◌∙◌, subst, append_assoc, append-nil, arith, inl, inr}
use Rattle.std.specs.Prelude.{nat_eq, flat_map}
use Rattle.wc_lexer.specs.declared.token.Token.{Token}
use Rattle.wc_lexer.specs.declared.token.Token.TheVariants as token
use Rattle.wc_lexer.specs.declared.token.Symbol.TheVariants as symbol
use Rattle.wc_grammar.specs.Kinds.{kind, S_COMMA}
use Rattle.wc_grammar.specs.Rules.{Tok, Rule, Done, One, Seq, Either, Turns, As, Many, sign, Sign, Next, Between, pick, placed, picked, Pick, Further, Chain}
use Rattle.wc_parser.specs.PrintedTokens.{Tokens, separated, items}

-- ---- tokens in two parts
token_first : (x y : Token) (xs ys : Tokens) → x ∷ xs ≡ y ∷ ys → x ≡ y
token_first x y xs ys e = cc

token_rest : (x y : Token) (xs ys : Tokens) → x ∷ xs ≡ y ∷ ys → xs ≡ ys
token_rest x y xs ys e = cc

no_tokens : (ts : List Tok) → map (λ t. t.0) ts ≡ [] → ts ≡ []
no_tokens [] e = refl
no_tokens (t ∷ ts) e = absurd (cc)

-- Tokens with offsets whose tokens are in two parts are in two parts.
split : (a b : Tokens) (ts : List Tok) → map (λ t. t.0) ts ≡ a ++ b
    → (front back : List Tok) × (ts ≡ front ++ back) × (map (λ t. t.0) front ≡ a) × (map (λ t. t.0) back ≡ b)
split [] b ts e = ([], ts, refl, refl, e)
split (x ∷ a) b [] e = absurd (cc)
split (x ∷ a) b (t ∷ ts) e =
    let s = split a b ts (token_rest t.0 x (map (λ t. t.0) ts) (a ++ b) e) in
    let h : t.0 ≡ x = token_first t.0 x (map (λ t. t.0) ts) (a ++ b) e in
    (t ∷ s.0, s.1, ap (λ z. t ∷ z) s.2, (λ i. h i ∷ s.3 i), s.4)

-- ---- what a rule makes of tokens
-- Whatever the offsets of the tokens are, the rule derives something of which P holds.
pub record Makes {A : Type 0} (R : Rule A) (tokens : Tokens) (P : A → Type 0) : Type 0 where
  pub of : (ts : List Tok) → map (λ t. t.0) ts ≡ tokens → (y : A) × R ts y × P y

-- the same of equal tokens
pub again : {A : Type 0} {R : Rule A} {a b : Tokens} {P : A → Type 0} → a ≡ b → Makes R a P → Makes R b P
again e h = record { of = λ ts d. h.of ts (d ∙ sym e) }

-- less of what is made
pub weaken : {A : Type 0} {R : Rule A} {a : Tokens} {P Q : A → Type 0} → ((x : A) → P x → Q x) → Makes R a P → Makes R a Q
weaken k h = record { of = λ ts e. let x = h.of ts e in (x.0, x.1, k x.0 x.2) }

pub done_makes : {A : Type 0} (P : A → Type 0) (x : A) → P x → Makes (Done x) [] P
done_makes P x p = record { of = λ ts e. (x, (no_tokens ts e, refl), p) }

pub seq_makes : {A B : Type 0} {R : Rule A} {S : A → Rule B} {a b : Tokens} {P : A → Type 0} {Q : B → Type 0}
    → Makes R a P → ((x : A) → P x → Makes (S x) b Q) → Makes (Seq R S) (a ++ b) Q
seq_makes {a = a} {b = b} h k = record {
  of = λ ts e.
      let s = split a b ts e in
      let x = h.of s.0 s.3 in
      let y = (k x.0 x.2).of s.1 s.4 in
      (y.0, (s.0, s.1, x.0, s.2, x.1, y.1), y.2);
}

pub as_makes : {A B : Type 0} {R : Rule A} {a : Tokens} {P : A → Type 0} {Q : B → Type 0} (g : A → B)
    → Makes R a P → ((x : A) → P x → Q (g x)) → Makes (As R g) a Q
as_makes g h k = record { of = λ ts e. let x = h.of ts e in (g x.0, (ts, [], x.0, sym (append-nil ts), x.1, (refl, refl)), k x.0 x.2) }

pub left_makes : {A : Type 0} {R S : Rule A} {a : Tokens} {P : A → Type 0} → Makes R a P → Makes (Either R S) a P
left_makes h = record { of = λ ts e. let x = h.of ts e in (x.0, inl x.1, x.2) }

pub right_makes : {A : Type 0} {R S : Rule A} {a : Tokens} {P : A → Type 0} → Makes S a P → Makes (Either R S) a P
right_makes h = record { of = λ ts e. let x = h.of ts e in (x.0, inr x.1, x.2) }

-- ---- one token
one_of : {A : Type 0} (v : Tok → Option A) (t : Token) (P : A → Type 0) → ((at : ℕ) → (a : A) × (v (t, at) ≡ Some a) × P a)
    → (ts : List Tok) → map (λ t. t.0) ts ≡ t ∷ [] → (y : A) × One v ts y × P y
one_of v t P h [] e = absurd (cc)
one_of v t P h (u ∷ ts) e =
    let q : u.0 ≡ t = token_first u.0 t (map (λ t. t.0) ts) [] e in
    let n : ts ≡ [] = no_tokens ts (token_rest u.0 t (map (λ t. t.0) ts) [] e) in
    let a = h u.1 in
    (a.0, (u, ap (λ z. u ∷ z) n, ap (λ z. v (z, u.1)) q ∙ a.1), a.2)

pub one_makes : {A : Type 0} (v : Tok → Option A) (t : Token) (P : A → Type 0) → ((at : ℕ) → (a : A) × (v (t, at) ≡ Some a) × P a) → Makes (One v) (t ∷ []) P
one_makes v t P h = record { of = one_of v t P h }

-- nothing is said
abbrev pub Any : {A : Type 0} → A → Type 0
Any x = Unit {0}

pub sign_makes : (k : ℕ) (t : Token) → nat_eq (kind t) k ≡ true → Makes (Sign k) (t ∷ []) Any
sign_makes k t e = one_makes (sign k) t Any (λ at. (at, ap (λ b. if b then Some at else None) e, tt))

-- it stands for this value
abbrev pub Stands : {B : Type 0} → B → B × ℕ → Type 0
Stands b x = x.0 ≡ b

pub pick_makes : {B : Type 0} (es : List (ℕ × B)) (t : Token) (b : B) → pick es (kind t) ≡ Some b → Makes (Pick es) (t ∷ []) (Stands b)
pick_makes es t b e = one_makes (picked es) t (Stands b) (λ at. ((b, at), ap (placed at) e, refl))

-- ---- as often as there is one
-- what holds of each
abbrev pub AllOf : {A : Type 0} → (A → Type 0) → List A → Type 0
AllOf P [] = Unit {0}
AllOf P (x ∷ xs) = P x × AllOf P xs

pub each_of : {A : Type 0} {P Q : A → Type 0} → ((x : A) → P x → Q x) → (xs : List A) → AllOf P xs → AllOf Q xs
each_of k [] h = tt
each_of k (x ∷ xs) h = (k x h.0, each_of k xs h.1)

pub all_of : {A : Type 0} {P : A → Type 0} → ((x : A) → P x) → (xs : List A) → AllOf P xs
all_of k [] = tt
all_of k (x ∷ xs) = (k x, all_of k xs)

-- f gives the same of both
abbrev pub Same : {A B : Type 0} → (A → B) → A → A → Type 0
Same f x y = f y ≡ f x

-- no turn at all
pub turns_none : {A : Type 0} (n : ℕ) (R : A → Rule A) (P : A → Type 0) (a : A) → P a → Makes (Turns n R a) [] P
turns_none zero R P a p = done_makes P a p
turns_none (suc n) R P a p = right_makes (done_makes P a p)

-- one more, of which f gives the same as of x
abbrev pub Longer : {A B : Type 0} → (A → B) → List A → A → List A → Type 0
Longer {A = A} f before x after = (y : A) × (after ≡ before ++ y ∷ []) × Same f x y

map_end : {A B : Type 0} (f : A → B) (xs : List A) (y : A) → map f (xs ++ y ∷ []) ≡ map f xs ++ f y ∷ []
map_end f [] y = refl
map_end f (x ∷ xs) y = ap (λ z. f x ∷ z) (map_end f xs y)

longer_is : {A B : Type 0} (f : A → B) (before after : List A) (x : A) (rest : List B) → Longer f before x after → map f after ++ rest ≡ map f before ++ f x ∷ rest
longer_is f before after x rest l =
    ap (λ z. map f z ++ rest) l.1 ∙ ap (λ z. z ++ rest) (map_end f before l.0) ∙ ap (λ z. (map f before ++ z ∷ []) ++ rest) l.2
    ∙ append_assoc (map f before) (f x ∷ []) rest

-- each turn makes one more of the tokens of one
pub turns_make : {A B : Type 0} (R : List A → Rule (List A)) (g : A → Tokens) (f : A → B) (xs : List A)
    → AllOf (λ x. (before : List A) → Makes (R before) (g x) (Longer f before x)) xs → (n : ℕ) → length xs ≤ n → (before : List A)
    → Makes (Turns n R before) (flat_map g xs) (λ ys. map f ys ≡ map f before ++ map f xs)
turns_make R g f [] h n l before = turns_none n R (λ ys. map f ys ≡ map f before ++ []) before (sym (append-nil (map f before)))
turns_make R g f (x ∷ xs) h zero l before = absurd (omega arith)
turns_make R g f (x ∷ xs) h (suc n) l before = left_makes (seq_makes (h.0 before) (λ after k.
    weaken (λ ys e. e ∙ longer_is f before after x (map f xs) k) (turns_make R g f xs h.1 n (omega arith) after)))

pub many_make : {A B : Type 0} (R : Rule A) (g : A → Tokens) (f : A → B) (xs : List A)
    → AllOf (λ x. Makes R (g x) (Same f x)) xs → (n : ℕ) → length xs ≤ n → Makes (Many n R) (flat_map g xs) (Same (map f) xs)
many_make {A = A} R g f xs h n l =
    turns_make (λ (ys : List A). As R (λ y. ys ++ y ∷ [])) g f xs
    (each_of (λ x m before. as_makes (λ y. before ++ y ∷ []) m (λ y e. (y, refl, e))) xs h) n l []

-- ---- with a comma between them
abbrev comma : Token
comma = token.Symbol symbol.Comma

separated_is : {A : Type 0} (g : A → Tokens) (xs : List A) → separated false g xs ≡ flat_map (λ x. comma ∷ g x) xs
separated_is g [] = refl
separated_is g (x ∷ xs) = ap (λ z. comma ∷ (g x ++ z)) (separated_is g xs)

next_makes : {A B : Type 0} (R : Rule A) (g : A → Tokens) (f : A → B) (x : A) → Makes R (g x) (Same f x)
    → (before : List A) → Makes (Next S_COMMA R before) (comma ∷ g x) (Longer f before x)
next_makes R g f x h before = seq_makes (sign_makes S_COMMA comma refl) (λ at _. as_makes (λ y. before ++ y ∷ []) h (λ y e. (y, refl, e)))

pub between_makes : {A B : Type 0} (R : Rule A) (g : A → Tokens) (f : A → B) (xs : List A)
    → AllOf (λ x. Makes R (g x) (Same f x)) xs → (n : ℕ) → length xs ≤ n → Makes (Between n S_COMMA R) (items g xs) (Same (map f) xs)
between_makes R g f [] h n l = right_makes (done_makes (λ ys. map f ys ≡ []) [] refl)
between_makes R g f (x ∷ xs) h n l = left_makes (seq_makes h.0 (λ y e.
    again (sym (separated_is g xs)) (weaken (λ ys d. d ∙ λ i. e i ∷ map f xs)
    (turns_make (Next S_COMMA R) (λ z. comma ∷ g z) f xs (each_of (next_makes R g f) xs h.1) n (omega arith) (y ∷ [])))))

-- ---- parts with operators between them
-- one part and no operator
pub alone_makes : {A B : Type 0} {R : Rule A} {a : Tokens} {P : A → Type 0} (n : ℕ) (es : List (ℕ × B)) (g : B → A → A → A) → Makes R a P → Makes (Chain n es g R) a P
alone_makes {R = R} {a = a} {P = P} n es g h = again (append-nil a) (seq_makes h (λ x p. turns_none n (Further es g R) P x p))

-- two parts and an operator between them
pub pair_makes : {A B : Type 0} {R : Rule A} {a b : Tokens} {P Q S : A → Type 0} (n : ℕ) (es : List (ℕ × B)) (g : B → A → A → A) (t : Token) (o : B)
    → pick es (kind t) ≡ Some o → Makes R a P → Makes R b Q → ((x y : A) → P x → Q y → S (g o x y)) → Makes (Chain (suc n) es g R) (a ++ (t ∷ b)) S
pair_makes {R = R} {b = b} {S = S} n es g t o e h k j = seq_makes h (λ x p. left_makes (again (append-nil (t ∷ b))
    (seq_makes (seq_makes (pick_makes es t o e) (λ c d. as_makes (g c.0 x) k (λ y q. subst (λ z. S (g z x y)) (sym d) (j x y p q))))
    (λ y s. turns_none n (Further es g R) S y s))))

-- ---- from some bound on
-- at each bound from some on
abbrev pub From : (ℕ → Type 0) → Type 0
From P = (m : ℕ) × ((n : ℕ) → m ≤ n → P n)

pub always : {P : ℕ → Type 0} → ((n : ℕ) → P n) → From P
always h = (0, λ n l. h n)

pub reaching : (m : ℕ) → From (λ n. m ≤ n)
reaching m = (m, λ n l. l)

pub implied : {P Q : ℕ → Type 0} → ((n : ℕ) → P n → Q n) → From P → From Q
implied k h = (h.0, λ n l. k n (h.1 n l))

pub together : {P Q : ℕ → Type 0} → From P → From Q → From (λ n. P n × Q n)
together h k = (h.0 + k.0, λ n l. (h.1 n (omega arith), k.1 n (omega arith)))

-- one bound higher
pub above : {P Q : ℕ → Type 0} → ((n : ℕ) → P n → Q (suc n)) → From P → From Q
above {P = P} {Q = Q} k h = (suc h.0, at)
  where
    at : (n : ℕ) → suc h.0 ≤ n → Q n
    at zero l = absurd (omega arith)
    at (suc n) l = k n (h.1 n (omega arith))

-- where the bound isn't 0
pub positive : {P Q : ℕ → Type 0} → ((n : ℕ) → P (suc n) → Q (suc n)) → From P → From Q
positive {P = P} {Q = Q} k h = (suc h.0, at)
  where
    at : (n : ℕ) → suc h.0 ≤ n → Q n
    at zero l = absurd (omega arith)
    at (suc n) l = k n (h.1 (suc n) (omega arith))

-- a bound for each is a bound for all
pub from_each : {A : Type 0} (P : ℕ → A → Type 0) → ((x : A) → From (λ n. P n x)) → (xs : List A) → From (λ n. AllOf (P n) xs)
from_each P k [] = always (λ n. tt)
from_each P k (x ∷ xs) = together (k x) (from_each P k xs)

pub many_from : {A B : Type 0} (R : ℕ → Rule A) (g : A → Tokens) (f : A → B) → ((x : A) → From (λ n. Makes (R n) (g x) (Same f x)))
    → (xs : List A) → From (λ n. Makes (Many n (R n)) (flat_map g xs) (Same (map f) xs))
many_from R g f k xs = implied (λ n h. many_make (R n) g f xs h.0 n h.1) (together (from_each (λ n x. Makes (R n) (g x) (Same f x)) k xs) (reaching (length xs)))
