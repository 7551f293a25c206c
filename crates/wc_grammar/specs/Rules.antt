-- How rules of a grammar are joined: as relations between tokens and what they stand for, and as readings from the left.
use Rattle.std.specs.Prelude.{ℕ, zero, suc, Bool, true, false, nat_eq, ◌≡◌, if◌then◌else◌, List, [], ◌∷◌, ◌++◌, Result, Ok, Err, Option, Some, None, ◌⊎◌}
use Rattle.wc_lexer.specs.declared.token.Token.{Token}
use Rattle.wc_grammar.specs.Kinds.{kind}
use Rattle.wc_grammar.specs.declared.fault.Fault.{Fault}
use Rattle.wc_grammar.specs.declared.fault.Fault.TheVariants.{Unexpected, EndOfText, BoundReached}

-- a token, and the offset where it begins
abbrev pub Tok : Type 0
Tok = Token × ℕ

-- ---- relations
-- a rule of the grammar: which tokens stand for what
abbrev pub Rule : Type 0 → Type 1
Rule A = List Tok → A → Type 0

-- no tokens
abbrev pub Done : {A : Type 0} → A → Rule A
Done a ts b = (ts ≡ []) × (b ≡ a)

-- nothing at all
abbrev pub Never : {A : Type 0} → Rule A
Never ts a = ⊥

-- one token
abbrev pub One : {A : Type 0} → (Tok → Option A) → Rule A
One v ts a = (t : Tok) × (ts ≡ t ∷ []) × (v t ≡ Some a)

-- one after the other
abbrev pub Seq : {A B : Type 0} → Rule A → (A → Rule B) → Rule B
Seq {A = A} R S ts b = (front back : List Tok) × (a : A) × (ts ≡ front ++ back) × R front a × S a back b

-- one or the other
abbrev pub Either : {A : Type 0} → Rule A → Rule A → Rule A
Either R S ts a = R ts a ⊎ S ts a

-- at most n times, each from what the one before gave
abbrev pub Turns : {A : Type 0} → ℕ → (A → Rule A) → A → Rule A
Turns zero R a = Done a
Turns (suc n) R a = Either (Seq (R a) (Turns n R)) (Done a)

-- ---- readings
-- what is read and the tokens after it, or the first fault
abbrev pub Reading : Type 0 → Type 0
Reading A = Result (A × List Tok) Fault

-- what tokens are read as, from their front
abbrev pub Reader : Type 0 → Type 0
Reader A = List Tok → Reading A

infixl 10 ◌>>=◌
-- one reading after another, where the first gave something
abbrev pub ◌>>=◌ : {A B : Type 0} → Reading A → (A × List Tok → Reading B) → Reading B
(Ok x) >>= f = f x
(Err e) >>= f = Err e

-- whether a kind is among these
abbrev pub mem : ℕ → List ℕ → Bool
mem k [] = false
mem k (x ∷ xs) = if nat_eq k x then true else mem k xs

-- whether the next token is of one of these kinds
abbrev pub starts : List ℕ → List Tok → Bool
starts ks [] = false
starts ks (t ∷ ts) = mem (kind t.0) ks

-- the reading that takes no token
abbrev pub done : {A : Type 0} → A → Reader A
done a ts = Ok (a, ts)

-- the reading that refuses, since what is read is nested too deep
abbrev pub deep : {A : Type 0} → Reader A
deep ts = Err BoundReached

-- what a token gave, or that it isn't expected there
abbrev pub took : {A : Type 0} → Option A → Tok → Reader A
took (Some a) t ts = Ok (a, ts)
took None t ts = Err (Unexpected t.1)

-- the reading of one token
abbrev pub one : {A : Type 0} → (Tok → Option A) → Reader A
one v [] = Err EndOfText
one v (t ∷ ts) = took (v t) t ts

-- one reading after another, by what the first gave
abbrev pub seq : {A B : Type 0} → Reader A → (A → Reader B) → Reader B
seq p q ts = p ts >>= (λ x. q x.0 x.1)

-- the first where one of its kinds is next
abbrev pub either : {A : Type 0} → List ℕ → Reader A → Reader A → Reader A
either ks p q ts = if starts ks ts then p ts else q ts

-- a reading again and again, as long as one of its kinds is next, so often at most
abbrev pub turns : {A : Type 0} → ℕ → List ℕ → (A → Reader A) → A → Reader A
turns zero ks p a = either ks deep (done a)
turns (suc n) ks p a = either ks (seq (p a) (turns n ks p)) (done a)

-- ---- rules that others are made of
-- seen as something else
abbrev pub As : {A B : Type 0} → Rule A → (A → B) → Rule B
As R g = Seq R (λ a. Done (g a))

-- what tokens are read as by the rule `As`, with the tokens behind it, or the first fault
abbrev pub as_at : {A B : Type 0} → Reader A → (A → B) → Reader B
as_at p g = seq p (λ a. done (g a))

-- as many as there are
abbrev pub Many : {A : Type 0} → ℕ → Rule A → Rule (List A)
Many n R = Turns n (λ xs. As R (λ x. xs ++ x ∷ [])) []

-- what tokens are read as by the rule `Many`, with the tokens behind it, or the first fault
abbrev pub many_at : {A : Type 0} → ℕ → List ℕ → Reader A → Reader (List A)
many_at n ks p = turns n ks (λ xs. as_at p (λ x. xs ++ x ∷ [])) []

-- the place of a token of this kind
abbrev pub sign : ℕ → Tok → Option ℕ
sign k t = if nat_eq (kind t.0) k then Some t.1 else None

-- a symbol or a word, which stands for its offset
abbrev pub Sign : ℕ → Rule ℕ
Sign k = One (sign k)

-- what tokens are read as by the rule `Sign`, with the tokens behind it, or the first fault
abbrev pub sign_at : ℕ → Reader ℕ
sign_at k = one (sign k)

-- whether it is there
abbrev pub Flag : ℕ → Rule Bool
Flag k = Either (As (Sign k) (λ _. true)) (Done false)

-- what tokens are read as by the rule `Flag`, with the tokens behind it, or the first fault
abbrev pub flag_at : ℕ → Reader Bool
flag_at k = either (k ∷ []) (as_at (sign_at k) (λ _. true)) (done false)

-- a sign, and one more behind what was there
abbrev pub Next : {A : Type 0} → ℕ → Rule A → List A → Rule (List A)
Next k R xs = Seq (Sign k) (λ _. As R (λ x. xs ++ x ∷ []))

-- what tokens are read as by the rule `Next`, with the tokens behind it, or the first fault
abbrev pub next_at : {A : Type 0} → ℕ → Reader A → List A → Reader (List A)
next_at k p xs = seq (sign_at k) (λ _. as_at p (λ x. xs ++ x ∷ []))

-- none, or some with k between them
abbrev pub Between : {A : Type 0} → ℕ → ℕ → Rule A → Rule (List A)
Between n k R = Either (Seq R (λ x. Turns n (Next k R) (x ∷ []))) (Done [])

-- what tokens are read as by the rule `Between`, with the tokens behind it, or the first fault
abbrev pub between_at : {A : Type 0} → ℕ → ℕ → List ℕ → Reader A → Reader (List A)
between_at n k ks p = either ks (seq p (λ x. turns n (k ∷ []) (next_at k p) (x ∷ []))) (done [])

-- one of several words or symbols, which each stand for a value, and its offset
abbrev pub pick : {B : Type 0} → List (ℕ × B) → ℕ → Option B
pick [] k = None
pick (e ∷ es) k = if nat_eq k e.0 then Some e.1 else pick es k

-- what is there, with its place
abbrev pub placed : {B : Type 0} → ℕ → Option B → Option (B × ℕ)
placed at None = None
placed at (Some b) = Some (b, at)

-- what a token stands for by a table, with its place
abbrev pub picked : {B : Type 0} → List (ℕ × B) → Tok → Option (B × ℕ)
picked es t = placed t.1 (pick es (kind t.0))

-- the rule of one token of a table
abbrev pub Pick : {B : Type 0} → List (ℕ × B) → Rule (B × ℕ)
Pick es = One (picked es)

-- what tokens are read as by the rule `Pick`, with the tokens behind it, or the first fault
abbrev pub pick_at : {B : Type 0} → List (ℕ × B) → Reader (B × ℕ)
pick_at es = one (picked es)

-- the kinds of tokens of a table
abbrev pub keys : {B : Type 0} → List (ℕ × B) → List ℕ
keys [] = []
keys (e ∷ es) = e.0 ∷ keys es

-- parts with operators between them, grouped to the left
abbrev pub Further : {A B : Type 0} → List (ℕ × B) → (B → A → A → A) → Rule A → A → Rule A
Further es g R a = Seq (Pick es) (λ o. As R (λ b. g o.0 a b))

-- what tokens are read as by the rule `Further`, with the tokens behind it, or the first fault
abbrev pub further_at : {A B : Type 0} → List (ℕ × B) → (B → A → A → A) → Reader A → A → Reader A
further_at es g p a = seq (pick_at es) (λ o. as_at p (λ b. g o.0 a b))

-- the rule of some joined by operators of a table, from the left
abbrev pub Chain : {A B : Type 0} → ℕ → List (ℕ × B) → (B → A → A → A) → Rule A → Rule A
Chain n es g R = Seq R (Turns n (Further es g R))

-- what tokens are read as by the rule `Chain`, with the tokens behind it, or the first fault
abbrev pub chain_at : {A B : Type 0} → ℕ → List (ℕ × B) → (B → A → A → A) → Reader A → Reader A
chain_at n es g p = seq p (turns n (keys es) (further_at es g p))
