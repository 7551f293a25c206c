-- What holds of a rule and of the reader for it, and that it holds of what they are joined to.
use Rattle.std.proofs.Common.{◌≡◌, ℕ, zero, suc, ◌<◌, ◌≤◌, List, [], ◌∷◌, ◌++◌, Bool, true, false, Ok, Err, Option, Some, None, refl, sym, ap, ◌∙◌, append_assoc, append-nil, arith, subst, length-append, if◌then◌else◌, ◌⊎◌, inl, inr, length}
use Rattle.std.specs.Prelude.{nat_eq}
use Rattle.std.proofs.lemmas.Bool.{eqb-true}
use Rattle.wc_lexer.specs.declared.token.Token.{Token}
use Rattle.wc_grammar.specs.declared.fault.Fault.TheVariants.{OutOfMemory, Unexpected, EndOfText, BoundReached}
use Rattle.wc_grammar.specs.Kinds.{kind}
use Rattle.wc_grammar.specs.Rules.{Tok, Rule, Done, Never, One, Seq, Either, Turns, Reading, Reader, ◌>>=◌, mem, starts, done, deep, took, one, seq, either, turns, As, as_at, Many, many_at, sign, Sign, sign_at, Flag, flag_at, Next, next_at, Between, between_at, pick, placed, picked, Pick, pick_at, keys, Further, further_at, Chain, chain_at}

-- ---- sets of kinds
abbrev pub Sub : List ℕ → List ℕ → Type 0
Sub xs ys = (k : ℕ) → mem k xs ≡ true → mem k ys ≡ true

abbrev pub Apart : List ℕ → List ℕ → Type 0
Apart xs ys = (k : ℕ) → mem k xs ≡ true → mem k ys ≡ false

or_left : (a b : Bool) → a ≡ true → (if a then true else b) ≡ true
or_left a b h = ap (λ z. if z then true else b) h

or_right : (a b : Bool) → b ≡ true → (if a then true else b) ≡ true
or_right true b h = refl
or_right false b h = h

not_or_left : (a b : Bool) → (if a then true else b) ≡ false → a ≡ false
not_or_left true b h = absurd (cc)
not_or_left false b h = refl

not_or_right : (a b : Bool) → (if a then true else b) ≡ false → b ≡ false
not_or_right true b h = absurd (cc)
not_or_right false b h = h

or_assoc : (a b c : Bool) → (if a then true else (if b then true else c)) ≡ (if (if a then true else b) then true else c)
or_assoc true b c = refl
or_assoc false b c = refl

mem_append : (k : ℕ) (xs ys : List ℕ) → mem k (xs ++ ys) ≡ (if mem k xs then true else mem k ys)
mem_append k [] ys = refl
mem_append k (x ∷ xs) ys = ap (λ b. if nat_eq k x then true else b) (mem_append k xs ys) ∙ or_assoc (nat_eq k x) (mem k xs) (mem k ys)

pub mem_left : (xs ys : List ℕ) → Sub xs (xs ++ ys)
mem_left xs ys k h = mem_append k xs ys ∙ or_left _ _ h

pub mem_right : (xs ys : List ℕ) → Sub ys (xs ++ ys)
mem_right xs ys k h = mem_append k xs ys ∙ or_right _ _ h

pub not_left : (k : ℕ) (xs ys : List ℕ) → mem k (xs ++ ys) ≡ false → mem k xs ≡ false
not_left k xs ys h = not_or_left _ _ (sym (mem_append k xs ys) ∙ h)

pub not_right : (k : ℕ) (xs ys : List ℕ) → mem k (xs ++ ys) ≡ false → mem k ys ≡ false
not_right k xs ys h = not_or_right _ _ (sym (mem_append k xs ys) ∙ h)

-- tests that compute
abbrev pub inside : List ℕ → List ℕ → Bool
inside [] ys = true
inside (x ∷ xs) ys = if mem x ys then inside xs ys else false

abbrev pub apart : List ℕ → List ℕ → Bool
apart [] ys = true
apart (x ∷ xs) ys = if mem x ys then false else apart xs ys

and_both : (a b : Bool) → (if a then b else false) ≡ true → (a ≡ true) × (b ≡ true)
and_both true b h = (refl, h)
and_both false b h = absurd (cc)

nor_both : (a b : Bool) → (if a then false else b) ≡ true → (a ≡ false) × (b ≡ true)
nor_both true b h = absurd (cc)
nor_both false b h = (refl, h)

pub same_number : (a b : ℕ) → nat_eq a b ≡ true → a ≡ b
same_number a b h = eqb-true a b h

mem_cases : (k x : ℕ) (xs : List ℕ) (P : ℕ → Type 0) → (b : Bool) → nat_eq k x ≡ b → (if b then true else mem k xs) ≡ true → P x → (mem k xs ≡ true → P k) → P k
mem_cases k x xs P true e h here there = subst P (sym (same_number k x e)) here
mem_cases k x xs P false e h here there = there h

pub sub : (xs ys : List ℕ) → inside xs ys ≡ true → Sub xs ys
sub [] ys h k m = absurd (cc)
sub (x ∷ xs) ys h k m =
    let b = and_both (mem x ys) (inside xs ys) h in
    mem_cases k x xs (λ z. mem z ys ≡ true) (nat_eq k x) refl m b.0 (sub xs ys b.1 k)

pub disjoint : (xs ys : List ℕ) → apart xs ys ≡ true → Apart xs ys
disjoint [] ys h k m = absurd (cc)
disjoint (x ∷ xs) ys h k m =
    let b = nor_both (mem x ys) (apart xs ys) h in
    mem_cases k x xs (λ z. mem z ys ≡ false) (nat_eq k x) refl m b.0 (disjoint xs ys b.1 k)

-- ---- what holds of a rule and its reader
-- they begin with one of these kinds, or may be none
abbrev pub Begins : List ℕ → Bool → List Tok → Type 0
Begins f n [] = n ≡ true
Begins f n (t ∷ ts) = mem (kind t.0) f ≡ true

-- they don't go on with one of these kinds
abbrev pub Halts : List ℕ → List Tok → Type 0
Halts c [] = Unit {0}
Halts c (t ∷ ts) = mem (kind t.0) c ≡ false

abbrev pub Has : {A : Type 0} → Rule A → Type 0
Has {A = A} R = (ts : List Tok) × (a : A) × R ts a

pub record TellsOk {A : Type 0} (R : Rule A) (p : Reader A) (ts : List Tok) (a : A) (rest : List Tok) : Type 0 where
  pub front : List Tok
  pub derives : R front a
  pub splits : ts ≡ front ++ rest
  -- the tokens after the next play no part
  pub same : (t : Tok) (x y : List Tok) → rest ≡ t ∷ x → p (front ++ t ∷ y) ≡ Ok (a, t ∷ y)

pub record TellsAt {A : Type 0} (R : Rule A) (p : Reader A) (ts : List Tok) (at : ℕ) : Type 0 where
  pub front : List Tok
  pub token : Tok
  pub after : List Tok
  pub splits : ts ≡ front ++ token ∷ after
  pub here : at ≡ token.1
  -- what stands before goes on to something whole
  pub more : List Tok
  pub value : A
  pub derives : R (front ++ more) value
  pub same : (y : List Tok) → p (front ++ token ∷ y) ≡ Err (Unexpected at)

pub record TellsEnd {A : Type 0} (R : Rule A) (ts : List Tok) : Type 0 where
  pub more : List Tok
  pub value : A
  pub derives : R (ts ++ more) value

abbrev pub Tells : {A : Type 0} → Rule A → Reader A → List Tok → Reading A → Type 0
Tells R p ts (Ok x) = TellsOk R p ts x.0 x.1
Tells R p ts (Err (Unexpected at)) = TellsAt R p ts at
Tells R p ts (Err EndOfText) = TellsEnd R ts
Tells R p ts (Err OutOfMemory) = ⊥
Tells R p ts (Err BoundReached) = Unit {0}

-- p' is the reader at a higher bound. Below m tokens the bound is never too low.
pub record Law {A : Type 0} (f : List ℕ) (n : Bool) (c : List ℕ) (m : ℕ) (R : Rule A) (p p' : Reader A) : Type 0 where
  pub first : (ts : List Tok) (a : A) → R ts a → Begins f n ts
  pub full : (ts rest : List Tok) (a : A) → R ts a → Halts c rest → p (ts ++ rest) ≡ Ok (a, rest)
  pub tells : (ts : List Tok) → Tells R p ts (p ts)
  pub lives : (ts : List Tok) → length ts < m → p ts ≡ Err BoundReached → ⊥
  pub extends : (ts : List Tok) → (p ts ≡ Err BoundReached) ⊎ (p ts ≡ p' ts)

pub record Fine {A : Type 0} (f : List ℕ) (n : Bool) (c : List ℕ) (m : ℕ) (R : Rule A) (p p' : Reader A) : Type 0 where
  pub law : Law f n c m R p p'
  pub some : Has R

-- a kind that is in none of the larger set is in none of the smaller
out_at : (b : Bool) (x y : Bool) → x ≡ b → (x ≡ true → y ≡ true) → y ≡ false → x ≡ false
out_at true x y e s h = let k : y ≡ true = s e in absurd (cc)
out_at false x y e s h = e

pub out : (xs ys : List ℕ) → Sub xs ys → (k : ℕ) → mem k ys ≡ false → mem k xs ≡ false
out xs ys s k h = out_at (mem k xs) (mem k xs) (mem k ys) refl (s k) h

pub fewer : (c c' : List ℕ) → Sub c c' → (rest : List Tok) → Halts c' rest → Halts c rest
fewer c c' s [] h = tt
fewer c c' s (t ∷ ts) h = out c c' s (kind t.0) h

begins_more : (f f' : List ℕ) (n n' : Bool) → Sub f f' → (n ≡ true → n' ≡ true) → (ts : List Tok) → Begins f n ts → Begins f' n' ts
begins_more f f' n n' s t [] h = t h
begins_more f f' n n' s t (u ∷ ts) h = s (kind u.0) h

shorter : (f : List ℕ) (n : Bool) (m m2 : ℕ) → (n ≡ true → m ≤ m2) → m ≤ suc m2 → (front rest : List Tok) → Begins f n front → length (front ++ rest) < m → length rest < m2
shorter f n m m2 w1 w2 [] rest b h = let k : m ≤ m2 = w1 b in omega arith
shorter f n m m2 w1 w2 (t ∷ ts) rest b h = omega (arith, length-append ts rest)

goes_on : {A B : Type 0} (q q' : A → Reader B) → ((a : A) (ts : List Tok) → (q a ts ≡ Err BoundReached) ⊎ (q a ts ≡ q' a ts))
    → (r : Reading A) → ((r >>= (λ x. q x.0 x.1)) ≡ Err BoundReached) ⊎ ((r >>= (λ x. q x.0 x.1)) ≡ (r >>= (λ x. q' x.0 x.1)))
goes_on q q' k (Ok x) = k x.0 x.1
goes_on q q' k (Err e) = inr refl

-- ---- nothing
pub fine_done : {A : Type 0} (m : ℕ) (a : A) → Fine [] true [] m (Done a) (done a) (done a)
fine_done m a = record {
  law = record {
    first = λ ts b h. subst (Begins [] true) (sym h.0) refl;
    full = λ ts rest b h k. λ i. Ok (sym h.1 i, h.0 i ++ rest);
    tells = λ ts. record { front = []; derives = (refl, refl); splits = refl; same = λ t x y e. refl };
    lives = λ ts h e. absurd (cc);
    extends = λ ts. inr refl;
  };
  some = ([], a, (refl, refl));
}

pub law_never : {A : Type 0} (p' : Reader A) → Law [] false [] 0 Never deep p'
law_never p' = record {
  first = λ ts a h. absurd h;
  full = λ ts rest a h k. absurd h;
  tells = λ ts. tt;
  lives = λ ts h e. omega arith;
  extends = λ ts. inl refl;
}

-- ---- one token
took_full : {A : Type 0} (v : Tok → Option A) (t : Tok) (rest : List Tok) (a : A) → v t ≡ Some a → one v (t ∷ rest) ≡ Ok (a, rest)
took_full v t rest a e = ap (λ o. took o t rest) e

one_tells : {A : Type 0} (v : Tok → Option A) (t : Tok) (ts : List Tok) → Has (One v) → (o : Option A) → v t ≡ o → Tells (One v) (one v) (t ∷ ts) (took o t ts)
one_tells v t ts s (Some a) e = record { front = t ∷ []; derives = (t, refl, e); splits = refl; same = λ u x y h. took_full v t (u ∷ y) a e }
one_tells v t ts s None e = record {
  front = [];
  token = t;
  after = ts;
  splits = refl;
  here = refl;
  more = s.0;
  value = s.1;
  derives = s.2;
  same = λ y. ap (λ o. took o t y) e;
}

one_all : {A : Type 0} (v : Tok → Option A) → Has (One v) → (ts : List Tok) → Tells (One v) (one v) ts (one v ts)
one_all v s [] = record { more = s.0; value = s.1; derives = s.2 }
one_all v s (t ∷ ts) = one_tells v t ts s (v t) refl

took_lives : {A : Type 0} (o : Option A) (t : Tok) (ts : List Tok) → took o t ts ≡ Err BoundReached → ⊥
took_lives (Some a) t ts e = absurd (cc)
took_lives None t ts e = absurd (cc)

one_lives : {A : Type 0} (v : Tok → Option A) (ts : List Tok) → one v ts ≡ Err BoundReached → ⊥
one_lives v [] e = absurd (cc)
one_lives v (t ∷ ts) e = took_lives (v t) t ts e

pub fine_one : {A : Type 0} (m : ℕ) (f : List ℕ) (v : Tok → Option A) → ((t : Tok) (a : A) → v t ≡ Some a → mem (kind t.0) f ≡ true)
    → (t : Tok) (a : A) → v t ≡ Some a → Fine f false [] m (One v) (one v) (one v)
fine_one m f v h t a e = record {
  law = record {
    first = λ ts b d. subst (Begins f false) (sym d.1) (h d.0 b d.2);
    full = λ ts rest b d k. ap (λ l. one v (l ++ rest)) d.1 ∙ took_full v d.0 rest b d.2;
    tells = one_all v (t ∷ [], a, (t, refl, e));
    lives = λ ts l d. one_lives v ts d;
    extends = λ ts. inr refl;
  };
  some = (t ∷ [], a, (t, refl, e));
}

-- ---- one after the other
reach : {A : Type 0} (p : Reader A) (front : List Tok) (a : A) (rest : List Tok)
    → ((t : Tok) (x y : List Tok) → rest ≡ t ∷ x → p (front ++ t ∷ y) ≡ Ok (a, t ∷ y))
    → (back : List Tok) (t : Tok) (x y : List Tok) → rest ≡ back ++ t ∷ x → p (front ++ (back ++ t ∷ y)) ≡ Ok (a, back ++ t ∷ y)
reach p front a rest same [] t x y h = same t x y h
reach p front a rest same (u ∷ back) t x y h = same u (back ++ t ∷ x) (back ++ t ∷ y) h

seq_ok : {A B : Type 0} {R : Rule A} (S : A → Rule B) {p : Reader A} (q : A → Reader B) (ts : List Tok) (a : A) (rest : List Tok)
    → TellsOk R p ts a rest → (r : Reading B) → Tells (S a) (q a) rest r → Tells (Seq R S) (seq p q) ts r
seq_ok S {p = p} q ts a rest l (Ok b) k = record {
  front = l.front ++ k.front;
  derives = (l.front, k.front, a, refl, l.derives, k.derives);
  splits = l.splits ∙ ap (λ z. l.front ++ z) k.splits ∙ sym (append_assoc l.front k.front b.1);
  same = λ t x y e.
      ap (seq p q) (append_assoc l.front k.front (t ∷ y))
      ∙ ap (λ z. z >>= (λ x. q x.0 x.1)) (reach p l.front a rest l.same k.front t x y (k.splits ∙ ap (λ z. k.front ++ z) e))
      ∙ k.same t x y e;
}
seq_ok S {p = p} q ts a rest l (Err (Unexpected at)) k = record {
  front = l.front ++ k.front;
  token = k.token;
  after = k.after;
  splits = l.splits ∙ ap (λ z. l.front ++ z) k.splits ∙ sym (append_assoc l.front k.front (k.token ∷ k.after));
  here = k.here;
  more = k.more;
  value = k.value;
  derives = (l.front, k.front ++ k.more, a, append_assoc l.front k.front k.more, l.derives, k.derives);
  same = λ y.
      ap (seq p q) (append_assoc l.front k.front (k.token ∷ y))
      ∙ ap (λ z. z >>= (λ x. q x.0 x.1)) (reach p l.front a rest l.same k.front k.token k.after y k.splits)
      ∙ k.same y;
}
seq_ok S q ts a rest l (Err EndOfText) k = record {
  more = k.more;
  value = k.value;
  derives = (l.front, rest ++ k.more, a, ap (λ z. z ++ k.more) l.splits ∙ append_assoc l.front rest k.more, l.derives, k.derives);
}
seq_ok S q ts a rest l (Err OutOfMemory) k = absurd k
seq_ok S q ts a rest l (Err BoundReached) k = tt

seq_tells : {A B : Type 0} (R : Rule A) (S : A → Rule B) (p : Reader A) (q : A → Reader B) (ts : List Tok)
    → ((a : A) (rest : List Tok) → Tells (S a) (q a) rest (q a rest)) → ((a : A) → Has (S a))
    → (r : Reading A) → Tells R p ts r → Tells (Seq R S) (seq p q) ts (r >>= (λ x. q x.0 x.1))
seq_tells R S p q ts k s (Ok x) l = seq_ok S q ts x.0 x.1 l (q x.0 x.1) (k x.0 x.1)
seq_tells R S p q ts k s (Err (Unexpected at)) l = let w = s l.value in record {
  front = l.front;
  token = l.token;
  after = l.after;
  splits = l.splits;
  here = l.here;
  more = l.more ++ w.0;
  value = w.1;
  derives = (l.front ++ l.more, w.0, l.value, sym (append_assoc l.front l.more w.0), l.derives, w.2);
  same = λ y. ap (λ z. z >>= (λ x. q x.0 x.1)) (l.same y);
}
seq_tells R S p q ts k s (Err EndOfText) l = let w = s l.value in record {
  more = l.more ++ w.0;
  value = w.1;
  derives = (ts ++ l.more, w.0, l.value, sym (append_assoc ts l.more w.0), l.derives, w.2);
}
seq_tells R S p q ts k s (Err OutOfMemory) l = absurd l
seq_tells R S p q ts k s (Err BoundReached) l = tt

-- the second set, where the first part may be nothing
abbrev pub where_none : Bool → List ℕ → List ℕ
where_none n f = if n then f else []

seq_first : (f1 f2 f : List ℕ) (n1 n2 n : Bool) → Sub f1 f → (n1 ≡ true → Sub f2 f) → (n1 ≡ true → n2 ≡ true → n ≡ true)
    → (front back : List Tok) → Begins f1 n1 front → Begins f2 n2 back → Begins f n (front ++ back)
seq_first f1 f2 f n1 n2 n s1 s2 s3 [] [] h k = s3 h k
seq_first f1 f2 f n1 n2 n s1 s2 s3 [] (t ∷ ts) h k = s2 h (kind t.0) k
seq_first f1 f2 f n1 n2 n s1 s2 s3 (t ∷ ts) back h k = s1 (kind t.0) h

seq_halts : (f2 c1 c : List ℕ) (n2 : Bool) → Apart f2 c1 → (n2 ≡ true → Sub c1 c) → (back rest : List Tok) → Begins f2 n2 back → Halts c rest → Halts c1 (back ++ rest)
seq_halts f2 c1 c n2 d s [] [] h k = tt
seq_halts f2 c1 c n2 d s [] (t ∷ ts) h k = out c1 c (s h) (kind t.0) k
seq_halts f2 c1 c n2 d s (t ∷ ts) rest h k = d (kind t.0) h

seq_lives : {A B : Type 0} {R : Rule A} (q : A → Reader B) (p : Reader A) (f1 : List ℕ) (n1 : Bool) (m m2 : ℕ) (ts : List Tok)
    → ((ts : List Tok) (a : A) → R ts a → Begins f1 n1 ts) → (n1 ≡ true → m ≤ m2) → m ≤ suc m2
    → ((a : A) (rest : List Tok) → length rest < m2 → q a rest ≡ Err BoundReached → ⊥) → length ts < m
    → (r : Reading A) → Tells R p ts r → (r ≡ Err BoundReached → ⊥) → (r >>= (λ x. q x.0 x.1)) ≡ Err BoundReached → ⊥
seq_lives q p f1 n1 m m2 ts b w1 w2 k h (Ok x) l d e = k x.0 x.1 (shorter f1 n1 m m2 w1 w2 l.front x.1 (b l.front x.0 l.derives) (subst (λ z. length z < m) l.splits h)) e
seq_lives q p f1 n1 m m2 ts b w1 w2 k h (Err (Unexpected at)) l d e = absurd (cc)
seq_lives q p f1 n1 m m2 ts b w1 w2 k h (Err EndOfText) l d e = absurd (cc)
seq_lives q p f1 n1 m m2 ts b w1 w2 k h (Err OutOfMemory) l d e = l
seq_lives q p f1 n1 m m2 ts b w1 w2 k h (Err BoundReached) l d e = d refl

seq_extends : {A B : Type 0} (q q' : A → Reader B) → ((a : A) (ts : List Tok) → (q a ts ≡ Err BoundReached) ⊎ (q a ts ≡ q' a ts))
    → (r r' : Reading A) → (r ≡ Err BoundReached) ⊎ (r ≡ r')
    → ((r >>= (λ x. q x.0 x.1)) ≡ Err BoundReached) ⊎ ((r >>= (λ x. q x.0 x.1)) ≡ (r' >>= (λ x. q' x.0 x.1)))
seq_extends q q' k r r' (inl e) = inl (ap (λ z. z >>= (λ x. q x.0 x.1)) e)
seq_extends q q' k r r' (inr e) = subst (λ z. ((r >>= (λ x. q x.0 x.1)) ≡ Err BoundReached) ⊎ ((r >>= (λ x. q x.0 x.1)) ≡ (z >>= (λ x. q' x.0 x.1)))) e (goes_on q q' k r)

-- Both hold at any sets that take in those of the parts.
core_seq : {A B : Type 0} {R : Rule A} {S : A → Rule B} {p p' : Reader A} {q q' : A → Reader B} {f1 c1 f2 c2 : List ℕ} {n1 n2 : Bool} {m m2 : ℕ}
    (f : List ℕ) (n : Bool) (c : List ℕ)
    → Law f1 n1 c1 m R p p' → ((a : A) → Law f2 n2 c2 m2 (S a) (q a) (q' a)) → ((a : A) → Has (S a))
    → Apart f2 c1 → Sub f1 f → (n1 ≡ true → Sub f2 f) → (n1 ≡ true → n2 ≡ true → n ≡ true) → Sub c2 c → (n2 ≡ true → Sub c1 c)
    → (n1 ≡ true → m ≤ m2) → m ≤ suc m2
    → Law f n c m (Seq R S) (seq p q) (seq p' q')
core_seq {R = R} {S = S} {p = p} {p' = p'} {q = q} {q' = q'} {f1 = f1} {c1 = c1} {f2 = f2} {c2 = c2} {n1 = n1} {n2 = n2} {m = m} {m2 = m2} f n c l k s d s1 s2 s3 s4 s5 w1 w2 = record {
  first = λ ts b e. subst (Begins f n) (sym e.3) (seq_first f1 f2 f n1 n2 n s1 s2 s3 e.0 e.1 (l.first e.0 e.2 e.4) ((k e.2).first e.1 b e.5));
  full = λ ts rest b e h.
      ap (λ z. seq p q (z ++ rest)) e.3 ∙ ap (seq p q) (append_assoc e.0 e.1 rest)
      ∙ ap (λ z. z >>= (λ x. q x.0 x.1)) (l.full e.0 (e.1 ++ rest) e.2 e.4 (seq_halts f2 c1 c n2 d s5 e.1 rest ((k e.2).first e.1 b e.5) h))
      ∙ (k e.2).full e.1 rest b e.5 (fewer c2 c s4 rest h);
  tells = λ ts. seq_tells R S p q ts (λ a rest. (k a).tells rest) s (p ts) (l.tells ts);
  lives = λ ts h e. seq_lives q p f1 n1 m m2 ts l.first w1 w2 (λ a rest. (k a).lives rest) h (p ts) (l.tells ts) (l.lives ts h) e;
  extends = λ ts. seq_extends q q' (λ a rest. (k a).extends rest) (p ts) (p' ts) (l.extends ts);
}

none : (n : Bool) (f : List ℕ) → n ≡ true → Sub f (where_none n f)
none true f h k m = m
none false f h k m = absurd (cc)

abbrev pub both : Bool → Bool → Bool
both a b = if a then b else false

both_true : (a b : Bool) → a ≡ true → b ≡ true → both a b ≡ true
both_true a b h k = ap (λ z. both z b) h ∙ k

pub fine_seq : {A B : Type 0} {R : Rule A} {S : A → Rule B} {p p' : Reader A} {q q' : A → Reader B} {f1 c1 f2 c2 : List ℕ} {n1 n2 : Bool} {m : ℕ}
    → Fine f1 n1 c1 m R p p' → ((a : A) → Fine f2 n2 c2 m (S a) (q a) (q' a)) → apart f2 c1 ≡ true
    → Fine (f1 ++ where_none n1 f2) (both n1 n2) (c2 ++ where_none n2 c1) m (Seq R S) (seq p q) (seq p' q')
fine_seq {f1 = f1} {c1 = c1} {f2 = f2} {c2 = c2} {n1 = n1} {n2 = n2} l k d = record {
  law = core_seq _ _ _ l.law (λ a. (k a).law) (λ a. (k a).some) (disjoint f2 c1 d)
      (mem_left f1 (where_none n1 f2)) (λ h i e. mem_right f1 (where_none n1 f2) i (none n1 f2 h i e)) (both_true n1 n2)
      (mem_left c2 (where_none n2 c1)) (λ h i e. mem_right c2 (where_none n2 c1) i (none n2 c1 h i e))
      (λ h. omega arith) (omega arith);
  some = let w = (k l.some.1).some in (l.some.0 ++ w.0, w.1, (l.some.0, w.0, l.some.1, refl, l.some.2, w.2));
}

-- behind a token one more of the bound is enough
pub law_after : {A B : Type 0} {R : Rule A} {S : A → Rule B} {p p' : Reader A} {q q' : A → Reader B} {f1 c1 f2 c2 : List ℕ} {n2 : Bool} {m : ℕ}
    → Fine f1 false c1 (suc m) R p p' → ((a : A) → Fine f2 n2 c2 m (S a) (q a) (q' a)) → apart f2 c1 ≡ true
    → Law f1 false (c2 ++ where_none n2 c1) (suc m) (Seq R S) (seq p q) (seq p' q')
law_after {f1 = f1} {c1 = c1} {f2 = f2} {c2 = c2} {n2 = n2} l k d =
    core_seq _ _ _ l.law (λ a. (k a).law) (λ a. (k a).some) (disjoint f2 c1 d)
    (λ i e. e) (λ h. absurd (cc)) (λ h e. absurd (cc))
    (mem_left c2 (where_none n2 c1)) (λ h i e. mem_right c2 (where_none n2 c1) i (none n2 c1 h i e))
    (λ h. absurd (cc)) (omega arith)

-- ---- one or the other
starts_same : (ks : List ℕ) (front : List Tok) (t : Tok) (x y : List Tok) → starts ks (front ++ t ∷ y) ≡ starts ks (front ++ t ∷ x)
starts_same ks [] t x y = refl
starts_same ks (u ∷ front) t x y = refl

starts_yes : (f ks : List ℕ) → Sub f ks → (ts rest : List Tok) → Begins f false ts → starts ks (ts ++ rest) ≡ true
starts_yes f ks s [] rest h = absurd (cc)
starts_yes f ks s (t ∷ ts) rest h = s (kind t.0) h

starts_none : (ks : List ℕ) (rest : List Tok) → Halts ks rest → starts ks rest ≡ false
starts_none ks [] h = refl
starts_none ks (t ∷ rest) h = h

starts_no : (f ks : List ℕ) (n : Bool) → Apart f ks → (ts rest : List Tok) → (n ≡ true → Halts ks rest) → Begins f n ts → starts ks (ts ++ rest) ≡ false
starts_no f ks n d [] rest k h = starts_none ks rest (k h)
starts_no f ks n d (t ∷ ts) rest k h = d (kind t.0) h

tells_as : {A : Type 0} (R R' : Rule A) (p p' : Reader A) (ts : List Tok) → ((front : List Tok) (a : A) → R front a → R' front a)
    → ((front : List Tok) (t : Tok) (x y : List Tok) → ts ≡ front ++ t ∷ x → p' (front ++ t ∷ y) ≡ p (front ++ t ∷ y))
    → (r : Reading A) → Tells R p ts r → Tells R' p' ts r
tells_as R R' p p' ts i same (Ok x) l = record {
  front = l.front;
  derives = i l.front x.0 l.derives;
  splits = l.splits;
  same = λ t y z e. same l.front t y z (l.splits ∙ ap (λ w. l.front ++ w) e) ∙ l.same t y z e;
}
tells_as R R' p p' ts i same (Err (Unexpected at)) l = record {
  front = l.front;
  token = l.token;
  after = l.after;
  splits = l.splits;
  here = l.here;
  more = l.more;
  value = l.value;
  derives = i (l.front ++ l.more) l.value l.derives;
  same = λ y. same l.front l.token l.after y l.splits ∙ l.same y;
}
tells_as R R' p p' ts i same (Err EndOfText) l = record { more = l.more; value = l.value; derives = i (ts ++ l.more) l.value l.derives }
tells_as R R' p p' ts i same (Err OutOfMemory) l = absurd l
tells_as R R' p p' ts i same (Err BoundReached) l = tt

either_same : {A : Type 0} (ks : List ℕ) (p q : Reader A) (b : Bool) (ts : List Tok) → starts ks ts ≡ b
    → (front : List Tok) (t : Tok) (x y : List Tok) → ts ≡ front ++ t ∷ x
    → either ks p q (front ++ t ∷ y) ≡ (if b then p (front ++ t ∷ y) else q (front ++ t ∷ y))
either_same ks p q b ts e front t x y h =
    ap (λ z. if z then p (front ++ t ∷ y) else q (front ++ t ∷ y)) (starts_same ks front t x y ∙ ap (starts ks) (sym h) ∙ e)

either_tells : {A : Type 0} (R S : Rule A) (ks : List ℕ) (p q : Reader A) (ts : List Tok) → Tells R p ts (p ts) → Tells S q ts (q ts)
    → (b : Bool) → starts ks ts ≡ b → Tells (Either R S) (either ks p q) ts (if b then p ts else q ts)
either_tells R S ks p q ts l k true e = tells_as R (Either R S) p (either ks p q) ts (λ front a r. inl r) (either_same ks p q true ts e) (p ts) l
either_tells R S ks p q ts l k false e = tells_as S (Either R S) q (either ks p q) ts (λ front a r. inr r) (either_same ks p q false ts e) (q ts) k

either_lives : {A : Type 0} (r s : Reading A) → (r ≡ Err BoundReached → ⊥) → (s ≡ Err BoundReached → ⊥) → (b : Bool) → (if b then r else s) ≡ Err BoundReached → ⊥
either_lives r s l k true e = l e
either_lives r s l k false e = k e

either_extends : {A : Type 0} (r s r' s' : Reading A) → (r ≡ Err BoundReached) ⊎ (r ≡ r') → (s ≡ Err BoundReached) ⊎ (s ≡ s')
    → (b : Bool) → ((if b then r else s) ≡ Err BoundReached) ⊎ ((if b then r else s) ≡ (if b then r' else s'))
either_extends r s r' s' l k true = l
either_extends r s r' s' l k false = k

either_first : {A : Type 0} (R S : Rule A) (f1 f2 f : List ℕ) (n2 n : Bool) → Sub f1 f → Sub f2 f → (n2 ≡ true → n ≡ true)
    → ((ts : List Tok) (a : A) → R ts a → Begins f1 false ts) → ((ts : List Tok) (a : A) → S ts a → Begins f2 n2 ts)
    → (ts : List Tok) (a : A) → Either R S ts a → Begins f n ts
either_first R S f1 f2 f n2 n s1 s2 s3 l k ts a (inl r) = begins_more f1 f false n s1 (λ h. absurd (cc)) ts (l ts a r)
either_first R S f1 f2 f n2 n s1 s2 s3 l k ts a (inr r) = begins_more f2 f n2 n s2 s3 ts (k ts a r)

either_full : {A : Type 0} {R S : Rule A} {p p' q q' : Reader A} {f1 c1 f2 c2 : List ℕ} {n2 : Bool} {m : ℕ} (ks c : List ℕ)
    → Law f1 false c1 m R p p' → Law f2 n2 c2 m S q q' → Sub f1 ks → Apart f2 ks → Sub c1 c → Sub c2 c → (n2 ≡ true → Sub ks c)
    → (ts rest : List Tok) (a : A) → Either R S ts a → Halts c rest → either ks p q (ts ++ rest) ≡ Ok (a, rest)
either_full {p = p} {q = q} {f1 = f1} {c1 = c1} {f2 = f2} {c2 = c2} {n2 = n2} ks c l k s d s1 s2 s3 ts rest a (inl r) h =
    ap (λ b. if b then p (ts ++ rest) else q (ts ++ rest)) (starts_yes f1 ks s ts rest (l.first ts a r)) ∙ l.full ts rest a r (fewer c1 c s1 rest h)
either_full {p = p} {q = q} {f1 = f1} {c1 = c1} {f2 = f2} {c2 = c2} {n2 = n2} ks c l k s d s1 s2 s3 ts rest a (inr r) h =
    ap (λ b. if b then p (ts ++ rest) else q (ts ++ rest)) (starts_no f2 ks n2 d ts rest (λ e. fewer ks c (s3 e) rest h) (k.first ts a r))
    ∙ k.full ts rest a r (fewer c2 c s2 rest h)

core_either : {A : Type 0} {R S : Rule A} {p p' q q' : Reader A} {f1 c1 f2 c2 : List ℕ} {n2 : Bool} {m : ℕ} (ks f : List ℕ) (n : Bool) (c : List ℕ)
    → Law f1 false c1 m R p p' → Law f2 n2 c2 m S q q' → Sub f1 ks → Apart f2 ks → Sub f1 f → Sub f2 f → (n2 ≡ true → n ≡ true)
    → Sub c1 c → Sub c2 c → (n2 ≡ true → Sub ks c)
    → Law f n c m (Either R S) (either ks p q) (either ks p' q')
core_either {R = R} {S = S} {p = p} {p' = p'} {q = q} {q' = q'} {f1 = f1} {c1 = c1} {f2 = f2} {c2 = c2} {n2 = n2} ks f n c l k s d t1 t2 t3 s1 s2 s3 = record {
  first = either_first R S f1 f2 f n2 n t1 t2 t3 l.first k.first;
  full = either_full ks c l k s d s1 s2 s3;
  tells = λ ts. either_tells R S ks p q ts (l.tells ts) (k.tells ts) (starts ks ts) refl;
  lives = λ ts h e. either_lives (p ts) (q ts) (l.lives ts h) (k.lives ts h) (starts ks ts) e;
  extends = λ ts. either_extends (p ts) (q ts) (p' ts) (q' ts) (l.extends ts) (k.extends ts) (starts ks ts);
}

pub law_either : {A : Type 0} {R S : Rule A} {p p' q q' : Reader A} {f1 c1 f2 c2 : List ℕ} {n2 : Bool} {m : ℕ} (ks : List ℕ)
    → Law f1 false c1 m R p p' → Law f2 n2 c2 m S q q' → inside f1 ks ≡ true → apart f2 ks ≡ true
    → Law (f1 ++ f2) n2 (c1 ++ (c2 ++ where_none n2 ks)) m (Either R S) (either ks p q) (either ks p' q')
law_either {f1 = f1} {c1 = c1} {f2 = f2} {c2 = c2} {n2 = n2} ks l k s d =
    core_either ks _ _ _ l k (sub f1 ks s) (disjoint f2 ks d) (mem_left f1 f2) (mem_right f1 f2) (λ e. e)
    (mem_left c1 (c2 ++ where_none n2 ks)) (λ i e. mem_right c1 (c2 ++ where_none n2 ks) i (mem_left c2 (where_none n2 ks) i e))
    (λ h i e. mem_right c1 (c2 ++ where_none n2 ks) i (mem_right c2 (where_none n2 ks) i (none n2 ks h i e)))

pub fine_either : {A : Type 0} {R S : Rule A} {p p' q q' : Reader A} {f1 c1 f2 c2 : List ℕ} {n2 : Bool} {m : ℕ} (ks : List ℕ)
    → Law f1 false c1 m R p p' → Fine f2 n2 c2 m S q q' → inside f1 ks ≡ true → apart f2 ks ≡ true
    → Fine (f1 ++ f2) n2 (c1 ++ (c2 ++ where_none n2 ks)) m (Either R S) (either ks p q) (either ks p' q')
fine_either ks l k s d = record { law = law_either ks l k.law s d; some = (k.some.0, k.some.1, inr k.some.2) }

-- ---- larger sets, and a lower bound
pub law_wide : {A : Type 0} {R : Rule A} {p p' : Reader A} {f c : List ℕ} {n : Bool} {m : ℕ} (f' c' : List ℕ)
    → Law f n c m R p p' → inside f f' ≡ true → inside c c' ≡ true → Law f' n c' m R p p'
law_wide {f = f} {c = c} {n = n} f' c' l s t = record {
  first = λ ts a r. begins_more f f' n n (sub f f' s) (λ h. h) ts (l.first ts a r);
  full = λ ts rest a r h. l.full ts rest a r (fewer c c' (sub c c' t) rest h);
  tells = l.tells;
  lives = l.lives;
  extends = l.extends;
}

pub fine_wide : {A : Type 0} {R : Rule A} {p p' : Reader A} {f c : List ℕ} {n : Bool} {m : ℕ} (f' c' : List ℕ)
    → Fine f n c m R p p' → inside f f' ≡ true → inside c c' ≡ true → Fine f' n c' m R p p'
fine_wide f' c' l s t = record { law = law_wide f' c' l.law s t; some = l.some }

pub law_lower : {A : Type 0} {R : Rule A} {p p' : Reader A} {f c : List ℕ} {n : Bool} {m : ℕ} (k : ℕ) → k ≤ m → Law f n c m R p p' → Law f n c k R p p'
law_lower k h l = record { first = l.first; full = l.full; tells = l.tells; lives = λ ts g e. l.lives ts (omega arith) e; extends = l.extends }

-- ---- as often as there is one
shut_tells : {A : Type 0} (ks : List ℕ) (a : A) (ts : List Tok) → (b : Bool) → starts ks ts ≡ b → Tells (Done a) (either ks deep (done a)) ts (if b then Err BoundReached else Ok (a, ts))
shut_tells ks a ts true e = tt
shut_tells ks a ts false e = record {
  front = [];
  derives = (refl, refl);
  splits = refl;
  same = λ t x y h. either_same ks deep (done a) false ts e [] t x y h;
}

shut_extends : {A : Type 0} (r s : Reading A) → (b : Bool) → ((if b then Err BoundReached else s) ≡ Err BoundReached) ⊎ ((if b then Err BoundReached else s) ≡ (if b then r else s))
shut_extends r s true = inl refl
shut_extends r s false = inr refl

pub some_turns : {A : Type 0} (n : ℕ) (R : A → Rule A) (a : A) → Has (Turns n R a)
some_turns zero R a = ([], a, (refl, refl))
some_turns (suc n) R a = ([], a, inr (refl, refl))

law_turns : {A : Type 0} {R : A → Rule A} {p p' : A → Reader A} {f c : List ℕ} {m : ℕ} (n : ℕ) (ks : List ℕ)
    → ((a : A) → Law f false c m (R a) (p a) (p' a)) → Sub f ks → Apart f c → n ≤ m
    → (a : A) → Law f true (c ++ ks) n (Turns n R a) (turns n ks p a) (turns (suc n) ks p' a)
law_turns {R = R} {p = p} {p' = p'} {f = f} {c = c} zero ks l s d h a = record {
  first = λ ts b e. subst (Begins f true) (sym e.0) refl;
  full = λ ts rest b e k.
      ap (λ z. either ks deep (done a) (z ++ rest)) e.0
      ∙ ap (λ z. if z then Err BoundReached else Ok (a, rest)) (starts_none ks rest (fewer ks (c ++ ks) (mem_right c ks) rest k))
      ∙ λ i. Ok (sym e.1 i, rest);
  tells = λ ts. shut_tells ks a ts (starts ks ts) refl;
  lives = λ ts g e. omega arith;
  extends = λ ts. shut_extends (seq (p' a) (turns zero ks p') ts) (Ok (a, ts)) (starts ks ts);
}
law_turns {R = R} {p = p} {p' = p'} {f = f} {c = c} (suc n) ks l s d h a =
    core_either ks f true (c ++ ks)
    (core_seq f false (c ++ ks) (law_lower (suc n) h (l a)) (law_turns n ks l s d (omega arith)) (some_turns n R)
    d (λ i e. e) (λ g. absurd (cc)) (λ g e. absurd (cc)) (λ i e. e) (λ g. mem_left c ks) (λ g. absurd (cc)) (omega arith))
    (fine_done (suc n) a).law s (λ i e. absurd (cc)) (λ i e. e) (λ i e. absurd (cc)) (λ e. e) (λ i e. e) (λ i e. absurd (cc)) (λ e. mem_right c ks)

pub fine_turns : {A : Type 0} {R : A → Rule A} {p p' : A → Reader A} {f c : List ℕ} {m : ℕ} (n : ℕ) (ks : List ℕ)
    → ((a : A) → Law f false c m (R a) (p a) (p' a)) → inside f ks ≡ true → apart f c ≡ true → n ≤ m
    → (a : A) → Fine f true (c ++ ks) n (Turns n R a) (turns n ks p a) (turns (suc n) ks p' a)
fine_turns {R = R} {f = f} {c = c} n ks l s d h a = record { law = law_turns n ks l (sub f ks s) (disjoint f c d) h a; some = some_turns n R a }

-- ---- rules that others are made of
pub fine_as : {A B : Type 0} {R : Rule A} {p p' : Reader A} {f c : List ℕ} {n : Bool} {m : ℕ} (g : A → B)
    → Fine f n c m R p p' → Fine f n c m (As R g) (as_at p g) (as_at p' g)
fine_as {f = f} {c = c} {n = n} {m = m} g l = record {
  law = core_seq f n c l.law (λ a. (fine_done m (g a)).law) (λ a. (fine_done m (g a)).some)
      (λ i e. absurd (cc)) (λ i e. e) (λ h i e. absurd (cc)) (λ h k. h) (λ i e. absurd (cc)) (λ h i e. e) (λ h. omega arith) (omega arith);
  some = (l.some.0 ++ [], g l.some.1, (l.some.0, [], l.some.1, refl, l.some.2, (refl, refl)));
}

pub law_as : {A B : Type 0} {R : Rule A} {p p' : Reader A} {f c : List ℕ} {n : Bool} {m : ℕ} (g : A → B)
    → Law f n c m R p p' → Law f n c m (As R g) (as_at p g) (as_at p' g)
law_as {f = f} {c = c} {n = n} {m = m} g l = core_seq f n c l (λ a. (fine_done m (g a)).law) (λ a. (fine_done m (g a)).some)
    (λ i e. absurd (cc)) (λ i e. e) (λ h i e. absurd (cc)) (λ h k. h) (λ i e. absurd (cc)) (λ h i e. e) (λ h. omega arith) (omega arith)

pub fine_many : {A : Type 0} {R : Rule A} {p p' : Reader A} {f c : List ℕ} {m : ℕ} (n : ℕ) (ks : List ℕ)
    → Fine f false c m R p p' → inside f ks ≡ true → apart f c ≡ true → n ≤ m
    → Fine f true (c ++ ks) n (Many n R) (many_at n ks p) (many_at (suc n) ks p')
fine_many n ks l s d h = fine_turns n ks (λ xs. (fine_as (λ x. xs ++ x ∷ []) l).law) s d h []

sign_if : (b : Bool) (x a : ℕ) → (if b then Some x else None) ≡ Some a → (if b then true else false) ≡ true
sign_if true x a e = refl
sign_if false x a e = absurd (cc)

-- t is a token of the kind
pub fine_sign : (m k : ℕ) (t : Token) → nat_eq (kind t) k ≡ true → Fine (k ∷ []) false [] m (Sign k) (sign_at k) (sign_at k)
fine_sign m k t e = fine_one m (k ∷ []) (sign k) (λ u a h. sign_if (nat_eq (kind u.0) k) u.1 a h) (t, 0) 0 (ap (λ b. if b then Some 0 else None) e)

pub fine_flag : (m k : ℕ) (t : Token) → nat_eq (kind t) k ≡ true → Fine (k ∷ []) true (k ∷ []) m (Flag k) (flag_at k) (flag_at k)
fine_flag m k t e = record {
  law = core_either (k ∷ []) (k ∷ []) true (k ∷ []) (fine_as (λ _. true) (fine_sign m k t e)).law (fine_done m false).law
      (λ i h. h) (λ i h. absurd (cc)) (λ i h. h) (λ i h. absurd (cc)) (λ h. h) (λ i h. absurd (cc)) (λ i h. absurd (cc)) (λ h i g. g);
  some = ([], false, inr (refl, refl));
}

law_next : {A : Type 0} {R : Rule A} {p p' : Reader A} {f c : List ℕ} {m : ℕ} (k : ℕ) (t : Token) → nat_eq (kind t) k ≡ true
    → Fine f false c m R p p' → (xs : List A) → Law (k ∷ []) false c m (Next k R xs) (next_at k p xs) (next_at k p' xs)
law_next {f = f} {c = c} {m = m} k t e l xs =
    core_seq (k ∷ []) false c (fine_sign m k t e).law (λ _. (fine_as (λ x. xs ++ x ∷ []) l).law) (λ _. (fine_as (λ x. xs ++ x ∷ []) l).some)
    (λ i h. refl) (λ i h. h) (λ h. absurd (cc)) (λ h g. absurd (cc)) (λ i h. h) (λ h. absurd (cc)) (λ h. absurd (cc)) (omega arith)

pub fine_between : {A : Type 0} {R : Rule A} {p p' : Reader A} {f c : List ℕ} (n k : ℕ) (t : Token) (ks : List ℕ) → nat_eq (kind t) k ≡ true
    → Fine f false c n R p p' → inside f ks ≡ true → apart (k ∷ []) c ≡ true
    → Fine f true ((c ++ k ∷ []) ++ ks) n (Between n k R) (between_at n k ks p) (between_at (suc n) k ks p')
fine_between {R = R} {p = p} {p' = p'} {f = f} {c = c} n k t ks e l s d = record {
  law = core_either ks f true ((c ++ k ∷ []) ++ ks)
      (core_seq f false (c ++ k ∷ []) l.law (λ x. law_turns n (k ∷ []) (law_next k t e l) (λ i h. h) (disjoint (k ∷ []) c d) (omega arith) (x ∷ []))
      (λ x. some_turns n (Next k R) (x ∷ []))
      (disjoint (k ∷ []) c d) (λ i h. h) (λ h. absurd (cc)) (λ h g. absurd (cc)) (λ i h. h) (λ h. mem_left c (k ∷ [])) (λ h. absurd (cc)) (omega arith))
      (fine_done n []).law (sub f ks s) (λ i h. absurd (cc)) (λ i h. h) (λ i h. absurd (cc)) (λ h. h)
      (mem_left (c ++ k ∷ []) ks) (λ i h. absurd (cc)) (λ h. mem_right (c ++ k ∷ []) ks);
  some = ([], [], inr (refl, refl));
}

pick_mem : {B : Type 0} (es : List (ℕ × B)) (k : ℕ) (b : B) → pick es k ≡ Some b → mem k (keys es) ≡ true
pick_mem [] k b e = absurd (cc)
pick_mem (d ∷ es) k b e = at (nat_eq k d.0) e (pick_mem es k b)
  where
    at : (t : Bool) → (if t then Some d.1 else pick es k) ≡ Some b → (pick es k ≡ Some b → mem k (keys es) ≡ true) → (if t then true else mem k (keys es)) ≡ true
    at true h g = refl
    at false h g = g h

placed_mem : {B : Type 0} (ks : List ℕ) (k at : ℕ) (o : Option B) (b : B × ℕ) → placed at o ≡ Some b → ((a : B) → o ≡ Some a → mem k ks ≡ true) → mem k ks ≡ true
placed_mem ks k at None b e h = absurd (cc)
placed_mem ks k at (Some a) b e h = h a refl

-- t is a token of one of the kinds
pub fine_pick : {B : Type 0} (m : ℕ) (es : List (ℕ × B)) (t : Token) (b : B × ℕ) → picked es (t, 0) ≡ Some b → Fine (keys es) false [] m (Pick es) (pick_at es) (pick_at es)
fine_pick m es t b e = fine_one m (keys es) (picked es) (λ u a h. placed_mem (keys es) (kind u.0) u.1 (pick es (kind u.0)) a h (λ d g. pick_mem es (kind u.0) d g)) (t, 0) b e

pub fine_chain : {A B : Type 0} {R : Rule A} {p p' : Reader A} {f c : List ℕ} (n : ℕ) (es : List (ℕ × B)) (g : B → A → A → A) (t : Token) (b : B × ℕ) → picked es (t, 0) ≡ Some b
    → Fine f false c n R p p' → apart (keys es) c ≡ true → Fine f false (c ++ keys es) n (Chain n es g R) (chain_at n es g p) (chain_at (suc n) es g p')
fine_chain {R = R} {p = p} {p' = p'} {f = f} {c = c} n es g t b e l d =
    let step : (a : _) → Law (keys es) false c n (Further es g R a) (further_at es g p a) (further_at es g p' a)
    = λ a. core_seq (keys es) false c (fine_pick n es t b e).law (λ o. (fine_as (λ y. g o.0 a y) l).law) (λ o. (fine_as (λ y. g o.0 a y) l).some)
    (λ i h. refl) (λ i h. h) (λ h. absurd (cc)) (λ h k. absurd (cc)) (λ i h. h) (λ h. absurd (cc)) (λ h. absurd (cc)) (omega arith) in
    record {
      law = core_seq f false (c ++ keys es) l.law (law_turns n (keys es) step (λ i h. h) (disjoint (keys es) c d) (omega arith)) (some_turns n (Further es g R))
          (disjoint (keys es) c d) (λ i h. h) (λ h. absurd (cc)) (λ h k. absurd (cc)) (λ i h. h) (λ h. mem_left c (keys es)) (λ h. absurd (cc)) (omega arith);
      some = let w = some_turns n (Further es g R) l.some.1 in (l.some.0 ++ w.0, w.1, (l.some.0, w.0, l.some.1, refl, l.some.2, w.2));
    }

-- ---- a higher bound derives no less
same_found : {A : Type 0} (x y : A × List Tok) → (let r : Reading A = Ok x in r) ≡ Ok y → x ≡ y
same_found x y e = cc

grow_at : {A : Type 0} (R' : Rule A) (p' : Reader A) (ts : List Tok) (a : A) (r : Reading A) → Tells R' p' ts r → r ≡ Ok (a, []) → R' ts a
grow_at {A = A} R' p' ts a (Ok x) l e =
    let q : x ≡ (a, []) = same_found x (a, []) e in
    let s : ts ≡ l.front = l.splits ∙ ap (λ (z : A × List Tok). l.front ++ z.1) q ∙ append-nil l.front in
    subst (λ z. R' z a) (sym s) (subst (R' l.front) (ap (λ (z : A × List Tok). z.0) q) l.derives)
grow_at {A = A} R' p' ts a (Err f) l e = absurd (cc)

grow_from : {A : Type 0} (r r' : Reading A) (x : A × List Tok) → (r ≡ Err BoundReached) ⊎ (r ≡ r') → r ≡ Ok x → r' ≡ Ok x
grow_from r r' x (inl d) e = absurd (cc)
grow_from r r' x (inr d) e = sym d ∙ e

pub grow : {A : Type 0} {R R' : Rule A} {p p' p'' : Reader A} {f c f' c' : List ℕ} {n n' : Bool} {m m' : ℕ}
    → Law f n c m R p p' → Law f' n' c' m' R' p' p'' → (ts : List Tok) (a : A) → R ts a → R' ts a
grow {R' = R'} {p = p} {p' = p'} l k ts a r =
    grow_at R' p' ts a (p' ts) (k.tells ts) (grow_from (p ts) (p' ts) (a, []) (l.extends ts) (ap p (sym (append-nil ts)) ∙ l.full ts [] a r tt))
