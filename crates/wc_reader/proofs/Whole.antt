-- A reading of all tokens says exactly what the grammar says.
use Rattle.std.proofs.Common.{◌≡◌, ℕ, zero, suc, ◌+◌, ◌-◌, ◌<◌, List, [], ◌∷◌, ◌++◌, Result, Ok, Err, refl, sym, ap, ◌∙◌, append_assoc, append-nil, arith, subst, ◌⊎◌, inl, inr, length}
use Rattle.wc_syntax.specs.declared.definition.Definition.{Definition}
use Rattle.wc_grammar.specs.declared.fault.Fault.{Fault}
use Rattle.wc_grammar.specs.declared.fault.Fault.TheVariants as fault
use Rattle.wc_grammar.specs.Rules.{Tok, Reading}
use Rattle.wc_grammar.proofs.Laws.{Tells, TellsOk}
use Rattle.wc_reader.specs.declared.error.ReadError.TheVariants.{OutOfMemory, Unexpected, EndOfText}
use Rattle.wc_reader.specs.Grammar.{Libraries, Derives}
use Rattle.wc_reader.specs.Reading.{library_at, ended, rest_of, whole}
use Rattle.wc_reader.specs.Answer.{GoesOn, Breaks, Cut, Answer, Says, Told, Meets, Sees}
use Rattle.wc_reader.proofs.DefinitionLaws.{library_law}
use Rattle.wc_reader.proofs.Places.{Places, places}

-- ---- a higher bound changes nothing but that it is reached
abbrev up : ℕ → ℕ → ℕ
up zero n = n
up (suc j) n = up j (suc n)

up_is : (j n : ℕ) → up j n ≡ j + n
up_is zero n = omega arith
up_is (suc j) n = up_is j (suc n) ∙ omega arith

step_more : (r s t : Reading (List Definition)) → (r ≡ Err fault.BoundReached) ⊎ (r ≡ s) → (s ≡ Err fault.BoundReached) ⊎ (s ≡ t) → (r ≡ Err fault.BoundReached) ⊎ (r ≡ t)
step_more r s t (inl e) k = inl e
step_more r s t (inr e) (inl k) = inl (e ∙ k)
step_more r s t (inr e) (inr k) = inr (e ∙ k)

more : (j n : ℕ) (ts : List Tok) → (library_at n ts ≡ Err fault.BoundReached) ⊎ (library_at n ts ≡ library_at (up j n) ts)
more zero n ts = inr refl
more (suc j) n ts = step_more (library_at n ts) (library_at (suc n) ts) (library_at (up j (suc n)) ts) ((library_law n).law.extends ts) (more j (suc n) ts)

agree_at : (r s t : Reading (List Definition)) (x : List Definition × List Tok) → (r ≡ Err fault.BoundReached) ⊎ (r ≡ t) → (s ≡ Err fault.BoundReached) ⊎ (s ≡ t) → r ≡ Ok x → (s ≡ Err fault.BoundReached → ⊥) → s ≡ Ok x
agree_at r s t x (inl e) k h d = absurd (cc)
agree_at r s t x (inr e) (inl k) h d = absurd (d k)
agree_at r s t x (inr e) (inr k) h d = k ∙ sym e ∙ h

agree : (k n : ℕ) (ts : List Tok) (x : List Definition × List Tok) → library_at k ts ≡ Ok x → (library_at n ts ≡ Err fault.BoundReached → ⊥) → library_at n ts ≡ Ok x
agree k n ts x h d =
    let e : up (k - n) n ≡ up (n - k) k = up_is (k - n) n ∙ omega arith ∙ sym (up_is (n - k) k) in
    agree_at (library_at k ts) (library_at n ts) (library_at (up (n - k) k) ts) x (more (n - k) k ts)
    (subst (λ (z : ℕ). (library_at n ts ≡ Err fault.BoundReached) ⊎ (library_at n ts ≡ library_at z ts)) e (more (k - n) n ts)) h d

-- what derives is read at each bound that is high enough
pub read_back : (n : ℕ) (ts : List Tok) (library : List Definition) → Derives ts library → (library_at n ts ≡ Err fault.BoundReached → ⊥) → library_at n ts ≡ Ok (library, [])
read_back n ts library d h =
    agree d.0 n ts (library, []) (ap (library_at d.0) (sym (append-nil ts)) ∙ (library_law d.0).law.full ts [] library d.1 tt) h

-- ---- the answer
-- no library's tokens begin so, where none is read whatever follows
breaks : (n : ℕ) (front : List Tok) (t : Tok) (r : List Tok → Reading (List Definition)) → ((y : List Tok) → library_at n (front ++ t ∷ y) ≡ r y)
    → ((y : List Tok) → r y ≡ Err fault.BoundReached → ⊥) → ((y : List Tok) (library : List Definition) → r y ≡ Ok (library, []) → ⊥)
    → GoesOn (front ++ t ∷ []) → ⊥
breaks n front t r same d k g =
    let e : (front ++ t ∷ []) ++ g.0 ≡ front ++ t ∷ g.0 = append_assoc front (t ∷ []) g.0 in
    k g.0 g.1 (sym (same g.0) ∙ read_back n (front ++ t ∷ g.0) g.1 (subst (λ z. Derives z g.1) e g.2) (λ h. d g.0 (sym (same g.0) ∙ h)))

same_ok : (x y : List Definition × List Tok) (e : (let r : Reading (List Definition) = Ok x in r) ≡ Ok y) → x ≡ y
same_ok x y e = cc

not_all : (library f : List Definition) (t : Tok) (y : List Tok) → (let r : Reading (List Definition) = Ok (library, t ∷ y) in r) ≡ Ok (f, []) → ⊥
not_all library f t y h =
    let q : t ∷ y ≡ [] = ap (λ (z : List Definition × List Tok). z.1) (same_ok (library, t ∷ y) (f, []) h) in
    absurd (cc)

-- what the reading within a bound says
abbrev pub SaysFault : List Tok → Result (List Definition) Fault → Type 0
SaysFault ts (Ok library) = Derives ts library
SaysFault ts (Err (fault.Unexpected at)) = Breaks ts at
SaysFault ts (Err fault.EndOfText) = Cut ts
SaysFault ts (Err fault.OutOfMemory) = ⊥
SaysFault ts (Err fault.BoundReached) = ⊥

says_ok : (n : ℕ) (ts : List Tok) (library : List Definition) (rest : List Tok) → TellsOk (Libraries n) (library_at n) ts library rest → SaysFault ts (rest_of library rest)
says_ok n ts library [] l = (n, subst (λ z. Libraries n z library) (sym (append-nil l.front) ∙ sym l.splits) l.derives)
says_ok n ts library (t ∷ after) l = record {
  front = l.front;
  token = t;
  after = after;
  splits = l.splits;
  here = refl;
  goes_on = ([], library, (n, subst (λ z. Libraries n z library) (sym (append-nil l.front)) l.derives));
  ends = breaks n l.front t (λ y. Ok (library, t ∷ y)) (λ y. l.same t after y refl) (λ y h. absurd (cc)) (λ y f h. not_all library f t y h);
}

says : (n : ℕ) (ts : List Tok) → (r : Reading (List Definition)) → library_at n ts ≡ r → Tells (Libraries n) (library_at n) ts r → (r ≡ Err fault.BoundReached → ⊥) → SaysFault ts (ended r)
says n ts (Ok x) e l d = says_ok n ts x.0 x.1 l
says n ts (Err (fault.Unexpected at)) e l d = record {
  front = l.front;
  token = l.token;
  after = l.after;
  splits = l.splits;
  here = l.here;
  goes_on = (l.more, l.value, (n, l.derives));
  ends = breaks n l.front l.token (λ y. Err (fault.Unexpected at)) l.same (λ y h. absurd (cc)) (λ y f h. absurd (cc));
}
says n ts (Err fault.EndOfText) e l d = record {
  goes_on = (l.more, l.value, (n, l.derives));
  no_library = λ library g. let k : library_at n ts ≡ Ok (library, []) = read_back n ts library g (λ h. absurd (cc)) in absurd (cc);
}
says n ts (Err fault.OutOfMemory) e l d = absurd l
says n ts (Err fault.BoundReached) e l d = d refl

pub whole_says : (n : ℕ) (ts : List Tok) → length ts < n → SaysFault ts (whole n ts)
whole_says n ts h = says n ts (library_at n ts) refl ((library_law n).law.tells ts) ((library_law n).law.lives ts h)

-- ---- one answer alone holds
-- what begins as a library does so from its front on
fronts : (f : List Tok) (t : Tok) (m front : List Tok) → front ≡ f ++ t ∷ m → GoesOn front → GoesOn (f ++ t ∷ [])
fronts f t m front e g =
    (m ++ g.0, g.1, subst (λ z. Derives z g.1) (ap (λ z. z ++ g.0) e ∙ append_assoc f (t ∷ m) g.0 ∙ sym (append_assoc f (t ∷ []) (m ++ g.0))) g.2)

one_place : (ts : List Tok) (a b : ℕ) (k : Breaks ts a) (l : Breaks ts b) → Places k.front l.front k.token l.token → a ≡ b
one_place ts a b k l (inl p) = k.here ∙ ap (λ (t : Tok). t.1) p.1 ∙ sym l.here
one_place ts a b k l (inr (inl p)) = absurd (k.ends (fronts k.front k.token p.0 l.front p.1 l.goes_on))
one_place ts a b k l (inr (inr p)) = absurd (l.ends (fronts l.front l.token p.0 k.front p.1 k.goes_on))

whole_goes : (ts : List Tok) (at : ℕ) → Breaks ts at → GoesOn ts → ⊥
whole_goes ts at k g = k.ends (fronts k.front k.token k.after ts k.splits g)

library_goes : (ts : List Tok) (library : List Definition) → Derives ts library → GoesOn ts
library_goes ts library d = ([], library, subst (λ z. Derives z library) (sym (append-nil ts)) d)

-- tokens are one library's
pub one_library : (ts : List Tok) (a b : List Definition) → Derives ts a → Derives ts b → a ≡ b
one_library ts a b d e =
    let n = suc (length ts) in
    let live : library_at n ts ≡ Err fault.BoundReached → ⊥ = (library_law n).law.lives ts (omega arith) in
    let p = read_back n ts a d live in
    let q = read_back n ts b e live in
    let r : (a, []) ≡ (b, []) = same_ok (a, []) (b, []) (sym p ∙ q) in
    ap (λ (z : List Definition × List Tok). z.0) r

pub one_answer : (ts : List Tok) (r s : Answer) → Says ts r → Says ts s → r ≡ s
one_answer ts (Ok a) (Ok b) h k = ap (λ z. Ok z) (one_library ts a b h k)
one_answer ts (Ok a) (Err (Unexpected at)) h k = absurd (whole_goes ts at k (library_goes ts a h))
one_answer ts (Ok a) (Err EndOfText) h k = absurd (k.no_library a h)
one_answer ts (Ok a) (Err OutOfMemory) h k = absurd k
one_answer ts (Err (Unexpected at)) (Ok b) h k = absurd (whole_goes ts at h (library_goes ts b k))
one_answer ts (Err (Unexpected a)) (Err (Unexpected b)) h k = ap (λ z. Err (Unexpected z)) (one_place ts a b h k (places h.front k.front h.token k.token h.after k.after (sym h.splits ∙ k.splits)))
one_answer ts (Err (Unexpected at)) (Err EndOfText) h k = absurd (whole_goes ts at h k.goes_on)
one_answer ts (Err (Unexpected at)) (Err OutOfMemory) h k = absurd k
one_answer ts (Err EndOfText) (Ok b) h k = absurd (h.no_library b k)
one_answer ts (Err EndOfText) (Err (Unexpected at)) h k = absurd (whole_goes ts at k h.goes_on)
one_answer ts (Err EndOfText) (Err EndOfText) h k = refl
one_answer ts (Err EndOfText) (Err OutOfMemory) h k = absurd k
one_answer ts (Err OutOfMemory) s h k = absurd h

-- ---- some answer holds
answered : (ts : List Tok) → (r : Result (List Definition) Fault) → SaysFault ts r → (a : Answer) × Says ts a
answered ts (Ok library) h = (Ok library, h)
answered ts (Err (fault.Unexpected at)) h = (Err (Unexpected at), h)
answered ts (Err fault.EndOfText) h = (Err EndOfText, h)
answered ts (Err fault.OutOfMemory) h = absurd h
answered ts (Err fault.BoundReached) h = absurd h

pub some_answer : (ts : List Tok) → (r : Answer) × Says ts r
some_answer ts = answered ts (whole (suc (length ts)) ts) (whole_says (suc (length ts)) ts (omega arith))

-- ---- what a call returned
-- The bound is never reached.
fault_says : (ts : List Tok) (r : Result (List Definition) Fault) → SaysFault ts r → r ≡ Err fault.BoundReached → ⊥
fault_says ts (Ok library) h e = absurd (cc)
fault_says ts (Err (fault.Unexpected at)) h e = absurd (cc)
fault_says ts (Err fault.EndOfText) h e = absurd (cc)
fault_says ts (Err fault.OutOfMemory) h e = absurd (cc)
fault_says ts (Err fault.BoundReached) h e = h

pub never_reached : (ts : List Tok) → whole (length ts + 1) ts ≡ Err fault.BoundReached → ⊥
never_reached ts e = fault_says ts (whole (length ts + 1) ts) (whole_says (length ts + 1) ts (omega arith)) e

pub told : (ts : List Tok) (r : Answer) (read : Result (List Definition) Fault) → Sees r read → SaysFault ts read → Told ts r
told ts (Ok library) read e h = subst (SaysFault ts) e h
told ts (Err (Unexpected at)) read e h = subst (SaysFault ts) e h
told ts (Err EndOfText) read e h = subst (SaysFault ts) e h
told ts (Err OutOfMemory) read e h = tt

pub meets : (ts : List Tok) (r : Answer) → Told ts r → (other : Answer) → Says ts other → Meets r other
meets ts (Ok library) t other k = one_answer ts (Ok library) other t k
meets ts (Err (Unexpected at)) t other k = one_answer ts (Err (Unexpected at)) other t k
meets ts (Err EndOfText) t other k = one_answer ts (Err EndOfText) other t k
meets ts (Err OutOfMemory) t other k = tt
