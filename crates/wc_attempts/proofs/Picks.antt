-- Which arm is taken: that of the first handler by priority that names the status.
use Rattle.std.proofs.Common.{◌≡◌, ◌∙◌, ap, sym, refl, ℕ, ◌<◌, ◌≤◌, Bool, true, false, List, [], ◌∷◌, Option, Some, None, arith}
use Rattle.std.proofs.lemmas.Bool.Decides.{nat_tests}
use Rattle.std.specs.Prelude.{nat_lt, if◌then◌else◌}
use Rattle.std.specs.List.{AllByRecursion}
use Rattle.wc_handlers.specs.declared.spec.Handler.{Handler}
use Rattle.wc_attempts.specs.Attempts.{better, best_among}
use Rattle.wc_restart.specs.Chains.{inserted, sorted_among, by_priority}

-- the first that passes a test
abbrev pub first_of : (Handler → Bool) → List Handler → Option Handler
first_of t [] = None
first_of t (h ∷ hs) = if t h then Some h else first_of t hs

-- ---- in order

abbrev AtMost : ℕ → List Handler → Type 0
AtMost n = AllByRecursion (λ k. k.priority ≤ n)

abbrev Falling : List Handler → Type 0
Falling [] = Unit {0}
Falling (h ∷ hs) = AtMost h.priority hs × Falling hs

at_most_more : (m n : ℕ) (hs : List Handler) → m ≤ n → AtMost m hs → AtMost n hs
at_most_more m n [] h a = tt
at_most_more m n (k ∷ hs) h a = (let b : k.priority ≤ m = a.0 in omega arith, at_most_more m n hs h a.1)

at_most_inserted : (n : ℕ) (h : Handler) (ks : List Handler) → h.priority ≤ n → AtMost n ks → AtMost n (inserted h ks)
at_most_inserted n h [] p a = (p, tt)
at_most_inserted n h (k ∷ ks) p a = by_test (nat_lt k.priority h.priority) (at_most_inserted n h ks p a.1)
  where
    by_test : (b : Bool) → AtMost n (inserted h ks) → AtMost n (if b then h ∷ (k ∷ ks) else k ∷ inserted h ks)
    by_test true rest = (p, a)
    by_test false rest = (a.0, rest)

less_than : (m n : ℕ) → nat_lt m n ≡ true → m < n
less_than m n h = grind (arith, nat_tests)

not_less : (m n : ℕ) → nat_lt m n ≡ false → n ≤ m
not_less m n h = grind (arith, nat_tests)

is_less : (m n : ℕ) → m < n → nat_lt m n ≡ true
is_less m n h = grind (arith, nat_tests)

falls_inserted : (h : Handler) (ks : List Handler) → Falling ks → Falling (inserted h ks)
falls_inserted h [] f = (tt, tt)
falls_inserted h (k ∷ ks) f = by_test (nat_lt k.priority h.priority) refl (falls_inserted h ks f.1)
  where
    by_test : (b : Bool) → nat_lt k.priority h.priority ≡ b → Falling (inserted h ks) → Falling (if b then h ∷ (k ∷ ks) else k ∷ inserted h ks)
    by_test true e rest =
        let l : k.priority < h.priority = less_than k.priority h.priority e in
        let m : k.priority ≤ h.priority = omega arith in
        ((m, at_most_more k.priority h.priority ks m f.0), f)
    by_test false e rest = (at_most_inserted k.priority h ks (not_less k.priority h.priority e) f.0, rest)

-- ---- the first that passes

first_at_most : (t : Handler → Bool) (n : ℕ) (ks : List Handler) (m : Handler) → AtMost n ks → first_of t ks ≡ Some m → m.priority ≤ n
first_at_most t n [] m a e = absurd (cc)
first_at_most t n (k ∷ ks) m a e = by_test (t k) e (λ p. first_at_most t n ks m a.1 p)
  where
    by_test : (b : Bool) → (if b then Some k else first_of t ks) ≡ Some m → (first_of t ks ≡ Some m → m.priority ≤ n) → m.priority ≤ n
    by_test true p rest = let q : k ≡ m = cc in let r : k.priority ≡ m.priority = ap (λ x. x.priority) q in let s : k.priority ≤ n = a.0 in omega arith
    by_test false p rest = rest p

beats : (t : Handler → Bool) (h : Handler) (ks : List Handler) (n : ℕ) (o : Option Handler) → n < h.priority → AtMost n ks → first_of t ks ≡ o → better o h ≡ Some h
beats t h ks n None l a e = refl
beats t h ks n (Some m) l a e =
    let p : m.priority ≤ n = first_at_most t n ks m a e in
    let q : m.priority < h.priority = omega arith in
    ap (λ (b : Bool). if b then Some h else Some m) (is_less m.priority h.priority q)

first_inserted : (t : Handler → Bool) (h : Handler) (ks : List Handler) → Falling ks
    → first_of t (inserted h ks) ≡ (if t h then better (first_of t ks) h else first_of t ks)
first_inserted t h [] f = refl
first_inserted t h (k ∷ ks) f = by_test (nat_lt k.priority h.priority) refl (first_inserted t h ks f.1)
  where
    kept : (b c d : Bool) (o : Option Handler) → d ≡ false → o ≡ (if b then better (first_of t ks) h else first_of t ks)
        → (if c then Some k else o) ≡ (if b then (if c then (if d then Some h else Some k) else better (first_of t ks) h) else (if c then Some k else first_of t ks))
    kept true true d o p q = ap (λ (e : Bool). if e then Some h else Some k) (sym p)
    kept true false d o p q = q
    kept false true d o p q = refl
    kept false false d o p q = q

    pushed : (c d : Bool) (o : Option Handler) → better (if c then Some k else o) h ≡ (if c then (if nat_lt k.priority h.priority then Some h else Some k) else better o h)
    pushed true d o = refl
    pushed false d o = refl

    by_test : (b : Bool) → nat_lt k.priority h.priority ≡ b → first_of t (inserted h ks) ≡ (if t h then better (first_of t ks) h else first_of t ks)
        → first_of t (if b then h ∷ (k ∷ ks) else k ∷ inserted h ks) ≡ (if t h then better (first_of t (k ∷ ks)) h else first_of t (k ∷ ks))
    by_test true e rest =
        let l : k.priority < h.priority = less_than k.priority h.priority e in
        let m : k.priority ≤ k.priority = omega arith in
        ap (λ (o : Option Handler). if t h then o else first_of t (k ∷ ks)) (sym (beats t h (k ∷ ks) k.priority (first_of t (k ∷ ks)) l (m, f.0) refl))
    by_test false e rest =
        kept (t h) (t k) (nat_lt k.priority h.priority) (first_of t (inserted h ks)) e rest
        ∙ ap (λ (o : Option Handler). if t h then o else first_of t (k ∷ ks)) (sym (pushed (t k) true (first_of t ks)))

first_sorted : (t : Handler → Bool) (found hs : List Handler) → Falling found → first_of t (sorted_among found hs) ≡ best_among t (first_of t found) hs
first_sorted t found [] f = refl
first_sorted t found (h ∷ hs) f = first_sorted t (inserted h found) hs (falls_inserted h found f) ∙ ap (λ (o : Option Handler). best_among t o hs) (first_inserted t h found f)

-- the first by priority that passes a test is the best that does
pub first_is_best : (t : Handler → Bool) (hs : List Handler) → first_of t (by_priority hs) ≡ best_among t None hs
first_is_best t hs = first_sorted t [] hs tt
