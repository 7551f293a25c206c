-- The exit codes of a chain: they differ, are in range, and are those that the chain ends with.
use Rattle.std.proofs.Common.{◌≡◌, ◌≢◌, ◌∙◌, ap, sym, refl, subst, ℕ, suc, ◌+◌, ◌<◌, ◌≤◌, ℤ, pos, Bool, true, false, if◌then◌else◌, List, [], ◌∷◌, ◌++◌, map, length, arith}
use Rattle.std.proofs.lemmas.Bool.Decides.{nat_tests, Decides-int_eq}
use Rattle.std.proofs.lemmas.Bool.{le-leb}
use Rattle.std.proofs.lemmas.List.{map-append}
use Rattle.std.specs.Prelude.{flat_map, nat_lt, ◌==◌, not, ◌&&◌, ◌||◌}
use Rattle.std.specs.Fmt.{signed_decimal}
use Rattle.std.specs.Ordering.{int_eq}
use Rattle.std.specs.List.{AllByRecursion, list_any}
use Rattle.wc_handlers.specs.declared.spec.Handler.{Handler}
use Rattle.wc_handlers.specs.declared.spec.Remedy.{Remedy}
use Rattle.wc_handlers.specs.declared.spec.Remedy.TheVariants as remedy
use Rattle.wc_handlers.specs.declared.spec.Spec.{Spec}
use Rattle.wc_handlers.specs.Specs.{IsRemedy, IsHandler}
use Rattle.wc_syntax.specs.Findings.{unless, twice, bad_status, is_status, repeated_statuses_after, bad_range}
use Rattle.wc_syntax.specs.declared.expression.Number.{Number}
use Rattle.wc_restart.specs.Chains.{placed, with_abort, aborts_among, aborts, aborted, codes_of}
use Rattle.wc_restart.specs.Pieces.{number}
use Rattle.wc_expansion.proofs.Lists.{none, all_more, or_left, or_right}

-- a status with which a handler may end a chain
abbrev pub IsAbort : ℕ → Type 0
IsAbort n = (100 ≤ n) × (n ≤ 9999) × (n ≢ 401) × (n ≢ 402)

abbrev Above : ℕ → List ℕ → Type 0
Above n = AllByRecursion (λ m. n < m)

-- strictly ascending
abbrev pub Rising : List ℕ → Type 0
Rising [] = Unit {0}
Rising (n ∷ ns) = Above n ns × Rising ns

less_than : (m n : ℕ) → nat_lt m n ≡ true → m < n
less_than m n h = grind (arith, nat_tests)

other_way : (m n : ℕ) → nat_lt m n ≡ false → (m == n) ≡ false → n < m
other_way m n h k = grind (arith, nat_tests)

above_more : (m n : ℕ) → m < n → (ns : List ℕ) → Above n ns → Above m ns
above_more m n h ns a = all_more (λ k. n < k) (λ k. m < k) (λ k l. omega arith) ns a

-- ---- one status among others

placed_all : (P : ℕ → Type 0) (n : ℕ) (ms : List ℕ) → P n → AllByRecursion P ms → AllByRecursion P (placed n ms)
placed_all P n [] p a = (p, tt)
placed_all P n (m ∷ ms) p a = by_tests (nat_lt n m) (n == m) (placed_all P n ms p a.1)
  where
    by_tests : (b c : Bool) → AllByRecursion P (placed n ms) → AllByRecursion P (if b then n ∷ (m ∷ ms) else (if c then m ∷ ms else m ∷ placed n ms))
    by_tests true c rest = (p, a)
    by_tests false true rest = a
    by_tests false false rest = (a.0, rest)

placed_rises : (n : ℕ) (ms : List ℕ) → Rising ms → Rising (placed n ms)
placed_rises n [] r = (tt, tt)
placed_rises n (m ∷ ms) r = by_tests (nat_lt n m) (n == m) refl refl (placed_rises n ms r.1)
  where
    by_tests : (b c : Bool) → nat_lt n m ≡ b → (n == m) ≡ c → Rising (placed n ms) → Rising (if b then n ∷ (m ∷ ms) else (if c then m ∷ ms else m ∷ placed n ms))
    by_tests true c h k rest = let l = less_than n m h in ((l, above_more n m l ms r.0), r)
    by_tests false true h k rest = r
    by_tests false false h k rest = (placed_all (λ j. m < j) n ms (other_way n m h k) r.0, rest)

placed_few : (n : ℕ) (ms : List ℕ) → length (placed n ms) ≤ suc (length ms)
placed_few n [] = omega arith
placed_few n (m ∷ ms) = by_tests (nat_lt n m) (n == m) (placed_few n ms)
  where
    by_tests : (b c : Bool) → length (placed n ms) ≤ suc (length ms) → length (if b then n ∷ (m ∷ ms) else (if c then m ∷ ms else m ∷ placed n ms)) ≤ suc (suc (length ms))
    by_tests true c h = omega arith
    by_tests false true h = omega arith
    by_tests false false h = omega arith

abbrev pub has : ℕ → List ℕ → Bool
has n = list_any (λ m. m == n)

itself : (n : ℕ) → (n == n) ≡ true
itself n = grind (arith, nat_tests)

has_equal : (n m : ℕ) (ms : List ℕ) → (n == m) ≡ true → has n (m ∷ ms) ≡ true
has_equal n m ms h = or_left (m == n) (has n ms) (turned n m h)
  where
    turned : (n m : ℕ) → (n == m) ≡ true → (m == n) ≡ true
    turned n m h = grind (arith, nat_tests)

placed_has : (n : ℕ) (ms : List ℕ) → has n (placed n ms) ≡ true
placed_has n [] = or_left (n == n) false (itself n)
placed_has n (m ∷ ms) = by_tests (nat_lt n m) (n == m) refl (placed_has n ms)
  where
    by_tests : (b c : Bool) → (n == m) ≡ c → has n (placed n ms) ≡ true → has n (if b then n ∷ (m ∷ ms) else (if c then m ∷ ms else m ∷ placed n ms)) ≡ true
    by_tests true c k h = or_left (n == n) (has n (m ∷ ms)) (itself n)
    by_tests false true k h = has_equal n m ms k
    by_tests false false k h = or_right (m == n) (has n (placed n ms)) h

or_split : (a b c d : Bool) → (a || b) ≡ true → (a ≡ true → c ≡ true) → (b ≡ true → d ≡ true) → (c || d) ≡ true
or_split true b c d h f g = or_left c d (f refl)
or_split false b c d h f g = or_right c d (g h)

placed_keeps : (n k : ℕ) (ms : List ℕ) → has k ms ≡ true → has k (placed n ms) ≡ true
placed_keeps n k [] h = absurd (cc)
placed_keeps n k (m ∷ ms) h = by_tests (nat_lt n m) (n == m) (placed_keeps n k ms)
  where
    by_tests : (b c : Bool) → (has k ms ≡ true → has k (placed n ms) ≡ true) → has k (if b then n ∷ (m ∷ ms) else (if c then m ∷ ms else m ∷ placed n ms)) ≡ true
    by_tests true c f = or_right (n == k) (has k (m ∷ ms)) h
    by_tests false true f = h
    by_tests false false f = or_split (m == k) (has k ms) (m == k) (has k (placed n ms)) h (λ e. e) f

-- ---- of all handlers

abbrev pub AbortKept : List ℕ → Remedy → Type 0
AbortKept ns (remedy.Call name) = Unit {0}
AbortKept ns (remedy.Abort status) = has status ns ≡ true

-- what is kept of ascending statuses
pub record Kept (ns : List ℕ) : Type 0 where
  pub rising : Rising ns
  pub aborts : AllByRecursion IsAbort ns

with_kept : (r : Remedy) (ns : List ℕ) → IsRemedy r → Kept ns → Kept (with_abort r ns)
with_kept (remedy.Call name) ns h k = k
with_kept (remedy.Abort status) ns h k = record { rising = placed_rises status ns k.rising; aborts = placed_all IsAbort status ns h k.aborts }

with_few : (r : Remedy) (ns : List ℕ) → length (with_abort r ns) ≤ suc (length ns)
with_few (remedy.Call name) ns = omega arith
with_few (remedy.Abort status) ns = placed_few status ns

with_keeps : (r : Remedy) (k : ℕ) (ns : List ℕ) → has k ns ≡ true → has k (with_abort r ns) ≡ true
with_keeps (remedy.Call name) k ns h = h
with_keeps (remedy.Abort status) k ns h = placed_keeps status k ns h

among_kept : (ns : List ℕ) (hs : List Handler) → AllByRecursion IsHandler hs → Kept ns → Kept (aborts_among ns hs)
among_kept ns [] a k = k
among_kept ns (h ∷ hs) a k = let i : IsHandler h = a.0 in among_kept (with_abort h.remedy ns) hs a.1 (with_kept h.remedy ns i.remedy k)

among_few : (ns : List ℕ) (hs : List Handler) → length (aborts_among ns hs) ≤ length ns + length hs
among_few ns [] = omega arith
among_few ns (h ∷ hs) =
    let l : length (aborts_among (with_abort h.remedy ns) hs) ≤ length (with_abort h.remedy ns) + length hs = among_few (with_abort h.remedy ns) hs in
    let m : length (with_abort h.remedy ns) ≤ suc (length ns) = with_few h.remedy ns in
    omega arith

among_keeps : (ns : List ℕ) (hs : List Handler) (k : ℕ) → has k ns ≡ true → has k (aborts_among ns hs) ≡ true
among_keeps ns [] k h = h
among_keeps ns (x ∷ hs) k h = among_keeps (with_abort x.remedy ns) hs k (with_keeps x.remedy k ns h)

kept_then : (ns : List ℕ) (hs : List Handler) (r : Remedy) → AbortKept (aborts_among (with_abort r ns) hs) r
kept_then ns hs (remedy.Call name) = tt
kept_then ns hs (remedy.Abort status) = among_keeps (placed status ns) hs status (placed_has status ns)

among_have : (ns : List ℕ) (hs : List Handler) → AllByRecursion (λ h. AbortKept (aborts_among ns hs) h.remedy) hs
among_have ns [] = tt
among_have ns (h ∷ hs) = (kept_then ns hs h.remedy, among_have (with_abort h.remedy ns) hs)

pub aborts_kept : (hs : List Handler) → AllByRecursion IsHandler hs → Kept (aborts hs)
aborts_kept hs a = among_kept [] hs a (record { rising = tt; aborts = tt })

pub aborts_few : (hs : List Handler) → length (aborts hs) ≤ length hs
aborts_few hs = let l : length (aborts_among [] hs) ≤ 0 + length hs = among_few [] hs in omega arith

-- the status of each handler is among them
pub aborts_have : (hs : List Handler) → AllByRecursion (λ h. AbortKept (aborts hs) h.remedy) hs
aborts_have hs = among_have [] hs

-- ---- the statuses of the chain

abbrev numbers : List ℕ → List ℤ
numbers = map (λ n. pos n)

-- the same as integers
int_same : (m n : ℕ) → (m == n) ≡ true → int_eq (pos m) (pos n) ≡ true
int_same m n h = let e : m ≡ n = grind (arith, nat_tests) in (Decides-int_eq (pos m) (pos n)).1 (ap (λ (k : ℕ). pos k) e)

int_apart : (m n : ℕ) → m ≢ n → int_eq (pos m) (pos n) ≡ false
int_apart m n h = by_test (int_eq (pos m) (pos n)) refl
  where
    by_test : (b : Bool) → int_eq (pos m) (pos n) ≡ b → b ≡ false
    by_test true e = let p : (let z : ℤ = pos m in z) ≡ pos n = (Decides-int_eq (pos m) (pos n)).0 e in let q : m ≡ n = cc in absurd (h q)
    by_test false e = refl

pub status_has : (n : ℕ) (ns : List ℕ) → has n ns ≡ true → is_status (pos n) (numbers ns) ≡ true
status_has n [] h = absurd (cc)
status_has n (m ∷ ns) h = or_split (m == n) (has n ns) (int_eq (pos m) (pos n)) (is_status (pos n) (numbers ns)) h (int_same m n) (status_has n ns)

status_new : (n : ℕ) (ms : List ℕ) → AllByRecursion (λ m. m ≢ n) ms → is_status (pos n) (numbers ms) ≡ false
status_new n [] a = refl
status_new n (m ∷ ms) a = λ i. int_apart m n a.0 i || status_new n ms a.1 i

abbrev statuses : List ℕ → List Number
statuses = map number

more_before : (n : ℕ) (before ns : List ℕ) → Above n ns → AllByRecursion (λ k. AllByRecursion (λ m. m ≢ k) before) ns → AllByRecursion (λ k. AllByRecursion (λ m. m ≢ k) (before ++ n ∷ [])) ns
more_before n before [] h a = tt
more_before n before (k ∷ ns) h a = (one before a.0, more_before n before ns h.1 a.1)
  where
    one : (ms : List ℕ) → AllByRecursion (λ m. m ≢ k) ms → AllByRecursion (λ m. m ≢ k) (ms ++ n ∷ [])
    one [] b = (λ e. let l : n < k = h.0 in absurd (omega arith), tt)
    one (m ∷ ms) b = (b.0, one ms b.1)

none_twice : (before ns : List ℕ) → Rising ns → AllByRecursion (λ k. AllByRecursion (λ m. m ≢ k) before) ns → repeated_statuses_after (numbers before) (statuses ns) ≡ []
none_twice before [] r a = refl
none_twice before (n ∷ ns) r a =
    none (unless (not (is_status (pos n) (numbers before))) (twice (signed_decimal (pos n)) 0)) (repeated_statuses_after (numbers before ++ pos n ∷ []) (statuses ns))
    (ap (λ (b : Bool). unless (not b) (twice (signed_decimal (pos n)) 0)) (status_new n before a.0))
    (subst (λ (z : List ℤ). repeated_statuses_after z (statuses ns) ≡ []) (map-append (λ m. pos m) before (n ∷ [])) (none_twice (before ++ n ∷ []) ns r.1 (more_before n before ns r.0 a.1)))

own_statuses : (ns : List ℕ) → AllByRecursion IsAbort ns → AllByRecursion (λ k. AllByRecursion (λ m. m ≢ k) (401 ∷ (402 ∷ []))) ns
own_statuses ns a = all_more IsAbort (λ k. AllByRecursion (λ m. m ≢ k) (401 ∷ (402 ∷ []))) (λ k i. (λ e. i.2 (sym e), (λ e. i.3 (sym e), tt))) ns a

statuses_are : (ns : List ℕ) → map (λ c. c.status) (map aborted ns) ≡ statuses ns
statuses_are [] = refl
statuses_are (n ∷ ns) = λ i. number n ∷ statuses_are ns i

abbrev pub declared_of : Spec → List Number
declared_of s = map (λ c. c.status) (codes_of s)

declared_are : (s : Spec) → declared_of s ≡ number 401 ∷ (number 402 ∷ statuses (aborts s.handlers))
declared_are s = ap (λ (z : List Number). number 401 ∷ (number 402 ∷ z)) (statuses_are (aborts s.handlers))

-- No status is declared twice.
pub statuses_differ : (s : Spec) → AllByRecursion IsHandler s.handlers → repeated_statuses_after [] (declared_of s) ≡ []
statuses_differ s a =
    let k = aborts_kept s.handlers a in
    ap (repeated_statuses_after []) (declared_are s) ∙ none_twice (401 ∷ (402 ∷ [])) (aborts s.handlers) k.rising (own_statuses (aborts s.handlers) k.aborts)

in_range : (n : ℕ) → IsAbort n → bad_range (number n) ≡ []
in_range n i = λ j. unless (le-leb 100 n i.0 j && le-leb n 9999 i.1 j) (bad_status 0)

ranges : (ns : List ℕ) → AllByRecursion IsAbort ns → flat_map bad_range (statuses ns) ≡ []
ranges [] a = refl
ranges (n ∷ ns) a = none (bad_range (number n)) (flat_map bad_range (statuses ns)) (in_range n a.0) (ranges ns a.1)

-- Each is from 100 to 9999.
pub statuses_in_range : (s : Spec) → AllByRecursion IsHandler s.handlers → flat_map bad_range (declared_of s) ≡ []
statuses_in_range s a = let k = aborts_kept s.handlers a in ap (flat_map bad_range) (declared_are s) ∙ ranges (aborts s.handlers) k.aborts

abbrev pub values_of : Spec → List ℤ
values_of s = map (λ n. n.value) (declared_of s)

values_are : (ns : List ℕ) → map (λ n. n.value) (statuses ns) ≡ numbers ns
values_are [] = refl
values_are (n ∷ ns) = λ i. pos n ∷ values_are ns i

-- a status with which a handler ends the chain is declared
pub declared_has : (s : Spec) (n : ℕ) → has n (aborts s.handlers) ≡ true → is_status (pos n) (values_of s) ≡ true
declared_has s n h =
    ap (λ (z : List Number). is_status (pos n) (map (λ m. m.value) z)) (declared_are s)
    ∙ or_right (int_eq (pos 401) (pos n)) (int_eq (pos 402) (pos n) || is_status (pos n) (map (λ m. m.value) (statuses (aborts s.handlers))))
    (or_right (int_eq (pos 402) (pos n)) (is_status (pos n) (map (λ m. m.value) (statuses (aborts s.handlers))))
    (ap (is_status (pos n)) (values_are (aborts s.handlers)) ∙ status_has n (aborts s.handlers) h))

-- so are the two of the chain itself
pub declared_own : (s : Spec) → (is_status (pos 401) (values_of s) ≡ true) × (is_status (pos 402) (values_of s) ≡ true)
declared_own s = (refl, refl)
