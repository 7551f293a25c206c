-- Entries that are exactly those of processes, while one is put in or taken out.
use Rattle.std.proofs.Common.{◌≡◌, ℕ, zero, suc, ◌<◌, ◌≤◌, Bool, true, false, Option, Some, None, List, [], ◌∷◌, length, map, get_or, inl, inr, refl, sym, ap, ◌∙◌, arith}
use Rattle.std.specs.Prelude.{if◌then◌else◌, ◌==◌, nat_eq, ◌||◌, ◌⊎◌}
use Rattle.std.specs.List.{list_any, AllByRecursion, IsDistinct}
use Rattle.std.specs.List.Sorted.{IsPermutation, IsSortedBy}
use Rattle.std.specs.Str.{bytes_eq}
use Rattle.std.proofs.lemmas.Bool.{eqb-true, eq-eqb, ne_eqb, cases_eq, and_parts, and_from}
use Rattle.std.proofs.lemmas.List.Sorted.{list_any-IsPermutation}
use Rattle.std.proofs.lemmas.Cmp.{nat_eq_equiv}
use Rattle.std.proofs.lemmas.List.{length-map}
use Rattle.std.proofs.lemmas.Map.Keys.{IsDistinct-IsPermutation, IsDistinct-from_apart, IsDistinct-cons, apart_from_distinct}
use Rattle.std.proofs.lemmas.Map.Made.{length-le_from_is_member}
use Rattle.std.proofs.lemmas.Slice.Eq.{bytes_eq-Decides}
use Rattle.wc_value.proofs.Puts.{same_name}
use Rattle.wc_records.specs.Marked.{AllAfter, IsSorted, marked}
use Rattle.wc_records.proofs.Marks.{sorted_marked}
use Rattle.wc_records.proofs.Standing.{stands_itself, stands_other}
use Rattle.wc_keys.specs.declared.entries.Sealed.{Sealed}
use Rattle.wc_keys.specs.Order.{earlier, is_seal, is_in, has_digest, NumbersAbove, NumbersAscend, AreSealsOf, without}
use Rattle.wc_keys.specs.Laws.{OneList}
use Rattle.wc_keys.proofs.Orders.{in_order, seal_tests}
use Rattle.wc_keys.proofs.Sorting.{sorted_apart}

-- ---- an entry with a digest

has_itself : (digest : List ℕ) → has_digest digest (Some digest) ≡ true
has_itself digest = (bytes_eq-Decides digest digest).1 refl

-- another digest, or another number
differs : (digest d : List ℕ) (pid p : ℕ) → (is_seal digest pid (record { digest = d; pid = p }) ≡ true → ⊥) → is_seal digest pid (record { digest = d; pid = p }) ≡ false
differs digest d pid p ne = told (is_seal digest pid (record { digest = d; pid = p })) refl
  where
    told : (b : Bool) → is_seal digest pid (record { digest = d; pid = p }) ≡ b → is_seal digest pid (record { digest = d; pid = p }) ≡ false
    told true is = absurd (ne is)
    told false is = is

module _ (digest_at : ℕ → Option (List ℕ)) (pid : ℕ) where
  without_itself : without pid digest_at pid ≡ None
  without_itself = ap (λ (b : Bool). if b then None else digest_at pid) (eq-eqb pid pid refl)

  without_other : (n : ℕ) → (n ≡ pid → ⊥) → without pid digest_at n ≡ digest_at n
  without_other n ne = ap (λ (b : Bool). if b then None else digest_at n) (ne_eqb n pid ne)

  -- where the process has no digest, nothing is left out
  pub without_none : digest_at pid ≡ None → (n : ℕ) → without pid digest_at n ≡ digest_at n
  without_none none n =
      elim (cases_eq n pid) [
        | inl same ↦ ap (without pid digest_at) same ∙ without_itself ∙ sym none ∙ ap digest_at (sym same)
        | inr ne ↦ without_other n ne
      ]

  module _ (d : List ℕ) (is : digest_at pid ≡ Some d) (seals : List Sealed) where
    abbrev its_seal : Sealed
    its_seal = record { digest = d; pid = pid }

    -- the entry is put in
    pub put_exact : AreSealsOf (without pid digest_at) seals → AreSealsOf digest_at (marked earlier its_seal true seals)
    put_exact h = record {
      order = sorted_marked earlier in_order its_seal true seals h.order;
      exact = λ digest n. told digest n (is_seal digest n its_seal) refl;
    }
      where
        told : (digest : List ℕ) (n : ℕ) (b : Bool) → is_seal digest n its_seal ≡ b → is_in digest n (marked earlier its_seal true seals) ≡ has_digest digest (digest_at n)
        told digest n true same =
            let both = and_parts (bytes_eq d digest) (pid == n) same in
            let e : d ≡ digest = same_name d digest both.0 in
            let number : pid ≡ n = eqb-true pid n both.1 in
            ap (λ (x : List ℕ). is_in x n (marked earlier its_seal true seals)) (sym e)
            ∙ ap (λ (m : ℕ). is_in d m (marked earlier its_seal true seals)) (sym number)
            ∙ stands_itself earlier in_order (is_seal d pid) its_seal (seal_tests its_seal) true seals h.order
            ∙ sym (ap (has_digest digest) (ap digest_at (sym number) ∙ is) ∙ both.0)
        told digest n false other =
            stands_other earlier in_order (is_seal digest n) its_seal true seals other ∙ h.exact digest n ∙ same_as (cases_eq n pid)
          where
            same_as : (n ≡ pid) ⊎ (n ≡ pid → ⊥) → has_digest digest (without pid digest_at n) ≡ has_digest digest (digest_at n)
            same_as (inr ne) = ap (has_digest digest) (without_other n ne)
            same_as (inl e) =
                ap (λ (m : ℕ). has_digest digest (without pid digest_at m)) e ∙ ap (has_digest digest) without_itself
                ∙ sym (ap (has_digest digest) (ap digest_at e ∙ is) ∙ lacks (bytes_eq d digest) refl)
              where
                lacks : (b : Bool) → bytes_eq d digest ≡ b → bytes_eq d digest ≡ false
                lacks true has = absurd (let there = and_from (bytes_eq d digest) (pid == n) has (eq-eqb pid n (sym e)) in cc)
                lacks false isnt = isnt

    -- the entry is taken out
    pub take_exact : AreSealsOf digest_at seals → AreSealsOf (without pid digest_at) (marked earlier its_seal false seals)
    take_exact h = record {
      order = sorted_marked earlier in_order its_seal false seals h.order;
      exact = λ digest n. told digest n (is_seal digest n its_seal) refl;
    }
      where
        told : (digest : List ℕ) (n : ℕ) (b : Bool) → is_seal digest n its_seal ≡ b → is_in digest n (marked earlier its_seal false seals) ≡ has_digest digest (without pid digest_at n)
        told digest n true same =
            let both = and_parts (bytes_eq d digest) (pid == n) same in
            let e : d ≡ digest = same_name d digest both.0 in
            let number : pid ≡ n = eqb-true pid n both.1 in
            ap (λ (x : List ℕ). is_in x n (marked earlier its_seal false seals)) (sym e)
            ∙ ap (λ (m : ℕ). is_in d m (marked earlier its_seal false seals)) (sym number)
            ∙ stands_itself earlier in_order (is_seal d pid) its_seal (seal_tests its_seal) false seals h.order
            ∙ sym (ap (λ (m : ℕ). has_digest digest (without pid digest_at m)) (sym number) ∙ ap (has_digest digest) without_itself)
        told digest n false other =
            stands_other earlier in_order (is_seal digest n) its_seal false seals other ∙ h.exact digest n ∙ same_as (cases_eq n pid)
          where
            same_as : (n ≡ pid) ⊎ (n ≡ pid → ⊥) → has_digest digest (digest_at n) ≡ has_digest digest (without pid digest_at n)
            same_as (inr ne) = sym (ap (has_digest digest) (without_other n ne))
            same_as (inl e) =
                ap (has_digest digest) (ap digest_at e ∙ is) ∙ lacks (bytes_eq d digest) refl
                ∙ sym (ap (λ (m : ℕ). has_digest digest (without pid digest_at m)) e ∙ ap (has_digest digest) without_itself)
              where
                lacks : (b : Bool) → bytes_eq d digest ≡ b → bytes_eq d digest ≡ false
                lacks true has = absurd (let there = and_from (bytes_eq d digest) (pid == n) has (eq-eqb pid n (sym e)) in cc)
                lacks false isnt = isnt

-- the same digests have the same entries
pub exact_same : (f g : ℕ → Option (List ℕ)) (seals : List Sealed) → ((n : ℕ) → f n ≡ g n) → AreSealsOf f seals → AreSealsOf g seals
exact_same f g seals same h = record { order = h.order; exact = λ digest n. h.exact digest n ∙ ap (has_digest digest) (same n) }

-- ---- entries put in order

above_at : (low : ℕ) (seals : List Sealed) (k : ℕ) (e : Sealed) → NumbersAbove low seals → k < length seals → low < (get_or seals k e).pid
above_at low [] k e h lt = absurd (omega (arith, lt))
above_at low (s ∷ seals) zero e h lt = h.0
above_at low (s ∷ seals) (suc k) e h lt = let more = above_at s.pid seals k e h.1 (omega arith) in let first = h.0 in omega (arith, more, first)

rising : (low : ℕ) (seals : List Sealed) (i j : ℕ) (e : Sealed) → NumbersAbove low seals → i < j → j < length seals → (get_or seals i e).pid < (get_or seals j e).pid
rising low [] i j e h lt within = absurd (omega (arith, within))
rising low (s ∷ seals) zero zero e h lt within = absurd (omega (arith, lt))
rising low (s ∷ seals) zero (suc j) e h lt within = above_at s.pid seals j e h.1 (omega arith)
rising low (s ∷ seals) (suc i) zero e h lt within = absurd (omega (arith, lt))
rising low (s ∷ seals) (suc i) (suc j) e h lt within = rising s.pid seals i j e h.1 (omega arith) (omega arith)

-- numbers ascend from place to place
pub places_rise : (seals : List Sealed) (i j : ℕ) (e : Sealed) → NumbersAscend seals → i < j → j < length seals → (get_or seals i e).pid < (get_or seals j e).pid
places_rise [] i j e h lt within = absurd (omega (arith, within))
places_rise (s ∷ seals) zero zero e h lt within = absurd (omega (arith, lt))
places_rise (s ∷ seals) zero (suc j) e h lt within = above_at s.pid seals j e h (omega arith)
places_rise (s ∷ seals) (suc i) zero e h lt within = absurd (omega (arith, lt))
places_rise (s ∷ seals) (suc i) (suc j) e h lt within = rising s.pid seals i j e h (omega arith) (omega arith)

-- whether two entries are of one process
abbrev of_one : Sealed → Sealed → Bool
of_one s t = s.pid == t.pid

of_one_back : (s t : Sealed) → of_one s t ≡ of_one t s
of_one_back s t = eqb_back s.pid t.pid
  where
    eqb_back : (a b : ℕ) → (a == b) ≡ (b == a)
    eqb_back a b = elim (cases_eq a b) [ inl e ↦ eq-eqb a b e ∙ sym (eq-eqb b a (sym e)) | inr ne ↦ ne_eqb a b ne ∙ sym (ne_eqb b a (λ e. ne (sym e))) ]

apart_from_ascending : (seals : List Sealed) → NumbersAscend seals → IsDistinct of_one seals
apart_from_ascending seals h =
    IsDistinct-from_apart of_one seals (λ i j d lt within.
    let below = places_rise seals i j d h lt within in
    ne_eqb (get_or seals i d).pid (get_or seals j d).pid (λ e. omega (arith, e, below)))

-- what a sort gives of entries of which each has a number of its own
pub sorted_made : (xs ys : List Sealed) → NumbersAscend xs → IsPermutation xs ys → IsSortedBy earlier ys → IsSorted earlier ys
sorted_made xs ys h p up =
    let distinct = IsDistinct-IsPermutation of_one of_one_back xs ys p (apart_from_ascending xs h) in
    sorted_apart earlier in_order ys up (λ k e lt same.
    let one : of_one (get_or ys k e) (get_or ys (suc k) e) ≡ true = eq-eqb (get_or ys k e).pid (get_or ys (suc k) e).pid (ap (λ (s : Sealed). s.pid) same) in
    let other : of_one (get_or ys k e) (get_or ys (suc k) e) ≡ false = apart_from_distinct of_one ys k (suc k) e distinct (omega arith) lt in
    cc)

pub same_entries : (xs ys : List Sealed) → IsPermutation xs ys → (digest : List ℕ) (pid : ℕ) → is_in digest pid ys ≡ is_in digest pid xs
same_entries xs ys p digest pid = sym (list_any-IsPermutation (is_seal digest pid) xs ys p)

-- ---- one list

either : (a b : Bool) → a ≡ false → (a || b) ≡ b
either true b h = absurd (cc)
either false b h = refl

-- an entry isn't among those that come after it
pub absent : (s : Sealed) (seals : List Sealed) → AllAfter earlier s seals → is_in s.digest s.pid seals ≡ false
absent s [] h = refl
absent s (x ∷ seals) h = either (is_seal s.digest s.pid x) (is_in s.digest s.pid seals) (told (is_seal s.digest s.pid x) refl) ∙ absent s seals h.1
  where
    told : (b : Bool) → is_seal s.digest s.pid x ≡ b → is_seal s.digest s.pid x ≡ false
    told true is =
        absurd (let e : x ≡ s = (seal_tests s).same x is in let missing : earlier s x ≡ false = ap (earlier s) e ∙ in_order.not_itself s in let there : earlier s x ≡ true = h.0 in cc)
    told false is = is

pub present : (s : Sealed) (seals : List Sealed) → is_in s.digest s.pid (s ∷ seals) ≡ true
present s seals = ap (λ (b : Bool). b || is_in s.digest s.pid seals) (seal_tests s).itself

all_later : (d e : Sealed) (xs : List Sealed) → earlier d e ≡ true → AllAfter earlier e xs → AllAfter earlier d xs
all_later d e [] lt h = tt
all_later d e (x ∷ xs) lt h = (in_order.along d e x lt h.0, all_later d e xs lt h.1)

abbrev pub HaveSame : List Sealed → List Sealed → Type 0
HaveSame xs ys = (digest : List ℕ) (pid : ℕ) → is_in digest pid xs ≡ is_in digest pid ys

tails_same : (x y : Sealed) (xs ys : List Sealed) → x ≡ y → AllAfter earlier x xs → AllAfter earlier y ys → HaveSame (x ∷ xs) (y ∷ ys) → HaveSame xs ys
tails_same x y xs ys e one other same digest pid = told (is_seal digest pid x) refl
  where
    told : (b : Bool) → is_seal digest pid x ≡ b → is_in digest pid xs ≡ is_in digest pid ys
    told false is =
        sym (either (is_seal digest pid x) (is_in digest pid xs) is) ∙ same digest pid
        ∙ either (is_seal digest pid y) (is_in digest pid ys) (ap (is_seal digest pid) (sym e) ∙ is)
    told true is =
        let both = and_parts (bytes_eq x.digest digest) (x.pid == pid) is in
        let d : x.digest ≡ digest = same_name x.digest digest both.0 in
        let n : x.pid ≡ pid = eqb-true x.pid pid both.1 in
        let first : is_in digest pid xs ≡ false = (λ i. is_in (sym d i) (sym n i) xs) ∙ absent x xs one in
        let second : is_in digest pid ys ≡ false
        = (λ i. is_in (sym d i) (sym n i) ys) ∙ ap (λ (s : Sealed). is_in s.digest s.pid ys) e ∙ absent y ys other in
        first ∙ sym second

pub same_lists : (xs ys : List Sealed) → IsSorted earlier xs → IsSorted earlier ys → HaveSame xs ys → xs ≡ ys
same_lists [] [] h g same = refl
same_lists [] (y ∷ ys) h g same = absurd (let there = present y ys in let missing = same y.digest y.pid in cc)
same_lists (x ∷ xs) [] h g same = absurd (let there = present x xs in let missing = same x.digest x.pid in cc)
same_lists (x ∷ xs) (y ∷ ys) h g same =
    told (earlier x y) (earlier y x) refl refl (λ e. same_lists xs ys h.1 g.1 (tails_same x y xs ys e h.0 g.0 same))
  where
    told : (a b : Bool) → earlier x y ≡ a → earlier y x ≡ b → (x ≡ y → xs ≡ ys) → x ∷ xs ≡ y ∷ ys
    told true b lt _ _ =
        absurd
        (let there = present x xs in
        let missing : is_in x.digest x.pid (y ∷ ys) ≡ false = absent x (y ∷ ys) (lt, all_later x y ys lt g.0) in
        let both = same x.digest x.pid in cc)
    told false true _ lt _ =
        absurd
        (let there = present y ys in
        let missing : is_in y.digest y.pid (x ∷ xs) ≡ false = absent y (x ∷ xs) (lt, all_later y x xs lt h.0) in
        let both = same y.digest y.pid in cc)
    told false false one other rest =
        let e : x ≡ y = in_order.same x y one other in
        let tails = rest e in
        λ i. e i ∷ tails i

pub one_list : OneList
one_list digest_at xs ys h g = same_lists xs ys h.order g.order (λ digest pid. h.exact digest pid ∙ sym (g.exact digest pid))

-- ---- how many there are

pub or_right : (a b : Bool) → b ≡ true → (a || b) ≡ true
or_right true b h = refl
or_right false b h = h

either_one : (a b : Bool) → (a || b) ≡ true → (a ≡ true) ⊎ (b ≡ true)
either_one true b h = inl refl
either_one false b h = inr h

module _ (digest_at : ℕ → Option (List ℕ)) where
  -- the process of the entry has its digest
  abbrev IsTold : Sealed → Type 0
  IsTold s = digest_at s.pid ≡ Some s.digest

  told_by : (digest : List ℕ) (o : Option (List ℕ)) → has_digest digest o ≡ true → o ≡ Some digest
  told_by digest None h = absurd (cc)
  told_by digest (Some d) h = ap (λ (x : List ℕ). Some x) (same_name d digest h)

  each_told : (xs : List Sealed) → ((digest : List ℕ) (pid : ℕ) → is_in digest pid xs ≡ true → has_digest digest (digest_at pid) ≡ true) → AllByRecursion IsTold xs
  each_told [] h = tt
  each_told (x ∷ xs) h =
      (told_by x.digest (digest_at x.pid) (h x.digest x.pid (present x xs)), each_told xs (λ digest pid is. h digest pid (or_right (is_seal digest pid x) (is_in digest pid xs) is)))

  other_number : (x y : Sealed) → IsTold x → IsTold y → earlier x y ≡ true → nat_eq x.pid y.pid ≡ false
  other_number x y one other lt = by_test (nat_eq x.pid y.pid) refl
    where
      by_test : (b : Bool) → nat_eq x.pid y.pid ≡ b → nat_eq x.pid y.pid ≡ false
      by_test false is = is
      by_test true is =
          let number : x.pid ≡ y.pid = eqb-true x.pid y.pid is in
          let found : Some x.digest ≡ Some y.digest = sym one ∙ ap digest_at number ∙ other in
          let digest : x.digest ≡ y.digest = cc in
          let same : x ≡ y = λ i. record { digest = digest i; pid = number i } in
          let missing : earlier x y ≡ false = ap (λ (s : Sealed). earlier s y) same ∙ in_order.not_itself y in
          absurd (cc)

  other_numbers : (x : Sealed) (xs : List Sealed) → IsTold x → AllByRecursion IsTold xs → AllAfter earlier x xs → AllByRecursion (λ n. nat_eq x.pid n ≡ false) (map (λ s. s.pid) xs)
  other_numbers x [] one all after = tt
  other_numbers x (y ∷ xs) one all after = (other_number x y one all.0 after.0, other_numbers x xs one all.1 after.1)

  numbers_differ : (xs : List Sealed) → AllByRecursion IsTold xs → IsSorted earlier xs → IsDistinct nat_eq (map (λ s. s.pid) xs)
  numbers_differ [] all up = IsDistinct-from_apart nat_eq [] (λ i j d lt within. absurd (omega (arith, within)))
  numbers_differ (x ∷ xs) all up = IsDistinct-cons nat_eq x.pid (map (λ s. s.pid) xs) (other_numbers x xs all.0 all.1 up.0) (numbers_differ xs all.1 up.1)

  -- a process without a digest has the number of no entry
  not_among : (pid : ℕ) → digest_at pid ≡ None → (xs : List Sealed) → AllByRecursion IsTold xs → AllByRecursion (λ n. nat_eq pid n ≡ false) (map (λ s. s.pid) xs)
  not_among pid none [] all = tt
  not_among pid none (x ∷ xs) all = (by_test (nat_eq pid x.pid) refl, not_among pid none xs all.1)
    where
      by_test : (b : Bool) → nat_eq pid x.pid ≡ b → nat_eq pid x.pid ≡ false
      by_test false is = is
      by_test true is = absurd (let number : pid ≡ x.pid = eqb-true pid x.pid is in let clash : None ≡ Some x.digest = sym none ∙ ap digest_at number ∙ all.0 in cc)

  among : (numbers : List ℕ) → ((n : ℕ) (d : List ℕ) → digest_at n ≡ Some d → list_any (nat_eq n) numbers ≡ true) → (q : ℕ) (xs : List Sealed) → AllByRecursion IsTold xs
      → list_any (nat_eq q) (map (λ s. s.pid) xs) ≡ true → list_any (nat_eq q) numbers ≡ true
  among numbers have q [] all is = absurd (cc)
  among numbers have q (x ∷ xs) all is =
      elim (either_one (nat_eq q x.pid) (list_any (nat_eq q) (map (λ s. s.pid) xs)) is) [
        | inl here ↦ ap (λ (n : ℕ). list_any (nat_eq n) numbers) (eqb-true q x.pid here) ∙ have x.pid x.digest all.0
        | inr rest ↦ among numbers have q xs all.1 rest
      ]

  -- There are fewer entries than numbers, where one of these has none.
  pub fewer_seals : (seals : List Sealed) → AreSealsOf digest_at seals → (numbers : List ℕ) → ((n : ℕ) (d : List ℕ) → digest_at n ≡ Some d → list_any (nat_eq n) numbers ≡ true)
      → (pid : ℕ) → digest_at pid ≡ None → list_any (nat_eq pid) numbers ≡ true → length seals < length numbers
  fewer_seals seals h numbers have pid none there =
      let all = each_told seals (λ digest n is. sym (h.exact digest n) ∙ is) in
      let pids = map (λ (s : Sealed). s.pid) seals in
      let apart : IsDistinct nat_eq (pid ∷ pids) = IsDistinct-cons nat_eq pid pids (not_among pid none seals all) (numbers_differ seals all h.order) in
      let short : length (pid ∷ pids) ≤ length numbers
      = length-le_from_is_member nat_eq_equiv (pid ∷ pids) numbers apart
      (λ q is. elim (either_one (nat_eq q pid) (list_any (nat_eq q) pids) is) [
        | inl here ↦ ap (λ (n : ℕ). list_any (nat_eq n) numbers) (eqb-true q pid here) ∙ there
        | inr rest ↦ among numbers have q seals all rest
      ]) in
      omega (arith, short, length-map seals (λ (s : Sealed). s.pid))
