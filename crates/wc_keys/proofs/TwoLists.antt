-- Two lists of entries in order, of which the second one has all entries of a digest of which it has one.
use Rattle.std.proofs.Common.{◌≡◌, ℕ, suc, ◌+◌, ◌<◌, ◌≤◌, Bool, true, false, List, [], ◌∷◌, length, refl, sym, ap, ◌∙◌, subst, arith}
use Rattle.std.specs.Prelude.{if◌then◌else◌, ◌==◌, ◌&&◌, ◌||◌, filter, not}
use Rattle.std.specs.Str.{bytes_eq}
use Rattle.std.proofs.lemmas.Bool.{eqb-true, and_parts}
use Rattle.std.proofs.lemmas.Map.Views.{any-filter_same}
use Rattle.std.proofs.lemmas.Slice.Eq.{bytes_eq-Decides}
use Rattle.wc_value.proofs.Puts.{same_name}
use Rattle.wc_records.specs.Marked.{IsSorted, marked}
use Rattle.wc_records.proofs.Marks.{sorted_marked}
use Rattle.wc_records.proofs.Standing.{length_marked}
use Rattle.wc_keys.specs.declared.entries.Sealed.{Sealed}
use Rattle.wc_keys.specs.Order.{earlier, is_seal, is_in, with_digest, joined, AreApart, AreTwo}
use Rattle.wc_keys.proofs.Exact.{present, or_right, same_lists}
use Rattle.wc_keys.proofs.Joined.{or_left, at_itself, told_marked, sorted_joined, in_joined, length_joined, long_joined, short_joined, out_joined}
use Rattle.wc_keys.proofs.Orders.{in_order, seal_tests}
use Rattle.wc_keys.proofs.Parts.{in_part}
use Rattle.wc_keys.proofs.Sorting.{sorted_filter}

-- ---- of two truths

or_not : (a b : Bool) → (a || (not a && b)) ≡ (a || b)
or_not true b = refl
or_not false b = refl

not_first : (a b : Bool) → (not a && b) ≡ true → a ≡ false
not_first true b h = absurd (cc)
not_first false b h = refl

if_true : (t b : Bool) → b ≡ true → (if t then true else b) ≡ true
if_true true b h = refl
if_true false b h = h

or_again : (a b c : Bool) → (a || (b || (c && a))) ≡ (a || b)
or_again true b c = refl
or_again false true c = refl
or_again false false true = refl
or_again false false false = refl

itself : (digest : List ℕ) → bytes_eq digest digest ≡ true
itself digest = (bytes_eq-Decides digest digest).1 refl

its_digest : (d : List ℕ) (p : ℕ) (s : Sealed) → is_seal d p s ≡ true → s.digest ≡ d
its_digest d p s is = same_name s.digest d (and_parts (bytes_eq s.digest d) (s.pid == p) is).0

-- ---- of an empty list

pub is_none : (xs : List Sealed) (b : Bool) → b ≡ (length xs == 0) → b ≡ true → xs ≡ []
is_none [] b e h = refl
is_none (x ∷ xs) b e h = absurd (let n : suc (length xs) ≡ 0 = eqb-true (suc (length xs)) 0 (sym e ∙ h) in omega (arith, n))

pub is_some : (xs : List Sealed) (b : Bool) → b ≡ (length xs == 0) → b ≡ false → 0 < length xs
is_some [] b e h = absurd (cc)
is_some (x ∷ xs) b e h = omega arith

-- ---- nothing in the second list

pub alone_two : (xs : List Sealed) (places : ℕ) → IsSorted earlier xs → length xs ≤ places → AreTwo xs [] places
alone_two xs places h fit = record {
  long_order = h;
  short_order = tt;
  whole = λ d p q is there. absurd (cc);
  few = fit;
}

-- the same lists
pub two_as : (one long other short : List Sealed) (places more : ℕ) → long ≡ one → short ≡ other → places ≤ more → AreTwo one other places → AreTwo long short more
two_as one long other short places more e f le h =
    subst (λ (xs : List Sealed). AreTwo xs short more) (sym e)
    (subst (λ (ys : List Sealed). AreTwo one ys more) (sym f)
    (let fit = h.few in record { long_order = h.long_order; short_order = h.short_order; whole = h.whole; few = omega (arith, le, fit) }))

module _ (long short : List Sealed) (places : ℕ) (h : AreTwo long short places) where
  -- ---- the second list into the first one

  abbrev left : List Sealed
  left = filter (λ (s : Sealed). not (is_in s.digest s.pid long)) short

  in_left : (d : List ℕ) (p : ℕ) → is_in d p left ≡ (not (is_in d p long) && is_in d p short)
  in_left d p =
      any-filter_same (is_seal d p) (λ (s : Sealed). not (is_in s.digest s.pid long)) (not (is_in d p long)) (λ s is. ap not (sym (at_itself d p s is long))) short

  pub left_joined : joined long left ≡ joined long short
  left_joined =
      same_lists (joined long left) (joined long short) (sorted_joined long left h.long_order) (sorted_joined long short h.long_order)
      (λ d p.
      in_joined long left h.long_order d p
      ∙ ap (λ (b : Bool). is_in d p long || b) (in_left d p)
      ∙ or_not (is_in d p long) (is_in d p short)
      ∙ sym (in_joined long short h.long_order d p))

  pub left_apart : AreApart long left places
  left_apart =
      let up = sorted_filter earlier in_order (λ (s : Sealed). not (is_in s.digest s.pid long)) short h.short_order in
      let differ : (d : List ℕ) (p : ℕ) → is_in d p left ≡ true → is_in d p long ≡ false = λ d p is. not_first (is_in d p long) (is_in d p short) (sym (in_left d p) ∙ is) in
      let count = length_joined long left h.long_order up differ in
      let fit = h.few in
      record { long_order = h.long_order; short_order = up; apart = differ; few = omega (arith, count, ap length left_joined, fit) }

  pub merged : AreTwo (joined long short) [] places
  merged = alone_two (joined long short) places (sorted_joined long short h.long_order) h.few

  -- ---- an entry put in or taken out

  module _ (s : Sealed) where
    module _ (room : length (joined long short) < places) where
      few_more : length (marked earlier s true (joined long short)) ≤ places
      few_more =
          let marks = length_marked earlier in_order (is_seal s.digest s.pid) s (seal_tests s) true (joined long short) (sorted_joined long short h.long_order) in
          omega (arith, marks, room)

      pub short_two : ((p : ℕ) → is_in s.digest p long ≡ true → is_in s.digest p short ≡ true) → AreTwo long (marked earlier s true short) places
      short_two all = record {
        long_order = h.long_order;
        short_order = sorted_marked earlier in_order s true short h.short_order;
        whole = λ d p q is there.
            told_marked true s short h.short_order d p
            ∙ if_true (is_seal d p s) (is_in d p short) (by_test d p q there (is_seal d q s) refl (sym (told_marked true s short h.short_order d q) ∙ is));
        few = omega (arith, ap length (short_joined s long short h.long_order h.short_order), few_more);
      }
        where
          by_test : (d : List ℕ) (p q : ℕ) → is_in d p long ≡ true → (b : Bool) → is_seal d q s ≡ b → (if b then true else is_in d q short) ≡ true → is_in d p short ≡ true
          by_test d p q there true is _ = subst (λ (x : List ℕ). is_in x p long ≡ true → is_in x p short ≡ true) (its_digest d q s is) (all p) there
          by_test d p q there false _ is = h.whole d p q is there

      pub long_two : ((p : ℕ) → is_in s.digest p short ≡ false) → AreTwo (marked earlier s true long) short places
      long_two none = record {
        long_order = sorted_marked earlier in_order s true long h.long_order;
        short_order = h.short_order;
        whole = λ d p q is there. by_test d p q is (is_seal d p s) refl (sym (told_marked true s long h.long_order d p) ∙ there);
        few = omega (arith, ap length (long_joined s long short h.long_order h.short_order), few_more);
      }
        where
          by_test : (d : List ℕ) (p q : ℕ) → is_in d q short ≡ true → (b : Bool) → is_seal d p s ≡ b → (if b then true else is_in d p long) ≡ true → is_in d p short ≡ true
          by_test d p q is true same _ =
              absurd (let missing : is_in d q short ≡ false = subst (λ (x : List ℕ). is_in x q short ≡ false) (its_digest d p s same) (none q) in cc)
          by_test d p q is false _ there = h.whole d p q is there

    pub out_two : AreTwo (marked earlier s false long) (marked earlier s false short) places
    out_two =
        let marks = length_marked earlier in_order (is_seal s.digest s.pid) s (seal_tests s) false (joined long short) (sorted_joined long short h.long_order) in
        let fit = h.few in
        record {
          long_order = sorted_marked earlier in_order s false long h.long_order;
          short_order = sorted_marked earlier in_order s false short h.short_order;
          whole = λ d p q is there.
              told_marked false s short h.short_order d p
              ∙ by_tests d p q (is_seal d p s) (is_seal d q s) (sym (told_marked false s short h.short_order d q) ∙ is) (sym (told_marked false s long h.long_order d p) ∙ there);
          few = omega (arith, ap length (out_joined s long short h.long_order h.short_order), marks, fit);
        }
      where
        by_tests : (d : List ℕ) (p q : ℕ) (a b : Bool) → (if b then false else is_in d q short) ≡ true → (if a then false else is_in d p long) ≡ true
            → (if a then false else is_in d p short) ≡ true
        by_tests d p q true b is there = absurd (cc)
        by_tests d p q false true is there = absurd (cc)
        by_tests d p q false false is there = h.whole d p q is there

  -- ---- the entries of one digest

  module _ (digest : List ℕ) where
    -- the second list has one
    some_there : (xs : List Sealed) → xs ≡ with_digest digest short → 0 < length xs → (q : ℕ) × (is_in digest q short ≡ true)
    some_there [] e some = absurd (omega (arith, some))
    some_there (x ∷ xs) e some =
        let there : is_in x.digest x.pid (with_digest digest short) ≡ true = ap (is_in x.digest x.pid) (sym e) ∙ present x xs in
        let both = and_parts (bytes_eq x.digest digest) (is_in x.digest x.pid short) (sym (in_part digest short x.digest x.pid) ∙ there) in
        (x.pid, subst (λ (d : List ℕ). is_in d x.pid short ≡ true) (same_name x.digest digest both.0) both.1)

    pub all_there : 0 < length (with_digest digest short) → (p : ℕ) → is_in digest p long ≡ true → is_in digest p short ≡ true
    all_there some p there = let one = some_there (with_digest digest short) refl some in h.whole digest p one.0 one.1 there

    -- the second list has none
    pub none_there : with_digest digest short ≡ [] → (p : ℕ) → is_in digest p short ≡ false
    none_there none p =
        ap (λ (b : Bool). b && is_in digest p short) (sym (itself digest)) ∙ sym (in_part digest short digest p) ∙ ap (is_in digest p) none

    same_parts : (one : List Sealed) → IsSorted earlier one → ((p : ℕ) → is_in digest p one ≡ (is_in digest p long || is_in digest p short)) → with_digest digest one ≡ with_digest digest (joined long short)
    same_parts one up same =
        same_lists (with_digest digest one) (with_digest digest (joined long short)) (sorted_filter earlier in_order (λ (s : Sealed). bytes_eq s.digest digest) one up)
        (sorted_filter earlier in_order (λ (s : Sealed). bytes_eq s.digest digest) (joined long short) (sorted_joined long short h.long_order))
        (λ d p. in_part digest one d p ∙ by_test d p (bytes_eq d digest) refl ∙ sym (in_part digest (joined long short) d p))
      where
        by_test : (d : List ℕ) (p : ℕ) (b : Bool) → bytes_eq d digest ≡ b → (b && is_in d p one) ≡ (b && is_in d p (joined long short))
        by_test d p true is =
            let at : d ≡ digest = same_name d digest is in
            subst (λ (x : List ℕ). is_in x p one ≡ is_in x p (joined long short)) (sym at) (same p ∙ sym (in_joined long short h.long_order digest p))
        by_test d p false is = refl

    pub part_short : 0 < length (with_digest digest short) → with_digest digest short ≡ with_digest digest (joined long short)
    part_short some = same_parts short h.short_order (λ p. by_test p (is_in digest p long) (all_there some p))
      where
        by_test : (p : ℕ) (b : Bool) → (b ≡ true → is_in digest p short ≡ true) → is_in digest p short ≡ (b || is_in digest p short)
        by_test p true all = all refl
        by_test p false all = refl

    pub part_long : with_digest digest short ≡ [] → with_digest digest long ≡ with_digest digest (joined long short)
    part_long none = same_parts long h.long_order (λ p. by_test (is_in digest p long) (is_in digest p short) (none_there none p))
      where
        by_test : (a b : Bool) → b ≡ false → a ≡ (a || b)
        by_test true b e = refl
        by_test false b e = sym e

    -- ---- those of the first list put into the second one, which has none

    module _ (none : with_digest digest short ≡ []) where
      in_both : (d : List ℕ) (p : ℕ) → is_in d p (joined short (with_digest digest long)) ≡ (is_in d p short || (bytes_eq d digest && is_in d p long))
      in_both d p = in_joined short (with_digest digest long) h.short_order d p ∙ ap (λ (b : Bool). is_in d p short || b) (in_part digest long d p)

      pub part_apart : (places : ℕ) → length short + length (with_digest digest long) ≤ places → AreApart short (with_digest digest long) places
      part_apart places fit = record {
        long_order = h.short_order;
        short_order = sorted_filter earlier in_order (λ (s : Sealed). bytes_eq s.digest digest) long h.long_order;
        apart = λ d p is.
            let both = and_parts (bytes_eq d digest) (is_in d p long) (sym (in_part digest long d p) ∙ is) in
            subst (λ (x : List ℕ). is_in x p short ≡ false) (sym (same_name d digest both.0)) (none_there none p);
        few = fit;
      }

      pub copied_joined : joined long (joined short (with_digest digest long)) ≡ joined long short
      copied_joined =
          same_lists (joined long (joined short (with_digest digest long))) (joined long short) (sorted_joined long (joined short (with_digest digest long)) h.long_order)
          (sorted_joined long short h.long_order)
          (λ d p.
          in_joined long (joined short (with_digest digest long)) h.long_order d p
          ∙ ap (λ (b : Bool). is_in d p long || b) (in_both d p)
          ∙ or_again (is_in d p long) (is_in d p short) (bytes_eq d digest)
          ∙ sym (in_joined long short h.long_order d p))

      pub copied_two : AreTwo long (joined short (with_digest digest long)) places
      copied_two =
          let fit = h.few in
          record {
            long_order = h.long_order;
            short_order = sorted_joined short (with_digest digest long) h.short_order;
            whole = λ d p q is there. in_both d p ∙ by_test d p q there (bytes_eq d digest) (sym (in_both d q) ∙ is);
            few = omega (arith, ap length copied_joined, fit);
          }
        where
          only_first : (a : Bool) → (a || false) ≡ true → a ≡ true
          only_first true e = refl
          only_first false e = e

          by_test : (d : List ℕ) (p q : ℕ) → is_in d p long ≡ true → (b : Bool) → (is_in d q short || (b && is_in d q long)) ≡ true → (is_in d p short || (b && is_in d p long)) ≡ true
          by_test d p q there true is = or_right (is_in d p short) (is_in d p long) there
          by_test d p q there false is = or_left (is_in d p short) false (h.whole d p q (only_first (is_in d q short) is) there)

      pub copied_all : (p : ℕ) → is_in digest p long ≡ true → is_in digest p (joined short (with_digest digest long)) ≡ true
      copied_all p there = in_both digest p ∙ ap (λ (b : Bool). is_in digest p short || (b && is_in digest p long)) (itself digest) ∙ or_right (is_in digest p short) (is_in digest p long) there
