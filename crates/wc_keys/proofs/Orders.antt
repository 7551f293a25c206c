-- The order of entries.
use Rattle.std.proofs.Common.{◌≡◌, ℕ, true, false, List, refl, sym, ap, ◌∙◌, arith}
use Rattle.std.specs.Prelude.{◌==◌}
use Rattle.std.specs.Str.{bytes_eq}
use Rattle.std.specs.Cmp.{IsTotalOrder}
use Rattle.std.specs.Cmp.Lexicographic.{slice_cmp}
use Rattle.std.specs.Ordering.{nat_cmp, is_lt, is_eq, ordering_reverse, ordering_then}
use Rattle.std.specs.declared.cmp.Ordering.{Ordering}
use Rattle.std.specs.declared.cmp.Ordering.TheVariants.{Less, Equal, Greater}
use Rattle.std.proofs.lemmas.Bool.{eqb-true, eq-eqb, and_parts, and_from}
use Rattle.std.proofs.lemmas.Bool.Decides.{nat_tests}
use Rattle.std.proofs.lemmas.Cmp.{nat_list_cmp_total, nat_cmp_total, on_total, then_total, tied_itself}
use Rattle.std.proofs.lemmas.Slice.Eq.{bytes_eq-Decides}
use Rattle.std.proofs.lemmas.Map.Text.{is_eq-slice_cmp}
use Rattle.wc_value.specs.Ascending.{before}
use Rattle.wc_value.proofs.Puts.{same_name, is_less}
use Rattle.wc_records.specs.Marked.{IsOrder}
use Rattle.wc_records.proofs.Marks.{Tests}
use Rattle.wc_keys.specs.declared.entries.Sealed.{Sealed}
use Rattle.wc_keys.specs.Order.{seal_cmp, earlier, is_seal}

-- ---- orders by comparing

pub not_less_back : (o : Ordering) → is_lt (ordering_reverse o) ≡ true → is_lt o ≡ false
not_less_back Less h = absurd (cc)
not_less_back Equal h = refl
not_less_back Greater h = refl

equal_from : (o : Ordering) → is_lt (ordering_reverse o) ≡ false → is_lt o ≡ false → ordering_reverse o ≡ Equal
equal_from Less h g = absurd (cc)
equal_from Equal h g = refl
equal_from Greater h g = absurd (cc)

pub by_total : {K : Type 0} (R : K → K → Ordering) → IsTotalOrder R → ((x y : K) → R x y ≡ Equal → x ≡ y) → IsOrder (λ x y. is_lt (R x y))
by_total R o same = record {
  not_itself = λ x. ap is_lt (tied_itself o x);
  one_way = λ x y lt. not_less_back (R y x) (ap is_lt (sym (o.antisymm x y)) ∙ lt);
  same = λ x y one other. same x y (o.antisymm x y ∙ equal_from (R y x) (ap is_lt (sym (o.antisymm x y)) ∙ one) other);
  along = λ x y z one other. ap is_lt (o.trans x y z (is_less (R x y) one) (is_less (R y z) other));
}

-- ---- entries

pub seals_total : IsTotalOrder seal_cmp
seals_total = then_total (on_total (λ (s : Sealed). s.digest) nat_list_cmp_total) (on_total (λ (s : Sealed). s.pid) nat_cmp_total)

both_equal : (a b : Ordering) → ordering_then a b ≡ Equal → (a ≡ Equal) × (b ≡ Equal)
both_equal Less b h = absurd (cc)
both_equal Equal b h = (refl, h)
both_equal Greater b h = absurd (cc)

pub same_digest : (a b : List ℕ) → slice_cmp nat_cmp a b ≡ Equal → a ≡ b
same_digest a b h = same_name a b (sym (is_eq-slice_cmp a b) ∙ ap is_eq h)

same_number : (a b : ℕ) → nat_cmp a b ≡ Equal → a ≡ b
same_number a b h = grind (arith, nat_tests)

same_seal : (s t : Sealed) → seal_cmp s t ≡ Equal → s ≡ t
same_seal s t h =
    let both = both_equal (slice_cmp nat_cmp s.digest t.digest) (nat_cmp s.pid t.pid) h in
    λ i. record { digest = same_digest s.digest t.digest both.0 i; pid = same_number s.pid t.pid both.1 i }

pub in_order : IsOrder earlier
in_order = by_total seal_cmp seals_total same_seal

pub seal_tests : (s : Sealed) → Tests (is_seal s.digest s.pid) s
seal_tests s = record {
  same = λ t is.
      let both = and_parts (bytes_eq t.digest s.digest) (t.pid == s.pid) is in
      λ i. record { digest = same_name t.digest s.digest both.0 i; pid = eqb-true t.pid s.pid both.1 i };
  itself = and_from (bytes_eq s.digest s.digest) (s.pid == s.pid) ((bytes_eq-Decides s.digest s.digest).1 refl) (eq-eqb s.pid s.pid refl);
}

-- ---- digests

-- of two entries in order the digests are in order, or equal with the numbers in order
pub data Follows (s t : Sealed) : Type 0 where
  by_digest : slice_cmp nat_cmp s.digest t.digest ≡ Less → Follows s t
  by_number : s.digest ≡ t.digest → nat_cmp s.pid t.pid ≡ Less → Follows s t

pub follows : (s t : Sealed) → earlier s t ≡ true → Follows s t
follows s t h = told (slice_cmp nat_cmp s.digest t.digest) refl h
  where
    told : (o : Ordering) → slice_cmp nat_cmp s.digest t.digest ≡ o → is_lt (ordering_then o (nat_cmp s.pid t.pid)) ≡ true → Follows s t
    told Less is lt = by_digest is
    told Equal is lt = by_number (same_digest s.digest t.digest is) (is_less (nat_cmp s.pid t.pid) lt)
    told Greater is lt = absurd (cc)

less_is_before : (a b : List ℕ) → slice_cmp nat_cmp a b ≡ Less → before a b ≡ true
less_is_before a b h = ap is_lt h

before_along : (a b c : List ℕ) → slice_cmp nat_cmp a b ≡ Less → before b c ≡ true → before a c ≡ true
before_along a b c one other = less_is_before a c (nat_list_cmp_total.trans a b c one (is_less (slice_cmp nat_cmp b c) other))

pub before_differs : (a b : List ℕ) → before a b ≡ true → bytes_eq a b ≡ false
before_differs a b h = sym (is_eq-slice_cmp a b) ∙ ap is_eq (is_less (slice_cmp nat_cmp a b) h)

pub after_differs : (a b : List ℕ) → before b a ≡ true → bytes_eq a b ≡ false
after_differs a b h =
    sym (is_eq-slice_cmp a b) ∙ ap is_eq (nat_list_cmp_total.antisymm a b ∙ ap ordering_reverse (is_less (slice_cmp nat_cmp b a) h))

-- neither before nor behind
pub between_is : (a b : List ℕ) → before a b ≡ false → before b a ≡ false → bytes_eq a b ≡ true
between_is a b one other =
    let tied : slice_cmp nat_cmp a b ≡ Equal
    = nat_list_cmp_total.antisymm a b
    ∙ equal_from (slice_cmp nat_cmp b a) (ap is_lt (sym (nat_list_cmp_total.antisymm a b)) ∙ one) other in
    sym (is_eq-slice_cmp a b) ∙ ap is_eq tied

-- an entry before one whose digest comes before another has such a digest too
pub before_stays : (digest : List ℕ) (s t : Sealed) → earlier s t ≡ true → before t.digest digest ≡ true → before s.digest digest ≡ true
before_stays digest s t lt h =
    elim (follows s t lt) [
      | by_digest less ↦ before_along s.digest t.digest digest less h
      | by_number same _ ↦ ap (λ (d : List ℕ). before d digest) same ∙ h
    ]

-- an entry before one with a digest, whose own digest doesn't come before that, has it too
pub same_stays : (digest : List ℕ) (s t : Sealed) → earlier s t ≡ true → before s.digest digest ≡ false → bytes_eq t.digest digest ≡ true → bytes_eq s.digest digest ≡ true
same_stays digest s t lt low h =
    let name : t.digest ≡ digest = same_name t.digest digest h in
    elim (follows s t lt) [
      | by_digest less ↦
          let under : before s.digest digest ≡ true = ap (before s.digest) (sym name) ∙ less_is_before s.digest t.digest less in
          absurd (cc)
      | by_number same _ ↦ ap (λ (d : List ℕ). bytes_eq d digest) same ∙ h
    ]
