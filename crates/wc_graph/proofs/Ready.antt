-- A sorted set of numbers after an insert or a removal, and the counts after one link is released.
use Rattle.std.proofs.Common.{◌≡◌, ◌≢◌, ℕ, zero, suc, ◌+◌, ◌-◌, ◌<◌, ◌≤◌, ◌==◌, Bool, true, false, cond, List, [], ◌∷◌, length, get_or, set, take, IsTrue, Option, Some, None, IsSome, ◌↔◌, ◌⊎◌, inl, inr, ⊎_elim, refl, sym, ap, ◌∙◌, subst, arith, eq-eqb, ne_eqb, nat_cmp}
use Rattle.std.specs.Ordering.{is_eq}
use Rattle.std.specs.List.{list_any}
use Rattle.std.specs.declared.cmp.Ordering.TheVariants.{Equal}
use Rattle.std.specs.Cmp.{Equal-is, nat_cmp_is}
use Rattle.std.specs.BTreeSet.{BTreeSet, contains, Updates, IsLowerBound}
use Rattle.std.proofs.lemmas.Bool.{cases_eq, false_from_ne_true}
use Rattle.std.proofs.lemmas.List.{get_or-set_same, get_or-set_other, nil_from_length}
use Rattle.std.proofs.lemmas.List.Sums.{sum_by_more, sum_by-take-le}
use Rattle.std.proofs.lemmas.Map.Lookups.{exact_unsigned}
use Rattle.std.proofs.lemmas.Map.Keys.{le_from_not_gt}
use Rattle.wc_graph.specs.Order.{times}

-- the set has the number
abbrev pub In : BTreeSet ℕ → ℕ → Type 0
In s q = IsTrue (contains nat_cmp s q)

at_same : (v q : ℕ) → v ≡ q → is_eq (nat_cmp v q) ≡ true
at_same v q e = (Equal-is (nat_cmp v q)).1 (sym (nat_cmp_is v q Equal e))

at_other : (v q : ℕ) → (v ≡ q → ⊥) → is_eq (nat_cmp v q) ≡ false
at_other v q ne = false_from_ne_true (is_eq (nat_cmp v q)) (λ t. ne (exact_unsigned v q ((Equal-is (nat_cmp v q)).0 t)))

pub in_added : (s n : BTreeSet ℕ) (v : ℕ) → Updates nat_cmp s n v true → (q : ℕ) → In n q ↔ ((v ≡ q) ⊎ In s q)
in_added s n v u q = (
  λ h. ⊎_elim (λ e. inl e) (λ ne. inr (sym (u.2 q (at_other v q ne)) ∙ h)) (cases_eq v q),
  λ h. ⊎_elim
      (λ e. u.0 q ∙ ap (λ b. cond b true (contains nat_cmp s q)) (at_same v q e))
      (λ ne. u.2 q (at_other v q ne) ∙ ⊎_elim (λ e. absurd (ne e)) (λ i. i) h)
      (cases_eq v q),
)

pub in_removed : (s n : BTreeSet ℕ) (v : ℕ) → Updates nat_cmp s n v false → (q : ℕ) → In n q ↔ ((v ≢ q) × In s q)
in_removed s n v u q = (
  λ h. ⊎_elim
      (λ e. let f : contains nat_cmp n q ≡ false = u.0 q ∙ ap (λ b. cond b false (contains nat_cmp s q)) (at_same v q e) in absurd (cc))
      (λ ne. (ne, sym (u.2 q (at_other v q ne)) ∙ h))
      (cases_eq v q),
  λ h. u.2 q (at_other v q h.0) ∙ h.1,
)

pub in_unchanged : (s n : BTreeSet ℕ) → n.keys ≡ s.keys → (q : ℕ) → In s q → In n q
in_unchanged s n e q h = ap (λ ks. contains nat_cmp (record s { keys = ks }) q) e ∙ h

pub lowest_of : (s : BTreeSet ℕ) (v : ℕ) → IsLowerBound nat_cmp s v → (q : ℕ) → In s q → v ≤ q
lowest_of s v h q i = le_from_not_gt v q (h q i)

-- ---- one link released
module _ (targets first waiting : List ℕ) (i t : ℕ) (i_in : i < length targets) (t_is : t ≡ get_or targets i 0) (t_in : t < length waiting)
    (counts : (node : ℕ) → get_or waiting node 0 + times node (take i targets) ≡ get_or first node 0)
    (enough : (node : ℕ) → times node targets ≤ get_or first node 0) where
  next_times : (node : ℕ) → times node (take (i + 1) targets) ≡ times node (take i targets) + cond (t == node) 1 0
  next_times node =
      sum_by_more (λ m. cond (m == node) 1 0) targets i 0 i_in ∙ ap (λ (m : ℕ). times node (take i targets) + cond (m == node) 1 0) (sym t_is)

  one_here : cond (t == t) 1 0 ≡ suc zero
  one_here = ap (λ b. cond b 1 0) (eq-eqb t t refl)

  none_else : (node : ℕ) → (node ≡ t → ⊥) → cond (t == node) 1 0 ≡ zero
  none_else node ne = ap (λ b. cond b 1 0) (ne_eqb t node (λ e. ne (sym e)))

  pub positive : 0 < get_or waiting t 0
  positive =
      let a = counts t in
      let b = enough t in
      let c = next_times t in
      let d = one_here in
      let e : times t (take (i + 1) targets) ≤ times t targets = sum_by-take-le (λ m. cond (m == t) 1 0) targets (i + 1) in
      omega arith

  abbrev lower : List ℕ
  lower = set waiting t (get_or waiting t 0 - 1)

  lower_here : get_or lower t 0 ≡ get_or waiting t 0 - 1
  lower_here = get_or-set_same waiting t (get_or waiting t 0 - 1) 0 t_in

  lower_else : (node : ℕ) → (node ≡ t → ⊥) → get_or lower node 0 ≡ get_or waiting node 0
  lower_else node ne = get_or-set_other waiting t node (get_or waiting t 0 - 1) 0 ne

  pub counts_lower : (node : ℕ) → get_or lower node 0 + times node (take (i + 1) targets) ≡ get_or first node 0
  counts_lower node =
      let c = next_times node in
      let h = counts node in
      ⊎_elim
      (λ e.
      let a : get_or lower node 0 ≡ get_or waiting node 0 - 1 = ap (λ n. get_or lower n 0) e ∙ lower_here ∙ ap (λ n. get_or waiting n 0 - 1) (sym e) in
      let b : cond (t == node) 1 0 ≡ suc zero = ap (λ n. cond (t == n) 1 0) e ∙ one_here in
      let p : 0 < get_or waiting node 0 = subst (λ (n : ℕ). 0 < get_or waiting n 0) (sym e) positive in
      omega arith)
      (λ ne. let a = lower_else node ne in let b = none_else node ne in omega arith)
      (cases_eq node t)

  -- what became ready so far
  abbrev Released : (ℕ → Type 0) → List ℕ → ℕ → ℕ → Type 0
  Released Old now k q = Old q ⊎ ((0 < times q (take k targets)) × (get_or now q 0 ≡ 0))

  other : (Old : ℕ → Type 0) (q : ℕ) → (q ≡ t → ⊥) → Released Old waiting i q ↔ Released Old lower (i + 1) q
  other Old q ne =
      let a = lower_else q ne in
      let b : times q (take (i + 1) targets) ≡ times q (take i targets) = let c = next_times q in let d = none_else q ne in omega arith in (
        λ h. ⊎_elim (λ o. inl o) (λ r. inr (subst (λ (n : ℕ). 0 < n) (sym b) r.0, a ∙ r.1)) h,
        λ h. ⊎_elim (λ o. inl o) (λ r. inr (subst (λ (n : ℕ). 0 < n) b r.0, sym a ∙ r.1)) h,
      )

  some_here : 0 < times t (take (i + 1) targets)
  some_here = let c = next_times t in let d = one_here in omega arith

  pub ready_zero : (Old Now New : ℕ → Type 0) → ((q : ℕ) → Now q ↔ Released Old waiting i q) → get_or lower t 0 ≡ 0
      → ((q : ℕ) → New q ↔ ((t ≡ q) ⊎ Now q)) → (q : ℕ) → New q ↔ Released Old lower (i + 1) q
  ready_zero Old Now New now is new q =
      ⊎_elim
      (λ e. (
        λ _. inr (subst (λ (n : ℕ). 0 < times n (take (i + 1) targets)) (sym e) some_here, ap (λ n. get_or lower n 0) e ∙ is),
        λ _. (new q).1 (inl (sym e)),
      ))
      (λ ne.
      let o = other Old q ne in (
        λ h. ⊎_elim (λ e. absurd (ne (sym e))) (λ n. o.0 ((now q).0 n)) ((new q).0 h),
        λ h. (new q).1 (inr ((now q).1 (o.1 h))),
      ))
      (cases_eq q t)

  pub ready_still : (Old Now : ℕ → Type 0) → ((q : ℕ) → Now q ↔ Released Old waiting i q) → get_or lower t 0 ≢ 0
      → (q : ℕ) → Now q ↔ Released Old lower (i + 1) q
  ready_still Old Now now is_not q =
      ⊎_elim
      (λ e.
      let pos : 0 < get_or waiting q 0 = subst (λ (n : ℕ). 0 < get_or waiting n 0) (sym e) positive in (
        λ h. ⊎_elim (λ o. inl o) (λ r. let z : get_or waiting q 0 ≡ 0 = r.1 in absurd (omega arith)) ((now q).0 h),
        λ h. ⊎_elim (λ o. (now q).1 (inl o)) (λ r. absurd (is_not (ap (λ n. get_or lower n 0) (sym e) ∙ r.1))) h,
      ))
      (λ ne. let o = other Old q ne in (λ h. o.0 ((now q).0 h), λ h. (now q).1 (o.1 h)))
      (cases_eq q t)

-- ---- no number is ready
any_nil : {X : Type 0} (f : X → Bool) (ks : List X) → ks ≡ [] → list_any f ks ≡ true → ⊥
any_nil f [] e h = cc
any_nil f (k ∷ ks) e h = cc

none_some : {X : Type 0} (r : Option X) → r ≡ None → IsSome r → ⊥
none_some None e h = cc
none_some (Some x) e h = cc

pub in_none : (s : BTreeSet ℕ) (r : Option ℕ) → r ≡ None → IsSome r ↔ (0 < length s.keys) → (q : ℕ) → In s q → ⊥
in_none s r e v q h =
    any_nil (λ k. is_eq (nat_cmp q k)) s.keys
    (nil_from_length s.keys (⊎_elim (λ z. z) (λ nz. absurd (none_some r e (v.1 (omega arith)))) (cases_eq (length s.keys) 0))) h

pub ready_is : (s s' : BTreeSet ℕ) (R : ℕ → Type 0) → s ≡ s' → ((q : ℕ) → In s' q ↔ R q) → (q : ℕ) → In s q ↔ R q
ready_is s s' R e h q = subst (λ (t : BTreeSet ℕ). In t q ↔ R q) (sym e) (h q)
