-- A Kept for each process that a snapshot makes, found slot by slot.
use Rattle.std.proofs.Common.{◌≡◌, ◌⊎◌, ℕ, zero, suc, ◌-◌, Bool, true, false, not, List, [], ◌∷◌, Option, Some, None, inl, inr, refl, sym, ap, ◌∙◌, arith, ⊎_elim}
use Rattle.std.specs.Prelude.{if◌then◌else◌, ◌&&◌, ◌||◌, ◌==◌, is_some, slice_get, slice_set}
use Rattle.std.specs.List.{list_all}
use Rattle.std.proofs.lemmas.Bool.{false≢true, cases_Bool, cases_eq, eq-eqb, ne_eqb, eqb-true, and_parts, and_from}
use Rattle.wc_world.specs.declared.change.Change.{Change}
use Rattle.wc_world.specs.declared.change.Change.TheVariants as change
use Rattle.wc_records.specs.declared.change.Kept.{Kept}
use Rattle.wc_world.specs.declared.slots.Slot.{Slot}
use Rattle.wc_world.specs.declared.slots.Slot.TheVariants as slot
use Rattle.wc_world.specs.Accepted.{is_in_order, kepts, made_from, how_often, is_among, keeps_each, kept_of}
use Rattle.wc_world.specs.Slots.{slots_in, is_made, is_made_in, made_at, kept_in, kept_at, filled, AreSlotsOf}

-- ---- a slot that is filled

set_here : (ss : List Slot) (place : ℕ) (s : Slot) → is_made_in (slice_get ss place) ≡ true → slice_get (slice_set ss place s) place ≡ Some s
set_here [] zero s h = absurd (false≢true h)
set_here [] (suc place) s h = absurd (false≢true h)
set_here (x ∷ xs) zero s h = refl
set_here (x ∷ xs) (suc place) s h = set_here xs place s h

set_there : (ss : List Slot) (place other : ℕ) (s : Slot) → (place ≡ other → ⊥) → slice_get (slice_set ss place s) other ≡ slice_get ss other
set_there [] zero other s ne = refl
set_there [] (suc place) other s ne = refl
set_there (x ∷ xs) zero zero s ne = absurd (ne refl)
set_there (x ∷ xs) zero (suc other) s ne = refl
set_there (x ∷ xs) (suc place) zero s ne = refl
set_there (x ∷ xs) (suc place) (suc other) s ne = set_there xs place other s (λ e. ne (ap (λ n. suc n) e))

less_one : (p : ℕ) → suc p - 1 ≡ p
less_one p = omega arith

abbrev put : List Slot → Kept → List Slot
put ss k = slice_set ss (k.pid - 1) (slot.Kept k)

slot_there : {X : Type 0} (none : X) (f : Option Slot → X) (at : ℕ → List Slot → X) → ((ss : List Slot) → at 0 ss ≡ none) → ((p : ℕ) (ss : List Slot) → at (suc p) ss ≡ f (slice_get ss p))
    → (n pid : ℕ) (ss : List Slot) (s : Slot) → (pid ≡ n → ⊥) → made_at pid ss ≡ true → at n (slice_set ss (pid - 1) s) ≡ at n ss
slot_there none f at first rest zero pid ss s ne h = first (slice_set ss (pid - 1) s) ∙ sym (first ss)
slot_there none f at first rest (suc n) zero ss s ne h = absurd (false≢true h)
slot_there none f at first rest (suc n) (suc p) ss s ne h =
    ap (λ (place : ℕ). at (suc n) (slice_set ss place s)) (less_one p)
    ∙ rest n (slice_set ss p s) ∙ ap f (set_there ss p n s (λ e. ne (ap (λ m. suc m) e))) ∙ sym (rest n ss)

made_there : (n : ℕ) (k : Kept) (ss : List Slot) → (k.pid ≡ n → ⊥) → made_at k.pid ss ≡ true → made_at n (put ss k) ≡ made_at n ss
made_there n k ss ne h = slot_there false is_made_in made_at (λ ss. refl) (λ p ss. refl) n k.pid ss (slot.Kept k) ne h

kept_there : (n : ℕ) (k : Kept) (ss : List Slot) → (k.pid ≡ n → ⊥) → made_at k.pid ss ≡ true → kept_at n (put ss k) ≡ kept_at n ss
kept_there n k ss ne h = slot_there None kept_in kept_at (λ ss. refl) (λ p ss. refl) n k.pid ss (slot.Kept k) ne h

made_here : (pid : ℕ) (k : Kept) (ss : List Slot) → made_at pid ss ≡ true → made_at pid (slice_set ss (pid - 1) (slot.Kept k)) ≡ false
made_here zero k ss h = refl
made_here (suc p) k ss h = ap (λ (place : ℕ). made_at (suc p) (slice_set ss place (slot.Kept k))) (less_one p) ∙ ap is_made_in (set_here ss p (slot.Kept k) h)

kept_here : (pid : ℕ) (k : Kept) (ss : List Slot) → made_at pid ss ≡ true → kept_at pid (slice_set ss (pid - 1) (slot.Kept k)) ≡ Some k
kept_here zero k ss h = absurd (false≢true h)
kept_here (suc p) k ss h = ap (λ (place : ℕ). kept_at (suc p) (slice_set ss place (slot.Kept k))) (less_one p) ∙ ap kept_in (set_here ss p (slot.Kept k) h)

-- what was made is not kept yet
unkept : (pid : ℕ) (ss : List Slot) → made_at pid ss ≡ true → kept_at pid ss ≡ None
unkept zero ss h = absurd (false≢true h)
unkept (suc p) ss h = at (slice_get ss p) h
  where
    at : (o : Option Slot) → is_made_in o ≡ true → kept_in o ≡ None
    at None h = refl
    at (Some slot.Other) h = absurd (false≢true h)
    at (Some slot.Made) h = refl
    at (Some (slot.Kept k)) h = absurd (false≢true h)

-- ---- each is kept once

abbrev AreMade : List Slot → List Kept → Type 0
AreMade ss [] = Unit {0}
AreMade ss (k ∷ ks) = (made_at k.pid ss ≡ true) × AreMade ss ks

record AreKept (ss : List Slot) (ks : List Kept) : Type 0 where
  once : (n : ℕ) → made_at n ss ≡ true → how_often n ks ≡ 1
  only : AreMade ss ks

often_here : (k : Kept) (ks : List Kept) → how_often k.pid (k ∷ ks) ≡ suc (how_often k.pid ks)
often_here k ks = ap (λ (b : Bool). if b then suc (how_often k.pid ks) else how_often k.pid ks) (eq-eqb k.pid k.pid refl)

often_there : (n : ℕ) (k : Kept) (ks : List Kept) → (k.pid ≡ n → ⊥) → how_often n (k ∷ ks) ≡ how_often n ks
often_there n k ks ne = ap (λ (b : Bool). if b then suc (how_often n ks) else how_often n ks) (ne_eqb k.pid n ne)

never : (ss : List Slot) (ks : List Kept) (n : ℕ) → AreMade ss ks → made_at n ss ≡ false → how_often n ks ≡ 0
never ss [] n h none = refl
never ss (k ∷ ks) n h none =
    often_there n k ks (λ e. false≢true (sym none ∙ ap (λ (m : ℕ). made_at m ss) (sym e) ∙ h.0)) ∙ never ss ks n h.1 none

still_made : (ss : List Slot) (k : Kept) (ks : List Kept) → made_at k.pid ss ≡ true → AreMade (put ss k) ks → AreMade ss ks
still_made ss k [] h made = tt
still_made ss k (q ∷ qs) h made =
    let ne : k.pid ≡ q.pid → ⊥ = λ e. false≢true (sym (made_here k.pid k ss h) ∙ ap (λ (n : ℕ). made_at n (put ss k)) e ∙ made.0) in
    (sym (made_there q.pid k ss ne h) ∙ made.0, still_made ss k qs h made.1)

others_made : (ss : List Slot) (k : Kept) (ks : List Kept) → made_at k.pid ss ≡ true → how_often k.pid ks ≡ 0 → AreMade ss ks → AreMade (put ss k) ks
others_made ss k [] h none made = tt
others_made ss k (q ∷ qs) h none made = by_eq (cases_eq q.pid k.pid) (λ gone. others_made ss k qs h gone made.1)
  where
    by_eq : (q.pid ≡ k.pid) ⊎ (q.pid ≡ k.pid → ⊥) → (how_often k.pid qs ≡ 0 → AreMade (put ss k) qs) → AreMade (put ss k) (q ∷ qs)
    by_eq (inl e) rest =
        let more : how_often k.pid (q ∷ qs) ≡ suc (how_often k.pid qs) = ap (λ (b : Bool). if b then suc (how_often k.pid qs) else how_often k.pid qs) (eq-eqb q.pid k.pid e) in
        absurd (omega (arith, more, none))
    by_eq (inr ne) rest = (
      made_there q.pid k ss (λ e. ne (sym e)) h ∙ made.0,
      rest (sym (often_there k.pid q qs ne) ∙ none),
    )

none_made : (ss : List Slot) (place : ℕ) → list_all (λ s. not (is_made s)) ss ≡ true → is_made_in (slice_get ss place) ≡ false
none_made [] zero h = refl
none_made [] (suc place) h = refl
none_made (s ∷ ss) zero h = opposite (is_made s) (and_parts (not (is_made s)) (list_all (λ s. not (is_made s)) ss) h).0
  where
    opposite : (b : Bool) → not b ≡ true → b ≡ false
    opposite true h = absurd (false≢true h)
    opposite false h = refl
none_made (s ∷ ss) (suc place) h = none_made ss place (and_parts (not (is_made s)) (list_all (λ s. not (is_made s)) ss) h).1

no_slot_made : (ss : List Slot) (n : ℕ) → list_all (λ s. not (is_made s)) ss ≡ true → made_at n ss ≡ false
no_slot_made ss zero h = refl
no_slot_made ss (suc place) h = none_made ss place h

all_unmade : (ss : List Slot) → ((place : ℕ) → is_made_in (slice_get ss place) ≡ true → ⊥) → list_all (λ s. not (is_made s)) ss ≡ true
all_unmade [] h = refl
all_unmade (s ∷ ss) h =
    and_from (not (is_made s)) (list_all (λ s. not (is_made s)) ss) (unmade (is_made s) (h 0)) (all_unmade ss (λ place. h (suc place)))
  where
    unmade : (b : Bool) → (b ≡ true → ⊥) → not b ≡ true
    unmade true h = absurd (h refl)
    unmade false h = refl

kept_if_filled : (ss : List Slot) (ks : List Kept) (v : List Slot) → filled ss ks ≡ Some v → AreKept ss ks
kept_if_filled ss [] v h = by_test (list_all (λ s. not (is_made s)) ss) refl h
  where
    by_test : (b : Bool) → list_all (λ s. not (is_made s)) ss ≡ b → (if b then Some ss else None) ≡ Some v → AreKept ss []
    by_test true is e = record { once = λ n made. absurd (false≢true (sym (no_slot_made ss n is) ∙ made)); only = tt }
    by_test false is e = absurd (cc)
kept_if_filled ss (k ∷ ks) v h = by_test (made_at k.pid ss) refl h (λ e. kept_if_filled (put ss k) ks v e)
  where
    by_test : (b : Bool) → made_at k.pid ss ≡ b → (if b then filled (put ss k) ks else None) ≡ Some v
        → (filled (put ss k) ks ≡ Some v → AreKept (put ss k) ks) → AreKept ss (k ∷ ks)
    by_test true is e more =
        let rest = more e in
        record {
          once = λ n made. ⊎_elim
              (λ (same : k.pid ≡ n). ap (λ (m : ℕ). how_often m (k ∷ ks)) (sym same) ∙ often_here k ks ∙ ap (λ (m : ℕ). suc m) (never (put ss k) ks k.pid rest.only (made_here k.pid k ss is)))
              (λ ne. often_there n k ks ne ∙ rest.once n (made_there n k ss ne is ∙ made)) (cases_eq k.pid n);
          only = (is, still_made ss k ks is rest.only);
        }
    by_test false is e more = absurd (cc)

filled_if_kept : (ss : List Slot) (ks : List Kept) → AreKept ss ks → is_some (filled ss ks) ≡ true
filled_if_kept ss [] h =
    ap (λ (b : Bool). is_some (if b then Some ss else None)) (all_unmade ss (λ place made. let e : 0 ≡ 1 = h.once (suc place) made in absurd (omega (arith, e))))
filled_if_kept ss (k ∷ ks) h =
    let one : suc (how_often k.pid ks) ≡ 1 = sym (often_here k ks) ∙ h.once k.pid h.only.0 in
    let none : how_often k.pid ks ≡ 0 = omega (arith, one) in
    ap (λ (b : Bool). is_some (if b then filled (put ss k) ks else None)) h.only.0
    ∙ filled_if_kept (put ss k) ks (record {
      once = λ n made.
          let ne : k.pid ≡ n → ⊥ = λ e. false≢true (sym (made_here k.pid k ss h.only.0) ∙ ap (λ (m : ℕ). made_at m (put ss k)) e ∙ made) in
          sym (often_there n k ks ne) ∙ h.once n (sym (made_there n k ss ne h.only.0) ∙ made);
      only = others_made ss k ks h.only.0 none h.only.1;
    })

-- ---- the processes that changes make

among_from : (n m : ℕ) (cs : List Change) → is_among n (made_from (suc m) cs) ≡ made_at (n - m) (slots_in cs)
among_from n m [] = none (n - m)
  where
    none : (p : ℕ) → false ≡ made_at p []
    none zero = refl
    none (suc p) = refl
among_from n m (change.Library l names ∷ cs) = among_from n m cs
among_from n m (change.Data v ∷ cs) = among_from n (suc m) cs ∙ behind (n - m) (n - suc m) (omega arith)
  where
    behind : (p q : ℕ) → q ≡ p - 1 → made_at q (slots_in cs) ≡ made_at p (slot.Other ∷ slots_in cs)
    behind zero q e = ap (λ (r : ℕ). made_at r (slots_in cs)) e
    behind (suc zero) q e = ap (λ (r : ℕ). made_at r (slots_in cs)) e
    behind (suc (suc p)) q e = let f : q ≡ suc p = omega (arith, e) in ap (λ (r : ℕ). made_at r (slots_in cs)) f
among_from n m (change.Process p ∷ cs) = by_eq (cases_eq (suc m) n) (among_from n (suc m) cs)
  where
    by_eq : (suc m ≡ n) ⊎ (suc m ≡ n → ⊥) → is_among n (made_from (suc (suc m)) cs) ≡ made_at (n - suc m) (slots_in cs) → (suc m == n) || is_among n (made_from (suc (suc m)) cs) ≡ made_at (n - m) (slot.Made ∷ slots_in cs)
    by_eq (inl e) rest =
        let one : n - m ≡ 1 = omega (arith, e) in
        ap (λ (b : Bool). b || is_among n (made_from (suc (suc m)) cs)) (eq-eqb (suc m) n e) ∙ ap (λ (r : ℕ). made_at r (slot.Made ∷ slots_in cs)) (sym one)
    by_eq (inr ne) rest =
        ap (λ (b : Bool). b || is_among n (made_from (suc (suc m)) cs)) (ne_eqb (suc m) n ne)
        ∙ rest ∙ behind (n - m) (n - suc m) (omega arith) (λ e. ne (omega (arith, e)))
      where
        behind : (p q : ℕ) → q ≡ p - 1 → (p ≡ 1 → ⊥) → made_at q (slots_in cs) ≡ made_at p (slot.Made ∷ slots_in cs)
        behind zero q e out = ap (λ (r : ℕ). made_at r (slots_in cs)) e
        behind (suc zero) q e out = absurd (out refl)
        behind (suc (suc p)) q e out = let f : q ≡ suc p = omega (arith, e) in ap (λ (r : ℕ). made_at r (slots_in cs)) f
among_from n m (change.Link l ∷ cs) = among_from n m cs
among_from n m (change.Set s ∷ cs) = among_from n m cs
among_from n m (change.Count c ∷ cs) = among_from n m cs
among_from n m (change.Kept k ∷ cs) = among_from n m cs

among_is : (n : ℕ) (cs : List Change) → is_among n (made_from 1 cs) ≡ made_at n (slots_in cs)
among_is n cs = let whole : n - 0 ≡ n = omega arith in among_from n 0 cs ∙ ap (λ (m : ℕ). made_at m (slots_in cs)) whole

-- ---- the test

often_one : (ns : List ℕ) (ks : List Kept) (n : ℕ) → list_all (λ pid. how_often pid ks == 1) ns ≡ true → is_among n ns ≡ true → how_often n ks ≡ 1
often_one [] ks n h among = absurd (false≢true among)
often_one (m ∷ ns) ks n h among =
    let parts = and_parts (how_often m ks == 1) (list_all (λ pid. how_often pid ks == 1) ns) h in
    by_test (m == n) refl among parts.0 (λ e. often_one ns ks n parts.1 e)
  where
    by_test : (b : Bool) → m == n ≡ b → b || is_among n ns ≡ true → how_often m ks == 1 ≡ true → (is_among n ns ≡ true → how_often n ks ≡ 1) → how_often n ks ≡ 1
    by_test true is e one rest = ap (λ (x : ℕ). how_often x ks) (sym (eqb-true m n is)) ∙ eqb-true (how_often m ks) 1 one
    by_test false is e one rest = rest e

all_often : (ns : List ℕ) (ks : List Kept) → ((n : ℕ) → is_among n ns ≡ true → how_often n ks ≡ 1) → list_all (λ pid. how_often pid ks == 1) ns ≡ true
all_often [] ks h = refl
all_often (m ∷ ns) ks h =
    and_from (how_often m ks == 1) (list_all (λ pid. how_often pid ks == 1) ns)
    (eq-eqb (how_often m ks) 1 (h m (ap (λ (b : Bool). b || is_among m ns) (eq-eqb m m refl))))
    (all_often ns ks (λ n among. h n (or_right (m == n) (is_among n ns) among)))
  where
    or_right : (a b : Bool) → b ≡ true → a || b ≡ true
    or_right true b e = refl
    or_right false b e = e

made_if_among : (cs : List Change) (ks : List Kept) → list_all (λ k. is_among k.pid (made_from 1 cs)) ks ≡ true → AreMade (slots_in cs) ks
made_if_among cs [] h = tt
made_if_among cs (k ∷ ks) h =
    let parts = and_parts (is_among k.pid (made_from 1 cs)) (list_all (λ (k : Kept). is_among k.pid (made_from 1 cs)) ks) h in
    (sym (among_is k.pid cs) ∙ parts.0, made_if_among cs ks parts.1)

among_if_made : (cs : List Change) (ks : List Kept) → AreMade (slots_in cs) ks → list_all (λ k. is_among k.pid (made_from 1 cs)) ks ≡ true
among_if_made cs [] h = refl
among_if_made cs (k ∷ ks) h =
    and_from (is_among k.pid (made_from 1 cs)) (list_all (λ (k : Kept). is_among k.pid (made_from 1 cs)) ks) (among_is k.pid cs ∙ h.0) (among_if_made cs ks h.1)

keeps_if_filled : (cs : List Change) (ks : List Kept) (v : List Slot) → filled (slots_in cs) ks ≡ Some v → keeps_each (made_from 1 cs) ks ≡ true
keeps_if_filled cs ks v h =
    let kept = kept_if_filled (slots_in cs) ks v h in
    and_from (list_all (λ pid. how_often pid ks == 1) (made_from 1 cs)) (list_all (λ (k : Kept). is_among k.pid (made_from 1 cs)) ks)
    (all_often (made_from 1 cs) ks (λ n among. kept.once n (sym (among_is n cs) ∙ among))) (among_if_made cs ks kept.only)

filled_if_keeps : (cs : List Change) (ks : List Kept) → keeps_each (made_from 1 cs) ks ≡ true → is_some (filled (slots_in cs) ks) ≡ true
filled_if_keeps cs ks h =
    let parts = and_parts (list_all (λ pid. how_often pid ks == 1) (made_from 1 cs)) (list_all (λ (k : Kept). is_among k.pid (made_from 1 cs)) ks) h in
    filled_if_kept (slots_in cs) ks (record {
      once = λ n made. often_one (made_from 1 cs) ks n parts.0 (among_is n cs ∙ made);
      only = made_if_among cs ks parts.1;
    })

none_keeps : (cs : List Change) (ks : List Kept) → filled (slots_in cs) ks ≡ None → keeps_each (made_from 1 cs) ks ≡ false
none_keeps cs ks h =
    ⊎_elim (λ is. absurd (false≢true (sym (ap (λ (o : Option (List Slot)). is_some o) h) ∙ filled_if_keeps cs ks is))) (λ not_so. not_so) (cases_Bool (keeps_each (made_from 1 cs) ks))

-- ---- the Kept of a process

abbrev or_else : {T : Type 0} → Option T → Option T → Option T
or_else None o = o
or_else (Some x) o = Some x

not_kept : (ss : List Slot) (ks : List Kept) (n : ℕ) → AreMade ss ks → made_at n ss ≡ false → kept_of n ks ≡ None
not_kept ss [] n h none = refl
not_kept ss (k ∷ ks) n h none =
    ap (λ (b : Bool). if b then Some k else kept_of n ks) (ne_eqb k.pid n (λ e. false≢true (sym none ∙ ap (λ (m : ℕ). made_at m ss) (sym e) ∙ h.0)))
    ∙ not_kept ss ks n h.1 none

kept_last : (n : ℕ) (ss : List Slot) (ks : List Kept) (v : List Slot) → filled ss ks ≡ Some v → kept_at n v ≡ or_else (kept_of n ks) (kept_at n ss)
kept_last n ss [] v h = by_test (list_all (λ s. not (is_made s)) ss) h
  where
    by_test : (b : Bool) → (if b then Some ss else None) ≡ Some v → kept_at n v ≡ kept_at n ss
    by_test true e = let same : ss ≡ v = cc in ap (kept_at n) (sym same)
    by_test false e = absurd (cc)
kept_last n ss (k ∷ ks) v h = by_test (made_at k.pid ss) refl h (λ e. kept_last n (put ss k) ks v e)
  where
    by_test : (b : Bool) → made_at k.pid ss ≡ b → (if b then filled (put ss k) ks else None) ≡ Some v
        → (filled (put ss k) ks ≡ Some v → kept_at n v ≡ or_else (kept_of n ks) (kept_at n (put ss k)))
        → kept_at n v ≡ or_else (kept_of n (k ∷ ks)) (kept_at n ss)
    by_test false is e rest = absurd (cc)
    by_test true is e rest = by_eq (cases_eq k.pid n)
      where
        by_eq : (k.pid ≡ n) ⊎ (k.pid ≡ n → ⊥) → kept_at n v ≡ or_else (if k.pid == n then Some k else kept_of n ks) (kept_at n ss)
        by_eq (inl same) =
            let gone : made_at n (put ss k) ≡ false = ap (λ (m : ℕ). made_at m (put ss k)) (sym same) ∙ made_here k.pid k ss is in
            let none : kept_of n ks ≡ None = not_kept (put ss k) ks n (kept_if_filled (put ss k) ks v e).only gone in
            let here : kept_at n (put ss k) ≡ Some k = ap (λ (m : ℕ). kept_at m (put ss k)) (sym same) ∙ kept_here k.pid k ss is in
            rest e ∙ (λ i. or_else (none i) (here i))
            ∙ ap (λ (b : Bool). or_else (if b then Some k else kept_of n ks) (kept_at n ss)) (sym (eq-eqb k.pid n same))
        by_eq (inr ne) =
            rest e ∙ ap (or_else (kept_of n ks)) (kept_there n k ss ne is)
            ∙ ap (λ (b : Bool). or_else (if b then Some k else kept_of n ks) (kept_at n ss)) (sym (ne_eqb k.pid n ne))

none_kept : (cs : List Change) (n : ℕ) → kept_at n (slots_in cs) ≡ None
none_kept cs zero = refl
none_kept cs (suc p) = at cs p
  where
    at : (cs : List Change) (p : ℕ) → kept_in (slice_get (slots_in cs) p) ≡ None
    at [] zero = refl
    at [] (suc p) = refl
    at (change.Library l names ∷ cs) p = at cs p
    at (change.Data v ∷ cs) zero = refl
    at (change.Data v ∷ cs) (suc p) = at cs p
    at (change.Process n ∷ cs) zero = refl
    at (change.Process n ∷ cs) (suc p) = at cs p
    at (change.Link l ∷ cs) p = at cs p
    at (change.Set s ∷ cs) p = at cs p
    at (change.Count c ∷ cs) p = at cs p
    at (change.Kept k ∷ cs) p = at cs p

-- the slots tell the Kept of each process
kept_by_slots : (cs : List Change) (ks : List Kept) (v : List Slot) → filled (slots_in cs) ks ≡ Some v → (n : ℕ) → kept_of n ks ≡ kept_at n v
kept_by_slots cs ks v h n = sym (kept_last n (slots_in cs) ks v h ∙ ap (or_else (kept_of n ks)) (none_kept cs n) ∙ last (kept_of n ks))
  where
    last : (o : Option Kept) → or_else o None ≡ o
    last None = refl
    last (Some k) = refl

-- what filling the slots tells of changes
pub slots_tell : (cs : List Change) (o : Option (List Slot)) → is_in_order cs ≡ true → o ≡ filled (slots_in cs) (kepts cs) → AreSlotsOf cs o
slots_tell cs None ordered h = ap (λ (b : Bool). b && keeps_each (made_from 1 cs) (kepts cs)) ordered ∙ none_keeps cs (kepts cs) (sym h)
slots_tell cs (Some v) ordered h = (
  ap (λ (b : Bool). b && keeps_each (made_from 1 cs) (kepts cs)) ordered ∙ keeps_if_filled cs (kepts cs) v (sym h),
  kept_by_slots cs (kepts cs) v (sym h),
)
