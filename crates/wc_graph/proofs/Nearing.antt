-- The lists of neighbours hold just the ends of the chosen links.
use Rattle.std.proofs.Common.{◌≡◌, ℕ, zero, suc, ◌+◌, ◌<◌, ◌≤◌, ◌==◌, ◌&&◌, Bool, true, false, cond, List, [], ◌∷◌, length, get_or, map, filter, Any, Contains, ◌↔◌, refl, sym, ap, ◌∙◌, subst, arith, eq-eqb}
use Rattle.std.proofs.lemmas.Map.Views.{exact_unsigned_eq}
use Rattle.wc_graph.specs.declared.link.Link.{Link}
use Rattle.wc_graph.specs.declared.link.LinkType.{LinkType}
use Rattle.wc_graph.specs.Walks.{Leads}
use Rattle.wc_graph.specs.declared.choice.Choice.{Choice}
use Rattle.wc_graph.specs.declared.near.Way.{Way}
use Rattle.wc_graph.specs.declared.near.Way.TheVariants.{Forward, Backward}
use Rattle.wc_graph.specs.Choice.{chosen, Chooses}
use Rattle.wc_graph.specs.Near.{near_of, tail, head, EndsAreWithin, Along, IsTable}

pub contains_tail : {X : Type 0} (y x : X) (xs : List X) → Contains xs x → Contains (y ∷ xs) x
contains_tail y x xs c = (suc c.0, omega (arith, c.1), c.2)

pub contains_cases : {X P : Type 0} (y x : X) (xs : List X) → Contains (y ∷ xs) x → (y ≡ x → P) → (Contains xs x → P) → P
contains_cases y x xs (zero, lt, e) f g = f e
contains_cases y x xs (suc k, lt, e) f g = g (k, omega (arith, lt), e)

pub any_tail : {X : Type 0} (P : X → Type 0) (y : X) (xs : List X) → Any P xs → Any P (y ∷ xs)
any_tail P y xs a = (suc a.0, a.1, omega (arith, a.2), a.3, a.4)

pub both : (a b : Bool) → (a && b) ≡ true → (a ≡ true) × (b ≡ true)
both true b h = (refl, h)
both false b h = absurd (cc)

module _ (c : Choice) (way : Way) (from to : ℕ) where
  abbrev Joins : Link → Type 0
  Joins l = (chosen c l.link ≡ true) × (tail way l ≡ from) × (head way l ≡ to)

  abbrev test : Link → Bool
  test l = chosen c l.link && (tail way l == from)

  joins_from : (l : Link) → test l ≡ true → head way l ≡ to → Joins l
  joins_from l h p = let b = both (chosen c l.link) (tail way l == from) h in (b.0, exact_unsigned_eq (tail way l) from b.1, p)

  test_from : (l : Link) → Joins l → test l ≡ true
  test_from l j = λ i. j.0 i && (eq-eqb (tail way l) from j.1) i

  listed_one : (l : Link) (ls : List Link) (t : Bool) → test l ≡ t → Contains (map (head way) (cond t (l ∷ filter test ls) (filter test ls))) to
      → (Contains (map (head way) (filter test ls)) to → Any Joins ls) → Any Joins (l ∷ ls)
  listed_one l ls true h k go =
      contains_cases (head way l) to (map (head way) (filter test ls)) k
      (λ e. (0, l, omega arith, refl, joins_from l h e))
      (λ r. any_tail Joins l ls (go r))
  listed_one l ls false h k go = any_tail Joins l ls (go k)

  listed : (ls : List Link) → Contains (near_of c way ls from) to → Any Joins ls
  listed [] k = absurd (omega (arith, k.1))
  listed (l ∷ ls) k = listed_one l ls (test l) refl k (listed ls)

  kept : (l : Link) (ls : List Link) (t : Bool) → Contains (map (head way) (filter test ls)) to → Contains (map (head way) (cond t (l ∷ filter test ls) (filter test ls))) to
  kept l ls true k = contains_tail (head way l) to (map (head way) (filter test ls)) k
  kept l ls false k = k

  taken : (l : Link) (ls : List Link) (t : Bool) → t ≡ true → head way l ≡ to → Contains (map (head way) (cond t (l ∷ filter test ls) (filter test ls))) to
  taken l ls true h e = (0, omega arith, e)
  taken l ls false h e = absurd (cc)

  unlisted : (ls : List Link) (k : ℕ) (x : Link) → k < length ls → get_or ls k x ≡ x → Joins x → Contains (near_of c way ls from) to
  unlisted [] k x lt e j = absurd (omega arith)
  unlisted (l ∷ ls) zero x lt e j =
      taken l ls (test l) (ap test e ∙ test_from x j) (ap (head way) e ∙ j.2)
  unlisted (l ∷ ls) (suc k) x lt e j = kept l ls (test l) (unlisted ls k x (omega arith) e j)

  pub near_is : (ls : List Link) → Contains (near_of c way ls from) to ↔ Any Joins ls
  near_is ls = (listed ls, λ a. unlisted ls a.0 a.1 a.2 a.3 a.4)

any_as : {X : Type 0} (P Q : X → Type 0) (xs : List X) → ((x : X) → P x → Q x) → Any P xs → Any Q xs
any_as P Q xs h a = (a.0, a.1, a.2, a.3, h a.1 a.4)

-- along the links of these types, the given way
pub near_leads : (c : Choice) (way : Way) (types : List LinkType) (ls : List Link) → Chooses c types → (from to : ℕ)
    → Contains (near_of c way ls from) to ↔ Along way (Leads types ls) from to
near_leads c Forward types ls choose from to =
    let n = near_is c Forward from to ls in (
      λ k. any_as (Joins c Forward from to) _ ls (λ l j. ((choose l.link).0 j.0, j.1, j.2)) (n.0 k),
      λ a. n.1 (any_as _ (Joins c Forward from to) ls (λ l j. ((choose l.link).1 j.0, j.1, j.2)) a),
    )
near_leads c Backward types ls choose from to =
    let n = near_is c Backward from to ls in (
      λ k. any_as (Joins c Backward from to) _ ls (λ l j. ((choose l.link).0 j.0, j.2, j.1)) (n.0 k),
      λ a. n.1 (any_as _ (Joins c Backward from to) ls (λ l j. ((choose l.link).1 j.0, j.2, j.1)) a),
    )

head_within : (way : Way) (greatest : ℕ) (l : Link) → (l.source ≤ greatest) × (l.target ≤ greatest) → head way l ≤ greatest
head_within Forward greatest l h = h.1
head_within Backward greatest l h = h.0

-- a table of lists as `near` makes it
pub table_from_near : (c : Choice) (way : Way) (types : List LinkType) (ls : List Link) (greatest : ℕ) (table : List (List ℕ))
    → Chooses c types → EndsAreWithin greatest ls → length table ≡ greatest + 1
    → ((node : ℕ) → get_or table node [] ≡ near_of c way ls node)
    → IsTable (Along way (Leads types ls)) greatest table
table_from_near c way types ls greatest table choose within size lists = record {
  size = size;
  inside = λ from to n.
      let k : Contains (near_of c way ls from) to = subst (λ (l : List ℕ). Contains l to) (lists from) n in
      let a = (near_is c way from to ls).0 k in
      let e : head way a.1 ≤ greatest = subst (λ (l : Link). head way l ≤ greatest) a.3 (head_within way greatest (get_or ls a.0 a.1) (within a.0 a.1 a.2)) in
      subst (λ (m : ℕ). m ≤ greatest) a.4.2 e;
  steps = λ from to.
      let s = near_leads c way types ls choose from to in
      (λ n. s.0 (subst (λ (l : List ℕ). Contains l to) (lists from) n), λ a. subst (λ (l : List ℕ). Contains l to) (sym (lists from)) (s.1 a));
}
