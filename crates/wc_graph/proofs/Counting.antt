-- Counts of links, and what nodes wait for.
use Rattle.std.proofs.Common.{◌≡◌, ◌≢◌, ℕ, zero, suc, ◌+◌, ◌<◌, ◌≤◌, ◌==◌, ◌&&◌, ◌||◌, not, nat_eq, Bool, true, false, cond, List, [], ◌∷◌, ◌++◌, length, get_or, take, map, filter, count_by, Any, Contains, ◌⊎◌, inl, inr, ⊎_elim, refl, sym, ap, ◌∙◌, subst, arith, eq-eqb}
use Rattle.std.specs.List.{list_any}
use Rattle.std.proofs.lemmas.Bool.{cases_eq}
use Rattle.std.proofs.lemmas.List.Sums.{sum_by-cons, count_by-le-length}
use Rattle.std.proofs.lemmas.List.{get_or_default, length-take}
use Rattle.std.proofs.lemmas.Map.Views.{exact_unsigned_eq}
use Rattle.wc_graph.specs.declared.link.Link.{Link}
use Rattle.wc_graph.specs.declared.link.LinkType.{LinkType}
use Rattle.wc_graph.specs.declared.link.LinkType.TheVariants.{InputCalc, InputWork, Create, Return, CallCalc, CallWork}
use Rattle.wc_graph.specs.Walks.{Leads, data_types}
use Rattle.wc_graph.specs.declared.near.Way.TheVariants.{Forward}
use Rattle.wc_graph.specs.Choice.{chosen, Chooses, data_choice}
use Rattle.wc_graph.specs.Near.{near_of, head, EndsAreWithin}
use Rattle.wc_graph.specs.Order.{waits, times}
use Rattle.wc_graph.proofs.Nearing.{near_leads, contains_tail, contains_cases, any_tail, both}

count_cons : {X : Type 0} (p : X → Bool) (x : X) (xs : List X) → count_by p (x ∷ xs) ≡ cond (p x) 1 0 + count_by p xs
count_cons p x xs = sum_by-cons (λ y. cond (p y) 1 0) x xs

-- ---- a count of none, or of some
count_some_one : {X : Type 0} (p : X → Bool) (x : X) (xs : List X) (b : Bool) → p x ≡ b → (cond b 1 0 + count_by p xs ≡ 0 → ⊥)
    → ((count_by p xs ≡ 0 → ⊥) → Any (λ y. p y ≡ true) xs) → Any (λ y. p y ≡ true) (x ∷ xs)
count_some_one p x xs true h n go = (0, x, omega arith, refl, h)
count_some_one p x xs false h n go = any_tail (λ y. p y ≡ true) x xs (go (λ e. n (omega arith)))

pub count_some : {X : Type 0} (p : X → Bool) (xs : List X) → (count_by p xs ≡ 0 → ⊥) → Any (λ y. p y ≡ true) xs
count_some p [] n = absurd (n refl)
count_some p (x ∷ xs) n = count_some_one p x xs (p x) refl (λ e. n (count_cons p x xs ∙ e)) (count_some p xs)

count_one : (b : Bool) (n : ℕ) → cond b 1 0 + n ≡ 0 → (b ≡ true → ⊥) × (n ≡ 0)
count_one true n h = absurd (omega arith)
count_one false n h = (λ e. cc, omega arith)

count_none_at : {X : Type 0} (p : X → Bool) (x : X) (xs : List X) → (p x ≡ true → ⊥) → (Any (λ y. p y ≡ true) xs → ⊥)
    → (k : ℕ) (y : X) → k < length (x ∷ xs) → get_or (x ∷ xs) k y ≡ y → p y ≡ true → ⊥
count_none_at p x xs here there zero y lt is t = here (ap p is ∙ t)
count_none_at p x xs here there (suc k) y lt is t = there (k, y, omega arith, is, t)

pub count_none : {X : Type 0} (p : X → Bool) (xs : List X) → count_by p xs ≡ 0 → Any (λ y. p y ≡ true) xs → ⊥
count_none p [] e a = absurd (omega (arith, a.2))
count_none p (x ∷ xs) e a =
    let parts = count_one (p x) (count_by p xs) (sym (count_cons p x xs) ∙ e) in
    count_none_at p x xs parts.0 (count_none p xs parts.1) a.0 a.1 a.2 a.3 a.4

-- ---- membership by a test
or_right : (a b : Bool) → (a ≡ true → ⊥) → (a || b) ≡ true → b ≡ true
or_right true b out h = absurd (out refl)
or_right false b out h = h

pub in_from_any : (n : ℕ) (xs : List ℕ) → list_any (nat_eq n) xs ≡ true → Contains xs n
in_from_any n [] h = absurd (cc)
in_from_any n (x ∷ xs) h =
    ⊎_elim (λ e. (0, omega arith, sym e))
    (λ ne. contains_tail x n xs (in_from_any n xs (or_right (nat_eq n x) (list_any (nat_eq n) xs) (λ e. ne (exact_unsigned_eq n x e)) h)))
    (cases_eq n x)

or_true : (a b : Bool) → b ≡ true → (a || b) ≡ true
or_true true b h = refl
or_true false b h = h

pub any_from_in : (n : ℕ) (xs : List ℕ) → Contains xs n → list_any (nat_eq n) xs ≡ true
any_from_in n [] c = absurd (omega (arith, c.1))
any_from_in n (x ∷ xs) c =
    contains_cases x n xs c (λ e. ap (λ b. b || list_any (nat_eq n) xs) (eq-eqb n x (sym e)))
    (λ r. or_true (nat_eq n x) (list_any (nat_eq n) xs) (any_from_in n xs r))

-- ---- data provenance
not_data : (t : LinkType) → (InputCalc ≡ t → ⊥) → (Create ≡ t → ⊥) → (k : ℕ) → k < length data_types → get_or data_types k t ≡ t → ⊥
not_data t a b zero lt e = a e
not_data t a b (suc zero) lt e = b e
not_data t a b (suc (suc k)) lt e = omega arith

pub chooses_data : Chooses data_choice data_types
chooses_data InputCalc = (λ _. (0, omega arith, refl), λ _. refl)
chooses_data InputWork = (λ h. absurd (cc), λ c. absurd (not_data InputWork (λ e. cc) (λ e. cc) c.0 c.1 c.2))
chooses_data Create = (λ _. (1, omega arith, refl), λ _. refl)
chooses_data Return = (λ h. absurd (cc), λ c. absurd (not_data Return (λ e. cc) (λ e. cc) c.0 c.1 c.2))
chooses_data CallCalc = (λ h. absurd (cc), λ c. absurd (not_data CallCalc (λ e. cc) (λ e. cc) c.0 c.1 c.2))
chooses_data CallWork = (λ h. absurd (cc), λ c. absurd (not_data CallWork (λ e. cc) (λ e. cc) c.0 c.1 c.2))

-- ---- what a node waits for
abbrev is_waiting : List ℕ → ℕ → Link → Bool
is_waiting placed node l = chosen data_choice l.link && (l.target == node) && not (list_any (nat_eq l.source) placed)

not_true : (b : Bool) → not b ≡ true → b ≡ true → ⊥
not_true true h e = cc
not_true false h e = cc

true_not : (b : Bool) → (b ≡ true → ⊥) → not b ≡ true
true_not true h = absurd (h refl)
true_not false h = refl

-- a node that waits does so for a source that is not placed
pub waits_some : (placed : List ℕ) (links : List Link) (node : ℕ) → waits placed links node ≢ 0
    → (source : ℕ) × Leads data_types links source node × (¬ Contains placed source)
waits_some placed links node n =
    let a = count_some (is_waiting placed node) links n in
    let l = a.1 in
    let b = both (chosen data_choice l.link && (l.target == node)) (not (list_any (nat_eq l.source) placed)) a.4 in
    let d = both (chosen data_choice l.link) (l.target == node) b.0 in (
      l.source,
      (a.0, l, a.2, a.3, ((chooses_data l.link).0 d.0, refl, exact_unsigned_eq l.target node d.1)),
      λ c. not_true (list_any (nat_eq l.source) placed) b.1 (any_from_in l.source placed c),
    )

decide_by : (n : ℕ) (xs : List ℕ) (b : Bool) → list_any (nat_eq n) xs ≡ b → Contains xs n ⊎ (Contains xs n → ⊥)
decide_by n xs true h = inl (in_from_any n xs h)
decide_by n xs false h = inr (λ c. let t = any_from_in n xs c in cc)

pub decide_in : (n : ℕ) (xs : List ℕ) → Contains xs n ⊎ (Contains xs n → ⊥)
decide_in n xs = decide_by n xs (list_any (nat_eq n) xs) refl

pub waits_none : (placed : List ℕ) (links : List Link) (node : ℕ) → waits placed links node ≡ 0
    → (source : ℕ) → Leads data_types links source node → Contains placed source
waits_none placed links node e source leads =
    ⊎_elim (λ c. c)
    (λ out.
    let l = leads.1 in
    let at : Contains placed l.source → ⊥ = λ c. out (subst (Contains placed) leads.4.1 c) in
    let t : is_waiting placed node l ≡ true = λ i.
    ((chooses_data l.link).1 leads.4.0 i && (eq-eqb l.target node leads.4.2) i) && true_not (list_any (nat_eq l.source) placed) (λ b. at (in_from_any l.source placed b)) i in
    absurd (count_none (is_waiting placed node) links e (leads.0, l, leads.2, leads.3, t)))
    (decide_in source placed)

pub waits_from : (placed : List ℕ) (links : List Link) (node : ℕ) → ((source : ℕ) → Leads data_types links source node → Contains placed source)
    → waits placed links node ≡ 0
waits_from placed links node h =
    ⊎_elim (λ e. e) (λ ne. let s = waits_some placed links node ne in absurd (s.2 (h s.0 s.1))) (cases_eq (waits placed links node) 0)

-- ---- one more node placed
bits : (d t a e : Bool) → (e ≡ true → a ≡ true → ⊥)
    → ◌≡◌ {A = ℕ} (cond (d && t && not a) 1 0) (cond (d && t && not (a || e)) 1 0 + cond (d && e) (cond t 1 0) 0)
bits true true true true h = absurd (h refl refl)
bits true true true false h = refl
bits true true false true h = refl
bits true true false false h = refl
bits true false a true h = refl
bits true false a false h = refl
bits false t a e h = refl

or_false : (b : Bool) → (b || false) ≡ b
or_false true = refl
or_false false = refl

or_assoc : (a b c : Bool) → (a || (b || c)) ≡ ((a || b) || c)
or_assoc true b c = refl
or_assoc false b c = refl

any_push : (n v : ℕ) (xs : List ℕ) → list_any (nat_eq n) (xs ++ v ∷ []) ≡ (list_any (nat_eq n) xs || nat_eq n v)
any_push n v [] = or_false (nat_eq n v)
any_push n v (x ∷ xs) = ap (λ b. nat_eq n x || b) (any_push n v xs) ∙ or_assoc (nat_eq n x) (list_any (nat_eq n) xs) (nat_eq n v)

near_one : (node : ℕ) (l : Link) (rest : List Link) (b : Bool) (f : Link → Bool)
    → times node (map (head Forward) (cond b (l ∷ filter f rest) (filter f rest))) ≡ cond b (cond (l.target == node) 1 0) 0 + times node (map (head Forward) (filter f rest))
near_one node l rest true f = count_cons (λ m. m == node) l.target (map (head Forward) (filter f rest))
near_one node l rest false f = omega arith

sums : (a b c x y z : ℕ) → a ≡ b + c → x ≡ y + z → a + x ≡ (b + y) + (c + z)
sums a b c x y z p q = omega arith

pub waits_placed : (placed : List ℕ) (v : ℕ) (links : List Link) (node : ℕ) → ¬ Contains placed v
    → waits placed links node ≡ waits (placed ++ v ∷ []) links node + times node (near_of data_choice Forward links v)
waits_placed placed v [] node new = refl
waits_placed placed v (l ∷ ls) node new =
    let d = chosen data_choice l.link in
    let t = l.target == node in
    let a = list_any (nat_eq l.source) placed in
    let e = nat_eq l.source v in
    let one = bits d t a e (λ p q. new (subst (Contains placed) (exact_unsigned_eq l.source v p) (in_from_any l.source placed q))) in
    let more : list_any (nat_eq l.source) (placed ++ v ∷ []) ≡ (a || e) = any_push l.source v placed in
    let left = count_cons (is_waiting placed node) l ls in
    let right : waits (placed ++ v ∷ []) (l ∷ ls) node ≡ cond (d && t && not (a || e)) 1 0 + waits (placed ++ v ∷ []) ls node =
    count_cons (is_waiting (placed ++ v ∷ []) node) l ls ∙ ap (λ b. cond (d && t && not b) 1 0 + waits (placed ++ v ∷ []) ls node) more in
    let near = near_one node l ls (d && e) (λ m. chosen data_choice m.link && (m.source == v)) in
    left ∙ sums _ _ _ _ _ _ one (waits_placed placed v ls node new) ∙ (λ i. sym right i + sym near i)

-- a number that stands in a list some times
pub times_in : (n : ℕ) (ns : List ℕ) → 0 < times n ns → Contains ns n
times_in n ns pos =
    let a = count_some (λ m. m == n) ns (λ e. omega arith) in
    (a.0, a.2, get_or_default ns a.0 n a.1 a.2 ∙ a.3 ∙ exact_unsigned_eq a.1 n a.4)

pub times_step : (links : List Link) (v q : ℕ) (targets : List ℕ) → targets ≡ near_of data_choice Forward links v → 0 < times q targets
    → Leads data_types links v q
times_step links v q targets is pos =
    (near_leads data_choice Forward data_types links chooses_data v q).0 (subst (λ (l : List ℕ). Contains l q) is (times_in q targets pos))

-- a count of links is at most how many there are
pub waits-le : (placed : List ℕ) (links : List Link) (node i : ℕ) → waits placed (take i links) node ≤ i
waits-le placed links node i =
    let a = count_by-le-length (is_waiting placed node) (take i links) in
    let b = length-take i links in
    omega arith

pub entered-le : (waiting : List ℕ) (links : List Link) (greatest i : ℕ) (l : Link) (w : ℕ) → length waiting ≡ greatest + 1 → EndsAreWithin greatest links
    → i < length links → l ≡ get_or links i l → w ≡ get_or waiting l.target w → ((node : ℕ) → get_or waiting node 0 ≡ waits [] (take i links) node) → w ≤ i
entered-le waiting links greatest i l w size within lt is w_is counts =
    let t : l.target ≤ greatest = subst (λ (m : Link). m.target ≤ greatest) (sym is) (within i l lt).1 in
    let e : w ≡ get_or waiting l.target 0 = w_is ∙ get_or_default waiting l.target w 0 (omega arith) in
    let c = counts l.target in
    let le = waits-le [] links l.target i in
    omega arith
