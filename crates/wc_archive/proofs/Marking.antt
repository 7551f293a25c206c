-- Marks, one after another.
use Rattle.std.proofs.Common.{◌≡◌, ◌↔◌, ◌⊎◌, inl, inr, ℕ, zero, suc, ◌+◌, ◌<◌, ◌≤◌, ◌==◌, ◌&&◌, ◌||◌, Bool, true, false, List, [], ◌∷◌, ◌++◌, length, map, take, get_or, slice_index, refl, sym, ap, subst, ◌∙◌, arith, length-append}
use Rattle.std.specs.Prelude.{All, Contains, filter, if◌then◌else◌, replicate}
use Rattle.std.specs.List.{list_any}
use Rattle.std.proofs.Math.ListN.{set}
use Rattle.std.proofs.lemmas.Bool.{cases_lt, eq-eqb, eqb-true, ne_eqb, or_cases, or_left, or_right}
use Rattle.std.proofs.lemmas.List.{append-nil, get_or-set_other, get_or-set_same, get_or_append_left, get_or_push, length-set, take_all, take_more}
use Rattle.std.proofs.lemmas.List.Elements.{Contains-get_or, filter-append}
use Rattle.std.proofs.lemmas.List.Folds.{list_any-append, list_any-from_Any}
use Rattle.wc_graph.specs.Reached.{AreExactly, IsNode}
use Rattle.wc_graph.specs.Rules.{IsLinkCorrect}
use Rattle.wc_graph.specs.Walks.{Leads, Reaches, Walks}
use Rattle.wc_graph.specs.declared.link.Link.{Link}
use Rattle.wc_graph.specs.declared.link.LinkType.{LinkType}
use Rattle.wc_graph.specs.declared.node.NodeKind.{NodeKind}
use Rattle.wc_graph.proofs.Linked.{ends_are_nodes}
use Rattle.wc_archive.specs.Closure.{archive_number, its_process, numbers_from, place_from}
use Rattle.wc_subworlds.specs.Parts.{placed}
use Rattle.wc_archive.specs.Marks.{ends_at, is_marked, is_marked_link, marked}

or_false : (b : Bool) → (b || false) ≡ b
or_false true = refl
or_false false = refl

or_assoc : (a b c : Bool) → ((a || b) || c) ≡ (a || (b || c))
or_assoc true b c = refl
or_assoc false b c = refl

-- ---- one mark more

pub marked_set : (marks : List Bool) (at n : ℕ) → at < length marks → is_marked (set marks at true) n ≡ ((at == n) || is_marked marks n)
marked_set marks at n lt = by (at == n) refl
  where
    by : (b : Bool) → (at == n) ≡ b → get_or (set marks at true) n false ≡ (b || get_or marks n false)
    by true e = ap (λ (m : ℕ). get_or (set marks at true) m false) (sym (eqb-true at n e)) ∙ get_or-set_same marks at true false lt
    by false e = get_or-set_other marks at n true false (λ f. let t : (at == n) ≡ true = eq-eqb at n (sym f) in absurd (cc (t, e)))

none_marked : (count n : ℕ) → is_marked (replicate count false) n ≡ false
none_marked zero n = refl
none_marked (suc count) zero = refl
none_marked (suc count) (suc n) = none_marked count n

many : (count root : ℕ) → root < count → root < length (replicate count false)
many zero root lt = absurd (omega (arith, lt))
many (suc count) zero lt = omega arith
many (suc count) (suc root) lt = let rest = many count root (omega (arith, lt)) in omega (arith, rest)

sized : (count : ℕ) → length (replicate count false) ≡ count
sized zero = refl
sized (suc count) = let e : length (replicate count false) ≡ count = sized count in omega (arith, e)

pub same_size : (marks new : List Bool) (id : ℕ) → new ≡ set marks id true → length new ≡ length marks
same_size marks new id e = ap length e ∙ length-set marks id true

-- ---- one element more

pub any_more : {X : Type 0} (p : X → Bool) (xs : List X) (i : ℕ) (d : X) → i < length xs → list_any p (take (i + 1) xs) ≡ (list_any p (take i xs) || p (get_or xs i d))
any_more p xs i d lt =
    ap (list_any p) (take_more xs i d lt) ∙ list_any-append p (take i xs) (get_or xs i d ∷ []) ∙ ap (λ (b : Bool). list_any p (take i xs) || b) (or_false (p (get_or xs i d)))

pub none_yet : {X : Type 0} (p : X → Bool) (xs : List X) (b : Bool) → b ≡ (b || list_any p (take 0 xs))
none_yet p xs b = sym (or_false b)

pub id_more : (old marks new : List Bool) (ids : List ℕ) (i d id : ℕ) → i < length ids → id ≡ get_or ids i d → id < length marks → new ≡ set marks id true
    → ((n : ℕ) → is_marked marks n ≡ (is_marked old n || list_any (λ k. k == n) (take i ids)))
    → (n : ℕ) → is_marked new n ≡ (is_marked old n || list_any (λ k. k == n) (take (i + 1) ids))
id_more old marks new ids i d id lt is low e h n =
    ap (λ (ms : List Bool). is_marked ms n) e ∙ marked_set marks id n low ∙ ap (λ (b : Bool). (id == n) || b) (h n)
    ∙ turn (id == n) (is_marked old n) (list_any (λ k. k == n) (take i ids))
    ∙ ap (λ (m : ℕ). is_marked old n || (list_any (λ k. k == n) (take i ids) || (m == n))) is
    ∙ ap (λ (b : Bool). is_marked old n || b) (sym (any_more (λ k. k == n) ids i d lt))
  where
    turn : (a b c : Bool) → (a || (b || c)) ≡ (b || (c || a))
    turn true true c = refl
    turn true false true = refl
    turn true false false = refl
    turn false true c = refl
    turn false false true = refl
    turn false false false = refl

pub ids_all : (old marks : List Bool) (ids : List ℕ) (i : ℕ) → length ids ≤ i
    → ((n : ℕ) → is_marked marks n ≡ (is_marked old n || list_any (λ k. k == n) (take i ids)))
    → (n : ℕ) → is_marked marks n ≡ (is_marked old n || list_any (λ k. k == n) ids)
ids_all old marks ids i le h n = h n ∙ ap (λ (xs : List ℕ). is_marked old n || list_any (λ k. k == n) xs) (take_all i ids le)

-- ---- what is reached

-- a walk ends at a node
pub walk_ends : (nodes : List NodeKind) (links : List Link) (types : List LinkType) → IsLinkCorrect nodes links → (from to : ℕ) (through : List ℕ) → Walks (Leads types links) from through to → IsNode nodes to
walk_ends nodes links types c from to [] h =
    let there = ends_are_nodes nodes links c h.0 h.1 h.2 in
    subst (IsNode nodes) h.4.2 (subst (λ (l : Link). IsNode nodes l.target) h.3 there.1)
walk_ends nodes links types c from to (next ∷ rest) h = walk_ends nodes links types c next to rest h.1

pub ids_within : (nodes : List NodeKind) (links : List Link) (types : List LinkType) (root : ℕ) (ids : List ℕ) → IsLinkCorrect nodes links
    → AreExactly (Reaches (Leads types links) root) ids → All (λ id. id < length nodes + 1) ids
ids_within nodes links types root ids c are = λ i d lt.
    let r = (are.each (get_or ids i d)).0 (Contains-get_or ids i d lt) in
    let n : IsNode nodes (get_or ids i d) = walk_ends nodes links types c root (get_or ids i d) r.0 r.1 in
    let le : get_or ids i d ≤ length nodes = n.1 in
    omega (arith, le)

has_any : (ids : List ℕ) (n : ℕ) → Contains ids n → list_any (λ i. i == n) ids ≡ true
has_any ids n h = list_any-from_Any (λ i. i == n) ids (h.0, n, h.1, h.2, eq-eqb n n refl)

any_has : (ids : List ℕ) (n : ℕ) → list_any (λ i. i == n) ids ≡ true → Contains ids n
any_has ids n h = walk ids h
  where
    walk : (xs : List ℕ) → list_any (λ i. i == n) xs ≡ true → Contains xs n
    walk [] e = absurd (cc)
    walk (x ∷ xs) e = at (or_cases (x == n) (list_any (λ i. i == n) xs) e) (walk xs)
      where
        at : ((x == n) ≡ true) ⊎ (list_any (λ i. i == n) xs ≡ true) → (list_any (λ i. i == n) xs ≡ true → Contains xs n) → Contains (x ∷ xs) n
        at (inl f) rest = (0, omega arith, eqb-true x n f)
        at (inr f) rest = let t = rest f in let lt : t.0 < length xs = t.1 in (suc t.0, omega (arith, lt), t.2)

-- the root is marked, and then what is reached from it
pub reached_marked : (P : ℕ → Type 0) (count root : ℕ) (blank one marks : List Bool) (ids : List ℕ) → blank ≡ replicate count false → root < count → one ≡ set blank root true
    → AreExactly P ids → ((n : ℕ) → is_marked marks n ≡ (is_marked one n || list_any (λ i. i == n) ids)) → (n : ℕ) → (is_marked marks n ≡ true) ↔ ((root ≡ n) ⊎ P n)
reached_marked P count root blank one marks ids none lt is are h n = (
  λ m. from (or_cases (root == n) (list_any (λ i. i == n) ids) (sym (whole n) ∙ m)),
  to,
)
  where
    whole : (n : ℕ) → is_marked marks n ≡ ((root == n) || list_any (λ i. i == n) ids)
    whole n =
        h n
        ∙ ap (λ (b : Bool). b || list_any (λ i. i == n) ids)
        (ap (λ (ms : List Bool). is_marked ms n) (is ∙ ap (λ (ms : List Bool). set ms root true) none) ∙ marked_set (replicate count false) root n (many count root lt)
        ∙ ap (λ (b : Bool). (root == n) || b) (none_marked count n) ∙ or_false (root == n))

    from : ((root == n) ≡ true) ⊎ (list_any (λ i. i == n) ids ≡ true) → (root ≡ n) ⊎ P n
    from (inl e) = inl (eqb-true root n e)
    from (inr e) = inr ((are.each n).0 (any_has ids n e))

    to : (root ≡ n) ⊎ P n → is_marked marks n ≡ true
    to (inl e) = whole n ∙ or_left (root == n) (list_any (λ i. i == n) ids) (eq-eqb root n e)
    to (inr p) = whole n ∙ or_right (root == n) (list_any (λ i. i == n) ids) (has_any ids n ((are.each n).1 p))

pub root_size : (count root : ℕ) (blank one marks : List Bool) → blank ≡ replicate count false → one ≡ set blank root true → length marks ≡ length one → length marks ≡ count
root_size count root blank one marks none is size = size ∙ ap length is ∙ length-set blank root true ∙ ap length none ∙ sized count

pub root_within : (count root : ℕ) (blank : List Bool) → blank ≡ replicate count false → root < count → root < length blank
root_within count root blank none lt = subst (λ (ms : List Bool). root < length ms) (sym none) (many count root lt)

-- ---- the ends of links

pub unmarked_link : (marks below : List Bool) (l : Link) → is_marked below (its_process l) ≡ false → (n : ℕ) → is_marked marks n ≡ (is_marked marks n || ends_at below n l)
unmarked_link marks below l e n =
    sym (ap (λ (b : Bool). is_marked marks n || (b && ((l.source == n) || (l.target == n)))) e ∙ or_false (is_marked marks n))

pub both_marked : (marks one new below : List Bool) (l : Link) → is_marked below (its_process l) ≡ true → l.source < length marks → l.target < length marks
    → one ≡ set marks l.source true → new ≡ set one l.target true → (n : ℕ) → is_marked new n ≡ (is_marked marks n || ends_at below n l)
both_marked marks one new below l e source target is is_new n =
    ap (λ (ms : List Bool). is_marked ms n) is_new ∙ marked_set one l.target n (subst (λ (m : ℕ). l.target < m) (sym (same_size marks one l.source is)) target)
    ∙ ap (λ (ms : List Bool). (l.target == n) || is_marked ms n) is ∙ ap (λ (b : Bool). (l.target == n) || b) (marked_set marks l.source n source)
    ∙ turn (l.target == n) (l.source == n) (is_marked marks n)
    ∙ ap (λ (b : Bool). is_marked marks n || (b && ((l.source == n) || (l.target == n)))) (sym e)
  where
    turn : (t s m : Bool) → (t || (s || m)) ≡ (m || (true && (s || t)))
    turn true true true = refl
    turn true true false = refl
    turn true false true = refl
    turn true false false = refl
    turn false true true = refl
    turn false true false = refl
    turn false false true = refl
    turn false false false = refl

pub both_size : (marks one new : List Bool) (s t : ℕ) → one ≡ set marks s true → new ≡ set one t true → length new ≡ length marks
both_size marks one new s t is is_new = same_size one new t is_new ∙ same_size marks one s is

pub link_more : (old marks new below : List Bool) (links : List Link) (i : ℕ) (d l : Link) → i < length links → l ≡ get_or links i d
    → ((n : ℕ) → is_marked marks n ≡ (is_marked old n || list_any (ends_at below n) (take i links)))
    → ((n : ℕ) → is_marked new n ≡ (is_marked marks n || ends_at below n l))
    → (n : ℕ) → is_marked new n ≡ (is_marked old n || list_any (ends_at below n) (take (i + 1) links))
link_more old marks new below links i d l lt is h step n =
    step n ∙ ap (λ (b : Bool). b || ends_at below n l) (h n) ∙ or_assoc (is_marked old n) (list_any (ends_at below n) (take i links)) (ends_at below n l)
    ∙ ap (λ (x : Link). is_marked old n || (list_any (ends_at below n) (take i links) || ends_at below n x)) is
    ∙ ap (λ (b : Bool). is_marked old n || b) (sym (any_more (ends_at below n) links i d lt))

pub links_all : (old marks below : List Bool) (links : List Link) (i : ℕ) → length links ≤ i
    → ((n : ℕ) → is_marked marks n ≡ (is_marked old n || list_any (ends_at below n) (take i links)))
    → (n : ℕ) → is_marked marks n ≡ (is_marked old n || list_any (ends_at below n) links)
links_all old marks below links i le h n = h n ∙ ap (λ (xs : List Link). is_marked old n || list_any (ends_at below n) xs) (take_all i links le)

pub sources_within : (nodes : List NodeKind) (links : List Link) → IsLinkCorrect nodes links → All (λ l. l.source < length nodes + 1) links
sources_within nodes links c = λ i d lt. let h = ends_are_nodes nodes links c i d lt in let le : (get_or links i d).source ≤ length nodes = h.0.1 in omega (arith, le)

pub targets_within : (nodes : List NodeKind) (links : List Link) → IsLinkCorrect nodes links → All (λ l. l.target < length nodes + 1) links
targets_within nodes links c = λ i d lt. let h = ends_are_nodes nodes links c i d lt in let le : (get_or links i d).target ≤ length nodes = h.1.1 in omega (arith, le)

-- ---- numbers

pub numbers_next : (n count : ℕ) → numbers_from n (count + 1) ≡ numbers_from n count ++ (n + count) ∷ []
numbers_next n zero = let e : n ≡ n + 0 = omega arith in ap (λ (m : ℕ). m ∷ []) e
numbers_next n (suc count) =
    let e : suc count + 1 ≡ suc (count + 1) = omega arith in
    let f : suc n + count ≡ n + suc count = omega arith in
    ap (numbers_from n) e ∙ ap (λ (xs : List ℕ). n ∷ xs) (numbers_next (suc n) count ∙ ap (λ (m : ℕ). numbers_from (suc n) count ++ m ∷ []) f)

pub numbers_more : (marks : List Bool) (i : ℕ) → filter (is_marked marks) (numbers_from 0 (i + 1)) ≡ filter (is_marked marks) (numbers_from 0 i) ++ filter (is_marked marks) (i ∷ [])
numbers_more marks i =
    let e : 0 + i ≡ i = omega arith in
    ap (filter (is_marked marks)) (numbers_next 0 i ∙ ap (λ (m : ℕ). numbers_from 0 i ++ m ∷ []) e) ∙ filter-append (is_marked marks) (numbers_from 0 i) (i ∷ [])

-- the place of a number behind others
place_more : (k : ℕ) (xs : List ℕ) (x n : ℕ) → place_from k (xs ++ x ∷ []) n ≡ (if list_any (λ i. i == n) xs then place_from k xs n else (if x == n then k + length xs else 0))
place_more k [] x n = let e : k ≡ k + 0 = omega arith in ap (λ (m : ℕ). if x == n then m else 0) e
place_more k (y ∷ ys) x n = by (y == n) (place_more (suc k) ys x n)
  where
    by : (b : Bool) → place_from (suc k) (ys ++ x ∷ []) n ≡ (if list_any (λ i. i == n) ys then place_from (suc k) ys n else (if x == n then suc k + length ys else 0))
        → (if b then k else place_from (suc k) (ys ++ x ∷ []) n)
        ≡ (if (b || list_any (λ i. i == n) ys) then (if b then k else place_from (suc k) ys n) else (if x == n then k + suc (length ys) else 0))
    by true rest = refl
    by false rest =
        let e : suc k + length ys ≡ k + suc (length ys) = omega arith in
        rest ∙ ap (λ (m : ℕ). if list_any (λ i. i == n) ys then place_from (suc k) ys n else (if x == n then m else 0)) e

place_none : (k : ℕ) (xs : List ℕ) (n : ℕ) → list_any (λ i. i == n) xs ≡ false → place_from k xs n ≡ 0
place_none k [] n e = refl
place_none k (x ∷ xs) n e = by (x == n) (place_none (suc k) xs n) e
  where
    by : (b : Bool) → (list_any (λ i. i == n) xs ≡ false → place_from (suc k) xs n ≡ 0) → (b || list_any (λ i. i == n) xs) ≡ false → (if b then k else place_from (suc k) xs n) ≡ 0
    by true rest e = absurd (cc)
    by false rest e = rest e

-- marked numbers below another aren't it
not_among : (p : ℕ → Bool) (n low count : ℕ) → low + count ≤ n → list_any (λ i. i == n) (filter p (numbers_from low count)) ≡ false
not_among p n low zero le = refl
not_among p n low (suc count) le = by (p low) (not_among p n (suc low) count (omega (arith, le)))
  where
    by : (b : Bool) → list_any (λ i. i == n) (filter p (numbers_from (suc low) count)) ≡ false
        → list_any (λ i. i == n) (if b then low ∷ filter p (numbers_from (suc low) count) else filter p (numbers_from (suc low) count)) ≡ false
    by true rest = ap (λ (b : Bool). b || list_any (λ i. i == n) (filter p (numbers_from (suc low) count))) (ne_eqb low n (λ e. absurd (omega (arith, le, e)))) ∙ rest
    by false rest = rest

few_marked : (p : ℕ → Bool) (low count : ℕ) → length (filter p (numbers_from low count)) ≤ count
few_marked p low zero = omega arith
few_marked p low (suc count) = by (p low) (few_marked p (suc low) count)
  where
    by : (b : Bool) → length (filter p (numbers_from (suc low) count)) ≤ count
        → length (if b then low ∷ filter p (numbers_from (suc low) count) else filter p (numbers_from (suc low) count)) ≤ suc count
    by true le = omega (arith, le)
    by false le = omega (arith, le)

module _ (marks : List Bool) (i : ℕ) where
  abbrev pub front : List ℕ
  front = filter (is_marked marks) (numbers_from 0 i)

  pub few_in_front : length front ≤ i
  few_in_front = few_marked (is_marked marks) 0 i

  -- a table with one number more
  entry : (numbers new : List ℕ) (v n : ℕ) → length numbers ≡ i → new ≡ numbers ++ v ∷ [] → slice_index new n ≡ (if i == n then v else slice_index numbers n)
  entry numbers new v n size e = ap (λ (xs : List ℕ). slice_index xs n) e ∙ by (i == n) refl
    where
      by : (b : Bool) → (i == n) ≡ b → slice_index (numbers ++ v ∷ []) n ≡ (if b then v else slice_index numbers n)
      by true f = let same : i ≡ n = eqb-true i n f in get_or_push numbers v 0 n (size ∙ same)
      by false f = at (cases_lt n (length numbers))
        where
          at : (n < length numbers) ⊎ (length numbers ≤ n) → slice_index (numbers ++ v ∷ []) n ≡ slice_index numbers n
          at (inl lt) = get_or_append_left numbers (v ∷ []) 0 n lt
          at (inr le) =
              let longer : length (numbers ++ v ∷ []) ≡ length numbers + 1 = length-append numbers (v ∷ []) in
              let ne : i ≡ n → ⊥ = λ same. let t : (i == n) ≡ true = eq-eqb i n same in absurd (cc (t, f)) in
              past (numbers ++ v ∷ []) n (more (cases_lt n (length (numbers ++ v ∷ []))) longer ne le) ∙ sym (past numbers n le)
            where
              past : (xs : List ℕ) (n : ℕ) → length xs ≤ n → slice_index xs n ≡ 0
              past [] n le = refl
              past (x ∷ xs) zero le = absurd (omega (arith, le))
              past (x ∷ xs) (suc n) le = past xs n (omega (arith, le))

              more : (n < length (numbers ++ v ∷ [])) ⊎ (length (numbers ++ v ∷ []) ≤ n) → length (numbers ++ v ∷ []) ≡ length numbers + 1 → (i ≡ n → ⊥) → length numbers ≤ n
                  → length (numbers ++ v ∷ []) ≤ n
              more (inr le) e ne low = le
              more (inl lt) e ne low = absurd (ne (omega (arith, lt, e, low, size)))

  pub number_marked : (numbers new : List ℕ) (last : ℕ) → length numbers ≡ i → is_marked marks i ≡ true → last ≡ length front → new ≡ numbers ++ (last + 1) ∷ []
      → ((n : ℕ) → slice_index numbers n ≡ archive_number front n) → (n : ℕ) → slice_index new n ≡ archive_number (filter (is_marked marks) (numbers_from 0 (i + 1))) n
  number_marked numbers new last size here count e h n =
      let next : filter (is_marked marks) (numbers_from 0 (i + 1)) ≡ front ++ i ∷ [] = numbers_more marks i ∙ ap (λ (b : Bool). front ++ (if b then i ∷ [] else [])) here in
      entry numbers new (last + 1) n size e ∙ by (i == n) refl ∙ sym (ap (λ (xs : List ℕ). archive_number xs n) next ∙ place_more 1 front i n)
    where
      by : (b : Bool) → (i == n) ≡ b → (if b then last + 1 else slice_index numbers n) ≡ (if list_any (λ k. k == n) front then place_from 1 front n else (if b then 1 + length front else 0))
      by true f =
          let same : i ≡ n = eqb-true i n f in
          let none : list_any (λ k. k == n) front ≡ false = not_among (is_marked marks) n 0 i (omega (arith, same)) in
          let v : last + 1 ≡ 1 + length front = omega (arith, count) in
          v ∙ sym (ap (λ (b : Bool). if b then place_from 1 front n else 1 + length front) none)
      by false f = h n ∙ on (list_any (λ k. k == n) front) refl
        where
          on : (b : Bool) → list_any (λ k. k == n) front ≡ b → place_from 1 front n ≡ (if b then place_from 1 front n else 0)
          on true g = refl
          on false g = place_none 1 front n g

  pub number_unmarked : (numbers new : List ℕ) → length numbers ≡ i → is_marked marks i ≡ false → new ≡ numbers ++ 0 ∷ []
      → ((n : ℕ) → slice_index numbers n ≡ archive_number front n) → (n : ℕ) → slice_index new n ≡ archive_number (filter (is_marked marks) (numbers_from 0 (i + 1))) n
  number_unmarked numbers new size here e h n =
      let next : filter (is_marked marks) (numbers_from 0 (i + 1)) ≡ front ++ [] = numbers_more marks i ∙ ap (λ (b : Bool). front ++ (if b then i ∷ [] else [])) here in
      entry numbers new 0 n size e ∙ by (i == n) refl ∙ sym (ap (λ (xs : List ℕ). archive_number xs n) (next ∙ append-nil front))
    where
      by : (b : Bool) → (i == n) ≡ b → (if b then 0 else slice_index numbers n) ≡ archive_number front n
      by true f =
          let same : i ≡ n = eqb-true i n f in
          sym (place_none 1 front n (not_among (is_marked marks) n 0 i (omega (arith, same))))
      by false f = h n

  pub count_marked : is_marked marks i ≡ true → (last : ℕ) → last ≡ length front → last + 1 ≡ length (filter (is_marked marks) (numbers_from 0 (i + 1)))
  count_marked here last e =
      let next : filter (is_marked marks) (numbers_from 0 (i + 1)) ≡ front ++ i ∷ [] = numbers_more marks i ∙ ap (λ (b : Bool). front ++ (if b then i ∷ [] else [])) here in
      let size : length (front ++ i ∷ []) ≡ length front + 1 = length-append front (i ∷ []) in
      let all : length (filter (is_marked marks) (numbers_from 0 (i + 1))) ≡ length (front ++ i ∷ []) = ap length next in
      omega (arith, e, size, all)

  pub count_unmarked : is_marked marks i ≡ false → (last : ℕ) → last ≡ length front → last ≡ length (filter (is_marked marks) (numbers_from 0 (i + 1)))
  count_unmarked here last e =
      let next : filter (is_marked marks) (numbers_from 0 (i + 1)) ≡ front ++ [] = numbers_more marks i ∙ ap (λ (b : Bool). front ++ (if b then i ∷ [] else [])) here in
      let size : length (front ++ []) ≡ length front + 0 = length-append front [] in
      let all : length (filter (is_marked marks) (numbers_from 0 (i + 1))) ≡ length (front ++ []) = ap length next in
      omega (arith, e, size, all)

-- what holds of each holds of the one at a place
pub at_within : {X : Type 0} (P : X → Type 0) (xs : List X) (i : ℕ) (d x : X) → All P xs → i < length xs → x ≡ get_or xs i d → P x
at_within P xs i d x h lt is = subst P (sym is) (h i d lt)

module _ (marks : List Bool) (i : ℕ) (b : Bool) (is : b ≡ is_marked marks i) where
  pub number_step : (numbers new : List ℕ) (last : ℕ) → length numbers ≡ i → last ≡ length (front marks i) → new ≡ numbers ++ (if b then last + 1 else 0) ∷ []
      → ((n : ℕ) → slice_index numbers n ≡ archive_number (front marks i) n) → (n : ℕ) → slice_index new n ≡ archive_number (front marks (i + 1)) n
  number_step numbers new last size count e h = at b (sym is) e
    where
      at : (b : Bool) → is_marked marks i ≡ b → new ≡ numbers ++ (if b then last + 1 else 0) ∷ [] → (n : ℕ) → slice_index new n ≡ archive_number (front marks (i + 1)) n
      at true m e = number_marked marks i numbers new last size m count e h
      at false m e = number_unmarked marks i numbers new size m e h

  pub count_step : (last next : ℕ) → last ≡ length (front marks i) → next ≡ (if b then last + 1 else last) → next ≡ length (front marks (i + 1))
  count_step last next count e = at b (sym is) e
    where
      at : (b : Bool) → is_marked marks i ≡ b → next ≡ (if b then last + 1 else last) → next ≡ length (front marks (i + 1))
      at true m e = e ∙ count_marked marks i m last count
      at false m e = e ∙ count_unmarked marks i m last count

-- ---- lists of what is marked, one more at a time

pub mapped_more : (place : ℕ → ℕ) (p : Link → Bool) (links out new : List Link) (i : ℕ) (d l : Link) → i < length links → l ≡ get_or links i d
    → out ≡ map (placed place) (filter p (take i links)) → new ≡ out ++ map (placed place) (filter p (l ∷ []))
    → new ≡ map (placed place) (filter p (take (i + 1) links))
mapped_more place p links out new i d l lt is h e =
    e ∙ ap (λ (xs : List Link). xs ++ map (placed place) (filter p (l ∷ []))) h
    ∙ sym (joined (filter p (take i links)) (filter p (l ∷ [])))
    ∙ ap (map (placed place)) (sym (filter-append p (take i links) (l ∷ [])))
    ∙ ap (λ (x : Link). map (placed place) (filter p (take i links ++ x ∷ []))) is
    ∙ ap (λ (xs : List Link). map (placed place) (filter p xs)) (sym (take_more links i d lt))
  where
    joined : (xs ys : List Link) → map (placed place) (xs ++ ys) ≡ map (placed place) xs ++ map (placed place) ys
    joined [] ys = refl
    joined (x ∷ xs) ys = ap (λ (zs : List Link). placed place x ∷ zs) (joined xs ys)

pub mapped_all : (place : ℕ → ℕ) (p : Link → Bool) (links out : List Link) (i : ℕ) → length links ≤ i → out ≡ map (placed place) (filter p (take i links))
    → out ≡ map (placed place) (filter p links)
mapped_all place p links out i le h = h ∙ ap (λ (xs : List Link). map (placed place) (filter p xs)) (take_all i links le)

pub kept_link : (place : ℕ → ℕ) (below : List Bool) (links new : List Link) (l : Link) → is_marked below (its_process l) ≡ true → new ≡ links ++ placed place l ∷ []
    → new ≡ links ++ map (placed place) (filter (is_marked_link below) (l ∷ []))
kept_link place below links new l e is = is ∙ sym (ap (λ (b : Bool). links ++ map (placed place) (if b then l ∷ [] else [])) e)

pub left_link : (place : ℕ → ℕ) (below : List Bool) (links : List Link) (l : Link) → is_marked below (its_process l) ≡ false
    → links ≡ links ++ map (placed place) (filter (is_marked_link below) (l ∷ []))
left_link place below links l e = sym (ap (λ (b : Bool). links ++ map (placed place) (if b then l ∷ [] else [])) e ∙ append-nil links)
