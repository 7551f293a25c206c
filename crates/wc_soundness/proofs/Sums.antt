-- Sums over the records of a world.
use Rattle.std.proofs.Common.{◌≡◌, ◌≢◌, ℕ, suc, ◌+◌, ◌<◌, ◌≤◌, Bool, true, false, List, [], ◌∷◌, Some, map, refl, sym, ap, ◌∙◌, arith}
use Rattle.std.specs.Prelude.{All, ◌==◌, ◌||◌, not, if◌then◌else◌}
use Rattle.std.specs.List.{list_any}
use Rattle.std.proofs.lemmas.Bool.{cond-false, cond-true, eq-eqb, eqb-true, ne_eqb}
use Rattle.std.proofs.lemmas.List.Elements.{All-head, All-tail}
use Rattle.wc_graph.specs.declared.node.NodeKind.{NodeKind}
use Rattle.wc_graph.specs.declared.node.NodeKind.TheVariants as node
use Rattle.wc_state.specs.declared.record.Await.{Await}
use Rattle.wc_state.specs.declared.record.ProcessRecord.{ProcessRecord}
use Rattle.wc_world.specs.Consistent.{process_of, processes_from}
use Rattle.wc_world.specs.Records.{find_record, has_ended}
use Rattle.wc_world.proofs.ReachedLists.{heads}
use Rattle.wc_machine.specs.Calls.{fuel_at, fuel_of}
use Rattle.wc_machine.specs.Sound.{AllDiffer, fuel_in, is_awaited_in}

abbrev pub sum_of : (ProcessRecord → ℕ) → List ProcessRecord → ℕ
sum_of f [] = 0
sum_of f (x ∷ xs) = f x + sum_of f xs

-- the kept fuel of one process, with 1 added, where it counts
abbrev pub kept_of : List ProcessRecord → ProcessRecord → ℕ
kept_of all x = if not (has_ended x.state) || is_awaited_in all x.node then suc x.fuel else 0

pub fuel_is_sum : (all rs : List ProcessRecord) → fuel_in all rs ≡ sum_of (kept_of all) rs
fuel_is_sum all [] = refl
fuel_is_sum all (x ∷ xs) = at (not (has_ended x.state) || is_awaited_in all x.node) (fuel_is_sum all xs)
  where
    at : (b : Bool) → fuel_in all xs ≡ sum_of (kept_of all) xs → (if b then suc x.fuel + fuel_in all xs else fuel_in all xs) ≡ (if b then suc x.fuel else 0) + sum_of (kept_of all) xs
    at true h = omega arith
    at false h = omega arith

-- what holds of each summand holds of the sums
pub sums_below : (f : ProcessRecord → ProcessRecord) (new old more less : ProcessRecord → ℕ) (rs : List ProcessRecord) → All (λ x. new (f x) + more x ≤ old x + less x) rs
    → sum_of new (map f rs) + sum_of more rs ≤ sum_of old rs + sum_of less rs
sums_below f new old more less [] all = omega arith
sums_below f new old more less (x ∷ xs) all =
    let one : new (f x) + more x ≤ old x + less x = All-head (λ x. new (f x) + more x ≤ old x + less x) x xs all in
    let rest : sum_of new (map f xs) + sum_of more xs ≤ sum_of old xs + sum_of less xs
    = sums_below f new old more less xs (All-tail (λ x. new (f x) + more x ≤ old x + less x) x xs all) in
    omega arith

-- ---- one process

abbrev pub only : ℕ → ℕ → ProcessRecord → ℕ
only pid n x = if x.node == pid then n else 0

first_is : (n m : ℕ) (k : NodeKind) (x : ProcessRecord) → process_of x ≡ (n, k) → x.node ≡ n
first_is n m k x h = ap (λ (p : ℕ × NodeKind). p.0) h

only_other : (pid n : ℕ) (x : ProcessRecord) → x.node ≢ pid → only pid n x ≡ 0
only_other pid n x ne = cond-false (x.node == pid) n 0 (ne_eqb x.node pid ne)

none_below : (m : ℕ) (nodes : List NodeKind) (rs : List ProcessRecord) → map process_of rs ≡ processes_from m nodes → (pid n : ℕ) → pid < m → sum_of (only pid n) rs ≡ 0
none_below m [] [] h pid n lt = refl
none_below m [] (x ∷ xs) h pid n lt = absurd (cc h)
none_below m (node.Data v ∷ ns) rs h pid n lt = none_below (suc m) ns rs h pid n (omega arith)
none_below m (node.Calculation ∷ ns) [] h pid n lt = refl
none_below m (node.Calculation ∷ ns) (x ∷ xs) h pid n lt =
    let p = heads (process_of x) (m, node.Calculation) (map process_of xs) (processes_from (suc m) ns) h in
    let is : x.node ≡ m = first_is m m node.Calculation x p.0 in
    let one : only pid n x ≡ 0 = only_other pid n x (λ e. absurd (omega arith)) in
    let rest : sum_of (only pid n) xs ≡ 0 = none_below (suc m) ns xs p.1 pid n (omega arith) in
    omega arith
none_below m (node.Workflow ∷ ns) [] h pid n lt = refl
none_below m (node.Workflow ∷ ns) (x ∷ xs) h pid n lt =
    let p = heads (process_of x) (m, node.Workflow) (map process_of xs) (processes_from (suc m) ns) h in
    let is : x.node ≡ m = first_is m m node.Workflow x p.0 in
    let one : only pid n x ≡ 0 = only_other pid n x (λ e. absurd (omega arith)) in
    let rest : sum_of (only pid n) xs ≡ 0 = none_below (suc m) ns xs p.1 pid n (omega arith) in
    omega arith

only_most : (pid n : ℕ) (x : ProcessRecord) → only pid n x ≤ n
only_most pid n x = at (x.node == pid)
  where
    at : (b : Bool) → (if b then n else 0) ≤ n
    at true = omega arith
    at false = omega arith

first_only : (m : ℕ) (ns : List NodeKind) (x : ProcessRecord) (xs : List ProcessRecord) → x.node ≡ m → map process_of xs ≡ processes_from (suc m) ns → (pid n : ℕ)
    → sum_of (only pid n) xs ≤ n → only pid n x + sum_of (only pid n) xs ≤ n
first_only m ns x xs is h pid n le = at (x.node == pid) refl
  where
    at : (b : Bool) → (x.node == pid) ≡ b → (if b then n else 0) + sum_of (only pid n) xs ≤ n
    at true same =
        let one : x.node ≡ pid = eqb-true x.node pid same in
        let none : sum_of (only pid n) xs ≡ 0 = none_below (suc m) ns xs h pid n (omega arith) in
        omega arith
    at false same = omega arith

-- a process has one record
pub only_once : (m : ℕ) (nodes : List NodeKind) (rs : List ProcessRecord) → map process_of rs ≡ processes_from m nodes → (pid n : ℕ) → sum_of (only pid n) rs ≤ n
only_once m [] [] h pid n = omega arith
only_once m [] (x ∷ xs) h pid n = absurd (cc h)
only_once m (node.Data v ∷ ns) rs h pid n = only_once (suc m) ns rs h pid n
only_once m (node.Calculation ∷ ns) [] h pid n = omega arith
only_once m (node.Calculation ∷ ns) (x ∷ xs) h pid n =
    let p = heads (process_of x) (m, node.Calculation) (map process_of xs) (processes_from (suc m) ns) h in
    first_only m ns x xs (first_is m m node.Calculation x p.0) p.1 pid n (only_once (suc m) ns xs p.1 pid n)
only_once m (node.Workflow ∷ ns) [] h pid n = omega arith
only_once m (node.Workflow ∷ ns) (x ∷ xs) h pid n =
    let p = heads (process_of x) (m, node.Workflow) (map process_of xs) (processes_from (suc m) ns) h in
    first_only m ns x xs (first_is m m node.Workflow x p.0) p.1 pid n (only_once (suc m) ns xs p.1 pid n)

-- the summand of a record that is found is in the sum
pub found_within : (f : ProcessRecord → ℕ) (pid : ℕ) (rs : List ProcessRecord) (r : ProcessRecord) → find_record pid rs ≡ Some r → f r ≤ sum_of f rs
found_within f pid [] r h = absurd (cc h)
found_within f pid (x ∷ xs) r h = at (x.node == pid) h (found_within f pid xs r)
  where
    at : (b : Bool) → (if b then Some x else find_record pid xs) ≡ Some r → (find_record pid xs ≡ Some r → f r ≤ sum_of f xs) → f r ≤ f x + sum_of f xs
    at true h later = let same : x ≡ r = cc in let e : f x ≡ f r = ap f same in omega arith
    at false h later = let le : f r ≤ sum_of f xs = later h in omega arith

-- ---- awaited processes

abbrev pub is_one_of : List Await → ℕ → Bool
is_one_of as' pid = list_any (λ a. a.pid == pid) as'

-- the fuel of an awaited process, with 1 added
abbrev pub awaited_of : List Await → ProcessRecord → ℕ
awaited_of as' x = if is_one_of as' x.node then suc x.fuel else 0

sum_same : (f g : ProcessRecord → ℕ) (rs : List ProcessRecord) → ((x : ProcessRecord) → f x ≡ g x) → sum_of f rs ≡ sum_of g rs
sum_same f g [] h = refl
sum_same f g (x ∷ xs) h = λ i. h x i + sum_same f g xs h i

sum_both : (f g : ProcessRecord → ℕ) (rs : List ProcessRecord) → sum_of (λ x. f x + g x) rs ≡ sum_of f rs + sum_of g rs
sum_both f g [] = refl
sum_both f g (x ∷ xs) = let rest = sum_both f g xs in omega arith

-- the number is among those of no later one
apart_by : (n : ℕ) (as' : List Await) → list_any (λ m. m == n) (map (λ a. a.pid) as') ≡ false → list_any (λ a. a.pid == n) as' ≡ false
apart_by n [] h = refl
apart_by n (a ∷ as') h = at (a.pid == n) h (apart_by n as')
  where
    at : (b : Bool) → (b || list_any (λ m. m == n) (map (λ a. a.pid) as')) ≡ false → (list_any (λ m. m == n) (map (λ a. a.pid) as') ≡ false → list_any (λ a. a.pid == n) as' ≡ false)
        → (b || list_any (λ a. a.pid == n) as') ≡ false
    at true h later = absurd (cc h)
    at false h later = later h

-- the first awaited process, and the others
split_first : (a : Await) (as' : List Await) → list_any (λ b. b.pid == a.pid) as' ≡ false → (x : ProcessRecord)
    → awaited_of (a ∷ as') x ≡ (if a.pid == x.node then suc x.fuel else 0) + awaited_of as' x
split_first a as' none x = at (a.pid == x.node) refl (list_any (λ b. b.pid == x.node) as') refl
  where
    at : (b : Bool) → (a.pid == x.node) ≡ b → (d : Bool) → list_any (λ b. b.pid == x.node) as' ≡ d
        → (if b || d then suc x.fuel else 0) ≡ (if b then suc x.fuel else 0) + (if d then suc x.fuel else 0)
    at true same true is =
        let e : a.pid ≡ x.node = eqb-true a.pid x.node same in
        let gone : list_any (λ b. b.pid == x.node) as' ≡ false = ap (λ (n : ℕ). list_any (λ b. b.pid == n) as') (sym e) ∙ none in
        absurd (cc (gone, is))
    at true same false is = omega arith
    at false same true is = omega arith
    at false same false is = omega arith

pub awaited_within : (rs : List ProcessRecord) (as' : List Await) → AllDiffer (map (λ a. a.pid) as') → All (λ a. (x : ProcessRecord) × (find_record a.pid rs ≡ Some x) × (x.node ≡ a.pid)) as'
    → fuel_of rs as' ≤ sum_of (awaited_of as') rs
awaited_within rs [] apart found = omega arith
awaited_within rs (a ∷ as') apart found =
    let x = All-head (λ a. (x : ProcessRecord) × (find_record a.pid rs ≡ Some x) × (x.node ≡ a.pid)) a as' found in
    let rest : fuel_of rs as' ≤ sum_of (awaited_of as') rs
    = awaited_within rs as' apart.1 (All-tail (λ a. (x : ProcessRecord) × (find_record a.pid rs ≡ Some x) × (x.node ≡ a.pid)) a as' found) in
    let first : ProcessRecord → ℕ = λ y. if a.pid == y.node then suc y.fuel else 0 in
    let one : first x.0 ≡ suc x.0.fuel = cond-true (a.pid == x.0.node) (suc x.0.fuel) 0 (eq-eqb a.pid x.0.node (sym x.2)) in
    let at : fuel_at (find_record a.pid rs) ≡ x.0.fuel = ap fuel_at x.1 in
    let in_it : first x.0 ≤ sum_of first rs = found_within first a.pid rs x.0 x.1 in
    let all : sum_of (awaited_of (a ∷ as')) rs ≡ sum_of first rs + sum_of (awaited_of as') rs
    = sum_same (awaited_of (a ∷ as')) (λ y. first y + awaited_of as' y) rs (split_first a as' (apart_by a.pid as' apart.0)) ∙ sum_both first (awaited_of as') rs in
    omega arith
