-- What is found in a list that has grown, or in which the record of one process was changed.
use Rattle.std.proofs.Common.{◌≡◌, ℕ, zero, suc, ◌+◌, ◌≤◌, Bool, true, false, cond, Option, Some, None, List, [], ◌∷◌, ◌++◌, map, length, get_or, ◌⊎◌, inl, inr, refl, sym, ap, ◌∙◌, subst, arith}
use Rattle.std.specs.Prelude.{All, IsSomeAnd, ◌==◌, ◌&&◌, option_map, option_and_then, slice_get, if◌then◌else◌}
use Rattle.std.specs.List.{find}
use Rattle.std.specs.Option.{option_or}
use Rattle.std.proofs.lemmas.Bool.{eqb-true, eqb-false, eq-eqb, ne_eqb, cond-true, cond-false, cases_Bool, or_left}
use Rattle.std.proofs.lemmas.List.Elements.{All-nil, All-cons, All-head, All-tail, All-map, All-weaker}
use Rattle.std.proofs.lemmas.List.Folds.{find-append, list_any-append}
use Rattle.std.proofs.lemmas.Option.{option_and_then_some}
use Rattle.wc_syntax.specs.declared.definition.Definition.{Definition}
use Rattle.wc_syntax.specs.Findings.{definition_named}
use Rattle.wc_graph.specs.declared.node.NodeKind.{NodeKind}
use Rattle.wc_graph.specs.declared.node.NodeKind.TheVariants as node
use Rattle.wc_graph.specs.declared.link.Link.{Link}
use Rattle.wc_graph.specs.Rules.{node_of}
use Rattle.wc_state.specs.declared.record.ProcessKind.{ProcessKind}
use Rattle.wc_state.specs.declared.record.ProcessKind.TheVariants as kind
use Rattle.wc_state.specs.declared.record.ProcessRecord.{ProcessRecord}
use Rattle.wc_world.specs.World.{Known}
use Rattle.wc_world.specs.Records.{find_record, at_process, process_node, has_called, is_call_from, library_at, definition_in}
use Rattle.wc_world.specs.Consistent.{processes_from, process_of}

-- ---- options and lists
pub heads : {X : Type 0} (x y : X) (xs ys : List X) → x ∷ xs ≡ y ∷ ys → (x ≡ y) × (xs ≡ ys)
heads x y xs ys h = (cc, cc)

pub cond_some_cases : {X : Type 0} (b : Bool) (x y : X) (o : Option X) → cond b (Some x) o ≡ Some y → ((b ≡ true) × (x ≡ y)) ⊎ ((b ≡ false) × (o ≡ Some y))
cond_some_cases true x y o h = inl (refl, cc)
cond_some_cases false x y o h = inr (refl, h)

pub option_map_some : {X Y : Type 0} (f : X → Y) (o : Option X) (y : Y) → option_map f o ≡ Some y → (x : X) × (o ≡ Some x) × (f x ≡ y)
option_map_some f None y h = absurd (cc)
option_map_some f (Some x) y h = (x, refl, cc)

pub some_and : {X : Type 0} (P : X → Type 0) (o : Option X) → IsSomeAnd o P → (x : X) × (o ≡ Some x) × P x
some_and P None h = absurd h
some_and P (Some x) h = (x, refl, h)

pub slice_get_grown : {X : Type 0} (xs ys : List X) (i : ℕ) (x : X) → slice_get xs i ≡ Some x → slice_get (xs ++ ys) i ≡ Some x
slice_get_grown [] ys i x h = absurd (cc)
slice_get_grown (z ∷ zs) ys zero x h = h
slice_get_grown (z ∷ zs) ys (suc i) x h = slice_get_grown zs ys i x h

pub node_grown : (nodes more : List NodeKind) (id : ℕ) (k : NodeKind) → node_of nodes id ≡ Some k → node_of (nodes ++ more) id ≡ Some k
node_grown nodes more zero k h = h
node_grown nodes more (suc place) k h = slice_get_grown nodes more place k h

-- ---- finding a process
find_is : (pid : ℕ) (rs : List ProcessRecord) → find_record pid rs ≡ find (λ r. r.node == pid) rs
find_is pid [] = refl
find_is pid (r ∷ rs) = ap (cond (r.node == pid) (Some r)) (find_is pid rs)

or_some : {X : Type 0} (o p : Option X) (x : X) → o ≡ Some x → option_or o p ≡ Some x
or_some None p x h = absurd (cc)
or_some (Some y) p x h = h

pub find_grown : (pid : ℕ) (rs more : List ProcessRecord) (r : ProcessRecord) → find_record pid rs ≡ Some r → find_record pid (rs ++ more) ≡ Some r
find_grown pid rs more r h =
    find_is pid (rs ++ more) ∙ find-append (λ (r : ProcessRecord). r.node == pid) rs more
    ∙ or_some (find (λ r. r.node == pid) rs) (find (λ r. r.node == pid) more) r (sym (find_is pid rs) ∙ h)

pub found_node : (pid : ℕ) (rs : List ProcessRecord) (r : ProcessRecord) → find_record pid rs ≡ Some r → r.node ≡ pid
found_node pid [] r h = absurd (cc)
found_node pid (x ∷ xs) r h =
    elim (cond_some_cases (x.node == pid) x r (find_record pid xs) h) [
      | inl p ↦ ap (λ (y : ProcessRecord). y.node) (sym p.1) ∙ eqb-true x.node pid p.0
      | inr p ↦ found_node pid xs r p.1
    ]

-- what holds of each record holds of one that is found
pub found_has : (P : ProcessRecord → Type 0) (pid : ℕ) (rs : List ProcessRecord) (r : ProcessRecord) → find_record pid rs ≡ Some r → All P rs → P r
found_has P pid [] r h a = absurd (cc)
found_has P pid (x ∷ xs) r h a =
    elim (cond_some_cases (x.node == pid) x r (find_record pid xs) h) [
      | inl p ↦ subst P p.1 (All-head P x xs a)
      | inr p ↦ found_has P pid xs r p.1 (All-tail P x xs a)
    ]

map_cond : {X : Type 0} (g : X → X) (x : X) (b : Bool) (o p : Option X) → p ≡ option_map g o → cond b (Some (g x)) p ≡ option_map g (cond b (Some x) o)
map_cond g x true o p h = refl
map_cond g x false o p h = h

pub find_mapped : (g : ProcessRecord → ProcessRecord) → ((r : ProcessRecord) → (g r).node ≡ r.node) → (pid : ℕ) (rs : List ProcessRecord)
    → find_record pid (map g rs) ≡ option_map g (find_record pid rs)
find_mapped g keeps pid [] = refl
find_mapped g keeps pid (r ∷ rs) =
    ap (λ (n : ℕ). cond (n == pid) (Some (g r)) (find_record pid (map g rs))) (keeps r)
    ∙ map_cond g r (r.node == pid) (find_record pid rs) (find_record pid (map g rs)) (find_mapped g keeps pid rs)

-- the record of one process put through a function, and any other as it is
abbrev pub at_one : ℕ → (ProcessRecord → ProcessRecord) → ProcessRecord → ProcessRecord
at_one pid f r = if r.node == pid then f r else r

at_one_by : {X : Type 0} (v : ProcessRecord → X) (f : ProcessRecord → ProcessRecord) → ((r : ProcessRecord) → v (f r) ≡ v r)
    → (b : Bool) (r : ProcessRecord) → v (cond b (f r) r) ≡ v r
at_one_by v f keeps true r = keeps r
at_one_by v f keeps false r = refl

-- what a function keeps of each record stays
pub at_one_keeps : {X : Type 0} (v : ProcessRecord → X) (f : ProcessRecord → ProcessRecord) → ((r : ProcessRecord) → v (f r) ≡ v r)
    → (pid : ℕ) (r : ProcessRecord) → v (at_one pid f r) ≡ v r
at_one_keeps v f keeps pid r = at_one_by v f keeps (r.node == pid) r

pub at_one_has : (Q : ProcessRecord → Type 0) (pid : ℕ) (f : ProcessRecord → ProcessRecord) (r : ProcessRecord)
    → (r.node ≡ pid → Q (f r)) → ((r.node ≡ pid → ⊥) → Q r) → Q (at_one pid f r)
at_one_has Q pid f r one other =
    elim (cases_Bool (r.node == pid)) [
      | inl p ↦ subst Q (sym (cond-true (r.node == pid) (f r) r p)) (one (eqb-true r.node pid p))
      | inr p ↦ subst Q (sym (cond-false (r.node == pid) (f r) r p)) (other (eqb-false r.node pid p))
    ]

-- the records that were changed have a property, and so have the others
pub all_at_apart : (Q : ProcessRecord → Type 0) (pid : ℕ) (f : ProcessRecord → ProcessRecord) (rs : List ProcessRecord)
    → All (λ r. (r.node ≡ pid → ⊥) → Q r) rs → All (λ r. r.node ≡ pid → Q (f r)) rs → All Q (at_process pid f rs)
all_at_apart Q pid f rs other one = All-map Q (at_one pid f) rs (λ i d lt. at_one_has Q pid f (get_or rs i d) (one i d lt) (other i d lt))

-- the records that were changed have a property, and the others keep one that implies it
pub all_at : (P Q : ProcessRecord → Type 0) (pid : ℕ) (f : ProcessRecord → ProcessRecord) (rs : List ProcessRecord) → ((r : ProcessRecord) → P r → Q r)
    → All P rs → All (λ r. r.node ≡ pid → Q (f r)) rs → All Q (at_process pid f rs)
all_at P Q pid f rs weaker all one = all_at_apart Q pid f rs (λ i d lt ne. weaker (get_or rs i d) (all i d lt)) one

-- ---- the numbers of processes
step_length : {X : Type 0} (n : ℕ) (x : X) (xs : List X) → suc n + length xs ≡ n + length (x ∷ xs)
step_length n x xs = omega arith

pub processes_push : (n : ℕ) (nodes : List NodeKind) (k : NodeKind)
    → processes_from n (nodes ++ k ∷ []) ≡ processes_from n nodes ++ processes_from (n + length nodes) (k ∷ [])
processes_push n [] k = ap (λ (m : ℕ). processes_from m (k ∷ [])) (let e : n ≡ n + 0 = omega arith in e)
processes_push n (node.Data v ∷ ns) k =
    processes_push (suc n) ns k ∙ ap (λ (m : ℕ). processes_from (suc n) ns ++ processes_from m (k ∷ [])) (step_length n (node.Data v) ns)
processes_push n (node.Calculation ∷ ns) k =
    ap (λ l. (n, node.Calculation) ∷ l) (processes_push (suc n) ns k
    ∙ ap (λ (m : ℕ). processes_from (suc n) ns ++ processes_from m (k ∷ [])) (step_length n node.Calculation ns))
processes_push n (node.Workflow ∷ ns) k =
    ap (λ l. (n, node.Workflow) ∷ l) (processes_push (suc n) ns k
    ∙ ap (λ (m : ℕ). processes_from (suc n) ns ++ processes_from m (k ∷ [])) (step_length n node.Workflow ns))

pub process_alone : (n : ℕ) (k : ProcessKind) → processes_from n (process_node k ∷ []) ≡ (n, process_node k) ∷ []
process_alone n kind.Function = refl
process_alone n kind.Job = refl
process_alone n kind.Chain = refl

pub process_at_one : (pid : ℕ) (f : ProcessRecord → ProcessRecord) → ((r : ProcessRecord) → process_of (f r) ≡ process_of r) → (rs : List ProcessRecord)
    → map process_of (at_process pid f rs) ≡ map process_of rs
process_at_one pid f keeps [] = refl
process_at_one pid f keeps (r ∷ rs) =
    ap (λ p. p ∷ map process_of (at_process pid f rs)) (at_one_keeps process_of f keeps pid r)
    ∙ ap (λ l. process_of r ∷ l) (process_at_one pid f keeps rs)

first_number : (n : ℕ) (k : NodeKind) (r : ProcessRecord) → process_of r ≡ (n, k) → r.node ≡ n
first_number n k r h = ap (λ (p : ℕ × NodeKind). p.0) h

above_by : (n : ℕ) (k : NodeKind) (r : ProcessRecord) (rs : List ProcessRecord) → process_of r ≡ (n, k) → All (λ x. suc n ≤ x.node) rs
    → All (λ x. n ≤ x.node) (r ∷ rs)
above_by n k r rs h rest =
    All-cons (λ x. n ≤ x.node) r rs (let e = first_number n k r h in omega arith)
    (All-weaker (λ x. suc n ≤ x.node) (λ x. n ≤ x.node) (λ x le. omega arith) rs rest)

above : (n : ℕ) (nodes : List NodeKind) (rs : List ProcessRecord) → map process_of rs ≡ processes_from n nodes → All (λ r. n ≤ r.node) rs
above n [] [] h = All-nil (λ r. n ≤ r.node)
above n [] (r ∷ rs) h = absurd (cc)
above n (node.Data v ∷ ns) rs h = All-weaker (λ x. suc n ≤ x.node) (λ x. n ≤ x.node) (λ x le. omega arith) rs (above (suc n) ns rs h)
above n (node.Calculation ∷ ns) [] h = All-nil (λ r. n ≤ r.node)
above n (node.Calculation ∷ ns) (r ∷ rs) h =
    let p = heads (process_of r) (n, node.Calculation) (map process_of rs) (processes_from (suc n) ns) h in
    above_by n node.Calculation r rs p.0 (above (suc n) ns rs p.1)
above n (node.Workflow ∷ ns) [] h = All-nil (λ r. n ≤ r.node)
above n (node.Workflow ∷ ns) (r ∷ rs) h =
    let p = heads (process_of r) (n, node.Workflow) (map process_of rs) (processes_from (suc n) ns) h in
    above_by n node.Workflow r rs p.0 (above (suc n) ns rs p.1)

abbrev pub AreUnique : List ProcessRecord → Type 0
AreUnique rs = All (λ r. find_record r.node rs ≡ Some r) rs

unique_by : (n : ℕ) (k : NodeKind) (r : ProcessRecord) (rs : List ProcessRecord) → process_of r ≡ (n, k) → All (λ x. suc n ≤ x.node) rs → AreUnique rs
    → AreUnique (r ∷ rs)
unique_by n k r rs h over rest =
    All-cons (λ x. find_record x.node (r ∷ rs) ≡ Some x) r rs
    (cond-true (r.node == r.node) (Some r) (find_record r.node rs) (eq-eqb r.node r.node refl))
    (λ i d lt.
    let x = get_or rs i d in
    let e : r.node ≡ n = first_number n k r h in
    let le : suc n ≤ x.node = over i d lt in
    cond-false (r.node == x.node) (Some r) (find_record x.node rs) (ne_eqb r.node x.node (λ q. absurd (omega arith))) ∙ rest i d lt)

-- where the numbers are those of the process nodes, each record is found by its number
pub unique : (n : ℕ) (nodes : List NodeKind) (rs : List ProcessRecord) → map process_of rs ≡ processes_from n nodes → AreUnique rs
unique n [] [] h = All-nil (λ r. find_record r.node [] ≡ Some r)
unique n [] (r ∷ rs) h = absurd (cc)
unique n (node.Data v ∷ ns) rs h = unique (suc n) ns rs h
unique n (node.Calculation ∷ ns) [] h = All-nil (λ r. find_record r.node [] ≡ Some r)
unique n (node.Calculation ∷ ns) (r ∷ rs) h =
    let p = heads (process_of r) (n, node.Calculation) (map process_of rs) (processes_from (suc n) ns) h in
    unique_by n node.Calculation r rs p.0 (above (suc n) ns rs p.1) (unique (suc n) ns rs p.1)
unique n (node.Workflow ∷ ns) [] h = All-nil (λ r. find_record r.node [] ≡ Some r)
unique n (node.Workflow ∷ ns) (r ∷ rs) h =
    let p = heads (process_of r) (n, node.Workflow) (map process_of rs) (processes_from (suc n) ns) h in
    unique_by n node.Workflow r rs p.0 (above (suc n) ns rs p.1) (unique (suc n) ns rs p.1)

-- a property of the record that is found by a number, of each record with this number
pub all_found : (P : ProcessRecord → Type 0) (pid : ℕ) (rs : List ProcessRecord) (r : ProcessRecord) → AreUnique rs → find_record pid rs ≡ Some r → P r
    → All (λ x. x.node ≡ pid → P x) rs
all_found P pid rs r u h p = λ i d lt e.
    let x = get_or rs i d in
    let f : find_record pid rs ≡ Some x = ap (λ (n : ℕ). find_record n rs) (sym e) ∙ u i d lt in
    let same : r ≡ x = cc in
    subst P same p

-- ---- links and libraries
pub called_grown : (links more : List Link) (caller pid : ℕ) → has_called links caller pid ≡ true → has_called (links ++ more) caller pid ≡ true
called_grown links more caller pid h =
    list_any-append (λ (l : Link). is_call_from caller l && (l.target == pid)) links more
    ∙ or_left (has_called links caller pid) (has_called more caller pid) h

library_grown : (libraries more : List Known) (number : ℕ) (l : List Definition) → library_at libraries number ≡ Some l → library_at (libraries ++ more) number ≡ Some l
library_grown libraries more zero l h = h
library_grown libraries more (suc place) l h =
    let k = option_map_some (λ (x : Known). x.0) (slice_get libraries place) l h in
    ap (option_map (λ (x : Known). x.0)) (slice_get_grown libraries more place k.0 k.1) ∙ ap (λ (x : List Definition). Some x) k.2

pub definition_grown : (libraries more : List Known) (number : ℕ) (name : List ℕ) (d : Definition) → definition_in libraries number name ≡ Some d
    → definition_in (libraries ++ more) number name ≡ Some d
definition_grown libraries more number name d h =
    option_and_then_some (definition_named name) (library_at libraries number) d h
    (λ l e f. ap (option_and_then (definition_named name)) (library_grown libraries more number l e) ∙ f)
