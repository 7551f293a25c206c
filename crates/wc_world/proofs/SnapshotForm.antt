-- The form of a snapshot: what its changes keep, count and make, and in which order.
use Rattle.std.proofs.Common.{◌≡◌, ℕ, suc, Bool, true, ◌||◌, ◌==◌, List, [], ◌∷◌, ◌++◌, map, Some, None, refl, sym, ap, ◌∙◌, inl, inr, arith}
use Rattle.std.specs.List.{AllByRecursion, list_all}
use Rattle.std.proofs.lemmas.Bool.{cases_Bool, and_from, or_left, cond-true, cond-false, eqb-true}
use Rattle.std.proofs.lemmas.List.{append_assoc}
use Rattle.wc_value.specs.declared.value.Value.{Value}
use Rattle.wc_graph.specs.declared.node.NodeKind.{NodeKind}
use Rattle.wc_graph.specs.declared.node.NodeKind.TheVariants as node
use Rattle.wc_graph.specs.declared.link.Link.{Link}
use Rattle.wc_state.specs.declared.record.ProcessRecord.{ProcessRecord}
use Rattle.wc_world.specs.declared.change.Change.{Change}
use Rattle.wc_world.specs.declared.change.Change.TheVariants as change
use Rattle.wc_records.specs.declared.change.NewProcess.{NewProcess}
use Rattle.wc_records.specs.declared.change.SetProcess.{SetProcess}
use Rattle.wc_world.specs.World.{World, Known, empty}
use Rattle.wc_world.specs.Records.{find_record}
use Rattle.wc_world.specs.Fits.{is_settled, unsettled}
use Rattle.wc_world.specs.Accepted.{setting, kepts, count_in, made_from, ends_in_count, is_in_order, how_often, is_among, keeps_each, is_snapshot}
use Rattle.wc_world.specs.Consistent.{processes_from, process_of, Stands}
use Rattle.wc_world.specs.Snapshot.{library_change, node_changes, set_change, kept_change, snapshot}
use Rattle.wc_world.proofs.SnapshotLists.{IsFree, Ascend, AreBelow, ascend_before, free_above, free_below, below_push, find_here}
use Rattle.wc_world.proofs.SnapshotSets.{times, IsSettingOf, IsKnown}

-- ---- functions of changes that don't see some of them
skip : {A X : Type 0} (f : List Change → X) (change : A → Change) → ((a : A) (cs : List Change) → f (change a ∷ cs) ≡ f cs) → (xs : List A) (cs : List Change)
    → f (map change xs ++ cs) ≡ f cs
skip f change unseen [] cs = refl
skip f change unseen (x ∷ xs) cs = unseen x (map change xs ++ cs) ∙ skip f change unseen xs cs

skip_nodes : {X : Type 0} (f : List Change → X) → ((v : Value) (cs : List Change) → f (change.Data v ∷ cs) ≡ f cs)
    → ((n : NewProcess) (cs : List Change) → f (change.Process n ∷ cs) ≡ f cs) → (ns : List NodeKind) (rs : List ProcessRecord) (cs : List Change) → f (node_changes ns rs ++ cs) ≡ f cs
skip_nodes f data_unseen unseen [] rs cs = refl
skip_nodes f data_unseen unseen (node.Data v ∷ ns) rs cs = data_unseen v (node_changes ns rs ++ cs) ∙ skip_nodes f data_unseen unseen ns rs cs
skip_nodes f data_unseen unseen (node.Calculation ∷ ns) [] cs = skip_nodes f data_unseen unseen ns [] cs
skip_nodes f data_unseen unseen (node.Calculation ∷ ns) (r ∷ rs) cs = unseen _ (node_changes ns rs ++ cs) ∙ skip_nodes f data_unseen unseen ns rs cs
skip_nodes f data_unseen unseen (node.Workflow ∷ ns) [] cs = skip_nodes f data_unseen unseen ns [] cs
skip_nodes f data_unseen unseen (node.Workflow ∷ ns) (r ∷ rs) cs = unseen _ (node_changes ns rs ++ cs) ∙ skip_nodes f data_unseen unseen ns rs cs

-- the Kepts and the Count
abbrev ending : World → List Change
ending w = map kept_change w.records ++ change.Count w.batches ∷ []

-- The function sees only Kepts and Counts.
record SeesEnding {X : Type 0} (f : List Change → X) : Type 0 where
  library : (k : Known) (cs : List Change) → f (library_change k ∷ cs) ≡ f cs
  value : (v : Value) (cs : List Change) → f (change.Data v ∷ cs) ≡ f cs
  process : (n : NewProcess) (cs : List Change) → f (change.Process n ∷ cs) ≡ f cs
  link : (l : Link) (cs : List Change) → f (change.Link l ∷ cs) ≡ f cs
  set : (s : SetProcess) (cs : List Change) → f (change.Set s ∷ cs) ≡ f cs

of_ending : {X : Type 0} (f : List Change → X) (w : World) → SeesEnding f → f (snapshot w) ≡ f (ending w)
of_ending f w h =
    skip f library_change h.library w.libraries _
    ∙ (skip_nodes f h.value h.process w.nodes w.records _
    ∙ (skip f change.Link h.link w.links _
    ∙ skip f set_change (λ r. h.set _) w.records (ending w)))

-- ---- what a snapshot keeps and counts
kepts_end : (n : ℕ) (rs : List ProcessRecord) → kepts (map kept_change rs ++ change.Count n ∷ []) ≡ map times rs
kepts_end n [] = refl
kepts_end n (r ∷ rs) = ap (λ ks. times r ∷ ks) (kepts_end n rs)

snapshot_keeps : (w : World) → kepts (snapshot w) ≡ map times w.records
snapshot_keeps w =
    of_ending kepts w (record { library = λ k cs. refl; value = λ v cs. refl; process = λ n cs. refl; link = λ l cs. refl; set = λ s cs. refl })
    ∙ kepts_end w.batches w.records

snapshot_counts : (w : World) → count_in (snapshot w) ≡ w.batches
snapshot_counts w =
    of_ending count_in w (record { library = λ k cs. refl; value = λ v cs. refl; process = λ n cs. refl; link = λ l cs. refl; set = λ s cs. refl })
    ∙ skip count_in kept_change (λ r cs. refl) w.records (change.Count w.batches ∷ [])

order_end : (n : ℕ) (rs : List ProcessRecord) → is_in_order (map kept_change rs ++ change.Count n ∷ []) ≡ true
order_end n [] = refl
order_end n (r ∷ rs) = skip ends_in_count kept_change (λ q cs. refl) rs (change.Count n ∷ [])

snapshot_ordered : (w : World) → is_in_order (snapshot w) ≡ true
snapshot_ordered w =
    of_ending is_in_order w (record { library = λ k cs. refl; value = λ v cs. refl; process = λ n cs. refl; link = λ l cs. refl; set = λ s cs. refl })
    ∙ order_end w.batches w.records

-- ---- which processes a snapshot makes
abbrev numbers : List ProcessRecord → List ℕ
numbers rs = map (λ r. r.node) rs

made_nodes : (n : ℕ) (ns : List NodeKind) (rs : List ProcessRecord) (cs : List Change) → map process_of rs ≡ processes_from n ns → ((m : ℕ) → made_from m cs ≡ [])
    → made_from n (node_changes ns rs ++ cs) ≡ numbers rs
made_nodes n [] [] cs e none = none n
made_nodes n [] (r ∷ rs) cs e none = absurd (cc)
made_nodes n (node.Data v ∷ ns) rs cs e none = made_nodes (suc n) ns rs cs e none
made_nodes n (node.Calculation ∷ ns) [] cs e none = absurd (cc)
made_nodes n (node.Calculation ∷ ns) (r ∷ rs) cs e none =
    let here : process_of r ≡ (n, node.Calculation) = cc in
    let rest : map process_of rs ≡ processes_from (suc n) ns = cc in
    λ i. sym (ap (λ (p : ℕ × NodeKind). p.0) here) i ∷ made_nodes (suc n) ns rs cs rest none i
made_nodes n (node.Workflow ∷ ns) [] cs e none = absurd (cc)
made_nodes n (node.Workflow ∷ ns) (r ∷ rs) cs e none =
    let here : process_of r ≡ (n, node.Workflow) = cc in
    let rest : map process_of rs ≡ processes_from (suc n) ns = cc in
    λ i. sym (ap (λ (p : ℕ × NodeKind). p.0) here) i ∷ made_nodes (suc n) ns rs cs rest none i

snapshot_makes : (w : World) → map process_of w.records ≡ processes_from 1 w.nodes → made_from 1 (snapshot w) ≡ numbers w.records
snapshot_makes w e =
    skip (made_from 1) library_change (λ k cs. refl) w.libraries _
    ∙ made_nodes 1 w.nodes w.records _ e (λ m.
    skip (made_from m) change.Link (λ l cs. refl) w.links _
    ∙ (skip (made_from m) set_change (λ r cs. refl) w.records _
    ∙ skip (made_from m) kept_change (λ r cs. refl) w.records (change.Count w.batches ∷ [])))

-- ---- the numbers of a world's records
pub ascends : (n : ℕ) (ns : List NodeKind) (rs : List ProcessRecord) → map process_of rs ≡ processes_from n ns → Ascend n rs
ascends n [] [] e = tt
ascends n [] (r ∷ rs) e = absurd (cc)
ascends n (node.Data v ∷ ns) rs e = ascend_before n (suc n) rs (omega arith) (ascends (suc n) ns rs e)
ascends n (node.Calculation ∷ ns) [] e = absurd (cc)
ascends n (node.Calculation ∷ ns) (r ∷ rs) e =
    let here : process_of r ≡ (n, node.Calculation) = cc in
    let rest : map process_of rs ≡ processes_from (suc n) ns = cc in
    let number : r.node ≡ n = ap (λ (p : ℕ × NodeKind). p.0) here in
    (omega arith, ascend_before (suc r.node) (suc n) rs (omega arith) (ascends (suc n) ns rs rest))
ascends n (node.Workflow ∷ ns) [] e = absurd (cc)
ascends n (node.Workflow ∷ ns) (r ∷ rs) e =
    let here : process_of r ≡ (n, node.Workflow) = cc in
    let rest : map process_of rs ≡ processes_from (suc n) ns = cc in
    let number : r.node ≡ n = ap (λ (p : ℕ × NodeKind). p.0) here in
    (omega arith, ascend_before (suc r.node) (suc n) rs (omega arith) (ascends (suc n) ns rs rest))

known_rest : (w : World) (n : ℕ) (done todo : List ProcessRecord) → done ++ todo ≡ w.records → AreBelow n done → Ascend n todo → AllByRecursion (Stands w) todo
    → AllByRecursion (IsKnown w) todo
known_rest w n done [] e below above all = tt
known_rest w n done (r ∷ rs) e below above all =
    let here : find_record r.node w.records ≡ Some r = ap (find_record r.node) (sym e) ∙ find_here r.node done r rs (free_below r.node n done above.0 below) refl in (
      record { stands = all.0; here = here },
      known_rest w (suc r.node) (done ++ r ∷ []) rs (append_assoc done (r ∷ []) rs ∙ e) (below_push n (suc r.node) done r (omega (arith, above.0)) (omega arith) below) above.1 all.1,
    )

pub all_known : (w : World) → Ascend 0 w.records → AllByRecursion (Stands w) w.records → AllByRecursion (IsKnown w) w.records
all_known w above all = known_rest w 0 [] w.records refl tt above all

-- ---- one Kept for each process
never : (pid : ℕ) (rs : List ProcessRecord) → IsFree pid rs → how_often pid (map times rs) ≡ 0
never pid [] h = refl
never pid (r ∷ rs) h = cond-false (r.node == pid) (suc (how_often pid (map times rs))) (how_often pid (map times rs)) h.0 ∙ never pid rs h.1

once : (pid n : ℕ) (rs : List ProcessRecord) (r : ProcessRecord) → Ascend n rs → find_record pid rs ≡ Some r → how_often pid (map times rs) ≡ 1
once pid n [] r h found = absurd (cc)
once pid n (q ∷ rs) r h found = elim (cases_Bool (q.node == pid)) [
  | inl e ↦
      let same : q.node ≡ pid = eqb-true q.node pid e in
      cond-true (q.node == pid) (suc (how_often pid (map times rs))) (how_often pid (map times rs)) e ∙ ap suc (never pid rs (free_above pid (suc q.node) rs (omega arith) h.1))
  | inr e ↦
      cond-false (q.node == pid) (suc (how_often pid (map times rs))) (how_often pid (map times rs)) e
      ∙ once pid (suc q.node) rs r h.1 (sym (cond-false (q.node == pid) (Some q) (find_record pid rs) e) ∙ found)
]

among : (pid : ℕ) (rs : List ProcessRecord) (r : ProcessRecord) → find_record pid rs ≡ Some r → is_among pid (numbers rs) ≡ true
among pid [] r found = absurd (cc)
among pid (q ∷ rs) r found = elim (cases_Bool (q.node == pid)) [
  | inl e ↦ or_left (q.node == pid) (is_among pid (numbers rs)) e
  | inr e ↦
      ap (λ (b : Bool). b || is_among pid (numbers rs)) e
      ∙ among pid rs r (sym (cond-false (q.node == pid) (Some q) (find_record pid rs) e) ∙ found)
]

all_pass : {X : Type 0} (P : ProcessRecord → Type 0) (f : ProcessRecord → X) (test : X → Bool) → ((r : ProcessRecord) → P r → test (f r) ≡ true) → (rs : List ProcessRecord)
    → AllByRecursion P rs → list_all test (map f rs) ≡ true
all_pass P f test passes [] all = refl
all_pass P f test passes (r ∷ rs) all = and_from _ _ (passes r all.0) (all_pass P f test passes rs all.1)

each_kept : (w : World) → Ascend 0 w.records → AllByRecursion (IsKnown w) w.records → keeps_each (numbers w.records) (map times w.records) ≡ true
each_kept w above all =
    and_from _ _
    (all_pass (IsKnown w) (λ r. r.node) (λ pid. how_often pid (map times w.records) == 1) (λ r k. ap (λ (n : ℕ). n == 1) (once r.node 0 w.records r above k.here)) w.records all)
    (all_pass (IsKnown w) times (λ k. is_among k.pid (numbers w.records)) (λ r k. among r.node w.records r k.here) w.records all)

snapshot_is : (w : World) → map process_of w.records ≡ processes_from 1 w.nodes → Ascend 0 w.records → AllByRecursion (IsKnown w) w.records → is_snapshot empty (snapshot w) ≡ true
snapshot_is w e above all =
    and_from _ _ (snapshot_ordered w) ((λ i. keeps_each (snapshot_makes w e i) (snapshot_keeps w i)) ∙ each_kept w above all)

pub snapshot_setting : (w : World) → map process_of w.records ≡ processes_from 1 w.nodes → Ascend 0 w.records → AllByRecursion (IsKnown w) w.records
    → IsSettingOf w (setting empty (snapshot w))
snapshot_setting w e above all = record { snapshot = snapshot_is w e above all; kept = snapshot_keeps w; count = snapshot_counts w }

-- ---- after the last change
pub all_settled : (w : World) (rs : List ProcessRecord) → AllByRecursion (Stands w) rs → unsettled w.links rs ≡ None
all_settled w [] all = refl
all_settled w (r ∷ rs) all = cond-true (is_settled w.links r) (unsettled w.links rs) (Some r.node) (all.0).settled ∙ all_settled w rs all.1
