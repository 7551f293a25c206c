-- How many changes a consistent world's snapshot has.
use Rattle.std.proofs.Common.{◌≡◌, ℕ, suc, ◌+◌, ◌*◌, ◌≤◌, List, [], ◌∷◌, ◌++◌, length, map, refl, ap, ◌∙◌, length-append, arith}
use Rattle.std.proofs.lemmas.List.{length-map}
use Rattle.wc_graph.specs.declared.node.NodeKind.{NodeKind}
use Rattle.wc_graph.specs.declared.node.NodeKind.TheVariants as node
use Rattle.wc_state.specs.declared.record.ProcessRecord.{ProcessRecord}
use Rattle.wc_world.specs.declared.change.Change.{Change}
use Rattle.wc_world.specs.declared.change.Change.TheVariants as change
use Rattle.wc_world.specs.World.{World}
use Rattle.wc_world.specs.Consistent.{processes_from, process_of, IsConsistent}
use Rattle.wc_world.specs.Snapshot.{library_change, node_changes, set_change, kept_change, snapshot}

node_changes_length : (n : ℕ) (ns : List NodeKind) (rs : List ProcessRecord) → map process_of rs ≡ processes_from n ns → length (node_changes ns rs) ≡ length ns
node_changes_length n [] rs e = refl
node_changes_length n (node.Data v ∷ ns) rs e = ap suc (node_changes_length (suc n) ns rs e)
node_changes_length n (node.Calculation ∷ ns) [] e = absurd (cc)
node_changes_length n (node.Calculation ∷ ns) (r ∷ rs) e =
    let rest : map process_of rs ≡ processes_from (suc n) ns = cc in
    ap suc (node_changes_length (suc n) ns rs rest)
node_changes_length n (node.Workflow ∷ ns) [] e = absurd (cc)
node_changes_length n (node.Workflow ∷ ns) (r ∷ rs) e =
    let rest : map process_of rs ≡ processes_from (suc n) ns = cc in
    ap suc (node_changes_length (suc n) ns rs rest)

fewer_records : (n : ℕ) (ns : List NodeKind) (rs : List ProcessRecord) → map process_of rs ≡ processes_from n ns → length rs ≤ length ns
fewer_records n [] [] e = omega arith
fewer_records n [] (r ∷ rs) e = absurd (cc)
fewer_records n (node.Data v ∷ ns) rs e = let h : length rs ≤ length ns = fewer_records (suc n) ns rs e in omega arith
fewer_records n (node.Calculation ∷ ns) [] e = absurd (cc)
fewer_records n (node.Calculation ∷ ns) (r ∷ rs) e =
    let rest : map process_of rs ≡ processes_from (suc n) ns = cc in
    let h : length rs ≤ length ns = fewer_records (suc n) ns rs rest in
    omega arith
fewer_records n (node.Workflow ∷ ns) [] e = absurd (cc)
fewer_records n (node.Workflow ∷ ns) (r ∷ rs) e =
    let rest : map process_of rs ≡ processes_from (suc n) ns = cc in
    let h : length rs ≤ length ns = fewer_records (suc n) ns rs rest in
    omega arith

few_records : (w : World) → IsConsistent w → length w.records ≤ 8000000
few_records w h =
    let fewer : length w.records ≤ length w.nodes = fewer_records 1 w.nodes w.records h.numbered in
    let few : length w.nodes ≤ 8000000 = h.few in
    omega arith

-- how many records a world has, where it has so many in its list with its room
pub records_counted : (w : World) (n room : ℕ) (p : List ProcessRecord × ℕ) → IsConsistent w → n ≡ length p.0 → p ≡ (w.records, room) → (n ≡ length w.records) × (n ≤ 8000000)
records_counted w n room p h count e =
    let same : n ≡ length w.records = count ∙ ap (λ (q : List ProcessRecord × ℕ). length q.0) e in
    let few : length w.records ≤ 8000000 = few_records w h in
    (same, omega arith)

six : (a b c d e f : List Change) → length (a ++ (b ++ (c ++ (d ++ (e ++ f))))) ≡ length a + (length b + (length c + (length d + (length e + length f))))
six a b c d e f =
    length-append a (b ++ (c ++ (d ++ (e ++ f))))
    ∙ ap (λ n. length a + n) (length-append b (c ++ (d ++ (e ++ f)))
    ∙ ap (λ n. length b + n) (length-append c (d ++ (e ++ f))
    ∙ ap (λ n. length c + n) (length-append d (e ++ f)
    ∙ ap (λ n. length d + n) (length-append e f))))

pub snapshot_length : (w : World) → IsConsistent w
    → length (snapshot w) ≡ length w.libraries + length w.nodes + length w.links + 2 * length w.records + 1
snapshot_length w h =
    let all = six (map library_change w.libraries) (node_changes w.nodes w.records) (map change.Link w.links) (map set_change w.records) (map kept_change w.records) (change.Count w.batches ∷ []) in
    let libraries : length (map library_change w.libraries) ≡ length w.libraries = length-map w.libraries library_change in
    let nodes : length (node_changes w.nodes w.records) ≡ length w.nodes = node_changes_length 1 w.nodes w.records h.numbered in
    let links : length (map change.Link w.links) ≡ length w.links = length-map w.links change.Link in
    let sets : length (map set_change w.records) ≡ length w.records = length-map w.records set_change in
    let kepts : length (map kept_change w.records) ≡ length w.records = length-map w.records kept_change in
    all ∙ omega arith
