-- A world's snapshot gives that world.
use Rattle.std.proofs.Common.{◌≡◌, ◌+◌, ◌≤◌, true, map, length, None, refl, ap, ◌∙◌, arith}
use Rattle.std.specs.List.{AllByRecursion}
use Rattle.std.proofs.lemmas.Bool.{and_from, le-leb}
use Rattle.std.proofs.lemmas.List.Elements.{recursion_from_All, All-weaker}
use Rattle.wc_graph.specs.Rules.{IsCall}
use Rattle.wc_graph.specs.declared.link.Link.{Link}
use Rattle.wc_state.specs.declared.record.ProcessRecord.{ProcessRecord}
use Rattle.wc_world.specs.declared.change.Change.TheVariants as change
use Rattle.wc_world.specs.World.{World, empty}
use Rattle.wc_world.specs.Applied.{begun, applied}
use Rattle.wc_world.specs.Fits.{new_fits, call_fits, unsettled}
use Rattle.wc_world.specs.Accepted.{Setting, setting, IsAccepted}
use Rattle.wc_world.specs.Consistent.{IsShallow, Stands, IsConsistent}
use Rattle.wc_world.specs.Snapshot.{snapshot}
use Rattle.wc_world.proofs.SnapshotLists.{Leads, leads_nowhere, leads_on, leads_then, Ascend, ascend_before}
use Rattle.wc_world.proofs.SnapshotMade.{new_of, fresh, with_libraries, leads_libraries, leads_nodes, leads_links}
use Rattle.wc_world.proofs.SnapshotSets.{call_same, IsSettingOf, IsKnown, leads_sets, leads_kepts}
use Rattle.wc_world.proofs.SnapshotForm.{ascends, all_known, snapshot_setting, all_settled}

-- What stands can be made anew.
new_stands : (w : World) (r : ProcessRecord) → Stands w r → new_fits w.libraries (new_of r) ≡ true
new_stands w r h = and_from _ _ (le-leb 1 r.depth h.not_below) (and_from _ _ (le-leb r.depth 16 h.not_above) h.defined)

-- The changes of a snapshot lead from the empty world to the world.
leads_snapshot : (w : World) (s : Setting) → IsConsistent w → IsSettingOf w s → Ascend 0 w.records → AllByRecursion (IsKnown w) w.records → Leads s (begun empty) (snapshot w) w
leads_snapshot w s h told above all =
    let few : 0 + length w.nodes ≤ 8000000 = omega (arith, h.few) in
    let names = recursion_from_All _ w.libraries h.names in
    let shallow = recursion_from_All IsShallow w.nodes h.shallow in
    let fits = recursion_from_All _ w.records (All-weaker (Stands w) (λ r. new_fits w.libraries (new_of r) ≡ true) (new_stands w) w.records h.records) in
    let calls = recursion_from_All _ w.links (All-weaker (λ (l : Link). IsCall l.link → call_fits w.records l ≡ true) (λ l. IsCall l.link → call_fits (map fresh w.records) l ≡ true)
    (λ l c is. call_same w.records l ∙ c is) w.links h.calls) in
    leads_then (leads_libraries s (begun empty) w.libraries names)
    (leads_then (leads_nodes s (with_libraries (begun empty) w.libraries) 1 w.nodes w.records refl h.numbered few shallow fits)
    (leads_then (leads_links s _ w.links h.links calls)
    (leads_then (leads_sets w s 1 told above all)
    (leads_then (leads_kepts w s 1 told above all)
    (leads_on {b = w} (change.Count w.batches) (told.snapshot, h.batches) refl (leads_nowhere s w))))))

pub consistent_snapshot : (w : World) → IsConsistent w → IsAccepted empty (snapshot w) × (applied empty (snapshot w) ≡ w)
consistent_snapshot w h =
    let stands : AllByRecursion (Stands w) w.records = recursion_from_All (Stands w) w.records h.records in
    let above : Ascend 0 w.records = ascend_before 0 1 w.records (omega arith) (ascends 1 w.nodes w.records h.numbered) in
    let all : AllByRecursion (IsKnown w) w.records = all_known w above stands in
    let leads : Leads (setting empty (snapshot w)) (begun empty) (snapshot w) w =
    leads_snapshot w (setting empty (snapshot w)) h (snapshot_setting w h.numbered above all) above all in
    let ends : applied empty (snapshot w) ≡ w = leads.end in
    let settled : unsettled (applied empty (snapshot w)).links (applied empty (snapshot w)).records ≡ None =
    ap (λ (v : World). unsettled v.links v.records) ends ∙ all_settled w w.records stands in
    (record { batch = omega arith; each = leads.each; settled = settled }, ends)
