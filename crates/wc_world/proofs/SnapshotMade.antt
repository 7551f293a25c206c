-- What the first parts of a snapshot make: libraries, nodes with new records, and links.
use Rattle.std.proofs.Common.{◌≡◌, ℕ, zero, suc, ◌+◌, ◌<◌, ◌≤◌, true, List, [], ◌∷◌, ◌++◌, map, length, Some, refl, sym, ap, ◌∙◌, subst, arith}
use Rattle.std.specs.List.{AllByRecursion, Any, slice_get}
use Rattle.std.proofs.Math.Seq.{get_or-append_seam}
use Rattle.std.proofs.lemmas.List.{append_assoc, append-nil, length_push}
use Rattle.std.proofs.lemmas.Option.{slice_get-get_or}
use Rattle.wc_graph.specs.Rules.{IsCall, HasRightEnds, AreApart, IsLinkCorrect}
use Rattle.wc_graph.specs.Refusals.{IsAllowed}
use Rattle.wc_graph.specs.declared.node.NodeKind.{NodeKind}
use Rattle.wc_graph.specs.declared.node.NodeKind.TheVariants as node
use Rattle.wc_graph.specs.declared.link.Link.{Link}
use Rattle.wc_state.specs.declared.record.ProcessRecord.{ProcessRecord}
use Rattle.wc_world.specs.declared.change.Change.{Change}
use Rattle.wc_world.specs.declared.change.Change.TheVariants as change
use Rattle.wc_records.specs.declared.change.NewProcess.{NewProcess}
use Rattle.wc_world.specs.World.{World, Known}
use Rattle.wc_world.specs.Records.{process_node}
use Rattle.wc_world.specs.Applied.{made, next_number, after_change}
use Rattle.wc_world.specs.Fits.{names_ascend, new_fits, call_fits}
use Rattle.wc_world.specs.Accepted.{Setting}
use Rattle.wc_world.specs.Consistent.{processes_from, process_of, IsShallow}
use Rattle.wc_world.specs.Snapshot.{library_change, process_change, node_changes}
use Rattle.wc_world.proofs.SnapshotLists.{Leads, leads_nowhere, leads_to, leads_on}

-- ---- libraries
abbrev pub with_libraries : World → List Known → World
with_libraries w ks = record { nodes = w.nodes; links = w.links; records = w.records; libraries = ks; batches = w.batches }

pub leads_libraries : (s : Setting) (w : World) (ks : List Known) → AllByRecursion (λ k. names_ascend k.1 ≡ true) ks
    → Leads s w (map library_change ks) (with_libraries w (w.libraries ++ ks))
leads_libraries s w [] h = leads_to (with_libraries w (w.libraries ++ [])) (ap (with_libraries w) (sym (append-nil w.libraries))) (leads_nowhere s w)
leads_libraries s w (k ∷ ks) h =
    leads_on {b = with_libraries w (w.libraries ++ k ∷ [])} (library_change k) h.0 refl
    (leads_to (with_libraries w (w.libraries ++ k ∷ ks)) (ap (with_libraries w) (append_assoc w.libraries (k ∷ []) ks))
    (leads_libraries s (with_libraries w (w.libraries ++ k ∷ [])) ks h.1))

-- ---- nodes
-- what a process is made of
abbrev pub new_of : ProcessRecord → NewProcess
new_of r = record { kind = r.kind; definition = r.definition; library = r.library; depth = r.depth; label = r.label; caching = r.caching }

-- the record as it was made
abbrev pub fresh : ProcessRecord → ProcessRecord
fresh r = made r.node (new_of r)

abbrev pub with_nodes : World → List NodeKind → List ProcessRecord → World
with_nodes w ns rs = record { nodes = ns; links = w.links; records = rs; libraries = w.libraries; batches = w.batches }

leads_process : (s : Setting) (w d : World) (k : NodeKind) (r : ProcessRecord) (cs : List Change) → length w.nodes < 8000000 → new_fits w.libraries (new_of r) ≡ true
    → r.node ≡ next_number w → process_node r.kind ≡ k → Leads s (with_nodes w (w.nodes ++ k ∷ []) (w.records ++ fresh r ∷ [])) cs d
    → Leads s w (process_change r ∷ cs) d
leads_process s w d k r cs lt fits number kind h =
    let e : after_change s.batch w (process_change r) ≡ with_nodes w (w.nodes ++ k ∷ []) (w.records ++ fresh r ∷ []) =
    λ i. with_nodes w (w.nodes ++ kind i ∷ []) (w.records ++ made (sym number i) (new_of r) ∷ []) in
    leads_on (process_change r) (lt, fits) e h

joined : (w : World) (k : NodeKind) (ns : List NodeKind) (rs ss : List ProcessRecord)
    → with_nodes w ((w.nodes ++ k ∷ []) ++ ns) ((w.records ++ rs) ++ ss) ≡ with_nodes w (w.nodes ++ k ∷ ns) (w.records ++ (rs ++ ss))
joined w k ns rs ss = λ i. with_nodes w (append_assoc w.nodes (k ∷ []) ns i) (append_assoc w.records rs ss i)

pub leads_nodes : (s : Setting) (w : World) (n : ℕ) (ns : List NodeKind) (rs : List ProcessRecord) → n ≡ length w.nodes + 1 → map process_of rs ≡ processes_from n ns
    → length w.nodes + length ns ≤ 8000000 → AllByRecursion IsShallow ns → AllByRecursion (λ r. new_fits w.libraries (new_of r) ≡ true) rs
    → Leads s w (node_changes ns rs) (with_nodes w (w.nodes ++ ns) (w.records ++ map fresh rs))
leads_nodes s w n [] [] number e le shallow fits =
    leads_to (with_nodes w (w.nodes ++ []) (w.records ++ [])) (λ i. with_nodes w (sym (append-nil w.nodes) i) (sym (append-nil w.records) i)) (leads_nowhere s w)
leads_nodes s w n [] (r ∷ rs) number e le shallow fits = absurd (cc)
leads_nodes s w n (node.Data v ∷ ns) rs number e le shallow fits =
    let longer : length (w.nodes ++ node.Data v ∷ []) ≡ length w.nodes + 1 = length_push w.nodes (node.Data v) in
    leads_on {b = with_nodes w (w.nodes ++ node.Data v ∷ []) w.records} (change.Data v) (omega arith, shallow.0) refl
    (leads_to (with_nodes w (w.nodes ++ node.Data v ∷ ns) (w.records ++ map fresh rs))
    (ap (λ (ms : List NodeKind). with_nodes w ms (w.records ++ map fresh rs)) (append_assoc w.nodes (node.Data v ∷ []) ns))
    (leads_nodes s (with_nodes w (w.nodes ++ node.Data v ∷ []) w.records) (suc n) ns rs (omega arith) e (omega arith) shallow.1 fits))
leads_nodes s w n (node.Calculation ∷ ns) [] number e le shallow fits = absurd (cc)
leads_nodes s w n (node.Calculation ∷ ns) (r ∷ rs) number e le shallow fits =
    let longer : length (w.nodes ++ node.Calculation ∷ []) ≡ length w.nodes + 1 = length_push w.nodes node.Calculation in
    let here : process_of r ≡ (n, node.Calculation) = cc in
    let rest : map process_of rs ≡ processes_from (suc n) ns = cc in
    leads_process s w _ node.Calculation r (node_changes ns rs) (omega arith) fits.0 (ap (λ (p : ℕ × NodeKind). p.0) here ∙ number) (ap (λ (p : ℕ × NodeKind). p.1) here)
    (leads_to (with_nodes w (w.nodes ++ node.Calculation ∷ ns) (w.records ++ map fresh (r ∷ rs))) (joined w node.Calculation ns (fresh r ∷ []) (map fresh rs))
    (leads_nodes s (with_nodes w (w.nodes ++ node.Calculation ∷ []) (w.records ++ fresh r ∷ [])) (suc n) ns rs (omega arith) rest (omega arith) shallow.1 fits.1))
leads_nodes s w n (node.Workflow ∷ ns) [] number e le shallow fits = absurd (cc)
leads_nodes s w n (node.Workflow ∷ ns) (r ∷ rs) number e le shallow fits =
    let longer : length (w.nodes ++ node.Workflow ∷ []) ≡ length w.nodes + 1 = length_push w.nodes node.Workflow in
    let here : process_of r ≡ (n, node.Workflow) = cc in
    let rest : map process_of rs ≡ processes_from (suc n) ns = cc in
    leads_process s w _ node.Workflow r (node_changes ns rs) (omega arith) fits.0 (ap (λ (p : ℕ × NodeKind). p.0) here ∙ number) (ap (λ (p : ℕ × NodeKind). p.1) here)
    (leads_to (with_nodes w (w.nodes ++ node.Workflow ∷ ns) (w.records ++ map fresh (r ∷ rs))) (joined w node.Workflow ns (fresh r ∷ []) (map fresh rs))
    (leads_nodes s (with_nodes w (w.nodes ++ node.Workflow ∷ []) (w.records ++ fresh r ∷ [])) (suc n) ns rs (omega arith) rest (omega arith) shallow.1 fits.1))

-- ---- links
slice_get_left : {X : Type 0} (xs ys : List X) (i : ℕ) (x : X) → slice_get xs i ≡ Some x → slice_get (xs ++ ys) i ≡ Some x
slice_get_left [] ys i x h = absurd (cc)
slice_get_left (y ∷ xs) ys zero x h = h
slice_get_left (y ∷ xs) ys (suc i) x h = slice_get_left xs ys i x h

slice_get_seam : {X : Type 0} (xs : List X) (y : X) (ys : List X) → slice_get (xs ++ y ∷ ys) (length xs) ≡ Some y
slice_get_seam [] y ys = refl
slice_get_seam (x ∷ xs) y ys = slice_get_seam xs y ys

length_seam : {X : Type 0} (xs : List X) (y : X) (ys : List X) → length xs < length (xs ++ y ∷ ys)
length_seam [] y ys = omega arith
length_seam (x ∷ xs) y ys = let h = length_seam xs y ys in omega arith

-- A link of a correct list is apart from each link before it.
apart_before : (nodes : List NodeKind) (done : List Link) (l : Link) (ls : List Link) (P : Link → Type 0) → IsLinkCorrect nodes (done ++ l ∷ ls)
    → ((a : Link) → AreApart a l → ¬ P a) → ¬ Any P done
apart_before nodes done l ls P h excluded found =
    let there : slice_get done found.0 ≡ Some found.1 = slice_get-get_or done found.0 found.1 found.2 ∙ ap Some found.3 in
    excluded found.1 (h.apart found.0 (length done) found.1 l (λ e. omega arith) (slice_get_left done (l ∷ ls) found.0 found.1 there) (slice_get_seam done l ls)) found.4

allowed : (nodes : List NodeKind) (done : List Link) (l : Link) (ls : List Link) → IsLinkCorrect nodes (done ++ l ∷ ls) → IsAllowed nodes done l
allowed nodes done l ls h = record {
  ends = subst (HasRightEnds nodes) (get_or-append_seam done l ls l) (h.ends (length done) l (length_seam done l ls));
  triple = apart_before nodes done l ls _ h (λ a apart. apart.triples);
  label = apart_before nodes done l ls _ h (λ a apart. apart.labels);
  creator = apart_before nodes done l ls _ h (λ a apart. apart.creators);
  caller = apart_before nodes done l ls _ h (λ a apart. apart.callers);
}

abbrev pub with_links : World → List Link → World
with_links w ls = record { nodes = w.nodes; links = ls; records = w.records; libraries = w.libraries; batches = w.batches }

pub leads_links : (s : Setting) (w : World) (ls : List Link) → IsLinkCorrect w.nodes (w.links ++ ls)
    → AllByRecursion (λ l. IsCall l.link → call_fits w.records l ≡ true) ls → Leads s w (map change.Link ls) (with_links w (w.links ++ ls))
leads_links s w [] h calls = leads_to (with_links w (w.links ++ [])) (ap (with_links w) (sym (append-nil w.links))) (leads_nowhere s w)
leads_links s w (l ∷ ls) h calls =
    let again : IsLinkCorrect w.nodes ((w.links ++ l ∷ []) ++ ls) = subst (IsLinkCorrect w.nodes) (sym (append_assoc w.links (l ∷ []) ls)) h in
    leads_on {b = with_links w (w.links ++ l ∷ [])} (change.Link l) (allowed w.nodes w.links l ls h, calls.0) refl
    (leads_to (with_links w (w.links ++ l ∷ ls)) (ap (with_links w) (append_assoc w.links (l ∷ []) ls))
    (leads_links s (with_links w (w.links ++ l ∷ [])) ls again calls.1))
