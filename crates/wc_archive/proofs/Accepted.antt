-- So the import of a good archive is accepted, and an archive alone is consistent.
use Rattle.std.proofs.Common.{◌≡◌, ℕ, zero, suc, ◌+◌, ◌<◌, ◌≤◌, ◌==◌, Bool, true, false, List, [], ◌∷◌, ◌++◌, length, map, get_or, Option, Some, None, refl, sym, ap, subst, ◌∙◌, arith}
use Rattle.std.specs.Prelude.{All, IsSomeAnd, ◌||◌, if◌then◌else◌, nat_le, slice_get, option_and_then}
use Rattle.std.proofs.lemmas.Bool.{and_from, eq-eqb, le-leb, ne_eqb}
use Rattle.std.proofs.lemmas.Option.{slice_get-get_or}
use Rattle.std.proofs.lemmas.List.Elements.{All-nil, All-cons, All-head, All-tail, All-append, All-map, All-weaker}
use Rattle.wc_syntax.specs.Findings.{definition_named}
use Rattle.wc_graph.specs.Rules.{node_of, Enters, HasRightEnds, IsCall}
use Rattle.wc_graph.specs.declared.link.Link.{Link}
use Rattle.wc_graph.specs.declared.link.LinkType.{LinkType}
use Rattle.wc_graph.specs.declared.link.LinkType.TheVariants as link
use Rattle.wc_graph.specs.declared.node.NodeKind.{NodeKind}
use Rattle.wc_graph.specs.declared.node.NodeKind.TheVariants as kept
use Rattle.wc_state.specs.declared.record.ProcessRecord.{ProcessRecord}
use Rattle.wc_world.specs.Accepted.{Apply, IsAccepted, Setting, nothing, setting}
use Rattle.wc_world.specs.Applied.{begun, made}
use Rattle.wc_world.specs.Consistent.{IsConsistent}
use Rattle.wc_world.specs.Fits.{call_fits, is_call_between, is_of_kind, is_settled, new_fits, unsettled}
use Rattle.wc_world.specs.Records.{calls, find_record, gives_output, has_ended, is_call_from, is_output_of}
use Rattle.wc_world.specs.World.{Known, World, empty}
use Rattle.wc_world.specs.declared.change.Change.{Change}
use Rattle.wc_world.proofs.FoundRecords.{found_holds}
use Rattle.wc_world.proofs.ReachedLists.{some_and}
use Rattle.wc_world.proofs.ReachedWorlds.{accepted_is_consistent, reached_is_consistent}
use Rattle.wc_machine.specs.Laws.{HasPlaces}
use Rattle.wc_machine.proofs.AcceptedEnds.{settled_all}
use Rattle.wc_machine.proofs.Frames.{and_false, records_below, settled_stays}
use Rattle.wc_machine.proofs.SubmittedAccepted.{apply_append}
use Rattle.wc_subworlds.specs.Parts.{placed}
use Rattle.wc_subworlds.proofs.Parts.{its_number}
use Rattle.wc_archive_file.specs.Archives.{IsNode}
use Rattle.wc_archive_file.specs.declared.archive.Archive.{Archive}
use Rattle.wc_archive_file.specs.declared.archive.ArchiveNode.{ArchiveNode}
use Rattle.wc_archive_file.specs.declared.archive.ArchiveNode.TheVariants as node
use Rattle.wc_archive.specs.After.{ended_record, own_world, records_from, with_archive}
use Rattle.wc_archive.specs.Alone.{ends_from, imported, link_change, new_process, node_change, raised}
use Rattle.wc_archive.specs.Good.{AreGoodProcesses, IsGoodProcess, kind_of_node}
use Rattle.wc_archive.specs.Laws.{GoodArchivesAreConsistent, ImportsAreAccepted, IsGoodArchive}
use Rattle.wc_archive.proofs.Made.{append_nil, import_makes, links_added, made_from, nodes_added, with_library, with_links, with_nodes}
use Rattle.wc_archive.proofs.Part.{archives_are_these_worlds, found_behind, its_record, library_behind}
use Rattle.wc_archive.proofs.Accepting.{HasEndedNode, IsFitNode, ends_apply, links_apply, nodes_apply, some_source}

-- ---- processes and their nodes

-- a node of a process has a record
process_found : (at p : ℕ) (ns : List ArchiveNode) (k : NodeKind) → slice_get (map kind_of_node ns) p ≡ Some k → ((v : _) → k ≡ kept.Data v → ⊥)
    → (r : ProcessRecord) × (find_record (at + p) (records_from 1 1 at ns) ≡ Some r)
process_found at p [] k h is = absurd (cc h)
process_found at zero (node.Data v ∷ ns) k h is = let e : kept.Data v ≡ k = cc h in absurd (is v (sym e))
process_found at zero (node.Process q ∷ ns) k h is =
    let e : at + 0 ≡ at = omega arith in
    let r : ProcessRecord = ended_record 1 1 at q in (
      r,
      ap (λ (n : ℕ). find_record n (records_from 1 1 at (node.Process q ∷ ns))) e
          ∙ ap (λ (b : Bool). if b then Some r else find_record at (records_from 1 1 (suc at) ns)) (eq-eqb at at refl),
    )
process_found at (suc p) (node.Data v ∷ ns) k h is =
    let e : at + suc p ≡ suc at + p = omega arith in
    let rest = process_found (suc at) p ns k h is in
    (rest.0, ap (λ (n : ℕ). find_record n (records_from 1 1 (suc at) ns)) e ∙ rest.1)
process_found at (suc p) (node.Process q ∷ ns) k h is =
    let e : at + suc p ≡ suc at + p = omega arith in
    let rest = process_found (suc at) p ns k h is in
    let no : (at == (at + suc p)) ≡ false = ne_eqb at (at + suc p) (λ f. absurd (omega (arith, f))) in (
      rest.0,
      ap (λ (b : Bool). if b then Some (ended_record 1 1 at q) else find_record (at + suc p) (records_from 1 1 (suc at) ns)) no
          ∙ ap (λ (n : ℕ). find_record n (records_from 1 1 (suc at) ns)) e ∙ rest.1,
    )

-- what a call enters is no data
no_data : (t : LinkType) → IsCall t → (k : NodeKind) → Enters t k → (v : _) → k ≡ kept.Data v → ⊥
no_data link.InputCalc c k h v e = absurd c
no_data link.InputWork c k h v e = absurd c
no_data link.Create c k h v e = absurd c
no_data link.Return c k h v e = absurd c
no_data link.CallCalc c k h v e = subst (Enters link.CallCalc) e h
no_data link.CallWork c k h v e = subst (Enters link.CallWork) e h

calls_so : (t : LinkType) → IsCall t → calls t ≡ true
calls_so link.InputCalc c = absurd c
calls_so link.InputWork c = absurd c
calls_so link.Create c = absurd c
calls_so link.Return c = absurd c
calls_so link.CallCalc c = refl
calls_so link.CallWork c = refl

entered : (ns : List ArchiveNode) (id : ℕ) (t : LinkType) → IsCall t → IsSomeAnd (node_of (map kind_of_node ns) id) (Enters t)
    → (r : ProcessRecord) × (find_record id (records_from 1 1 1 ns) ≡ Some r)
entered ns zero t c h = absurd h
entered ns (suc p) t c h =
    let k = some_and (Enters t) (slice_get (map kind_of_node ns) p) h in
    let found = process_found 1 p ns k.0 k.1 (no_data t c k.0 k.2) in
    let e : 1 + p ≡ suc p = omega arith in
    (found.0, ap (λ (n : ℕ). find_record n (records_from 1 1 1 ns)) (sym e) ∙ found.1)

module _ (a : Archive) (good : IsGoodArchive a) where
  abbrev u : World
  u = own_world a

  pub processes : AreGoodProcesses u
  processes = subst AreGoodProcesses (archives_are_these_worlds a) good.processes

  -- ---- each node fits

  module _ (w : World) where
    abbrev number : ℕ
    number = suc (length w.libraries)

    abbrev known : List Known
    known = w.libraries ++ (a.library, []) ∷ []

    one_fits : (pid : ℕ) (p : _) → IsGoodProcess u (ended_record 1 1 pid p) → new_fits known (new_process number p) ≡ true
    one_fits pid p h =
        and_from (nat_le 1 p.depth) _ (le-leb 1 p.depth h.not_below)
        (and_from (nat_le p.depth 16) _ (le-leb p.depth 16 h.not_above)
        (ap (λ o. is_of_kind p.kind (option_and_then (definition_named p.definition) o)) (library_behind w.libraries (a.library, [])) ∙ h.defined))

    fit_nodes : (pid : ℕ) (ns : List ArchiveNode) → All IsNode ns → All (IsGoodProcess u) (records_from 1 1 pid ns) → All (IsFitNode known number) ns
    fit_nodes pid [] written h = All-nil (IsFitNode known number)
    fit_nodes pid (node.Data v ∷ ns) written h =
        All-cons (IsFitNode known number) (node.Data v) ns (All-head IsNode (node.Data v) ns written).shallow
        (fit_nodes (suc pid) ns (All-tail IsNode (node.Data v) ns written) h)
    fit_nodes pid (node.Process p ∷ ns) written h =
        let r : ProcessRecord = ended_record 1 1 pid p in
        All-cons (IsFitNode known number) (node.Process p) ns (one_fits pid p (All-head (IsGoodProcess u) r (records_from 1 1 (suc pid) ns) h))
        (fit_nodes (suc pid) ns (All-tail IsNode (node.Process p) ns written) (All-tail (IsGoodProcess u) r (records_from 1 1 (suc pid) ns) h))

  pub over_nodes : (pid : ℕ) (ns : List ArchiveNode) → All (IsGoodProcess u) (records_from 1 1 pid ns) → All HasEndedNode ns
  over_nodes pid [] h = All-nil HasEndedNode
  over_nodes pid (node.Data v ∷ ns) h = All-cons HasEndedNode (node.Data v) ns tt (over_nodes (suc pid) ns h)
  over_nodes pid (node.Process p ∷ ns) h =
      let r : ProcessRecord = ended_record 1 1 pid p in
      All-cons HasEndedNode (node.Process p) ns (All-head (IsGoodProcess u) r (records_from 1 1 (suc pid) ns) h).ended
      (over_nodes (suc pid) ns (All-tail (IsGoodProcess u) r (records_from 1 1 (suc pid) ns) h))

  -- ---- each call fits

  right : All (HasRightEnds u.nodes) a.links
  right = λ i d lt. (good.links i (get_or a.links i d) (slice_get-get_or a.links i d lt)).allowed.ends

  pub call_fits_alone : All (λ l. IsCall l.link → call_fits u.records l ≡ true) a.links
  call_fits_alone =
      λ i d lt c.
      let l : Link = get_or a.links i d in
      let r = entered a.nodes l.target l.link c (right i d lt).1 in
      let g : IsGoodProcess u r.0 = found_holds (IsGoodProcess u) l.target u.records r.0 processes.each r.1 in
      let number : r.0.node ≡ l.target = its_number l.target u.records r.0 r.1 in
      g.called i d lt (and_from (calls l.link) (l.target == r.0.node) (calls_so l.link c) (eq-eqb l.target r.0.node (sym number)))

  module _ (w : World) (c : IsConsistent w) where
    abbrev base : ℕ
    base = length w.nodes

    abbrev made_records : List ProcessRecord
    made_records = w.records ++ made_from (suc (length w.libraries)) (suc base) a.nodes

    -- a process of the archive is there as it was made
    made_there : (pid : ℕ) (r : ProcessRecord) (h : find_record pid u.records ≡ Some r)
        → find_record (base + pid) made_records ≡ Some (made (base + pid) (new_process (suc (length w.libraries)) (its_record 1 1 1 pid a.nodes r h).process))
    made_there pid r h =
        let i = its_record 1 1 1 pid a.nodes r h in
        let some : 1 ≤ pid = i.from in
        let first : suc base ≡ base + 1 = omega arith in
        found_behind (base + pid) w.records (made_from (suc (length w.libraries)) (suc base) a.nodes)
        (All-weaker (λ x. x.node < suc base) (λ x. x.node < base + pid) (λ x lt. omega (arith, lt, some)) w.records (records_below w.nodes w.records c.numbered))
        ∙ ap (λ (m : ℕ). find_record (base + pid) (made_from (suc (length w.libraries)) m a.nodes)) first
        ∙ i.made (suc (length w.libraries)) base

    call_there : (l : Link) → call_fits u.records l ≡ true → call_fits made_records (placed (raised base) l) ≡ true
    call_there l h = by (find_record l.source u.records) refl (find_record l.target u.records) refl h
      where
        by : (o : Option ProcessRecord) → find_record l.source u.records ≡ o → (q : Option ProcessRecord) → find_record l.target u.records ≡ q
            → is_call_between l.label o q ≡ true → call_fits made_records (placed (raised base) l) ≡ true
        by None e q f t = absurd (cc t)
        by (Some r) e None f t = absurd (cc t)
        by (Some r) e (Some s) f t =
            let i = its_record 1 1 1 l.source a.nodes r e in
            let j = its_record 1 1 1 l.target a.nodes s f in
            let one = made_there l.source r e in
            let other = made_there l.target s f in
            let back : Some r ≡ Some (ended_record 1 1 l.source i.process) = ap (λ (x : ProcessRecord). Some x) i.is in
            let again : Some s ≡ Some (ended_record 1 1 l.target j.process) = ap (λ (x : ProcessRecord). Some x) j.is in
            let told : is_call_between l.label (Some (ended_record 1 1 l.source i.process)) (Some (ended_record 1 1 l.target j.process)) ≡ true
            = sym (λ k. is_call_between l.label (back k) (again k)) ∙ t in
            (λ k. is_call_between l.label (one k) (other k)) ∙ told

    calls_there : All (λ l. IsCall l.link → call_fits made_records (placed (raised base) l) ≡ true) a.links
    calls_there = λ i d lt k. call_there (get_or a.links i d) (call_fits_alone i d lt k)

    -- ---- all are settled

    far : (pid : ℕ) → pid < suc base → All (λ l. (l.source == pid) ≡ false) (map (placed (raised base)) a.links)
    far pid low =
        All-map (λ l. (l.source == pid) ≡ false) (placed (raised base)) a.links
        (All-weaker (HasRightEnds u.nodes) (λ l. ((base + l.source) == pid) ≡ false)
        (λ l h. let some : 1 ≤ l.source = some_source w.nodes u.nodes l h in ne_eqb (base + l.source) pid (λ e. absurd (omega (arith, some, low, e)))) a.links right)

    settled_old : All (λ r. is_settled (with_archive w a).links r ≡ true) w.records
    settled_old =
        λ i d lt.
        let r : ProcessRecord = get_or w.records i d in
        let low : r.node < suc base = records_below w.nodes w.records c.numbered i d lt in
        settled_stays w.links (map (placed (raised base)) a.links) r
        (All-weaker (λ l. (l.source == r.node) ≡ false) (λ l. is_output_of r.node l ≡ false) (λ l h. and_false (gives_output l.link) (l.source == r.node) h) (map (placed (raised base)) a.links) (far r.node low))
        (All-weaker (λ l. (l.source == r.node) ≡ false) (λ l. is_call_from r.node l ≡ false) (λ l h. and_false (calls l.link) (l.source == r.node) h) (map (placed (raised base)) a.links) (far r.node low))
        ∙ (c.records i d lt).settled

    settled_new : (links : List Link) (batch library pid : ℕ) (ns : List ArchiveNode) → All HasEndedNode ns → All (λ r. is_settled links r ≡ true) (records_from batch library pid ns)
    settled_new links batch library pid [] over = All-nil (λ r. is_settled links r ≡ true)
    settled_new links batch library pid (node.Data v ∷ ns) over = settled_new links batch library (suc pid) ns (All-tail HasEndedNode (node.Data v) ns over)
    settled_new links batch library pid (node.Process p ∷ ns) over =
        let r : ProcessRecord = ended_record batch library pid p in
        let here : has_ended p.state ≡ true = All-head HasEndedNode (node.Process p) ns over in
        All-cons (λ x. is_settled links x ≡ true) r (records_from batch library (suc pid) ns)
        (settles links r here)
        (settled_new links batch library (suc pid) ns (All-tail HasEndedNode (node.Process p) ns over))
      where
        settles : (links : List Link) (r : ProcessRecord) → has_ended r.state ≡ true → is_settled links r ≡ true
        settles links r h = by (has_ended r.state) _ h
          where
            by : (b x : Bool) → b ≡ true → (b || x) ≡ true
            by true x e = refl
            by false x e = absurd (cc e)

    over : All HasEndedNode a.nodes
    over = over_nodes 1 a.nodes processes.each

    settled : unsettled (with_archive w a).links (with_archive w a).records ≡ None
    settled =
        settled_all (with_archive w a).links (with_archive w a).records
        (All-append (λ r. is_settled (with_archive w a).links r ≡ true) w.records (records_from (w.batches + 1) (suc (length w.libraries)) (suc base) a.nodes) settled_old
        (settled_new (with_archive w a).links (w.batches + 1) (suc (length w.libraries)) (suc base) a.nodes over))

    -- ---- each change

    each : (s : Setting) → s.batch ≡ w.batches + 1 → base + length a.nodes ≤ 8000000 → Apply s (begun w) (imported w a)
    each s b few =
        let library : ℕ = suc (length w.libraries) in
        let ns : List Change = map (node_change library) a.nodes in
        let ls : List Change = map (link_change base) a.links in
        let es : List Change = ends_from (suc base) a.nodes in
        let v : World = with_library w a (records_below w.nodes w.records c.numbered) in
        let x : World = with_nodes library v a.nodes in
        let y : World = with_links base x a.links in
        let ends : Apply s y es
        = ends_apply s library (w.nodes ++ map kind_of_node a.nodes) (w.links ++ map (placed (raised base)) a.links) (w.libraries ++ (a.library, []) ∷ []) (w.batches + 1)
        (suc base) w.records a.nodes (records_below w.nodes w.records c.numbered) over in
        let start : Apply s x ls
        = subst (λ (old : List Link). Apply s (record { nodes = w.nodes ++ map kind_of_node a.nodes; links = old; records = made_records; libraries = w.libraries ++ (a.library, []) ∷ []; batches = w.batches + 1 }) ls)
        (append_nil w.links)
        (links_apply w.nodes (map kind_of_node a.nodes) s w.links c.links.ends made_records (w.libraries ++ (a.library, []) ∷ []) (w.batches + 1) [] a.links good.links calls_there) in (
          refl,
          apply_append s v ns (ls ++ es) (nodes_apply s v library a.nodes (fit_nodes w 1 a.nodes good.writable.nodes.0 processes.each) few)
              (subst (λ (z : World). Apply s z (ls ++ es)) (sym (nodes_added s.batch library v a.nodes))
              (apply_append s x ls es start (subst (λ (z : World). Apply s z es) (sym (links_added s.batch base x a.links)) ends))),
        )

    pub accepted : HasPlaces w (base + length a.nodes) → IsAccepted w (imported w a)
    accepted places = record {
      batch = places.batches;
      each = each (setting w (imported w a)) refl places.nodes;
      settled =
          subst (λ (v : World). unsettled v.links v.records ≡ None) (sym (import_makes w a (records_below w.nodes w.records c.numbered))) settled;
    }

consistent_empty : IsConsistent empty
consistent_empty = reached_is_consistent empty nothing

pub imports_are_accepted : ImportsAreAccepted
imports_are_accepted w a c good places = accepted a good w c places

pub good_archives_are_consistent : GoodArchivesAreConsistent
good_archives_are_consistent a good =
    let few : length a.nodes ≤ 8000000 = good.writable.nodes.1 in
    accepted_is_consistent empty (imported empty a) consistent_empty
    (accepted a good empty consistent_empty (record { nodes = omega (arith, few); batches = omega arith }))
