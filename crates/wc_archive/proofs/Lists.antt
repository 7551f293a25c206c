-- The lists of the world after an import are as a sound world asks.
use Rattle.std.proofs.Common.{◌≡◌, ◌≢◌, ℕ, suc, ◌+◌, ◌<◌, ◌≤◌, ◌==◌, Bool, true, false, not, List, [], ◌∷◌, ◌++◌, length, map, get_or, Some, ◌⊎◌, inl, inr, refl, ap, ◌∙◌, arith, length-append}
use Rattle.std.specs.Prelude.{All, ◌&&◌, ◌||◌, if◌then◌else◌, slice_get}
use Rattle.std.specs.List.{list_all, list_any}
use Rattle.std.proofs.lemmas.Bool.{cases_eq, eqb-true, ne_eqb}
use Rattle.std.proofs.lemmas.Option.{slice_get-get_or}
use Rattle.std.proofs.lemmas.List.Elements.{All-head, All-tail, All-push, All-append, All-map}
use Rattle.std.proofs.lemmas.List.Folds.{list_any-append}
use Rattle.wc_graph.specs.Rules.{HasRightEnds}
use Rattle.wc_graph.specs.declared.link.Link.{Link}
use Rattle.wc_graph.specs.declared.link.LinkType.TheVariants.{Create}
use Rattle.wc_graph.specs.declared.node.NodeKind.{NodeKind}
use Rattle.wc_state.specs.declared.record.Await.{Await}
use Rattle.wc_state.specs.declared.record.Part.{Part}
use Rattle.wc_state.specs.declared.record.Part.TheVariants as part
use Rattle.wc_state.specs.declared.record.ProcessRecord.{ProcessRecord}
use Rattle.wc_world.specs.Consistent.{IsConsistent, Stands}
use Rattle.wc_world.specs.Fits.{is_nil, standing_fits}
use Rattle.wc_world.specs.Records.{has_called, has_ended, is_call_from}
use Rattle.wc_world.specs.World.{World}
use Rattle.wc_world.proofs.FoundRecords.{left, right}
use Rattle.wc_machine.specs.Rest.{is_awaited}
use Rattle.wc_machine.specs.Sound.{GoesUp, IsSound, fuel_in, is_awaited_in}
use Rattle.wc_machine.specs.Submissions.{IsKeptLibrary}
use Rattle.wc_machine.proofs.Frames.{node_number, target_is_node}
use Rattle.wc_soundness.specs.Touches.{HasSoundLists}
use Rattle.wc_subworlds.specs.Parts.{placed}
use Rattle.wc_archive_file.specs.declared.archive.Archive.{Archive}
use Rattle.wc_archive_file.specs.declared.archive.ArchiveNode.{ArchiveNode}
use Rattle.wc_archive_file.specs.declared.archive.ArchiveNode.TheVariants as node
use Rattle.wc_archive.specs.After.{records_from, with_archive}
use Rattle.wc_archive.specs.Alone.{raised}
use Rattle.wc_archive.specs.Good.{kind_of_node}
use Rattle.wc_archive.specs.Laws.{IsGoodArchive}
use Rattle.wc_archive.proofs.Accepting.{HasEndedNode}
use Rattle.wc_archive.proofs.Accepted.{over_nodes, processes}

-- ---- what is awaited

or_false : (b : Bool) → (b || false) ≡ b
or_false true = refl
or_false false = refl

-- what was called is a node
called_low : (nodes : List NodeKind) (caller pid : ℕ) (ls : List Link) → All (HasRightEnds nodes) ls → has_called ls caller pid ≡ true → pid ≤ length nodes
called_low nodes caller pid [] h e = absurd (cc e)
called_low nodes caller pid (l ∷ ls) h e =
    by (is_call_from caller l && (l.target == pid)) refl (called_low nodes caller pid ls (All-tail (HasRightEnds nodes) l ls h)) e
  where
    by : (b : Bool) → (is_call_from caller l && (l.target == pid)) ≡ b → (has_called ls caller pid ≡ true → pid ≤ length nodes) → (b || has_called ls caller pid) ≡ true
        → pid ≤ length nodes
    by true is rest e =
        let same : l.target ≡ pid = eqb-true l.target pid (right (is_call_from caller l) (l.target == pid) is) in
        let le : l.target ≤ length nodes = node_number nodes l.target (target_is_node nodes l (All-head (HasRightEnds nodes) l ls h)) in
        omega (arith, same, le)
    by false is rest e = rest e

awaits_low : (nodes : List NodeKind) (ls : List Link) (caller pid : ℕ) (each : List Await) → All (HasRightEnds nodes) ls → length nodes < pid
    → list_all (λ a. has_called ls caller a.pid) each ≡ true → list_any (λ a. a.pid == pid) each ≡ false
awaits_low nodes ls caller pid [] h lt e = refl
awaits_low nodes ls caller pid (a ∷ rest) h lt e =
    let here : has_called ls caller a.pid ≡ true = left (has_called ls caller a.pid) (list_all (λ x. has_called ls caller x.pid) rest) e in
    let le : a.pid ≤ length nodes = called_low nodes caller a.pid ls h here in
    ap (λ (b : Bool). b || list_any (λ x. x.pid == pid) rest) (ne_eqb a.pid pid (λ f. absurd (omega (arith, le, lt, f))))
    ∙ awaits_low nodes ls caller pid rest h lt (right (has_called ls caller a.pid) (list_all (λ x. has_called ls caller x.pid) rest) e)

module _ (w : World) (c : IsConsistent w) where
  part_awaits_low : (pid : ℕ) → length w.nodes < pid → (r : ProcessRecord) (p : Part) → standing_fits w r p ≡ true → is_awaited p pid ≡ false
  part_awaits_low pid lt r part.Fresh h = refl
  part_awaits_low pid lt r (part.Chain k) h =
      awaits_low w.nodes w.links r.node pid k.awaiting c.links.ends lt (left _ _ (right _ _ (right (not (is_nil k.frames)) _ h)))
  part_awaits_low pid lt r (part.Job j) h = refl
  part_awaits_low pid lt r part.Over h = refl

  none_awaits : (pid : ℕ) → length w.nodes < pid → (rs : List ProcessRecord) → All (Stands w) rs → is_awaited_in rs pid ≡ false
  none_awaits pid lt [] h = refl
  none_awaits pid lt (r ∷ rs) h =
      ap (λ (b : Bool). b || is_awaited_in rs pid) (part_awaits_low pid lt r r.part (All-head (Stands w) r rs h).standing)
      ∙ none_awaits pid lt rs (All-tail (Stands w) r rs h)

over_awaits : (batch library at : ℕ) (ns : List ArchiveNode) (pid : ℕ) → is_awaited_in (records_from batch library at ns) pid ≡ false
over_awaits batch library at [] pid = refl
over_awaits batch library at (node.Data v ∷ ns) pid = over_awaits batch library (suc at) ns pid
over_awaits batch library at (node.Process p ∷ ns) pid = over_awaits batch library (suc at) ns pid

-- ---- fuel

fuel_append : (all xs ys : List ProcessRecord) → fuel_in all (xs ++ ys) ≡ fuel_in all xs + fuel_in all ys
fuel_append all [] ys = omega arith
fuel_append all (x ∷ xs) ys = by (not (has_ended x.state) || is_awaited_in all x.node) (fuel_append all xs ys)
  where
    by : (b : Bool) → fuel_in all (xs ++ ys) ≡ fuel_in all xs + fuel_in all ys
        → (if b then suc x.fuel + fuel_in all (xs ++ ys) else fuel_in all (xs ++ ys)) ≡ (if b then suc x.fuel + fuel_in all xs else fuel_in all xs) + fuel_in all ys
    by true e = omega (arith, e)
    by false e = e

fuel_by : (a b : List ProcessRecord) → ((pid : ℕ) → is_awaited_in a pid ≡ is_awaited_in b pid) → (rs : List ProcessRecord) → fuel_in a rs ≡ fuel_in b rs
fuel_by a b same [] = refl
fuel_by a b same (r ∷ rs) =
    let here = same r.node in
    let rest = fuel_by a b same rs in
    λ i. if not (has_ended r.state) || here i then suc r.fuel + rest i else rest i

-- ended processes that none awaits have none to count
fuel_over : (all : List ProcessRecord) (low batch library at : ℕ) (ns : List ArchiveNode) → ((pid : ℕ) → low < pid → is_awaited_in all pid ≡ false) → low < at → All HasEndedNode ns
    → fuel_in all (records_from batch library at ns) ≡ 0
fuel_over all low batch library at [] none lt over = refl
fuel_over all low batch library at (node.Data v ∷ ns) none lt over =
    fuel_over all low batch library (suc at) ns none (omega (arith, lt)) (All-tail HasEndedNode (node.Data v) ns over)
fuel_over all low batch library at (node.Process p ∷ ns) none lt over =
    let rest : fuel_in all (records_from batch library (suc at) ns) ≡ 0 = fuel_over all low batch library (suc at) ns none (omega (arith, lt)) (All-tail HasEndedNode (node.Process p) ns over) in
    let here : has_ended p.state ≡ true = All-head HasEndedNode (node.Process p) ns over in
    let quiet : is_awaited_in all at ≡ false = none at lt in
    (λ i. if not (here i) || quiet i then suc p.fuel + fuel_in all (records_from batch library (suc at) ns) else fuel_in all (records_from batch library (suc at) ns)) ∙ rest

module _ (w : World) (s : IsSound w) (a : Archive) (good : IsGoodArchive a) where
  abbrev v : World
  v = with_archive w a

  abbrev new : List ProcessRecord
  new = records_from (w.batches + 1) (suc (length w.libraries)) (suc (length w.nodes)) a.nodes

  awaited_same : (pid : ℕ) → is_awaited_in v.records pid ≡ is_awaited_in w.records pid
  awaited_same pid =
      list_any-append (λ r. is_awaited r.part pid) w.records new
      ∙ ap (λ (b : Bool). is_awaited_in w.records pid || b) (over_awaits (w.batches + 1) (suc (length w.libraries)) (suc (length w.nodes)) a.nodes pid)
      ∙ or_false (is_awaited_in w.records pid)

  fuel_within : fuel_in v.records v.records ≤ v.batches + length v.nodes
  fuel_within =
      let sum : fuel_in v.records (w.records ++ new) ≡ fuel_in v.records w.records + fuel_in v.records new = fuel_append v.records w.records new in
      let old : fuel_in v.records w.records ≡ fuel_in w.records w.records = fuel_by v.records w.records awaited_same w.records in
      let none : fuel_in v.records new ≡ 0
      = fuel_over v.records (length w.nodes) (w.batches + 1) (suc (length w.libraries)) (suc (length w.nodes)) a.nodes
      (λ pid lt. awaited_same pid ∙ none_awaits w s.consistent pid lt w.records s.consistent.records) (omega arith)
      (over_nodes a good 1 a.nodes (processes a good).each) in
      let nodes : length (w.nodes ++ map kind_of_node a.nodes) ≡ length w.nodes + length (map kind_of_node a.nodes) = length-append w.nodes (map kind_of_node a.nodes) in
      let bound : fuel_in w.records w.records ≤ w.batches + length w.nodes = s.fuel in
      omega (arith, sum, old, none, nodes, bound)

  -- ---- links and libraries

  all_upward : All GoesUp v.links
  all_upward =
      All-append GoesUp w.links (map (placed (raised (length w.nodes))) a.links) s.upward
      (All-map GoesUp (placed (raised (length w.nodes))) a.links
      (λ i d lt up.
      let l : Link = get_or a.links i d in
      let less : l.source < l.target = (good.links i l (slice_get-get_or a.links i d lt)).upward up in
      omega (arith, less)))

  all_kept : All (λ k. IsKeptLibrary k.0) v.libraries
  all_kept = All-push (λ k. IsKeptLibrary k.0) w.libraries (a.library, []) s.libraries good.writable.library

  one_creator : IsConsistent v → (i j : ℕ) (l m : Link) → slice_get v.links i ≡ Some l → slice_get v.links j ≡ Some m → l.link ≡ Create → m.link ≡ Create
      → l.target ≡ m.target → i ≡ j
  one_creator c i j l m p q x y e = by (cases_eq i j)
    where
      by : (i ≡ j) ⊎ (i ≢ j) → i ≡ j
      by (inl same) = same
      by (inr other) = absurd ((c.links.apart i j l m other p q).creators (x, y, e))

  pub lists : IsConsistent v → HasSoundLists v
  lists c = record { consistent = c; libraries = all_kept; upward = all_upward; one_creator = one_creator c; fuel = fuel_within }
