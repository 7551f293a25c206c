-- Imports keep a sound world sound.
use Rattle.std.proofs.Common.{◌≡◌, ℕ, suc, ◌+◌, ◌<◌, ◌≤◌, true, List, [], ◌∷◌, ◌++◌, length, map, Some, None, ◌⊎◌, inl, inr, refl, sym, ap, subst, ◌∙◌, arith, length-append}
use Rattle.std.specs.Prelude.{All, if◌then◌else◌}
use Rattle.std.proofs.lemmas.List.{length-map}
use Rattle.std.proofs.lemmas.List.Elements.{All-nil, All-cons, All-map, All-weaker}
use Rattle.wc_graph.specs.Rules.{HasRightEnds}
use Rattle.wc_state.specs.declared.record.ProcessRecord.{ProcessRecord}
use Rattle.wc_world.specs.Accepted.{IsAccepted}
use Rattle.wc_world.specs.Applied.{applied}
use Rattle.wc_world.specs.Consistent.{IsConsistent}
use Rattle.wc_world.specs.Records.{find_record, has_ended}
use Rattle.wc_world.specs.Trees.{recorded_tree}
use Rattle.wc_world.specs.World.{World}
use Rattle.wc_world.proofs.FoundRecords.{found_holds}
use Rattle.wc_world.proofs.ReachedWorlds.{accepted_is_consistent}
use Rattle.wc_machine.specs.Continues.{Continues}
use Rattle.wc_machine.specs.Created.{IsCreatedByInputs}
use Rattle.wc_machine.specs.Laws.{HasPlaces}
use Rattle.wc_machine.specs.Results.{HasResultsByRequest}
use Rattle.wc_machine.specs.Sound.{IsMeant, IsSound}
use Rattle.wc_machine.specs.Sources.{KeepsRule}
use Rattle.wc_machine.specs.Submissions.{IsKeptLibrary}
use Rattle.wc_machine.proofs.Frames.{find_before, records_below}
use Rattle.wc_soundness.specs.Touches.{AddsFor, EndsLate, MayBeTouched, Touches}
use Rattle.wc_soundness.proofs.Given.{KeepsSources}
use Rattle.wc_soundness.proofs.Others.{touched_worlds_are_sound}
use Rattle.wc_soundness.proofs.Touched.{touching_continues}
use Rattle.wc_subworlds.specs.Parts.{placed}
use Rattle.wc_subworlds.proofs.Parts.{its_number}
use Rattle.wc_subworlds.proofs.Recorded.{tree_placed}
use Rattle.wc_archive_file.specs.declared.archive.Archive.{Archive}
use Rattle.wc_archive_file.specs.declared.archive.ArchiveNode.{ArchiveNode}
use Rattle.wc_archive_file.specs.declared.archive.ArchiveNode.TheVariants as node
use Rattle.wc_archive.specs.After.{ended_record, own_world, records_from, with_archive}
use Rattle.wc_archive.specs.Alone.{alone, imported, raised}
use Rattle.wc_archive.specs.Good.{AreGoodChains, kind_of_node}
use Rattle.wc_archive.specs.Laws.{ImportsKeepSound, IsGoodArchive, KeepsSoundWith}
use Rattle.wc_archive.proofs.Made.{import_makes}
use Rattle.wc_archive.proofs.Part.{archives_are_these_worlds, is_part}
use Rattle.wc_archive.proofs.Accepting.{some_source, some_target}
use Rattle.wc_archive.proofs.Accepted.{good_archives_are_consistent, imports_are_accepted, processes}
use Rattle.wc_archive.proofs.Lists.{lists}
use Rattle.wc_archive.proofs.Meant.{ended_is_meant}
use Rattle.wc_archive.proofs.Origin.{none_below}
use Rattle.wc_archive.proofs.Standing.{came, came_over, came_sound}

-- ---- the archive's own world has no sources

pub no_sources : (batch library at : ℕ) (ns : List ArchiveNode) → All (λ r. r.cached_from ≡ None) (records_from batch library at ns)
no_sources batch library at [] = All-nil (λ r. r.cached_from ≡ None)
no_sources batch library at (node.Data v ∷ ns) = no_sources batch library (suc at) ns
no_sources batch library at (node.Process p ∷ ns) =
    All-cons (λ r. r.cached_from ≡ None) (ended_record batch library at p) (records_from batch library (suc at) ns) refl (no_sources batch library (suc at) ns)

rules_kept : (u : World) (batch library at : ℕ) (ns : List ArchiveNode) → All (KeepsRule u) (records_from batch library at ns)
rules_kept u batch library at [] = All-nil (KeepsRule u)
rules_kept u batch library at (node.Data v ∷ ns) = rules_kept u batch library (suc at) ns
rules_kept u batch library at (node.Process p ∷ ns) =
    All-cons (KeepsRule u) (ended_record batch library at p) (records_from batch library (suc at) ns)
    ((λ a b. absurd (cc b)), (λ e. refl), (λ e. refl), (λ e. refl)) (rules_kept u batch library (suc at) ns)

module _ (w : World) (s : IsSound w) (a : Archive) (good : IsGoodArchive a) (values : IsCreatedByInputs (alone a)) (results : HasResultsByRequest (alone a))
    (chains : AreGoodChains (alone a)) (places : HasPlaces w (length w.nodes + length a.nodes)) where
  abbrev n : ℕ
  n = length w.nodes

  abbrev u : World
  u = own_world a

  abbrev v : World
  v = with_archive w a

  abbrev first : ℕ
  first = suc n

  c : IsConsistent w
  c = s.consistent

  low : All (λ r. r.node < suc n) w.records
  low = records_below w.nodes w.records c.numbered

  own_is : alone a ≡ u
  own_is = archives_are_these_worlds a

  then_is : applied w (imported w a) ≡ v
  then_is = import_makes w a low

  own : IsConsistent u
  own = subst IsConsistent own_is (good_archives_are_consistent a good)

  taken : IsAccepted w (imported w a)
  taken = imports_are_accepted w a c good places

  after : IsConsistent v
  after = subst IsConsistent then_is (accepted_is_consistent w (imported w a) c taken)

  sources : KeepsSources u
  sources = record {
    consistent = own;
    libraries = All-cons (λ k. IsKeptLibrary k.0) (a.library, []) [] good.writable.library (All-nil (λ k. IsKeptLibrary k.0));
    rule = rules_kept u 1 1 1 a.nodes;
  }

  means : (r : ProcessRecord) → find_record r.node u.records ≡ Some r → IsMeant u r
  means =
      ended_is_meant u sources (no_sources 1 1 1 a.nodes) (processes a good).each (subst HasResultsByRequest own_is results) (subst IsCreatedByInputs own_is values)
      (subst AreGoodChains own_is chains)

  made : IsCreatedByInputs u
  made = subst IsCreatedByInputs own_is values

  -- ---- it touches none of the old processes

  touches : Touches w v first
  touches = record {
    libraries = ((a.library, []) ∷ [], refl);
    nodes = (map kind_of_node a.nodes, refl);
    new = map (placed (raised n)) a.links;
    links = refl;
    added =
        All-map (AddsFor w.nodes first) (placed (raised n)) a.links
        (All-weaker (HasRightEnds u.nodes) (λ l. AddsFor w.nodes first (placed (raised n) l))
        (λ l right.
        let source : 1 ≤ l.source = some_source w.nodes u.nodes l right in
        let target : 1 ≤ l.target = some_target w.nodes u.nodes l right in
        inr (inr (inr (omega (arith, source), omega (arith, target))))) a.links own.links.ends);
    records = λ q ne le.
        find_before q w.records (records_from (w.batches + 1) (suc (length w.libraries)) first a.nodes)
        (none_below (w.batches + 1) (suc (length w.libraries)) first q a.nodes (omega (arith, le)));
    carried = λ r found. absurd (none_there r found);
    batches = omega arith;
  }
    where
      none_there : (r : ProcessRecord) → find_record first w.records ≡ Some r → ⊥
      none_there r found =
          let same : r.node ≡ first = its_number first w.records r found in
          let lt : r.node < suc n = found_holds (λ x. x.node < suc n) first w.records r low found in
          absurd (omega (arith, same, lt))

  may : MayBeTouched w first
  may r found =
      let same : r.node ≡ first = its_number first w.records r found in
      let lt : r.node < suc n = found_holds (λ x. x.node < suc n) first w.records r low found in
      absurd (omega (arith, same, lt))

  behind : (q : ProcessRecord) → (first ≡ q.node) ⊎ (n < q.node) → n < q.node
  behind q (inl e) = omega (arith, e)
  behind q (inr lt) = lt

  late : EndsLate w v first
  late q found which =
      let lt : n < q.node = behind q which in
      let f = came w a c own.links.ends own (processes a good).each made means q.node q lt found in
      let over : has_ended q.state ≡ true = came_over w a c own.links.ends own (processes a good).each made means q.node q lt found in
      let ended : has_ended f.process.state ≡ true = sym (ap (λ (y : ProcessRecord). has_ended y.state) f.is) ∙ over in
      let at : q.ended ≡ w.batches + 1 = ap (λ (y : ProcessRecord). y.ended) f.is ∙ (λ i. if ended i then w.batches + 1 else 0) in
      inr (omega (arith, at))

  sound : IsSound v
  sound =
      touched_worlds_are_sound w v first s touches may late (lists w s a good after)
      (λ r found which. came_sound w a c own.links.ends own (processes a good).each made means r found (behind r which))

  continues : Continues w v
  continues = touching_continues w v first s touches may

  trees_of : (r : ProcessRecord) → find_record r.node u.records ≡ Some r → recorded_tree v (raised n r.node) ≡ recorded_tree u r.node
  trees_of r found = tree_placed u own (raised n) v (is_part w a c own.links.ends) 16 r.node (r, found)

  pub keeps : KeepsSoundWith w a
  keeps = record {
    accepted = taken;
    continues = subst (Continues w) (sym then_is) continues;
    sound = subst IsSound (sym then_is) sound;
    trees =
        subst (λ (x : World). (r : ProcessRecord) → find_record r.node x.records ≡ Some r → recorded_tree (applied w (imported w a)) (raised n r.node) ≡ recorded_tree x r.node)
        (sym own_is)
        (subst (λ (x : World). (r : ProcessRecord) → find_record r.node u.records ≡ Some r → recorded_tree x (raised n r.node) ≡ recorded_tree u r.node) (sym then_is) trees_of);
  }

pub imports_keep_sound : ImportsKeepSound
imports_keep_sound w most a few s writable h =
    let low : All (λ r. r.node < suc (length w.nodes)) w.records = records_below w.nodes w.records s.consistent.numbered in
    let is : applied w (imported w a) ≡ with_archive w a = import_makes w a low in
    let nodes : length (with_archive w a).nodes ≤ most = subst (λ (x : World). length x.nodes ≤ most) is h.room.0 in
    let batches : w.batches + 1 ≤ 4000000000 = subst (λ (x : World). x.batches ≤ 4000000000) is h.room.1 in
    let sum : length (w.nodes ++ map kind_of_node a.nodes) ≡ length w.nodes + length (map kind_of_node a.nodes) = length-append w.nodes (map kind_of_node a.nodes) in
    let many : length (map kind_of_node a.nodes) ≡ length a.nodes = length-map a.nodes kind_of_node in
    keeps w s a (record { writable = writable; links = h.links; processes = h.processes }) h.values h.results h.chains
    (record { nodes = omega (arith, nodes, sum, many, few); batches = omega (arith, batches) })
