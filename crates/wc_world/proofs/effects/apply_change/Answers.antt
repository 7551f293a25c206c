use Rattle.std.proofs.Common.{◌+◌, List, [], ◌∷◌, ◌++◌, length, sym, ap, subst, ◌∙◌, length-append, arith}
use Rattle.std.proofs.lemmas.List.{length-map}
use Rattle.wc_graph.specs.declared.node.NodeKind.TheVariants as node
use Rattle.wc_state.specs.declared.record.ProcessRecord.{ProcessRecord}
use Rattle.wc_records.specs.Changes.{made, set, keep}
use Rattle.wc_world.specs.declared.change.Change.{Change}
use Rattle.wc_world.specs.declared.change.Change.TheVariants as change
use Rattle.wc_world.specs.World.{Known}
use Rattle.wc_world.specs.Records.{process_node}
use Rattle.wc_world.specs.Room.{HasRoom}
use Rattle.wc_world.specs.Applying.{world_of, room_of, CanApply, RoomyRecords}
use Rattle.wc_world.specs.Digested.{AreMadeOf}
use Rattle.wc_world.specs.Keys.{digest_from}
use Rattle.wc_world.proofs.Awaiting.{set_live, fits_sets}
use Rattle.wc_world.proofs.ReachedLists.{at_one}
use Rattle.wc_world.proofs.Making.{made_same}
use Rattle.wc_world.proofs.ChangedDigests.{with_library, with_node, with_process, with_kept}
use Rattle.wc_world.proofs.effects.apply_change.Goals as goal

pub put_set-requires-clause-live : goal.put_set-requires-clause-live
put_set-requires-clause-live c =
    let w = world_of c.args.graph.now c.args.records.now c.args.libraries.now c.args.batches.now in
    let fits = subst (λ (x : Change). CanApply w x) c.in-Set.is c.requires.fits in
    set_live w c.in-Set.set (fits_sets fits.0 w (change.Set c.in-Set.set) fits.1)

-- ---- the entries

pub returns-in-Library-clause-sealed : goal.returns-in-Library-clause-sealed
returns-in-Library-clause-sealed c =
    let graph = c.args.graph.now in
    let records = c.args.records.now.0 in
    let libraries = c.args.libraries.now.0 in
    let known : Known = (c.in-Library.library, c.in-Library.names) in
    made_same c.args.digested (digest_from graph.nodes graph.links libraries records) (digest_from graph.nodes graph.links c.put_library.new.libraries.0 records) c.args.seals.now.0
    (λ n. with_library graph.nodes graph.links libraries records known c.requires.defined n
    ∙ ap (λ (ls : List Known). digest_from graph.nodes graph.links ls records n) (sym c.put_library.ensures.value))
    c.requires.sealed

pub returns-in-Data-clause-sealed : goal.returns-in-Data-clause-sealed
returns-in-Data-clause-sealed c =
    let graph = c.args.graph.now in
    let new = c.put_node.new.graph in
    let records = c.args.records.now.0 in
    let libraries = c.args.libraries.now.0 in
    made_same c.args.digested (digest_from graph.nodes graph.links libraries records) (digest_from new.nodes new.links libraries records) c.args.seals.now.0
    (λ n. with_node graph.nodes graph.links libraries records (node.Data c.in-Data.value) c.requires.correct n
    ∙ (λ i. digest_from (sym c.put_node.ensures.nodes i) (sym c.put_node.ensures.others.0 i) libraries records n))
    c.requires.sealed

pub returns-in-Process-clause-sealed : goal.returns-in-Process-clause-sealed
returns-in-Process-clause-sealed c =
    let graph = c.args.graph.now in
    let new = c.put_process.new.graph in
    let records = c.args.records.now.0 in
    let libraries = c.args.libraries.now.0 in
    let process = c.in-Process.process in
    let kind = process_node process.kind in
    let nodes = sym c.put_process.ensures.nodes in
    let links = sym c.put_process.ensures.links.0 in
    let more = sym (ap (λ (p : RoomyRecords). p.0) c.put_process.ensures.records) in
    made_same c.args.digested (digest_from graph.nodes graph.links libraries records) (digest_from new.nodes new.links libraries c.put_process.new.records.0) c.args.seals.now.0
    (λ n. with_node graph.nodes graph.links libraries records kind c.requires.correct n
    ∙ with_process (graph.nodes ++ kind ∷ []) graph.links libraries records (length graph.nodes + 1) process n
    ∙ (λ i. digest_from (nodes i) (links i) libraries (more i) n))
    c.requires.sealed

pub put_link-requires-clause-sealed : goal.put_link-requires-clause-sealed
put_link-requires-clause-sealed c =
    let graph = c.args.graph.now in
    subst (λ (ls : List Known). AreMadeOf c.args.digested (digest_from graph.nodes graph.links ls c.args.records.now.0) c.args.seals.now.0) (sym c.as_slice.ensures) c.requires.sealed

pub returns-in-Link-clause-sealed : goal.returns-in-Link-clause-sealed
returns-in-Link-clause-sealed c =
    let new = c.put_link.new.graph in
    subst (λ (ls : List Known). AreMadeOf c.args.digested (digest_from new.nodes new.links ls c.args.records.now.0) c.put_link.new.seals.0) c.as_slice.ensures c.put_link.ensures.sealed

pub put_set-requires-clause-sealed : goal.put_set-requires-clause-sealed
put_set-requires-clause-sealed c =
    let graph = c.args.graph.now in
    subst (λ (ls : List Known). AreMadeOf c.args.digested (digest_from graph.nodes graph.links ls c.args.records.now.0) c.args.seals.now.0) (sym c.as_slice-in-Set.ensures) c.requires.sealed

pub returns-in-Set-clause-sealed : goal.returns-in-Set-clause-sealed
returns-in-Set-clause-sealed c =
    let graph = c.args.graph.now in
    subst (λ (ls : List Known). AreMadeOf c.args.digested (digest_from graph.nodes graph.links ls c.put_set.new.records.0) c.put_set.new.seals.0)
    c.as_slice-in-Set.ensures c.put_set.ensures.sealed

pub returns-in-Kept-clause-sealed : goal.returns-in-Kept-clause-sealed
returns-in-Kept-clause-sealed c =
    let graph = c.args.graph.now in
    let records = c.args.records.now.0 in
    let libraries = c.args.libraries.now.0 in
    made_same c.args.digested (digest_from graph.nodes graph.links libraries records) (digest_from graph.nodes graph.links libraries c.keep.new.self.0) c.args.seals.now.0
    (λ n. with_kept graph.nodes graph.links libraries records c.in-Kept.kept n
    ∙ ap (λ (rs : List ProcessRecord). digest_from graph.nodes graph.links libraries rs n) (sym (ap (λ (p : RoomyRecords). p.0) c.keep.ensures)))
    c.requires.sealed

-- ---- places and room

pub returns-in-Process-clause-places : goal.returns-in-Process-clause-places
returns-in-Process-clause-places c =
    let records = c.args.records.now.0 in
    let new = made (length c.args.graph.now.nodes + 1) c.in-Process.process in
    let room = subst (λ (x : Change). HasRoom (room_of c.args.graph.now c.args.records.now c.args.libraries.now c.args.seals.now) (x ∷ [])) c.in-Process.is c.requires.room in
    omega (arith, room.seals, ap (λ (p : RoomyRecords). length p.0) c.put_process.ensures.records, length-append records (new ∷ []))

pub returns-in-Process-clause-room : goal.returns-in-Process-clause-room
returns-in-Process-clause-room c =
    let records = c.args.records.now.0 in
    let new = made (length c.args.graph.now.nodes + 1) c.in-Process.process in
    let put = c.put_process.ensures in
    λ cs has.
    let room = subst (λ (x : Change). HasRoom (room_of c.args.graph.now c.args.records.now c.args.libraries.now c.args.seals.now) (x ∷ cs)) c.in-Process.is has in
    record {
      nodes = omega (arith, room.nodes, put.node_room);
      links = omega (arith, room.links, put.links.1);
      records = omega (arith, room.records, ap (λ (p : RoomyRecords). p.1) put.records);
      libraries = room.libraries;
      seals = omega (arith, room.seals, ap (λ (p : RoomyRecords). length p.0) put.records, length-append records (new ∷ []));
    }

pub returns-in-Link-clause-room : goal.returns-in-Link-clause-room
returns-in-Link-clause-room c =
    let put = c.put_link.ensures in
    λ cs has.
    let room = subst (λ (x : Change). HasRoom (room_of c.args.graph.now c.args.records.now c.args.libraries.now c.args.seals.now) (x ∷ cs)) c.in-Link.is has in
    record {
      nodes = omega (arith, room.nodes, put.others.1);
      links = omega (arith, room.links, put.room);
      records = room.records;
      libraries = room.libraries;
      seals = omega (arith, room.seals, put.places);
    }

pub returns-in-Set-clause-places : goal.returns-in-Set-clause-places
returns-in-Set-clause-places c =
    omega (
      arith,
      c.requires.places,
      c.put_set.ensures.places,
      ap (λ (p : RoomyRecords). length p.0) c.put_set.ensures.records,
      length-map c.args.records.now.0 (at_one c.in-Set.set.pid (set c.args.batch c.in-Set.set)),
    )

pub returns-in-Set-clause-room : goal.returns-in-Set-clause-room
returns-in-Set-clause-room c =
    let put = c.put_set.ensures in
    λ cs has.
    let room = subst (λ (x : Change). HasRoom (room_of c.args.graph.now c.args.records.now c.args.libraries.now c.args.seals.now) (x ∷ cs)) c.in-Set.is has in
    record {
      nodes = room.nodes;
      links = room.links;
      records = omega (arith, room.records, ap (λ (p : RoomyRecords). p.1) put.records);
      libraries = room.libraries;
      seals = omega (
        arith,
        room.seals,
        put.places,
        ap (λ (p : RoomyRecords). length p.0) put.records,
        length-map c.args.records.now.0 (at_one c.in-Set.set.pid (set c.args.batch c.in-Set.set)),
      );
    }

pub returns-in-Kept-clause-places : goal.returns-in-Kept-clause-places
returns-in-Kept-clause-places c =
    omega (
      arith,
      c.requires.places,
      ap (λ (p : RoomyRecords). length p.0) c.keep.ensures,
      length-map c.args.records.now.0 (at_one c.in-Kept.kept.pid (keep c.in-Kept.kept)),
    )

pub returns-in-Kept-clause-room : goal.returns-in-Kept-clause-room
returns-in-Kept-clause-room c =
    λ cs has.
    let room = subst (λ (x : Change). HasRoom (room_of c.args.graph.now c.args.records.now c.args.libraries.now c.args.seals.now) (x ∷ cs)) c.in-Kept.is has in
    record {
      nodes = room.nodes;
      links = room.links;
      records = omega (arith, room.records, ap (λ (p : RoomyRecords). p.1) c.keep.ensures);
      libraries = room.libraries;
      seals = omega (
        arith,
        room.seals,
        ap (λ (p : RoomyRecords). length p.0) c.keep.ensures,
        length-map c.args.records.now.0 (at_one c.in-Kept.kept.pid (keep c.in-Kept.kept)),
      );
    }
