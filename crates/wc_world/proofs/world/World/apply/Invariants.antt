use Rattle.std.proofs.Common.{◌≡◌, ◌≤◌, length}
use Rattle.std.specs.Vec.Iter.{into_iter_items}
use Rattle.wc_world.specs.Applied.{applied}
use Rattle.wc_world.specs.Accepted.{setting}
use Rattle.wc_world.specs.Applying.{world_of, room_of}
use Rattle.wc_world.specs.Digested.{AreMade}
use Rattle.wc_world.proofs.Applies.{Remain}
use Rattle.wc_world.proofs.world.World.apply.Given as goal

abbrev pub invariant-loop-change : goal.invariant-loop-change
invariant-loop-change l =
    let s = setting l.fn.self.world l.fn.changes in
    let w = world_of l.self-inside.graph l.self-inside.records l.self-inside.libraries l.self-inside.batches in
    let room = room_of l.self-inside.graph l.self-inside.records l.self-inside.libraries l.self-inside.seals in
    record {
      can_next : (goal.iterator-loop-change).can_next l.change-iterator;
      is_finite : (goal.iterator-loop-change).is_finite l.change-iterator;
      batch : l.batch ≡ s.batch;
      remain : Remain s (applied l.fn.self.world l.fn.changes) w room (into_iter_items l.change-iterator);
      sealed : AreMade l.self-inside.digested w l.self-inside.seals.0;
      digested : l.self-inside.digested ≡ l.fn.self.digested;
      places : length l.self-inside.records.0 ≤ l.self-inside.seals.1;
    }
