-- A world continues itself.
use Rattle.std.proofs.Common.{List, [], get_or, refl, sym, append-nil, arith}
use Rattle.wc_state.specs.declared.record.ProcessRecord.{ProcessRecord}
use Rattle.wc_world.specs.World.{World}
use Rattle.wc_world.proofs.ReachedLists.{unique}
use Rattle.wc_machine.specs.Continues.{Begins, Continues}
use Rattle.wc_machine.specs.Sound.{IsSound}
use Rattle.wc_machine.proofs.ContinuedEnds.{carried_itself}

begins_itself : {T : Type 0} (xs : List T) → Begins xs xs
begins_itself xs = ([], sym (append-nil xs))

pub continues_itself : (w : World) → IsSound w → Continues w w
continues_itself w s = record {
  libraries = begins_itself w.libraries;
  nodes = begins_itself w.nodes;
  links = begins_itself w.links;
  batches = omega arith;
  records = λ i d lt.
      let r : ProcessRecord = get_or w.records i d in
      (r, unique 1 w.nodes w.records s.consistent.numbered i d lt, carried_itself r);
  inputs = λ i d lt. refl;
  trees = λ i d lt over. refl;
}
