use Rattle.std.specs.Vec.Iter.{into_iter_items}
use Rattle.wc_world.specs.Drafts.{drafted}
use Rattle.wc_world.specs.Playing.{Leads}
use Rattle.wc_world.proofs.draft.Draft.take_all.Given as goal

abbrev pub invariant-loop-change : goal.invariant-loop-change
invariant-loop-change l = record {
  can_next : (goal.iterator-loop-change).can_next l.change-iterator;
  is_finite : (goal.iterator-loop-change).is_finite l.change-iterator;
  leads : Leads l.terms (drafted l.fn.self) l.fn.changes l.self (into_iter_items l.change-iterator);
}
