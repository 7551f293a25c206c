use Rattle.wc_world.specs.Drafts.{drafted}
use Rattle.wc_world.proofs.Awaiting.{set_live}
use Rattle.wc_world.proofs.draft.Draft.take_set.Goals as goal

pub set_process-requires-clause-live : goal.set_process-requires-clause-live
set_process-requires-clause-live c = set_live (drafted c.args.self.now) c.args.set c.in_ok-check_set.ensures.sets
