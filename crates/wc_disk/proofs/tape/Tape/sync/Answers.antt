use Rattle.wc_disk.proofs.Times.{replays_either}
use Rattle.wc_disk.specs.declared.calls.Call.TheVariants.{Sync}
use Rattle.wc_disk.proofs.tape.Tape.sync.Goals as goal

pub invariant_of-self : goal.invariant_of-self
invariant_of-self c = record {
  replayed = replays_either c.push.result _ _ Sync _ _ c.push.ensures.ok c.push.ensures.err c.args.self.now.replayed c.args.self.now.replayed;
}
