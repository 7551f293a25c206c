use Rattle.std.proofs.lemmas.Result.{on_ok_weaker}
use Rattle.wc_disk.specs.declared.calls.Call.TheVariants.{Sync}
use Rattle.wc_disk.specs.Replay.{reads_as_image}
use Rattle.wc_disk.specs.Tape.{volume_of}
use Rattle.wc_disk.proofs.Times.{elapses_either, volume_either, volume_after, ok_follows, err_follows}
use Rattle.wc_disk.proofs.Outcomes.{sync_follows, only_synced}
use Rattle.wc_disk.proofs.memory.MemoryDiskDisk.sync.Goals as goal

pub returns-clause-time : goal.returns-clause-time
returns-clause-time c = elapses_either c.sync-outcome.result _ _ Sync _ _ c.sync-outcome.ensures.begun c.sync-outcome.ensures.ok c.sync-outcome.ensures.err

pub returns-clause-crash : goal.returns-clause-crash
returns-clause-crash c = (sync_follows _ _ (reads_as_image c.args.self.now.tape.calls c.args.self.now.tape.begun) (volume_either c.sync-outcome.result _ _ Sync _ _ c.sync-outcome.ensures.begun c.sync-outcome.ensures.ok c.sync-outcome.ensures.err)).1

pub returns-clause-seen : goal.returns-clause-seen
returns-clause-seen c = (sync_follows _ _ (reads_as_image c.args.self.now.tape.calls c.args.self.now.tape.begun) (volume_either c.sync-outcome.result _ _ Sync _ _ c.sync-outcome.ensures.begun c.sync-outcome.ensures.ok c.sync-outcome.ensures.err)).0

pub returns-clause-durable : goal.returns-clause-durable
returns-clause-durable c =
    on_ok_weaker c.count_starved.result (λ is. only_synced (volume_of c.args.self.now.tape) _ is)
    (volume_after c.count_starved.result c.sync-outcome.result _ _ Sync _ _ c.count_starved.ensures.same c.sync-outcome.ensures.begun c.sync-outcome.ensures.ok)

pub returns-clause-calls : goal.returns-clause-calls
returns-clause-calls c = ok_follows _ c.count_starved.result c.sync-outcome.result c.count_starved.ensures.same c.sync-outcome.ensures.ok

pub returns-clause-unchanged : goal.returns-clause-unchanged
returns-clause-unchanged c = err_follows _ c.count_starved.result c.sync-outcome.result c.count_starved.ensures.same c.sync-outcome.ensures.err
