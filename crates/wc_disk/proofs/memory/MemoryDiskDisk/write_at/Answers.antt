use Rattle.std.proofs.Common.{ap}
use Rattle.std.proofs.lemmas.Result.{on_ok_weaker}
use Rattle.wc_disk.specs.declared.calls.Call.TheVariants.{Write}
use Rattle.wc_disk.specs.Volume.{Volume}
use Rattle.wc_disk.specs.Replay.{reads_as_image}
use Rattle.wc_disk.proofs.Times.{elapses_either, volume_either, volume_after, ok_follows, err_follows}
use Rattle.wc_disk.proofs.Outcomes.{write_follows}
use Rattle.wc_disk.proofs.memory.MemoryDiskDisk.write_at.Goals as goal

pub returns-clause-time : goal.returns-clause-time
returns-clause-time c = elapses_either c.write-outcome.result _ _ (Write c.args.at c.args.bytes.now) _ _ c.write-outcome.ensures.begun c.write-outcome.ensures.ok c.write-outcome.ensures.err

pub returns-clause-crash : goal.returns-clause-crash
returns-clause-crash c = write_follows _ _ _ _ (reads_as_image c.args.self.now.tape.calls c.args.self.now.tape.begun) c.requires (volume_either c.write-outcome.result _ _ (Write c.args.at c.args.bytes.now) _ _ c.write-outcome.ensures.begun c.write-outcome.ensures.ok c.write-outcome.ensures.err)

pub returns-clause-written : goal.returns-clause-written
returns-clause-written c =
    on_ok_weaker c.count_starved.result (λ is. ap (λ (v : Volume). v.seen) is)
    (volume_after c.count_starved.result c.write-outcome.result _ _ (Write c.args.at c.args.bytes.now) _ _ c.count_starved.ensures.same c.write-outcome.ensures.begun c.write-outcome.ensures.ok)

pub returns-clause-calls : goal.returns-clause-calls
returns-clause-calls c = ok_follows _ c.count_starved.result c.write-outcome.result c.count_starved.ensures.same c.write-outcome.ensures.ok

pub returns-clause-unchanged : goal.returns-clause-unchanged
returns-clause-unchanged c = err_follows _ c.count_starved.result c.write-outcome.result c.count_starved.ensures.same c.write-outcome.ensures.err
