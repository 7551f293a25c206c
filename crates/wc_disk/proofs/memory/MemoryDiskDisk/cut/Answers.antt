use Rattle.std.proofs.Common.{ap}
use Rattle.std.proofs.lemmas.Result.{on_ok_weaker}
use Rattle.wc_disk.specs.declared.calls.Call.TheVariants.{Cut}
use Rattle.wc_disk.specs.Volume.{Volume}
use Rattle.wc_disk.specs.Replay.{reads_as_image}
use Rattle.wc_disk.proofs.Times.{elapses_either, volume_either, volume_after, ok_follows, err_follows}
use Rattle.wc_disk.proofs.Outcomes.{cut_follows}
use Rattle.wc_disk.proofs.memory.MemoryDiskDisk.cut.Goals as goal

pub returns-clause-time : goal.returns-clause-time
returns-clause-time c = elapses_either c.cut-outcome.result _ _ (Cut c.args.len) _ _ c.cut-outcome.ensures.begun c.cut-outcome.ensures.ok c.cut-outcome.ensures.err

pub returns-clause-crash : goal.returns-clause-crash
returns-clause-crash c = cut_follows _ _ _ (reads_as_image c.args.self.now.tape.calls c.args.self.now.tape.begun) c.requires (volume_either c.cut-outcome.result _ _ (Cut c.args.len) _ _ c.cut-outcome.ensures.begun c.cut-outcome.ensures.ok c.cut-outcome.ensures.err)

pub returns-clause-shorter : goal.returns-clause-shorter
returns-clause-shorter c =
    on_ok_weaker c.count_starved.result (λ is. ap (λ (v : Volume). v.seen) is)
    (volume_after c.count_starved.result c.cut-outcome.result _ _ (Cut c.args.len) _ _ c.count_starved.ensures.same c.cut-outcome.ensures.begun c.cut-outcome.ensures.ok)

pub returns-clause-calls : goal.returns-clause-calls
returns-clause-calls c = ok_follows _ c.count_starved.result c.cut-outcome.result c.count_starved.ensures.same c.cut-outcome.ensures.ok

pub returns-clause-unchanged : goal.returns-clause-unchanged
returns-clause-unchanged c = err_follows _ c.count_starved.result c.cut-outcome.result c.count_starved.ensures.same c.cut-outcome.ensures.err
