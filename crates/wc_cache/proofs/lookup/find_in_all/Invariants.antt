use Rattle.std.proofs.Common.{◌+◌, take}
use Rattle.std.specs.Prelude.{All}
use Rattle.wc_state.specs.declared.record.ProcessRecord.{ProcessRecord}
use Rattle.wc_cache.specs.Sources.{IsSourceWith}
use Rattle.wc_cache.proofs.lookup.find_in_all.Given as goal

abbrev pub invariant-loop-process : goal.invariant-loop-process
invariant-loop-process l =
    All (λ (q : ProcessRecord). IsSourceWith l.world.world (l.world.world.batches + 1) l.key q → ⊥) (take l.process-index l.process-items)
