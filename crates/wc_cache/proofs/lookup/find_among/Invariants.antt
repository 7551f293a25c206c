use Rattle.std.proofs.Common.{◌≡◌, ◌+◌, Some, take}
use Rattle.std.specs.Prelude.{All}
use Rattle.wc_state.specs.declared.record.ProcessRecord.{ProcessRecord}
use Rattle.wc_keys.specs.declared.entries.Sealed.{Sealed}
use Rattle.wc_world.specs.Records.{find_record}
use Rattle.wc_cache.specs.Sources.{IsSourceWith}
use Rattle.wc_cache.proofs.lookup.find_among.Given as goal

abbrev pub invariant-loop-seal : goal.invariant-loop-seal
invariant-loop-seal l =
    All (λ (s : Sealed). (q : ProcessRecord) → find_record s.pid l.world.world.records ≡ Some q → IsSourceWith l.world.world (l.world.world.batches + 1) l.key q → ⊥)
    (take l.seal-index l.seals)
