-- How processes start and end between a world and a later one.
use Rattle.std.specs.Prelude.{◌≡◌, ◌+◌, ◌<◌, ◌≤◌, true, false, Some, None}
use Rattle.wc_state.specs.declared.record.ProcessRecord.{ProcessRecord}
use Rattle.wc_world.specs.World.{World}
use Rattle.wc_world.specs.Records.{find_record, is_calculation}
use Rattle.wc_machine.specs.Continues.{Carries}
use Rattle.wc_machine.specs.Ends.{TakesSource}

-- What ended in a batch of the first world is recorded there, and is the same in the second: so what ends between them ends later.
abbrev pub EndsAreLater : World → World → Type 0
EndsAreLater v w = (q : ProcessRecord) → find_record q.node w.records ≡ Some q → 0 < q.ended → q.ended ≤ v.batches → find_record q.node v.records ≡ Some q

-- How a process of a later world stands to the world v: it hasn't started; or it started in v, or not yet, and still has its source;
-- or it started in the batch after v, where a calculation took the source that it finds in v, and any other process none.
pub data StartsByRule (v : World) (r : ProcessRecord) : Type 0 where
  waits : r.started ≡ 0 → r.cached_from ≡ None → StartsByRule v r
  stays : (q : ProcessRecord) → find_record q.node v.records ≡ Some q → Carries q r → r.started ≡ q.started → r.cached_from ≡ q.cached_from → StartsByRule v r
  starts : (q : ProcessRecord) → find_record q.node v.records ≡ Some q → Carries q r → r.started ≡ v.batches + 1
      → (is_calculation q.kind ≡ true → TakesSource v q r.cached_from) → (is_calculation q.kind ≡ false → r.cached_from ≡ None) → StartsByRule v r
