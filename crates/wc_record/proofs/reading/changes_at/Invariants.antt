use Rattle.std.proofs.Common.{ℕ, ◌-◌, ◌≤◌, List, [], length, Result}
use Rattle.wc_world.specs.declared.change.Change.{Change}
use Rattle.wc_record.specs.declared.error.RecordError.{RecordError}
use Rattle.wc_record.specs.Reading.{changes}
use Rattle.wc_record.proofs.reading.changes_at.Given as goal

abbrev pub invariant-loop-item : goal.invariant-loop-item
invariant-loop-item l = record {
  within : l.place ≤ length l.bytes;
  rest : (r : Result (List Change × ℕ) RecordError) → changes (l.count - l._item) l.changes l.bytes l.place r → changes l.count [] l.bytes l.start r;
}
