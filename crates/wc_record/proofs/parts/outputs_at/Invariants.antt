use Rattle.std.proofs.Common.{◌≡◌, ◌-◌, ◌≤◌, [], length}
use Rattle.wc_record.specs.Readers.{several}
use Rattle.wc_record.specs.Fields.{output}
use Rattle.wc_record.proofs.parts.outputs_at.Given as goal

abbrev pub invariant-loop-item : goal.invariant-loop-item
invariant-loop-item l = record {
  within : l.place ≤ length l.bytes;
  rest : several (l.count - l._item) output l.outputs l.bytes l.place ≡ several l.count output [] l.bytes l.start;
}
