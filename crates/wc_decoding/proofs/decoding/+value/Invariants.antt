use Rattle.std.proofs.Common.{◌≡◌, ◌+◌, ◌-◌, ◌*◌, ◌≤◌, [], length}
use Rattle.wc_value.specs.Reading.{several, entry_at, value_at}
use Rattle.wc_decoding.proofs.decoding.+value.Given as goal

abbrev pub decreases-value_at : goal.decreases-value_at
decreases-value_at l = 4 * l.levels

abbrev pub decreases-behind : goal.decreases-behind
decreases-behind l = 4 * l.levels + 3

abbrev pub decreases-field_at : goal.decreases-field_at
decreases-field_at l = 4 * l.levels + 1

abbrev pub decreases-dict_at : goal.decreases-dict_at
decreases-dict_at l = 4 * l.levels + 2

abbrev pub decreases-list_at : goal.decreases-list_at
decreases-list_at l = 4 * l.levels + 2

abbrev pub invariant-list_at-loop-item : goal.invariant-list_at-loop-item
invariant-list_at-loop-item l = record {
  within : l.place ≤ length l.bytes;
  rest : several (l.count - l._item) (λ front. value_at l.levels l.bytes) l.values l.place ≡ several l.count (λ front. value_at l.levels l.bytes) [] l.start;
}

abbrev pub invariant-dict_at-loop-item : goal.invariant-dict_at-loop-item
invariant-dict_at-loop-item l = record {
  within : l.place ≤ length l.bytes;
  rest : several (l.count - l._item) (entry_at (value_at l.levels l.bytes) l.bytes) l.fields l.place ≡ several l.count (entry_at (value_at l.levels l.bytes) l.bytes) [] l.start;
}
