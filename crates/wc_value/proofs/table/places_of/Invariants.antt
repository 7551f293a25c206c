use Rattle.std.proofs.Common.{take}
use Rattle.wc_value.specs.Indexes.{IsIndex}
use Rattle.wc_value.specs.Requests.{IsDistinct, requests}
use Rattle.wc_value.proofs.table.places_of.Given as goal

abbrev pub invariant-loop-at : goal.invariant-loop-at
invariant-loop-at l = record {
  distinct : IsDistinct (requests (take l.at l.items));
  index : IsIndex l.items l.at l.places;
}
