use Rattle.std.proofs.Common.{◌≡◌, ℕ, ◌<◌, ◌∷◌, ◌++◌, List, take, length, get_or}
use Rattle.std.specs.Prelude.{flat_map}
use Rattle.std.specs.Int.{w32, to_be_bytes}
use Rattle.wc_value.specs.declared.value.Value.{Value}
use Rattle.wc_value.specs.Spelling.{spelling, pair_of}
use Rattle.wc_value.proofs.Respelled.{IsSpelled, IsSpelledPair}
use Rattle.wc_value.proofs.encoding.+encode.Given as goal

abbrev pub invariant-put_values-loop-item : goal.invariant-put_values-loop-item
invariant-put_values-loop-item l = record {
  out : l.out ≡ l.fn.out ++ (4 ∷ (to_be_bytes w32 (length l.item-items) ++ flat_map spelling (take l.item-index l.item-items)));
  spelled : (k : ℕ) (d : Value) → k < l.item-index → IsSpelled (get_or l.item-items k d);
}

abbrev pub invariant-put_fields-loop-name : goal.invariant-put_fields-loop-name
invariant-put_fields-loop-name l = record {
  out : l.out ≡ l.fn.out ++ (5 ∷ (to_be_bytes w32 (length l.name-items) ++ flat_map pair_of (take l.name-index l.name-items)));
  spelled : (k : ℕ) (d : List ℕ × Value) → k < l.name-index → IsSpelledPair (get_or l.name-items k d);
}
