use Rattle.std.proofs.Common.{◌≡◌, ℕ, ◌<◌, ◌∷◌, ◌++◌, List, take, length, get_or}
use Rattle.std.specs.Prelude.{flat_map}
use Rattle.std.specs.Int.{w32, to_be_bytes}
use Rattle.wc_value.proofs.Requested.{text_value, IsSpelledText}
use Rattle.wc_value.proofs.encoding.put_texts.Given as goal

abbrev pub invariant-loop-text : goal.invariant-loop-text
invariant-loop-text l = record {
  out : l.out ≡ l.fn.out ++ (4 ∷ (to_be_bytes w32 (length l.text-items) ++ flat_map text_value (take l.text-index l.text-items)));
  spelled : (k : ℕ) (d : List ℕ) → k < l.text-index → IsSpelledText (get_or l.text-items k d);
}
