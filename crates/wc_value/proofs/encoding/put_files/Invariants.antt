use Rattle.std.proofs.Common.{◌≡◌, ℕ, ◌<◌, ◌∷◌, ◌++◌, List, take, length, get_or}
use Rattle.std.specs.Prelude.{flat_map}
use Rattle.std.specs.Int.{w32, to_be_bytes}
use Rattle.wc_value.specs.Spelling.{file}
use Rattle.wc_value.proofs.Respelled.{IsSpelledFile}
use Rattle.wc_value.proofs.encoding.put_files.Given as goal

abbrev pub invariant-loop-name : goal.invariant-loop-name
invariant-loop-name l = record {
  out : l.out ≡ l.fn.out ++ (6 ∷ (to_be_bytes w32 (length l.name-items) ++ flat_map file (take l.name-index l.name-items)));
  spelled : (k : ℕ) (d : List ℕ × List ℕ) → k < l.name-index → IsSpelledFile (get_or l.name-items k d);
}
