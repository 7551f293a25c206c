use Rattle.std.proofs.Common.{◌≡◌, map, take}
use Rattle.wc_value.specs.declared.value.Value.TheVariants.{Text}
use Rattle.wc_json.proofs.table.value_of_words.Given as goal

abbrev pub invariant-loop-word : goal.invariant-loop-word
invariant-loop-word l = l.values ≡ map Text (take l.word-index l.word-items)
