use Rattle.wc_value.specs.Spelling.{spelling, pair_of}
use Rattle.wc_keys.specs.Hashing.{Adds}
use Rattle.wc_keys.proofs.Added.{front}
use Rattle.wc_keys.proofs.hashing.+hash.Given as goal

abbrev pub invariant-put_values-loop-item : goal.invariant-put_values-loop-item
invariant-put_values-loop-item l = Adds l.fn.hasher (front spelling 4 l.item-items l.item-index) l.hasher

abbrev pub invariant-put_fields-loop-name : goal.invariant-put_fields-loop-name
invariant-put_fields-loop-name l = Adds l.fn.hasher (front pair_of 5 l.name-items l.name-index) l.hasher
