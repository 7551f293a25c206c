use Rattle.wc_value.specs.Spelling.{file}
use Rattle.wc_keys.specs.Hashing.{Adds}
use Rattle.wc_keys.proofs.Added.{front}
use Rattle.wc_keys.proofs.hashing.put_files.Given as goal

abbrev pub invariant-loop-name : goal.invariant-loop-name
invariant-loop-name l = Adds l.fn.hasher (front file 6 l.name-items l.name-index) l.hasher
