use Rattle.std.proofs.Common.{◌≡◌, ◌+◌, drop}
use Rattle.std.specs.List.{prefix_len}
use Rattle.wc_lexer.specs.Runs.{is_in_run}
use Rattle.wc_lexer.proofs.characters.run_end.Given as goal

abbrev pub invariant-loop-at : goal.invariant-loop-at
invariant-loop-at l = l.at + prefix_len (is_in_run l.run) (drop l.at l.bytes) ≡ l.from + prefix_len (is_in_run l.run) (drop l.from l.bytes)
