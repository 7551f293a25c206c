use Rattle.std.proofs.Common.{◌≡◌, drop, fold, map}
use Rattle.clap.specs.Words.{app_of}
use Rattle.wc_cli.specs.Table.{entry_of}
use Rattle.wc_cli.specs.Line.{with_command}
use Rattle.wc_cli.proofs.line.with_commands.Given as goal

abbrev pub invariant-loop-entry : goal.invariant-loop-entry
invariant-loop-entry l = fold with_command (app_of l.line) (map entry_of (drop l.entry-index l.entries)) ≡ fold with_command (app_of l.fn.line) (map entry_of l.entries)
