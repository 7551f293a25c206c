use Rattle.std.proofs.Common.{◌≡◌, drop, fold, map, false}
use Rattle.clap.specs.Words.{app_of}
use Rattle.clap.specs.declared.builder.command.Command.TheViews.{out-Command}
use Rattle.wc_cli.specs.Table.{choice_of, name_of}
use Rattle.wc_cli.specs.Line.{with_option}
use Rattle.wc_cli.proofs.line.with_options.Given as goal

abbrev pub invariant-loop-choice : goal.invariant-loop-choice
invariant-loop-choice l =
    (fold with_option (app_of l.command) (map name_of (map choice_of (drop l.choice-index l.options))) ≡ fold with_option (app_of l.fn.command) (map name_of (map choice_of l.options)))
    × ((out-Command l.command).has_globals ≡ false)
