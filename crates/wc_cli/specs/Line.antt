-- The command line, as `clap` is set up to read it: each command has its options, and takes any number of operands.
use Rattle.std.specs.Prelude.{true, List, [], Option, Some, unwrap_or, option_and_then, fold, codes}
use Rattle.clap.specs.Words.{App, Row, Rule, Text, all_of, first_of, new_app, new_rule, with_rule, with_subcommand}
use Rattle.clap.specs.Simple.{new_shape}
use Rattle.clap.specs.declared.builder.action.ArgAction.TheVariants.{Set, Append}
use Rattle.wc_cli.specs.declared.command.Command.{Command}
use Rattle.wc_cli.specs.Table.{Entry, option_names, table}
use Rattle.wc_cli.specs.Words.{Values, named_command}

-- `--NAME VALUE` or `--NAME=VALUE`, at most once
abbrev pub option : Text → Rule
option name = record (new_rule name) { long = Some name; action = Some Set }

-- the operands have one name
abbrev pub operand_id : Text
operand_id = codes "operand"

-- any number of operands
abbrev pub operands : Rule
operands = record (new_rule operand_id) { action = Some Append }

-- a command with no option
abbrev pub plain_app : Text → App
plain_app name = with_rule (new_app name) operands

-- the first word is a command, with no help
abbrev pub base_app : App
base_app = record {
  top = record (new_shape (codes "wc")) {
    no_binary_name = true;
    disable_help_flag = true;
    disable_help_subcommand = true;
    disable_version_flag = true;
    subcommand_required = true;
  };
  subs = [];
}

-- a command with one option more
abbrev pub with_option : App → Text → App
with_option a name = with_rule a (option name)

-- a command with its options
abbrev pub command_app : Entry → App
command_app e = fold with_option (plain_app e.word) (option_names e)

-- an application with one command more
abbrev pub with_command : App → Entry → App
with_command a e = with_subcommand a (command_app e).top

-- the whole command line
abbrev pub line_app : App
line_app = fold with_command base_app table

-- ---- what `clap` has read

-- the operands
abbrev pub operands_in : List Row → List Text
operands_in rows = unwrap_or (all_of operand_id rows) []

-- what stands for an option
abbrev pub values_in : List Row → Values
values_in rows name = first_of name rows

-- the command of a subcommand that is met, if it is one
abbrev pub command_met : Option (Text × List Row) → Option Command
command_met found = option_and_then (λ p. named_command p.0 (operands_in p.1) (values_in p.1)) found
