-- Which refusals can't come.
use Rattle.std.specs.Prelude.{◌≡◌}
use Rattle.wc_value.specs.declared.table.TableError.{TableError}
use Rattle.wc_value.specs.declared.table.TableError.TheVariants as table
use Rattle.wc_parser.specs.declared.error.ParseError.{ParseError}
use Rattle.wc_parser.specs.declared.error.ParseError.TheVariants as parse
use Rattle.wc_check.specs.declared.error.CheckError.{CheckError}
use Rattle.wc_check.specs.declared.error.CheckError.TheVariants as check

-- the parser was refused memory, and nothing else
abbrev pub IsParseMemory : ParseError → Type 0
IsParseMemory e = e ≡ parse.OutOfMemory

-- the check was refused memory, and nothing else
abbrev pub IsCheckMemory : CheckError → Type 0
IsCheckMemory e = e ≡ check.OutOfMemory

-- the table was refused memory, and nothing else
abbrev pub IsTableMemory : TableError → Type 0
IsTableMemory e = e ≡ table.OutOfMemory
