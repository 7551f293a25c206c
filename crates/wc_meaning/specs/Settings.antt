-- What surrounds a run, as the program holds it; and how large the outlines of a library are, by which its recursion is measured.
use Rattle.std.specs.Prelude.{ℕ, ◌+◌, ◌*◌, max, List, [], ◌∷◌, Option, Some, None}
use Rattle.wc_syntax.specs.declared.definition.Definition.{Definition}
use Rattle.wc_syntax.specs.declared.definition.Definition.TheVariants as definition
use Rattle.wc_syntax.specs.declared.outline.Block.{Block, size-Block}
use Rattle.wc_semantics.specs.Tables.{plain, kills_of}
use Rattle.wc_semantics.specs.Run.{Around}
use Rattle.wc_semantics.specs.Meaning.{within, around}
use Rattle.wc_meaning.specs.declared.statements.Setting.{Setting}

-- what surrounds the run of the chain that has this setting
abbrev pub around_in : Setting → Around
around_in s = within s.ports.now s.stop (around s.levels s.library.now (plain s.table.now) (kills_of s.kills.now))

-- a bound on the measures within the outline of a definition
abbrev pub width : Definition → ℕ
width (definition.Function f) = 0
width (definition.Job j) = 0
width (definition.Chain c) = 2 * size-Block c.outline + 7

-- the greatest of these bounds in a library
abbrev pub widest : List Definition → ℕ
widest [] = 0
widest (d ∷ ds) = max (width d) (widest ds)

-- how large the block of an `else` is, if there is one
abbrev pub option_size : Option Block → ℕ
option_size None = 0
option_size (Some b) = size-Block b
