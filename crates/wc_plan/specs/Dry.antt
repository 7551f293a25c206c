-- What `dry` and `check` reply.
use Rattle.std.specs.Prelude.{◌≡◌, ℕ, List, Option, Some, None, Result, Ok, Err}
use Rattle.wc_value.specs.declared.value.Value.{Value}
use Rattle.wc_syntax.specs.declared.definition.Definition.{Definition}
use Rattle.wc_syntax.specs.declared.definition.Port.{Port}
use Rattle.wc_syntax.specs.Findings.{head_of, definition_named}
use Rattle.wc_semantics.specs.declared.progress.Answer.{Answer}
use Rattle.wc_semantics.specs.declared.progress.Answer.TheVariants.{Gave, TooLittle, Without, Astray}
use Rattle.wc_semantics.specs.Tables.{plain, no_kills}
use Rattle.wc_semantics.specs.Meaning.{meaning}
use Rattle.wc_report.specs.Trees.{tree_text}
use Rattle.wc_json.specs.Tables.{Row}
use Rattle.wc_plan.specs.declared.commands.dry.Trial.{Trial}
use Rattle.wc_plan.specs.declared.libraries.Read.{Read}
use Rattle.wc_plan.specs.declared.libraries.Read.TheVariants as read
use Rattle.wc_plan.specs.declared.reply.Reply.{Reply}
use Rattle.wc_plan.specs.declared.status.Cause.{Cause}
use Rattle.wc_plan.specs.declared.status.Cause.TheVariants as cause
use Rattle.wc_plan.specs.Further.{InputsFrom, TableFrom}
use Rattle.wc_plan.specs.Given.{bad_given, fields_of}
use Rattle.wc_plan.specs.Replies.{refuses, prints}
use Rattle.wc_plan.specs.Texts.{definitions_text}

-- ---- dry

-- for what a definition means: its tree, or else the first request that the table lacks, or that the fuel doesn't suffice; without kills none is
-- missed, so no definition of the library goes astray
abbrev pub owed_answer : Answer → Reply
owed_answer (Gave r left) = prints (tree_text r.tree)
owed_answer (Without q) = refuses (cause.NoAnswer q)
owed_answer TooLittle = refuses cause.Fuel
owed_answer Astray = refuses cause.Fuel

-- for a definition with these ports, of which this is the least that is given badly: what it means at depth 1 for the inputs of the words and
-- of a file, with a table of these rows
abbrev pub owed_inputs : Option (List ℕ) → List Port → List Definition → List ℕ → List (List ℕ × List ℕ) → List (List ℕ × Value) → List Row → ℕ → Reply
owed_inputs (Some port) ports library name given file rows fuel = refuses (cause.BadInput port)
owed_inputs None ports library name given file rows fuel = owed_answer (meaning 15 library (plain rows) no_kills fuel name (fields_of ports given file))

-- for what a table file is read as
abbrev pub owed_rows : Result (List Row) Cause → List Port → List Definition → List ℕ → List (List ℕ × List ℕ) → List (List ℕ × Value) → ℕ → Reply
owed_rows (Ok rows) ports library name given file fuel = owed_inputs (bad_given ports given file) ports library name given file rows fuel
owed_rows (Err c) ports library name given file fuel = refuses c

-- for what a file of inputs is read as, where the shelf tells this
abbrev pub OwesRows : Option (List ℕ → Option (List ℕ)) → Trial → Result (List (List ℕ × Value)) Cause → List Port → List Definition → Reply → Type 0
OwesRows told t (Ok file) ports library r =
    (rows : Result (List Row) Cause) × TableFrom told t.table rows × (r ≡ owed_rows rows ports library t.name t.given file t.fuel)
OwesRows told t (Err c) ports library r = r ≡ refuses c

-- for a definition in a library
abbrev pub OwesDefinition : Option (List ℕ → Option (List ℕ)) → Trial → Option Definition → List Definition → Reply → Type 0
OwesDefinition told t None library r = r ≡ refuses (cause.Name t.name)
OwesDefinition told t (Some d) library r =
    (file : Result (List (List ℕ × Value)) Cause) × InputsFrom told t.inputs (head_of d).inputs file × OwesRows told t file (head_of d).inputs library r

-- for a file that is read as this
abbrev pub OwesDry : Option (List ℕ → Option (List ℕ)) → Trial → Read → Reply → Type 0
OwesDry told t (read.Refused c) r = r ≡ refuses c
OwesDry told t (read.Library library) r = OwesDefinition told t (definition_named t.name library) library r

-- ---- check

-- for a file that is read as this
abbrev pub owed_check : Read → Reply
owed_check (read.Refused c) = refuses c
owed_check (read.Library library) = prints (definitions_text library)
