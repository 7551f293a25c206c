-- What further files of a command are read as: inputs, and results of jobs.
use Rattle.std.specs.Prelude.{◌≡◌, ℕ, List, [], ◌∷◌, Option, Some, None, is_none, IfSome, Result, Ok, Err, if◌then◌else◌}
use Rattle.serde_json.specs.Data.{Data}
use Rattle.wc_value.specs.Ascending.{lookup, put}
use Rattle.wc_value.specs.declared.value.Kind.{Kind}
use Rattle.wc_value.specs.declared.value.Value.{Value}
use Rattle.wc_syntax.specs.declared.definition.Port.{Port}
use Rattle.wc_json.specs.declared.error.JsonError.{JsonError}
use Rattle.wc_json.specs.Documents.{answer_of}
use Rattle.wc_json.specs.Limits.{read_fields}
use Rattle.wc_json.specs.Reading.{Refusal}
use Rattle.wc_json.specs.Tables.{Row, read_table}
use Rattle.wc_plan.specs.declared.status.Cause.{Cause}
use Rattle.wc_plan.specs.declared.status.Cause.TheVariants as cause

-- a shelf that tells this has this content under a name, none where there is no such file
abbrev pub Has : Option (List ℕ → Option (List ℕ)) → List ℕ → Option (List ℕ) → Type 0
Has told file content = IfSome told (λ contents. content ≡ contents file)

-- ---- the kinds of ports by name

-- the kinds of ports by name, with that of one more port; the first of a name counts
abbrev pub with_kind : List (List ℕ × Kind) → Port → List (List ℕ × Kind)
with_kind front p = if is_none (lookup p.name.text front) then put p.name.text p.kind front else front

-- the kinds of ports by name, behind those in front
abbrev pub kinds_after : List (List ℕ × Kind) → List Port → List (List ℕ × Kind)
kinds_after front [] = front
kinds_after front (p ∷ ps) = kinds_after (with_kind front p) ps

-- the kinds of ports by name
abbrev pub kinds_of : List Port → List (List ℕ × Kind)
kinds_of = kinds_after []

-- ---- files of JSON

-- what is read, or the cause for which it isn't
abbrev pub or_cause : {A : Type 0} → (JsonError → Cause) → Result A JsonError → Result A Cause
or_cause causes (Ok x) = Ok x
or_cause causes (Err e) = Err (causes e)

-- the file of this name with this content
abbrev pub read_file : {A : Type 0} → (JsonError → Cause) → (Data → Result A Refusal) → List ℕ → Option (List ℕ) → Result A Cause
read_file causes reads file None = Err (cause.NoFile file)
read_file causes reads file (Some bytes) = or_cause causes (answer_of reads bytes)

-- the inputs for these ports in a file, if one is named
abbrev pub InputsFrom : Option (List ℕ → Option (List ℕ)) → Option (List ℕ) → List Port → Result (List (List ℕ × Value)) Cause → Type 0
InputsFrom told None ports r = r ≡ Ok []
InputsFrom told (Some file) ports r = (content : Option (List ℕ)) × Has told file content × (r ≡ read_file cause.Inputs (read_fields (kinds_of ports)) file content)

-- the results of jobs in a file, if one is named
abbrev pub TableFrom : Option (List ℕ → Option (List ℕ)) → Option (List ℕ) → Result (List Row) Cause → Type 0
TableFrom told None r = r ≡ Ok []
TableFrom told (Some file) r = (content : Option (List ℕ)) × Has told file content × (r ≡ read_file cause.Table read_table file content)
