-- What is made of the words of `submit` before the store is asked.
use Rattle.std.specs.Prelude.{◌≡◌, ℕ, ◌≤◌, true, List, length, Option, Some, None, Result, Ok, Err}
use Rattle.std.specs.List.{AllByRecursion}
use Rattle.wc_value.specs.Ascending.{Ascends}
use Rattle.wc_value.specs.Spelling.{spelling, depth}
use Rattle.wc_value.specs.declared.value.Value.{Value}
use Rattle.wc_syntax.specs.Findings.{definition_named, head_of}
use Rattle.wc_syntax.specs.declared.definition.Definition.{Definition}
use Rattle.wc_syntax.specs.declared.definition.Port.{Port}
use Rattle.wc_meaning.specs.Inputs.{bad_input}
use Rattle.wc_state.specs.Ranges.{AreLimits}
use Rattle.wc_fits.specs.Fits.{names_ascend}
use Rattle.wc_plan.specs.declared.libraries.Read.{Read}
use Rattle.wc_plan.specs.declared.libraries.Read.TheVariants as read
use Rattle.wc_plan.specs.declared.status.Cause.{Cause}
use Rattle.wc_plan.specs.declared.status.Cause.TheVariants as cause
use Rattle.wc_plan.specs.declared.submission.Submission.{Submission}
use Rattle.wc_plan.specs.declared.submission.Prepared.{Prepared}
use Rattle.wc_plan.specs.declared.submission.Prepared.TheVariants as prepared
use Rattle.wc_plan.specs.Files.{ReadsFrom}
use Rattle.wc_plan.specs.Further.{InputsFrom}
use Rattle.wc_plan.specs.Given.{bad_given, fields_of}

-- those of the words and of a file for these ports, of which this is the least that is given badly
abbrev pub inputs_of : Option (List ℕ) → List Port → List (List ℕ × List ℕ) → List (List ℕ × Value) → Result (List (List ℕ × Value)) Cause
inputs_of None ports given file = Ok (fields_of ports given file)
inputs_of (Some port) ports given file = Err (cause.BadInput port)

-- those of the words, beside what a file of inputs is read as
abbrev pub inputs_beside : Result (List (List ℕ × Value)) Cause → List Port → List (List ℕ × List ℕ) → Result (List (List ℕ × Value)) Cause
inputs_beside (Ok file) ports given = inputs_of (bad_given ports given file) ports given file
inputs_beside (Err c) ports given = Err c

-- the inputs for a definition of this name, by words and by a file, if one is named, of a shelf that tells this
abbrev pub InputsFor : Option (List ℕ → Option (List ℕ)) → Option (List ℕ) → Option Definition → List ℕ → List (List ℕ × List ℕ) → Result (List (List ℕ × Value)) Cause → Type 0
InputsFor told inputs None name given r = r ≡ Err (cause.Name name)
InputsFor told inputs (Some d) name given r =
    (file : Result (List (List ℕ × Value)) Cause) × InputsFrom told inputs (head_of d).inputs file × (r ≡ inputs_beside file (head_of d).inputs given)

-- what is prepared of a submission: the submission with these inputs, or their refusal
abbrev pub prepared_with : List Definition → List ℕ → Result (List (List ℕ × Value)) Cause → Prepared
prepared_with library name (Ok inputs) = prepared.Submits (record { library = library; name = name; inputs = inputs })
prepared_with library name (Err c) = prepared.Refused c

-- for a file that is read as this
abbrev pub PreparesRead : Option (List ℕ → Option (List ℕ)) → Option (List ℕ) → List ℕ → List (List ℕ × List ℕ) → Read → Prepared → Type 0
PreparesRead told inputs name given (read.Refused c) p = p ≡ prepared.Refused c
PreparesRead told inputs name given (read.Library library) p =
    (i : Result (List (List ℕ × Value)) Cause) × InputsFor told inputs (definition_named name library) name given i × (p ≡ prepared_with library name i)

-- the file of this name, and a file of inputs, if one is named, on a shelf that tells this
abbrev pub PreparesFrom : Option (List ℕ → Option (List ℕ)) → List ℕ → List ℕ → List (List ℕ × List ℕ) → Option (List ℕ) → Prepared → Type 0
PreparesFrom told file name given inputs p = (r : Read) × ReadsFrom told file r × PreparesRead told inputs name given r p

-- an input within the limits of expressions: at most 4194304 canonical bytes, and 32 levels
abbrev pub IsWithinLimits : List ℕ × Value → Type 0
IsWithinLimits i = (length (spelling i.1) ≤ 4194304) × (depth i.1 ≤ 32)

-- the library has the definition, and its ports take the inputs, which are in order and within the limits
pub record IsCallable (library : List Definition) (name : List ℕ) (inputs : List (List ℕ × Value)) : Type 0 where
  pub defined : Definition
  pub named : definition_named name library ≡ Some defined
  pub fits : bad_input (head_of defined).inputs inputs ≡ None
  pub ascends : Ascends inputs
  pub within : AllByRecursion IsWithinLimits inputs

-- the definition can be called so, the names with caching on ascend, and the limits are within their ranges
pub record IsReady (s : Submission) : Type 0 where
  pub callable : IsCallable s.library s.name s.inputs
  pub names : names_ascend s.caching ≡ true
  pub limits : AreLimits s.limits

-- what is prepared is a definition that can be called so
abbrev pub SubmitsReady : Prepared → Type 0
SubmitsReady (prepared.Refused c) = Unit {0}
SubmitsReady (prepared.Submits i) = IsCallable i.library i.name i.inputs
