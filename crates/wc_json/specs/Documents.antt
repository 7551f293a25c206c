-- What bytes are read as, as one function of them.
use Rattle.std.specs.Prelude.{ℕ, List, Option, Some, None, Result, Ok, Err, if◌then◌else◌}
use Rattle.std.specs.Str.{is_utf8}
use Rattle.serde_json.specs.Data.{Data}
use Rattle.serde_json.specs.Read.{read}
use Rattle.wc_json.specs.declared.error.JsonError.{JsonError}
use Rattle.wc_json.specs.declared.error.JsonError.TheVariants as error
use Rattle.wc_json.specs.Reading.{Fault, Refusal, not_whole, too_great, other_shape}

-- the JSON that bytes spell, if they spell some
abbrev pub document_of : List ℕ → Option Data
document_of bytes = if is_utf8 bytes then read bytes else None

-- a fault of a value at a path, as an error
abbrev pub error_at : Fault → List ℕ → JsonError
error_at not_whole path = error.Float path
error_at too_great path = error.OutOfRange path
error_at other_shape path = error.Shape path

-- what was read, or the error
abbrev pub answered : {A : Type 0} → Result A Refusal → Result A JsonError
answered (Ok x) = Ok x
answered (Err r) = Err (error_at r.0 r.1)

-- what a document is read as, or that it is no JSON
abbrev pub answer_in : {A : Type 0} → (Data → Result A Refusal) → Option Data → Result A JsonError
answer_in reads None = Err error.NotJson
answer_in reads (Some d) = answered (reads d)

-- what is read of the JSON that bytes spell, or why nothing is
abbrev pub answer_of : {A : Type 0} → (Data → Result A Refusal) → List ℕ → Result A JsonError
answer_of reads bytes = answer_in reads (document_of bytes)
