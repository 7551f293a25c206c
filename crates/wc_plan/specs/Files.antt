-- What a file is read as.
use Rattle.std.specs.Prelude.{◌≡◌, ℕ, Bool, true, false, List, Option, Some, None, Ok, Err, IfSome}
use Rattle.std.specs.Str.{is_utf8}
use Rattle.wc_syntax.specs.declared.definition.Definition.{Definition}
use Rattle.wc_syntax.specs.Bare.{bare_library}
use Rattle.wc_parser.specs.Parsing.{Parsed, TextSays}
use Rattle.wc_check.specs.declared.error.CheckError.{CheckError}
use Rattle.wc_check.specs.Refusals.{IsFirstFinding}
use Rattle.wc_plan.specs.declared.libraries.Read.{Read}
use Rattle.wc_plan.specs.declared.libraries.Read.TheVariants as read
use Rattle.wc_plan.specs.declared.status.Cause.TheVariants as cause

-- a library of which this is the first finding
abbrev pub read_found : List Definition → Option CheckError → Read
read_found library None = read.Library (bare_library library)
read_found library (Some e) = read.Refused (cause.Check e)

-- what a library is read as: itself, or the first finding against it
abbrev pub ReadsLibrary : List Definition → Read → Type 0
ReadsLibrary library r = (found : Option CheckError) × IsFirstFinding library found × (r ≡ read_found library found)

-- what the parser answers
abbrev pub ReadsParsed : Parsed → Read → Type 0
ReadsParsed (Ok library) r = ReadsLibrary library r
ReadsParsed (Err e) r = r ≡ read.Refused (cause.Parse e)

-- a text
abbrev pub ReadsText : List ℕ → Read → Type 0
ReadsText text r = (parsed : Parsed) × TextSays text parsed × ReadsParsed parsed r

-- the bytes of the file of this name, which are a text, or are none
abbrev pub ReadsBytes : List ℕ → Bool → List ℕ → Read → Type 0
ReadsBytes file true bytes r = ReadsText bytes r
ReadsBytes file false bytes r = r ≡ read.Refused (cause.NotUtf8 file)

-- the file of this name with this content, none where there is no such file
abbrev pub Reads : List ℕ → Option (List ℕ) → Read → Type 0
Reads file None r = r ≡ read.Refused (cause.NoFile file)
Reads file (Some bytes) r = ReadsBytes file (is_utf8 bytes) bytes r

-- the file of this name on a shelf that tells this
abbrev pub ReadsFrom : Option (List ℕ → Option (List ℕ)) → List ℕ → Read → Type 0
ReadsFrom told file r = (content : Option (List ℕ)) × IfSome told (λ contents. content ≡ contents file) × Reads file content r
