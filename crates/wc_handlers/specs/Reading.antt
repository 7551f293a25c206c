-- What a spec file says, as one function of its bytes.
use Rattle.std.specs.Prelude.{ℕ, List, Option, Some, None, Result, Ok, Err, if◌then◌else◌}
use Rattle.std.specs.Str.{is_utf8}
use Rattle.toml.specs.Data.{Members}
use Rattle.toml.specs.Parse.{parse_document}
use Rattle.wc_handlers.specs.declared.error.RestartError.{RestartError}
use Rattle.wc_handlers.specs.declared.error.RestartError.TheVariants as error
use Rattle.wc_handlers.specs.declared.refusals.Kind.TheVariants as kind
use Rattle.wc_handlers.specs.declared.spec.Spec.{Spec}
use Rattle.wc_handlers.specs.Refusals.{Refusal, least, refusals}
use Rattle.wc_handlers.specs.Specs.{spec_of}

-- the table that the bytes spell, if they spell one
abbrev pub document_of : List ℕ → Option Members
document_of bytes = if is_utf8 bytes then parse_document bytes else None

-- a refusal as an error
abbrev pub told : Refusal → RestartError
told (kind.UnknownKey, key) = error.UnknownKey key
told (kind.BadValue, key) = error.BadValue key

-- the spec of a document, or the error
abbrev pub unless_refused : Members → Option Refusal → Result Spec RestartError
unless_refused ms None = Ok (spec_of ms)
unless_refused ms (Some r) = Err (told r)

-- the spec of a document, or that it is no TOML
abbrev pub spec_in_document : Option Members → Result Spec RestartError
spec_in_document None = Err error.NotToml
spec_in_document (Some ms) = unless_refused ms (least (refusals ms))

-- the spec, or the refusal of the least key path in byte order
abbrev pub spec_in : List ℕ → Result Spec RestartError
spec_in bytes = spec_in_document (document_of bytes)
