-- The library of each file is writable.
use Rattle.std.proofs.Common.{ℕ, List, None, Ok, Err, IfOk}
use Rattle.wc_syntax.specs.declared.definition.Definition.{Definition}
use Rattle.wc_syntax.specs.Writable.{IsWritable}
use Rattle.wc_reader.proofs.Nesting.{names_first}
use Rattle.wc_parser.specs.Parsing.{Parsed, TextSays, TextTold}
use Rattle.wc_parser.proofs.LexedLibraries.{printed_lexes}
use Rattle.wc_parser.proofs.Spelled.{tokens_spelled}
use Rattle.wc_parser.proofs.SayableLibraries.{derived_sayable}
use Rattle.wc_parser.proofs.FlatOutlines.{derived_flat}

pub files_are_writable : (bytes : List ℕ) (library : List Definition) → TextSays bytes (Ok library) → IsWritable library
files_are_writable bytes library h =
    let t = h.0 in
    let s = derived_sayable t.0 library (tokens_spelled bytes t.0 t.1.cut) t.2 in
    let l = printed_lexes library s in
    record { sayable = s; flat = (l.0, l.1, (names_first l.0 None).0 (derived_flat t.0 l.0 library t.1.flat t.2 l.2)); short = h.1 }

-- what was returned is writable
pub told_writable : (bytes : List ℕ) (r : Parsed) → TextTold bytes r → IfOk r IsWritable
told_writable bytes (Ok library) h = files_are_writable bytes library h
told_writable bytes (Err e) h = tt
