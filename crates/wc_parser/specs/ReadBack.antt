-- What printed texts say.
use Rattle.std.specs.Prelude.{ℕ, ◌≡◌, true, List, Ok}
use Rattle.wc_syntax.specs.declared.definition.Definition.{Definition}
use Rattle.wc_syntax.specs.Bare.{bare_definition, bare_library}
use Rattle.wc_syntax.specs.Printing.{printed_definition, printed}
use Rattle.wc_syntax.specs.Writable.{is_definition, is_sayable, IsWritable}
use Rattle.wc_parser.specs.Parsing.{TextSays}

-- The printed text of a writable library is a file, whose library is the same but for offsets.
abbrev pub ReadsBack : Type 0
ReadsBack = (library : List Definition) → IsWritable library → (other : List Definition) × TextSays (printed library) (Ok other) × (bare_library other ≡ bare_library library)

-- The library of each file is writable.
abbrev pub FilesAreWritable : Type 0
FilesAreWritable = (bytes : List ℕ) (library : List Definition) → TextSays bytes (Ok library) → IsWritable library

-- Libraries that a file can say, and that print the same text, are the same but for offsets.
abbrev pub LibrariesPrintApart : Type 0
LibrariesPrintApart = (a b : List Definition) → is_sayable a ≡ true → is_sayable b ≡ true → printed a ≡ printed b → bare_library a ≡ bare_library b

-- So are definitions.
abbrev pub DefinitionsPrintApart : Type 0
DefinitionsPrintApart = (a b : Definition) → is_definition a ≡ true → is_definition b ≡ true → printed_definition a ≡ printed_definition b → bare_definition a ≡ bare_definition b
