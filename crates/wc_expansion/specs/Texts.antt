-- Texts of checked libraries.
use Rattle.std.specs.Prelude.{◌≡◌, ℕ, List, Ok}
use Rattle.wc_syntax.specs.Bare.{bare_library}
use Rattle.wc_syntax.specs.Checked.{KeepsRules}
use Rattle.wc_syntax.specs.declared.definition.Definition.{Definition}
use Rattle.wc_parser.specs.Parsing.{TextSays}

-- the text is a library's that keeps the rules
abbrev pub IsCheckedText : List ℕ → Type 0
IsCheckedText bytes = (library : List Definition) × TextSays bytes (Ok library) × KeepsRules library

-- the text is a library's that keeps the rules, and that is this one but for offsets
pub record ReadsAs (bytes : List ℕ) (bare : List Definition) : Type 0 where
  pub library : List Definition
  pub says : TextSays bytes (Ok library)
  pub same : bare_library library ≡ bare
  pub keeps : KeepsRules library
