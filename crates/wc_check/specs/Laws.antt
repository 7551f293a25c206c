-- A law of the rules of checked libraries.
use Rattle.std.specs.Prelude.{◌≡◌, List}
use Rattle.wc_syntax.specs.declared.definition.Definition.{Definition}
use Rattle.wc_syntax.specs.Bare.{bare_library}
use Rattle.wc_syntax.specs.Checked.{KeepsRules}

-- Where a rule of checked libraries is kept doesn't hang on offsets.
abbrev pub RulesForgetOffsets : Type 0
RulesForgetOffsets = (a b : List Definition) → bare_library a ≡ bare_library b → KeepsRules a → KeepsRules b
