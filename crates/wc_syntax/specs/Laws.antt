-- A law of printed texts.
use Rattle.std.specs.Prelude.{◌≡◌, List}
use Rattle.wc_syntax.specs.declared.definition.Definition.{Definition}
use Rattle.wc_syntax.specs.Bare.{bare_library}
use Rattle.wc_syntax.specs.Printing.{printed}

-- Offsets play no part in a printed text.
abbrev pub OffsetsArentPrinted : Type 0
OffsetsArentPrinted = (library : List Definition) → printed (bare_library library) ≡ printed library
