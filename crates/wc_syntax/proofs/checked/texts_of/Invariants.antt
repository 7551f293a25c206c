use Rattle.std.proofs.Common.{◌≡◌, map, take}
use Rattle.wc_syntax.specs.Printing.{printed_definition}
use Rattle.wc_syntax.proofs.checked.texts_of.Given as goal

abbrev pub invariant-loop-definition : goal.invariant-loop-definition
invariant-loop-definition l = l.texts ≡ map printed_definition (take l.definition-index l.definition-items)
