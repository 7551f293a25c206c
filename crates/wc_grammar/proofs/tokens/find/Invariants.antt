use Rattle.std.proofs.Common.{◌≡◌, drop}
use Rattle.wc_grammar.specs.Rules.{pick}
use Rattle.wc_grammar.proofs.tokens.find.Given as goal

abbrev pub invariant-loop-key : goal.invariant-loop-key
invariant-loop-key g l = pick (drop l.key-index l.table) l.wanted ≡ pick l.table l.wanted
