use Rattle.std.proofs.Common.{◌≡◌, drop}
use Rattle.wc_grammar.specs.Rules.{mem}
use Rattle.wc_grammar.proofs.tokens.has.Given as goal

abbrev pub invariant-loop-x : goal.invariant-loop-x
invariant-loop-x l = mem l.wanted (drop l.x-index l.kinds) ≡ mem l.wanted l.kinds
