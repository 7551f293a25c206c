use Rattle.std.proofs.Common.{◌≡◌, ◌++◌, drop, map}
use Rattle.wc_cli.proofs.command.copies.Given as goal

abbrev pub invariant-loop-text : goal.invariant-loop-text
invariant-loop-text l = l.words ++ map (λ text. text.now) (drop l.text-index l.texts) ≡ map (λ text. text.now) l.fn.texts
