use Rattle.std.proofs.Common.{◌≡◌, drop}
use Rattle.std.specs.List.{list_all}
use Rattle.wc_semantics.specs.Meaning.{is_good}
use Rattle.wc_meaning.proofs.inputs.are_good.Given as goal

abbrev pub invariant-loop-name : goal.invariant-loop-name
invariant-loop-name l = list_all (is_good l.ports) (drop l.name-index l.name-items) ≡ list_all (is_good l.ports) l.name-items
