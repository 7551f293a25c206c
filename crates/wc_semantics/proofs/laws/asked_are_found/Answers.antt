use Rattle.std.proofs.lemmas.List.Elements.{All-from_recursion}
use Rattle.wc_semantics.specs.Meaning.{meaning}
use Rattle.wc_semantics.proofs.Asked.{IsThere, given_there, meaning_told}
use Rattle.wc_semantics.proofs.laws.asked_are_found.Goals as goal

pub returns : goal.returns
returns c levels library table kills n m name inputs t is =
    All-from_recursion (IsThere table) t.asked
    (given_there table table t m (meaning levels library table kills n name inputs) (meaning levels library table kills n name inputs) is
    (meaning_told levels library table table kills n name inputs))
