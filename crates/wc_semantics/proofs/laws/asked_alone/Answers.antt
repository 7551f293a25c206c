use Rattle.std.proofs.lemmas.List.Elements.{recursion_from_All}
use Rattle.wc_semantics.specs.Meaning.{meaning}
use Rattle.wc_semantics.proofs.Asked.{IsAlike, given_same, meaning_told}
use Rattle.wc_semantics.proofs.laws.asked_alone.Goals as goal

pub returns : goal.returns
returns c levels library table other kills n m name inputs t is alike =
    given_same table other t m (meaning levels library table kills n name inputs) (meaning levels library other kills n name inputs) is
    (meaning_told levels library table other kills n name inputs) (recursion_from_All (IsAlike table other) t.asked alike)
