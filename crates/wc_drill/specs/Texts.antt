-- What is told of a drill.
use Rattle.std.specs.Prelude.{ℕ, ◌*◌, List, [], ◌∷◌, codes}
use Rattle.std.specs.List.{concat}
use Rattle.std.specs.Fmt.{decimal}

-- so many chains, with two jobs and a function each; what all squares add up to; how many batches were committed
abbrev pub drilled_text : (chains sum committed : ℕ) → List ℕ
drilled_text chains sum committed = concat (
    codes "chains " ∷ decimal chains ∷ codes " jobs " ∷ decimal (2 * chains) ∷ codes " functions " ∷ decimal chains
    ∷ codes "\nsum " ∷ decimal sum ∷ codes "\ncommitted " ∷ decimal committed ∷ codes "\n" ∷ [])
