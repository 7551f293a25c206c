-- Results of the program of the example's job, and what the attempts are given and give.
use Rattle.std.specs.Prelude.{ℕ, pos, List, [], ◌∷◌, codes}
use Rattle.wc_value.specs.declared.process.JobResult.{JobResult}
use Rattle.wc_value.specs.declared.process.Request.{Request}
use Rattle.wc_value.specs.declared.value.Value.TheVariants as value
use Rattle.wc_semantics.specs.Rules.{Values}

-- with 2 the program writes 4, and with 9 it writes no file
abbrev pub asked : List ℕ → Request
asked argument = record { program = codes "double"; args = argument ∷ []; files = []; fetch = codes "out.txt" ∷ [] }

-- the results of the examples' job for 2 and for 9
abbrev pub rows : List (Request × JobResult)
rows =
    (asked (codes "2"), record { code = pos 0; files = (codes "out.txt", codes "4\n") ∷ [] })
    ∷ ((asked (codes "9"), record { code = pos 0; files = [] }) ∷ [])

-- the input 9
abbrev pub nine : Values
nine = (codes "x", value.Int (pos 9)) ∷ []

-- the output 4
abbrev pub four : Values
four = (codes "value", value.Int (pos 4)) ∷ []
