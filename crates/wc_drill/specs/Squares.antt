-- What the job `square` asks for, and what it leaves.
use Rattle.std.specs.Prelude.{◌≡◌, ◌<◌, ◌*◌, ℕ, zero, suc, pos, List, [], ◌∷◌, ◌++◌, codes}
use Rattle.std.specs.Fmt.{decimal}
use Rattle.wc_value.specs.declared.process.JobResult.{JobResult}
use Rattle.wc_value.specs.declared.process.Request.{Request}

-- `square X`, of which the file `y` is fetched
abbrev pub square_request : ℕ → Request
square_request x = record { program = codes "square"; args = decimal x ∷ []; files = []; fetch = codes "y" ∷ [] }

-- the code 0, and the file `y` with the square and the end of a line
abbrev pub square_result : ℕ → JobResult
square_result x = record { code = pos 0; files = (codes "y", decimal (x * x) ++ 10 ∷ []) ∷ [] }

-- the row of a table for the job of a number: its request, and the square as its result
abbrev pub square_row : ℕ → Request × JobResult
square_row x = (square_request x, square_result x)

-- The request is that of a number below 100, and the result is its square.
pub record IsSquared (q : Request) (r : JobResult) : Type 0 where
  pub number : ℕ
  pub small : number < 100
  pub asks : q ≡ square_request number
  pub leaves : r ≡ square_result number

-- the rows of the numbers below this one, in their order
unfoldable pub square_rows : ℕ → List (Request × JobResult)
square_rows zero = []
square_rows (suc n) = square_rows n ++ square_row n ∷ []
