-- What a scheduler printed, by a record of its answers.
use Rattle.std.specs.Prelude.{ℕ, ◌==◌, if◌then◌else◌, List, [], ◌∷◌, Option, Some, None, slice_index}
use Rattle.wc_io.specs.Events.{Event}

-- the answers, the last one first: of an event with the number 1 its bytes, and of any other none
abbrev pub answers_in : List Event → List (Option (List ℕ))
answers_in [] = []
answers_in ((numbers, name, bytes) ∷ earlier) = (if slice_index numbers 0 == 1 then Some bytes else None) ∷ answers_in earlier
