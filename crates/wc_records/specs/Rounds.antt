-- The round through all numbers that begins above one of them, and starts anew at the least.
use Rattle.std.specs.Prelude.{ℕ, nat_le, nat_lt, Bool, ◌&&◌, ◌||◌, if◌then◌else◌, List, [], ◌∷◌, Option, Some, None}

-- one number comes before another in the round that begins above the last one
abbrev pub comes_before : (last : ℕ) → ℕ → ℕ → Bool
comes_before last one other = if nat_lt last one then nat_le other last || nat_lt one other else nat_le other last && nat_lt one other

-- the one of two that comes first, where the first of them is there
abbrev pub earlier : (last : ℕ) → Option ℕ → ℕ → ℕ
earlier last None pid = pid
earlier last (Some one) pid = if comes_before last pid one then pid else one

-- the one that comes first of this one, if it is there, and of the processes of these due moments
abbrev pub first_with : (last : ℕ) → Option ℕ → List (ℕ × ℕ) → Option ℕ
first_with last best [] = best
first_with last best (d ∷ dues) = first_with last (Some (earlier last best d.1)) dues
