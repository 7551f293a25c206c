-- The library of a process.
use Rattle.std.specs.Prelude.{ℕ, zero, suc, List, Option, None, slice_get}
use Rattle.wc_world.specs.World.{Known}

-- the library with this number, counted from 1, with the names that have caching on
abbrev pub known_at : List Known → ℕ → Option Known
known_at libraries zero = None
known_at libraries (suc place) = slice_get libraries place
