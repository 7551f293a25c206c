-- What a drill makes is sound.
use Rattle.std.specs.Prelude.{ℕ}
use Rattle.wc_world.specs.World.{World, empty}
use Rattle.wc_ends.specs.Runner.Laws.{StaysSound}
use Rattle.wc_drill.specs.Drilled.{Drills}

-- Each world that a drill makes at some moment, and the one in the end, is sound and continues the empty one.
abbrev pub DrillsAreSound : Type 0
DrillsAreSound = (seed count : ℕ) (v : World) → Drills seed count v → StaysSound empty v
