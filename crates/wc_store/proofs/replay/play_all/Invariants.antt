use Rattle.std.proofs.Common.{ℕ, List, drop}
use Rattle.wc_world.specs.World.{empty}
use Rattle.wc_store.specs.Held.{Standing, Plays}
use Rattle.wc_store.proofs.replay.play_all.Given as goal

-- what is left to be played makes of the world what all of it makes of the empty one
abbrev pub invariant-loop-number : goal.invariant-loop-number
invariant-loop-number l =
    (disk : ℕ) (image : List ℕ) (s : Standing)
    → Plays disk image l.fn.generation l.number l.played (drop l.number l.fn.batches.placed) s → Plays disk image l.fn.generation 0 empty l.fn.batches.placed s
