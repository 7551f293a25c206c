-- What turns leave of a store, and of its journal.
use Rattle.std.specs.Prelude.{◌≡◌, ◌⊎◌, ◌≤◌, ◌+◌, ℕ, length}
use Rattle.wc_io.specs.declared.pacer.Pacer as pacer
use Rattle.wc_journal.specs.declared.journal.Journal.{Journal}
use Rattle.wc_state.specs.declared.record.Limits.{Limits}
use Rattle.wc_transport.specs.declared.transport.Transport as transport
use Rattle.wc_world.specs.World.{World}
use Rattle.wc_runner.specs.Outside.{Outside}
use Rattle.wc_runner.specs.Trails.{IsLedTo}
use Rattle.wc_runner.specs.Trips.{TurnOf}
use Rattle.wc_runner.specs.Runs.{FitsIn, TakesTurns}

-- One world, by this journal, is what the turn of this process makes of another, by one batch and within the limits.
pub record IsTurnWithin (o : Outside) (pid : ℕ) (w v : World) (journal : Journal) : Type 0 where
  pub turn : TurnOf o pid w v
  pub fits : FitsIn o.limits v journal
  pub batch : v.batches ≡ w.batches + 1

-- the world by a journal that ends where this one does, or what the turn of this process makes of it
abbrev pub IsOrTurnOf : Outside → (pid : ℕ) → World → Journal → World → Journal → Type 0
IsOrTurnOf o pid w before v journal = ((v ≡ w) × (journal.end ≡ before.end)) ⊎ IsTurnWithin o pid w v journal

-- what at most so many turns and rests make of the world, within the limit of nodes where any turn was taken
abbrev pub SomeTurns : Outside → (most : ℕ) → World → World → Type 0
SomeTurns o most w v = TakesTurns o most w v × ((v ≡ w) ⊎ (length v.nodes ≤ o.limits.max_nodes))

-- A trail led from one world and its journal to another, within the limits, and what it saw is seen from the transport and the pacer that are left: each moment that was said on
-- it was said by then, and no failure was counted later than by then.
pub record IsLedWithin {T P : Type 0} (h : transport.Ghosts T) (k : pacer.Ghosts P) (limits : Limits) (most : ℕ)
    (a : T) (p : P) (w : World) (before : Journal) (b : T) (q : P) (v : World) (journal : Journal) : Type 0 where
  pub led : IsLedTo h k limits most a p w before v journal
  pub said : (moment : ℕ) → k.said led.clock moment → k.said q moment
  pub faults : h.faults led.left ≤ h.faults b
