-- Laws of turns one after another.
use Rattle.std.specs.Prelude.{◌≡◌, ℕ, ◌+◌}
use Rattle.wc_io.specs.declared.pacer.Pacer as pacer
use Rattle.wc_state.specs.declared.record.Limits.{Limits}
use Rattle.wc_transport.specs.declared.transport.Transport as transport
use Rattle.wc_world.specs.World.{World}
use Rattle.wc_world.specs.Accepted.{IsReached}
use Rattle.wc_machine.specs.Continues.{Continues}
use Rattle.wc_machine.specs.Sound.{IsSound}
use Rattle.wc_runner.specs.Asked.{IsAskedFor}
use Rattle.wc_runner.specs.Outside.{Outside, in_run}
use Rattle.wc_runner.specs.Runs.{RisesBy}
use Rattle.wc_runner.specs.Trails.{Trail}
use Rattle.wc_runner.specs.Trips.{Turns}

-- The later world is sound too, and holds all that the earlier one held.
pub record StaysSound (w v : World) : Type 0 where
  pub sound : IsSound v
  pub continues : Continues w v
  pub reached : IsReached v

-- turns keep a sound world sound, and lose nothing that it held
abbrev pub TurnsKeepSound : Outside → Type 0
TurnsKeepSound o = (n m : ℕ) (w v : World) → IsReached w → IsSound w → Turns o n m w v → StaysSound w v

-- each turn is one batch
abbrev pub TurnsAreBatches : Outside → Type 0
TurnsAreBatches o = (n m : ℕ) (w v : World) → Turns o n m w v → v.batches ≡ w.batches + n

-- The law: each world that accepted changes made continues itself
abbrev pub WorldsContinueThemselves : Type 0
WorldsContinueThemselves = (w : World) → IsReached w → Continues w w

-- The law: a world that continues another also continues what that one continues
abbrev pub ContinuingGoesOn : Type 0
ContinuingGoesOn = (u v w : World) → Continues u v → Continues v w → Continues u w

-- What a trail of so many turns and so many rests comes to: turns and rests by what a run sees, where the transport was asked at most once for
-- each turn and never for a rest, the pacer counted each rest, and was asked for a moment once for each turn and each rest.
pub record ComesTo {T P : Type 0} (h : transport.Ghosts T) (k : pacer.Ghosts P) (limits : Limits) (turns rests : ℕ)
    (a : T) (p : P) (w : World) (b : T) (q : P) (v : World) : Type 0 where
  pub taken : Turns (in_run h k limits a b q) turns rests w v
  pub asked : IsAskedFor h turns a b
  pub rested : RisesBy rests (k.rests p) (k.rests q)
  pub told : RisesBy (turns + rests) (k.told p) (k.told q)

-- each trail comes to this
abbrev pub TrailsComeTo : {T P : Type 0} → transport.Ghosts T → pacer.Ghosts P → Type 0
TrailsComeTo {T} {P} h k = (limits : Limits) (n m : ℕ) (a b : T) (p q : P) (w v : World) → Trail h k limits a p w n m b q v
    → ComesTo h k limits n m a p w b q v
