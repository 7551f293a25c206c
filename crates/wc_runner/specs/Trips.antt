-- Turns and rests one after another.
use Rattle.std.specs.Prelude.{◌≡◌, ◌<◌, ℕ, zero, suc, List, [], Some}
use Rattle.wc_world.specs.declared.change.Change.{Change}
use Rattle.wc_world.specs.World.{World}
use Rattle.wc_world.specs.Accepted.{IsAccepted}
use Rattle.wc_world.specs.Applied.{applied}
use Rattle.wc_machine.specs.declared.answer.TaskAnswer.{TaskAnswer}
use Rattle.wc_machine.specs.Machine.{Leads, turn}
use Rattle.wc_machine.specs.Readiness.{ready_at}
use Rattle.wc_core.specs.Next.{IsLeastDue}
use Rattle.wc_runner.specs.Outside.{Outside, Answers}

-- ---- turns

-- These are the changes of the turn of this process, at a moment that was said, with the answer to what it needs.
pub record IsTurn (o : Outside) (pid : ℕ) (w : World) (cs : List Change) : Type 0 where
  pub moment : ℕ
  pub said : o.said moment
  pub answer : TaskAnswer
  pub answered : Answers o w pid answer
  pub leads : Leads o.limits.poll_ms w (turn pid answer moment) cs

-- One world is what the turn of this process makes of another.
pub record TurnOf (o : Outside) (pid : ℕ) (w v : World) : Type 0 where
  pub changes : List Change
  pub turn : IsTurn o pid w changes
  pub accepted : IsAccepted w changes
  pub after : v ≡ applied w changes

-- one world is what the turn of some process makes of another
abbrev pub OneTurn : Outside → World → World → Type 0
OneTurn o w v = (pid : ℕ) × TurnOf o pid w v

-- ---- rests

-- No process of the world is ready at a moment that was said, and there is a rest until the least due moment of a live job that isn't paused.
pub record RestsAt (o : Outside) (w : World) : Type 0 where
  pub moment : ℕ
  pub said : o.said moment
  pub none : ready_at w moment ≡ []
  pub until : ℕ
  pub later : moment < until
  pub least : IsLeastDue w (Some until)

-- ---- turns and rests

-- so many turns and so many rests, one after another
pub data Turns (o : Outside) : (turns rests : ℕ) → World → World → Type 0 where
  none : (w : World) → Turns o zero zero w w
  one_more : (n m : ℕ) (u v w : World) → Turns o n m u v → OneTurn o v w → Turns o (suc n) m u w
  one_rest : (n m : ℕ) (u v : World) → Turns o n m u v → RestsAt o v → Turns o n (suc m) u v
