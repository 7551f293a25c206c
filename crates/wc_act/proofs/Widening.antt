-- Turns of a run are turns where any moment may be said, and any reply given.
use Rattle.std.proofs.Common.{◌≤◌, ◌+◌, ℕ, refl, arith}
use Rattle.wc_world.specs.World.{World}
use Rattle.wc_journal.specs.declared.journal.Journal.{Journal}
use Rattle.wc_drill.specs.Runner.declared.error.RunError.{RunError}
use Rattle.wc_drill.specs.Runner.declared.runs.RunEnd.{RunEnd}
use Rattle.wc_drill.specs.Runner.declared.runs.RunEnd.TheVariants.{AllEnded, Spent, Resting}
use Rattle.wc_drill.specs.Runner.Outside.{Outside}
use Rattle.wc_drill.specs.Runner.Refusals.{RefusesStep}
use Rattle.wc_drill.specs.Runner.Runs.{TakesTurns, TakesAll, TakesUpTo, TakesFewer, EndsAs}
use Rattle.wc_drill.proofs.Runner.Widened.{Widens, step_widened, turns_widened}
use Rattle.wc_act.specs.Runs.{widest, TakesJust, EndsSo, TakesFewer as FewerTaken}

module _ (o : Outside) where
  wide : Widens o (widest o.limits)
  wide = record { said = λ moment h. tt; gave = λ dir t q reply h. tt; brings = λ q result h. tt; failed = λ h. tt; limits = refl }

  takes_just : (all : ℕ) (w v : World) (begun now : ℕ) → TakesAll o all w v begun now → TakesJust o.limits all w v
  takes_just all w v begun now h = record {
    count = h.count;
    rests = h.rests;
    all_of_them = h.all_of_them;
    turns = turns_widened o (widest o.limits) wide h.count h.rests w v h.turns;
    batches = h.batches;
  }

  -- what it has taken
  pub takes_up_to : (most : ℕ) (w v : World) (begun now : ℕ) → TakesUpTo o most w v begun now → TakesTurns (widest o.limits) most w v
  takes_up_to most w v begun now h =
      let t = h.2 in
      let few : t.count + t.rests ≤ most = omega (arith, h.1, t.all_of_them) in
      record { count = t.count; rests = t.rests; few = few; turns = turns_widened o (widest o.limits) wide t.count t.rests w v t.turns; batches = t.batches }

  pub takes_fewer : (most : ℕ) (w v : World) (begun now : ℕ) → TakesFewer o most w v begun now → FewerTaken o.limits most w v
  takes_fewer most w v begun now h = (h.0, h.1, takes_just h.0 w v begun now h.2)

  -- how it ends
  pub ends_so : (most : ℕ) (w v : World) (begun now : ℕ) (e : RunEnd) → EndsAs o most w v begun now e → EndsSo o.limits most w v e
  ends_so most w v begun now AllEnded h = h
  ends_so most w v begun now Spent h = (h.0, h.1, takes_just most w v begun now h.2)
  ends_so most w v begun now Resting h = h

  -- why it breaks off
  pub refuses_step : (journal : Journal) (w : World) (pid : ℕ) (e : RunError) → RefusesStep o journal w pid e → RefusesStep (widest o.limits) journal w pid e
  refuses_step = step_widened o (widest o.limits) wide
