-- Turns of the run of a drill are turns in which each result is the square of a number.
use Rattle.std.proofs.Common.{◌≡◌, ◌≤◌, inl, inr, ⊎_elim, ℕ, Some, Result, Ok, Err, length, subst, arith}
use Rattle.std.specs.Prelude.{IfOk, OnErr}
use Rattle.wc_io.specs.declared.pacer.Pacer as pacer
use Rattle.wc_value.specs.declared.process.JobResult.{JobResult}
use Rattle.wc_value.specs.declared.process.Request.{Request}
use Rattle.wc_journal.specs.declared.journal.Journal.{Journal}
use Rattle.wc_state.specs.declared.record.Limits.{Limits}
use Rattle.wc_transport.specs.Outside.{IsRow, WhereTold}
use Rattle.wc_transport.specs.declared.transport.Transport as transport
use Rattle.wc_world.specs.Accepted.{IsReached}
use Rattle.wc_world.specs.World.{World}
use Rattle.wc_store.specs.declared.store.Store.{Store}
use Rattle.wc_ends.specs.Runner.declared.error.RunError.{RunError}
use Rattle.wc_ends.specs.Runner.declared.error.RunError.TheVariants.{DiskFault, Full, OutOfMemory}
use Rattle.wc_ends.specs.Runner.declared.runs.RunEnd.{RunEnd}
use Rattle.wc_ends.specs.Runner.declared.runs.RunEnd.TheVariants.{AllEnded}
use Rattle.wc_ends.specs.Runner.Leaves.{SomeTurns}
use Rattle.wc_ends.specs.Enough.{HasEnough}
use Rattle.wc_ends.specs.Runner.Orders.{Went}
use Rattle.wc_ends.specs.Runner.Outside.{Outside, in_run}
use Rattle.wc_ends.specs.Runner.Refusals.{RefusesRun}
use Rattle.wc_ends.specs.Runner.Runs.{TakesAll, TakesWithin, Ends, EndsAs}
use Rattle.wc_ends.specs.Runner.Runs.{TakesFewer as FewerTaken}
use Rattle.wc_ends.proofs.EveryProcess.{enough_turns_end}
use Rattle.wc_ends.proofs.Runner.Widened.{Widens, step_widened, turns_widened}
use Rattle.wc_drill.specs.Squares.{square_rows}
use Rattle.wc_drill.proofs.Rows.{row_is_squared}
use Rattle.wc_drill.specs.Drilled.{outside, usual_limits}
use Rattle.wc_drill.specs.Runs.{EndsAll, TakesFewer, TakesJust}

module _ {T P : Type 0} (h : transport.Ghosts T) (k : pacer.Ghosts P) (limits : Limits) (usual : limits ≡ usual_limits) (tr tr_new : T) (pa pa_new : P)
    (table : h.table tr ≡ Some (square_rows 100)) where
  abbrev known : Outside
  known = in_run h k limits tr tr_new pa_new

  squared : (q : Request) (r : JobResult) → WhereTold (IsRow q r) (h.table tr) → outside.brings q r
  squared q r told =
      let row : IsRow q r (square_rows 100) = subst (WhereTold (IsRow q r)) table told in
      row_is_squared 100 q r (omega arith) row.stands

  pub wide : Widens known outside
  wide = record { said = λ moment said. tt; gave = λ dir t q reply given. tt; brings = squared; failed = λ rises. tt; limits = usual }

  takes_just : (all : ℕ) (w v : World) (begun now : ℕ) → TakesAll known all w v begun now → TakesJust all w v
  takes_just all w v begun now t = record { count = t.count; rests = t.rests; all_of_them = t.all_of_them; turns = turns_widened known outside wide t.count t.rests w v t.turns }

  -- and it breaks off before it has taken all
  takes_fewer : (most : ℕ) (w v : World) (begun now : ℕ) → FewerTaken known most w v begun now → TakesFewer most w v
  takes_fewer most w v begun now t = (t.0, t.1, takes_just t.0 w v begun now t.2)

  -- it breaks off before it has taken all
  pub breaks_early : (most : ℕ) (w v : World) (begun now : ℕ) (result : Result RunEnd RunError) → Ends known most w v begun now result → OnErr result (TakesFewer most w v)
  breaks_early most w v begun now (Ok end) e = tt
  breaks_early most w v begun now (Err error) e = takes_fewer most w v begun now e

  -- and with enough turns no process is live where it ends
  pub ends_all : (most seed : ℕ) (w v : World) (begun now : ℕ) (journal : Journal) (result : Result RunEnd RunError) → IsReached w → HasEnough h k tr pa w most
      → Went h k limits tr pa w seed most result journal tr_new pa_new v → Ends known most w v begun now result → IfOk result (EndsAll v)
  ends_all most seed w v begun now journal (Ok end) reached enough went ends =
      let all : end ≡ AllEnded = enough_turns_end h k limits most tr tr_new pa pa_new w v end begun now reached enough went.0 ends in
      (all, subst (EndsAs known most w v begun now) all ends)
  ends_all most seed w v begun now journal (Err error) reached enough went ends = tt

  -- what it leaves
  pub some_turns : (most : ℕ) (w v : World) (journal : Journal) → TakesWithin known most w v journal → SomeTurns outside most w v
  some_turns most w v journal s = (
    record { count = s.0.count; rests = s.0.rests; few = s.0.few; turns = turns_widened known outside wide s.0.count s.0.rests w v s.0.turns; batches = s.0.batches },
    ⊎_elim (λ still. inl still) (λ fits. inr (subst (λ (l : Limits). length v.nodes ≤ l.max_nodes) usual fits.0)) s.1,
  )

  -- why it breaks off
  pub refuses_run : (store : Store) (e : RunError) → RefusesRun known store e → RefusesRun outside store e
  refuses_run store DiskFault r = tt
  refuses_run store (Full what count limit) r = record {
    pid = r.pid;
    refused = step_widened known outside wide store.journal store.world.world r.pid (Full what count limit) r.refused;
  }
  refuses_run store OutOfMemory r = tt
