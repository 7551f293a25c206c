-- What a call has had of the transport and the clock.
use Rattle.std.specs.Prelude.{ℕ, Option, Result}
use Rattle.wc_io.specs.declared.pacer.Pacer as pacer
use Rattle.wc_journal.specs.declared.journal.Journal.{Journal}
use Rattle.wc_value.specs.declared.process.Request.{Request}
use Rattle.wc_state.specs.declared.record.Limits.{Limits}
use Rattle.wc_transport.specs.declared.transport.Transport as transport
use Rattle.wc_world.specs.World.{World}
use Rattle.wc_drill.specs.Runner.declared.error.RunError.{RunError}
use Rattle.wc_drill.specs.Runner.declared.runs.RunEnd.{RunEnd}
use Rattle.wc_drill.specs.Runner.Leaves.{IsLedWithin}
use Rattle.wc_drill.specs.Runner.Orders.{Went}
use Rattle.wc_drill.specs.Runner.Outside.{Outside, in_run}

-- What a call has had of the transport and the clock: what a run within these limits sees of them; which worlds, by which journals, at most so many turns
-- and rests led to from a world by its journal, each turn with the answer to its own call of the transport; how a run went with the order of a seed, that came to an end or broke off
-- at a world by this journal, from the transport and the clock as they were to those that are left; how many rests were counted before it and after it;
-- and which requests were placed.
pub record Exchange : Type 1 where
  pub sees : Limits → Outside
  pub leads : Limits → (most : ℕ) → World → Journal → World → Journal → Type 0
  pub went : Limits → (seed most : ℕ) → World → Result RunEnd RunError → Journal → World → Type 0
  pub rests : ℕ
  pub rests_new : ℕ
  pub placed : Option (ℕ → Option Request)
  pub placed_new : Option (ℕ → Option Request)

-- What a run within some limits sees of the transport and the clock (`in_run`), to which worlds turns and rests led from those before (`IsLedWithin`),
-- how a run went from those before to those after, in the order of a seed (`Went`), how many rests were counted, and which requests were placed, before
-- and after
abbrev pub exchange : {T P : Type 0} → transport.Ghosts T → pacer.Ghosts P → (old new : T) → (clock clock_new : P) → Exchange
exchange g h old new clock clock_new = record {
  sees = λ limits. in_run g h limits old new clock_new;
  leads = λ limits most w before v journal. IsLedWithin g h limits most old clock w before new clock_new v journal;
  went = λ limits seed most w result journal v. Went g h limits old clock w seed most result journal new clock_new v;
  rests = h.rests clock;
  rests_new = h.rests clock_new;
  placed = g.placed old;
  placed_new = g.placed new;
}
