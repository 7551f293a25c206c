-- In which order a run takes its turns, and how it went.
use Rattle.std.proofs.Common.{inl, inr}
use Rattle.std.specs.Prelude.{◌≡◌, ◌⊎◌, ℕ, Result, Ok, Err}
use Rattle.wc_io.specs.declared.pacer.Pacer as pacer
use Rattle.wc_journal.specs.declared.journal.Journal.{Journal}
use Rattle.wc_state.specs.declared.record.Limits.{Limits}
use Rattle.wc_transport.specs.declared.transport.Transport as transport
use Rattle.wc_world.specs.World.{World}
use Rattle.wc_core.specs.Order.{IsChosen, IsOf}
use Rattle.wc_core.specs.declared.next.Next.TheVariants as next
use Rattle.wc_core.specs.declared.order.Order.{Order}
use Rattle.wc_runner.specs.Trails.{BreaksOff, Completes, IsRefusedAt, Trail, starts, and_turn, and_rest}
use Rattle.wc_runner.specs.declared.error.RunError.{RunError}
use Rattle.wc_runner.specs.declared.error.RunError.TheVariants.{OutOfMemory}
use Rattle.wc_runner.specs.declared.runs.RunEnd.{RunEnd}

module _ {T P : Type 0} (h : transport.Ghosts T) (k : pacer.Ghosts P) (limits : Limits) (a : T) (p : P) (w : World) where
  -- Each turn of the trail is that of the process which comes next by the order that the turns before it left; a rest leaves the order.
  abbrev pub IsInOrder : (first : Order) (n m : ℕ) (b : T) (q : P) (v : World) → Trail h k limits a p w n m b q v → (last : Order) → Type 0
  IsInOrder first n m b q v starts last = last ≡ first
  IsInOrder first n m b q v (and_turn i j c d r s u x t step) last =
      (mid : Order) × IsInOrder first i j c r u t mid × IsChosen u step.now mid last (next.Turn step.pid)
  IsInOrder first n m b q v (and_rest i j c r s u t step) last = IsInOrder first i j c r u t last

  -- the order that the trail left, from that of this seed
  abbrev pub IsSeeded : (seed : ℕ) (n m : ℕ) (b : T) (q : P) (v : World) → Trail h k limits a p w n m b q v → Order → Type 0
  IsSeeded seed n m b q v t last = (first : Order) × IsOf seed first × IsInOrder first n m b q v t last

  -- the turn that is refused would have come next; where memory ran out before one, there is none
  abbrev pub IsNextIn : Order → (now : ℕ) (old new : T) (journal : Journal) (v : World) (e : RunError)
      → ((new ≡ old) × (e ≡ OutOfMemory)) ⊎ IsRefusedAt h limits now old new journal v e → Type 0
  IsNextIn last now old new journal v e (inl none) = Unit {0}
  IsNextIn last now old new journal v e (inr refused) = (after : Order) × IsChosen v now last after (next.Turn refused.pid)

  -- A run came to an end, or broke off: a trail led to what is left, and its turns are in the order of the seed.
  abbrev pub Went : (seed most : ℕ) → Result RunEnd RunError → Journal → T → P → World → Type 0
  Went seed most (Ok end) journal b q v =
      (c : Completes h k limits most a p w end b q v) × ((last : Order) × IsSeeded seed c.goes.count c.goes.rests b q v c.goes.trail last)
  Went seed most (Err e) journal b q v =
      (r : BreaksOff h k limits most a p w journal e b q v)
      × ((last : Order) × IsSeeded seed r.goes.count r.goes.rests r.before r.clock v r.goes.trail last × IsNextIn last r.now r.before b journal v e r.last)
