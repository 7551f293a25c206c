-- A world to which a trail led is one that turns and rests make of the first.
use Rattle.std.proofs.Common.{inl, inr, ⊎_elim, ℕ}
use Rattle.wc_io.specs.declared.pacer.Pacer as pacer
use Rattle.wc_journal.specs.declared.journal.Journal.{Journal}
use Rattle.wc_state.specs.declared.record.Limits.{Limits}
use Rattle.wc_transport.specs.declared.transport.Transport as transport
use Rattle.wc_world.specs.World.{World}
use Rattle.wc_runner.specs.Leaves.{IsLedWithin}
use Rattle.wc_runner.specs.Outside.{in_run}
use Rattle.wc_runner.specs.Runs.{TakesWithin}
use Rattle.wc_runner.proofs.Gone.{taken_within}

pub led_is_taken : {T P : Type 0} (h : transport.Ghosts T) (k : pacer.Ghosts P) (limits : Limits) (most : ℕ) (a : T) (p : P) (w : World) (before : Journal) (b : T) (q : P)
    (v : World) (journal : Journal) → IsLedWithin h k limits most a p w before b q v journal → TakesWithin (in_run h k limits a b q) most w v journal
led_is_taken h k limits most a p w before b q v journal l =
    taken_within h k limits a p w l.led.all l.led.left l.led.clock v l.led.goes b q l.said l.faults most l.led.few journal
    (⊎_elim (λ same. inl same.0) (λ fits. inr fits) l.led.fits)
