-- A run of a new pool.
use Rattle.std.proofs.Common.{◌≡◌, ◌⊎◌, inl, inr, ⊎_elim, ℕ, Bool, Result, Ok, Err, subst}
use Rattle.std.specs.Prelude.{IfErr, IfOk}
use Rattle.wc_io.specs.declared.pacer.Pacer as pacer
use Rattle.wc_disk.specs.declared.disk.Disk as disk
use Rattle.wc_journal.specs.declared.journal.Journal.{Journal}
use Rattle.wc_state.specs.declared.record.Limits.{Limits}
use Rattle.wc_transport.specs.declared.transport.Transport as transport
use Rattle.wc_world.specs.World.{World}
use Rattle.wc_store.specs.Stepped.{Stepped}
use Rattle.wc_store.specs.declared.store.Store.{Store}
use Rattle.wc_store.proofs.Stepping.{weaker_step}
use Rattle.wc_pool.specs.Pools.{IsNew, workers_of}
use Rattle.wc_pool.specs.declared.pool.Pool.{Pool}
use Rattle.wc_runner.specs.Runs.{FitsIn, RisesBy}
use Rattle.wc_runner.specs.declared.error.RunError.{RunError}
use Rattle.wc_runner.specs.declared.error.RunError.TheVariants.{OutOfMemory}
use Rattle.wc_runner.specs.declared.runs.RunEnd.{RunEnd}
use Rattle.wc_runner.specs.declared.runs.RunEnd.TheVariants.{Spent}
use Rattle.wc_workers.specs.Works.{IsLedByNew, IsLedWithin, Went, WentByNew}

module _ {T P : Type 0} (h : transport.Ghosts T) (k : pacer.Ghosts P) (limits : Limits) (workers seed most : ℕ) (a : T) (c : P) (w : World) (p : Pool) (new : IsNew workers p) where
  pub led_by_new : (before : Journal) (b : T) (d : P) (v : World) (journal : Journal) → IsLedWithin h k limits (workers_of p) seed most a c p w before b d v journal
      → IsLedByNew h k limits workers seed most a c w before b d v journal
  led_by_new before b d v journal led = inr (p, new, subst (λ (n : ℕ). IsLedWithin h k limits n seed most a c p w before b d v journal) new.count led)

  pub went_by_new : (result : Result RunEnd RunError) (journal : Journal) (b : T) (d : P) (q : Pool) (v : World) → Went h k limits (workers_of p) seed most a c p w result journal b d q v
      → WentByNew h k limits workers seed most a c w result journal b d v
  went_by_new result journal b d q v went = inl (p, q, new, subst (λ (n : ℕ). Went h k limits n seed most a c p w result journal b d q v) new.count went)

  pub spent_told : (result : Result RunEnd RunError) (journal : Journal) (b : T) (d : P) (q : Pool) (v : World) → Went h k limits (workers_of p) seed most a c p w result journal b d q v
      → IfOk result (λ end. end ≡ Spent → RisesBy most (k.told c) (k.told d))
  spent_told (Ok end) journal b d q v went = λ is. subst (λ (n : ℕ). RisesBy n (k.told c) (k.told d)) (went.spent is) went.told
  spent_told (Err e) journal b d q v went = tt

-- it is the world at first, or within the limits
pub fits_by_new : {T P : Type 0} (h : transport.Ghosts T) (k : pacer.Ghosts P) (limits : Limits) (workers seed most : ℕ) (a : T) (c : P) (w : World) (before : Journal) (b : T) (d : P) (v : World)
    (journal : Journal) → IsLedByNew h k limits workers seed most a c w before b d v journal → (v ≡ w) ⊎ FitsIn limits v journal
fits_by_new h k limits workers seed most a c w before b d v journal (inl same) = inl same.0
fits_by_new h k limits workers seed most a c w before b d v journal (inr led) = ⊎_elim (λ same. inl same.0) (λ fits. inr fits) led.2.fits

pub stepped_by_new : {D T P : Type 0} (g : disk.Ghosts D) (h : transport.Ghosts T) (k : pacer.Ghosts P) (limits : Limits) (workers seed most : ℕ) (a : T) (c : P) (p : Pool) → IsNew workers p
    → (old : Store) (one two : D) (whole : Bool) (store : Store) (one_new two_new : D) (b : T) (d : P)
    → Stepped g (IsLedWithin h k limits (workers_of p) seed most a c p old.world.world old.journal b d) whole old one two store one_new two_new
    → Stepped g (IsLedByNew h k limits workers seed most a c old.world.world old.journal b d) whole old one two store one_new two_new
stepped_by_new g h k limits workers seed most a c p new old one two whole store one_new two_new b d s =
    weaker_step g (IsLedWithin h k limits (workers_of p) seed most a c p old.world.world old.journal b d) (IsLedByNew h k limits workers seed most a c old.world.world old.journal b d) whole old store
    one two one_new two_new (λ v journal l. led_by_new h k limits workers seed most a c old.world.world p new old.journal b d v journal l.holds) s

pub or_memory : (result : Result RunEnd RunError) (Q : Type 0) → IfErr result (λ e. Q) → IfErr result (λ e. (e ≡ OutOfMemory) ⊎ Q)
or_memory (Ok end) Q h = tt
or_memory (Err e) Q h = inr h
