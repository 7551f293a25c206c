-- A run of workers under way: the steps and rests to where it is, in the order of the seed, and the step that it is so far.
use Rattle.std.proofs.Common.{◌≡◌, ◌⊎◌, inl, inr, ⊎_elim, ℕ, suc, ◌+◌, ◌<◌, ◌≤◌, Bool, true, List, [], ◌++◌, Result, refl, sym, ap, subst, ◌∙◌, arith}
use Rattle.std.specs.Prelude.{IsTrue, length}
use Rattle.wc_io.specs.Counts.{RisesByOne}
use Rattle.wc_io.specs.declared.pacer.Pacer as pacer
use Rattle.wc_disk.specs.declared.disk.Disk as disk
use Rattle.wc_journal.specs.declared.journal.Journal.{Journal}
use Rattle.wc_state.specs.declared.record.Limits.{Limits}
use Rattle.wc_transport.specs.declared.transport.Transport as transport
use Rattle.wc_world.specs.World.{World}
use Rattle.wc_machine.specs.Questions.{need}
use Rattle.wc_store.specs.declared.place.Place.{Place}
use Rattle.wc_store.specs.declared.store.Store.{Store}
use Rattle.wc_store.specs.Refusals.{byte_limit}
use Rattle.wc_store.specs.Stepped.{InGeneration, IsAsBefore, LeavesHeld, LeavesNow, Stepped, of_world}
use Rattle.wc_store.specs.Stores.{StandsFor}
use Rattle.wc_store.proofs.Stepping.{leaves_now, not_stepped, stands_now, stepped_then, weaker_step}
use Rattle.wc_pool.specs.Fits.{FitsWorld}
use Rattle.wc_pool.specs.Pools.{workers_of}
use Rattle.wc_pool.specs.declared.pool.Pool.{Pool}
use Rattle.wc_runner.specs.Asked.{AreOfProcesses, IsAsked}
use Rattle.wc_runner.specs.Runs.{FitsIn}
use Rattle.wc_runner.specs.Trails.{RestStep, Says}
use Rattle.wc_runner.specs.declared.error.RunError.{RunError}
use Rattle.wc_runner.proofs.Taken.{ready_there, what_it_needs}
use Rattle.wc_workers.specs.Logs.{moves_of}
use Rattle.wc_workers.specs.Orders.{IsAfterStep, StandsAt, worker_of}
use Rattle.wc_workers.specs.Steps.{AsksInStep, IsHeldTurn, IsOrHeldTurn, StepOf}
use Rattle.wc_workers.specs.Works.{Goes, HasNoLease, IsBusy, IsLedWithin, and_rest, and_step, starts}
use Rattle.wc_workers.specs.declared.order.WorkerOrder.{WorkerOrder}
use Rattle.wc_workers.specs.declared.steps.Done.{Done}
use Rattle.wc_workers.proofs.Directories.{valid_ready}
use Rattle.wc_workers.proofs.Ordered.{stands_next, step_count}

pub record OnWork {D T P : Type 0} (g : disk.Ghosts D) (h : transport.Ghosts T) (k : pacer.Ghosts P) (limits : Limits) (workers seed most : ℕ) (old : Store) (one two : D) (tr : T) (pa : P) (po : Pool)
    (taken : ℕ) (order : WorkerOrder) (store : Store) (one_now two_now : D) (tr_now : T) (pa_now : P) (pool : Pool) : Type 0 where
  pub goes : Goes h k limits workers seed taken tr pa po old.world.world tr_now pa_now pool store.world.world
  pub stands : StandsAt workers seed goes.steps order
  pub few : taken ≤ most
  pub stepped : Stepped g (IsLedWithin h k limits workers seed most tr pa po old.world.world old.journal tr_now pa_now) true old one two store one_now two_now
  pub processes : AreOfProcesses (h.placed tr) old.world.world → AreOfProcesses (h.placed tr_now) store.world.world
  pub fits : FitsWorld pool store.world.world
  pub count : workers_of pool ≡ workers

-- a step's call of the transport counts no failure less
pub asks_fail : {A T : Type 0} (h : transport.Ghosts T) (worker now : ℕ) (p : Pool) (w : World) (result : Result A RunError) (old new : T)
    → AsksInStep h worker now p w result old new → h.faults old ≤ h.faults new
asks_fail h worker now p w result old new (inl same) = let e : h.faults new ≡ h.faults old = ap h.faults same in omega arith
asks_fail h worker now p w result old new (inr a) =
    let r = ready_there w a.lease.pid now (valid_ready p w a.lease now a.valid) in
    let asked : IsAsked h a.lease.pid (need w r.0) old new = what_it_needs w a.lease.pid (λ n. IsAsked h a.lease.pid n old new) r.0 r.1 a.stays in
    ⊎_elim (λ same. omega (arith, same)) (λ (rises : RisesByOne (h.faults old) (h.faults new)). rises.later) asked.faults

module _ {D T P : Type 0} (g : disk.Ghosts D) (h : transport.Ghosts T) (k : pacer.Ghosts P) (limits : Limits) (workers seed most : ℕ) (old : Store) (one two : D) (tr : T) (pa : P) (po : Pool) where
  abbrev Led : T → P → World → Journal → Type 0
  Led = IsLedWithin h k limits workers seed most tr pa po old.world.world old.journal

  abbrev goes_none : Goes h k limits workers seed 0 tr pa po old.world.world tr pa po old.world.world
  goes_none = record { steps = 0; rests = 0; all_of_them = omega arith; log = []; works = starts }

  -- what steps led to is what they led to, seen from later on
  pub led_later : (b c : T) (q r : P) → ((moment : ℕ) → k.said q moment → k.said r moment) → h.faults b ≤ h.faults c → (v : World) (journal : Journal)
      → Led b q v journal → Led c r v journal
  led_later b c q r keeps le v journal l = record {
    all = l.all;
    few = l.few;
    left = l.left;
    clock = l.clock;
    pool = l.pool;
    there = l.there;
    goes = l.goes;
    is = ⊎_elim (λ same. inl same) (λ next. inr (record { fewer = next.fewer; now = next.now; said = keeps next.now next.said; turn = next.turn })) l.is;
    fits = l.fits;
    said = λ moment said. keeps moment (l.said moment said);
    faults = omega (arith, l.faults, le);
  }

  pub begins : ((d : D) (image : List ℕ) → g.left_since d (g.moment d) image → g.may_leave d image) → old.live ≡ true
      → (IsTrue (g.tells one) → IsTrue (g.tells two) → StandsFor g old one two) → (order : WorkerOrder) → StandsAt workers seed 0 order → FitsWorld po old.world.world
      → workers_of po ≡ workers → OnWork g h k limits workers seed most old one two tr pa po 0 order old one two tr pa po
  begins only_now live stands order is fits count = record {
    goes = goes_none;
    stands = is;
    few = omega arith;
    stepped = not_stepped g (Led tr pa) old one two only_now live stands (record {
      all = 0;
      few = omega arith;
      left = tr;
      clock = pa;
      pool = po;
      there = old.world.world;
      goes = goes_none;
      is = inl refl;
      fits = inl (refl, refl);
      said = λ moment said. said;
      faults = omega arith;
    });
    processes = λ are. are;
    fits = fits;
    count = count;
  }

  module _ (taken : ℕ) (order : WorkerOrder) (s : Store) (one_s two_s : D) (tr_s : T) (pa_s : P) (q : Pool)
      (on : OnWork g h k limits workers seed most old one two tr pa po taken order s one_s two_s tr_s pa_s q) where
    pub stands_there : IsTrue (g.tells one_s) → IsTrue (g.tells two_s) → StandsFor g s one_s two_s
    stands_there told told_too =
        on.stepped.call.stands refl (subst (λ (b : Bool). IsTrue b) on.stepped.call.tells_one told) (subst (λ (b : Bool). IsTrue b) on.stepped.call.tells_two told_too)

    -- the step so far, once the clock told a moment
    pub stepped_told : (pa_v : P) → ((moment : ℕ) → k.said pa_s moment → k.said pa_v moment) → Stepped g (Led tr_s pa_v) true old one two s one_s two_s
    stepped_told pa_v keeps =
        weaker_step g (Led tr_s pa_s) (Led tr_s pa_v) true old s one two one_s two_s
        (λ v journal l. led_later tr_s tr_s pa_s pa_v keeps (omega arith) v journal l.holds) on.stepped

    -- what a crash leaves where the store stands for its disks
    pub directories_kept : AreOfProcesses (h.placed tr) old.world.world → IsTrue (g.tells one) → IsTrue (g.tells two)
        → LeavesNow g old.place (of_world (AreOfProcesses (h.placed tr_s))) one_s two_s
    directories_kept are told told_too =
        subst (λ (p : Place). LeavesNow g p (of_world (AreOfProcesses (h.placed tr_s))) one_s two_s) on.stepped.place
        (stands_now g s (of_world (AreOfProcesses (h.placed tr_s))) one_s two_s (on.stepped.call.stands refl told told_too) (on.processes are))

    -- ---- a rest

    pub rests_on : taken < most → HasNoLease q → (pa_v : P) → RestStep k pa_s pa_v s.world.world → ((moment : ℕ) → k.said pa_s moment → k.said pa_v moment)
        → OnWork g h k limits workers seed most old one two tr pa po (taken + 1) order s one_s two_s tr_s pa_v q
    rests_on less none pa_v step keeps = record {
      goes = record {
        steps = on.goes.steps;
        rests = suc on.goes.rests;
        all_of_them = omega (arith, on.goes.all_of_them);
        log = on.goes.log;
        works = and_rest on.goes.steps on.goes.rests on.goes.log tr_s pa_s pa_v q s.world.world on.goes.works none step;
      };
      stands = on.stands;
      few = omega (arith, less);
      stepped = stepped_told pa_v keeps;
      processes = on.processes;
      fits = on.fits;
      count = on.count;
    }

    -- ---- a step

    module _ (less : taken < most) (now : ℕ) (pa_v : P) (says : Says k now pa_s pa_v) (v : Store) (one_v two_v : D) (tr_v : T) (le : h.faults tr_s ≤ h.faults tr_v) where
      abbrev worker : ℕ
      worker = worker_of workers seed on.goes.steps

      abbrev Stayed : World → Journal → Type 0
      Stayed = IsOrHeldTurn limits worker now q s.world.world s.journal

      from_first : (x : World) (journal : Journal) → InGeneration old.journal (Led tr_s pa_s) x journal → Led tr_v pa_v x journal
      from_first x journal l = led_later tr_s tr_v pa_s pa_v says.keeps le x journal l.holds

      fits_still : (x : World) (journal : Journal) → journal.version ≡ s.journal.version → IsAsBefore s x journal
          → ((x ≡ old.world.world) × (journal.end ≡ old.journal.end)) ⊎ FitsIn limits x journal
      fits_still x journal version same =
          ⊎_elim (λ first. inl (same.0 ∙ first.0, same.1 ∙ first.1))
          (λ (f : FitsIn limits s.world.world s.journal). inr (
            subst (λ (y : World). length y.nodes ≤ limits.max_nodes) (sym same.0) f.0,
            subst (λ (c : ℕ). journal.end + 1 ≤ byte_limit c limits.max_bytes) (sym version)
                (subst (λ (e : ℕ). e + 1 ≤ byte_limit s.journal.version limits.max_bytes) (sym same.1) f.1),
          )) on.stepped.comes.holds.fits

      led_still : (x : World) (journal : Journal) → journal.version ≡ s.journal.version → IsAsBefore s x journal → Led tr_v pa_v x journal
      led_still x journal version same = record {
        all = taken;
        few = on.few;
        left = tr_s;
        clock = pa_s;
        pool = q;
        there = s.world.world;
        goes = on.goes;
        is = inl same.0;
        fits = fits_still x journal version same;
        said = says.keeps;
        faults = le;
      }

      led_turn : (x : World) (journal : Journal) → IsHeldTurn limits worker now q s.world.world x journal → Led tr_v pa_v x journal
      led_turn x journal t = record {
        all = taken;
        few = on.few;
        left = tr_s;
        clock = pa_s;
        pool = q;
        there = s.world.world;
        goes = on.goes;
        is = inr (record { fewer = less; now = now; said = says.said; turn = t });
        fits = inr t.turn.fits;
        said = says.keeps;
        faults = le;
      }

      pub stepped_on : (whole : Bool) → Stepped g Stayed whole s one_s two_s v one_v two_v → Stepped g (Led tr_v pa_v) whole old one two v one_v two_v
      stepped_on whole turned =
          stepped_then g (Led tr_s pa_s) Stayed (Led tr_v pa_v) whole old s v one two one_s two_s one_v two_v from_first
          (λ x journal t. ⊎_elim (led_still x journal t.version) (led_turn x journal) t.holds) on.stepped turned

      pub goes_on : IsBusy q s.world.world now → (after : WorkerOrder) → IsAfterStep workers order after → (done : Done) (r : Pool)
          → StepOf h limits worker now tr_s tr_v q r s.world.world v.world.world done → FitsWorld r v.world.world
          → Stepped g Stayed true s one_s two_s v one_v two_v
          → (AreOfProcesses (h.placed tr_s) s.world.world → AreOfProcesses (h.placed tr_v) v.world.world)
          → OnWork g h k limits workers seed most old one two tr pa po (taken + 1) after v one_v two_v tr_v pa_v r
      goes_on busy after next done r does fits turned processes = record {
        goes = record {
          steps = suc on.goes.steps;
          rests = on.goes.rests;
          all_of_them = omega (arith, on.goes.all_of_them);
          log = moves_of h limits worker now tr_s tr_v q r s.world.world v.world.world done does ++ on.goes.log;
          works = and_step on.goes.steps on.goes.rests on.goes.log tr_s pa_s q s.world.world on.goes.works now done tr_v pa_v r v.world.world says busy does;
        };
        stands = stands_next workers seed on.goes.steps order after on.stands next;
        few = omega (arith, less);
        stepped = stepped_on true turned;
        processes = λ are. processes (on.processes are);
        fits = fits;
        count = step_count h limits worker now tr_s tr_v q r s.world.world v.world.world done does ∙ on.count;
      }

      -- what a crash leaves after it
      pub directories_left : ((d : D) (t : ℕ) (image : List ℕ) → t ≤ g.moment d → g.may_leave d image → g.left_since d t image)
          → (AreOfProcesses (h.placed tr_s) s.world.world → IsTrue (g.tells one_s) → IsTrue (g.tells two_s)
          → LeavesHeld g s.place (of_world (AreOfProcesses (h.placed tr_v))) one_s two_s one_v two_v)
          → AreOfProcesses (h.placed tr) old.world.world → IsTrue (g.tells one) → IsTrue (g.tells two)
          → LeavesNow g old.place (of_world (AreOfProcesses (h.placed tr_v))) one_v two_v
      directories_left counts turn are told told_too =
          subst (λ (p : Place). LeavesNow g p (of_world (AreOfProcesses (h.placed tr_v))) one_v two_v) on.stepped.place
          (leaves_now g s.place (of_world (AreOfProcesses (h.placed tr_v))) one_s two_s one_v two_v counts
          (turn (on.processes are) (subst (λ (b : Bool). IsTrue b) (sym on.stepped.call.tells_one) told) (subst (λ (b : Bool). IsTrue b) (sym on.stepped.call.tells_two) told_too)))
