-- What a run of workers leaves, where it comes to an end and where it breaks off.
use Rattle.std.proofs.Common.{◌≡◌, inl, inr, ℕ, suc, ◌+◌, ◌<◌, ◌≤◌, List, Result, Ok, Err, refl, sym, subst, arith}
use Rattle.std.specs.Prelude.{IfErr, IfOk, IsErrAnd, IsTrue}
use Rattle.wc_io.specs.Counts.{Rises}
use Rattle.wc_io.specs.declared.pacer.Pacer as pacer
use Rattle.wc_disk.specs.declared.disk.Disk as disk
use Rattle.wc_journal.specs.declared.journal.Journal.{Journal}
use Rattle.wc_state.specs.declared.record.Limits.{Limits}
use Rattle.wc_transport.specs.declared.transport.Transport as transport
use Rattle.wc_world.specs.World.{World}
use Rattle.wc_world.specs.Accepted.{IsReached}
use Rattle.wc_machine.specs.Questions.{need}
use Rattle.wc_machine.specs.Sound.{IsSound}
use Rattle.wc_store.specs.Stepped.{IsAsBefore, LeavesHeld, LeavesNow, Stepped, of_world}
use Rattle.wc_store.specs.declared.store.Store.{Store}
use Rattle.wc_pool.specs.Fits.{FitsWorld}
use Rattle.wc_pool.specs.Laws.{TurnsLeaveOthers}
use Rattle.wc_pool.specs.Pools.{IsSamePool}
use Rattle.wc_pool.specs.declared.pool.Pool.{Pool}
use Rattle.wc_runner.specs.Asked.{AreOfProcesses, AsksOnce, IsAsked, IsAskedFor}
use Rattle.wc_runner.specs.Codes.{AreBrought}
use Rattle.wc_runner.specs.Marks.{AreNoWorse}
use Rattle.wc_runner.specs.Outside.{Answers, Outside, in_run}
use Rattle.wc_runner.specs.Refusals.{RefusesRun, RefusesStep, is_live_after}
use Rattle.wc_runner.specs.Runs.{RisesBy, TakesAll, TakesFewer, TakesUpTo}
use Rattle.wc_runner.specs.Trails.{Says}
use Rattle.wc_runner.specs.Trips.{Turns}
use Rattle.wc_runner.specs.declared.error.RunError.{RunError}
use Rattle.wc_runner.specs.declared.error.RunError.TheVariants.{DiskFault, Full, OutOfMemory}
use Rattle.wc_runner.specs.declared.runs.RunEnd.{RunEnd}
use Rattle.wc_runner.specs.declared.runs.RunEnd.TheVariants.{AllEnded, Spent, Resting}
use Rattle.wc_runner.proofs.Codes.{turns_bring}
use Rattle.wc_runner.proofs.Journals.{step_by}
use Rattle.wc_runner.proofs.Known.{later_both}
use Rattle.wc_runner.proofs.ManyTurns.{turns_counted}
use Rattle.wc_runner.proofs.Marked.{turns_no_worse}
use Rattle.wc_runner.proofs.Taken.{asked_on, asked_up_to, ready_there, what_it_needs}
use Rattle.wc_runner.proofs.Widened.{turns_widened}
use Rattle.wc_workers.specs.Logs.{HoldsNone}
use Rattle.wc_workers.specs.Orders.{worker_of}
use Rattle.wc_workers.specs.Steps.{AsksInStep, IsOrHeldTurn, RefusesCommitting, RefusesHeld, given}
use Rattle.wc_workers.specs.Works.{EndsAs, IsLedWithin, Went}
use Rattle.wc_workers.specs.declared.order.WorkerOrder.{WorkerOrder}
use Rattle.wc_workers.specs.declared.steps.Done.{Done}
use Rattle.wc_workers.proofs.Directories.{valid_ready}
use Rattle.wc_workers.proofs.Given.{answers_told, refused_given}
use Rattle.wc_workers.proofs.Held.{held_fits, live_alike}
use Rattle.wc_workers.proofs.OnWork.{OnWork, asks_fail, directories_kept, directories_left, stepped_on, stepped_told}
use Rattle.wc_workers.proofs.Ordered.{counts_steps}
use Rattle.wc_workers.proofs.Worked.{Came, Counted, came_to, counted_all, held_answer}

-- All that is told of a run of workers that ended so.
pub record Ran {D T P : Type 0} (g : disk.Ghosts D) (h : transport.Ghosts T) (k : pacer.Ghosts P) (limits : Limits) (workers seed most : ℕ) (old : Store) (one two : D) (tr : T) (pa : P) (po : Pool)
    (result : Result RunEnd RunError) (new : Store) (one_new two_new : D) (tr_new : T) (pa_new : P) (po_new : Pool) : Type 0 where
  pub stepped : Stepped g (IsLedWithin h k limits workers seed most tr pa po old.world.world old.journal tr_new pa_new) (is_live_after result) old one two new one_new two_new
  pub went : Went h k limits workers seed most tr pa po old.world.world result new.journal tr_new pa_new po_new new.world.world
  pub fits : FitsWorld po_new new.world.world
  pub ends : IfOk result (EndsAs new.world.world)
  pub takes : HoldsNone po → TakesUpTo (in_run h k limits tr tr_new pa_new) most old.world.world new.world.world (k.rests pa) (k.rests pa_new)
  pub fewer : HoldsNone po → IfErr result (λ e. TakesFewer (in_run h k limits tr tr_new pa_new) most old.world.world new.world.world (k.rests pa) (k.rests pa_new))
  pub refused : HoldsNone po → IfErr result (RefusesRun (in_run h k limits tr tr_new pa_new) new)
  pub marks : HoldsNone po → (Rises (h.faults tr) (h.faults tr_new) → ⊥) → AreNoWorse old.world.world new.world.world
  pub codes : HoldsNone po → IsReached old.world.world → IsSound old.world.world → AreBrought (in_run h k limits tr tr_new pa_new) old.world.world new.world.world
  pub directories : AreOfProcesses (h.placed tr) old.world.world → IsTrue (g.tells one) → IsTrue (g.tells two)
      → LeavesNow g old.place (of_world (AreOfProcesses (h.placed tr_new))) one_new two_new
  pub processes : AreOfProcesses (h.placed tr) old.world.world → AreOfProcesses (h.placed tr_new) new.world.world
  pub asked : IsAskedFor h most tr tr_new

-- what holds of a refusal for want of memory holds of a result that is one alone
pub memory_alone : {A : Type 0} (r : Result A RunError) (P : Result A RunError → Type 0) → IsErrAnd r (λ e. e ≡ OutOfMemory) → P (Err OutOfMemory) → P r
memory_alone (Ok a) P is h = absurd is
memory_alone (Err e) P is h = subst (λ (x : RunError). P (Err x)) (sym is) h

pub ended_not_spent : AllEnded ≡ Spent → ⊥
ended_not_spent is = cc

pub resting_not_spent : Resting ≡ Spent → ⊥
resting_not_spent is = cc

-- one ask more
asks_more : {A T : Type 0} (h : transport.Ghosts T) (worker now : ℕ) (p : Pool) (w : World) (result : Result A RunError) (n : ℕ) (first old new : T)
    → IsAskedFor h n first old → AsksInStep h worker now p w result old new → IsAskedFor h (suc n) first new
asks_more h worker now p w result n first old new before (inl same) = subst (IsAskedFor h (suc n) first) (sym same) (asked_up_to h n (suc n) first old (omega arith) before)
asks_more h worker now p w result n first old new before (inr a) =
    let r = ready_there w a.lease.pid now (valid_ready p w a.lease now a.valid) in
    let stays : IsAsked h a.lease.pid (need w r.0) old new = what_it_needs w a.lease.pid (λ x. IsAsked h a.lease.pid x old new) r.0 r.1 a.stays in
    let once : AsksOnce result h.asked old new (need w r.0) = what_it_needs w a.lease.pid (AsksOnce result h.asked old new) r.0 r.1 a.asks in
    asked_on h result a.lease.pid n (need w r.0) first old new before stays once

-- a step is refused alike by a journal that ends at the same place
held_by : (limits : Limits) (worker now : ℕ) (p : Pool) (j l : Journal) (w : World) (e : RunError) → l.end ≡ j.end → l.version ≡ j.version
    → RefusesHeld limits worker now p j w e → RefusesHeld limits worker now p l w e
held_by limits worker now p j l w DiskFault end version h =
    record { lease = h.lease; answer = h.answer; had = h.had; valid = h.valid; refused = step_by (given h.answer limits now) j l w h.lease.pid DiskFault end version h.refused }
held_by limits worker now p j l w (Full what count limit) end version h =
    record { lease = h.lease; answer = h.answer; had = h.had; valid = h.valid; refused = step_by (given h.answer limits now) j l w h.lease.pid (Full what count limit) end version h.refused }
held_by limits worker now p j l w OutOfMemory end version h = tt

module _ {D T P : Type 0} (g : disk.Ghosts D) (h : transport.Ghosts T) (k : pacer.Ghosts P) (limits : Limits) (law : TurnsLeaveOthers) (workers seed most : ℕ) (old : Store) (one two : D) (tr : T) (pa : P)
    (po : Pool) (reached : IsReached old.world.world) (fits_first : FitsWorld po old.world.world)
    (taken : ℕ) (order : WorkerOrder) (s : Store) (one_s two_s : D) (tr_s : T) (pa_s : P) (q : Pool)
    (on : OnWork g h k limits workers seed most old one two tr pa po taken order s one_s two_s tr_s pa_s q) where
  counted : Counted h k limits workers seed tr pa po old.world.world on.goes.steps on.goes.rests tr_s pa_s
  counted = counted_all h k limits workers seed tr pa po old.world.world on.goes.steps on.goes.rests on.goes.log tr_s pa_s q s.world.world on.goes.works

  came : HoldsNone po → Came h k limits workers seed tr pa po old.world.world law on.goes.steps on.goes.rests on.goes.log tr_s pa_s q s.world.world
  came holds =
      came_to h k limits workers seed tr pa po old.world.world law reached fits_first holds on.goes.steps on.goes.rests on.goes.log tr_s pa_s q s.world.world on.goes.works

  -- ---- seen from a later transport and clock

  module _ (c : T) (r : P) (keeps : (moment : ℕ) → k.said pa_s moment → k.said r moment) (le : h.faults tr_s ≤ h.faults c) (same : k.rests r ≡ k.rests pa_s) (holds : HoldsNone po) where
    abbrev seen : Outside
    seen = in_run h k limits tr c r

    turns : Turns seen (came holds).count on.goes.rests old.world.world s.world.world
    turns = turns_widened (in_run h k limits tr tr_s pa_s) seen (later_both h k limits tr tr_s c pa_s r keeps le) (came holds).count on.goes.rests old.world.world s.world.world (came holds).taken

    taken_all : TakesAll seen ((came holds).count + on.goes.rests) old.world.world s.world.world (k.rests pa) (k.rests r)
    taken_all = record {
      count = (came holds).count;
      rests = on.goes.rests;
      all_of_them = refl;
      turns = turns;
      batches = turns_counted seen (came holds).count on.goes.rests old.world.world s.world.world turns;
      rested = subst (RisesBy on.goes.rests (k.rests pa)) (sym same) counted.rested;
    }

    takes_up_to : TakesUpTo seen most old.world.world s.world.world (k.rests pa) (k.rests r)
    takes_up_to = ((came holds).count + on.goes.rests, omega (arith, (came holds).few, on.goes.all_of_them, on.few), taken_all)

    takes_fewer : taken < most → TakesFewer seen most old.world.world s.world.world (k.rests pa) (k.rests r)
    takes_fewer less = ((came holds).count + on.goes.rests, omega (arith, (came holds).few, on.goes.all_of_them, less), taken_all)

    no_worse : (Rises (h.faults tr) (h.faults c) → ⊥) → AreNoWorse old.world.world s.world.world
    no_worse ok = turns_no_worse seen ok (came holds).count on.goes.rests old.world.world s.world.world turns

    brings_codes : IsReached old.world.world → IsSound old.world.world → AreBrought seen old.world.world s.world.world
    brings_codes there sound = turns_bring seen (came holds).count on.goes.rests old.world.world s.world.world there sound turns

  asks_so_far : IsAskedFor h most tr tr_s
  asks_so_far = asked_up_to h on.goes.steps most tr tr_s (omega (arith, on.goes.all_of_them, on.few)) counted.asked

  -- ---- it comes to an end

  pub ran_to : (end : RunEnd) → (end ≡ Spent → taken ≡ most) → EndsAs s.world.world end
      → Ran g h k limits workers seed most old one two tr pa po (Ok end) s one_s two_s tr_s pa_s q
  ran_to end spent ends =
      let same : (moment : ℕ) → k.said pa_s moment → k.said pa_s moment = λ moment said. said in
      let le : h.faults tr_s ≤ h.faults tr_s = omega arith in
      record {
        stepped = on.stepped;
        went = record {
          all = taken;
          few = on.few;
          spent = spent;
          goes = on.goes;
          told = subst (λ (n : ℕ). RisesBy n (k.told pa) (k.told pa_s)) on.goes.all_of_them counted.told;
          counts = counts_steps h k limits workers seed tr pa po old.world.world on.goes.steps on.goes.rests on.goes.log tr_s pa_s q s.world.world on.goes.works;
        };
        fits = on.fits;
        ends = ends;
        takes = takes_up_to tr_s pa_s same le refl;
        fewer = λ holds. tt;
        refused = λ holds. tt;
        marks = λ holds. no_worse tr_s pa_s same le refl holds;
        codes = λ holds. brings_codes tr_s pa_s same le refl holds;
        directories = directories_kept g h k limits workers seed most old one two tr pa po taken order s one_s two_s tr_s pa_s q on;
        processes = on.processes;
        asked = asks_so_far;
      }

  module _ (less : taken < most) (now : ℕ) (pa_v : P) (says : Says k now pa_s pa_v) where
    -- ---- memory ran out before a step

    pub ran_unasked : Ran g h k limits workers seed most old one two tr pa po (Err OutOfMemory) s one_s two_s tr_s pa_v q
    ran_unasked =
        let le : h.faults tr_s ≤ h.faults tr_s = omega arith in
        record {
          stepped = stepped_told g h k limits workers seed most old one two tr pa po taken order s one_s two_s tr_s pa_s q on pa_v says.keeps;
          went = record {
            all = taken;
            fewer = less;
            before = tr_s;
            clock = pa_s;
            pool = q;
            goes = on.goes;
            now = now;
            says = says;
            same = record { workers = refl; entries = λ pid. refl };
            last = inl (refl, refl);
          };
          fits = on.fits;
          ends = tt;
          takes = takes_up_to tr_s pa_v says.keeps le says.rests;
          fewer = λ holds. takes_fewer tr_s pa_v says.keeps le says.rests holds less;
          refused = λ holds. tt;
          marks = λ holds. no_worse tr_s pa_v says.keeps le says.rests holds;
          codes = λ holds. brings_codes tr_s pa_v says.keeps le says.rests holds;
          directories = directories_kept g h k limits workers seed most old one two tr pa po taken order s one_s two_s tr_s pa_s q on;
          processes = on.processes;
          asked = asks_so_far;
        }

    -- ---- a step is refused

    module _ (v : Store) (one_v two_v : D) (tr_v : T) (r : Pool) (e : RunError) (asks : AsksInStep {A = Done} h (worker_of workers seed on.goes.steps) now q s.world.world (Err e) tr_s tr_v)
        (as_before : IsAsBefore s v.world.world v.journal) (version : v.journal.version ≡ s.journal.version)
        (why : RefusesHeld limits (worker_of workers seed on.goes.steps) now q s.journal s.world.world e) where
      abbrev worker : ℕ
      worker = worker_of workers seed on.goes.steps

      not_fallen : h.faults tr_s ≤ h.faults tr_v
      not_fallen = asks_fail {A = Done} h worker now q s.world.world (Err e) tr_s tr_v asks

      -- the turn with the worker's answer is refused by what the run saw
      held_refused : HoldsNone po → (x : RunError) → RefusesCommitting limits worker now q s.journal s.world.world x
          → (pid : ℕ) × RefusesStep (in_run h k limits tr tr_v pa_v) s.journal s.world.world pid x
      held_refused holds x c =
          let o = in_run h k limits tr tr_v pa_v in
          let wide = later_both h k limits tr tr_s tr_v pa_s pa_v says.keeps not_fallen in
          let answer : Answers (in_run h k limits tr tr_s pa_s) s.world.world c.lease.pid c.answer
          = held_answer h k limits workers seed tr pa po old.world.world law on.goes.steps on.goes.rests on.goes.log tr_s pa_s q s.world.world (came holds) worker now c.lease c.answer c.had c.valid in (
            c.lease.pid,
            refused_given limits now s.world.world c.lease.pid c.answer o (held_fits q s.world.world worker c.lease c.answer now on.fits c.had c.valid)
                (answers_told (in_run h k limits tr tr_s pa_s) o (record { gave = wide.gave; brings = wide.brings; failed = wide.failed }) s.world.world c.lease.pid c.answer answer)
                says.said refl s.journal x c.refused,
          )

      refuses : (x : RunError) → RefusesHeld limits worker now q s.journal s.world.world x → HoldsNone po → RefusesRun (in_run h k limits tr tr_v pa_v) v x
      refuses DiskFault c holds = tt
      refuses (Full what count limit) c holds =
          let f = held_refused holds (Full what count limit) c in
          record {
            pid = f.0;
            refused = step_by (in_run h k limits tr tr_v pa_v) s.journal v.journal v.world.world f.0 (Full what count limit) as_before.1 version
                (subst (λ (w : World). RefusesStep (in_run h k limits tr tr_v pa_v) s.journal w f.0 (Full what count limit)) (sym as_before.0) f.1);
          }
      refuses OutOfMemory c holds = tt

      pub ran_refused : ((d : D) (t : ℕ) (image : List ℕ) → t ≤ g.moment d → g.may_leave d image → g.left_since d t image)
          → IsSamePool q r → FitsWorld r v.world.world
          → Stepped g (IsOrHeldTurn limits worker now q s.world.world s.journal) (is_live_after {T = Done} (Err e)) s one_s two_s v one_v two_v
          → (AreOfProcesses (h.placed tr_s) s.world.world → IsTrue (g.tells one_s) → IsTrue (g.tells two_s)
          → LeavesHeld g s.place (of_world (AreOfProcesses (h.placed tr_v))) one_s two_s one_v two_v)
          → (AreOfProcesses (h.placed tr_s) s.world.world → AreOfProcesses (h.placed tr_v) v.world.world)
          → Ran g h k limits workers seed most old one two tr pa po (Err e) v one_v two_v tr_v pa_v r
      ran_refused counts same_pool fits turned leaves processes = record {
        stepped = subst (λ (b : _). Stepped g (IsLedWithin h k limits workers seed most tr pa po old.world.world old.journal tr_v pa_v) b old one two v one_v two_v)
            (live_alike Done RunEnd e)
            (stepped_on g h k limits workers seed most old one two tr pa po taken order s one_s two_s tr_s pa_s q on less now pa_v says v one_v two_v tr_v not_fallen
            (is_live_after {T = Done} (Err e)) turned);
        went = subst (Went h k limits workers seed most tr pa po old.world.world (Err e) v.journal tr_v pa_v r) (sym as_before.0) (record {
          all = taken;
          fewer = less;
          before = tr_s;
          clock = pa_s;
          pool = q;
          goes = on.goes;
          now = now;
          says = says;
          same = same_pool;
          last = inr (record { refused = held_by limits worker now q s.journal v.journal s.world.world e as_before.1 version why; asks = asks });
        });
        fits = fits;
        ends = tt;
        takes = λ holds. subst (λ (w : World). TakesUpTo (in_run h k limits tr tr_v pa_v) most old.world.world w (k.rests pa) (k.rests pa_v)) (sym as_before.0)
            (takes_up_to tr_v pa_v says.keeps not_fallen says.rests holds);
        fewer = λ holds. subst (λ (w : World). TakesFewer (in_run h k limits tr tr_v pa_v) most old.world.world w (k.rests pa) (k.rests pa_v)) (sym as_before.0)
            (takes_fewer tr_v pa_v says.keeps not_fallen says.rests holds less);
        refused = refuses e why;
        marks = λ holds ok. subst (AreNoWorse old.world.world) (sym as_before.0) (no_worse tr_v pa_v says.keeps not_fallen says.rests holds ok);
        codes = λ holds there sound. subst (AreBrought (in_run h k limits tr tr_v pa_v) old.world.world) (sym as_before.0)
            (brings_codes tr_v pa_v says.keeps not_fallen says.rests holds there sound);
        directories = directories_left g h k limits workers seed most old one two tr pa po taken order s one_s two_s tr_s pa_s q on less now pa_v says v one_v two_v tr_v not_fallen
            counts leaves;
        processes = λ are. processes (on.processes are);
        asked = asked_up_to h (suc on.goes.steps) most tr tr_v (omega (arith, on.goes.all_of_them, less))
            (asks_more {A = Done} h worker now q s.world.world (Err e) on.goes.steps tr tr_s tr_v counted.asked asks);
      }
