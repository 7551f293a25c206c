-- What a run leaves, where it comes to an end and where it breaks off.
use Rattle.std.proofs.Common.{◌≡◌, ℕ, ◌<◌, ◌≤◌, true, List, Result, Ok, Err, refl, sym, subst, arith}
use Rattle.std.specs.Prelude.{IfErr, IsTrue}
use Rattle.wc_io.specs.Counts.{Rises}
use Rattle.wc_io.specs.declared.pacer.Pacer as pacer
use Rattle.wc_disk.specs.declared.disk.Disk as disk
use Rattle.wc_state.specs.declared.record.Limits.{Limits}
use Rattle.wc_transport.specs.declared.transport.Transport as transport
use Rattle.wc_world.specs.World.{World}
use Rattle.wc_world.specs.Accepted.{IsReached}
use Rattle.wc_machine.specs.Questions.{Need}
use Rattle.wc_machine.specs.Sound.{IsSound}
use Rattle.wc_core.specs.Order.{IsChosen}
use Rattle.wc_core.specs.Ready.{is_ready_at}
use Rattle.wc_core.specs.declared.next.Next.TheVariants.{Turn}
use Rattle.wc_core.specs.declared.order.Order.{Order}
use Rattle.wc_store.specs.Stepped.{IsAsBefore, LeavesHeld, LeavesNow, Stepped, of_world}
use Rattle.wc_store.specs.declared.store.Store.{Store}
use Rattle.wc_runner.specs.Asked.{AreOfProcesses, AsksOnce, IsAsked, IsAskedFor, WhatItNeeds}
use Rattle.wc_runner.specs.Codes.{AreBrought}
use Rattle.wc_runner.specs.Leaves.{IsLedWithin, IsOrTurnOf}
use Rattle.wc_runner.specs.Marks.{AreNoWorse}
use Rattle.wc_runner.specs.Orders.{Went}
use Rattle.wc_runner.specs.Outside.{in_run, in_turn}
use Rattle.wc_runner.specs.Refusals.{IsUnchanged, RefusesRun, RefusesStep, is_live_after}
use Rattle.wc_runner.specs.Runs.{Ends, EndsAs, TakesAll, TakesUpTo}
use Rattle.wc_runner.specs.Trails.{Says}
use Rattle.wc_runner.specs.declared.error.RunError.{RunError}
use Rattle.wc_runner.specs.declared.error.RunError.TheVariants.{OutOfMemory}
use Rattle.wc_runner.specs.declared.runs.RunEnd.{RunEnd}
use Rattle.wc_runner.specs.declared.runs.RunEnd.TheVariants.{Spent}
use Rattle.wc_runner.proofs.Gone.{asks, asks_more, brings_codes, no_worse, taken_all}
use Rattle.wc_runner.proofs.OnTrail.{OnTrail, directories_kept, directories_left, not_fallen, refuses, stepped_refused, stepped_told}
use Rattle.wc_runner.proofs.Trailed.{went_to_refusal, went_unasked}

-- All that is told of a run that ended so.
pub record Ran {D T P : Type 0} (g : disk.Ghosts D) (h : transport.Ghosts T) (k : pacer.Ghosts P) (limits : Limits) (seed most : ℕ) (old : Store) (one two : D) (tr : T) (pa : P)
    (result : Result RunEnd RunError) (new : Store) (one_new two_new : D) (tr_new : T) (pa_new : P) : Type 0 where
  pub stepped : Stepped g (IsLedWithin h k limits most tr pa old.world.world old.journal tr_new pa_new) (is_live_after result) old one two new one_new two_new
  pub went : Went h k limits tr pa old.world.world seed most result new.journal tr_new pa_new new.world.world
  pub takes : TakesUpTo (in_run h k limits tr tr_new pa_new) most old.world.world new.world.world (k.rests pa) (k.rests pa_new)
  pub ends : Ends (in_run h k limits tr tr_new pa_new) most old.world.world new.world.world (k.rests pa) (k.rests pa_new) result
  pub refused : IfErr result (RefusesRun (in_run h k limits tr tr_new pa_new) new)
  pub directories : AreOfProcesses (h.placed tr) old.world.world → IsTrue (g.tells one) → IsTrue (g.tells two)
      → LeavesNow g old.place (of_world (AreOfProcesses (h.placed tr_new))) one_new two_new
  pub processes : AreOfProcesses (h.placed tr) old.world.world → AreOfProcesses (h.placed tr_new) new.world.world
  pub marks : (Rises (h.faults tr) (h.faults tr_new) → ⊥) → AreNoWorse old.world.world new.world.world
  pub codes : IsReached old.world.world → IsSound old.world.world → AreBrought (in_run h k limits tr tr_new pa_new) old.world.world new.world.world
  pub asked : IsAskedFor h most tr tr_new

module _ {D T P : Type 0} (g : disk.Ghosts D) (h : transport.Ghosts T) (k : pacer.Ghosts P) (limits : Limits) (seed most : ℕ) (old : Store) (one two : D) (tr : T) (pa : P)
    (taken : ℕ) (order : Order) (s : Store) (one_s two_s : D) (tr_s : T) (pa_s : P)
    (on : OnTrail g h k limits seed most old one two tr pa taken order s one_s two_s tr_s pa_s) where
  -- it comes to an end
  pub ran_to : (end : RunEnd) → (end ≡ Spent → taken ≡ most)
      → (TakesAll (in_run h k limits tr tr_s pa_s) taken old.world.world s.world.world (k.rests pa) (k.rests pa_s)
      → EndsAs (in_run h k limits tr tr_s pa_s) most old.world.world s.world.world (k.rests pa) (k.rests pa_s) end)
      → Ran g h k limits seed most old one two tr pa (Ok end) s one_s two_s tr_s pa_s
  ran_to end spent ends =
      let same : (moment : ℕ) → k.said pa_s moment → k.said pa_s moment = λ moment said. said in
      let le : h.faults tr_s ≤ h.faults tr_s = omega arith in
      let all = taken_all h k limits tr pa old.world.world taken tr_s pa_s s.world.world on.goes tr_s pa_s same le refl in
      record {
        stepped = on.stepped;
        went = (record { all = taken; few = on.few; spent = spent; goes = on.goes }, (order, on.seeded));
        takes = (taken, on.few, all);
        ends = ends all;
        refused = tt;
        directories = directories_kept g h k limits seed most old one two tr pa taken order s one_s two_s tr_s pa_s on;
        processes = on.processes;
        marks = no_worse h k limits tr pa old.world.world taken tr_s pa_s s.world.world on.goes tr_s pa_s same le;
        codes = brings_codes h k limits tr pa old.world.world taken tr_s pa_s s.world.world on.goes tr_s pa_s same le;
        asked = asks h k limits tr pa old.world.world taken tr_s pa_s s.world.world on.goes most on.few;
      }

  module _ (less : taken < most) (now : ℕ) (pa_v : P) (says : Says k now pa_s pa_v) where
    -- memory ran out before a turn
    pub ran_unasked : Ran g h k limits seed most old one two tr pa (Err OutOfMemory) s one_s two_s tr_s pa_v
    ran_unasked =
        let le : h.faults tr_s ≤ h.faults tr_s = omega arith in
        let all = taken_all h k limits tr pa old.world.world taken tr_s pa_s s.world.world on.goes tr_s pa_v says.keeps le says.rests in
        record {
          stepped = stepped_told g h k limits seed most old one two tr pa taken order s one_s two_s tr_s pa_s on pa_v says.keeps;
          went = went_unasked h k limits tr pa old.world.world taken tr_s pa_s s.world.world on.goes seed most now order s.journal pa_v less says on.seeded;
          takes = (taken, on.few, all);
          ends = (taken, less, all);
          refused = tt;
          directories = directories_kept g h k limits seed most old one two tr pa taken order s one_s two_s tr_s pa_s on;
          processes = on.processes;
          marks = no_worse h k limits tr pa old.world.world taken tr_s pa_s s.world.world on.goes tr_s pa_v says.keeps le;
          codes = brings_codes h k limits tr pa old.world.world taken tr_s pa_s s.world.world on.goes tr_s pa_v says.keeps le;
          asked = asks h k limits tr pa old.world.world taken tr_s pa_s s.world.world on.goes most on.few;
        }

    -- a turn is refused
    module _ (pid : ℕ) (ready : is_ready_at s.world.world pid now ≡ true) (after : Order) (chosen : IsChosen s.world.world now order after (Turn pid))
        (v : Store) (one_v two_v : D) (tr_v : T) (n : Need) (stays : IsAsked h pid n tr_s tr_v) (stays_all : WhatItNeeds s.world.world pid (λ m. IsAsked h pid m tr_s tr_v))
        (e : RunError) (once : AsksOnce {A = Unit {0}} (Err e) h.asked tr_s tr_v n) (asks_all : WhatItNeeds s.world.world pid (AsksOnce {A = Unit {0}} (Err e) h.asked tr_s tr_v)) where
      pub ran_refused : ((d : D) (image : List ℕ) → g.left_since d (g.moment d) image → g.may_leave d image)
          → ((d : D) (t : ℕ) (image : List ℕ) → t ≤ g.moment d → g.may_leave d image → g.left_since d t image)
          → IsAsBefore s v.world.world v.journal
          → RefusesStep (in_turn h limits now tr_s tr_v) s.journal s.world.world pid e
          → IsUnchanged {T = Unit {0}} (Err e) one_s one_v × IsUnchanged {T = Unit {0}} (Err e) two_s two_v
          → Stepped g (IsOrTurnOf (in_turn h limits now tr_s tr_v) pid s.world.world s.journal) (is_live_after {T = Unit {0}} (Err e)) s one_s two_s v one_v two_v
          → (AreOfProcesses (h.placed tr_s) s.world.world → IsTrue (g.tells one_s) → IsTrue (g.tells two_s)
          → LeavesHeld g s.place (of_world (AreOfProcesses (h.placed tr_v))) one_s two_s one_v two_v)
          → (AreOfProcesses (h.placed tr_s) s.world.world → AreOfProcesses (h.placed tr_v) v.world.world)
          → Ran g h k limits seed most old one two tr pa (Err e) v one_v two_v tr_v pa_v
      ran_refused only_now counts same refused still turned leaves processes =
          let le : h.faults tr_s ≤ h.faults tr_v
          = not_fallen g h k limits seed most old one two tr pa taken order s one_s two_s tr_s pa_s on less pid now pa_v says v one_v two_v tr_v n stays stays_all in
          let there = subst (λ (w : World). TakesAll (in_run h k limits tr tr_v pa_v) taken old.world.world w (k.rests pa) (k.rests pa_v)) (sym same.0)
          (taken_all h k limits tr pa old.world.world taken tr_s pa_s s.world.world on.goes tr_v pa_v says.keeps le says.rests) in
          record {
            stepped = stepped_refused g h k limits seed most old one two tr pa taken order s one_s two_s tr_s pa_s on less pid now pa_v says v one_v two_v tr_v n stays stays_all
                only_now e still asks_all same turned;
            went = went_to_refusal h k limits tr pa old.world.world taken tr_s pa_s s.world.world on.goes seed most now pid order after s.journal v.journal tr_v pa_v v.world.world e
                less says ready same.0 same.1 turned.comes.version refused asks_all stays_all on.seeded chosen;
            takes = (taken, on.few, there);
            ends = (taken, less, there);
            refused = refuses g h k limits seed most old one two tr pa taken order s one_s two_s tr_s pa_s on less pid now pa_v says v one_v two_v tr_v n stays stays_all
                e same turned.comes.version refused;
            directories = directories_left g h k limits seed most old one two tr pa taken order s one_s two_s tr_s pa_s on less pid now pa_v says v one_v two_v tr_v n stays stays_all
                counts leaves;
            processes = λ are. processes (on.processes are);
            marks = λ ok. subst (AreNoWorse old.world.world) (sym same.0)
                (no_worse h k limits tr pa old.world.world taken tr_s pa_s s.world.world on.goes tr_v pa_v says.keeps le ok);
            codes = λ reached sound. subst (AreBrought (in_run h k limits tr tr_v pa_v) old.world.world) (sym same.0)
                (brings_codes h k limits tr pa old.world.world taken tr_s pa_s s.world.world on.goes tr_v pa_v says.keeps le reached sound);
            asked = asks_more h k limits tr pa old.world.world taken tr_s pa_s s.world.world on.goes {A = Unit {0}} (Err e) pid most n tr_v less stays once;
          }
