-- A run under way: a trail to where it is, in the order of the seed, and the step that it is so far.
use Rattle.std.proofs.Common.{◌≡◌, ◌⊎◌, inl, inr, ⊎_elim, ℕ, ◌+◌, ◌<◌, ◌≤◌, Bool, true, false, List, Ok, Err, refl, sym, subst, ◌∙◌, arith}
use Rattle.std.specs.Prelude.{IsTrue, length}
use Rattle.wc_io.specs.Counts.{RisesByOne}
use Rattle.wc_io.specs.declared.pacer.Pacer as pacer
use Rattle.wc_disk.specs.declared.disk.Disk as disk
use Rattle.wc_journal.specs.declared.journal.Journal.{Journal}
use Rattle.wc_state.specs.declared.record.Limits.{Limits}
use Rattle.wc_state.specs.declared.record.What.{What}
use Rattle.wc_transport.specs.declared.transport.Transport as transport
use Rattle.wc_world.specs.World.{World}
use Rattle.wc_machine.specs.Questions.{Need, nothing, performs}
use Rattle.wc_core.specs.Order.{IsChosen, IsOf}
use Rattle.wc_core.specs.declared.next.Next.TheVariants.{Turn}
use Rattle.wc_core.specs.declared.order.Order.{Order}
use Rattle.wc_store.specs.declared.place.Place.{Place}
use Rattle.wc_store.specs.declared.store.Store.{Store}
use Rattle.wc_store.specs.Refusals.{byte_limit}
use Rattle.wc_store.specs.Stepped.{InGeneration, IsAsBefore, LeavesHeld, LeavesNow, Stepped, of_world}
use Rattle.wc_store.specs.Stores.{StandsFor}
use Rattle.wc_store.proofs.Stepping.{leaves_now, not_stepped, stands_leaves, stands_now, stepped_then, weaker_step}
use Rattle.wc_runner.specs.Asked.{AreOfProcesses, AsksOnce, IsAsked, WhatItNeeds}
use Rattle.wc_runner.specs.Leaves.{IsLedWithin, IsOrTurnOf, IsTurnWithin}
use Rattle.wc_runner.specs.Outside.{in_run, in_turn}
use Rattle.wc_runner.specs.Orders.{IsSeeded}
use Rattle.wc_runner.specs.Refusals.{IsUnchanged, RefusesRun, RefusesStep, is_live_after}
use Rattle.wc_runner.specs.Runs.{FitsIn}
use Rattle.wc_runner.specs.Trails.{Goes, RestStep, Says, TurnStep}
use Rattle.wc_runner.specs.Trips.{TurnOf}
use Rattle.wc_runner.specs.declared.error.RunError.{RunError}
use Rattle.wc_runner.specs.declared.error.RunError.TheVariants.{DiskFault, Full, OutOfMemory}
use Rattle.wc_runner.specs.declared.runs.RunEnd.{RunEnd}
use Rattle.wc_runner.proofs.Gone.{asks as asked_so_far}
use Rattle.wc_runner.proofs.Journals.{step_by}
use Rattle.wc_runner.proofs.Known.{of_turn}
use Rattle.wc_runner.proofs.Needed.{needs_map}
use Rattle.wc_runner.proofs.Trailed.{goes_none, goes_rest, goes_turn, seeded_turn}
use Rattle.wc_runner.proofs.Widened.{step_widened}

pub record OnTrail {D T P : Type 0} (g : disk.Ghosts D) (h : transport.Ghosts T) (k : pacer.Ghosts P) (limits : Limits) (seed most : ℕ) (old : Store) (one two : D) (tr : T) (pa : P)
    (taken : ℕ) (order : Order) (store : Store) (one_now two_now : D) (tr_now : T) (pa_now : P) : Type 0 where
  pub goes : Goes h k limits taken tr pa old.world.world tr_now pa_now store.world.world
  pub seeded : IsSeeded h k limits tr pa old.world.world seed goes.count goes.rests tr_now pa_now store.world.world goes.trail order
  pub few : taken ≤ most
  pub stepped : Stepped g (IsLedWithin h k limits most tr pa old.world.world old.journal tr_now pa_now) true old one two store one_now two_now
  pub processes : AreOfProcesses (h.placed tr) old.world.world → AreOfProcesses (h.placed tr_now) store.world.world

-- a turn that is refused otherwise than for want of memory has asked as one that is taken
as_taken : {T : Type 0} (asked : T → ℕ) (old new : T) (n : Need) → AsksOnce {A = Unit {0}} (Err DiskFault) asked old new n → AsksOnce {A = Unit {0}} (Ok tt) asked old new n
as_taken asked old new nothing h = h
as_taken asked old new (performs t q) h = h

as_filled : {T : Type 0} (what : What) (count limit : ℕ) (asked : T → ℕ) (old new : T) (n : Need) → AsksOnce {A = Unit {0}} (Err (Full what count limit)) asked old new n
    → AsksOnce {A = Unit {0}} (Ok tt) asked old new n
as_filled what count limit asked old new nothing h = h
as_filled what count limit asked old new (performs t q) h = h

module _ {D T P : Type 0} (g : disk.Ghosts D) (h : transport.Ghosts T) (k : pacer.Ghosts P) (limits : Limits) (seed most : ℕ) (old : Store) (one two : D) (tr : T) (pa : P) where
  abbrev Led : T → P → World → Journal → Type 0
  Led = IsLedWithin h k limits most tr pa old.world.world old.journal

  -- what a trail led to is what it led to, seen from later on
  pub led_later : (b c : T) (q r : P) → ((moment : ℕ) → k.said q moment → k.said r moment) → h.faults b ≤ h.faults c → (v : World) (journal : Journal)
      → Led b q v journal → Led c r v journal
  led_later b c q r keeps le v journal l = record {
    led = l.led;
    said = λ moment said. keeps moment (l.said moment said);
    faults = omega (arith, l.faults, le);
  }

  pub begins : ((d : D) (image : List ℕ) → g.left_since d (g.moment d) image → g.may_leave d image) → old.live ≡ true
      → (IsTrue (g.tells one) → IsTrue (g.tells two) → StandsFor g old one two) → (order : Order) → IsOf seed order
      → OnTrail g h k limits seed most old one two tr pa 0 order old one two tr pa
  begins only_now live stands order is = record {
    goes = goes_none h k limits tr pa old.world.world;
    seeded = (order, is, refl);
    few = omega arith;
    stepped = not_stepped g (Led tr pa) old one two only_now live stands (record {
      led = record { all = 0; few = omega arith; left = tr; clock = pa; goes = goes_none h k limits tr pa old.world.world; fits = inl (refl, refl) };
      said = λ moment said. said;
      faults = omega arith;
    });
    processes = λ are. are;
  }

  module _ (taken : ℕ) (order : Order) (s : Store) (one_s two_s : D) (tr_s : T) (pa_s : P)
      (on : OnTrail g h k limits seed most old one two tr pa taken order s one_s two_s tr_s pa_s) where
    pub stands_there : IsTrue (g.tells one_s) → IsTrue (g.tells two_s) → StandsFor g s one_s two_s
    stands_there told told_too =
        on.stepped.call.stands refl (subst (λ (b : Bool). IsTrue b) on.stepped.call.tells_one told) (subst (λ (b : Bool). IsTrue b) on.stepped.call.tells_two told_too)

    -- the step so far, once the pacer told a moment
    pub stepped_told : (pa_v : P) → ((moment : ℕ) → k.said pa_s moment → k.said pa_v moment) → Stepped g (Led tr_s pa_v) true old one two s one_s two_s
    stepped_told pa_v keeps =
        weaker_step g (Led tr_s pa_s) (Led tr_s pa_v) true old s one two one_s two_s
        (λ v journal l. led_later tr_s tr_s pa_s pa_v keeps (omega arith) v journal l.holds) on.stepped

    -- what a crash leaves where the store stands for its disks
    pub directories_kept : AreOfProcesses (h.placed tr) old.world.world → IsTrue (g.tells one) → IsTrue (g.tells two)
        → LeavesNow g old.place (of_world (AreOfProcesses (h.placed tr_s))) one_s two_s
    directories_kept are told told_too =
        subst (λ (p : Place). LeavesNow g p (of_world (AreOfProcesses (h.placed tr_s))) one_s two_s) on.stepped.place
        (stands_now g s (of_world (AreOfProcesses (h.placed tr_s))) one_s two_s (on.stepped.call.stands refl told told_too) (on.processes are))

    -- ---- a rest

    pub rests_on : taken < most → (order_v : Order) → order_v ≡ order → (pa_v : P) → RestStep k pa_s pa_v s.world.world
        → ((moment : ℕ) → k.said pa_s moment → k.said pa_v moment)
        → OnTrail g h k limits seed most old one two tr pa (taken + 1) order_v s one_s two_s tr_s pa_v
    rests_on less order_v same pa_v step keeps = record {
      goes = goes_rest h k limits tr pa old.world.world taken tr_s pa_s s.world.world on.goes pa_v step;
      seeded = subst (IsSeeded h k limits tr pa old.world.world seed on.goes.count on.goes.rests tr_s pa_s s.world.world on.goes.trail) (sym same) on.seeded;
      few = omega (arith, less);
      stepped = stepped_told pa_v keeps;
      processes = on.processes;
    }

    -- ---- a turn

    module _ (less : taken < most) (pid now : ℕ) (pa_v : P) (says : Says k now pa_s pa_v) (v : Store) (one_v two_v : D) (tr_v : T) (n : Need)
        (stays : IsAsked h pid n tr_s tr_v) (stays_all : WhatItNeeds s.world.world pid (λ m. IsAsked h pid m tr_s tr_v)) where
      abbrev Turned : World → Journal → Type 0
      Turned = IsOrTurnOf (in_turn h limits now tr_s tr_v) pid s.world.world s.journal

      pub not_fallen : h.faults tr_s ≤ h.faults tr_v
      not_fallen = ⊎_elim (λ same. omega (arith, same)) (λ (rises : RisesByOne (h.faults tr_s) (h.faults tr_v)). rises.later) stays.faults

      from_first : (x : World) (journal : Journal) → InGeneration old.journal (Led tr_s pa_s) x journal → Led tr_v pa_v x journal
      from_first x journal l = led_later tr_s tr_v pa_s pa_v says.keeps not_fallen x journal l.holds

      fits_still : (x : World) (journal : Journal) → journal.version ≡ s.journal.version → IsAsBefore s x journal
          → ((x ≡ old.world.world) × (journal.end ≡ old.journal.end)) ⊎ FitsIn limits x journal
      fits_still x journal version same =
          ⊎_elim (λ first. inl (same.0 ∙ first.0, same.1 ∙ first.1))
          (λ (f : FitsIn limits s.world.world s.journal). inr (
            subst (λ (y : World). length y.nodes ≤ limits.max_nodes) (sym same.0) f.0,
            subst (λ (c : ℕ). journal.end + 1 ≤ byte_limit c limits.max_bytes) (sym version)
                (subst (λ (e : ℕ). e + 1 ≤ byte_limit s.journal.version limits.max_bytes) (sym same.1) f.1),
          )) on.stepped.comes.holds.led.fits

      led_still : (x : World) (journal : Journal) → journal.version ≡ s.journal.version → IsAsBefore s x journal → Led tr_v pa_v x journal
      led_still x journal version same = record {
        led = record {
          all = taken;
          few = on.few;
          left = tr_s;
          clock = pa_s;
          goes = subst (Goes h k limits taken tr pa old.world.world tr_s pa_s) (sym same.0) on.goes;
          fits = fits_still x journal version same;
        };
        said = says.keeps;
        faults = not_fallen;
      }

      abbrev AsksTaken : Type 0
      AsksTaken = WhatItNeeds s.world.world pid (AsksOnce {A = Unit {0}} (Ok tt) h.asked tr_s tr_v)

      abbrev the_step : (x : World) → TurnOf (in_turn h limits now tr_s tr_v) pid s.world.world x → AsksTaken → TurnStep h k limits tr_s tr_v pa_s pa_v s.world.world x
      the_step x turn asks = record { now = now; says = says; pid = pid; turn = turn; asks = asks; stays = stays_all }

      led_turn : AsksTaken → (x : World) (journal : Journal) → IsTurnWithin (in_turn h limits now tr_s tr_v) pid s.world.world x journal → Led tr_v pa_v x journal
      led_turn asks x journal t = record {
        led = record {
          all = taken + 1;
          few = omega (arith, less);
          left = tr_v;
          clock = pa_v;
          goes = goes_turn h k limits tr pa old.world.world taken tr_s pa_s s.world.world on.goes tr_v pa_v x (the_step x t.turn asks);
          fits = inr t.fits;
        };
        said = λ moment said. said;
        faults = omega arith;
      }

      stepped_on : (whole : Bool) → AsksTaken → Stepped g Turned whole s one_s two_s v one_v two_v → Stepped g (Led tr_v pa_v) whole old one two v one_v two_v
      stepped_on whole asks turned =
          stepped_then g (Led tr_s pa_s) Turned (Led tr_v pa_v) whole old s v one two one_s two_s one_v two_v from_first
          (λ x journal t. ⊎_elim (led_still x journal t.version) (led_turn asks x journal) t.holds) on.stepped turned

      pub goes_on : AsksTaken → (after : Order) → IsChosen s.world.world now order after (Turn pid) → Stepped g Turned true s one_s two_s v one_v two_v
          → IsTurnWithin (in_turn h limits now tr_s tr_v) pid s.world.world v.world.world v.journal
          → (AreOfProcesses (h.placed tr_s) s.world.world → AreOfProcesses (h.placed tr_v) v.world.world)
          → OnTrail g h k limits seed most old one two tr pa (taken + 1) after v one_v two_v tr_v pa_v
      goes_on asks after chosen turned t processes = record {
        goes = goes_turn h k limits tr pa old.world.world taken tr_s pa_s s.world.world on.goes tr_v pa_v v.world.world (the_step v.world.world t.turn asks);
        seeded = seeded_turn h k limits tr pa old.world.world taken tr_s pa_s s.world.world on.goes tr_v pa_v v.world.world (the_step v.world.world t.turn asks) seed order after
            on.seeded chosen;
        few = omega (arith, less);
        stepped = stepped_on true asks turned;
        processes = λ are. processes (on.processes are);
      }

      -- ---- a turn that is refused

      -- where memory ran out, the disks are as they were
      stepped_unasked : ((d : D) (image : List ℕ) → g.left_since d (g.moment d) image → g.may_leave d image) → one_v ≡ one_s → two_v ≡ two_s
          → IsAsBefore s v.world.world v.journal → Stepped g Turned true s one_s two_s v one_v two_v → Stepped g (Led tr_v pa_v) true old one two v one_v two_v
      stepped_unasked only_now same_one same_two same turned =
          stepped_then g (Led tr_s pa_s) (IsAsBefore s) (Led tr_v pa_v) true old s v one two one_s two_s one_v two_v from_first
          (λ x journal still. led_still x journal still.version still.holds) on.stepped (record {
            call = turned.call;
            place = turned.place;
            comes = record { holds = same; version = turned.comes.version; generation = turned.comes.generation };
            images = turned.images;
            moments = λ told told_too.
                subst (λ (d : D × D). LeavesHeld g s.place (InGeneration s.journal (IsAsBefore s)) one_s two_s d.0 d.1) (λ i. (sym same_one i, sym same_two i))
                (stands_leaves g s (InGeneration s.journal (IsAsBefore s)) one_s two_s only_now (stands_there told told_too)
                (record { holds = (refl, refl); version = refl; generation = refl }));
          })

      pub stepped_refused : ((d : D) (image : List ℕ) → g.left_since d (g.moment d) image → g.may_leave d image) → (e : RunError)
          → IsUnchanged {T = Unit {0}} (Err e) one_s one_v × IsUnchanged {T = Unit {0}} (Err e) two_s two_v
          → WhatItNeeds s.world.world pid (AsksOnce {A = Unit {0}} (Err e) h.asked tr_s tr_v) → IsAsBefore s v.world.world v.journal
          → Stepped g Turned (is_live_after {T = Unit {0}} (Err e)) s one_s two_s v one_v two_v
          → Stepped g (Led tr_v pa_v) (is_live_after {T = RunEnd} (Err e)) old one two v one_v two_v
      stepped_refused only_now DiskFault still asks same turned =
          stepped_on false (needs_map s.world.world pid (AsksOnce {A = Unit {0}} (Err DiskFault) h.asked tr_s tr_v) (AsksOnce {A = Unit {0}} (Ok tt) h.asked tr_s tr_v)
          (as_taken h.asked tr_s tr_v) asks) turned
      stepped_refused only_now (Full what count limit) still asks same turned =
          stepped_on true (needs_map s.world.world pid (AsksOnce {A = Unit {0}} (Err (Full what count limit)) h.asked tr_s tr_v) (AsksOnce {A = Unit {0}} (Ok tt) h.asked tr_s tr_v)
          (as_filled what count limit h.asked tr_s tr_v) asks) turned
      stepped_refused only_now OutOfMemory still asks same turned = stepped_unasked only_now still.0 still.1 same turned

      -- what a crash leaves after it
      pub directories_left : ((d : D) (t : ℕ) (image : List ℕ) → t ≤ g.moment d → g.may_leave d image → g.left_since d t image)
          → (AreOfProcesses (h.placed tr_s) s.world.world → IsTrue (g.tells one_s) → IsTrue (g.tells two_s)
          → LeavesHeld g s.place (of_world (AreOfProcesses (h.placed tr_v))) one_s two_s one_v two_v)
          → AreOfProcesses (h.placed tr) old.world.world → IsTrue (g.tells one) → IsTrue (g.tells two)
          → LeavesNow g old.place (of_world (AreOfProcesses (h.placed tr_v))) one_v two_v
      directories_left counts turn are told told_too =
          subst (λ (p : Place). LeavesNow g p (of_world (AreOfProcesses (h.placed tr_v))) one_v two_v) on.stepped.place
          (leaves_now g s.place (of_world (AreOfProcesses (h.placed tr_v))) one_s two_s one_v two_v counts
          (turn (on.processes are) (subst (λ (b : Bool). IsTrue b) (sym on.stepped.call.tells_one) told) (subst (λ (b : Bool). IsTrue b) (sym on.stepped.call.tells_two) told_too)))

      -- why the run breaks off, where the turn does
      pub refuses : (e : RunError) → IsAsBefore s v.world.world v.journal → v.journal.version ≡ s.journal.version
          → RefusesStep (in_turn h limits now tr_s tr_v) s.journal s.world.world pid e → RefusesRun (in_run h k limits tr tr_v pa_v) v e
      refuses DiskFault same version refused = tt
      refuses (Full what count limit) same version refused =
          let before = asked_so_far h k limits tr pa old.world.world taken tr_s pa_s s.world.world on.goes taken (omega arith) in
          record {
            pid = pid;
            refused = step_by (in_run h k limits tr tr_v pa_v) s.journal v.journal v.world.world pid (Full what count limit) same.1 version
                (subst (λ (w : World). RefusesStep (in_run h k limits tr tr_v pa_v) s.journal w pid (Full what count limit)) (sym same.0)
                (step_widened (in_turn h limits now tr_s tr_v) (in_run h k limits tr tr_v pa_v) (of_turn h k limits tr tr_s tr_v pa_v now says.said before.table before.faults)
                s.journal s.world.world pid (Full what count limit) refused));
          }
      refuses OutOfMemory same version refused = tt
