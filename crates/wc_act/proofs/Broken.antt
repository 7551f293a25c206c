-- What is left where memory ran out, or a disk failed.
use Rattle.std.proofs.Common.{◌≡◌, ◌⊎◌, ◌↔◌, inl, inr, ⊎_elim, ℕ, List, Result, Ok, Err, IsErrAnd, refl, sym, subst}
use Rattle.std.specs.Prelude.{IfErr, IfOk}
use Rattle.wc_disk.specs.declared.disk.Disk as disk
use Rattle.wc_disk.specs.Steps.{Only}
use Rattle.wc_world.specs.World.{World}
use Rattle.wc_machine.specs.Sound.{IsSound}
use Rattle.wc_store.specs.declared.place.Place.{Place}
use Rattle.wc_store.specs.declared.place.Place.TheVariants.{One, Two}
use Rattle.wc_store.specs.declared.store.Store.{Store}
use Rattle.wc_store.specs.Held.{IsHeld, a_world}
use Rattle.wc_store.specs.Stepped.{LeavesNow, of_world}
use Rattle.wc_store.specs.Stores.{StandsFor, other}
use Rattle.wc_drill.specs.Runner.declared.error.RunError.{RunError}
use Rattle.wc_drill.specs.Runner.declared.error.RunError.TheVariants as run_error
use Rattle.wc_drill.specs.Runner.declared.runs.RunEnd.{RunEnd}
use Rattle.wc_drill.specs.Runner.Asked.{AreOfProcesses}
use Rattle.wc_drill.specs.Runner.Codes.{AreBrought}
use Rattle.wc_drill.specs.Runner.Marks.{AreNoWorse}
use Rattle.wc_drill.specs.Runner.Runs.{TakesUpTo}
use Rattle.wc_plan.specs.declared.deed.Begin.{Begin}
use Rattle.wc_plan.specs.declared.deed.Deed.TheVariants as deed
use Rattle.wc_plan.specs.declared.deed.RunOptions.{RunOptions}
use Rattle.wc_plan.specs.declared.deed.Work.{Work}
use Rattle.wc_plan.specs.declared.deed.Work.TheVariants as work
use Rattle.wc_plan.specs.declared.reply.Reply.{Reply}
use Rattle.wc_plan.specs.declared.status.Status.{Status}
use Rattle.wc_plan.specs.declared.status.Status.TheVariants as status
use Rattle.wc_act.specs.declared.error.ActError.{ActError}
use Rattle.wc_act.specs.declared.error.ActError.TheVariants.{OutOfMemory, DiskFault}
use Rattle.wc_act.specs.Aborted.{Aborts, BreaksOutside, StaysBegun, StaysDurable, WorkAborts}
use Rattle.wc_act.specs.Crashes.{AreDurable, EachPair}
use Rattle.wc_act.specs.Exchanges.{Exchange}
use Rattle.wc_act.specs.Outside.{IsNoRun}
use Rattle.wc_act.specs.Rows.{IsEmpty, begin_row}
use Rattle.wc_act.specs.StoreDeeds.{Hold}
use Rattle.wc_act.specs.Statuses.{IsDoneOrFull}
use Rattle.wc_act.specs.Undone.{EndsWith, IsBeforeStoring, IsUnbroken, LeavesUnwritten, ended_by}
use Rattle.wc_act.proofs.Visiting.{journal_of_images, seen_images}

-- ---- errors

-- where there is no reply for want of memory, what is so of that is so of the error
pub lost_is : (result : Result Reply ActError) (P : ActError → Type 0) → IsErrAnd result (λ e. e ≡ OutOfMemory) → P OutOfMemory → IfErr result P
lost_is (Ok r) P is p = tt
lost_is (Err e) P is p = subst P (sym is) p

pub fault_no_memory : status.DiskFault ≡ status.OutOfMemory → ⊥
fault_no_memory is = cc

-- what is so of each error
pub each_error : {E : Type 0} (result : Result Reply E) (P : E → Type 0) → ((e : E) → P e) → IfErr result P
each_error (Ok r) P all = tt
each_error (Err e) P all = all e

-- a disk failed, as the run says
pub fault_told : (result : Result RunEnd RunError) → result ≡ Err run_error.DiskFault → (status.DiskFault ≡ status.DiskFault) ↔ (result ≡ Err run_error.DiskFault)
fault_told result same = (λ is. same, λ is. refl)

memory_no_fault : status.OutOfMemory ≡ status.DiskFault → ⊥
memory_no_fault is = cc

-- or none did
pub lost_told : (result : Result RunEnd RunError) → (result ≡ Err run_error.DiskFault → ⊥) → (status.OutOfMemory ≡ status.DiskFault) ↔ (result ≡ Err run_error.DiskFault)
lost_told result whole = (λ is. absurd (memory_no_fault is), λ is. absurd (whole is))

module _ {D : Type 0} (g : disk.Ghosts D) where
  -- ---- images

  -- what a crash now may leave of the disk that the store is on, beside a disk on which nothing is pending
  pub now_pairs : (place : Place) (Q : World → Type 0) (one two : D) → Only (g.seen (other place one two)) (g.may_leave (other place one two)) → LeavesNow g place (of_world Q) one two
      → EachPair g one two (λ a b. (v : World) × IsHeld a b (a_world v) × Q v)
  now_pairs One Q one two only now a b left left_too =
      let h = now a left in (h.0, subst (λ (x : List ℕ). IsHeld a x (a_world h.0)) (sym (only b left_too)) h.3.held, h.2)
  now_pairs Two Q one two only now a b left left_too =
      let h = now b left_too in (h.0, subst (λ (x : List ℕ). IsHeld x b (a_world h.0)) (sym (only a left)) h.3.held, h.2)

  -- nothing is pending on the disk that the store isn't on, as before
  pub rest_durable : (place : Place) (one two one_new two_new : D) → Only (g.seen one) (g.may_leave one) → Only (g.seen two) (g.may_leave two)
      → other place one_new two_new ≡ other place one two → Only (g.seen (other place one_new two_new)) (g.may_leave (other place one_new two_new))
  rest_durable One one two one_new two_new first second same = subst (λ (d : D). Only (g.seen d) (g.may_leave d)) (sym same) second
  rest_durable Two one two one_new two_new first second same = subst (λ (d : D). Only (g.seen d) (g.may_leave d)) (sym same) first

  -- ---- runs

  pub breaks_outside : (e : Exchange) (o : RunOptions) (w : World) (new : Store) (one two : D) (s : Status) (result : Result RunEnd RunError)
      → (s ≡ status.DiskFault) ↔ (result ≡ Err run_error.DiskFault) → e.went o.limits o.seed o.turns w result new.journal new.world.world
      → TakesUpTo (e.sees o.limits) o.turns w new.world.world e.rests e.rests_new → (IsSound w → AreBrought (e.sees o.limits) w new.world.world)
      → (¬ (e.sees o.limits).failed → AreNoWorse w new.world.world)
      → (AreOfProcesses e.placed w → EachPair g one two (λ a b. (v : World) × IsHeld a b (a_world v) × AreOfProcesses e.placed_new v))
      → (s ≡ status.OutOfMemory → StandsFor g new one two) → BreaksOutside g e o w one two s
  breaks_outside e o w new one two s result fault went takes codes marks directories stands = record {
    result = result;
    fault = fault;
    later = new.world.world;
    journal = new.journal;
    went = went;
    takes = takes;
    held = λ is.
        let there : StandsFor g new one two = stands is in
        (there.held, journal_of_images new (g.seen one, g.seen two) (seen_images g new one two there));
    codes = codes;
    marks = marks;
    directories = directories;
  }

  -- ---- what is done on a store

  pub no_run_aborts : (e : Exchange) (k : Work) (w : World) (one two : D) (s : Status) → IsNoRun k → WorkAborts g e k w one two s
  no_run_aborts e (work.View v) w one two s none = tt
  no_run_aborts e (work.Event a) w one two s none = tt
  no_run_aborts e (work.Run o) w one two s none = absurd none
  no_run_aborts e work.Pack w one two s none = tt

  stays : (one two : D) (error : ActError) → (IsUnbroken (Err error) → AreDurable g one two) → StaysDurable g one two (ended_by error)
  stays one two OutOfMemory durable is = durable tt
  stays one two DiskFault durable is = absurd (fault_no_memory is)

  -- on a store that was opened
  pub opened_aborts : (e : Exchange) (k : Work) (w : World) (one two one_new two_new : D) (A B A' B' idle : Type 0) → (A → A') → (B → B') → (A → B → Hold (g.seen one, g.seen two) (a_world w))
      → (result : Result Reply ActError) → (IsUnbroken result → A' → B' → AreDurable g one_new two_new)
      → IfErr result (λ x. A' → B' → WorkAborts g e k w one_new two_new (ended_by x))
      → IfErr result (λ x. A → B → Aborts g e (deed.Work k) one two one_new two_new (ended_by x) idle)
  opened_aborts e k w one two one_new two_new A B A' B' idle on_one on_two held (Ok r) durable aborts = tt
  opened_aborts e k w one two one_new two_new A B A' B' idle on_one on_two held (Err x) durable aborts =
      λ told told_too.
      inr (stays one_new two_new x (λ whole. durable whole (on_one told) (on_two told_too)), (w, held told told_too, aborts (on_one told) (on_two told_too)))

  -- where it has a reply
  pub done_durable : (one two : D) (A B A' B' : Type 0) → (A → A') → (B → B') → (result : Result Reply ActError) → (IsUnbroken result → A' → B' → AreDurable g one two)
      → IfOk result (λ r. IsDoneOrFull r.status → A → B → AreDurable g one two)
  done_durable one two A B A' B' on_one on_two (Ok r) durable = λ done told told_too. durable tt (on_one told) (on_two told_too)
  done_durable one two A B A' B' on_one on_two (Err x) durable = tt

  -- ---- what begins a store

  pub begun_aborts : (e : Exchange) (b : Begin) (one two one_new two_new : D) (A B idle : Type 0) → idle → (result : Result Reply ActError)
      → IfErr result (λ x. A → B → LeavesUnwritten g one two one_new two_new ⊎ StaysBegun g (begin_row b).begins one_new two_new (ended_by x))
      → IfErr result (λ x. A → B → Aborts g e (deed.Begin b) one two one_new two_new (ended_by x) idle)
  begun_aborts e b one two one_new two_new A B idle still (Ok r) leaves = tt
  begun_aborts e b one two one_new two_new A B idle still (Err x) leaves = λ told told_too. ⊎_elim (λ none. inl (none, still)) (λ stays. inr stays) (leaves told told_too)

  -- `init` has written nothing where memory ran out
  pub init_aborts : (one two one_new two_new : D) (A B : Type 0) (result : Result Reply ActError)
      → (EndsWith IsBeforeStoring result → A → B → LeavesUnwritten g one two one_new two_new)
      → IfErr result (λ x. A → B → LeavesUnwritten g one two one_new two_new ⊎ StaysBegun g IsEmpty one_new two_new (ended_by x))
  init_aborts one two one_new two_new A B (Ok r) unwritten = tt
  init_aborts one two one_new two_new A B (Err OutOfMemory) unwritten = λ told told_too. inl (unwritten tt told told_too)
  init_aborts one two one_new two_new A B (Err DiskFault) unwritten = λ told told_too. inr (λ is. absurd (fault_no_memory is))
