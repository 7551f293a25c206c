-- What runs have had of the transport and the clock.
use Rattle.std.proofs.Common.{◌≡◌, ℕ, List, Option, Some, None, Result, Ok, Err, IfOk, refl, sym, ap, subst, ◌∙◌, arith}
use Rattle.wc_disk.specs.declared.disk.Disk as disk
use Rattle.wc_config.specs.declared.settings.Settings.{Settings}
use Rattle.wc_state.specs.declared.record.What.{What}
use Rattle.wc_transport.specs.declared.transport.Transport as transport
use Rattle.wc_world.specs.World.{World}
use Rattle.wc_machine.specs.Sound.{IsSound}
use Rattle.wc_store.specs.declared.store.Store.{Store}
use Rattle.wc_store.specs.Stores.{StandsFor}
use Rattle.wc_drill.specs.Runner.declared.error.RunError.TheVariants as run_error
use Rattle.wc_drill.specs.Runner.declared.runs.RunEnd.{RunEnd}
use Rattle.wc_drill.specs.Runner.declared.runs.RunEnd.TheVariants.{AllEnded, Spent, Resting}
use Rattle.wc_drill.specs.Runner.Asked.{AreOfProcesses, IsAskedFor}
use Rattle.wc_drill.specs.Runner.Codes.{AreBrought}
use Rattle.wc_drill.specs.Runner.Marks.{AreNoWorse}
use Rattle.wc_drill.specs.Runner.Outside.{Outside}
use Rattle.wc_drill.specs.Runner.Refusals.{IsFullAt}
use Rattle.wc_drill.specs.Runner.Runs.{EndsAs, TakesAll, TakesFewer, TakesUpTo}
use Rattle.wc_cli.specs.declared.command.Command.{Command}
use Rattle.wc_cli.specs.declared.command.Command.TheVariants.{Dry, Check, Init, Submit, Run, View, Pause, Play, Kill, Pack, Drill, Query, Expand}
use Rattle.wc_plan.specs.declared.deed.Deed.{Deed}
use Rattle.wc_plan.specs.declared.deed.Deed.TheVariants as deed
use Rattle.wc_plan.specs.declared.deed.Plan.TheVariants as plan
use Rattle.wc_plan.specs.declared.deed.RunOptions.{RunOptions}
use Rattle.wc_plan.specs.declared.deed.Work.{Work}
use Rattle.wc_plan.specs.declared.deed.Work.TheVariants as work
use Rattle.wc_plan.specs.declared.reply.Reply.{Reply}
use Rattle.wc_plan.specs.declared.status.Cause.{Cause}
use Rattle.wc_plan.specs.declared.status.Status.{Status}
use Rattle.wc_plan.specs.declared.status.Status.TheVariants as status
use Rattle.wc_act.specs.Exchanges.{Exchange}
use Rattle.wc_act.specs.Outside.{AsksByTurns, FillsOutside, RunsOutside, WorksOutside, turns_of, TakesNoTurns, IsIdle, IsNoRun}
use Rattle.wc_plan.specs.Plans.{Plans, plan_of_run, seed_of}
use Rattle.wc_plan.specs.Replies.{OwesStatus}
use Rattle.wc_act.specs.Statuses.{IsDoneOrFull}
use Rattle.wc_act.specs.Runs.{status_of, has_run}
use Rattle.wc_act.specs.StoreDeeds.{Images, is_full}
use Rattle.wc_act.proofs.Visiting.{journal_of_images, seen_images}
use Rattle.wc_act.proofs.Idle.{plan_idle}

-- ---- how often the transport is asked

pub no_deed : (d : Deed) (r : Reply) → plan.On d ≡ plan.Reply r → ⊥
no_deed d r is = cc

pub same_deed : (d e : Deed) → plan.On d ≡ plan.On e → d ≡ e
same_deed d e is = cc

module _ {T : Type 0} (g : transport.Ghosts T) where
  pub asked_none : (most : ℕ) (t : T) → IsAskedFor g most t t
  asked_none most t = record {
    later = omega arith;
    few = λ less. omega arith;
    table = refl;
    finished = λ dir h. h;
    tells_finished = refl;
    faults = omega arith;
  }

  -- work that was not begun asked nothing
  pub work_unasked : (k : Work) (t : T) → AsksByTurns g (deed.Work k) t t
  work_unasked (work.View v) t = tt
  work_unasked (work.Event a) t = tt
  work_unasked (work.Run o) t = asked_none o.turns t
  work_unasked work.Pack t = tt

  run_asked : (turns seed : ℕ) (s : Result Settings Cause) (d : Deed) (old new : T) → plan.On d ≡ plan_of_run turns seed s → AsksByTurns g d old new → IsAskedFor g turns old new
  run_asked turns seed (Err c) d old new is asked = absurd (no_deed d _ is)
  run_asked turns seed (Ok t) d old new is asked =
      let o : RunOptions = record { turns = turns; seed = seed_of seed; limits = t.limits } in
      subst (λ (x : Deed). AsksByTurns g x old new) (same_deed d (deed.Work (work.Run o)) is) asked

  -- a deed that takes no turns asked nothing
  idle_asked : (told : Option (List ℕ → Option (List ℕ))) (c : Option Command) (d : Deed) (most : ℕ) (old new : T) → Plans told c (plan.On d) → TakesNoTurns c
      → (IsIdle d → new ≡ old) → IsAskedFor g most old new
  idle_asked told c d most old new plans none idle =
      subst (λ (t : T). IsAskedFor g most old t) (sym (idle (plan_idle told c (plan.On d) plans none))) (asked_none most old)

  pub asked_by : (told : Option (List ℕ → Option (List ℕ))) (c : Option Command) (d : Deed) (old new : T) → Plans told c (plan.On d) → AsksByTurns g d old new
      → (IsIdle d → new ≡ old) → IsAskedFor g (turns_of c) old new
  asked_by told None d old new plans asked idle = idle_asked told None d 0 old new plans tt idle
  asked_by told (Some (Run turns seed settings)) d old new (s, from, is) asked idle = run_asked turns seed s d old new is asked
  asked_by told (Some (Check file)) d old new plans asked idle = idle_asked told (Some (Check file)) d 0 old new plans tt idle
  asked_by told (Some (Dry file name given inputs table fuel)) d old new plans asked idle =
      idle_asked told (Some (Dry file name given inputs table fuel)) d 0 old new plans tt idle
  asked_by told (Some Init) d old new plans asked idle = idle_asked told (Some Init) d 0 old new plans tt idle
  asked_by told (Some (Submit file name given inputs settings)) d old new plans asked idle =
      idle_asked told (Some (Submit file name given inputs settings)) d 0 old new plans tt idle
  asked_by told (Some (View v)) d old new plans asked idle = idle_asked told (Some (View v)) d 0 old new plans tt idle
  asked_by told (Some (Pause pid)) d old new plans asked idle = idle_asked told (Some (Pause pid)) d 0 old new plans tt idle
  asked_by told (Some (Play pid)) d old new plans asked idle = idle_asked told (Some (Play pid)) d 0 old new plans tt idle
  asked_by told (Some (Kill pid)) d old new plans asked idle = idle_asked told (Some (Kill pid)) d 0 old new plans tt idle
  asked_by told (Some Pack) d old new plans asked idle = idle_asked told (Some Pack) d 0 old new plans tt idle
  asked_by told (Some (Drill seed count)) d old new plans asked idle = idle_asked told (Some (Drill seed count)) d 0 old new plans tt idle
  asked_by told (Some (Query words limit)) d old new plans asked idle = idle_asked told (Some (Query words limit)) d 0 old new plans tt idle
  asked_by told (Some (Expand file spec)) d old new plans asked idle = idle_asked told (Some (Expand file spec)) d 0 old new plans tt idle

-- ---- how a run ended

ok_not_spent : status.Ok ≡ status.Spent → ⊥
ok_not_spent is = cc

resting_not_spent : status.Resting ≡ status.Spent → ⊥
resting_not_spent is = cc

ok_not_resting : status.Ok ≡ status.Resting → ⊥
ok_not_resting is = cc

full_not_spent : (what : What) (count limit : ℕ) → status.Full what count limit ≡ status.Spent → ⊥
full_not_spent what count limit is = cc

ok_not_full : (what : What) (count limit : ℕ) → status.Ok ≡ status.Full what count limit → ⊥
ok_not_full what count limit is = cc

resting_not_full : (what : What) (count limit : ℕ) → status.Resting ≡ status.Full what count limit → ⊥
resting_not_full what count limit is = cc

end_not_full : (end : RunEnd) (what : What) (count limit : ℕ) → status_of end ≡ status.Full what count limit → ⊥
end_not_full AllEnded what count limit is = absurd (ok_not_full what count limit is)
end_not_full Spent what count limit is = absurd (full_not_spent what count limit (sym is))
end_not_full Resting what count limit is = absurd (resting_not_full what count limit is)

same_end : (end other : RunEnd) → status_of end ≡ status_of other → end ≡ other
same_end AllEnded AllEnded is = refl
same_end AllEnded Spent is = absurd (ok_not_spent is)
same_end AllEnded Resting is = absurd (ok_not_resting is)
same_end Spent AllEnded is = absurd (ok_not_spent (sym is))
same_end Spent Spent is = refl
same_end Spent Resting is = absurd (resting_not_spent (sym is))
same_end Resting AllEnded is = absurd (ok_not_resting (sym is))
same_end Resting Spent is = absurd (resting_not_spent is)
same_end Resting Resting is = refl

all_spent : (o : Outside) (most : ℕ) (w v : World) (begun now : ℕ) (end : RunEnd) → EndsAs o most w v begun now end → status_of end ≡ status.Spent → TakesAll o most w v begun now
all_spent o most w v begun now AllEnded ends is = absurd (ok_not_spent is)
all_spent o most w v begun now Spent ends is = ends.2
all_spent o most w v begun now Resting ends is = absurd (resting_not_spent is)

same_full : (what what' : What) (count count' limit limit' : ℕ) → status.Full what count limit ≡ status.Full what' count' limit'
    → (what ≡ what') × (count ≡ count') × (limit ≡ limit')
same_full what what' count count' limit limit' is = (cc, cc, cc)

-- the store is full with the same numbers
as_told : (e : Exchange) (o : RunOptions) (w v : World) (after : Images) (what what' : What) (count count' limit limit' : ℕ)
    → status.Full what count limit ≡ status.Full what' count' limit' → FillsOutside e o w v after what count limit → FillsOutside e o w v after what' count' limit'
as_told e o w v after what what' count count' limit limit' is fills =
    let same = same_full what what' count count' limit limit' is in
    subst (λ (n : ℕ). FillsOutside e o w v after what' count' n) same.2
    (subst (λ (n : ℕ). FillsOutside e o w v after what' n limit) same.1
    (subst (λ (k : What). FillsOutside e o w v after k count limit) same.0 fills))

module _ {D : Type 0} (g : disk.Ghosts D) (e : Exchange) (o : RunOptions) (w : World) (new : Store) (one two : D) (r : Reply) (stands : StandsFor g new one two)
    (takes : TakesUpTo (e.sees o.limits) o.turns w new.world.world e.rests e.rests_new) (codes : IsSound w → AreBrought (e.sees o.limits) w new.world.world)
    (marks : ¬ (e.sees o.limits).failed → AreNoWorse w new.world.world) (directories : AreOfProcesses e.placed w → AreOfProcesses e.placed_new new.world.world) where
  -- a run came to its end
  pub ended_outside : (end : RunEnd) → EndsAs (e.sees o.limits) o.turns w new.world.world e.rests e.rests_new end → e.went o.limits o.seed o.turns w (Ok end) new.journal new.world.world
      → r ≡ has_run end w new.world.world → RunsOutside e o w (g.seen one, g.seen two) r.status
  ended_outside end ends trail reply =
      let same : status_of end ≡ r.status = sym (ap (λ (x : Reply). x.status) reply) in
      record {
        later = new.world.world;
        held = stands.held;
        journal = new.journal;
        kept = journal_of_images new (g.seen one, g.seen two) (seen_images g new one two stands);
        takes = takes;
        trail = λ other is. subst (λ (x : RunEnd). e.went o.limits o.seed o.turns w (Ok x) new.journal new.world.world) (same_end end other (same ∙ is)) trail;
        ends = λ other is. subst (EndsAs (e.sees o.limits) o.turns w new.world.world e.rests e.rests_new) (same_end end other (same ∙ is)) ends;
        spent = λ is. all_spent (e.sees o.limits) o.turns w new.world.world e.rests e.rests_new end ends (same ∙ is);
        full = λ what count limit is. absurd (end_not_full end what count limit (same ∙ is));
        codes = codes;
        marks = marks;
        directories = directories;
      }

  -- or found the store full
  pub filled_outside : (what : What) (count limit : ℕ) → TakesFewer (e.sees o.limits) o.turns w new.world.world e.rests e.rests_new
      → IsFullAt (e.sees o.limits) new (run_error.Full what count limit) → e.went o.limits o.seed o.turns w (Err (run_error.Full what count limit)) new.journal new.world.world
      → r ≡ is_full what count limit → RunsOutside e o w (g.seen one, g.seen two) r.status
  filled_outside what count limit fewer refused broken reply =
      let same : status.Full what count limit ≡ r.status = sym (ap (λ (x : Reply). x.status) reply) in
      let fills : FillsOutside e o w new.world.world (g.seen one, g.seen two) what count limit = record {
        fewer = fewer;
        journal = new.journal;
        kept = journal_of_images new (g.seen one, g.seen two) (seen_images g new one two stands);
        broken = broken;
        pid = refused.pid;
        refused = refused.refused;
      } in
      record {
        later = new.world.world;
        held = stands.held;
        journal = new.journal;
        kept = journal_of_images new (g.seen one, g.seen two) (seen_images g new one two stands);
        takes = takes;
        trail = λ end is. absurd (end_not_full end what count limit (sym (same ∙ is)));
        ends = λ end is. absurd (end_not_full end what count limit (sym (same ∙ is)));
        spent = λ is. absurd (full_not_spent what count limit (same ∙ is));
        full = λ what' count' limit' is. as_told e o w new.world.world (g.seen one, g.seen two) what what' count count' limit limit' (same ∙ is) fills;
        codes = codes;
        marks = marks;
        directories = directories;
      }

-- work that is no run
pub no_run_outside : (e : Exchange) (k : Work) (w : World) (after : Images) (s : Status) → IsNoRun k → WorksOutside e k w after s
no_run_outside e (work.View v) w after s none = tt
no_run_outside e (work.Event a) w after s none = tt
no_run_outside e (work.Run o) w after s none = absurd none
no_run_outside e work.Pack w after s none = tt

-- ---- how a call ended

-- what holds of each value holds of that of a result
pub of_each : {X E : Type 0} (result : Result X E) (P : X → Type 0) → ((x : X) → P x) → IfOk result P
of_each (Ok x) P all = all x
of_each (Err e) P all = tt

-- what was done ended with the status that is owed
pub owed_done : (owed ended : Status) → OwesStatus owed ended → IsDoneOrFull ended → owed ≡ ended
owed_done owed status.Ok h done = sym h
owed_done owed status.Spent h done = sym h
owed_done owed status.Resting h done = sym h
owed_done owed (status.Refused c) h done = absurd done
owed_done owed status.OutOfMemory h done = absurd done
owed_done owed status.DiskFault h done = absurd done
owed_done owed (status.Damaged disk at found) h done = absurd done
owed_done owed status.ReadFault h done = absurd done
owed_done owed status.WriteFault h done = absurd done
owed_done owed (status.Full what count limit) h done = sym h
owed_done owed (status.Unsound f) h done = absurd done
