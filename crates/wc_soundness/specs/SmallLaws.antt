-- What the machine makes of small worlds, and which worlds are not sound.
use Rattle.std.specs.Prelude.{◌≡◌, pos, [], ◌∷◌, Some, None, All, codes, true, false}
use Rattle.wc_syntax.specs.declared.definition.Definition.TheVariants as definition
use Rattle.wc_semantics.specs.Tables.{Table}
use Rattle.wc_semantics.specs.declared.progress.Answer.TheVariants.{Gave, TooLittle}
use Rattle.wc_state.specs.declared.record.Task.TheVariants as task
use Rattle.wc_world.specs.World.{empty}
use Rattle.wc_world.specs.Applied.{applied}
use Rattle.wc_world.specs.Trees.{recorded_tree}
use Rattle.wc_machine.specs.Machine.{Leads, turn, play, kill}
use Rattle.wc_machine.specs.Paths.{kills}
use Rattle.wc_machine.specs.Readiness.{ready_at}
use Rattle.wc_machine.specs.Rest.{meant}
use Rattle.wc_machine.specs.Sound.{IsSound, IsPlaced, AwaitsLastCalls}
use Rattle.wc_machine.specs.Sources.{KeepsCacheRule}
use Rattle.wc_machine.specs.Created.{IsCreatedByInputs}
use Rattle.wc_machine.specs.Submissions.{submission}
use Rattle.wc_machine.specs.declared.answer.TaskAnswer.TheVariants as answer
use Rattle.wc_soundness.specs.Words.{Makes}
use Rattle.wc_soundness.specs.Library as library
use Rattle.wc_soundness.specs.FanWorlds as fan
use Rattle.wc_soundness.specs.FanWorlds.{HasBoth}
use Rattle.wc_soundness.specs.CachedWorlds as cached
use Rattle.wc_soundness.specs.FailingWorlds as failing
use Rattle.wc_soundness.specs.KilledWorlds as killed
use Rattle.wc_soundness.specs.WrongWorlds as wrong

-- ---- a work chain with two jobs

-- Its submission and its turns.
pub record FanGoes : Type 0 where
  pub submits : submission empty library.library [] (codes "fan") fan.input (definition.Chain library.fan) ≡ fan.submission_changes
  pub after : applied empty fan.submission_changes ≡ fan.created
  pub calls : Makes fan.created (turn 2 answer.Nothing 0) (fan.call_changes false) fan.called
  pub calls_with_caching : Leads 1000 fan.created_with_caching (turn 2 answer.Nothing 0) (fan.call_changes true)
  pub second_begins : Makes fan.called (turn 5 answer.Nothing 0) (fan.to_task 5 task.Upload) (fan.second_at task.Upload 3)
  pub second_uploads : Makes (fan.second_at task.Upload 3) (turn 5 answer.Done 0) (fan.to_task 5 task.Submit) (fan.second_at task.Submit 4)
  pub second_submits : Makes (fan.second_at task.Submit 4) (turn 5 answer.Done 0) (fan.to_task 5 task.Update) (fan.second_at task.Update 5)
  pub second_runs : Makes (fan.second_at task.Update 5) (turn 5 answer.Done 0) (fan.to_task 5 task.Retrieve) (fan.second_at task.Retrieve 6)
  pub second_ends : Makes (fan.second_at task.Retrieve 6) (turn 5 (answer.Result (fan.result 54)) 0) (fan.job_ends 5 6 54 (pos 6)) fan.half
  pub first_begins : Makes fan.half (turn 3 answer.Nothing 0) (fan.to_task 3 task.Upload) (fan.first_at task.Upload 8)
  pub first_uploads : Makes (fan.first_at task.Upload 8) (turn 3 answer.Done 0) (fan.to_task 3 task.Submit) (fan.first_at task.Submit 9)
  pub first_submits : Makes (fan.first_at task.Submit 9) (turn 3 answer.Done 0) (fan.to_task 3 task.Update) (fan.first_at task.Update 10)
  pub first_runs : Makes (fan.first_at task.Update 10) (turn 3 answer.Done 0) (fan.to_task 3 task.Retrieve) (fan.first_at task.Retrieve 11)
  pub first_ends : Makes (fan.first_at task.Retrieve 11) (turn 3 (answer.Result (fan.result 52)) 0) (fan.job_ends 3 8 52 (pos 4)) fan.ready
  pub binds : Makes fan.ready (turn 2 answer.Nothing 0) fan.bind_changes fan.bound
  pub sets_outputs : Makes fan.bound (turn 2 answer.Nothing 0) fan.done_changes fan.done
  pub ends : Makes fan.done (turn 2 answer.Nothing 0) fan.end_changes fan.ended

-- Which processes are ready at its moments, and the trees and kills that are recorded.
pub record FanIsSeen : Type 0 where
  pub created : ready_at fan.created 0 ≡ 2 ∷ []
  pub called : ready_at fan.called 0 ≡ 3 ∷ (5 ∷ [])
  pub half : ready_at fan.half 0 ≡ 3 ∷ []
  pub ready : ready_at fan.ready 0 ≡ 2 ∷ []
  pub bound : ready_at fan.bound 0 ≡ 2 ∷ []
  pub done : ready_at fan.done 0 ≡ 2 ∷ []
  pub ended : ready_at fan.ended 0 ≡ []
  pub tree_at_half : recorded_tree fan.half 2 ≡ Some fan.half_tree
  pub tree : recorded_tree fan.ended 2 ≡ Some fan.fan_tree
  pub kill_of_chain : kills fan.ended 2 [] ≡ None
  pub first_kill : kills fan.ended 2 (fan.one ∷ []) ≡ None

-- With the fuel that is kept of it, no more and no less, the chain means the tree that is recorded of it, for each table with the results of both
-- jobs; so does the killed one, with the recorded kills.
pub record FanIsMeant : Type 0 where
  pub whole : (table : Table) → HasBoth table → meant fan.ended fan.fan_ended table (kills fan.ended 2) 2 ≡ Some (Gave fan.fan_replayed 0)
  pub too_little : (table : Table) → HasBoth table → meant fan.ended fan.fan_ended table (kills fan.ended 2) 1 ≡ Some TooLittle
  pub killed : (table : Table) → HasBoth table → meant killed.killed killed.killed_chain table (kills killed.killed 2) 2 ≡ Some (Gave killed.killed_replayed 0)

-- ---- a job that takes the outcome of an equal one

-- The law of a job that takes the outcome of an equal one: it is submitted, is ready and takes the outcome as written out in `CachedWorlds`
pub record CachingGoes : Type 0 where
  pub submits : submission cached.ended library.library (codes "double" ∷ []) (codes "double") cached.input (definition.Job library.double) ≡ cached.submission_changes
  pub after : applied cached.ended cached.submission_changes ≡ cached.submitted
  pub ready : ready_at cached.submitted 0 ≡ 6 ∷ []
  pub clones : Makes cached.submitted (turn 6 answer.Nothing 0) cached.clone_changes cached.cloned
  pub tree : recorded_tree cached.cloned 6 ≡ Some (fan.job_tree 52 (pos 4))
  pub source_tree : recorded_tree cached.cloned 2 ≡ Some (fan.job_tree 52 (pos 4))

-- ---- a job that fails

-- Each failure has the task tried again later, at first after 20 seconds and each time after twice as long. The fifth in a row pauses the job, which
-- isn't ready then, and is ready at once where it plays.
pub record FailuresGo : Type 0 where
  pub first_fails : Makes (failing.after_failures 0 0 false 3) (turn 5 answer.Failed 0) (failing.to_try 1 20000 false) (failing.after_failures 1 20000 false 4)
  pub too_early : ready_at (failing.after_failures 1 20000 false 4) 19999 ≡ 3 ∷ []
  pub second_fails : Makes (failing.after_failures 1 20000 false 4) (turn 5 answer.Failed 20000) (failing.to_try 2 60000 false) (failing.after_failures 2 60000 false 5)
  pub third_fails : Makes (failing.after_failures 2 60000 false 5) (turn 5 answer.Failed 60000) (failing.to_try 3 140000 false) (failing.after_failures 3 140000 false 6)
  pub fourth_fails : Makes (failing.after_failures 3 140000 false 6) (turn 5 answer.Failed 140000) (failing.to_try 4 300000 false) (failing.after_failures 4 300000 false 7)
  pub fifth_fails : Makes (failing.after_failures 4 300000 false 7) (turn 5 answer.Failed 300000) (failing.to_try 5 300000 true) (failing.after_failures 5 300000 true 8)
  pub paused : ready_at (failing.after_failures 5 300000 true 8) 300000 ≡ 3 ∷ []
  pub plays : Makes (failing.after_failures 5 300000 true 8) (play 5) (failing.to_try 0 0 false) (failing.after_failures 0 0 false 9)
  pub ready : ready_at (failing.after_failures 0 0 false 9) 0 ≡ 3 ∷ (5 ∷ [])

-- ---- a work chain that is killed

-- The law of the kill of a waiting chain with a live child and an ended one: both live ones are killed, nothing is ready, and the tree is as written out
-- in `KilledWorlds`
pub record KillGoes : Type 0 where
  pub kills_both : Makes fan.half (kill 2) killed.kill_changes killed.killed
  pub ready : ready_at killed.killed 0 ≡ []
  pub tree : recorded_tree killed.killed 2 ≡ Some killed.killed_tree
  -- it had called two processes, and the killed job none
  pub kill_of_chain : kills killed.killed 2 [] ≡ Some 2
  pub first_kill : kills killed.killed 2 (fan.one ∷ []) ≡ Some 0
  pub second_kill : kills killed.killed 2 (fan.two ∷ []) ≡ None

-- ---- wrong worlds

-- Each of these worlds breaks one part of soundness, so it isn't sound.
pub record WrongWorldsAreRefused : Type 0 where
  -- the outputs of an ended job under each other's labels
  pub swapped : IsCreatedByInputs wrong.swapped → ⊥
  -- an output that isn't what the recorded result gives
  pub other_result : IsCreatedByInputs wrong.other_result → ⊥
  -- a source that ended after the start of the process that took its outcome, or in the same batch
  pub late : KeepsCacheRule (wrong.late 9) → ⊥
  pub same_batch : KeepsCacheRule (wrong.late 8) → ⊥
  -- a source whose status its definition marks as one that no other takes over
  pub marked : KeepsCacheRule wrong.marked → ⊥
  -- a call link of an ended chain taken away
  pub cut : All (IsPlaced wrong.cut) wrong.cut.records → ⊥
  -- awaited children in another order
  pub disordered : All (λ r. AwaitsLastCalls wrong.disordered r r.part) wrong.disordered.records → ⊥

-- The law: none of the worlds of `WrongWorlds`, which are wrong in one thing each, is sound
pub record WrongWorldsAreUnsound : Type 0 where
  pub swapped : IsSound wrong.swapped → ⊥
  pub other_result : IsSound wrong.other_result → ⊥
  pub late : IsSound (wrong.late 9) → ⊥
  pub same_batch : IsSound (wrong.late 8) → ⊥
  pub marked : IsSound wrong.marked → ⊥
  pub cut : IsSound wrong.cut → ⊥
  pub disordered : IsSound wrong.disordered → ⊥
  -- the outputs of an ended chain under each other's labels, and less fuel kept of it than its calls take: neither is what it means
  pub exchanged : IsSound wrong.exchanged → ⊥
  pub little_fuel : IsSound wrong.little_fuel → ⊥
