-- The turns of a work chain that calls two jobs, by computation.
use Rattle.std.proofs.Common.{◌≡◌, ℕ, true, false, [], Some, None, refl, subst}
use Rattle.std.specs.Prelude.{pos}
use Rattle.wc_state.specs.Checkpoint.{first}
use Rattle.wc_state.specs.declared.record.Task.TheVariants as task
use Rattle.wc_state.specs.declared.record.ProcessRecord.{ProcessRecord}
use Rattle.wc_semantics.specs.declared.outcomes.Parsed.{Parsed}
use Rattle.wc_world.specs.World.{World}
use Rattle.wc_machine.specs.Advances.{Advanced}
use Rattle.wc_machine.specs.Calls.{advanced}
use Rattle.wc_machine.specs.Ends.{TakesSource, ends}
use Rattle.wc_machine.specs.Machine as machine
use Rattle.wc_machine.specs.Turns as turning
use Rattle.wc_machine.specs.Turns.{TurnGives}
use Rattle.wc_machine.specs.declared.answer.TaskAnswer.TheVariants as answer
use Rattle.wc_soundness.specs.Library.{double, fan, library}
use Rattle.wc_soundness.specs.FanWorlds as fans
use Rattle.wc_soundness.specs.SmallLaws.{FanGoes}
use Rattle.wc_soundness.proofs.Expressions.{request_two, request_three, parsed_four, parsed_six}
use Rattle.wc_soundness.proofs.Outline.{goes_first, goes_second, goes_to_end}

-- ---- the chain

by_advance : (w : World) (r : ProcessRecord) (a b : Advanced) → a ≡ b → TurnGives 1000 0 w r answer.Nothing (advanced w r fan.head.outputs a)
    → TurnGives 1000 0 w r answer.Nothing (advanced w r fan.head.outputs b)
by_advance w r a b e t = subst (λ (x : Advanced). TurnGives 1000 0 w r answer.Nothing (advanced w r fan.head.outputs x)) e t

calls_both : TurnGives 1000 0 fans.created fans.fan_created answer.Nothing (fans.call_changes false)
calls_both = by_advance fans.created fans.fan_created _ fans.after_go goes_first (turning.advances fan library first fans.env_before refl refl refl refl)

calls_with_caching : TurnGives 1000 0 fans.created_with_caching fans.fan_created answer.Nothing (fans.call_changes true)
calls_with_caching = by_advance fans.created_with_caching fans.fan_created _ fans.after_go goes_first
    (turning.advances fan library first fans.env_before refl refl refl refl)

sets_outputs : TurnGives 1000 0 fans.bound fans.fan_bound answer.Nothing fans.done_changes
sets_outputs = by_advance fans.bound fans.fan_bound _ fans.after_done goes_second
    (turning.advances fan library (fans.stands 1 fans.both_bound [] []) fans.env_after refl refl refl refl)

comes_to_end : TurnGives 1000 0 fans.done fans.fan_done answer.Nothing fans.end_changes
comes_to_end = by_advance fans.done fans.fan_done _ fans.after_end goes_to_end
    (turning.advances fan library (fans.stands 2 fans.both_bound [] fans.outputs_set) fans.env_after refl refl refl refl)

-- ---- the jobs

-- caching is off
takes_none : (w : World) (r : ProcessRecord) → r.caching ≡ false → TakesSource w r None
takes_none w r h = record { on = λ e. absurd (cc (e, h)); off = λ e. refl }

by_result : (w : World) (r : ProcessRecord) (digit : ℕ) (p q : Parsed) → p ≡ q
    → TurnGives 1000 0 w r (answer.Result (fans.result digit)) (ends w r p None (Some (pos 0))) → TurnGives 1000 0 w r (answer.Result (fans.result digit)) (ends w r q None (Some (pos 0)))
by_result w r digit p q e t = subst (λ (x : Parsed). TurnGives 1000 0 w r (answer.Result (fans.result digit)) (ends w r x None (Some (pos 0)))) e t

second_ends : TurnGives 1000 0 (fans.second_at task.Retrieve 6) (fans.waits fans.second_job 3 task.Retrieve) (answer.Result (fans.result 54)) (fans.job_ends 5 6 54 (pos 6))
second_ends = by_result (fans.second_at task.Retrieve 6) (fans.waits fans.second_job 3 task.Retrieve) 54 _ (fans.job_outcome 54 (pos 6)) parsed_six
    (turning.parses double (fans.at_task task.Retrieve) (fans.request 51) (fans.result 54) refl refl request_three refl)

first_ends : TurnGives 1000 0 (fans.first_at task.Retrieve 11) (fans.waits fans.first_job 8 task.Retrieve) (answer.Result (fans.result 52)) (fans.job_ends 3 8 52 (pos 4))
first_ends = by_result (fans.first_at task.Retrieve 11) (fans.waits fans.first_job 8 task.Retrieve) 52 _ (fans.job_outcome 52 (pos 4)) parsed_four
    (turning.parses double (fans.at_task task.Retrieve) (fans.request 50) (fans.result 52) refl refl request_two refl)

pub fan_goes : FanGoes
fan_goes = record {
  submits = refl;
  after = refl;
  calls = record { leads = machine.turns fans.fan_created answer.Nothing 0 (fans.call_changes false) refl refl calls_both; after = refl };
  calls_with_caching = machine.turns fans.fan_created answer.Nothing 0 (fans.call_changes true) refl refl calls_with_caching;
  second_begins = record {
    leads = machine.turns (fans.fresh fans.second_job) answer.Nothing 0 (fans.to_task 5 task.Upload) refl refl
        (turning.begins double (fans.request 51) refl refl (takes_none fans.called (fans.fresh fans.second_job) refl) request_three);
    after = refl;
  };
  second_uploads = record {
    leads = machine.turns (fans.waits fans.second_job 3 task.Upload) answer.Done 0 (fans.to_task 5 task.Submit) refl refl
        (turning.moves double (fans.at_task task.Upload) (fans.request 51) answer.Done (record { part = fans.at_task task.Submit; paused = false }) refl refl request_three refl);
    after = refl;
  };
  second_submits = record {
    leads = machine.turns (fans.waits fans.second_job 3 task.Submit) answer.Done 0 (fans.to_task 5 task.Update) refl refl
        (turning.moves double (fans.at_task task.Submit) (fans.request 51) answer.Done (record { part = fans.at_task task.Update; paused = false }) refl refl request_three refl);
    after = refl;
  };
  second_runs = record {
    leads = machine.turns (fans.waits fans.second_job 3 task.Update) answer.Done 0 (fans.to_task 5 task.Retrieve) refl refl
        (turning.moves double (fans.at_task task.Update) (fans.request 51) answer.Done (record { part = fans.at_task task.Retrieve; paused = false }) refl refl request_three refl);
    after = refl;
  };
  second_ends = record { leads = machine.turns (fans.waits fans.second_job 3 task.Retrieve) (answer.Result (fans.result 54)) 0 (fans.job_ends 5 6 54 (pos 6)) refl refl second_ends; after = refl };
  first_begins = record {
    leads = machine.turns (fans.fresh fans.first_job) answer.Nothing 0 (fans.to_task 3 task.Upload) refl refl
        (turning.begins double (fans.request 50) refl refl (takes_none fans.half (fans.fresh fans.first_job) refl) request_two);
    after = refl;
  };
  first_uploads = record {
    leads = machine.turns (fans.waits fans.first_job 8 task.Upload) answer.Done 0 (fans.to_task 3 task.Submit) refl refl
        (turning.moves double (fans.at_task task.Upload) (fans.request 50) answer.Done (record { part = fans.at_task task.Submit; paused = false }) refl refl request_two refl);
    after = refl;
  };
  first_submits = record {
    leads = machine.turns (fans.waits fans.first_job 8 task.Submit) answer.Done 0 (fans.to_task 3 task.Update) refl refl
        (turning.moves double (fans.at_task task.Submit) (fans.request 50) answer.Done (record { part = fans.at_task task.Update; paused = false }) refl refl request_two refl);
    after = refl;
  };
  first_runs = record {
    leads = machine.turns (fans.waits fans.first_job 8 task.Update) answer.Done 0 (fans.to_task 3 task.Retrieve) refl refl
        (turning.moves double (fans.at_task task.Update) (fans.request 50) answer.Done (record { part = fans.at_task task.Retrieve; paused = false }) refl refl request_two refl);
    after = refl;
  };
  first_ends = record { leads = machine.turns (fans.waits fans.first_job 8 task.Retrieve) (answer.Result (fans.result 52)) 0 (fans.job_ends 3 8 52 (pos 4)) refl refl first_ends; after = refl };
  binds = record { leads = machine.turns fans.fan_waits answer.Nothing 0 fans.bind_changes refl refl (turning.binds fan fans.both_awaited refl refl refl); after = refl };
  sets_outputs = record { leads = machine.turns fans.fan_bound answer.Nothing 0 fans.done_changes refl refl sets_outputs; after = refl };
  ends = record { leads = machine.turns fans.fan_done answer.Nothing 0 fans.end_changes refl refl comes_to_end; after = refl };
}
