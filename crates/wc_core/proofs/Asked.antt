-- Which answers fit what is told to be asked.
use Rattle.std.proofs.Common.{◌≡◌, ℕ, true, Option, sym, subst}
use Rattle.std.specs.Prelude.{IfSome}
use Rattle.wc_value.specs.declared.process.Request.{Request}
use Rattle.wc_state.specs.declared.record.ProcessRecord.{ProcessRecord}
use Rattle.wc_state.specs.declared.record.Task.{Task}
use Rattle.wc_state.specs.declared.record.Task.TheVariants as task
use Rattle.wc_world.specs.World.{World}
use Rattle.wc_machine.specs.declared.answer.TaskAnswer.{TaskAnswer}
use Rattle.wc_machine.specs.Questions.{Need, nothing, performs, fits, fits_task, need}
use Rattle.wc_core.specs.Asks.{asks_of, asks_task, FitsAt, IsNeedAt}
use Rattle.wc_core.specs.declared.needs.Asks.{Asks}
use Rattle.wc_core.specs.declared.needs.Asks.TheVariants as asks

-- the answer fits what is told
abbrev pub FitsAsked : Asks → TaskAnswer → Type 0
FitsAsked asks.Nothing a = fits nothing a ≡ true
FitsAsked (asks.Upload q) a = fits_task task.Upload a ≡ true
FitsAsked (asks.Submit q) a = fits_task task.Submit a ≡ true
FitsAsked (asks.Update q) a = fits_task task.Update a ≡ true
FitsAsked (asks.Retrieve q) a = fits_task task.Retrieve a ≡ true

task_fits : (t : Task) (q : Request) (a : TaskAnswer) → FitsAsked (asks_task t q) a → fits_task t a ≡ true
task_fits task.Upload q a h = h
task_fits task.Submit q a h = h
task_fits task.Update q a h = h
task_fits task.Retrieve q a h = h

need_fits : (n : Need) (a : TaskAnswer) → FitsAsked (asks_of n) a → fits n a ≡ true
need_fits nothing a h = h
need_fits (performs t q) a h = task_fits t q a h

-- what fits what a process is told to ask fits what it asks
pub fits_there : (w : World) (pid : ℕ) (x : Asks) (a : TaskAnswer) → IsNeedAt w pid x → FitsAsked x a → FitsAt w pid a
fits_there w pid x a told h =
    subst (λ (o : Option ProcessRecord). IfSome o (λ r. fits (need w r) a ≡ true)) (sym told.1)
    (need_fits (need w told.0) a (subst (λ (y : Asks). FitsAsked y a) told.2 h))
