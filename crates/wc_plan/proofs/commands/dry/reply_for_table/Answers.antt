use Rattle.std.proofs.Common.{◌≡◌, ℕ, List, Option, Result, Ok, IfOk, subst, sym}
use Rattle.wc_value.specs.declared.value.Value.{Value}
use Rattle.wc_semantics.specs.Tables.{plain, no_kills}
use Rattle.wc_semantics.specs.Meaning.{meaning}
use Rattle.wc_plan.specs.Dry.{owed_answer, owed_inputs}
use Rattle.wc_plan.specs.Given.{IsGiven}
use Rattle.wc_plan.proofs.commands.dry.reply_for_table.Goals as goal

pub returns-in-Ok : goal.returns-in-Ok
returns-in-Ok c =
    let a = c.args in
    let read = subst (λ (r : Result (List (List ℕ × Value)) (List ℕ)). IsGiven a.ports.now c.as_slice.result.now a.file r) c.in-Ok.is c.in_ok-inputs.ensures in
    let given = subst (λ (g : List (List ℕ × List ℕ)). IsGiven a.ports.now g a.file (Ok c.in-Ok.inputs)) c.as_slice.ensures read in
    let answered =
    subst
    (λ (fs : List (List ℕ × Value)). IfOk c.reply_for_inputs.result
    (λ r. r ≡ owed_answer (meaning 15 a.library.now (plain a.table.now) no_kills a.trial.now.fuel a.trial.now.name fs)))
    given.1 c.reply_for_inputs.ensures
    in
    subst
    (λ (bad : Option (List ℕ)). IfOk c.reply_for_inputs.result
    (λ r. r ≡ owed_inputs bad a.ports.now a.library.now a.trial.now.name a.trial.now.given a.file a.table.now a.trial.now.fuel))
    (sym given.0) answered
