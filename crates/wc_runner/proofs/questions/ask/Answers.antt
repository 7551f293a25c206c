use Rattle.std.proofs.Common.{◌≡◌, true, refl, sym, subst}
use Rattle.std.specs.Prelude.{ℕ, IfOk}
use Rattle.wc_state.specs.declared.record.Limits.{Limits}
use Rattle.wc_state.specs.declared.record.Task.{Task}
use Rattle.wc_state.specs.declared.record.Task.TheVariants as task
use Rattle.wc_machine.specs.Questions.{fits_task, performs}
use Rattle.wc_transport.specs.Outside.{task_reply, update_reply, retrieve_reply}
use Rattle.wc_runner.specs.Asked.{IsAsked, PlacesFor}
use Rattle.wc_runner.specs.Outside.{IsGiven, IsReply, in_turn}
use Rattle.wc_runner.proofs.Answered.{given_by, memory_by, done_known, progress_known, brought_known, done_fits, done_holds, progress_fits, brought_fits, places_none, rises_or_stays, told_same, told_weaker, uploads_own}
use Rattle.wc_runner.proofs.questions.ask.Goals as goal

pub returns-in-Upload-clause-given : goal.returns-in-Upload-clause-given
returns-in-Upload-clause-given g c =
    let mid = c.args.transport.now in
    let after = c.upload.new.self in
    let old : ℕ = g.T.Transport.faults mid in
    let new : ℕ = g.T.Transport.faults after in
    subst (λ (t : Task). IfOk c.done.result (λ a. (limits : Limits) (now : ℕ) → IsGiven (in_turn g.T.Transport limits now mid after) c.args.pid t c.args.request.now a)) (sym c.in-Upload.is)
    (given_by (task_reply c.upload.result) c.done.result
    (λ a. (limits : Limits) (now : ℕ) → IsGiven (in_turn g.T.Transport limits now mid after) c.args.pid task.Upload c.args.request.now a) c.done.ensures
    (λ a e limits now.
    let o = in_turn g.T.Transport limits now mid after in
    let given : IsReply g.T.Transport mid after c.args.pid task.Upload c.args.request.now (task_reply c.upload.result)
    = record {
      gave = c.upload.ensures.gave;
      holds = done_holds c.args.pid c.args.request.now c.upload.result (g.T.Transport.placed mid) (g.T.Transport.placed after) c.upload.ensures.placed;
      obliged = λ obliging. (c.upload.ensures.obliging obliging).1;
    } in
    record { reply = task_reply c.upload.result; gave = given; answered = e; known = done_known o c.args.request.now a old new (λ r. r) c.upload.result c.upload.ensures.cause e }))

pub returns-in-Upload-clause-fits : goal.returns-in-Upload-clause-fits
returns-in-Upload-clause-fits g c =
    subst (λ (t : Task). IfOk c.done.result (λ a. fits_task t a ≡ true)) (sym c.in-Upload.is)
    (given_by (task_reply c.upload.result) c.done.result (λ a. fits_task task.Upload a ≡ true) c.done.ensures (λ a e. done_fits task.Upload c.upload.result a refl e))

pub returns-in-Upload-clause-stays : goal.returns-in-Upload-clause-stays
returns-in-Upload-clause-stays g c =
    let mid = c.args.transport.now in
    let after = c.upload.new.self in
    subst (λ (t : Task). IsAsked g.T.Transport c.args.pid (performs t c.args.request.now) mid after) (sym c.in-Upload.is)
    (record {
      placed = told_weaker _ (PlacesFor c.args.pid (performs task.Upload c.args.request.now)) (uploads_own c.args.pid c.args.request.now c.upload.result) (g.T.Transport.placed mid) (g.T.Transport.placed after) c.upload.ensures.placed;
      table = c.upload.ensures.table;
      finished = c.upload.ensures.finished;
      tells_finished = c.upload.ensures.tells_finished;
      faults = rises_or_stays c.upload.result (g.T.Transport.faults mid) (g.T.Transport.faults after) c.upload.ensures.cause;
      obliging = λ obliging. (c.upload.ensures.obliging obliging).0;
    })

pub returns-in-Submit-clause-given : goal.returns-in-Submit-clause-given
returns-in-Submit-clause-given g c =
    let mid = c.args.transport.now in
    let after = c.submit.new.self in
    let old : ℕ = g.T.Transport.faults mid in
    let new : ℕ = g.T.Transport.faults after in
    subst (λ (t : Task). IfOk c.done-in-Submit.result (λ a. (limits : Limits) (now : ℕ) → IsGiven (in_turn g.T.Transport limits now mid after) c.args.pid t c.args.request.now a)) (sym c.in-Submit.is)
    (given_by (task_reply c.submit.result) c.done-in-Submit.result
    (λ a. (limits : Limits) (now : ℕ) → IsGiven (in_turn g.T.Transport limits now mid after) c.args.pid task.Submit c.args.request.now a) c.done-in-Submit.ensures
    (λ a e limits now.
    let o = in_turn g.T.Transport limits now mid after in
    let given : IsReply g.T.Transport mid after c.args.pid task.Submit c.args.request.now (task_reply c.submit.result)
    = record {
      gave = c.submit.ensures.gave;
      holds = tt;
      obliged = λ obliging. (c.submit.ensures.obliging obliging).1;
    } in
    record { reply = task_reply c.submit.result; gave = given; answered = e; known = done_known o c.args.request.now a old new (λ r. r) c.submit.result c.submit.ensures.cause e }))

pub returns-in-Submit-clause-fits : goal.returns-in-Submit-clause-fits
returns-in-Submit-clause-fits g c =
    subst (λ (t : Task). IfOk c.done-in-Submit.result (λ a. fits_task t a ≡ true)) (sym c.in-Submit.is)
    (given_by (task_reply c.submit.result) c.done-in-Submit.result (λ a. fits_task task.Submit a ≡ true) c.done-in-Submit.ensures (λ a e. done_fits task.Submit c.submit.result a refl e))

pub returns-in-Submit-clause-stays : goal.returns-in-Submit-clause-stays
returns-in-Submit-clause-stays g c =
    let mid = c.args.transport.now in
    let after = c.submit.new.self in
    subst (λ (t : Task). IsAsked g.T.Transport c.args.pid (performs t c.args.request.now) mid after) (sym c.in-Submit.is)
    (record {
      placed = told_same (PlacesFor c.args.pid (performs task.Submit c.args.request.now)) (places_none c.args.pid task.Submit c.args.request.now (λ x. refl)) (g.T.Transport.placed mid) (g.T.Transport.placed after) c.submit.ensures.placed;
      table = c.submit.ensures.table;
      finished = c.submit.ensures.finished;
      tells_finished = c.submit.ensures.tells_finished;
      faults = rises_or_stays c.submit.result (g.T.Transport.faults mid) (g.T.Transport.faults after) c.submit.ensures.cause;
      obliging = λ obliging. (c.submit.ensures.obliging obliging).0;
    })

pub returns-in-Update-clause-given : goal.returns-in-Update-clause-given
returns-in-Update-clause-given g c =
    let mid = c.args.transport.now in
    let after = c.update.new.self in
    let old : ℕ = g.T.Transport.faults mid in
    let new : ℕ = g.T.Transport.faults after in
    subst (λ (t : Task). IfOk c.progress.result (λ a. (limits : Limits) (now : ℕ) → IsGiven (in_turn g.T.Transport limits now mid after) c.args.pid t c.args.request.now a)) (sym c.in-Update.is)
    (given_by (update_reply c.update.result) c.progress.result
    (λ a. (limits : Limits) (now : ℕ) → IsGiven (in_turn g.T.Transport limits now mid after) c.args.pid task.Update c.args.request.now a) c.progress.ensures
    (λ a e limits now.
    let o = in_turn g.T.Transport limits now mid after in
    let given : IsReply g.T.Transport mid after c.args.pid task.Update c.args.request.now (update_reply c.update.result)
    = record {
      gave = c.update.ensures.gave;
      holds = tt;
      obliged = λ obliging. (c.update.ensures.obliging obliging).1;
    } in
    record { reply = update_reply c.update.result; gave = given; answered = e; known = progress_known o c.args.request.now a old new (λ r. r) c.update.result c.update.ensures.cause e }))

pub returns-in-Update-clause-fits : goal.returns-in-Update-clause-fits
returns-in-Update-clause-fits g c =
    subst (λ (t : Task). IfOk c.progress.result (λ a. fits_task t a ≡ true)) (sym c.in-Update.is)
    (given_by (update_reply c.update.result) c.progress.result (λ a. fits_task task.Update a ≡ true) c.progress.ensures (λ a e. progress_fits c.update.result a e))

pub returns-in-Update-clause-stays : goal.returns-in-Update-clause-stays
returns-in-Update-clause-stays g c =
    let mid = c.args.transport.now in
    let after = c.update.new.self in
    subst (λ (t : Task). IsAsked g.T.Transport c.args.pid (performs t c.args.request.now) mid after) (sym c.in-Update.is)
    (record {
      placed = told_same (PlacesFor c.args.pid (performs task.Update c.args.request.now)) (places_none c.args.pid task.Update c.args.request.now (λ x. refl)) (g.T.Transport.placed mid) (g.T.Transport.placed after) c.update.ensures.placed;
      table = c.update.ensures.table;
      finished = c.update.ensures.finished;
      tells_finished = c.update.ensures.tells_finished;
      faults = rises_or_stays c.update.result (g.T.Transport.faults mid) (g.T.Transport.faults after) c.update.ensures.cause;
      obliging = λ obliging. (c.update.ensures.obliging obliging).0;
    })

pub returns-in-Retrieve-clause-given : goal.returns-in-Retrieve-clause-given
returns-in-Retrieve-clause-given g c =
    let mid = c.args.transport.now in
    let after = c.retrieve.new.self in
    let old : ℕ = g.T.Transport.faults mid in
    let new : ℕ = g.T.Transport.faults after in
    subst (λ (t : Task). IfOk c.brought.result (λ a. (limits : Limits) (now : ℕ) → IsGiven (in_turn g.T.Transport limits now mid after) c.args.pid t c.args.request.now a)) (sym c.in-Retrieve.is)
    (given_by (retrieve_reply c.retrieve.result) c.brought.result
    (λ a. (limits : Limits) (now : ℕ) → IsGiven (in_turn g.T.Transport limits now mid after) c.args.pid task.Retrieve c.args.request.now a) c.brought.ensures
    (λ a e limits now.
    let o = in_turn g.T.Transport limits now mid after in
    let given : IsReply g.T.Transport mid after c.args.pid task.Retrieve c.args.request.now (retrieve_reply c.retrieve.result)
    = record {
      gave = c.retrieve.ensures.gave;
      holds = tt;
      obliged = λ obliging. (c.retrieve.ensures.obliging obliging).1;
    } in
    record { reply = retrieve_reply c.retrieve.result; gave = given; answered = e; known = brought_known o c.args.request.now a old new (λ r. r) c.retrieve.result c.retrieve.ensures.result c.retrieve.ensures.cause e }))

pub returns-in-Retrieve-clause-fits : goal.returns-in-Retrieve-clause-fits
returns-in-Retrieve-clause-fits g c =
    subst (λ (t : Task). IfOk c.brought.result (λ a. fits_task t a ≡ true)) (sym c.in-Retrieve.is)
    (given_by (retrieve_reply c.retrieve.result) c.brought.result (λ a. fits_task task.Retrieve a ≡ true) c.brought.ensures (λ a e. brought_fits c.retrieve.result a e))

pub returns-in-Retrieve-clause-stays : goal.returns-in-Retrieve-clause-stays
returns-in-Retrieve-clause-stays g c =
    let mid = c.args.transport.now in
    let after = c.retrieve.new.self in
    subst (λ (t : Task). IsAsked g.T.Transport c.args.pid (performs t c.args.request.now) mid after) (sym c.in-Retrieve.is)
    (record {
      placed = told_same (PlacesFor c.args.pid (performs task.Retrieve c.args.request.now)) (places_none c.args.pid task.Retrieve c.args.request.now (λ x. refl)) (g.T.Transport.placed mid) (g.T.Transport.placed after) c.retrieve.ensures.placed;
      table = c.retrieve.ensures.table;
      finished = c.retrieve.ensures.finished;
      tells_finished = c.retrieve.ensures.tells_finished;
      faults = rises_or_stays c.retrieve.result (g.T.Transport.faults mid) (g.T.Transport.faults after) c.retrieve.ensures.cause;
      obliging = λ obliging. (c.retrieve.ensures.obliging obliging).0;
    })

pub returns-in-Upload-clause-memory : goal.returns-in-Upload-clause-memory
returns-in-Upload-clause-memory g c = memory_by (task_reply c.upload.result) c.done.result c.done.ensures

pub returns-in-Submit-clause-memory : goal.returns-in-Submit-clause-memory
returns-in-Submit-clause-memory g c = memory_by (task_reply c.submit.result) c.done-in-Submit.result c.done-in-Submit.ensures

pub returns-in-Update-clause-memory : goal.returns-in-Update-clause-memory
returns-in-Update-clause-memory g c = memory_by (update_reply c.update.result) c.progress.result c.progress.ensures

pub returns-in-Retrieve-clause-memory : goal.returns-in-Retrieve-clause-memory
returns-in-Retrieve-clause-memory g c = memory_by (retrieve_reply c.retrieve.result) c.brought.result c.brought.ensures
