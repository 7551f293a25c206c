use Rattle.std.proofs.Common.{◌≡◌, true, Ok, refl, sym, ◌∙◌}
use Rattle.std.specs.Prelude.{ℕ}
use Rattle.wc_state.specs.declared.record.Limits.{Limits}
use Rattle.wc_state.specs.declared.record.ProcessRecord.{ProcessRecord}
use Rattle.wc_state.specs.declared.record.Task.TheVariants as task
use Rattle.wc_machine.specs.declared.answer.TaskAnswer.{TaskAnswer}
use Rattle.wc_machine.specs.declared.answer.TaskAnswer.TheVariants as answer
use Rattle.wc_machine.specs.Questions.{fits, fits_task, need, nothing, performs}
use Rattle.wc_runner.specs.Asked.{AsksOnce, IsAsked, WhatItNeeds}
use Rattle.wc_runner.specs.Outside.{Answers, AnswersNeed, IsGiven, in_turn}
use Rattle.wc_runner.proofs.Answered.{ok_map}
use Rattle.wc_runner.proofs.Needed.{counts_once, needs_nothing, needs_task, needs_there, unasked}
use Rattle.wc_runner.proofs.turns.answer_for.Goals as goal

pub returns-in-Upload-clause-answers : goal.returns-in-Upload-clause-answers
returns-in-Upload-clause-answers g c =
    let w = c.args.world.now.world in
    let told = c.in-Ok.ensures.ok in
    let r : ProcessRecord = told.0 in
    let q = c.in-Upload.request in
    let mid = c.args.transport.now in
    let after = c.ask.new.transport in
    let is : need w r ≡ performs task.Upload q = needs_task task.Upload q (need w r) (sym c.in-Upload.is ∙ told.2) in
    ok_map c.ask.result (λ a. (limits : Limits) (now : ℕ) → IsGiven (in_turn g.T.Transport limits now mid after) c.args.pid task.Upload q a)
    (λ a. (limits : Limits) → Answers (in_turn g.T.Transport limits c.args.now mid after) w c.args.pid a)
    (λ a given limits. needs_there w c.args.pid r told.1 (performs task.Upload q) is (λ n. AnswersNeed (in_turn g.T.Transport limits c.args.now mid after) c.args.pid n a) (given limits c.args.now)) c.ask.ensures.given

pub returns-in-Upload-clause-fits : goal.returns-in-Upload-clause-fits
returns-in-Upload-clause-fits g c =
    let w = c.args.world.now.world in
    let told = c.in-Ok.ensures.ok in
    let r : ProcessRecord = told.0 in
    let q = c.in-Upload.request in
    let mid = c.args.transport.now in
    let after = c.ask.new.transport in
    let is : need w r ≡ performs task.Upload q = needs_task task.Upload q (need w r) (sym c.in-Upload.is ∙ told.2) in
    ok_map c.ask.result (λ a. fits_task task.Upload a ≡ true) (λ a. WhatItNeeds w c.args.pid (λ n. fits n a ≡ true))
    (λ a yes. needs_there w c.args.pid r told.1 (performs task.Upload q) is (λ n. fits n a ≡ true) yes) c.ask.ensures.fits

pub returns-in-Upload-clause-memory : goal.returns-in-Upload-clause-memory
returns-in-Upload-clause-memory g c =
    c.ask.ensures.memory

pub returns-in-Upload-clause-asks : goal.returns-in-Upload-clause-asks
returns-in-Upload-clause-asks g c =
    let w = c.args.world.now.world in
    let told = c.in-Ok.ensures.ok in
    let r : ProcessRecord = told.0 in
    let q = c.in-Upload.request in
    let mid = c.args.transport.now in
    let after = c.ask.new.transport in
    let is : need w r ≡ performs task.Upload q = needs_task task.Upload q (need w r) (sym c.in-Upload.is ∙ told.2) in
    needs_there w c.args.pid r told.1 (performs task.Upload q) is (AsksOnce c.ask.result g.T.Transport.asked mid after)
    (counts_once c.ask.result (g.T.Transport.asked mid) (g.T.Transport.asked after) c.ask.ensures.asked)

pub returns-in-Upload-clause-stays : goal.returns-in-Upload-clause-stays
returns-in-Upload-clause-stays g c =
    let w = c.args.world.now.world in
    let told = c.in-Ok.ensures.ok in
    let r : ProcessRecord = told.0 in
    let q = c.in-Upload.request in
    let mid = c.args.transport.now in
    let after = c.ask.new.transport in
    let is : need w r ≡ performs task.Upload q = needs_task task.Upload q (need w r) (sym c.in-Upload.is ∙ told.2) in
    needs_there w c.args.pid r told.1 (performs task.Upload q) is (λ n. IsAsked g.T.Transport c.args.pid n mid after) c.ask.ensures.stays

pub returns-in-Submit-clause-answers : goal.returns-in-Submit-clause-answers
returns-in-Submit-clause-answers g c =
    let w = c.args.world.now.world in
    let told = c.in-Ok.ensures.ok in
    let r : ProcessRecord = told.0 in
    let q = c.in-Submit.request in
    let mid = c.args.transport.now in
    let after = c.ask-in-Submit.new.transport in
    let is : need w r ≡ performs task.Submit q = needs_task task.Submit q (need w r) (sym c.in-Submit.is ∙ told.2) in
    ok_map c.ask-in-Submit.result (λ a. (limits : Limits) (now : ℕ) → IsGiven (in_turn g.T.Transport limits now mid after) c.args.pid task.Submit q a)
    (λ a. (limits : Limits) → Answers (in_turn g.T.Transport limits c.args.now mid after) w c.args.pid a)
    (λ a given limits. needs_there w c.args.pid r told.1 (performs task.Submit q) is (λ n. AnswersNeed (in_turn g.T.Transport limits c.args.now mid after) c.args.pid n a) (given limits c.args.now)) c.ask-in-Submit.ensures.given

pub returns-in-Submit-clause-fits : goal.returns-in-Submit-clause-fits
returns-in-Submit-clause-fits g c =
    let w = c.args.world.now.world in
    let told = c.in-Ok.ensures.ok in
    let r : ProcessRecord = told.0 in
    let q = c.in-Submit.request in
    let mid = c.args.transport.now in
    let after = c.ask-in-Submit.new.transport in
    let is : need w r ≡ performs task.Submit q = needs_task task.Submit q (need w r) (sym c.in-Submit.is ∙ told.2) in
    ok_map c.ask-in-Submit.result (λ a. fits_task task.Submit a ≡ true) (λ a. WhatItNeeds w c.args.pid (λ n. fits n a ≡ true))
    (λ a yes. needs_there w c.args.pid r told.1 (performs task.Submit q) is (λ n. fits n a ≡ true) yes) c.ask-in-Submit.ensures.fits

pub returns-in-Submit-clause-memory : goal.returns-in-Submit-clause-memory
returns-in-Submit-clause-memory g c =
    c.ask-in-Submit.ensures.memory

pub returns-in-Submit-clause-asks : goal.returns-in-Submit-clause-asks
returns-in-Submit-clause-asks g c =
    let w = c.args.world.now.world in
    let told = c.in-Ok.ensures.ok in
    let r : ProcessRecord = told.0 in
    let q = c.in-Submit.request in
    let mid = c.args.transport.now in
    let after = c.ask-in-Submit.new.transport in
    let is : need w r ≡ performs task.Submit q = needs_task task.Submit q (need w r) (sym c.in-Submit.is ∙ told.2) in
    needs_there w c.args.pid r told.1 (performs task.Submit q) is (AsksOnce c.ask-in-Submit.result g.T.Transport.asked mid after)
    (counts_once c.ask-in-Submit.result (g.T.Transport.asked mid) (g.T.Transport.asked after) c.ask-in-Submit.ensures.asked)

pub returns-in-Submit-clause-stays : goal.returns-in-Submit-clause-stays
returns-in-Submit-clause-stays g c =
    let w = c.args.world.now.world in
    let told = c.in-Ok.ensures.ok in
    let r : ProcessRecord = told.0 in
    let q = c.in-Submit.request in
    let mid = c.args.transport.now in
    let after = c.ask-in-Submit.new.transport in
    let is : need w r ≡ performs task.Submit q = needs_task task.Submit q (need w r) (sym c.in-Submit.is ∙ told.2) in
    needs_there w c.args.pid r told.1 (performs task.Submit q) is (λ n. IsAsked g.T.Transport c.args.pid n mid after) c.ask-in-Submit.ensures.stays

pub returns-in-Update-clause-answers : goal.returns-in-Update-clause-answers
returns-in-Update-clause-answers g c =
    let w = c.args.world.now.world in
    let told = c.in-Ok.ensures.ok in
    let r : ProcessRecord = told.0 in
    let q = c.in-Update.request in
    let mid = c.args.transport.now in
    let after = c.ask-in-Update.new.transport in
    let is : need w r ≡ performs task.Update q = needs_task task.Update q (need w r) (sym c.in-Update.is ∙ told.2) in
    ok_map c.ask-in-Update.result (λ a. (limits : Limits) (now : ℕ) → IsGiven (in_turn g.T.Transport limits now mid after) c.args.pid task.Update q a)
    (λ a. (limits : Limits) → Answers (in_turn g.T.Transport limits c.args.now mid after) w c.args.pid a)
    (λ a given limits. needs_there w c.args.pid r told.1 (performs task.Update q) is (λ n. AnswersNeed (in_turn g.T.Transport limits c.args.now mid after) c.args.pid n a) (given limits c.args.now)) c.ask-in-Update.ensures.given

pub returns-in-Update-clause-fits : goal.returns-in-Update-clause-fits
returns-in-Update-clause-fits g c =
    let w = c.args.world.now.world in
    let told = c.in-Ok.ensures.ok in
    let r : ProcessRecord = told.0 in
    let q = c.in-Update.request in
    let mid = c.args.transport.now in
    let after = c.ask-in-Update.new.transport in
    let is : need w r ≡ performs task.Update q = needs_task task.Update q (need w r) (sym c.in-Update.is ∙ told.2) in
    ok_map c.ask-in-Update.result (λ a. fits_task task.Update a ≡ true) (λ a. WhatItNeeds w c.args.pid (λ n. fits n a ≡ true))
    (λ a yes. needs_there w c.args.pid r told.1 (performs task.Update q) is (λ n. fits n a ≡ true) yes) c.ask-in-Update.ensures.fits

pub returns-in-Update-clause-memory : goal.returns-in-Update-clause-memory
returns-in-Update-clause-memory g c =
    c.ask-in-Update.ensures.memory

pub returns-in-Update-clause-asks : goal.returns-in-Update-clause-asks
returns-in-Update-clause-asks g c =
    let w = c.args.world.now.world in
    let told = c.in-Ok.ensures.ok in
    let r : ProcessRecord = told.0 in
    let q = c.in-Update.request in
    let mid = c.args.transport.now in
    let after = c.ask-in-Update.new.transport in
    let is : need w r ≡ performs task.Update q = needs_task task.Update q (need w r) (sym c.in-Update.is ∙ told.2) in
    needs_there w c.args.pid r told.1 (performs task.Update q) is (AsksOnce c.ask-in-Update.result g.T.Transport.asked mid after)
    (counts_once c.ask-in-Update.result (g.T.Transport.asked mid) (g.T.Transport.asked after) c.ask-in-Update.ensures.asked)

pub returns-in-Update-clause-stays : goal.returns-in-Update-clause-stays
returns-in-Update-clause-stays g c =
    let w = c.args.world.now.world in
    let told = c.in-Ok.ensures.ok in
    let r : ProcessRecord = told.0 in
    let q = c.in-Update.request in
    let mid = c.args.transport.now in
    let after = c.ask-in-Update.new.transport in
    let is : need w r ≡ performs task.Update q = needs_task task.Update q (need w r) (sym c.in-Update.is ∙ told.2) in
    needs_there w c.args.pid r told.1 (performs task.Update q) is (λ n. IsAsked g.T.Transport c.args.pid n mid after) c.ask-in-Update.ensures.stays

pub returns-clause-answers : goal.returns-clause-answers
returns-clause-answers g c =
    let w = c.args.world.now.world in
    let told = c.in-Ok.ensures.ok in
    let r : ProcessRecord = told.0 in
    let q = c.in-Retrieve.request in
    let mid = c.args.transport.now in
    let after = c.ask-in-Retrieve.new.transport in
    let is : need w r ≡ performs task.Retrieve q = needs_task task.Retrieve q (need w r) (sym c.in-Retrieve.is ∙ told.2) in
    ok_map c.ask-in-Retrieve.result (λ a. (limits : Limits) (now : ℕ) → IsGiven (in_turn g.T.Transport limits now mid after) c.args.pid task.Retrieve q a)
    (λ a. (limits : Limits) → Answers (in_turn g.T.Transport limits c.args.now mid after) w c.args.pid a)
    (λ a given limits. needs_there w c.args.pid r told.1 (performs task.Retrieve q) is (λ n. AnswersNeed (in_turn g.T.Transport limits c.args.now mid after) c.args.pid n a) (given limits c.args.now)) c.ask-in-Retrieve.ensures.given

pub returns-clause-fits : goal.returns-clause-fits
returns-clause-fits g c =
    let w = c.args.world.now.world in
    let told = c.in-Ok.ensures.ok in
    let r : ProcessRecord = told.0 in
    let q = c.in-Retrieve.request in
    let mid = c.args.transport.now in
    let after = c.ask-in-Retrieve.new.transport in
    let is : need w r ≡ performs task.Retrieve q = needs_task task.Retrieve q (need w r) (sym c.in-Retrieve.is ∙ told.2) in
    ok_map c.ask-in-Retrieve.result (λ a. fits_task task.Retrieve a ≡ true) (λ a. WhatItNeeds w c.args.pid (λ n. fits n a ≡ true))
    (λ a yes. needs_there w c.args.pid r told.1 (performs task.Retrieve q) is (λ n. fits n a ≡ true) yes) c.ask-in-Retrieve.ensures.fits

pub returns-clause-memory : goal.returns-clause-memory
returns-clause-memory g c =
    c.ask-in-Retrieve.ensures.memory

pub returns-clause-asks : goal.returns-clause-asks
returns-clause-asks g c =
    let w = c.args.world.now.world in
    let told = c.in-Ok.ensures.ok in
    let r : ProcessRecord = told.0 in
    let q = c.in-Retrieve.request in
    let mid = c.args.transport.now in
    let after = c.ask-in-Retrieve.new.transport in
    let is : need w r ≡ performs task.Retrieve q = needs_task task.Retrieve q (need w r) (sym c.in-Retrieve.is ∙ told.2) in
    needs_there w c.args.pid r told.1 (performs task.Retrieve q) is (AsksOnce c.ask-in-Retrieve.result g.T.Transport.asked mid after)
    (counts_once c.ask-in-Retrieve.result (g.T.Transport.asked mid) (g.T.Transport.asked after) c.ask-in-Retrieve.ensures.asked)

pub returns-clause-stays : goal.returns-clause-stays
returns-clause-stays g c =
    let w = c.args.world.now.world in
    let told = c.in-Ok.ensures.ok in
    let r : ProcessRecord = told.0 in
    let q = c.in-Retrieve.request in
    let mid = c.args.transport.now in
    let after = c.ask-in-Retrieve.new.transport in
    let is : need w r ≡ performs task.Retrieve q = needs_task task.Retrieve q (need w r) (sym c.in-Retrieve.is ∙ told.2) in
    needs_there w c.args.pid r told.1 (performs task.Retrieve q) is (λ n. IsAsked g.T.Transport c.args.pid n mid after) c.ask-in-Retrieve.ensures.stays

pub returns-in-Nothing-clause-answers : goal.returns-in-Nothing-clause-answers
returns-in-Nothing-clause-answers g c =
    let w = c.args.world.now.world in
    let told = c.in-Ok.ensures.ok in
    let r : ProcessRecord = told.0 in
    let mid = c.args.transport.now in
    let is : need w r ≡ nothing = needs_nothing (need w r) (sym c.in-Nothing.is ∙ told.2) in
    λ limits. needs_there w c.args.pid r told.1 nothing is (λ n. AnswersNeed (in_turn g.T.Transport limits c.args.now mid mid) c.args.pid n answer.Nothing) refl

pub returns-in-Nothing-clause-fits : goal.returns-in-Nothing-clause-fits
returns-in-Nothing-clause-fits g c =
    let w = c.args.world.now.world in
    let told = c.in-Ok.ensures.ok in
    let r : ProcessRecord = told.0 in
    let mid = c.args.transport.now in
    let is : need w r ≡ nothing = needs_nothing (need w r) (sym c.in-Nothing.is ∙ told.2) in
    needs_there w c.args.pid r told.1 nothing is (λ n. fits n answer.Nothing ≡ true) refl

pub returns-in-Nothing-clause-asks : goal.returns-in-Nothing-clause-asks
returns-in-Nothing-clause-asks g c =
    let w = c.args.world.now.world in
    let told = c.in-Ok.ensures.ok in
    let r : ProcessRecord = told.0 in
    let mid = c.args.transport.now in
    let is : need w r ≡ nothing = needs_nothing (need w r) (sym c.in-Nothing.is ∙ told.2) in
    needs_there w c.args.pid r told.1 nothing is (AsksOnce {A = TaskAnswer} (Ok answer.Nothing) g.T.Transport.asked mid mid) refl

pub returns-in-Nothing-clause-stays : goal.returns-in-Nothing-clause-stays
returns-in-Nothing-clause-stays g c =
    let w = c.args.world.now.world in
    let told = c.in-Ok.ensures.ok in
    let r : ProcessRecord = told.0 in
    let mid = c.args.transport.now in
    let is : need w r ≡ nothing = needs_nothing (need w r) (sym c.in-Nothing.is ∙ told.2) in
    needs_there w c.args.pid r told.1 nothing is (λ n. IsAsked g.T.Transport c.args.pid n mid mid) (unasked g.T.Transport c.args.pid mid)
