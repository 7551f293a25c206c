use Rattle.std.proofs.Common.{◌≡◌, ℕ, ◌+◌, length, rules, refl, sym, subst}
use Rattle.std.specs.Prelude.{List}
use Rattle.wc_world.specs.declared.change.Change.{Change}
use Rattle.wc_world.specs.Applied.{applied}
use Rattle.wc_machine.specs.Submissions.{Submits, submission}
use Rattle.wc_machine.specs.Refusals.{AreFew, HasRoom, RefusesCounts}
use Rattle.wc_core.proofs.Refused.{refuses_submission, submission_fits}
use Rattle.wc_core.proofs.Allowed.{submission_allowed}
use Rattle.wc_core.proofs.Leading.{submission_accepted, submission_continues, submission_sound}
use Rattle.wc_core.proofs.submissions.submit_changes.Goals as goal

pub returns-in-Err-clause-refused : goal.returns-in-Err-clause-refused
returns-in-Err-clause-refused c =
    let a = c.args in
    let w = a.world.now.world in
    let most = a.limits.now.max_nodes in
    let t = c.in_ok-kind.ensures.ok in
    refuses_submission w a.library a.caching a.name.now a.inputs most c.in-Err.error t.definition (c.library-checked.result.now, c.library-checked.ensures.checked, c.library-checked.ensures.same) c.requires.ascending (search rules) t.is_there t.takes
    (subst (λ (n : ℕ). RefusesCounts (length w.nodes + (n + 1)) (w.batches + 1) most c.in-Err.error) c.len.ensures.value c.in-Err.ensures.refused)

pub returns-in_ok-submission-in-Ok-clause-room : goal.returns-in_ok-submission-in-Ok-clause-room
returns-in_ok-submission-in-Ok-clause-room c =
    let a = c.args in
    let w = a.world.now.world in
    let most = a.limits.now.max_nodes in
    let t = c.in_ok-kind.ensures.ok in
    subst (λ (cs : List Change). HasRoom most (applied w cs)) (sym (c.in_ok-submission-in-Ok.ensures t.definition t.is_kind))
    (submission_fits w a.library a.caching a.name.now a.inputs most t.definition
    (subst (λ (n : ℕ). AreFew (length w.nodes + (n + 1)) (w.batches + 1) most) c.len.ensures.value c.in-Ok.ensures.ok))

pub returns-in_ok-submission-in-Ok-clause-none : goal.returns-in_ok-submission-in-Ok-clause-none
returns-in_ok-submission-in-Ok-clause-none c =
    let a = c.args in
    let w = a.world.now.world in
    let most = a.limits.now.max_nodes in
    let t = c.in_ok-kind.ensures.ok in
    let cs = submission w a.library a.caching a.name.now a.inputs t.definition in
    let s : Submits w a.library a.caching a.name.now a.inputs cs
    = record { checked = (c.library-checked.result.now, c.library-checked.ensures.checked, c.library-checked.ensures.same); names = c.requires.ascending; values = search rules; definition = t.definition; is_there = t.is_there; takes = t.takes; changes = refl } in
    submission_allowed w a.library a.caching a.name.now a.inputs cs s most
    (submission_fits w a.library a.caching a.name.now a.inputs most t.definition
    (subst (λ (n : ℕ). AreFew (length w.nodes + (n + 1)) (w.batches + 1) most) c.len.ensures.value c.in-Ok.ensures.ok))

pub returns-in_ok-submission-in-Ok-clause-accepted : goal.returns-in_ok-submission-in-Ok-clause-accepted
returns-in_ok-submission-in-Ok-clause-accepted c =
    let a = c.args in
    let w = a.world.now.world in
    let most = a.limits.now.max_nodes in
    let t = c.in_ok-kind.ensures.ok in
    let cs = c.in_ok-submission-in-Ok.field-0 in
    let gives : cs ≡ submission w a.library a.caching a.name.now a.inputs t.definition = c.in_ok-submission-in-Ok.ensures t.definition t.is_kind in
    let s : Submits w a.library a.caching a.name.now a.inputs cs
    = record { checked = (c.library-checked.result.now, c.library-checked.ensures.checked, c.library-checked.ensures.same); names = c.requires.ascending; values = search rules; definition = t.definition; is_there = t.is_there; takes = t.takes; changes = gives } in
    let room : HasRoom most (applied w cs)
    = subst (λ (xs : List Change). HasRoom most (applied w xs)) (sym gives)
    (submission_fits w a.library a.caching a.name.now a.inputs most t.definition
    (subst (λ (n : ℕ). AreFew (length w.nodes + (n + 1)) (w.batches + 1) most) c.len.ensures.value c.in-Ok.ensures.ok)) in
    submission_accepted w a.library a.caching a.name.now a.inputs cs s c.graph-graph.ensures.reached most c.requires.limits.few_nodes room

pub returns-in_ok-submission-in-Ok-clause-continues : goal.returns-in_ok-submission-in-Ok-clause-continues
returns-in_ok-submission-in-Ok-clause-continues c =
    let a = c.args in
    let w = a.world.now.world in
    let t = c.in_ok-kind.ensures.ok in
    let cs = c.in_ok-submission-in-Ok.field-0 in
    let gives : cs ≡ submission w a.library a.caching a.name.now a.inputs t.definition = c.in_ok-submission-in-Ok.ensures t.definition t.is_kind in
    let s : Submits w a.library a.caching a.name.now a.inputs cs
    = record { checked = (c.library-checked.result.now, c.library-checked.ensures.checked, c.library-checked.ensures.same); names = c.requires.ascending; values = search rules; definition = t.definition; is_there = t.is_there; takes = t.takes; changes = gives } in
    submission_continues w a.library a.caching a.name.now a.inputs cs s c.graph-graph.ensures.reached

pub returns-in_ok-submission-in-Ok-clause-sound : goal.returns-in_ok-submission-in-Ok-clause-sound
returns-in_ok-submission-in-Ok-clause-sound c =
    let a = c.args in
    let w = a.world.now.world in
    let most = a.limits.now.max_nodes in
    let t = c.in_ok-kind.ensures.ok in
    let cs = c.in_ok-submission-in-Ok.field-0 in
    let gives : cs ≡ submission w a.library a.caching a.name.now a.inputs t.definition = c.in_ok-submission-in-Ok.ensures t.definition t.is_kind in
    let s : Submits w a.library a.caching a.name.now a.inputs cs
    = record { checked = (c.library-checked.result.now, c.library-checked.ensures.checked, c.library-checked.ensures.same); names = c.requires.ascending; values = search rules; definition = t.definition; is_there = t.is_there; takes = t.takes; changes = gives } in
    let room : HasRoom most (applied w cs)
    = subst (λ (xs : List Change). HasRoom most (applied w xs)) (sym gives)
    (submission_fits w a.library a.caching a.name.now a.inputs most t.definition
    (subst (λ (n : ℕ). AreFew (length w.nodes + (n + 1)) (w.batches + 1) most) c.len.ensures.value c.in-Ok.ensures.ok)) in
    submission_sound w a.library a.caching a.name.now a.inputs cs s c.graph-graph.ensures.reached
    (submission_accepted w a.library a.caching a.name.now a.inputs cs s c.graph-graph.ensures.reached most c.requires.limits.few_nodes room)
