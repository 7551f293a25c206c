use Rattle.std.proofs.Common.{◌≡◌, ℕ, ◌+◌, List, length, sym, subst, rules}
use Rattle.wc_world.specs.declared.change.Change.{Change}
use Rattle.wc_world.specs.Applied.{applied}
use Rattle.wc_machine.specs.Refusals.{AreFew, HasRoom, RefusesCounts}
use Rattle.wc_changes.specs.Called.{added}
use Rattle.wc_changes.specs.Advances.{submission}
use Rattle.wc_changes.proofs.Counted.{submission_adds, fits, full}
use Rattle.wc_changes.proofs.advances.calling.Goals as goal

pub returns-in_ok-submission-in-Ok-clause-room : goal.returns-in_ok-submission-in-Ok-clause-room
returns-in_ok-submission-in-Ok-clause-room c =
    let w = c.args.world.now.world in
    let most = c.args.limits.now.max_nodes in
    let x = c.args.caller in
    let calls = c.args.calls.now in
    let next = length w.nodes + 1 in
    let same : c.in_ok-submission-in-Ok.field-0 ≡ submission x next c.args.checkpoint calls = search rules in
    subst (λ (cs : List Change). HasRoom most (applied w cs)) (sym same)
    (fits w (submission x next c.args.checkpoint calls) (added calls) most (submission_adds x next c.args.checkpoint calls)
    (subst (λ (n : ℕ). AreFew (length w.nodes + n) (w.batches + 1) most) c.count_added.ensures.value c.in-Ok.ensures.ok))

pub returns-in-Err-clause-refused : goal.returns-in-Err-clause-refused
returns-in-Err-clause-refused c =
    let w = c.args.world.now.world in
    let most = c.args.limits.now.max_nodes in
    let x = c.args.caller in
    let calls = c.args.calls.now in
    let next = length w.nodes + 1 in
    full w (submission x next c.args.checkpoint calls) (added calls) most (submission_adds x next c.args.checkpoint calls) c.in-Err.error
    (subst (λ (n : ℕ). RefusesCounts (length w.nodes + n) (w.batches + 1) most c.in-Err.error) c.count_added.ensures.value c.in-Err.ensures.refused)
