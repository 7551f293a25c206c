use Rattle.std.proofs.Common.{◌≡◌, List, [], sym, subst}
use Rattle.std.specs.Prelude.{◌≢◌}
use Rattle.wc_world.specs.declared.change.Change.{Change}
use Rattle.wc_world.specs.Accepted.{IsAccepted}
use Rattle.wc_machine.specs.Continues.{Continues}
use Rattle.wc_machine.specs.Kills.{kill_changes}
use Rattle.wc_machine.specs.Machine.{after_changes, kill}
use Rattle.wc_machine.specs.Sound.{IsSound}
use Rattle.wc_machine.specs.Refusals.{FullOfBatches, NoneHolds}
use Rattle.wc_core.specs.Refusals.{AreChangesOf, RefusesMark}
use Rattle.wc_core.proofs.Marking.{HasBatchFor, is_kill, kill_is_accepted, mark_allowed, mark_changes, mark_continues, mark_refused, mark_sound, not_live}
use Rattle.std.proofs.lemmas.Result.{IfErr-weaker}
use Rattle.wc_core.proofs.Results.{if_both}
use Rattle.wc_core.proofs.marks.kill_changes.Goals as goal

pub returns-in-Ok-clause-changes : goal.returns-in-Ok-clause-changes
returns-in-Ok-clause-changes c =
    let w = c.args.world.now.world in
    let pid = c.args.pid in
    let r = c.in-Ok.process.now in
    let reached = c.graph-graph.ensures.reached in
    if_both c.killed.result (λ (ds : List Change). ds ≡ kill_changes w r) (HasBatchFor w) (AreChangesOf w (kill pid))
    (λ ds same room. subst (AreChangesOf w (kill pid)) (sym same) (mark_changes w (kill pid) (kill_changes w r) reached (is_kill w pid r c.in-Ok.ensures.found c.in-Ok.ensures.live))) c.killed.ensures.changes c.killed.ensures.room

pub returns-in-Ok-clause-accepted : goal.returns-in-Ok-clause-accepted
returns-in-Ok-clause-accepted c =
    let w = c.args.world.now.world in
    let pid = c.args.pid in
    let r = c.in-Ok.process.now in
    let reached = c.graph-graph.ensures.reached in
    if_both c.killed.result (λ (ds : List Change). ds ≡ kill_changes w r) (HasBatchFor w) (λ (ds : List Change). ds ≢ [] → IsAccepted w ds)
    (λ ds same room. subst (λ (xs : List Change). xs ≢ [] → IsAccepted w xs) (sym same) (kill_is_accepted w pid r c.in-Ok.ensures.found c.in-Ok.ensures.live reached (subst (HasBatchFor w) same room))) c.killed.ensures.changes c.killed.ensures.room

pub returns-in-Ok-clause-continues : goal.returns-in-Ok-clause-continues
returns-in-Ok-clause-continues c =
    let w = c.args.world.now.world in
    let pid = c.args.pid in
    let r = c.in-Ok.process.now in
    let reached = c.graph-graph.ensures.reached in
    if_both c.killed.result (λ (ds : List Change). ds ≡ kill_changes w r) (HasBatchFor w) (λ (ds : List Change). IsSound w → Continues w (after_changes w ds))
    (λ ds same room. subst (λ (xs : List Change). IsSound w → Continues w (after_changes w xs)) (sym same) (mark_continues w (kill pid) (kill_changes w r) reached (is_kill w pid r c.in-Ok.ensures.found c.in-Ok.ensures.live) (subst (HasBatchFor w) same room))) c.killed.ensures.changes c.killed.ensures.room

pub returns-in-Ok-clause-sound : goal.returns-in-Ok-clause-sound
returns-in-Ok-clause-sound c =
    let w = c.args.world.now.world in
    let pid = c.args.pid in
    let r = c.in-Ok.process.now in
    let reached = c.graph-graph.ensures.reached in
    if_both c.killed.result (λ (ds : List Change). ds ≡ kill_changes w r) (HasBatchFor w) (λ (ds : List Change). IsSound w → IsSound (after_changes w ds))
    (λ ds same room. subst (λ (xs : List Change). IsSound w → IsSound (after_changes w xs)) (sym same) (mark_sound w (kill pid) (kill_changes w r) reached (is_kill w pid r c.in-Ok.ensures.found c.in-Ok.ensures.live) (subst (HasBatchFor w) same room))) c.killed.ensures.changes c.killed.ensures.room

pub returns-in-Ok-clause-none : goal.returns-in-Ok-clause-none
returns-in-Ok-clause-none c =
    let w = c.args.world.now.world in
    let pid = c.args.pid in
    let r = c.in-Ok.process.now in
    let reached = c.graph-graph.ensures.reached in
    if_both c.killed.result (λ (ds : List Change). ds ≡ kill_changes w r) (HasBatchFor w) (λ (ds : List Change). NoneHolds (RefusesMark w (kill pid) pid))
    (λ ds same room. mark_allowed w (kill pid) (kill_changes w r) reached (is_kill w pid r c.in-Ok.ensures.found c.in-Ok.ensures.live) (subst (HasBatchFor w) same room) pid r c.in-Ok.ensures.found c.in-Ok.ensures.live) c.killed.ensures.changes c.killed.ensures.room

pub returns-in-Ok-clause-refused : goal.returns-in-Ok-clause-refused
returns-in-Ok-clause-refused c =
    let w = c.args.world.now.world in
    let pid = c.args.pid in
    let r = c.in-Ok.process.now in
    let reached = c.graph-graph.ensures.reached in
    IfErr-weaker c.killed.result (FullOfBatches (λ (ds : List Change). ds ≡ kill_changes w r) w) (RefusesMark w (kill pid) pid)
    (mark_refused w (kill pid) (kill_changes w r) reached (is_kill w pid r c.in-Ok.ensures.found c.in-Ok.ensures.live) pid) c.killed.ensures.refused

pub returns-in-Err-clause-refused : goal.returns-in-Err-clause-refused
returns-in-Err-clause-refused c = not_live c.args.world.now.world (kill c.args.pid) c.args.pid c.in-Err.error c.in-Err.ensures.refused
