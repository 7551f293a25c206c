use Rattle.std.proofs.Common.{◌≡◌, List, [], sym, subst}
use Rattle.std.specs.Prelude.{◌≢◌}
use Rattle.wc_world.specs.declared.change.Change.{Change}
use Rattle.wc_world.specs.Accepted.{IsAccepted}
use Rattle.wc_machine.specs.Continues.{Continues}
use Rattle.wc_machine.specs.Machine.{after_changes, play, play_changes}
use Rattle.wc_machine.specs.Sound.{IsSound}
use Rattle.wc_machine.specs.Refusals.{FullOfBatches, NoneHolds}
use Rattle.wc_core.specs.Refusals.{AreChangesOf, RefusesMark}
use Rattle.wc_core.proofs.Marking.{HasBatchFor, is_play, play_is_accepted, mark_allowed, mark_changes, mark_continues, mark_refused, mark_sound, not_live}
use Rattle.std.proofs.lemmas.Result.{IfErr-weaker}
use Rattle.wc_core.proofs.Results.{if_both}
use Rattle.wc_core.proofs.marks.play_changes.Goals as goal

pub returns-in-Ok-clause-changes : goal.returns-in-Ok-clause-changes
returns-in-Ok-clause-changes c =
    let w = c.args.world.now.world in
    let pid = c.args.pid in
    let r = c.in-Ok.process.now in
    let reached = c.graph-graph.ensures.reached in
    if_both c.play.result (λ (ds : List Change). ds ≡ play_changes r) (HasBatchFor w) (AreChangesOf w (play pid))
    (λ ds same room. subst (AreChangesOf w (play pid)) (sym same) (mark_changes w (play pid) (play_changes r) reached (is_play w pid r c.in-Ok.ensures.found c.in-Ok.ensures.live))) c.play.ensures.changes c.play.ensures.room

pub returns-in-Ok-clause-accepted : goal.returns-in-Ok-clause-accepted
returns-in-Ok-clause-accepted c =
    let w = c.args.world.now.world in
    let pid = c.args.pid in
    let r = c.in-Ok.process.now in
    let reached = c.graph-graph.ensures.reached in
    if_both c.play.result (λ (ds : List Change). ds ≡ play_changes r) (HasBatchFor w) (λ (ds : List Change). ds ≢ [] → IsAccepted w ds)
    (λ ds same room. subst (λ (xs : List Change). xs ≢ [] → IsAccepted w xs) (sym same) (play_is_accepted w pid r c.in-Ok.ensures.found c.in-Ok.ensures.live reached (subst (HasBatchFor w) same room))) c.play.ensures.changes c.play.ensures.room

pub returns-in-Ok-clause-continues : goal.returns-in-Ok-clause-continues
returns-in-Ok-clause-continues c =
    let w = c.args.world.now.world in
    let pid = c.args.pid in
    let r = c.in-Ok.process.now in
    let reached = c.graph-graph.ensures.reached in
    if_both c.play.result (λ (ds : List Change). ds ≡ play_changes r) (HasBatchFor w) (λ (ds : List Change). IsSound w → Continues w (after_changes w ds))
    (λ ds same room. subst (λ (xs : List Change). IsSound w → Continues w (after_changes w xs)) (sym same) (mark_continues w (play pid) (play_changes r) reached (is_play w pid r c.in-Ok.ensures.found c.in-Ok.ensures.live) (subst (HasBatchFor w) same room))) c.play.ensures.changes c.play.ensures.room

pub returns-in-Ok-clause-sound : goal.returns-in-Ok-clause-sound
returns-in-Ok-clause-sound c =
    let w = c.args.world.now.world in
    let pid = c.args.pid in
    let r = c.in-Ok.process.now in
    let reached = c.graph-graph.ensures.reached in
    if_both c.play.result (λ (ds : List Change). ds ≡ play_changes r) (HasBatchFor w) (λ (ds : List Change). IsSound w → IsSound (after_changes w ds))
    (λ ds same room. subst (λ (xs : List Change). IsSound w → IsSound (after_changes w xs)) (sym same) (mark_sound w (play pid) (play_changes r) reached (is_play w pid r c.in-Ok.ensures.found c.in-Ok.ensures.live) (subst (HasBatchFor w) same room))) c.play.ensures.changes c.play.ensures.room

pub returns-in-Ok-clause-none : goal.returns-in-Ok-clause-none
returns-in-Ok-clause-none c =
    let w = c.args.world.now.world in
    let pid = c.args.pid in
    let r = c.in-Ok.process.now in
    let reached = c.graph-graph.ensures.reached in
    if_both c.play.result (λ (ds : List Change). ds ≡ play_changes r) (HasBatchFor w) (λ (ds : List Change). NoneHolds (RefusesMark w (play pid) pid))
    (λ ds same room. mark_allowed w (play pid) (play_changes r) reached (is_play w pid r c.in-Ok.ensures.found c.in-Ok.ensures.live) (subst (HasBatchFor w) same room) pid r c.in-Ok.ensures.found c.in-Ok.ensures.live) c.play.ensures.changes c.play.ensures.room

pub returns-in-Ok-clause-refused : goal.returns-in-Ok-clause-refused
returns-in-Ok-clause-refused c =
    let w = c.args.world.now.world in
    let pid = c.args.pid in
    let r = c.in-Ok.process.now in
    let reached = c.graph-graph.ensures.reached in
    IfErr-weaker c.play.result (FullOfBatches (λ (ds : List Change). ds ≡ play_changes r) w) (RefusesMark w (play pid) pid)
    (mark_refused w (play pid) (play_changes r) reached (is_play w pid r c.in-Ok.ensures.found c.in-Ok.ensures.live) pid) c.play.ensures.refused

pub returns-in-Err-clause-refused : goal.returns-in-Err-clause-refused
returns-in-Err-clause-refused c = not_live c.args.world.now.world (play c.args.pid) c.args.pid c.in-Err.error c.in-Err.ensures.refused
