use Rattle.std.proofs.Common.{ℕ, ◌+◌, length, List, sym, subst}
use Rattle.wc_world.specs.declared.change.Change.{Change}
use Rattle.wc_world.specs.Applied.{applied}
use Rattle.wc_machine.specs.Refusals.{AreFew, HasRoom, RefusesCounts}
use Rattle.wc_calculation_turns.proofs.Room.{turn_allowed, turn_fits, turn_refused}
use Rattle.wc_calculation_turns.proofs.turn.calculation_turn.Goals as goal

pub returns-in-Ok-clause-room : goal.returns-in-Ok-clause-room
returns-in-Ok-clause-room c =
    let a = c.args in
    let w = a.world.now.world in
    let most = a.limits.now.max_nodes in
    subst (λ (cs : List Change). HasRoom most (applied w cs)) (sym c.in_ok-course_changes-in-Ok.ensures)
    (turn_fits w a.process.now c.in_ok-course.course most
    (subst (λ (n : ℕ). AreFew (length w.nodes + n) (w.batches + 1) most) c.added_nodes.ensures c.in-Ok.ensures.ok))

pub returns-in-Ok-clause-none : goal.returns-in-Ok-clause-none
returns-in-Ok-clause-none c =
    let a = c.args in
    let w = a.world.now.world in
    let most = a.limits.now.max_nodes in
    turn_allowed w a.process.now c.in_ok-course.course most a.limits.now.poll_ms a.now a.answer c.in_ok-course.ensures
    (c.reached_worlds_are_consistent.ensures w c.graph.ensures.reached) c.requires.found
    (subst (λ (n : ℕ). AreFew (length w.nodes + n) (w.batches + 1) most) c.added_nodes.ensures c.in-Ok.ensures.ok)

pub returns-clause-refused : goal.returns-clause-refused
returns-clause-refused c =
    let a = c.args in
    let w = a.world.now.world in
    let most = a.limits.now.max_nodes in
    turn_refused w a.process.now c.in_ok-course.course most a.limits.now.poll_ms a.now a.answer c.in_ok-course.ensures c.in-Err.error
    (subst (λ (n : ℕ). RefusesCounts (length w.nodes + n) (w.batches + 1) most c.in-Err.error) c.added_nodes.ensures c.in-Err.ensures.refused)
