-- Which turns are refused for want of room.
use Rattle.std.proofs.Common.{◌≡◌, ℕ, ◌+◌, length, Some}
use Rattle.wc_state.specs.declared.record.ProcessRecord.{ProcessRecord}
use Rattle.wc_world.specs.World.{World}
use Rattle.wc_world.specs.Applied.{applied}
use Rattle.wc_world.specs.Consistent.{IsConsistent}
use Rattle.wc_world.specs.Records.{find_record}
use Rattle.wc_machine.specs.declared.answer.TaskAnswer.{TaskAnswer}
use Rattle.wc_machine.specs.Turns.{TurnGives}
use Rattle.wc_cache.proofs.OneList.{one_list}
use Rattle.wc_machine.specs.Refusals.{AreFew, FullOf, HasRoom, NoneHolds, RefusesCounts}
use Rattle.wc_machine.specs.declared.error.TurnError.{TurnError}
use Rattle.wc_machine.proofs.Rooms.{full_for, has_room_for, none_full}
use Rattle.wc_calculation_turns.specs.declared.courses.Course.{Course}
use Rattle.wc_calculation_turns.specs.Courses.{added_nodes, course_changes}
use Rattle.wc_calculation_turns.proofs.Counted.{nodes_after, batches_after}

module _ (w : World) (r : ProcessRecord) (c : Course) (most : ℕ) where
  pub turn_fits : AreFew (length w.nodes + added_nodes c) (w.batches + 1) most → HasRoom most (applied w (course_changes w r c))
  turn_fits h = has_room_for w (course_changes w r c) (added_nodes c) most (nodes_after w r c) (batches_after w r c) h

  module _ (poll now : ℕ) (a : TaskAnswer) (gives : TurnGives poll now w r a (course_changes w r c)) where
    pub turn_refused : (e : TurnError) → RefusesCounts (length w.nodes + added_nodes c) (w.batches + 1) most e → FullOf (TurnGives poll now w r a) most w e
    turn_refused e h =
        full_for w (course_changes w r c) (added_nodes c) most (nodes_after w r c) (batches_after w r c) (TurnGives poll now w r a) gives e h

    pub turn_allowed : IsConsistent w → find_record r.node w.records ≡ Some r → AreFew (length w.nodes + added_nodes c) (w.batches + 1) most
        → NoneHolds (FullOf (TurnGives poll now w r a) most w)
    turn_allowed consistent found h =
        none_full (TurnGives poll now w r a) most w (course_changes w r c)
        (λ ds turns. one_list poll now w r a ds (course_changes w r c) consistent found turns gives) (turn_fits h)
