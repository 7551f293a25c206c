use Rattle.std.proofs.Common.{sym, subst, ◌∙◌}
use Rattle.wc_drill.specs.Submissions.{IsCrowded}
use Rattle.wc_drill.proofs.Chains.{crowded_of, room_or_memory_of, storable_of}
use Rattle.wc_drill.proofs.submissions.chain_changes.Goals as goal

pub returns-in-Ok-clause-ok : goal.returns-in-Ok-clause-ok
returns-in-Ok-clause-ok c =
    let e = c.in-Ok.ensures in
    storable_of c.args.first c.args.second c.args.world.now.world c.in_ok-library.library c.new.result c.in_ok-name.name c.in_ok-inputs.inputs c.usual_limits-limits.result
    (c.in_ok-library.ensures.cases ∙ c.requires.library) c.new.ensures c.in_ok-name.ensures c.in_ok-inputs.ensures.value c.usual_limits-limits.ensures.value c.in-Ok.changes e.ok e.accepted e.room

pub of_turn-requires : goal.of_turn-requires
of_turn-requires c =
    room_or_memory_of c.args.first c.args.second c.args.world.now.world c.in_ok-library.library c.new.result c.in_ok-name.name c.in_ok-inputs.inputs c.usual_limits-limits.result
    (c.in_ok-library.ensures.cases ∙ c.requires.library) c.new.ensures c.in_ok-name.ensures c.in_ok-inputs.ensures.value c.usual_limits-limits.ensures.value c.in-Err.error c.in-Err.ensures.refused

pub returns-clause-refused : goal.returns-clause-refused
returns-clause-refused c =
    subst (IsCrowded c.args.first c.args.second c.args.world.now.world) (sym c.of_turn.ensures)
    (crowded_of c.args.first c.args.second c.args.world.now.world c.in_ok-library.library c.new.result c.in_ok-name.name c.in_ok-inputs.inputs c.usual_limits-limits.result
    (c.in_ok-library.ensures.cases ∙ c.requires.library) c.new.ensures c.in_ok-name.ensures c.in_ok-inputs.ensures.value c.usual_limits-limits.ensures.value c.in-Err.error c.in-Err.ensures.refused)
