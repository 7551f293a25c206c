use Rattle.std.proofs.Common.{sym, subst}
use Rattle.wc_runner.specs.Turns.{RefusesChanges}
use Rattle.wc_runner.proofs.Accepted.{refused_turn, turn_is_plain, turn_refuses}
use Rattle.wc_runner.proofs.turns.changes_of.Goals as goal

pub returns-in-Ok-clause-ok : goal.returns-in-Ok-clause-ok
returns-in-Ok-clause-ok c = record {
  leads = c.in-Ok.ensures.changes.leads;
  accepted = c.in-Ok.ensures.accepted;
  plain = turn_is_plain c.args.limits.now.poll_ms c.args.world.now.world c.args.pid c.args.now c.args.answer c.in-Ok.changes c.in-Ok.ensures.changes.leads;
  room = c.in-Ok.ensures.room;
}

pub of_turn-requires : goal.of_turn-requires
of_turn-requires c =
    refused_turn c.args.limits.now.poll_ms c.args.world.now.world c.args.pid c.args.answer c.args.now c.args.limits.now.max_nodes c.in-Err.error c.requires.ready
    c.in-Err.ensures.refused

pub returns-in-Err-clause-refused : goal.returns-in-Err-clause-refused
returns-in-Err-clause-refused c =
    subst (RefusesChanges c.args.limits.now c.args.world.now.world c.args.pid c.args.answer c.args.now) (sym c.of_turn.ensures)
    (turn_refuses c.args.limits.now c.args.world.now.world c.args.pid c.args.answer c.args.now c.in-Err.error c.in-Err.ensures.refused)
