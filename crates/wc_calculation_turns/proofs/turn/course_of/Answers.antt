use Rattle.std.proofs.Common.{sym, ◌∙◌}
use Rattle.wc_calculation_turns.proofs.Ready.{goes_on, starts}
use Rattle.wc_calculation_turns.proofs.turn.course_of.Goals as goal

pub waited-requires-clause-waits : goal.waited-requires-clause-waits
waited-requires-clause-waits c =
    let w = c.args.world.now.world in
    goes_on w c.args.now c.args.process.now (c.reached_worlds_are_consistent.ensures w c.graph.ensures.reached) c.requires.found c.requires.ready c.in-Some.part
    (sym c.task_of.ensures ∙ c.in-Some.is)

pub started-requires : goal.started-requires
started-requires c =
    let w = c.args.world.now.world in
    starts w c.args.now c.args.process.now (c.reached_worlds_are_consistent.ensures w c.graph.ensures.reached) c.requires.found c.requires.ready c.requires.calculates
    (sym c.task_of.ensures ∙ c.in-None.is)
