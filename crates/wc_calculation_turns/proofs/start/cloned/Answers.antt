use Rattle.wc_calculation_turns.proofs.FirstTurns.{clone_is}
use Rattle.wc_calculation_turns.proofs.start.cloned.Goals as goal

pub returns-in-Ok : goal.returns-in-Ok
returns-in-Ok c = λ q found. clone_is c.args.world.now.world q c.args.source c.in-Ok.field-0 found c.in-Ok.ensures.ok
