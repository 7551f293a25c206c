use Rattle.wc_world.proofs.Awaiting.{awaited_by_caller}
use Rattle.wc_world.proofs.effects.set_process.Goals as goal

pub set-requires-clause-awaited : goal.set-requires-clause-awaited
set-requires-clause-awaited c =
    λ ends. awaited_by_caller c.caller_of-caller.result c.args.change.pid c.args.graph.now.links c.args.records.now.0 c.requires.awaits
    (λ n. (c.caller_of-caller.ensures n).1)
