use Rattle.std.proofs.Common.{List, sym, subst}
use Rattle.wc_world.specs.declared.change.Change.{Change}
use Rattle.wc_world.specs.Applied.{applied}
use Rattle.wc_syntax.specs.Findings.{definition_named}
use Rattle.wc_machine.specs.Refusals.{HasRoom}
use Rattle.wc_changes.specs.Advances.{ending, lacks}
use Rattle.wc_changes.proofs.Counted.{ending_adds, fits, full}
use Rattle.wc_changes.proofs.advances.over.Goals as goal

pub returns-in_ok-ending-in-Ok-clause-room : goal.returns-in_ok-ending-in-Ok-clause-room
returns-in_ok-ending-in-Ok-clause-room c =
    let w = c.args.world.now.world in
    let most = c.args.limits.now.max_nodes in
    let r = c.args.caller.process.now in
    let os = c.args.outputs.now in
    let missing = lacks os (definition_named r.definition c.args.caller.library.now) in
    subst (λ (cs : List Change). HasRoom most (applied w cs)) (sym c.in_ok-ending-in-Ok.ensures)
    (fits w (ending r missing c.args.state os) 0 most (ending_adds r missing c.args.state os) c.in-Ok.ensures.ok)

pub returns-in-Err-clause-refused : goal.returns-in-Err-clause-refused
returns-in-Err-clause-refused c =
    let w = c.args.world.now.world in
    let r = c.args.caller.process.now in
    let os = c.args.outputs.now in
    let missing = lacks os (definition_named r.definition c.args.caller.library.now) in
    full w (ending r missing c.args.state os) 0 c.args.limits.now.max_nodes (ending_adds r missing c.args.state os) c.in-Err.error c.in-Err.ensures.refused
