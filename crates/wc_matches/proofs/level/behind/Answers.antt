use Rattle.std.proofs.Common.{◌<◌, length, refl, arith}
use Rattle.std.proofs.lemmas.Result.{IfOk-weaker}
use Rattle.wc_matches.proofs.Growing.{behind_last}
use Rattle.wc_matches.proofs.level.behind.Goals as goal

pub returns-clause-nexts : goal.returns-clause-nexts
returns-clause-nexts c =
    let some : 0 < length c.args.row.now = omega arith in
    IfOk-weaker c.nexts.result _ _
    (λ ids h. behind_last c.args.graph.now.links c.args.join.now c.args.set.now c.args.row.now ids.items _ some refl h)
    c.nexts.ensures.nexts
