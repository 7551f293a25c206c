use Rattle.std.proofs.Common.{◌<◌, arith}
use Rattle.wc_store.proofs.Looking.{foreign_shown, broken_shown}
use Rattle.wc_store.proofs.choice.damage_seen.Goals as goal

pub returns-then-at-eq0 : goal.returns-then-at-eq0
returns-then-at-eq0 c = λ image is. foreign_shown image c.args.at c.args.found c.if-at-eq0.true is

pub returns-else-at-eq0 : goal.returns-else-at-eq0
returns-else-at-eq0 c = λ image is. let behind : 0 < c.args.at = omega arith in broken_shown image c.args.at c.args.found behind is
