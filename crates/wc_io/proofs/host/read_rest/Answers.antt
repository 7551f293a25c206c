use Rattle.std.proofs.Common.{rules}
use Rattle.wc_io.proofs.Keeping.{keeps_more}
use Rattle.wc_io.proofs.host.read_rest.Goals as goal

pub returns-then-count-eq0-clause-keeps : goal.returns-then-count-eq0-clause-keeps
returns-then-count-eq0-clause-keeps g c = keeps_more _ _ _ _ c.loop.invariant.keeps (c.in-Ok.ensures.ended (search rules))

pub returns-then-count-min-clause-keeps : goal.returns-then-count-min-clause-keeps
returns-then-count-min-clause-keeps g c = keeps_more _ _ _ _ c.loop.invariant.keeps (c.in-Ok.ensures.piece (search rules))

pub returns-in_err-extend-clause-keeps : goal.returns-in_err-extend-clause-keeps
returns-in_err-extend-clause-keeps g c = keeps_more _ _ _ _ c.loop.invariant.keeps (c.in-Ok.ensures.piece (search rules))

pub loop-preserved : goal.loop-preserved
loop-preserved g c = record {
  content = search rules;
  opened = search rules;
  keeps = keeps_more _ _ _ _ c.loop.invariant.keeps (c.in-Ok.ensures.piece (search rules));
  asked = search rules;
}
