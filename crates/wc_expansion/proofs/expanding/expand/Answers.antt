use Rattle.wc_expansion.proofs.Calls.{adds_as, refused_as, taken_as, restarts_as}
use Rattle.wc_expansion.proofs.expanding.expand.Goals as goal

pub returns-clause-adds : goal.returns-clause-adds
returns-clause-adds c = adds_as c.with_spec.result c.args.library.now c.args.spec.now c.in_ok-read.read c.in_ok-read.ensures.ok c.with_spec.ensures.adds

pub returns-clause-refused : goal.returns-clause-refused
returns-clause-refused c = refused_as c.with_spec.result c.args.library.now c.args.spec.now c.in_ok-read.read c.in_ok-read.ensures.ok c.with_spec.ensures.refused

pub returns-clause-taken : goal.returns-clause-taken
returns-clause-taken c = taken_as c.with_spec.result c.args.library.now c.args.spec.now c.in_ok-read.read c.in_ok-read.ensures.ok c.with_spec.ensures.taken

pub returns-clause-restarts : goal.returns-clause-restarts
returns-clause-restarts c = restarts_as c.with_spec.result c.args.library.now c.args.spec.now c.in_ok-read.read c.in_ok-read.ensures.ok c.with_spec.ensures.restarts
