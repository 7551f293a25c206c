use Rattle.wc_cli.proofs.Read.{read, refused}
use Rattle.wc_cli.proofs.line.matches_of.Goals as goal

pub returns-in-Ok : goal.returns-in-Ok
returns-in-Ok c = read _ _ c.in-Ok.matches c.in_ok-line.ensures c.in-Ok.ensures.kinds c.in-Ok.ensures.matches

pub returns : goal.returns
returns c = refused _ _ c.in-Err.error c.in_ok-line.ensures c.in-Err.ensures.kinds (c.is_memory.ensures c.if-is_memory.false)
