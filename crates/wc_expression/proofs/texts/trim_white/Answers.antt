use Rattle.wc_expression.proofs.White.{trimmed_is}
use Rattle.wc_expression.proofs.texts.trim_white.Goals as goal

pub returns : goal.returns
returns c = trimmed_is _ _ _ c.trim_start_matches.ensures.matches c.trim_end_matches.ensures.matches
