use Rattle.wc_drill.proofs.Reading.{parse_alone, parsed_as}
use Rattle.wc_drill.proofs.library.parsed_library.Goals as goal

pub returns-in-Ok-clause-value : goal.returns-in-Ok-clause-value
returns-in-Ok-clause-value c = parsed_as c.in_ok-text.text c.in-Ok.parsed c.in_ok-text.ensures c.in-Ok.ensures.only

pub parse_memory-requires : goal.parse_memory-requires
parse_memory-requires c = parse_alone c.in_ok-text.text c.in-Err.error c.in_ok-text.ensures c.in-Err.ensures.only
