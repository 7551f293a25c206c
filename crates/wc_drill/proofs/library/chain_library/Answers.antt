use Rattle.wc_drill.proofs.Reading.{check_alone}
use Rattle.wc_drill.proofs.library.chain_library.Goals as goal

pub check_memory-requires : goal.check_memory-requires
check_memory-requires c = check_alone c.in_ok-parsed.parsed c.in-Err.error c.in_ok-parsed.ensures.value c.in-Err.ensures.err
