use Rattle.wc_record.proofs.Printed.{prints_nothing}
use Rattle.wc_record.proofs.library.library_of.Goals as goal

pub returns-else-is_unparsed : goal.returns-else-is_unparsed
returns-else-is_unparsed c =
    prints_nothing _ c.in-Err.error c.in-Err.ensures.says
    (λ e. let memory = c.is_unparsed.ensures.1 e in let other = c.if-is_unparsed.false in cc)
