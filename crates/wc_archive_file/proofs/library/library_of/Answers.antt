use Rattle.wc_archive_file.proofs.Libraries.{unparsed}
use Rattle.wc_archive_file.proofs.library.library_of.Goals as goal

pub returns-else-is_memory : goal.returns-else-is_memory
returns-else-is_memory c =
    unparsed c.args.text.now c.in-Err.error (λ e. let memory = c.is_memory.ensures.1 e in let other = c.if-is_memory.false in cc) c.in-Err.ensures.only
