use Rattle.std.proofs.Common.{arith}
use Rattle.wc_archive_file.proofs.Numerals.{u64_none, u64_some}
use Rattle.wc_archive_file.proofs.numbers.u64_of.Goals as goal

pub returns-in-Some : goal.returns-in-Some
returns-in-Some c = (u64_some _ _ c.in-Some.ensures, omega arith)

pub returns-in-None : goal.returns-in-None
returns-in-None c = λ n low is. u64_none _ c.in-None.ensures n is
