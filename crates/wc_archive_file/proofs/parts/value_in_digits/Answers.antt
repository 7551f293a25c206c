use Rattle.std.proofs.Common.{subst}
use Rattle.wc_value.specs.Spelling.{spelling}
use Rattle.wc_archive_file.specs.Reads.{IsShallow, Reads}
use Rattle.wc_archive_file.proofs.Digits.{digits_read, no_digits}
use Rattle.wc_archive_file.proofs.parts.value_in_digits.Goals as goal

pub returns-in_err-bytes : goal.returns-in_err-bytes
returns-in_err-bytes c = no_digits _ c.from_residual.result _ c.from_residual.ensures c.in_err-bytes.ensures

pub returns : goal.returns
returns c =
    digits_read _ _ c.in_ok-bytes.ensures.0 c.in_ok-bytes.ensures.1 _ (subst (λ bs. Reads spelling IsShallow bs c.value_in.result) c.as_slice.ensures.value c.value_in.ensures)
