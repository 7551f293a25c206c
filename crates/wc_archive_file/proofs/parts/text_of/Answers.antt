use Rattle.wc_archive_file.specs.Reads.{IsAny}
use Rattle.wc_archive_file.proofs.Steps.{string_none, string_read}
use Rattle.wc_archive_file.proofs.parts.text_of.Goals as goal

pub returns-in-Some : goal.returns-in-Some
returns-in-Some c = string_read (λ t. t) IsAny _ _ _ c.in-Some.ensures c.text_in.ensures

pub returns-in-None : goal.returns-in-None
returns-in-None c = string_none (λ t. t) IsAny _ c.in-None.ensures
