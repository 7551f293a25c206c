use Rattle.std.proofs.Common.{sym}
use Rattle.wc_archive_file.proofs.Files.{document_is, no_document}
use Rattle.wc_archive_file.proofs.file.json_of.Goals as goal

pub returns-in-Ok : goal.returns-in-Ok
returns-in-Ok c = sym (document_is _ _ c.in-Ok.ensures.ok.0 c.in-Ok.ensures.ok.1)

pub returns-in_default : goal.returns-in_default
returns-in_default c = sym (no_document _ (c.in-Err.ensures.err (λ m. c.in_default.not-Memory (c.classify.ensures.memory.1 m))))
