use Rattle.std.proofs.Common.{sym, ◌∙◌}
use Rattle.wc_plan.proofs.Valid.{text_reads}
use Rattle.wc_plan.proofs.libraries.read_bytes.Goals as goal

pub returns-in-Some : goal.returns-in-Some
returns-in-Some c = text_reads c.args.file.now c.args.bytes c.in-Some.text c.read_text.result (sym c.in-Some.is ∙ c.of.ensures) c.read_text.ensures
