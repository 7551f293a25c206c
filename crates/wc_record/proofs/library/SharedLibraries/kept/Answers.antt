use Rattle.wc_record.proofs.Shared.{printed_if}
use Rattle.wc_record.proofs.library.SharedLibraries.kept.Goals as goal

pub returns : goal.returns
returns c = printed_if c.args.text.now c.bytes.result.now c.self.inside.read.entries c.get.result c.bytes.ensures.value c.self.invariant c.get.ensures.value
