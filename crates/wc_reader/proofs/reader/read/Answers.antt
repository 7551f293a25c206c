use Rattle.std.proofs.Common.{◌+◌, length, arith}
use Rattle.wc_reader.specs.Reading.{whole}
use Rattle.wc_reader.proofs.Whole.{whole_says, told, meets}
use Rattle.wc_reader.proofs.reader.read.Goals as goal

pub returns-clause-says : goal.returns-clause-says
returns-clause-says c =
    let ts = c.args.tokens.now in
    told ts c.read_whole.result (whole (length ts + 1) ts) c.read_whole.ensures (whole_says (length ts + 1) ts (omega arith))

pub returns-clause-only : goal.returns-clause-only
returns-clause-only c = λ r h.
    let ts = c.args.tokens.now in
    meets ts c.read_whole.result (told ts c.read_whole.result (whole (length ts + 1) ts) c.read_whole.ensures (whole_says (length ts + 1) ts (omega arith))) r h
