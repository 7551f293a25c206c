use Rattle.std.proofs.Common.{◌+◌, length, subst}
use Rattle.wc_grammar.specs.Reading.{Fails}
use Rattle.wc_reader.specs.Reading.{whole}
use Rattle.wc_reader.proofs.Whole.{never_reached}
use Rattle.wc_reader.proofs.reader.read_whole.Goals as goal

pub unreachable-requires : goal.unreachable-requires
unreachable-requires c =
    let ts = c.args.tokens.now in
    never_reached ts (subst (λ z. Fails z (whole (length ts + 1) ts)) c.in-Err-BoundReached.field-0-is c.in-Err-BoundReached.ensures)
