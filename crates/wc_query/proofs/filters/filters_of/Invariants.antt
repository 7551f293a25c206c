use Rattle.std.proofs.Common.{◌≡◌}
use Rattle.std.specs.Option.{option_copied}
use Rattle.wc_query.specs.Pieces.{pieces_of}
use Rattle.wc_query.specs.Words.{filter_of, read_all}
use Rattle.wc_query.proofs.Successive.{text_len, behind_all}
use Rattle.wc_query.proofs.filters.filters_of.Given as goal

abbrev pub invariant-loop-left : goal.invariant-loop-left
invariant-loop-left l = behind_all l.filters (read_all filter_of (pieces_of (option_copied l.left))) ≡ read_all filter_of (pieces_of (option_copied l.fn.text))

abbrev pub decreases-loop-left : goal.decreases-loop-left
decreases-loop-left l = text_len (option_copied l.left)
