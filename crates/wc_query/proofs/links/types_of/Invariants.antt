use Rattle.std.proofs.Common.{◌≡◌}
use Rattle.std.specs.Option.{option_copied}
use Rattle.wc_query.specs.Names.{link_type_of}
use Rattle.wc_query.specs.Pieces.{pieces_of}
use Rattle.wc_query.specs.Words.{read_all, types_of}
use Rattle.wc_query.proofs.Successive.{text_len, behind_all}
use Rattle.wc_query.proofs.links.types_of.Given as goal

abbrev pub invariant-loop-left : goal.invariant-loop-left
invariant-loop-left l = behind_all l.types (read_all link_type_of (pieces_of (option_copied l.left))) ≡ types_of l.fn.text

abbrev pub decreases-loop-left : goal.decreases-loop-left
decreases-loop-left l = text_len (option_copied l.left)
