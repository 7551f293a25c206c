-- What a library mentions, as the lists of references that the code makes of it.
use Rattle.std.specs.Prelude.{List, map}
use Rattle.std.specs.Borrow.{Bor}
use Rattle.wc_syntax.specs.declared.outline.Arm.{Arm, fold-Arm}
use Rattle.wc_syntax.specs.declared.outline.Instr.{Instr, fold-Instr}
use Rattle.wc_syntax.specs.Mentions as syntax
use Rattle.wc_syntax.specs.Mentions.{instr_pieces, arm_pieces, block_pieces}
use Rattle.wc_check.specs.declared.mentions.Mention.{Mention}
use Rattle.wc_check.specs.declared.mentions.Mention.TheVariants as mention
use Rattle.wc_check.specs.declared.pieces.Piece.{Piece}
use Rattle.wc_check.specs.declared.pieces.Piece.TheVariants as piece

-- what is behind the references
abbrev pub behind : {A : Type 0} → List (Bor A) → List A
behind = map (λ r. r.now)

-- a mention as contracts see it
abbrev pub seen_mention : Mention → syntax.Mention
seen_mention (mention.Bare n) = syntax.Bare n.now
seen_mention (mention.Given n) = syntax.Given n.now
seen_mention (mention.Input at n) = syntax.Input at n.now
seen_mention (mention.Context at n) = syntax.Context at n.now
seen_mention (mention.Label n) = syntax.Label n.now

-- a piece as contracts see it
abbrev pub seen_piece : Piece → syntax.Piece
seen_piece (piece.Begins at) = syntax.Begins at
seen_piece (piece.Named n) = syntax.Named n.now
seen_piece (piece.Does s) = syntax.Does s.now
seen_piece (piece.Tests e) = syntax.Tests e.now
seen_piece (piece.Returns n) = syntax.Returns n.now

-- pieces as contracts see them
abbrev pub seen_pieces : List Piece → List syntax.Piece
seen_pieces = map seen_piece

-- the pieces of an instruction
abbrev pub pieces_of_instr : Instr → List syntax.Piece
pieces_of_instr = fold-Instr (List syntax.Piece) (List syntax.Piece) (List syntax.Piece) instr_pieces arm_pieces block_pieces

-- the pieces of an arm
abbrev pub pieces_of_arm : Arm → List syntax.Piece
pieces_of_arm = fold-Arm (List syntax.Piece) (List syntax.Piece) (List syntax.Piece) instr_pieces arm_pieces block_pieces
