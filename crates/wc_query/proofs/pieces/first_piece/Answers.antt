use Rattle.std.proofs.Common.{lit<}
use Rattle.wc_query.proofs.Cutting.{uncut, cut, cut_shorter}
use Rattle.wc_query.proofs.pieces.first_piece.Goals as goal

pub returns-in-Some : goal.returns-in-Some
returns-in-Some c =
    let parts = c.in-Some.ensures.byte (lit< tt) (λ w o h. h) in
    record { pieces = cut _ _ _ parts.0 parts.1 parts.2; shorter = cut_shorter _ _ parts.1 parts.2 }

pub returns-in-None : goal.returns-in-None
returns-in-None c = record { pieces = uncut _ (c.in-None.ensures.byte (lit< tt) (λ w o h. h)); shorter = tt }
