use Rattle.std.proofs.Common.{rules}
use Rattle.std.specs.Prelude.{Contains}
use Rattle.wc_matches.proofs.Masked.{brought_sound}
use Rattle.wc_matches.proofs.masks.bring.Goals as goal

pub returns-clause-sound : goal.returns-clause-sound
returns-clause-sound c =
    let has : Contains c.args.join.now.types c.args.link.now.link = search rules in
    λ links k is sound.
    brought_sound links c.args.join.now c.args.own.now c.args.masks.now c.put_bits.new.masks k c.args.link.now c.brought-bits.result c.start_of.result c.end_of.result
    is has c.start_of.ensures c.end_of.ensures c.brought-bits.ensures c.put_bits.ensures.here c.put_bits.ensures.others sound
