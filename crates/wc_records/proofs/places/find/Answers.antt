use Rattle.std.proofs.Common.{◌∙◌, sym}
use Rattle.wc_records.proofs.Halving.{found_there, found_nowhere}
use Rattle.wc_records.proofs.places.find.Goals as goal

pub returns-then-is_numbered : goal.returns-then-is_numbered
returns-then-is_numbered c =
    let is = sym c.is_numbered.ensures.value ∙ c.if-is_numbered.true in
    found_there c.args.pid c.args.records.now c.place_of-at.result c.index-records-at.result c.requires c.place_of-at.ensures is
    (c.is_numbered.ensures.within c.if-is_numbered.true) c.index-records-at.is

pub returns-else-is_numbered : goal.returns-else-is_numbered
returns-else-is_numbered c =
    let is = sym c.is_numbered.ensures.value ∙ c.if-is_numbered.false in
    found_nowhere c.args.pid c.args.records.now c.place_of-at.result c.requires c.place_of-at.ensures is
