use Rattle.std.proofs.Common.{◌∙◌, sym}
use Rattle.wc_keys.proofs.Joined.{found_at, there_at}
use Rattle.wc_keys.proofs.entries.find_from.Goals as goal

pub returns-then-is_at : goal.returns-then-is_at
returns-then-is_at c = sym (there_at c.args.seals.now c.args.seal.now.digest c.args.seal.now.pid c.args.from (sym c.is_at.ensures ∙ c.if-is_at.true))

pub returns-then-is_at-2 : goal.returns-then-is_at-2
returns-then-is_at-2 c =
    sym c.if-is_at-2.true ∙ c.is_at-2.ensures ∙ found_at c.args.seals.now c.requires c.args.seal.now c.place_in-at.result c.place_in-at.ensures

pub returns : goal.returns
returns c =
    sym c.if-is_at-2.false ∙ c.is_at-2.ensures ∙ found_at c.args.seals.now c.requires c.args.seal.now c.place_in-at.result c.place_in-at.ensures
