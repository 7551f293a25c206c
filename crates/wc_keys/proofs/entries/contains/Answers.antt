use Rattle.std.proofs.Common.{◌∙◌}
use Rattle.wc_keys.proofs.Joined.{found_at}
use Rattle.wc_keys.proofs.entries.contains.Goals as goal

pub returns : goal.returns
returns c = c.is_at.ensures ∙ found_at c.args.seals.now c.requires c.args.seal.now c.place_in.result c.place_in.ensures
