use Rattle.std.proofs.Common.{◌∙◌, sym}
use Rattle.wc_keys.proofs.Joined.{behind_all}
use Rattle.wc_keys.proofs.entries.is_behind.Goals as goal

pub returns : goal.returns
returns c = λ is. behind_all c.args.seals.now c.requires c.args.seal.now _ (sym c.is_earlier.ensures ∙ is)
