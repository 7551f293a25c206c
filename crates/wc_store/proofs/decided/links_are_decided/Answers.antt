use Rattle.wc_store.proofs.Links.{links_decided}
use Rattle.wc_store.proofs.decided.links_are_decided.Goals as goal

pub returns : goal.returns
returns c = links_decided
