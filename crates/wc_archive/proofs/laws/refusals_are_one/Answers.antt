use Rattle.wc_archive.proofs.OneRefusal.{refusals_are_one}
use Rattle.wc_archive.proofs.laws.refusals_are_one.Goals as goal

pub returns : goal.returns
returns c = refusals_are_one
