use Rattle.wc_soundness.proofs.Wrong.{refused, unsound}
use Rattle.wc_soundness.proofs.small_worlds.wrong_worlds_are_unsound.Goals as goal

pub returns-clause-parts : goal.returns-clause-parts
returns-clause-parts c = refused

pub returns-clause-whole : goal.returns-clause-whole
returns-clause-whole c = unsound
