use Rattle.wc_journal.proofs.Writing.{spelled_holds}
use Rattle.wc_journal.proofs.Respelled.{spelled_only}
use Rattle.wc_journal.proofs.laws.an_image_holds_what_it_spells.Goals as goal

pub returns-clause-held : goal.returns-clause-held
returns-clause-held c = spelled_holds

pub returns-clause-only : goal.returns-clause-only
returns-clause-only c = spelled_only
