use Rattle.wc_machine.proofs.FittingAnswers.{turns_fit_needs}
use Rattle.wc_machine.proofs.answer_laws.turns_fit_needs.Goals as goal

pub returns : goal.returns
returns c = turns_fit_needs
