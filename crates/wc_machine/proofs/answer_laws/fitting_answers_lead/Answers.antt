use Rattle.wc_machine.proofs.FittingAnswers.{fitting_answers_lead}
use Rattle.wc_machine.proofs.answer_laws.fitting_answers_lead.Goals as goal

pub returns : goal.returns
returns c = fitting_answers_lead
