use Rattle.std.proofs.Common.{sym, subst}
use Rattle.wc_syntax.specs.Findings.{definition_named}
use Rattle.wc_semantics.specs.Laws.{IsUncut}
use Rattle.wc_semantics.specs.Tables.{plain}
use Rattle.wc_plan.proofs.Means.{uncut}
use Rattle.wc_plan.proofs.commands.dry.reply_for_inputs.Goals as goal

pub reply_for_answer-requires : goal.reply_for_answer-requires
reply_for_answer-requires c =
    let a = c.args in
    subst IsUncut (sym c.in_ok-answer.ensures)
    (uncut (definition_named a.trial.now.name a.library.now) _
    (λ d found. c.without_kills.ensures 15 a.library.now (plain a.table.now) a.trial.now.fuel a.trial.now.name a.inputs.now d found) c.requires.named)
