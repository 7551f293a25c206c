use Rattle.std.proofs.Common.{◌+◌, ◌==◌, drop, List, sym, ap, ◌∙◌}
use Rattle.wc_value.specs.Ascending.{put}
use Rattle.wc_expression.specs.declared.outcome.Outcome.TheVariants.{Gives}
use Rattle.wc_semantics.specs.Rules.{kind_of_port}
use Rattle.wc_semantics.specs.Meaning.{takes_of}
use Rattle.wc_meaning.proofs.Steps.{ctx_step, out_step, exit_step, call_step, passed}
use Rattle.wc_meaning.proofs.statements.run_statements.Goals as goal
use Rattle.wc_meaning.proofs.statements.run_statements.Goals.{in-Ctx+in_ok-value-in-Ctx+in-Gives+in_ok-env-in-Gives, in-Out+in_ok-value-in-Out+in-Gives-2+in_ok-copy-in-Gives-2+in_ok-set-in-Gives-2, in-Exit+in_ok-takes-in-Exit+in-Gives-false, in-Call+in_ok-planned-in-Call+in-Gives-3+in_ok-push-in-Gives-3}

pub loop-stmt-preserved : goal.loop-stmt-preserved
loop-stmt-preserved c =
    let deep = c.args.setting.now.levels == 0 in
    let takes = takes_of c.args.setting.now.library.now in
    let kinds = λ (name : List _). kind_of_port name c.args.setting.now.ports.now in
    let ss = c.as_slice-stmt-items.result.now in
    let i = c.loop-stmt.stmt-index in
    let s = c.stmt-item.result in
    let rest = drop (i + 1) ss in
    let ps = c.loop-stmt.plan in
    let env = c.loop-stmt.env in
    let outs = c.loop-stmt.outputs in
    elim c.match-stmt.branch [
      | in-Ctx+in_ok-value-in-Ctx+in-Gives+in_ok-env-in-Gives w ↦
          passed deep takes kinds ss i s ps _ _ env _ _ outs _ _ _ c.loop-stmt-test.true c.stmt-item.is w.plan-is (w.env-is ∙ w.in_ok-env-in-Gives.ensures) w.outputs-is
          (ctx_step deep takes kinds s rest ps env outs w.in-Ctx.field-0 w.in-Ctx.key w.in-Ctx.expr w.in-Gives.value w.in-Ctx.is (sym w.in_ok-value-in-Ctx.ensures ∙ w.in-Gives.is))
          c.loop-stmt.invariant
      | in-Out+in_ok-value-in-Out+in-Gives-2+in_ok-copy-in-Gives-2+in_ok-set-in-Gives-2 w ↦
          passed deep takes kinds ss i s ps _ _ env _ _ outs _ _ _ c.loop-stmt-test.true c.stmt-item.is w.plan-is w.env-is
          (w.outputs-is ∙ w.in_ok-set-in-Gives-2.ensures.ok ∙ ap (λ (name : List _). put name w.in-Gives-2.value outs) w.in_ok-copy-in-Gives-2.ensures)
          (out_step deep takes kinds s rest ps env outs w.in-Out.field-0 w.in-Out.name w.in-Out.expr w.in-Gives-2.value w.in-Out.is (sym w.in_ok-value-in-Out.ensures ∙ w.in-Gives-2.is))
          c.loop-stmt.invariant
      | in-Exit+in_ok-takes-in-Exit+in-Gives-false w ↦
          passed deep takes kinds ss i s ps _ _ env _ _ outs _ _ _ c.loop-stmt-test.true c.stmt-item.is w.plan-is w.env-is w.outputs-is
          (exit_step deep takes kinds s rest ps env outs w.in-Exit.exit w.in-Exit.is (sym w.in_ok-takes-in-Exit.ensures ∙ w.in-Gives-false.is ∙ ap Gives w.in-Gives-false.field-0-test))
          c.loop-stmt.invariant
      | in-Call+in_ok-planned-in-Call+in-Gives-3+in_ok-push-in-Gives-3 w ↦
          passed deep takes kinds ss i s ps _ _ env _ _ outs _ _ _ c.loop-stmt-test.true c.stmt-item.is (w.plan-is ∙ w.in_ok-push-in-Gives-3.ensures.ok) w.env-is w.outputs-is
          (call_step deep takes kinds s rest ps env outs w.in-Call.call w.in-Gives-3.planned w.in-Call.is (sym w.in_ok-planned-in-Call.ensures ∙ w.in-Gives-3.is))
          c.loop-stmt.invariant
    ]
