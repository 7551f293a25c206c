use Rattle.std.proofs.Common.{◌≡◌, ℕ, ◌+◌, ◌-◌, ◌*◌, ◌<◌, true, false, List, Some, map, drop, sym, ap, ◌∙◌, arith}
use Rattle.wc_syntax.specs.Findings.{definition_named}
use Rattle.wc_syntax.specs.declared.definition.Definition.TheVariants as definition
use Rattle.std.specs.Option.{option_map}
use Rattle.wc_syntax.specs.declared.outline.Arm.{Arm}
use Rattle.wc_syntax.specs.declared.outline.Block.{size-Block}
use Rattle.wc_expression.specs.declared.outcome.Outcome.TheVariants.{Gives, Faults}
use Rattle.wc_expression.specs.Val.{holds}
use Rattle.wc_semantics.specs.declared.progress.Answer.TheVariants.{Gave, Without}
use Rattle.wc_semantics.specs.declared.progress.Planned.{Planned}
use Rattle.wc_semantics.specs.declared.progress.Progress.{Progress}
use Rattle.wc_semantics.specs.declared.progress.Replayed.{Replayed}
use Rattle.wc_semantics.specs.declared.progress.Stepped.{Stepped}
use Rattle.wc_semantics.specs.Tables.{plain, kills_of}
use Rattle.wc_semantics.specs.Run.{after, run_block, choose, arm_act, label, take_calls}
use Rattle.wc_semantics.specs.Meaning.{meaning}
use Rattle.wc_semantics.proofs.Keyed.{made}
use Rattle.wc_meaning.specs.Settings.{around_in, widest}
use Rattle.wc_meaning.proofs.Around.{step_at, called, means_killed, means_function, means_job}
use Rattle.wc_meaning.proofs.Going.{arm_by, turn_by, turn_lacks, call_by}
use Rattle.wc_meaning.proofs.Turns.{turn_goes, turns_end, outline_within, outline_falls}
use Rattle.wc_meaning.proofs.run.+run.Goals as goal

pub call-returns : goal.call-returns
call-returns t c =
    let s = c.args.setting.now in
    let p = c.args.planned.now in
    made c.mean_below.result _ _ c.mean_below.ensures
    (ap (λ (ks : List _). meaning (s.levels - 1) s.library.now (plain s.table.now) (kills_of ks) c.args.fuel p.callee p.inputs) c.below.ensures
    ∙ sym (called s c.args.label.now c.args.fuel p.callee p.inputs (omega arith)))

pub mean_below-returns-in-Some-eq0 : goal.mean_below-returns-in-Some-eq0
mean_below-returns-in-Some-eq0 t c =
    let a = c.args in
    let h : c.own-stop.result ≡ Some 0 = cc in
    ap (λ (r : Replayed). Gave r a.fuel) c.in_ok-killed_first.ensures
    ∙ means_killed a.levels a.library.now a.table.now a.kills.now a.fuel a.name.now a.inputs.now c.own-stop.result c.own-stop.ensures h

pub mean_below-mean_chain-requires : goal.mean_below-mean_chain-requires
mean_below-mean_chain-requires t c =
    let a = c.args in
    let chain = c.in-Some-Chain.chain in
    let p : definition_named a.name.now a.library.now ≡ Some (definition.Chain chain) = sym c.in-Some-Chain.ensures ∙ ap Some c.in-Some-Chain.field-0-is in
    let fall : a.levels * widest a.library.now + (2 * size-Block chain.outline + 6) < (a.levels + 1) * widest a.library.now
    = outline_falls a.levels (size-Block chain.outline) (widest a.library.now) (outline_within a.name.now a.library.now chain p) in
    (omega (arith, fall, c.decreases), tt)

pub mean_below-returns-in-None-stop : goal.mean_below-returns-in-None-stop
mean_below-returns-in-None-stop t c =
    let a = c.args in
    made c.mean_function.result _ _ c.mean_function.ensures
    (means_function a.levels a.library.now a.table.now a.kills.now a.fuel a.name.now a.inputs.now c.in-Some-Function.function
    (sym c.in-None-stop.is ∙ c.own-stop.ensures) (sym (ap Some c.in-Some-Function.field-0-is) ∙ c.in-Some-Function.ensures))

pub mean_below-returns-in-None-stop-2 : goal.mean_below-returns-in-None-stop-2
mean_below-returns-in-None-stop-2 t c =
    let a = c.args in
    made c.mean_job.result _ _ c.mean_job.ensures
    (means_job a.levels a.library.now a.table.now a.kills.now a.fuel a.name.now a.inputs.now c.in-Some-Job.job
    (sym c.in-None-stop-2.is ∙ c.own-stop.ensures) (sym (ap Some c.in-Some-Job.field-0-is) ∙ c.in-Some-Job.ensures))

pub run_loop-returns-in-Ends : goal.run_loop-returns-in-Ends
run_loop-returns-in-Ends t c =
    let p : holds c.args.condition.now c.loop-turn.now.env ≡ Gives true = cc c.in_ok-eval_condition.ensures in
    turn_goes c.args.fuel c.loop-turn._turn c.args.condition.now (run_block c.args.body.now) (around_in c.args.setting.now) c.loop-turn.left c.loop-turn.now _ _
    c.loop-turn-test.true p c.if-left-eq0.false (sym c.in_ok-fuel.ensures ∙ c.in-Ends.is) c.loop-turn.invariant

pub run_loop-returns-in-NoFuel : goal.run_loop-returns-in-NoFuel
run_loop-returns-in-NoFuel t c =
    let p : holds c.args.condition.now c.loop-turn.now.env ≡ Gives true = cc c.in_ok-eval_condition.ensures in
    turn_goes c.args.fuel c.loop-turn._turn c.args.condition.now (run_block c.args.body.now) (around_in c.args.setting.now) c.loop-turn.left c.loop-turn.now _ _
    c.loop-turn-test.true p c.if-left-eq0.false (sym c.in_ok-fuel.ensures ∙ c.in-NoFuel.is) c.loop-turn.invariant

pub run_loop-returns-in-Lacks : goal.run_loop-returns-in-Lacks
run_loop-returns-in-Lacks t c =
    let p : holds c.args.condition.now c.loop-turn.now.env ≡ Gives true = cc c.in_ok-eval_condition.ensures in
    turn_goes c.args.fuel c.loop-turn._turn c.args.condition.now (run_block c.args.body.now) (around_in c.args.setting.now) c.loop-turn.left c.loop-turn.now _ _
    c.loop-turn-test.true p c.if-left-eq0.false (sym c.in_ok-fuel.ensures ∙ c.in-Lacks.is) c.loop-turn.invariant

pub run_loop-returns-in-Off : goal.run_loop-returns-in-Off
run_loop-returns-in-Off t c =
    let p : holds c.args.condition.now c.loop-turn.now.env ≡ Gives true = cc c.in_ok-eval_condition.ensures in
    turn_goes c.args.fuel c.loop-turn._turn c.args.condition.now (run_block c.args.body.now) (around_in c.args.setting.now) c.loop-turn.left c.loop-turn.now _ _
    c.loop-turn-test.true p c.if-left-eq0.false (sym c.in_ok-fuel.ensures ∙ c.in-Off.is) c.loop-turn.invariant

pub run_loop-loop-turn-preserved : goal.run_loop-loop-turn-preserved
run_loop-loop-turn-preserved t c =
    let p : holds c.args.condition.now c.loop-turn.now.env ≡ Gives true = cc c.in_ok-eval_condition.ensures in
    turn_goes c.args.fuel c.loop-turn._turn c.args.condition.now (run_block c.args.body.now) (around_in c.args.setting.now) c.loop-turn.left c.loop-turn.now _ _
    c.loop-turn-test.true p c.if-left-eq0.false (sym c.in_ok-fuel.ensures ∙ c.in-Goes.is) c.loop-turn.invariant

pub run_loop-returns-in-Faults-2 : goal.run_loop-returns-in-Faults-2
run_loop-returns-in-Faults-2 t c =
    turns_end c.args.fuel c.loop-turn._turn c.args.condition.now (run_block c.args.body.now) (around_in c.args.setting.now) c.loop-turn.left c.loop-turn.now _ _
    (omega arith) (sym c.in_ok-eval_condition-2.ensures ∙ c.in-Faults-2.is) c.loop-turn.invariant

pub run_step-returns-in-Makes : goal.run_step-returns-in-Makes
run_step-returns-in-Makes t c =
    let a = c.args in
    made c.make_calls.result _ _ c.make_calls.ensures
    (sym (step_at a.setting.now a.stmts.now a.fuel a.progress
    ∙ ap (λ (x : Stepped). after x (around_in a.setting.now) a.fuel a.progress) (sym c.in_ok-state.ensures ∙ c.in-Makes.is)))

pub run_branch-returns-in-Gives-true : goal.run_branch-returns-in-Gives-true
run_branch-returns-in-Gives-true t c =
    let a = c.args in
    made c.run_block.result _ _ c.run_block.ensures
    (arm_by c.as_slice-arm-items.result.now c.loop-arm.arm-index _ c.arm-item.result (option_map run_block a.other.now) (around_in a.setting.now) a.fuel a.progress
    (Gives true) _ c.loop-arm-test.true c.arm-item.is (sym c.in_ok-eval_condition.ensures ∙ c.in-Gives-true.is ∙ ap Gives c.in-Gives-true.field-0-test) c.loop-arm.invariant
    ∙ ap (λ (arms : List Arm). choose (map arm_act arms) (option_map run_block a.other.now) (around_in a.setting.now) a.fuel a.progress) c.as_slice-arm-items.ensures)

pub run_branch-returns-in-Faults : goal.run_branch-returns-in-Faults
run_branch-returns-in-Faults t c =
    let a = c.args in
    arm_by c.as_slice-arm-items.result.now c.loop-arm.arm-index _ c.arm-item.result (option_map run_block a.other.now) (around_in a.setting.now) a.fuel a.progress
    (Faults c.in-Faults.reason) _ c.loop-arm-test.true c.arm-item.is (sym c.in_ok-eval_condition.ensures ∙ c.in-Faults.is) c.loop-arm.invariant
    ∙ ap (λ (arms : List Arm). choose (map arm_act arms) (option_map run_block a.other.now) (around_in a.setting.now) a.fuel a.progress) c.as_slice-arm-items.ensures

pub run_branch-loop-arm-preserved : goal.run_branch-loop-arm-preserved
run_branch-loop-arm-preserved t c =
    let a = c.args in
    arm_by c.as_slice-arm-items.result.now c.loop-arm.arm-index _ c.arm-item.result (option_map run_block a.other.now) (around_in a.setting.now) a.fuel a.progress
    (Gives false) _ c.loop-arm-test.true c.arm-item.is (sym c.in_ok-eval_condition.ensures ∙ c.in-Gives-false.is ∙ ap Gives c.in-Gives-false.field-0-test) c.loop-arm.invariant

pub run_loop-returns-in-Gives-false : goal.run_loop-returns-in-Gives-false
run_loop-returns-in-Gives-false t c =
    turn_by c.args.fuel c.loop-turn._turn c.args.condition.now (run_block c.args.body.now) (around_in c.args.setting.now) c.loop-turn.left c.loop-turn.now (Gives false) _
    c.loop-turn-test.true (sym c.in_ok-eval_condition.ensures ∙ c.in-Gives-false.is ∙ ap Gives c.in-Gives-false.field-0-test) c.loop-turn.invariant

pub run_loop-returns-in-Faults : goal.run_loop-returns-in-Faults
run_loop-returns-in-Faults t c =
    turn_by c.args.fuel c.loop-turn._turn c.args.condition.now (run_block c.args.body.now) (around_in c.args.setting.now) c.loop-turn.left c.loop-turn.now
    (Faults c.in-Faults.reason) _ c.loop-turn-test.true (sym c.in_ok-eval_condition.ensures ∙ c.in-Faults.is) c.loop-turn.invariant

pub run_loop-returns-then-left-eq0 : goal.run_loop-returns-then-left-eq0
run_loop-returns-then-left-eq0 t c =
    turn_lacks c.args.fuel c.loop-turn._turn c.args.condition.now (run_block c.args.body.now) (around_in c.args.setting.now) c.loop-turn.left c.loop-turn.now _
    c.loop-turn-test.true (sym c.in_ok-eval_condition.ensures ∙ c.in-Gives-true.is ∙ ap Gives c.in-Gives-true.field-0-test) c.if-left-eq0.true c.loop-turn.invariant

pub run_step-returns-in-Stops : goal.run_step-returns-in-Stops
run_step-returns-in-Stops t c =
    let a = c.args in
    sym (step_at a.setting.now a.stmts.now a.fuel a.progress
    ∙ ap (λ (x : Stepped). after x (around_in a.setting.now) a.fuel a.progress) (sym c.in_ok-state.ensures ∙ c.in-Stops.is))

pub take_calls-returns-in-Without : goal.take_calls-returns-in-Without
take_calls-returns-in-Without t c =
    let a = c.args in
    let p = c.planned-item.result in
    call_by c.as_slice-planned-items.result.now c.loop-planned.planned-index _ p (around_in a.setting.now) c.loop-planned.left c.loop-planned.now c.in_ok-label.label
    (Without c.in-Without.request) _ c.loop-planned-test.true c.planned-item.is c.if-left-eq0.false
    (c.in_ok-label.ensures ∙ ap (λ (k : ℕ). label p.key (k + 1)) c.len.ensures.value) (sym c.in-Without.is ∙ c.in_ok-replayed.ensures) c.loop-planned.invariant
    ∙ ap (λ (ps : List Planned). take_calls ps (around_in a.setting.now) a.fuel a.progress) c.as_slice-planned-items.ensures

pub take_calls-loop-planned-preserved : goal.take_calls-loop-planned-preserved
take_calls-loop-planned-preserved t c =
    let a = c.args in
    let p = c.planned-item.result in
    ap (λ (e : Progress). take_calls (drop (c.loop-planned.planned-index + 1) c.as_slice-planned-items.result.now) (around_in a.setting.now) c.in-Gave.rest e) c.in_ok-now-in-Gave.ensures
    ∙ call_by c.as_slice-planned-items.result.now c.loop-planned.planned-index _ p (around_in a.setting.now) c.loop-planned.left c.loop-planned.now c.in_ok-label.label
    (Gave c.in-Gave.replayed c.in-Gave.rest) _ c.loop-planned-test.true c.planned-item.is c.if-left-eq0.false
    (c.in_ok-label.ensures ∙ ap (λ (k : ℕ). label p.key (k + 1)) c.len.ensures.value) (sym c.in-Gave.is ∙ c.in_ok-replayed.ensures) c.loop-planned.invariant
