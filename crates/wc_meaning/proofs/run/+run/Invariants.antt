use Rattle.std.proofs.Common.{◌≡◌, ◌+◌, ◌-◌, ◌*◌, map, drop}
use Rattle.std.specs.Option.{option_map}
use denote.Param.Weighed.{most}
use Rattle.std.specs.Prelude.{max}
use Rattle.wc_syntax.specs.declared.outline.Block.{size-Block}
use Rattle.wc_syntax.specs.declared.outline.Arm.{size-Arm}
use Rattle.wc_syntax.specs.declared.outline.Instr.{size-Instr}
use Rattle.wc_semantics.specs.Run.{run_block, exec, all, choose, arm_act, turns, take_calls}
use Rattle.wc_meaning.specs.Settings.{around_in, widest, option_size}
use Rattle.wc_meaning.proofs.run.+run.Given as goal

abbrev pub decreases-mean_below : goal.decreases-mean_below
decreases-mean_below l = (l.levels + 1) * widest l.library.now

abbrev pub decreases-mean_chain : goal.decreases-mean_chain
decreases-mean_chain l = l.setting.now.levels * widest l.setting.now.library.now + (2 * size-Block l.outline.now + 6)

abbrev pub decreases-run_block : goal.decreases-run_block
decreases-run_block l = l.setting.now.levels * widest l.setting.now.library.now + (2 * size-Block l.block.now + 5)

abbrev pub decreases-run_instr : goal.decreases-run_instr
decreases-run_instr l = l.setting.now.levels * widest l.setting.now.library.now + (2 * size-Instr l.instr.now + 5)

abbrev pub decreases-run_branch : goal.decreases-run_branch
decreases-run_branch l = l.setting.now.levels * widest l.setting.now.library.now + (2 * max (most size-Arm l.arms.now) (option_size l.other.now) + 6)

abbrev pub decreases-run_loop : goal.decreases-run_loop
decreases-run_loop l = l.setting.now.levels * widest l.setting.now.library.now + (2 * size-Block l.body.now + 6)

abbrev pub decreases-run_step : goal.decreases-run_step
decreases-run_step l = l.setting.now.levels * widest l.setting.now.library.now + 4

abbrev pub decreases-make_calls : goal.decreases-make_calls
decreases-make_calls l = l.setting.now.levels * widest l.setting.now.library.now + 3

abbrev pub decreases-take_calls : goal.decreases-take_calls
decreases-take_calls l = l.setting.now.levels * widest l.setting.now.library.now + 2

abbrev pub decreases-call : goal.decreases-call
decreases-call l = l.setting.now.levels * widest l.setting.now.library.now + 1

abbrev pub invariant-run_block-loop-instr : goal.invariant-run_block-loop-instr
invariant-run_block-loop-instr l =
    all (map exec (drop l.instr-index l.instr-items)) (around_in l.setting) l.left l.now ≡ all (map exec l.instr-items) (around_in l.setting) l.fn.fuel l.fn.progress

abbrev pub invariant-run_branch-loop-arm : goal.invariant-run_branch-loop-arm
invariant-run_branch-loop-arm l =
    choose (map arm_act (drop l.arm-index l.arm-items)) (option_map run_block l.other) (around_in l.setting) l.fuel l.progress
    ≡ choose (map arm_act l.arm-items) (option_map run_block l.other) (around_in l.setting) l.fuel l.progress

abbrev pub invariant-run_loop-loop-turn : goal.invariant-run_loop-loop-turn
invariant-run_loop-loop-turn l =
    turns (l.fuel - l._turn) l.condition (run_block l.body) (around_in l.setting) l.left l.now ≡ turns l.fuel l.condition (run_block l.body) (around_in l.setting) l.fuel l.fn.progress

abbrev pub invariant-take_calls-loop-planned : goal.invariant-take_calls-loop-planned
invariant-take_calls-loop-planned l =
    take_calls (drop l.planned-index l.planned-items) (around_in l.setting) l.left l.now ≡ take_calls l.planned-items (around_in l.setting) l.fn.fuel l.fn.progress
