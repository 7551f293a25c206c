use Rattle.std.proofs.Common.{◌≡◌, ℕ, suc, ◌+◌, List, ◌∷◌, length, drop, sym, ap, subst, ◌∙◌, arith}
use Rattle.wc_syntax.specs.declared.outline.Arm.{Arm, out-Arm}
use Rattle.wc_expression.specs.declared.outcome.Outcome.TheVariants.{Gives}
use Rattle.wc_machine.specs.Advances.{block_count}
use Rattle.wc_machine.specs.Outlines.{blocks}
use Rattle.wc_outline.specs.Places.{picked_from, if_blocks, Fit}
use Rattle.wc_outline.proofs.Gathered.{next}
use Rattle.wc_outline.proofs.Numbers.{fit_on}
use Rattle.wc_outline.proofs.Picked.{pick_on, passed_more, passed_in}
use Rattle.wc_outline.proofs.instructions.pick.Goals as goal

pub loop-arm-init : goal.loop-arm-init
loop-arm-init c =
    let block = c.args.place.frame.block in
    let arms = c.as_slice-arm-items.result.now in
    let passed : length c.put_blocks.new.found ≡ block_count c.args.place.front.now
    = passed_in c.new-passed.result c.put_blocks.new.found c.args.place.front.now c.new-passed.ensures c.in_ok-put_blocks.ensures in
    let start : Fit (suc block + block_count c.args.place.front.now) (length (if_blocks arms c.args.other.now))
    = subst (λ (xs : List Arm). Fit (suc block + block_count c.args.place.front.now) (length (if_blocks xs c.args.other.now))) (sym c.as_slice-arm-items.ensures) c.requires in
    record {
      picks = ap (λ (n : ℕ). picked_from (suc block + n) arms c.args.other.now c.args.env.now) passed;
      fit = subst (λ (n : ℕ). Fit (suc block + n) (length (if_blocks arms c.args.other.now))) (sym passed) start;
    }

pub loop-arm-preserved : goal.loop-arm-preserved
loop-arm-preserved c =
    let a = c.args in
    let block = a.place.frame.block in
    let arms = c.as_slice-arm-items.result.now in
    let i = c.loop-arm.arm-index in
    let arm = c.arm-item.result in
    let before = suc block + length c.loop-arm.passed in
    let inside = length (blocks (out-Arm arm).block) in
    let more : length c.put_block.new.found ≡ length c.loop-arm.passed + inside
    = passed_more c.loop-arm.passed c.put_block.new.found (blocks (out-Arm arm).block) c.in_ok-put_block-in-Gives-false.ensures in
    let e : suc block + length c.put_block.new.found ≡ before + inside = omega (arith, more) in
    let here : Fit before (length (if_blocks (arm ∷ drop (i + 1) arms) a.other.now))
    = subst (λ (xs : List Arm). Fit before (length (if_blocks xs a.other.now)))
    (next (λ (xs : List Arm). xs) arms i arm c.loop-arm-test.true c.arm-item.is) c.loop-arm.invariant.fit in
    record {
      picks = ap (λ (n : ℕ). picked_from n (drop (i + 1) arms) a.other.now a.env.now) e
          ∙ sym (pick_on before arm (drop (i + 1) arms) a.other.now a.env.now
          (sym c.in_ok-eval_condition.ensures ∙ c.in-Gives-false.is ∙ ap Gives c.in-Gives-false.field-0-test))
          ∙ sym (next (λ (xs : List Arm). picked_from before xs a.other.now a.env.now) arms i arm c.loop-arm-test.true c.arm-item.is)
          ∙ c.loop-arm.invariant.picks;
      fit = subst (λ (n : ℕ). Fit n (length (if_blocks (drop (i + 1) arms) a.other.now))) (sym e) (fit_on before arm (drop (i + 1) arms) a.other.now here);
    }
