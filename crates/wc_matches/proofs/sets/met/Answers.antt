use Rattle.std.proofs.Common.{◌≡◌, ◌+◌, ◌&&◌, Bool, ℕ, false, length, get_or, ap, ◌∙◌, arith}
use Rattle.std.proofs.lemmas.List.{length_push}
use Rattle.wc_matches.specs.Meets.{meets}
use Rattle.wc_matches.proofs.Answering.{mark_more, marks_all}
use Rattle.wc_matches.proofs.sets.met.Goals as goal

pub loop-node-preserved : goal.loop-node-preserved
loop-node-preserved c =
    let l = c.loop-node in
    let f : ℕ → Bool = λ m. get_or c.args.within.now m false && meets c.args.world.now.world c.args.test.now m in
    let longer : length c.push.new.self ≡ length l.set + 1 = ap length c.in_ok-push.ensures.ok ∙ length_push l.set c.meets_within.result in
    record {
      size = omega (arith, longer, l.invariant.size);
      met = mark_more f l.set c.push.new.self l.node c.meets_within.result l.invariant.size l.invariant.met c.meets_within.ensures c.in_ok-push.ensures.ok;
    }

pub returns-clause-met : goal.returns-clause-met
returns-clause-met c =
    let l = c.loop-node in
    marks_all c.args.within.now l.set (meets c.args.world.now.world c.args.test.now) l.node l.invariant.size (omega (arith, c.loop-node-test.false)) l.invariant.met
