use Rattle.std.proofs.Common.{◌≡◌, ◌<◌, length, get_or, refl, ◌∙◌, arith}
use Rattle.std.proofs.lemmas.List.{length-set}
use Rattle.wc_graph.proofs.Ready.{positive, counts_lower, ready_zero, ready_still, ready_is, in_added}
use Rattle.wc_graph.proofs.topology.release.Goals as goal
use Rattle.wc_graph.proofs.topology.release.Goals.{then-waiting-target-eq0+in_ok-insert, else-waiting-target-eq0}

pub overflow_sub-waiting : goal.overflow_sub-waiting
overflow_sub-waiting c =
    let l = c.loop-target in
    let targets = c.args.targets.now in
    let t = get_or targets l.target-index 0 in
    let size : length l.waiting ≡ length c.args.waiting.now = l.invariant.size in
    let w : t < length c.args.waiting.now = c.requires.within l.target-index 0 c.loop-target-test.true in
    positive targets c.args.waiting.now l.waiting l.target-index t c.loop-target-test.true refl (omega arith) l.invariant.counts c.requires.enough

pub loop-target-preserved : goal.loop-target-preserved
loop-target-preserved c =
    let l = c.loop-target in
    let targets = c.args.targets.now in
    let first = c.args.waiting.now in
    let t = get_or targets l.target-index 0 in
    let lt = c.loop-target-test.true in
    let size : length l.waiting ≡ length first = l.invariant.size in
    let w : t < length first = c.requires.within l.target-index 0 lt in
    let t_in : t < length l.waiting = omega arith in
    record {
      size = length-set l.waiting t _ ∙ size;
      counts = counts_lower targets first l.waiting l.target-index t lt refl t_in l.invariant.counts c.requires.enough;
      ready = elim c.if-waiting-target-eq0.branch [
        | then-waiting-target-eq0+in_ok-insert b ↦
            ready_is _ _ _ b.ready-is
            (ready_zero targets first l.waiting l.target-index t lt refl t_in l.invariant.counts c.requires.enough _ _ _ l.invariant.ready b.if-waiting-target-eq0.true
            (in_added l.ready b.insert.new.self t b.in_ok-insert.ensures.updates))
        | else-waiting-target-eq0 b ↦
            ready_is _ _ _ b.ready-is
            (ready_still targets first l.waiting l.target-index t lt refl t_in l.invariant.counts c.requires.enough _ _ l.invariant.ready b.if-waiting-target-eq0.false)
      ];
    }
