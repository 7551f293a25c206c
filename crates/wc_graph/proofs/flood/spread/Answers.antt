use Rattle.std.proofs.Common.{◌≡◌, ℕ, ◌+◌, ◌<◌, ◌≤◌, length, get_or, ap, ◌∙◌, subst, sym, refl, arith}
use Rattle.std.proofs.lemmas.List.{length-set, length_push}
use Rattle.wc_graph.specs.Flood.{count_of}
use Rattle.wc_graph.proofs.Flooding.{spreading_past, spreading_found, spreading_is, spreading_all, old_falls, sum_stays, more_still}
use Rattle.wc_graph.proofs.flood.spread.Goals as goal
use Rattle.wc_graph.proofs.flood.spread.Goals.{then-colours-node+in_ok-push, else-colours-node}

pub loop-node-preserved : goal.loop-node-preserved
loop-node-preserved c =
    let i = c.loop-node.node-index in
    let w = get_or c.args.next.now i 0 in
    let now = c.loop-node.colours in
    let trail = c.loop-node.trail.items in
    let inv = c.loop-node.invariant in
    let w_in : w < length now = let a : w < length c.args.colours.now = c.requires.inside i 0 c.loop-node-test.true in let e : length now ≡ length c.args.colours.now = inv.size in omega arith in
    record {
      size = elim c.if-colours-node.branch [
        | then-colours-node+in_ok-push b ↦ ap length b.colours-is ∙ length-set now w c.args.fresh ∙ inv.size
        | else-colours-node b ↦ ap length b.colours-is ∙ inv.size
      ];
      spreading = λ table start before h. elim c.if-colours-node.branch [
        | then-colours-node+in_ok-push b ↦
            spreading_is table start c.args.fresh before _ _ _ _ c.args.trail.now.items c.args.by c.args.next.now _ b.colours-is (ap (λ v. v.items) b.trail-is ∙ b.in_ok-push.ensures.items)
            (spreading_found table start c.args.fresh before h.can now trail c.args.trail.now.items c.args.by c.args.next.now i w c.args.old h.next_is h.old_is (inv.spreading table start before h) c.loop-node-test.true refl b.if-colours-node.true)
        | else-colours-node b ↦
            spreading_is table start c.args.fresh before _ _ _ _ c.args.trail.now.items c.args.by c.args.next.now _ b.colours-is (ap (λ v. v.items) b.trail-is)
            (spreading_past table start c.args.fresh before now trail c.args.trail.now.items c.args.by c.args.next.now i w c.args.old (inv.spreading table start before h) refl h.old_is b.if-colours-node.false)
      ];
      grows = elim c.if-colours-node.branch [
        | then-colours-node+in_ok-push b ↦
            let more = ap length (ap (λ v. v.items) b.trail-is ∙ b.in_ok-push.ensures.items) ∙ length_push trail (record { node = w; by = c.args.by }) in
            more_still _ _ _ inv.grows more
        | else-colours-node b ↦ subst (λ (n : ℕ). length c.args.trail.now.items ≤ n) (sym (ap (λ v. length v.items) b.trail-is)) inv.grows
      ];
      count = elim c.if-colours-node.branch [
        | then-colours-node+in_ok-push b ↦
            let falls = old_falls now w c.args.old c.args.fresh w_in b.if-colours-node.true c.requires.apart in
            let grows = ap length (ap (λ v. v.items) b.trail-is ∙ b.in_ok-push.ensures.items) ∙ length_push trail (record { node = w; by = c.args.by }) in
            sum_stays _ _ _ _ _ _ (ap (count_of c.args.old) b.colours-is) falls grows inv.count
        | else-colours-node b ↦
            (λ j. count_of c.args.old (b.colours-is j) + length (b.trail-is j).items) ∙ inv.count
      ];
    }

pub returns-clause-floods : goal.returns-clause-floods
returns-clause-floods c = λ table start before h.
    spreading_all table start c.args.fresh before c.loop-node.colours c.loop-node.trail.items c.args.trail.now.items c.args.by c.args.next.now c.loop-node.node-index
    (c.loop-node.invariant.spreading table start before h) h.next_is c.loop-node-test.false
