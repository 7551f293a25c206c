use Rattle.std.proofs.Common.{◌≡◌, ℕ, ◌+◌, ◌≤◌, List, length, get_or, ap, ◌∙◌, sym, subst, ⊎_elim, arith}
use Rattle.std.proofs.lemmas.Bool.{cases_lt}
use Rattle.wc_graph.specs.Walks.{Reaches}
use Rattle.wc_graph.specs.Near.{Near}
use Rattle.wc_graph.specs.Cycle.{CanSettle, KeepsColour}
use Rattle.wc_graph.proofs.Settling.{can_settle, slice_back, none_on_cycle}
use Rattle.wc_graph.proofs.cycle.least_on_cycle.Goals as goal

pub lies_on_cycle-requires-clause-can : goal.lies_on_cycle-requires-clause-can
lies_on_cycle-requires-clause-can c =
    let l = c.loop-node in
    let i = l.invariant in
    subst (CanSettle c.args.forward.now l.node) (sym c.deref_mut.ensures.value)
    (can_settle c.args.forward.now c.args.backward.now l.node l.colours.items c.requires.converse c.requires.few i.size c.loop-node-test.true i.keeps i.below)

pub loop-node-preserved : goal.loop-node-preserved
loop-node-preserved c =
    let l = c.loop-node in
    let forward = c.args.forward.now in
    let new = c.lies_on_cycle.new.colours in
    let settled = c.in_ok-lies_on_cycle.ensures in
    let size : length new ≡ length l.colours.items = settled.size ∙ ap length c.deref_mut.ensures.value in
    let back = slice_back l.colours.len new l.colours.items l.colours.ok.0 size in
    record {
      size = ap length back ∙ size ∙ l.invariant.size;
      keeps = subst (KeepsColour forward) (sym back) settled.settles.keeps;
      below = λ k. subst (λ (cs : List ℕ). get_or cs k 0 ≤ l.node + 1) (sym back) (settled.settles.below k);
      none = λ k lt.
          ⊎_elim (λ less. l.invariant.none k less)
          (λ ge r.
          let e : k ≡ l.node = omega arith in
          settled.settles.off_cycle c.if-branch.false (subst (λ (n : ℕ). Reaches (Near forward) n n) e r))
          (cases_lt k l.node);
    }

pub returns : goal.returns
returns c = none_on_cycle c.args.forward.now c.loop-node.node c.loop-node-test.false c.loop-node.invariant.none
