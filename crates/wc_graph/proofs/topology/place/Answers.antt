use Rattle.std.proofs.Common.{◌≡◌, ℕ, ◌+◌, ◌<◌, ◌≤◌, ◌↔◌, List, [], length, get_or, sym, ap, subst, ◌∙◌, arith}
use Rattle.std.proofs.lemmas.List.{get_or_default, length_push}
use Rattle.wc_graph.specs.Order.{waits, times}
use Rattle.wc_graph.proofs.Settling.{slice_back}
use Rattle.wc_graph.proofs.Restoring.{read_list}
use Rattle.wc_graph.proofs.Counting.{times_step}
use Rattle.wc_graph.proofs.Ready.{In, in_removed, in_none, lowest_of}
use Rattle.wc_graph.proofs.Placing.{Placing, placing_none, placing_more, placed_fit, order_of, order_acyclic, stuck, measure_falls, targets_within, targets_enough}
use Rattle.wc_graph.proofs.topology.place.Goals as goal

pub loop-node-init : goal.loop-node-init
loop-node-init c =
    let g = c.args.graph.now in
    let waiting = c.in_ok-waiting.waiting.items in
    let count : c.len.result ≡ length g.nodes = c.len.ensures.value ∙ ap (λ p. length p.0) c.nodes-nodes.ensures.value in
    let links_is : c.as_slice.result.now ≡ g.links = c.as_slice.ensures ∙ ap (λ p. p.0) c.links-links.ensures.value in
    placing_none g.nodes g.links c.new-placed.result waiting (In c.in_ok-ready.ready) c.new-placed.ensures
    (c.in_ok-waiting.ensures.size ∙ ap (λ n. n + 1) count)
    (λ node. c.in_ok-waiting.ensures.counts node ∙ ap (λ ls. waits [] ls node) links_is)
    (subst (λ (l : List ℕ). (node : ℕ) → In c.in_ok-ready.ready node ↔ ((1 ≤ node) × (node < length l) × (get_or l node 0 ≡ 0))) c.deref.ensures.value c.in_ok-ready.ensures)

pub release-requires-clause-within : goal.release-requires-clause-within
release-requires-clause-within c =
    let g = c.args.graph.now in
    let l = c.loop-node in
    let v = c.in-Some.node in
    let r = (l.invariant.ready v).0 c.in-Some.ensures.member in
    let v_le : v ≤ length g.nodes = r.0.1 in
    let size : length c.args.forward.now ≡ length g.nodes + 1 = c.requires.size in
    let is = read_list c.args.forward.now v c.as_slice-in-Some.result.now c.index-forward-node.result c.as_slice-in-Some.ensures c.index-forward-node.is (omega arith) ∙ c.requires.lists v in
    targets_within g.nodes g.links c.links-links.ensures.correct v (length c.deref_mut.result.now) c.as_slice-in-Some.result.now is
    (ap length c.deref_mut.ensures.value ∙ l.invariant.size)

pub release-requires-clause-enough : goal.release-requires-clause-enough
release-requires-clause-enough c =
    let g = c.args.graph.now in
    let l = c.loop-node in
    let v = c.in-Some.node in
    let r = (l.invariant.ready v).0 c.in-Some.ensures.member in
    let v_le : v ≤ length g.nodes = r.0.1 in
    let size : length c.args.forward.now ≡ length g.nodes + 1 = c.requires.size in
    let is = read_list c.args.forward.now v c.as_slice-in-Some.result.now c.index-forward-node.result c.as_slice-in-Some.ensures c.index-forward-node.is (omega arith) ∙ c.requires.lists v in
    subst (λ (w : List ℕ). (q : ℕ) → times q c.as_slice-in-Some.result.now ≤ get_or w q 0) (sym c.deref_mut.ensures.value)
    (targets_enough g.nodes g.links l.placed l.waiting.items (In l.ready) v c.as_slice-in-Some.result.now l.invariant c.in-Some.ensures.member is)

pub loop-node-smaller : goal.loop-node-smaller
loop-node-smaller c =
    let g = c.args.graph.now in
    let l = c.loop-node in
    measure_falls (length l.placed) (length c.push.new.self) (length g.nodes + 1)
    (placed_fit g.nodes g.links l.placed l.waiting.items (In l.ready) c.in-Some.node l.invariant c.in-Some.ensures.member)
    (ap length c.in_ok-push.ensures.ok ∙ length_push l.placed c.in-Some.node)

pub loop-node-preserved : goal.loop-node-preserved
loop-node-preserved c =
    let g = c.args.graph.now in
    let l = c.loop-node in
    let v = c.in-Some.node in
    let r = (l.invariant.ready v).0 c.in-Some.ensures.member in
    let v_le : v ≤ length g.nodes = r.0.1 in
    let size : length c.args.forward.now ≡ length g.nodes + 1 = c.requires.size in
    let targets = c.as_slice-in-Some.result.now in
    let is = read_list c.args.forward.now v targets c.index-forward-node.result c.as_slice-in-Some.ensures c.index-forward-node.is (omega arith) ∙ c.requires.lists v in
    let new = c.release.new.waiting in
    let released = c.in_ok-release.ensures in
    let same = c.deref_mut.ensures.value in
    let length_is : length new ≡ length l.waiting.items = released.size ∙ ap length same in
    let back = slice_back l.waiting.len new l.waiting.items l.waiting.ok.0 length_is in
    subst (λ (w : List ℕ). Placing g.nodes g.links c.push.new.self w (In c.release.new.ready)) (sym back)
    (placing_more g.nodes g.links c.links-links.ensures.correct l.placed c.push.new.self l.waiting.items new targets (In l.ready) (In c.take_lowest.new.ready) (In c.release.new.ready) v
    l.invariant c.in-Some.ensures.member (lowest_of l.ready v c.in-Some.ensures.lowest) c.in_ok-push.ensures.ok is
    (in_removed l.ready c.take_lowest.new.ready v c.in-Some.ensures.taken) length_is
    (λ node. released.counts node ∙ ap (λ w. get_or w node 0) same) released.ready
    (λ q pos. times_step g.links v q targets is pos))

pub returns-then-some_waits : goal.returns-then-some_waits
returns-then-some_waits c = λ acyclic.
    let g = c.args.graph.now in
    let l = c.loop-node in
    let a = c.if-some_waits.ensures in
    let at : get_or l.waiting.items a.0 0 ≡ a.1 = ap (λ w. get_or w a.0 0) (sym c.deref-2.ensures.value) ∙ get_or_default c.deref-2.result.now a.0 0 a.1 a.2 ∙ a.3 in
    stuck g.nodes g.links c.links-links.ensures.correct acyclic l.placed l.waiting.items (In l.ready) l.invariant
    (in_none l.ready c.take_lowest.result c.in_default.is c.take_lowest.ensures.some) a.0 (λ z. a.4 (sym at ∙ z))

pub returns : goal.returns
returns c =
    let g = c.args.graph.now in
    let l = c.loop-node in
    let order = order_of g.nodes g.links l.placed l.waiting.items (In l.ready) l.invariant
    (in_none l.ready c.take_lowest.result c.in_default.is c.take_lowest.ensures.some)
    (λ q. ap (λ w. get_or w q 0) (sym c.deref-2.ensures.value) ∙ c.if-some_waits.ensures q) in
    (order, order_acyclic g.nodes g.links c.links-links.ensures.correct l.placed order)
