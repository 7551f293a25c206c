use Rattle.std.proofs.Common.{◌≡◌, ◌↔◌, ◌+◌, ◌-◌, ◌<◌, ◌≤◌, ◌&&◌, ℕ, Bool, true, false, List, length, get_or, drop, ap, ◌∙◌, subst, arith}
use Rattle.wc_graph.specs.declared.link.Link.{Link}
use Rattle.wc_query.specs.declared.query.LinkTest.{LinkTest}
use Rattle.wc_query.specs.declared.query.NodeTest.{NodeTest}
use Rattle.wc_matches.specs.Meets.{meets}
use Rattle.wc_matches.specs.Sets.{AreWithin, AreSets, IsSet, LeadsToMarked}
use Rattle.wc_matches.proofs.Answering.{sets_more, within_more}
use Rattle.wc_matches.proofs.Placing.{set_is}
use Rattle.wc_matches.proofs.sets.sets_of.Goals as goal

pub loop-at-preserved : goal.loop-at-preserved
loop-at-preserved c =
    let l = c.loop-at in
    let w = c.args.world.now.world in
    let more = c.args.query.now.more in
    let at : ℕ = l.at - 1 in
    let some : 0 < l.at = c.loop-at-test.true in
    let place : l.at ≤ length more = l.invariant.place in
    let lt : at < length more = omega (arith, some, place) in
    let next : l.at ≡ at + 1 = omega (arith, some) in
    let join = c.index-joins-at.result in
    let is : join ≡ get_or more at join = c.index-joins-at.is ∙ ap (λ (js : List (LinkTest × NodeTest)). get_or js at join) l.invariant.joins in
    let set = c.in_ok-set.set in
    let within : AreWithin w (drop (at + 1) more) l.within.items = subst (λ (k : ℕ). AreWithin w (drop k more) l.within.items) next l.invariant.within in
    let sets : AreSets w (drop (at + 1) more) l.sets.items = subst (λ (k : ℕ). AreSets w (drop k more) l.sets.items) next l.invariant.sets in
    let known : IsSet w join.1 (drop (at + 1) more) set = set_is w join.1 (drop (at + 1) more) l.within.items set within
    (λ m. c.in_ok-set.ensures.met m ∙ ap (λ (xs : List Bool). get_or xs m false && meets w join.1 m) c.deref.ensures.value) in
    let links : c.graph-graph.result.now.links ≡ w.links = c.graph-graph.ensures.links.0 in
    record {
      joins = l.invariant.joins;
      place = omega (arith, place);
      within = within_more w more at join set c.in_ok-within-2.within.items lt is (c.in_ok-within-2.ensures.size ∙ ap (λ ns. length ns + 1) c.graph-graph.ensures.nodes.0) known
          (λ n. subst (λ (xs : List Bool). (get_or c.in_ok-within-2.within.items n false ≡ true) ↔ LeadsToMarked w.links join.0 xs n) c.as_slice.ensures
          (subst (λ (ls : List Link). (get_or c.in_ok-within-2.within.items n false ≡ true) ↔ LeadsToMarked ls join.0 c.as_slice.result.now n) links (c.in_ok-within-2.ensures.leads n)));
      sets = sets_more w more at join l.sets.items c.push.new.self.items set lt is sets known c.in_ok-push.ensures.items;
    }

pub returns-clause-first : goal.returns-clause-first
returns-clause-first c =
    let l = c.loop-at in
    let w = c.args.world.now.world in
    let more = c.args.query.now.more in
    let done : l.at ≡ 0 = omega (arith, c.loop-at-test.false) in
    let within : AreWithin w more l.within.items = subst (λ (k : ℕ). AreWithin w (drop k more) l.within.items) done l.invariant.within in
    set_is w c.args.query.now.first more l.within.items c.in_ok-first.first within
    (λ m. c.in_ok-first.ensures.met m ∙ ap (λ (xs : List Bool). get_or xs m false && meets w c.args.query.now.first m) c.deref-2.ensures.value)
