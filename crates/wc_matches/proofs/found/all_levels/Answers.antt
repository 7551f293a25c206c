use Rattle.std.proofs.Common.{◌≡◌, ◌<◌, ◌++◌, Bool, List, [], ◌∷◌, length, get_or, ap, ◌∙◌, subst, arith}
use Rattle.std.specs.Prelude.{option_to_list}
use Rattle.wc_graph.specs.declared.link.Link.{Link}
use Rattle.wc_query.specs.declared.query.LinkTest.{LinkTest}
use Rattle.wc_query.specs.declared.query.NodeTest.{NodeTest}
use Rattle.wc_matches.specs.Levels.{GoOnTo}
use Rattle.wc_matches.specs.Sets.{LeadsInto}
use Rattle.wc_matches.proofs.Answering.{set_taken, begun_more, all_begun}
use Rattle.wc_matches.proofs.found.all_levels.Goals as goal

pub loop-join-preserved : goal.loop-join-preserved
loop-join-preserved c =
    let l = c.loop-join in
    let w = c.args.world.now.world in
    let more = c.args.query.now.more in
    let i = l.join-index in
    let join = c.join-item.result in
    let is : join ≡ get_or more i join = c.join-item.is ∙ ap (λ (js : List (LinkTest × NodeTest)). get_or js i join) c.as_slice-join-items.ensures in
    let lt : i < length more = omega (arith, c.loop-join-test.true, ap length c.as_slice-join-items.ensures) in
    let set = c.unwrap-set.result in
    let rest = c.pop.new.self.items in
    let e : l.sets.items ≡ rest ++ set ∷ [] = c.pop.ensures.items ∙ ap (λ o. rest ++ option_to_list o) c.unwrap-set.ensures in
    let taken = set_taken w more i join l.sets.items rest set lt is l.invariant.sets e in
    let out = c.in_ok-rows.rows in
    let on : GoOnTo (LeadsInto w.links join.0 set) c.args.most l.rows out =
    subst (λ (ls : List Link). GoOnTo (LeadsInto ls join.0 set) c.args.most l.rows out) c.graph-graph.ensures.links.0
    (subst (λ (xs : List Bool). GoOnTo (LeadsInto c.graph-graph.result.now.links join.0 xs) c.args.most l.rows out) c.as_slice.ensures c.in_ok-rows.ensures.rows) in
    record {
      size = c.next_level.auto.marks ∙ l.invariant.size;
      blank = c.in_ok-rows.ensures.blank;
      sets = taken.1;
      rows = begun_more w c.args.query.now i c.args.most join set l.rows out lt is taken.0 l.invariant.rows on;
    }

pub returns : goal.returns
returns c =
    all_begun c.args.world.now.world c.args.query.now c.loop-join.join-index c.args.most c.loop-join.rows
    (omega (arith, c.loop-join-test.false, ap length c.as_slice-join-items.ensures)) c.loop-join.invariant.rows
