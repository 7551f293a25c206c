use Rattle.std.proofs.Common.{◌≡◌, ◌<◌, ◌≤◌, ◌-◌, length, Some, sym, ap, ◌∙◌, arith}
use Rattle.std.specs.Prelude.{slice_get, slice_index_or}
use Rattle.std.proofs.lemmas.Bool.{iff_false}
use Rattle.std.proofs.lemmas.Option.{slice_get-get_or}
use Rattle.wc_matches.specs.Joins.{OpenSteps}
use Rattle.wc_matches.specs.Found.{LeadsBehind}
use Rattle.wc_matches.proofs.Finding.{spread_on, spread_past, finds_is, finds_as, steps_behind, behind_steps}
use Rattle.wc_matches.proofs.search.spread.Goals as goal
use Rattle.wc_matches.proofs.search.spread.Goals.{then-leads_from+in_ok-add, else-leads_from}

pub loop-at-preserved : goal.loop-at-preserved
loop-at-preserved c =
    let l = c.loop-at in
    let links = c.args.graph.now.links in
    let some : 0 < l.at = c.loop-at-test.true in
    let within : l.at ≤ length links = l.invariant.within in
    let x = c.index-links-at.result in
    let read : slice_get links (l.at - 1) ≡ Some x =
    slice_get-get_or links (l.at - 1) x (omega (arith, some, within)) ∙ ap (λ y. Some y) (ap (λ ls. slice_index_or ls (l.at - 1) x) (sym l.invariant.links) ∙ sym c.index-links-at.is) in
    let lower : c.link_before-at.result ≤ l.at - 1 = c.link_before-at.ensures.within in
    record {
      within = omega (arith, lower, within);
      links = l.invariant.links;
      finds = elim c.if-leads_from.branch [
        | then-leads_from+in_ok-add w ↦
            finds_is (LeadsBehind c.args.forward c.args.types.now c.args.barred.now links c.args.node c.link_before-at.result) c.args.marks.now _ _ c.args.found.now.items _ _
            w.marks-is (ap (λ v. v.items) w.found-is)
            (spread_on c.args.forward c.args.types.now c.args.barred.now links c.args.node l.at c.link_before-at.result x c.args.marks.now l.marks _ c.args.found.now.items l.found.items _ w.end_of.result
            some read c.link_before-at.ensures l.invariant.finds (c.leads_from.ensures.0 w.if-leads_from.true) w.end_of.ensures w.in_ok-add.ensures)
        | else-leads_from w ↦
            finds_is (LeadsBehind c.args.forward c.args.types.now c.args.barred.now links c.args.node c.link_before-at.result) c.args.marks.now _ _ c.args.found.now.items _ _
            w.marks-is (ap (λ v. v.items) w.found-is)
            (spread_past c.args.forward c.args.types.now c.args.barred.now links c.args.node l.at c.link_before-at.result x c.args.marks.now l.marks c.args.found.now.items l.found.items
            some read c.link_before-at.ensures l.invariant.finds (iff_false c.leads_from.ensures w.if-leads_from.false))
      ];
    }

pub returns : goal.returns
returns c =
    let l = c.loop-at in
    let links = c.args.graph.now.links in
    finds_as (LeadsBehind c.args.forward c.args.types.now c.args.barred.now links c.args.node l.at) (OpenSteps c.args.forward c.args.types.now c.args.barred.now links c.args.node)
    c.args.marks.now l.marks c.args.found.now.items l.found.items l.invariant.finds
    (λ m h. steps_behind c.args.forward c.args.types.now c.args.barred.now links c.args.node l.at m (omega (arith, c.loop-at-test.false)) h)
    (λ m h. behind_steps c.args.forward c.args.types.now c.args.barred.now links c.args.node l.at m h)
