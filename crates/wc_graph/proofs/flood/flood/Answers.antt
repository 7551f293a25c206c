use Rattle.std.proofs.Common.{◌≡◌, ℕ, ◌+◌, ◌-◌, ◌<◌, ◌≤◌, List, [], length, get_or, All, ap, ◌∙◌, sym, subst, refl, arith}
use Rattle.wc_graph.specs.declared.flood.Found.{Found}
use Rattle.wc_graph.specs.Flood.{node_at, IsEither}
use Rattle.wc_graph.proofs.Flooding.{floods_upto}
use Rattle.wc_graph.proofs.Restoring.{read_entry, read_list, entry_inside, entries_inside, entries_old, either, neighbours_inside}
use Rattle.wc_graph.proofs.flood.flood.Goals as goal
use Rattle.wc_graph.proofs.flood.flood.Goals.{in-Some+in-Some-checked_sub, in_default}

pub bounds-table-index : goal.bounds-table-index
bounds-table-index c =
    let l = c.loop-at in
    let e = read_entry l.trail.items l.at c.len.result c.index.result.now c.loop-at-test.true (c.len.ensures ∙ l.trail.ok.0) c.index.ensures in
    let inside : node_at l.trail.items l.at < length c.args.colours.now = entry_inside c.args.table.now c.args.start c.args.fresh c.args.colours.now l.colours l.trail.items l.at c.requires l.invariant.floods l.at e.0 in
    let sizes : length c.args.table.now ≡ length c.args.colours.now = c.requires.sizes in
    let is : c.index.result.now.node ≡ node_at l.trail.items l.at = e.1 in
    omega arith

pub restore-requires : goal.restore-requires
restore-requires c =
    let l = c.loop-at in
    subst (All (λ (f : Found). f.node < length l.colours)) (sym c.deref.ensures.value)
    (entries_inside c.args.table.now c.args.start c.args.fresh c.args.colours.now l.colours l.trail.items l.at c.requires l.invariant.floods (length l.colours) l.invariant.size)

pub returns-in_default-checked_sub-clause-given_up :
    goal.returns-in_default-checked_sub-clause-given_up
returns-in_default-checked_sub-clause-given_up c =
    let l = c.loop-at in
    let is = sym c.deref.ensures.value in
    let before = c.args.colours.now in
    c.restore.ensures before (sym l.invariant.size)
    (subst (All (λ (f : Found). get_or before f.node 0 ≡ get_or before c.args.start 0)) is
    (entries_old c.args.table.now c.args.start c.args.fresh before l.colours l.trail.items l.at c.requires l.invariant.floods _ refl))
    (λ node. subst (λ (ts : List Found). IsEither l.colours before ts 0 node) is
    (either c.args.table.now c.args.start c.args.fresh before l.colours l.trail.items l.at c.requires l.invariant.floods node))

pub spread-requires-clause-inside : goal.spread-requires-clause-inside
spread-requires-clause-inside c =
    let l = c.loop-at in
    let e = read_entry l.trail.items l.at c.len.result c.index.result.now c.loop-at-test.true (c.len.ensures ∙ l.trail.ok.0) c.index.ensures in
    let inside : node_at l.trail.items l.at < length c.args.colours.now = entry_inside c.args.table.now c.args.start c.args.fresh c.args.colours.now l.colours l.trail.items l.at c.requires l.invariant.floods l.at e.0 in
    let sizes : length c.args.table.now ≡ length c.args.colours.now = c.requires.sizes in
    let is : c.index.result.now.node ≡ node_at l.trail.items l.at = e.1 in
    let node_in : c.index.result.now.node < length c.args.table.now = omega arith in
    neighbours_inside c.args.table.now c.args.start c.args.fresh c.args.colours.now l.colours l.trail.items l.at c.requires l.invariant.floods (length l.colours) c.as_slice-next.result.now c.index.result.now.node l.invariant.size
    (read_list c.args.table.now c.index.result.now.node c.as_slice-next.result.now c.index-table-index.result c.as_slice-next.ensures c.index-table-index.is node_in)

-- the measure falls by one in each turn
falls : (count count' len len' at : ℕ) → count' + len' ≡ count + len → at < len → len ≤ len' → count' + (len' - (at + 1)) < count + (len - at)
falls count count' len len' at p q r = omega arith

pub loop-at-smaller : goal.loop-at-smaller
loop-at-smaller c =
    let l = c.loop-at in
    let e = read_entry l.trail.items l.at c.len.result c.index.result.now c.loop-at-test.true (c.len.ensures ∙ l.trail.ok.0) c.index.ensures in
    falls _ _ _ _ l.at c.in_ok-spread.ensures.count e.0 c.in_ok-spread.ensures.grows

pub loop-at-preserved : goal.loop-at-preserved
loop-at-preserved c =
    let l = c.loop-at in
    let e = read_entry l.trail.items l.at c.len.result c.index.result.now c.loop-at-test.true (c.len.ensures ∙ l.trail.ok.0) c.index.ensures in
    let inside : node_at l.trail.items l.at < length c.args.colours.now = entry_inside c.args.table.now c.args.start c.args.fresh c.args.colours.now l.colours l.trail.items l.at c.requires l.invariant.floods l.at e.0 in
    let sizes : length c.args.table.now ≡ length c.args.colours.now = c.requires.sizes in
    let is : c.index.result.now.node ≡ node_at l.trail.items l.at = e.1 in
    let node_in : c.index.result.now.node < length c.args.table.now = omega arith in
    let next_is = read_list c.args.table.now c.index.result.now.node c.as_slice-next.result.now c.index-table-index.result c.as_slice-next.ensures c.index-table-index.is node_in in
    record {
      size = c.in_ok-spread.ensures.size ∙ l.invariant.size;
      floods = c.in_ok-spread.ensures.floods c.args.table.now c.args.start c.args.colours.now (record {
        can = c.requires;
        floods = l.invariant.floods;
        within = e.0;
        next_is = next_is ∙ ap (λ n. get_or c.args.table.now n []) is;
        old_is = refl;
      });
      limit = λ no.
          elim c.match-left.branch [
            | in-Some+in-Some-checked_sub w ↦ absurd (let p = l.invariant.limit no in let q = w.in-Some.is in cc)
            | in_default w ↦ w.left-is ∙ l.invariant.limit no
          ];
    }

pub returns-clause-found : goal.returns-clause-found
returns-clause-found c =
    let l = c.loop-at in
    let all : length l.trail.items ≤ l.at = omega (arith, l.trail.ok.0, c.len.ensures, c.loop-at-test.false) in
    floods_upto c.args.table.now c.args.start c.args.fresh c.args.colours.now l.colours l.trail.items l.at (length l.trail.items) l.invariant.floods all
