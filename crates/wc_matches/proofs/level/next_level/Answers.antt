use Rattle.std.proofs.Common.{◌<◌, ◌++◌, ℕ, List, length, take, ap, ◌∙◌, arith}
use Rattle.wc_matches.specs.Numbers.{with_each}
use Rattle.wc_matches.specs.Sets.{LeadsInto}
use Rattle.wc_matches.proofs.Growing.{on_full, on_next}
use Rattle.wc_matches.proofs.level.next_level.Goals as goal

pub loop-at-preserved : goal.loop-at-preserved
loop-at-preserved c =
    let l = c.loop-at in
    let rows = c.args.rows.now in
    let row = c.row-row.result.now in
    let lt : l.at < length rows = omega (arith, c.loop-at-test.true, c.len-at-end.ensures) in
    record {
      size = c.behind.auto.marks ∙ l.invariant.size;
      blank = c.in_ok-numbers.ensures.blank;
      way = l.invariant.way;
      on = on_next (LeadsInto c.args.graph.now.links c.args.join.now c.args.set.now) c.args.most rows l.out c.put_rows.new.out l.at row c.in_ok-numbers.numbers.items
          lt c.row-row.ensures l.invariant.on c.in_ok-numbers.ensures.nexts
          (c.in_ok-put_rows.ensures ∙ ap (λ (ns : List ℕ). take c.args.most (l.out ++ with_each row ns)) c.deref.ensures.value);
    }

pub returns-then-len-most-clause-rows : goal.returns-then-len-most-clause-rows
returns-then-len-most-clause-rows c =
    on_full (LeadsInto c.args.graph.now.links c.args.join.now c.args.set.now) c.args.most c.args.rows.now c.loop-at.out c.loop-at.at
    (omega (arith, c.if-len-most.true, c.len-in-loop-at.ensures)) c.loop-at.invariant.on
