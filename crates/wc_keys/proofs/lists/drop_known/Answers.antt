use Rattle.std.proofs.Common.{◌∙◌, sym, ap, arith}
use Rattle.std.specs.Prelude.{not}
use Rattle.std.proofs.lemmas.List.Filters.{FiltersInPlace-more_no, FiltersInPlace-more_set}
use Rattle.wc_keys.proofs.lists.drop_known.Goals as goal
use Rattle.wc_keys.proofs.lists.drop_known.Goals.{then-not-known, else-not-known}

pub loop-at-preserved : goal.loop-at-preserved
loop-at-preserved c =
    let i = c.loop-at.invariant in
    let x = c.index.result.now in
    elim c.if-not-known.branch [
      | then-not-known w ↦
          rw (w.short-is, w.kept-is)
          (record {
            filters = FiltersInPlace-more_set i.filters (omega (arith, c.loop-at-test.true)) (ap not (sym c.find_from-known.ensures ∙ w.if-not-known.true)) c.index.ensures;
            capacity = i.capacity;
          })
      | else-not-known w ↦
          rw (w.short-is, w.kept-is)
          (record {
            filters = FiltersInPlace-more_no i.filters (omega (arith, c.loop-at-test.true)) (ap not (sym c.find_from-known.ensures ∙ w.if-not-known.false)) c.index.ensures;
            capacity = i.capacity;
          })
    ]
