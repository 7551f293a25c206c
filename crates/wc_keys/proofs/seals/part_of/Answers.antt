use Rattle.std.proofs.Common.{List, sym, subst}
use Rattle.std.proofs.lemmas.List.{take_rest}
use Rattle.wc_records.specs.Marked.{IsSorted}
use Rattle.wc_keys.specs.declared.entries.Sealed.{Sealed}
use Rattle.wc_keys.specs.Order.{earlier, IsDigestPlace}
use Rattle.wc_keys.proofs.Parts.{place_dropped, part_is_filter}
use Rattle.wc_keys.proofs.Sorting.{sorted_drop}
use Rattle.wc_keys.proofs.seals.part_of.Goals as goal

pub run_of-requires-clause-order : goal.run_of-requires-clause-order
run_of-requires-clause-order c =
    let seals = c.args.seals.now in
    subst (IsSorted earlier) (sym (take_rest seals c.place_of.result)) (sorted_drop earlier c.place_of.result seals c.requires)

pub run_of-requires-clause-first : goal.run_of-requires-clause-first
run_of-requires-clause-first c =
    let seals = c.args.seals.now in
    subst (λ (xs : List Sealed). IsDigestPlace c.args.digest.now xs 0) (sym (take_rest seals c.place_of.result)) (place_dropped c.args.digest.now seals c.place_of.result c.place_of.ensures)

pub returns : goal.returns
returns c =
    part_is_filter c.args.digest.now c.args.seals.now c.place_of.result c.run_of.result _ (take_rest c.args.seals.now c.place_of.result) c.place_of.ensures c.run_of.ensures
