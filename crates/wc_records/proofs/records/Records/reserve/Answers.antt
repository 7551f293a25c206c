use Rattle.std.proofs.Common.{◌+◌, length, List, ap, sym, subst, arith}
use Rattle.wc_state.specs.declared.record.ProcessRecord.{ProcessRecord}
use Rattle.wc_records.specs.Ascending.{AreAscending}
use Rattle.wc_records.specs.Readiness.{is_ready}
use Rattle.wc_records.specs.Index.{IsIndexOf, HasPlaces}
use Rattle.wc_records.proofs.Chosen.{chosen_short}
use Rattle.wc_records.proofs.Growing.{index_equal}
use Rattle.wc_records.proofs.records.Records.reserve.Goals as goal

pub reserve-requires-2-clause-at_once : goal.reserve-requires-2-clause-at_once
reserve-requires-2-clause-at_once c =
    let rs = c.self.inside.items.items in
    omega (arith, ap length c.self.invariant.1.at_once, chosen_short (is_ready rs 0) rs, ap length c.reserve.ensures.items, c.len.ensures)

pub invariant_of-self-in_err-reserve-2 : goal.invariant_of-self-in_err-reserve-2
invariant_of-self-in_err-reserve-2 c =
    let rs = c.self.inside.items.items in
    let x = c.self.inside.index in
    let room = c.self.inside.room in
    let e = c.reserve.ensures.items in (
      subst (λ (qs : List ProcessRecord). AreAscending 0 qs) (sym e) c.self.invariant.0,
      subst (λ (qs : List ProcessRecord). IsIndexOf qs c.reserve-2.new.self) (sym e)
          (index_equal rs x c.reserve-2.new.self c.self.invariant.1 c.reserve-2.ensures.passed c.reserve-2.ensures.at_once c.reserve-2.ensures.later c.reserve-2.ensures.live),
      omega (arith, ap length e, c.self.invariant.2, c.reserve.ensures.capacity),
      subst (λ (qs : List ProcessRecord). HasPlaces (length qs + room) c.reserve-2.new.self) (sym e) (c.reserve-2.ensures.kept (length rs + room) c.self.invariant.3),
    )

pub invariant_of-self-else-self-more : goal.invariant_of-self-else-self-more
invariant_of-self-else-self-more c =
    let rs = c.self.inside.items.items in
    let x = c.self.inside.index in
    let room = c.self.inside.room in
    let e = c.reserve.ensures.items in (
      subst (λ (qs : List ProcessRecord). AreAscending 0 qs) (sym e) c.self.invariant.0,
      subst (λ (qs : List ProcessRecord). IsIndexOf qs c.reserve-2.new.self) (sym e)
          (index_equal rs x c.reserve-2.new.self c.self.invariant.1 c.reserve-2.ensures.passed c.reserve-2.ensures.at_once c.reserve-2.ensures.later c.reserve-2.ensures.live),
      omega (arith, ap length e, c.self.invariant.2, c.reserve.ensures.capacity),
      subst (λ (qs : List ProcessRecord). HasPlaces (length qs + room) c.reserve-2.new.self) (sym e) (c.reserve-2.ensures.kept (length rs + room) c.self.invariant.3),
    )
