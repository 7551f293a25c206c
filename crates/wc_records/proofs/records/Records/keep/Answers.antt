use Rattle.std.proofs.Common.{◌≡◌, ℕ, ◌+◌, ◌<◌, ◌≤◌, ◌∙◌, true, false, length, vec_capacity, List, ap, refl, sym, subst}
use Rattle.std.specs.Prelude.{slice_get}
use Rattle.std.proofs.lemmas.List.{length-set}
use Rattle.wc_state.specs.declared.record.ProcessRecord.{ProcessRecord}
use Rattle.wc_records.specs.Changes.{keep}
use Rattle.wc_records.specs.Ascending.{AreAscending, IsCut, is_numbered}
use Rattle.wc_records.specs.Index.{IsIndexOf, HasPlaces}
use Rattle.wc_records.proofs.Halving.{changed_there, changed_nowhere, ascending_at}
use Rattle.wc_records.proofs.Keeping.{index_kept}
use Rattle.wc_records.proofs.records.Records.keep.Goals as goal

pub invariant_of-self : goal.invariant_of-self
invariant_of-self c =
    let rs = c.self.inside.items.items in
    let s = c.args.change in
    let at = c.place_of-at.result in
    let is : is_numbered s.pid (slice_get rs at) ≡ true
    = ap (λ (qs : List ProcessRecord). is_numbered s.pid (slice_get qs at)) (sym c.as_slice-2.ensures.value) ∙ sym c.is_numbered.ensures.value ∙ c.if-is_numbered.true in
    let lt : at < length rs = subst (λ (qs : List ProcessRecord). at < length qs) c.as_slice-2.ensures.value (c.is_numbered.ensures.within c.if-is_numbered.true) in
    let x = c.self.inside.index in
    let item = c.keep.new.item in
    let e = changed_there s.pid (keep s) rs at c.index_mut.result.now item c.self.invariant.0 is lt c.index_mut.ensures.value c.keep.ensures in (
      subst (λ (qs : List ProcessRecord). AreAscending 0 qs) (sym e) (ascending_at s.pid 0 (keep s) rs (λ r. refl) c.self.invariant.0),
      subst (λ (qs : List ProcessRecord). IsIndexOf qs x) (sym e) (index_kept s rs x c.self.invariant.1),
      subst (λ (n : ℕ). n + c.self.inside.room ≤ vec_capacity c.self.inside.items) (sym (length-set rs at item)) c.self.invariant.2,
      subst (λ (n : ℕ). HasPlaces (n + c.self.inside.room) x) (sym (length-set rs at item)) c.self.invariant.3,
    )

pub returns-then-is_numbered : goal.returns-then-is_numbered
returns-then-is_numbered c =
    let rs = c.self.inside.items.items in
    let s = c.args.change in
    let at = c.place_of-at.result in
    let is : is_numbered s.pid (slice_get rs at) ≡ true
    = ap (λ (qs : List ProcessRecord). is_numbered s.pid (slice_get qs at)) (sym c.as_slice-2.ensures.value) ∙ sym c.is_numbered.ensures.value ∙ c.if-is_numbered.true in
    let lt : at < length rs = subst (λ (qs : List ProcessRecord). at < length qs) c.as_slice-2.ensures.value (c.is_numbered.ensures.within c.if-is_numbered.true) in
    let e = changed_there s.pid (keep s) rs at c.index_mut.result.now c.keep.new.item c.self.invariant.0 is lt c.index_mut.ensures.value c.keep.ensures in
    rw (← c.self.view_is) (λ i. (e i, c.self.inside.room))

pub returns-else-is_numbered : goal.returns-else-is_numbered
returns-else-is_numbered c =
    let rs = c.self.inside.items.items in
    let s = c.args.change in
    let at = c.place_of-at.result in
    let isnt : is_numbered s.pid (slice_get rs at) ≡ false
    = ap (λ (qs : List ProcessRecord). is_numbered s.pid (slice_get qs at)) (sym c.as_slice-2.ensures.value) ∙ sym c.is_numbered.ensures.value ∙ c.if-is_numbered.false in
    let cut = subst (λ (qs : List ProcessRecord). IsCut s.pid qs at) c.as_slice.ensures.value c.place_of-at.ensures in
    let e = changed_nowhere s.pid (keep s) rs at c.self.invariant.0 cut isnt in
    rw (← c.self.view_is) (λ i. (e i, c.self.inside.room))
