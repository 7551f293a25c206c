use Rattle.std.proofs.Common.{◌≡◌, ℕ, ◌+◌, ◌∙◌, true, false, length, List, ap, refl, sym, subst, arith}
use Rattle.std.specs.Prelude.{slice_get, if◌then◌else◌, ◌==◌}
use Rattle.std.proofs.lemmas.List.{length-map}
use Rattle.wc_state.specs.declared.record.ProcessRecord.{ProcessRecord}
use Rattle.wc_records.specs.Changes.{set}
use Rattle.wc_records.specs.Ascending.{AreAscending, IsCut, is_numbered}
use Rattle.wc_records.specs.Readiness.{is_over, ended_at}
use Rattle.wc_records.specs.Index.{HasPlaces}
use Rattle.wc_records.proofs.Halving.{found_here, changed_nowhere, ascending_at}
use Rattle.wc_records.proofs.records.Records.set.Goals as goal

pub set_at-requires-clause-live : goal.set_at-requires-clause-live
set_at-requires-clause-live c =
    let rs = c.self.inside.items.items in
    let s = c.args.change in
    let at = c.place_of-at.result in
    let is : is_numbered s.pid (slice_get rs at) ≡ true
    = ap (λ (qs : List ProcessRecord). is_numbered s.pid (slice_get qs at)) (sym c.as_slice-2.ensures.value) ∙ sym c.is_numbered.ensures.value ∙ c.if-is_numbered.true in
    let cut = subst (λ (qs : List ProcessRecord). IsCut s.pid qs at) c.as_slice.ensures.value c.place_of-at.ensures in
    ap is_over (found_here s.pid rs at c.self.invariant.0 cut is) ∙ ap (λ (p : List ProcessRecord × ℕ). ended_at p.0 s.pid) c.self.view_is ∙ c.requires.live

pub invariant_of-self : goal.invariant_of-self
invariant_of-self c =
    let rs = c.self.inside.items.items in
    let s = c.args.change in
    let room = c.self.inside.room in
    let e = c.set_at.ensures.items in
    let n : length c.set_at.new.items.items ≡ length rs = ap length e ∙ length-map rs (λ (r : ProcessRecord). if r.node == s.pid then set c.args.batch s r else r) in (
      subst (λ (qs : List ProcessRecord). AreAscending 0 qs) (sym e) (ascending_at s.pid 0 (set c.args.batch s) rs (λ r. refl) c.self.invariant.0),
      c.set_at.ensures.index,
      omega (arith, n, c.self.invariant.2, c.set_at.ensures.capacity),
      subst (λ (k : ℕ). HasPlaces (k + room) c.set_at.new.index) (sym n) (c.set_at.ensures.room (length rs + room) c.self.invariant.3),
    )

pub returns-else-is_numbered : goal.returns-else-is_numbered
returns-else-is_numbered c =
    let rs = c.self.inside.items.items in
    let s = c.args.change in
    let at = c.place_of-at.result in
    let isnt : is_numbered s.pid (slice_get rs at) ≡ false
    = ap (λ (qs : List ProcessRecord). is_numbered s.pid (slice_get qs at)) (sym c.as_slice-2.ensures.value) ∙ sym c.is_numbered.ensures.value ∙ c.if-is_numbered.false in
    let cut = subst (λ (qs : List ProcessRecord). IsCut s.pid qs at) c.as_slice.ensures.value c.place_of-at.ensures in
    let e = changed_nowhere s.pid (set c.args.batch s) rs at c.self.invariant.0 cut isnt in
    rw (← c.self.view_is) (λ i. (e i, c.self.inside.room))
