use Rattle.std.proofs.Common.{◌≡◌, ℕ, ◌∙◌, ◌++◌, List, map, ap, subst}
use Rattle.std.specs.List.Sorted.{IsNonDecreasing, IsPermutation}
use Rattle.wc_state.specs.declared.record.ProcessRecord.{ProcessRecord}
use Rattle.wc_records.specs.Readiness.{ready_at}
use Rattle.wc_records.specs.Ready.{due_by}
use Rattle.wc_records.proofs.Joined.{joined_is, ok_both}
use Rattle.wc_records.proofs.records.Records.ready.Goals as goal

pub returns : goal.returns
returns c =
    let rs = c.self.inside.items.items in
    let now = c.args.now in
    let at_once = c.as_slice-2.ensures ∙ c.self.invariant.1.at_once in
    let due = c.due_by-due.ensures ∙ ap (due_by now) c.as_slice.ensures in
    let both : c.as_slice-2.result.now ++ map (λ (d : ℕ × ℕ). d.1) c.due_by-due.result.now ≡ ready_at rs 0 ++ map (λ (d : ℕ × ℕ). d.1) (due_by now c.self.inside.index.later.items)
    = λ i. at_once i ++ map (λ (d : ℕ × ℕ). d.1) (due i) in
    ok_both (λ ids. IsPermutation (c.as_slice-2.result.now ++ map (λ (d : ℕ × ℕ). d.1) c.due_by-due.result.now) ids.items) (λ ids. IsNonDecreasing ids.items)
    (λ ids. ids.items ≡ ready_at c.args.self.now.0 now) c.joined.result
    (λ ids moved rises.
    joined_is rs c.self.inside.index.later.items c.self.invariant.0 c.self.invariant.1.later now ids.items (subst (λ (ns : List ℕ). IsPermutation ns ids.items) both moved) rises
    ∙ ap (λ (p : List ProcessRecord × ℕ). ready_at p.0 now) c.self.view_is) c.joined.ensures.entries c.joined.ensures.order
