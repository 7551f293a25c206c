use Rattle.std.proofs.Common.{ℕ, ◌∙◌, List, ap, sym, subst}
use Rattle.std.specs.Prelude.{nat_lt}
use Rattle.wc_state.specs.declared.record.ProcessRecord.{ProcessRecord}
use Rattle.wc_records.specs.Marked.{IsSorted}
use Rattle.wc_records.specs.Readiness.{is_ready, ready_at}
use Rattle.wc_records.specs.Ready.{first_above, due_by}
use Rattle.wc_records.specs.Rounds.{first_with}
use Rattle.wc_records.proofs.Chosen.{chosen_sorted}
use Rattle.wc_records.proofs.Moments.{next_is}
use Rattle.wc_records.proofs.records.Records.next_ready.Goals as goal

pub first_above-requires : goal.first_above-requires
first_above-requires c =
    let rs = c.self.inside.items.items in
    subst (IsSorted nat_lt) (sym (c.as_slice-2.ensures ∙ c.self.invariant.1.at_once)) (chosen_sorted (is_ready rs 0) 0 rs c.self.invariant.0)

pub returns : goal.returns
returns c =
    let rs = c.self.inside.items.items in
    let last = c.args.last in
    let now = c.args.now in
    let at_once = c.as_slice-2.ensures ∙ c.self.invariant.1.at_once in
    let due = c.due_by-due.ensures ∙ ap (due_by now) c.as_slice.ensures in
    c.first_with.ensures
    ∙ (λ i. first_with last ((c.first_above.ensures ∙ ap (first_above last) at_once) i) (due i))
    ∙ next_is rs c.self.inside.index.later.items c.self.invariant.0 c.self.invariant.1.later last now
    ∙ ap (λ (p : List ProcessRecord × ℕ). first_above last (ready_at p.0 now)) c.self.view_is
