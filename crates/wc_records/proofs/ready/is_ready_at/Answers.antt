use Rattle.std.proofs.Common.{◌≡◌, ℕ, ◌∙◌, List, get_or, ap, sym}
use Rattle.std.proofs.lemmas.List.{get_or-map}
use Rattle.wc_state.specs.declared.record.ProcessRecord.{ProcessRecord}
use Rattle.wc_records.specs.Readiness.{is_ready_past}
use Rattle.wc_records.specs.Index.{passed_by}
use Rattle.wc_records.specs.Ready.{is_ready_by}
use Rattle.wc_records.proofs.Halving.{found_there, found_nowhere}
use Rattle.wc_records.proofs.Passed.{past_is_ready}
use Rattle.wc_records.proofs.ready.is_ready_at.Goals as goal

pub returns-then-is_numbered : goal.returns-then-is_numbered
returns-then-is_numbered c =
    let rs = c.args.records.now in
    let at = c.place_of-at.result in
    let r : ProcessRecord = c.index-records-at.result in
    let is = sym c.is_numbered.ensures.value ∙ c.if-is_numbered.true in
    let lt = c.is_numbered.ensures.within c.if-is_numbered.true in
    let count : get_or c.args.passed.now at 0 ≡ passed_by rs r
    = ap (λ (ns : List ℕ). get_or ns at 0) c.requires.passed ∙ get_or-map (passed_by rs) rs at r 0 lt ∙ ap (passed_by rs) (sym c.index-records-at.is) in
    c.is_ready_past.ensures ∙ ap (λ (n : ℕ). is_ready_past n c.args.now r) count ∙ past_is_ready rs c.args.now r
    ∙ ap (is_ready_by rs c.args.now) (found_there c.args.pid rs at r c.requires.ascending c.place_of-at.ensures is lt c.index-records-at.is)

pub returns-else-is_numbered : goal.returns-else-is_numbered
returns-else-is_numbered c =
    let is = sym c.is_numbered.ensures.value ∙ c.if-is_numbered.false in
    ap (is_ready_by c.args.records.now c.args.now) (found_nowhere c.args.pid c.args.records.now c.place_of-at.result c.requires.ascending c.place_of-at.ensures is)
