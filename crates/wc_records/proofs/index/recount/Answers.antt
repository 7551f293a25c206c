use Rattle.std.proofs.Common.{◌≡◌, ◌≤◌, ◌∙◌, ℕ, Bool, length, ap, sym, subst}
use Rattle.std.specs.Prelude.{nat_lt}
use Rattle.wc_records.specs.Marked.{marked}
use Rattle.wc_records.specs.Readiness.{is_ready, is_ready_past}
use Rattle.wc_records.proofs.Passed.{past_is_ready}
use Rattle.wc_records.proofs.index.recount.Goals as goal

pub mark-requires-clause-room : goal.mark-requires-clause-room
mark-requires-clause-room c =
    let r = c.args.process.now in
    let rs = c.args.records.now in
    let e : c.is_ready_past.result ≡ is_ready rs 0 r = c.is_ready_past.ensures ∙ ap (λ (n : ℕ). is_ready_past n 0 r) c.passed_by-count.ensures ∙ past_is_ready rs 0 r in
    subst (λ (b : Bool). length (marked nat_lt r.node b c.args.at_once.now.items) ≤ c.args.at_once.now.room) (sym e) c.requires.room

pub returns-clause-at_once : goal.returns-clause-at_once
returns-clause-at_once c =
    let r = c.args.process.now in
    let rs = c.args.records.now in
    let e : c.is_ready_past.result ≡ is_ready rs 0 r = c.is_ready_past.ensures ∙ ap (λ (n : ℕ). is_ready_past n 0 r) c.passed_by-count.ensures ∙ past_is_ready rs 0 r in
    c.mark.ensures.items ∙ ap (λ (b : Bool). marked nat_lt r.node b c.args.at_once.now.items) e
