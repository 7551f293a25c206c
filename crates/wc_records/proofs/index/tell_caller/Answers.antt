use Rattle.std.proofs.Common.{◌≡◌, ◌∙◌, get_or, set, sym, arith}
use Rattle.std.specs.Prelude.{nat_lt, ◌||◌, ◌==◌}
use Rattle.wc_records.specs.Marked.{marked}
use Rattle.wc_records.specs.Readiness.{is_ready}
use Rattle.wc_records.specs.Index.{passed_by, AreCounted, is_other}
use Rattle.wc_records.proofs.Halving.{number_read}
use Rattle.wc_records.proofs.Counted.{counted_more, counted_room, counted_sorted, all_passed, all_chosen, everyone, others_alone, nobody_called, has_nobody}
use Rattle.wc_records.proofs.index.tell_caller.Goals as goal

pub recount-requires-clause-order : goal.recount-requires-clause-order
recount-requires-clause-order c = counted_sorted (is_other c.args.caller) c.args.records.now c.args.passed.now.items c.args.at_once.now.items c.requires.ascending c.requires.counted

pub recount-requires-clause-room : goal.recount-requires-clause-room
recount-requires-clause-room c =
    let rs = c.args.records.now in
    let lt = c.is_numbered.ensures.within c.if-is_numbered.true in
    let short = counted_room (is_other c.args.caller) rs c.args.passed.now.items c.args.at_once.now.items c.place_of-at.result c.index-records-at.result c.requires.ascending c.requires.counted
    lt c.index-records-at.is in
    omega (arith, short, c.requires.room)

abbrev Recounted : goal.After-recount → Type 0
Recounted c = AreCounted (λ n. is_other c.args.caller n || (n == c.index-records-at.result.node)) c.args.records.now
    (set c.args.passed.now.items c.place_of-at.result (passed_by c.args.records.now c.index-records-at.result))
    (marked nat_lt c.index-records-at.result.node (is_ready c.args.records.now 0 c.index-records-at.result) c.args.at_once.now.items)

recounted : (c : goal.After-recount) → Recounted c
recounted c =
    counted_more (is_other c.args.caller) c.args.records.now c.args.passed.now.items c.args.at_once.now.items c.place_of-at.result c.index-records-at.result
    c.requires.ascending c.requires.counted (c.is_numbered.ensures.within c.if-is_numbered.true) c.index-records-at.is

numbered : (c : goal.After-recount) → c.index-records-at.result.node ≡ c.in-Some.pid
numbered c =
    number_read c.in-Some.pid c.args.records.now c.place_of-at.result c.index-records-at.result (c.is_numbered.ensures.within c.if-is_numbered.true) c.index-records-at.is
    (sym c.is_numbered.ensures.value ∙ c.if-is_numbered.true)

pub returns-then-is_numbered-clause-passed : goal.returns-then-is_numbered-clause-passed
returns-then-is_numbered-clause-passed c =
    c.recount.ensures.passed
    ∙ all_passed (λ n. is_other c.args.caller n || (n == c.index-records-at.result.node)) c.args.records.now _ _
    (λ k d lt. everyone c.args.caller c.in-Some.pid c.index-records-at.result.node _ c.in-Some.is (numbered c)) (recounted c)

pub returns-then-is_numbered-clause-at_once : goal.returns-then-is_numbered-clause-at_once
returns-then-is_numbered-clause-at_once c =
    c.recount.ensures.at_once
    ∙ all_chosen (λ n. is_other c.args.caller n || (n == c.index-records-at.result.node)) c.args.records.now _ _
    (λ k d lt. everyone c.args.caller c.in-Some.pid c.index-records-at.result.node _ c.in-Some.is (numbered c)) (recounted c)

pub returns-else-is_numbered-clause-passed : goal.returns-else-is_numbered-clause-passed
returns-else-is_numbered-clause-passed c =
    let rs = c.args.records.now in
    let pid = c.in-Some.pid in
    all_passed (is_other c.args.caller) rs c.args.passed.now.items c.args.at_once.now.items
    (λ k d lt. others_alone c.args.caller pid _ c.in-Some.is
    (has_nobody pid rs c.place_of-at.result c.requires.ascending c.place_of-at.ensures (sym c.is_numbered.ensures.value ∙ c.if-is_numbered.false) k d lt)) c.requires.counted

pub returns-else-is_numbered-clause-at_once : goal.returns-else-is_numbered-clause-at_once
returns-else-is_numbered-clause-at_once c =
    let rs = c.args.records.now in
    let pid = c.in-Some.pid in
    all_chosen (is_other c.args.caller) rs c.args.passed.now.items c.args.at_once.now.items
    (λ k d lt. others_alone c.args.caller pid _ c.in-Some.is
    (has_nobody pid rs c.place_of-at.result c.requires.ascending c.place_of-at.ensures (sym c.is_numbered.ensures.value ∙ c.if-is_numbered.false) k d lt)) c.requires.counted

pub returns-in-None-clause-passed : goal.returns-in-None-clause-passed
returns-in-None-clause-passed c =
    all_passed (is_other c.args.caller) c.args.records.now c.args.passed.now.items c.args.at_once.now.items (λ k d lt. nobody_called c.args.caller (get_or c.args.records.now k d).node c.in-None.is) c.requires.counted

pub returns-in-None-clause-at_once : goal.returns-in-None-clause-at_once
returns-in-None-clause-at_once c =
    all_chosen (is_other c.args.caller) c.args.records.now c.args.passed.now.items c.args.at_once.now.items (λ k d lt. nobody_called c.args.caller (get_or c.args.records.now k d).node c.in-None.is) c.requires.counted
