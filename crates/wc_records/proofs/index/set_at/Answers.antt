use Rattle.std.proofs.Common.{◌≡◌, ℕ, ◌∙◌, true, false, List, length, set, map, ap, sym, subst, arith}
use Rattle.std.specs.Prelude.{nat_lt}
use Rattle.wc_state.specs.declared.record.ProcessRecord.{ProcessRecord}
use Rattle.wc_records.specs.Records.{has_ended}
use Rattle.wc_records.specs.Changes as changes
use Rattle.wc_records.specs.Ascending.{AreAscending}
use Rattle.wc_records.specs.Marked.{IsSorted, marked}
use Rattle.wc_records.specs.Readiness.{is_ready, ready_at, sooner, IsAwaitedBy, AreDues}
use Rattle.wc_records.specs.Index.{passed_by, AreCounted, AreNotAbove, is_other, without_due, with_due}
use Rattle.wc_records.proofs.Halving.{changed_there}
use Rattle.wc_records.proofs.DueMoments.{without_short, without_sorted}
use Rattle.wc_records.proofs.Setting.{sets_so, numbered_within, named, same_read, reads, still_ascending, dues_kept, dues_short, passed_length, marks_sorted, marks_short, counts_then, marks_then, live_passed, live_chosen, ended_counted, ended_not_above, as_many, one_less}
use Rattle.wc_records.proofs.index.set_at.Goals as goal

pub take_due-requires-clause-room : goal.take_due-requires-clause-room
take_due-requires-clause-room c =
    let rs = c.args.items.now.items in
    let r = c.index.result.now in
    let lt = numbered_within c.args.change.pid rs c.args.at c.requires.number in
    omega (arith, without_short rs c.args.index.now.later.items c.args.at r c.requires.ascending c.requires.index.later lt c.index.ensures, c.requires.room.later)

pub index_mut-requires : goal.index_mut-requires
index_mut-requires c =
    omega (arith, numbered_within c.args.change.pid c.args.items.now.items c.args.at c.requires.number, c.args.items.now.ok.0)

pub index-requires-2 : goal.index-requires-2
index-requires-2 c =
    omega (arith, numbered_within c.args.change.pid c.args.items.now.items c.args.at c.requires.number, c.args.items.now.ok.0)

pub index-requires-3 : goal.index-requires-3
index-requires-3 c =
    omega (arith, numbered_within c.args.change.pid c.args.items.now.items c.args.at c.requires.number, c.args.items.now.ok.0)

pub put_due-requires-clause-order : goal.put_due-requires-clause-order
put_due-requires-clause-order c =
    subst (λ (dues : List (ℕ × ℕ)). IsSorted sooner dues) (sym c.take_due.ensures.items)
    (without_sorted c.index.result.now c.args.index.now.later.items c.requires.index.later.order)

pub put_due-requires-clause-room : goal.put_due-requires-clause-room
put_due-requires-clause-room c =
    let rs = c.args.items.now.items in
    let i = c.args.at in
    let r = c.index_mut.result.now in
    let s = c.set.new.item in
    let x = c.args.index.now in
    let h = sets_so c.args.batch c.args.change rs i r s x c.requires.ascending c.requires.number c.requires.live c.requires.index c.index_mut.ensures.value c.set.ensures in
    let taken : c.take_due.new.later.items ≡ without_due r x.later.items
    = c.take_due.ensures.items ∙ ap (λ (q : ProcessRecord). without_due q x.later.items) (same_read rs i c.index.result.now r h.within c.index.ensures c.index_mut.ensures.value) in
    let second : c.index-2.result.now ≡ s = reads rs i r s c.index-2.result.now x h c.index-2.ensures in
    let with : with_due c.index-2.result.now c.take_due.new.later.items ≡ with_due s (without_due r x.later.items) = λ j. with_due (second j) (taken j) in
    omega (arith, dues_short rs i r s x h, ap length with, c.requires.room.later, c.take_due.ensures.room)

pub recount-requires-clause-within : goal.recount-requires-clause-within
recount-requires-clause-within c =
    let rs = c.args.items.now.items in
    omega (arith, numbered_within c.args.change.pid rs c.args.at c.requires.number, passed_length rs c.args.index.now c.requires.index)

pub recount-requires-clause-ascending : goal.recount-requires-clause-ascending
recount-requires-clause-ascending c =
    let rs = c.args.items.now.items in
    let i = c.args.at in
    let r = c.index_mut.result.now in
    let s = c.set.new.item in
    let x = c.args.index.now in
    let h = sets_so c.args.batch c.args.change rs i r s x c.requires.ascending c.requires.number c.requires.live c.requires.index c.index_mut.ensures.value c.set.ensures in
    subst (λ (qs : List ProcessRecord). AreAscending 0 qs) (sym c.as_slice.ensures.value) (still_ascending rs i r s x h)

pub recount-requires-clause-order : goal.recount-requires-clause-order
recount-requires-clause-order c =
    marks_sorted c.args.items.now.items c.args.index.now c.requires.ascending c.requires.index

pub recount-requires-clause-room : goal.recount-requires-clause-room
recount-requires-clause-room c =
    let rs = c.args.items.now.items in
    let i = c.args.at in
    let r = c.index_mut.result.now in
    let s = c.set.new.item in
    let x = c.args.index.now in
    let h = sets_so c.args.batch c.args.change rs i r s x c.requires.ascending c.requires.number c.requires.live c.requires.index c.index_mut.ensures.value c.set.ensures in
    let third : c.index-3.result.now ≡ s = reads rs i r s c.index-3.result.now x h c.index-3.ensures in
    let slice : c.as_slice.result.now ≡ set rs i s = c.as_slice.ensures.value in
    let marks : marked nat_lt c.index-3.result.now.node (is_ready c.as_slice.result.now 0 c.index-3.result.now) x.at_once.items ≡ marks_then rs i s x
    = λ j. marked nat_lt (third j).node (is_ready (slice j) 0 (third j)) x.at_once.items in
    omega (arith, marks_short rs i r s x h, ap length marks, c.requires.room.at_once)

pub overflow_sub-index : goal.overflow_sub-index
overflow_sub-index c =
    let rs = c.args.items.now.items in
    let i = c.args.at in
    let r = c.index_mut.result.now in
    let s = c.set.new.item in
    let x = c.args.index.now in
    let h = sets_so c.args.batch c.args.change rs i r s x c.requires.ascending c.requires.number c.requires.live c.requires.index c.index_mut.ensures.value c.set.ensures in
    let ends : has_ended s.state ≡ true = ap (λ (q : ProcessRecord). has_ended q.state) c.set.ensures ∙ sym c.has_ended-ends.ensures ∙ c.if-ends.true in
    omega (arith, one_less rs i r s x h ends, c.requires.index.live)

pub tell_caller-requires-clause-ascending : goal.tell_caller-requires-clause-ascending
tell_caller-requires-clause-ascending c =
    let rs = c.args.items.now.items in
    let i = c.args.at in
    let r = c.index_mut.result.now in
    let s = c.set.new.item in
    let x = c.args.index.now in
    let h = sets_so c.args.batch c.args.change rs i r s x c.requires.ascending c.requires.number c.requires.live c.requires.index c.index_mut.ensures.value c.set.ensures in
    subst (λ (qs : List ProcessRecord). AreAscending 0 qs) (sym c.as_slice-then-ends.ensures.value) (still_ascending rs i r s x h)

pub tell_caller-requires-clause-counted : goal.tell_caller-requires-clause-counted
tell_caller-requires-clause-counted c =
    let rs = c.args.items.now.items in
    let i = c.args.at in
    let r = c.index_mut.result.now in
    let s = c.set.new.item in
    let x = c.args.index.now in
    let h = sets_so c.args.batch c.args.change rs i r s x c.requires.ascending c.requires.number c.requires.live c.requires.index c.index_mut.ensures.value c.set.ensures in
    let third : c.index-3.result.now ≡ s = reads rs i r s c.index-3.result.now x h c.index-3.ensures in
    let slice : c.as_slice.result.now ≡ set rs i s = c.as_slice.ensures.value in
    let counts : c.recount.new.passed.items ≡ counts_then rs i s x = c.recount.ensures.passed ∙ (λ j. set x.passed.items i (passed_by (slice j) (third j))) in
    let marks : c.recount.new.at_once.items ≡ marks_then rs i s x
    = c.recount.ensures.at_once ∙ (λ j. marked nat_lt (third j).node (is_ready (slice j) 0 (third j)) x.at_once.items) in
    let caller = c.args.caller in
    let awaited = subst (λ (n : ℕ). IsAwaitedBy caller n rs) (sym (named c.args.change rs i r s x h c.requires.number)) (c.requires.awaited (sym c.has_ended-ends.ensures ∙ c.if-ends.true)) in
    subst (λ (qs : List ProcessRecord). AreCounted (is_other caller) qs c.recount.new.passed.items c.recount.new.at_once.items) (sym c.as_slice-then-ends.ensures.value)
    (subst (λ (p : List ℕ). AreCounted (is_other caller) (set rs i s) p c.recount.new.at_once.items) (sym counts)
    (subst (λ (o : List ℕ). AreCounted (is_other caller) (set rs i s) (counts_then rs i s x) o) (sym marks) (ended_counted caller rs i r s x h awaited)))

pub tell_caller-requires-clause-known : goal.tell_caller-requires-clause-known
tell_caller-requires-clause-known c =
    let rs = c.args.items.now.items in
    let i = c.args.at in
    let r = c.index_mut.result.now in
    let s = c.set.new.item in
    let x = c.args.index.now in
    let h = sets_so c.args.batch c.args.change rs i r s x c.requires.ascending c.requires.number c.requires.live c.requires.index c.index_mut.ensures.value c.set.ensures in
    let third : c.index-3.result.now ≡ s = reads rs i r s c.index-3.result.now x h c.index-3.ensures in
    let slice : c.as_slice.result.now ≡ set rs i s = c.as_slice.ensures.value in
    let counts : c.recount.new.passed.items ≡ counts_then rs i s x = c.recount.ensures.passed ∙ (λ j. set x.passed.items i (passed_by (slice j) (third j))) in
    let ends : has_ended s.state ≡ true = ap (λ (q : ProcessRecord). has_ended q.state) c.set.ensures ∙ sym c.has_ended-ends.ensures ∙ c.if-ends.true in
    subst (λ (qs : List ProcessRecord). AreNotAbove qs c.recount.new.passed.items) (sym c.as_slice-then-ends.ensures.value)
    (subst (λ (p : List ℕ). AreNotAbove (set rs i s) p) (sym counts) (ended_not_above rs i r s x h ends))

pub returns-then-ends-clause-items : goal.returns-then-ends-clause-items
returns-then-ends-clause-items c =
    changed_there c.args.change.pid (changes.set c.args.batch c.args.change) c.args.items.now.items c.args.at c.index_mut.result.now c.set.new.item
    c.requires.ascending c.requires.number (numbered_within c.args.change.pid c.args.items.now.items c.args.at c.requires.number) c.index_mut.ensures.value c.set.ensures

pub returns-then-ends-clause-index : goal.returns-then-ends-clause-index
returns-then-ends-clause-index c =
    let rs = c.args.items.now.items in
    let i = c.args.at in
    let r = c.index_mut.result.now in
    let s = c.set.new.item in
    let x = c.args.index.now in
    let h = sets_so c.args.batch c.args.change rs i r s x c.requires.ascending c.requires.number c.requires.live c.requires.index c.index_mut.ensures.value c.set.ensures in
    let taken : c.take_due.new.later.items ≡ without_due r x.later.items
    = c.take_due.ensures.items ∙ ap (λ (q : ProcessRecord). without_due q x.later.items) (same_read rs i c.index.result.now r h.within c.index.ensures c.index_mut.ensures.value) in
    let second : c.index-2.result.now ≡ s = reads rs i r s c.index-2.result.now x h c.index-2.ensures in
    let with : with_due c.index-2.result.now c.take_due.new.later.items ≡ with_due s (without_due r x.later.items) = λ j. with_due (second j) (taken j) in
    let ends : has_ended s.state ≡ true = ap (λ (q : ProcessRecord). has_ended q.state) c.set.ensures ∙ sym c.has_ended-ends.ensures ∙ c.if-ends.true in
    let slice : c.as_slice-then-ends.result.now ≡ set rs i s = c.as_slice-then-ends.ensures.value in
    record {
      passed = c.tell_caller.ensures.passed ∙ ap (λ (qs : List ProcessRecord). map (passed_by qs) qs) slice;
      at_once = c.tell_caller.ensures.at_once ∙ ap (λ (qs : List ProcessRecord). ready_at qs 0) slice;
      later = subst (λ (dues : List (ℕ × ℕ)). AreDues (set rs i s) dues) (sym (c.put_due.ensures.items ∙ with)) (dues_kept rs i r s x h);
      live = omega (arith, one_less rs i r s x h ends, c.requires.index.live);
    }

pub returns-else-ends-clause-items : goal.returns-else-ends-clause-items
returns-else-ends-clause-items c =
    changed_there c.args.change.pid (changes.set c.args.batch c.args.change) c.args.items.now.items c.args.at c.index_mut.result.now c.set.new.item
    c.requires.ascending c.requires.number (numbered_within c.args.change.pid c.args.items.now.items c.args.at c.requires.number) c.index_mut.ensures.value c.set.ensures

pub returns-else-ends-clause-index : goal.returns-else-ends-clause-index
returns-else-ends-clause-index c =
    let rs = c.args.items.now.items in
    let i = c.args.at in
    let r = c.index_mut.result.now in
    let s = c.set.new.item in
    let x = c.args.index.now in
    let h = sets_so c.args.batch c.args.change rs i r s x c.requires.ascending c.requires.number c.requires.live c.requires.index c.index_mut.ensures.value c.set.ensures in
    let taken : c.take_due.new.later.items ≡ without_due r x.later.items
    = c.take_due.ensures.items ∙ ap (λ (q : ProcessRecord). without_due q x.later.items) (same_read rs i c.index.result.now r h.within c.index.ensures c.index_mut.ensures.value) in
    let second : c.index-2.result.now ≡ s = reads rs i r s c.index-2.result.now x h c.index-2.ensures in
    let with : with_due c.index-2.result.now c.take_due.new.later.items ≡ with_due s (without_due r x.later.items) = λ j. with_due (second j) (taken j) in
    let third : c.index-3.result.now ≡ s = reads rs i r s c.index-3.result.now x h c.index-3.ensures in
    let slice : c.as_slice.result.now ≡ set rs i s = c.as_slice.ensures.value in
    let counts : c.recount.new.passed.items ≡ counts_then rs i s x = c.recount.ensures.passed ∙ (λ j. set x.passed.items i (passed_by (slice j) (third j))) in
    let marks : c.recount.new.at_once.items ≡ marks_then rs i s x
    = c.recount.ensures.at_once ∙ (λ j. marked nat_lt (third j).node (is_ready (slice j) 0 (third j)) x.at_once.items) in
    let live : has_ended s.state ≡ false = ap (λ (q : ProcessRecord). has_ended q.state) c.set.ensures ∙ sym c.has_ended-ends.ensures ∙ c.if-ends.false in
    record {
      passed = counts ∙ live_passed rs i r s x h live;
      at_once = marks ∙ live_chosen rs i r s x h live;
      later = subst (λ (dues : List (ℕ × ℕ)). AreDues (set rs i s) dues) (sym (c.put_due.ensures.items ∙ with)) (dues_kept rs i r s x h);
      live = c.requires.index.live ∙ sym (as_many rs i r s x h live);
    }
