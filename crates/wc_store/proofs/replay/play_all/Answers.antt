use Rattle.std.proofs.Common.{◌<◌, ℕ, List, length, refl, sym, arith}
use Rattle.std.proofs.lemmas.Option.{get_or_from_slice_get}
use Rattle.wc_store.proofs.Turns.{refuses_as, goes_on_as, all_played}
use Rattle.wc_store.proofs.replay.play_all.Goals as goal

pub returns-in-Err-clause-refused : goal.returns-in-Err-clause-refused
returns-in-Err-clause-refused c =
    let b : ℕ × List ℕ = (c.payload-at.result.0, c.payload-at.result.1.now) in
    let lt : c.loop-number.number < length c.args.batches.now.placed = omega (arith, c.len-number-end.ensures.value, c.loop-number-test.true) in
    let is = sym (get_or_from_slice_get c.args.batches.now.placed c.loop-number.number b b c.payload-at.ensures) in
    refuses_as c.args.generation c.args.batches.now.placed c.loop-number.number c.loop-number.played lt b is c.loop-number.invariant
    _ c.is_snapshot-snapshot.ensures _ refl _ c.in-Err.ensures.refused _ c.stop_of.ensures

pub loop-number-preserved : goal.loop-number-preserved
loop-number-preserved c =
    let b : ℕ × List ℕ = (c.payload-at.result.0, c.payload-at.result.1.now) in
    let lt : c.loop-number.number < length c.args.batches.now.placed = omega (arith, c.len-number-end.ensures.value, c.loop-number-test.true) in
    let is = sym (get_or_from_slice_get c.args.batches.now.placed c.loop-number.number b b c.payload-at.ensures) in
    goes_on_as c.args.generation c.args.batches.now.placed c.loop-number.number c.loop-number.played lt b is c.loop-number.invariant
    _ c.is_snapshot-snapshot.ensures _ refl _ c.in-Ok.ensures.ok

pub returns-clause-ok : goal.returns-clause-ok
returns-clause-ok c =
    all_played c.args.generation c.args.batches.now.placed c.loop-number.number c.loop-number.played (omega (arith, c.len-number-end.ensures.value, c.loop-number-test.false))
    c.loop-number.invariant
