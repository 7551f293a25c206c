use Rattle.std.proofs.Common.{subst, sym}
use Rattle.wc_journal.specs.declared.error.Found.{Found}
use Rattle.wc_world.specs.World.{empty}
use Rattle.wc_store.specs.Held.{damage, Plays}
use Rattle.wc_store.proofs.replay.play.Goals as goal

pub returns-in-Err-At-clause-refused : goal.returns-in-Err-At-clause-refused
returns-in-Err-At-clause-refused c =
    let number = c.args.number in
    let batches = c.args.batches.now in
    let refused = rw c.in-Err-At.field-0-is at c.in-Err-At.ensures.refused in
    let value = rw c.in-Err-At.field-0-is at c.found_at.ensures.value in
    rw c.in-Err-At.field-0-is
    (λ counted.
    subst (λ (found : Found). Plays number batches.image c.args.generation 0 empty batches.placed (damage number c.in-Err-At.at found)) (sym value)
    (refused (counted c.found_at.ensures.counted) number batches.image))
