use Rattle.std.proofs.Common.{refl}
use Rattle.std.proofs.lemmas.Result.{err_from_is_err_and}
use Rattle.wc_store.specs.Places.{its}
use Rattle.wc_store.specs.Choices.{chosen}
use Rattle.wc_store.specs.Sights.{IsOn}
use Rattle.wc_store.proofs.Opened.{finding_refused, of_seen, opened_of, playing_refused, stands_on}
use Rattle.wc_store.proofs.load.open.Goals as goal

pub returns-in_err-place-clause-refused : goal.returns-in_err-place-clause-refused
returns-in_err-place-clause-refused g c =
    let exit = err_from_is_err_and c.from_residual.result c.from_residual.ensures.1 in
    rw (exit.1, exit.2) (finding_refused g.D.Disk c.args.one.now c.args.two.now _ c.in_err-place.ensures.refused)

pub returns-in_err-world-clause-refused : goal.returns-in_err-world-clause-refused
returns-in_err-world-clause-refused g c =
    let exit = err_from_is_err_and c.from_residual-in_err-world.result c.from_residual-in_err-world.ensures.1 in
    let finds = rw c.in-Some.is at c.in_ok-place.ensures.ok in
    let refused = rw (c.number.ensures, c.generation-generation.ensures.value) at c.in_err-world.ensures.refused in
    rw (exit.1, exit.2) (playing_refused g.D.Disk c.args.one.now c.args.two.now c.in-Some.place c.in-Some.loaded finds _ refused)

pub returns-clause-ok : goal.returns-clause-ok
returns-clause-ok g c =
    λ told told_too.
    let place = c.in-Some.place in
    let loaded = c.in-Some.loaded in
    let finds = rw c.in-Some.is at c.in_ok-place.ensures.ok in
    let settled = rw c.in-Some.is at c.in_ok-place.ensures.stands in
    let makes = rw c.generation-generation.ensures.value at c.in_ok-world.ensures.ok in
    stands_on g.D.Disk _ loaded c.find_store.new.one c.find_store.new.two _ _ c.find_store.ensures.seen_one c.find_store.ensures.seen_two
    (of_seen g.D.Disk c.args.one.now c.args.two.now (λ a b. IsOn (chosen a b) (its place a b) place loaded) finds told told_too) refl makes (settled (told, told_too))
    c.in_ok-place.ensures.durable_one c.in_ok-place.ensures.durable_two

pub returns-clause-images : goal.returns-clause-images
returns-clause-images g c =
    let finds = rw c.in-Some.is at c.in_ok-place.ensures.ok in
    let makes = rw c.generation-generation.ensures.value at c.in_ok-world.ensures.ok in
    opened_of g.D.Disk c.args.one.now c.args.two.now _ c.in-Some.loaded finds refl makes
