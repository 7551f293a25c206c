use Rattle.std.proofs.Common.{◌≡◌, ◌∙◌, ℕ, List, sym, subst}
use Rattle.wc_journal.specs.Reading.{no_journal, journal_of}
use Rattle.wc_store.specs.Choices.{broken, chosen}
use Rattle.wc_store.specs.Sights.{OfImages}
use Rattle.wc_store.proofs.Looking.{none_seen}
use Rattle.wc_store.proofs.Opened.{images_of}
use Rattle.wc_store.proofs.Verdicts.{settled_at}
use Rattle.wc_store.proofs.choice.find_store.Goals as goal

pub returns-in-NoStore-clause-ok : goal.returns-in-NoStore-clause-ok
returns-in-NoStore-clause-ok g c =
    images_of g.D.Disk c.args.one.now c.args.two.now _ _ _ c.in_ok-first.ensures.shows_one c.in_ok-first.ensures.shows_two c.in-NoStore.ensures.tells

pub returns-in-On-clause-ok : goal.returns-in-On-clause-ok
returns-in-On-clause-ok g c =
    images_of g.D.Disk c.args.one.now c.args.two.now _ _ _ c.in_ok-first.ensures.shows_one c.in_ok-first.ensures.shows_two c.in-On.ensures.tells

pub returns-in-On-clause-stands : goal.returns-in-On-clause-stands
returns-in-On-clause-stands g c =
    λ told.
    let first = c.in_ok-first.ensures.shows_one in
    let second = c.in_ok-first.ensures.shows_two in
    let on = c.in-On.ensures.tells first.image second.image first.is second.is in
    settled_at g.D.Disk c.in-On.loaded.journal c.in-On.loaded.batches.placed c.in-On.place c.look_at_both.new.one c.look_at_both.new.two first.image second.image on.stands
    (c.look_at_both.ensures.seen_one ∙ sym (first.told told.0)) (c.look_at_both.ensures.seen_two ∙ sym (second.told told.1)) c.in_ok-first.ensures.durable_one c.in_ok-first.ensures.durable_two

pub returns-in-NoStore-clause-bare : goal.returns-in-NoStore-clause-bare
returns-in-NoStore-clause-bare g c =
    λ told.
    let first = c.in_ok-first.ensures.shows_one in
    subst (λ (image : List ℕ). journal_of image ≡ no_journal) (first.told told) (none_seen first.image _ c.in-NoStore.ensures.bare first.is)

pub returns-in-Damaged-clause-refused : goal.returns-in-Damaged-clause-refused
returns-in-Damaged-clause-refused g c =
    let number = c.number.ensures in
    subst (λ (n : ℕ). OfImages g.D.Disk c.args.one.now c.args.two.now (λ a b. chosen a b ≡ broken n c.in-Damaged.at c.in-Damaged.found)) (sym number)
    (images_of g.D.Disk c.args.one.now c.args.two.now _ _ _ c.in_ok-first.ensures.shows_one c.in_ok-first.ensures.shows_two c.in-Damaged.ensures.tells)
