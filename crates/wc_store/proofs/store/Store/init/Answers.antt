use Rattle.std.proofs.Common.{◌≡◌, ◌∙◌, inr, refl, sym}
use Rattle.wc_store.specs.Choices.{no_store, chosen}
use Rattle.wc_store.specs.Stores.{IsMadeOf}
use Rattle.wc_store.proofs.Opened.{images_as, opens_none}
use Rattle.wc_store.proofs.Imaged.{images_made}
use Rattle.wc_store.proofs.Made.{made, made_parts, none_opened, some_opened, second_counts}
use Rattle.wc_store.proofs.store.Store.init.Goals as goal

pub returns-in-Ok-clause-made : goal.returns-in-Ok-clause-made
returns-in-Ok-clause-made g c = record {
  live = refl;
  empty_yet = c.new.ensures.empty;
  place = refl;
  first = record { version = c.in-Ok.ensures.version; generation = c.in-Ok.ensures.generation; end = c.in-Ok.ensures.end };
}

pub returns-then-is_some-clause-refused : goal.returns-then-is_some-clause-refused
returns-then-is_some-clause-refused g c = some_opened g.D.Disk c.args.one.now c.args.two.now c.in_ok-open.field-0 (sym c.if-is_some.ensures) c.in_ok-open.ensures.images

pub returns-in-Ok-clause-ok : goal.returns-in-Ok-clause-ok
returns-in-Ok-clause-ok g c =
    λ told_one told_two.
    let told = c.open.ensures.tells_one ∙ told_one in
    let none = opens_none g.D.Disk c.in_ok-open.field-0 c.open.new.one c.open.new.two (sym c.if-is_some.ensures) (c.in_ok-open.ensures.ok told_one told_two) in
    made g.D.Disk _ c.create.new.disk c.open.new.two refl c.in-Ok.ensures.version c.in-Ok.ensures.generation c.new.ensures.empty (c.in-Ok.ensures.held told)
    (second_counts _ _ none) (c.in-Ok.ensures.settled told) c.in_ok-open.ensures.durable_two

pub returns-in-Ok-clause-parts : goal.returns-in-Ok-clause-parts
returns-in-Ok-clause-parts g c =
    λ told_one told_two.
    let opened = c.in_ok-open.ensures in
    made_parts g.D.Disk g.met.D.Disk.only_now c.in_ok-open.field-0 c.args.one.now c.args.two.now c.open.new.one c.open.new.two c.create.new.disk
    (sym c.if-is_some.ensures) (opened.ok told_one told_two) opened.seen_one opened.seen_two opened.any_moment_one opened.any_moment_two opened.durable_two (c.in-Ok.ensures.any_moment (c.open.ensures.tells_one ∙ told_one))

pub returns-in-Err-DiskFault-clause-parts : goal.returns-in-Err-DiskFault-clause-parts
returns-in-Err-DiskFault-clause-parts g c =
    λ told_one told_two.
    let opened = c.in_ok-open.ensures in
    inr (made_parts g.D.Disk g.met.D.Disk.only_now c.in_ok-open.field-0 c.args.one.now c.args.two.now c.open.new.one c.open.new.two c.create.new.disk
    (sym c.if-is_some.ensures) (opened.ok told_one told_two) opened.seen_one opened.seen_two opened.any_moment_one opened.any_moment_two opened.durable_two (c.in-Err-DiskFault.ensures.any_moment (c.open.ensures.tells_one ∙ told_one)))

pub returns-in-Ok-clause-images : goal.returns-in-Ok-clause-images
returns-in-Ok-clause-images g c =
    let none = none_opened g.D.Disk c.args.one.now c.args.two.now c.in_ok-open.field-0 (sym c.if-is_some.ensures) c.in_ok-open.ensures.images in
    images_as g.D.Disk c.args.one.now c.args.two.now (λ a b. chosen a b ≡ no_store) (IsMadeOf _)
    (λ a b bare. images_made a b _ _ _ bare c.new.ensures.empty c.in-Ok.ensures.version c.in-Ok.ensures.generation c.in-Ok.ensures.end) none
