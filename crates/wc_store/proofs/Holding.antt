-- Any two images hold exactly one thing.
use Rattle.std.proofs.Common.{◌≡◌, ◌⊎◌, inl, inr, ℕ, ◌+◌, true, false, List, [], ◌∷◌, Result, Ok, Err, refl}
use Rattle.wc_journal.specs.Reading.{Placed, is_snapshot_place}
use Rattle.wc_record.specs.declared.error.RecordError.{RecordError}
use Rattle.wc_record.specs.Reading.{whole}
use Rattle.wc_record.proofs.Some.{some_reading}
use Rattle.wc_world.specs.declared.change.Change.{Change}
use Rattle.wc_world.specs.declared.error.WorldError.{WorldError}
use Rattle.wc_world.specs.World.{World, empty}
use Rattle.wc_world.specs.Applied.{applied}
use Rattle.wc_world.specs.Accepted.{IsAccepted, IsRefused}
use Rattle.wc_store.specs.Choices.{Choice, no_store, broken, on, chosen, found_at}
use Rattle.wc_store.specs.Held.{Standing, nothing, damage, a_world, place_of, suits, Plays, image_of, PlaysChoice}
use Rattle.wc_store.proofs.Playing.{held_is_one}
use Rattle.wc_store.specs.DecidedLaws.{ImagesHoldSomething, ImagesHoldExactlyOneThing}
use Rattle.wc_store.proofs.Deciding.{true_or_false}
use Rattle.wc_store.proofs.Changes.{changes_decided}

-- ---- batches
module _ (d : ℕ) (image : List ℕ) (g : ℕ) where
  abbrev PlaysSome : ℕ → World → Placed → Type 0
  PlaysSome place w bs = (s : Standing) × Plays d image g place w bs s

  module _ (place : ℕ) (w : World) (b : ℕ × List ℕ) (bs : Placed) (rest : (v : World) → PlaysSome (place + 1) v bs) where
    by_world : (cs : List Change) → whole b.1 (Ok cs) → suits (is_snapshot_place g place) cs ≡ true → IsAccepted w cs ⊎ ((e : WorldError) × IsRefused w cs e)
        → PlaysSome place w (b ∷ bs)
    by_world cs read suit (inl accepted) = let later = rest (applied w cs) in (later.0, inr (cs, read, inr (suit, accepted, later.1)))
    by_world cs read suit (inr refused) = (damage d b.0 (found_at image b.0), inr (cs, read, inl (inr (suit, refused), refl)))

    by_place : (cs : List Change) → whole b.1 (Ok cs) → (suits (is_snapshot_place g place) cs ≡ true) ⊎ (suits (is_snapshot_place g place) cs ≡ false)
        → PlaysSome place w (b ∷ bs)
    by_place cs read (inl suit) = by_world cs read suit (changes_decided w cs)
    by_place cs read (inr other) = (damage d b.0 (found_at image b.0), inr (cs, read, inl (inl other, refl)))

    by_reading : (r : Result (List Change) RecordError) → whole b.1 r → PlaysSome place w (b ∷ bs)
    by_reading (Ok cs) read = by_place cs read (true_or_false (suits (is_snapshot_place g place) cs))
    by_reading (Err e) read = (damage d (b.0 + place_of e) (found_at image (b.0 + place_of e)), inl (e, read, refl))

  plays_some : (place : ℕ) (w : World) (bs : Placed) → PlaysSome place w bs
  plays_some place w [] = (a_world w, refl)
  plays_some place w (b ∷ bs) = let read = some_reading b.1 in by_reading place w b bs (λ v. plays_some (place + 1) v bs) read.0 read.1

-- ---- two images
choice_some : (one two : List ℕ) (choice : Choice) → (s : Standing) × PlaysChoice one two choice s
choice_some one two no_store = (nothing, refl)
choice_some one two (broken disk at found) = (damage disk at found, refl)
choice_some one two (on disk version generation bs) = plays_some disk (image_of disk one two) generation 0 empty bs

pub images_hold : ImagesHoldSomething
images_hold one two = choice_some one two (chosen one two)

pub images_hold_one : ImagesHoldExactlyOneThing
images_hold_one one two =
    let some = images_hold one two in (some.0, record { held = some.1; only = λ t other. held_is_one one two t some.0 other some.1 })
