-- A world that is held is reached.
use Rattle.std.proofs.Common.{inl, inr, ℕ, ◌+◌, List, [], ◌∷◌, refl, sym, subst}
use Rattle.wc_journal.specs.Reading.{Placed}
use Rattle.wc_world.specs.World.{World, empty}
use Rattle.wc_world.specs.Applied.{applied}
use Rattle.wc_world.specs.Accepted.{IsReached, nothing, then_changes}
use Rattle.wc_store.specs.Choices.{Choice, no_store, broken, on, chosen}
use Rattle.wc_store.specs.Held.{a_world, place_of, Plays, PlaysChoice, image_of}
use Rattle.wc_store.specs.Laws.{HeldIsReached}
use Rattle.wc_store.proofs.Playing.{same_world, world_or_damage}

module _ (disk : ℕ) (image : List ℕ) (g : ℕ) (v : World) where
  plays_reached : (place : ℕ) (w : World) (bs : Placed) → IsReached w → Plays disk image g place w bs (a_world v) → IsReached v
  plays_reached place w [] reached is = subst IsReached (sym (same_world v w is)) reached
  plays_reached place w (b ∷ bs) reached (inl h) = absurd (world_or_damage v (a_world v) disk (b.0 + place_of h.0) image refl h.2)
  plays_reached place w (b ∷ bs) reached (inr (cs, read, inl h)) = absurd (world_or_damage v (a_world v) disk b.0 image refl h.1)
  plays_reached place w (b ∷ bs) reached (inr (cs, read, inr h)) = plays_reached (place + 1) (applied w cs) bs (then_changes w cs reached h.1) h.2

choice_reached : (one two : List ℕ) (v : World) (choice : Choice) → PlaysChoice one two choice (a_world v) → IsReached v
choice_reached one two v no_store is = absurd (cc)
choice_reached one two v (broken disk at found) is = absurd (cc)
choice_reached one two v (on disk version generation bs) plays = plays_reached disk (image_of disk one two) generation v 0 empty bs nothing plays

pub held_is_reached : HeldIsReached
held_is_reached one two w held = choice_reached one two w (chosen one two) held
