-- One batch after another is played.
use Rattle.std.proofs.Common.{◌≡◌, inl, inr, ℕ, ◌+◌, ◌-◌, ◌^◌, ◌<◌, ◌≤◌, Bool, List, ◌∷◌, length, get_or, drop, refl, sym, ap, subst, ◌∙◌, arith}
use Rattle.std.specs.Prelude.{min}
use Rattle.std.proofs.lemmas.List.{drop_more, drop_all}
use Rattle.wc_journal.specs.Reading.{Placed, is_snapshot_place}
use Rattle.wc_world.specs.World.{World, empty}
use Rattle.wc_store.specs.declared.replay.Unplayed.{Unplayed}
use Rattle.wc_store.specs.declared.replay.Unplayed.TheVariants.{Unread, Unfit, OutOfMemory}
use Rattle.wc_store.specs.declared.replay.Stop.{Stop}
use Rattle.wc_store.specs.Choices.{found_at}
use Rattle.wc_store.specs.Held.{Standing, a_world, damage, place_of, Plays}
use Rattle.wc_store.specs.Played.{IsPlayed, RefusesPayload, stop_of, Makes, RefusesBatches}
use Rattle.wc_store.proofs.Stops.{stops_within}

-- what the batches from a place on make of a world is what all of them make of the empty one
abbrev pub GoesOn : ℕ → Placed → ℕ → World → Type 0
GoesOn generation bs place w = (disk : ℕ) (image : List ℕ) (s : Standing) → Plays disk image generation place w (drop place bs) s → Plays disk image generation 0 empty bs s

abbrev broken_at : ℕ → List ℕ → ℕ → Standing
broken_at disk image at = damage disk at (found_at image at)

module _ (generation : ℕ) (bs : Placed) (place : ℕ) (w : World) (lt : place < length bs) (b : ℕ × List ℕ) (is : b ≡ get_or bs place b)
    (on : GoesOn generation bs place w) where
  left : drop place bs ≡ b ∷ drop (place + 1) bs
  left = drop_more bs place b lt ∙ ap (λ (c : ℕ × List ℕ). c ∷ drop (place + 1) bs) (sym is)

  here : (disk : ℕ) (image : List ℕ) (s : Standing) → Plays disk image generation place w (b ∷ drop (place + 1) bs) s → Plays disk image generation 0 empty bs s
  here disk image s plays = on disk image s (subst (λ (cs : Placed). Plays disk image generation place w cs s) (sym left) plays)

  pub refuses : (u : Unplayed) → RefusesPayload (is_snapshot_place generation place) b.1 w u → RefusesBatches generation bs (stop_of b.0 u)
  refuses (Unread within) h =
      λ addressed disk image.
      let fits : b.0 + length b.1 < 2 ^ 64 = subst (λ (c : ℕ × List ℕ). c.0 + length c.1 < 2 ^ 64) (sym is) (addressed place b lt) in
      let inside : place_of h.0 ≤ length b.1 = stops_within b.1 h.0 h.1 in
      let place_is : min (b.0 + within) (2 ^ 64 - 1) ≡ b.0 + place_of h.0 = omega (arith, h.2, fits, inside) in
      here disk image (broken_at disk image (min (b.0 + within) (2 ^ 64 - 1))) (inl (h.0, h.1, ap (broken_at disk image) place_is))
  refuses Unfit h = λ addressed disk image. here disk image (broken_at disk image b.0) (inr (h.0, h.1, inl (h.2, refl)))
  refuses OutOfMemory h = tt

pub refuses_as : (generation : ℕ) (bs : Placed) (place : ℕ) (w : World) → place < length bs → (b : ℕ × List ℕ) → b ≡ get_or bs place b → GoesOn generation bs place w
    → (snapshot : Bool) → snapshot ≡ is_snapshot_place generation place → (payload : List ℕ) → payload ≡ b.1 → (u : Unplayed) → RefusesPayload snapshot payload w u
    → (stop : Stop) → stop ≡ stop_of b.0 u → RefusesBatches generation bs stop
refuses_as generation bs place w lt b is on snapshot made payload bytes u h stop same =
    let here : RefusesPayload (is_snapshot_place generation place) b.1 w u
    = subst (λ (p : List ℕ). RefusesPayload (is_snapshot_place generation place) p w u) bytes (subst (λ (c : Bool). RefusesPayload c payload w u) made h) in
    subst (RefusesBatches generation bs) (sym same) (refuses generation bs place w lt b is on u here)

-- a batch that is played leaves the rest to be played
pub goes_on_as : (generation : ℕ) (bs : Placed) (place : ℕ) (w : World) → place < length bs → (b : ℕ × List ℕ) → b ≡ get_or bs place b → GoesOn generation bs place w
    → (snapshot : Bool) → snapshot ≡ is_snapshot_place generation place → (payload : List ℕ) → payload ≡ b.1 → (after : World) → IsPlayed snapshot payload w after
    → GoesOn generation bs (place + 1) after
goes_on_as generation bs place w lt b is on snapshot made payload bytes after h =
    λ disk image s plays.
    let played : IsPlayed (is_snapshot_place generation place) b.1 w after
    = subst (λ (p : List ℕ). IsPlayed (is_snapshot_place generation place) p w after) bytes (subst (λ (c : Bool). IsPlayed c payload w after) made h) in
    here generation bs place w lt b is on disk image s
    (inr (
      played.changes,
      played.reads,
      inr (played.suit, played.accepted, subst (λ (v : World). Plays disk image generation (place + 1) v (drop (place + 1) bs) s) played.after plays),
    ))

-- nothing is left to be played
pub all_played : (generation : ℕ) (bs : Placed) (place : ℕ) (w : World) → length bs ≤ place → GoesOn generation bs place w → Makes generation bs w
all_played generation bs place w past on =
    λ disk image. on disk image (a_world w) (subst (λ (cs : Placed). Plays disk image generation place w cs (a_world w)) (sym (drop_all place bs past)) refl)
