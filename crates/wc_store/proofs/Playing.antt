-- What batches make of a world.
use Rattle.std.proofs.Common.{◌≡◌, inl, inr, ℕ, ◌+◌, Bool, true, List, [], ◌∷◌, ◌++◌, length, Result, Ok, Err, refl, sym, ap, subst, ◌∙◌, arith}
use Rattle.std.proofs.lemmas.Bool.{false≢true}
use Rattle.wc_journal.specs.Reading.{Placed, is_snapshot_place}
use Rattle.wc_record.specs.declared.error.RecordError.{RecordError}
use Rattle.wc_record.specs.Reading.{whole}
use Rattle.wc_record.proofs.Unique.{whole_unique, err_is, ok_or_err}
use Rattle.wc_world.specs.World.{World, empty}
use Rattle.wc_world.specs.Applied.{applied}
use Rattle.wc_world.specs.Accepted.{IsAccepted}
use Rattle.wc_world.specs.declared.change.Change.{Change}
use Rattle.wc_world.proofs.OneAnswer.{taken_or_refused}
use Rattle.wc_store.specs.Choices.{Choice, no_store, broken, on, chosen, found_at}
use Rattle.wc_store.specs.Held.{Standing, damage, a_world, place_of, suits, IsUnfit, Plays, image_of, PlaysChoice, IsHeld}

pub same_world : (w v : World) → a_world w ≡ a_world v → w ≡ v
same_world w v h = cc

pub world_or_damage : (w : World) (s : Standing) (d at : ℕ) (image : List ℕ) → s ≡ a_world w → s ≡ damage d at (found_at image at) → ⊥
world_or_damage w s d at image h k = let same : a_world w ≡ damage d at (found_at image at) = sym h ∙ k in absurd (cc)

-- ---- that batches make a world doesn't hang on the image
pub plays_any_image : (d : ℕ) (image other : List ℕ) (g place : ℕ) (w0 w : World) (bs : Placed) → Plays d image g place w0 bs (a_world w) → Plays d other g place w0 bs (a_world w)
plays_any_image d image other g place w0 w [] h = h
plays_any_image d image other g place w0 w (b ∷ bs) (inl h) = absurd (world_or_damage w (a_world w) d (b.0 + place_of h.0) image refl h.2)
plays_any_image d image other g place w0 w (b ∷ bs) (inr (cs, read, inl h)) = absurd (world_or_damage w (a_world w) d b.0 image refl h.1)
plays_any_image d image other g place w0 w (b ∷ bs) (inr (cs, read, inr h)) =
    inr (cs, read, inr (h.0, h.1, plays_any_image d image other g (place + 1) (applied w0 cs) w bs h.2))

-- ---- one batch more
pub plays_one_more : (d : ℕ) (image : List ℕ) (g place : ℕ) (w0 w : World) (bs : Placed) (at : ℕ) (p : List ℕ) (cs : List Change)
    → Plays d image g place w0 bs (a_world w) → whole p (Ok cs) → suits (is_snapshot_place g (place + length bs)) cs ≡ true → IsAccepted w cs
    → Plays d image g place w0 (bs ++ (at, p) ∷ []) (a_world (applied w cs))
plays_one_more d image g place w0 w [] at p cs h read suit accepted =
    let same : w ≡ w0 = same_world w w0 h in
    let here : suits (is_snapshot_place g place) cs ≡ true = subst (λ (n : ℕ). suits (is_snapshot_place g n) cs ≡ true) (omega arith) suit in
    inr (cs, read, inr (here, subst (λ (v : World). IsAccepted v cs) same accepted, ap (λ (v : World). a_world (applied v cs)) same))
plays_one_more d image g place w0 w (b ∷ bs) at p cs (inl h) read suit accepted = absurd (world_or_damage w (a_world w) d (b.0 + place_of h.0) image refl h.2)
plays_one_more d image g place w0 w (b ∷ bs) at p cs (inr (ds, first, inl h)) read suit accepted = absurd (world_or_damage w (a_world w) d b.0 image refl h.1)
plays_one_more d image g place w0 w (b ∷ bs) at p cs (inr (ds, first, inr h)) read suit accepted =
    let later : suits (is_snapshot_place g (place + 1 + length bs)) cs ≡ true
    = subst (λ (n : ℕ). suits (is_snapshot_place g n) cs ≡ true) (omega arith) suit in
    inr (ds, first, inr (h.0, h.1, plays_one_more d image g (place + 1) (applied w0 ds) w bs at p cs h.2 read later accepted))

-- ---- batches make one thing
same_changes : (p : List ℕ) (cs ds : List Change) → whole p (Ok cs) → whole p (Ok ds) → cs ≡ ds
same_changes p cs ds h k = let same : ok_changes cs ≡ ok_changes ds = whole_unique p (Ok cs) (Ok ds) h k in cc
  where
    ok_changes : List Change → Result (List Change) RecordError
    ok_changes cs = Ok cs

not_unfit : (snapshot : Bool) (w : World) (cs : List Change) → suits snapshot cs ≡ true → IsAccepted w cs → IsUnfit snapshot w cs → ⊥
not_unfit snapshot w cs suit accepted (inl h) = false≢true (sym h ∙ suit)
not_unfit snapshot w cs suit accepted (inr h) = taken_or_refused w cs h.1.0 accepted h.1.1

module _ (d : ℕ) (image : List ℕ) (g : ℕ) where
  abbrev Fits : ℕ → World → List Change → Type 0
  Fits place w cs = (suits (is_snapshot_place g place) cs ≡ true) × IsAccepted w cs

  pub plays_once : (place : ℕ) (w : World) (bs : Placed) (s t : Standing) → Plays d image g place w bs s → Plays d image g place w bs t → s ≡ t
  plays_once place w [] s t h k = h ∙ sym k
  plays_once place w (b ∷ bs) s t (inl h) (inl k) =
      let same : h.0 ≡ k.0 = err_is h.0 k.0 (whole_unique b.1 (Err h.0) (Err k.0) h.1 k.1) in
      h.2 ∙ ap (λ (e : RecordError). damage d (b.0 + place_of e) (found_at image (b.0 + place_of e))) same ∙ sym k.2
  plays_once place w (b ∷ bs) s t (inl h) (inr k) = absurd (ok_or_err k.0 h.0 (whole_unique b.1 (Ok k.0) (Err h.0) k.1 h.1))
  plays_once place w (b ∷ bs) s t (inr h) (inl k) = absurd (ok_or_err h.0 k.0 (whole_unique b.1 (Ok h.0) (Err k.0) h.1 k.1))
  plays_once place w (b ∷ bs) s t (inr (cs, read, inl h)) (inr (ds, again, inl k)) = h.1 ∙ sym k.1
  plays_once place w (b ∷ bs) s t (inr (cs, read, inl h)) (inr (ds, again, inr k)) =
      let fits : Fits place w cs = subst (Fits place w) (same_changes b.1 ds cs again read) (k.0, k.1) in
      absurd (not_unfit (is_snapshot_place g place) w cs fits.0 fits.1 h.0)
  plays_once place w (b ∷ bs) s t (inr (cs, read, inr h)) (inr (ds, again, inl k)) =
      let fits : Fits place w ds = subst (Fits place w) (same_changes b.1 cs ds read again) (h.0, h.1) in
      absurd (not_unfit (is_snapshot_place g place) w ds fits.0 fits.1 k.0)
  plays_once place w (b ∷ bs) s t (inr (cs, read, inr h)) (inr (ds, again, inr k)) =
      plays_once (place + 1) (applied w ds) bs s t
      (subst (λ (es : List Change). Plays d image g (place + 1) (applied w es) bs s) (same_changes b.1 cs ds read again) h.2) k.2

choice_once : (one two : List ℕ) (choice : Choice) (s t : Standing) → PlaysChoice one two choice s → PlaysChoice one two choice t → s ≡ t
choice_once one two no_store s t h k = h ∙ sym k
choice_once one two (broken disk at found) s t h k = h ∙ sym k
choice_once one two (on disk version generation bs) s t h k = plays_once disk (image_of disk one two) generation 0 empty bs s t h k

-- two images hold one thing
pub held_is_one : (one two : List ℕ) (s t : Standing) → IsHeld one two s → IsHeld one two t → s ≡ t
held_is_one one two s t h k = choice_once one two (chosen one two) s t h k
