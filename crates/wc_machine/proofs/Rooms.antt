-- Room for changes, and changes for which there is none.
use Rattle.std.proofs.Common.{◌≡◌, ℕ, ◌+◌, ◌<◌, ◌≤◌, List, [], length, refl, sym, subst, ◌∙◌, arith}
use Rattle.std.specs.Prelude.{◌≢◌}
use Rattle.wc_state.specs.declared.record.What.{What}
use Rattle.wc_state.specs.declared.record.What.TheVariants as what
use Rattle.wc_world.specs.declared.change.Change.{Change}
use Rattle.wc_world.specs.World.{World}
use Rattle.wc_world.specs.Applied.{applied}
use Rattle.wc_machine.specs.Laws.{HasPlaces}
use Rattle.wc_machine.specs.Refusals.{AreFew, AreTooMany, HasRoom, IsFull, IsOneBatchTooMany, RefusesBatch, RefusesCounts, FullOf, FullOfBatches, NoneHolds}
use Rattle.wc_machine.specs.declared.error.TurnError.{TurnError}
use Rattle.wc_machine.specs.declared.error.TurnError.TheVariants as error

-- what is said of so many nodes and batches is said of a world that has so many
pub said_of : (P : (nodes batches : ℕ) → Type 0) (w : World) (nodes batches : ℕ) → length w.nodes ≡ nodes → w.batches ≡ batches → P nodes batches → P (length w.nodes) w.batches
said_of P w nodes batches n b h = subst (λ (m : ℕ). P m w.batches) (sym n) (subst (λ (m : ℕ). P nodes m) (sym b) h)

-- where there is room, the world isn't full
pub has_room : (most : ℕ) (w : World) (wh : What) (count limit : ℕ) → HasRoom most w → IsFull most w wh count limit → ⊥
has_room most w what.Nodes count limit room full = let a : length w.nodes ≤ most = room.0 in let b : most < length w.nodes = full.2 in absurd (omega arith)
has_room most w what.Bytes count limit room full = full
has_room most w what.Batches count limit room full = let a : w.batches ≤ 4000000000 = room.1 in let b : 4000000000 < w.batches = full.3 in absurd (omega arith)
has_room most w what.Generations count limit room full = full

-- a world with room for what changes add has places for it
pub has_places : (w v : World) (last most : ℕ) → length v.nodes ≡ last → v.batches ≡ w.batches + 1 → HasRoom most v → most ≤ 8000000 → HasPlaces w last
has_places w v last most n b room few =
    let a : length v.nodes ≤ most = room.0 in
    let c : v.batches ≤ 4000000000 = room.1 in
    record { nodes = omega arith; batches = omega arith }

-- ---- changes

module _ (w : World) (cs : List Change) (more most : ℕ) (nodes : length (applied w cs).nodes ≡ length w.nodes + more) (batches : (applied w cs).batches ≡ w.batches + 1) where
  pub has_room_for : AreFew (length w.nodes + more) (w.batches + 1) most → HasRoom most (applied w cs)
  has_room_for h = said_of (λ nodes batches. AreFew nodes batches most) (applied w cs) (length w.nodes + more) (w.batches + 1) nodes batches h

  full_so : (what : What) (count limit : ℕ) → AreTooMany (length w.nodes + more) (w.batches + 1) most what count limit → IsFull most (applied w cs) what count limit
  full_so what count limit h =
      said_of (λ nodes batches. AreTooMany nodes batches most what count limit) (applied w cs) (length w.nodes + more) (w.batches + 1) nodes batches h

  pub full_for : (P : List Change → Type 0) → P cs → (e : TurnError) → RefusesCounts (length w.nodes + more) (w.batches + 1) most e → FullOf P most w e
  full_for P p error.NotReady h = absurd h
  full_for P p (error.Full what count limit) h = (cs, p, full_so what count limit h)
  full_for P p error.UnknownProcess h = absurd h
  full_for P p (error.Ended s) h = absurd h
  full_for P p error.UnknownName h = absurd h
  full_for P p (error.BadInputs port) h = absurd h
  full_for P p error.OutOfMemory h = absurd h

-- changes for which there is room aren't refused where no others are meant
pub none_full : (P : List Change → Type 0) (most : ℕ) (w : World) (cs : List Change) → ((ds : List Change) → P ds → ds ≡ cs) → HasRoom most (applied w cs) → NoneHolds (FullOf P most w)
none_full P most w cs only room error.NotReady h = absurd h
none_full P most w cs only room (error.Full wh count limit) h =
    absurd (has_room most (applied w h.0) wh count limit (subst (λ (xs : List Change). HasRoom most (applied w xs)) (sym (only h.0 h.1)) room) h.2)
none_full P most w cs only room error.UnknownProcess h = absurd h
none_full P most w cs only room (error.Ended s) h = absurd h
none_full P most w cs only room error.UnknownName h = absurd h
none_full P most w cs only room (error.BadInputs port) h = absurd h
none_full P most w cs only room error.OutOfMemory h = refl

-- ---- one batch

pub full_batch : (P : List Change → Type 0) (w : World) (cs : List Change) → P cs → cs ≢ [] → (e : TurnError) → RefusesBatch w e → FullOfBatches P w e
full_batch P w cs p some error.NotReady h = absurd h
full_batch P w cs p some (error.Full what count limit) h = ((cs, p, some), h)
full_batch P w cs p some error.UnknownProcess h = absurd h
full_batch P w cs p some (error.Ended s) h = absurd h
full_batch P w cs p some error.UnknownName h = absurd h
full_batch P w cs p some (error.BadInputs port) h = absurd h
full_batch P w cs p some error.OutOfMemory h = absurd h

not_too_many : (w : World) (wh : What) (count limit : ℕ) → w.batches + 1 ≤ 4000000000 → IsOneBatchTooMany w wh count limit → ⊥
not_too_many w what.Nodes count limit few h = h
not_too_many w what.Bytes count limit few h = h
not_too_many w what.Batches count limit few h = let b : 4000000000 < w.batches + 1 = h.2 in absurd (omega arith)
not_too_many w what.Generations count limit few h = h

-- changes that are none, or for which there is a batch, aren't refused where no others are meant
pub none_full_batch : (P : List Change → Type 0) (w : World) (cs : List Change) → ((ds : List Change) → P ds → ds ≡ cs) → (cs ≢ [] → w.batches + 1 ≤ 4000000000)
    → NoneHolds (FullOfBatches P w)
none_full_batch P w cs only room error.NotReady h = absurd h
none_full_batch P w cs only room (error.Full wh count limit) h =
    absurd (not_too_many w wh count limit (room (λ none. h.0.2 (only h.0.0 h.0.1 ∙ none))) h.1)
none_full_batch P w cs only room error.UnknownProcess h = absurd h
none_full_batch P w cs only room (error.Ended s) h = absurd h
none_full_batch P w cs only room error.UnknownName h = absurd h
none_full_batch P w cs only room (error.BadInputs port) h = absurd h
none_full_batch P w cs only room error.OutOfMemory h = refl
