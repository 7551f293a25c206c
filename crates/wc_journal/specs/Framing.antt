-- What the reading of an image finds, step by step.
use Rattle.std.specs.Prelude.{◌≡◌, ◌+◌, ◌<◌, ◌≤◌, ℕ, List, [], ◌∷◌, length, map, take, drop, Ok}
use Rattle.wc_journal.specs.Reading.{Placed, and_then_batch, batches_from, end_of}

-- an image, and payloads in it, each with the offset of its first byte
pub record BatchImage : Type 0 where
  pub image : List ℕ
  pub placed : Placed

-- behind the gate a batch is whole: its payload begins here and has so many bytes, and a gate stands behind it
pub record HasFrame (version generation place gate : ℕ) (image : List ℕ) (frame : ℕ × ℕ) : Type 0 where
  pub later : gate < frame.0
  pub within : frame.0 + frame.1 < length image
  pub reads : batches_from version generation place gate 0 (drop gate image)
      ≡ and_then_batch (frame.0, take frame.1 (drop frame.0 image)) (batches_from version generation (place + 1) (frame.0 + frame.1) 0 (drop (frame.0 + frame.1) image))

-- the image has these batches, and the gate that is not open is here
pub record HasBatches (version generation : ℕ) (image : List ℕ) (found : Placed × ℕ) : Type 0 where
  pub reads : batches_from version generation 0 16 0 (drop 16 image) ≡ Ok found.0
  pub end : found.1 ≡ end_of found.0

-- the payloads that begin here in an image and have so many bytes, each with its offset
abbrev pub placed_in : List ℕ → List (ℕ × ℕ) → Placed
placed_in image frames = map (λ f. (f.0, take f.1 (drop f.0 image))) frames

-- the image has all bytes of each payload
abbrev pub AreWithin : List ℕ → List (ℕ × ℕ) → Type 0
AreWithin image [] = Unit {0}
AreWithin image (f ∷ fs) = (f.0 + f.1 ≤ length image) × AreWithin image fs

-- the image has its batches at these places, and the gate that is not open is here
pub record HasFrames (version generation : ℕ) (image : List ℕ) (found : List (ℕ × ℕ) × ℕ) : Type 0 where
  pub batches : HasBatches version generation image (placed_in image found.0, found.1)
  pub within : AreWithin image found.0
