-- How the bytes of a whole journal are written.
use Rattle.std.specs.Prelude.{◌≡◌, ◌⊎◌, ◌+◌, ◌^◌, ◌<◌, ◌≤◌, ◌==◌, ℕ, false, List, [], ◌∷◌, ◌++◌, length, map, slice_index, if◌then◌else◌}
use Rattle.wc_journal.specs.Reading.{Placed, is_snapshot_place, size_of}
use Rattle.wc_journal.specs.Frame.{prefix, heading}

-- open gates with the batches behind them, from a place on
abbrev pub gated_from : (version generation place : ℕ) → List (List ℕ) → List ℕ
gated_from version generation place [] = []
gated_from version generation place (p ∷ ps) =
    1 ∷ (prefix version (is_snapshot_place generation place) (length p) ++ (p ++ gated_from version generation (place + 1) ps))

-- the bytes of a journal up to its last gate
abbrev pub spelled : (version generation : ℕ) → List (List ℕ) → List ℕ
spelled version generation ps = 0x57 ∷ (heading version generation ++ gated_from version generation 0 ps)

-- payloads with the offsets of their first bytes, where a gate stands at an offset
abbrev pub placed_from : (version at : ℕ) → List (List ℕ) → Placed
placed_from version at [] = []
placed_from version at (p ∷ ps) = (at + 1 + size_of version, p) ∷ placed_from version (at + 1 + (size_of version + length p)) ps

-- the payloads of batches, without their offsets
abbrev pub payloads_of : Placed → List (List ℕ)
payloads_of bs = map (λ b. b.1) bs

-- the lengths that a version can state are below this
abbrev pub length_bound : ℕ → ℕ
length_bound version = if version == 1 then 2 ^ 32 else 2 ^ 64

-- the version can state the length of each payload
abbrev pub AllStated : ℕ → List (List ℕ) → Type 0
AllStated version [] = Unit {0}
AllStated version (p ∷ ps) = (length p < length_bound version) × AllStated version ps

-- each number is that of a byte
abbrev pub IsBytes : List ℕ → Type 0
IsBytes bytes = (i : ℕ) → slice_index bytes i < 256

-- The image is a header, open gates with these batches behind them, a gate that is not open, and anything.
pub record IsSpelled (version generation : ℕ) (batches : Placed) (image : List ℕ) : Type 0 where
  pub known : (version ≡ 1) ⊎ (version ≡ 2)
  pub some : 1 ≤ generation
  pub small : generation < 2 ^ 64
  pub lengths : AllStated version (payloads_of batches)
  pub places : batches ≡ placed_from version 16 (payloads_of batches)
  pub gate : ℕ
  pub shut : (gate == 1) ≡ false
  pub rest : List ℕ
  pub is : image ≡ spelled version generation (payloads_of batches) ++ gate ∷ rest
