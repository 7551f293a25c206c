-- How a batch is written.
use Rattle.std.specs.Prelude.{ℕ, ◌-◌, ◌^◌, ◌==◌, Bool, List, [], ◌∷◌, ◌++◌, length, take, drop, if◌then◌else◌}
use Rattle.std.specs.Int.{w32, w64, to_be_bytes}
use Rattle.wc_journal.specs.Reading.{kind_of, size_of}

-- what stands before a payload of n bytes
unfoldable pub prefix : ℕ → Bool → ℕ → List ℕ
prefix version snapshot n = if version == 1 then to_be_bytes w32 n else kind_of snapshot ∷ to_be_bytes w64 n

-- a batch, and a gate behind it that is not open
abbrev pub framed : ℕ → Bool → List ℕ → List ℕ
framed version snapshot payload = prefix version snapshot (length payload) ++ payload ++ 0 ∷ []

-- the most bytes that a payload may have: 2^30 in version 1, 2^31 in version 2
abbrev pub most_of : ℕ → ℕ
most_of version = if version == 1 then 2 ^ 30 else 2 ^ 31

-- the bytes of a header after the first
unfoldable pub heading : ℕ → ℕ → List ℕ
heading version generation = 0x43 ∷ 0x4A ∷ 0x4E ∷ 0x4C ∷ 0 ∷ 0 ∷ version ∷ to_be_bytes w64 generation

-- the payload in a batch that was framed
abbrev pub payload_in : ℕ → List ℕ → List ℕ
payload_in version bytes = take (length bytes - size_of version - 1) (drop (size_of version) bytes)
