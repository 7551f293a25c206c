-- What some images hold, by computation.
use Rattle.std.proofs.Common.{◌≡◌, ℕ, List, [], ◌∷◌, ◌++◌, refl}
use Rattle.wc_journal.specs.declared.error.Found.TheVariants.{Byte, End}
use Rattle.wc_journal.specs.Reading.{no_journal, holds, damaged, header_misfit, generation_in, stated, wrong_kind, journal_of}

-- sixteen bytes with this first byte, this version and this generation below 256
abbrev sixteen : ℕ → ℕ → ℕ → List ℕ
sixteen first version generation =
    first ∷ 0x43 ∷ 0x4A ∷ 0x4E ∷ 0x4C ∷ 0 ∷ 0 ∷ version ∷ 0 ∷ 0 ∷ 0 ∷ 0 ∷ 0 ∷ 0 ∷ 0 ∷ generation ∷ []

-- a header of generation 1
abbrev header : ℕ → List ℕ
header version = sixteen 0x57 version 1

-- 14 bytes
abbrev payload : List ℕ
payload = 0 ∷ 0 ∷ 0 ∷ 1 ∷ 2 ∷ 1 ∷ 0 ∷ 0 ∷ 0 ∷ 0 ∷ 0 ∷ 0 ∷ 0 ∷ 5 ∷ []

-- ---- no journal
empty : journal_of [] ≡ no_journal
unfolding journal_of
empty = refl

one_byte : journal_of (0x57 ∷ []) ≡ no_journal
unfolding journal_of
one_byte = refl

header_not_opened : journal_of (sixteen 0 2 1 ++ 0 ∷ []) ≡ no_journal
unfolding journal_of
header_not_opened = refl

-- ---- a header
more_not_opened : journal_of (sixteen 0 2 1 ++ 0 ∷ 0 ∷ []) ≡ damaged 0 (Byte 0)
unfolding journal_of header_misfit
more_not_opened = refl

two_bytes : journal_of (0x57 ∷ 0x43 ∷ []) ≡ damaged 2 End
unfolding journal_of header_misfit
two_bytes = refl

header_alone : journal_of (header 2) ≡ damaged 16 End
unfolding journal_of header_misfit generation_in
header_alone = refl

version_three : journal_of (header 3 ++ 0 ∷ []) ≡ damaged 7 (Byte 3)
unfolding journal_of header_misfit
version_three = refl

no_generation : journal_of (sixteen 0x57 2 0 ++ 0 ∷ []) ≡ damaged 15 (Byte 0)
unfolding journal_of header_misfit generation_in
no_generation = refl

-- ---- gates
no_batch : journal_of (header 1 ++ 0 ∷ 9 ∷ []) ≡ holds 1 1 []
unfolding journal_of header_misfit generation_in
no_batch = refl

another_gate : journal_of (header 2 ++ 0xFF ∷ []) ≡ holds 2 1 []
unfolding journal_of header_misfit generation_in
another_gate = refl

-- ---- batches
first_version : journal_of (header 1 ++ 1 ∷ 0 ∷ 0 ∷ 0 ∷ 14 ∷ [] ++ payload ++ 0 ∷ []) ≡ holds 1 1 ((21, payload) ∷ [])
unfolding journal_of header_misfit generation_in stated wrong_kind
first_version = refl

second_version : journal_of (header 2 ++ 1 ∷ 1 ∷ 0 ∷ 0 ∷ 0 ∷ 0 ∷ 0 ∷ 0 ∷ 0 ∷ 14 ∷ [] ++ payload ++ 0 ∷ []) ≡ holds 2 1 ((26, payload) ∷ [])
unfolding journal_of header_misfit generation_in stated wrong_kind
second_version = refl

snapshot : journal_of (sixteen 0x57 2 2 ++ 1 ∷ 2 ∷ 0 ∷ 0 ∷ 0 ∷ 0 ∷ 0 ∷ 0 ∷ 0 ∷ 1 ∷ 7 ∷ 0 ∷ []) ≡ holds 2 2 ((26, 7 ∷ []) ∷ [])
unfolding journal_of header_misfit generation_in stated wrong_kind
snapshot = refl

wrong_batch : journal_of (header 2 ++ 1 ∷ 2 ∷ []) ≡ damaged 17 (Byte 2)
unfolding journal_of header_misfit generation_in stated wrong_kind
wrong_batch = refl

wrong_snapshot : journal_of (sixteen 0x57 2 2 ++ 1 ∷ 1 ∷ []) ≡ damaged 17 (Byte 1)
unfolding journal_of header_misfit generation_in stated wrong_kind
wrong_snapshot = refl

short_batch : journal_of (header 1 ++ 1 ∷ 0xFF ∷ 0xFF ∷ 0xFF ∷ 0xFF ∷ []) ≡ damaged 21 End
unfolding journal_of header_misfit generation_in stated wrong_kind
short_batch = refl

wrong_kind_first : journal_of (header 2 ++ 1 ∷ 0xFF ∷ 0xFF ∷ 0xFF ∷ 0xFF ∷ []) ≡ damaged 17 (Byte 0xFF)
unfolding journal_of header_misfit generation_in stated wrong_kind
wrong_kind_first = refl
