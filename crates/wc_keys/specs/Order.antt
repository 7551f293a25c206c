-- Digests in order, each with the number of a process.
use Rattle.std.specs.Prelude.{◌≡◌, ℕ, ◌<◌, ◌≤◌, ◌+◌, ◌==◌, Bool, true, false, ◌&&◌, if◌then◌else◌, List, [], ◌∷◌, length, filter, Option, Some, None, slice_index_or}
use Rattle.std.specs.List.{list_any}
use Rattle.std.specs.Str.{bytes_eq}
use Rattle.std.specs.declared.cmp.Ordering.{Ordering}
use Rattle.std.specs.Ordering.{nat_cmp, is_lt, ordering_then}
use Rattle.std.specs.Cmp.Lexicographic.{slice_cmp}
use Rattle.wc_value.specs.Ascending.{before}
use Rattle.wc_records.specs.Marked.{IsSorted, marked}
use Rattle.wc_keys.specs.declared.entries.Sealed.{Sealed}

-- by the digests' bytes, and then by the numbers
abbrev pub seal_cmp : Sealed → Sealed → Ordering
seal_cmp s t = ordering_then (slice_cmp nat_cmp s.digest t.digest) (nat_cmp s.pid t.pid)

-- one entry comes before another
abbrev pub earlier : Sealed → Sealed → Bool
earlier s t = is_lt (seal_cmp s t)

-- the entry has this digest and this number
abbrev pub is_seal : List ℕ → ℕ → Sealed → Bool
is_seal digest pid s = bytes_eq s.digest digest && (s.pid == pid)

-- there is such an entry
abbrev pub is_in : List ℕ → ℕ → List Sealed → Bool
is_in digest pid seals = list_any (is_seal digest pid) seals

-- the entries with a digest
abbrev pub with_digest : List ℕ → List Sealed → List Sealed
with_digest digest seals = filter (λ s. bytes_eq s.digest digest) seals

-- Each number is below those behind it.
abbrev pub NumbersAbove : ℕ → List Sealed → Type 0
NumbersAbove low [] = Unit {0}
NumbersAbove low (s ∷ seals) = (low < s.pid) × NumbersAbove s.pid seals

-- each number is below those behind it
abbrev pub NumbersAscend : List Sealed → Type 0
NumbersAscend [] = Unit {0}
NumbersAscend (s ∷ seals) = NumbersAbove s.pid seals

-- The digests before the place come before this one, and those from it on don't.
pub record IsDigestPlace (digest : List ℕ) (seals : List Sealed) (at : ℕ) : Type 0 where
  pub within : at ≤ length seals
  pub front : (k : ℕ) (s : Sealed) → k < at → before (slice_index_or seals k s).digest digest ≡ true
  pub back : (k : ℕ) (s : Sealed) → at ≤ k → k < length seals → before (slice_index_or seals k s).digest digest ≡ false

-- The entries before the place have this digest, and those from it on haven't.
pub record IsDigestRun (digest : List ℕ) (seals : List Sealed) (at : ℕ) : Type 0 where
  pub within : at ≤ length seals
  pub front : (k : ℕ) (s : Sealed) → k < at → bytes_eq (slice_index_or seals k s).digest digest ≡ true
  pub back : (k : ℕ) (s : Sealed) → at ≤ k → k < length seals → bytes_eq (slice_index_or seals k s).digest digest ≡ false

-- ---- the entries of processes

-- there is a digest, and it is this one
abbrev pub has_digest : List ℕ → Option (List ℕ) → Bool
has_digest digest None = false
has_digest digest (Some d) = bytes_eq d digest

-- The entries in order: each process that has a digest stands there with it, and nothing else does.
pub record AreSealsOf (digest_at : ℕ → Option (List ℕ)) (seals : List Sealed) : Type 0 where
  pub order : IsSorted earlier seals
  pub exact : (digest : List ℕ) (pid : ℕ) → is_in digest pid seals ≡ has_digest digest (digest_at pid)

-- the same digests, but none for this process
abbrev pub without : ℕ → (ℕ → Option (List ℕ)) → ℕ → Option (List ℕ)
without pid digest_at n = if n == pid then None else digest_at n

-- The entries with one digest, in order of their numbers: each process that has it stands there, and nothing else does.
pub record IsPartOf (digest_at : ℕ → Option (List ℕ)) (digest : List ℕ) (part : List Sealed) : Type 0 where
  pub ascending : NumbersAscend part
  pub exact : (other : List ℕ) (pid : ℕ) → is_in other pid part ≡ bytes_eq other digest && has_digest other (digest_at pid)

-- ---- entries in two lists

-- the list in order with those of another put in
abbrev pub joined : List Sealed → List Sealed → List Sealed
joined long [] = long
joined long (s ∷ short) = marked earlier s true (joined long short)

-- Both lists are in order, no entry stands in both, and there are places for all in the first.
pub record AreApart (long short : List Sealed) (places : ℕ) : Type 0 where
  pub long_order : IsSorted earlier long
  pub short_order : IsSorted earlier short
  pub apart : (digest : List ℕ) (pid : ℕ) → is_in digest pid short ≡ true → is_in digest pid long ≡ false
  pub few : length long + length short ≤ places

-- Both lists are in order, the second one has all entries of a digest of which it has one, and there are places for all in the first.
pub record AreTwo (long short : List Sealed) (places : ℕ) : Type 0 where
  pub long_order : IsSorted earlier long
  pub short_order : IsSorted earlier short
  pub whole : (digest : List ℕ) (pid other : ℕ) → is_in digest other short ≡ true → is_in digest pid long ≡ true → is_in digest pid short ≡ true
  pub few : length (joined long short) ≤ places
