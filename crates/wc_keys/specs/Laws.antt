-- Laws of entries in order.
use Rattle.std.specs.Prelude.{◌≡◌, ℕ, List, Option}
use Rattle.wc_keys.specs.declared.entries.Sealed.{Sealed}
use Rattle.wc_keys.specs.Order.{AreSealsOf, IsPartOf, with_digest}

-- There is one list of entries for the digests of processes.
abbrev pub OneList : Type 0
OneList = (digest_at : ℕ → Option (List ℕ)) (xs ys : List Sealed) → AreSealsOf digest_at xs → AreSealsOf digest_at ys → xs ≡ ys

-- The part of it with one digest has exactly the processes with that digest, in order of their numbers.
abbrev pub PartsAreExact : Type 0
PartsAreExact = (digest_at : ℕ → Option (List ℕ)) (seals : List Sealed) (digest : List ℕ) → AreSealsOf digest_at seals → IsPartOf digest_at digest (with_digest digest seals)
