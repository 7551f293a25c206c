-- Entries where the digests may not be made.
use Rattle.std.proofs.Common.{◌≡◌, ℕ, Bool, true, false, List, Option}
use Rattle.wc_keys.specs.declared.entries.Sealed.{Sealed}
use Rattle.wc_keys.specs.Order.{AreSealsOf}
use Rattle.wc_keys.proofs.Exact.{exact_same}
use Rattle.wc_world.specs.Digested.{AreMadeOf}

-- where they are made, the entries are all there
pub made_all : (made : Bool) (f : ℕ → Option (List ℕ)) (seals : List Sealed) → made ≡ true → AreMadeOf made f seals → AreSealsOf f seals
made_all true f seals e h = h
made_all false f seals e h = absurd (cc)

pub all_made : (made : Bool) (f : ℕ → Option (List ℕ)) (seals : List Sealed) → made ≡ true → AreSealsOf f seals → AreMadeOf made f seals
all_made true f seals e h = h
all_made false f seals e h = absurd (cc)

pub none_made : (made : Bool) (f : ℕ → Option (List ℕ)) (seals : List Sealed) → made ≡ false → AreMadeOf made f seals
none_made true f seals e = absurd (cc)
none_made false f seals e = tt

-- the same digests have the same entries
pub made_same : (made : Bool) (f g : ℕ → Option (List ℕ)) (seals : List Sealed) → ((n : ℕ) → f n ≡ g n) → AreMadeOf made f seals → AreMadeOf made g seals
made_same true f g seals same h = exact_same f g seals same h
made_same false f g seals same h = tt
