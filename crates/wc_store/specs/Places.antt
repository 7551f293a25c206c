-- The two disks of a store.
use Rattle.std.specs.Prelude.{ℕ}
use Rattle.wc_store.specs.declared.place.Place.{Place}
use Rattle.wc_store.specs.declared.place.Place.TheVariants.{One, Two}

-- disk one is 1, and disk two is 2
abbrev pub number_of : Place → ℕ
number_of One = 1
number_of Two = 2

-- the other one of two disks
abbrev pub opposite : Place → Place
opposite One = Two
opposite Two = One

-- the disk at the place, of disk one and disk two
abbrev pub its : {T : Type 0} → Place → T → T → T
its One one two = one
its Two one two = two
