-- What is opened of two disks.
use Rattle.std.specs.Prelude.{◌≡◌, ℕ, List, Option, Some, None}
use Rattle.wc_disk.specs.declared.disk.Disk as disk
use Rattle.wc_store.specs.declared.store.Store.{Store}
use Rattle.wc_store.specs.Choices.{no_store, chosen}
use Rattle.wc_store.specs.Stores.{StandsFor, IsOfImages}

-- the store stands for the disks, or there is none
abbrev pub Opens : {D : Type 0} → disk.Ghosts D → Option Store → D → D → Type 0
Opens g None one two = chosen (g.seen one) (g.seen two) ≡ no_store
Opens g (Some store) one two = StandsFor g store one two

-- the two images hold the store's world by its journal, or there is none
abbrev pub IsOpenedOf : Option Store → (one two : List ℕ) → Type 0
IsOpenedOf None one two = chosen one two ≡ no_store
IsOpenedOf (Some store) one two = IsOfImages store one two
