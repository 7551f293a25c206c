-- What is said of an image that was read from a disk.
use Rattle.std.specs.Prelude.{◌≡◌, ℕ, List, IsTrue}
use Rattle.wc_disk.specs.declared.disk.Disk as disk

-- Some image is as P says: the one that the disk reads as, where it tells its bytes.
pub record OfImage {D : Type 0} (g : disk.Ghosts D) (d : D) (P : (image : List ℕ) → Type 0) : Type 0 where
  pub image : List ℕ
  pub told : IsTrue (g.tells d) → image ≡ g.seen d
  pub is : P image
