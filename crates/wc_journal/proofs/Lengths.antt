-- How long a file stays.
use Rattle.std.proofs.Common.{◌≤◌, ℕ, List, length, max, ap, arith}
use Rattle.std.specs.Prelude.{IsTrue}
use Rattle.wc_disk.specs.declared.disk.Disk as disk
use Rattle.wc_disk.specs.Steps.{Only}
use Rattle.wc_disk.specs.Images.{LeavesOnly}
use Rattle.wc_disk.proofs.Runs.{no_call}
use Rattle.wc_journal.specs.Journals.{StaysWithin}

module _ {D : Type 0} (g : disk.Ghosts D) where
  -- a disk reads as one of the images that a crash leaves
  pub stays_by : (old new : D) (most : ℕ) → ((disk : D) → IsTrue (g.tells disk) → g.may_leave disk (g.seen disk))
      → ((disk : D) (t : ℕ) (image : List ℕ) → t ≤ g.moment disk → g.may_leave disk image → g.left_since disk t image)
      → IsTrue (g.tells new) → LeavesOnly g old new (λ image. length image ≤ most) → StaysWithin g most old new
  stays_by old new most reads_as counts_now told run = record {
    file = run.each (g.seen new) (counts_now new (g.moment old) (g.seen new) run.later (reads_as new told));
    images = run;
  }

  -- a disk that isn't called has the bytes that it had
  pub stays_uncalled : (d : D) (size : ℕ) → ((disk : D) (image : List ℕ) → g.left_since disk (g.moment disk) image → g.may_leave disk image)
      → Only (g.seen d) (g.may_leave d) → StaysWithin g (max (length (g.seen d)) size) d d
  stays_uncalled d size only_now only = record {
    file = omega arith;
    images = no_call g d (λ image. length image ≤ max (length (g.seen d)) size) (λ image left. omega (arith, ap length (only image (only_now d image left))));
  }
