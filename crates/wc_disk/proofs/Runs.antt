-- How a run of calls on a disk goes on.
use Rattle.std.proofs.Common.{inl, inr, ⊎_elim, ℕ, List, arith}
use Rattle.wc_disk.specs.declared.disk.Disk as disk
use Rattle.wc_disk.specs.Steps.{Elapses}
use Rattle.wc_disk.specs.Images.{LeavesOnly}

module _ {D : Type 0} (g : disk.Ghosts D) where
  -- no call at all
  pub no_call : (old : D) (P : List ℕ → Type 0) → ((image : List ℕ) → g.left_since old (g.moment old) image → P image) → LeavesOnly g old old P
  no_call old P here = record { later = omega arith; each = here; before = λ t image le left. inl left }

  -- one call more, after which a crash leaves what has P
  pub goes_on : (old mid new : D) (P : List ℕ → Type 0) → LeavesOnly g old mid P
      → Elapses (g.moment mid) (g.moment new) (g.left_since mid) (g.left_since new) (g.may_leave new)
      → ((image : List ℕ) → g.may_leave new image → P image) → LeavesOnly g old new P
  goes_on old mid new P so_far time then = record {
    later = omega (arith, so_far.later, time.later);
    each = λ image left. ⊎_elim (so_far.each image) (then image) (time.nothing_else (g.moment old) image so_far.later left);
    before = λ t image le left.
        ⊎_elim (so_far.before t image le) (λ now. inr (then image now)) (time.nothing_else t image (omega (arith, le, so_far.later)) left);
  }

  -- one run after another
  pub both_runs : (old mid new : D) (P Q R : List ℕ → Type 0) → LeavesOnly g old mid P → LeavesOnly g mid new Q
      → ((image : List ℕ) → P image → R image) → ((image : List ℕ) → Q image → R image) → LeavesOnly g old new R
  both_runs old mid new P Q R first second from_first from_second = record {
    later = omega (arith, first.later, second.later);
    each = λ image left.
        ⊎_elim (λ past. from_first image (first.each image past)) (λ now. from_second image now) (second.before (g.moment old) image first.later left);
    before = λ t image le left.
        ⊎_elim (λ past. ⊎_elim (λ was. inl was) (λ was. inr (from_first image was)) (first.before t image le past)) (λ now. inr (from_second image now))
        (second.before t image (omega (arith, le, first.later)) left);
  }

  -- what has P has R
  pub weaker_run : (old new : D) (P R : List ℕ → Type 0) → LeavesOnly g old new P → ((image : List ℕ) → P image → R image) → LeavesOnly g old new R
  weaker_run old new P R run weaker = record {
    later = run.later;
    each = λ image left. weaker image (run.each image left);
    before = λ t image le left. ⊎_elim (λ was. inl was) (λ is. inr (weaker image is)) (run.before t image le left);
  }
