-- What the runs of a few calls leave.
use Rattle.std.proofs.Common.{◌≡◌, ℕ, ◌+◌, ◌≤◌, List, ◌++◌, length, take, sym, ◌∙◌, ap, subst, arith}
use Rattle.std.proofs.lemmas.List.{length-take, take-take, drop_all, append-nil}
use Rattle.wc_disk.specs.declared.disk.Disk as disk
use Rattle.wc_disk.specs.Steps.{overwritten, Torn, Cut, Follows, IsWithin, Only, Elapses}
use Rattle.wc_disk.specs.Images.{LeavesOnly}
use Rattle.wc_disk.proofs.Outcomes.{torn_same}
use Rattle.wc_disk.proofs.Runs.{no_call, goes_on}

-- bytes behind the first, where nothing else is
pub behind_first : (file bytes : List ℕ) → overwritten 1 bytes (take 1 file) ≡ take 1 file ++ bytes
behind_first file bytes =
    (λ i. (take-take 1 1 file (omega arith) i ++ bytes) ++ drop_all (1 + length bytes) (take 1 file) (omega (arith, length-take 1 file)) i)
    ∙ append-nil (take 1 file ++ bytes)

module _ {D : Type 0} (g : disk.Ghosts D) where
  -- a write and a sync, from a disk on which nothing is pending
  pub put_run : (old mid new : D) (at n : ℕ) → ((image : List ℕ) → g.left_since old (g.moment old) image → g.may_leave old image) → Only (g.seen old) (g.may_leave old)
      → Follows (Torn at n (length (g.seen old))) (g.may_leave old) (g.may_leave mid) → IsWithin (g.may_leave mid) (g.may_leave new)
      → Elapses (g.moment old) (g.moment mid) (g.left_since old) (g.left_since mid) (g.may_leave mid)
      → Elapses (g.moment mid) (g.moment new) (g.left_since mid) (g.left_since new) (g.may_leave new) → LeavesOnly g old new (Torn at n (length (g.seen old)) (g.seen old))
  put_run old mid new at n only_now only follows within first second =
      let P : List ℕ → Type 0 = Torn at n (length (g.seen old)) (g.seen old) in
      let begun = no_call g old P (λ image left. subst P (sym (only image (only_now image left))) (torn_same at n (length (g.seen old)) (g.seen old))) in
      let written = goes_on g old old mid P begun first (λ image now. torn image now) in
      goes_on g old mid new P written second (λ image now. torn image (within image now))
    where
      torn : (image : List ℕ) → g.may_leave mid image → Torn at n (length (g.seen old)) (g.seen old) image
      torn image now =
          let from = follows image now in subst (λ (d : List ℕ). Torn at n (length (g.seen old)) d image) (only from.0 from.1) from.2

  -- a cut behind the first byte, a write there and a sync
  pub first_run : (old mid then new : D) (n end : ℕ) → ((image : List ℕ) → g.left_since old (g.moment old) image → g.may_leave old image) → Only (g.seen old) (g.may_leave old)
      → 1 ≤ length (g.seen old) → Follows (Cut 1) (g.may_leave old) (g.may_leave mid) → Follows (Torn 1 n end) (g.may_leave mid) (g.may_leave then)
      → IsWithin (g.may_leave then) (g.may_leave new)
      → Elapses (g.moment old) (g.moment mid) (g.left_since old) (g.left_since mid) (g.may_leave mid)
      → Elapses (g.moment mid) (g.moment then) (g.left_since mid) (g.left_since then) (g.may_leave then)
      → Elapses (g.moment then) (g.moment new) (g.left_since then) (g.left_since new) (g.may_leave new) → LeavesOnly g old new (λ image. take 1 image ≡ take 1 (g.seen old))
  first_run old mid then new n end only_now only some cuts tears within first second third =
      let P : List ℕ → Type 0 = λ image. take 1 image ≡ take 1 (g.seen old) in
      let begun = no_call g old P (λ image left. ap (λ (l : List ℕ). take 1 l) (only image (only_now image left))) in
      let cut = goes_on g old old mid P begun first (λ image now. after_cut image now) in
      let written = goes_on g old mid then P cut second (λ image now. after_write image now) in
      goes_on g old then new P written third (λ image now. after_write image (within image now))
    where
      after_cut : (image : List ℕ) → g.may_leave mid image → take 1 image ≡ take 1 (g.seen old)
      after_cut image now =
          let from = cuts image now in
          let is : from.0 ≡ g.seen old = only from.0 from.1 in
          let long : 1 ≤ length image = omega (arith, from.2.no_shorter, ap length is) in
          ap (λ (l : List ℕ). take 1 l) from.2.front ∙ take-take 1 (length image) from.0 long ∙ ap (λ (l : List ℕ). take 1 l) is

      after_write : (image : List ℕ) → g.may_leave then image → take 1 image ≡ take 1 (g.seen old)
      after_write image now = let from = tears image now in from.2.before ∙ after_cut from.0 from.1
