-- Entries moved from the second list into the gap of the first, from the last on.
use Rattle.std.proofs.Common.{◌≡◌, ℕ, ◌+◌, ◌<◌, ◌≤◌, true, false, List, ◌∷◌, length, get_or, take, drop, sym, ap, ◌∙◌, subst, arith}
use Rattle.std.specs.Prelude.{slice_get}
use Rattle.std.specs.List.{insert}
use Rattle.std.proofs.lemmas.List.{drop_more}
use Rattle.std.proofs.lemmas.List.Folds.{list_any_at}
use Rattle.wc_records.specs.Marked.{IsSorted, IsPlace, is_item}
use Rattle.wc_records.proofs.Marks.{marked_absent}
use Rattle.wc_keys.specs.declared.entries.Sealed.{Sealed}
use Rattle.wc_keys.specs.Order.{earlier, is_seal, is_in, joined, AreApart}
use Rattle.wc_keys.specs.Gaps.{HasGap, PutsInGap, NoneBefore}
use Rattle.wc_keys.proofs.Exact.{absent}
use Rattle.wc_keys.proofs.Gaps.{place, put_gap, put_none}
use Rattle.wc_keys.proofs.Joined.{neither, in_joined, sorted_joined, found_at}
use Rattle.wc_keys.proofs.Orders.{in_order, seal_tests}
use Rattle.wc_keys.proofs.Sorting.{sorted_drop}

module _ (long short : List Sealed) (places : ℕ) (h : AreApart long short places) (gap left : ℕ) (one : gap ≡ left + 1) (few : gap ≤ length short) (s : Sealed) (is : get_or short left s ≡ s) where
  within : left < length short
  within = omega (arith, one, few)

  -- the entry before those that are moved
  next : drop left short ≡ s ∷ drop gap short
  next = drop_more short left s within ∙ (λ i. is i ∷ drop (sym one i) short)

  -- it isn't among those, nor in the first list
  not_moved : is_in s.digest s.pid (joined long (drop gap short)) ≡ false
  not_moved =
      let up : IsSorted earlier (s ∷ drop gap short) = subst (IsSorted earlier) next (sorted_drop earlier left short h.short_order) in
      let there : is_in s.digest s.pid short ≡ true = list_any_at (is_seal s.digest s.pid) short left s within (ap (is_seal s.digest s.pid) is ∙ (seal_tests s).itself) in
      in_joined long (drop gap short) h.long_order s.digest s.pid
      ∙ neither (is_in s.digest s.pid long) (is_in s.digest s.pid (drop gap short)) (h.apart s.digest s.pid there) (absent s (drop gap short) up.0)

  module _ (old new : List Sealed) (at to : ℕ) (spread : HasGap old (joined long (drop gap short)) at gap) (p : IsPlace earlier s (take at old) to)
      (none : NoneBefore earlier (joined long (drop gap short)) at short gap) where
    abbrev all : List Sealed
    all = joined long (drop gap short)

    put : insert all to s ≡ joined long (drop left short)
    put =
        let at_all = place earlier in_order old new all short at to gap left s one spread p none is within in
        let missing : is_item (is_seal s.digest s.pid) (slice_get all to) ≡ false = found_at all (sorted_joined long (drop gap short) h.long_order) s to at_all ∙ not_moved in
        marked_absent earlier in_order (is_seal s.digest s.pid) s (seal_tests s) all to at_all missing true ∙ sym (ap (joined long) next)

    module _ (puts : PutsInGap old new at to gap s) where
      pub move_gap : HasGap new (joined long (drop left short)) to left
      move_gap = subst (λ (xs : List Sealed). HasGap new xs to left) put (put_gap earlier in_order old new all short at to gap left s one spread p none is within puts)

      pub move_none : NoneBefore earlier (joined long (drop left short)) to short left
      move_none = subst (λ (xs : List Sealed). NoneBefore earlier xs to short left) put (put_none earlier in_order old new all short at to gap left s one spread p none is within puts h.short_order)
