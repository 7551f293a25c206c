-- What a call leaves at any moment.
use Rattle.std.proofs.Common.{◌≡◌, ◌⊎◌, ◌≤◌, inl, inr, ⊎_elim, ℕ, Bool, IsTrue, List, Option, sym, subst, ◌∙◌, arith}
use Rattle.wc_disk.specs.declared.disk.Disk as disk
use Rattle.wc_disk.specs.Images.{LeavesOnly}
use Rattle.wc_disk.specs.Steps.{Only}
use Rattle.wc_disk.proofs.Runs.{no_call, weaker_run}
use Rattle.wc_store.specs.Held.{IsHeld, nothing}
use Rattle.wc_store.specs.Stores.{InTwoParts}
use Rattle.wc_cli.specs.Words.{command_of}
use Rattle.wc_plan.specs.declared.deed.Deed.{Deed}
use Rattle.wc_plan.specs.declared.deed.Plan.TheVariants as plan
use Rattle.wc_act.specs.Crashes.{EachPair, HoldsBegun, LeavesPairs, LeavesKept, ComesOfNothing, Kept, OneSide, AtAnyMoment, IsOfEachMoment, BegunBy, MadeBy, LeavesMade}
use Rattle.wc_act.specs.Exchanges.{Exchange}
use Rattle.wc_plan.specs.Plans.{Plans}
use Rattle.wc_act.specs.Rows.{row}

-- the two disks in the other order
other_order : {D : Type 0} (g : disk.Ghosts D) (one two one_new two_new : D) (P : List ℕ → List ℕ → Type 0) → InTwoParts g one two one_new two_new P
    → InTwoParts g two one two_new one_new (λ b a. P a b)
other_order g one two one_new two_new P parts = record {
  one_between = parts.two_between;
  two_between = parts.one_between;
  first_one = parts.first_two;
  first_two = parts.first_one;
  later_one = parts.later_two;
  later_two = parts.later_one;
  pairs = λ b a lb la. parts.pairs a b la lb;
  since_one = parts.since_two;
  since_two = parts.since_one;
}

module _ {D : Type 0} (g : disk.Ghosts D) (at_now : (d : D) (image : List ℕ) → g.left_since d (g.moment d) image → g.may_leave d image)
    (counts : (d : D) (t : ℕ) (image : List ℕ) → t ≤ g.moment d → g.may_leave d image → g.left_since d t image) where
  -- a call in two parts, of which one disk is not written
  one_side : (one two one_new two_new : D) (P : List ℕ → List ℕ → Type 0) → ((a b : List ℕ) → g.may_leave one a → g.may_leave two b → P a b)
      → LeavesOnly g one one_new (g.may_leave one) → InTwoParts g one two one_new two_new P → OneSide g one one_new two two_new P
  one_side one two one_new two_new P entry still parts = record {
    rest_only = still;
    own_only = record {
      later = omega (arith, parts.first_two.later, parts.later_two);
      each = λ b left a now. ⊎_elim
          (λ earlier. entry a b (entered a now) (parts.first_two.each b earlier))
          (λ f. f a (counts one_new (g.moment parts.one_between) a parts.later_one now))
          (parts.since_two (g.moment two) b parts.first_two.later left);
      before = λ t b le left. ⊎_elim
          (λ earlier. ⊎_elim (λ old. inl old) (λ image. inr (λ a now. entry a b (entered a now) image)) (parts.first_two.before t b le earlier))
          (λ f. inr (λ a now. f a (counts one_new (g.moment parts.one_between) a parts.later_one now)))
          (parts.since_two t b (omega (arith, le, parts.first_two.later)) left);
    };
  }
    where
      entered : (a : List ℕ) → g.may_leave one_new a → g.may_leave one a
      entered a now = still.each a (counts one_new (g.moment one) a still.later now)

  pub at_moments : (one two one_new two_new : D) (P : List ℕ → List ℕ → Type 0) → ((a b : List ℕ) → g.may_leave one a → g.may_leave two b → P a b)
      → LeavesPairs g one two one_new two_new P → AtAnyMoment g one two one_new two_new P
  at_moments one two one_new two_new P entry leaves =
      ⊎_elim (λ still. inl (one_side one two one_new two_new P entry still leaves.parts))
      (λ still.
      inr (one_side two one two_new one_new (λ b a. P a b) (λ b a lb la. entry a b la lb) still (other_order g one two one_new two_new P leaves.parts)))
      leaves.one_writes

  weaker_side : (rest rest_new own own_new : D) (P Q : List ℕ → List ℕ → Type 0) → ((a b : List ℕ) → P a b → Q a b) → OneSide g rest rest_new own own_new P
      → OneSide g rest rest_new own own_new Q
  weaker_side rest rest_new own own_new P Q weaker side = record {
    rest_only = side.rest_only;
    own_only = weaker_run g own own_new (λ b. (a : List ℕ) → g.may_leave rest_new a → P a b) (λ b. (a : List ℕ) → g.may_leave rest_new a → Q a b) side.own_only
        (λ b h a now. weaker a b (h a now));
  }

  pub weaker_moments : (one two one_new two_new : D) (P Q : List ℕ → List ℕ → Type 0) → ((a b : List ℕ) → P a b → Q a b) → AtAnyMoment g one two one_new two_new P
      → AtAnyMoment g one two one_new two_new Q
  weaker_moments one two one_new two_new P Q weaker =
      ⊎_elim (λ side. inl (weaker_side one one_new two two_new P Q weaker side))
      (λ side. inr (weaker_side two two_new one one_new (λ b a. P a b) (λ b a. Q a b) (λ b a. weaker a b) side))

  -- no disk is asked
  pub unasked_moments : (one two : D) (P : List ℕ → List ℕ → Type 0) → ((a b : List ℕ) → g.may_leave one a → g.may_leave two b → P a b) → AtAnyMoment g one two one two P
  unasked_moments one two P entry =
      inl (record {
        rest_only = no_call g one (g.may_leave one) (at_now one);
        own_only = no_call g two (λ b. (a : List ℕ) → g.may_leave one a → P a b) (λ b left a now. entry a b now (at_now two b left));
      })

  side_exit : (rest rest_new own own_new : D) (P : List ℕ → List ℕ → Type 0) → OneSide g rest rest_new own own_new P → (a b : List ℕ) → g.may_leave rest_new a
      → g.may_leave own_new b → P a b
  side_exit rest rest_new own own_new P side a b la lb = side.own_only.each b (counts own_new (g.moment own) b side.own_only.later lb) a la

  -- at exit
  pub exit_moments : (one two one_new two_new : D) (P : List ℕ → List ℕ → Type 0) → AtAnyMoment g one two one_new two_new P → EachPair g one_new two_new P
  exit_moments one two one_new two_new P (inl side) a b la lb = side_exit one one_new two two_new P side a b la lb
  exit_moments one two one_new two_new P (inr side) a b la lb = side_exit two two_new one one_new (λ y x. P x y) side b a lb la

  -- a disk that is not written, and on which nothing is pending at entry, has at any moment the image alone that it may leave at exit
  beside_each : (rest rest_new own own_new : D) (P : List ℕ → List ℕ → Type 0) → g.may_leave rest_new (g.seen rest_new) → Only (g.seen rest) (g.may_leave rest)
      → OneSide g rest rest_new own own_new P → (a b : List ℕ) → g.left_since rest_new (g.moment rest) a → g.left_since own_new (g.moment own) b → P a b
  beside_each rest rest_new own own_new P reads durable side a b la lb =
      side.own_only.each b lb a (subst (g.may_leave rest_new) (same ∙ sym (durable a (side.rest_only.each a la))) reads)
    where
      same : g.seen rest_new ≡ g.seen rest
      same = durable (g.seen rest_new) (side.rest_only.each (g.seen rest_new) (counts rest_new (g.moment rest) (g.seen rest_new) side.rest_only.later reads))

  pub each_moment : ((d : D) → IsTrue (g.tells d) → g.may_leave d (g.seen d)) → ((d e : D) → g.tells d ≡ g.tells e) → (one two one_new two_new : D)
      (P : List ℕ → List ℕ → Type 0) → IsOfEachMoment g one two one_new two_new P
  each_moment reads_as alike one two one_new two_new P tells rests (inl side) a b la lb =
      beside_each one one_new two two_new P (reads_as one_new (subst (λ (t : Bool). IsTrue t) (alike one one_new) tells)) (rests.rests_one side.rest_only) side a b la lb
  each_moment reads_as alike one two one_new two_new P tells rests (inr side) a b la lb =
      beside_each two two_new one one_new (λ y x. P x y) (reads_as two_new (subst (λ (t : Bool). IsTrue t) (alike one two_new) tells)) (rests.rests_two side.rest_only) side b a lb la

  -- ---- by words

  module _ (told : Option (List ℕ → Option (List ℕ))) (words : List (List ℕ)) where
    pub made_unasked : (e : Exchange) (one two : D) → LeavesMade g told words e one two one two
    made_unasked e one two = unasked_moments one two (Kept g (BegunBy told words) (MadeBy told words e) one two) (λ a b la lb. inl (la, lb))

    -- what a deed begins is begun by the words that plan it
    begun_by : (d : Deed) (one two a b : List ℕ) → Plans told (command_of words) (plan.On d) → ComesOfNothing (row d).begins one two a b
        → ComesOfNothing (BegunBy told words) one two a b
    begun_by d one two a b plans begun = record {
      before = begun.before;
      some = (begun.some.0, begun.some.1, (d, plans, begun.some.2));
      held = ⊎_elim (λ none. inl none) by_words begun.held;
    }
      where
        by_words : HoldsBegun (row d).begins a b → IsHeld a b nothing ⊎ HoldsBegun (BegunBy told words) a b
        by_words h = inr (record { world = h.world; held = h.held; journal = h.journal; kept = h.kept; place = h.place; begun = (d, plans, h.begun); sound = h.sound })

    pub made : (e : Exchange) (d : Deed) (one two one_new two_new : D) → Plans told (command_of words) (plan.On d)
        → LeavesKept g (row d).begins ((row d).makes e) one two one_new two_new → LeavesMade g told words e one two one_new two_new
    made e d one two one_new two_new plans leaves =
        weaker_moments one two one_new two_new (Kept g (row d).begins ((row d).makes e) one two) (Kept g (BegunBy told words) (MadeBy told words e) one two)
        (λ a b. ⊎_elim (λ was. inl was)
        (⊎_elim (λ begun. inr (inl (begun_by d (g.seen one) (g.seen two) a b plans begun)))
        (λ k. inr (inr (k.0, k.1, (k.2.0, k.2.1, (d, plans, k.2.2), k.2.3))))))
        leaves
