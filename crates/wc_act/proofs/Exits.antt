-- What each pair of images holds at any moment and at exit.
use Rattle.std.proofs.Common.{◌≡◌, ◌≤◌, inl, inr, ⊎_elim, ℕ, List, Option, sym, subst}
use Rattle.wc_journal.specs.declared.journal.Journal.{Journal}
use Rattle.wc_disk.specs.declared.disk.Disk as disk
use Rattle.wc_world.specs.World.{World}
use Rattle.wc_machine.specs.Sound.{IsSound}
use Rattle.wc_store.specs.Held.{IsHeld, nothing, a_world}
use Rattle.wc_store.specs.Laws.{HeldIsOne}
use Rattle.wc_plan.specs.declared.status.Fault.{Fault}
use Rattle.wc_plan.specs.declared.status.Status.{Status}
use Rattle.wc_plan.specs.declared.status.Status.TheVariants as status
use Rattle.wc_act.specs.Crashes.{EachPair, HoldsSound, HoldsTheSame, AreDurable, HoldsKeeping, Kept, BegunBy, MadeBy, LeavesMade, StaySound}
use Rattle.wc_act.specs.Exchanges.{Exchange}
use Rattle.wc_act.specs.StoreDeeds.{Images}
use Rattle.wc_act.proofs.Moments.{weaker_moments, exit_moments}

no_world : (w : World) → nothing ≡ a_world w → ⊥
no_world w h = cc

same_world : (v w : World) → a_world v ≡ a_world w → v ≡ w
same_world v w h = cc

-- a sound world is kept
keeping_sound : HeldIsOne → (makes : Images → World → World → Images → Type 0) (one two a b : List ℕ) (w : World) → HoldsSound one two → IsHeld one two (a_world w) → HoldsKeeping makes (one, two) w a b
    → HoldsSound a b
keeping_sound law makes one two a b w (inl none) held keeping = absurd (no_world w (law one two nothing (a_world w) none held))
keeping_sound law makes one two a b w (inr sound) held keeping =
    let same : sound.0 ≡ w = same_world sound.0 w (law one two (a_world sound.0) (a_world w) sound.1 held) in
    inr (keeping.0, keeping.1, (keeping.3 (subst IsSound same sound.2)).sound)

module _ {D : Type 0} (g : disk.Ghosts D) where
  kept_sound : HeldIsOne → (begins : World → Journal → Type 0) (makes : Images → World → World → Images → Type 0) (one two : D) (a b : List ℕ) → EachPair g one two HoldsSound
      → g.may_leave one (g.seen one) → g.may_leave two (g.seen two) → Kept g begins makes one two a b → HoldsSound a b
  kept_sound law begins makes one two a b entry reads reads_too (inl was) = entry a b was.0 was.1
  kept_sound law begins makes one two a b entry reads reads_too (inr (inl begun)) =
      ⊎_elim (λ none. inl none) (λ h. inr (h.world, h.held, h.sound.sound)) begun.held
  kept_sound law begins makes one two a b entry reads reads_too (inr (inr h)) =
      keeping_sound law makes (g.seen one) (g.seen two) a b h.0 (entry (g.seen one) (g.seen two) reads reads_too) h.1 h.2

  pub durable_same : (one two : D) → AreDurable g one two → EachPair g one two (HoldsTheSame g one two)
  durable_same one two durable a b left left_too s held =
      subst (λ (x : List ℕ). IsHeld a x s) (sym (durable.durable_two b left_too))
      (subst (λ (x : List ℕ). IsHeld x (g.seen two) s) (sym (durable.durable_one a left)) held)

  pub stay_sound : HeldIsOne → ((d : D) (image : List ℕ) → g.left_since d (g.moment d) image → g.may_leave d image)
      → ((d : D) (t : ℕ) (image : List ℕ) → t ≤ g.moment d → g.may_leave d image → g.left_since d t image)
      → (told : Option (List ℕ → Option (List ℕ))) (words : List (List ℕ)) (e : Exchange) (one two one_new two_new : D) (result : Status) → EachPair g one two HoldsSound
      → g.may_leave one (g.seen one) → g.may_leave two (g.seen two) → LeavesMade g told words e one two one_new two_new
      → ((disk at : ℕ) (found : Option ℕ) → result ≡ status.Damaged disk at found → ⊥) → ((f : Fault) → result ≡ status.Unsound f → ⊥) → StaySound g one two one_new two_new result
  stay_sound law at_now counts told words e one two one_new two_new result entry reads reads_too made whole faultless =
      let moments = weaker_moments g at_now counts one two one_new two_new (Kept g (BegunBy told words) (MadeBy told words e) one two) HoldsSound
      (λ a b. kept_sound law (BegunBy told words) (MadeBy told words e) one two a b entry reads reads_too) made in
      record { moments = moments; exit = exit_moments g at_now counts one two one_new two_new HoldsSound moments; whole = whole; faultless = faultless }
