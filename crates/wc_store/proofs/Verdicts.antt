-- What two disks tell of a store.
use Rattle.std.proofs.Common.{◌≡◌, ℕ, ◌<◌, ◌≤◌, Bool, true, false, List, Option, sym, ◌∙◌, ap, subst, arith}
use Rattle.std.specs.Prelude.{◌==◌, nat_lt, if◌then◌else◌}
use Rattle.std.proofs.lemmas.Bool.Decides.{nat_tests}
use Rattle.wc_disk.specs.declared.disk.Disk as disk
use Rattle.wc_disk.specs.Steps.{Only}
use Rattle.wc_journal.specs.declared.error.Found.{Found}
use Rattle.wc_journal.specs.declared.journal.Journal.{Journal}
use Rattle.wc_journal.specs.declared.journal.Loaded.{Loaded}
use Rattle.wc_journal.specs.Reading.{Placed, Held, no_journal, holds, damaged, journal_of, batches_of, end_of}
use Rattle.wc_journal.specs.Journals.{IsJournalOf, IsSettled}
use Rattle.wc_store.specs.declared.place.Place.{Place}
use Rattle.wc_store.specs.declared.place.Place.TheVariants.{One, Two}
use Rattle.wc_store.specs.declared.choice.Seen.TheVariants.{Bare, Broken, Holding}
use Rattle.wc_store.specs.declared.choice.Verdict.{Verdict}
use Rattle.wc_store.specs.Places.{its}
use Rattle.wc_store.specs.Choices.{Choice, broken, found_at, without_journal, settled_on, later_of, chosen_of, chosen, journal_in}
use Rattle.wc_store.specs.Sights.{Shows, Tells}

-- ---- of two journals
module _ (one two : List ℕ) (v g : ℕ) (bs : Placed) (w h : ℕ) (cs : Placed) (apart : g ≡ h → ⊥) where
  ordered : later_of one two v g bs w h cs ≡ (if nat_lt h g then settled_on 1 one v g bs else settled_on 2 two w h cs)
  ordered =
      let other : (g == h) ≡ false = grind (arith, nat_tests) in
      ap (λ (c : Bool). if c then broken 2 15 (found_at two 15) else if nat_lt h g then settled_on 1 one v g bs else settled_on 2 two w h cs) other

  pub first_later : h < g → later_of one two v g bs w h cs ≡ settled_on 1 one v g bs
  first_later less =
      let less_so : nat_lt h g ≡ true = grind (arith, nat_tests) in
      ordered ∙ ap (λ (c : Bool). if c then settled_on 1 one v g bs else settled_on 2 two w h cs) less_so

  pub second_later : g ≤ h → later_of one two v g bs w h cs ≡ settled_on 2 two w h cs
  second_later no_less =
      let not_so : nat_lt h g ≡ false = grind (arith, nat_tests) in
      ordered ∙ ap (λ (c : Bool). if c then settled_on 1 one v g bs else settled_on 2 two w h cs) not_so

pub tells_same : (choice other : Choice) (one two : List ℕ) (verdict : Verdict) → other ≡ choice → Tells choice one two verdict → Tells other one two verdict
tells_same choice other one two verdict same tells = subst (λ (c : Choice). Tells c one two verdict) (sym same) tells

-- ---- of all that is seen
module _ (one two : List ℕ) where
  chosen_from : (first second : Held) → journal_in one ≡ first → journal_in two ≡ second → chosen one two ≡ chosen_of one two first second
  unfolding chosen
  chosen_from first second is there = λ i. chosen_of one two (is i) (there i)

  pub first_broken : (at : ℕ) (found : Found) → Shows one (Broken at found) → chosen one two ≡ broken 1 at found
  unfolding chosen
  first_broken at found first = ap (λ (held : Held). chosen_of one two held (journal_in two)) first

  pub second_broken : (foreign : Option Found) (at : ℕ) (found : Found) → Shows one (Bare foreign) → Shows two (Broken at found) → chosen one two ≡ broken 2 at found
  second_broken foreign at found first second = chosen_from no_journal (damaged at found) first.0 second

  pub second_broken_beside : (a : Loaded) (at : ℕ) (found : Found) → Shows one (Holding a) → Shows two (Broken at found) → chosen one two ≡ broken 2 at found
  second_broken_beside a at found first second = chosen_from (holds a.journal.version a.journal.generation a.batches.placed) (damaged at found) first.counts second

  pub both_bare : (foreign other : Option Found) → Shows one (Bare foreign) → Shows two (Bare other) → chosen one two ≡ without_journal one two
  both_bare foreign other first second = chosen_from no_journal no_journal first.0 second.0

  pub second_holds : (foreign : Option Found) (b : Loaded) → Shows one (Bare foreign) → Shows two (Holding b)
      → chosen one two ≡ settled_on 2 two b.journal.version b.journal.generation b.batches.placed
  second_holds foreign b first second = chosen_from no_journal (holds b.journal.version b.journal.generation b.batches.placed) first.0 second.counts

  pub first_holds : (a : Loaded) (other : Option Found) → Shows one (Holding a) → Shows two (Bare other)
      → chosen one two ≡ settled_on 1 one a.journal.version a.journal.generation a.batches.placed
  first_holds a other first second = chosen_from (holds a.journal.version a.journal.generation a.batches.placed) no_journal first.counts second.0

  pub both_hold : (a b : Loaded) → Shows one (Holding a) → Shows two (Holding b)
      → chosen one two ≡ later_of one two a.journal.version a.journal.generation a.batches.placed b.journal.version b.journal.generation b.batches.placed
  both_hold a b first second =
      chosen_from (holds a.journal.version a.journal.generation a.batches.placed) (holds b.journal.version b.journal.generation b.batches.placed) first.counts second.counts

-- ---- the disk that the store is on
module _ {D : Type 0} (g : disk.Ghosts D) (journal : Journal) (bs : Placed) where
  settled_by : (d : D) (image : List ℕ) → IsJournalOf journal bs image → g.seen d ≡ image → Only (g.seen d) (g.may_leave d) → IsSettled g journal d
  settled_by d image stands seen only =
      let held : journal_of (g.seen d) ≡ holds journal.version journal.generation bs = ap journal_of seen ∙ stands.held in
      record {
        durable = only;
        stands = record {
          held = held ∙ ap (λ (h : Held). holds journal.version journal.generation (batches_of h)) (sym held);
          end = stands.end ∙ ap (λ (h : Held). end_of (batches_of h)) (sym held);
        };
      }

  pub settled_at : (place : Place) (one two : D) (first second : List ℕ) → IsJournalOf journal bs (its place first second) → g.seen one ≡ first → g.seen two ≡ second
      → Only (g.seen one) (g.may_leave one) → Only (g.seen two) (g.may_leave two) → IsSettled g journal (its place one two)
  settled_at One one two first second stands seen seen_two only only_two = settled_by one first stands seen only
  settled_at Two one two first second stands seen seen_two only only_two = settled_by two second stands seen_two only_two
