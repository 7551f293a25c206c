-- The runs of calls that make a journal.
use Rattle.std.proofs.Common.{◌≡◌, ℕ, ◌^◌, ◌<◌, ◌≤◌, true, List, [], ◌∷◌, ◌++◌, length, take, sym, ◌∙◌, ap, subst, arith, length-append}
use Rattle.wc_disk.specs.declared.disk.Disk as disk
use Rattle.wc_disk.specs.Steps.{overwritten, Torn, Only}
use Rattle.wc_disk.specs.Images.{LeavesOnly}
use Rattle.wc_disk.proofs.Runs.{both_runs, weaker_run}
use Rattle.wc_journal.specs.declared.journal.Journal.{Journal}
use Rattle.wc_journal.specs.Reading.{Placed, Held, no_journal, holds, journal_of, batches_of, end_of}
use Rattle.wc_journal.specs.Frame.{heading, framed, most_of}
use Rattle.wc_journal.specs.Spelled.{spelled}
use Rattle.wc_journal.specs.Journals.{IsSettled, HoldsEither, IsReplaced, HasClosedFirst, ClosesFirst}
use Rattle.wc_journal.proofs.Writing.{length-heading, headed_empty, headed_one, ready_written, closing_made, heading_made, heading_written, opening_made, closing_replaced, behind_replaced, opening_replaced, empty_spelled, one_spelled}

-- a journal that a disk reads as, and that is on it, stands for the disk
pub settled_by : {D : Type 0} (g : disk.Ghosts D) (journal : Journal) (d : D) (bs : Placed) → Only (g.seen d) (g.may_leave d)
    → journal_of (g.seen d) ≡ holds journal.version journal.generation bs → journal.end ≡ end_of bs → IsSettled g journal d
settled_by g journal d bs only held end = record {
  durable = only;
  stands = record {
    held = held ∙ ap (λ (h : Held). holds journal.version journal.generation (batches_of h)) (sym held);
    end = end ∙ ap (λ (h : Held). end_of (batches_of h)) (sym held);
  };
}

module _ {D : Type 0} (g : disk.Ghosts D) (old : D) (n : ℕ) (none : journal_of (g.seen old) ≡ no_journal) (some : 1 ≤ n) (lt : n < 2 ^ 64) where
  abbrev Made : List ℕ → Type 0
  Made = HoldsEither no_journal (holds 2 n [])

  pub first_made : (d1 : D) → LeavesOnly g old d1 (ClosesFirst (g.seen old)) → LeavesOnly g old d1 Made
  first_made d1 closing = weaker_run g old d1 (ClosesFirst (g.seen old)) Made closing (closing_made (g.seen old) n none some lt)

  module _ (d1 d2 : D) (bytes : List ℕ) (closing : LeavesOnly g old d1 (ClosesFirst (g.seen old))) (closed : HasClosedFirst (g.seen old) (g.seen d1)) (is : bytes ≡ heading 2 n ++ 0 ∷ [])
      (header : LeavesOnly g d1 d2 (Torn 1 (length bytes) (length (g.seen d1)) (g.seen d1))) where
    sixteen : length bytes ≡ 16
    sixteen = omega (arith, ap length is, length-append (heading 2 n) (0 ∷ []), length-heading 2 n)

    pub second_made : LeavesOnly g old d2 Made
    second_made =
        both_runs g old d1 d2 (ClosesFirst (g.seen old)) (Torn 1 (length bytes) (length (g.seen d1)) (g.seen d1)) Made closing header (closing_made (g.seen old) n none some lt)
        (λ image torn. heading_made (g.seen old) n none some lt (g.seen d1) closed image (subst (λ (k : ℕ). Torn 1 k (length (g.seen d1)) (g.seen d1) image) sixteen torn))

    module _ (written : g.seen d2 ≡ overwritten 1 bytes (g.seen d1)) where
      ready : g.seen d2 ≡ take 1 (g.seen d1) ++ (heading 2 n ++ 0 ∷ [])
      ready = written ∙ ap (λ (l : List ℕ). overwritten 1 l (g.seen d1)) is ∙ heading_written (g.seen old) n none some lt (g.seen d1) closed

      pub third_made : (d3 : D) → LeavesOnly g d2 d3 (Torn 0 1 (length (g.seen d2)) (g.seen d2)) → LeavesOnly g old d3 Made
      third_made d3 opening =
          both_runs g old d2 d3 Made (Torn 0 1 (length (g.seen d2)) (g.seen d2)) Made second_made opening (λ image made. made)
          (λ image torn. opening_made (g.seen old) n none some lt (g.seen d1) closed (g.seen d2) image ready torn)

      pub made_held : (d3 : D) → g.seen d3 ≡ overwritten 0 (0x57 ∷ []) (g.seen d2) → journal_of (g.seen d3) ≡ holds 2 n []
      made_held d3 opened =
          ap journal_of (opened ∙ ready_written (g.seen old) (heading 2 n ++ 0 ∷ []) (g.seen d1) closed (g.seen d2) ready) ∙ headed_empty n some lt

      pub made_written : (d3 : D) → g.seen d3 ≡ overwritten 0 (0x57 ∷ []) (g.seen d2) → g.seen d3 ≡ spelled 2 n [] ++ 0 ∷ []
      made_written d3 opened = opened ∙ ready_written (g.seen old) (heading 2 n ++ 0 ∷ []) (g.seen d1) closed (g.seen d2) ready ∙ empty_spelled n

module _ {D : Type 0} (g : disk.Ghosts D) (old : D) (n : ℕ) (payload bytes : List ℕ) (some : 2 ≤ n) (lt : n < 2 ^ 64) (fits : length payload ≤ most_of 2)
    (is : bytes ≡ heading 2 n ++ 1 ∷ framed 2 true payload) (d1 d2 d3 : D) (closed : HasClosedFirst (g.seen old) (g.seen d1)) (written : g.seen d2 ≡ take 1 (g.seen d1) ++ bytes) where
  abbrev Replaced : List ℕ → Type 0
  Replaced = IsReplaced (g.seen old) (holds 2 n ((26, payload) ∷ []))

  ready_replaced : g.seen d2 ≡ take 1 (g.seen d1) ++ (heading 2 n ++ 1 ∷ framed 2 true payload)
  ready_replaced = written ∙ ap (λ (l : List ℕ). take 1 (g.seen d1) ++ l) is

  pub third_replaced : LeavesOnly g old d1 (ClosesFirst (g.seen old)) → LeavesOnly g d1 d2 (λ image. take 1 image ≡ take 1 (g.seen d1))
      → LeavesOnly g d2 d3 (Torn 0 1 (length (g.seen d2)) (g.seen d2)) → LeavesOnly g old d3 Replaced
  third_replaced closing behind opening =
      let second : LeavesOnly g old d2 Replaced
      = both_runs g old d1 d2 (ClosesFirst (g.seen old)) (λ image. take 1 image ≡ take 1 (g.seen d1)) Replaced closing behind
      (closing_replaced (g.seen old) n payload some lt fits)
      (λ image same. behind_replaced (g.seen old) n payload some lt fits (g.seen d1) image closed same) in
      both_runs g old d2 d3 Replaced (Torn 0 1 (length (g.seen d2)) (g.seen d2)) Replaced second opening (λ image replaced. replaced)
      (λ image torn. opening_replaced (g.seen old) n payload some lt fits (g.seen d1) (g.seen d2) image closed ready_replaced torn)

  pub replaced_held : g.seen d3 ≡ overwritten 0 (0x57 ∷ []) (g.seen d2) → journal_of (g.seen d3) ≡ holds 2 n ((26, payload) ∷ [])
  replaced_held opened =
      ap journal_of (opened ∙ ready_written (g.seen old) (heading 2 n ++ 1 ∷ framed 2 true payload) (g.seen d1) closed (g.seen d2) ready_replaced) ∙ headed_one n payload some lt fits

  pub replaced_written : g.seen d3 ≡ overwritten 0 (0x57 ∷ []) (g.seen d2) → g.seen d3 ≡ spelled 2 n (payload ∷ []) ++ 0 ∷ []
  replaced_written opened = opened ∙ ready_written (g.seen old) (heading 2 n ++ 1 ∷ framed 2 true payload) (g.seen d1) closed (g.seen d2) ready_replaced ∙ one_spelled n payload some
