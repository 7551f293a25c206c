-- An image of a journal with one batch more.
use Rattle.std.proofs.Common.{◌≡◌, ℕ, ◌+◌, ◌≤◌, Bool, List, [], ◌∷◌, ◌++◌, length, take, refl, sym, ◌∙◌, ap, arith}
use Rattle.std.proofs.lemmas.List.{length-take, take_at, drop_at}
use Rattle.wc_journal.specs.declared.journal.Journal.{Journal}
use Rattle.wc_journal.specs.Reading.{Placed, holds, journal_of, is_snapshot_place, size_of, end_of}
use Rattle.wc_journal.specs.Frame.{framed, most_of}
use Rattle.wc_journal.specs.Journals.{IsJournalOf}
use Rattle.wc_journal.proofs.Holding.{end_inside}
use Rattle.wc_journal.proofs.Appending.{opened}

module _ (journal : Journal) (bs : Placed) (image : List ℕ) (is : IsJournalOf journal bs image) (s : Bool) (payload : List ℕ) where
  -- the image up to its last gate, which is open, and the batch behind it
  abbrev pub grown : List ℕ
  grown = take (end_of bs) image ++ (1 ∷ (framed journal.version s payload ++ []))

  pub grown_holds : s ≡ is_snapshot_place journal.generation (length bs) → length payload ≤ most_of journal.version
      → journal_of grown ≡ holds journal.version journal.generation (bs ++ (journal.end + 1 + size_of journal.version, payload) ∷ [])
  grown_holds kind fits =
      let front : length (take (end_of bs) image) ≡ end_of bs
      = omega (arith, length-take (end_of bs) image, (end_inside image journal.version journal.generation bs is.held).1) in
      opened image journal.version journal.generation bs is.held s payload [] grown 1 kind fits
      (take_at (take (end_of bs) image) (1 ∷ (framed journal.version s payload ++ [])) (end_of bs) front)
      (drop_at (take (end_of bs) image) (1 ∷ (framed journal.version s payload ++ [])) (end_of bs) front) refl
      ∙ ap (λ (n : ℕ). holds journal.version journal.generation (bs ++ (n + 1 + size_of journal.version, payload) ∷ [])) (sym is.end)
