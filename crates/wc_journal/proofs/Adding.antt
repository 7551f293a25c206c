-- The runs of calls that add a batch.
use Rattle.std.proofs.Common.{◌≡◌, inl, inr, ⊎_elim, ℕ, ◌+◌, ◌-◌, ◌<◌, ◌≤◌, Bool, List, [], ◌∷◌, ◌++◌, length, max, take, drop, get_or, refl, sym, ◌∙◌, ap, subst, arith, length-append, length-drop, append_assoc}
use Rattle.std.proofs.lemmas.List.{length-take, take-take, take-append-le, take_at, take_all, drop_at, drop_more}
use Rattle.wc_disk.specs.declared.disk.Disk as disk
use Rattle.wc_disk.specs.Steps.{overwritten, Torn, Only}
use Rattle.wc_disk.specs.Images.{LeavesOnly}
use Rattle.wc_disk.proofs.Runs.{both_runs, weaker_run}
use Rattle.wc_journal.specs.declared.journal.Journal.{Journal}
use Rattle.wc_journal.specs.Reading.{Placed, Held, holds, journal_of, batches_of, is_snapshot_place, size_of, end_of}
use Rattle.wc_journal.specs.Frame.{framed, most_of}
use Rattle.wc_journal.specs.Journals.{IsSettled, HoldsEither, with_batch}
use Rattle.wc_journal.specs.Refusals.{size_after}
use Rattle.wc_journal.proofs.Holding.{end_inside}
use Rattle.wc_journal.proofs.Appending.{length-framed, kept, gated, opened}
use Rattle.wc_journal.proofs.Loading.{end_push}
use Rattle.wc_journal.proofs.Making.{settled_by}

-- ---- a write behind a place
module _ (file bytes : List ℕ) (end : ℕ) (within : end < length file) where
  abbrev rest : List ℕ
  rest = drop (end + 1 + length bytes) file

  abbrev staged : List ℕ
  staged = overwritten (end + 1) bytes file

  front_size : length (take (end + 1) file) ≡ end + 1
  front_size = omega (arith, length-take (end + 1) file, within)

  staged_split : staged ≡ take (end + 1) file ++ (bytes ++ rest)
  staged_split = append_assoc (take (end + 1) file) bytes rest

  pub staged_long : end < length staged
  staged_long = omega (arith, ap length staged_split, length-append (take (end + 1) file) (bytes ++ rest), front_size)

  pub staged_front : take end staged ≡ take end file
  staged_front =
      ap (λ (l : List ℕ). take end l) staged_split ∙ take-append-le end (take (end + 1) file) (bytes ++ rest) (omega (arith, front_size)) ∙ take-take end (end + 1) file (omega arith)

  pub staged_back : drop (end + 1) staged ≡ bytes ++ rest
  staged_back = ap (λ (l : List ℕ). drop (end + 1) l) staged_split ∙ drop_at (take (end + 1) file) (bytes ++ rest) (end + 1) front_size

  pub staged_length : length staged ≤ max (length file) (end + 1 + length bytes)
  staged_length =
      omega (arith, ap length staged_split, length-append (take (end + 1) file) (bytes ++ rest), length-append bytes rest, length-drop (end + 1 + length bytes) file, front_size)

  -- a write of the one byte at the place leaves what is around it
  pub gate_torn : (image : List ℕ) → Torn end 1 (length staged) staged image → (take end image ≡ take end file) × (drop end image ≡ get_or image end 0 ∷ (bytes ++ rest))
  gate_torn image torn =
      let size : length image ≡ length staged = omega (arith, torn.no_shorter, torn.no_longer, staged_long) in
      let back : drop (end + 1) image ≡ drop (end + 1) staged
      = sym (take_all (length staged - (end + 1)) (drop (end + 1) image) (omega (arith, length-drop (end + 1) image, size))) ∙ torn.after
      ∙ take_all (length staged - (end + 1)) (drop (end + 1) staged) (omega (arith, length-drop (end + 1) staged)) in (
        torn.before ∙ staged_front,
        drop_more image end 0 (omega (arith, size, staged_long)) ∙ ap (λ (l : List ℕ). get_or image end 0 ∷ l) (back ∙ staged_back),
      )

  pub gate_written : (image : List ℕ) → image ≡ overwritten end (1 ∷ []) staged → (take end image ≡ take end file) × (drop end image ≡ 1 ∷ (bytes ++ rest))
  gate_written image is =
      let size : length (take end staged) ≡ end = omega (arith, length-take end staged, staged_long) in
      let split : image ≡ take end staged ++ (1 ∷ drop (end + 1) staged) = is ∙ append_assoc (take end staged) (1 ∷ []) (drop (end + 1) staged) in (
        ap (λ (l : List ℕ). take end l) split ∙ take_at (take end staged) (1 ∷ drop (end + 1) staged) end size ∙ staged_front,
        ap (λ (l : List ℕ). drop end l) split ∙ drop_at (take end staged) (1 ∷ drop (end + 1) staged) end size ∙ ap (λ (l : List ℕ). 1 ∷ l) staged_back,
      )

-- ---- an append
pub record Adds {D : Type 0} (g : disk.Ghosts D) (old : D) (journal : Journal) (s : Bool) (payload bytes : List ℕ) : Type 0 where
  pub settled : IsSettled g journal old
  pub kind : s ≡ is_snapshot_place journal.generation (length (batches_of (journal_of (g.seen old))))
  pub fits : length payload ≤ most_of journal.version
  pub is : bytes ≡ framed journal.version s payload

pub adds_by : {D : Type 0} (g : disk.Ghosts D) (old : D) (journal : Journal) (v : ℕ) (s : Bool) (payload bytes : List ℕ) → IsSettled g journal old
    → s ≡ is_snapshot_place journal.generation (length (batches_of (journal_of (g.seen old)))) → v ≡ journal.version → length payload ≤ most_of v → bytes ≡ framed v s payload
    → Adds g old journal s payload bytes
adds_by g old journal v s payload bytes settled kind same fits is = record {
  settled = settled;
  kind = kind;
  fits = subst (λ (w : ℕ). length payload ≤ most_of w) same fits;
  is = is ∙ ap (λ (w : ℕ). framed w s payload) same;
}

module _ {D : Type 0} (g : disk.Ghosts D) (old : D) (journal : Journal) (s : Bool) (payload bytes : List ℕ) (adds : Adds g old journal s payload bytes) where
  abbrev file : List ℕ
  file = g.seen old

  abbrev bs : Placed
  bs = batches_of (journal_of file)

  abbrev v : ℕ
  v = journal.version

  abbrev n : ℕ
  n = journal.generation

  abbrev held : journal_of file ≡ holds v n bs
  held = adds.settled.stands.held

  abbrev end : journal.end ≡ end_of bs
  end = adds.settled.stands.end

  abbrev after : Held
  after = with_batch journal (journal_of file) payload

  abbrev Added : List ℕ → Type 0
  Added = HoldsEither (journal_of file) after

  pub gate_inside : journal.end < length file
  gate_inside = omega (arith, end, (end_inside file v n bs held).1)

  after_is : holds v n (bs ++ (end_of bs + 1 + size_of v, payload) ∷ []) ≡ after
  after_is = ap (λ (k : ℕ). holds v n (bs ++ (k + 1 + size_of v, payload) ∷ [])) (sym end)

  torn_added : (image : List ℕ) → Torn (journal.end + 1) (length bytes) (length file) file image → Added image
  torn_added image torn =
      inl (kept file v n bs held image (subst (λ (k : ℕ). take (k + 1) image ≡ take (k + 1) file) end torn.before) ∙ sym held)

  around : (image : List ℕ) (gate : ℕ) → (take journal.end image ≡ take journal.end file) × (drop journal.end image ≡ gate ∷ (bytes ++ rest file bytes journal.end gate_inside))
      → (take (end_of bs) image ≡ take (end_of bs) file) × (drop (end_of bs) image ≡ gate ∷ (framed v s payload ++ rest file bytes journal.end gate_inside))
  around image gate parts = (
    subst (λ (k : ℕ). take k image ≡ take k file) end parts.0,
    subst (λ (k : ℕ). drop k image ≡ gate ∷ (framed v s payload ++ rest file bytes journal.end gate_inside)) end
        (parts.1 ∙ ap (λ (l : List ℕ). gate ∷ (l ++ rest file bytes journal.end gate_inside)) adds.is),
  )

  pub first_added : (d1 : D) → LeavesOnly g old d1 (Torn (journal.end + 1) (length bytes) (length file) file) → LeavesOnly g old d1 Added
  first_added d1 batch = weaker_run g old d1 (Torn (journal.end + 1) (length bytes) (length file) file) Added batch torn_added

  module _ (d1 d2 : D) (written : g.seen d1 ≡ overwritten (journal.end + 1) bytes file) where
    gate_added : (image : List ℕ) → Torn journal.end 1 (length (g.seen d1)) (g.seen d1) image → Added image
    gate_added image torn =
        let parts = around image (get_or image journal.end 0)
        (gate_torn file bytes journal.end gate_inside image (subst (λ (l : List ℕ). Torn journal.end 1 (length l) l image) written torn)) in
        ⊎_elim (λ (before : journal_of image ≡ holds v n bs). inl (before ∙ sym held))
        (λ (more : journal_of image ≡ holds v n (bs ++ (end_of bs + 1 + size_of v, payload) ∷ [])). inr (more ∙ after_is))
        (gated file v n bs held s payload (rest file bytes journal.end gate_inside) image (get_or image journal.end 0) adds.kind adds.fits parts.0 parts.1)

    pub second_added : LeavesOnly g old d1 (Torn (journal.end + 1) (length bytes) (length file) file) → LeavesOnly g d1 d2 (Torn journal.end 1 (length (g.seen d1)) (g.seen d1)) → LeavesOnly g old d2 Added
    second_added batch gate =
        both_runs g old d1 d2 (Torn (journal.end + 1) (length bytes) (length file) file) (Torn journal.end 1 (length (g.seen d1)) (g.seen d1)) Added batch gate torn_added gate_added

    pub added_held : g.seen d2 ≡ overwritten journal.end (1 ∷ []) (g.seen d1) → journal_of (g.seen d2) ≡ after
    added_held opening =
        let parts = around (g.seen d2) 1
        (gate_written file bytes journal.end gate_inside (g.seen d2) (opening ∙ ap (λ (l : List ℕ). overwritten journal.end (1 ∷ []) l) written)) in
        opened file v n bs held s payload (rest file bytes journal.end gate_inside) (g.seen d2) 1 adds.kind adds.fits parts.0 parts.1 refl ∙ after_is

    pub added_settled : (later : Journal) → later.version ≡ v → later.generation ≡ n → later.end ≡ journal.end + length bytes → g.seen d2 ≡ overwritten journal.end (1 ∷ []) (g.seen d1)
        → Only (g.seen d2) (g.may_leave d2) → IsSettled g later d2
    added_settled later version generation longer opening only =
        let b : ℕ × List ℕ = (journal.end + 1 + size_of v, payload) in
        let ends : later.end ≡ end_of (bs ++ b ∷ []) = omega (arith, longer, end_push 16 bs b, ap length adds.is, length-framed v s payload) in
        settled_by g later d2 (bs ++ b ∷ []) only (added_held opening ∙ (λ i. holds (sym version i) (sym generation i) (bs ++ b ∷ []))) ends

  -- ---- how long the file is
  abbrev most : ℕ
  most = max (length file) (size_after journal.end v payload)

  abbrev Short : List ℕ → Type 0
  Short = λ image. length image ≤ most

  size : size_after journal.end v payload ≡ journal.end + 1 + length bytes
  size = omega (arith, ap length adds.is, length-framed v s payload)

  torn_short : (image : List ℕ) → Torn (journal.end + 1) (length bytes) (length file) file image → Short image
  torn_short image torn = omega (arith, torn.no_longer, size)

  pub first_short : (d1 : D) → LeavesOnly g old d1 (Torn (journal.end + 1) (length bytes) (length file) file) → LeavesOnly g old d1 Short
  first_short d1 batch = weaker_run g old d1 (Torn (journal.end + 1) (length bytes) (length file) file) Short batch torn_short

  pub second_short : (d1 d2 : D) → g.seen d1 ≡ overwritten (journal.end + 1) bytes file → LeavesOnly g old d1 (Torn (journal.end + 1) (length bytes) (length file) file)
      → LeavesOnly g d1 d2 (Torn journal.end 1 (length (g.seen d1)) (g.seen d1)) → LeavesOnly g old d2 Short
  second_short d1 d2 written batch gate =
      both_runs g old d1 d2 (Torn (journal.end + 1) (length bytes) (length file) file) (Torn journal.end 1 (length (g.seen d1)) (g.seen d1)) Short batch gate torn_short
      (λ image torn. omega (arith, torn.no_longer, ap length written, staged_length file bytes journal.end gate_inside, size, gate_inside))
