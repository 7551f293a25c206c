-- An export has one answer at most.
use Rattle.std.proofs.Common.{◌≡◌, ◌≢◌, ℕ, ◌<◌, true, false, Option, Some, None, ◌⊎◌, inl, inr, sym, ap, subst, ◌∙◌, arith}
use Rattle.std.proofs.lemmas.Bool.{cases_order}
use Rattle.wc_state.specs.declared.record.ProcessRecord.{ProcessRecord}
use Rattle.wc_world.specs.World.{World}
use Rattle.wc_world.specs.Records.{find_record, has_ended, library_at}
use Rattle.wc_world.proofs.FoundRecords.{found_holds}
use Rattle.wc_verify.specs.Faults.{IsLeastAmong}
use Rattle.wc_verify.proofs.Unique.{one_least_among}
use Rattle.wc_subworlds.proofs.Parts.{its_number}
use Rattle.wc_archive_file.specs.declared.archive.Archive.{Archive}
use Rattle.wc_archive_file.specs.declared.error.ArchiveError.{ArchiveError}
use Rattle.wc_archive_file.specs.declared.error.ArchiveError.TheVariants as error
use Rattle.wc_archive.specs.Closure.{archive_number, archive_of, closure, is_at_or_below}
use Rattle.wc_archive.specs.Exports.{AllHaveEnded, Exports, IsLowestLive, RefusesExport}
use Rattle.wc_archive.specs.Laws.{ExportsAreOne}

one_of : {A : Type 0} (o : Option A) (x y : A) → o ≡ Some x → o ≡ Some y → x ≡ y
one_of o x y p q = let e : Some x ≡ Some y = sym p ∙ q in cc e

none_of : {A : Type 0} (o : Option A) (x : A) → o ≡ None → o ≡ Some x → ⊥
none_of o x p q = let e : None ≡ Some x = sym p ∙ q in absurd (cc e)

module _ (w : World) (root : ℕ) where
  -- what is live hasn't ended
  live_or_over : (pid : ℕ) → AllHaveEnded w root → IsLowestLive w root pid → ⊥
  live_or_over pid all f =
      let r : ProcessRecord = f.0.0 in
      let over : has_ended r.state ≡ true = found_holds (λ x. is_at_or_below w.links root x.node ≡ true → has_ended x.state ≡ true) pid w.records r all f.0.1 f.0.2.0 in
      let no : false ≡ true = sym f.0.2.1 ∙ over in
      absurd (cc no)

  earlier : (p q : ℕ) → p < q → IsLowestLive w root p → IsLowestLive w root q → ⊥
  earlier p q lt f g =
      let r : ProcessRecord = f.0.0 in
      let number : r.node ≡ p = its_number p w.records r f.0.1 in
      let over : has_ended r.state ≡ true
      = found_holds (λ x. x.node < q → is_at_or_below w.links root x.node ≡ true → has_ended x.state ≡ true) p w.records r g.1 f.0.1 (omega (arith, number, lt)) f.0.2.0 in
      let no : false ≡ true = sym f.0.2.1 ∙ over in
      absurd (cc no)

  one_live : (p q : ℕ) → IsLowestLive w root p → IsLowestLive w root q → p ≡ q
  one_live p q f g = by (cases_order p q)
    where
      by : (p ≡ q) ⊎ ((p < q) ⊎ (q < p)) → p ≡ q
      by (inl e) = e
      by (inr (inl lt)) = absurd (earlier p q lt f g)
      by (inr (inr lt)) = absurd (earlier q p lt g f)

  -- what refuses a process that is there
  abbrev Refuses : ProcessRecord → ArchiveError → Type 0
  Refuses r e =
      ((e ≡ error.NotRoot root) × (r.depth ≢ 1))
      ⊎ ((r.depth ≡ 1) × ((pid : ℕ) × (e ≡ error.Live pid) × IsLowestLive w root pid))
      ⊎ ((r.depth ≡ 1) × AllHaveEnded w root
      × ((p : ℕ × ℕ) × (e ≡ error.Disagrees (archive_number (closure w root) p.0) (archive_number (closure w root) p.1))
      × IsLeastAmong w (is_at_or_below w.links root) (Some p)))

  one_refusal : (r : ProcessRecord) (d e : ArchiveError) → Refuses r d → Refuses r e → d ≡ e
  one_refusal r d e (inl f) (inl g) = f.0 ∙ sym g.0
  one_refusal r d e (inl f) (inr (inl g)) = absurd (f.1 g.0)
  one_refusal r d e (inl f) (inr (inr g)) = absurd (f.1 g.0)
  one_refusal r d e (inr (inl f)) (inl g) = absurd (g.1 f.0)
  one_refusal r d e (inr (inl f)) (inr (inl g)) = f.1.1 ∙ ap (λ (n : ℕ). error.Live n) (one_live f.1.0 g.1.0 f.1.2 g.1.2) ∙ sym g.1.1
  one_refusal r d e (inr (inl f)) (inr (inr g)) = absurd (live_or_over f.1.0 g.1 f.1.2)
  one_refusal r d e (inr (inr f)) (inl g) = absurd (g.1 f.0)
  one_refusal r d e (inr (inr f)) (inr (inl g)) = absurd (live_or_over g.1.0 f.1 g.1.2)
  one_refusal r d e (inr (inr f)) (inr (inr g)) =
      let same : Some f.2.0 ≡ Some g.2.0 = one_least_among w (is_at_or_below w.links root) (Some f.2.0) (Some g.2.0) f.2.2 g.2.2 in
      let p : f.2.0 ≡ g.2.0 = cc same in
      f.2.1 ∙ (λ i. error.Disagrees (archive_number (closure w root) (p i).0) (archive_number (closure w root) (p i).1)) ∙ sym g.2.1

  exported_or_refused : (r : ProcessRecord) (e : ArchiveError) → r.depth ≡ 1 → AllHaveEnded w root → IsLeastAmong w (is_at_or_below w.links root) None → Refuses r e → ⊥
  exported_or_refused r e one over agrees (inl f) = f.1 one
  exported_or_refused r e one over agrees (inr (inl f)) = live_or_over f.1.0 over f.1.2
  exported_or_refused r e one over agrees (inr (inr f)) = agrees f.2.0.0 f.2.0.1 f.2.2.0

  refusals : (d e : ArchiveError) → RefusesExport w root d → RefusesExport w root e → d ≡ e
  refusals d e (inl f) (inl g) = f.0 ∙ sym g.0
  refusals d e (inl f) (inr g) = absurd (none_of (find_record root w.records) g.0 f.1 g.1)
  refusals d e (inr f) (inl g) = absurd (none_of (find_record root w.records) f.0 g.1 f.1)
  refusals d e (inr f) (inr g) =
      one_refusal g.0 d e (subst (λ (r : ProcessRecord). Refuses r d) (one_of (find_record root w.records) f.0 g.0 f.1 g.1) f.2) g.2

  archives : (a b : Archive) → Exports w root a → Exports w root b → a ≡ b
  archives a b f g =
      let r : f.process ≡ g.process = one_of (find_record root w.records) f.process g.process f.found g.found in
      let there : library_at w.libraries g.process.library ≡ Some f.library = ap (λ (x : ProcessRecord). library_at w.libraries x.library) (sym r) ∙ f.is_library in
      f.is_archive ∙ ap (archive_of w root) (one_of (library_at w.libraries g.process.library) f.library g.library there g.is_library) ∙ sym g.is_archive

  either : (a : Archive) (e : ArchiveError) → Exports w root a → RefusesExport w root e → ⊥
  either a e f (inl g) = none_of (find_record root w.records) f.process g.1 f.found
  either a e f (inr g) =
      exported_or_refused f.process e f.is_root f.ended f.agrees
      (subst (λ (r : ProcessRecord). Refuses r e) (one_of (find_record root w.records) g.0 f.process g.1 f.found) g.2)

pub exports_are_one : ExportsAreOne
exports_are_one = record { archives = archives; refusals = refusals; either = either }
