-- An import has one answer at most.
use Rattle.std.proofs.Common.{◌≡◌, ℕ, List, ◌⊎◌, inl, inr, sym, ap, subst, ◌∙◌}
use Rattle.wc_world.specs.World.{World}
use Rattle.wc_world.specs.declared.change.Change.{Change}
use Rattle.wc_archive_file.specs.Archives.{IsArchive}
use Rattle.wc_archive_file.specs.declared.archive.Archive.{Archive}
use Rattle.wc_archive_file.specs.declared.error.ArchiveError.{ArchiveError}
use Rattle.wc_archive_file.proofs.One.{one_archive}
use Rattle.wc_archive.specs.Alone.{imported}
use Rattle.wc_archive.specs.Judged.{Imports, IsFirstRefusal, RefusesImport, questions}
use Rattle.wc_archive.specs.Laws.{ImportsAreOne, RefusalsAreOne}
use Rattle.wc_archive.proofs.OneRefusal.{refusals_are_one}

module _ (w : World) (most : ℕ) (bytes : List ℕ) where
  changes : (cs ds : List Change) → Imports w most bytes cs → Imports w most bytes ds → cs ≡ ds
  changes cs ds f g = f.changes ∙ ap (imported w) (one_archive bytes f.archive g.archive f.says g.says) ∙ sym g.changes

  refusals : (d e : ArchiveError) → RefusesImport w most bytes d → RefusesImport w most bytes e → d ≡ e
  refusals d e (inl f) (inl g) = f.0 ∙ sym g.0
  refusals d e (inl f) (inr g) = absurd (f.1 g.0 g.1)
  refusals d e (inr f) (inl g) = absurd (g.1 f.0 f.1)
  refusals d e (inr f) (inr g) =
      let same : f.0 ≡ g.0 = one_archive bytes f.0 g.0 f.1 g.1 in
      let law : RefusalsAreOne = refusals_are_one in
      law.one w most g.0 d e (subst (λ (a : Archive). IsFirstRefusal w most a questions d) same f.2) g.2

  either : (cs : List Change) (e : ArchiveError) → Imports w most bytes cs → RefusesImport w most bytes e → ⊥
  either cs e f (inl g) = g.1 f.archive f.says
  either cs e f (inr g) =
      let same : g.0 ≡ f.archive = one_archive bytes g.0 f.archive g.1 f.says in
      let law : RefusalsAreOne = refusals_are_one in
      law.none w most f.archive e f.importable (subst (λ (a : Archive). IsFirstRefusal w most a questions e) same g.2)

pub imports_are_one : ImportsAreOne
imports_are_one = record { changes = changes; refusals = refusals; either = either }
