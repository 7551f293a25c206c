-- Laws of imports.
use Rattle.std.specs.Prelude.{◌≡◌, ◌+◌, ◌≤◌, ℕ, List, Some, length, map}
use Rattle.wc_semantics.specs.Tables.{Table}
use Rattle.wc_state.specs.declared.record.ProcessRecord.{ProcessRecord}
use Rattle.wc_world.specs.World.{World}
use Rattle.wc_world.specs.declared.change.Change.{Change}
use Rattle.wc_world.specs.Accepted.{IsAccepted}
use Rattle.wc_world.specs.Applied.{applied}
use Rattle.wc_world.specs.Consistent.{IsConsistent}
use Rattle.wc_world.specs.Records.{find_record}
use Rattle.wc_world.specs.Trees.{recorded_tree}
use Rattle.wc_machine.specs.Agreement.{AgreesWithWorld}
use Rattle.wc_machine.specs.Continues.{Continues}
use Rattle.wc_machine.specs.Laws.{HasPlaces}
use Rattle.wc_machine.specs.Sound.{IsSound}
use Rattle.wc_subworlds.specs.Parts.{IsPart}
use Rattle.wc_archive_file.specs.Archives.{IsWritable}
use Rattle.wc_archive_file.specs.declared.archive.Archive.{Archive}
use Rattle.wc_archive_file.specs.declared.error.ArchiveError.{ArchiveError}
use Rattle.wc_archive.specs.After.{own_world, with_archive}
use Rattle.wc_archive.specs.Alone.{alone, imported, raised}
use Rattle.wc_archive.specs.Exports.{Exports, RefusesExport}
use Rattle.wc_archive.specs.Good.{AreGoodLinks, AreGoodProcesses, kind_of_node}
use Rattle.wc_archive.specs.Judged.{Imports, IsFirstRefusal, IsImportable, RefusesImport, questions}

-- An import makes this world, whatever the archive says, where the world before is consistent.
abbrev pub ImportsMakeTheseWorlds : Type 0
ImportsMakeTheseWorlds = (w : World) (a : Archive) → IsConsistent w → applied w (imported w a) ≡ with_archive w a

-- An archive alone is this world.
abbrev pub ArchivesAreTheseWorlds : Type 0
ArchivesAreTheseWorlds = (a : Archive) → alone a ≡ own_world a

-- An archive whose own world is consistent is part of the world after its import, where each number has risen by the count of the nodes that
-- were there.
abbrev pub ArchivesArePartsOfImports : Type 0
ArchivesArePartsOfImports = (w : World) (a : Archive) → IsConsistent w → IsConsistent (alone a) → IsPart (raised (length w.nodes)) (alone a) (applied w (imported w a))

-- An archive that a file can hold, with good links and good processes.
pub record IsGoodArchive (a : Archive) : Type 0 where
  pub writable : IsWritable a
  pub links : AreGoodLinks (map kind_of_node a.nodes) a.links
  pub processes : AreGoodProcesses (alone a)

-- A consistent world accepts the import of such an archive, where there is room for its nodes and for one batch more.
abbrev pub ImportsAreAccepted : Type 0
ImportsAreAccepted = (w : World) (a : Archive) → IsConsistent w → IsGoodArchive a → HasPlaces w (length w.nodes + length a.nodes) → IsAccepted w (imported w a)

-- So such an archive is a consistent world by itself.
abbrev pub GoodArchivesAreConsistent : Type 0
GoodArchivesAreConsistent = (a : Archive) → IsGoodArchive a → IsConsistent (alone a)

-- The world accepts the import; the world after it continues the one before, and is sound; and each process of the archive has the tree there that the
-- archive records of it, so the new root has the archive's.
pub record KeepsSoundWith (w : World) (a : Archive) : Type 0 where
  pub accepted : IsAccepted w (imported w a)
  pub continues : Continues w (applied w (imported w a))
  pub sound : IsSound (applied w (imported w a))
  pub trees : (r : ProcessRecord) → find_record r.node (alone a).records ≡ Some r
      → recorded_tree (applied w (imported w a)) (raised (length w.nodes) r.node) ≡ recorded_tree (alone a) r.node

-- So an import of an archive that passes all that is asked keeps a sound world sound, where a world may have at most so many nodes.
abbrev pub ImportsKeepSound : Type 0
ImportsKeepSound = (w : World) (most : ℕ) (a : Archive) → most ≤ 8000000 → IsSound w → IsWritable a → IsImportable w most a → KeepsSoundWith w a

-- Where some table agrees with the world before, some table agrees with the world after such an import.
abbrev pub ImportsKeepTables : Type 0
ImportsKeepTables = (w : World) (most : ℕ) (a : Archive) → most ≤ 8000000 → IsSound w → IsWritable a → IsImportable w most a → ((table : Table) × AgreesWithWorld table w)
    → (table : Table) × AgreesWithWorld table (applied w (imported w a))

-- An archive is refused in at most one way, and not at all where it may be imported.
pub record RefusalsAreOne : Type 0 where
  pub one : (w : World) (most : ℕ) (a : Archive) (d e : ArchiveError) → IsFirstRefusal w most a questions d → IsFirstRefusal w most a questions e → d ≡ e
  pub none : (w : World) (most : ℕ) (a : Archive) (e : ArchiveError) → IsImportable w most a → IsFirstRefusal w most a questions e → ⊥

-- An export has one answer at most: one archive, or one refusal.
pub record ExportsAreOne : Type 0 where
  pub archives : (w : World) (root : ℕ) (a b : Archive) → Exports w root a → Exports w root b → a ≡ b
  pub refusals : (w : World) (root : ℕ) (d e : ArchiveError) → RefusesExport w root d → RefusesExport w root e → d ≡ e
  pub either : (w : World) (root : ℕ) (a : Archive) (e : ArchiveError) → Exports w root a → RefusesExport w root e → ⊥

-- An import of bytes has one answer at most: one list of changes, or one refusal.
pub record ImportsAreOne : Type 0 where
  pub changes : (w : World) (most : ℕ) (bytes : List ℕ) (cs ds : List Change) → Imports w most bytes cs → Imports w most bytes ds → cs ≡ ds
  pub refusals : (w : World) (most : ℕ) (bytes : List ℕ) (d e : ArchiveError) → RefusesImport w most bytes d → RefusesImport w most bytes e → d ≡ e
  pub either : (w : World) (most : ℕ) (bytes : List ℕ) (cs : List Change) (e : ArchiveError) → Imports w most bytes cs → RefusesImport w most bytes e → ⊥
