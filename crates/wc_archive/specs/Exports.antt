-- When a process is exported, and as which archive.
use Rattle.std.specs.Prelude.{◌≡◌, ◌≢◌, ◌⊎◌, ℕ, ◌<◌, true, false, List, All, Some, None}
use Rattle.wc_state.specs.declared.record.ProcessRecord.{ProcessRecord}
use Rattle.wc_syntax.specs.declared.definition.Definition.{Definition}
use Rattle.wc_world.specs.World.{World}
use Rattle.wc_world.specs.Records.{find_record, has_ended, library_at}
use Rattle.wc_verify.specs.Faults.{IsLeastAmong}
use Rattle.wc_archive_file.specs.declared.archive.Archive.{Archive}
use Rattle.wc_archive_file.specs.declared.error.ArchiveError.{ArchiveError}
use Rattle.wc_archive_file.specs.declared.error.ArchiveError.TheVariants as error
use Rattle.wc_archive.specs.Closure.{archive_number, archive_of, closure, is_at_or_below}

-- the process is the root or below it, and hasn't ended
abbrev pub IsLiveBelow : World → (root : ℕ) → ProcessRecord → Type 0
IsLiveBelow w root r = (is_at_or_below w.links root r.node ≡ true) × (has_ended r.state ≡ false)

-- all that the root called has ended, as it has
abbrev pub AllHaveEnded : World → ℕ → Type 0
AllHaveEnded w root = All (λ r. is_at_or_below w.links root r.node ≡ true → has_ended r.state ≡ true) w.records

-- the lowest process of these that hasn't ended
abbrev pub IsLowestLive : World → (root pid : ℕ) → Type 0
IsLowestLive w root pid =
    ((r : ProcessRecord) × (find_record pid w.records ≡ Some r) × IsLiveBelow w root r)
    × All (λ r. r.node < pid → is_at_or_below w.links root r.node ≡ true → has_ended r.state ≡ true) w.records

-- The process is there, is a root, and all that it called has ended; no two jobs at or below it with equal requests have different results;
-- and this is the archive of it.
pub record Exports (w : World) (root : ℕ) (a : Archive) : Type 0 where
  pub process : ProcessRecord
  pub found : find_record root w.records ≡ Some process
  pub is_root : process.depth ≡ 1
  pub ended : AllHaveEnded w root
  pub agrees : IsLeastAmong w (is_at_or_below w.links root) None
  pub library : List Definition
  pub is_library : library_at w.libraries process.library ≡ Some library
  pub is_archive : a ≡ archive_of w root library

-- The export is refused so. The refusals come in this order: there is no such process; it is no root; it or one that it called, the lowest that
-- is named, hasn't ended; two jobs at or below it disagree, the least pair of which is named by the archive's numbers.
abbrev pub RefusesExport : World → ℕ → ArchiveError → Type 0
RefusesExport w root e =
    ((e ≡ error.UnknownProcess root) × (find_record root w.records ≡ None))
    ⊎ ((r : ProcessRecord) × (find_record root w.records ≡ Some r)
    × (((e ≡ error.NotRoot root) × (r.depth ≢ 1))
    ⊎ ((r.depth ≡ 1) × ((pid : ℕ) × (e ≡ error.Live pid) × IsLowestLive w root pid))
    ⊎ ((r.depth ≡ 1) × AllHaveEnded w root
    × ((p : ℕ × ℕ) × (e ≡ error.Disagrees (archive_number (closure w root) p.0) (archive_number (closure w root) p.1))
    × IsLeastAmong w (is_at_or_below w.links root) (Some p)))))
