-- What is asked of an archive before it is imported, in order.
use Rattle.std.specs.Prelude.{◌≡◌, ◌⊎◌, ℕ, List, [], ◌∷◌, length, map, Some, None}
use Rattle.wc_state.specs.declared.record.What.{What}
use Rattle.wc_world.specs.declared.change.Change.{Change}
use Rattle.wc_world.specs.World.{World}
use Rattle.wc_world.specs.Applied.{applied}
use Rattle.wc_verify.specs.Faults.{IsLeastDisagreement, IsLowestWrong, IsNotAfter}
use Rattle.wc_machine.specs.Refusals.{AreFew, IsFull}
use Rattle.wc_archive_file.specs.Archives.{IsArchive}
use Rattle.wc_archive_file.specs.declared.archive.Archive.{Archive}
use Rattle.wc_archive_file.specs.declared.error.ArchiveError.{ArchiveError}
use Rattle.wc_archive_file.specs.declared.error.ArchiveError.TheVariants as error
use Rattle.wc_archive.specs.Alone.{alone, imported}
use Rattle.wc_archive.specs.Good.{AreGoodChains, AreGoodLinks, AreGoodProcesses, AreInConflict, IsFirstBadChain, IsFirstBadLink, IsFirstBadProcess, kind_of_node}

-- what is judged of an archive
pub data Question : Type 0 where
  links : Question
  processes : Question
  results : Question
  values : Question
  chains : Question
  conflicts : Question
  room : Question

-- the order in which it is judged
abbrev pub questions : List Question
questions = links ∷ (processes ∷ (results ∷ (values ∷ (chains ∷ (conflicts ∷ (room ∷ []))))))

module _ (w : World) (most : ℕ) (a : Archive) where
  -- The archive passes: its links are good; its processes are; its jobs with equal requests have equal results; its calculations are as their
  -- inputs give them; its work chains are as their definitions mean; no job of it is in conflict with one of the world; and the world after the
  -- import is within the limits.
  abbrev pub Passes : Question → Type 0
  Passes links = AreGoodLinks (map kind_of_node a.nodes) a.links
  Passes processes = AreGoodProcesses (alone a)
  Passes results = IsLeastDisagreement (alone a) None
  Passes values = IsLowestWrong (alone a) None
  Passes chains = AreGoodChains (alone a)
  Passes conflicts = (n pid : ℕ) → ¬ AreInConflict (alone a) w n pid
  Passes room = AreFew (length (applied w (imported w a)).nodes) (applied w (imported w a)).batches most

  -- The archive fails, with this refusal, which names the first that is at fault.
  abbrev pub Fails : Question → ArchiveError → Type 0
  Fails links e = (at : ℕ) × (e ≡ error.BadLink at) × IsFirstBadLink (map kind_of_node a.nodes) a.links at
  Fails processes e = (pid : ℕ) × (e ≡ error.BadNode pid) × IsFirstBadProcess (alone a) pid
  Fails results e = (p : ℕ × ℕ) × (e ≡ error.Disagrees p.0 p.1) × IsLeastDisagreement (alone a) (Some p)
  Fails values e = (pid : ℕ) × (e ≡ error.WrongValue pid) × IsLowestWrong (alone a) (Some pid)
  Fails chains e = (pid : ℕ) × (e ≡ error.WrongTree pid) × IsFirstBadChain (alone a) pid
  Fails conflicts e =
      (n : ℕ) × (pid : ℕ) × (e ≡ error.Conflict n pid) × AreInConflict (alone a) w n pid
      × ((m q : ℕ) → AreInConflict (alone a) w m q → IsNotAfter (n, pid) (m, q))
  Fails room e = (what : What) × (count : ℕ) × (limit : ℕ) × (e ≡ error.Full what count limit) × IsFull most (applied w (imported w a)) what count limit

  -- of these questions, the first at which the archive doesn't pass refuses it so
  abbrev pub IsFirstRefusal : List Question → ArchiveError → Type 0
  IsFirstRefusal [] e = ⊥
  IsFirstRefusal (q ∷ qs) e = Fails q e ⊎ (Passes q × IsFirstRefusal qs e)

  -- The archive may be imported: it passes each question.
  pub record IsImportable : Type 0 where
    pub links : Passes links
    pub processes : Passes processes
    pub results : Passes results
    pub values : Passes values
    pub chains : Passes chains
    pub conflicts : Passes conflicts
    pub room : Passes room

-- The bytes are those of an archive that may be imported, and these are the changes of its import, where a world may have at most so many nodes.
pub record Imports (w : World) (most : ℕ) (bytes : List ℕ) (cs : List Change) : Type 0 where
  pub archive : Archive
  pub says : IsArchive bytes archive
  pub importable : IsImportable w most archive
  pub changes : cs ≡ imported w archive

-- The import is refused so: the bytes are no archive's, or the archive that they are is refused by the first question that it fails.
abbrev pub RefusesImport : World → ℕ → List ℕ → ArchiveError → Type 0
RefusesImport w most bytes e =
    ((e ≡ error.NotArchive) × ((a : Archive) → ¬ IsArchive bytes a))
    ⊎ ((a : Archive) × IsArchive bytes a × IsFirstRefusal w most a questions e)
