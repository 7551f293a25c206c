-- How the program ends.
use Rattle.std.specs.Prelude.{◌≡◌, ◌⊎◌, ℕ, List, [], Some, codes}
use Rattle.wc_io.specs.Events.{all_bytes, asked_names}
use Rattle.wc_file_disk.specs.Files.{calls, path_of}
use Rattle.wc_local.specs.Folders.{jobs_folder}
use Rattle.wc_app.specs.declared.machine.Machine.{Machine}

-- A service was handed these words and a machine of which nothing was asked yet, whose disks are the two files of the store in the
-- current folder and whose jobs have theirs in its folder of jobs, and answered this number.
pub record IsServed (answered : List (List ℕ) → Machine → Machine → ℕ → Type 0) (words : List (List ℕ)) (number : ℕ) : Type 0 where
  pub begun : Machine
  pub ended : Machine
  pub one : path_of begun.one ≡ codes "wc.store/one"
  pub two : path_of begun.two ≡ codes "wc.store/two"
  pub uncalled : (calls begun.one ≡ []) × (calls begun.two ≡ [])
  pub folder : jobs_folder begun.jobs ≡ codes "wc.work"
  pub unasked : asked_names begun.shelf.log.events ≡ []
  pub untaken : Some (all_bytes begun.sink.log.events) ≡ Some []
  pub answers : answered words begun ended number

-- The process ends with the number that a service answered for words of which P holds, or with 2 where memory ran out before.
abbrev pub EndsAs : (List (List ℕ) → Machine → Machine → ℕ → Type 0) → (List (List ℕ) → Type 0) → ℕ → Type 0
EndsAs answered P status = (status ≡ 2) ⊎ ((words : List (List ℕ)) × P words × IsServed answered words status)
