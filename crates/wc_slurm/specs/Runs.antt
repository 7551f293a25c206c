-- The run of a job's script that made its lock, and the one that the scheduler tells of.
use Rattle.std.specs.Prelude.{ℕ, ◌&&◌, ◌||◌, ◌==◌, Bool, true, false, not, if◌then◌else◌, List, length, Option, None, codes}
use Rattle.std.specs.Str.{bytes_eq}
use Rattle.wc_slurm.specs.Lines.{rest_in, field_in, word_in, behind_word}
use Rattle.wc_slurm.specs.Ends.{code_of}
use Rattle.wc_slurm.specs.declared.end.End.{End}
use Rattle.wc_slurm.specs.declared.end.End.TheVariants as end

-- what is told of a job behind its state: its node, its number, how often it was queued again
abbrev pub told_node : List ℕ → List ℕ
told_node told = field_in (rest_in told)

-- the number of a job in a line of an answer
abbrev pub told_number : List ℕ → List ℕ
told_number told = field_in (rest_in (rest_in told))

-- the restarts of a job in a line of an answer
abbrev pub told_restarts : List ℕ → List ℕ
told_restarts told = field_in (rest_in (rest_in (rest_in told)))

-- the words of the file that a run writes behind its lock: the scheduler's number of the job, how often that was queued again, the node
abbrev pub number_of : List ℕ → List ℕ
number_of line = word_in line

-- the restarts in a line that a run wrote
abbrev pub restarts_of : List ℕ → List ℕ
restarts_of line = word_in (behind_word line)

-- the node in a line that a run wrote
abbrev pub node_of : List ℕ → List ℕ
node_of line = word_in (behind_word (behind_word line))

-- a word that is told is the same as another
abbrev pub agrees : List ℕ → List ℕ → Bool
agrees told word = (length told == 0) || bytes_eq told word

-- A run with this number, so often queued again and on this node is the one of the line. How often it was queued again, and its node, are
-- compared where they are told.
abbrev pub is_run_of : (number restarts node line : List ℕ) → Bool
is_run_of number restarts node line =
    bytes_eq number (number_of line) && (agrees restarts (restarts_of line) && agrees node (node_of line))

-- the line is that of another run
abbrev pub is_other : (number restarts node line : List ℕ) → Bool
is_other number restarts node line = not ((length (number_of line) == 0)) && not (is_run_of number restarts node line)

-- the node that is told of a job that had one
abbrev pub is_node : List ℕ → Bool
is_node node =
    not ((length node == 0) || (bytes_eq node (codes "(null)") || (bytes_eq node (codes "n/a") || bytes_eq node (codes "None"))))

-- a user or an administrator ended the job
abbrev pub is_cancelled : End → Bool
is_cancelled end.Cancelled = true
is_cancelled end.Stopped = false
is_cancelled end.Lost = false
is_cancelled end.Failed = false
is_cancelled end.Completed = false

-- The exit code of a job whose lock is there. Where the run that made the lock told of itself, as this line, the code is that of its own end;
-- where none did, of a job that was cancelled, nobody else can have made it.
abbrev pub code_under_lock : End → (number restarts node : List ℕ) → ℕ → (line : List ℕ) → Option ℕ
code_under_lock end number restarts node signal line =
    if is_other number restarts node line then None
    else code_of end (is_node node || ((length (number_of line) == 0) && is_cancelled end)) signal
