-- How the scheduler says that a job ended, and the exit code that is written for a program whose script can't write it any more.
use Rattle.std.specs.Prelude.{ℕ, ◌+◌, ◌==◌, ◌&&◌, ◌||◌, Bool, true, false, not, is_none, if◌then◌else◌, nat_lt, List, Option, Some, None, codes}
use Rattle.std.specs.Str.{bytes_eq}
use Rattle.wc_slurm.specs.Lines.{field_in}
use Rattle.wc_slurm.specs.declared.end.End.{End}
use Rattle.wc_slurm.specs.declared.end.End.TheVariants as end

-- what the word of a state says of an end; a word that isn't known is that of a job that waits or runs
abbrev pub end_of : List ℕ → Option End
end_of state =
    if bytes_eq state (codes "CANCELLED") then Some end.Cancelled
    else if bytes_eq state (codes "TIMEOUT") || (bytes_eq state (codes "PREEMPTED") || bytes_eq state (codes "DEADLINE")) then Some end.Stopped
    else if bytes_eq state (codes "OUT_OF_MEMORY") || (bytes_eq state (codes "NODE_FAIL") || bytes_eq state (codes "BOOT_FAIL")) then Some end.Lost
    else if bytes_eq state (codes "FAILED") then Some end.Failed
    else if bytes_eq state (codes "COMPLETED") then Some end.Completed
    else None

-- the state stands first in what is told of a job, up to a bar or a blank
abbrev pub end_told : List ℕ → Option End
end_told told = end_of (field_in told)

-- a job that waits or runs
abbrev pub is_alive : List ℕ → Bool
is_alive told = is_none (end_told told)

-- As a shell tells of a program that a signal ended: 128 and the signal. TERM is 15, which the scheduler sends where it ends a job, and KILL is 9.
-- An end that the script tells by itself leaves no code, and nor does one of a submission that never had a node.
abbrev pub code_of : End → Bool → ℕ → Option ℕ
code_of end.Cancelled had_node signal = if had_node then Some (128 + 15) else None
code_of end.Stopped had_node signal = if had_node then Some (128 + 15) else None
code_of end.Lost had_node signal = Some (128 + 9)
code_of end.Failed had_node signal = if (signal == 0) || nat_lt 127 signal then None else Some (128 + signal)
code_of end.Completed had_node signal = None
