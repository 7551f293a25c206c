-- What the scheduler says of its jobs: in each line a name, and behind the first bar what there is to say.
use Rattle.std.specs.Prelude.{◌≡◌, ◌⊎◌, ◌<◌, length, slice_index, ℕ, ◌==◌, ◌&&◌, Bool, true, false, not, if◌then◌else◌, List, [], ◌∷◌, Option, Some, None, Result, Ok, Err, ⊤, codes, nat_eq}
use Rattle.std.specs.List.{starts_with}
use Rattle.std.specs.Str.{bytes_eq, is_utf8}
use Rattle.std.specs.Ordering.{nat_cmp}
use Rattle.std.specs.BTreeSet.{contains}
use Rattle.wc_value.specs.Ascending.{put, lookup}
use Rattle.wc_slurm.specs.Lines.{lines_of, field_in, rest_in}
use Rattle.wc_slurm.specs.Ends.{is_alive}
use Rattle.wc_slurm.specs.declared.queue.Queue.{Queue}

-- a name that this engine may have given to a job
abbrev pub is_of_job : List ℕ → Bool
is_of_job name = starts_with nat_eq name (codes "wc-") && is_utf8 name

-- Of two things that are told of one name the later one counts, but for an end behind what is told of a job that waits or runs: that is of
-- another copy.
abbrev pub counting : List ℕ → List ℕ → List ℕ
counting earlier later = if is_alive earlier && not (is_alive later) then earlier else later

-- what is said of a job by an earlier and a later line: that of a job that goes on counts
abbrev pub told_later : Option (List ℕ) → Option (List ℕ) → Option (List ℕ)
told_later earlier None = earlier
told_later None (Some later) = Some later
told_later (Some earlier) (Some later) = Some (counting earlier later)

-- what one line says of a name
abbrev pub told_by : List ℕ → List ℕ → Option (List ℕ)
told_by name line = if is_of_job (field_in line) && bytes_eq (field_in line) name then Some (rest_in line) else None

-- what counts of all that the lines say of a name
abbrev pub told_of : List ℕ → List (List ℕ) → Option (List ℕ)
told_of name [] = None
told_of name (line ∷ lines) = told_later (told_by name line) (told_of name lines)

-- the name, if it is one of this engine's
abbrev pub key_of : List ℕ → Option (List ℕ)
key_of name = if is_of_job name then Some name else None

-- what counts, by what was told of a name and what is told now
abbrev pub now_told : Option (List ℕ) → List ℕ → List ℕ
now_told None rest = rest
now_told (Some earlier) rest = counting earlier rest

-- what was told, and one thing more of a name
abbrev pub with_told : Option (List ℕ) → List ℕ → List (List ℕ × List ℕ) → List (List ℕ × List ℕ)
with_told None rest told = told
with_told (Some name) rest told = put name (now_told (lookup name told) rest) told

-- what was told, and a line more
abbrev pub with_line : List ℕ → List (List ℕ × List ℕ) → List (List ℕ × List ℕ)
with_line line told = with_told (key_of (field_in line)) (rest_in line) told

-- What is kept of an answer is of each name what counts of it; and nothing is kept where there was none.
abbrev pub Keeps : Option (List ℕ) → Option (List (List ℕ × List ℕ)) → Type 0
Keeps None None = ⊤
Keeps None (Some told) = ⊥
Keeps (Some text) None = ⊥
Keeps (Some text) (Some told) = (name : List ℕ) → lookup name told ≡ told_of name (lines_of text)

-- what is kept of a name
abbrev pub told_in : List ℕ → Option (List (List ℕ × List ℕ)) → Option (List ℕ)
told_in name None = None
told_in name (Some told) = lookup name told

-- what was printed, by what a question gave
abbrev pub answer_in : {E : Type 0} → Result (Option (List ℕ)) E → Option (List ℕ)
answer_in (Ok answer) = answer
answer_in (Err error) = None

-- one question was asked
pub record AsksOnce (old new : List (Option (List ℕ))) : Type 0 where
  pub answer : Option (List ℕ)
  pub once : new ≡ answer ∷ old

-- one question was asked, and its answer is what is kept
pub record Learns (kept : Option (List (List ℕ × List ℕ))) (old new : List (Option (List ℕ))) : Type 0 where
  pub answer : Option (List ℕ)
  pub once : new ≡ answer ∷ old
  pub keeps : Keeps answer kept

-- at most one question was asked
abbrev pub AsksOnceAtMost : (old new : List (Option (List ℕ))) → Type 0
AsksOnceAtMost old new = (new ≡ old) ⊎ AsksOnce old new

-- The scheduler wasn't asked yet, or not since a folder was looked at.
abbrev pub IsStale : Queue → ℕ → Type 0
IsStale q dir = (q.is_asked ≡ false) ⊎ (contains nat_cmp q.noted dir ≡ true)

-- no two places of a list have the same folder
abbrev pub AreDistinct : List ℕ → Type 0
AreDistinct dirs = (i j : ℕ) → i < j → j < length dirs → slice_index dirs i ≡ slice_index dirs j → ⊥
