-- The lines that tell what was done to a store, or why nothing was.
use Rattle.std.specs.Prelude.{ℕ, Bool, not, ◌&&◌, List, [], ◌∷◌, ◌++◌, length, filter, Option, Some, None, codes}
use Rattle.std.specs.List.{concat}
use Rattle.std.specs.Fmt.{decimal}
use Rattle.wc_state.specs.declared.record.ProcessRecord.{ProcessRecord}
use Rattle.wc_state.specs.declared.record.What.{What}
use Rattle.wc_state.specs.declared.record.What.TheVariants as what
use Rattle.wc_world.specs.Records.{has_ended}

-- ---- what was done

-- the line of `init`, byte for byte
abbrev pub initialised_text : List ℕ
initialised_text = codes "initialised\n"

-- the number of the new process
abbrev pub submitted_text : ℕ → List ℕ
submitted_text pid = concat (codes "submitted " ∷ decimal pid ∷ codes "\n" ∷ [])

-- the number of the process that has the pause mark, plays, or was killed
abbrev pub paused_text : ℕ → List ℕ
paused_text pid = concat (codes "paused " ∷ decimal pid ∷ codes "\n" ∷ [])

-- the line of a `play`, byte for byte
abbrev pub playing_text : ℕ → List ℕ
playing_text pid = concat (codes "playing " ∷ decimal pid ∷ codes "\n" ∷ [])

-- the line of a `kill`, byte for byte
abbrev pub killed_text : ℕ → List ℕ
killed_text pid = concat (codes "killed " ∷ decimal pid ∷ codes "\n" ∷ [])

-- how many batches were committed, how many processes are live then, and how many of these have the pause mark
abbrev pub committed_text : ℕ → ℕ → ℕ → List ℕ
committed_text committed live paused = concat (codes "committed " ∷ decimal committed ∷ codes " live " ∷ decimal live ∷ codes " paused " ∷ decimal paused ∷ codes "\n" ∷ [])

-- the number of the new generation
abbrev pub packed_text : ℕ → List ℕ
packed_text generation = concat (codes "packed " ∷ decimal generation ∷ codes "\n" ∷ [])

-- ---- why nothing was

-- the byte that stands there, or that the image ends there
abbrev pub found_text : Option ℕ → List ℕ
found_text (Some byte) = codes "byte " ++ decimal byte
found_text None = codes "end"

-- the disk, the place on it, and what is there
abbrev pub damaged_text : ℕ → ℕ → Option ℕ → List ℕ
damaged_text disk at found = concat (codes "damaged: disk " ∷ decimal disk ∷ codes " at " ∷ decimal at ∷ codes " " ∷ found_text found ∷ codes "\n" ∷ [])

-- what a store is too full of, in a word
abbrev pub what_text : What → List ℕ
what_text what.Nodes = codes "nodes"
what_text what.Bytes = codes "bytes"
what_text what.Batches = codes "batches"
what_text what.Generations = codes "generations"

-- what there is too much of, how many there would be, and the most that there may be
abbrev pub full_text : What → ℕ → ℕ → List ℕ
full_text thing count limit = concat (codes "full: " ∷ what_text thing ∷ codes " " ∷ decimal count ∷ codes " of " ∷ decimal limit ∷ codes "\n" ∷ [])

-- ---- what is checked of a world

-- whether results agree, or the least two processes whose results disagree
abbrev pub agreement_text : Option (ℕ × ℕ) → List ℕ
agreement_text None = codes "agrees"
agreement_text (Some p) = codes "disagrees " ++ (decimal p.0 ++ (codes " " ++ decimal p.1))

-- how many nodes and links there are, and whether results agree
abbrev pub verified_text : ℕ → ℕ → Option (ℕ × ℕ) → List ℕ
verified_text nodes links disagreement =
    concat (codes "nodes " ∷ decimal nodes ∷ codes " links " ∷ decimal links ∷ codes "\ntable " ∷ agreement_text disagreement ∷ codes "\n" ∷ [])

-- the least node that lies on a cycle of data provenance
abbrev pub cycle_text : ℕ → List ℕ
cycle_text node = concat (codes "unsound: cycle at " ∷ decimal node ∷ codes "\n" ∷ [])

-- the lowest calculation that isn't as its inputs give it
abbrev pub wrong_value_text : ℕ → List ℕ
wrong_value_text pid = concat (codes "unsound: value at " ∷ decimal pid ∷ codes "\n" ∷ [])

-- ---- how many processes

-- whether a process hasn't ended
abbrev pub is_live : ProcessRecord → Bool
is_live r = not (has_ended r.state)

-- a live process with the pause mark
abbrev pub is_paused : ProcessRecord → Bool
is_paused r = is_live r && r.paused

-- how many haven't ended
abbrev pub live_count : List ProcessRecord → ℕ
live_count records = length (filter is_live records)

-- how many of these have the pause mark
abbrev pub paused_count : List ProcessRecord → ℕ
paused_count records = length (filter is_paused records)
