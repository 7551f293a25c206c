-- The batch script of a job on a cluster.
use Rattle.std.specs.Prelude.{◌≡◌, ◌++◌, ◌||◌, ◌&&◌, ℕ, Bool, true, false, not, if◌then◌else◌, List, [], ◌∷◌, Option, Some, None, drop, map, codes, nat_eq}
use Rattle.std.specs.List.{concat, filter, list_any, starts_with}
use Rattle.wc_slurm.specs.Options.{words_read, words_ask}

-- a line for the scheduler begins with #SBATCH, or, as long ago, with #SLURM
abbrev pub is_directive : List ℕ → Bool
is_directive line = starts_with nat_eq line (codes "#SBATCH") || starts_with nat_eq line (codes "#SLURM")

-- what it says, behind that sign
abbrev pub said_in : List ℕ → List ℕ
said_in line = if starts_with nat_eq line (codes "#SBATCH") then drop 7 line else drop 6 line

-- any other line
abbrev pub is_command : List ℕ → Bool
is_command line = not (is_directive line)

-- a line for the scheduler that asks for what a job can't be
abbrev pub is_refused : List ℕ → Bool
is_refused line = is_directive line && words_ask (words_read (said_in line))

-- a line with its line feed, where it is taken
abbrev pub taken : Bool → List ℕ → List ℕ
taken is_taken line = if is_taken then line ++ 10 ∷ [] else []

-- lines as a text, each with its line feed
abbrev pub text_of : List (List ℕ) → List ℕ
text_of lines = concat (map (λ l. l ++ 10 ∷ []) lines)

-- A script has first the lines for the scheduler of three texts, in order, then the other lines of two of them, and then what is always
-- the same; of the third text its lines for the scheduler are taken alone.
pub record IsBatchOf (shell : List ℕ) (all program own : List (List ℕ)) (behind batch : List ℕ) : Type 0 where
  pub directives_first : batch ≡ shell ++ text_of (filter is_directive (all ++ program ++ own)) ++ text_of (filter is_command (all ++ program)) ++ behind

-- Lines of which none asks for what a job can't be have a script, and others have none.
abbrev pub HasScript : (shell : List ℕ) (all program own : List (List ℕ)) (behind : List ℕ) → Option (List ℕ) → Type 0
HasScript shell all program own behind (Some batch) =
    (list_any is_refused all ≡ false) × (list_any is_refused program ≡ false) × (list_any is_refused own ≡ false) × IsBatchOf shell all program own behind batch
HasScript shell all program own behind None =
    (list_any is_refused all || (list_any is_refused program || list_any is_refused own)) ≡ true
