-- The table of commands: the word of each, its operands and its options with their ranges.
use Rattle.std.specs.Prelude.{ℕ, List, [], ◌∷◌, Option, option_map, unwrap_or, find, map, codes}
use Rattle.std.specs.Str.{bytes_eq}
use Rattle.wc_cli.specs.declared.table.Bounds.{Bounds}
use Rattle.wc_cli.specs.declared.table.Choice.{Choice as Taken}
use Rattle.wc_cli.specs.declared.table.Choice.TheVariants as taken
use Rattle.wc_cli.specs.declared.table.Form.{Form}
use Rattle.wc_cli.specs.declared.table.Form.TheVariants.{Dry, Check, Submit, Run, Alone, Numbered, Drill, Query, Expand}
use Rattle.wc_cli.specs.declared.table.Lone.TheVariants.{Init, List as Processes, Graph, Verify, Pack}
use Rattle.wc_cli.specs.declared.table.Numbered.TheVariants.{Tree, Show, Pause, Play, Kill}
use Rattle.wc_cli.specs.declared.table.Entry.{Entry as Written}

-- ---- ranges

-- the numbers of nodes and processes, of 32 bits
abbrev pub nodes : Bounds
nodes = record { least = 1; most = 4294967295 }

-- the seeds of runs and drills
abbrev pub seeds : Bounds
seeds = record { least = 0; most = 2147483647 }

-- how many turns may be asked for, of runs and of evaluations
abbrev pub turn_counts : Bounds
turn_counts = record { least = 0; most = 1000000000 }

-- how many chains a drill may run
abbrev pub chain_counts : Bounds
chain_counts = record { least = 0; most = 10000 }

-- how many rows a query may list
abbrev pub row_counts : Bounds
row_counts = record { least = 1; most = 1000000 }

-- an option that takes a number: its name, the numbers that it takes, and the number where it isn't there
pub record Amount : Type 0 where
  pub name : List ℕ
  pub bounds : Bounds
  pub usual : ℕ

-- the option `--fuel`: from 0 to 1,000,000,000, usually 100,000
abbrev pub for_fuel : Amount
for_fuel = record { name = codes "fuel"; bounds = turn_counts; usual = 100000 }

-- the option `--turns`: from 0 to 1,000,000,000, usually 1,000,000
abbrev pub for_turns : Amount
for_turns = record { name = codes "turns"; bounds = turn_counts; usual = 1000000 }

-- the option `--seed`: from 0 to 2,147,483,647, usually 0
abbrev pub for_seed : Amount
for_seed = record { name = codes "seed"; bounds = seeds; usual = 0 }

-- the option `--limit`: from 1 to 1,000,000, usually 10,000
abbrev pub for_limit : Amount
for_limit = record { name = codes "limit"; bounds = row_counts; usual = 10000 }

-- the options that take a text
abbrev pub for_inputs : List ℕ
for_inputs = codes "inputs"

-- the name of the option for results of jobs
abbrev pub for_results : List ℕ
for_results = codes "table"

-- the name of the option for settings
abbrev pub for_settings : List ℕ
for_settings = codes "settings"

-- the name of the option for a file of handlers
abbrev pub for_spec : List ℕ
for_spec = codes "spec"

-- an option: one that takes a text, or one that takes a number
pub data Choice : Type 0 where
  text : List ℕ → Choice
  number : Amount → Choice

-- the name of an option
abbrev pub name_of : Choice → List ℕ
name_of (text name) = name
name_of (number amount) = amount.name

-- ---- commands

-- a command: its word, its operands with the command that they make, and its options
pub record Entry : Type 0 where
  pub word : List ℕ
  pub form : Form
  pub options : List Choice

abbrev entry : List ℕ → Form → List Choice → Entry
entry word form options = record { word = word; form = form; options = options }

-- The commands. `Dry` and `Submit` take `FILE NAME [PORT=VALUE]...`, `Check` takes `FILE`, `Run` and `Alone` take no operands,
-- `Numbered` takes one number within its bounds, `Drill` two, `Query` any number of operands, and `Expand` takes `FILE`.
unfoldable pub table : List Entry
table =
    entry (codes "dry") Dry (text for_inputs ∷ text for_results ∷ number for_fuel ∷ [])
    ∷ entry (codes "check") Check []
    ∷ entry (codes "init") (Alone Init) []
    ∷ entry (codes "submit") Submit (text for_inputs ∷ text for_settings ∷ [])
    ∷ entry (codes "run") Run (number for_turns ∷ number for_seed ∷ text for_settings ∷ [])
    ∷ entry (codes "list") (Alone Processes) []
    ∷ entry (codes "tree") (Numbered nodes Tree) []
    ∷ entry (codes "show") (Numbered nodes Show) []
    ∷ entry (codes "graph") (Alone Graph) []
    ∷ entry (codes "verify") (Alone Verify) []
    ∷ entry (codes "pause") (Numbered nodes Pause) []
    ∷ entry (codes "play") (Numbered nodes Play) []
    ∷ entry (codes "kill") (Numbered nodes Kill) []
    ∷ entry (codes "pack") (Alone Pack) []
    ∷ entry (codes "drill") (Drill seeds chain_counts) []
    ∷ entry (codes "query") Query (number for_limit ∷ [])
    ∷ entry (codes "expand") Expand (text for_spec ∷ [])
    ∷ []

-- ---- what the table says of a word

-- the first of these commands that has this word
abbrev pub entry_among : List ℕ → List Entry → Option Entry
entry_among word = find (λ e. bytes_eq word e.word)

-- which operands the command of a word takes, if there is such a command
abbrev pub form_among : List ℕ → List Entry → Option Form
form_among word entries = option_map (λ e. e.form) (entry_among word entries)

-- the form of the command with this word, if there is one
abbrev pub form_of : List ℕ → Option Form
form_of word = form_among word table

-- the names of the options of an entry
abbrev pub option_names : Entry → List (List ℕ)
option_names e = map name_of e.options

-- the options of the command of a word
abbrev pub options_among : List ℕ → List Entry → List (List ℕ)
options_among word entries = unwrap_or (option_map option_names (entry_among word entries)) []

-- the names of the options that the command with this word has
abbrev pub options_of : List ℕ → List (List ℕ)
options_of word = options_among word table

-- ---- what the program writes

-- an option, as the definition has it, of the program's table
abbrev pub choice_of : Taken → Choice
choice_of (taken.Text name) = text name.now
choice_of (taken.Number a) = number (record { name = a.name.now; bounds = a.bounds; usual = a.usual })

-- a command, as the definition has it, of the program's table
abbrev pub entry_of : Written → Entry
entry_of e = entry e.word.now e.form (map choice_of e.options.now)
