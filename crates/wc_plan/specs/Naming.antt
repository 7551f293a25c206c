-- Which files words name, and which of them a shelf was asked for.
use Rattle.std.specs.Prelude.{◌≡◌, ◌++◌, ℕ, List, [], ◌∷◌, Option, Some, None}
use Rattle.wc_cli.specs.declared.command.Command.{Command}
use Rattle.wc_cli.specs.declared.command.Command.TheVariants.{Dry, Check, Init, Submit, Run, View, Pause, Play, Kill, Pack, Drill, Query, Expand}

-- the file of an option, if it is given
abbrev pub given_file : Option (List ℕ) → List (List ℕ)
given_file None = []
given_file (Some file) = file ∷ []

-- the files that a command names, in the order in which they are read: settings first, then the library, inputs, and results of jobs, or what a restart chain is made of
abbrev pub files_named : Option Command → List (List ℕ)
files_named None = []
files_named (Some (Check file)) = file ∷ []
files_named (Some (Dry file name given inputs table fuel)) = file ∷ (given_file inputs ++ given_file table)
files_named (Some Init) = []
files_named (Some (Submit file name given inputs settings)) = given_file settings ++ (file ∷ given_file inputs)
files_named (Some (Pause pid)) = []
files_named (Some (Play pid)) = []
files_named (Some (Kill pid)) = []
files_named (Some (Run turns seed settings)) = given_file settings
files_named (Some (View v)) = []
files_named (Some Pack) = []
files_named (Some (Drill seed count)) = []
files_named (Some (Query words limit)) = []
files_named (Some (Expand file spec)) = file ∷ spec ∷ []

-- A shelf was asked for the first of these files, each once and in their order, and for nothing else.
pub record AsksFirst (files old new : List (List ℕ)) : Type 0 where
  pub front : List (List ℕ)
  pub rest : List (List ℕ)
  pub split : files ≡ front ++ rest
  pub asked : new ≡ old ++ front
