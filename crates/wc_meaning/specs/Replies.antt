-- What `replay` and `dry` reply.
use Rattle.std.specs.Prelude.{◌≡◌, ℕ, List, Option, Some, None, option_map, Result, Ok, Err}
use Rattle.wc_value.specs.declared.process.JobResult.{JobResult}
use Rattle.wc_value.specs.declared.process.Request.{Request}
use Rattle.wc_value.specs.declared.process.Tree.{Tree}
use Rattle.wc_syntax.specs.Findings.{head_of, definition_named}
use Rattle.wc_syntax.specs.declared.definition.Definition.{Definition}
use Rattle.wc_semantics.specs.Rules.{Values}
use Rattle.wc_semantics.specs.declared.progress.Answer.{Answer}
use Rattle.wc_semantics.specs.declared.progress.Answer.TheVariants.{Gave, TooLittle, Without, Astray}
use Rattle.wc_semantics.specs.declared.progress.Replayed.{Replayed}
use Rattle.wc_semantics.specs.Tables.{Path, plain, kills_of}
use Rattle.wc_semantics.specs.Meaning.{meaning}
use Rattle.wc_meaning.specs.declared.replies.DryError.{DryError}
use Rattle.wc_meaning.specs.declared.replies.DryError.TheVariants.{OutOfMemory, NoAnswer, UnknownName, BadInputs}
use Rattle.wc_meaning.specs.Inputs.{bad_input}

-- There is none where the fuel doesn't suffice, and where a kill is missed.
abbrev pub of_answer : Answer → Result (Option Replayed) DryError
of_answer (Gave t n) = Ok (Some t)
of_answer TooLittle = Ok None
of_answer (Without q) = Err (NoAnswer q)
of_answer Astray = Ok None

-- for the definition, if there is one, its least port with a bad input, if there is one
abbrev pub reply : Option (Option (List ℕ)) → Answer → Result (Option Replayed) DryError
reply None a = Err UnknownName
reply (Some (Some port)) a = Err (BadInputs port)
reply (Some None) a = of_answer a

-- the reply of a library, at a depth of 16 less the levels, with a table by request alone
abbrev pub reply_of : List Definition → List ℕ → Values → ℕ → List (Request × JobResult) → List (Path × ℕ) → ℕ → Result (Option Replayed) DryError
reply_of library name inputs levels table kills fuel =
    reply (option_map (λ d. bad_input (head_of d).inputs inputs) (definition_named name library))
    (meaning levels library (plain table) (kills_of kills) fuel name inputs)

-- ---- what a call returned, beside the reply: the same, unless memory ran out

-- What a call returned is this reply, unless memory ran out
abbrev pub Replies : Result (Option Replayed) DryError → Result (Option Replayed) DryError → Type 0
Replies (Err OutOfMemory) r = Unit {0}
Replies x r = x ≡ r

-- a reply with the tree alone
abbrev pub tree_alone : Result (Option Replayed) DryError → Result (Option Tree) DryError
tree_alone (Ok x) = Ok (option_map (λ t. t.tree) x)
tree_alone (Err e) = Err e

-- the same of a call that returns the tree alone
abbrev pub DryReplies : Result (Option Tree) DryError → Result (Option Replayed) DryError → Type 0
DryReplies (Err OutOfMemory) r = Unit {0}
DryReplies x r = x ≡ tree_alone r
