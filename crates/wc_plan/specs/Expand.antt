-- What `expand` replies, and which files it asks for.
use Rattle.std.specs.Prelude.{◌≡◌, ℕ, List, [], ◌∷◌, Option, Some, None, IsSome, Result, Ok, Err}
use Rattle.wc_syntax.specs.Printing.{printed}
use Rattle.wc_syntax.specs.declared.definition.Definition.{Definition}
use Rattle.wc_handlers.specs.declared.error.RestartError.{RestartError}
use Rattle.wc_handlers.specs.declared.spec.Spec.{Spec}
use Rattle.wc_handlers.specs.Reading.{spec_in}
use Rattle.wc_restart.specs.Chains.{expanded}
use Rattle.wc_restart.specs.Judging.{refusal}
use Rattle.wc_cli.specs.declared.command.Command.{Command}
use Rattle.wc_cli.specs.declared.command.Command.TheVariants.{Expand}
use Rattle.wc_plan.specs.declared.libraries.Read.{Read}
use Rattle.wc_plan.specs.declared.libraries.Read.TheVariants as read
use Rattle.wc_plan.specs.declared.reply.Reply.{Reply}
use Rattle.wc_plan.specs.declared.status.Cause.{Cause}
use Rattle.wc_plan.specs.declared.status.Cause.TheVariants as cause
use Rattle.wc_plan.specs.Files.{ReadsFrom}
use Rattle.wc_plan.specs.Further.{Has}
use Rattle.wc_plan.specs.Naming.{AsksFirst}
use Rattle.wc_plan.specs.Replies.{refuses, prints}

-- for a spec that is refused so beside the library, or isn't: the printed text of the library with the one chain added
abbrev pub owed_chain : List Definition → Spec → Option RestartError → Reply
owed_chain library s (Some e) = refuses (cause.Restart e)
owed_chain library s None = prints (printed (expanded library s))

-- for what the bytes of the spec file are read as
abbrev pub owed_spec : List Definition → Result Spec RestartError → Reply
owed_spec library (Err e) = refuses (cause.Restart e)
owed_spec library (Ok s) = owed_chain library s (refusal library s)

-- for the content of the spec file of this name, none where there is no such file
abbrev pub owed_content : List Definition → List ℕ → Option (List ℕ) → Reply
owed_content library spec None = refuses (cause.NoFile spec)
owed_content library spec (Some bytes) = owed_spec library (spec_in bytes)

-- for a library's file that is read as this, and a spec file of this name: what is refused of the library's file comes before anything of the other
abbrev pub OwesExpand : Option (List ℕ → Option (List ℕ)) → List ℕ → Read → Reply → Type 0
OwesExpand told spec (read.Refused c) r = r ≡ refuses c
OwesExpand told spec (read.Library library) r = (content : Option (List ℕ)) × Has told spec content × (r ≡ owed_content library spec content)

-- the files that are asked for behind the library's file, which is read as this
abbrev pub asked_behind : List ℕ → Read → List (List ℕ)
asked_behind spec (read.Refused c) = []
asked_behind spec (read.Library library) = spec ∷ []

-- where a shelf that tells this has a library's file that is refused, `expand` asks for that one alone, if for any
abbrev pub SparesSpec : Option (List ℕ → Option (List ℕ)) → Option Command → List (List ℕ) → List (List ℕ) → Type 0
SparesSpec told (Some (Expand file spec)) old new = IsSome told → (c : Cause) → ReadsFrom told file (read.Refused c) → AsksFirst (file ∷ []) old new
SparesSpec told _ old new = Unit {0}
