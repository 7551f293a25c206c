-- What a call of the engine has done on the machine.
use Rattle.std.specs.Prelude.{◌≡◌, ℕ, List, Option, Some, None}
use Rattle.wc_io.specs.Events.{all_bytes, asked_names}
use Rattle.wc_cli.specs.Words.{command_of}
use Rattle.wc_plan.specs.Naming.{files_named, AsksFirst}
use Rattle.wc_plan.specs.Plans.{NamesNoFile, Plans}
use Rattle.wc_plan.specs.Replies.{code_of, IsReplied, Writes}
use Rattle.wc_plan.specs.declared.deed.Plan.{Plan}
use Rattle.wc_plan.specs.declared.deed.Plan.TheVariants as plan
use Rattle.wc_plan.specs.declared.reply.Reply.{Reply}
use Rattle.wc_plan.specs.declared.status.Status.{Status}
use Rattle.wc_plan.specs.declared.status.Status.TheVariants as status
use Rattle.wc_app.specs.declared.machine.Machine.{Machine}

-- what the standard output took
abbrev pub taken : Machine → Option (List ℕ)
taken machine = Some (all_bytes machine.sink.log.events)

-- the files that were asked for
abbrev pub asked : Machine → List (List ℕ)
asked machine = asked_names machine.shelf.log.events

-- A reply with this status was written whole. It is one for a plan of these words, and the one that is planned where the words ask nothing of a store.
pub record RepliesTo (words : List (List ℕ)) (before after : Machine) (ended : Status) : Type 0 where
  pub reply : Reply
  pub same : reply.status ≡ ended
  pub written : Writes reply.text (taken before) (taken after)
  pub aim : Plan
  pub planned : Plans None (command_of words) aim
  pub told : (owed : Reply) → aim ≡ plan.Reply owed → reply ≡ owed

-- The engine was handed these words and a machine, left the machine so, and ended with a status of this number.
pub record Serves (words : List (List ℕ)) (before after : Machine) (number : ℕ) : Type 0 where
  pub ended : Status
  pub numbered : number ≡ code_of ended
  pub replied : IsReplied ended → RepliesTo words before after ended
  pub unwritten : ended ≡ status.OutOfMemory → taken after ≡ taken before
  pub named : AsksFirst (files_named (command_of words)) (asked before) (asked after)
  pub unnamed : NamesNoFile (command_of words) → after.shelf ≡ before.shelf
