-- Replies with the tree alone.
use Rattle.std.proofs.Common.{ap}
use Rattle.std.specs.Prelude.{Option, Result, Ok, Err}
use Rattle.wc_semantics.specs.declared.progress.Replayed.{Replayed}
use Rattle.wc_meaning.specs.declared.replies.DryError.{DryError}
use Rattle.wc_meaning.specs.declared.replies.DryError.TheVariants.{OutOfMemory, NoAnswer, UnknownName, BadInputs}
use Rattle.wc_meaning.specs.Replies.{Replies, DryReplies, tree_alone}

pub alone : (x r : Result (Option Replayed) DryError) → Replies x r → DryReplies (tree_alone x) r
alone (Ok o) r p = ap tree_alone p
alone (Err OutOfMemory) r p = tt
alone (Err (NoAnswer q)) r p = ap tree_alone p
alone (Err UnknownName) r p = ap tree_alone p
alone (Err (BadInputs port)) r p = ap tree_alone p
