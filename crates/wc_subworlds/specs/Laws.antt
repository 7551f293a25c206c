-- Laws of worlds that are part of another, and of replays.
use Rattle.std.specs.Prelude.{◌≡◌, ℕ, All, Some}
use Rattle.wc_state.specs.declared.record.ProcessRecord.{ProcessRecord}
use Rattle.wc_semantics.specs.declared.progress.Answer.TheVariants.{Gave}
use Rattle.wc_semantics.specs.declared.progress.Replayed.{Replayed}
use Rattle.wc_semantics.specs.Tables.{Table}
use Rattle.wc_world.specs.World.{World}
use Rattle.wc_world.specs.Consistent.{IsConsistent}
use Rattle.wc_world.specs.Records.{find_record}
use Rattle.wc_world.specs.Trees.{recorded_tree}
use Rattle.wc_machine.specs.Agreement.{Agrees}
use Rattle.wc_machine.specs.Paths.{call_links, kills}
use Rattle.wc_machine.specs.Rest.{meant}
use Rattle.wc_machine.specs.Sound.{AreNumbered, IsMeant}
use Rattle.wc_subworlds.specs.Parts.{IsPart, TellTheSame}
use Rattle.wc_subworlds.specs.Asks.{asks_of}

-- A consistent world that is part of another tells the same of each of its processes as the other tells of the process at its place.
abbrev pub PartsTellTheSame : Type 0
PartsTellTheSame = (place : ℕ → ℕ) (u w : World) → IsConsistent u → IsPart place u w → (r s : ProcessRecord) → find_record r.node u.records ≡ Some r
    → find_record (place r.node) w.records ≡ Some s → TellTheSame place u w r s

-- the calls of each process are numbered from 1
abbrev pub NumbersCalls : World → Type 0
NumbersCalls w = All (λ r. AreNumbered 1 (call_links w r.node)) w.records

-- With a table that agrees with a process, its definition means, for its inputs, its fuel and the recorded kills, its recorded tree, and what
-- was asked for this are just the recorded jobs below it, by call path, request and order.
pub record IsReplayed (w : World) (r : ProcessRecord) (table : Table) : Type 0 where
  pub agrees : Agrees table w r.node
  pub replayed : Replayed
  pub left : ℕ
  pub gives : meant w r table (kills w r.node) r.fuel ≡ Some (Gave replayed left)
  pub tree : recorded_tree w r.node ≡ Some replayed.tree
  pub asked : replayed.asked ≡ asks_of w r.node

-- Then each table that agrees with it gives that tree: the process is meant.
abbrev pub ReplaysAreMeant : Type 0
ReplaysAreMeant = (w : World) (r : ProcessRecord) (table : Table) → IsConsistent w → NumbersCalls w → find_record r.node w.records ≡ Some r → IsReplayed w r table → IsMeant w r
