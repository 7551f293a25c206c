-- How a calculation ends.
use Rattle.std.specs.Prelude.{◌≡◌, ℕ, ℤ, suc, ◌+◌, false, true, List, [], ◌∷◌, ◌++◌, length, Option, None}
use Rattle.wc_graph.specs.declared.link.LinkType.TheVariants.{Create}
use Rattle.wc_semantics.specs.declared.outcomes.Parsed.{Parsed}
use Rattle.wc_semantics.specs.Rules.{Values}
use Rattle.wc_state.specs.declared.record.Part.TheVariants as part
use Rattle.wc_state.specs.declared.record.ProcessRecord.{ProcessRecord}
use Rattle.wc_world.specs.declared.change.Change.{Change}
use Rattle.wc_world.specs.declared.change.Change.TheVariants as change
use Rattle.wc_world.specs.World.{World}
use Rattle.wc_world.specs.Snapshot.{number_of}
use Rattle.wc_machine.specs.Recorded.{recorded_outputs}
use Rattle.wc_machine.specs.Sources.{IsLowestSource}

-- for each output in byte order of the labels one data node, which gets the next number, and the link that creates it
abbrev pub creations : (next pid : ℕ) → Values → List Change
creations next pid [] = []
creations next pid (o ∷ os) =
    change.Data o.1 ∷ (change.Link (record { source = pid; target = next; link = Create; label = o.0 }) ∷ creations (suc next) pid os)

-- a process that has ended so, with this source and this exit code
abbrev pub end_of : ProcessRecord → Parsed → Option ℕ → Option ℤ → Change
end_of r p source code = change.Set (record {
  pid = r.node;
  state = p.state;
  paused = false;
  cached_from = number_of source;
  fuel = r.fuel;
  code = code;
  part = part.Over;
})

-- the outputs of a calculation are created, and it ends
abbrev pub ends : World → ProcessRecord → Parsed → Option ℕ → Option ℤ → List Change
ends w r p source code = creations (length w.nodes + 1) r.node p.outputs ++ end_of r p source code ∷ []

-- what a calculation has come to
abbrev pub come_to : World → ProcessRecord → Parsed
come_to w q = record { state = q.state; outputs = recorded_outputs w q.node }

-- A calculation that starts in the next batch takes this source: with caching on the lowest that there is, else none.
pub record TakesSource (w : World) (r : ProcessRecord) (source : Option ℕ) : Type 0 where
  pub on : r.caching ≡ true → IsLowestSource w (w.batches + 1) r source
  pub off : r.caching ≡ false → source ≡ None
