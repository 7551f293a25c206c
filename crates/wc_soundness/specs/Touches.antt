-- Events that touch one process.
use Rattle.std.specs.Prelude.{◌≡◌, ◌≢◌, ◌⊎◌, ℕ, ◌+◌, ◌<◌, ◌≤◌, true, false, List, ◌++◌, length, All, Some, slice_get}
use Rattle.wc_graph.specs.declared.link.Link.{Link}
use Rattle.wc_graph.specs.declared.link.LinkType.TheVariants.{Create}
use Rattle.wc_graph.specs.declared.node.NodeKind.{NodeKind}
use Rattle.wc_state.specs.declared.record.ProcessRecord.{ProcessRecord}
use Rattle.wc_semantics.specs.Tables.{Path}
use Rattle.wc_world.specs.World.{World}
use Rattle.wc_world.specs.Consistent.{IsConsistent}
use Rattle.wc_world.specs.Fits.{has_output}
use Rattle.wc_world.specs.Records.{find_record, has_ended, is_calculation, takes_input, is_call_from, is_output_of}
use Rattle.wc_world.specs.Trees.{recorded_tree}
use Rattle.wc_machine.specs.Continues.{Begins, Carries}
use Rattle.wc_machine.specs.Paths.{kills}
use Rattle.wc_machine.specs.Recorded.{recorded_inputs, recorded_outputs}
use Rattle.wc_machine.specs.Created.{IsGiven}
use Rattle.wc_machine.specs.Rest.{IsOnTrack}
use Rattle.wc_machine.specs.Sources.{KeepsRule}
use Rattle.wc_machine.specs.Submissions.{IsKeptLibrary}
use Rattle.wc_machine.specs.Sound.{AwaitsLastCalls, CallsAreKept, GoesUp, IsFitting, IsMeant, IsPlaced, KeepsFew, NamesKnown, fuel_in}

-- A link that an event adds for a process: to an output of it, or, where the node at its target is new, as a call from it or as an input, or
-- between two new nodes.
abbrev pub AddsFor : List NodeKind → ℕ → Link → Type 0
AddsFor nodes pid l =
    (is_output_of pid l ≡ true)
    ⊎ ((is_call_from pid l ≡ true) × (length nodes < l.target))
    ⊎ ((takes_input l.link ≡ true) × (length nodes < l.target))
    ⊎ ((length nodes < l.source) × (length nodes < l.target))

-- The world w is v after an event that touches this process alone, or makes it: lists grow, each new link is for the process or between two
-- new nodes, its record is carried over, and each other record stays.
pub record Touches (v w : World) (pid : ℕ) : Type 0 where
  pub libraries : Begins v.libraries w.libraries
  pub nodes : Begins v.nodes w.nodes
  pub new : List Link
  pub links : w.links ≡ v.links ++ new
  pub added : All (AddsFor v.nodes pid) new
  pub records : (q : ℕ) → pid ≢ q → q ≤ length v.nodes → find_record q w.records ≡ find_record q v.records
  pub carried : (r : ProcessRecord) → find_record pid v.records ≡ Some r → (s : ProcessRecord) × (find_record pid w.records ≡ Some s) × Carries r s
  pub batches : v.batches ≤ w.batches

-- the process hasn't ended, or isn't there yet
abbrev pub MayBeTouched : World → ℕ → Type 0
MayBeTouched w pid = (r : ProcessRecord) → find_record pid w.records ≡ Some r → has_ended r.state ≡ false

-- What has ended has its record, inputs, outputs, tree and kills as before, and is meant.
pub record StaysEnded (v w : World) (r : ProcessRecord) : Type 0 where
  pub found : find_record r.node w.records ≡ Some r
  pub inputs : recorded_inputs w r.node ≡ recorded_inputs v r.node
  pub outputs : recorded_outputs w r.node ≡ recorded_outputs v r.node
  pub tree : recorded_tree w r.node ≡ recorded_tree v r.node
  pub kills : (path : Path) → kills w r.node path ≡ kills v r.node path
  pub meant : IsMeant w r

-- What the event touches or makes is no source for what started before it: it hasn't ended, or it ended in a later batch.
abbrev pub EndsLate : World → World → ℕ → Type 0
EndsLate v w pid = (q : ProcessRecord) → find_record q.node w.records ≡ Some q → (pid ≡ q.node) ⊎ (length v.nodes < q.node)
    → (q.ended ≡ 0) ⊎ (v.batches < q.ended)

-- What a sound world asks of each record.
pub record IsSoundRecord (w : World) (r : ProcessRecord) : Type 0 where
  pub fits : IsFitting w r
  pub placed : IsPlaced w r
  pub calls : CallsAreKept w r
  pub awaits : AwaitsLastCalls w r r.part
  pub names : NamesKnown w r r.part
  pub rule : KeepsRule w r
  pub bare : is_calculation r.kind ≡ true → has_ended r.state ≡ false → has_output r.node w.links ≡ false
  pub given : is_calculation r.kind ≡ true → has_ended r.state ≡ true → IsGiven w r
  pub live : has_ended r.state ≡ false → IsOnTrack w r
  pub ended : has_ended r.state ≡ true → IsMeant w r
  pub few : has_ended r.state ≡ true → KeepsFew r

-- What it asks of the lists.
pub record HasSoundLists (w : World) : Type 0 where
  pub consistent : IsConsistent w
  pub libraries : All (λ k. IsKeptLibrary k.0) w.libraries
  pub upward : All GoesUp w.links
  pub one_creator : (i j : ℕ) (l m : Link) → slice_get w.links i ≡ Some l → slice_get w.links j ≡ Some m → l.link ≡ Create → m.link ≡ Create
      → l.target ≡ m.target → i ≡ j
  pub fuel : fuel_in w.records w.records ≤ w.batches + length w.nodes
