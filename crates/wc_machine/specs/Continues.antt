-- When a world continues an earlier one: nothing that was stored is lost or changed.
use Rattle.std.specs.Prelude.{◌≡◌, ◌≢◌, ◌≤◌, true, List, ◌++◌, All, Some}
use Rattle.wc_state.specs.declared.record.ProcessRecord.{ProcessRecord}
use Rattle.wc_world.specs.World.{World}
use Rattle.wc_world.specs.Records.{find_record, has_ended}
use Rattle.wc_world.specs.Trees.{recorded_tree}
use Rattle.wc_machine.specs.Recorded.{recorded_inputs}

-- a list begins another
abbrev pub Begins : {T : Type 0} → List T → List T → Type 0
Begins {T} front whole = (rest : List T) × (whole ≡ front ++ rest)

-- A record and a later one of the same process: what it was made as stays; once it has started, so does when it did and from where
-- it took its outcome; and once it has ended, everything.
pub record Carries (old new : ProcessRecord) : Type 0 where
  pub node : new.node ≡ old.node
  pub kind : new.kind ≡ old.kind
  pub definition : new.definition ≡ old.definition
  pub library : new.library ≡ old.library
  pub depth : new.depth ≡ old.depth
  pub label : new.label ≡ old.label
  pub caching : new.caching ≡ old.caching
  pub started : old.started ≢ 0 → (new.started ≡ old.started) × (new.cached_from ≡ old.cached_from)
  pub ended : has_ended old.state ≡ true → new ≡ old

-- The world w continues the world v: its lists begin with those of v, and each process of v stands in it with the same inputs, and, where
-- it has ended, with the same tree.
pub record Continues (v w : World) : Type 0 where
  pub libraries : Begins v.libraries w.libraries
  pub nodes : Begins v.nodes w.nodes
  pub links : Begins v.links w.links
  pub batches : v.batches ≤ w.batches
  pub records : All (λ r. (s : ProcessRecord) × (find_record r.node w.records ≡ Some s) × Carries r s) v.records
  pub inputs : All (λ r. recorded_inputs w r.node ≡ recorded_inputs v r.node) v.records
  pub trees : All (λ r. has_ended r.state ≡ true → recorded_tree w r.node ≡ recorded_tree v r.node) v.records
