-- Laws of what a run costs and of what is left of a world.
use Rattle.std.specs.Prelude.{◌≡◌, ℕ, true, false, All, List, Option, Some, None}
use Rattle.wc_value.specs.declared.process.JobResult.{JobResult}
use Rattle.wc_value.specs.declared.process.Request.{Request}
use Rattle.wc_value.specs.declared.process.Tree.{Tree}
use Rattle.wc_syntax.specs.declared.definition.Definition.{Definition}
use Rattle.wc_syntax.specs.declared.definition.Port.{Port}
use Rattle.wc_syntax.specs.declared.outline.Instr.{Instr}
use Rattle.wc_semantics.specs.Meaning.{around, ended, meaning, within}
use Rattle.wc_semantics.specs.Rules.{Values}
use Rattle.wc_semantics.specs.Run.{run}
use Rattle.wc_semantics.specs.Tables.{Kills, Table}
use Rattle.wc_semantics.specs.declared.progress.Answer.TheVariants.{Gave}
use Rattle.wc_semantics.specs.declared.progress.Progress.{Progress}
use Rattle.wc_semantics.specs.declared.progress.Replayed.{Replayed}
use Rattle.wc_state.specs.declared.record.ProcessRecord.{ProcessRecord}
use Rattle.wc_world.specs.Consistent.{IsConsistent}
use Rattle.wc_world.specs.Records.{find_record, has_ended}
use Rattle.wc_world.specs.World.{World}
use Rattle.wc_machine.specs.Agreement.{AgreesWithWorld}
use Rattle.wc_machine.specs.Paths.{kills}
use Rattle.wc_machine.specs.Rest.{GivesTree, meant}
use Rattle.wc_machine.specs.Sound.{IsSound}
use Rattle.wc_cost.specs.Cost.{Costs, Prices, bare, tolls}
use Rattle.wc_cost.specs.Left.{IsLeft, by_request}

-- A run has one cost at most, whatever the bounds, and one that ends, not killed, has one.
pub record RunsHaveOneCost (levels : ℕ) (library : List Definition) (table : Table) (kills : Kills) (ports : List Port) : Type 0 where
  pub one : (is : List Instr) (e : Progress) (k k' : ℕ) → Costs (tolls levels library table kills ports) is e k → Costs (tolls levels library table kills ports) is e k' → k ≡ k'
  pub some : (name : List ℕ) (is : List Instr) (n : ℕ) (e : Progress) (t : Replayed) (m : ℕ)
      → ended None name ports (run is (within ports None (around levels library table kills)) n e) ≡ Gave t m
      → (k : ℕ) × Costs (tolls levels library table kills ports) is (bare e) k

-- A definition has one price at most, and one that means a tree has one.
pub record MeaningsHaveOnePrice (levels : ℕ) (library : List Definition) (table : Table) (kills : Kills) (name : List ℕ) (inputs : Values) : Type 0 where
  pub one : (k k' : ℕ) → Prices levels library table kills name inputs k → Prices levels library table kills name inputs k' → k ≡ k'
  pub some : (n : ℕ) (t : Replayed) (m : ℕ) → meaning levels library table kills n name inputs ≡ Gave t m → (k : ℕ) × Prices levels library table kills name inputs k

-- The law: a run has one cost at most, and one that ends and isn't killed has one
abbrev pub RunsCost : Type 0
RunsCost = (levels : ℕ) (library : List Definition) (table : Table) (kills : Kills) (ports : List Port) → RunsHaveOneCost levels library table kills ports

-- The law: a definition has one price at most for its inputs, and where its meaning gives a tree it has one
abbrev pub MeaningsCost : Type 0
MeaningsCost = (levels : ℕ) (library : List Definition) (table : Table) (kills : Kills) (name : List ℕ) (inputs : Values)
    → MeaningsHaveOnePrice levels library table kills name inputs

-- ---- what is left of a world

-- Each live process that nothing called means a tree, with its kills, for some fuel.
abbrev pub RootsMean : (Request → Option JobResult) → World → Type 0
RootsMean results w = (r : ProcessRecord) → find_record r.node w.records ≡ Some r → has_ended r.state ≡ false → r.depth ≡ 1
    → (n : ℕ) × (t : Tree) × GivesTree (meant w r (by_request results) (kills w r.node) n) t

-- Where that is so, and the results agree with what a sound world records, it is told what is left.
abbrev pub LeftIsThere : Type 0
LeftIsThere = (results : Request → Option JobResult) (w : World) → IsSound w → AgreesWithWorld (by_request results) w → RootsMean results w
    → (k : ℕ) × IsLeft results w k

-- It is one number.
abbrev pub LeftIsOne : Type 0
LeftIsOne = (results : Request → Option JobResult) (w : World) (j k : ℕ) → IsLeft results w j → IsLeft results w k → j ≡ k

-- Where nothing is left no process is live.
abbrev pub LiveOwe : Type 0
LiveOwe = (results : Request → Option JobResult) (w : World) → IsConsistent w → IsLeft results w 0 → All (λ r. has_ended r.state ≡ true) w.records
