-- What a run costs before an advance of its chain, and after it.
use Rattle.std.specs.Prelude.{◌≡◌, ℕ, suc, ◌+◌, ◌-◌, List, map, Option, Some, option_and_then}
use Rattle.wc_syntax.specs.declared.definition.Chain.{Chain}
use Rattle.wc_syntax.specs.declared.definition.Definition.{Definition}
use Rattle.wc_state.specs.declared.record.Checkpoint.{Checkpoint}
use Rattle.wc_semantics.specs.declared.progress.Progress.{Progress}
use Rattle.wc_semantics.specs.Tables.{Kills, Table}
use Rattle.wc_world.specs.Trees.{NamedValues}
use Rattle.wc_machine.specs.Advances.{Advanced, goes, loops, submits, ends, advance}
use Rattle.wc_machine.specs.Outlines.{blocks, left}
use Rattle.wc_turn_laws.specs.Instead.{MadeCalls}
use Rattle.wc_turn_laws.specs.OutlineLaws.{as_planned}
use Rattle.wc_turn_laws.specs.View.{View, IsSeenRight, env_in, progress_in}
use Rattle.wc_cost.specs.Cost.{Tolls, bill, cost, more, tolls}

module _ (g : Tolls) (k : Chain) (v : View) (inputs : NamedValues) (earlier : MadeCalls) where
  -- the cost of the instructions that a checkpoint leaves, from there on
  abbrev pub cost_on : ℕ → Checkpoint → Option ℕ
  cost_on b c = cost g b (left (blocks k.outline) c.frames) (progress_in v inputs earlier c)

  -- What remains after an advance: where calls are submitted one turn to bind them, those of the calls, and what is left once they are bound; nothing
  -- of a chain that ended.
  abbrev pub cost_after : ℕ → Advanced → Option ℕ
  cost_after b (goes d) = cost_on b d
  cost_after b (loops d) = cost_on b d
  cost_after b (submits d calls) =
      option_and_then (λ (r : ℕ × Progress). more (1 + r.0) (cost g b (left (blocks k.outline) d.frames) r.1))
      (bill g b (map as_planned calls) (progress_in v inputs earlier d))
  cost_after b (ends s outputs) = Some 0

-- The cost of the run from a checkpoint is 1 more than that of the run that remains after one advance, for every table and every list of kills;
-- whatever the values of data and the called processes are, and whatever was called earlier.
abbrev pub AdvancesCostOne : Type 0
AdvancesCostOne = (library : List Definition) (k : Chain) (depth : ℕ) (v : View) (inputs : NamedValues) (c : Checkpoint) (earlier : MadeCalls)
    (table : Table) (cuts : Kills) (b : ℕ) → IsSeenRight v inputs → (g : Tolls) → g ≡ tolls (16 - depth) library table cuts k.head.outputs
    → cost_on g k v inputs earlier (suc b) c ≡ more 1 (cost_after g k v inputs earlier b (advance library k depth (env_in v inputs c.ctx) c))
