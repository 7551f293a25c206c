-- What remains of a chain that runs, as a run from its checkpoint.
use Rattle.std.proofs.Common.{◌≡◌, ℕ, List, [], Option, Some, None, map, ap, ◌∙◌}
use Rattle.std.specs.Prelude.{option_map, option_and_then}
use Rattle.wc_value.specs.declared.process.Tree.{Tree}
use Rattle.wc_syntax.specs.declared.definition.Chain.{Chain}
use Rattle.wc_syntax.specs.declared.definition.Definition.{Definition}
use Rattle.wc_syntax.specs.declared.definition.Definition.TheVariants as definition
use Rattle.wc_state.specs.declared.environment.Item.{Item}
use Rattle.wc_state.specs.declared.record.Checkpoint.{Checkpoint}
use Rattle.wc_state.specs.declared.record.Part.{Part}
use Rattle.wc_state.specs.declared.record.Part.TheVariants as part
use Rattle.wc_state.specs.declared.record.ProcessRecord.{ProcessRecord}
use Rattle.wc_semantics.specs.declared.progress.Answer.{Answer}
use Rattle.wc_semantics.specs.declared.progress.Progress.{Progress}
use Rattle.wc_semantics.specs.Meaning.{ended, around, within}
use Rattle.wc_semantics.specs.Tables.{Label, Table, Kills}
use Rattle.wc_world.specs.Records.{find_record, library_at}
use Rattle.wc_world.specs.Trees.{inputs_of, items_of, context_of, environment_at}
use Rattle.wc_world.specs.World.{World}
use Rattle.wc_machine.specs.Recorded.{its_definition}
use Rattle.wc_machine.specs.Rest.{levels_of, env_alone, set_values, as_call, progress_with, progress_of, bound_trees, awaited, gone_on, chain_rest, part_rest, rest}
use Rattle.wc_turn_laws.specs.Instead.{MadeCalls}
use Rattle.wc_turn_laws.specs.OutlineLaws.{run_on}
use Rattle.wc_turn_laws.specs.View.{context_in, values_of, env_in, progress_in}
use Rattle.wc_soundness.proofs.SeenWorlds.{view_of}

-- how a chain ends that goes on from a checkpoint, where this is seen and these calls were made
abbrev pub finishes : World → ProcessRecord → Chain → List Definition → MadeCalls → Table → Kills → Option ℕ → Checkpoint → ℕ → Answer
finishes w r k library earlier table cuts stop c n =
    ended stop r.definition k.head.outputs
    (run_on k (view_of w) (inputs_of w r.node) earlier (within k.head.outputs stop (around (levels_of r) library table cuts)) c n)

-- a record in a world that stands at a checkpoint, whose data is as it is seen in another
pub record IsSeenAt (v w : World) (s : ProcessRecord) (k : Chain) (library : List Definition) (d : Checkpoint) : Type 0 where
  pub found : find_record s.node v.records ≡ Some s
  pub definition : its_definition v s ≡ Some (definition.Chain k)
  pub library_there : library_at v.libraries s.library ≡ Some library
  pub part_there : s.part ≡ part.Chain d
  pub awaits : d.awaiting ≡ []
  pub given : inputs_of v s.node ≡ inputs_of w s.node
  pub keys : items_of v d.ctx ≡ Some (context_in (view_of w) d.ctx)
  pub outputs : set_values v d.outputs ≡ Some (values_of (view_of w) d.outputs)

module _ (v w : World) (s : ProcessRecord) (k : Chain) (library : List Definition) (d : Checkpoint) (seen : IsSeenAt v w s k library d) where
  env_there : environment_at v s.node ≡ Some (env_in (view_of w) (inputs_of w s.node) d.ctx)
  env_there =
      ap (option_and_then (λ (r : ProcessRecord). option_map (λ ctx. record { inputs = inputs_of v s.node; ctx = ctx }) (items_of v (context_of r.part)))) seen.found
      ∙ ap (λ (p : Part). option_map (λ (ctx : List (List ℕ × Item)). record { inputs = inputs_of v s.node; ctx = ctx }) (items_of v (context_of p))) seen.part_there
      ∙ ap (option_map (λ (ctx : List (List ℕ × Item)). record { inputs = inputs_of v s.node; ctx = ctx })) seen.keys
      ∙ (λ i. Some (record { inputs = seen.given i; ctx = context_in (view_of w) d.ctx }))

  progress_there : (o : Option (List (Label × Tree))) → bound_trees v s d ≡ o
      → progress_of v s d ≡ progress_with (Some (env_alone (env_in (view_of w) (inputs_of w s.node) d.ctx))) (Some (values_of (view_of w) d.outputs)) o
  progress_there o h = λ i. progress_with (option_map env_alone (env_there i)) (seen.outputs i) (h i)

  rest_with : (table : Table) (cuts : Kills) (stop : Option ℕ) (n : ℕ) (p : Option Progress) → progress_of v s d ≡ p
      → rest v table cuts stop n s ≡ chain_rest v table cuts stop n s d (Some (definition.Chain k)) (Some []) p
  rest_with table cuts stop n p h =
      ap (part_rest v table cuts stop n s) seen.part_there
      ∙ (λ i. chain_rest v table cuts stop n s d (seen.definition i) (awaited v (seen.awaits i)) (h i))

  -- With trees for the calls that are bound what remains is the run from the checkpoint; without them nothing does.
  pub rest_is : (table : Table) (cuts : Kills) (stop : Option ℕ) (n : ℕ) (trees : List (Label × Tree)) → bound_trees v s d ≡ Some trees
      → rest v table cuts stop n s ≡ Some (finishes w s k library (map as_call trees) table cuts stop d n)
  rest_is table cuts stop n trees h =
      rest_with table cuts stop n _ (progress_there (Some trees) h)
      ∙ ap (option_map (λ (l : List Definition). gone_on stop s k d (within k.head.outputs stop (around (levels_of s) l table cuts)) n []
      (progress_in (view_of w) (inputs_of w s.node) (map as_call trees) d))) seen.library_there

  pub rest_none : (table : Table) (cuts : Kills) (stop : Option ℕ) (n : ℕ) → bound_trees v s d ≡ None → rest v table cuts stop n s ≡ None
  rest_none table cuts stop n h = rest_with table cuts stop n _ (progress_there None h)
