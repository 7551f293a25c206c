-- A created chain means what the run from the head of its outline ends with.
use Rattle.std.proofs.Common.{◌≡◌, ℕ, zero, suc, List, [], ◌∷◌, Option, Some, None, map, refl, sym, ap, subst, ◌∙◌, arith}
use Rattle.std.specs.Prelude.{option_map, option_and_then, slice_get}
use Rattle.wc_value.specs.declared.process.Tree.{Tree}
use Rattle.wc_syntax.specs.Findings.{definition_named}
use Rattle.wc_syntax.specs.declared.definition.Chain.{Chain}
use Rattle.wc_syntax.specs.declared.definition.Definition.{Definition}
use Rattle.wc_syntax.specs.declared.definition.Definition.TheVariants as definition
use Rattle.wc_state.specs.Checkpoint.{first}
use Rattle.wc_state.specs.declared.record.ProcessRecord.{ProcessRecord}
use Rattle.wc_semantics.specs.Rules.{Values, unnumbered}
use Rattle.wc_semantics.specs.declared.progress.Answer.{Answer}
use Rattle.wc_semantics.specs.declared.progress.Answer.TheVariants.{Gave}
use Rattle.wc_semantics.specs.Meaning as meaning
use Rattle.wc_semantics.specs.Meaning.{ended, around, within, chain, by_kill, surrounding, calls_of}
use Rattle.wc_semantics.specs.Run.{run, instrs}
use Rattle.wc_semantics.specs.Tables.{Table, Kills}
use Rattle.wc_semantics.proofs.Late.{late_gives_none}
use Rattle.wc_world.specs.Records.{library_at}
use Rattle.wc_world.specs.Trees.{NamedValues, values_alone, inputs_of}
use Rattle.wc_world.specs.World.{World}
use Rattle.wc_machine.specs.Outlines.{blocks, block_of, left}
use Rattle.wc_machine.specs.Recorded.{its_definition, recorded_inputs}
use Rattle.wc_machine.specs.Rest.{with_stop, levels_of, meant, without_number, GivesTree}
use Rattle.wc_turn_laws.specs.View.{progress_in}
use Rattle.wc_turn_laws.proofs.Numbering.{blocks_are}
use Rattle.wc_soundness.proofs.Rests.{finishes}
use Rattle.wc_soundness.proofs.SeenWorlds.{view_of}

meaning_is : (levels : ℕ) (library : List Definition) (table : Table) (kills : Kills) (n : ℕ) (name : List ℕ) (inputs : Values)
    → meaning.meaning levels library table kills n name inputs ≡ by_kill (kills []) (definition_named name library) (around levels library table kills) (table []) n name inputs
meaning_is zero library table kills n name inputs = refl
meaning_is (suc levels) library table kills n name inputs = refl

-- calls are taken with the same kills, whatever the stop
around_same : (levels : ℕ) (library : List Definition) (table : Table) (cuts : Kills) (stop : Option ℕ) → around levels library table (with_stop cuts stop) ≡ around levels library table cuts
around_same zero library table cuts stop = refl
around_same (suc levels) library table cuts None = refl
around_same (suc levels) library table cuts (Some c) = refl

values_same : (es : NamedValues) → map unnumbered (values_alone es) ≡ map without_number es
values_same [] = refl
values_same (e ∷ es) = ap (λ (l : NamedValues). (e.0, record { node = 0; value = e.1.value }) ∷ l) (values_same es)

module _ (w : World) (r : ProcessRecord) (k : Chain) (library : List Definition) (defined : its_definition w r ≡ Some (definition.Chain k))
    (there : library_at w.libraries r.library ≡ Some library) (table : Table) (cuts : Kills) where
  named : definition_named r.definition library ≡ Some (definition.Chain k)
  named = ap (option_and_then (definition_named r.definition)) (sym there) ∙ defined

  head_is : left (blocks k.outline) first.frames ≡ instrs k.outline
  head_is = ap (λ bs. block_of (slice_get bs 0)) (blocks_are k.outline)

  chain_is : (stop : Option ℕ) (n : ℕ) → chain stop r.definition k (around (levels_of r) library table cuts) n (recorded_inputs w r.node)
      ≡ finishes w r k library [] table cuts stop first n
  chain_is stop n = λ i. ended stop r.definition k.head.outputs
      (run (sym head_is i) (within k.head.outputs stop (around (levels_of r) library table cuts)) n
      (record { env = record { inputs = values_same (inputs_of w r.node) i; ctx = [] }; outputs = []; calls = [] }))

  meant_by : (stop : Option ℕ) (n : ℕ) → meant w r table (with_stop cuts stop) n
      ≡ Some (by_kill (with_stop cuts stop []) (Some (definition.Chain k)) (around (levels_of r) library table cuts) (table []) n r.definition (recorded_inputs w r.node))
  meant_by stop n =
      ap (option_map (λ (l : List Definition). meaning.meaning (levels_of r) l table (with_stop cuts stop) n r.definition (recorded_inputs w r.node))) there
      ∙ ap (λ (x : Answer). Some x) (meaning_is (levels_of r) library table (with_stop cuts stop) n r.definition (recorded_inputs w r.node)
      ∙ (λ i. by_kill (with_stop cuts stop []) (named i) (around_same (levels_of r) library table cuts stop i) (table []) n r.definition (recorded_inputs w r.node)))

  whole_meant : cuts [] ≡ None → (n : ℕ) → meant w r table (with_stop cuts None) n ≡ Some (finishes w r k library [] table cuts None first n)
  whole_meant alive n = meant_by None n
      ∙ ap (λ (o : Option ℕ). Some (by_kill o (Some (definition.Chain k)) (around (levels_of r) library table cuts) (table []) n r.definition (recorded_inputs w r.node))) alive
      ∙ ap (λ (x : Answer). Some x) (chain_is None n)

  late : (n : ℕ) (t : Tree) → GivesTree (Some (finishes w r k library [] table cuts (Some 0) first n)) t → ⊥
  late n t g =
      let e : finishes w r k library [] table cuts (Some 0) first n ≡ Gave g.0 g.1 = same g.2 in
      late_gives_none 0 r.definition k.head.outputs (left (blocks k.outline) first.frames) (within k.head.outputs (Some 0) (around (levels_of r) library table cuts)) n
      (progress_in (view_of w) (inputs_of w r.node) [] first) g.0 g.1 refl (omega arith) e
    where
      same : {x y : Answer} → Some x ≡ Some y → x ≡ y
      same h = cc

  -- the run from the head gives no tree that isn't meant, and each that is meant without a stop
  pub into_meant : cuts [] ≡ None → (stop : Option ℕ) (n : ℕ) (t : Tree) → GivesTree (Some (finishes w r k library [] table cuts stop first n)) t
      → GivesTree (meant w r table (with_stop cuts stop) n) t
  into_meant alive None n t g = subst (λ (x : Option Answer). GivesTree x t) (sym (whole_meant alive n)) g
  into_meant alive (Some zero) n t g = absurd (late n t g)
  into_meant alive (Some (suc c)) n t g = subst (λ (x : Option Answer). GivesTree x t) (sym (meant_by (Some (suc c)) n ∙ ap (λ (x : Answer). Some x) (chain_is (Some (suc c)) n))) g

  pub from_meant : cuts [] ≡ None → (n : ℕ) (t : Tree) → GivesTree (meant w r table (with_stop cuts None) n) t → GivesTree (Some (finishes w r k library [] table cuts None first n)) t
  from_meant alive n t g = subst (λ (x : Option Answer). GivesTree x t) (whole_meant alive n) g
