-- What a chain sees that waits for the calls that it submitted, and what remains of its run.
use Rattle.std.proofs.Common.{◌≡◌, ℕ, ◌+◌, ◌≤◌, Bool, true, false, List, ◌++◌, Option, Some, None, length, map, take, get_or, refl, sym, ap, subst, ◌∙◌, arith}
use Rattle.std.specs.Prelude.{All, ◌==◌, ◌&&◌, ◌||◌, not, option_map, option_and_then}
use Rattle.std.proofs.lemmas.List.{take_all, take-append-le}
use Rattle.std.proofs.lemmas.List.Elements.{All-filter, All-weaker}
use Rattle.std.proofs.lemmas.Bool.{and_parts, eqb-true}
use Rattle.wc_value.specs.Ascending.{Ascends}
use Rattle.wc_value.specs.declared.process.Tree.{Tree}
use Rattle.wc_value.specs.declared.value.Value.{Value}
use Rattle.wc_syntax.specs.Findings.{definition_named}
use Rattle.wc_syntax.specs.declared.definition.Chain.{Chain}
use Rattle.wc_syntax.specs.declared.definition.Definition.{Definition}
use Rattle.wc_syntax.specs.declared.definition.Definition.TheVariants as definition
use Rattle.wc_graph.specs.Rules.{node_of}
use Rattle.wc_graph.specs.declared.link.Link.{Link}
use Rattle.wc_graph.specs.declared.node.NodeKind.{NodeKind}
use Rattle.wc_semantics.specs.declared.progress.Answer.{Answer}
use Rattle.wc_semantics.specs.declared.progress.Progress.{Progress}
use Rattle.wc_semantics.specs.Meaning.{around, ended, within}
use Rattle.wc_semantics.specs.Tables.{Label, Table, Kills}
use Rattle.wc_state.specs.declared.context.CtxRef.{CtxRef}
use Rattle.wc_state.specs.declared.context.CtxRef.TheVariants as held
use Rattle.wc_state.specs.declared.environment.Child.{Child}
use Rattle.wc_state.specs.declared.environment.Item.{Item}
use Rattle.wc_state.specs.declared.environment.Item.TheVariants as item
use Rattle.wc_state.specs.declared.record.Checkpoint.{Checkpoint}
use Rattle.wc_state.specs.declared.record.ProcessRecord.{ProcessRecord}
use Rattle.wc_world.specs.World.{World}
use Rattle.wc_world.specs.Fits.{calls_from, counted_calls, has_output}
use Rattle.wc_world.specs.Records.{find_record, has_called, has_ended, is_call_from, library_at}
use Rattle.wc_world.specs.Trees.{branches, child_at, context_of, data_of, environment_at, inputs_of, items_of, recorded_tree, value_of}
use Rattle.wc_world.proofs.ReachedLists.{found_node}
use Rattle.wc_machine.specs.Advances.{submits}
use Rattle.wc_machine.specs.Calls.{awaits}
use Rattle.wc_machine.specs.Paths.{call_links}
use Rattle.wc_machine.specs.Recorded.{its_definition}
use Rattle.wc_machine.specs.Rest.{as_call, awaited, bound_calls, bound_trees, chain_rest, env_alone, gone_on, levels_of, progress_of, progress_with, rest, set_values}
use Rattle.wc_machine.specs.Sound.{HoldsEnded, IsEndedCall, IsKnownNode, IsSound}
use Rattle.wc_machine.specs.Steps.{Call}
use Rattle.wc_machine.proofs.EndedTrees.{call_is_called}
use Rattle.wc_machine.proofs.Frames.{branches_by, value_stays}
use Rattle.wc_turn_laws.specs.Instead.{MadeCalls}
use Rattle.wc_soundness.specs.Touches.{MayBeTouched, Touches}
use Rattle.wc_soundness.proofs.Standing.{Over, called_there, inputs_of_kept, items_kept, over_tree}
use Rattle.wc_soundness.proofs.Touched.{library_kept, within as number_within}
use Rattle.wc_turn_laws.specs.OutlineLaws as outline
use Rattle.wc_turn_laws.specs.OutlineLaws.{KeepsCalls, as_planned, remains}
use Rattle.wc_turn_laws.specs.View.{context_in, env_in, progress_in, values_of}
use Rattle.wc_soundness.proofs.OneSet.{may_go}
use Rattle.wc_soundness.proofs.Rests.{finishes}
use Rattle.wc_soundness.proofs.SeenWorlds.{IsData, IsThere, child_there, children_there, items_there, values_there, view_of}
use Rattle.wc_soundness.proofs.ChainStanding.{Standing, begins, runs, awaits_none, called_ended, is_live, its_fit, its_stand}
use Rattle.wc_soundness.specs.Submitted.{links_of_calls, now_waits, waiting_at}
use Rattle.wc_soundness.proofs.NewCalls.{as_many, counted}

-- The world v is w after a chain submitted these calls, as far as the chain sees it: it alone is touched, and waits; its new calls stand behind the
-- earlier ones; and what is recorded of the called processes are the calls that it planned.
pub record HasSubmitted (w v : World) (r : ProcessRecord) (d : Checkpoint) (calls : List Call) : Type 0 where
  pub touches : Touches w v r.node
  pub found : find_record r.node v.records ≡ Some (now_waits w r d calls)
  pub links : call_links v r.node ≡ call_links w r.node ++ links_of_calls w r (length w.nodes + 1) calls
  pub planned : awaited v (awaits w r (length w.nodes + 1) calls) ≡ Some (map as_planned calls)

-- the chain, what its advance leaves, and the calls that it submits
pub record IsCalling (w v : World) (r : ProcessRecord) (k : Chain) (library : List Definition) (c d : Checkpoint) (calls : List Call) : Type 0 where
  pub sound : IsSound w
  pub found : find_record r.node w.records ≡ Some r
  pub definition : its_definition w r ≡ Some (definition.Chain k)
  pub library_there : library_at w.libraries r.library ≡ Some library
  pub stands : Standing r c
  pub counts : KeepsCalls c d
  pub numbered : outline.AreNumbered (c.calls + 1) calls
  pub ascend : Ascends d.outputs
  pub keys : All (λ e. HoldsEnded w r e.1) d.ctx
  pub values : All (λ o. IsData w w o.1) d.outputs
  pub names : All (λ o. IsKnownNode w r o.1) d.outputs
  pub exact : (earlier : MadeCalls) (table : Table) (cuts : Kills) (stop : Option ℕ) (n : ℕ) → finishes w r k library earlier table cuts stop c n
      ≡ ended stop r.definition k.head.outputs
      (remains k (view_of w) (inputs_of w r.node) earlier (within k.head.outputs stop (around (levels_of r) library table cuts)) c (submits d calls) n)
  pub submitted : HasSubmitted w v r d calls

is_node : (o : Option NodeKind) (x : Value) → option_and_then data_of o ≡ Some x → (n : NodeKind) × (o ≡ Some n)
is_node None x h = absurd (cc h)
is_node (Some n) x h = (n, refl)

module _ (w v : World) (r : ProcessRecord) (k : Chain) (library : List Definition) (c d : Checkpoint) (calls : List Call) (on : IsCalling w v r k library c d calls) where
  abbrev pub s : ProcessRecord
  s = now_waits w r d calls

  abbrev pub then_at : Checkpoint
  then_at = waiting_at w r d calls

  pub live : has_ended r.state ≡ false
  live = is_live r c on.stands

  pub touched : Touches w v r.node
  touched = on.submitted.touches

  pub may : MayBeTouched w r.node
  may = may_go w r on.found live (its_fit w on.sound r on.found) 0 c

  pub le : r.node ≤ length w.nodes
  le = number_within w v r.node on.sound touched may r.node r on.found

  pub library_same : library_at v.libraries r.library ≡ library_at w.libraries r.library
  library_same = library_kept w v r.node on.sound touched may r on.found

  pub definition_now : its_definition v s ≡ Some (definition.Chain k)
  definition_now = ap (option_and_then (definition_named r.definition)) library_same ∙ on.definition

  -- ---- its earlier calls

  -- what it called has ended
  pub over_called : (q : ℕ) → has_called w.links r.node q ≡ true → Over w v r.node on.sound touched may q
  over_called q called =
      let x = called_there w v r.node on.sound touched may r on.found q called in
      let number : x.0.node ≡ q = found_node q w.records x.0 x.1 in
      let itself : find_record x.0.node w.records ≡ Some x.0 = ap (λ (n : ℕ). find_record n w.records) number ∙ x.1 in
      (x.0, x.1, called_ended w on.sound r on.found c on.stands x.0 itself (ap (has_called w.links r.node) number ∙ called))

  pub over_calls : All (λ l. is_call_from r.node l ≡ true → Over w v r.node on.sound touched may l.target) w.links
  over_calls = λ i b lt called. over_called (get_or w.links i b).target (call_is_called w r.node i b lt called)

  count_at : (c' : Checkpoint) → Standing r c' → counted_calls r.part ≡ c'.calls
  count_at c' (begins a b) = ap counted_calls b
  count_at c' (runs x a b) = ap counted_calls b

  pub many_calls : length (call_links w r.node) ≡ c.calls
  many_calls =
      let either : not (has_output r.node w.links) && (calls_from r.node w.links == counted_calls r.part) ≡ true
      = subst (λ (b : Bool). b || (not (has_output r.node w.links) && (calls_from r.node w.links == counted_calls r.part)) ≡ true) live (its_stand w on.sound r on.found).settled in
      counted r.node w.links
      ∙ eqb-true (calls_from r.node w.links) (counted_calls r.part) (and_parts (not (has_output r.node w.links)) (calls_from r.node w.links == counted_calls r.part) either).1
      ∙ count_at c on.stands

  -- the calls that are bound are those from before
  pub bound_now : bound_calls then_at ≡ length (call_links w r.node)
  bound_now =
      let many : length (awaits w r (length w.nodes + 1) calls) ≡ length calls = as_many w r (length w.nodes + 1) calls in
      let same : d.calls ≡ c.calls = on.counts.0 in
      omega (arith, many, same, many_calls)

  bound_before : bound_calls c ≡ length (call_links w r.node)
  bound_before =
      let none : length c.awaiting ≡ 0 = ap length (awaits_none w on.sound r on.found c on.stands) in
      omega (arith, none, many_calls)

  take_front : (n : ℕ) (xs ys : List Link) → n ≡ length xs → take n (xs ++ ys) ≡ xs
  take_front n xs ys e = take-append-le n xs ys (omega (arith, e)) ∙ take_all n xs (omega (arith, e))

  same_trees : bound_trees v s then_at ≡ bound_trees w r c
  same_trees =
      ap (λ (ls : List Link). branches (recorded_tree v) r.node (take (bound_calls then_at) ls)) on.submitted.links
      ∙ ap (branches (recorded_tree v) r.node)
      (take_front (bound_calls then_at) (call_links w r.node) (links_of_calls w r (length w.nodes + 1) calls) bound_now)
      ∙ branches_by (recorded_tree v) (recorded_tree w) r.node (call_links w r.node)
      (All-filter (is_call_from r.node) (λ l. is_call_from r.node l ≡ true → recorded_tree v l.target ≡ recorded_tree w l.target) w.links
      (All-weaker (λ l. is_call_from r.node l ≡ true → Over w v r.node on.sound touched may l.target)
      (λ l. is_call_from r.node l ≡ true → recorded_tree v l.target ≡ recorded_tree w l.target)
      (λ l over called. over_tree w v r.node on.sound touched may l.target (over called) 16) w.links over_calls))
      ∙ ap (branches (recorded_tree w) r.node) (sym (take_all (bound_calls c) (call_links w r.node) (omega (arith, bound_before))))

  -- ---- its environment, and the outputs that were set

  child_here : (pid : ℕ) → IsEndedCall w r pid → child_at w pid ≡ Some ((view_of w).child pid)
  child_here pid h = child_there w pid h.1.0 h.1.1

  key_here : (h : CtxRef) → HoldsEnded w r h → IsThere w w h
  key_here (held.Plain x) h = refl
  key_here (held.One pid) h = ap (option_map (λ (x : Child). item.One x)) (child_here pid h)
  key_here (held.Many pids) h = ap (option_map (λ (xs : List Child). item.Many xs))
      (children_there w w pids (All-weaker (IsEndedCall w r) (λ pid. child_at w pid ≡ Some ((view_of w).child pid)) child_here pids h))

  items_now : items_of v d.ctx ≡ Some (context_in (view_of w) d.ctx)
  items_now =
      items_kept w v r.node on.sound touched may r d.ctx on.keys
      ∙ items_there w w d.ctx
      (All-weaker (λ (e : List ℕ × CtxRef). HoldsEnded w r e.1) (λ (e : List ℕ × CtxRef). IsThere w w e.1) (λ e. key_here e.1) d.ctx on.keys)

  env_now : environment_at v r.node ≡ Some (env_in (view_of w) (inputs_of w r.node) d.ctx)
  env_now =
      ap (option_and_then (λ (x : ProcessRecord). option_map (λ (ctx : List (List ℕ × Item)). record { inputs = inputs_of v r.node; ctx = ctx }) (items_of v (context_of x.part)))) on.submitted.found
      ∙ ap (option_map (λ (ctx : List (List ℕ × Item)). record { inputs = inputs_of v r.node; ctx = ctx })) items_now
      ∙ (λ i. Some (record { inputs = inputs_of_kept w v r.node on.sound touched may r.node le i; ctx = context_in (view_of w) d.ctx }))

  data_stays : (id : ℕ) → IsData w w id → IsData v w id
  data_stays id is =
      ap (λ (ns : List NodeKind). value_of ns id) touched.nodes.1
      ∙ value_stays w.nodes touched.nodes.0 id (is_node (node_of w.nodes id) ((view_of w).value id) is) ∙ is

  values_now : set_values v d.outputs ≡ Some (values_of (view_of w) d.outputs)
  values_now = values_there v w d.outputs (All-weaker (λ (o : Label × ℕ). IsData w w o.1) (λ (o : Label × ℕ). IsData v w o.1) (λ o. data_stays o.1) d.outputs on.values)

  pub progress_now : (o : Option (List (Label × Tree))) → bound_trees w r c ≡ o
      → progress_of v s then_at ≡ progress_with (Some (env_alone (env_in (view_of w) (inputs_of w r.node) d.ctx))) (Some (values_of (view_of w) d.outputs)) o
  progress_now o h = λ i. progress_with (option_map env_alone (env_now i)) (values_now i) ((same_trees ∙ h) i)

  -- ---- what remains: its calls, and then the run from its checkpoint

  abbrev pub waits : MadeCalls → Table → Kills → Option ℕ → ℕ → Answer
  waits earlier table cuts stop n = ended stop r.definition k.head.outputs
      (remains k (view_of w) (inputs_of w r.node) earlier (within k.head.outputs stop (around (levels_of r) library table cuts)) c (submits d calls) n)

  rest_with : (table : Table) (cuts : Kills) (stop : Option ℕ) (n : ℕ) (p : Option Progress) → progress_of v s then_at ≡ p
      → rest v table cuts stop n s ≡ chain_rest v table cuts stop n s then_at (Some (definition.Chain k)) (Some (map as_planned calls)) p
  rest_with table cuts stop n p h = λ i. chain_rest v table cuts stop n s then_at (definition_now i) (on.submitted.planned i) (h i)

  pub rest_is : (table : Table) (cuts : Kills) (stop : Option ℕ) (n : ℕ) (trees : List (Label × Tree)) → bound_trees w r c ≡ Some trees
      → rest v table cuts stop n s ≡ Some (waits (map as_call trees) table cuts stop n)
  rest_is table cuts stop n trees h =
      rest_with table cuts stop n _ (progress_now (Some trees) h)
      ∙ ap (option_map (λ (l : List Definition). gone_on stop s k then_at (within k.head.outputs stop (around (levels_of s) l table cuts)) n (map as_planned calls)
      (progress_in (view_of w) (inputs_of w r.node) (map as_call trees) d))) (library_same ∙ on.library_there)

  pub rest_none : (table : Table) (cuts : Kills) (stop : Option ℕ) (n : ℕ) → bound_trees w r c ≡ None → rest v table cuts stop n s ≡ None
  rest_none table cuts stop n h = rest_with table cuts stop n _ (progress_now None h)
