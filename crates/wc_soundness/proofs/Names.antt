-- A chain that goes on names known nodes, and holds processes that it called and that ended.
use Rattle.std.proofs.Common.{inl, inr, ◌≡◌, ℕ, Bool, true, false, List, [], ◌∷◌, Option, Some, None, get_or, refl, sym, ap, subst, ◌∙◌, eq-eqb}
use Rattle.std.specs.Prelude.{◌≢◌, ◌==◌, ◌&&◌, if◌then◌else◌, All, option_map}
use Rattle.std.proofs.lemmas.List.Folds.{list_any_at}
use Rattle.std.proofs.lemmas.List.Elements.{All-head, All-tail, All-nil, All-map, All-weaker}
use Rattle.wc_value.specs.declared.value.Value.{Value}
use Rattle.wc_graph.specs.declared.link.Link.{Link}
use Rattle.wc_graph.specs.declared.node.NodeKind.{NodeKind}
use Rattle.wc_state.specs.declared.context.CtxRef.{CtxRef}
use Rattle.wc_state.specs.declared.context.CtxRef.TheVariants as held
use Rattle.wc_state.specs.declared.environment.Child.{Child}
use Rattle.wc_state.specs.declared.environment.Item.{Item}
use Rattle.wc_state.specs.declared.environment.NodeValue.{NodeValue}
use Rattle.wc_state.specs.declared.record.Checkpoint.{Checkpoint}
use Rattle.wc_state.specs.declared.record.ProcessRecord.{ProcessRecord}
use Rattle.wc_semantics.specs.Tables.{Label}
use Rattle.wc_world.specs.Records.{find_record, has_ended, is_input_of, is_output_of}
use Rattle.wc_world.specs.Trees.{NamedValues, value_of, with_value, inputs_after, inputs_of, outputs_after, outputs_of}
use Rattle.wc_world.specs.World.{World}
use Rattle.wc_world.proofs.FoundRecords.{found_holds}
use Rattle.wc_world.proofs.ReachedLists.{found_node}
use Rattle.wc_machine.specs.Sound.{IsSound, IsEndedCall, HoldsEnded, IsKnownNode, NamesKnown}
use Rattle.wc_turn_laws.specs.Nodes.{EachNode, InItem, NodesAre, Holds}
use Rattle.wc_turn_laws.specs.View.{item_in, env_in}
use Rattle.wc_turn_laws.proofs.Passed.{put_keeps}
use Rattle.wc_soundness.proofs.OneSet.{went, now_runs, found_other}
use Rattle.wc_soundness.proofs.SeenWorlds.{view_of, or_some_child}
use Rattle.wc_soundness.proofs.ChainStanding.{Standing, begins, runs, is_live, its_fit, holds_found, apart}

with_node : (P : ℕ → Type 0) (label : List ℕ) (id : ℕ) (o : Option Value) (es : NamedValues) → P id → EachNode (λ n. P n.node) es → EachNode (λ n. P n.node) (with_value label id o es)
with_node P label id None es p h = h
with_node P label id (Some v) es p h = put_keeps (λ (n : NodeValue). P n.node) label (record { node = id; value = v }) es h p

inputs_named : (P : ℕ → Type 0) (nodes : List NodeKind) (pid : ℕ) (ls : List Link) (es : NamedValues) → All (λ l. is_input_of pid l ≡ true → P l.source) ls
    → EachNode (λ n. P n.node) es → EachNode (λ n. P n.node) (inputs_after nodes pid ls es)
inputs_named P nodes pid [] es all h = h
inputs_named P nodes pid (l ∷ ls) es all h =
    inputs_named P nodes pid ls _ (All-tail (λ m. is_input_of pid m ≡ true → P m.source) l ls all) (by (is_input_of pid l) refl)
  where
    by : (b : Bool) → is_input_of pid l ≡ b → EachNode (λ n. P n.node) (if b then with_value l.label l.source (value_of nodes l.source) es else es)
    by true e = with_node P l.label l.source (value_of nodes l.source) es (All-head (λ m. is_input_of pid m ≡ true → P m.source) l ls all e) h
    by false e = h

outputs_named : (P : ℕ → Type 0) (nodes : List NodeKind) (pid : ℕ) (ls : List Link) (es : NamedValues) → All (λ l. is_output_of pid l ≡ true → P l.target) ls
    → EachNode (λ n. P n.node) es → EachNode (λ n. P n.node) (outputs_after nodes pid ls es)
outputs_named P nodes pid [] es all h = h
outputs_named P nodes pid (l ∷ ls) es all h =
    outputs_named P nodes pid ls _ (All-tail (λ m. is_output_of pid m ≡ true → P m.target) l ls all) (by (is_output_of pid l) refl)
  where
    by : (b : Bool) → is_output_of pid l ≡ b → EachNode (λ n. P n.node) (if b then with_value l.label l.target (value_of nodes l.target) es else es)
    by true e = with_node P l.label l.target (value_of nodes l.target) es (All-head (λ m. is_output_of pid m ≡ true → P m.target) l ls all e) h
    by false e = h

none_named : (P : ℕ → Type 0) → EachNode (λ n. P n.node) []
none_named P = All-nil (λ (e : List ℕ × NodeValue). P e.1.node)

module _ (w : World) (r : ProcessRecord) (c d : Checkpoint) (sound : IsSound w) (found : find_record r.node w.records ≡ Some r) (stands : Standing r c) (fuel : ℕ) where
  abbrev v : World
  v = went w r fuel d

  abbrev s : ProcessRecord
  s = now_runs w r fuel d

  live : has_ended r.state ≡ false
  live = is_live r c stands

  -- ---- what was known stays known

  ended_call : (pid : ℕ) → IsEndedCall w r pid → IsEndedCall v s pid
  ended_call pid h =
      let q : ProcessRecord = h.1.0 in
      let number : q.node ≡ pid = found_node pid w.records q h.1.1 in
      let itself : find_record q.node w.records ≡ Some q = ap (λ (n : ℕ). find_record n w.records) number ∙ h.1.1 in
      let ne : r.node ≢ pid = λ e. apart w sound r found live fuel d q itself h.1.2 (e ∙ sym number) in
      (h.0, (q, found_other w r found live (its_fit w sound r found) fuel d pid ne ∙ h.1.1, h.1.2))

  holds_ended : (h : CtxRef) → HoldsEnded w r h → HoldsEnded v s h
  holds_ended (held.Plain x) h = tt
  holds_ended (held.One pid) h = ended_call pid h
  holds_ended (held.Many pids) h = All-weaker (IsEndedCall w r) (IsEndedCall v s) ended_call pids h

  known : (id : ℕ) → IsKnownNode w r id → IsKnownNode v s id
  known id (inl h) = inl h
  known id (inr h) = inr (h.0, ended_call h.0 h.1, h.2)

  outputs_known : (c' : Checkpoint) → Standing r c' → All (λ o. IsKnownNode w r o.1) c'.outputs
  outputs_known c' (begins a b) = All-nil (λ (o : Label × ℕ). IsKnownNode w r o.1)
  outputs_known c' (runs x a b) = (subst (NamesKnown w r) b (found_holds (λ q. NamesKnown w q q.part) r.node w.records r sound.names found)).1

  -- ---- what the environment names

  input_known : EachNode (λ n. IsKnownNode w r n.node) (inputs_of w r.node)
  input_known = inputs_named (IsKnownNode w r) w.nodes r.node w.links [] (λ i e lt h.
      let l : Link = get_or w.links i e in
      inl (list_any_at (λ m. is_input_of r.node m && (m.source == l.source)) w.links i e lt (λ j. h j && eq-eqb l.source l.source refl j))) (none_named (IsKnownNode w r))

  child_by : (pid : ℕ) → IsEndedCall w r pid → (o : Option ProcessRecord)
      → EachNode (λ n. IsKnownNode w r n.node) (or_some_child (option_map (λ x. record { node = pid; state = x.state; outputs = outputs_of w pid }) o)).outputs
  child_by pid h None = none_named (IsKnownNode w r)
  child_by pid h (Some q) = outputs_named (IsKnownNode w r) w.nodes pid w.links [] (λ i e lt is.
      let l : Link = get_or w.links i e in
      inr (pid, h, list_any_at (λ m. is_output_of pid m && (m.target == l.target)) w.links i e lt (λ j. is j && eq-eqb l.target l.target refl j))) (none_named (IsKnownNode w r))

  child_known : (pid : ℕ) → IsEndedCall w r pid → EachNode (λ n. IsKnownNode w r n.node) ((view_of w).child pid).outputs
  child_known pid h = child_by pid h (find_record pid w.records)

  item_known : (h : CtxRef) → HoldsEnded w r h → InItem (λ n. IsKnownNode w r n.node) (item_in (view_of w) h)
  item_known (held.Plain x) h = tt
  item_known (held.One pid) h = child_known pid h
  item_known (held.Many pids) h = All-map (λ (x : Child). EachNode (λ n. IsKnownNode w r n.node) x.outputs) (view_of w).child pids
      (All-weaker (IsEndedCall w r) (λ pid. EachNode (λ n. IsKnownNode w r n.node) ((view_of w).child pid).outputs) child_known pids h)

  pub nodes_known : NodesAre (λ n. IsKnownNode w r n.node) (env_in (view_of w) (inputs_of w r.node) c.ctx)
  nodes_known = record {
    given = input_known;
    items = All-map (λ (e : List ℕ × Item). InItem (λ n. IsKnownNode w r n.node) e.1) (λ (e : List ℕ × CtxRef). (e.0, item_in (view_of w) e.1)) c.ctx
        (All-weaker (λ (e : List ℕ × CtxRef). HoldsEnded w r e.1) (λ e. InItem (λ n. IsKnownNode w r n.node) (item_in (view_of w) e.1)) (λ e h. item_known e.1 h) c.ctx
        (holds_found w sound r found c stands));
  }

  pub kept_known : Holds (λ n. IsKnownNode w r n.node) (HoldsEnded v s) (IsKnownNode v s) c
  kept_known = (
    All-weaker (λ (e : List ℕ × CtxRef). HoldsEnded w r e.1) (λ e. HoldsEnded v s e.1) (λ e h. holds_ended e.1 h) c.ctx (holds_found w sound r found c stands),
    All-weaker (λ (o : Label × ℕ). IsKnownNode w r o.1) (λ o. IsKnownNode v s o.1) (λ o h. known o.1 h) c.outputs (outputs_known c stands),
  )

  pub node_known : (n : NodeValue) → IsKnownNode w r n.node → IsKnownNode v s n.node
  node_known n h = known n.node h
