-- The turn of a work chain of a consistent world: what its advance comes to fits the world.
use Rattle.std.proofs.Common.{◌≡◌, ℕ, ◌+◌, ◌<◌, true, false, Option, Some, None, List, [], ◌∷◌, ◌++◌, refl, sym, ap, subst, ◌∙◌}
use Rattle.std.specs.Prelude.{not, All, IsSomeAnd, is_some, option_map, option_and_then}
use Rattle.std.specs.List.{list_all}
use Rattle.std.proofs.lemmas.Bool.{and_from, le-leb, leb-true}
use Rattle.std.proofs.lemmas.List.Elements.{All-head, All-nil, All-tail, All-weaker}
use Rattle.wc_value.specs.Ascending.{Ascends}
use Rattle.wc_value.specs.Spelling.{depth}
use Rattle.wc_value.specs.declared.process.ProcessState.{ProcessState}
use Rattle.wc_value.specs.declared.process.ProcessState.TheVariants as state
use Rattle.wc_syntax.specs.declared.definition.Chain.{Chain}
use Rattle.wc_syntax.specs.declared.definition.Definition.{Definition}
use Rattle.wc_syntax.specs.declared.definition.Definition.TheVariants as definition
use Rattle.wc_graph.specs.Rules.{node_of, IsData}
use Rattle.wc_graph.specs.declared.node.NodeKind.{NodeKind}
use Rattle.wc_graph.specs.declared.node.NodeKind.TheVariants as node
use Rattle.wc_state.specs.declared.context.CtxRef.{CtxRef}
use Rattle.wc_state.specs.declared.context.CtxRef.TheVariants as held
use Rattle.wc_state.specs.declared.environment.Child.{Child}
use Rattle.wc_state.specs.declared.environment.Env.{Env}
use Rattle.wc_state.specs.declared.environment.Item.{Item}
use Rattle.wc_state.specs.declared.environment.Item.TheVariants as item
use Rattle.wc_state.specs.declared.record.Await.{Await}
use Rattle.wc_state.specs.declared.record.Checkpoint.{Checkpoint}
use Rattle.wc_state.specs.declared.record.Part.{Part}
use Rattle.wc_state.specs.declared.record.Part.TheVariants as part
use Rattle.wc_state.specs.declared.record.ProcessKind.{ProcessKind}
use Rattle.wc_state.specs.declared.record.ProcessKind.TheVariants as kind
use Rattle.wc_state.specs.declared.record.ProcessRecord.{ProcessRecord}
use Rattle.wc_semantics.specs.Tables.{Label}
use Rattle.wc_world.specs.declared.change.Change.{Change}
use Rattle.wc_world.specs.Accepted.{IsAccepted}
use Rattle.wc_world.specs.Consistent.{IsConsistent, Stands}
use Rattle.wc_world.specs.Fits.{chain_runs, counted_calls, frame_fits, held_fits, is_data_node, is_nil, is_of_kind, is_process, outline_lengths, part_fits, standing_fits}
use Rattle.wc_world.specs.Records.{find_record, has_called, has_ended, library_at, same_kind}
use Rattle.wc_world.specs.Trees.{child_at, context_of, environment_at, inputs_of, items_of}
use Rattle.wc_world.specs.World.{World}
use Rattle.wc_world.proofs.FoundRecords.{found_holds}
use Rattle.wc_world.proofs.ReachedGrown.{checkpoint_from, checkpoint_parts}
use Rattle.wc_machine.specs.Advances.{Advanced, goes, loops, ends, advance}
use Rattle.wc_machine.specs.Calls.{advanced, chain_set, judged}
use Rattle.wc_machine.specs.Recorded.{its_definition}
use Rattle.wc_machine.specs.Sound.{OutputsAscend}
use Rattle.wc_machine.specs.Tasks.{saturated}
use Rattle.wc_machine.specs.Turns.{StandsAt}
use Rattle.wc_turn_laws.specs.OutlineLaws.{AreOrdered, IsNumbered, KeepsCalls}
use Rattle.wc_turn_laws.specs.Nodes.{Holds, HoldsAfter, NodesAre}
use Rattle.wc_turn_laws.specs.View.{context_in, env_in}
use Rattle.wc_turn_laws.proofs.Counted.{advance_numbered}
use Rattle.wc_turn_laws.proofs.Ordered.{advances_keep_order, none_ascends}
use Rattle.wc_turn_laws.proofs.Passed.{advance_holds}
use Rattle.wc_soundness.specs.Sets.{moves_to}
use Rattle.wc_soundness.proofs.Moves.{moves_accepted}
use Rattle.wc_soundness.proofs.Held.{all_from, from_all}
use Rattle.wc_soundness.specs.EndLaws.{EndsAlive}
use Rattle.wc_soundness.specs.Standing.{AreLow, AreLowAfter, IsLow, StandsAfter, StandsIn}
use Rattle.wc_soundness.proofs.Alive.{advances_end_alive}
use Rattle.wc_soundness.proofs.EndAccepted.{IsDataNode, ending_accepted}
use Rattle.wc_soundness.proofs.Inside.{advances_stay_inside, first_inside}
use Rattle.wc_soundness.proofs.Low.{advances_stay_low}
use Rattle.wc_soundness.proofs.ChainOutputs.{judged_over}
use Rattle.wc_soundness.proofs.Returns.{kept_is, kept_of}
use Rattle.wc_soundness.proofs.SeenWorlds.{IsRead, IsThere, child_there, children_there, items_there, nodes_read, view_of}
use Rattle.wc_soundness.proofs.ChainStanding.{Standing, begins, runs, is_live, stands_at}
use Rattle.wc_soundness.proofs.SubmitAccepted.{is_data}
use Rattle.wc_soundness.proofs.Parts.{ascend_at}
use Rattle.wc_soundness.proofs.AcceptedTaken.{HaveCallees, have_callees}

-- A work chain of a consistent world that is created or runs, with outputs in order, and with what its advance is evaluated in.
pub record IsTurn (w : World) (r : ProcessRecord) (k : Chain) (library : List Definition) (c : Checkpoint) (env : Env) : Type 0 where
  pub consistent : IsConsistent w
  pub ordered : OutputsAscend r.part
  pub found : find_record r.node w.records ≡ Some r
  pub definition : its_definition w r ≡ Some (definition.Chain k)
  pub library_there : library_at w.libraries r.library ≡ Some library
  pub stands : StandsAt r.state r.part c
  pub environment : environment_at w r.node ≡ Some env

-- ---- what a key holds

low_from : (rs : List ProcessRecord) (h : CtxRef) → held_fits rs h ≡ true → IsLow h
low_from rs (held.Plain v) h = leb-true (depth v) 32 h
low_from rs (held.One pid) h = tt
low_from rs (held.Many pids) h = tt

-- it fits a world, where a value that it holds is low
abbrev pub FitsLow : List ProcessRecord → CtxRef → Type 0
FitsLow rs h = IsLow h → held_fits rs h ≡ true

pub both_pass : (rs : List ProcessRecord) (ctx : List (List ℕ × CtxRef)) → All (λ e. FitsLow rs e.1) ctx → All (λ e. IsLow e.1) ctx → list_all (λ e. held_fits rs e.1) ctx ≡ true
both_pass rs [] h l = refl
both_pass rs (e ∷ es) h l =
    and_from (held_fits rs e.1) (list_all (λ e. held_fits rs e.1) es)
    (All-head (λ (x : List ℕ × CtxRef). FitsLow rs x.1) e es h (All-head (λ (x : List ℕ × CtxRef). IsLow x.1) e es l))
    (both_pass rs es (All-tail (λ (x : List ℕ × CtxRef). FitsLow rs x.1) e es h) (All-tail (λ (x : List ℕ × CtxRef). IsLow x.1) e es l))

chain_kind : (k : ProcessKind) → same_kind kind.Chain k ≡ true → k ≡ kind.Chain
chain_kind kind.Function h = absurd (cc h)
chain_kind kind.Job h = absurd (cc h)
chain_kind kind.Chain h = refl

data_kind : (o : Option NodeKind) → is_data_node o ≡ true → IsSomeAnd o IsData
data_kind None h = absurd (cc)
data_kind (Some (node.Data v)) h = tt
data_kind (Some node.Calculation) h = absurd (cc)
data_kind (Some node.Workflow) h = absurd (cc)

kept_all : (P : Label × ℕ → Type 0) (s : ProcessState) (os : List (Label × ℕ)) → All P os → All P (kept_of s os)
kept_all P state.Created os h = All-nil P
kept_all P state.Running os h = All-nil P
kept_all P state.Waiting os h = All-nil P
kept_all P (state.Finished n) os h = h
kept_all P (state.Excepted reason) os h = All-nil P
kept_all P state.Killed os h = All-nil P

kept_ascends : (s : ProcessState) (os : List (Label × ℕ)) → Ascends os → Ascends (kept_of s os)
kept_ascends state.Created os h = none_ascends ℕ
kept_ascends state.Running os h = none_ascends ℕ
kept_ascends state.Waiting os h = none_ascends ℕ
kept_ascends (state.Finished n) os h = h
kept_ascends (state.Excepted reason) os h = none_ascends ℕ
kept_ascends state.Killed os h = none_ascends ℕ

module _ (w : World) where
  seen_by : (pid : ℕ) (o : Option ProcessRecord) → find_record pid w.records ≡ o → is_some o ≡ true → child_at w pid ≡ Some ((view_of w).child pid)
  seen_by pid None is h = absurd (cc)
  seen_by pid (Some q) is h = child_there w pid q is

  seen : (pid : ℕ) → is_process w.records pid ≡ true → child_at w pid ≡ Some ((view_of w).child pid)
  seen pid h = seen_by pid (find_record pid w.records) refl h

  -- what a key holds is there
  key_there : (h : CtxRef) → held_fits w.records h ≡ true → IsThere w w h
  key_there (held.Plain x) h = refl
  key_there (held.One pid) h = ap (option_map (λ (c : Child). item.One c)) (seen pid h)
  key_there (held.Many pids) h = ap (option_map (λ (cs : List Child). item.Many cs))
      (children_there w w pids
      (All-weaker (λ pid. is_process w.records pid ≡ true) (λ pid. child_at w pid ≡ Some ((view_of w).child pid)) seen pids (all_from (is_process w.records) pids h)))

module _ (w : World) (r : ProcessRecord) (k : Chain) (library : List Definition) (c : Checkpoint) (env : Env) (at : IsTurn w r k library c env) where
  pub stands : Standing r c
  stands = stands_at r c at.stands

  pub live : has_ended r.state ≡ false
  live = is_live r c stands

  pub its_stand : Stands w r
  its_stand = found_holds (Stands w) r.node w.records r at.consistent.records at.found

  pub is_chain : r.kind ≡ kind.Chain
  is_chain = chain_kind r.kind (ap (is_of_kind r.kind) (sym at.definition) ∙ its_stand.defined)

  -- ---- the checkpoint before

  fits_before : (p : Part) → r.part ≡ p → standing_fits w r p ≡ true
  fits_before p is = ap (standing_fits w r) (sym is) ∙ its_stand.standing

  inside_by : (c' : Checkpoint) → Standing r c' → StandsIn k c'
  inside_by _ (begins a b) = first_inside k
  inside_by _ (runs d a b) =
      let p = checkpoint_parts w r d (fits_before (part.Chain d) b) in
      (p.some, ap (λ (o : Option Definition). list_all (frame_fits (outline_lengths o)) d.frames) (sym at.definition) ∙ p.frames)

  keys_by : (c' : Checkpoint) → Standing r c' → All (λ e. held_fits w.records e.1 ≡ true) c'.ctx
  keys_by _ (begins a b) = All-nil (λ (e : List ℕ × CtxRef). held_fits w.records e.1 ≡ true)
  keys_by _ (runs d a b) = all_from (λ e. held_fits w.records e.1) d.ctx (checkpoint_parts w r d (fits_before (part.Chain d) b)).ctx

  outputs_by : (c' : Checkpoint) → Standing r c' → All (λ o. is_data_node (node_of w.nodes o.1) ≡ true) c'.outputs
  outputs_by _ (begins a b) = All-nil (λ (o : Label × ℕ). is_data_node (node_of w.nodes o.1) ≡ true)
  outputs_by _ (runs d a b) = all_from (λ o. is_data_node (node_of w.nodes o.1)) d.outputs (checkpoint_parts w r d (fits_before (part.Chain d) b)).outputs

  pub counted : (c' : Checkpoint) → Standing r c' → c'.calls ≡ counted_calls r.part
  counted _ (begins a b) = ap counted_calls (sym b)
  counted _ (runs d a b) = ap counted_calls (sym b)

  nothing : (d : Checkpoint) → chain_runs r.kind (part.Chain d) ≡ true → d.awaiting ≡ []
  nothing d h = by d.awaiting (ap (λ (x : ProcessKind). chain_runs x (part.Chain d)) (sym is_chain) ∙ h)
    where
      by : (xs : List Await) → is_nil xs ≡ true → xs ≡ []
      by [] h = refl
      by (x ∷ xs) h = absurd (cc)

  awaits_none : (c' : Checkpoint) → Standing r c' → c'.awaiting ≡ []
  awaits_none _ (begins a b) = refl
  awaits_none _ (runs d a b) = nothing d ((λ i. part_fits r.kind (sym a i) (sym b i)) ∙ its_stand.part)

  context_is : (c' : Checkpoint) → Standing r c' → context_of r.part ≡ c'.ctx
  context_is c' (begins a b) = ap context_of b
  context_is c' (runs x a b) = ap context_of b

  -- the environment is what is seen
  env_is : env ≡ env_in (view_of w) (inputs_of w r.node) c.ctx
  env_is =
      let with_items : option_map (λ (ctx : List (List ℕ × Item)). record { inputs = inputs_of w r.node; ctx = ctx }) (items_of w (context_of r.part)) ≡ Some env
      = sym (ap (option_and_then (λ (q : ProcessRecord). option_map (λ (ctx : List (List ℕ × Item)). record { inputs = inputs_of w r.node; ctx = ctx }) (items_of w (context_of q.part)))) at.found) ∙ at.environment in
      let keys : All (λ e. IsThere w w e.1) c.ctx
      = All-weaker (λ (e : List ℕ × CtxRef). held_fits w.records e.1 ≡ true) (λ e. IsThere w w e.1) (λ e. key_there w e.1) c.ctx (keys_by c stands) in
      let items : items_of w (context_of r.part) ≡ Some (context_in (view_of w) c.ctx) = ap (items_of w) (context_is c stands) ∙ items_there w w c.ctx keys in
      some_same (sym with_items ∙ ap (option_map (λ (ctx : List (List ℕ × Item)). record { inputs = inputs_of w r.node; ctx = ctx })) items)
    where
      some_same : {x y : Env} → Some x ≡ Some y → x ≡ y
      some_same h = cc

  -- ---- what the advance comes to

  module _ (x : Advanced) (e : advance library k r.depth env c ≡ x) where
    pub numbered : IsNumbered c x
    numbered = subst (IsNumbered c) e (advance_numbered library k r.depth env c)

    pub ordered : AreOrdered x
    ordered = subst AreOrdered e (advances_keep_order library k r.depth env c (ascend_at r.state r.part c at.stands at.ordered))

    pub inside : StandsAfter k x
    inside = subst (StandsAfter k) e (advances_stay_inside library k r.depth env c (inside_by c stands))

    pub lows : AreLowAfter x
    lows = subst AreLowAfter e
        (advances_stay_low library k r.depth env c
        (All-weaker (λ (y : List ℕ × CtxRef). held_fits w.records y.1 ≡ true) (λ (y : List ℕ × CtxRef). IsLow y.1) (λ y. low_from w.records y.1) c.ctx (keys_by c stands)))

    pub taken : HaveCallees library r.depth x
    taken = subst (HaveCallees library r.depth) e (have_callees library k r.depth env c)

    pub alive : EndsAlive x
    alive = subst EndsAlive e (advances_end_alive library k r.depth env c)

    -- what it holds fits a world that has grown
    pub holds : (rs : List ProcessRecord) (ns : List NodeKind) → ((h : CtxRef) → held_fits w.records h ≡ true → held_fits rs h ≡ true)
        → ((id : ℕ) → is_data_node (node_of w.nodes id) ≡ true → is_data_node (node_of ns id) ≡ true)
        → HoldsAfter (IsRead w.nodes) (FitsLow rs) (λ id. is_data_node (node_of ns id) ≡ true) x
    holds rs ns more_held more_data = subst (HoldsAfter (IsRead w.nodes) (FitsLow rs) (λ id. is_data_node (node_of ns id) ≡ true)) e
        (advance_holds (IsRead w.nodes) (FitsLow rs) (λ id. is_data_node (node_of ns id) ≡ true) (λ v l. le-leb (depth v) 32 l)
        (λ n h. more_data n.node (ap is_data_node (is_data (node_of w.nodes n.node) n.value h))) library k r.depth env c
        (subst (NodesAre (IsRead w.nodes)) (sym env_is) (nodes_read w r.node c.ctx)) (
          All-weaker (λ (y : List ℕ × CtxRef). held_fits w.records y.1 ≡ true) (λ (y : List ℕ × CtxRef). FitsLow rs y.1) (λ y h l. more_held y.1 h) c.ctx (keys_by c stands),
          All-weaker (λ (o : Label × ℕ). is_data_node (node_of w.nodes o.1) ≡ true) (λ (o : Label × ℕ). is_data_node (node_of ns o.1) ≡ true) (λ o. more_data o.1) c.outputs
              (outputs_by c stands),
        ))

    pub holds_here : HoldsAfter (IsRead w.nodes) (FitsLow w.records) (λ id. is_data_node (node_of w.nodes id) ≡ true) x
    holds_here = holds w.records w.nodes (λ h e. e) (λ id e. e)

  -- ---- a chain that goes on

  module _ (d : Checkpoint) (counts : KeepsCalls c d) (inside : StandsIn k d) (low : AreLow d)
      (holds : Holds (IsRead w.nodes) (FitsLow w.records) (λ id. is_data_node (node_of w.nodes id) ≡ true) d) where
    none_after : d.awaiting ≡ []
    none_after = counts.1 ∙ awaits_none c stands

    checkpoint_after : standing_fits w r (part.Chain d) ≡ true
    checkpoint_after = checkpoint_from w r d (record {
      some = inside.0;
      frames = ap (λ (o : Option Definition). list_all (frame_fits (outline_lengths o)) d.frames) at.definition ∙ inside.1;
      awaiting = ap (λ (as' : List Await). list_all (λ a. has_called w.links r.node a.pid) as') none_after;
      ctx = both_pass w.records d.ctx holds.0 low;
      outputs = from_all (λ o. is_data_node (node_of w.nodes o.1)) d.outputs holds.1;
    })

    runs_on : chain_runs r.kind (part.Chain d) ≡ true
    runs_on = ap (λ (x : ProcessKind). chain_runs x (part.Chain d)) is_chain ∙ ap (λ (xs : List Await). is_nil xs) none_after

    goes_accepted : (fuel : ℕ) → w.batches < 4000000000 → IsAccepted w (moves_to r state.Running false fuel (part.Chain d))
    goes_accepted fuel room =
        moves_accepted w r state.Running false fuel (part.Chain d) at.consistent at.found
        (record {
          fits = and_from (not (has_ended r.state)) _ (ap not live) (and_from (chain_runs r.kind (part.Chain d)) _ runs_on checkpoint_after);
          goes_on = refl;
          counted = counts.0 ∙ counted c stands;
        }) room

  -- A chain that goes on, with a turn of a loop or without, or that ends, is accepted where there is room for a batch.
  pub on_accepted : (d : Checkpoint) → advance library k r.depth env c ≡ goes d → w.batches < 4000000000 → IsAccepted w (advanced w r k.head.outputs (goes d))
  on_accepted d e = goes_accepted d (numbered (goes d) e) (inside (goes d) e) (lows (goes d) e) (holds_here (goes d) e) r.fuel

  pub loop_accepted : (d : Checkpoint) → advance library k r.depth env c ≡ loops d → w.batches < 4000000000 → IsAccepted w (advanced w r k.head.outputs (loops d))
  loop_accepted d e = goes_accepted d (numbered (loops d) e) (inside (loops d) e) (lows (loops d) e) (holds_here (loops d) e) (saturated (r.fuel + 1))

  -- ---- a chain that ends

  pub end_accepted : (s : ProcessState) (outputs : List (Label × ℕ)) → advance library k r.depth env c ≡ ends s outputs → w.batches < 4000000000
      → IsAccepted w (advanced w r k.head.outputs (ends s outputs))
  end_accepted s outputs e room =
      let last : ProcessState = judged w r k.head.outputs s outputs in
      let over : has_ended last ≡ true = judged_over w r k.head.outputs s outputs (alive (ends s outputs) e).0 in
      subst (λ (cs : List Change). IsAccepted w (cs ++ chain_set w r last r.fuel part.Over ∷ [])) (sym (kept_is w r s outputs))
      (ending_accepted w r last (kept_of s outputs) at.consistent at.found is_chain live over (kept_ascends s outputs (ordered (ends s outputs) e))
      (kept_all (IsDataNode w.nodes) s outputs
      (All-weaker (λ (o : Label × ℕ). is_data_node (node_of w.nodes o.1) ≡ true) (IsDataNode w.nodes) (λ o. data_kind (node_of w.nodes o.1)) outputs (holds_here (ends s outputs) e))) room)
