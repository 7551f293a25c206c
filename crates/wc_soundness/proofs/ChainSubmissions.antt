-- What a chain's turn that submits calls gives: what the calls are, and what its new checkpoint holds.
use Rattle.std.proofs.Common.{◌≡◌, ℕ, zero, suc, Bool, true, false, Option, Some, None, List, [], ◌∷◌, ◌++◌, length, refl, sym, ap, subst, ◌∙◌}
use Rattle.std.specs.Prelude.{◌≢◌, ◌==◌, All, if◌then◌else◌, is_some, option_and_then, slice_get}
use Rattle.std.specs.List.{list_all}
use Rattle.std.proofs.lemmas.Bool.{and_from, and_parts, le-leb, leb-false, leb-true}
use Rattle.std.proofs.lemmas.List.Elements.{All-cons, All-head, All-nil, All-tail, All-weaker}
use Rattle.std.proofs.lemmas.Option.{get_or_from_slice_get, slice_get_within}
use Rattle.wc_value.specs.Ascending.{Ascends}
use Rattle.wc_value.specs.Spelling.{depth}
use Rattle.wc_syntax.specs.Findings.{definition_named}
use Rattle.wc_syntax.specs.declared.definition.Chain.{Chain}
use Rattle.wc_syntax.specs.declared.definition.Definition.{Definition}
use Rattle.wc_syntax.specs.declared.definition.Definition.TheVariants as definition
use Rattle.wc_graph.specs.Rules.{node_of}
use Rattle.wc_graph.specs.declared.node.NodeKind.{NodeKind}
use Rattle.wc_state.specs.declared.context.CtxRef.{CtxRef}
use Rattle.wc_state.specs.declared.context.CtxRef.TheVariants as held
use Rattle.wc_state.specs.declared.environment.Env.{Env}
use Rattle.wc_state.specs.declared.record.Checkpoint.{Checkpoint}
use Rattle.wc_state.specs.declared.record.Part.{Part}
use Rattle.wc_state.specs.declared.record.Part.TheVariants as part
use Rattle.wc_state.specs.declared.record.ProcessKind.{ProcessKind}
use Rattle.wc_state.specs.declared.record.ProcessKind.TheVariants as kind
use Rattle.wc_state.specs.declared.record.ProcessRecord.{ProcessRecord}
use Rattle.wc_semantics.specs.Tables.{Label}
use Rattle.wc_world.specs.Fits.{frame_fits, held_fits, is_data_node, is_of_kind, is_process, outline_lengths, standing_fits}
use Rattle.wc_world.specs.Records.{definition_in, find_record, has_ended, library_at}
use Rattle.wc_world.specs.World.{World, Known}
use Rattle.wc_world.proofs.ReachedGrown.{checkpoint_parts}
use Rattle.wc_world.proofs.ReachedLists.{node_grown, option_map_some}
use Rattle.wc_machine.specs.Advances.{submits, advance}
use Rattle.wc_machine.specs.Sound.{OutputsAscend}
use Rattle.wc_machine.specs.Steps.{Call}
use Rattle.wc_machine.specs.Submissions.{IsKeptLibrary}
use Rattle.wc_turn_laws.specs.OutlineLaws.{AreOrdered, IsNumbered}
use Rattle.wc_turn_laws.specs.Nodes.{HoldsAfter, InCall, NodesAre}
use Rattle.wc_turn_laws.proofs.Ordered.{advances_keep_order, none_ascends}
use Rattle.wc_turn_laws.proofs.Passed.{advance_holds}
use Rattle.wc_soundness.specs.TrackLaws.{IsAtTurn}
use Rattle.wc_soundness.proofs.ChainAdvances.{env_is, numbered}
use Rattle.wc_soundness.proofs.SeenWorlds.{IsRead, nodes_read}
use Rattle.wc_soundness.proofs.ChainStanding.{Standing, begins, runs, stands_at, is_live, its_fit, its_stand}
use Rattle.wc_soundness.specs.Standing.{AreLow, AreLowAfter, AreLowIn, IsLow, StandsAfter, StandsIn}
use Rattle.wc_soundness.proofs.Inside.{advances_stay_inside, first_inside}
use Rattle.wc_soundness.proofs.Low.{advances_stay_low}
use Rattle.wc_soundness.proofs.SubmitAccepted.{MayCall, is_data}
use Rattle.wc_soundness.proofs.ChainChildren.{IsCallable}
use Rattle.wc_soundness.proofs.Inputs.{value_grown}
use Rattle.wc_soundness.proofs.Required.{OfBlocks, GivesRequired, calls_give}
use Rattle.wc_soundness.proofs.ChainTaken.{AreTaken, IsTaken, advance_taken}
use Rattle.wc_machine.specs.Outlines.{blocks}

-- ---- what grows

process_more : (pid : ℕ) (rs more : List ProcessRecord) → is_process rs pid ≡ true → is_process (rs ++ more) pid ≡ true
process_more pid [] more h = absurd (cc)
process_more pid (x ∷ xs) more h = by (x.node == pid) h (process_more pid xs more)
  where
    by : (b : Bool) → is_some (if b then Some x else find_record pid xs) ≡ true → (is_process xs pid ≡ true → is_process (xs ++ more) pid ≡ true)
        → is_some (if b then Some x else find_record pid (xs ++ more)) ≡ true
    by true e rest = refl
    by false e rest = rest e

processes_more : (pids : List ℕ) (rs more : List ProcessRecord) → list_all (is_process rs) pids ≡ true → list_all (is_process (rs ++ more)) pids ≡ true
processes_more [] rs more h = refl
processes_more (pid ∷ pids) rs more h =
    let b = and_parts (is_process rs pid) (list_all (is_process rs) pids) h in
    and_from (is_process (rs ++ more) pid) (list_all (is_process (rs ++ more)) pids) (process_more pid rs more b.0) (processes_more pids rs more b.1)

held_more : (rs more : List ProcessRecord) (h : CtxRef) → held_fits rs h ≡ true → held_fits (rs ++ more) h ≡ true
held_more rs more (held.Plain v) e = e
held_more rs more (held.One pid) e = process_more pid rs more e
held_more rs more (held.Many pids) e = processes_more pids rs more e

data_more : (nodes more : List NodeKind) (id : ℕ) → is_data_node (node_of nodes id) ≡ true → is_data_node (node_of (nodes ++ more) id) ≡ true
data_more nodes more id h = by (node_of nodes id) refl h
  where
    by : (o : Option NodeKind) → node_of nodes id ≡ o → is_data_node o ≡ true → is_data_node (node_of (nodes ++ more) id) ≡ true
    by None e p = absurd (cc)
    by (Some k) e p = ap is_data_node (node_grown nodes more id k e) ∙ p

low_from : (rs : List ProcessRecord) (h : CtxRef) → held_fits rs h ≡ true → IsLow h
low_from rs (held.Plain v) h = leb-true (depth v) 32 h
low_from rs (held.One pid) h = tt
low_from rs (held.Many pids) h = tt

pub each_from : {A : Type 0} (P : A → Type 0) (test : A → Bool) → ((x : A) → test x ≡ true → P x) → (xs : List A) → list_all test xs ≡ true → All P xs
each_from P test one [] h = All-nil P
each_from P test one (x ∷ xs) h = let b = and_parts (test x) (list_all test xs) h in All-cons P x xs (one x b.0) (each_from P test one xs b.1)

pub each_passes : {A : Type 0} (P : A → Type 0) (test : A → Bool) → ((x : A) → P x → test x ≡ true) → (xs : List A) → All P xs → list_all test xs ≡ true
each_passes P test one [] h = refl
each_passes P test one (x ∷ xs) h = and_from (test x) (list_all test xs) (one x (All-head P x xs h)) (each_passes P test one xs (All-tail P x xs h))

chain_kind : (o : ProcessKind) (k : Chain) → is_of_kind o (Some (definition.Chain k)) ≡ true → o ≡ kind.Chain
chain_kind kind.Function k h = absurd (cc)
chain_kind kind.Job k h = absurd (cc)
chain_kind kind.Chain k h = refl

kept_at : (libraries : List Known) (number : ℕ) (l : List Definition) → All (λ k. IsKeptLibrary k.0) libraries → library_at libraries number ≡ Some l → IsKeptLibrary l
kept_at libraries zero l h e = absurd (cc)
kept_at libraries (suc place) l h e =
    let k = option_map_some (λ (x : Known). x.0) (slice_get libraries place) l e in
    subst IsKeptLibrary k.2
    (subst (λ (x : Known). IsKeptLibrary x.0) (get_or_from_slice_get libraries place k.0 k.0 k.1) (h place k.0 (slice_get_within libraries place k.0 k.1)))

-- what a key holds fits a world, where a value that it holds is low
abbrev FitsLow : List ProcessRecord → CtxRef → Type 0
FitsLow rs h = IsLow h → held_fits rs h ≡ true

pub both_pass : (rs : List ProcessRecord) (ctx : List (List ℕ × CtxRef)) → All (λ e. FitsLow rs e.1) ctx → All (λ e. IsLow e.1) ctx → list_all (λ e. held_fits rs e.1) ctx ≡ true
both_pass rs [] h l = refl
both_pass rs (e ∷ es) h l =
    and_from (held_fits rs e.1) (list_all (λ e. held_fits rs e.1) es)
    (All-head (λ (x : List ℕ × CtxRef). FitsLow rs x.1) e es h (All-head (λ (x : List ℕ × CtxRef). IsLow x.1) e es l))
    (both_pass rs es (All-tail (λ (x : List ℕ × CtxRef). FitsLow rs x.1) e es h) (All-tail (λ (x : List ℕ × CtxRef). IsLow x.1) e es l))

module _ (w : World) (r : ProcessRecord) (k : Chain) (library : List Definition) (c : Checkpoint) (env : Env) (at : IsAtTurn w r k library c env) where
  pub stands : Standing r c
  stands = stands_at r c at.stands

  pub live : has_ended r.state ≡ false
  live = is_live r c stands

  pub is_chain : r.kind ≡ kind.Chain
  is_chain = chain_kind r.kind k (ap (is_of_kind r.kind) (sym at.definition) ∙ (its_stand w at.sound r at.found).defined)

  named_here : definition_named r.definition library ≡ Some (definition.Chain k)
  named_here = sym (ap (option_and_then (definition_named r.definition)) at.library_there) ∙ at.definition

  good : OfBlocks (GivesRequired library) (blocks k.outline)
  good = calls_give library r.definition k (kept_at w.libraries r.library library at.sound.libraries at.library_there) named_here

  -- ---- the checkpoint before

  fits_before : (p : Part) → r.part ≡ p → standing_fits w r p ≡ true
  fits_before p is = ap (standing_fits w r) (sym is) ∙ (its_stand w at.sound r at.found).standing

  inside_by : (c' : Checkpoint) → Standing r c' → StandsIn k c'
  inside_by _ (begins a b) = first_inside k
  inside_by _ (runs d a b) =
      let p = checkpoint_parts w r d (fits_before (part.Chain d) b) in
      (p.some, ap (λ (o : Option Definition). list_all (frame_fits (outline_lengths o)) d.frames) (sym at.definition) ∙ p.frames)

  keys_by : (c' : Checkpoint) → Standing r c' → All (λ e. held_fits w.records e.1 ≡ true) c'.ctx
  keys_by _ (begins a b) = All-nil (λ (e : List ℕ × CtxRef). held_fits w.records e.1 ≡ true)
  keys_by _ (runs d a b) =
      each_from (λ (e : List ℕ × CtxRef). held_fits w.records e.1 ≡ true) (λ e. held_fits w.records e.1) (λ e h. h) d.ctx (checkpoint_parts w r d (fits_before (part.Chain d) b)).ctx

  outputs_by : (c' : Checkpoint) → Standing r c' → All (λ o. is_data_node (node_of w.nodes o.1) ≡ true) c'.outputs
  outputs_by _ (begins a b) = All-nil (λ (o : Label × ℕ). is_data_node (node_of w.nodes o.1) ≡ true)
  outputs_by _ (runs d a b) =
      each_from (λ (o : Label × ℕ). is_data_node (node_of w.nodes o.1) ≡ true) (λ o. is_data_node (node_of w.nodes o.1)) (λ o h. h) d.outputs
      (checkpoint_parts w r d (fits_before (part.Chain d) b)).outputs

  outputs_ascend : (c' : Checkpoint) → Standing r c' → Ascends c'.outputs
  outputs_ascend c' (begins a b) = none_ascends ℕ
  outputs_ascend c' (runs x a b) = subst OutputsAscend b (its_fit w at.sound r at.found).outputs

  -- ---- the checkpoint after, and the calls

  module _ (d : Checkpoint) (calls : List Call) (e : advance library k r.depth env c ≡ submits d calls) where
    pub counts : IsNumbered c (submits d calls)
    counts = numbered w r k library c env at (submits d calls) e

    pub ordered : AreOrdered (submits d calls)
    ordered = subst AreOrdered e (advances_keep_order library k r.depth env c (outputs_ascend c stands))

    pub inside : StandsIn k d
    inside = subst (StandsAfter k) e (advances_stay_inside library k r.depth env c (inside_by c stands))

    lows : AreLow d × All AreLowIn calls
    lows = subst AreLowAfter e
        (advances_stay_low library k r.depth env c
        (All-weaker (λ (x : List ℕ × CtxRef). held_fits w.records x.1 ≡ true) (λ (x : List ℕ × CtxRef). IsLow x.1) (λ x. low_from w.records x.1) c.ctx (keys_by c stands)))

    taken : (length calls ≢ 0) × All (IsTaken library r.depth) calls
    taken = subst (AreTaken library r.depth) e (advance_taken library k r.depth env c good)

    pub some_calls : length calls ≢ 0
    some_calls = taken.0

    holds : (rs : List ProcessRecord) (ns : List NodeKind)
        → HoldsAfter (IsRead w.nodes) (FitsLow (w.records ++ rs)) (λ id. is_data_node (node_of (w.nodes ++ ns) id) ≡ true) (submits d calls)
    holds rs ns = subst (HoldsAfter (IsRead w.nodes) (FitsLow (w.records ++ rs)) (λ id. is_data_node (node_of (w.nodes ++ ns) id) ≡ true)) e
        (advance_holds (IsRead w.nodes) (FitsLow (w.records ++ rs)) (λ id. is_data_node (node_of (w.nodes ++ ns) id) ≡ true) (λ v l. le-leb (depth v) 32 l)
        (λ n h. ap is_data_node (is_data (node_of (w.nodes ++ ns) n.node) n.value (value_grown w.nodes ns n.node n.value h))) library k r.depth env c
        (subst (NodesAre (IsRead w.nodes)) (sym (env_is w r k library c env at)) (nodes_read w r.node c.ctx)) (
          All-weaker (λ (x : List ℕ × CtxRef). held_fits w.records x.1 ≡ true) (λ (x : List ℕ × CtxRef). FitsLow (w.records ++ rs) x.1)
              (λ x h l. held_more w.records rs x.1 h) c.ctx (keys_by c stands),
          All-weaker (λ (o : Label × ℕ). is_data_node (node_of w.nodes o.1) ≡ true) (λ (o : Label × ℕ). is_data_node (node_of (w.nodes ++ ns) o.1) ≡ true)
              (λ o. data_more w.nodes ns o.1) c.outputs (outputs_by c stands),
        ))

    -- the context and the outputs fit a world that has grown
    pub keys_fit : (rs : List ProcessRecord) → list_all (λ x. held_fits (w.records ++ rs) x.1) d.ctx ≡ true
    keys_fit rs = both_pass (w.records ++ rs) d.ctx (holds rs []).0.0 lows.0

    pub outputs_fit : (ns : List NodeKind) → list_all (λ o. is_data_node (node_of (w.nodes ++ ns) o.1)) d.outputs ≡ true
    outputs_fit ns =
        each_passes (λ (o : Label × ℕ). is_data_node (node_of (w.nodes ++ ns) o.1) ≡ true) (λ o. is_data_node (node_of (w.nodes ++ ns) o.1)) (λ o h. h) d.outputs (holds [] ns).0.1

    -- the nodes that are passed on have the values that were read
    pub calls_read : All (InCall (IsRead w.nodes)) calls
    calls_read = (holds [] []).1

    pub calls_ascend : All (λ x. Ascends x.args) calls
    calls_ascend = ordered.1

    found_in : (name : List ℕ) → definition_in w.libraries r.library name ≡ definition_named name library
    found_in name = ap (option_and_then (definition_named name)) at.library_there

    pub calls_callable : All (IsCallable w r) calls
    calls_callable =
        All-weaker (IsTaken library r.depth) (IsCallable w r)
        (λ x t. record { definition = t.definition; is_there = found_in x.definition ∙ t.is_there; takes = t.takes }) calls taken.1

    pub calls_may : All (MayCall w r) calls
    calls_may = each_may calls taken.1 calls_ascend lows.1
      where
        each_may : (cs : List Call) → All (IsTaken library r.depth) cs → All (λ x. Ascends x.args) cs → All AreLowIn cs → All (MayCall w r) cs
        each_may [] t a l = All-nil (MayCall w r)
        each_may (x ∷ xs) t a l =
            let one : IsTaken library r.depth x = All-head (IsTaken library r.depth) x xs t in
            All-cons (MayCall w r) x xs (record {
              level = leb-false 16 r.depth one.level;
              definition = one.definition;
              is_there = found_in x.definition ∙ one.is_there;
              ascend = All-head (λ y. Ascends y.args) x xs a;
              low = All-head AreLowIn x xs l;
            }) (each_may xs (All-tail (IsTaken library r.depth) x xs t) (All-tail (λ y. Ascends y.args) x xs a) (All-tail AreLowIn x xs l))
