-- A chain that goes on is accepted, and keeps a sound world sound.
use Rattle.std.proofs.Common.{inl, inr, ◌≡◌, ℕ, suc, ◌+◌, ◌-◌, ◌<◌, ◌≤◌, Bool, true, false, List, [], ◌∷◌, Option, Some, None, ◌⊎◌, length, refl, sym, ap, subst, ◌∙◌, arith}
use Rattle.std.specs.Prelude.{All, ◌==◌, not, min, option_and_then, ◌^◌}
use Rattle.std.specs.List.{list_all, list_any}
use Rattle.std.proofs.lemmas.Bool.{and_parts, and_from, le-leb, leb-true}
use Rattle.std.proofs.lemmas.List.Elements.{All-head, All-tail, All-nil, All-cons}
use Rattle.wc_value.specs.Spelling.{depth}
use Rattle.wc_value.specs.declared.process.ProcessState.TheVariants as state
use Rattle.wc_value.specs.declared.value.Value.{Value}
use Rattle.wc_syntax.specs.declared.definition.Chain.{Chain}
use Rattle.wc_syntax.specs.declared.definition.Definition.{Definition}
use Rattle.wc_syntax.specs.declared.definition.Definition.TheVariants as definition
use Rattle.wc_graph.specs.Rules.{node_of}
use Rattle.wc_graph.specs.declared.node.NodeKind.{NodeKind}
use Rattle.wc_graph.specs.declared.node.NodeKind.TheVariants as node
use Rattle.wc_state.specs.Context.{Pairs}
use Rattle.wc_state.specs.declared.context.CtxRef.{CtxRef}
use Rattle.wc_state.specs.declared.context.CtxRef.TheVariants as held
use Rattle.wc_state.specs.declared.environment.Env.{Env}
use Rattle.wc_state.specs.declared.record.Await.{Await}
use Rattle.wc_state.specs.declared.record.Checkpoint.{Checkpoint}
use Rattle.wc_state.specs.declared.record.Part.{Part}
use Rattle.wc_state.specs.declared.record.Part.TheVariants as part
use Rattle.wc_state.specs.declared.record.ProcessKind.{ProcessKind}
use Rattle.wc_state.specs.declared.record.ProcessKind.TheVariants as kind
use Rattle.wc_state.specs.declared.record.ProcessRecord.{ProcessRecord}
use Rattle.wc_semantics.specs.Tables.{Label}
use Rattle.wc_world.specs.World.{World}
use Rattle.wc_world.specs.Accepted.{IsAccepted}
use Rattle.wc_world.specs.Applied.{set}
use Rattle.wc_world.specs.Consistent.{IsConsistent}
use Rattle.wc_world.specs.Fits.{is_nil, chain_runs, is_of_kind, is_process, held_fits, is_data_node, outline_lengths, frame_fits, standing_fits, set_fits, counted_calls}
use Rattle.wc_world.specs.Records.{find_record, has_called, has_ended, is_calculation}
use Rattle.wc_world.specs.Trees.{data_of}
use Rattle.wc_world.proofs.FoundRecords.{found_holds}
use Rattle.wc_world.proofs.ReachedGrown.{checkpoint_parts, checkpoint_from}
use Rattle.wc_world.proofs.ReachedWorlds.{accepted_is_consistent}
use Rattle.wc_machine.specs.Advances.{Advanced, goes, loops, advance}
use Rattle.wc_machine.specs.Laws.{HasPlaces}
use Rattle.wc_machine.specs.Rest.{is_awaited}
use Rattle.wc_machine.specs.Sound.{fuel_in}
use Rattle.wc_machine.specs.Sources.{KeepsRule}
use Rattle.wc_machine.specs.Tasks.{saturated}
use Rattle.wc_machine.proofs.Frames.{records_below}
use Rattle.wc_soundness.specs.Touches.{Touches, MayBeTouched, EndsLate, IsSoundRecord}
use Rattle.wc_soundness.proofs.Others.{touched_worlds_are_sound}
use Rattle.wc_soundness.proofs.Touched.{touching_continues}
use Rattle.wc_turn_laws.specs.OutlineLaws.{KeepsCalls}
use Rattle.wc_turn_laws.specs.Nodes.{NodesAre, Holds, HoldsAfter}
use Rattle.wc_turn_laws.proofs.Passed.{advance_holds}
use Rattle.wc_soundness.proofs.OtherRecords.{live_unended}
use Rattle.wc_soundness.proofs.Replaced.{one_record}
use Rattle.wc_soundness.specs.TrackLaws.{IsAtTurn, IsSoundChain, IsSoundTurn}
use Rattle.wc_soundness.proofs.ChainAdvances.{env_is, numbered}
use Rattle.wc_soundness.proofs.OneSet.{at_checkpoint, went, now_runs, found_now, may_go}
use Rattle.wc_soundness.proofs.SeenWorlds.{IsRead, nodes_read}
use Rattle.wc_soundness.proofs.SoundTurns.{goes_sound, loops_sound}
use Rattle.wc_soundness.proofs.ChainStanding.{Standing, begins, runs, stands_at, is_live, its_stand, its_fit, awaits_none, none_awaited}
use Rattle.wc_soundness.specs.Sets.{moves_to}
use Rattle.wc_soundness.proofs.Moves.{moves_accepted}
use Rattle.wc_soundness.specs.BindingLaws.{KeepsSound}
use Rattle.wc_soundness.specs.ChainTurnLaws.{TurnsOfChainsKeepSound}
use Rattle.wc_soundness.specs.Standing.{StandsIn, StandsAfter, IsLow, AreLow, AreLowAfter}
use Rattle.wc_soundness.proofs.TurnFuel.{IsNear, fuel_within}
use Rattle.wc_soundness.proofs.Inside.{advances_stay_inside, first_inside}
use Rattle.wc_soundness.proofs.Low.{advances_stay_low}

-- ---- what a context holds

-- the processes that a key holds are there
abbrev AreThere : World → CtxRef → Type 0
AreThere w (held.Plain v) = Unit {0}
AreThere w (held.One pid) = is_process w.records pid ≡ true
AreThere w (held.Many pids) = list_all (is_process w.records) pids ≡ true

there_from : (w : World) (h : CtxRef) → held_fits w.records h ≡ true → AreThere w h
there_from w (held.Plain v) h = tt
there_from w (held.One pid) h = h
there_from w (held.Many pids) h = h

low_from : (w : World) (h : CtxRef) → held_fits w.records h ≡ true → IsLow h
low_from w (held.Plain v) h = leb-true (depth v) 32 h
low_from w (held.One pid) h = tt
low_from w (held.Many pids) h = tt

held_from : (w : World) (h : CtxRef) → AreThere w h → IsLow h → held_fits w.records h ≡ true
held_from w (held.Plain v) t l = le-leb (depth v) 32 l
held_from w (held.One pid) t l = t
held_from w (held.Many pids) t l = t

each_from : {A : Type 0} (P : A → Type 0) (test : A → Bool) → ((x : A) → test x ≡ true → P x) → (xs : List A) → list_all test xs ≡ true → All P xs
each_from P test one [] h = All-nil P
each_from P test one (x ∷ xs) h = let b = and_parts (test x) (list_all test xs) h in All-cons P x xs (one x b.0) (each_from P test one xs b.1)

each_passes : {A : Type 0} (P : A → Type 0) (test : A → Bool) → ((x : A) → P x → test x ≡ true) → (xs : List A) → All P xs → list_all test xs ≡ true
each_passes P test one [] h = refl
each_passes P test one (x ∷ xs) h = and_from (test x) (list_all test xs) (one x (All-head P x xs h)) (each_passes P test one xs (All-tail P x xs h))

keys_pass : (w : World) (ctx : Pairs) → All (λ e. AreThere w e.1) ctx → All (λ e. IsLow e.1) ctx → list_all (λ e. held_fits w.records e.1) ctx ≡ true
keys_pass w [] t l = refl
keys_pass w (e ∷ es) t l =
    and_from (held_fits w.records e.1) (list_all (λ e. held_fits w.records e.1) es)
    (held_from w e.1 (All-head (λ (z : List ℕ × CtxRef). AreThere w z.1) e es t) (All-head (λ (z : List ℕ × CtxRef). IsLow z.1) e es l))
    (keys_pass w es (All-tail (λ (z : List ℕ × CtxRef). AreThere w z.1) e es t) (All-tail (λ (z : List ℕ × CtxRef). IsLow z.1) e es l))

-- a node with a value is data
data_by : (o : Option NodeKind) (v : Value) → option_and_then data_of o ≡ Some v → is_data_node o ≡ true
data_by None v h = absurd (cc)
data_by (Some (node.Data x)) v h = refl
data_by (Some node.Calculation) v h = absurd (cc)
data_by (Some node.Workflow) v h = absurd (cc)

-- ---- what a chain is

chain_kind : (o : ProcessKind) (k : Chain) → is_of_kind o (Some (definition.Chain k)) ≡ true → o ≡ kind.Chain
chain_kind kind.Function k h = absurd (cc)
chain_kind kind.Job k h = absurd (cc)
chain_kind kind.Chain k h = refl

runs_without : (o : ProcessKind) (d : Checkpoint) → o ≡ kind.Chain → d.awaiting ≡ [] → chain_runs o (part.Chain d) ≡ true
runs_without o d is none = ap (λ (x : ProcessKind). chain_runs x (part.Chain d)) is ∙ ap (λ (xs : List Await). is_nil xs) none

module _ (w : World) (r : ProcessRecord) (k : Chain) (library : List Definition) (c : Checkpoint) (env : Env) (at : IsAtTurn w r k library c env) where
  stands : Standing r c
  stands = stands_at r c at.stands

  live : has_ended r.state ≡ false
  live = is_live r c stands

  is_chain : r.kind ≡ kind.Chain
  is_chain = chain_kind r.kind k (ap (is_of_kind r.kind) (sym at.definition) ∙ (its_stand w at.sound r at.found).defined)

  fits_before : (p : Part) → r.part ≡ p → standing_fits w r p ≡ true
  fits_before p is = ap (standing_fits w r) (sym is) ∙ (its_stand w at.sound r at.found).standing

  -- ---- the checkpoint before

  inside_by : (c' : Checkpoint) → Standing r c' → StandsIn k c'
  inside_by _ (begins a b) = first_inside k
  inside_by _ (runs d a b) =
      let p = checkpoint_parts w r d (fits_before (part.Chain d) b) in
      (p.some, ap (λ (o : Option Definition). list_all (frame_fits (outline_lengths o)) d.frames) (sym at.definition) ∙ p.frames)

  keys_by : (P : CtxRef → Type 0) → ((h : CtxRef) → held_fits w.records h ≡ true → P h) → (c' : Checkpoint) → Standing r c' → All (λ e. P e.1) c'.ctx
  keys_by P one _ (begins a b) = All-nil (λ (e : List ℕ × CtxRef). P e.1)
  keys_by P one _ (runs d a b) =
      each_from (λ (e : List ℕ × CtxRef). P e.1) (λ e. held_fits w.records e.1) (λ e h. one e.1 h) d.ctx (checkpoint_parts w r d (fits_before (part.Chain d) b)).ctx

  abbrev IsDataAt : ℕ → Type 0
  IsDataAt id = is_data_node (node_of w.nodes id) ≡ true

  outputs_by : (c' : Checkpoint) → Standing r c' → All (λ o. IsDataAt o.1) c'.outputs
  outputs_by _ (begins a b) = All-nil (λ (o : Label × ℕ). IsDataAt o.1)
  outputs_by _ (runs d a b) =
      each_from (λ (o : Label × ℕ). IsDataAt o.1) (λ o. is_data_node (node_of w.nodes o.1)) (λ o h. h) d.outputs (checkpoint_parts w r d (fits_before (part.Chain d) b)).outputs

  counted : (c' : Checkpoint) → Standing r c' → c'.calls ≡ counted_calls r.part
  counted _ (begins a b) = ap counted_calls (sym b)
  counted _ (runs d a b) = ap counted_calls (sym b)

  -- ---- the checkpoint after

  inside_after : (x : Advanced) → advance library k r.depth env c ≡ x → StandsAfter k x
  inside_after x e = subst (StandsAfter k) e (advances_stay_inside library k r.depth env c (inside_by c stands))

  low_after : (x : Advanced) → advance library k r.depth env c ≡ x → AreLowAfter x
  low_after x e = subst AreLowAfter e (advances_stay_low library k r.depth env c (keys_by IsLow (low_from w) c stands))

  holds_after : (x : Advanced) → advance library k r.depth env c ≡ x → HoldsAfter (IsRead w.nodes) (AreThere w) IsDataAt x
  holds_after x e = subst (HoldsAfter (IsRead w.nodes) (AreThere w) IsDataAt) e
      (advance_holds (IsRead w.nodes) (AreThere w) IsDataAt (λ v. tt) (λ n h. data_by (node_of w.nodes n.node) n.value h) library k r.depth env c
      (subst (NodesAre (IsRead w.nodes)) (sym (env_is w r k library c env at)) (nodes_read w r.node c.ctx))
      (keys_by (AreThere w) (there_from w) c stands, outputs_by c stands))

  module _ (d : Checkpoint) (counts : KeepsCalls c d) (inside : StandsIn k d) (low : AreLow d) (holds : Holds (IsRead w.nodes) (AreThere w) IsDataAt d) where
    none_after : d.awaiting ≡ []
    none_after = counts.1 ∙ awaits_none w at.sound r at.found c stands

    checkpoint_after : standing_fits w r (part.Chain d) ≡ true
    checkpoint_after = checkpoint_from w r d (record {
      some = inside.0;
      frames = ap (λ (o : Option Definition). list_all (frame_fits (outline_lengths o)) d.frames) at.definition ∙ inside.1;
      awaiting = ap (λ (as' : List Await). list_all (λ a. has_called w.links r.node a.pid) as') none_after;
      ctx = keys_pass w d.ctx holds.0 low;
      outputs = each_passes (λ (o : Label × ℕ). IsDataAt o.1) (λ o. is_data_node (node_of w.nodes o.1)) (λ o h. h) d.outputs holds.1;
    })

    module _ (fuel : ℕ) where
      abbrev v : World
      v = went w r fuel d

      abbrev s : ProcessRecord
      s = now_runs w r fuel d

      fits : set_fits w (at_checkpoint r fuel d) r ≡ true
      fits = and_from (not (has_ended r.state)) _ (ap not live) (and_from (chain_runs r.kind (part.Chain d)) _ (runs_without r.kind d is_chain none_after) checkpoint_after)

      accepted : w.batches < 4000000000 → IsAccepted w (moves_to r state.Running false fuel (part.Chain d))
      accepted room =
          moves_accepted w r state.Running false fuel (part.Chain d) at.sound.consistent at.found (record { fits = fits; goes_on = refl; counted = counts.0 ∙ counted c stands }) room

      touched_may : MayBeTouched w r.node
      touched_may = may_go w r at.found live (its_fit w at.sound r at.found) fuel d

      there : find_record r.node v.records ≡ Some s
      there = found_now w r at.found live (its_fit w at.sound r at.found) fuel d

      -- no process is new
      not_beyond : IsConsistent v → (q : ProcessRecord) → find_record q.node v.records ≡ Some q → length w.nodes < q.node → ⊥
      not_beyond consistent q is beyond =
          let lt : q.node < suc (length w.nodes) = found_holds (λ x. x.node < suc (length w.nodes)) q.node v.records q (records_below v.nodes v.records consistent.numbered) is in
          omega (arith, lt, beyond)

      same_now : (q : ProcessRecord) → find_record q.node v.records ≡ Some q → r.node ≡ q.node → s ≡ q
      same_now q is e = one_record (find_record q.node v.records) s q (ap (λ (n : ℕ). find_record n v.records) (sym e) ∙ there) is

      late : IsConsistent v → EndsLate w v r.node
      late consistent q is (inl e) =
          let none : r.ended ≡ 0 = live_unended r (its_stand w at.sound r at.found).ends live in
          inl (ap (λ (x : ProcessRecord). x.ended) (sym (same_now q is e)) ∙ none)
      late consistent q is (inr beyond) = absurd (not_beyond consistent q is beyond)

      no_calculation : is_calculation r.kind ≡ false
      no_calculation = ap is_calculation is_chain

      rule : KeepsRule v s
      rule = (λ calculates on ne. absurd (cc (calculates, no_calculation)), λ e. refl, λ e. refl, λ e. refl)

      sound_record : IsSoundChain v s → IsSoundRecord v s
      sound_record h = record {
        fits = h.fits;
        placed = h.placed;
        calls = h.calls;
        awaits = h.awaits;
        names = h.names;
        rule = rule;
        bare = λ calculates e. absurd (cc (calculates, no_calculation));
        given = λ calculates e. absurd (cc (calculates, no_calculation));
        live = λ e. h.track;
        ended = λ over. absurd (cc over);
        few = λ over. absurd (cc over);
      }

      awaits_same : (pid : ℕ) → is_awaited (part.Chain d) pid ≡ is_awaited r.part pid
      awaits_same pid = ap (λ (as' : List Await). list_any (λ a. a.pid == pid) as') none_after ∙ sym (none_awaited w at.sound r at.found c stands pid)

      near : fuel ≤ r.fuel + 1 → IsNear r s
      near le = record { node = refl; over = sym live; awaits = awaits_same; fuel = le }

      kept_fuel : fuel ≤ r.fuel + 1 → fuel_in v.records v.records ≤ v.batches + length v.nodes
      kept_fuel le = fuel_within w at.sound r at.found (set (w.batches + 1) (at_checkpoint r fuel d)) (near le)

      keeps : w.batches < 4000000000 → fuel ≤ r.fuel + 1 → Touches w v r.node → IsSoundChain v s → KeepsSound w (moves_to r state.Running false fuel (part.Chain d))
      keeps room le touches chain =
          let a = accepted room in
          let consistent : IsConsistent v = accepted_is_consistent w (moves_to r state.Running false fuel (part.Chain d)) at.sound.consistent a in
          let one : (q : ProcessRecord) → find_record q.node v.records ≡ Some q → (r.node ≡ q.node) ⊎ (length w.nodes < q.node) → IsSoundRecord v q = λ q is which.
          elim which [
            | inl e ↦ subst (IsSoundRecord v) (same_now q is e) (sound_record chain)
            | inr beyond ↦ absurd (not_beyond consistent q is beyond)
          ] in
          record {
            accepted = a;
            continues = touching_continues w v r.node at.sound touches touched_may;
            sound = touched_worlds_are_sound w v r.node at.sound touches touched_may (late consistent)
                (record { consistent = consistent; libraries = at.sound.libraries; upward = at.sound.upward; one_creator = at.sound.created.one_creator; fuel = kept_fuel le }) one;
          }

  -- ---- the turns

  goes_on : HasPlaces w (length w.nodes) → (d : Checkpoint) → advance library k r.depth env c ≡ goes d → KeepsSound w (moves_to r state.Running false r.fuel (part.Chain d))
  goes_on places d e =
      let turn : IsSoundTurn w r k (goes d) = goes_sound w r k library c env at d e in
      let le : r.fuel ≤ r.fuel + 1 = omega arith in
      let counts = numbered w r k library c env at (goes d) e in
      let inside = inside_after (goes d) e in
      let low = low_after (goes d) e in
      let holds = holds_after (goes d) e in
      keeps d counts inside low holds r.fuel places.batches le turn.0 (turn.1 (now_runs w r r.fuel d) (there d counts inside low holds r.fuel))

  loops_on : HasPlaces w (length w.nodes) → (d : Checkpoint) → advance library k r.depth env c ≡ loops d
      → KeepsSound w (moves_to r state.Running false (saturated (r.fuel + 1)) (part.Chain d))
  loops_on places d e =
      let turn : IsSoundTurn w r k (loops d) = loops_sound w r k library c env at d e in
      let le : saturated (r.fuel + 1) ≤ r.fuel + 1 = least (r.fuel + 1) (2 ^ 64 - 1) in
      let counts = numbered w r k library c env at (loops d) e in
      let inside = inside_after (loops d) e in
      let low = low_after (loops d) e in
      let holds = holds_after (loops d) e in
      keeps d counts inside low holds (saturated (r.fuel + 1)) places.batches le turn.0
      (turn.1 (now_runs w r (saturated (r.fuel + 1)) d) (there d counts inside low holds (saturated (r.fuel + 1))))
    where
      least : (n m : ℕ) → min n m ≤ n
      least n m = omega arith

pub turns_keep_sound : TurnsOfChainsKeepSound
turns_keep_sound w r k library c d env at places = (goes_on w r k library c env at places d, loops_on w r k library c env at places d)
