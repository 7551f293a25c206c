-- The turn of a work chain that goes on, or ends, lowers what is left by one.
use Rattle.std.proofs.Common.{◌≡◌, ◌≢◌, ℕ, zero, suc, ◌+◌, ◌-◌, true, false, List, [], ◌∷◌, ◌++◌, Option, Some, None, length, map, take, refl, sym, ap, subst, ◌∙◌, arith}
use Rattle.std.specs.Prelude.{All, option_map, option_and_then, slice_get}
use Rattle.std.proofs.lemmas.List.Elements.{All-filter, All-take}
use Rattle.wc_value.specs.declared.process.JobResult.{JobResult}
use Rattle.wc_value.specs.declared.process.ProcessState.{ProcessState}
use Rattle.wc_value.specs.declared.process.ProcessState.TheVariants as state
use Rattle.wc_value.specs.declared.process.Request.{Request}
use Rattle.wc_value.specs.declared.process.Tree.{Tree}
use Rattle.wc_syntax.specs.Findings.{definition_named}
use Rattle.wc_syntax.specs.declared.definition.Chain.{Chain}
use Rattle.wc_syntax.specs.declared.definition.Definition.{Definition}
use Rattle.wc_syntax.specs.declared.definition.Definition.TheVariants as definition
use Rattle.wc_syntax.specs.declared.definition.Port.{Port}
use Rattle.wc_semantics.specs.Rules.{unnumbered}
use Rattle.wc_semantics.specs.Run.{instrs}
use Rattle.wc_semantics.specs.Tables.{Label}
use Rattle.wc_state.specs.Checkpoint.{first}
use Rattle.wc_state.specs.declared.environment.Env.{Env}
use Rattle.wc_state.specs.declared.environment.Item.{Item}
use Rattle.wc_state.specs.declared.record.Checkpoint.{Checkpoint}
use Rattle.wc_state.specs.declared.record.Part.{Part}
use Rattle.wc_state.specs.declared.record.Part.TheVariants as part
use Rattle.wc_state.specs.declared.record.ProcessKind.TheVariants as kind
use Rattle.wc_state.specs.declared.record.ProcessRecord.{ProcessRecord}
use Rattle.wc_world.specs.declared.change.Change.{Change}
use Rattle.wc_world.specs.World.{World}
use Rattle.wc_world.specs.Applied.{applied, set}
use Rattle.wc_world.specs.Records.{has_ended, is_call_from}
use Rattle.wc_world.specs.Trees.{NamedValues, branches, context_of, environment_at, inputs_of, items_of, recorded_tree, values_alone}
use Rattle.wc_machine.specs.Advances.{Advanced, goes, loops, submits, ends, advance}
use Rattle.wc_machine.specs.Calls.{advanced, chain_set, judged}
use Rattle.wc_machine.specs.Outlines.{block_of, blocks, left}
use Rattle.wc_machine.specs.Paths.{call_links, kills}
use Rattle.wc_machine.specs.Recorded.{recorded_inputs}
use Rattle.wc_machine.specs.Rest.{as_call, awaited, bound_calls, bound_trees, env_alone, levels_of, progress_of, progress_with, without_number}
use Rattle.wc_machine.specs.Tasks.{saturated}
use Rattle.wc_machine.proofs.Frames.{branches_by}
use Rattle.wc_turn_laws.specs.Nodes.{HoldsAfter, NodesAre}
use Rattle.wc_turn_laws.specs.OutlineLaws.{KeepsCalls}
use Rattle.wc_turn_laws.specs.View.{View, context_in, env_in, progress_in, values_of}
use Rattle.wc_turn_laws.proofs.Numbering.{blocks_are}
use Rattle.wc_turn_laws.proofs.Passed.{advance_holds}
use Rattle.wc_soundness.specs.EndLaws.{EndsAlive}
use Rattle.wc_soundness.specs.Replaced.{set_to}
use Rattle.wc_soundness.specs.TrackLaws.{IsAtTurn}
use Rattle.wc_soundness.proofs.Alive.{advances_end_alive}
use Rattle.wc_soundness.proofs.ChainAdvances.{env_is, numbered}
use Rattle.wc_soundness.proofs.ChainStanding.{Standing, begins, runs, awaits_none, is_live, its_fit, keys_here, keys_there, outputs_data, stands_at, trees_stay}
use Rattle.wc_soundness.proofs.ChainSubmissions.{is_chain}
use Rattle.wc_soundness.proofs.EndedChains.{touched, may}
use Rattle.wc_soundness.proofs.OneSet.{at_checkpoint, found_now, goes_touch, kills_same, may_go, now_runs, went}
use Rattle.wc_soundness.proofs.Rests.{IsSeenAt}
use Rattle.wc_soundness.proofs.Returns.{applied_ending, ended_to, kept_is, kept_of}
use Rattle.wc_soundness.proofs.SeenWorlds.{IsData, IsRead, IsThere, items_there, nodes_read, read_is_data, seen_right, values_there, view_of}
use Rattle.wc_cost.specs.Advances.{cost_after, cost_on}
use Rattle.wc_cost.specs.Cost.{Costs, Tolls, cost, more, tolls}
use Rattle.wc_cost.specs.Left.{ChainOwes, FreshOwes, IsLeft, PartOwes, by_request, its_tolls}
use Rattle.wc_cost.specs.Turns.{AdvancesLower, LeavesLess, SubmitsNone}
use Rattle.wc_cost.proofs.CalculationsLowered.{not_killed, price_is}
use Rattle.wc_cost.proofs.CostAdvance.{advances_cost_one}
use Rattle.wc_cost.proofs.OneLowered.{lowered, owed_in}
use Rattle.wc_cost.proofs.Owing.{alive}

values_same : (es : NamedValues) → map unnumbered (values_alone es) ≡ map without_number es
values_same [] = refl
values_same (e ∷ es) = ap (λ (l : NamedValues). (e.0, record { node = 0; value = e.1.value }) ∷ l) (values_same es)

-- ---- what a chain owes that is seen at a checkpoint

module _ (results : Request → Option JobResult) (v w : World) (s : ProcessRecord) (k : Chain) (library : List Definition) (d : Checkpoint) (seen : IsSeenAt v w s k library d) where
  env_seen : environment_at v s.node ≡ Some (env_in (view_of w) (inputs_of w s.node) d.ctx)
  env_seen =
      ap (option_and_then (λ (r : ProcessRecord). option_map (λ ctx. record { inputs = inputs_of v s.node; ctx = ctx }) (items_of v (context_of r.part)))) seen.found
      ∙ ap (λ (p : Part). option_map (λ (ctx : List (List ℕ × Item)). record { inputs = inputs_of v s.node; ctx = ctx }) (items_of v (context_of p))) seen.part_there
      ∙ ap (option_map (λ (ctx : List (List ℕ × Item)). record { inputs = inputs_of v s.node; ctx = ctx })) seen.keys
      ∙ (λ i. Some (record { inputs = seen.given i; ctx = context_in (view_of w) d.ctx }))

  progress_seen : (o : Option (List (Label × Tree))) → bound_trees v s d ≡ o
      → progress_of v s d ≡ progress_with (Some (env_alone (env_in (view_of w) (inputs_of w s.node) d.ctx))) (Some (values_of (view_of w) d.outputs)) o
  progress_seen o h = λ i. progress_with (option_map env_alone (env_seen i)) (seen.outputs i) (h i)

  abbrev OwesBy : ℕ → Option (List (Label × Tree)) → Type 0
  OwesBy n o = ChainOwes results v s d (Some library) (Some (definition.Chain k)) (Some [])
      (progress_with (Some (env_alone (env_in (view_of w) (inputs_of w s.node) d.ctx))) (Some (values_of (view_of w) d.outputs)) o) n

  owes_is : (n : ℕ) (o : Option (List (Label × Tree))) → bound_trees v s d ≡ o → PartOwes results v s (part.Chain d) n ≡ OwesBy n o
  owes_is n o h = λ i. ChainOwes results v s d (seen.library_there i) (seen.definition i) (awaited v (seen.awaits i)) (progress_seen o h i) n

  abbrev pub CostsSeen : ℕ → List (Label × Tree) → Type 0
  CostsSeen n trees = Costs (its_tolls results v s library k) (left (blocks k.outline) d.frames) (progress_in (view_of w) (inputs_of w s.node) (map as_call trees) d) n

  pub owes_from : (n : ℕ) (trees : List (Label × Tree)) → bound_trees v s d ≡ Some trees → CostsSeen n trees → PartOwes results v s (part.Chain d) n
  owes_from n trees h costs = subst (λ (x : Type 0). x) (sym (owes_is n (Some trees) h)) costs

  pub owes_into : (n : ℕ) → PartOwes results v s (part.Chain d) n → (trees : List (Label × Tree)) × (bound_trees v s d ≡ Some trees) × CostsSeen n trees
  owes_into n owes = at (bound_trees v s d) refl
    where
      at : (o : Option (List (Label × Tree))) → bound_trees v s d ≡ o → (trees : List (Label × Tree)) × (bound_trees v s d ≡ Some trees) × CostsSeen n trees
      at None h = absurd (subst (λ (x : Type 0). x) (owes_is n None h) owes)
      at (Some trees) h = (trees, h, subst (λ (x : Type 0). x) (owes_is n (Some trees) h) owes)

one_more : (o : Option ℕ) (n : ℕ) → more 1 o ≡ Some n → (m : ℕ) × (o ≡ Some m) × (n ≡ m + 1)
one_more None n h = absurd (cc h)
one_more (Some m) n h = let e : 1 + m ≡ n = cc in (m, refl, omega (arith, e))

judged_alive : (w : World) (r : ProcessRecord) (ports : List Port) (s : ProcessState) (os : List (Label × ℕ)) → has_ended s ≡ true → s ≢ state.Killed
    → (has_ended (judged w r ports s os) ≡ true) × (judged w r ports s os ≢ state.Killed)
judged_alive w r ports state.Created os over lives = absurd (cc over)
judged_alive w r ports state.Running os over lives = absurd (cc over)
judged_alive w r ports state.Waiting os over lives = absurd (cc over)
judged_alive w r ports (state.Finished n) os over lives = (refl, λ e. cc e)
judged_alive w r ports (state.Excepted x) os over lives = (refl, λ e. cc e)
judged_alive w r ports state.Killed os over lives = absurd (lives refl)

-- ---- a chain at its turn

module _ (results : Request → Option JobResult) (w : World) (r : ProcessRecord) (k : Chain) (library : List Definition) (c : Checkpoint) (env : Env) (at : IsAtTurn w r k library c env) where
  abbrev view : View
  view = view_of w

  abbrev inputs : NamedValues
  inputs = inputs_of w r.node

  abbrev g : Tolls
  g = its_tolls results w r library k

  stands : Standing r c
  stands = stands_at r c at.stands

  live : has_ended r.state ≡ false
  live = is_live r c stands

  -- ---- before

  abbrev pub CostsAt : Checkpoint → ℕ → List (Label × Tree) → Type 0
  CostsAt d n trees = Costs g (left (blocks k.outline) d.frames) (progress_in view inputs (map as_call trees) d) n

  abbrev pub CostsHere : Checkpoint → ℕ → Type 0
  CostsHere d n = (trees : List (Label × Tree)) × (bound_trees w r d ≡ Some trees) × CostsAt d n trees

  named : definition_named r.definition library ≡ Some (definition.Chain k)
  named = ap (option_and_then (definition_named r.definition)) (sym at.library_there) ∙ at.definition

  head_is : left (blocks k.outline) first.frames ≡ instrs k.outline
  head_is = ap (λ bs. block_of (slice_get bs 0)) (blocks_are k.outline)

  costs_first : (n : ℕ) → PartOwes results w r part.Fresh n → CostsAt first n []
  costs_first n owes =
      let priced : FreshOwes results w r (Some library) n = subst (λ (o : Option (List Definition)). FreshOwes results w r o n) at.library_there owes in (
        priced.0,
        (λ i. cost g priced.0 (head_is i) (record { env = record { inputs = sym (values_same inputs) i; ctx = [] }; outputs = []; calls = [] }))
            ∙ sym (price_is (levels_of r) library results (kills w r.node) priced.0 r.definition (recorded_inputs w r.node) (definition.Chain k) (alive w r at.found live) named)
            ∙ priced.1,
      )

  pub costs_by : (d : Checkpoint) → Standing r d → (n : ℕ) → PartOwes results w r r.part n → CostsHere d n
  costs_by _ (begins a b) n owes = ([], refl, costs_first n (subst (λ (x : Part). PartOwes results w r x n) b owes))
  costs_by _ (runs d a b) n owes =
      owes_into results w w r k library d (record {
        found = at.found;
        definition = at.definition;
        library_there = at.library_there;
        part_there = b;
        awaits = awaits_none w at.sound r at.found d (runs d a b);
        given = refl;
        keys = items_there w w d.ctx (keys_here w at.sound r at.found d (runs d a b));
        outputs = values_there w w d.outputs (outputs_data w at.sound r at.found d (runs d a b));
      }) n (subst (λ (x : Part). PartOwes results w r x n) b owes)

  -- what is due after the advance is one less
  abbrev pub CostsAfter : Advanced → ℕ → Type 0
  CostsAfter x n = (trees : List (Label × Tree)) × (bound_trees w r c ≡ Some trees) × ((b : ℕ) × (m : ℕ) × (cost_after g k view inputs (map as_call trees) b x ≡ Some m) × (n ≡ m + 1))

  pub costs_after : (x : Advanced) → advance library k r.depth env c ≡ x → (n : ℕ) → CostsHere c n → CostsAfter x n
  costs_after x e n (trees, h, (zero, p)) = absurd (cc p)
  costs_after x e n (trees, h, (suc b, p)) =
      let law = advances_cost_one library k r.depth view inputs c (map as_call trees) (by_request results) (kills w r.node) b (seen_right w r.node) g refl in
      let to_x : cost_on g k view inputs (map as_call trees) (suc b) c ≡ more 1 (cost_after g k view inputs (map as_call trees) b x) =
      law ∙ ap (λ (y : Advanced). more 1 (cost_after g k view inputs (map as_call trees) b y))
      (ap (λ (z : Env). advance library k r.depth z c) (sym (env_is w r k library c env at)) ∙ e) in
      let one = one_more (cost_after g k view inputs (map as_call trees) b x) n (sym to_x ∙ p) in
      (trees, h, (b, one.0, one.1, one.2))

  -- ---- after

  module _ (fuel : ℕ) (d : Checkpoint) (counts : KeepsCalls c d)
      (keys : All (λ e. IsThere (went w r fuel d) w e.1) d.ctx) (values : All (λ o. IsData (went w r fuel d) w o.1) d.outputs) where
    abbrev v : World
    v = went w r fuel d

    abbrev s : ProcessRecord
    s = now_runs w r fuel d

    seen_now : IsSeenAt v w s k library d
    seen_now = record {
      found = found_now w r at.found live (its_fit w at.sound r at.found) fuel d;
      definition = at.definition;
      library_there = at.library_there;
      part_there = refl;
      awaits = counts.1 ∙ awaits_none w at.sound r at.found c stands;
      given = refl;
      keys = items_there v w d.ctx keys;
      outputs = values_there v w d.outputs values;
    }

    same_trees : bound_trees v s d ≡ bound_trees w r c
    same_trees =
        ap (λ (n : ℕ). branches (recorded_tree v) r.node (take n (call_links w r.node))) (λ i. counts.0 i - length (counts.1 i))
        ∙ branches_by (recorded_tree v) (recorded_tree w) r.node (take (bound_calls c) (call_links w r.node))
        (All-take (λ l. is_call_from r.node l ≡ true → recorded_tree v l.target ≡ recorded_tree w l.target) (bound_calls c) (call_links w r.node)
        (All-filter (is_call_from r.node) (λ l. is_call_from r.node l ≡ true → recorded_tree v l.target ≡ recorded_tree w l.target) w.links
        (trees_stay w at.sound r at.found live fuel d c stands)))

    owes_now : (n : ℕ) (trees : List (Label × Tree)) → bound_trees w r c ≡ Some trees → CostsAt d n trees → PartOwes results v s (part.Chain d) n
    owes_now n trees h costs =
        owes_from results v w s k library d seen_now n trees (same_trees ∙ h)
        (subst (λ (x : Type 0). x)
        (λ i. Costs (tolls (levels_of r) library (by_request results) (λ path. sym (kills_same w r at.found live (its_fit w at.sound r at.found) fuel d r.node path) i) k.head.outputs)
        (left (blocks k.outline) d.frames) (progress_in view inputs (map as_call trees) d) n) costs)

    went_less : (total m : ℕ) → IsLeft results w total → PartOwes results w r r.part (m + 1) → (trees : List (Label × Tree)) → bound_trees w r c ≡ Some trees → CostsAt d m trees
        → LeavesLess results r.node v total
    went_less total m rest was trees h costs =
        let fits = its_fit w at.sound r at.found in
        let e = lowered results w v r.node (set (w.batches + 1) (at_checkpoint r fuel d)) at.sound (goes_touch w r at.found live fits fuel d) (may_go w r at.found live fits fuel d) refl
        (λ x. refl) r at.found refl 1 m (owes_now m trees h costs) was total rest in
        let sum = e.2 in
        (e.0, e.1, omega (arith, sum), λ none. omega (arith, sum))

  holds : (fuel : ℕ) (d : Checkpoint) (x : Advanced) → advance library k r.depth env c ≡ x → HoldsAfter (IsRead w.nodes) (IsThere (went w r fuel d) w) (IsData w w) x
  holds fuel d x e = subst (HoldsAfter (IsRead w.nodes) (IsThere (went w r fuel d) w) (IsData w w)) e
      (advance_holds (IsRead w.nodes) (IsThere (went w r fuel d) w) (IsData w w) (λ y. refl) (read_is_data w) library k r.depth env c
      (subst (NodesAre (IsRead w.nodes)) (sym (env_is w r k library c env at)) (nodes_read w r.node c.ctx))
      (keys_there w at.sound r at.found live fuel d c stands, outputs_data w at.sound r at.found c stands))

  -- ---- an end

  ends_less : (total : ℕ) → IsLeft results w total → PartOwes results w r r.part 1 → (s : ProcessState) (os : List (Label × ℕ)) → advance library k r.depth env c ≡ ends s os
      → LeavesLess results r.node (applied w (advanced w r k.head.outputs (ends s os))) total
  ends_less total rest was s os e =
      let lives : EndsAlive (ends s os) = subst EndsAlive e (advances_end_alive library k r.depth env c) in
      let to : ProcessState = judged w r k.head.outputs s os in
      let good = judged_alive w r k.head.outputs s os lives.0 lives.1 in
      let chain : r.kind ≡ kind.Chain = is_chain w r k library c env at in
      let os' = kept_of s os in
      let l = lowered results w (ended_to w r to os') r.node (set (w.batches + 1) (set_to r to r.fuel part.Over)) at.sound
      (touched w r c at.sound at.found stands chain to os' good.0) (may w r c at.sound at.found stands chain to os' good.0) refl (λ x. refl) r at.found (not_killed to good.1)
      1 0 refl (let z : 1 ≡ 0 + 1 = omega arith in subst (PartOwes results w r r.part) z was) total rest in
      let sum = l.2 in
      let same : applied w (advanced w r k.head.outputs (ends s os)) ≡ ended_to w r to os' =
      ap (λ (cs : List Change). applied w (cs ++ chain_set w r to r.fuel part.Over ∷ [])) (kept_is w r s os) ∙ applied_ending w r to os' in
      subst (λ (v : World). LeavesLess results r.node v total) (sym same) (l.0, l.1, omega (arith, sum), λ none. omega (arith, sum))

  -- ---- an advance

  advance_less : (total n : ℕ) → IsLeft results w total → PartOwes results w r r.part n → (x : Advanced) → advance library k r.depth env c ≡ x → SubmitsNone x → CostsAfter x n
      → LeavesLess results r.node (applied w (advanced w r k.head.outputs x)) total
  advance_less total n rest was (goes d) e none (trees, h, (b, m, p, sum)) =
      let holds_then = holds r.fuel d (goes d) e in
      went_less r.fuel d (numbered w r k library c env at (goes d) e) holds_then.0 holds_then.1 total m rest (subst (PartOwes results w r r.part) sum was) trees h (b, p)
  advance_less total n rest was (loops d) e none (trees, h, (b, m, p, sum)) =
      let more_fuel : ℕ = saturated (r.fuel + 1) in
      let holds_then = holds more_fuel d (loops d) e in
      went_less more_fuel d (numbered w r k library c env at (loops d) e) holds_then.0 holds_then.1 total m rest (subst (PartOwes results w r r.part) sum was) trees h (b, p)
  advance_less total n rest was (submits d calls) e none costs = absurd none
  advance_less total n rest was (ends s os) e none (trees, h, (b, m, p, sum)) =
      let zero_is : 0 ≡ m = cc in
      let one : n ≡ 1 = omega (arith, sum, zero_is) in
      ends_less total rest (subst (PartOwes results w r r.part) one was) s os e

  -- each advance that submits no calls
  pub advance_lowers : (total : ℕ) → IsLeft results w total → (x : Advanced) → advance library k r.depth env c ≡ x → SubmitsNone x
      → LeavesLess results r.node (applied w (advanced w r k.head.outputs x)) total
  advance_lowers total rest x e none =
      let owed = owed_in results w r.node r w.records total rest at.found in
      advance_less total owed.0 rest owed.1 x e none (costs_after x e owed.0 (costs_by c stands owed.0 owed.1))

pub advances_lower : AdvancesLower
advances_lower results w r k library c env total at none rest = advance_lowers results w r k library c env at total rest (advance library k r.depth env c) refl none
