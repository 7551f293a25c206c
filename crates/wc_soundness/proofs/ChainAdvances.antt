-- A chain that goes on, with a turn of a loop or without, is on track.
use Rattle.std.proofs.Common.{◌≡◌, ℕ, zero, suc, ◌+◌, ◌-◌, ◌^◌, ◌≤◌, Bool, true, false, List, [], ◌∷◌, Option, Some, None, refl, sym, ap, subst, ◌∙◌, arith}
use Rattle.std.specs.Prelude.{◌==◌, ◌||◌, not, if◌then◌else◌, min, option_map, option_and_then}
use Rattle.wc_value.specs.declared.process.Tree.{Tree}
use Rattle.wc_syntax.specs.declared.definition.Chain.{Chain}
use Rattle.wc_syntax.specs.declared.definition.Definition.{Definition}
use Rattle.wc_state.specs.declared.environment.Env.{Env}
use Rattle.wc_state.specs.declared.environment.Item.{Item}
use Rattle.wc_state.specs.declared.record.Checkpoint.{Checkpoint}
use Rattle.wc_state.specs.declared.record.ProcessRecord.{ProcessRecord}
use Rattle.wc_semantics.specs.declared.progress.Answer.{Answer}
use Rattle.wc_semantics.specs.declared.progress.Answer.TheVariants.{Gave, TooLittle}
use Rattle.wc_semantics.specs.Meaning.{ended, around, within}
use Rattle.wc_semantics.specs.Run.{Around}
use Rattle.wc_semantics.specs.Tables.{Table, Kills}
use Rattle.wc_turn_laws.specs.Instead.{MadeCalls}
use Rattle.wc_world.specs.Records.{find_record, has_ended}
use Rattle.wc_world.specs.Trees.{inputs_of, items_of, context_of}
use Rattle.wc_world.specs.World.{World}
use Rattle.wc_machine.specs.Advances.{Advanced, goes, loops, advance}
use Rattle.wc_machine.specs.Rest.{levels_of, GivesTree, IsOnTrack}
use Rattle.wc_machine.specs.Sound.{is_awaited_in, fuel_in}
use Rattle.wc_machine.specs.Tasks.{saturated}
use Rattle.wc_turn_laws.specs.OutlineLaws.{remains, IsNumbered}
use Rattle.wc_turn_laws.specs.Nodes.{NodesAre, HoldsAfter}
use Rattle.wc_turn_laws.specs.View.{context_in, env_in}
use Rattle.wc_turn_laws.proofs.Counted.{advance_numbered}
use Rattle.wc_turn_laws.proofs.Exact.{advances_are_exact}
use Rattle.wc_turn_laws.proofs.Passed.{advance_holds}
use Rattle.wc_soundness.specs.TrackLaws.{IsAtTurn, ChainsStayOnTrack, LoopsStayOnTrack}
use Rattle.wc_soundness.proofs.OneSet.{went, now_runs, found_now}
use Rattle.wc_soundness.proofs.TrackOnTrack.{GoesOn, stays_on_track}
use Rattle.wc_soundness.proofs.Rests.{finishes}
use Rattle.wc_soundness.proofs.SeenWorlds.{view_of, IsRead, IsThere, IsData, items_there, nodes_read, seen_right, read_is_data}
use Rattle.wc_soundness.proofs.ChainStanding.{Standing, begins, runs, stands_at, is_live, its_fit, keys_here, keys_there, outputs_data}

module _ (w : World) (r : ProcessRecord) (k : Chain) (library : List Definition) (c : Checkpoint) (env : Env) (at : IsAtTurn w r k library c env) where
  stands : Standing r c
  stands = stands_at r c at.stands

  live : has_ended r.state ≡ false
  live = is_live r c stands

  -- ---- the environment is what is seen

  context_is : (c' : Checkpoint) → Standing r c' → context_of r.part ≡ c'.ctx
  context_is c' (begins a b) = ap context_of b
  context_is c' (runs x a b) = ap context_of b

  pub env_is : env ≡ env_in (view_of w) (inputs_of w r.node) c.ctx
  env_is =
      let with_items : option_map (λ (ctx : List (List ℕ × Item)). record { inputs = inputs_of w r.node; ctx = ctx }) (items_of w (context_of r.part)) ≡ Some env
      = sym (ap (option_and_then (λ (q : ProcessRecord). option_map (λ (ctx : List (List ℕ × Item)). record { inputs = inputs_of w r.node; ctx = ctx }) (items_of w (context_of q.part)))) at.found) ∙ at.environment in
      let items : items_of w (context_of r.part) ≡ Some (context_in (view_of w) c.ctx)
      = ap (items_of w) (context_is c stands) ∙ items_there w w c.ctx (keys_here w at.sound r at.found c stands) in
      some_same (sym with_items ∙ ap (option_map (λ (ctx : List (List ℕ × Item)). record { inputs = inputs_of w r.node; ctx = ctx })) items)
    where
      some_same : {x y : Env} → Some x ≡ Some y → x ≡ y
      some_same h = cc

  -- ---- one step of the run

  step_is : (x : Advanced) → advance library k r.depth env c ≡ x → (earlier : MadeCalls) (table : Table) (cuts : Kills) (stop : Option ℕ) (n : ℕ)
      → finishes w r k library earlier table cuts stop c n
      ≡ ended stop r.definition k.head.outputs (remains k (view_of w) (inputs_of w r.node) earlier (within k.head.outputs stop (around (levels_of r) library table cuts)) c x n)
  step_is x e earlier table cuts stop n =
      let a : Around = within k.head.outputs stop (around (levels_of r) library table cuts) in
      advances_are_exact library k r.depth (view_of w) (inputs_of w r.node) c earlier table cuts stop r.definition n (seen_right w r.node) a refl
      ∙ ap (λ (y : Advanced). ended stop r.definition k.head.outputs (remains k (view_of w) (inputs_of w r.node) earlier a c y n))
      (ap (λ (z : Env). advance library k r.depth z c) (sym env_is) ∙ e)

  pub numbered : (x : Advanced) → advance library k r.depth env c ≡ x → IsNumbered c x
  numbered x e = subst (IsNumbered c) e (advance_numbered library k r.depth env c)

  holds : (fuel : ℕ) (d : Checkpoint) (x : Advanced) → advance library k r.depth env c ≡ x → HoldsAfter (IsRead w.nodes) (IsThere (went w r fuel d) w) (IsData w w) x
  holds fuel d x e = subst (HoldsAfter (IsRead w.nodes) (IsThere (went w r fuel d) w) (IsData w w)) e
      (advance_holds (IsRead w.nodes) (IsThere (went w r fuel d) w) (IsData w w) (λ v. refl) (read_is_data w) library k r.depth env c
      (subst (NodesAre (IsRead w.nodes)) (sym env_is) (nodes_read w r.node c.ctx))
      (keys_there w at.sound r at.found live fuel d c stands, outputs_data w at.sound r at.found c stands))

  pub its_record : (fuel : ℕ) (d : Checkpoint) (s : ProcessRecord) → find_record r.node (went w r fuel d).records ≡ Some s → now_runs w r fuel d ≡ s
  its_record fuel d s h = let e : Some (now_runs w r fuel d) ≡ Some s = sym (found_now w r at.found live (its_fit w at.sound r at.found) fuel d) ∙ h in cc

  -- ---- on without a turn of a loop

  goes_on : (d : Checkpoint) → advance library k r.depth env c ≡ goes d → GoesOn w r k library c d 0
  goes_on d e = record {
    sound = at.sound;
    found = at.found;
    definition = at.definition;
    library_there = at.library_there;
    stands = stands;
    counts = numbered (goes d) e;
    exact = λ earlier table cuts stop n.
        let same : n + 0 ≡ n = omega arith in
        ap (finishes w r k library earlier table cuts stop c) same ∙ step_is (goes d) e earlier table cuts stop n;
    lower = λ earlier table cuts n t g. (n, subst (λ (x : Answer). GivesTree (Some x) t) (step_is (goes d) e earlier table cuts None n) g);
  }

  pub goes_on_track : (d : Checkpoint) → advance library k r.depth env c ≡ goes d → (s : ProcessRecord) → find_record r.node (went w r r.fuel d).records ≡ Some s
      → IsOnTrack (went w r r.fuel d) s
  goes_on_track d e s there =
      let h = holds r.fuel d (goes d) e in
      let sum : r.fuel ≡ r.fuel + 0 = omega arith in
      subst (IsOnTrack (went w r r.fuel d)) (its_record r.fuel d s there) (stays_on_track w r k library c d 0 (goes_on d e) r.fuel sum h.0 h.1)

  -- ---- a turn of a loop

  lower_loop : (d : Checkpoint) → advance library k r.depth env c ≡ loops d → (earlier : MadeCalls) (table : Table) (cuts : Kills) (n : ℕ) (t : Tree)
      → GivesTree (Some (finishes w r k library earlier table cuts None c n)) t → (m : ℕ) × GivesTree (Some (finishes w r k library earlier table cuts None d m)) t
  lower_loop d e earlier table cuts zero t g =
      let h = subst (λ (x : Answer). GivesTree (Some x) t) (step_is (loops d) e earlier table cuts None 0) g in
      absurd (let z : Some TooLittle ≡ Some (Gave h.0 h.1) = h.2 in cc)
  lower_loop d e earlier table cuts (suc n) t g = (n, subst (λ (x : Answer). GivesTree (Some x) t) (step_is (loops d) e earlier table cuts None (suc n)) g)

  loops_on : (d : Checkpoint) → advance library k r.depth env c ≡ loops d → GoesOn w r k library c d 1
  loops_on d e = record {
    sound = at.sound;
    found = at.found;
    definition = at.definition;
    library_there = at.library_there;
    stands = stands;
    counts = numbered (loops d) e;
    exact = λ earlier table cuts stop n.
        let same : n + 1 ≡ suc n = omega arith in
        ap (finishes w r k library earlier table cuts stop c) same ∙ step_is (loops d) e earlier table cuts stop (suc n);
    lower = lower_loop d e;
  }

  -- the fuel that is kept of a live process stays within bounds
  fuel_within : (all rs : List ProcessRecord) → find_record r.node rs ≡ Some r → suc r.fuel ≤ fuel_in all rs
  fuel_within all [] h = absurd (cc)
  fuel_within all (q ∷ qs) h = by (q.node == r.node) h (fuel_within all qs)
    where
      above : (b : Bool) → suc r.fuel ≤ fuel_in all qs → suc r.fuel ≤ (if b then suc q.fuel + fuel_in all qs else fuel_in all qs)
      above true le = omega (arith, le)
      above false le = le

      counted : q ≡ r → suc r.fuel ≤ (if not (has_ended q.state) || is_awaited_in all q.node then suc q.fuel + fuel_in all qs else fuel_in all qs)
      counted e = subst (λ (x : ProcessRecord). suc r.fuel ≤ (if not (has_ended x.state) || is_awaited_in all x.node then suc x.fuel + fuel_in all qs else fuel_in all qs)) (sym e)
          (subst (λ (b : Bool). suc r.fuel ≤ (if not b || is_awaited_in all r.node then suc r.fuel + fuel_in all qs else fuel_in all qs)) (sym live) (omega arith))

      by : (b : Bool) → (if b then Some q else find_record r.node qs) ≡ Some r → (find_record r.node qs ≡ Some r → suc r.fuel ≤ fuel_in all qs)
          → suc r.fuel ≤ (if not (has_ended q.state) || is_awaited_in all q.node then suc q.fuel + fuel_in all qs else fuel_in all qs)
      by true e rest = counted (let z : Some q ≡ Some r = e in cc)
      by false e rest = above (not (has_ended q.state) || is_awaited_in all q.node) (rest e)

  unsaturated : saturated (r.fuel + 1) ≡ r.fuel + 1
  unsaturated =
      let le : suc r.fuel ≤ fuel_in w.records w.records = fuel_within w.records w.records at.found in
      let few = at.sound.consistent.few in
      let batches = at.sound.consistent.batches in
      let bound = at.sound.fuel in
      let small : r.fuel + 1 ≤ 2 ^ 64 - 1 = omega (arith, le, few, batches, bound) in
      min_is small
    where
      min_is : {a b : ℕ} → a ≤ b → min a b ≡ a
      min_is h = omega (arith, h)

  pub loops_on_track : (d : Checkpoint) → advance library k r.depth env c ≡ loops d → (s : ProcessRecord)
      → find_record r.node (went w r (saturated (r.fuel + 1)) d).records ≡ Some s → IsOnTrack (went w r (saturated (r.fuel + 1)) d) s
  loops_on_track d e s there =
      let h = holds (saturated (r.fuel + 1)) d (loops d) e in
      subst (IsOnTrack (went w r (saturated (r.fuel + 1)) d)) (its_record (saturated (r.fuel + 1)) d s there)
      (stays_on_track w r k library c d 1 (loops_on d e) (saturated (r.fuel + 1)) unsaturated h.0 h.1)

pub chains_stay_on_track : ChainsStayOnTrack
chains_stay_on_track w r k library c d env at e s there = goes_on_track w r k library c env at d e s there

pub loops_stay_on_track : LoopsStayOnTrack
loops_stay_on_track w r k library c d env at e s there = loops_on_track w r k library c env at d e s there
