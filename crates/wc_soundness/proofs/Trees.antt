-- A chain that has ended has the tree that it means.
use Rattle.std.proofs.Common.{◌≡◌, ◌≢◌, ℕ, ◌+◌, ◌-◌, ◌≤◌, Bool, true, false, List, [], ◌∷◌, Option, Some, None, length, map, take, get_or, refl, sym, ap, subst, ◌∙◌, arith}
use Rattle.std.specs.Prelude.{All, IsSomeAnd, ◌==◌, ◌&&◌, ◌||◌, not, if◌then◌else◌, option_map, option_and_then}
use Rattle.std.proofs.lemmas.Bool.{and_parts, eqb-true}
use Rattle.std.proofs.lemmas.List.{take_all}
use Rattle.std.proofs.lemmas.List.Elements.{All-nil}
use Rattle.wc_value.specs.Ascending.{Ascends}
use Rattle.wc_value.specs.declared.process.ProcessState.{ProcessState}
use Rattle.wc_value.specs.declared.process.ProcessState.TheVariants as state
use Rattle.wc_value.specs.declared.process.Tree.{Tree, roll-Tree}
use Rattle.wc_value.specs.declared.value.Value.{Value}
use Rattle.wc_syntax.specs.declared.definition.Chain.{Chain}
use Rattle.wc_syntax.specs.declared.definition.Definition.{Definition}
use Rattle.wc_graph.specs.Rules.{node_of, IsData as IsDataKind}
use Rattle.wc_graph.specs.declared.link.Link.{Link}
use Rattle.wc_graph.specs.declared.node.NodeKind.{NodeKind}
use Rattle.wc_graph.specs.declared.node.NodeKind.TheVariants as node
use Rattle.wc_semantics.specs.Rules.{Values}
use Rattle.wc_state.specs.declared.environment.Env.{Env}
use Rattle.wc_state.specs.declared.record.Await.{Await}
use Rattle.wc_state.specs.declared.record.Checkpoint.{Checkpoint}
use Rattle.wc_state.specs.declared.record.Part.TheVariants as part
use Rattle.wc_state.specs.declared.record.ProcessKind.{ProcessKind}
use Rattle.wc_state.specs.declared.record.ProcessKind.TheVariants as kind
use Rattle.wc_state.specs.declared.record.ProcessRecord.{ProcessRecord}
use Rattle.wc_semantics.specs.declared.progress.Answer.{Answer}
use Rattle.wc_semantics.specs.declared.progress.Answer.TheVariants.{Gave}
use Rattle.wc_semantics.specs.declared.progress.Progress.{Progress}
use Rattle.wc_semantics.specs.Meaning as meaning
use Rattle.wc_semantics.specs.Meaning.{ended, around, within, chain_tree, its_tree}
use Rattle.wc_semantics.specs.Run.{Around}
use Rattle.wc_semantics.specs.Tables.{Label, Table, Kills}
use Rattle.wc_turn_laws.specs.Instead.{MadeCalls}
use Rattle.wc_soundness.proofs.Touched.{meant_kept, tables_narrow, untouched}
use Rattle.wc_world.specs.World.{World}
use Rattle.wc_world.specs.Consistent.{Stands}
use Rattle.wc_world.specs.Fits.{calls_from, counted_calls, has_output, is_of_kind}
use Rattle.wc_world.specs.Records.{find_record, has_ended, is_call_from, same_kind}
use Rattle.wc_world.specs.Trees.{Branch, branches, data_of, inputs_of, outputs_of, recorded_tree, tree_with, tree_within, values_alone}
use Rattle.wc_world.proofs.FoundRecords.{found_holds}
use Rattle.wc_machine.specs.Advances.{Advanced, ends, advance}
use Rattle.wc_machine.specs.Agreement.{Agrees}
use Rattle.wc_machine.specs.Calls.{judged}
use Rattle.wc_machine.specs.Paths.{call_links, cut_after, kills}
use Rattle.wc_machine.specs.Rest.{as_call, bound_calls, bound_trees, env_alone, levels_of, meant, part_rest, rest, FitKills, GivesTree, IsOnTrack}
use Rattle.wc_machine.specs.Sound.{IsMeant, IsSound, OutputsAscend}
use Rattle.wc_machine.proofs.AcceptedEnds.{live_without_output}
use Rattle.wc_machine.proofs.Frames.{branches_before, branches_by, no_call_from}
use Rattle.wc_machine.proofs.Untouched.{tree_stays}
use Rattle.wc_turn_laws.specs.OutlineLaws.{AreOrdered, remains}
use Rattle.wc_turn_laws.specs.Nodes.{HoldsAfter, NodesAre}
use Rattle.wc_turn_laws.specs.View.{env_in, values_of}
use Rattle.wc_turn_laws.proofs.Exact.{advances_are_exact}
use Rattle.wc_turn_laws.proofs.Ordered.{none_ascends, advances_keep_order}
use Rattle.wc_turn_laws.proofs.Passed.{advance_holds}
use Rattle.wc_soundness.proofs.KillChildren.{IsOver}
use Rattle.wc_soundness.proofs.KilledStanding.{branches_filtered, branches_there, counted}
use Rattle.wc_soundness.specs.TrackLaws.{IsAtTurn}
use Rattle.wc_soundness.proofs.ChainAdvances.{env_is}
use Rattle.wc_soundness.proofs.Beginning.{into_meant}
use Rattle.wc_soundness.proofs.Rests.{finishes, IsSeenAt, rest_is}
use Rattle.wc_soundness.proofs.SeenWorlds.{view_of, IsData, IsRead, IsThere, items_there, nodes_read, read_is_data, seen_right, values_there}
use Rattle.wc_soundness.proofs.ChainStanding.{Standing, awaits_none, begins, is_live, its_fit, its_stand, keys_here, outputs_data, runs, stands_at}
use Rattle.wc_soundness.specs.EndLaws.{EndsAlive}
use Rattle.wc_soundness.proofs.EndAccepted.{IsDataNode}
use Rattle.wc_soundness.proofs.Alive.{advances_end_alive}
use Rattle.wc_soundness.proofs.EndedChains.{calls_over, may, same_kills, there, touched, v, y}
use Rattle.wc_soundness.proofs.Levels.{called_stable}
use Rattle.wc_soundness.proofs.ChainOutputs.{judged_over, judged_same, judged_uncut, kept_same, outputs_returned}
use Rattle.wc_soundness.proofs.Returns.{kept_of, return_links, returns_no_call}

data_kind : (o : Option NodeKind) (x : Value) → option_and_then data_of o ≡ Some x → IsSomeAnd o IsDataKind
data_kind None x h = absurd (cc h)
data_kind (Some (node.Data z)) x h = tt
data_kind (Some node.Calculation) x h = absurd (cc h)
data_kind (Some node.Workflow) x h = absurd (cc h)

kept_all : (P : Label × ℕ → Type 0) (s : ProcessState) (os : List (Label × ℕ)) → All P os → All P (kept_of s os)
kept_all P state.Created os h = All-nil P
kept_all P state.Running os h = All-nil P
kept_all P state.Waiting os h = All-nil P
kept_all P (state.Finished n) os h = h
kept_all P (state.Excepted reason) os h = All-nil P
kept_all P state.Killed os h = All-nil P

kept_ascends : (s : ProcessState) (os : List (Label × ℕ)) → Ascends os → Ascends (kept_of s os)
kept_ascends state.Created os h = none_ascends ℕ
kept_ascends state.Running os h = none_ascends ℕ
kept_ascends state.Waiting os h = none_ascends ℕ
kept_ascends (state.Finished n) os h = h
kept_ascends (state.Excepted reason) os h = none_ascends ℕ
kept_ascends state.Killed os h = none_ascends ℕ

trees_again : (bs : List (Label × Tree)) → map its_tree (map as_call bs) ≡ bs
trees_again [] = refl
trees_again (b ∷ bs) = ap (λ (l : List (Label × Tree)). b ∷ l) (trees_again bs)

chain_kind : (k : ProcessKind) → same_kind kind.Chain k ≡ true → k ≡ kind.Chain
chain_kind kind.Function h = absurd (cc h)
chain_kind kind.Job h = absurd (cc h)
chain_kind kind.Chain h = refl

module _ (w : World) (r : ProcessRecord) (k : Chain) (library : List Definition) (c : Checkpoint) (env : Env) (at : IsAtTurn w r k library c env) (s : ProcessState)
    (outputs : List (Label × ℕ)) (is : advance library k r.depth env c ≡ ends s outputs) where
  pub stands : Standing r c
  stands = stands_at r c at.stands

  abbrev sound : IsSound w
  sound = at.sound

  abbrev found : find_record r.node w.records ≡ Some r
  found = at.found

  pub live : has_ended r.state ≡ false
  live = is_live r c stands

  standing : Stands w r
  standing = its_stand w sound r found

  pub is_chain : r.kind ≡ kind.Chain
  is_chain = chain_kind r.kind (ap (is_of_kind r.kind) (sym at.definition) ∙ standing.defined)

  -- ---- its end

  -- the state in which it ends, and the outputs that it returns
  abbrev pub last : ProcessState
  last = judged w r k.head.outputs s outputs

  abbrev pub given : List (Label × ℕ)
  given = kept_of s outputs

  alive : (has_ended s ≡ true) × (s ≢ state.Killed)
  alive = subst EndsAlive is (advances_end_alive library k r.depth env c)

  pub over : has_ended last ≡ true
  over = judged_over w r k.head.outputs s outputs alive.0

  uncut : meaning.is_killed last ≡ false
  uncut = judged_uncut w r k.head.outputs s outputs alive.1

  outputs_ascend : (c' : Checkpoint) → Standing r c' → Ascends c'.outputs
  outputs_ascend c' (begins a b) = none_ascends ℕ
  outputs_ascend c' (runs x a b) = subst OutputsAscend b (its_fit w sound r found).outputs

  pub given_ascend : Ascends given
  given_ascend = kept_ascends s outputs (subst AreOrdered is (advances_keep_order library k r.depth env c (outputs_ascend c stands)))

  all_data : All (λ o. IsData w w o.1) outputs
  all_data = subst (HoldsAfter (IsRead w.nodes) (IsThere w w) (IsData w w)) is
      (advance_holds (IsRead w.nodes) (IsThere w w) (IsData w w) (λ x. refl) (read_is_data w) library k r.depth env c
      (subst (NodesAre (IsRead w.nodes)) (sym (env_is w r k library c env at)) (nodes_read w r.node c.ctx))
      (keys_here w sound r found c stands, outputs_data w sound r found c stands))

  given_data : All (λ o. IsData w w o.1) given
  given_data = kept_all (λ o. IsData w w o.1) s outputs all_data

  pub given_nodes : All (IsDataNode w.nodes) given
  given_nodes = λ i d lt. data_kind (node_of w.nodes (get_or given i d).1) ((view_of w).value (get_or given i d).1) (given_data i d lt)

  -- ---- the world after

  abbrev after : World
  after = v w r c sound found stands is_chain last given over

  abbrev now : ProcessRecord
  now = y w r c sound found stands is_chain last given over

  its_calls : All (λ l. is_call_from r.node l ≡ true → IsOver w l.target) w.links
  its_calls = calls_over w r c sound found stands is_chain last given over

  -- ---- the trees of its calls

  trees : (bs : List Branch) × (branches (recorded_tree w) r.node w.links ≡ Some bs)
  trees = branches_there w sound r.node w.links its_calls

  number_by : (c' : Checkpoint) → Standing r c' → counted_calls r.part ≡ c'.calls
  number_by _ (begins a b) = ap counted_calls b
  number_by _ (runs x a b) = ap counted_calls b

  many : length (call_links w r.node) ≡ c.calls
  many =
      let parts = and_parts (not (has_output r.node w.links)) (calls_from r.node w.links == counted_calls r.part)
      (ap (λ (b : Bool). b || (not (has_output r.node w.links) && (calls_from r.node w.links == counted_calls r.part))) (sym live) ∙ standing.settled) in
      counted r.node w.links ∙ eqb-true (calls_from r.node w.links) (counted_calls r.part) parts.1 ∙ number_by c stands

  all_bound : take (bound_calls c) (call_links w r.node) ≡ call_links w r.node
  all_bound =
      let none : length c.awaiting ≡ 0 = ap (λ (l : List Await). length l) (awaits_none w sound r found c stands) in
      let count : length (call_links w r.node) ≡ c.calls = many in
      let le : length (call_links w r.node) ≤ c.calls - length c.awaiting = omega (arith, none, count) in
      take_all (bound_calls c) (call_links w r.node) le

  bound_are : bound_trees w r c ≡ Some trees.0
  bound_are = ap (branches (recorded_tree w) r.node) all_bound ∙ branches_filtered (recorded_tree w) r.node w.links ∙ trees.1

  trees_then : branches (tree_within 15 after) r.node after.links ≡ Some trees.0
  trees_then =
      branches_before (tree_within 15 after) r.node w.links (return_links r.node given) (no_call_from r.node (return_links r.node given) (returns_no_call r.node given))
      ∙ branches_by (tree_within 15 after) (recorded_tree w) r.node w.links
      (λ i d lt called.
      let l : Link = get_or w.links i d in
      tree_stays w after (IsOver w) (untouched w after r.node sound (touched w r c sound found stands is_chain last given over) (may w r c sound found stands is_chain last given over))
      15 l.target (its_calls i d lt called)
      ∙ called_stable w sound.consistent r found i d lt called)
      ∙ trees.1

  -- ---- its tree

  abbrev its_values : Values
  its_values = values_of (view_of w) given

  abbrev tree : Tree
  tree = roll-Tree (record { definition = r.definition; state = last; outputs = its_values; calls = trees.0 })

  recorded : recorded_tree after r.node ≡ Some tree
  recorded =
      ap (option_and_then (λ x. option_map (tree_with x (values_alone (outputs_of after r.node))) (branches (tree_within 15 after) r.node after.links)))
      (there w r c sound found stands is_chain last given over)
      ∙ (λ i. option_map (tree_with now (outputs_returned w.nodes w.links r.node (view_of w) given given_data given_ascend (live_without_output w r standing live) i)) (trees_then i))

  -- ---- the run comes to it

  abbrev progress : MadeCalls → Progress
  progress earlier = record { env = env_alone (env_in (view_of w) (inputs_of w r.node) c.ctx); outputs = values_of (view_of w) outputs; calls = earlier }

  comes_to : (earlier : MadeCalls) (table : Table) (cuts : Kills) (n : ℕ) → finishes w r k library earlier table cuts None c n
      ≡ Gave (chain_tree r.definition (meaning.judged k.head.outputs s (values_of (view_of w) outputs)) (progress earlier)) n
  comes_to earlier table cuts n =
      let a : Around = within k.head.outputs None (around (levels_of r) library table cuts) in
      advances_are_exact library k r.depth (view_of w) (inputs_of w r.node) c earlier table cuts None r.definition n (seen_right w r.node) a refl
      ∙ ap (λ (x : Advanced). ended None r.definition k.head.outputs (remains k (view_of w) (inputs_of w r.node) earlier a c x n))
      (ap (λ (z : Env). advance library k r.depth z c) (sym (env_is w r k library c env at)) ∙ is)

  same_tree : (chain_tree r.definition (meaning.judged k.head.outputs s (values_of (view_of w) outputs)) (progress (map as_call trees.0))).tree ≡ tree
  same_tree = λ i. roll-Tree (record {
    definition = r.definition;
    state = judged_same w r (view_of w) k.head.outputs s outputs i;
    outputs = kept_same (view_of w) k.head.outputs s outputs i;
    calls = trees_again trees.0 i;
  })

  finished : (table : Table) (cuts : Kills) → GivesTree (Some (finishes w r k library (map as_call trees.0) table cuts None c 0)) tree
  finished table cuts = (
    chain_tree r.definition (meaning.judged k.head.outputs s (values_of (view_of w) outputs)) (progress (map as_call trees.0)),
    0,
    ap (λ (x : Answer). Some x) (comes_to (map as_call trees.0) table cuts 0),
    same_tree,
  )

  seen_here : r.part ≡ part.Chain c → IsSeenAt w w r k library c
  seen_here p = record {
    found = found;
    definition = at.definition;
    library_there = at.library_there;
    part_there = p;
    awaits = awaits_none w sound r found c stands;
    given = refl;
    keys = items_there w w c.ctx (keys_here w sound r found c stands);
    outputs = values_there w w c.outputs (outputs_data w sound r found c stands);
  }

  remained : (table : Table) (cuts : Kills) → cuts [] ≡ None → (c' : Checkpoint) → Standing r c' → c' ≡ c → GivesTree (rest w table cuts None 0 r) tree
  remained table cuts alone c' (begins a b) e =
      let none : trees.0 ≡ [] = empty (subst (λ (x : Checkpoint). bound_trees w r x ≡ Some trees.0) (sym e) bound_are) in
      subst (λ (x : Option Answer). GivesTree x tree) (sym (ap (part_rest w table cuts None 0 r) b))
      (into_meant w r k library at.definition at.library_there table cuts alone None 0 tree
      (subst (λ (x : Checkpoint). GivesTree (Some (finishes w r k library [] table cuts None x 0)) tree) (sym e)
      (subst (λ (ts : List (Label × Tree)). GivesTree (Some (finishes w r k library (map as_call ts) table cuts None c 0)) tree) none (finished table cuts))))
    where
      empty : Some [] ≡ Some trees.0 → trees.0 ≡ []
      empty h = cc
  remained table cuts alone c' (runs x a b) e =
      subst (λ (x : Option Answer). GivesTree x tree)
      (sym (rest_is w w r k library c (seen_here (b ∙ ap part.Chain e)) table cuts None 0 trees.0 bound_are)) (finished table cuts)

  -- ---- it is meant

  fit_kills : FitKills (kills after r.node) w r
  fit_kills = record {
    alive = ap (option_and_then (cut_after after)) (there w r c sound found stands is_chain last given over)
        ∙ ap (λ (b : Bool). if b then Some (calls_from r.node after.links) else None) uncut;
    bound = λ label path b. same_kills w r c sound found stands is_chain last given over label path;
  }

  track : IsOnTrack w r
  track = found_holds (λ x. has_ended x.state ≡ false → IsOnTrack w x) r.node w.records r sound.live found live

  pub is_meant : IsMeant after now
  is_meant table agrees =
      let before : Agrees table w r.node = tables_narrow w after r.node sound (touched w r c sound found stands is_chain last given over)
      (may w r c sound found stands is_chain last given over) r found table agrees in
      let gives : GivesTree (meant w r table (kills after r.node) (0 + r.fuel)) tree
      = track.onward table (kills after r.node) before fit_kills 0 None tree (remained table (kills after r.node) fit_kills.alive c stands refl) in
      let sum : 0 + r.fuel ≡ r.fuel = omega arith in
      let same : meant after r table (kills after r.node) r.fuel ≡ meant w r table (kills after r.node) r.fuel
      = meant_kept w after r.node sound (touched w r c sound found stands is_chain last given over) (may w r c sound found stands is_chain last given over) r found table
      (kills after r.node) r.fuel in (
        tree,
        recorded,
        subst (λ (x : Option Answer). GivesTree x tree) (sym same) (subst (λ (n : ℕ). GivesTree (meant w r table (kills after r.node) n) tree) sum gives),
      )
