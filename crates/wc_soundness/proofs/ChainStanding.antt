-- Where a chain stands that is created or runs, and what stays of what it called.
use Rattle.std.proofs.Common.{inl, inr, ◌≡◌, ℕ, Bool, true, false, List, [], ◌∷◌, Option, Some, None, get_or, refl, sym, ap, subst, ◌∙◌}
use Rattle.std.specs.Prelude.{◌≢◌, ◌==◌, ◌&&◌, not, All, option_map, option_and_then}
use Rattle.std.specs.List.{list_any, list_all}
use Rattle.std.proofs.lemmas.List.Elements.{All-nil, All-cons, All-weaker}
use Rattle.wc_value.specs.declared.process.ProcessState.{ProcessState}
use Rattle.wc_value.specs.declared.process.ProcessState.TheVariants as state
use Rattle.wc_graph.specs.declared.link.Link.{Link}
use Rattle.wc_state.specs.Checkpoint.{first}
use Rattle.wc_state.specs.declared.context.CtxRef.{CtxRef}
use Rattle.wc_state.specs.declared.context.CtxRef.TheVariants as held
use Rattle.wc_state.specs.declared.environment.Child.{Child}
use Rattle.wc_state.specs.declared.environment.Item.TheVariants as item
use Rattle.wc_state.specs.declared.record.Await.{Await}
use Rattle.wc_state.specs.declared.record.Checkpoint.{Checkpoint}
use Rattle.wc_state.specs.declared.record.Part.{Part}
use Rattle.wc_state.specs.declared.record.Part.TheVariants as part
use Rattle.wc_state.specs.declared.record.ProcessKind.{ProcessKind}
use Rattle.wc_state.specs.declared.record.ProcessKind.TheVariants as kind
use Rattle.wc_state.specs.declared.record.ProcessRecord.{ProcessRecord}
use Rattle.wc_semantics.specs.Tables.{Label}
use Rattle.wc_world.specs.Consistent.{Stands}
use Rattle.wc_world.specs.Fits.{is_nil, chain_runs, part_fits, frame_fits, outline_lengths, held_fits, is_data_node, checkpoint_fits, standing_fits}
use Rattle.wc_world.specs.Records.{find_record, has_ended, has_called, is_call_from}
use Rattle.wc_world.specs.Trees.{values_alone, outputs_of, branches, tree_with, tree_within, child_at, recorded_tree}
use Rattle.wc_world.specs.World.{World}
use Rattle.wc_world.proofs.FoundRecords.{found_holds}
use Rattle.wc_world.proofs.ReachedLists.{found_node}
use Rattle.wc_graph.specs.Rules.{node_of}
use Rattle.wc_machine.specs.Recorded.{its_definition}
use Rattle.wc_machine.specs.Rest.{is_awaited}
use Rattle.wc_machine.specs.Sound.{IsSound, IsFitting, CallsAreKept, IsEndedCall, HoldsEnded, NamesKnown}
use Rattle.wc_machine.specs.Turns.{StandsAt}
use Rattle.wc_machine.proofs.EndedTrees.{call_is_called}
use Rattle.wc_soundness.proofs.Touched.{ended_stay}
use Rattle.wc_soundness.proofs.OneSet.{went, found_other, goes_touch, may_go}
use Rattle.wc_soundness.proofs.SeenWorlds.{view_of, IsThere, IsData, child_there, children_there, data_there}

-- a chain is created, at the head of its outline; or it runs, awaiting nothing
pub data Standing (r : ProcessRecord) : Checkpoint → Type 0 where
  begins : r.state ≡ state.Created → r.part ≡ part.Fresh → Standing r first
  runs : (c : Checkpoint) → r.state ≡ state.Running → r.part ≡ part.Chain c → Standing r c

standing_by : (r : ProcessRecord) (s : ProcessState) (p : Part) (c : Checkpoint) → r.state ≡ s → r.part ≡ p → StandsAt s p c → Standing r c
standing_by r state.Created part.Fresh c a b h = subst (Standing r) (sym h) (begins a b)
standing_by r state.Created (part.Chain d) c a b h = absurd h
standing_by r state.Created (part.Job j) c a b h = absurd h
standing_by r state.Created part.Over c a b h = absurd h
standing_by r state.Running part.Fresh c a b h = absurd h
standing_by r state.Running (part.Chain d) c a b h = runs c a (b ∙ ap part.Chain (sym h))
standing_by r state.Running (part.Job j) c a b h = absurd h
standing_by r state.Running part.Over c a b h = absurd h
standing_by r state.Waiting p c a b h = absurd h
standing_by r (state.Finished n) p c a b h = absurd h
standing_by r (state.Excepted q) p c a b h = absurd h
standing_by r state.Killed p c a b h = absurd h

pub stands_at : (r : ProcessRecord) (c : Checkpoint) → StandsAt r.state r.part c → Standing r c
stands_at r c h = standing_by r r.state r.part c refl refl h

pub is_live : (r : ProcessRecord) (c : Checkpoint) → Standing r c → has_ended r.state ≡ false
is_live r _ (begins a b) = ap has_ended a
is_live r _ (runs c a b) = ap has_ended a

runs_awaits : (k : ProcessKind) (c : Checkpoint) → chain_runs k (part.Chain c) ≡ true → c.awaiting ≡ []
runs_awaits kind.Function c h = absurd (cc)
runs_awaits kind.Job c h = absurd (cc)
runs_awaits kind.Chain c h = by c.awaiting h
  where
    by : (xs : List Await) → is_nil xs ≡ true → xs ≡ []
    by [] h = refl
    by (x ∷ xs) h = absurd (cc)

no_tree : (u : World) (pid : ℕ) → find_record pid u.records ≡ None → recorded_tree u pid ≡ None
no_tree u pid h = ap (option_and_then (λ (x : ProcessRecord). option_map (tree_with x (values_alone (outputs_of u pid))) (branches (tree_within 15 u) pid u.links))) h

pub both_true : (a b : Bool) → a && b ≡ true → (a ≡ true) × (b ≡ true)
both_true true b h = (refl, h)
both_true false b h = absurd (cc)

module _ (w : World) (sound : IsSound w) (r : ProcessRecord) (found : find_record r.node w.records ≡ Some r) where
  pub its_stand : Stands w r
  its_stand = found_holds (Stands w) r.node w.records r sound.consistent.records found

  pub its_fit : IsFitting w r
  its_fit = found_holds (IsFitting w) r.node w.records r sound.records found

  pub awaits_none : (c : Checkpoint) → Standing r c → c.awaiting ≡ []
  awaits_none _ (begins a b) = refl
  awaits_none _ (runs c a b) = runs_awaits r.kind c ((λ i. part_fits r.kind (sym a i) (sym b i)) ∙ its_stand.part)

  pub none_awaited : (c : Checkpoint) → Standing r c → (q : ℕ) → is_awaited r.part q ≡ false
  none_awaited _ (begins a b) q = ap (λ (p : Part). is_awaited p q) b
  none_awaited _ (runs c a b) q = ap (λ (p : Part). is_awaited p q) b ∙ ap (λ (xs : List Await). list_any (λ x. x.pid == q) xs) (awaits_none c (runs c a b))

  -- what it called has ended
  pub called_ended : (c : Checkpoint) → Standing r c → (q : ProcessRecord) → find_record q.node w.records ≡ Some q → has_called w.links r.node q.node ≡ true → has_ended q.state ≡ true
  called_ended c at q there called = elim (found_holds (CallsAreKept w) r.node w.records r sound.calls found q there called) [
    | inl h ↦ h
    | inr h ↦ let none : is_awaited r.part q.node ≡ false = none_awaited c at q.node in absurd (cc (none, h.1))
  ]

  -- ---- what its keys hold, and the nodes of its outputs

  pub holds_found : (c : Checkpoint) → Standing r c → All (λ e. HoldsEnded w r e.1) c.ctx
  holds_found _ (begins a b) = All-nil (λ (e : List ℕ × CtxRef). HoldsEnded w r e.1)
  holds_found _ (runs c a b) = (subst (NamesKnown w r) b (found_holds (λ x. NamesKnown w x x.part) r.node w.records r sound.names found)).0

  data_of : (c : Checkpoint) → checkpoint_fits w r c ≡ true → list_all (λ o. is_data_node (node_of w.nodes o.1)) c.outputs ≡ true
  data_of c h =
      (both_true (list_all (λ e. held_fits w.records e.1) c.ctx) (list_all (λ o. is_data_node (node_of w.nodes o.1)) c.outputs)
      (both_true (list_all (λ a. has_called w.links r.node a.pid) c.awaiting) _
      (both_true (list_all (frame_fits (outline_lengths (its_definition w r))) c.frames) _ (both_true (not (is_nil c.frames)) _ h).1).1).1).1

  each_data : (os : List (Label × ℕ)) → list_all (λ o. is_data_node (node_of w.nodes o.1)) os ≡ true → All (λ o. IsData w w o.1) os
  each_data [] h = All-nil (λ (o : Label × ℕ). IsData w w o.1)
  each_data (o ∷ os) h = let b = both_true (is_data_node (node_of w.nodes o.1)) (list_all (λ x. is_data_node (node_of w.nodes x.1)) os) h in
      All-cons (λ (x : Label × ℕ). IsData w w x.1) o os (data_there w o.1 b.0) (each_data os b.1)

  pub outputs_data : (c : Checkpoint) → Standing r c → All (λ o. IsData w w o.1) c.outputs
  outputs_data _ (begins a b) = All-nil (λ (o : Label × ℕ). IsData w w o.1)
  outputs_data _ (runs c a b) = each_data c.outputs (data_of c (ap (standing_fits w r) (sym b) ∙ its_stand.standing))

  key_by : (u : World) → ((pid : ℕ) → IsEndedCall w r pid → child_at u pid ≡ Some ((view_of w).child pid)) → (h : CtxRef) → HoldsEnded w r h → IsThere u w h
  key_by u there (held.Plain x) h = refl
  key_by u there (held.One pid) h = ap (option_map (λ (c : Child). item.One c)) (there pid h)
  key_by u there (held.Many pids) h = ap (option_map (λ (cs : List Child). item.Many cs))
      (children_there u w pids (All-weaker (IsEndedCall w r) (λ pid. child_at u pid ≡ Some ((view_of w).child pid)) there pids h))

  keys_by : (u : World) → ((pid : ℕ) → IsEndedCall w r pid → child_at u pid ≡ Some ((view_of w).child pid)) → (c : Checkpoint) → Standing r c → All (λ e. IsThere u w e.1) c.ctx
  keys_by u there c at = All-weaker (λ (e : List ℕ × CtxRef). HoldsEnded w r e.1) (λ e. IsThere u w e.1) (λ e h. key_by u there e.1 h) c.ctx (holds_found c at)

  pub keys_here : (c : Checkpoint) → Standing r c → All (λ e. IsThere w w e.1) c.ctx
  keys_here c at = keys_by w (λ pid h. child_there w pid h.1.0 h.1.1) c at

  -- ---- after it goes on

  module _ (live : has_ended r.state ≡ false) (fuel : ℕ) (d : Checkpoint) where
    abbrev v : World
    v = went w r fuel d

    pub apart : (q : ProcessRecord) → find_record q.node w.records ≡ Some q → has_ended q.state ≡ true → r.node ≢ q.node
    apart q there over e =
        let same : Some r ≡ Some q = sym found ∙ ap (λ (n : ℕ). find_record n w.records) e ∙ there in
        let one : r ≡ q = cc in
        let bad : true ≡ false = sym over ∙ ap (λ (x : ProcessRecord). has_ended x.state) (sym one) ∙ live in absurd (cc)

    child_stays : (pid : ℕ) → IsEndedCall w r pid → child_at v pid ≡ Some ((view_of w).child pid)
    child_stays pid h =
        let q : ProcessRecord = h.1.0 in
        let number : q.node ≡ pid = found_node pid w.records q h.1.1 in
        let itself : find_record q.node w.records ≡ Some q = ap (λ (n : ℕ). find_record n w.records) number ∙ h.1.1 in
        let ne : r.node ≢ pid = λ e. apart q itself h.1.2 (e ∙ sym number) in
        ap (option_map (λ (x : ProcessRecord). record { node = pid; state = x.state; outputs = outputs_of w pid })) (found_other w r found live its_fit fuel d pid ne)
        ∙ child_there w pid q h.1.1

    pub keys_there : (c : Checkpoint) → Standing r c → All (λ e. IsThere v w e.1) c.ctx
    keys_there c at = keys_by v child_stays c at

    -- the trees of what it called stay
    tree_of_call : (c : Checkpoint) → Standing r c → (pid : ℕ) → has_called w.links r.node pid ≡ true → (o : Option ProcessRecord) → find_record pid w.records ≡ o
        → recorded_tree v pid ≡ recorded_tree w pid
    tree_of_call c at pid called None is =
        let ne : r.node ≢ pid = λ e. let some : Some r ≡ None = sym found ∙ ap (λ (n : ℕ). find_record n w.records) e ∙ is in absurd (cc) in
        no_tree v pid (found_other w r found live its_fit fuel d pid ne ∙ is) ∙ sym (no_tree w pid is)
    tree_of_call c at pid called (Some q) is =
        let number : q.node ≡ pid = found_node pid w.records q is in
        let itself : find_record q.node w.records ≡ Some q = ap (λ (n : ℕ). find_record n w.records) number ∙ is in
        let over : has_ended q.state ≡ true = called_ended c at q itself (ap (has_called w.links r.node) number ∙ called) in
        ap (recorded_tree v) (sym number)
        ∙ (ended_stay w v r.node sound (goes_touch w r found live its_fit fuel d) (may_go w r found live its_fit fuel d) q itself over).tree ∙ ap (recorded_tree w) number

    pub trees_stay : (c : Checkpoint) → Standing r c → All (λ l. is_call_from r.node l ≡ true → recorded_tree v l.target ≡ recorded_tree w l.target) w.links
    trees_stay c at = λ i e lt called.
        let l : Link = get_or w.links i e in
        tree_of_call c at l.target (call_is_called w r.node i e lt called) (find_record l.target w.records) refl
