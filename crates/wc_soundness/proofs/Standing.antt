-- Where a live process stands that an event leaves alone, and what it still gives, are as before.
use Rattle.std.proofs.Common.{◌≡◌, ◌≢◌, ℕ, zero, suc, ◌≤◌, Bool, true, false, Option, Some, None, List, [], ◌∷◌, get_or, length, ◌+◌, inl, inr, refl, sym, ap, subst, ◌∙◌}
use Rattle.std.specs.Prelude.{All, ◌==◌, ◌&&◌, ◌||◌, not, map, filter, take, drop, option_map, option_and_then}
use Rattle.std.specs.List.{AllByRecursion, IsDistinct, list_all, list_any}
use Rattle.std.specs.Str.{bytes_eq}
use Rattle.std.proofs.lemmas.Bool.{eq-eqb, eqb-true, ne_eqb}
use Rattle.std.proofs.lemmas.List.Elements.{All-nil, All-cons, All-head, All-tail, All-weaker, All-take, All-filter}
use Rattle.std.proofs.lemmas.Slice.Eq.{bytes_eq-Decides}
use Rattle.wc_value.specs.declared.process.ProcessState.TheVariants as state
use Rattle.wc_value.specs.declared.process.Tree.{Tree}
use Rattle.wc_syntax.specs.Findings.{definition_named}
use Rattle.wc_syntax.specs.declared.definition.Definition.{Definition}
use Rattle.wc_syntax.specs.declared.definition.Definition.TheVariants as definition
use Rattle.wc_graph.specs.Rules.{node_of}
use Rattle.wc_graph.specs.declared.link.Link.{Link}
use Rattle.wc_graph.specs.declared.node.NodeKind.{NodeKind}
use Rattle.wc_semantics.specs.Meaning.{around, within}
use Rattle.wc_semantics.specs.Tables.{Label, Path, Table, Kills}
use Rattle.wc_semantics.specs.declared.progress.Answer.{Answer}
use Rattle.wc_semantics.specs.declared.progress.Planned.{Planned}
use Rattle.wc_semantics.specs.declared.progress.Progress.{Progress}
use Rattle.wc_state.specs.declared.context.CtxRef.{CtxRef}
use Rattle.wc_state.specs.declared.context.CtxRef.TheVariants as held
use Rattle.wc_state.specs.declared.environment.Item.TheVariants as item
use Rattle.wc_state.specs.declared.record.Await.{Await}
use Rattle.wc_state.specs.declared.record.Checkpoint.{Checkpoint}
use Rattle.wc_state.specs.declared.record.Part.{Part}
use Rattle.wc_state.specs.declared.record.Part.TheVariants as part
use Rattle.wc_state.specs.declared.record.ProcessKind.{ProcessKind}
use Rattle.wc_state.specs.declared.record.ProcessKind.TheVariants as kind
use Rattle.wc_state.specs.declared.record.ProcessRecord.{ProcessRecord}
use Rattle.wc_world.specs.World.{World}
use Rattle.wc_world.specs.Fits.{chain_runs, frame_fits, held_fits, outline_lengths, is_data_node, is_nil, part_fits, standing_fits}
use Rattle.wc_world.specs.Records.{definition_in, find_record, has_called, is_call_from}
use Rattle.wc_world.specs.Trees.{and_child, and_item, branches, child_at, children_at, context_of, environment_at, inputs_after, inputs_of, item_of, items_of, outputs_after, outputs_of, recorded_tree, tree_within, value_of}
use Rattle.wc_world.proofs.FoundRecords.{IsDeeper, call_is_deeper, found_holds, left, right}
use Rattle.wc_world.proofs.ReachedLists.{found_node}
use Rattle.wc_machine.specs.Paths.{call_links, called_under, cut_after, follow, kills}
use Rattle.wc_machine.specs.Recorded.{its_definition, recorded_inputs}
use Rattle.wc_machine.specs.Rest.{and_planned, and_value, awaited, bound_calls, bound_trees, chain_rest, env_alone, has_bound, is_awaited, meant, part_rest, gone_on, levels_of, planned_of, progress_of, progress_with, rest, set_values, with_stop, FitKills, GivesTree, IsOnTrack}
use Rattle.wc_machine.specs.Sound.{AreAwaited, AwaitsLastCalls, CallsAreKept, HoldsEnded, IsEndedCall, IsSound, NamesKnown}
use Rattle.wc_machine.proofs.EndedTrees.{call_is_called}
use Rattle.wc_machine.proofs.Frames.{NoCallFrom, any_before, branches_before, branches_by, called_before, filter_before, inputs_stay, outputs_stay, value_stays}
use Rattle.wc_machine.proofs.Untouched.{tree_stays}
use Rattle.wc_soundness.specs.Touches.{Touches, MayBeTouched}
use Rattle.wc_turn_laws.proofs.CalledLabels.{calls_under_labels, distinct}
use Rattle.wc_soundness.proofs.Touched.{IsOver, agreed_before, carried_on, kill_kept, library_kept, meant_kept, no_input, no_output, over_differs, stands, untouched, inputs_kept, within as number_within, called_link}

-- ---- tests on lists

-- what each element that passes gives, a list gives that has one
pub any_gives : {X C : Type 0} (p : X → Bool) (xs : List X) → list_any p xs ≡ true → All (λ x. p x ≡ true → C) xs → C
any_gives {X} {C} p [] e h = absurd (cc)
any_gives {X} {C} p (x ∷ xs) e h = at (p x) refl e (λ f. any_gives p xs f (All-tail (λ y. p y ≡ true → C) x xs h))
  where
    at : (b : Bool) → p x ≡ b → (b || list_any p xs) ≡ true → (list_any p xs ≡ true → C) → C
    at true is e more = All-head (λ y. p y ≡ true → C) x xs h is
    at false is e more = more e

pub all_pass : {X : Type 0} (p : X → Bool) (xs : List X) → list_all p xs ≡ true → All (λ x. p x ≡ true) xs
all_pass p [] e = All-nil (λ x. p x ≡ true)
all_pass p (x ∷ xs) e = All-cons (λ x. p x ≡ true) x xs (left (p x) (list_all p xs) e) (all_pass p xs (right (p x) (list_all p xs) e))

-- ---- the first of some different calls are not among the last

-- no call of these is to this process, and these alone are awaited
none_awaited : (pid n : ℕ) (ls : List Link) (those : List Await) → AllByRecursion (λ y. (pid == y) ≡ false) (map (λ l. l.target) ls) → AreAwaited n ls those
    → list_any (λ a. a.pid == pid) those ≡ false
none_awaited pid n [] [] h a = refl
none_awaited pid n [] (x ∷ those) h a = absurd a
none_awaited pid n (l ∷ ls) [] h a = absurd a
none_awaited pid n (l ∷ ls) (x ∷ those) h a =
    let ne : x.pid ≢ pid = λ e. let same : (pid == l.target) ≡ true = eq-eqb pid l.target (sym e ∙ sym a.0) in absurd (cc (same, h.0)) in
    (λ i. ne_eqb x.pid pid ne i || list_any (λ y. y.pid == pid) those) ∙ none_awaited pid (suc n) ls those h.1 a.2

dropped : (P : ℕ → Type 0) (k : ℕ) (ls : List Link) → AllByRecursion P (map (λ l. l.target) ls) → AllByRecursion P (map (λ l. l.target) (drop k ls))
dropped P zero ls h = h
dropped P (suc k) [] h = tt
dropped P (suc k) (l ∷ ls) h = dropped P k ls h.1

pub first_not_awaited : (k n : ℕ) (ls : List Link) (those : List Await) → IsDistinct (λ a b. a == b) (map (λ l. l.target) ls) → AreAwaited n (drop k ls) those
    → All (λ l. list_any (λ a. a.pid == l.target) those ≡ false) (take k ls)
unfolding IsDistinct
first_not_awaited zero n ls those h a = All-nil (λ l. list_any (λ a. a.pid == l.target) those ≡ false)
first_not_awaited (suc k) n [] those h a = All-nil (λ l. list_any (λ a. a.pid == l.target) those ≡ false)
first_not_awaited (suc k) n (l ∷ ls) those h a =
    All-cons (λ l. list_any (λ a. a.pid == l.target) those ≡ false) l (take k ls) (none_awaited l.target n (drop k ls) those (dropped (λ y. (l.target == y) ≡ false) k ls h.0) a)
    (first_not_awaited k n ls those h.1 a)

-- ---- trees of what has ended, in a world after an event that touches another process

module _ (v w : World) (pid : ℕ) (s : IsSound v) (t : Touches v w pid) (may : MayBeTouched v pid) where
  abbrev pub Over : ℕ → Type 0
  Over = IsOver v w pid s t may

  pub over_tree : (q : ℕ) → Over q → (levels : ℕ) → tree_within levels w q ≡ tree_within levels v q
  over_tree q h levels = tree_stays v w Over (untouched v w pid s t may) levels q h

  pub over_found : (q : ℕ) → Over q → find_record q w.records ≡ find_record q v.records
  over_found q h = t.records q (over_differs v w pid s t may q h) (number_within v w pid s t may q h.0 h.1)

  pub inputs_of_kept : (q : ℕ) → q ≤ length v.nodes → inputs_of w q ≡ inputs_of v q
  inputs_of_kept q le =
      (λ i. inputs_after (t.nodes.1 i) q (t.links i) []) ∙ inputs_stay v.nodes t.nodes.0 q v.links t.new s.links.ends (no_input v w pid s t may q le)

  pub outputs_of_kept : (q : ℕ) → q ≤ length v.nodes → pid ≢ q → outputs_of w q ≡ outputs_of v q
  outputs_of_kept q le ne =
      (λ i. outputs_after (t.nodes.1 i) q (t.links i) []) ∙ outputs_stay v.nodes t.nodes.0 q v.links t.new s.links.ends (no_output v w pid s t may q le ne)

  -- ---- contexts of ended processes

  over_child : (q : ℕ) → Over q → child_at w q ≡ child_at v q
  over_child q h = λ i. option_map (λ r. record { node = q; state = r.state; outputs = outputs_of_kept q (number_within v w pid s t may q h.0 h.1) (over_differs v w pid s t may q h) i }) (over_found q h i)

  over_children : (qs : List ℕ) → All Over qs → children_at w qs ≡ children_at v qs
  over_children [] h = refl
  over_children (q ∷ qs) h = λ i. and_child (over_child q (All-head Over q qs h) i) (over_children qs (All-tail Over q qs h) i)

  module _ (r : ProcessRecord) where
    ended_call : (q : ℕ) → IsEndedCall v r q → Over q
    ended_call q e = (e.1.0, e.1.1, e.1.2)

    item_kept : (c : CtxRef) → HoldsEnded v r c → item_of w c ≡ item_of v c
    item_kept (held.Plain x) h = refl
    item_kept (held.One q) h = ap (option_map item.One) (over_child q (ended_call q h))
    item_kept (held.Many qs) h = ap (option_map item.Many) (over_children qs (All-weaker (IsEndedCall v r) Over ended_call qs h))

    pub items_kept : (es : List (List ℕ × CtxRef)) → All (λ e. HoldsEnded v r e.1) es → items_of w es ≡ items_of v es
    items_kept [] h = refl
    items_kept (e ∷ es) h =
        λ i. and_item e.0 (item_kept e.1 (All-head (λ (x : List ℕ × CtxRef). HoldsEnded v r x.1) e es h) i) (items_kept es (All-tail (λ (x : List ℕ × CtxRef). HoldsEnded v r x.1) e es h) i)

  -- ---- outputs that were set

  data_there : (o : Option NodeKind) → is_data_node o ≡ true → (k : NodeKind) × (o ≡ Some k)
  data_there None h = absurd (cc)
  data_there (Some k) h = (k, refl)

  pub set_kept : (os : List (Label × ℕ)) → All (λ o. is_data_node (node_of v.nodes o.1) ≡ true) os → set_values w os ≡ set_values v os
  set_kept [] h = refl
  set_kept (o ∷ os) h =
      let here = data_there (node_of v.nodes o.1) (All-head (λ (x : Label × ℕ). is_data_node (node_of v.nodes x.1) ≡ true) o os h) in
      let same : value_of w.nodes o.1 ≡ value_of v.nodes o.1 = ap (λ (ns : List NodeKind). value_of ns o.1) t.nodes.1 ∙ value_stays v.nodes t.nodes.0 o.1 here in
      λ i. and_value o.0 (same i) (set_kept os (All-tail (λ (x : Label × ℕ). is_data_node (node_of v.nodes x.1) ≡ true) o os h) i)

  -- ---- what is awaited

  pub called_there : (r : ProcessRecord) → find_record r.node v.records ≡ Some r → (q : ℕ) → has_called v.links r.node q ≡ true
      → (x : ProcessRecord) × (find_record q v.records ≡ Some x)
  called_there r found q h =
      any_gives (λ l. is_call_from r.node l && (l.target == q)) v.links h
      (λ i d lt e.
      let l : Link = get_or v.links i d in
      let called : is_call_from r.node l ≡ true = left (is_call_from r.node l) (l.target == q) e in
      let same : l.target ≡ q = eqb-true l.target q (right (is_call_from r.node l) (l.target == q) e) in
      let deeper : IsDeeper r (find_record l.target v.records) = call_is_deeper v.records l r.node r found called (s.consistent.calls i d lt) in
      (deeper.0, ap (λ (n : ℕ). find_record n v.records) (sym same) ∙ deeper.1))

  planned_kept : (a : Await) (x : ProcessRecord) → find_record a.pid v.records ≡ Some x → planned_of w a (find_record a.pid w.records) ≡ planned_of v a (find_record a.pid v.records)
  planned_kept a x h =
      let number : x.node ≡ a.pid = found_node a.pid v.records x h in
      let itself : find_record x.node v.records ≡ Some x = ap (λ (n : ℕ). find_record n v.records) number ∙ h in
      let c = carried_on v w pid s t may x itself in
      let there : find_record a.pid w.records ≡ Some c.0 = ap (λ (n : ℕ). find_record n w.records) (sym number) ∙ c.1 in
      let inputs : recorded_inputs w c.0.node ≡ recorded_inputs v x.node
      = ap (recorded_inputs w) c.2.node ∙ inputs_kept v w pid s t may x.node (number_within v w pid s t may x.node x itself) in
      ap (planned_of w a) there
      ∙ (λ i. Some (record { callee = c.2.definition i; key = a.key; append = a.append; inputs = inputs i }))
      ∙ sym (ap (planned_of v a) h)

  pub awaited_kept : (those : List Await) → All (λ a. (x : ProcessRecord) × (find_record a.pid v.records ≡ Some x)) those → awaited w those ≡ awaited v those
  awaited_kept [] h = refl
  awaited_kept (a ∷ those) h =
      let here = All-head (λ (b : Await). (x : ProcessRecord) × (find_record b.pid v.records ≡ Some x)) a those h in
      λ i. and_planned (planned_kept a here.0 here.1 i) (awaited_kept those (All-tail (λ (b : Await). (x : ProcessRecord) × (find_record b.pid v.records ≡ Some x)) a those h) i)

-- ---- a live process that is left alone

chain_awaits_nothing : (k : ProcessKind) (c : Checkpoint) → chain_runs k (part.Chain c) ≡ true → c.awaiting ≡ []
chain_awaits_nothing kind.Function c h = absurd (cc)
chain_awaits_nothing kind.Job c h = absurd (cc)
chain_awaits_nothing kind.Chain c h = nil c.awaiting h
  where
    nil : (those : List Await) → is_nil those ≡ true → those ≡ []
    nil [] h = refl
    nil (a ∷ those) h = absurd (cc)

module _ (v w : World) (pid : ℕ) (s : IsSound v) (t : Touches v w pid) (may : MayBeTouched v pid) (r : ProcessRecord) (found : find_record r.node v.records ≡ Some r)
    (quiet : NoCallFrom r.node t.new) (again : (q : ProcessRecord) × (find_record r.node w.records ≡ Some q) × (context_of q.part ≡ context_of r.part)) where
  abbrev IsThere : ℕ → Type 0
  IsThere = Over v w pid s t may

  le : r.node ≤ length v.nodes
  le = number_within v w pid s t may r.node r found

  -- ---- its calls

  pub links_kept : call_links w r.node ≡ call_links v r.node
  links_kept = ap (λ (ls : List Link). filter (is_call_from r.node) ls) t.links ∙ filter_before (is_call_from r.node) v.links t.new quiet

  called_same : (name : Label) → called_under w.links r.node name ≡ called_under v.links r.node name
  called_same name = ap (λ (ls : List Link). called_under ls r.node name) t.links ∙ called_before v.links t.new r.node name quiet

  -- what it called and doesn't await has ended
  not_awaited_over : All (λ l. is_call_from r.node l ≡ true → is_awaited r.part l.target ≡ false → IsThere l.target) v.links
  not_awaited_over = λ i d lt called free.
      let l : Link = get_or v.links i d in
      let deeper : IsDeeper r (find_record l.target v.records) = call_is_deeper v.records l r.node r found called (s.consistent.calls i d lt) in
      let x : ProcessRecord = deeper.0 in
      let target : x.node ≡ l.target = found_node l.target v.records x deeper.1 in
      let itself : find_record x.node v.records ≡ Some x = ap (λ (n : ℕ). find_record n v.records) target ∙ deeper.1 in
      let reached : has_called v.links r.node x.node ≡ true = ap (has_called v.links r.node) target ∙ call_is_called v r.node i d lt called in
      elim (found_holds (CallsAreKept v) r.node v.records r s.calls found x itself reached) [
        | inl over ↦ (x, deeper.1, over)
        | inr lives ↦ let held : is_awaited r.part l.target ≡ true = ap (is_awaited r.part) (sym target) ∙ lives.1 in absurd (cc (held, free))
      ]

  trees_kept : (ls : List Link) → All (λ l. is_call_from r.node l ≡ true → IsThere l.target) ls
      → branches (recorded_tree w) r.node ls ≡ branches (recorded_tree v) r.node ls
  trees_kept ls h =
      branches_by (recorded_tree w) (recorded_tree v) r.node ls
      (All-weaker (λ l. is_call_from r.node l ≡ true → IsThere l.target) (λ l. is_call_from r.node l ≡ true → recorded_tree w l.target ≡ recorded_tree v l.target)
      (λ l over called. over_tree v w pid s t may l.target (over called) 16) ls h)

  -- ---- its checkpoint

  module _ (c : Checkpoint) (is : r.part ≡ part.Chain c) where
    environment_kept : environment_at w r.node ≡ environment_at v r.node
    environment_kept =
        let names : NamesKnown v r (part.Chain c) = subst (NamesKnown v r) is (found_holds (λ x. NamesKnown v x x.part) r.node v.records r s.names found) in
        let here : context_of again.0.part ≡ c.ctx = again.2 ∙ ap context_of is in
        ap (option_and_then (λ x. option_map (λ ctx. record { inputs = inputs_of w r.node; ctx = ctx }) (items_of w (context_of x.part)))) again.1
        ∙ (λ i. option_map (λ ctx. record { inputs = inputs_of_kept v w pid s t may r.node le i; ctx = ctx }) (items_of w (here i)))
        ∙ ap (option_map (λ ctx. record { inputs = inputs_of v r.node; ctx = ctx })) (items_kept v w pid s t may r c.ctx names.0 ∙ ap (λ (p : Part). items_of v (context_of p)) (sym is))
        ∙ sym (ap (option_and_then (λ x. option_map (λ ctx. record { inputs = inputs_of v r.node; ctx = ctx }) (items_of v (context_of x.part)))) found)

    checkpoint : standing_fits v r (part.Chain c) ≡ true
    checkpoint = ap (standing_fits v r) (sym is) ∙ (stands v w pid s t may r found).standing

    -- ---- what it still gives

    pub awaited_same : awaited w c.awaiting ≡ awaited v c.awaiting
    awaited_same =
        let a = list_all (λ x. has_called v.links r.node x.pid) c.awaiting in
        let b = list_all (λ x. held_fits v.records x.1) c.ctx && list_all (λ x. is_data_node (node_of v.nodes x.1)) c.outputs in
        let called : a ≡ true = left a b (right (list_all (frame_fits (outline_lengths (definition_in v.libraries r.library r.definition))) c.frames) (a && b)
        (right (not (is_nil c.frames)) (list_all (frame_fits (outline_lengths (definition_in v.libraries r.library r.definition))) c.frames && (a && b)) checkpoint)) in
        awaited_kept v w pid s t may c.awaiting
        (All-weaker (λ x. has_called v.links r.node x.pid ≡ true) (λ x. (q : ProcessRecord) × (find_record x.pid v.records ≡ Some q))
        (λ x h. called_there v w pid s t may r found x.pid h) c.awaiting (all_pass (λ x. has_called v.links r.node x.pid) c.awaiting called))

    outputs_same : set_values w c.outputs ≡ set_values v c.outputs
    outputs_same =
        let a = list_all (λ x. held_fits v.records x.1) c.ctx in
        let b = list_all (λ x. is_data_node (node_of v.nodes x.1)) c.outputs in
        let l = list_all (λ x. has_called v.links r.node x.pid) c.awaiting in
        let f = list_all (frame_fits (outline_lengths (definition_in v.libraries r.library r.definition))) c.frames in
        let are : b ≡ true = right a b (right l (a && b) (right f (l && (a && b)) (right (not (is_nil c.frames)) (f && (l && (a && b))) checkpoint))) in
        set_kept v w pid s t may c.outputs (all_pass (λ x. is_data_node (node_of v.nodes x.1)) c.outputs are)

    -- the calls that are bound have ended
    pub bound_over : All (λ l. is_call_from r.node l ≡ true → IsThere l.target) (take (bound_calls c) (call_links v r.node))
    bound_over =
        let last : AwaitsLastCalls v r (part.Chain c) = subst (AwaitsLastCalls v r) is (found_holds (λ x. AwaitsLastCalls v x x.part) r.node v.records r s.awaits found) in
        let one = distinct r.node v.links (λ i j a b ne p q. (s.links.apart i j a b ne p q).callers) in
        let free = first_not_awaited (bound_calls c) (suc (bound_calls c)) (call_links v r.node) c.awaiting one last in
        let each =
        All-take (λ l. is_call_from r.node l ≡ true → is_awaited r.part l.target ≡ false → IsThere l.target) (bound_calls c) (call_links v r.node)
        (All-filter (is_call_from r.node) (λ l. is_call_from r.node l ≡ true → is_awaited r.part l.target ≡ false → IsThere l.target) v.links not_awaited_over) in
        λ i d lt called.
        let l : Link = get_or (take (bound_calls c) (call_links v r.node)) i d in
        each i d lt called (ap (λ (p : Part). is_awaited p l.target) is ∙ free i d lt)

    bound_same : bound_trees w r c ≡ bound_trees v r c
    bound_same =
        ap (λ (ls : List Link). branches (recorded_tree w) r.node (take (bound_calls c) ls)) links_kept
        ∙ trees_kept (take (bound_calls c) (call_links v r.node)) bound_over

    pub progress_same : progress_of w r c ≡ progress_of v r c
    progress_same = λ i. progress_with (option_map env_alone (environment_kept i)) (outputs_same i) (bound_same i)

  pub definition_same : its_definition w r ≡ its_definition v r
  definition_same = ap (option_and_then (definition_named r.definition)) (library_kept v w pid s t may r found)

  meant_same : (table : Table) (cuts : Kills) (n : ℕ) → meant w r table cuts n ≡ meant v r table cuts n
  meant_same = meant_kept v w pid s t may r found

  module _ (table : Table) (cuts : Kills) (stop : Option ℕ) (n : ℕ) where
    chain_same : (c : Checkpoint) (d : Option Definition) (a : Option (List Planned)) (e : Option Progress)
        → chain_rest w table cuts stop n r c d a e ≡ chain_rest v table cuts stop n r c d a e
    chain_same c None a e = refl
    chain_same c (Some (definition.Function f)) a e = refl
    chain_same c (Some (definition.Job j)) a e = refl
    chain_same c (Some (definition.Chain k)) None e = refl
    chain_same c (Some (definition.Chain k)) (Some planned) None = refl
    chain_same c (Some (definition.Chain k)) (Some planned) (Some e) =
        ap (option_map (λ library. gone_on stop r k c (within k.head.outputs stop (around (levels_of r) library table cuts)) n planned e))
        (library_kept v w pid s t may r found)

    pub rest_same : rest w table cuts stop n r ≡ rest v table cuts stop n r
    rest_same = at r.part refl
      where
        at : (p : Part) → r.part ≡ p → part_rest w table cuts stop n r p ≡ part_rest v table cuts stop n r p
        at part.Fresh is = meant_same table (with_stop cuts stop) n
        at (part.Chain c) is = (λ i. chain_rest w table cuts stop n r c (definition_same i) (awaited_same c is i) (progress_same c is i)) ∙ chain_same c (its_definition v r) (awaited v c.awaiting) (progress_of v r c)
        at (part.Job j) is = meant_same table (with_stop cuts stop) n
        at part.Over is = refl

  -- ---- kills that fit

  not_true : (b : Bool) → not b ≡ true → b ≡ false
  not_true true h = absurd (cc)
  not_true false h = refl

  kill_under : (name : Label) (c : ℕ) → called_under v.links r.node name ≡ Some c → IsThere c → (path : Path) → kills w r.node (name ∷ path) ≡ kills v r.node (name ∷ path)
  kill_under name c is over path =
      ap (λ (o : Option ℕ). option_and_then (λ q. option_and_then (cut_after w) (find_record q w.records)) (option_and_then (λ q. follow w.links q path) o)) (called_same name ∙ is)
      ∙ kill_kept v w pid s t may c over path
      ∙ sym (ap (λ (o : Option ℕ). option_and_then (λ q. option_and_then (cut_after v) (find_record q v.records)) (option_and_then (λ q. follow v.links q path) o)) is)

  has_bound_same : (name : Label) → has_bound w r name ≡ has_bound v r name
  has_bound_same name =
      ap (list_any (λ l. (is_call_from r.node l && bytes_eq l.label name) && not (is_awaited r.part l.target))) t.links
      ∙ any_before (λ l. (is_call_from r.node l && bytes_eq l.label name) && not (is_awaited r.part l.target)) v.links t.new
      (All-weaker (λ l. is_call_from r.node l ≡ false) (λ l. (is_call_from r.node l && bytes_eq l.label name) && not (is_awaited r.part l.target) ≡ false)
      (λ l e. ap (λ (b : Bool). (b && bytes_eq l.label name) && not (is_awaited r.part l.target)) e) t.new quiet)

  pub fits_before : (cuts : Kills) → FitKills cuts w r → FitKills cuts v r
  fits_before cuts f = record {
    alive = f.alive;
    bound = λ name path b.
        f.bound name path (has_bound_same name ∙ b)
        ∙ any_gives (λ l. (is_call_from r.node l && bytes_eq l.label name) && not (is_awaited r.part l.target)) v.links b
        (λ i d lt e.
        let l : Link = get_or v.links i d in
        let both : is_call_from r.node l && bytes_eq l.label name ≡ true = left (is_call_from r.node l && bytes_eq l.label name) (not (is_awaited r.part l.target)) e in
        let called : is_call_from r.node l ≡ true = left (is_call_from r.node l) (bytes_eq l.label name) both in
        let same : l.label ≡ name = (bytes_eq-Decides l.label name).0 (right (is_call_from r.node l) (bytes_eq l.label name) both) in
        let free : is_awaited r.part l.target ≡ false = not_true (is_awaited r.part l.target) (right (is_call_from r.node l && bytes_eq l.label name) (not (is_awaited r.part l.target)) e) in
        kill_under name l.target (ap (called_under v.links r.node) (sym same) ∙ (calls_under_labels v s r found i d lt called).leads) (not_awaited_over i d lt called free) path);
  }

  -- ---- on track

  running_over : r.state ≡ state.Running → (c : Checkpoint) → r.part ≡ part.Chain c → All (λ l. is_call_from r.node l ≡ true → IsThere l.target) v.links
  running_over running c is =
      let runs : chain_runs r.kind (part.Chain c) ≡ true = (λ i. part_fits r.kind (sym running i) (sym is i)) ∙ (stands v w pid s t may r found).part in
      let nothing : c.awaiting ≡ [] = chain_awaits_nothing r.kind c runs in
      λ i d lt called.
      let l : Link = get_or v.links i d in
      not_awaited_over i d lt called (ap (λ (p : Part). is_awaited p l.target) is ∙ ap (list_any (λ a. a.pid == l.target)) nothing)

  kill_at : (o : Option ℕ) (name : Label) (path : Path) → called_under v.links r.node name ≡ o → ((c : ℕ) → o ≡ Some c → IsThere c)
      → kills w r.node (name ∷ path) ≡ kills v r.node (name ∷ path)
  kill_at None name path is over =
      ap (λ (o : Option ℕ). option_and_then (λ q. option_and_then (cut_after w) (find_record q w.records)) (option_and_then (λ q. follow w.links q path) o)) (called_same name ∙ is)
      ∙ sym (ap (λ (o : Option ℕ). option_and_then (λ q. option_and_then (cut_after v) (find_record q v.records)) (option_and_then (λ q. follow v.links q path) o)) is)
  kill_at (Some c) name path is over = kill_under name c is (over c refl) path

  stops_same : All (λ l. is_call_from r.node l ≡ true → IsThere l.target) v.links → (m : ℕ) (path : Path)
      → with_stop (kills w r.node) (Some m) path ≡ with_stop (kills v r.node) (Some m) path
  stops_same over m [] = refl
  stops_same over m (name ∷ path) =
      kill_at (called_under v.links r.node name) name path refl (λ c e. called_link IsThere v.links r.node name c over e)

  abbrev Gives : Tree → Option Answer → Type 0
  Gives tree x = GivesTree x tree

  pub track_kept : IsOnTrack v r → IsOnTrack w r
  track_kept track = record {
    onward = λ table cuts agrees fits n stop tree g.
        subst (Gives tree) (sym (meant_same table (with_stop cuts stop) (n + r.fuel)))
        (track.onward table cuts (agreed_before v w pid s t may r.node table agrees) (fits_before cuts fits) n stop tree (subst (Gives tree) (rest_same table cuts stop n) g));
    comes = λ table cuts agrees fits n tree g.
        let c = track.comes table cuts (agreed_before v w pid s t may r.node table agrees) (fits_before cuts fits) n tree (subst (Gives tree) (meant_same table cuts n) g) in
        (c.0, subst (Gives tree) (sym (rest_same table cuts None c.0)) c.1);
    cut = λ table agrees running c is some.
        let over = running_over running c is in
        let x = track.cut table (agreed_before v w pid s t may r.node table agrees) running c is some in
        let same : meant w r table (with_stop (kills w r.node) (Some c.calls)) r.fuel ≡ meant v r table (with_stop (kills v r.node) (Some c.calls)) r.fuel
        = meant_same table (with_stop (kills w r.node) (Some c.calls)) r.fuel ∙ (λ i. meant v r table (λ path. stops_same over c.calls path i) r.fuel) in (
          x.0,
          (ap (branches (recorded_tree w) r.node) t.links ∙ branches_before (recorded_tree w) r.node v.links t.new quiet ∙ trees_kept v.links over) ∙ x.1,
          (x.2.0, subst (Gives x.2.0) (sym same) x.2.1, x.2.2, x.2.3),
        );
  }
