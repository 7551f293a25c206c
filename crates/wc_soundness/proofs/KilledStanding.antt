-- Where a waiting chain stands whose awaited children have ended: what it sees, and what it sees once they are bound.
use Rattle.std.proofs.Common.{◌≡◌, ℕ, suc, ◌-◌, ◌≤◌, Bool, true, false, List, [], ◌∷◌, ◌++◌, Option, Some, None, inl, inr, length, map, take, drop, get_or, refl, sym, ap, subst, ◌∙◌, arith}
use Rattle.std.specs.Prelude.{All, ◌==◌, ◌&&◌, ◌||◌, not, filter, if◌then◌else◌, option_map, option_and_then}
use Rattle.std.specs.List.{list_all, list_any}
use Rattle.std.proofs.lemmas.Bool.{and_parts, cases_Bool, cond-true, eqb-true, not-true, or_cases}
use Rattle.std.proofs.lemmas.List.{length-take-le}
use Rattle.std.proofs.lemmas.List.Elements.{All-cons, All-drop, All-filter, All-head, All-nil, All-tail, All-take, filter_passes}
use Rattle.wc_value.specs.declared.process.Tree.{Tree}
use Rattle.wc_value.specs.declared.value.Value.{Value}
use Rattle.wc_syntax.specs.Findings.{definition_named}
use Rattle.wc_syntax.specs.declared.definition.Chain.{Chain}
use Rattle.wc_syntax.specs.declared.definition.Definition.{Definition}
use Rattle.wc_syntax.specs.declared.definition.Definition.TheVariants as definition
use Rattle.wc_graph.specs.Rules.{node_of}
use Rattle.wc_graph.specs.declared.link.Link.{Link}
use Rattle.wc_graph.specs.declared.node.NodeKind.{NodeKind}
use Rattle.wc_graph.specs.declared.node.NodeKind.TheVariants as node
use Rattle.wc_semantics.specs.Rules.{Values}
use Rattle.wc_semantics.specs.Tables.{Label}
use Rattle.wc_semantics.specs.declared.progress.Progress.{Progress}
use Rattle.wc_state.specs.declared.environment.Env.{Env}
use Rattle.wc_state.specs.declared.environment.Item.{Item}
use Rattle.wc_state.specs.declared.record.Await.{Await}
use Rattle.wc_state.specs.declared.record.Checkpoint.{Checkpoint}
use Rattle.wc_state.specs.declared.record.Part.{Part}
use Rattle.wc_state.specs.declared.record.Part.TheVariants as part
use Rattle.wc_state.specs.declared.record.ProcessKind.{ProcessKind}
use Rattle.wc_state.specs.declared.record.ProcessKind.TheVariants as kind
use Rattle.wc_state.specs.declared.record.ProcessRecord.{ProcessRecord}
use Rattle.wc_world.specs.World.{World}
use Rattle.wc_world.specs.Consistent.{Stands}
use Rattle.wc_world.specs.Fits.{calls_from, has_output, is_data_node, counted_calls, is_nil, part_fits, standing_fits, waits}
use Rattle.wc_world.specs.Records.{find_record, has_called, has_ended, is_call_from, library_at}
use Rattle.wc_world.specs.Trees.{Branch, and_branch, branches, context_of, data_of, environment_at, inputs_of, items_of, recorded_tree}
use Rattle.wc_world.proofs.FoundRecords.{found_holds}
use Rattle.wc_world.proofs.RecordedEnvironments.{no_context}
use Rattle.wc_world.proofs.RecordedTrees.{no_tree}
use Rattle.wc_world.proofs.ReachedGrown.{CheckpointFits, checkpoint_parts}
use Rattle.wc_machine.specs.Calls.{bound_in}
use Rattle.wc_machine.specs.Paths.{call_links}
use Rattle.wc_machine.specs.Readiness.{ended_at, is_over}
use Rattle.wc_machine.specs.Rest.{and_value, as_call, bound_calls, bound_trees, env_alone, is_awaited, levels_of, progress_of, progress_with, set_values}
use Rattle.wc_machine.specs.Sound.{AreAwaited, AwaitsLastCalls, HoldsEnded, IsEndedCall, IsSound, NamesKnown}
use Rattle.wc_soundness.proofs.KillChildren.{IsOver, over_if_not_awaited, bound_over}
use Rattle.wc_soundness.specs.Binding.{Waits}
use Rattle.wc_soundness.proofs.Held.{bound_holds}
use Rattle.wc_soundness.proofs.KnownChildren.{AllReady, IsChild, all_ready, is_child}

-- ---- lists of links

pub branches_append : (tree : ℕ → Option Tree) (pid : ℕ) (xs ys : List Link) (as' bs : List Branch) → branches tree pid xs ≡ Some as' → branches tree pid ys ≡ Some bs
    → branches tree pid (xs ++ ys) ≡ Some (as' ++ bs)
branches_append tree pid [] ys as' bs p q = let e : [] ≡ as' = cc in q ∙ ap (λ (l : List Branch). Some (l ++ bs)) e
branches_append tree pid (x ∷ xs) ys as' bs p q = at (is_call_from pid x) (tree x.target) (branches tree pid xs) p (λ cs r. branches_append tree pid xs ys cs bs r q)
  where
    at : (b : Bool) (o : Option Tree) (m : Option (List Branch)) → (if b then and_branch o x.label m else m) ≡ Some as'
        → ((cs : List Branch) → m ≡ Some cs → branches tree pid (xs ++ ys) ≡ Some (cs ++ bs))
        → (if b then and_branch o x.label (branches tree pid (xs ++ ys)) else branches tree pid (xs ++ ys)) ≡ Some (as' ++ bs)
    at true None m p later = absurd (cc p)
    at true (Some t) None p later = absurd (cc p)
    at true (Some t) (Some cs) p later =
        let e : (x.label, t) ∷ cs ≡ as' = cc in
        ap (and_branch (Some t) x.label) (later cs refl) ∙ ap (λ (l : List Branch). Some (l ++ bs)) e
    at false o m p later = later as' p

-- each of these calls has a branch
pub branches_many : (tree : ℕ → Option Tree) (pid : ℕ) (ls : List Link) (bs : List Branch) → All (λ l. is_call_from pid l ≡ true) ls → branches tree pid ls ≡ Some bs
    → length bs ≡ length ls
branches_many tree pid [] bs calls p = let e : bs ≡ [] = cc in ap length e
branches_many tree pid (l ∷ ls) bs calls p =
    at (tree l.target) (branches tree pid ls)
    (sym (cond-true (is_call_from pid l) (and_branch (tree l.target) l.label (branches tree pid ls)) (branches tree pid ls) (All-head (λ l. is_call_from pid l ≡ true) l ls calls)) ∙ p)
    (λ cs q. branches_many tree pid ls cs (All-tail (λ l. is_call_from pid l ≡ true) l ls calls) q)
  where
    at : (o : Option Tree) (m : Option (List Branch)) → and_branch o l.label m ≡ Some bs → ((cs : List Branch) → m ≡ Some cs → length cs ≡ length ls) → length bs ≡ suc (length ls)
    at None m p later = absurd (cc p)
    at (Some t) None p later = absurd (cc p)
    at (Some t) (Some cs) p later = let e : bs ≡ (l.label, t) ∷ cs = cc in ap length e ∙ ap suc (later cs refl)

-- branches of a process are those of its calls
pub branches_filtered : (tree : ℕ → Option Tree) (pid : ℕ) (ls : List Link) → branches tree pid (filter (is_call_from pid) ls) ≡ branches tree pid ls
branches_filtered tree pid [] = refl
branches_filtered tree pid (l ∷ ls) = at (is_call_from pid l) refl (branches_filtered tree pid ls)
  where
    at : (b : Bool) → is_call_from pid l ≡ b → branches tree pid (filter (is_call_from pid) ls) ≡ branches tree pid ls
        → branches tree pid (if b then l ∷ filter (is_call_from pid) ls else filter (is_call_from pid) ls)
        ≡ (if b then and_branch (tree l.target) l.label (branches tree pid ls) else branches tree pid ls)
    at true is rest =
        cond-true (is_call_from pid l) (and_branch (tree l.target) l.label (branches tree pid (filter (is_call_from pid) ls))) (branches tree pid (filter (is_call_from pid) ls)) is
        ∙ ap (and_branch (tree l.target) l.label) rest
    at false is rest = rest

pub counted : (pid : ℕ) (ls : List Link) → length (filter (is_call_from pid) ls) ≡ calls_from pid ls
counted pid [] = refl
counted pid (l ∷ ls) = at (is_call_from pid l) (counted pid ls)
  where
    at : (b : Bool) → length (filter (is_call_from pid) ls) ≡ calls_from pid ls
        → length (if b then l ∷ filter (is_call_from pid) ls else filter (is_call_from pid) ls) ≡ (if b then suc (calls_from pid ls) else calls_from pid ls)
    at true h = ap suc h
    at false h = h

some_value : (id : ℕ) (o : Option NodeKind) → is_data_node o ≡ true → (v : Value) × (option_and_then data_of o ≡ Some v)
some_value id None h = absurd (cc h)
some_value id (Some (node.Data v)) h = (v, refl)
some_value id (Some node.Calculation) h = absurd (cc h)
some_value id (Some node.Workflow) h = absurd (cc h)

-- the outputs of a checkpoint have values
values_there : (w : World) (os : List (Label × ℕ)) → list_all (λ o. is_data_node (node_of w.nodes o.1)) os ≡ true → (vs : Values) × (set_values w os ≡ Some vs)
values_there w [] h = ([], refl)
values_there w (o ∷ os) h =
    let parts = and_parts (is_data_node (node_of w.nodes o.1)) (list_all (λ o. is_data_node (node_of w.nodes o.1)) os) h in
    let one = some_value o.1 (node_of w.nodes o.1) parts.0 in
    let rest = values_there w os parts.1 in
    ((o.0, one.0) ∷ rest.0, λ i. and_value o.0 (one.1 i) (rest.1 i))

-- what has ended has a recorded tree
tree_there : (w : World) → IsSound w → (pid : ℕ) → IsOver w pid → (t : Tree) × (recorded_tree w pid ≡ Some t)
tree_there w sound pid over = at (recorded_tree w pid) refl
  where
    at : (o : Option Tree) → recorded_tree w pid ≡ o → (t : Tree) × (recorded_tree w pid ≡ Some t)
    at None is = let gone : find_record pid w.records ≡ None = no_tree w sound.consistent 16 pid (omega arith) (sym is) in let there = over.1 in absurd (cc (gone, there))
    at (Some t) is = (t, is)

-- the calls that have ended have branches
pub branches_there : (w : World) → IsSound w → (pid : ℕ) (ls : List Link) → All (λ l. is_call_from pid l ≡ true → IsOver w l.target) ls
    → (bs : List Branch) × (branches (recorded_tree w) pid ls ≡ Some bs)
branches_there w sound pid [] over = ([], refl)
branches_there w sound pid (l ∷ ls) over =
    let rest = branches_there w sound pid ls (All-tail (λ l. is_call_from pid l ≡ true → IsOver w l.target) l ls over) in
    at (is_call_from pid l) (λ called. tree_there w sound l.target (All-head (λ l. is_call_from pid l ≡ true → IsOver w l.target) l ls over called)) rest.0 rest.1
  where
    at : (b : Bool) → (b ≡ true → (t : Tree) × (recorded_tree w l.target ≡ Some t)) → (bs : List Branch) → branches (recorded_tree w) pid ls ≡ Some bs
        → (cs : List Branch) × ((if b then and_branch (recorded_tree w l.target) l.label (branches (recorded_tree w) pid ls) else branches (recorded_tree w) pid ls) ≡ Some cs)
    at true one bs p = let t = one refl in ((l.label, t.0) ∷ bs, λ i. and_branch (t.1 i) l.label (p i))
    at false one bs p = (bs, p)

-- ---- a waiting chain

pub over_from : (w : World) (pid : ℕ) → ended_at w.records pid ≡ true → IsOver w pid
over_from w pid h = at (find_record pid w.records) refl h
  where
    at : (o : Option ProcessRecord) → find_record pid w.records ≡ o → is_over o ≡ true → IsOver w pid
    at None is h = absurd (cc h)
    at (Some x) is h = (x, is, h)

pub awaited_over : (w : World) (as' : List Await) → list_all (λ a. ended_at w.records a.pid) as' ≡ true → (pid : ℕ) → list_any (λ a. a.pid == pid) as' ≡ true → IsOver w pid
awaited_over w [] h pid e = absurd (cc e)
awaited_over w (a ∷ as') h pid e =
    let parts = and_parts (ended_at w.records a.pid) (list_all (λ b. ended_at w.records b.pid) as') h in
    elim (or_cases (a.pid == pid) (list_any (λ b. b.pid == pid) as') e) [
      | inl same ↦ over_from w pid (ap (ended_at w.records) (sym (eqb-true a.pid pid same)) ∙ parts.0)
      | inr later ↦ awaited_over w as' parts.1 pid later
    ]

pub awaited_ended : (w : World) (r : ProcessRecord) (as' : List Await) → list_all (λ a. has_called w.links r.node a.pid) as' ≡ true
    → list_all (λ a. ended_at w.records a.pid) as' ≡ true → All (λ a. IsEndedCall w r a.pid) as'
awaited_ended w r [] called through = All-nil (λ a. IsEndedCall w r a.pid)
awaited_ended w r (a ∷ as') called through =
    let one = and_parts (has_called w.links r.node a.pid) (list_all (λ b. has_called w.links r.node b.pid) as') called in
    let two = and_parts (ended_at w.records a.pid) (list_all (λ b. ended_at w.records b.pid) as') through in
    All-cons (λ b. IsEndedCall w r b.pid) a as' (one.0, over_from w a.pid two.0) (awaited_ended w r as' one.1 two.1)

chain_waits : (k : ProcessKind) (c : Checkpoint) → waits k (part.Chain c) ≡ true → (k ≡ kind.Chain) × (is_nil c.awaiting ≡ false)
chain_waits kind.Function c h = absurd (cc h)
chain_waits kind.Job c h = absurd (cc h)
chain_waits kind.Chain c h = (refl, not-true (is_nil c.awaiting) h)

pub library_of : (o : Option (List Definition)) (name : List ℕ) (d : Definition) → option_and_then (definition_named name) o ≡ Some d → (l : List Definition) × (o ≡ Some l)
library_of None name d h = absurd (cc h)
library_of (Some l) name d h = (l, refl)

module _ (w : World) (sound : IsSound w) (r : ProcessRecord) (k : Chain) (c : Checkpoint) (h : Waits w r k c) where
  pub stands : Stands w r
  stands = found_holds (Stands w) r.node w.records r sound.consistent.records h.found

  pub alive : has_ended r.state ≡ false
  alive = ap has_ended h.state

  kind_and_some : (r.kind ≡ kind.Chain) × (is_nil c.awaiting ≡ false)
  kind_and_some = chain_waits r.kind c ((λ i. part_fits r.kind (sym h.state i) (sym h.part i)) ∙ stands.part)

  pub is_chain : r.kind ≡ kind.Chain
  is_chain = kind_and_some.0

  pub some_awaited : c.awaiting ≡ [] → ⊥
  some_awaited e = let none : is_nil c.awaiting ≡ true = ap (λ (as' : List Await). is_nil as') e in let some = kind_and_some.1 in cc (none, some)

  pub its_library : (l : List Definition) × (library_at w.libraries r.library ≡ Some l)
  its_library = library_of (library_at w.libraries r.library) r.definition (definition.Chain k) h.definition

  abbrev pub its_calls : List Link
  its_calls = call_links w r.node

  live_parts : (not (has_output r.node w.links) ≡ true) × ((calls_from r.node w.links == c.calls) ≡ true)
  live_parts =
      and_parts (not (has_output r.node w.links)) (calls_from r.node w.links == c.calls)
      ((λ i. has_ended (sym h.state i) || (not (has_output r.node w.links) && (calls_from r.node w.links == counted_calls (sym h.part i)))) ∙ stands.settled)

  pub no_output : not (has_output r.node w.links) ≡ true
  no_output = live_parts.0

  pub number_of_calls : calls_from r.node w.links ≡ c.calls
  number_of_calls = eqb-true (calls_from r.node w.links) c.calls live_parts.1

  pub many_calls : length its_calls ≡ c.calls
  many_calls = counted r.node w.links ∙ number_of_calls

  last_awaited : AreAwaited (suc (bound_calls c)) (drop (bound_calls c) its_calls) c.awaiting
  last_awaited = subst (AwaitsLastCalls w r) h.part (found_holds (λ x. AwaitsLastCalls w x x.part) r.node w.records r sound.awaits h.found)

  pub ready : AllReady w r (suc (bound_calls c)) (drop (bound_calls c) its_calls) c.awaiting
  ready =
      all_ready w sound r (suc (bound_calls c)) (drop (bound_calls c) its_calls) c.awaiting last_awaited
      (All-drop (λ l. is_call_from r.node l ≡ true) (bound_calls c) its_calls (filter_passes (is_call_from r.node) w.links))
      (All-drop (λ l. is_call_from r.node l ≡ true → IsChild w r l) (bound_calls c) its_calls
      (All-filter (is_call_from r.node) (λ l. is_call_from r.node l ≡ true → IsChild w r l) w.links (is_child w sound r h.found)))
      h.through

  -- there are levels below
  pub one_level : levels_of r ≡ suc (16 - suc r.depth)
  one_level = at (drop (bound_calls c) its_calls) c.awaiting ready some_awaited
    where
      at : (ls : List Link) (as' : List Await) → AllReady w r (suc (bound_calls c)) ls as' → (as' ≡ [] → ⊥) → 16 - r.depth ≡ suc (16 - suc r.depth)
      at [] [] y some = absurd (some refl)
      at [] (a ∷ as') y some = absurd y
      at (l ∷ ls) [] y some = absurd y
      at (l ∷ ls) (a ∷ as') y some =
          let low : y.0.of.child.depth ≤ 16 = y.0.of.low in let deeper : y.0.of.child.depth ≡ suc r.depth = y.0.of.deeper in omega arith

  pub calls_over : All (λ l. is_call_from r.node l ≡ true → IsOver w l.target) w.links
  calls_over = λ i d lt called.
      let l : Link = get_or w.links i d in
      elim (cases_Bool (is_awaited (part.Chain c) l.target)) [
        | inl is ↦ awaited_over w c.awaiting h.through l.target is
        | inr free ↦ over_if_not_awaited w sound r h.found i d lt called (ap (λ (p : Part). is_awaited p l.target) h.part ∙ free)
      ]

  pub fits : CheckpointFits w r c
  fits = checkpoint_parts w r c (ap (standing_fits w r) (sym h.part) ∙ stands.standing)

  pub awaited_are : All (λ a. IsEndedCall w r a.pid) c.awaiting
  awaited_are = awaited_ended w r c.awaiting fits.awaiting h.through

  pub names_known : NamesKnown w r (part.Chain c)
  names_known = subst (NamesKnown w r) h.part (found_holds (λ x. NamesKnown w x x.part) r.node w.records r sound.names h.found)

  pub names_bound : All (λ e. HoldsEnded w r e.1) (bound_in c.ctx c.awaiting)
  names_bound =
      bound_holds (HoldsEnded w r) (IsEndedCall w r) (λ n ended. ended) (λ ns all. all) (λ ns all. all) c.awaiting c.ctx awaited_are names_known.0

  -- what it sees where it stands
  pub record IsStanding : Type 0 where
    pub items : List (List ℕ × Item)
    pub is_items : items_of w c.ctx ≡ Some items
    pub values : Values
    pub is_values : set_values w c.outputs ≡ Some values
    pub trees : List Branch
    pub is_trees : bound_trees w r c ≡ Some trees
    pub many : length trees ≡ bound_calls c

  abbrev pub standing_at : IsStanding → Progress
  standing_at s = record { env = env_alone (record { inputs = inputs_of w r.node; ctx = s.items }); outputs = s.values; calls = map as_call s.trees }

  pub is_standing : IsStanding
  is_standing =
      let b = bound_calls c in
      let low : b ≤ length its_calls = let e = many_calls in omega arith in
      let items = context (items_of w c.ctx) refl in
      let values = values_there w c.outputs fits.outputs in
      let trees = branches_there w sound r.node (take b its_calls) (bound_over w sound r h.found c h.part) in
      record {
        items = items.0;
        is_items = items.1;
        values = values.0;
        is_values = values.1;
        trees = trees.0;
        is_trees = trees.1;
        many = branches_many (recorded_tree w) r.node (take b its_calls) trees.0
            (All-take (λ l. is_call_from r.node l ≡ true) b its_calls (filter_passes (is_call_from r.node) w.links)) trees.1
            ∙ length-take-le b its_calls low;
      }
    where
      context : (o : Option (List (List ℕ × Item))) → items_of w c.ctx ≡ o → (items : List (List ℕ × Item)) × (items_of w c.ctx ≡ Some items)
      context None is = absurd (no_context w r.node r sound.consistent (sym h.found) (sym (ap (λ (p : Part). items_of w (context_of p)) h.part ∙ is)))
      context (Some items) is = (items, is)

  pub progress_is : (s : IsStanding) → progress_of w r c ≡ Some (standing_at s)
  progress_is s =
      let env : Env = record { inputs = inputs_of w r.node; ctx = s.items } in
      let here : environment_at w r.node ≡ Some env =
      ap (option_and_then (λ (x : ProcessRecord). option_map (λ ctx. record { inputs = inputs_of w r.node; ctx = ctx }) (items_of w (context_of x.part)))) h.found
      ∙ ap (λ (p : Part). option_map (λ ctx. record { inputs = inputs_of w r.node; ctx = ctx }) (items_of w (context_of p))) h.part
      ∙ ap (option_map (λ ctx. record { inputs = inputs_of w r.node; ctx = ctx })) s.is_items in
      λ i. progress_with (option_map env_alone (here i)) (s.is_values i) (s.is_trees i)
