-- What is known of the awaited children of a chain that have ended: each is, at its fuel, the call of its caller.
use Rattle.std.proofs.Common.{◌≡◌, ℕ, suc, ◌+◌, ◌-◌, ◌<◌, ◌≤◌, true, List, [], ◌∷◌, ◌++◌, Option, Some, None, inl, inr, length, map, get_or, refl, sym, ap, subst, ◌∙◌, arith}
use Rattle.std.specs.Prelude.{All, ◌==◌, ◌&&◌, option_map, option_and_then, slice_get}
use Rattle.std.specs.List.{list_all}
use Rattle.std.proofs.lemmas.Bool.{and_parts, cases_eq, cond-true, eqb-true}
use Rattle.std.proofs.lemmas.List.{append_assoc, append-nil, length_push}
use Rattle.std.proofs.lemmas.List.Elements.{All-head, All-tail}
use Rattle.std.proofs.lemmas.Option.{slice_get-get_or}
use Rattle.wc_value.specs.declared.process.Tree.{Tree, Tree-F, out-Tree, roll-Tree, out-roll-Tree}
use Rattle.wc_syntax.specs.declared.definition.Definition.{Definition}
use Rattle.wc_graph.specs.declared.link.Link.{Link}
use Rattle.wc_graph.specs.declared.link.LinkType.{LinkType}
use Rattle.wc_graph.specs.declared.link.LinkType.TheVariants as link
use Rattle.wc_graph.specs.Rules.{IsCall}
use Rattle.wc_semantics.specs.Rules.{unnumbered}
use Rattle.wc_semantics.specs.declared.progress.Answer.TheVariants.{Gave}
use Rattle.wc_semantics.specs.declared.progress.Planned.{Planned}
use Rattle.wc_semantics.specs.declared.progress.Progress.{Progress}
use Rattle.wc_semantics.specs.declared.progress.Replayed.{Replayed}
use Rattle.wc_semantics.specs.Meaning.{around, its_tree, meaning}
use Rattle.wc_semantics.specs.Run.{Call, label, next_label, with_call, child}
use Rattle.wc_semantics.specs.Run as run
use Rattle.wc_semantics.specs.Statements.{keyed}
use Rattle.wc_semantics.specs.Tables.{Label, Path, Table, Kills, under}
use Rattle.wc_state.specs.Context.{Pairs, found_at, with_set}
use Rattle.wc_state.specs.declared.environment.Child.{Child}
use Rattle.wc_state.specs.declared.environment.Item.{Item}
use Rattle.wc_state.specs.declared.record.Await.{Await}
use Rattle.wc_state.specs.declared.record.ProcessRecord.{ProcessRecord}
use Rattle.wc_value.specs.Ascending.{lookup}
use Rattle.wc_world.specs.World.{World}
use Rattle.wc_world.specs.Consistent.{Stands}
use Rattle.wc_world.specs.Records.{find_record, has_ended, calls, is_call_from, library_at}
use Rattle.wc_world.specs.Trees.{NamedValues, Branch, and_branch, branches, child_at, items_of, outputs_of, recorded_tree, tree_with, tree_within, values_alone}
use Rattle.wc_world.proofs.FoundRecords.{IsDeeper, call_is_deeper, found_holds, left, right}
use Rattle.wc_world.proofs.ReachedLists.{found_node}
use Rattle.wc_machine.specs.Agreement.{Agrees}
use Rattle.wc_machine.specs.Calls as calling
use Rattle.wc_machine.specs.Calls.{bound_in, fuel_at, fuel_of}
use Rattle.wc_machine.specs.Paths.{called_under, kills}
use Rattle.wc_machine.specs.Readiness.{ended_at, is_over}
use Rattle.wc_machine.specs.Recorded.{recorded_inputs}
use Rattle.wc_machine.specs.Rest.{and_planned, awaited, child_alone, levels_of, planned_of, without_number}
use Rattle.wc_machine.specs.Sound.{AreAwaited, IsMeant, IsPlaced, IsSound}
use Rattle.wc_turn_laws.specs.RunLaws.{IsUnderItsLabel}
use Rattle.wc_turn_laws.proofs.CalledLabels.{calls_under_labels}
use Rattle.wc_soundness.proofs.OthersOnTrack.{any_gives}
use Rattle.wc_soundness.specs.BoundAlike.{alone, IsBoundAlike}
use Rattle.wc_soundness.proofs.Contexts.{bound_alike}
use Rattle.wc_soundness.proofs.KillTaken.{Taken, plans, bound_now, cost, Known}

-- ---- what a process has called

call_is : (t : LinkType) → calls t ≡ true → IsCall t
call_is link.InputCalc h = absurd (cc)
call_is link.InputWork h = absurd (cc)
call_is link.Create h = absurd (cc)
call_is link.Return h = absurd (cc)
call_is link.CallCalc h = tt
call_is link.CallWork h = tt

-- A called process is one level deeper than its caller, of the same library, and stands under its label.
pub record IsChild (w : World) (r : ProcessRecord) (l : Link) : Type 0 where
  pub child : ProcessRecord
  pub is : find_record l.target w.records ≡ Some child
  pub number : child.node ≡ l.target
  pub deeper : child.depth ≡ suc r.depth
  pub low : child.depth ≤ 16
  pub library : child.library ≡ r.library
  pub under : IsUnderItsLabel w r.node l

module _ (w : World) (sound : IsSound w) where
  -- a process has one caller
  pub one_caller : (i j : ℕ) (d e : Link) → i < length w.links → j < length w.links → (a b : ℕ) → is_call_from a (get_or w.links i d) ≡ true
      → is_call_from b (get_or w.links j e) ≡ true → (get_or w.links i d).target ≡ (get_or w.links j e).target → a ≡ b
  one_caller i j d e lt low a b p q same =
      let l : Link = get_or w.links i d in
      let m : Link = get_or w.links j e in
      let at_l : slice_get w.links i ≡ Some l = slice_get-get_or w.links i d lt in
      let at_m : slice_get w.links j ≡ Some m = slice_get-get_or w.links j e low in
      let from_l : l.source ≡ a = eqb-true l.source a (right (calls l.link) (l.source == a) p) in
      let from_m : m.source ≡ b = eqb-true m.source b (right (calls m.link) (m.source == b) q) in
      elim (cases_eq i j) [
        | inl is ↦
            let again : Some l ≡ Some m = sym at_l ∙ ap (slice_get w.links) is ∙ at_m in
            let one : l ≡ m = cc in
            sym from_l ∙ ap (λ (x : Link). x.source) one ∙ from_m
        | inr ne ↦ absurd ((sound.links.apart i j l m ne at_l at_m).callers
            (call_is l.link (left (calls l.link) (l.source == a) p), call_is m.link (left (calls m.link) (m.source == b) q), same))
      ]

  module _ (r : ProcessRecord) (found : find_record r.node w.records ≡ Some r) where
    pub is_child : All (λ l. is_call_from r.node l ≡ true → IsChild w r l) w.links
    is_child = λ i d lt called.
        let l : Link = get_or w.links i d in
        let deep : IsDeeper r (find_record l.target w.records) = call_is_deeper w.records l r.node r found called (sound.consistent.calls i d lt) in
        let x : ProcessRecord = deep.0 in
        let number : x.node ≡ l.target = found_node l.target w.records x deep.1 in
        let below : x.depth ≡ suc r.depth = deep.2 in
        let above : 1 ≤ r.depth = (found_holds (Stands w) r.node w.records r sound.consistent.records found).not_below in
        let placed : IsPlaced w x = found_holds (IsPlaced w) l.target w.records x sound.placed deep.1 in
        let caller = placed.called (λ one. absurd (omega arith)) in
        let k : ProcessRecord = caller.0 in
        let same : k.node ≡ r.node = any_gives (k.node ≡ r.node) (λ m. is_call_from k.node m && (m.target == x.node)) w.links caller.1.1
        (λ j e low pass.
        let m : Link = get_or w.links j e in
        one_caller j i e d low lt k.node r.node (left (is_call_from k.node m) (m.target == x.node) pass) called
        (eqb-true m.target x.node (right (is_call_from k.node m) (m.target == x.node) pass) ∙ number)) in
        let again : Some k ≡ Some r = sym caller.1.0 ∙ ap (λ (n : ℕ). find_record n w.records) same ∙ found in
        let one : k ≡ r = cc in
        record {
          child = x;
          is = deep.1;
          number = number;
          deeper = below;
          low = (found_holds (Stands w) l.target w.records x sound.consistent.records deep.1).not_above;
          library = caller.1.3 ∙ ap (λ (y : ProcessRecord). y.library) one;
          under = calls_under_labels w sound r found i d lt called;
        }

-- ---- what is awaited

-- An awaited process has ended, and is meant.
pub record IsReady (w : World) (r : ProcessRecord) (n : ℕ) (l : Link) (a : Await) : Type 0 where
  pub of : IsChild w r l
  pub calls : is_call_from r.node l ≡ true
  pub target : l.target ≡ a.pid
  pub label : l.label ≡ label a.key n
  pub over : has_ended of.child.state ≡ true
  pub meant : IsMeant w of.child

abbrev pub AllReady : World → ProcessRecord → ℕ → List Link → List Await → Type 0
AllReady w r n [] [] = Unit {0}
AllReady w r n [] (a ∷ as') = ⊥
AllReady w r n (l ∷ ls) [] = ⊥
AllReady w r n (l ∷ ls) (a ∷ as') = IsReady w r n l a × AllReady w r (suc n) ls as'

pub all_ready : (w : World) → IsSound w → (r : ProcessRecord) (n : ℕ) (ls : List Link) (as' : List Await) → AreAwaited n ls as'
    → All (λ l. is_call_from r.node l ≡ true) ls → All (λ l. is_call_from r.node l ≡ true → IsChild w r l) ls
    → list_all (λ a. ended_at w.records a.pid) as' ≡ true → AllReady w r n ls as'
all_ready w sound r n [] [] h calls children through = tt
all_ready w sound r n [] (a ∷ as') h calls children through = absurd h
all_ready w sound r n (l ∷ ls) [] h calls children through = absurd h
all_ready w sound r n (l ∷ ls) (a ∷ as') h calls children through =
    let parts = and_parts (ended_at w.records a.pid) (list_all (λ b. ended_at w.records b.pid) as') through in
    let called : is_call_from r.node l ≡ true = All-head (λ l. is_call_from r.node l ≡ true) l ls calls in
    let c : IsChild w r l = All-head (λ l. is_call_from r.node l ≡ true → IsChild w r l) l ls children called in
    let over : has_ended c.child.state ≡ true = ap is_over (sym c.is) ∙ ap (ended_at w.records) h.0 ∙ parts.0 in (
      record {
        of = c;
        calls = called;
        target = h.0;
        label = h.1;
        over = over;
        meant = found_holds (λ q. has_ended q.state ≡ true → IsMeant w q) l.target w.records c.child sound.ended c.is over;
      },
      all_ready w sound r (suc n) ls as' h.2 (All-tail (λ l. is_call_from r.node l ≡ true) l ls calls)
          (All-tail (λ l. is_call_from r.node l ≡ true → IsChild w r l) l ls children) parts.1,
    )

-- ---- a recorded tree

-- what a recorded tree says of its process
pub record IsTreeOf (w : World) (pid : ℕ) (r : ProcessRecord) (t : Tree) : Type 0 where
  pub definition : (out-Tree t).definition ≡ r.definition
  pub state : (out-Tree t).state ≡ r.state
  pub outputs : (out-Tree t).outputs ≡ values_alone (outputs_of w pid)
  pub calls : branches (tree_within 15 w) pid w.links ≡ Some (out-Tree t).calls

pub tree_says : (w : World) (pid : ℕ) (r : ProcessRecord) (t : Tree) → find_record pid w.records ≡ Some r → recorded_tree w pid ≡ Some t → IsTreeOf w pid r t
tree_says w pid r t found h =
    at (branches (tree_within 15 w) pid w.links) refl
    (sym (ap (option_and_then (λ (x : ProcessRecord). option_map (tree_with x (values_alone (outputs_of w pid))) (branches (tree_within 15 w) pid w.links))) found) ∙ h)
  where
    at : (o : Option (List Branch)) → branches (tree_within 15 w) pid w.links ≡ o → option_map (tree_with r (values_alone (outputs_of w pid))) o ≡ Some t → IsTreeOf w pid r t
    at None is e = absurd (cc e)
    at (Some bs) is e =
        let f : Tree-F Tree = record { definition = r.definition; state = r.state; outputs = values_alone (outputs_of w pid); calls = bs } in
        let same : roll-Tree f ≡ t = cc in
        let opened : out-Tree t ≡ f = ap out-Tree (sym same) ∙ out-roll-Tree f in
        record {
          definition = ap (λ (g : Tree-F Tree). g.definition) opened;
          state = ap (λ (g : Tree-F Tree). g.state) opened;
          outputs = ap (λ (g : Tree-F Tree). g.outputs) opened;
          calls = is ∙ ap (λ (g : Tree-F Tree). Some g.calls) (sym opened);
        }

same_values : (os : NamedValues) → map unnumbered (values_alone os) ≡ map without_number os
same_values [] = refl
same_values (o ∷ os) = ap (λ (l : NamedValues). without_number o ∷ l) (same_values os)

-- the child that a recorded tree makes is the one that the world shows
child_shown : (w : World) (pid : ℕ) (r : ProcessRecord) (x : Replayed) → find_record pid w.records ≡ Some r → recorded_tree w pid ≡ Some x.tree
    → child_alone (record { node = pid; state = r.state; outputs = outputs_of w pid }) ≡ child x
child_shown w pid r x found h =
    let t = tree_says w pid r x.tree found h in
    λ i. record { node = 0; state = sym t.state i; outputs = (sym (same_values (outputs_of w pid)) ∙ ap (map unnumbered) (sym t.outputs)) i }

-- ---- the awaited calls

-- The awaited calls, taken: what each gives, and what the chain has then.
pub record AreTaken (w : World) (r : ProcessRecord) (call : Call) (ls : List Link) (as' : List Await) (ctx : Pairs) (e : Progress) : Type 0 where
  pub ks : List Taken
  pub known : Known call ks e
  pub planned : awaited w as' ≡ Some (plans ks)
  pub costs : cost ks ≡ fuel_of w.records as'
  pub more : List (Label × Replayed)
  pub calls : (bound_now ks e).calls ≡ e.calls ++ more
  pub trees : branches (recorded_tree w) r.node ls ≡ Some (map its_tree more)
  pub items : List (List ℕ × Item)
  pub seen : items_of w (bound_in ctx as') ≡ Some items
  pub env : (bound_now ks e).env ≡ record { inputs = e.env.inputs; ctx = alone items }
  pub outputs : (bound_now ks e).outputs ≡ e.outputs

-- kills that are the recorded ones at and below the calls of a process
abbrev pub FitCalls : Kills → World → ℕ → Type 0
FitCalls h w pid = (l : Label) (path : Path) (c : ℕ) → called_under w.links pid l ≡ Some c → h (l ∷ path) ≡ kills w pid (l ∷ path)

module _ (w : World) (r : ProcessRecord) (library : List Definition) (at_library : library_at w.libraries r.library ≡ Some library)
    (table : Table) (agrees : Agrees table w r.node) (h : Kills) (fits : FitCalls h w r.node) where
  -- what the calls of the process give
  abbrev pub its_call : Call
  its_call = (around (suc (16 - suc r.depth)) library table h).call

  module _ (n : ℕ) (l : Link) (a : Await) (y : IsReady w r n l a) (e : Progress) (number : length e.calls + 1 ≡ n) where
    abbrev c : ProcessRecord
    c = y.of.child

    abbrev plan : Planned
    plan = record { callee = c.definition; key = a.key; append = a.append; inputs = recorded_inputs w c.node }

    record IsGivenCall : Type 0 where
      given : Replayed
      remains : ℕ
      is : its_call (next_label plan e) c.fuel plan.callee plan.inputs ≡ Gave given remains
      tree : recorded_tree w l.target ≡ Some given.tree

    labelled : next_label plan e ≡ l.label
    labelled = ap (label a.key) number ∙ sym y.label

    given_call : IsGivenCall
    given_call =
        let T : Table = under l.label table in
        let agreed : Agrees T w c.node = subst (Agrees T w) (sym y.of.number) (y.of.under.tables table agrees) in
        let m = y.meant T agreed in
        let x : Replayed = m.2.0 in
        let rest : ℕ = m.2.1 in
        let there : library_at w.libraries c.library ≡ Some library = ap (library_at w.libraries) y.of.library ∙ at_library in
        let opened : Some (meaning (levels_of c) library T (kills w c.node) c.fuel c.definition (recorded_inputs w c.node)) ≡ Some (Gave x rest) =
        sym (ap (option_map (λ library. meaning (levels_of c) library T (kills w c.node) c.fuel c.definition (recorded_inputs w c.node))) there) ∙ m.2.2 in
        let gives : meaning (levels_of c) library T (kills w c.node) c.fuel c.definition (recorded_inputs w c.node) ≡ Gave x rest = cc in
        let cuts : (path : Path) → h (l.label ∷ path) ≡ kills w c.node path =
        λ path. fits l.label path l.target y.of.under.leads ∙ y.of.under.kills path ∙ ap (λ (m : ℕ). kills w m path) (sym y.of.number) in
        record {
          given = x;
          remains = rest;
          is = ap (λ (t : Label). its_call t c.fuel c.definition (recorded_inputs w c.node)) labelled
              ∙ (λ i. meaning (16 - sym y.of.deeper i) library T (λ path. cuts path i) c.fuel c.definition (recorded_inputs w c.node))
              ∙ gives;
          tree = ap (recorded_tree w) (sym y.of.number) ∙ m.1 ∙ ap (λ (t : Tree). Some t) (sym m.2.3);
        }

  -- The calls taken, forth.
  pub taken_all : (n : ℕ) (ls : List Link) (as' : List Await) (ctx : Pairs) (items : List (List ℕ × Item)) (e : Progress) → AllReady w r n ls as'
      → length e.calls + 1 ≡ n → items_of w ctx ≡ Some items → e.env.ctx ≡ alone items → AreTaken w r its_call ls as' ctx e
  taken_all n [] [] ctx items e ready number seen same = record {
    ks = [];
    known = tt;
    planned = refl;
    costs = refl;
    more = [];
    calls = sym (append-nil e.calls);
    trees = refl;
    items = items;
    seen = seen;
    env = λ i. record { inputs = e.env.inputs; ctx = same i };
    outputs = refl;
  }
  taken_all n [] (a ∷ as') ctx items e ready number seen same = absurd ready
  taken_all n (l ∷ ls) [] ctx items e ready number seen same = absurd ready
  taken_all n (l ∷ ls) (a ∷ as') ctx items e ready number seen same =
      let y : IsReady w r n l a = ready.0 in
      let x : ProcessRecord = y.of.child in
      let p : Planned = record { callee = x.definition; key = a.key; append = a.append; inputs = recorded_inputs w x.node } in
      let g = given_call n l a y e number in
      let name : Label = next_label p e in
      let after : Progress = with_call p name g.given e in
      let found : find_record a.pid w.records ≡ Some x = ap (λ (m : ℕ). find_record m w.records) (sym y.target) ∙ y.of.is in
      let shown : Child = record { node = a.pid; state = x.state; outputs = outputs_of w a.pid } in
      let at : child_at w a.pid ≡ Some shown = ap (option_map (λ (z : ProcessRecord). record { node = a.pid; state = z.state; outputs = outputs_of w a.pid })) found in
      let tree : recorded_tree w a.pid ≡ Some g.given.tree = ap (recorded_tree w) (sym y.target) ∙ g.tree in
      let b : IsBoundAlike w ctx items a.key a.append a.pid shown = bound_alike w ctx items a.key a.append a.pid shown seen at in
      let context : after.env.ctx ≡ alone b.new =
      (λ i. keyed a.key (run.joined a.append (lookup a.key (same i)) (sym (child_shown w a.pid x g.given found tree) i)) (same i)) ∙ b.same in
      let rest = taken_all (suc n) ls as' (with_set ctx a.key (calling.joined a.append (found_at ctx a.key) a.pid)) b.new after ready.1
      (omega (arith, length_push e.calls (name, g.given), number)) b.seen context in
      let joined : (e.calls ++ (name, g.given) ∷ []) ++ rest.more ≡ e.calls ++ ((name, g.given) ∷ rest.more) = append_assoc e.calls ((name, g.given) ∷ []) rest.more in
      let kept : fuel_at (find_record a.pid w.records) ≡ x.fuel = ap fuel_at found in
      record {
        ks = (p, g.given, x.fuel) ∷ rest.ks;
        known = ((g.remains, g.is), rest.known);
        planned = λ i. and_planned (planned_of w a (found i)) (rest.planned i);
        costs = let e = rest.costs in omega arith;
        more = (name, g.given) ∷ rest.more;
        calls = rest.calls ∙ joined;
        trees = cond-true (is_call_from r.node l) (and_branch (recorded_tree w l.target) l.label (branches (recorded_tree w) r.node ls)) (branches (recorded_tree w) r.node ls) y.calls
            ∙ (λ i. and_branch (g.tree i) (sym (labelled n l a y e number) i) (rest.trees i));
        items = rest.items;
        seen = rest.seen;
        env = rest.env;
        outputs = rest.outputs;
      }
