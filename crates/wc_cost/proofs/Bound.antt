-- The turn of a work chain that binds the children that it awaited lowers what is left by one.
use Rattle.std.proofs.Common.{◌≡◌, ℕ, suc, ◌+◌, ◌-◌, ◌≤◌, true, List, [], ◌∷◌, ◌++◌, Option, Some, None, length, map, take, drop, refl, sym, ap, subst, ◌∙◌, arith}
use Rattle.std.specs.Prelude.{not, option_map, option_and_then}
use Rattle.std.proofs.lemmas.List.{length-map, map-append, take_all, take-append-drop}
use Rattle.std.proofs.lemmas.List.Elements.{All-filter, All-weaker}
use Rattle.wc_value.specs.declared.process.JobResult.{JobResult}
use Rattle.wc_value.specs.declared.process.ProcessState.TheVariants as state
use Rattle.wc_value.specs.declared.process.Request.{Request}
use Rattle.wc_value.specs.declared.process.Tree.{Tree}
use Rattle.wc_syntax.specs.declared.definition.Chain.{Chain}
use Rattle.wc_syntax.specs.declared.definition.Definition.{Definition}
use Rattle.wc_syntax.specs.declared.definition.Definition.TheVariants as definition
use Rattle.wc_syntax.specs.declared.definition.Port.{Port}
use Rattle.wc_syntax.specs.declared.outline.Instr.{Instr}
use Rattle.wc_graph.specs.declared.link.Link.{Link}
use Rattle.wc_semantics.specs.Laws.{MoreAnswer}
use Rattle.wc_semantics.specs.Meaning.{around, its_tree, meaning}
use Rattle.wc_semantics.specs.Rules.{Values}
use Rattle.wc_semantics.specs.Run.{Around, next_label, with_call}
use Rattle.wc_semantics.specs.Tables.{Kills, Label, Path, Table, under}
use Rattle.wc_semantics.specs.declared.progress.Answer.{Answer}
use Rattle.wc_semantics.specs.declared.progress.Answer.TheVariants.{Gave, TooLittle, Without, Astray}
use Rattle.wc_semantics.specs.declared.progress.Planned.{Planned}
use Rattle.wc_semantics.specs.declared.progress.Progress.{Progress}
use Rattle.wc_semantics.specs.declared.progress.Replayed.{Replayed}
use Rattle.wc_semantics.proofs.Keeps.{meaning_more}
use Rattle.wc_state.specs.declared.environment.Env.{Env}
use Rattle.wc_state.specs.declared.environment.Item.{Item}
use Rattle.wc_state.specs.declared.record.Checkpoint.{Checkpoint}
use Rattle.wc_state.specs.declared.record.Part.{Part}
use Rattle.wc_state.specs.declared.record.Part.TheVariants as part
use Rattle.wc_state.specs.declared.record.ProcessRecord.{ProcessRecord}
use Rattle.wc_world.specs.Applied.{set}
use Rattle.wc_world.specs.Records.{is_call_from, library_at}
use Rattle.wc_world.specs.Trees.{Branch, branches, context_of, environment_at, inputs_of, items_of, recorded_tree}
use Rattle.wc_world.specs.World.{World}
use Rattle.wc_world.proofs.FoundRecords.{right}
use Rattle.wc_machine.specs.Agreement.{Agrees}
use Rattle.wc_machine.specs.Calls.{bound, bound_in, fuel_of}
use Rattle.wc_machine.specs.Outlines.{blocks, left}
use Rattle.wc_machine.specs.Paths.{call_links, kills}
use Rattle.wc_machine.specs.Readiness.{may_go}
use Rattle.wc_machine.specs.Rest.{as_call, bound_calls, bound_trees, env_alone, levels_of, progress_of, progress_with}
use Rattle.wc_machine.specs.Sound.{IsSound}
use Rattle.wc_machine.specs.Tasks.{saturated}
use Rattle.wc_machine.proofs.Frames.{branches_by}
use Rattle.wc_soundness.specs.Binding.{Waits}
use Rattle.wc_soundness.specs.Replaced.{IsSet, set_to}
use Rattle.wc_soundness.specs.Touches.{MayBeTouched, Touches}
use Rattle.wc_soundness.proofs.Binding.{is_set}
use Rattle.wc_soundness.proofs.KillChildren.{IsOver}
use Rattle.wc_soundness.proofs.KillTaken.{Known, Taken, bound_now, plans}
use Rattle.wc_soundness.proofs.KilledStanding.{IsStanding, branches_append, calls_over, is_standing, library_of, many_calls, names_bound, one_level, progress_is, ready, some_awaited, standing_at}
use Rattle.wc_soundness.proofs.KnownChildren.{AreTaken, taken_all}
use Rattle.wc_soundness.proofs.OnTrack.{awaited_none, trees_again}
use Rattle.wc_soundness.proofs.OthersOnTrack.{items_same, over_same}
use Rattle.wc_soundness.proofs.Replaced.{after, found_now, may, now, touches}
use Rattle.wc_cost.specs.Cost.{Costs, Tolls, bare, bare_calls, bill, due_of, price, tolls, unasked}
use Rattle.wc_cost.specs.Left.{ChainOwes, IsLeft, PartOwes, by_request, its_tolls}
use Rattle.wc_cost.specs.Turns.{BindingsLower, LeavesLess}
use Rattle.wc_cost.proofs.Costed.{bare_label, bare_with}
use Rattle.wc_cost.proofs.KillsKept.{kills_kept}
use Rattle.wc_cost.proofs.OneLowered.{kills_none, lowered, owed_in}
use Rattle.wc_cost.proofs.Told.{progress_is_bare}

-- ---- what a bill binds

due_gave : (x : Answer) (p : Option ℕ) (z : Tree × ℕ) → due_of x p ≡ Some z → (t : Replayed) × (m : ℕ) × (x ≡ Gave t m) × (z.0 ≡ t.tree)
due_gave (Gave t m) None z h = absurd (cc h)
due_gave (Gave t m) (Some n) z h = let e : (t.tree, n) ≡ z = cc in (t, m, refl, ap (λ (y : Tree × ℕ). y.0) (sym e))
due_gave TooLittle p z h = absurd (cc h)
due_gave (Without q) p z h = absurd (cc h)
due_gave Astray p z h = absurd (cc h)

gave_more : (k : ℕ) (x y : Answer) (t : Replayed) (m : ℕ) → x ≡ Gave t m → MoreAnswer k x y → y ≡ Gave t (m + k)
gave_more k x y t m p q = subst (λ (z : Answer). MoreAnswer k z y) p q

module _ (levels : ℕ) (library : List Definition) (table : Table) (cuts : Kills) (ports : List Port) where
  abbrev g : Tolls
  g = tolls (suc levels) library table cuts ports

  abbrev about : Around
  about = around (suc levels) library table cuts

  due_tree : (l : Label) (b f : ℕ) (name : List ℕ) (inputs : Values) (z : Tree × ℕ) (x : Replayed) (rest : ℕ) → g.due l b name inputs ≡ Some z → about.call l f name inputs ≡ Gave x rest → z.0 ≡ x.tree
  due_tree l b f name inputs z x rest h is =
      let d = due_gave (meaning levels library (under l table) (under l cuts) b name inputs) (price levels library (under l table) (under l cuts) b name inputs) z h in
      let one : meaning levels library (under l table) (under l cuts) (b + f) name inputs ≡ Gave d.0 (d.1 + f) =
      gave_more f (meaning levels library (under l table) (under l cuts) b name inputs) _ d.0 d.1 d.2
      (meaning_more levels library (under l table) (under l cuts) b (b + f) f name inputs refl) in
      let two : meaning levels library (under l table) (under l cuts) (b + f) name inputs ≡ Gave x (rest + b) =
      gave_more b (meaning levels library (under l table) (under l cuts) f name inputs) _ x rest is
      (meaning_more levels library (under l table) (under l cuts) f (b + f) b name inputs (omega arith)) in
      let both : Gave d.0 (d.1 + f) ≡ Gave x (rest + b) = sym one ∙ two in
      let same : d.0 ≡ x = cc in
      d.3 ∙ ap (λ (y : Replayed). y.tree) same

  -- with the first of some calls bound to this tree
  abbrev first_bound : Taken → Progress → Tree → Progress
  first_bound k e t = with_call k.0 (next_label k.0 (bare e)) (unasked t) (bare e)

  abbrev Later : Taken → List Taken → Progress → ℕ → Type 0
  Later k ks e b = (y : ℕ × Progress) → bill g b (plans ks) (bare (with_call k.0 (next_label k.0 e) k.1 e)) ≡ Some y → y.1 ≡ bare (bound_now (k ∷ ks) e)

  later_binds : (k : Taken) (ks : List Taken) (e : Progress) (b : ℕ) (z : ℕ × Progress) → Later k ks e b → (t : Tree) → t ≡ k.1.tree → (o : Option (ℕ × Progress))
      → bill g b (plans ks) (first_bound k e t) ≡ o → (n : ℕ) → option_map (λ (r : ℕ × Progress). (n + r.0, r.1)) o ≡ Some z → z.1 ≡ bare (bound_now (k ∷ ks) e)
  later_binds k ks e b z later t is None billed n all = absurd (cc all)
  later_binds k ks e b z later t is (Some y) billed n all =
      let same : (n + y.0, y.1) ≡ z = cc in
      let from : first_bound k e t ≡ bare (with_call k.0 (next_label k.0 e) k.1 e) = ap (first_bound k e) is ∙ bare_with k.0 e k.1 in
      ap (λ (x : ℕ × Progress). x.1) (sym same) ∙ later y (ap (bill g b (plans ks)) (sym from) ∙ billed)

  first_binds : (k : Taken) (ks : List Taken) (e : Progress) (b : ℕ) (z : ℕ × Progress) → Known about.call (k ∷ ks) e → Later k ks e b
      → (o : Option (Tree × ℕ)) → g.due (next_label k.0 (bare e)) b k.0.callee k.0.inputs ≡ o
      → option_and_then (λ (d : Tree × ℕ). option_map (λ (r : ℕ × Progress). (d.1 + r.0, r.1)) (bill g b (plans ks) (first_bound k e d.0))) o ≡ Some z
      → z.1 ≡ bare (bound_now (k ∷ ks) e)
  first_binds k ks e b z known later None is all = absurd (cc all)
  first_binds k ks e b z known later (Some d) is all =
      let tree : d.0 ≡ k.1.tree = due_tree (next_label k.0 (bare e)) b k.2 k.0.callee k.0.inputs d k.1 known.0.0 is
      (ap (λ (l : Label). about.call l k.2 k.0.callee k.0.inputs) (bare_label k.0 e) ∙ known.0.1) in
      later_binds k ks e b z later d.0 tree (bill g b (plans ks) (first_bound k e d.0)) refl d.1 all

  -- known calls are bound to what they give
  bill_binds : (ks : List Taken) (e : Progress) (b : ℕ) (z : ℕ × Progress) → Known about.call ks e → bill g b (plans ks) (bare e) ≡ Some z → z.1 ≡ bare (bound_now ks e)
  bill_binds [] e b z known h = let same : (0, bare e) ≡ z = cc in ap (λ (y : ℕ × Progress). y.1) (sym same)
  bill_binds (k ∷ ks) e b z known h =
      first_binds k ks e b z known (λ y billed. bill_binds ks (with_call k.0 (next_label k.0 e) k.1 e) b y known.1 billed) (g.due (next_label k.0 (bare e)) b k.0.callee k.0.inputs) refl h

-- ---- calls without what was asked

bare_as_calls : (cs : List (Label × Replayed)) → bare_calls cs ≡ map as_call (map its_tree cs)
bare_as_calls [] = refl
bare_as_calls (c ∷ cs) = ap (λ (l : List (Label × Replayed)). (c.0, unasked c.1.tree) ∷ l) (bare_as_calls cs)

-- ---- a waiting chain whose children have ended

module _ (results : Request → Option JobResult) (w : World) (sound : IsSound w) (r : ProcessRecord) (agrees : Agrees (by_request results) w r.node) (k : Chain) (c : Checkpoint)
    (h : Waits w r k c) (few : w.batches + 1 ≤ 4000000000) (F : ℕ) where
  abbrev table : Table
  table = by_request results

  abbrev cuts : Kills
  cuts = kills w r.node

  abbrev then_at : Part
  then_at = part.Chain (bound c)

  abbrev v : World
  v = after w (w.batches + 1) r state.Running F then_at

  abbrev new : ProcessRecord
  new = now w (w.batches + 1) r state.Running F then_at

  i : IsSet w (w.batches + 1) r state.Running
  i = is_set w sound r k c h (w.batches + 1) (omega arith) (omega arith) few

  stood : IsStanding w sound r k c h
  stood = is_standing w sound r k c h

  abbrev b : ℕ
  b = bound_calls c

  abbrev e : Progress
  e = standing_at w sound r k c h stood

  abbrev links : List Link
  links = call_links w r.node

  its_library : (l : List Definition) × (library_at w.libraries r.library ≡ Some l)
  its_library = library_of (library_at w.libraries r.library) r.definition (definition.Chain k) h.definition

  abbrev library : List Definition
  library = its_library.0

  abbrev ports : List Port
  ports = k.head.outputs

  abbrev level : ℕ
  level = 16 - suc r.depth

  abbrev is : List Instr
  is = left (blocks k.outline) c.frames

  number : length e.calls + 1 ≡ suc b
  number = let many = stood.many in omega (arith, length-map stood.trees as_call)

  taken : AreTaken w r (around (suc level) library table cuts).call (drop b links) c.awaiting c.ctx e
  taken =
      taken_all w r library its_library.1 table agrees cuts (λ l path x y. refl) (suc b) (drop b links) c.awaiting c.ctx stood.items e (ready w sound r k c h) number stood.is_items refl

  abbrev trees : List Branch
  trees = stood.trees ++ map its_tree taken.more

  trees_before : branches (recorded_tree w) r.node links ≡ Some trees
  trees_before =
      ap (branches (recorded_tree w) r.node) (sym (take-append-drop b links))
      ∙ branches_append (recorded_tree w) r.node (take b links) (drop b links) stood.trees (map its_tree taken.more) stood.is_trees taken.trees

  same_trees : branches (recorded_tree v) r.node links ≡ branches (recorded_tree w) r.node links
  same_trees =
      branches_by (recorded_tree v) (recorded_tree w) r.node links
      (All-weaker (λ l. is_call_from r.node l ≡ true → IsOver w l.target) (λ l. is_call_from r.node l ≡ true → recorded_tree v l.target ≡ recorded_tree w l.target)
      (λ l o called. (over_same w (w.batches + 1) r state.Running F then_at i sound l.target (o called)).tree) links
      (All-filter (is_call_from r.node) (λ l. is_call_from r.node l ≡ true → IsOver w l.target) w.links (calls_over w sound r k c h)))

  abbrev seen : Progress
  seen = record { env = env_alone (record { inputs = inputs_of w r.node; ctx = taken.items }); outputs = stood.values; calls = map as_call trees }

  abbrev env_with : List (List ℕ × Item) → Env
  env_with ctx = record { inputs = inputs_of w r.node; ctx = ctx }

  env_now : environment_at v r.node ≡ Some (env_with taken.items)
  env_now =
      ap (option_and_then (λ (x : ProcessRecord). option_map env_with (items_of v (context_of x.part)))) (found_now w (w.batches + 1) r state.Running F then_at h.found)
      ∙ ap (option_map env_with) (items_same w (w.batches + 1) r state.Running F then_at i sound r (bound_in c.ctx c.awaiting) (names_bound w sound r k c h) ∙ taken.seen)

  trees_now : bound_trees v new (bound c) ≡ Some trees
  trees_now =
      ap (branches (recorded_tree v) r.node) (take_all (bound_calls (bound c)) links (let m = many_calls w sound r k c h in omega arith)) ∙ same_trees ∙ trees_before

  progress_now : progress_of v new (bound c) ≡ Some seen
  progress_now = λ j. progress_with (option_map env_alone (env_now j)) (stood.is_values j) (trees_now j)

  -- with nothing asked, the calls taken are what it sees then
  bound_is_seen : bare (bound_now taken.ks e) ≡ seen
  bound_is_seen =
      let calls : bare_calls (bound_now taken.ks e).calls ≡ map as_call trees =
      bare_as_calls (bound_now taken.ks e).calls
      ∙ ap (λ (l : List (Label × Replayed)). map as_call (map its_tree l)) taken.calls
      ∙ ap (map as_call) (map-append its_tree e.calls taken.more ∙ ap (λ (l : List Branch). l ++ map its_tree taken.more) (trees_again stood.trees)) in
      λ j. record { env = taken.env j; outputs = taken.outputs j; calls = calls j }

  -- ---- what it owes

  its_touch : Touches w v r.node
  its_touch = touches w (w.batches + 1) r state.Running F then_at i sound

  its_may : MayBeTouched w r.node
  its_may = may w (w.batches + 1) r state.Running F then_at i sound

  same_kills : (path : Path) → kills v r.node path ≡ kills w r.node path
  same_kills path = kills_kept w v r.node sound its_touch its_may
      (kills_none results w v r.node (set (w.batches + 1) (set_to r state.Running F then_at)) sound its_touch its_may refl (λ x. refl) r h.found refl) path r h.found

  abbrev OwesNow : ℕ → Type 0
  OwesNow n = Costs (its_tolls results w r library k) is seen n

  owes_now : (n : ℕ) → OwesNow n → PartOwes results v new then_at n
  owes_now n costs =
      subst (λ (x : Type 0). x)
      (λ j. ChainOwes results v new (bound c) (sym its_library.1 j) (sym h.definition j) (Some []) (sym progress_now j) n)
      (subst (λ (x : Type 0). x) (λ j. Costs (tolls (levels_of r) library table (λ path. sym (same_kills path) j) ports) is seen n) costs)

  abbrev OwedBy : ℕ → List Taken → Type 0
  OwedBy n ks = ChainOwes results w r c (Some library) (Some (definition.Chain k)) (Some (plans ks)) (Some e) n

  owed_by : (n : ℕ) (ks : List Taken) → Known (around (suc level) library table cuts).call ks e → (plans ks ≡ [] → ⊥) → OwedBy n ks
      → (rest : ℕ) × (d : Progress) × (d ≡ bare (bound_now ks e)) × Costs (its_tolls results w r library k) is d rest × (n ≡ suc rest)
  owed_by n [] known some owes = absurd (some refl)
  owed_by n (x ∷ xs) known some (bd, calls, d, rest, billed, costs, sum) =
      let at_level : bill (tolls (suc level) library table cuts ports) bd (plans (x ∷ xs)) e ≡ Some (calls, d) =
      ap (λ (l : ℕ). bill (tolls l library table cuts ports) bd (plans (x ∷ xs)) e) (sym (one_level w sound r k c h)) ∙ billed in
      let at_bare : bill (tolls (suc level) library table cuts ports) bd (plans (x ∷ xs)) (bare e) ≡ Some (calls, d) =
      ap (bill (tolls (suc level) library table cuts ports) bd (plans (x ∷ xs))) (progress_is_bare w r c e (progress_is w sound r k c h stood)) ∙ at_level in
      (rest, d, bill_binds level library table cuts ports (x ∷ xs) e bd (calls, d) known at_bare, costs, sum)

  owed_before : (n : ℕ) → PartOwes results w r (part.Chain c) n → (rest : ℕ) × OwesNow rest × (n ≡ suc rest)
  owed_before n owes =
      let opened : OwedBy n taken.ks = subst (λ (x : Type 0). x)
      (λ j. ChainOwes results w r c (its_library.1 j) (h.definition j) (taken.planned j) (progress_is w sound r k c h stood j) n) owes in
      let o = owed_by n taken.ks taken.known (λ none. some_awaited w sound r k c h (awaited_none w c.awaiting (taken.planned ∙ ap (λ (ps : List Planned). Some ps) none))) opened in
      (o.0, subst (λ (d : Progress). Costs (its_tolls results w r library k) is d o.0) (o.2 ∙ bound_is_seen) o.3, o.4)

  pub bound_less : (total : ℕ) → IsLeft results w total → LeavesLess results r.node v total
  bound_less total rest =
      let owed = owed_in results w r.node r w.records total rest h.found in
      let before = owed_before owed.0 (subst (λ (x : Part). PartOwes results w r x owed.0) h.part owed.1) in
      let sum = before.2 in
      let was : owed.0 ≡ before.0 + 1 = omega (arith, sum) in
      let l = lowered results w v r.node (set (w.batches + 1) (set_to r state.Running F then_at)) sound its_touch its_may refl (λ x. refl) r h.found refl
      1 before.0 (owes_now before.0 before.1) (subst (PartOwes results w r r.part) was owed.1) total rest in
      let less = l.2 in
      (l.0, l.1, omega (arith, less), λ none. omega (arith, less))

pub bindings_lower : BindingsLower
bindings_lower results at w r k c total sound agrees found is_now d waiting is accepted rest =
    let may_be : may_go w at r.state r.part ≡ true = right (not r.paused) (may_go w at r.state r.part) is_now in
    let h : Waits w r k c = record { found = found; definition = d; state = waiting; part = is; through = (λ j. may_go w at (sym waiting j) (sym is j)) ∙ may_be } in
    let room = accepted.batch in
    bound_less results w sound r (agrees.1 r found) k c h (omega (arith, room)) (saturated (r.fuel + fuel_of w.records c.awaiting)) total rest
