-- The turn of a work chain that submits calls lowers what is left by one: what the calls cost is what the called processes owe.
use Rattle.std.proofs.Common.{◌≡◌, ◌≢◌, ◌⊎◌, ℕ, zero, suc, ◌+◌, ◌-◌, ◌<◌, ◌≤◌, Bool, true, false, List, [], ◌∷◌, ◌++◌, Option, Some, None, inl, inr, length, map, take, refl, sym, ap, subst, ◌∙◌, arith}
use Rattle.std.specs.Prelude.{All, ◌==◌, if◌then◌else◌, option_map, option_and_then}
use Rattle.std.proofs.lemmas.Bool.{cases_eq}
use Rattle.std.proofs.lemmas.List.{length_push, length-map, length-take-le}
use Rattle.std.proofs.lemmas.List.Elements.{All-cons, All-filter, All-head, All-nil, All-tail, filter_passes, All-take}
use Rattle.wc_value.specs.declared.process.JobResult.{JobResult}
use Rattle.wc_value.specs.declared.process.Request.{Request}
use Rattle.wc_value.specs.declared.process.Tree.{Tree}
use Rattle.wc_syntax.specs.declared.definition.Chain.{Chain}
use Rattle.wc_syntax.specs.declared.definition.Definition.{Definition}
use Rattle.wc_syntax.specs.declared.definition.Definition.TheVariants as definition
use Rattle.wc_graph.specs.declared.link.Link.{Link}
use Rattle.wc_semantics.specs.Meaning.{is_killed, meaning}
use Rattle.wc_semantics.specs.Run.{label, next_label, with_call}
use Rattle.wc_semantics.specs.Rules.{Values}
use Rattle.wc_semantics.specs.Tables.{Label, Path, Table, under}
use Rattle.wc_semantics.specs.declared.progress.Answer.{Answer}
use Rattle.wc_semantics.specs.declared.progress.Answer.TheVariants.{Gave, TooLittle, Without, Astray}
use Rattle.wc_semantics.specs.declared.progress.Planned.{Planned}
use Rattle.wc_semantics.specs.declared.progress.Progress.{Progress}
use Rattle.wc_state.specs.declared.environment.Env.{Env}
use Rattle.wc_state.specs.declared.record.Checkpoint.{Checkpoint}
use Rattle.wc_state.specs.declared.record.Part.TheVariants as part
use Rattle.wc_state.specs.declared.record.ProcessRecord.{ProcessRecord}
use Rattle.wc_world.specs.Applied.{applied, set}
use Rattle.wc_world.specs.Records.{at_process, find_record, has_ended, is_call_from}
use Rattle.wc_world.specs.Trees.{inputs_of, recorded_tree}
use Rattle.wc_world.specs.World.{World}
use Rattle.wc_world.proofs.FoundRecords.{found_holds}
use Rattle.wc_world.proofs.ReachedWorlds.{accepted_is_consistent}
use Rattle.wc_machine.specs.Advances.{submits, advance}
use Rattle.wc_machine.specs.Calls.{advanced, called_number}
use Rattle.wc_machine.specs.Outlines.{blocks, left}
use Rattle.wc_machine.specs.Paths.{call_links, kills}
use Rattle.wc_machine.specs.Rest.{as_call, bound_calls, bound_trees, levels_of}
use Rattle.wc_machine.specs.Sound.{IsSound}
use Rattle.wc_machine.specs.Steps.{Call, values_in}
use Rattle.wc_turn_laws.specs.OutlineLaws.{as_planned}
use Rattle.wc_turn_laws.specs.OutlineLaws as outline
use Rattle.wc_turn_laws.specs.View.{progress_in}
use Rattle.wc_soundness.specs.Submitted.{EachCall, calls_records, child_record, first_free, its_call_link, links_of_calls, now_waits, submitted, waiting_at, waits_at}
use Rattle.wc_soundness.specs.Touches.{MayBeTouched, Touches}
use Rattle.wc_soundness.specs.TrackLaws.{IsAtTurn}
use Rattle.wc_soundness.proofs.CallingTurns.{calls_of_chains_keep_sound, calling, made}
use Rattle.wc_soundness.proofs.ChainStanding.{Standing, awaits_none, its_fit}
use Rattle.wc_soundness.proofs.ChainSubmissions.{live, some_calls, stands}
use Rattle.wc_soundness.proofs.KnownChildren.{IsChild, is_child}
use Rattle.wc_soundness.proofs.OneSet.{may_go}
use Rattle.wc_soundness.proofs.PlannedCalls.{IsMade}
use Rattle.wc_soundness.proofs.SeenWorlds.{view_of}
use Rattle.wc_soundness.proofs.SubmitTurns.{gives}
use Rattle.wc_soundness.proofs.Touching.{calls_touch}
use Rattle.wc_soundness.proofs.Touched.{within}
use Rattle.wc_soundness.proofs.AtOne.{found_other}
use Rattle.wc_cost.specs.Cost.{Costs, Tolls, bill, cost, due_of, more, price, tolls, unasked}
use Rattle.wc_cost.specs.Touches.{KillsNone}
use Rattle.wc_cost.specs.Left.{AllOwe, ChainOwes, FreshOwes, IsLeft, PartOwes, by_request, its_tolls}
use Rattle.wc_cost.specs.Turns.{LeavesLess, CallsLower}
use Rattle.wc_cost.proofs.ChainsLowered.{costs_after, costs_by, CostsAfter}
use Rattle.wc_cost.proofs.KillsKept.{kills_kept}
use Rattle.wc_cost.proofs.OneLowered.{old_lowered, owed_in}
use Rattle.wc_world.specs.declared.change.Change.{Change}
use Rattle.wc_machine.specs.Laws.{HasPlaces}
use Rattle.wc_soundness.proofs.Calling.{IsCalling, many_calls, progress_now}
use Rattle.wc_soundness.proofs.KilledStanding.{branches_many}

-- ---- dues and sums

due_price : (x : Answer) (p : Option ℕ) (z : Tree × ℕ) → due_of x p ≡ Some z → p ≡ Some z.1
due_price (Gave t m) None z h = absurd (cc h)
due_price (Gave t m) (Some n) z h = let e : (t.tree, n) ≡ z = cc in ap (λ (y : Tree × ℕ). Some y.1) e
due_price TooLittle p z h = absurd (cc h)
due_price (Without q) p z h = absurd (cc h)
due_price Astray p z h = absurd (cc h)

both_owe : (results : Request → Option JobResult) (w : World) (xs ys : List ProcessRecord) (m n : ℕ) → AllOwe results w xs m → AllOwe results w ys n → AllOwe results w (xs ++ ys) (m + n)
both_owe results w [] ys m n none h = let e : n ≡ m + n = omega (arith, none) in subst (AllOwe results w ys) e h
both_owe results w (x ∷ xs) ys m n (a, b, one, rest, sum) h = (a, b + n, one, both_owe results w xs ys b n rest h, omega (arith, sum))

all_behind : {A : Type 0} (P : A → Type 0) (xs ys : List A) → All P (xs ++ ys) → All P ys
all_behind P [] ys h = h
all_behind P (x ∷ xs) ys h = all_behind P xs ys (All-tail P x (xs ++ ys) h)

found_in : (pid : ℕ) (xs ys : List ProcessRecord) (r : ProcessRecord) → find_record pid (xs ++ ys) ≡ Some r → (find_record pid xs ≡ Some r) ⊎ (find_record pid ys ≡ Some r)
found_in pid [] ys r h = inr h
found_in pid (x ∷ xs) ys r h = at (x.node == pid) h (found_in pid xs ys r)
  where
    at : (b : Bool) → (if b then Some x else find_record pid (xs ++ ys)) ≡ Some r → (find_record pid (xs ++ ys) ≡ Some r → (find_record pid xs ≡ Some r) ⊎ (find_record pid ys ≡ Some r))
        → ((if b then Some x else find_record pid xs) ≡ Some r) ⊎ (find_record pid ys ≡ Some r)
    at true e later = inl e
    at false e later = later e

all_live : (w : World) (r : ProcessRecord) (next : ℕ) (calls : List Call) → All (λ x. is_killed x.state ≡ false) (calls_records w r next calls)
all_live w r next [] = All-nil (λ (x : ProcessRecord). is_killed x.state ≡ false)
all_live w r next (c ∷ cs) = All-cons (λ (x : ProcessRecord). is_killed x.state ≡ false) (child_record w r next c) (calls_records w r (suc (called_number w r next c)) cs) refl
    (all_live w r (suc (called_number w r next c)) cs)

-- where something is left after calls are submitted, they have a bill, and the run behind them has a cost
after_opened : (o : Option (ℕ × Progress)) (f : Progress → Option ℕ) (m : ℕ) → option_and_then (λ (r : ℕ × Progress). more (1 + r.0) (f r.1)) o ≡ Some m
    → (z : ℕ × Progress) × (rest : ℕ) × (o ≡ Some z) × (f z.1 ≡ Some rest) × (m ≡ (1 + z.0) + rest)
after_opened None f m h = absurd (cc h)
after_opened (Some z) f m h = at (f z.1) refl h
  where
    at : (p : Option ℕ) → f z.1 ≡ p → more (1 + z.0) p ≡ Some m → (y : ℕ × Progress) × (rest : ℕ) × (Some z ≡ Some y) × (f y.1 ≡ Some rest) × (m ≡ (1 + y.0) + rest)
    at None is h = absurd (cc h)
    at (Some rest) is h = let same : (1 + z.0) + rest ≡ m = cc in (z, rest, refl, is, sym same)

-- where a call can be due for nothing, calls have no bill
none_billed : (g : Tolls) (b : ℕ) (cs : List Call) (p : Progress) (z : ℕ × Progress) → length cs ≢ 0 → ((l : Label) (name : List ℕ) (values : Values) → g.due l b name values ≡ None)
    → bill g b (map as_planned cs) p ≡ Some z → ⊥
none_billed g b [] p z some never h = some refl
none_billed g b (x ∷ xs) p z some never h =
    let none : None ≡ Some z =
    sym (ap (option_and_then (λ (d : Tree × ℕ). option_map (λ (y : ℕ × Progress). (d.1 + y.0, y.1))
    (bill g b (map as_planned xs) (with_call (as_planned x) (next_label (as_planned x) p) (unasked d.0) p))))
    (never (next_label (as_planned x) p) x.definition (values_in x.args))) ∙ h in
    cc none

module _ (results : Request → Option JobResult) (w : World) (r : ProcessRecord) (k : Chain) (library : List Definition) (c : Checkpoint) (env : Env) (at : IsAtTurn w r k library c env)
    (d : Checkpoint) (calls : List Call) (e : advance library k r.depth env c ≡ submits d calls) where
  abbrev v : World
  v = submitted w r d calls

  abbrev s : ProcessRecord
  s = now_waits w r d calls

  abbrev then_at : Checkpoint
  then_at = waiting_at w r d calls

  abbrev table : Table
  table = by_request results

  abbrev g : Tolls
  g = its_tolls results w r library k

  lives : has_ended r.state ≡ false
  lives = live w r k library c env at

  standing : Standing r c
  standing = stands w r k library c env at

  touch : Touches w v r.node
  touch = calls_touch w r at.sound at.found lives d calls

  may : MayBeTouched w r.node
  may = may_go w r at.found lives (its_fit w at.sound r at.found) 0 c

  abbrev on : IsCalling w v r k library c d calls
  on = calling w r k library c env at d calls e

  found_s : find_record r.node v.records ≡ Some s
  found_s = on.submitted.found

  -- ---- nothing is killed

  none_killed : KillsNone w v r.node
  none_killed q is which = elim (found_in q.node (at_process r.node (set (w.batches + 1) (waits_at w r d calls)) w.records) (calls_records w r (first_free w r) calls) q is) [
    | inr new ↦ found_holds (λ x. is_killed x.state ≡ false) q.node (calls_records w r (first_free w r) calls) q (all_live w r (first_free w r) calls) new
    | inl old ↦
        elim (cases_eq r.node q.node) [
          | inl same ↦
              let again : Some q ≡ Some s = sym is ∙ ap (λ (n : ℕ). find_record n v.records) (sym same) ∙ found_s in
              let one : q ≡ s = cc in
              ap (λ (x : ProcessRecord). is_killed x.state) one
          | inr ne ↦ absurd (apart ne old which)
        ]
  ]
    where
      apart : r.node ≢ q.node → find_record q.node (at_process r.node (set (w.batches + 1) (waits_at w r d calls)) w.records) ≡ Some q → (r.node ≡ q.node) ⊎ (length w.nodes < q.node) → ⊥
      apart ne old (inl same) = ne same
      apart ne old (inr beyond) =
          let before : find_record q.node w.records ≡ Some q = sym (found_other r.node (set (w.batches + 1) (waits_at w r d calls)) (λ x. refl) w.records q.node ne) ∙ old in
          let low : q.node ≤ length w.nodes = within w v r.node at.sound touch may q.node q before in
          let high : length w.nodes < q.node = beyond in
          omega (arith, low, high)

  same_kills : (path : Path) → kills v r.node path ≡ kills w r.node path
  same_kills path = kills_kept w v r.node at.sound touch may none_killed path r at.found

  -- ---- what the called processes owe

  module _ (sound : IsSound v) (level : ℕ) (levels : levels_of r ≡ suc level) where
    abbrev g_at : Tolls
    g_at = tolls (suc level) library table (kills w r.node) k.head.outputs

    abbrev Called : Link → Type 0
    Called l = is_call_from r.node l ≡ true → IsChild v s l

    children_owe : (n next : ℕ) (cs : List Call) → EachCall w r (IsMade w r v) next cs → outline.AreNumbered n cs
        → All (λ l. is_call_from r.node l ≡ true) (links_of_calls w r next cs) → All Called (links_of_calls w r next cs)
        → (p : Progress) → length p.calls + 1 ≡ n → (b : ℕ) (z : ℕ × Progress) → bill g_at b (map as_planned cs) p ≡ Some z → AllOwe results v (calls_records w r next cs) z.0
    children_owe n next [] is numbered are called p number b z h = let same : (0, p) ≡ z = cc in ap (λ (y : ℕ × Progress). y.0) (sym same)
    children_owe n next (x ∷ xs) is numbered are called p number b z h = at_due (g_at.due (next_label (as_planned x) p) b x.definition (values_in x.args)) refl h
        (λ t y billed. children_owe (suc n) (suc (called_number w r next x)) xs is.1 numbered.1 (All-tail (λ l. is_call_from r.node l ≡ true) (its_call_link w r next x) (links_of_calls w r (suc (called_number w r next x)) xs) are)
        (All-tail Called (its_call_link w r next x) (links_of_calls w r (suc (called_number w r next x)) xs) called)
        (with_call (as_planned x) (next_label (as_planned x) p) (unasked t) p) (omega (arith, length_push p.calls (next_label (as_planned x) p, unasked t), number)) b y billed)
      where
        child_owes : (dd : Tree × ℕ) → g_at.due (next_label (as_planned x) p) b x.definition (values_in x.args) ≡ Some dd → PartOwes results v (child_record w r next x) part.Fresh dd.1
        child_owes dd due =
            let name : Label = next_label (as_planned x) p in
            let y : IsChild v s (its_call_link w r next x) =
            All-head Called (its_call_link w r next x) (links_of_calls w r (suc (called_number w r next x)) xs) called
            (All-head (λ l. is_call_from r.node l ≡ true) (its_call_link w r next x) (links_of_calls w r (suc (called_number w r next x)) xs) are) in
            let same : name ≡ x.label = ap (label x.key) number ∙ sym numbered.0 in
            let cut : (path : Path) → kills w r.node (name ∷ path) ≡ kills v (called_number w r next x) path =
            λ path. ap (λ (l : Label). kills w r.node (l ∷ path)) same ∙ sym (same_kills (x.label ∷ path)) ∙ y.under.kills path in
            let levels_are : level ≡ 16 - suc r.depth = omega (arith, levels) in
            let priced : price level library table (under name (kills w r.node)) b x.definition (values_in x.args) ≡ Some dd.1 =
            due_price (meaning level library (under name table) (under name (kills w r.node)) b x.definition (values_in x.args)) _ dd due in
            subst (λ (o : Option (List Definition)). FreshOwes results v (child_record w r next x) o dd.1) (sym at.library_there)
            (b, (λ i. price (sym levels_are i) library table (λ path. sym (cut path) i) b x.definition (is.0.1 i)) ∙ priced)

        at_rest : (dd : Tree × ℕ) → g_at.due (next_label (as_planned x) p) b x.definition (values_in x.args) ≡ Some dd → (o : Option (ℕ × Progress))
            → bill g_at b (map as_planned xs) (with_call (as_planned x) (next_label (as_planned x) p) (unasked dd.0) p) ≡ o
            → option_map (λ (y : ℕ × Progress). (dd.1 + y.0, y.1)) o ≡ Some z
            → ((t : Tree) (y : ℕ × Progress) → bill g_at b (map as_planned xs) (with_call (as_planned x) (next_label (as_planned x) p) (unasked t) p) ≡ Some y
            → AllOwe results v (calls_records w r (suc (called_number w r next x)) xs) y.0) → AllOwe results v (calls_records w r next (x ∷ xs)) z.0
        at_rest dd due None billed all later = absurd (cc all)
        at_rest dd due (Some y) billed all later =
            let same : (dd.1 + y.0, y.1) ≡ z = cc in
            (dd.1, y.0, child_owes dd due, later dd.0 y billed, ap (λ (q : ℕ × Progress). q.0) (sym same))

        at_due : (o : Option (Tree × ℕ)) → g_at.due (next_label (as_planned x) p) b x.definition (values_in x.args) ≡ o
            → option_and_then (λ (dd : Tree × ℕ). option_map (λ (y : ℕ × Progress). (dd.1 + y.0, y.1))
            (bill g_at b (map as_planned xs) (with_call (as_planned x) (next_label (as_planned x) p) (unasked dd.0) p))) o ≡ Some z
            → ((t : Tree) (y : ℕ × Progress) → bill g_at b (map as_planned xs) (with_call (as_planned x) (next_label (as_planned x) p) (unasked t) p) ≡ Some y
            → AllOwe results v (calls_records w r (suc (called_number w r next x)) xs) y.0) → AllOwe results v (calls_records w r next (x ∷ xs)) z.0
        at_due None due all later = absurd (cc all)
        at_due (Some dd) due all later = at_rest dd due _ refl all later

  -- ---- what the chain owes

  abbrev seen : List (Label × Tree) → Progress
  seen trees = progress_in (view_of w) (inputs_of w r.node) (map as_call trees) d

  abbrev Owes : List (Label × Tree) → List Planned → ℕ → Type 0
  Owes trees ps n = ChainOwes results v s then_at (Some library) (Some (definition.Chain k)) (Some ps) (Some (seen trees)) n

  owes_calls : (trees : List (Label × Tree)) (cs : List Call) → length cs ≢ 0 → (b owed : ℕ) (bound : Progress) (rest : ℕ)
      → bill g b (map as_planned cs) (seen trees) ≡ Some (owed, bound) → cost g b (left (blocks k.outline) d.frames) bound ≡ Some rest → Owes trees (map as_planned cs) (suc rest)
  owes_calls trees [] some b owed bound rest billed costs = absurd (some refl)
  owes_calls trees (x ∷ xs) some b owed bound rest billed costs = (
    b,
    owed,
    bound,
    rest,
    subst (λ (x : Type 0). x)
        (λ i. bill (tolls (levels_of r) library table (λ path. sym (same_kills path) i) k.head.outputs) b (map as_planned (x ∷ xs)) (seen trees) ≡ Some (owed, bound)) billed,
    subst (λ (x : Type 0). x)
        (λ i. Costs (tolls (levels_of r) library table (λ path. sym (same_kills path) i) k.head.outputs) (left (blocks k.outline) d.frames) bound rest) (b, costs),
    refl,
  )

  owes_s : (trees : List (Label × Tree)) → bound_trees w r c ≡ Some trees → (n : ℕ) → Owes trees (map as_planned calls) n → PartOwes results v s (part.Chain then_at) n
  owes_s trees h n owes =
      subst (λ (x : Type 0). x)
      (λ i. ChainOwes results v s then_at (sym at.library_there i) (sym at.definition i) (sym on.submitted.planned i) (sym (progress_now w v r k library c d calls on (Some trees) h) i) n) owes

  -- as many calls are bound as were made
  as_many_trees : (trees : List (Label × Tree)) → bound_trees w r c ≡ Some trees → length trees ≡ c.calls
  as_many_trees trees h =
      let none : length c.awaiting ≡ 0 = ap length (awaits_none w at.sound r at.found c standing) in
      let ls : List Link = take (bound_calls c) (call_links w r.node) in
      let many : length (call_links w r.node) ≡ c.calls = many_calls w v r k library c d calls on in
      let few : length trees ≡ length ls =
      branches_many (recorded_tree w) r.node ls trees
      (All-take (λ l. is_call_from r.node l ≡ true) (bound_calls c) (call_links w r.node) (filter_passes (is_call_from r.node) w.links)) h in
      let cut : length ls ≡ bound_calls c = length-take-le (bound_calls c) (call_links w r.node) (omega (arith, many)) in
      omega (arith, few, cut, none)

  -- ---- what is left

  module _ (sound : IsSound v) where
    are_calls : All (λ l. is_call_from r.node l ≡ true) (links_of_calls w r (first_free w r) calls)
    are_calls =
        all_behind (λ l. is_call_from r.node l ≡ true) (call_links w r.node) (links_of_calls w r (first_free w r) calls)
        (subst (All (λ l. is_call_from r.node l ≡ true)) on.submitted.links (filter_passes (is_call_from r.node) v.links))

    are_children : All (λ l. is_call_from r.node l ≡ true → IsChild v s l) (links_of_calls w r (first_free w r) calls)
    are_children =
        all_behind (λ l. is_call_from r.node l ≡ true → IsChild v s l) (call_links w r.node) (links_of_calls w r (first_free w r) calls)
        (subst (All (λ l. is_call_from r.node l ≡ true → IsChild v s l)) on.submitted.links
        (All-filter (is_call_from r.node) (λ l. is_call_from r.node l ≡ true → IsChild v s l) v.links (is_child v sound s found_s)))

    -- the called processes owe together what the bill says
    called_owe : (levels : ℕ) → levels_of r ≡ levels → (p : Progress) → length p.calls ≡ c.calls → (b : ℕ) (z : ℕ × Progress)
        → bill (tolls levels library table (kills w r.node) k.head.outputs) b (map as_planned calls) p ≡ Some z → AllOwe results v (calls_records w r (first_free w r) calls) z.0
    called_owe zero is p number b z h =
        absurd (none_billed (tolls zero library table (kills w r.node) k.head.outputs) b calls p z (some_calls w r k library c env at d calls e) (λ l name values. refl) h)
    called_owe (suc level) is p number b z h =
        children_owe sound level is (c.calls + 1) (first_free w r) calls (made w r k library c env at d calls e) on.numbered are_calls are_children p (omega (arith, number)) b z h

    lowered_by : (total : ℕ) → IsLeft results w total → (trees : List (Label × Tree)) → bound_trees w r c ≡ Some trees → (b owed : ℕ) (bound : Progress) (rest : ℕ)
        → bill g b (map as_planned calls) (seen trees) ≡ Some (owed, bound) → cost g b (left (blocks k.outline) d.frames) bound ≡ Some rest
        → PartOwes results w r r.part (suc rest + (owed + 1)) → LeavesLess results r.node v total
    lowered_by total h trees is b owed bound rest billed costs was =
        let new : PartOwes results v s (part.Chain then_at) (suc rest) =
        owes_s trees is (suc rest) (owes_calls trees calls (some_calls w r k library c env at d calls e) b owed bound rest billed costs) in
        let old = old_lowered results w v r.node (set (w.batches + 1) (waits_at w r d calls)) at.sound touch may none_killed r at.found (owed + 1) (suc rest) new was total h in
        let many : length (seen trees).calls ≡ c.calls = length-map trees as_call ∙ as_many_trees trees is in
        let children : AllOwe results v (calls_records w r (first_free w r) calls) owed = called_owe (levels_of r) refl (seen trees) many b (owed, bound) billed in
        let sum = old.2 in (
          old.0 + owed,
          both_owe results v (at_process r.node (set (w.batches + 1) (waits_at w r d calls)) w.records) (calls_records w r (first_free w r) calls) old.0 owed old.1 children,
          omega (arith, sum),
          λ none. omega (arith, sum),
        )

    costs_less : (total n : ℕ) → IsLeft results w total → PartOwes results w r r.part n → CostsAfter results w r k library c env at (submits d calls) n
        → LeavesLess results r.node v total
    costs_less total n h was (trees, is, (b, m, p, sum)) =
        let o = after_opened (bill g b (map as_planned calls) (seen trees)) (cost g b (left (blocks k.outline) d.frames)) m p in
        let owed : ℕ = o.0.0 in
        let rest : ℕ = o.1 in
        let parts = o.4 in
        let one : n ≡ suc rest + (owed + 1) = omega (arith, sum, parts) in
        lowered_by total h trees is b owed o.0.1 rest o.2 o.3 (subst (PartOwes results w r r.part) one was)

    pub calls_less : (total : ℕ) → IsLeft results w total → LeavesLess results r.node v total
    calls_less total h =
        let owed = owed_in results w r.node r w.records total h at.found in
        costs_less total owed.0 h owed.1
        (costs_after results w r k library c env at (submits d calls) e owed.0 (costs_by results w r k library c env at c standing owed.0 owed.1))

pub calls_lower : CallsLower
calls_lower results w r k library c d env total calls at e accepted h =
    let cs : List Change = advanced w r k.head.outputs (submits d calls) in
    let places : HasPlaces w (length (applied w cs).nodes) = record { nodes = (accepted_is_consistent w cs at.sound.consistent accepted).few; batches = accepted.batch } in
    let sound : IsSound (applied w cs) = (calls_of_chains_keep_sound w r k library c d env calls at e places).sound in
    let same : applied w cs ≡ submitted w r d calls = gives w r k library c d env calls at e in
    subst (λ (v : World). LeavesLess results r.node v total) (sym same) (calls_less results w r k library c env at d calls e (subst IsSound same sound) total h)
