-- Where the record of one process is set anew, each other live process stays on track.
use Rattle.std.proofs.Common.{◌≡◌, ◌≢◌, ℕ, Bool, true, false, Option, Some, None, List, [], ◌∷◌, inl, inr, take, get_or, refl, sym, ap, subst, ◌∙◌}
use Rattle.std.specs.Prelude.{All, ◌==◌, ◌&&◌, not, option_map, option_and_then}
use Rattle.std.specs.List.{list_any}
use Rattle.std.specs.Str.{bytes_eq}
use Rattle.std.proofs.lemmas.Bool.{not-true, or_cases}
use Rattle.std.proofs.lemmas.List.Elements.{All-head, All-tail, All-weaker}
use Rattle.std.proofs.lemmas.Slice.Eq.{bytes_eq-Decides}
use Rattle.wc_value.specs.declared.process.ProcessState.{ProcessState}
use Rattle.wc_value.specs.declared.process.ProcessState.TheVariants as state
use Rattle.wc_graph.specs.declared.link.Link.{Link}
use Rattle.wc_semantics.specs.declared.progress.Answer.{Answer}
use Rattle.wc_semantics.specs.Tables.{Label, Path, Table, Kills}
use Rattle.wc_state.specs.declared.context.CtxRef.{CtxRef}
use Rattle.wc_state.specs.declared.context.CtxRef.TheVariants as held
use Rattle.wc_state.specs.declared.environment.Item.TheVariants as item
use Rattle.wc_state.specs.declared.record.Await.{Await}
use Rattle.wc_state.specs.declared.record.Checkpoint.{Checkpoint}
use Rattle.wc_state.specs.declared.record.Part.{Part}
use Rattle.wc_state.specs.declared.record.Part.TheVariants as part
use Rattle.wc_state.specs.declared.record.ProcessKind.{ProcessKind}
use Rattle.wc_state.specs.declared.record.ProcessKind.TheVariants as kind
use Rattle.wc_state.specs.declared.record.ProcessRecord.{ProcessRecord}
use Rattle.wc_world.specs.World.{World}
use Rattle.wc_world.specs.Fits.{part_fits, chain_runs, is_nil}
use Rattle.wc_world.specs.Records.{find_record, is_call_from}
use Rattle.wc_world.specs.Trees.{branches, recorded_tree, environment_at, outputs_of, inputs_of, child_at, children_at, and_child, item_of, and_item, items_of, context_of}
use Rattle.wc_world.proofs.FoundRecords.{found_holds, left, right}
use Rattle.wc_world.proofs.ReachedLists.{found_node, at_one_keeps}
use Rattle.wc_machine.specs.Paths.{called_under, follow, kills, cut_after, call_links}
use Rattle.wc_machine.specs.Recorded.{its_definition, recorded_inputs}
use Rattle.wc_machine.specs.Rest.{with_stop, meant, bound_calls, env_alone, set_values, progress_with, bound_trees, progress_of, planned_of, and_planned, awaited, chain_rest, part_rest, rest, is_awaited, has_bound, FitKills, GivesTree, IsOnTrack}
use Rattle.wc_machine.specs.Sound.{IsEndedCall, HoldsEnded, NamesKnown, IsSound}
use Rattle.wc_machine.proofs.Frames.{branches_by}
use Rattle.wc_turn_laws.specs.RunLaws.{IsUnderItsLabel}
use Rattle.wc_soundness.specs.Touches.{StaysEnded}
use Rattle.wc_turn_laws.proofs.CalledLabels.{calls_under_labels}
use Rattle.wc_soundness.proofs.Touched.{called_link}
use Rattle.wc_soundness.specs.Replaced.{IsSet}
use Rattle.wc_soundness.proofs.Replaced.{after, at_it, setting, found_mapped, found_other, stays, narrows, over_differs}
use Rattle.wc_soundness.proofs.KillChildren.{IsOver, over_if_not_awaited, all_over, bound_over}

-- a chain that runs awaits nothing
awaits_none : (k : ProcessKind) (c : Checkpoint) → chain_runs k (part.Chain c) ≡ true → (pid : ℕ) → is_awaited (part.Chain c) pid ≡ false
awaits_none kind.Function c h pid = absurd (cc)
awaits_none kind.Job c h pid = absurd (cc)
awaits_none kind.Chain c h pid = at c.awaiting h
  where
    at : (as' : List Await) → is_nil as' ≡ true → list_any (λ a. a.pid == pid) as' ≡ false
    at [] h = refl
    at (a ∷ as') h = absurd (cc)

pub runs_awaiting_none : (k : ProcessKind) (s : ProcessState) (p : Part) → part_fits k s p ≡ true → s ≡ state.Running → (pid : ℕ) → is_awaited p pid ≡ false
runs_awaiting_none k s part.Fresh h is pid = refl
runs_awaiting_none k s (part.Job j) h is pid = refl
runs_awaiting_none k s part.Over h is pid = refl
runs_awaiting_none k s (part.Chain c) h is pid = awaits_none k c (ap (λ (x : ProcessState). part_fits k x (part.Chain c)) (sym is) ∙ h) pid

-- what each link that passes a test gives, where one does
pub any_gives : (Q : Type 0) (test : Link → Bool) (ls : List Link) → list_any test ls ≡ true → All (λ l. test l ≡ true → Q) ls → Q
any_gives Q test [] h all = absurd (cc)
any_gives Q test (l ∷ ls) h all =
    elim (or_cases (test l) (list_any test ls) h) [
      | inl e ↦ All-head (λ l. test l ≡ true → Q) l ls all e
      | inr e ↦ any_gives Q test ls e (All-tail (λ l. test l ≡ true → Q) l ls all)
    ]

-- a call that is bound has ended, and stands under its label
pub bound_call : (w : World) → IsSound w → (q : ProcessRecord) → find_record q.node w.records ≡ Some q → (label : Label) → has_bound w q label ≡ true
    → (c : ℕ) × (called_under w.links q.node label ≡ Some c) × IsOver w c
bound_call w sound q found label h =
    any_gives ((c : ℕ) × (called_under w.links q.node label ≡ Some c) × IsOver w c)
    (λ l. (is_call_from q.node l && bytes_eq l.label label) && not (is_awaited q.part l.target)) w.links h
    (λ i d lt e.
    let l : Link = get_or w.links i d in
    let named : is_call_from q.node l && bytes_eq l.label label ≡ true = left (is_call_from q.node l && bytes_eq l.label label) _ e in
    let called : is_call_from q.node l ≡ true = left (is_call_from q.node l) (bytes_eq l.label label) named in
    let same : l.label ≡ label = (bytes_eq-Decides l.label label).0 (right (is_call_from q.node l) (bytes_eq l.label label) named) in
    let free : is_awaited q.part l.target ≡ false = not-true (is_awaited q.part l.target) (right (is_call_from q.node l && bytes_eq l.label label) _ e) in
    let under : IsUnderItsLabel w q.node l = calls_under_labels w sound q found i d lt called in
    (l.target, ap (called_under w.links q.node) (sym same) ∙ under.leads, over_if_not_awaited w sound q found i d lt called free))

module _ (w : World) (batch : ℕ) (r : ProcessRecord) (s : ProcessState) (fuel : ℕ) (p : Part) (i : IsSet w batch r s) (sound : IsSound w) where
  abbrev v : World
  v = after w batch r s fuel p

  -- ---- what has ended is as it was

  pub record IsSame (n : ℕ) : Type 0 where
    pub found : find_record n v.records ≡ find_record n w.records
    pub tree : recorded_tree v n ≡ recorded_tree w n
    pub kills : (path : Path) → kills v n path ≡ kills w n path

  pub over_same : (n : ℕ) → IsOver w n → IsSame n
  over_same n h =
      let x : ProcessRecord = h.0 in
      let number : x.node ≡ n = found_node n w.records x h.1 in
      let itself : find_record x.node w.records ≡ Some x = ap (λ (m : ℕ). find_record m w.records) number ∙ h.1 in
      let same : StaysEnded w v x = stays w batch r s fuel p i sound x itself h.2 in
      record {
        found = found_other w batch r s fuel p n (λ e. over_differs w batch r s fuel p i sound x itself h.2 (e ∙ sym number));
        tree = subst (λ (m : ℕ). recorded_tree v m ≡ recorded_tree w m) number same.tree;
        kills = λ path. subst (λ (m : ℕ). kills v m path ≡ kills w m path) number (same.kills path);
      }

  pub kills_under : (q : ℕ) (label : Label) (c : ℕ) → called_under w.links q label ≡ Some c → IsOver w c → (path : Path) → kills v q (label ∷ path) ≡ kills w q (label ∷ path)
  kills_under q label c h over path =
      ap (λ (o : Option ℕ). option_and_then (λ x. option_and_then (cut_after v) (find_record x v.records)) (option_and_then (λ y. follow w.links y path) o)) h
      ∙ (over_same c over).kills path
      ∙ sym (ap (λ (o : Option ℕ). option_and_then (λ x. option_and_then (cut_after w) (find_record x w.records)) (option_and_then (λ y. follow w.links y path) o)) h)

  -- the kills at and below the calls of a process that have all ended
  pub kills_below : (q : ℕ) → All (λ l. is_call_from q l ≡ true → IsOver w l.target) w.links → (label : Label) (path : Path) → kills v q (label ∷ path) ≡ kills w q (label ∷ path)
  kills_below q over label path = at (called_under w.links q label) refl
    where
      at : (o : Option ℕ) → called_under w.links q label ≡ o → kills v q (label ∷ path) ≡ kills w q (label ∷ path)
      at None h =
          ap (λ (o : Option ℕ). option_and_then (λ x. option_and_then (cut_after v) (find_record x v.records)) (option_and_then (λ y. follow w.links y path) o)) h
          ∙ sym (ap (λ (o : Option ℕ). option_and_then (λ x. option_and_then (cut_after w) (find_record x w.records)) (option_and_then (λ y. follow w.links y path) o)) h)
      at (Some c) h = kills_under q label c h (called_link (IsOver w) w.links q label c over h) path

  -- ---- environments

  pub child_same : (n : ℕ) → IsOver w n → child_at v n ≡ child_at w n
  child_same n h = ap (option_map (λ (x : ProcessRecord). record { node = n; state = x.state; outputs = outputs_of w n })) (over_same n h).found

  children_same : (ns : List ℕ) → All (IsOver w) ns → children_at v ns ≡ children_at w ns
  children_same [] all = refl
  children_same (n ∷ ns) all =
      λ j. and_child (child_same n (All-head (IsOver w) n ns all) j) (children_same ns (All-tail (IsOver w) n ns all) j)

  pub item_same : (q : ProcessRecord) (c : CtxRef) → HoldsEnded w q c → item_of v c ≡ item_of w c
  item_same q (held.Plain x) h = refl
  item_same q (held.One pid) h = ap (option_map item.One) (child_same pid h.1)
  item_same q (held.Many pids) h =
      ap (option_map item.Many) (children_same pids (All-weaker (IsEndedCall w q) (IsOver w) (λ n e. e.1) pids h))

  pub items_same : (q : ProcessRecord) (es : List (List ℕ × CtxRef)) → All (λ e. HoldsEnded w q e.1) es → items_of v es ≡ items_of w es
  items_same q [] all = refl
  items_same q (e ∷ es) all =
      λ j. and_item e.0 (item_same q e.1 (All-head (λ e. HoldsEnded w q e.1) e es all) j) (items_same q es (All-tail (λ e. HoldsEnded w q e.1) e es all) j)

  context_same : (q : ProcessRecord) (p : Part) → NamesKnown w q p → items_of v (context_of p) ≡ items_of w (context_of p)
  context_same q part.Fresh h = refl
  context_same q (part.Chain c) h = items_same q c.ctx h.0
  context_same q (part.Job j) h = refl
  context_same q part.Over h = refl

  -- ---- what awaits

  planned_same : (a : Await) → planned_of v a (find_record a.pid v.records) ≡ planned_of w a (find_record a.pid w.records)
  planned_same a = ap (planned_of v a) (found_mapped w batch r s fuel p a.pid) ∙ at (find_record a.pid w.records)
    where
      at : (o : Option ProcessRecord) → planned_of v a (option_map (at_it w batch r s fuel p) o) ≡ planned_of w a o
      at None = refl
      at (Some x) =
          at_one_keeps (λ (y : ProcessRecord). Some (record { callee = y.definition; key = a.key; append = a.append; inputs = recorded_inputs w y.node }))
          (setting w batch r s fuel p) (λ y. refl) r.node x

  pub awaited_same : (as' : List Await) → awaited v as' ≡ awaited w as'
  awaited_same [] = refl
  awaited_same (a ∷ as') = λ j. and_planned (planned_same a j) (awaited_same as' j)

  -- ---- another process

  module _ (q : ProcessRecord) (found : find_record q.node w.records ≡ Some q) (ne : r.node ≢ q.node) where
    found_still : find_record q.node v.records ≡ Some q
    found_still = found_other w batch r s fuel p q.node ne ∙ found

    fits_before : (cuts : Kills) → FitKills cuts v q → FitKills cuts w q
    fits_before cuts f = record {
      alive = f.alive;
      bound = λ label path b.
          let c = bound_call w sound q found label b in
          f.bound label path b ∙ kills_under q.node label c.0 c.1 c.2 path;
    }

    environment_same : environment_at v q.node ≡ environment_at w q.node
    environment_same =
        ap (option_and_then (λ (x : ProcessRecord). option_map (λ ctx. record { inputs = inputs_of w q.node; ctx = ctx }) (items_of v (context_of x.part)))) found_still
        ∙ ap (option_map (λ ctx. record { inputs = inputs_of w q.node; ctx = ctx }))
        (context_same q q.part (found_holds (λ x. NamesKnown w x x.part) q.node w.records q sound.names found))
        ∙ sym (ap (option_and_then (λ (x : ProcessRecord). option_map (λ ctx. record { inputs = inputs_of w q.node; ctx = ctx }) (items_of w (context_of x.part)))) found)

    trees_same : (c : Checkpoint) → q.part ≡ part.Chain c → bound_trees v q c ≡ bound_trees w q c
    trees_same c is =
        let links = take (bound_calls c) (call_links w q.node) in
        branches_by (recorded_tree v) (recorded_tree w) q.node links
        (All-weaker (λ l. is_call_from q.node l ≡ true → IsOver w l.target) (λ l. is_call_from q.node l ≡ true → recorded_tree v l.target ≡ recorded_tree w l.target)
        (λ l over called. (over_same l.target (over called)).tree) links (bound_over w sound q found c is))

    progress_same : (c : Checkpoint) → q.part ≡ part.Chain c → progress_of v q c ≡ progress_of w q c
    progress_same c is = λ j. progress_with (option_map env_alone (environment_same j)) (set_values w c.outputs) (trees_same c is j)

    rest_same : (table : Table) (cuts : Kills) (stop : Option ℕ) (n : ℕ) → rest v table cuts stop n q ≡ rest w table cuts stop n q
    rest_same table cuts stop n = at q.part refl
      where
        at : (x : Part) → q.part ≡ x → part_rest v table cuts stop n q x ≡ part_rest w table cuts stop n q x
        at part.Fresh is = refl
        at (part.Chain c) is = λ j. chain_rest w table cuts stop n q c (its_definition w q) (awaited_same c.awaiting j) (progress_same c is j)
        at (part.Job y) is = refl
        at part.Over is = refl

    kills_same : All (λ l. is_call_from q.node l ≡ true → IsOver w l.target) w.links → (path : Path) → kills v q.node path ≡ kills w q.node path
    kills_same over [] = ap (option_and_then (cut_after v)) found_still ∙ sym (ap (option_and_then (cut_after w)) found)
    kills_same over (label ∷ path) = kills_below q.node over label path

    pub other_on_track : part_fits q.kind q.state q.part ≡ true → IsOnTrack w q → IsOnTrack v q
    other_on_track fits track = record {
      onward = λ table cuts agrees f n stop t g.
          track.onward table cuts (narrows w batch r s fuel p i sound q found table agrees) (fits_before cuts f) n stop t
          (subst (λ (x : Option Answer). GivesTree x t) (rest_same table cuts stop n) g);
      comes = λ table cuts agrees f n t g.
          let h = track.comes table cuts (narrows w batch r s fuel p i sound q found table agrees) (fits_before cuts f) n t g in
          (h.0, subst (λ (x : Option Answer). GivesTree x t) (sym (rest_same table cuts None h.0)) h.1);
      cut = λ table agrees running c is some.
          let h = track.cut table (narrows w batch r s fuel p i sound q found table agrees) running c is some in
          let over = all_over w sound q found (runs_awaiting_none q.kind q.state q.part fits running) in
          let branches_same : branches (recorded_tree v) q.node w.links ≡ branches (recorded_tree w) q.node w.links =
          branches_by (recorded_tree v) (recorded_tree w) q.node w.links
          (All-weaker (λ l. is_call_from q.node l ≡ true → IsOver w l.target) (λ l. is_call_from q.node l ≡ true → recorded_tree v l.target ≡ recorded_tree w l.target)
          (λ l o called. (over_same l.target (o called)).tree) w.links over) in (
            h.0,
            branches_same ∙ h.1,
            (
              h.2.0,
              subst (λ (x : Option Answer). GivesTree x h.2.0)
                  (λ j. meant w q table (with_stop (λ path. sym (kills_same over path) j) (Some c.calls)) q.fuel) h.2.1,
              h.2.2,
              h.2.3,
            ),
          );
    }
