-- Each live process of a sound world means a tree, where those that nothing called do.
use Rattle.std.proofs.Common.{◌≡◌, ℕ, zero, suc, ◌+◌, ◌≤◌, Bool, true, false, List, [], ◌∷◌, Option, Some, None, inl, inr, length, map, take, drop, refl, sym, ap, subst, ◌∙◌, arith}
use Rattle.std.specs.Prelude.{All, ◌==◌, ◌&&◌, ◌||◌, not, option_map}
use Rattle.std.specs.List.{list_any}
use Rattle.std.proofs.lemmas.Bool.{and_parts, cases_Bool, cases_eq, eqb-true}
use Rattle.std.proofs.lemmas.List.{length-map, length_push, length-take-le}
use Rattle.std.proofs.lemmas.List.Elements.{All-drop, All-filter, All-head, All-tail, All-take, filter_passes}
use Rattle.wc_value.specs.declared.process.JobResult.{JobResult}
use Rattle.wc_value.specs.declared.process.Request.{Request}
use Rattle.wc_value.specs.declared.process.Tree.{Tree}
use Rattle.wc_syntax.specs.declared.definition.Chain.{Chain}
use Rattle.wc_syntax.specs.declared.definition.Definition.{Definition}
use Rattle.wc_syntax.specs.declared.definition.Definition.TheVariants as definition
use Rattle.wc_graph.specs.declared.link.Link.{Link}
use Rattle.wc_semantics.specs.Rules.{Values}
use Rattle.wc_semantics.specs.declared.progress.Answer.{Answer}
use Rattle.wc_semantics.specs.declared.progress.Answer.TheVariants.{Gave}
use Rattle.wc_semantics.specs.declared.progress.Planned.{Planned}
use Rattle.wc_semantics.specs.declared.progress.Progress.{Progress}
use Rattle.wc_semantics.specs.declared.progress.Replayed.{Replayed}
use Rattle.wc_semantics.specs.Meaning.{around, meaning, within}
use Rattle.wc_semantics.specs.Run.{Around, ◌>->◌, label, make_calls, next_label, run, stopped, take_calls, taken, with_call}
use Rattle.wc_semantics.specs.Tables.{Label, Path, Table, under}
use Rattle.wc_state.specs.declared.environment.Env.{Env}
use Rattle.wc_state.specs.declared.record.Await.{Await}
use Rattle.wc_state.specs.declared.record.Checkpoint.{Checkpoint}
use Rattle.wc_state.specs.declared.record.Part.{Part}
use Rattle.wc_state.specs.declared.record.Part.TheVariants as part
use Rattle.wc_state.specs.declared.record.ProcessRecord.{ProcessRecord}
use Rattle.wc_world.specs.World.{World}
use Rattle.wc_world.specs.Consistent.{Stands}
use Rattle.wc_world.specs.Fits.{calls_from, counted_calls, has_output}
use Rattle.wc_world.specs.Records.{find_record, has_ended, is_call_from, library_at}
use Rattle.wc_world.specs.Trees.{Branch, recorded_tree}
use Rattle.wc_world.proofs.FoundRecords.{found_holds}
use Rattle.wc_machine.specs.Agreement.{AgreesWithWorld}
use Rattle.wc_machine.specs.Outlines.{blocks, left}
use Rattle.wc_machine.specs.Paths.{call_links, kills}
use Rattle.wc_machine.specs.Recorded.{its_definition, recorded_inputs}
use Rattle.wc_machine.specs.Rest.{FitKills, GivesTree, IsOnTrack, and_planned, as_call, awaited, bound_calls, bound_trees, chain_rest, gone_on, is_awaited, levels_of, meant, part_rest, planned_of, progress_of, progress_with, rest, set_values}
use Rattle.wc_machine.specs.Sound.{AreAwaited, AwaitsLastCalls, CallsAreKept, IsPlaced, IsSound}
use Rattle.wc_soundness.proofs.KilledStanding.{branches_many, counted}
use Rattle.wc_soundness.proofs.KnownChildren.{IsChild, is_child}
use Rattle.wc_cost.specs.Laws.{RootsMean}
use Rattle.wc_cost.specs.Left.{by_request}
use Rattle.wc_cost.proofs.Flows.{GoesWell, well_before, well_ended, well_spent, well_taken}
use Rattle.wc_cost.proofs.Owing.{alive}

-- ---- how far a chain is

-- the calls of its progress have nothing asked
pub progress_parts : (env : Option Env) (outputs : Option Values) (calls : Option (List Branch)) (e : Progress) → progress_with env outputs calls ≡ Some e
    → (ts : List Branch) × (calls ≡ Some ts) × (e.calls ≡ map as_call ts)
progress_parts None outputs calls e h = absurd (cc)
progress_parts (Some env) None calls e h = absurd (cc)
progress_parts (Some env) (Some outputs) None e h = absurd (cc)
progress_parts (Some env) (Some outputs) (Some ts) e h =
    let same : record { env = env; outputs = outputs; calls = map as_call ts } ≡ e = cc in (ts, refl, sym (ap (λ (d : Progress). d.calls) same))

module _ (w : World) (sound : IsSound w) (r : ProcessRecord) (found : find_record r.node w.records ≡ Some r) (live : has_ended r.state ≡ false)
    (c : Checkpoint) (is : r.part ≡ part.Chain c) where
  many : length (call_links w r.node) ≡ c.calls
  many =
      let stands : Stands w r = found_holds (Stands w) r.node w.records r sound.consistent.records found in
      let parts = and_parts (not (has_output r.node w.links)) (calls_from r.node w.links == c.calls)
      ((λ i. sym live i || (not (has_output r.node w.links) && (calls_from r.node w.links == counted_calls (sym is i)))) ∙ stands.settled) in
      counted r.node w.links ∙ eqb-true (calls_from r.node w.links) c.calls parts.1

  -- as many calls are bound as its progress has
  pub number_bound : (e : Progress) → progress_of w r c ≡ Some e → length e.calls + 1 ≡ suc (bound_calls c)
  number_bound e h =
      let p = progress_parts _ (set_values w c.outputs) (bound_trees w r c) e h in
      let ls : List Link = take (bound_calls c) (call_links w r.node) in
      let few : length p.0 ≡ length ls =
      branches_many (recorded_tree w) r.node ls p.0
      (All-take (λ l. is_call_from r.node l ≡ true) (bound_calls c) (call_links w r.node) (filter_passes (is_call_from r.node) w.links)) p.1 in
      let cut : length ls ≡ bound_calls c = length-take-le (bound_calls c) (call_links w r.node) (let m = many in omega (arith, m)) in
      let same : length e.calls ≡ length p.0 = ap length p.2 ∙ length-map p.0 as_call in
      omega (arith, few, cut, same)

  pub last_awaited : AreAwaited (suc (bound_calls c)) (drop (bound_calls c) (call_links w r.node)) c.awaiting
  last_awaited = subst (AwaitsLastCalls w r) is (found_holds (λ x. AwaitsLastCalls w x x.part) r.node w.records r sound.awaits found)

module _ (results : Request → Option JobResult) (w : World) (sound : IsSound w) (agrees : AgreesWithWorld (by_request results) w) where
  abbrev table : Table
  table = by_request results

  abbrev pub Means : ProcessRecord → Type 0
  Means r = (n : ℕ) × (t : Tree) × GivesTree (meant w r (by_request results) (kills w r.node) n) t

  -- what a live process means, it still gives
  pub still_gives : (r : ProcessRecord) → find_record r.node w.records ≡ Some r → has_ended r.state ≡ false → Means r
      → (m : ℕ) × (t : Tree) × GivesTree (rest w table (kills w r.node) None m r) t
  still_gives r found live m =
      let track : IsOnTrack w r = found_holds (λ x. has_ended x.state ≡ false → IsOnTrack w x) r.node w.records r sound.live found live in
      let fits : FitKills (kills w r.node) w r = record { alive = alive w r found live; bound = λ name path b. refl } in
      let c = track.comes table (kills w r.node) (agrees.1 r found) fits m.0 m.1 m.2 in
      (c.0, m.1, c.1)

  abbrev pub around_chain : ProcessRecord → Chain → List Definition → Around
  around_chain r k library = within k.head.outputs None (around (levels_of r) library table (kills w r.node))

  -- A chain that has begun and still gives a tree goes on so.
  pub record GoesOn (r : ProcessRecord) (c : Checkpoint) (m : ℕ) : Type 0 where
    pub chain : Chain
    pub library : List Definition
    pub planned : List Planned
    pub progress : Progress
    pub is_chain : its_definition w r ≡ Some (definition.Chain chain)
    pub at_library : library_at w.libraries r.library ≡ Some library
    pub are_planned : awaited w c.awaiting ≡ Some planned
    pub is_progress : progress_of w r c ≡ Some progress
    pub tree : Replayed
    pub remains : ℕ
    pub gives : gone_on None r chain c (around_chain r chain library) m planned progress ≡ Gave tree remains

  pub goes_on : (r : ProcessRecord) (c : Checkpoint) (m : ℕ) (t : Tree)
      → GivesTree (chain_rest w table (kills w r.node) None m r c (its_definition w r) (awaited w c.awaiting) (progress_of w r c)) t → GoesOn r c m
  goes_on r c m t g = at (its_definition w r) (awaited w c.awaiting) (progress_of w r c) refl refl refl g
    where
      with_library : (k : Chain) (planned : List Planned) (e : Progress) → its_definition w r ≡ Some (definition.Chain k) → awaited w c.awaiting ≡ Some planned
          → progress_of w r c ≡ Some e → (o : Option (List Definition)) → library_at w.libraries r.library ≡ o
          → GivesTree (option_map (λ library. gone_on None r k c (around_chain r k library) m planned e) o) t → GoesOn r c m
      with_library k planned e d a p None is g = let h = g.2 in absurd (cc h)
      with_library k planned e d a p (Some library) is g = record {
        chain = k;
        library = library;
        planned = planned;
        progress = e;
        is_chain = d;
        at_library = is;
        are_planned = a;
        is_progress = p;
        tree = g.0;
        remains = g.1;
        gives = let h : Some (gone_on None r k c (around_chain r k library) m planned e) ≡ Some (Gave g.0 g.1) = g.2 in cc;
      }

      at : (d : Option Definition) (a : Option (List Planned)) (e : Option Progress) → its_definition w r ≡ d → awaited w c.awaiting ≡ a → progress_of w r c ≡ e
          → GivesTree (chain_rest w table (kills w r.node) None m r c d a e) t → GoesOn r c m
      at None a e d p q g = let h = g.2 in absurd (cc h)
      at (Some (definition.Function f)) a e d p q g = let h = g.2 in absurd (cc h)
      at (Some (definition.Job j)) a e d p q g = let h = g.2 in absurd (cc h)
      at (Some (definition.Chain k)) None e d p q g = let h = g.2 in absurd (cc h)
      at (Some (definition.Chain k)) (Some planned) None d p q g = let h = g.2 in absurd (cc h)
      at (Some (definition.Chain k)) (Some planned) (Some e) d p q g = with_library k planned e d p q (library_at w.libraries r.library) refl g

  -- ---- the calls of a chain

  module _ (k : ProcessRecord) (chain : Chain) (library : List Definition) (at_library : library_at w.libraries k.library ≡ Some library) where
    abbrev a : Around
    a = around_chain k chain library

    abbrev plan_of : Await → ProcessRecord → Planned
    plan_of x c = record { callee = c.definition; key = x.key; append = x.append; inputs = recorded_inputs w c.node }

    -- the call of a child is what the child means
    call_is_meant : (n : ℕ) (l : Link) (x : Await) (y : IsChild w k l) → l.label ≡ label x.key n → (e : Progress) → length e.calls + 1 ≡ n
        → (m : ℕ) (t : Replayed) (remains : ℕ)
        → a.call (next_label (plan_of x y.child) e) m (plan_of x y.child).callee (plan_of x y.child).inputs ≡ Gave t remains → Means y.child
    call_is_meant n l x y labelled e number m t remains h =
        let c : ProcessRecord = y.child in
        let inputs : Values = recorded_inputs w c.node in
        let there : library_at w.libraries c.library ≡ Some library = ap (library_at w.libraries) y.library ∙ at_library in
        let same : next_label (plan_of x c) e ≡ l.label = ap (label x.key) number ∙ sym labelled in
        let cuts : (path : Path) → kills w k.node (l.label ∷ path) ≡ kills w c.node path =
        λ path. y.under.kills path ∙ ap (λ (z : ℕ). kills w z path) (sym y.number) in
        let levels : levels_of k ≡ suc (levels_of c) = let low = y.low in let deeper = y.deeper in omega (arith, low, deeper) in
        let gives : meaning (levels_of c) library table (kills w c.node) m c.definition inputs ≡ Gave t remains =
        (λ i. meaning (levels_of c) library table (λ path. sym (cuts path) i) m c.definition inputs)
        ∙ ap (λ (z : Label). meaning (levels_of c) library table (under z (kills w k.node)) m c.definition inputs) (sym same)
        ∙ ap (λ (z : ℕ). (around z library table (kills w k.node)).call (next_label (plan_of x c) e) m c.definition inputs) (sym levels)
        ∙ h in
        (m, t.tree, (t, remains, ap (option_map (λ (z : List Definition). meaning (levels_of c) z table (kills w c.node) m c.definition inputs)) there ∙ ap (λ (z : Answer). Some z) gives, refl))

    abbrev MeansAt : ℕ → Type 0
    MeansAt pid = (c : ProcessRecord) × (find_record pid w.records ≡ Some c) × Means c

    planned_parts : (p : Planned) (o : Option (List Planned)) (ps : List Planned) → and_planned (Some p) o ≡ Some ps → (qs : List Planned) × (o ≡ Some qs) × (ps ≡ p ∷ qs)
    planned_parts p None ps h = absurd (cc)
    planned_parts p (Some qs) ps h = let same : p ∷ qs ≡ ps = cc in (qs, refl, sym same)

    -- where the awaited calls are taken, each child means a tree
    children_mean : (n : ℕ) (ls : List Link) (as' : List Await) (ps : List Planned) (e : Progress) (m : ℕ) → AreAwaited n ls as'
        → All (λ l. is_call_from k.node l ≡ true) ls → All (λ l. is_call_from k.node l ≡ true → IsChild w k l) ls → length e.calls + 1 ≡ n
        → awaited w as' ≡ Some ps → GoesWell (take_calls ps a m e) → (pid : ℕ) → list_any (λ x. x.pid == pid) as' ≡ true → MeansAt pid
    children_mean n [] [] ps e m are calls children number planned well pid held = absurd (cc held)
    children_mean n [] (x ∷ as') ps e m are calls children number planned well pid held = absurd are
    children_mean n (l ∷ ls) [] ps e m are calls children number planned well pid held = absurd are
    children_mean n (l ∷ ls) (x ∷ as') ps e m are calls children number planned well pid held =
        let y : IsChild w k l = All-head (λ l. is_call_from k.node l ≡ true → IsChild w k l) l ls children (All-head (λ l. is_call_from k.node l ≡ true) l ls calls) in
        let p : Planned = plan_of x y.child in
        let here : find_record x.pid w.records ≡ Some y.child = ap (λ (z : ℕ). find_record z w.records) (sym are.0) ∙ y.is in
        let parts = planned_parts p (awaited w as') ps (ap (λ (o : Option ProcessRecord). and_planned (planned_of w x o) (awaited w as')) (sym here) ∙ planned) in
        let qs : List Planned = parts.0 in
        let first : GoesWell (take_calls (p ∷ qs) a m e) = subst (λ (z : List Planned). GoesWell (take_calls z a m e)) parts.2 well in
        let spent = well_spent m (λ z. taken (a.call (next_label p e) z p.callee p.inputs) (λ t left. take_calls qs a left (with_call p (next_label p e) t e))) first in
        let given = well_taken (a.call (next_label p e) spent.0 p.callee p.inputs) (λ t left. take_calls qs a left (with_call p (next_label p e) t e)) spent.2 in
        elim (cases_Bool (x.pid == pid)) [
          | inl same ↦ (
            y.child,
            ap (λ (z : ℕ). find_record z w.records) (sym (eqb-true x.pid pid same)) ∙ here,
            call_is_meant n l x y are.1 e number spent.0 given.0 given.1 given.2,
          )
          | inr other ↦ children_mean (suc n) ls as' qs (with_call p (next_label p e) given.0 e) given.1 are.2
              (All-tail (λ l. is_call_from k.node l ≡ true) l ls calls) (All-tail (λ l. is_call_from k.node l ≡ true → IsChild w k l) l ls children)
              (omega (arith, length_push e.calls (next_label p e, given.0), number)) parts.1 given.3 pid
              (ap (λ (b : Bool). b || list_any (λ x. x.pid == pid) as') (sym other) ∙ held)
        ]

  well_taken_calls : (ps : List Planned) (a : Around) (n : ℕ) (e : Progress) → GoesWell (make_calls ps a n e) → GoesWell (take_calls ps a n e)
  well_taken_calls [] a n e h = h
  well_taken_calls (p ∷ ps) a n e h = well_before (take_calls (p ∷ ps) a n e) (stopped a) h

  -- A process that a live one awaits means a tree, where that one does.
  awaited_means : (k : ProcessRecord) → find_record k.node w.records ≡ Some k → has_ended k.state ≡ false → Means k → (pid : ℕ) → is_awaited k.part pid ≡ true
      → (c : ProcessRecord) × (find_record pid w.records ≡ Some c) × Means c
  awaited_means k found live means pid held = at k.part refl held (still_gives k found live means).2
    where
      m : ℕ
      m = (still_gives k found live means).0

      t : Tree
      t = (still_gives k found live means).1

      at : (p : Part) → k.part ≡ p → is_awaited p pid ≡ true → GivesTree (part_rest w table (kills w k.node) None m k p) t
          → (c : ProcessRecord) × (find_record pid w.records ≡ Some c) × Means c
      at part.Fresh is held g = absurd (cc held)
      at (part.Job j) is held g = absurd (cc held)
      at part.Over is held g = absurd (cc held)
      at (part.Chain c) is held g =
          let o = goes_on k c m t g in
          let a : Around = around_chain k o.chain o.library in
          let flow = make_calls o.planned a m o.progress in
          let well : GoesWell (make_calls o.planned a m o.progress) =
          well_before (make_calls o.planned a m o.progress) (λ z f. run (left (blocks o.chain.outline) c.frames) a z f)
          (well_ended k.definition o.chain.head.outputs (make_calls o.planned a m o.progress >-> (λ z f. run (left (blocks o.chain.outline) c.frames) a z f)) o.tree o.remains o.gives) in
          children_mean k o.chain o.library o.at_library (suc (bound_calls c)) (drop (bound_calls c) (call_links w k.node)) c.awaiting o.planned o.progress m
          (last_awaited w sound k found live c is)
          (All-drop (λ l. is_call_from k.node l ≡ true) (bound_calls c) (call_links w k.node) (filter_passes (is_call_from k.node) w.links))
          (All-drop (λ l. is_call_from k.node l ≡ true → IsChild w k l) (bound_calls c) (call_links w k.node)
          (All-filter (is_call_from k.node) (λ l. is_call_from k.node l ≡ true → IsChild w k l) w.links (is_child w sound k found)))
          (number_bound w sound k found live c is o.progress o.is_progress) o.are_planned (well_taken_calls o.planned a m o.progress well) pid held

  module _ (roots : RootsMean results w) where
    means_from : (d : ℕ) (r : ProcessRecord) → r.depth ≤ d → find_record r.node w.records ≡ Some r → has_ended r.state ≡ false → Means r
    means_from zero r low found live =
        let above : 1 ≤ r.depth = (found_holds (Stands w) r.node w.records r sound.consistent.records found).not_below in absurd (omega (arith, low, above))
    means_from (suc d) r low found live = elim (cases_eq r.depth 1) [
      | inl root ↦ roots r found live root
      | inr ne ↦
          let placed : IsPlaced w r = found_holds (IsPlaced w) r.node w.records r sound.placed found in
          let caller = placed.called ne in
          let k : ProcessRecord = caller.0 in
          elim (found_holds (CallsAreKept w) k.node w.records k sound.calls caller.1.0 r found caller.1.1) [
            | inl over ↦ absurd (cc (over, live))
            | inr awaits ↦
                let deeper : r.depth ≡ suc k.depth = caller.1.2 in
                let above : Means k = means_from d k (omega (arith, low, deeper)) caller.1.0 awaits.0 in
                let c = awaited_means k caller.1.0 awaits.0 above r.node awaits.1 in
                let again : Some c.0 ≡ Some r = sym c.1 ∙ found in
                let one : c.0 ≡ r = cc in
                subst Means one c.2
          ]
    ]

    -- Each live process means a tree.
    pub live_means : (r : ProcessRecord) → find_record r.node w.records ≡ Some r → has_ended r.state ≡ false → Means r
    live_means r found live = means_from r.depth r (omega arith) found live
