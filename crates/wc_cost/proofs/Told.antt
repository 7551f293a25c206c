-- It is told what is left of a sound world whose roots mean trees.
use Rattle.std.proofs.Common.{◌≡◌, ℕ, zero, suc, ◌+◌, true, false, List, [], ◌∷◌, Option, Some, None, inl, inr, get_or, map, refl, sym, ap, subst, ◌∙◌}
use Rattle.std.specs.Prelude.{All, option_map, option_and_then}
use Rattle.std.proofs.lemmas.Bool.{cases_Bool}
use Rattle.std.proofs.lemmas.List.Elements.{All-head, All-tail}
use Rattle.wc_value.specs.declared.process.JobResult.{JobResult}
use Rattle.wc_value.specs.declared.process.ProcessState.{ProcessState}
use Rattle.wc_value.specs.declared.process.ProcessState.TheVariants as state
use Rattle.wc_value.specs.declared.process.Request.{Request}
use Rattle.wc_syntax.specs.Findings.{definition_named}
use Rattle.wc_syntax.specs.declared.definition.Chain.{Chain}
use Rattle.wc_syntax.specs.declared.definition.Definition.{Definition}
use Rattle.wc_syntax.specs.declared.definition.Definition.TheVariants as definition
use Rattle.wc_syntax.specs.declared.definition.Job.{Job}
use Rattle.wc_syntax.specs.declared.outline.Instr.{Instr}
use Rattle.wc_expression.specs.declared.outcome.Outcome.{Outcome}
use Rattle.wc_expression.specs.declared.outcome.Outcome.TheVariants.{Gives}
use Rattle.wc_semantics.specs.Meaning.{around, by_kill, by_result, ended, job, meaning}
use Rattle.wc_semantics.specs.Outcomes.{parsed}
use Rattle.wc_semantics.specs.Requests.{request}
use Rattle.wc_semantics.specs.Rules.{Values}
use Rattle.wc_semantics.specs.Run.{Around, ◌>->◌, run, stopped, take_calls}
use Rattle.wc_semantics.specs.Tables.{Kills}
use Rattle.wc_semantics.specs.declared.progress.Answer.TheVariants.{Gave}
use Rattle.wc_semantics.specs.declared.progress.Flow.{Flow}
use Rattle.wc_semantics.specs.declared.progress.Flow.TheVariants.{Goes, Ends, NoFuel, Lacks, Off}
use Rattle.wc_semantics.specs.declared.progress.Planned.{Planned}
use Rattle.wc_semantics.specs.declared.progress.Progress.{Progress}
use Rattle.wc_semantics.specs.declared.progress.Replayed.{Replayed}
use Rattle.wc_state.specs.declared.record.Checkpoint.{Checkpoint}
use Rattle.wc_state.specs.declared.record.JobPart.{JobPart}
use Rattle.wc_state.specs.declared.record.Part.{Part}
use Rattle.wc_state.specs.declared.record.Part.TheVariants as part
use Rattle.wc_state.specs.declared.record.ProcessKind.{ProcessKind}
use Rattle.wc_state.specs.declared.record.ProcessRecord.{ProcessRecord}
use Rattle.wc_world.specs.World.{World}
use Rattle.wc_world.specs.Consistent.{Stands}
use Rattle.wc_world.specs.Fits.{is_over, part_fits}
use Rattle.wc_world.specs.Records.{find_record, has_ended, library_at}
use Rattle.wc_world.specs.Trees.{Branch}
use Rattle.wc_world.proofs.FoundRecords.{found_holds}
use Rattle.wc_world.proofs.ReachedLists.{unique}
use Rattle.wc_machine.specs.Agreement.{AgreesWithWorld}
use Rattle.wc_machine.specs.Outlines.{blocks, left}
use Rattle.wc_machine.specs.Paths.{kills}
use Rattle.wc_machine.specs.Recorded.{its_definition, recorded_inputs, recorded_request, request_by}
use Rattle.wc_machine.specs.Rest.{GivesTree, as_call, awaited, bound_trees, gone_on, levels_of, part_rest, progress_of, set_values}
use Rattle.wc_machine.specs.Sound.{IsFitting, IsSound, is_job_part}
use Rattle.wc_cost.specs.Cost.{Costs, Tolls, bare, bare_calls, bill}
use Rattle.wc_cost.specs.Laws.{LeftIsThere, RootsMean}
use Rattle.wc_cost.specs.Left.{AllOwe, ChainOwes, FreshOwes, JobOwes, PartOwes, by_request, its_tolls, tasks_left}
use Rattle.wc_cost.proofs.Costed.{Billed, take_billed}
use Rattle.wc_cost.proofs.LiveMeanings.{GoesOn, around_chain, goes_on, live_means, progress_parts, still_gives}
use Rattle.wc_cost.proofs.Owing.{alive}
use Rattle.wc_cost.proofs.Prices.{fair, priced, runs_cost}

-- ---- a progress with nothing asked

bare_branches : (ts : List Branch) → bare_calls (map as_call ts) ≡ map as_call ts
bare_branches [] = refl
bare_branches (t ∷ ts) = ap (λ (l : List _). as_call t ∷ l) (bare_branches ts)

pub progress_is_bare : (w : World) (r : ProcessRecord) (c : Checkpoint) (e : Progress) → progress_of w r c ≡ Some e → bare e ≡ e
progress_is_bare w r c e h =
    let p = progress_parts _ (set_values w c.outputs) (bound_trees w r c) e h in
    let same : bare_calls e.calls ≡ e.calls = ap bare_calls p.2 ∙ bare_branches p.0 ∙ sym p.2 in
    λ i. record { env = e.env; outputs = e.outputs; calls = same i }

-- ---- what is over

over_is : (p : Part) → is_over p ≡ true → p ≡ part.Over
over_is part.Fresh h = absurd (cc)
over_is (part.Chain c) h = absurd (cc)
over_is (part.Job j) h = absurd (cc)
over_is part.Over h = refl

ended_is_over : (k : ProcessKind) (s : ProcessState) (p : Part) → part_fits k s p ≡ true → has_ended s ≡ true → p ≡ part.Over
ended_is_over k state.Created p h e = absurd (cc e)
ended_is_over k state.Running p h e = absurd (cc e)
ended_is_over k state.Waiting p h e = absurd (cc e)
ended_is_over k (state.Finished n) p h e = over_is p h
ended_is_over k (state.Excepted r) p h e = over_is p h
ended_is_over k state.Killed p h e = over_is p h

-- ---- a job that means a tree has a row

module _ (results : Request → Option JobResult) (j : Job) (q : Request) (n : ℕ) (name : List ℕ) (inputs : Values) (x : Replayed) (m : ℕ) (asks : request j inputs ≡ Gives q) where
  abbrev HasRow : Type 0
  HasRow = (y : JobResult) × (results q ≡ Some y)

  result_row : (o : Option JobResult) → results q ≡ o → by_result name (parsed j inputs) q o n ≡ Gave x m → HasRow
  result_row None is h = absurd (cc h)
  result_row (Some y) is h = (y, is)

  job_row : (s : Option ℕ) (d : Option Definition) (a : Around) → s ≡ None → d ≡ Some (definition.Job j) → by_kill s d a results n name inputs ≡ Gave x m → HasRow
  job_row s d a lives is h = result_row (results q) refl
      (ap (λ (o : Outcome Request). job name o (parsed j inputs) results n) (sym asks) ∙ (λ i. by_kill (sym lives i) (sym is i) a results n name inputs) ∙ h)

  meaning_row : (levels : ℕ) (library : List Definition) (kills : Kills) → kills [] ≡ None → definition_named name library ≡ Some (definition.Job j)
      → meaning levels library (by_request results) kills n name inputs ≡ Gave x m → HasRow
  meaning_row zero library kills lives is h = job_row (kills []) (definition_named name library) (around zero library (by_request results) kills) lives is h
  meaning_row (suc levels) library kills lives is h = job_row (kills []) (definition_named name library) (around (suc levels) library (by_request results) kills) lives is h

job_of : (d : Option Definition) (inputs : Values) (q : Request) → request_by d inputs ≡ Some (Gives q) → (j : Job) × (d ≡ Some (definition.Job j)) × (request j inputs ≡ Gives q)
job_of None inputs q h = absurd (cc h)
job_of (Some (definition.Function f)) inputs q h = absurd (cc h)
job_of (Some (definition.Job j)) inputs q h = (j, refl, (let e : Some (request j inputs) ≡ Some (Gives q) = h in cc))
job_of (Some (definition.Chain c)) inputs q h = absurd (cc h)

module _ (results : Request → Option JobResult) (w : World) (sound : IsSound w) (agrees : AgreesWithWorld (by_request results) w) (roots : RootsMean results w) where
  abbrev Owes : ProcessRecord → Part → Type 0
  Owes r x = (n : ℕ) × PartOwes results w r x n

  -- ---- a created process

  fresh_owes : (r : ProcessRecord) (n : ℕ) (x : Replayed) (m : ℕ) (o : Option (List Definition))
      → option_map (λ (library : List Definition). meaning (levels_of r) library (by_request results) (kills w r.node) n r.definition (recorded_inputs w r.node)) o ≡ Some (Gave x m)
      → (k : ℕ) × FreshOwes results w r o k
  fresh_owes r n x m None h = absurd (cc h)
  fresh_owes r n x m (Some library) h =
      let given : Some (meaning (levels_of r) library (by_request results) (kills w r.node) n r.definition (recorded_inputs w r.node)) ≡ Some (Gave x m) = h in
      let gives : meaning (levels_of r) library (by_request results) (kills w r.node) n r.definition (recorded_inputs w r.node) ≡ Gave x m = cc in
      let p = priced (levels_of r) library (by_request results) (kills w r.node) n r.definition (recorded_inputs w r.node) x m gives in
      (p.1, (p.0, p.2))

  -- ---- a job at a task

  job_owes : (r : ProcessRecord) (j : JobPart) (q : Request) → find_record r.node w.records ≡ Some r → has_ended r.state ≡ false → recorded_request w r ≡ Some (Gives q)
      → (n : ℕ) (x : Replayed) (m : ℕ) (o : Option (List Definition)) → library_at w.libraries r.library ≡ o
      → option_map (λ (library : List Definition). meaning (levels_of r) library (by_request results) (kills w r.node) n r.definition (recorded_inputs w r.node)) o ≡ Some (Gave x m)
      → Owes r (part.Job j)
  job_owes r j q found live asks n x m None is h = absurd (cc h)
  job_owes r j q found live asks n x m (Some library) is h =
      let given : Some (meaning (levels_of r) library (by_request results) (kills w r.node) n r.definition (recorded_inputs w r.node)) ≡ Some (Gave x m) = h in
      let gives : meaning (levels_of r) library (by_request results) (kills w r.node) n r.definition (recorded_inputs w r.node) ≡ Gave x m = cc in
      let d = job_of (its_definition w r) (recorded_inputs w r.node) q asks in
      let named : definition_named r.definition library ≡ Some (definition.Job d.0) = ap (option_and_then (definition_named r.definition)) (sym is) ∙ d.1 in
      let row = meaning_row results d.0 q n r.definition (recorded_inputs w r.node) x m d.2 (levels_of r) library (kills w r.node) (alive w r found live) named gives in
      (tasks_left j.task, subst (λ (o : Option (Outcome Request)). JobOwes results w j.task o (tasks_left j.task)) (sym asks) (row.0, row.1, refl))

  -- ---- a chain

  module _ (r : ProcessRecord) (c : Checkpoint) (k : Chain) (library : List Definition) where
    abbrev g : Tolls
    g = its_tolls results w r library k

    abbrev a : Around
    a = around_chain results w sound agrees r k library

    abbrev is : List Instr
    is = left (blocks k.outline) c.frames

    abbrev OwesThen : List Planned → Progress → Type 0
    OwesThen ps e = (n : ℕ) × ChainOwes results w r c (Some library) (Some (definition.Chain k)) (Some ps) (Some e) n

    run_owes : (m : ℕ) (e : Progress) (x : Replayed) (l : ℕ) → ended None r.definition k.head.outputs (run is a m e) ≡ Gave x l → (n : ℕ) × Costs g is (bare e) n
    run_owes m e x l h = (runs_cost (levels_of r) library (by_request results) (kills w r.node) k.head.outputs).some r.definition is m e x l h

    billed_owes : (p : Planned) (ps : List Planned) (e : Progress) → bare e ≡ e → (x : Replayed) (l : ℕ) (f : Flow)
        → Billed g a (fair (levels_of r) library (by_request results) (kills w r.node) k.head.outputs) (p ∷ ps) e f
        → ended None r.definition k.head.outputs ((f >-> stopped a) >-> (λ z d. run is a z d)) ≡ Gave x l → OwesThen (p ∷ ps) e
    billed_owes p ps e same x l (Goes z d) b h =
        let rest = run_owes z d x l h in
        (suc rest.0, (b.0, b.1, bare d, rest.0, ap (bill g b.0 (p ∷ ps)) (sym same) ∙ b.2, rest.1, refl))
    billed_owes p ps e same x l (Ends s z d) b h = absurd b
    billed_owes p ps e same x l NoFuel b h = absurd (cc h)
    billed_owes p ps e same x l (Lacks q) b h = absurd (cc h)
    billed_owes p ps e same x l Off b h = absurd (cc h)

    then_owes : (m : ℕ) (ps : List Planned) (e : Progress) → bare e ≡ e → (x : Replayed) (l : ℕ) → gone_on None r k c a m ps e ≡ Gave x l → OwesThen ps e
    then_owes m [] e same x l h = let rest = run_owes m e x l h in (rest.0, subst (λ (z : Progress). Costs g is z rest.0) same rest.1)
    then_owes m (p ∷ ps) e same x l h =
        billed_owes p ps e same x l (take_calls (p ∷ ps) a m e)
        (take_billed g a (fair (levels_of r) library (by_request results) (kills w r.node) k.head.outputs) (p ∷ ps) m e) h

  chain_owes : (r : ProcessRecord) (c : Checkpoint) (m : ℕ) → GoesOn results w sound agrees r c m → Owes r (part.Chain c)
  chain_owes r c m o =
      let n = then_owes r c o.chain o.library m o.planned o.progress (progress_is_bare w r c o.progress o.is_progress) o.tree o.remains o.gives in (
        n.0,
        subst (λ (l : Option (List Definition)). ChainOwes results w r c l (its_definition w r) (awaited w c.awaiting) (progress_of w r c) n.0) (sym o.at_library)
            (subst (λ (d : Option Definition). ChainOwes results w r c (Some o.library) d (awaited w c.awaiting) (progress_of w r c) n.0) (sym o.is_chain)
            (subst (λ (p : Option (List Planned)). ChainOwes results w r c (Some o.library) (Some (definition.Chain o.chain)) p (progress_of w r c) n.0) (sym o.are_planned)
            (subst (λ (e : Option Progress). ChainOwes results w r c (Some o.library) (Some (definition.Chain o.chain)) (Some o.planned) e n.0) (sym o.is_progress) n.1))),
      )

  -- ---- each process

  live_owes : (r : ProcessRecord) → find_record r.node w.records ≡ Some r → has_ended r.state ≡ false → (x : Part) → r.part ≡ x → Owes r x
  live_owes r found live part.Fresh at =
      let m = live_means results w sound agrees roots r found live in fresh_owes r m.0 m.2.0 m.2.1 (library_at w.libraries r.library) m.2.2
  live_owes r found live (part.Job j) at =
      let m = live_means results w sound agrees roots r found live in
      let fits : IsFitting w r = found_holds (IsFitting w) r.node w.records r sound.records found in
      let asked = fits.request (ap is_job_part at) in
      job_owes r j asked.0 found live asked.1 m.0 m.2.0 m.2.1 (library_at w.libraries r.library) refl m.2.2
  live_owes r found live (part.Chain c) at =
      let g = still_gives results w sound agrees r found live (live_means results w sound agrees roots r found live) in
      let here : GivesTree (part_rest w (by_request results) (kills w r.node) None g.0 r (part.Chain c)) g.1 =
      subst (λ (x : Part). GivesTree (part_rest w (by_request results) (kills w r.node) None g.0 r x) g.1) at g.2 in
      chain_owes r c g.0 (goes_on results w sound agrees r c g.0 g.1 here)
  live_owes r found live part.Over at = (0, refl)

  owes : (r : ProcessRecord) → find_record r.node w.records ≡ Some r → Owes r r.part
  owes r found = elim (cases_Bool (has_ended r.state)) [
    | inl over ↦
        let stands : Stands w r = found_holds (Stands w) r.node w.records r sound.consistent.records found in
        let is : r.part ≡ part.Over = ended_is_over r.kind r.state r.part stands.part over in
        subst (Owes r) (sym is) (0, refl)
    | inr live ↦ live_owes r found live r.part refl
  ]

  all_owe : (rs : List ProcessRecord) → All (λ r. Owes r r.part) rs → (n : ℕ) × AllOwe results w rs n
  all_owe [] h = (0, refl)
  all_owe (r ∷ rs) h =
      let one = All-head (λ r. Owes r r.part) r rs h in
      let rest = all_owe rs (All-tail (λ r. Owes r r.part) r rs h) in
      (one.0 + rest.0, (one.0, rest.0, one.1, rest.1, refl))

pub left_is_there : LeftIsThere
left_is_there results w sound agrees roots =
    all_owe results w sound agrees roots w.records
    (λ i d lt. owes results w sound agrees roots (get_or w.records i d) (unique 1 w.nodes w.records sound.consistent.numbered i d lt))
