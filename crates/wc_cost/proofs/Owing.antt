-- A live process owes something.
use Rattle.std.proofs.Common.{◌≡◌, ℕ, zero, suc, ◌+◌, Bool, true, false, List, [], ◌∷◌, Option, Some, None, inl, inr, get_or, refl, ap, subst, ◌∙◌, arith}
use Rattle.std.specs.Prelude.{All, if◌then◌else◌, option_and_then, option_map}
use Rattle.std.proofs.lemmas.Bool.{cases_Bool}
use Rattle.std.proofs.lemmas.List.Elements.{All-nil, All-cons}
use Rattle.wc_value.specs.declared.process.JobResult.{JobResult}
use Rattle.wc_value.specs.declared.process.ProcessState.{ProcessState}
use Rattle.wc_value.specs.declared.process.ProcessState.TheVariants as state
use Rattle.wc_value.specs.declared.process.Request.{Request}
use Rattle.wc_syntax.specs.declared.definition.Definition.{Definition}
use Rattle.wc_syntax.specs.declared.definition.Definition.TheVariants as definition
use Rattle.wc_syntax.specs.declared.definition.Port.{Port}
use Rattle.wc_syntax.specs.declared.outline.Instr.{Instr, out-Instr}
use Rattle.wc_syntax.specs.Findings.{definition_named}
use Rattle.wc_expression.specs.declared.outcome.Outcome.{Outcome}
use Rattle.wc_expression.specs.declared.outcome.Outcome.TheVariants.{Gives, Faults}
use Rattle.wc_semantics.specs.Meaning.{first, is_killed}
use Rattle.wc_semantics.specs.Requests.{request}
use Rattle.wc_semantics.specs.Rules.{Values}
use Rattle.wc_semantics.specs.Run.{instrs}
use Rattle.wc_semantics.specs.Tables.{Kills, Table}
use Rattle.wc_semantics.specs.declared.progress.Planned.{Planned}
use Rattle.wc_semantics.specs.declared.progress.Progress.{Progress}
use Rattle.wc_state.specs.declared.record.Checkpoint.{Checkpoint}
use Rattle.wc_state.specs.declared.record.Part.{Part}
use Rattle.wc_state.specs.declared.record.Part.TheVariants as part
use Rattle.wc_state.specs.declared.record.ProcessKind.{ProcessKind}
use Rattle.wc_state.specs.declared.record.ProcessKind.TheVariants as kind
use Rattle.wc_state.specs.declared.record.ProcessRecord.{ProcessRecord}
use Rattle.wc_state.specs.declared.record.Task.{Task}
use Rattle.wc_state.specs.declared.record.Task.TheVariants as task
use Rattle.wc_world.specs.Fits.{calls_from, part_fits}
use Rattle.wc_world.specs.Records.{find_record, has_ended, library_at}
use Rattle.wc_world.specs.World.{World}
use Rattle.wc_world.proofs.ReachedLists.{unique}
use Rattle.wc_machine.specs.Outlines.{blocks, left}
use Rattle.wc_machine.specs.Paths.{cut_after, kills}
use Rattle.wc_machine.specs.Recorded.{its_definition, recorded_inputs, recorded_request}
use Rattle.wc_machine.specs.Rest.{awaited, levels_of, progress_of}
use Rattle.wc_cost.specs.Cost.{Costing, Tolls, cost, front_cost, job_cost, more, price, price_by, price_of, tolls}
use Rattle.wc_cost.specs.Laws.{LiveOwe}
use Rattle.wc_cost.specs.Left.{AllOwe, ChainOwes, FreshOwes, JobOwes, PartOwes, by_request, its_tolls}

-- ---- states

not_killed : (s : ProcessState) → has_ended s ≡ false → is_killed s ≡ false
not_killed state.Created h = refl
not_killed state.Running h = refl
not_killed state.Waiting h = refl
not_killed (state.Finished n) h = refl
not_killed (state.Excepted r) h = refl
not_killed state.Killed h = absurd (cc)

-- what is over has ended
pub over_ended : (k : ProcessKind) (s : ProcessState) → part_fits k s part.Over ≡ true → has_ended s ≡ false → ⊥
over_ended k state.Created h l = cc
over_ended kind.Function state.Running h l = cc
over_ended kind.Job state.Running h l = cc
over_ended kind.Chain state.Running h l = cc
over_ended kind.Function state.Waiting h l = cc
over_ended kind.Job state.Waiting h l = cc
over_ended kind.Chain state.Waiting h l = cc
over_ended k (state.Finished n) h l = cc
over_ended k (state.Excepted r) h l = cc
over_ended k state.Killed h l = cc

-- a live process has no kill of its own
pub alive : (w : World) (r : ProcessRecord) → find_record r.node w.records ≡ Some r → has_ended r.state ≡ false → kills w r.node [] ≡ None
alive w r found live =
    ap (option_and_then (cut_after w)) found ∙ ap (λ (b : Bool). if b then Some (calls_from r.node w.links) else None) (not_killed r.state live)

-- ---- no cost is 0

apart : (k : ℕ) → Some (1 + k) ≡ Some 0 → ⊥
apart k h = let e : 0 ≡ 1 + k = cc in omega (arith, e)

more_positive : (o : Option ℕ) → more 1 o ≡ Some 0 → ⊥
more_positive None h = cc
more_positive (Some k) h = apart k h

cost_positive : (g : Tolls) (b : ℕ) (is : List Instr) (e : Progress) → cost g b is e ≡ Some 0 → ⊥
cost_positive g zero is e h = cc
cost_positive g (suc b) [] e h = cc
cost_positive g (suc b) (i ∷ is) e h = more_positive (front_cost g (out-Instr i) i (cost g b) b is e) h

job_positive : (o : Outcome Request) (results : Request → Option JobResult) → job_cost o results ≡ Some 0 → ⊥
job_positive (Faults r) results h = cc
job_positive (Gives q) results h = at (results q) h
  where
    at : (o : Option JobResult) → option_map {U = ℕ} (λ (result : JobResult). 5) o ≡ Some 0 → ⊥
    at None h = cc
    at (Some x) h = apart 4 h

price_of_positive : (d : Option Definition) (results : Request → Option JobResult) (run : List Port → Costing) (inputs : Values)
    → ((ports : List Port) (is : List Instr) (e : Progress) → run ports is e ≡ Some 0 → ⊥) → price_of d results run inputs ≡ Some 0 → ⊥
price_of_positive None results run inputs p h = cc
price_of_positive (Some (definition.Function f)) results run inputs p h = cc
price_of_positive (Some (definition.Job j)) results run inputs p h = job_positive (request j inputs) results h
price_of_positive (Some (definition.Chain c)) results run inputs p h = p c.head.outputs (instrs c.outline) (first inputs) h

price_by_positive : (s : Option ℕ) (d : Option Definition) (results : Request → Option JobResult) (run : List Port → Costing) (inputs : Values) → s ≡ None
    → ((ports : List Port) (is : List Instr) (e : Progress) → run ports is e ≡ Some 0 → ⊥) → price_by s d results run inputs ≡ Some 0 → ⊥
price_by_positive None d results run inputs n p h = price_of_positive d results run inputs p h
price_by_positive (Some c) d results run inputs n p h = absurd (cc n)

price_positive : (levels : ℕ) (library : List Definition) (table : Table) (kills : Kills) (b : ℕ) (name : List ℕ) (inputs : Values) → kills [] ≡ None
    → price levels library table kills b name inputs ≡ Some 0 → ⊥
price_positive zero library table kills b name inputs n h =
    price_by_positive (kills []) (definition_named name library) (table []) (λ ports. cost (tolls zero library table kills ports) b) inputs n
    (λ ports is e. cost_positive (tolls zero library table kills ports) b is e) h
price_positive (suc levels) library table kills b name inputs n h =
    price_by_positive (kills []) (definition_named name library) (table []) (λ ports. cost (tolls (suc levels) library table kills ports) b) inputs n
    (λ ports is e. cost_positive (tolls (suc levels) library table kills ports) b is e) h

-- ---- no live process owes 0

module _ (results : Request → Option JobResult) (w : World) (r : ProcessRecord) where
  chain_positive : (c : Checkpoint) (library : Option (List Definition)) (d : Option Definition) (a : Option (List Planned)) (e : Option Progress)
      → ChainOwes results w r c library d a e 0 → ⊥
  chain_positive c None d a e p = p
  chain_positive c (Some library) None a e p = p
  chain_positive c (Some library) (Some (definition.Function f)) a e p = p
  chain_positive c (Some library) (Some (definition.Job j)) a e p = p
  chain_positive c (Some library) (Some (definition.Chain k)) None e p = p
  chain_positive c (Some library) (Some (definition.Chain k)) (Some []) None p = p
  chain_positive c (Some library) (Some (definition.Chain k)) (Some (x ∷ xs)) None p = p
  chain_positive c (Some library) (Some (definition.Chain k)) (Some []) (Some e) p =
      cost_positive (its_tolls results w r library k) p.0 (left (blocks k.outline) c.frames) e p.1
  chain_positive c (Some library) (Some (definition.Chain k)) (Some (x ∷ xs)) (Some e) (b, s, d, rest, h, costs, is) = omega (arith, is)

  job_owes : (t : Task) (o : Option (Outcome Request)) → JobOwes results w t o 0 → ⊥
  job_owes t None p = p
  job_owes t (Some (Faults f)) p = p
  job_owes task.Upload (Some (Gives q)) (x, h, is) = cc
  job_owes task.Submit (Some (Gives q)) (x, h, is) = cc
  job_owes task.Update (Some (Gives q)) (x, h, is) = cc
  job_owes task.Retrieve (Some (Gives q)) (x, h, is) = cc

  fresh_positive : (library : Option (List Definition)) → kills w r.node [] ≡ None → FreshOwes results w r library 0 → ⊥
  fresh_positive None n p = p
  fresh_positive (Some library) n p = price_positive (levels_of r) library (by_request results) (kills w r.node) p.0 r.definition (recorded_inputs w r.node) n p.1

  pub part_positive : (x : Part) → part_fits r.kind r.state x ≡ true → has_ended r.state ≡ false → kills w r.node [] ≡ None → PartOwes results w r x 0 → ⊥
  part_positive part.Fresh fits live n p = fresh_positive (library_at w.libraries r.library) n p
  part_positive (part.Chain c) fits live n p = chain_positive c (library_at w.libraries r.library) (its_definition w r) (awaited w c.awaiting) (progress_of w r c) p
  part_positive (part.Job j) fits live n p = job_owes j.task (recorded_request w r) p
  part_positive part.Over fits live n p = over_ended r.kind r.state fits live

all_zero : (results : Request → Option JobResult) (w : World) (rs : List ProcessRecord) → AllOwe results w rs 0 → All (λ r. PartOwes results w r r.part 0) rs
all_zero results w [] p = All-nil (λ r. PartOwes results w r r.part 0)
all_zero results w (r ∷ rs) (a, b, h, t, is) =
    let here : a ≡ 0 = omega (arith, is) in
    let there : b ≡ 0 = omega (arith, is) in
    All-cons (λ r. PartOwes results w r r.part 0) r rs (subst (PartOwes results w r r.part) here h) (all_zero results w rs (subst (AllOwe results w rs) there t))

pub live_owe : LiveOwe
live_owe results w c none i d lt =
    let r : ProcessRecord = get_or w.records i d in
    elim (cases_Bool (has_ended r.state)) [
      | inl over ↦ over
      | inr live ↦ absurd (part_positive results w r r.part (c.records i d lt).part live (alive w r (unique 1 w.nodes w.records c.numbered i d lt) live)
          (all_zero results w w.records none i d lt))
    ]
