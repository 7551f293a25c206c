-- A process that an event doesn't touch owes what it owed.
use Rattle.std.proofs.Common.{◌≡◌, ◌≢◌, ℕ, List, [], ◌∷◌, Option, Some, None, refl, sym, subst}
use Rattle.wc_value.specs.declared.process.JobResult.{JobResult}
use Rattle.wc_value.specs.declared.process.Request.{Request}
use Rattle.wc_syntax.specs.declared.definition.Definition.{Definition}
use Rattle.wc_syntax.specs.declared.definition.Definition.TheVariants as definition
use Rattle.wc_expression.specs.declared.outcome.Outcome.{Outcome}
use Rattle.wc_expression.specs.declared.outcome.Outcome.TheVariants.{Gives, Faults}
use Rattle.wc_semantics.specs.Tables.{Path}
use Rattle.wc_semantics.specs.declared.progress.Planned.{Planned}
use Rattle.wc_semantics.specs.declared.progress.Progress.{Progress}
use Rattle.wc_state.specs.declared.record.Checkpoint.{Checkpoint}
use Rattle.wc_state.specs.declared.record.Part.{Part}
use Rattle.wc_state.specs.declared.record.Part.TheVariants as part
use Rattle.wc_state.specs.declared.record.ProcessRecord.{ProcessRecord}
use Rattle.wc_state.specs.declared.record.Task.{Task}
use Rattle.wc_world.specs.World.{World}
use Rattle.wc_world.specs.Records.{find_record, library_at}
use Rattle.wc_world.specs.Trees.{context_of}
use Rattle.wc_world.proofs.FoundRecords.{left}
use Rattle.wc_machine.specs.Outlines as outlines
use Rattle.wc_machine.specs.Paths.{kills}
use Rattle.wc_machine.specs.Recorded.{its_definition, recorded_inputs, recorded_request}
use Rattle.wc_machine.specs.Rest.{awaited, levels_of, progress_of}
use Rattle.wc_machine.specs.Sound.{IsSound}
use Rattle.wc_machine.proofs.Frames.{NoCallFrom}
use Rattle.wc_soundness.specs.Touches.{MayBeTouched, Touches}
use Rattle.wc_soundness.proofs.Standing.{awaited_same, definition_same, progress_same}
use Rattle.wc_soundness.proofs.Touched.{found_kept, inputs_kept, library_kept, no_call, request_kept, within}
use Rattle.wc_cost.specs.Cost.{Costs, Prices, bill, tolls}
use Rattle.wc_cost.specs.Touches.{KillsNone, OthersOweTheSame}
use Rattle.wc_cost.specs.Left.{ChainOwes, FreshOwes, JobOwes, PartOwes, by_request}
use Rattle.wc_cost.proofs.KillsKept.{kills_kept}

module _ (results : Request → Option JobResult) (v w : World) (pid : ℕ) (s : IsSound v) (t : Touches v w pid) (may : MayBeTouched v pid) (none : KillsNone v w pid)
    (r : ProcessRecord) (found : find_record r.node v.records ≡ Some r) (ne : pid ≢ r.node) (n : ℕ) where
  quiet : NoCallFrom r.node t.new
  quiet = no_call v w pid s t may r.node (within v w pid s t may r.node r found) ne

  abbrev again : (q : ProcessRecord) × (find_record r.node w.records ≡ Some q) × (context_of q.part ≡ context_of r.part)
  again = (r, found_kept v w pid s t may r found ne, refl)

  its_kills : (path : Path) → kills w r.node path ≡ kills v r.node path
  its_kills path = kills_kept v w pid s t may none path r found

  inputs_same : recorded_inputs w r.node ≡ recorded_inputs v r.node
  inputs_same = inputs_kept v w pid s t may r.node (within v w pid s t may r.node r found)

  -- where a chain stands is as it was
  awaits_same : (c : Checkpoint) → r.part ≡ part.Chain c → awaited w c.awaiting ≡ awaited v c.awaiting
  awaits_same c is = awaited_same v w pid s t may r found quiet again c is

  progress_is_same : (c : Checkpoint) → r.part ≡ part.Chain c → progress_of w r c ≡ progress_of v r c
  progress_is_same c is = progress_same v w pid s t may r found quiet again c is

  -- ---- what it owes

  fresh_same : (o : Option (List Definition)) → FreshOwes results v r o n → FreshOwes results w r o n
  fresh_same None h = h
  fresh_same (Some library) h =
      subst (λ (x : Type 0). x) (λ i. Prices (levels_of r) library (by_request results) (λ path. sym (its_kills path) i) r.definition (sym inputs_same i) n) h

  chain_same : (c : Checkpoint) (o : Option (List Definition)) (d : Option Definition) (a : Option (List Planned)) (e : Option Progress)
      → ChainOwes results v r c o d a e n → ChainOwes results w r c o d a e n
  chain_same c None d a e h = absurd h
  chain_same c (Some library) None a e h = absurd h
  chain_same c (Some library) (Some (definition.Function f)) a e h = absurd h
  chain_same c (Some library) (Some (definition.Job j)) a e h = absurd h
  chain_same c (Some library) (Some (definition.Chain k)) None e h = absurd h
  chain_same c (Some library) (Some (definition.Chain k)) (Some []) None h = absurd h
  chain_same c (Some library) (Some (definition.Chain k)) (Some (p ∷ ps)) None h = absurd h
  chain_same c (Some library) (Some (definition.Chain k)) (Some []) (Some e) h =
      subst (λ (x : Type 0). x)
      (λ i. Costs (tolls (levels_of r) library (by_request results) (λ path. sym (its_kills path) i) k.head.outputs) (outlines.left (outlines.blocks k.outline) c.frames) e n) h
  chain_same c (Some library) (Some (definition.Chain k)) (Some (p ∷ ps)) (Some e) (b, calls, then_at, rest, billed, costs, sum) = (
    b,
    calls,
    then_at,
    rest,
    subst (λ (x : Type 0). x) (λ i. bill (tolls (levels_of r) library (by_request results) (λ path. sym (its_kills path) i) k.head.outputs) b (p ∷ ps) e ≡ Some (calls, then_at)) billed,
    subst (λ (x : Type 0). x)
        (λ i. Costs (tolls (levels_of r) library (by_request results) (λ path. sym (its_kills path) i) k.head.outputs) (outlines.left (outlines.blocks k.outline) c.frames) then_at rest) costs,
    sum,
  )

  job_same : (x : Task) (o : Option (Outcome Request)) → JobOwes results v x o n → JobOwes results w x o n
  job_same x None h = h
  job_same x (Some (Faults f)) h = h
  job_same x (Some (Gives q)) h = h

  owes_same : (x : Part) → r.part ≡ x → PartOwes results v r x n → PartOwes results w r x n
  owes_same part.Fresh is h =
      fresh_same (library_at w.libraries r.library) (subst (λ (o : Option (List Definition)). FreshOwes results v r o n) (sym (library_kept v w pid s t may r found)) h)
  owes_same (part.Chain c) is h =
      chain_same c (library_at w.libraries r.library) (its_definition w r) (awaited w c.awaiting) (progress_of w r c)
      (subst (λ (x : Type 0). x)
      (λ i. ChainOwes results v r c (sym (library_kept v w pid s t may r found) i) (sym (definition_same v w pid s t may r found quiet again) i) (sym (awaits_same c is) i) (sym (progress_is_same c is) i) n) h)
  owes_same (part.Job j) is h =
      job_same j.task (recorded_request w r) (subst (λ (o : Option (Outcome Request)). JobOwes results v j.task o n) (sym (request_kept v w pid s t may r found)) h)
  owes_same part.Over is h = h

pub others_owe_the_same : OthersOweTheSame
others_owe_the_same results v w pid s t may none r found ne n h = owes_same results v w pid s t may none r found ne n r.part refl h
