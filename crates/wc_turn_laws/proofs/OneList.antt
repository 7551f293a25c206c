-- A turn has one list of changes.
use Rattle.std.proofs.Common.{◌≡◌, ℕ, ◌+◌, Bool, true, false, Option, Some, None, List, [], ◌∷◌, refl, sym, ap, ◌∙◌, subst}
use Rattle.std.specs.Prelude.{◌&&◌, option_map, option_and_then}
use Rattle.wc_value.specs.declared.process.ProcessState.{ProcessState}
use Rattle.wc_value.specs.declared.process.ProcessState.TheVariants as state
use Rattle.wc_value.specs.declared.process.Request.{Request}
use Rattle.wc_syntax.specs.declared.definition.Chain.{Chain}
use Rattle.wc_syntax.specs.declared.definition.Definition.{Definition}
use Rattle.wc_syntax.specs.declared.definition.Definition.TheVariants as definition
use Rattle.wc_syntax.specs.declared.definition.Job.{Job}
use Rattle.wc_expression.specs.declared.outcome.Outcome.{Outcome}
use Rattle.wc_expression.specs.declared.outcome.Outcome.TheVariants.{Gives, Faults}
use Rattle.wc_semantics.specs.Outcomes.{excepted, calculated, parsed}
use Rattle.wc_semantics.specs.Requests.{request}
use Rattle.wc_state.specs.Checkpoint.{first}
use Rattle.wc_state.specs.declared.record.Checkpoint.{Checkpoint}
use Rattle.wc_state.specs.declared.record.JobPart.{JobPart}
use Rattle.wc_state.specs.declared.record.Part.{Part}
use Rattle.wc_state.specs.declared.record.Part.TheVariants as part
use Rattle.wc_state.specs.declared.record.ProcessKind.{ProcessKind}
use Rattle.wc_state.specs.declared.record.ProcessKind.TheVariants as kind
use Rattle.wc_state.specs.declared.record.ProcessRecord.{ProcessRecord}
use Rattle.wc_world.specs.declared.change.Change.{Change}
use Rattle.wc_world.specs.World.{World}
use Rattle.wc_world.specs.Consistent.{Stands}
use Rattle.wc_world.specs.Fits.{is_of_kind, part_fits}
use Rattle.wc_world.specs.Records.{find_record, is_calculation, library_at}
use Rattle.wc_world.specs.Trees.{environment_at}
use Rattle.wc_world.proofs.FoundRecords.{found_holds}
use Rattle.wc_machine.specs.declared.answer.TaskAnswer.{TaskAnswer}
use Rattle.wc_machine.specs.declared.answer.TaskAnswer.TheVariants as answer
use Rattle.wc_machine.specs.Advances.{advance}
use Rattle.wc_machine.specs.Calls.{advanced, chain_set, bound, fuel_of}
use Rattle.wc_machine.specs.Ends.{ends, come_to, TakesSource}
use Rattle.wc_machine.specs.Recorded.{its_definition, recorded_inputs}
use Rattle.wc_machine.specs.Tasks.{Moved, after, saturated}
use Rattle.wc_machine.specs.Turns.{TurnGives, StandsAt, job_set, first_task, calculates, clones, begins, excepts, gives_up, moves, parses, advances, binds}
use Rattle.wc_turn_laws.specs.TurnLaws.{OneListOfChanges}
use Rattle.wc_turn_laws.proofs.Sources.{one_source}

-- ---- the changes as a function of the source

module _ (poll now : ℕ) (w : World) (r : ProcessRecord) where
  -- the changes of a job whose request is a reason, at its end, and of a job that moved
  abbrev moved : Option Moved → Option (List Change)
  moved None = None
  moved (Some m) = Some (job_set r m.part m.paused ∷ [])

  abbrev answered : Job → JobPart → TaskAnswer → Option (List Change)
  answered j p answer.Nothing = moved (after p answer.Nothing now poll p.task)
  answered j p answer.Failed = moved (after p answer.Failed now poll p.task)
  answered j p answer.Running = moved (after p answer.Running now poll p.task)
  answered j p answer.Done = moved (after p answer.Done now poll p.task)
  answered j p (answer.Result x) = Some (ends w r (parsed j (recorded_inputs w r.node) x) None (Some x.code))

  abbrev of_new_job : Job → Outcome Request → Option (List Change)
  of_new_job j (Gives q) = Some (job_set r first_task false ∷ [])
  of_new_job j (Faults reason) = Some (ends w r (excepted reason []) None None)

  abbrev of_job : Job → JobPart → TaskAnswer → Outcome Request → Option (List Change)
  of_job j p a (Gives q) = answered j p a
  of_job j p a (Faults reason) = Some (ends w r (excepted reason []) None None)

  abbrev of_chain : Chain → Checkpoint → Option (List Change)
  of_chain k c =
      option_and_then (λ library. option_map (λ env. advanced w r k.head.outputs (advance library k r.depth env c)) (environment_at w r.node)) (library_at w.libraries r.library)

  abbrev created_by : Option Definition → Option ℕ → Option (List Change)
  created_by (Some (definition.Function f)) None = Some (ends w r (calculated f (recorded_inputs w r.node)) None None)
  created_by (Some (definition.Job j)) None = of_new_job j (request j (recorded_inputs w r.node))
  created_by (Some (definition.Chain k)) None = of_chain k first
  created_by d (Some source) = option_map (λ q. ends w r (come_to w q) (Some q.node) None) (find_record source w.records)
  created_by None None = None

  abbrev waiting_by : Option Definition → Part → TaskAnswer → Option (List Change)
  waiting_by (Some (definition.Job j)) (part.Job p) a = of_job j p a (request j (recorded_inputs w r.node))
  waiting_by (Some (definition.Chain k)) (part.Chain c) a =
      Some (chain_set w r state.Running (saturated (r.fuel + fuel_of w.records c.awaiting)) (part.Chain (bound c)) ∷ [])
  waiting_by d p a = None

  abbrev running_by : Option Definition → Part → Option (List Change)
  running_by (Some (definition.Chain k)) (part.Chain c) = of_chain k c
  running_by d p = None

  abbrev by_state : ProcessState → Part → Option Definition → Option ℕ → TaskAnswer → Option (List Change)
  by_state state.Created p d s a = created_by d s
  by_state state.Running p d s a = running_by d p
  by_state state.Waiting p d s a = waiting_by d p a
  by_state (state.Finished n) p d s a = None
  by_state (state.Excepted e) p d s a = None
  by_state state.Killed p d s a = None

  abbrev is_created : ProcessState → Bool
  is_created state.Created = true
  is_created state.Running = false
  is_created state.Waiting = false
  is_created (state.Finished n) = false
  is_created (state.Excepted e) = false
  is_created state.Killed = false

  -- only a created calculation takes a source
  abbrev Rightly : Bool → Option ℕ → Type 0
  Rightly true s = TakesSource w r s
  Rightly false s = s ≡ None

  abbrev Comes : TaskAnswer → List Change → Type 0
  Comes a cs = (s : Option ℕ) × Rightly (is_created r.state && is_calculation r.kind) s × (by_state r.state r.part (its_definition w r) s a ≡ Some cs)

  rightly_one : (b : Bool) (s t : Option ℕ) → Rightly b s → Rightly b t → s ≡ t
  rightly_one true s t h k = one_source w r s t h k
  rightly_one false s t h k = h ∙ sym k

  comes_one : (a : TaskAnswer) (cs ds : List Change) → Comes a cs → Comes a ds → cs ≡ ds
  comes_one a cs ds x y =
      let same : x.0 ≡ y.0 = rightly_one (is_created r.state && is_calculation r.kind) x.0 y.0 x.1 y.1 in
      let both : Some cs ≡ Some ds = sym x.2 ∙ ap (λ (s : Option ℕ). by_state r.state r.part (its_definition w r) s a) same ∙ y.2 in
      cc

  -- ---- each turn

  module _ (stands : Stands w r) where
    of_kind : (d : Definition) → its_definition w r ≡ Some d → is_of_kind r.kind (Some d) ≡ true
    of_kind d e = sym (ap (is_of_kind r.kind) e) ∙ stands.defined

    function_calculates : (f : _) (k : ProcessKind) → is_of_kind k (Some (definition.Function f)) ≡ true → is_calculation k ≡ true
    function_calculates f kind.Function h = refl
    function_calculates f kind.Job h = absurd (cc)
    function_calculates f kind.Chain h = absurd (cc)

    job_calculates : (j : Job) (k : ProcessKind) → is_of_kind k (Some (definition.Job j)) ≡ true → is_calculation k ≡ true
    job_calculates j kind.Function h = absurd (cc)
    job_calculates j kind.Job h = refl
    job_calculates j kind.Chain h = absurd (cc)

    chain_calls : (c : Chain) (k : ProcessKind) → is_of_kind k (Some (definition.Chain c)) ≡ true → is_calculation k ≡ false
    chain_calls c kind.Function h = absurd (cc)
    chain_calls c kind.Job h = absurd (cc)
    chain_calls c kind.Chain h = refl

    job_waits : (k : ProcessKind) (s : ProcessState) (j : JobPart) → part_fits k s (part.Job j) ≡ true → s ≡ state.Waiting
    job_waits k state.Created j h = absurd (cc)
    job_waits kind.Function state.Running j h = absurd (cc)
    job_waits kind.Job state.Running j h = absurd (cc)
    job_waits kind.Chain state.Running j h = absurd (cc)
    job_waits k state.Waiting j h = refl
    job_waits k (state.Finished n) j h = absurd (cc)
    job_waits k (state.Excepted e) j h = absurd (cc)
    job_waits k state.Killed j h = absurd (cc)

    waits : (p : JobPart) → r.part ≡ part.Job p → r.state ≡ state.Waiting
    waits p is = job_waits r.kind r.state p (ap (part_fits r.kind r.state) (sym is) ∙ stands.part)

    -- a created calculation takes its source
    takes : (s : Option ℕ) → r.state ≡ state.Created → is_calculation r.kind ≡ true → TakesSource w r s → Rightly (is_created r.state && is_calculation r.kind) s
    takes s created one h = subst (λ (b : Bool). Rightly b s) (sym (λ i. is_created (created i) && one i)) h

    waiting_none : r.state ≡ state.Waiting → Rightly (is_created r.state && is_calculation r.kind) None
    waiting_none h = subst (λ (b : Bool). Rightly b None) (sym (ap (λ (s : ProcessState). is_created s && is_calculation r.kind) h)) refl

    and_false : (b c : Bool) → c ≡ false → (b && c) ≡ false
    and_false true c h = h
    and_false false c h = refl

    chain_none : is_calculation r.kind ≡ false → Rightly (is_created r.state && is_calculation r.kind) None
    chain_none h = subst (λ (b : Bool). Rightly b None) (sym (and_false (is_created r.state) (is_calculation r.kind) h)) refl

    -- where a chain stands, it evaluates an instruction
    stands_at : (k : Chain) (c : Checkpoint) (s : ProcessState) (p : Part) → StandsAt s p c → by_state s p (Some (definition.Chain k)) None answer.Nothing ≡ of_chain k c
    stands_at k c state.Created part.Fresh h = ap (of_chain k) (sym h)
    stands_at k c state.Created (part.Chain d) h = absurd h
    stands_at k c state.Created (part.Job j) h = absurd h
    stands_at k c state.Created part.Over h = absurd h
    stands_at k c state.Running part.Fresh h = absurd h
    stands_at k c state.Running (part.Chain d) h = ap (of_chain k) (sym h)
    stands_at k c state.Running (part.Job j) h = absurd h
    stands_at k c state.Running part.Over h = absurd h
    stands_at k c state.Waiting p h = absurd h
    stands_at k c (state.Finished n) p h = absurd h
    stands_at k c (state.Excepted e) p h = absurd h
    stands_at k c state.Killed p h = absurd h

    answered_moves : (j : Job) (p : JobPart) (a : TaskAnswer) (m : Moved) → after p a now poll p.task ≡ Some m → answered j p a ≡ Some (job_set r m.part m.paused ∷ [])
    answered_moves j p answer.Nothing m h = ap moved h
    answered_moves j p answer.Failed m h = ap moved h
    answered_moves j p answer.Running m h = ap moved h
    answered_moves j p answer.Done m h = ap moved h
    answered_moves j p (answer.Result x) m h = absurd (cc)

    comes : (a : TaskAnswer) (cs : List Change) → TurnGives poll now w r a cs → Comes a cs
    comes a cs (calculates f d created source) = (
      None,
      takes None created (function_calculates f r.kind (of_kind (definition.Function f) d)) source,
      (λ i. by_state (created i) r.part (d i) None answer.Nothing),
    )
    comes a cs (clones q one created source found) = (
      Some q.node,
      takes (Some q.node) created one source,
      cloned (its_definition w r) q created found,
    )
      where
        cloned : (d : Option Definition) (q : ProcessRecord) → r.state ≡ state.Created → find_record q.node w.records ≡ Some q
            → by_state r.state r.part d (Some q.node) answer.Nothing ≡ Some (ends w r (come_to w q) (Some q.node) None)
        cloned None q created found = (λ i. by_state (created i) r.part None (Some q.node) answer.Nothing) ∙ ap (option_map (λ x. ends w r (come_to w x) (Some x.node) None)) found
        cloned (Some (definition.Function f)) q created found =
            (λ i. by_state (created i) r.part (Some (definition.Function f)) (Some q.node) answer.Nothing) ∙ ap (option_map (λ x. ends w r (come_to w x) (Some x.node) None)) found
        cloned (Some (definition.Job j)) q created found =
            (λ i. by_state (created i) r.part (Some (definition.Job j)) (Some q.node) answer.Nothing) ∙ ap (option_map (λ x. ends w r (come_to w x) (Some x.node) None)) found
        cloned (Some (definition.Chain k)) q created found =
            (λ i. by_state (created i) r.part (Some (definition.Chain k)) (Some q.node) answer.Nothing) ∙ ap (option_map (λ x. ends w r (come_to w x) (Some x.node) None)) found
    comes a cs (begins j q d created source asked) = (
      None,
      takes None created (job_calculates j r.kind (of_kind (definition.Job j) d)) source,
      (λ i. by_state (created i) r.part (d i) None answer.Nothing) ∙ ap (of_new_job j) asked,
    )
    comes a cs (excepts j reason d created source asked) = (
      None,
      takes None created (job_calculates j r.kind (of_kind (definition.Job j) d)) source,
      (λ i. by_state (created i) r.part (d i) None answer.Nothing) ∙ ap (of_new_job j) asked,
    )
    comes a cs (gives_up j p reason d is asked) = (
      None,
      waiting_none (waits p is),
      (λ i. by_state (waits p is i) (is i) (d i) None answer.Nothing) ∙ ap (of_job j p answer.Nothing) asked,
    )
    comes a cs (moves j p q b m d is asked to) = (
      None,
      waiting_none (waits p is),
      (λ i. by_state (waits p is i) (is i) (d i) None b) ∙ ap (of_job j p b) asked ∙ answered_moves j p b m to,
    )
    comes a cs (parses j p q x d is asked retrieve) = (
      None,
      waiting_none (waits p is),
      (λ i. by_state (waits p is i) (is i) (d i) None (answer.Result x)) ∙ ap (of_job j p (answer.Result x)) asked,
    )
    comes a cs (advances k library c env d there at here) = (
      None,
      chain_none (chain_calls k r.kind (of_kind (definition.Chain k) d)),
      ap (λ (o : Option Definition). by_state r.state r.part o None answer.Nothing) d ∙ stands_at k c r.state r.part at
          ∙ ap (option_and_then (λ l. option_map (λ e. advanced w r k.head.outputs (advance l k r.depth e c)) (environment_at w r.node))) there
          ∙ ap (option_map (λ e. advanced w r k.head.outputs (advance library k r.depth e c))) here,
    )
    comes a cs (binds k c d waiting is) = (
      None,
      waiting_none waiting,
      (λ i. by_state (waiting i) (is i) (d i) None answer.Nothing),
    )

pub one_list : OneListOfChanges
one_list poll now w r a cs ds c found x y =
    let stands : Stands w r = found_holds (Stands w) r.node w.records r c.records found in
    comes_one poll now w r a cs ds (comes poll now w r stands a cs x) (comes poll now w r stands a ds y)
