-- The loop of the chain comes to what its attempts do: one turn, and then the others.
use Rattle.std.proofs.Common.{◌≡◌, ◌∙◌, ap, sym, refl, subst, ℕ, zero, suc, ◌+◌, ◌<◌, ◌≤◌, Bool, true, false, List, [], ◌∷◌, ◌++◌, map, None, arith}
use Rattle.std.specs.Prelude.{codes, not, ◌&&◌, if◌then◌else◌}
use Rattle.wc_value.specs.Ascending.{Ascends}
use Rattle.wc_value.specs.declared.process.ProcessState.TheVariants.{Finished, Excepted}
use Rattle.wc_value.specs.declared.process.Reason.TheVariants.{NoOutput}
use Rattle.wc_value.specs.declared.process.Request.{Request}
use Rattle.wc_handlers.specs.declared.spec.Spec.{Spec}
use Rattle.wc_syntax.specs.declared.definition.Definition.{Definition}
use Rattle.wc_syntax.specs.declared.definition.Port.{Port}
use Rattle.wc_syntax.specs.declared.outline.CallStmt.{CallStmt}
use Rattle.wc_syntax.specs.declared.outline.Instr.{Instr}
use Rattle.wc_syntax.specs.declared.outline.Stmt.TheVariants as stmt
use Rattle.wc_expression.specs.declared.outcome.Outcome.TheVariants.{Gives}
use Rattle.wc_semantics.specs.declared.progress.Answer.TheVariants.{Gave, Without}
use Rattle.wc_semantics.specs.declared.progress.Flow.{Flow}
use Rattle.wc_semantics.specs.declared.progress.Flow.TheVariants.{Goes, Ends, Lacks}
use Rattle.wc_semantics.specs.declared.progress.Planned.{Planned}
use Rattle.wc_semantics.specs.declared.progress.Progress.{Progress}
use Rattle.wc_semantics.specs.declared.progress.Replayed.{Replayed}
use Rattle.wc_semantics.specs.Laws.{FrugalCall}
use Rattle.wc_semantics.specs.Meaning.{judged, kept}
use Rattle.wc_semantics.specs.Outcomes.{lacks}
use Rattle.wc_semantics.specs.Rules.{Values}
use Rattle.wc_semantics.specs.Run.{Around, ◌>->◌, next_label, run, spend, step_of, test, with_call}
use Rattle.wc_semantics.specs.Statements.{arguments, planned}
use Rattle.wc_attempts.specs.Attempts.{at_ports, Attempted, ends, wants, Attempts, attempt, is_last}
use Rattle.wc_restart.specs.Chains.{arm_of, by_priority, counted, finish, good, turn_with, unhandled}
use Rattle.wc_restart.specs.Pieces.{either, given, while, word}
use Rattle.wc_restart.specs.Ports.{required}
use Rattle.wc_restart.specs.Statements.{closing, goes_on}
use Rattle.wc_attempts.proofs.Arguments.{HasAll}
use Rattle.wc_attempts.proofs.Choices.{fresh_runs, source_by}
use Rattle.wc_attempts.proofs.Conditions.{HasFlag, HasNumber, done_stops, goes_on_says, is_spent_says, says_holds}
use Rattle.wc_attempts.proofs.Inputs.{Among, Fixed, Stands, all_given, one_lacks}
use Rattle.wc_attempts.proofs.Runs.{step_runs, while_runs}
use Rattle.wc_attempts.proofs.Steps.{call_faults, call_goes, call_lacks, closing_step_ends, closing_step_goes}

-- what a run comes to is what attempts do, for a chain with these output ports
abbrev pub Comes : List Port → Attempted → Flow → Type 0
Comes ports (ends p) (Goes n e) = (judged ports (Finished 0) e.outputs ≡ p.state) × (kept (judged ports (Finished 0) e.outputs) e.outputs ≡ p.outputs)
Comes ports (ends p) (Ends s n e) = (judged ports s e.outputs ≡ p.state) × (kept (judged ports s e.outputs) e.outputs ≡ p.outputs)
Comes ports (wants q) (Lacks r) = q ≡ r
Comes ports _ _ = ⊥

-- the required ports of the job
abbrev pub asked : Attempts → List Port
asked x = required x.job.head.inputs

abbrev pub given_ports : Attempts → List Port
given_ports x = required x.job.head.outputs

-- the loop, and the step that ends the chain
abbrev pub loop : List Definition → Spec → Attempts → Instr
loop library s x = while (goes_on s.most) (turn_with library s (asked x) (given_ports x))

abbrev pub loop_and_end : List Definition → Spec → Attempts → List Instr
loop_and_end library s x = loop library s x ∷ (finish ∷ [])

-- what stands behind the call of the job
abbrev pub judging : List Definition → Spec → Attempts → Instr
judging library s x = either (good (given_ports x) ∷ map (arm_of library) (by_priority s.handlers)) (unhandled ∷ [])

abbrev pub behind_call : List Definition → Spec → Attempts → List Instr
behind_call library s x = counted ∷ (judging library s x ∷ loop_and_end library s x)

-- before an attempt, of which so many are left
pub record IsAt (s : Spec) (x : Attempts) (left : ℕ) (v : Values) (bad : Bool) (e : Progress) : Type 0 where
  pub count : ℕ
  pub counted : HasNumber e.env (codes "n") count
  pub all : count + left ≡ s.most
  pub undone : HasFlag e.env (codes "done") false
  pub marked : HasFlag e.env (codes "bad") bad
  pub none_out : e.outputs ≡ []
  pub fresh : Bool
  pub says : HasFlag e.env (codes "fresh") fresh
  pub stands : Stands (asked x) e.env v fresh

-- inputs that lack a port end the chain where there is an attempt left
abbrev pub expected : Attempts → ℕ → Values → Bool → Attempted
expected x left v bad = if lacks (asked x) v && not (is_last left) then ends (record { state = Excepted NoOutput; outputs = [] }) else attempt left x v bad

module _ (library : List Definition) (s : Spec) (x : Attempts) (a : Around) (shallow : a.deep ≡ false) (alive : a.stop ≡ None) (frugal : FrugalCall a.call) where
  -- ---- the end of the loop

  spent_runs : (v : Values) (bad : Bool) (e : Progress) (n : ℕ) → (i : IsAt s x zero v bad e) → run (loop_and_end library s x) a n e ≡ Ends (Finished 401) n e
  spent_runs v bad e n i =
      let most : s.most ≤ i.count = let h : i.count + zero ≡ s.most = i.all in omega arith in
      while_runs (goes_on s.most) (turn_with library s (asked x) (given_ports x)) (finish ∷ []) a n e frugal
      ∙ ap (λ o. test o n e (spend n (λ m. run (turn_with library s (asked x) (given_ports x) ++ (loop_and_end library s x)) a m e)) (run (finish ∷ []) a n e))
      (says_holds e.env (goes_on s.most) false (is_spent_says e.env s.most i.count i.undone i.counted most))
      ∙ step_runs (codes "finish") closing [] a n e
      ∙ ap (λ f. f >-> run [] a) (closing_step_ends a n e i.undone)

  expected_last : (b : Bool) (v : Values) (bad : Bool) → (if b && false then ends (record { state = Excepted NoOutput; outputs = [] }) else attempt zero x v bad) ≡ attempt zero x v bad
  expected_last true v bad = refl
  expected_last false v bad = refl

  pub spent_comes : (v : Values) (bad : Bool) (e : Progress) (n : ℕ) → IsAt s x zero v bad e → Comes (given_ports x) (expected x zero v bad) (run (loop_and_end library s x) a n e)
  spent_comes v bad e n i =
      subst (λ (y : Attempted). Comes (given_ports x) y (run (loop_and_end library s x) a n e)) (sym (expected_last (lacks (asked x) v) v bad))
      (subst (Comes (given_ports x) (attempt zero x v bad)) (sym (spent_runs v bad e n i)) (refl, i.none_out))

  -- once the job succeeded, the loop is left
  pub done_runs : (e : Progress) (n : ℕ) → HasFlag e.env (codes "done") true → run (loop_and_end library s x) a n e ≡ Goes n e
  done_runs e n h =
      while_runs (goes_on s.most) (turn_with library s (asked x) (given_ports x)) (finish ∷ []) a n e frugal
      ∙ ap (λ o. test o n e (spend n (λ m. run (turn_with library s (asked x) (given_ports x) ++ (loop_and_end library s x)) a m e)) (run (finish ∷ []) a n e))
      (says_holds e.env (goes_on s.most) false (done_stops e.env s.most h))
      ∙ step_runs (codes "finish") closing [] a n e
      ∙ ap (λ f. f >-> run [] a) (closing_step_goes a n e h)

  -- ---- the beginning of a turn

  abbrev pub call_of_job : Bool → CallStmt
  call_of_job b = record { at = 0; callee = word s.job; args = map (given (source_by b)) (asked x); append = false; key = word (codes "job") }

  -- with an attempt left the job is called
  pub turn_runs : (left : ℕ) (v : Values) (bad : Bool) (e : Progress) (m : ℕ) → (i : IsAt s x (suc left) v bad e)
      → run (loop_and_end library s x) a (suc m) e ≡ (step_of (stmt.Call (call_of_job i.fresh) ∷ []) a m e >-> run (behind_call library s x) a)
  turn_runs left v bad e m i =
      let more : i.count < s.most = let h : i.count + suc left ≡ s.most = i.all in omega arith in
      while_runs (goes_on s.most) (turn_with library s (asked x) (given_ports x)) (finish ∷ []) a (suc m) e frugal
      ∙ ap (λ o. test o (suc m) e (run (turn_with library s (asked x) (given_ports x) ++ (loop_and_end library s x)) a m e) (run (finish ∷ []) a (suc m) e))
      (says_holds e.env (goes_on s.most) true (goes_on_says e.env s.most i.count i.undone i.counted more))
      ∙ fresh_runs a m e (codes "start") (codes "again") s.job (codes "job") (asked x) (behind_call library s x) i.fresh i.says

  -- inputs that lack a port
  pub lacking_runs : (left : ℕ) (v : Values) (bad : Bool) (e : Progress) (m : ℕ) → (i : IsAt s x (suc left) v bad e) → i.fresh ≡ false → Fixed (asked x) e.env v → Among (asked x) (asked x)
      → lacks (asked x) v ≡ true → run (loop_and_end library s x) a (suc m) e ≡ Ends (Excepted NoOutput) m e
  lacking_runs left v bad e m i old fixed among h =
      turn_runs left v bad e m i
      ∙ ap (λ b. step_of (stmt.Call (call_of_job b) ∷ []) a m e >-> run (behind_call library s x) a) old
      ∙ ap (λ f. f >-> run (behind_call library s x) a) (call_faults a (call_of_job false) m e NoOutput shallow (one_lacks (asked x) e.env v (asked x) fixed among h))

  -- ---- the call of the job

  module _ (v : Values) (e : Progress) (b : Bool) (stands : Stands (asked x) e.env v b) (among : Among (asked x) (asked x)) (all : HasAll v (asked x)) (ordered : Ascends v)
      (whole : at_ports (asked x) v ≡ v) (takes : a.takes s.job v ≡ true) where
    abbrev pub plan : Planned
    plan = planned (call_of_job b) v

    arguments_are : arguments (call_of_job b).args e.env [] ≡ Gives v
    arguments_are = all_given (asked x) e.env v b (asked x) stands among all ordered ∙ ap (λ (vs : Values). Gives vs) whole

    -- an answer that is there is bound to `job`
    pub job_bound : (m left : ℕ) (t : Replayed) → a.call (next_label plan e) m s.job v ≡ Gave t left
        → (step_of (stmt.Call (call_of_job b) ∷ []) a (suc m) e >-> run (behind_call library s x) a) ≡ run (behind_call library s x) a left (with_call plan (next_label plan e) t e)
    job_bound m left t h = ap (λ f. f >-> run (behind_call library s x) a) (call_goes a (call_of_job b) m left e v t shallow alive arguments_are takes h)

    -- a row that isn't there ends the run
    pub job_lacks : (m : ℕ) (q : Request) → a.call (next_label plan e) m s.job v ≡ Without q
        → (step_of (stmt.Call (call_of_job b) ∷ []) a (suc m) e >-> run (behind_call library s x) a) ≡ Lacks q
    job_lacks m q h = ap (λ f. f >-> run (behind_call library s x) a) (call_lacks a (call_of_job b) m e v q shallow arguments_are takes h)
