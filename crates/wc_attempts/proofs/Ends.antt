-- What a turn comes to by the status of the job.
use Rattle.std.proofs.Common.{◌≡◌, ◌∙◌, ap, refl, subst, ℕ, Bool, true, false, List, [], ◌∷◌, ◌++◌, Some, None}
use Rattle.std.proofs.lemmas.Bool.Decides.{Decides-eqb, Decides-int_eq}
use Rattle.std.specs.Prelude.{codes, ◌==◌, ◌&&◌, if◌then◌else◌, pos, negsuc}
use Rattle.std.specs.List.{AllByRecursion, list_any}
use Rattle.std.specs.Ordering.{int_eq}
use Rattle.wc_value.specs.Ascending.{Ascends}
use Rattle.wc_value.specs.declared.process.ProcessState.{ProcessState}
use Rattle.wc_value.specs.declared.process.ProcessState.TheVariants.{Finished}
use Rattle.wc_handlers.specs.declared.spec.Handler.{Handler}
use Rattle.wc_handlers.specs.declared.spec.Spec.{Spec}
use Rattle.wc_syntax.specs.declared.definition.Definition.{Definition}
use Rattle.wc_syntax.specs.declared.outline.Instr.{Instr}
use Rattle.wc_state.specs.declared.environment.Child.{Child}
use Rattle.wc_expression.specs.Environment.{is_success, status_of}
use Rattle.wc_semantics.specs.declared.progress.Flow.TheVariants.{Goes, Ends}
use Rattle.wc_semantics.specs.declared.progress.Progress.{Progress}
use Rattle.wc_semantics.specs.Laws.{FrugalCall}
use Rattle.wc_semantics.specs.Outcomes.{lacks}
use Rattle.wc_semantics.specs.Rules.{Values}
use Rattle.wc_semantics.specs.Run.{Around, ◌>->◌, run}
use Rattle.wc_semantics.specs.Statements.{statements}
use Rattle.wc_attempts.specs.Attempts.{at_ports, Attempts, best_among, finished, names_status}
use Rattle.wc_restart.specs.Chains.{by_priority, unhandled}
use Rattle.wc_restart.specs.Statements.{failing, has_succeeded, passing}
use Rattle.wc_attempts.proofs.Arguments.{HasAll}
use Rattle.wc_attempts.proofs.Choices.{failure_runs, remedies, success_runs}
use Rattle.wc_attempts.proofs.Conditions.{HasChild, HasFlag, Says, is_one_of_says, succeeded_says}
use Rattle.wc_attempts.proofs.Context.{keyed_found}
use Rattle.wc_attempts.proofs.Passing.{Passes, passing_goes}
use Rattle.wc_attempts.proofs.Picks.{first_is_best}
use Rattle.wc_attempts.proofs.PortKinds.{clash}
use Rattle.wc_attempts.proofs.Runs.{step_runs}
use Rattle.wc_attempts.proofs.Steps.{failing_step_ends, failing_step_goes, flagged, made_goes, within}
use Rattle.wc_attempts.proofs.Turns.{Comes, given_ports, judging, loop_and_end, done_runs}

-- ---- which handler

-- a handler that names the status that the context gives
abbrev pub naming : ProcessState → Handler → Bool
naming state h = list_any (λ n. int_eq (status_of state) (pos n)) h.statuses

-- statuses are compared as numbers
same_number : (a b : ℕ) → int_eq (pos a) (pos b) ≡ (a == b)
same_number a b = by_tests (int_eq (pos a) (pos b)) (a == b) refl refl
  where
    by_tests : (x y : Bool) → int_eq (pos a) (pos b) ≡ x → (a == b) ≡ y → x ≡ y
    by_tests true true p q = refl
    by_tests false false p q = refl
    by_tests true false p q =
        let e : pos a ≡ pos b = (Decides-int_eq (pos a) (pos b)).0 p in let same : a ≡ b = cc in clash _ (a == b) ((Decides-eqb a b).1 same) q
    by_tests false true p q =
        let same : a ≡ b = (Decides-eqb a b).0 q in clash _ (int_eq (pos a) (pos b)) ((Decides-int_eq (pos a) (pos b)).1 (ap (λ (n : ℕ). pos n) same)) p

-- of a finished one the handlers that name its status
pub naming_is : (n : ℕ) → naming (Finished n) ≡ names_status n
naming_is n = λ i h. list_any (λ m. same_number n m i) h.statuses

-- no handler has a status below 0
pub none_named : (ns : List ℕ) → list_any (λ n. int_eq (negsuc 0) (pos n)) ns ≡ false
none_named [] = refl
none_named (n ∷ ns) = none_named ns

pub none_best : (t : Handler → Bool) (hs : List Handler) → ((h : Handler) → t h ≡ false) → best_among t None hs ≡ None
none_best t [] never = refl
none_best t (h ∷ hs) never = ap (λ (b : Bool). best_among t (if b then Some h else None) hs) (never h) ∙ none_best t hs never

module _ (library : List Definition) (s : Spec) (x : Attempts) (a : Around) (shallow : a.deep ≡ false) (alive : a.stop ≡ None) (frugal : FrugalCall a.call) where
  -- ---- a job that succeeded

  pub success_ends : (n : ℕ) (e : Progress) (c : Child) (outs : Values) → HasChild e.env (codes "job") c → c.state ≡ Finished 0 → e.outputs ≡ []
      → AllByRecursion (Passes a.deep a.takes a.kinds e.env outs) (given_ports x) → HasAll outs (given_ports x) → Ascends outs
      → run (judging library s x ∷ loop_and_end library s x) a n e
      ≡ Goes n (record { env = flagged (codes "done") true e.env; outputs = at_ports (given_ports x) outs; calls = e.calls })
  success_ends n e c outs held ok none passes all ordered =
      success_runs a n e library (given_ports x) (by_priority s.handlers) (loop_and_end library s x)
      (subst (λ st. Says e.env has_succeeded (is_success st)) ok (succeeded_says e.env c held))
      ∙ ap (λ f. f >-> run (loop_and_end library s x) a)
      (made_goes a (passing (given_ports x)) n e _ _
      (ap (λ o. statements a.deep a.takes a.kinds (passing (given_ports x)) [] e.env o) none ∙ passing_goes a.deep a.takes a.kinds e.env outs (given_ports x) passes all ordered))
      ∙ done_runs library s x a shallow alive frugal _ n (keyed_found (codes "done") _ e.env.ctx)

  -- the chain has them, and lacks none
  pub success_comes : (n : ℕ) (e : Progress) (outs : Values) → lacks (given_ports x) (at_ports (given_ports x) outs) ≡ false → e.outputs ≡ at_ports (given_ports x) outs
      → Comes (given_ports x) (finished 0 (at_ports (given_ports x) outs)) (Goes n e)
  success_comes n e outs full are =
      (ap (λ o. Finished (if (0 == 0) && lacks (given_ports x) o then 11 else 0)) are ∙ ap (λ (b : Bool). Finished (if b then 11 else 0)) full, are)

  -- ---- a job that failed

  -- its handler is the best that names its status
  pub failure_goes : (n : ℕ) (e : Progress) (c : Child) (is : List Instr) → HasChild e.env (codes "job") c → is_success c.state ≡ false
      → run (judging library s x ∷ is) a n e ≡ run (remedies a n e library (best_among (naming c.state) None s.handlers) ++ is) a n e
  failure_goes n e c is held failed =
      failure_runs a n e library (given_ports x) (by_priority s.handlers) is (naming c.state)
      (subst (Says e.env has_succeeded) failed (succeeded_says e.env c held)) (λ h. is_one_of_says e.env c held h.statuses)
      ∙ ap (λ o. run (remedies a n e library o ++ is) a n e) (first_is_best (naming c.state) s.handlers)

  -- no handler: a second failure ends the chain
  pub unhandled_ends : (n : ℕ) (e : Progress) (is : List Instr) → HasFlag e.env (codes "bad") true → run (unhandled ∷ is) a n e ≡ Ends (Finished 402) n e
  unhandled_ends n e is h = step_runs (codes "unhandled") failing is a n e ∙ ap (λ f. f >-> run is a) (failing_step_ends a n e h)

  -- and a first one is marked
  pub unhandled_goes : (n : ℕ) (e : Progress) (is : List Instr) → HasFlag e.env (codes "bad") false → run (unhandled ∷ is) a n e ≡ run is a n (within e (flagged (codes "bad") true e.env))
  unhandled_goes n e is h = step_runs (codes "unhandled") failing is a n e ∙ ap (λ f. f >-> run is a) (failing_step_goes a n e h)
