-- What the choices of the chain come to: where a call's values come from, and what the status of the job asks for.
use Rattle.std.proofs.Common.{◌≡◌, ◌∙◌, ap, refl, ℕ, Bool, true, false, List, [], ◌∷◌, ◌++◌, map, Option, Some, None}
use Rattle.std.specs.Prelude.{codes, if◌then◌else◌}
use Rattle.wc_handlers.specs.declared.spec.Handler.{Handler}
use Rattle.wc_syntax.specs.declared.definition.Definition.{Definition}
use Rattle.wc_syntax.specs.declared.definition.Port.{Port}
use Rattle.wc_syntax.specs.declared.expression.Expr.{Expr}
use Rattle.wc_syntax.specs.declared.outline.Instr.{Instr}
use Rattle.wc_expression.specs.declared.outcome.Outcome.{Outcome}
use Rattle.wc_expression.specs.declared.outcome.Outcome.TheVariants.{Gives}
use Rattle.wc_expression.specs.Outcomes.{◌>>=◌}
use Rattle.wc_semantics.specs.declared.progress.Progress.{Progress}
use Rattle.wc_semantics.specs.Laws.{arm_list}
use Rattle.wc_semantics.specs.Run.{Around, ◌>->◌, by_value, picked, run, step_of}
use Rattle.wc_restart.specs.Chains.{arm_of, fresh_or_fixed, good, remedied, unhandled}
use Rattle.wc_restart.specs.Pieces.{arm, call_with, either, input, plain, step}
use Rattle.wc_restart.specs.Sources.{of_fix}
use Rattle.wc_restart.specs.Statements.{has_succeeded, is_one_of, passing}
use Rattle.wc_attempts.proofs.Conditions.{HasFlag, Says, flag_says, says_holds}
use Rattle.wc_attempts.proofs.Picks.{first_of}
use Rattle.wc_attempts.proofs.Runs.{arm_lists, either_runs, step_runs}

-- ---- where a call's values come from

abbrev pub source_by : Bool → List ℕ → Expr
source_by true = input
source_by false = of_fix

module _ (a : Around) (n : ℕ) (e : Progress) where
  module _ (first second callee key : List ℕ) (ps : List Port) where
    abbrev ks : List Instr
    ks = step first (call_with callee input ps key ∷ []) ∷ []

    abbrev js : List Instr
    js = step second (call_with callee of_fix ps key ∷ []) ∷ []

    by_flag : (is : List Instr) (c : Bool)
        → by_value (if c then Gives ks else Gives js) n e (λ ls. run (ls ++ is) a n e) ≡ (step_of (call_with callee (source_by c) ps key ∷ []) a n e >-> run is a)
    by_flag is true = step_runs first (call_with callee input ps key ∷ []) is a n e
    by_flag is false = step_runs second (call_with callee of_fix ps key ∷ []) is a n e

    pub fresh_runs : (is : List Instr) (b : Bool) → HasFlag e.env (codes "fresh") b
        → run (fresh_or_fixed first second callee key ps ∷ is) a n e ≡ (step_of (call_with callee (source_by b) ps key ∷ []) a n e >-> run is a)
    fresh_runs is b h =
        either_runs (arm (plain (codes "fresh")) ks ∷ []) js is a n e
        ∙ ap (λ (x : Expr × List Instr). by_value (picked (x ∷ []) js e.env) n e (λ ls. run (ls ++ is) a n e)) (arm_lists (plain (codes "fresh")) ks)
        ∙ ap (λ (o : Outcome Bool). by_value (o >>= (λ c. if c then Gives ks else Gives js)) n e (λ ls. run (ls ++ is) a n e))
        (says_holds e.env (plain (codes "fresh")) b (flag_says e.env (codes "fresh") b h))
        ∙ by_flag is b

  -- ---- what the status asks for

  module _ (library : List Definition) where
    abbrev handled : Handler → Expr × List Instr
    handled h = (is_one_of h.statuses, remedied library h.remedy)

    handlers_list : (hs : List Handler) → map arm_list (map (arm_of library) hs) ≡ map handled hs
    handlers_list [] = refl
    handlers_list (h ∷ hs) = λ i. arm_lists (is_one_of h.statuses) (remedied library h.remedy) i ∷ handlers_list hs i

    abbrev pub remedies : Option Handler → List Instr
    remedies None = unhandled ∷ []
    remedies (Some h) = remedied library h.remedy

    -- the first arm whose condition holds
    picks : (t : Handler → Bool) (hs : List Handler) → ((h : Handler) → Says e.env (is_one_of h.statuses) (t h))
        → picked (map handled hs) (unhandled ∷ []) e.env ≡ Gives (remedies (first_of t hs))
    picks t [] says = refl
    picks t (h ∷ hs) says =
        ap (λ (o : Outcome Bool). o >>= (λ b. if b then Gives (remedied library h.remedy) else picked (map handled hs) (unhandled ∷ []) e.env))
        (says_holds e.env (is_one_of h.statuses) (t h) (says h))
        ∙ by_test (t h) (picks t hs says)
      where
        by_test : (b : Bool) → picked (map handled hs) (unhandled ∷ []) e.env ≡ Gives (remedies (first_of t hs))
            → (if b then Gives (remedied library h.remedy) else picked (map handled hs) (unhandled ∷ []) e.env)
            ≡ Gives (remedies (if b then Some h else first_of t hs))
        by_test true rest = refl
        by_test false rest = rest

    abbrev passes : List Port → List Instr
    passes given = step (codes "good") (passing given) ∷ []

    abbrev by_success : List Port → List Handler → Bool → Outcome (List Instr)
    by_success given hs b = if b then Gives (passes given) else picked (map handled hs) (unhandled ∷ []) e.env

    judged_by : (given : List Port) (hs : List Handler) (is : List Instr) (b : Bool) → Says e.env has_succeeded b
        → run (either (good given ∷ map (arm_of library) hs) (unhandled ∷ []) ∷ is) a n e ≡ by_value (by_success given hs b) n e (λ ls. run (ls ++ is) a n e)
    judged_by given hs is b h =
        either_runs (good given ∷ map (arm_of library) hs) (unhandled ∷ []) is a n e
        ∙ (λ i. by_value (picked (arm_lists has_succeeded (passes given) i ∷ handlers_list hs i) (unhandled ∷ []) e.env) n e (λ ls. run (ls ++ is) a n e))
        ∙ ap (λ (o : Outcome Bool). by_value (o >>= by_success given hs) n e (λ ls. run (ls ++ is) a n e)) (says_holds e.env has_succeeded b h)

    -- a job that succeeded
    pub success_runs : (given : List Port) (hs : List Handler) (is : List Instr) → Says e.env has_succeeded true
        → run (either (good given ∷ map (arm_of library) hs) (unhandled ∷ []) ∷ is) a n e ≡ (step_of (passing given) a n e >-> run is a)
    success_runs given hs is h = judged_by given hs is true h ∙ step_runs (codes "good") (passing given) is a n e

    -- one that failed
    pub failure_runs : (given : List Port) (hs : List Handler) (is : List Instr) (t : Handler → Bool) → Says e.env has_succeeded false
        → ((h : Handler) → Says e.env (is_one_of h.statuses) (t h))
        → run (either (good given ∷ map (arm_of library) hs) (unhandled ∷ []) ∷ is) a n e ≡ run (remedies (first_of t hs) ++ is) a n e
    failure_runs given hs is t h says =
        judged_by given hs is false h ∙ ap (λ (o : Outcome (List Instr)). by_value o n e (λ ls. run (ls ++ is) a n e)) (picks t hs says)
