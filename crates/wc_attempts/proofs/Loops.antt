-- The loop of the chain comes to what its attempts do.
use Rattle.std.proofs.Common.{◌≡◌, ◌∙◌, ap, sym, refl, subst, ℕ, zero, suc, ◌*◌, ◌<◌, ◌≤◌, Bool, true, false, List, [], ◌∷◌, ◌++◌, map, Option, Some, None, arith}
use Rattle.std.proofs.lemmas.Bool.Decides.{nat_tests}
use Rattle.std.specs.Int.{w32, saturate_unsigned}
use Rattle.std.specs.Prelude.{codes, nat_lt, pos, not, ◌==◌, ◌&&◌, ◌||◌, is_none, if◌then◌else◌}
use Rattle.std.specs.List.{AllByRecursion}
use Rattle.std.specs.Str.{bytes_eq}
use Rattle.wc_value.specs.Ascending.{Ascends, lookup}
use Rattle.wc_value.specs.declared.process.ProcessState.{ProcessState}
use Rattle.wc_value.specs.declared.process.ProcessState.TheVariants.{Created, Running, Waiting, Finished, Excepted, Killed}
use Rattle.wc_value.specs.declared.process.Reason.TheVariants.{NoOutput}
use Rattle.wc_value.specs.declared.process.Tree.{out-Tree}
use Rattle.wc_value.specs.declared.value.Kind.{Kind}
use Rattle.wc_value.specs.declared.value.Value.{Value}
use Rattle.wc_value.specs.declared.value.Value.TheVariants as value
use Rattle.wc_handlers.specs.declared.spec.Handler.{Handler}
use Rattle.wc_handlers.specs.declared.spec.Remedy.{Remedy}
use Rattle.wc_handlers.specs.declared.spec.Remedy.TheVariants as remedy
use Rattle.wc_handlers.specs.declared.spec.Spec.{Spec}
use Rattle.wc_syntax.specs.declared.definition.Definition.{Definition}
use Rattle.wc_syntax.specs.declared.definition.Function.{Function}
use Rattle.wc_syntax.specs.declared.definition.Port.{Port}
use Rattle.wc_syntax.specs.declared.outline.CallStmt.{CallStmt}
use Rattle.wc_syntax.specs.declared.outline.Stmt.TheVariants as stmt
use Rattle.wc_expression.specs.Environment.{is_success}
use Rattle.wc_state.specs.declared.environment.Child.{Child}
use Rattle.wc_state.specs.declared.environment.Env.{Env}
use Rattle.wc_state.specs.declared.environment.Item.TheVariants.{One, Plain}
use Rattle.wc_semantics.specs.declared.outcomes.Parsed.{Parsed}
use Rattle.wc_semantics.specs.declared.progress.Answer.TheVariants.{Gave}
use Rattle.wc_semantics.specs.declared.progress.Flow.TheVariants.{Ends}
use Rattle.wc_semantics.specs.declared.progress.Planned.{Planned}
use Rattle.wc_semantics.specs.declared.progress.Progress.{Progress}
use Rattle.wc_semantics.specs.declared.progress.Replayed.{Replayed}
use Rattle.wc_semantics.specs.Laws.{FrugalCall}
use Rattle.wc_semantics.specs.Outcomes.{calculated, lacks}
use Rattle.wc_semantics.specs.Rules.{Values, fits_port, unnumbered}
use Rattle.wc_semantics.specs.Run as runs
use Rattle.wc_semantics.specs.Run.{Around, ◌>->◌, child, next_label, run, step_of, with_call}
use Rattle.wc_semantics.specs.Statements.{exits, planned}
use Rattle.wc_semantics.specs.Tables.{Label}
use Rattle.wc_attempts.specs.Attempts.{at_ports, Attempted, ends, wants, Attempts, attempt, best_among, better, handler_for, is_last, mended, names_status, tried}
use Rattle.wc_attempts.specs.Attempts as attempts
use Rattle.wc_restart.specs.Chains as chains
use Rattle.wc_restart.specs.Chains.{fresh_or_fixed, remedied}
use Rattle.wc_restart.specs.Pieces.{given, step, word}
use Rattle.wc_restart.specs.Ports.{inputs_of}
use Rattle.wc_restart.specs.Statements.{ending, mending}
use Rattle.wc_attempts.proofs.Arguments.{HasAll, passes}
use Rattle.wc_attempts.proofs.Called.{Answers}
use Rattle.wc_attempts.proofs.Choices.{fresh_runs, remedies, source_by}
use Rattle.wc_attempts.proofs.Conditions.{HasChild}
use Rattle.wc_attempts.proofs.Context.{keyed_found, keyed_passed}
use Rattle.wc_attempts.proofs.Ends.{failure_goes, naming, naming_is, none_best, none_named, success_comes, success_ends, unhandled_ends, unhandled_goes}
use Rattle.wc_attempts.proofs.Given.{passed_is}
use Rattle.wc_attempts.proofs.Inputs.{Among, Fixed, Stands, all_given}
use Rattle.wc_attempts.proofs.Passing.{Passes}
use Rattle.wc_attempts.proofs.Steps.{call_goes, flagged, mending_step, within}
use Rattle.wc_attempts.proofs.Runs.{step_runs}
use Rattle.wc_attempts.proofs.Told.{counted_runs, still_stands, told, told_at, told_job}
use Rattle.wc_attempts.proofs.Turns.{Comes, IsAt, asked, behind_call, call_of_job, expected, given_ports, job_bound, job_lacks, judging, lacking_runs, loop_and_end, spent_comes, turn_runs}

-- values that have all ports lack none
pub all_lack : (ps : List Port) (v : Values) → HasAll v ps → lacks ps v ≡ false
all_lack [] v h = refl
all_lack (p ∷ ps) v h =
    ap (λ (o : Option Value). (not p.optional && is_none o) || lacks ps v) h.0.1 ∙ passes p.optional (lacks ps v) ∙ all_lack ps v h.1

not_zero : (n : ℕ) → (suc n == 0) ≡ false
not_zero n = grind (arith, nat_tests)

-- exit status;
ending_step : (a : Around) (n : ℕ) (e : Progress) (st : ℕ) → saturate_unsigned w32 (pos (suc st)) ≡ suc st → step_of (ending (suc st)) a n e ≡ Ends (Finished (suc st)) n e
ending_step a n e st small = ap (λ m. runs.after (exits m [] e.env e.outputs) a n e) small

-- ---- the best of handlers that have a property has it

abbrev pub OnSome : (Handler → Type 0) → Option Handler → Type 0
OnSome P None = Unit {0}
OnSome P (Some h) = P h

best_keeps : (P : Handler → Type 0) (t : Handler → Bool) (found : Option Handler) (hs : List Handler) → OnSome P found → AllByRecursion P hs → OnSome P (best_among t found hs)
best_keeps P t found [] o a = o
best_keeps P t found (h ∷ hs) o a = best_keeps P t (if t h then better found h else found) hs (picked (t h) found o) a.1
  where
    either : (b : Bool) (k : Handler) → P k → OnSome P (if b then Some h else Some k)
    either true k p = a.0
    either false k p = p

    picked : (b : Bool) (o : Option Handler) → OnSome P o → OnSome P (if b then better o h else o)
    picked true None p = a.0
    picked true (Some k) p = either (nat_lt k.priority h.priority) k p
    picked false o p = p

-- each output that is passed on is there as the job gave it
all_pass_of : (deep : Bool) (takes : List ℕ → Values → Bool) (kinds : List ℕ → Option Kind) (env : Env) (c : Child) (outs : Values) (ps : List Port) → HasChild env (codes "job") c
    → c.outputs ≡ map unnumbered outs → AllByRecursion (λ p. (v : Value) → lookup p.name.text outs ≡ Some v → fits_port (kinds p.name.text) v ≡ true) ps
    → AllByRecursion (Passes deep takes kinds env outs) ps
all_pass_of deep takes kinds env c outs [] held os fits = tt
all_pass_of deep takes kinds env c outs (p ∷ ps) held os fits =
    (record { given = passed_is (codes "job") p.name.text outs env c held os; fits = fits.0 }, all_pass_of deep takes kinds env c outs ps held os fits.1)

-- What a function of a handler does for good inputs.
pub record Mends (library : List Definition) (x : Attempts) (a : Around) (Good : Values → Type 0) (name : List ℕ) (f : Function) : Type 0 where
  pub found : x.function name ≡ Some f
  pub ports : inputs_of name library ≡ f.head.inputs
  pub among : Among (asked x) f.head.inputs
  pub has : (v : Values) → Good v → HasAll v f.head.inputs
  pub takes : (v : Values) → Good v → a.takes name (at_ports f.head.inputs v) ≡ true
  pub gives : (l : Label) (m : ℕ) (v : Values) → Good v → Answers (ends (calculated f (at_ports f.head.inputs v))) m (a.call l m name (at_ports f.head.inputs v))
  pub good : (v : Values) → Good v → lacks (asked x) (mended x v f) ≡ false → Good (mended x v f)

-- what is known of a remedy: its status is one, or its function mends
abbrev pub Fit : List Definition → Attempts → Around → (Values → Type 0) → Remedy → Type 0
Fit library x a Good (remedy.Abort n) = (st : ℕ) × (n ≡ suc st) × (saturate_unsigned w32 (pos (suc st)) ≡ suc st)
Fit library x a Good (remedy.Call name) = (g : Function) × Mends library x a Good name g

abbrev pub FitHandler : List Definition → Attempts → Around → (Values → Type 0) → Handler → Type 0
FitHandler library x a Good h = Fit library x a Good h.remedy

-- What the job's outputs are where it finished with 0.
pub record Delivers (x : Attempts) (a : Around) (outs : Values) : Type 0 where
  pub ordered : Ascends outs
  pub all : HasAll outs (given_ports x)
  pub fits : AllByRecursion (λ p. (v : Value) → lookup p.name.text outs ≡ Some v → fits_port (a.kinds p.name.text) v ≡ true) (given_ports x)
  pub full : lacks (given_ports x) (at_ports (given_ports x) outs) ≡ false

module _ (library : List Definition) (s : Spec) (x : Attempts) (a : Around) (shallow : a.deep ≡ false) (alive : a.stop ≡ None) (frugal : FrugalCall a.call) (few : s.most < 1000)
    (same : s.handlers ≡ x.handlers) (Good : Values → Type 0) (ordered : (v : Values) → Good v → Ascends v) (whole : (v : Values) → Good v → at_ports (asked x) v ≡ v)
    (all : (v : Values) → Good v → HasAll v (asked x)) (among : Among (asked x) (asked x)) (takes : (v : Values) → Good v → a.takes s.job v ≡ true)
    (gives : (l : Label) (m : ℕ) (v : Values) → Good v → Answers (tried x v) m (a.call l m s.job v))
    (delivers : (v : Values) (p : Parsed) → Good v → tried x v ≡ ends p → p.state ≡ Finished 0 → Delivers x a p.outputs) where
  abbrev ports : List Port
  ports = given_ports x

  -- so many attempts come to what they should, from each place before them
  abbrev pub Keeps : ℕ → Type 0
  Keeps left = (v : Values) (bad : Bool) (e : Progress) (n : ℕ) → IsAt s x left v bad e → (lacks (asked x) v ≡ false → Good v) → 3 * left ≤ n
      → Comes ports (expected x left v bad) (run (loop_and_end library s x) a n e)

  -- ---- inputs that lack a port

  old_at : (e : Progress) (v : Values) (b : Bool) → Stands (asked x) e.env v b → lacks (asked x) v ≡ true → (b ≡ false) × Fixed (asked x) e.env v
  old_at e v true st h = let k : lacks (asked x) v ≡ false = all_lack (asked x) v st.all in absurd (cc)
  old_at e v false st h = (refl, st)

  lacking_comes : (left : ℕ) (v : Values) (bad : Bool) (e : Progress) (m : ℕ) → (i : IsAt s x (suc left) v bad e) → lacks (asked x) v ≡ true
      → Comes ports (expected x (suc left) v bad) (run (loop_and_end library s x) a (suc m) e)
  lacking_comes left v bad e m i h =
      let old : (i.fresh ≡ false) × Fixed (asked x) e.env v = old_at e v i.fresh i.stands h in
      subst (λ (b : Bool). Comes ports (if b && true then ends (record { state = Excepted NoOutput; outputs = [] }) else attempt (suc left) x v bad)
      (run (loop_and_end library s x) a (suc m) e)) (sym h)
      (subst (Comes ports (ends (record { state = Excepted NoOutput; outputs = [] }))) (sym (lacking_runs library s x a shallow alive frugal left v bad e m i old.0 old.1 among h)) (refl, refl))

  -- ---- by the state of the job

  module _ (left : ℕ) (next : Keeps left) (v : Values) (good : Good v) where
    full : lacks (asked x) v ≡ false
    full = all_lack (asked x) v (all v good)

    -- the next attempt, with the same inputs
    again : (bad : Bool) (f : Progress) (k : ℕ) → IsAt s x left v bad f → 3 * left ≤ k → Comes ports (attempt left x v bad) (run (loop_and_end library s x) a k f)
    again bad f k i enough =
        subst (λ (b : Bool). Comes ports (if b && not (is_last left) then ends (record { state = Excepted NoOutput; outputs = [] }) else attempt left x v bad)
        (run (loop_and_end library s x) a k f)) full
        (next v bad f k i (λ h. good) enough)

    -- marked as failed once
    marked_at : (bad : Bool) (f : Progress) → IsAt s x left v bad f → IsAt s x left v true (within f (flagged (codes "bad") true f.env))
    marked_at bad f i = record {
      count = i.count;
      counted = keyed_passed (codes "bad") (codes "n") (Plain (value.Bool true)) f.env.ctx refl ∙ i.counted;
      all = i.all;
      undone = keyed_passed (codes "bad") (codes "done") (Plain (value.Bool true)) f.env.ctx refl ∙ i.undone;
      marked = keyed_found (codes "bad") (Plain (value.Bool true)) f.env.ctx;
      none_out = i.none_out;
      fresh = i.fresh;
      says = keyed_passed (codes "bad") (codes "fresh") (Plain (value.Bool true)) f.env.ctx refl ∙ i.says;
      stands = still_stands (asked x) f.env (flagged (codes "bad") true f.env) v i.fresh
          (record { inputs = refl; held = keyed_passed (codes "bad") (codes "fix") (Plain (value.Bool true)) f.env.ctx refl }) i.stands;
    }

    -- no handler
    unhandled_comes : (bad : Bool) (f : Progress) (k : ℕ) → IsAt s x left v bad f → 3 * left ≤ k
        → Comes ports (attempts.unhandled (attempt left x) v bad) (run (chains.unhandled ∷ loop_and_end library s x) a k f)
    unhandled_comes true f k i enough =
        subst (Comes ports (attempts.finished 402 [])) (sym (unhandled_ends library s x a shallow alive frugal k f (loop_and_end library s x) i.marked)) (refl, i.none_out)
    unhandled_comes false f k i enough =
        subst (Comes ports (attempt left x v true)) (sym (unhandled_goes library s x a shallow alive frugal k f (loop_and_end library s x) i.marked))
        (again true (within f (flagged (codes "bad") true f.env)) k (marked_at false f i) enough)

    -- a job that finished with 0
    success : (bad : Bool) (f : Progress) (k : ℕ) (c : Child) (outs : Values) → IsAt s x left v bad f → HasChild f.env (codes "job") c → c.state ≡ Finished 0 → c.outputs ≡ map unnumbered outs
        → Delivers x a outs → Comes ports (attempts.finished 0 (at_ports ports outs)) (run (judging library s x ∷ loop_and_end library s x) a k f)
    success bad f k c outs i held ok os d =
        subst (Comes ports (attempts.finished 0 (at_ports ports outs)))
        (sym (success_ends library s x a shallow alive frugal k f c outs held ok i.none_out (all_pass_of a.deep a.takes a.kinds f.env c outs ports held os d.fits) d.all d.ordered))
        (success_comes library s x a shallow alive frugal k (record { env = flagged (codes "done") true f.env; outputs = at_ports ports outs; calls = f.calls }) outs d.full refl)

    -- ---- a handler's function

    module _ (bad : Bool) (f : Progress) (i : IsAt s x left v bad f) (name : List ℕ) (g : Function) (m : Mends library x a Good name g) where
      abbrev its_call : CallStmt
      its_call = record { at = 0; callee = word name; args = map (given (source_by i.fresh)) g.head.inputs; append = false; key = word (codes "fix") }

      abbrev its_inputs : Values
      its_inputs = at_ports g.head.inputs v

      abbrev its_plan : Planned
      its_plan = planned its_call its_inputs

      abbrev its_label : Label
      its_label = next_label its_plan f

      abbrev called_at : Replayed → Progress
      called_at t = with_call its_plan its_label t f

      abbrev mended_at : Replayed → Progress
      mended_at t = within (called_at t) (flagged (codes "bad") false (flagged (codes "fresh") false (called_at t).env))

      -- what stands at a key that isn't set
      stays : (t : Replayed) (k : List ℕ) → bytes_eq (codes "bad") k ≡ false → bytes_eq (codes "fresh") k ≡ false → bytes_eq (codes "fix") k ≡ false
          → lookup k (mended_at t).env.ctx ≡ lookup k f.env.ctx
      stays t k p q r =
          keyed_passed (codes "bad") k (Plain (value.Bool false)) _ p ∙ keyed_passed (codes "fresh") k (Plain (value.Bool false)) _ q ∙ keyed_passed (codes "fix") k (One (child t)) f.env.ctx r

      mended_is_at : (t : Replayed) → (out-Tree t.tree).outputs ≡ (calculated g its_inputs).outputs → IsAt s x left (mended x v g) false (mended_at t)
      mended_is_at t os = record {
        count = i.count;
        counted = stays t (codes "n") refl refl refl ∙ i.counted;
        all = i.all;
        undone = stays t (codes "done") refl refl refl ∙ i.undone;
        marked = keyed_found (codes "bad") (Plain (value.Bool false)) (flagged (codes "fresh") false (called_at t).env).ctx;
        none_out = i.none_out;
        fresh = false;
        says = keyed_passed (codes "bad") (codes "fresh") (Plain (value.Bool false)) (flagged (codes "fresh") false (called_at t).env).ctx refl
            ∙ keyed_found (codes "fresh") (Plain (value.Bool false)) (called_at t).env.ctx;
        stands = record {
          child = child t;
          outs = (calculated g its_inputs).outputs;
          held = keyed_passed (codes "bad") (codes "fix") (Plain (value.Bool false)) (flagged (codes "fresh") false (called_at t).env).ctx refl
              ∙ keyed_passed (codes "fresh") (codes "fix") (Plain (value.Bool false)) (called_at t).env.ctx refl
              ∙ keyed_found (codes "fix") (One (child t)) f.env.ctx;
          has = ap (map unnumbered) os;
          are = refl;
        };
      }

      -- its outputs are the next inputs
      mended_runs : (k : ℕ) (t : Replayed) → a.call its_label k name its_inputs ≡ Gave t k
          → run (remedied library (remedy.Call name) ++ loop_and_end library s x) a (suc k) f ≡ run (loop_and_end library s x) a k (mended_at t)
      mended_runs k t called =
          ap (λ ps. run (fresh_or_fixed (codes "mend") (codes "remend") name (codes "fix") ps ∷ (step (codes "mended") mending ∷ loop_and_end library s x)) a (suc k) f) m.ports
          ∙ fresh_runs a (suc k) f (codes "mend") (codes "remend") name (codes "fix") g.head.inputs (step (codes "mended") mending ∷ loop_and_end library s x) i.fresh i.says
          ∙ ap (λ w. w >-> run (step (codes "mended") mending ∷ loop_and_end library s x) a)
          (call_goes a its_call k k f its_inputs t shallow alive (all_given (asked x) f.env v i.fresh g.head.inputs i.stands m.among (m.has v good) (ordered v good)) (m.takes v good) called)
          ∙ step_runs (codes "mended") mending (loop_and_end library s x) a k (called_at t)
          ∙ ap (λ w. w >-> run (loop_and_end library s x) a) (mending_step a k (called_at t))

      mended_comes : (k : ℕ) → 3 * left ≤ k
          → Comes ports (attempts.goes_on_with (attempt left x) (is_last left) x (mended x v g)) (run (remedied library (remedy.Call name) ++ loop_and_end library s x) a (suc k) f)
      mended_comes k enough =
          let got = m.gives its_label k v good in
          subst (Comes ports (expected x left (mended x v g) false)) (sym (mended_runs k got.0 got.1))
          (next (mended x v g) false (mended_at got.0) k (mended_is_at got.0 got.3) (λ h. m.good v good h) enough)

    -- ---- any handler

    -- a handler that ends the chain
    ended_comes : (bad : Bool) (f : Progress) (k st : ℕ) → IsAt s x left v bad f → saturate_unsigned w32 (pos (suc st)) ≡ suc st
        → Comes ports (attempts.finished (suc st) []) (run (remedied library (remedy.Abort (suc st)) ++ loop_and_end library s x) a k f)
    ended_comes bad f k st i small =
        subst (Comes ports (attempts.finished (suc st) []))
        (sym (step_runs (codes "stop") (ending (suc st)) (loop_and_end library s x) a k f ∙ ap (λ w. w >-> run (loop_and_end library s x) a) (ending_step a k f st small)))
        (ap (λ (b : Bool). Finished (if b && lacks ports f.outputs then 11 else suc st)) (not_zero st), i.none_out)

    remedy_comes : (bad : Bool) (f : Progress) (k : ℕ) (r : Remedy) → IsAt s x left v bad f → Fit library x a Good r → 3 * left ≤ k
        → Comes ports (attempts.by_remedy (attempt left x) (is_last left) x v bad r) (run (remedied library r ++ loop_and_end library s x) a (suc k) f)
    remedy_comes bad f k (remedy.Abort n) i fit enough =
        subst (λ m. Comes ports (attempts.finished m []) (run (remedied library (remedy.Abort m) ++ loop_and_end library s x) a (suc k) f)) (sym fit.1) (ended_comes bad f (suc k) fit.0 i fit.2)
    remedy_comes bad f k (remedy.Call name) i fit enough =
        subst (λ o. Comes ports (attempts.by_function (attempt left x) (is_last left) x v bad o) (run (remedied library (remedy.Call name) ++ loop_and_end library s x) a (suc k) f)) (sym fit.1.found)
        (mended_comes bad f i name fit.0 fit.1 k enough)

    handled_comes : (bad : Bool) (f : Progress) (k : ℕ) (o : Option Handler) → IsAt s x left v bad f → OnSome (FitHandler library x a Good) o → 3 * left ≤ k
        → Comes ports (attempts.handled (attempt left x) (is_last left) x v bad o) (run (remedies a (suc k) f library o ++ loop_and_end library s x) a (suc k) f)
    handled_comes bad f k None i fit enough = unhandled_comes bad f (suc k) i (omega arith)
    handled_comes bad f k (Some h) i fit enough = remedy_comes bad f k h.remedy i fit enough

    module _ (bad : Bool) (f : Progress) (k : ℕ) (c : Child) (outs : Values) (i : IsAt s x left v bad f) (held : HasChild f.env (codes "job") c) (os : c.outputs ≡ map unnumbered outs)
        (fit : AllByRecursion (FitHandler library x a Good) x.handlers) (enough : 3 * left ≤ k) where
      -- a state whose status no handler names, or some may
      failed : (state : ProcessState) → c.state ≡ state → is_success state ≡ false
          → run (judging library s x ∷ loop_and_end library s x) a (suc k) f
          ≡ run (remedies a (suc k) f library (best_among (naming state) None x.handlers) ++ loop_and_end library s x) a (suc k) f
      failed state e misses =
          failure_goes library s x a shallow alive frugal (suc k) f c (loop_and_end library s x) held (ap is_success e ∙ misses)
          ∙ (λ j. run (remedies a (suc k) f library (best_among (naming (e j)) None (same j)) ++ loop_and_end library s x) a (suc k) f)

      unnamed : (state : ProcessState) → c.state ≡ state → is_success state ≡ false → ((h : Handler) → naming state h ≡ false)
          → Comes ports (attempts.unhandled (attempt left x) v bad) (run (judging library s x ∷ loop_and_end library s x) a (suc k) f)
      unnamed state e misses none =
          subst (Comes ports (attempts.unhandled (attempt left x) v bad))
          (sym (failed state e misses ∙ ap (λ o. run (remedies a (suc k) f library o ++ loop_and_end library s x) a (suc k) f) (none_best (naming state) x.handlers none)))
          (unhandled_comes bad f (suc k) i (omega arith))

      judged_comes : (state : ProcessState) → c.state ≡ state → (state ≡ Finished 0 → Delivers x a outs)
          → Comes ports (attempts.by_state (attempt left x) (is_last left) x v bad state outs) (run (judging library s x ∷ loop_and_end library s x) a (suc k) f)
      judged_comes (Finished zero) e d = success bad f (suc k) c outs i held e os (d refl)
      judged_comes (Finished (suc n)) e d =
          subst (Comes ports (attempts.handled (attempt left x) (is_last left) x v bad (handler_for (suc n) x.handlers)))
          (sym (failed (Finished (suc n)) e (not_zero n)
          ∙ ap (λ t. run (remedies a (suc k) f library (best_among t None x.handlers) ++ loop_and_end library s x) a (suc k) f) (naming_is (suc n))))
          (handled_comes bad f k (handler_for (suc n) x.handlers) i (best_keeps (FitHandler library x a Good) (names_status (suc n)) None x.handlers tt fit) enough)
      judged_comes Created e d = unnamed Created e refl (λ h. none_named h.statuses)
      judged_comes Running e d = unnamed Running e refl (λ h. none_named h.statuses)
      judged_comes Waiting e d = unnamed Waiting e refl (λ h. none_named h.statuses)
      judged_comes (Excepted r) e d = unnamed (Excepted r) e refl (λ h. none_named h.statuses)
      judged_comes Killed e d = unnamed Killed e refl (λ h. none_named h.statuses)

    -- ---- the attempt

    module _ (bad : Bool) (e : Progress) (k : ℕ) (i : IsAt s x (suc left) v bad e) (fit : AllByRecursion (FitHandler library x a Good) x.handlers) (enough : 3 * left ≤ k) where
      abbrev plan : Planned
      plan = planned (call_of_job library s x a shallow alive frugal i.fresh) v

      abbrev job_label : Label
      job_label = next_label plan e

      by_tried : (o : Attempted) → tried x v ≡ o → Answers o (suc k) (a.call job_label (suc k) s.job v)
          → Comes ports (attempts.after (attempt left x) (is_last left) x v bad o)
          (step_of (stmt.Call (call_of_job library s x a shallow alive frugal i.fresh) ∷ []) a (suc (suc k)) e >-> run (behind_call library s x) a)
      by_tried (wants q) same h =
          subst (Comes ports (wants q))
          (sym (job_lacks library s x a shallow alive frugal v e i.fresh i.stands among (all v good) (ordered v good) (whole v good) (takes v good) (suc k) q h)) refl
      by_tried (ends p) same h =
          let f : Progress = told library s x a few left v bad e i plan refl refl job_label h.0 in
          subst (Comes ports (attempts.by_state (attempt left x) (is_last left) x v bad p.state p.outputs))
          (sym (job_bound library s x a shallow alive frugal v e i.fresh i.stands among (all v good) (ordered v good) (whole v good) (takes v good) (suc k) (suc k) h.0 h.1
          ∙ counted_runs library s x a few left v bad e i plan refl refl job_label h.0 (suc k)))
          (judged_comes bad f k (child h.0) p.outputs (told_at library s x a few left v bad e i plan refl refl job_label h.0) (told_job library s x a few left v bad e i plan refl refl job_label h.0)
          (ap (map unnumbered) h.3) fit enough p.state h.2 (λ z. delivers v p good same z))

      attempt_comes : Comes ports (attempt (suc left) x v bad) (run (loop_and_end library s x) a (suc (suc (suc k))) e)
      attempt_comes =
          subst (Comes ports (attempt (suc left) x v bad)) (sym (turn_runs library s x a shallow alive frugal left v bad e (suc (suc k)) i))
          (by_tried (tried x v) refl (gives job_label (suc k) v good))

  -- ---- the loop

  pub loop_comes : AllByRecursion (FitHandler library x a Good) x.handlers → (left : ℕ) → Keeps left
  loop_comes fit zero = λ v bad e n i good enough. spent_comes library s x a shallow alive frugal v bad e n i
  loop_comes fit (suc left) = by_fuel (loop_comes fit left)
    where
      by_lack : Keeps left → (v : Values) (bad : Bool) (e : Progress) (k : ℕ) (b : Bool) → lacks (asked x) v ≡ b → IsAt s x (suc left) v bad e → (lacks (asked x) v ≡ false → Good v) → 3 * left ≤ k
          → Comes ports (expected x (suc left) v bad) (run (loop_and_end library s x) a (suc (suc (suc k))) e)
      by_lack rest v bad e k true h i good enough = lacking_comes left v bad e (suc (suc k)) i h
      by_lack rest v bad e k false h i good enough =
          subst (λ (b : Bool). Comes ports (if b && true then ends (record { state = Excepted NoOutput; outputs = [] }) else attempt (suc left) x v bad)
          (run (loop_and_end library s x) a (suc (suc (suc k))) e)) (sym h)
          (attempt_comes left rest v (good h) bad e k i fit enough)

      by_fuel : Keeps left → Keeps (suc left)
      by_fuel rest v bad e zero i good enough = absurd (omega arith)
      by_fuel rest v bad e (suc zero) i good enough = absurd (omega arith)
      by_fuel rest v bad e (suc (suc zero)) i good enough = absurd (omega arith)
      by_fuel rest v bad e (suc (suc (suc k))) i good enough = by_lack rest v bad e k (lacks (asked x) v) refl i good (omega arith)
