-- An expanded library means what the attempts of its chain come to.
use Rattle.std.proofs.Common.{◌≡◌, ◌∙◌, ap, sym, refl, subst, ℕ, zero, suc, ◌*◌, ◌≤◌, ◌<◌, Bool, true, false, List, [], ◌∷◌, Option, Some, None, arith}
use Rattle.std.specs.Int.{w32, saturate_unsigned}
use Rattle.std.specs.Prelude.{pos, not, ◌&&◌, if◌then◌else◌, flat_map, is_some}
use Rattle.std.specs.List.{AllByRecursion}
use Rattle.std.specs.Str.{bytes_eq}
use Rattle.wc_value.specs.declared.process.JobResult.{JobResult}
use Rattle.wc_value.specs.declared.process.ProcessState.TheVariants.{Excepted}
use Rattle.wc_value.specs.declared.process.Reason.TheVariants.{NoOutput}
use Rattle.wc_value.specs.declared.process.Request.{Request}
use Rattle.wc_handlers.specs.Specs.{IsHandler, IsRemedy, IsSpec}
use Rattle.wc_handlers.specs.declared.error.RestartError.{RestartError}
use Rattle.wc_handlers.specs.declared.error.RestartError.TheVariants as error
use Rattle.wc_handlers.specs.declared.spec.Handler.{Handler}
use Rattle.wc_handlers.specs.declared.spec.Remedy.{Remedy}
use Rattle.wc_handlers.specs.declared.spec.Remedy.TheVariants as remedy
use Rattle.wc_handlers.specs.declared.spec.Spec.{Spec}
use Rattle.wc_syntax.specs.Checked.{IsCheckedDefinition, KeepsRules}
use Rattle.wc_syntax.specs.Findings.{definition_named, head_of, port_names, ports_placed, repeats, reserved_port}
use Rattle.wc_syntax.specs.declared.definition.Definition.{Definition}
use Rattle.wc_syntax.specs.declared.definition.Definition.TheVariants as definition
use Rattle.wc_syntax.specs.declared.definition.Function.{Function}
use Rattle.wc_syntax.specs.declared.definition.Job.{Job}
use Rattle.wc_semantics.proofs.Leaves.{around_frugal}
use Rattle.wc_semantics.specs.Meaning.{calls_of, ended, first, meaning, surrounding, takes_inputs, within}
use Rattle.wc_semantics.specs.Rules.{Values}
use Rattle.wc_semantics.specs.Run.{Around, run}
use Rattle.wc_semantics.specs.Tables.{no_kills, plain}
use Rattle.wc_meaning.specs.Inputs.{bad_input}
use Rattle.wc_restart.specs.Chains.{chain_of, expanded, finish, setup, turn_with}
use Rattle.wc_restart.specs.Judging.{Refusal, bad_ports, fits, misfit_in, misnamed, or_then, same_priorities, unknown_functions, unknown_in, unless}
use Rattle.wc_restart.specs.Pieces.{while}
use Rattle.wc_restart.specs.Ports.{all_among, as_job, asked_of, function_named, given_of, inputs_in, job_named, outputs_in, required}
use Rattle.wc_restart.specs.Statements.{goes_on}
use Rattle.wc_restart.proofs.Named.{chain_found, found_before}
use Rattle.wc_attempts.specs.Attempts.{Attempts, at_ports, attempt, ends, is_last}
use Rattle.wc_attempts.specs.Laws.{Meets, Restarts, attempts_of, in_order}
use Rattle.wc_attempts.proofs.Called.{function_called, job_called, means}
use Rattle.wc_attempts.proofs.Delivered.{as_function_is, delivers, mended_good}
use Rattle.wc_attempts.proofs.Good.{GoodFor, good_given, good_taken, good_whole, has_within, order_finds, order_good}
use Rattle.wc_attempts.proofs.Inputs.{Among}
use Rattle.wc_attempts.proofs.PortKinds.{Distinct, all_within, among_among, and_parts, both_empty, distinct, required_all, required_distinct}
use Rattle.wc_attempts.proofs.Loops.{Fit, FitHandler, Mends, all_lack, loop_comes}
use Rattle.wc_attempts.proofs.Runs.{block_lists}
use Rattle.wc_attempts.proofs.Starts.{begins, begun, begun_at, comes_meets}
use Rattle.wc_attempts.proofs.Turns.{Comes, asked, expected, given_ports, loop_and_end}

-- ---- what isn't refused

or_then_none : (r q : Refusal) → or_then r q ≡ None → (r ≡ None) × (q ≡ None)
or_then_none None q h = (refl, h)
or_then_none (Some e) q h = absurd (cc)

unless_none : (b : Bool) (e : RestartError) → unless b e ≡ None → b ≡ true
unless_none true e h = refl
unless_none false e h = absurd (cc)

none_is : (o : Option Definition) (e : RestartError) → unless (not (is_some o)) e ≡ None → o ≡ None
none_is None e h = refl
none_is (Some d) e h = absurd (cc)

as_job_is : (o : Option Definition) (j : Job) → as_job o ≡ Some j → o ≡ Some (definition.Job j)
as_job_is None j h = absurd (cc)
as_job_is (Some (definition.Function f)) j h = absurd (cc)
as_job_is (Some (definition.Job i)) j h = let same : i ≡ j = cc in ap (λ x. Some (definition.Job x)) same
as_job_is (Some (definition.Chain c)) j h = absurd (cc)

-- ---- what a checked library says

checked_named : (library ds : List Definition) (name : List ℕ) (d : Definition) → AllByRecursion (IsCheckedDefinition library) ds → definition_named name ds ≡ Some d
    → IsCheckedDefinition library d
checked_named library [] name d c h = absurd (cc)
checked_named library (e ∷ es) name d c h = by_name (bytes_eq (head_of e).name.text name) h (λ k. checked_named library es name d c.1 k)
  where
    by_name : (b : Bool) → (if b then Some e else definition_named name es) ≡ Some d → (definition_named name es ≡ Some d → IsCheckedDefinition library d) → IsCheckedDefinition library d
    by_name true k rest = let same : e ≡ d = cc in subst (IsCheckedDefinition library) same c.0
    by_name false k rest = rest k

inputs_differ : (library : List Definition) (d : Definition) → IsCheckedDefinition library d → Distinct (port_names (head_of d).inputs)
inputs_differ library d c = distinct (head_of d).inputs (both_empty (repeats (ports_placed (head_of d).inputs)) (repeats (ports_placed (head_of d).outputs)) c.ports_differ).0

outputs_differ : (library : List Definition) (d : Definition) → IsCheckedDefinition library d → Distinct (port_names (head_of d).outputs)
outputs_differ library d c = distinct (head_of d).outputs (both_empty (repeats (ports_placed (head_of d).inputs)) (repeats (ports_placed (head_of d).outputs)) c.ports_differ).1

outputs_free : (library : List Definition) (j : Job) → IsCheckedDefinition library (definition.Job j) → flat_map reserved_port j.head.outputs ≡ []
outputs_free library j c = (both_empty (flat_map reserved_port j.head.inputs) (flat_map reserved_port j.head.outputs) c.ports_free).1

-- ---- statuses with which handlers end the chain

small_status : (n : ℕ) → n ≤ 9999 → saturate_unsigned w32 (pos n) ≡ n
small_status n h = omega arith

status_is : (n : ℕ) → 100 ≤ n → n ≤ 9999 → (st : ℕ) × (n ≡ suc st) × (saturate_unsigned w32 (pos (suc st)) ≡ suc st)
status_is zero l m = absurd (omega arith)
status_is (suc st) l m = (st, refl, small_status (suc st) m)

module _ (library : List Definition) (s : Spec) (j : Job) (rows : List (Request × JobResult)) (k : ℕ) (job_is : definition_named s.job library ≡ Some (definition.Job j))
    (checked : KeepsRules library) where
  abbrev x : Attempts
  x = attempts_of library s j rows

  abbrev full : List Definition
  full = expanded library s

  -- what surrounds the chain's run
  abbrev a : Around
  a = within (given_ports x) None (surrounding full (calls_of (suc k) full (plain rows) no_kills))

  job_checked : IsCheckedDefinition library (definition.Job j)
  job_checked = checked_named library library s.job (definition.Job j) checked.each job_is

  job_found : definition_named s.job full ≡ Some (definition.Job j)
  job_found = found_before s.job library (definition.Chain (chain_of library s) ∷ []) (definition.Job j) job_is

  asked_is : asked_of s.job library ≡ asked x
  asked_is = ap (λ o. required (inputs_in o)) job_is

  given_is : given_of s.job library ≡ given_ports x
  given_is = ap (λ o. required (outputs_in o)) job_is

  asked_differ : Distinct (port_names (asked x))
  asked_differ = required_distinct j.head.inputs (inputs_differ library (definition.Job j) job_checked)

  -- ---- handlers

  mends : (name : List ℕ) (f : Function) → function_named name library ≡ Some f → fits (asked x) (Some f) ≡ true → Mends library x a (GoodFor (asked x)) name f
  mends name f found h =
      let ins = and_parts (all_among f.head.inputs (asked x)) (all_among (required f.head.outputs) (asked x) && all_among (asked x) (required f.head.outputs)) h in
      let outs = and_parts (all_among (required f.head.outputs) (asked x)) (all_among (asked x) (required f.head.outputs)) ins.1 in
      let is : definition_named name library ≡ Some (definition.Function f) = as_function_is (definition_named name library) f found in
      let behind : definition_named name full ≡ Some (definition.Function f) = found_before name library (definition.Chain (chain_of library s) ∷ []) (definition.Function f) is in
      let rules : IsCheckedDefinition library (definition.Function f) = checked_named library library name (definition.Function f) checked.each is in
      let among : Among (asked x) f.head.inputs = all_within f.head.inputs (asked x) (λ n m. among_among f.head.inputs (asked x) n ins.0 m) in record {
        found = found;
        ports = ap inputs_in is;
        among = among;
        has = λ v g. has_within (asked x) f.head.inputs v g.all among;
        takes = λ v g. ap (λ o. takes_inputs o (at_ports f.head.inputs v)) behind ∙ good_given (asked x) f.head.inputs v asked_differ ins.0 g;
        gives = λ l m v g. function_called full rows k m name f (at_ports f.head.inputs v) behind;
        good = λ v g lacks_none. mended_good x f v (outputs_differ library (definition.Function f) rules) outs.1 lacks_none;
      }

  remedy_fits : (r : Remedy) → IsRemedy r → unknown_in library r ≡ None → misfit_in library (asked x) r ≡ None → Fit library x a (GoodFor (asked x)) r
  remedy_fits (remedy.Abort n) is u m = status_is n is.0 is.1
  remedy_fits (remedy.Call name) is u m = by_function (function_named name library) refl u m
    where
      by_function : (o : Option Function) → function_named name library ≡ o → unless (is_some o) (error.UnknownName name) ≡ None
          → unless (fits (asked x) o) (error.BadPorts name) ≡ None → Fit library x a (GoodFor (asked x)) (remedy.Call name)
      by_function None e u m = absurd (cc)
      by_function (Some f) e u m = (f, mends name f e (unless_none (fits (asked x) (Some f)) (error.BadPorts name) m))

  handlers_fit : (hs : List Handler) → AllByRecursion IsHandler hs → unknown_functions library hs ≡ None → bad_ports library (asked x) hs ≡ None
      → AllByRecursion (FitHandler library x a (GoodFor (asked x))) hs
  handlers_fit [] is u m = tt
  handlers_fit (h ∷ hs) is u m =
      let us = or_then_none (unknown_in library h.remedy) (unknown_functions library hs) u in
      let ms = or_then_none (misfit_in library (asked x) h.remedy) (bad_ports library (asked x) hs) m in
      (remedy_fits h.remedy is.0.remedy us.0 ms.0, handlers_fit hs is.1 us.1 ms.1)

  -- ---- the loop

  module _ (few : s.most < 1000) (fit : AllByRecursion (FitHandler library x a (GoodFor (asked x))) s.handlers) (n : ℕ) (enough : 3 * s.most ≤ n) (v : Values)
      (good : GoodFor (asked x) (in_order v)) where
    comes_to_expected : Comes (given_ports x) (expected x s.most (in_order v) false) (run (loop_and_end library s x) a n (begun v))
    comes_to_expected =
        loop_comes library s x a refl refl (around_frugal (suc k) full (plain rows) no_kills) few refl (GoodFor (asked x)) (λ u g. g.ordered) (λ u g. good_whole (asked x) u g) (λ u g. g.all)
        (all_within (asked x) (asked x) (λ name m. m)) (λ u g. ap (λ o. takes_inputs o u) job_found ∙ good_taken j.head.inputs u (inputs_differ library (definition.Job j) job_checked) g)
        (λ l m u g. job_called full rows x k m s.job u refl job_found)
        (λ u p g h z. delivers x a (outputs_differ library (definition.Job j) job_checked) (outputs_free library j job_checked) (λ name. refl) u p h z) fit s.most (in_order v) false (begun v) n
        (begun_at v s x (in_order v) (order_finds v) good.all) (λ h. good) enough

    comes : Comes (given_ports x) (attempt s.most x (in_order v) false) (run (loop_and_end library s x) a n (begun v))
    comes =
        subst
        (λ (b : Bool). Comes (given_ports x) (if b && not (is_last s.most) then ends (record { state = Excepted NoOutput; outputs = [] }) else attempt s.most x (in_order v) false)
        (run (loop_and_end library s x) a n (begun v)))
        (all_lack (asked x) (in_order v) good.all) comes_to_expected

    chain_means : definition_named s.name library ≡ None
        → meaning (suc k) full (plain rows) no_kills n s.name v ≡ ended None s.name (given_ports x) (run (setup ∷ loop_and_end library s x) a n (first v))
    chain_means new =
        means full rows (suc k) n s.name (definition.Chain (chain_of library s)) v (chain_found library s new)
        ∙ (λ i. ended None s.name (given_is i)
        (run (block_lists (setup ∷ (while (goes_on s.most) (turn_with library s (asked_is i) (given_is i)) ∷ (finish ∷ []))) i)
        (within (given_is i) None (surrounding full (calls_of (suc k) full (plain rows) no_kills))) n (first v)))

    meets : definition_named s.name library ≡ None → Meets (attempt s.most x (in_order v) false) (meaning (suc k) full (plain rows) no_kills n s.name v)
    meets new =
        subst (Meets (attempt s.most x (in_order v) false)) (sym (chain_means new ∙ ap (ended None s.name (given_ports x)) (begins v library s x a n)))
        (comes_meets s.name (given_ports x) (attempt s.most x (in_order v) false) (run (loop_and_end library s x) a n (begun v)) comes)

-- ---- the theorem

-- A library that keeps the rules, with the chain of a spec of which nothing is refused, comes to what the attempts do.
pub restarts : (library : List Definition) (s : Spec) → KeepsRules library → IsSpec s → misnamed library s ≡ None → Restarts library s (expanded library s)
restarts library s checked spec h j named rows zero n v some deep enough good = absurd (omega arith)
restarts library s checked spec h j named rows (suc k) n v some deep enough good =
    let r4 : Refusal = or_then (bad_ports library (asked_of s.job library) s.handlers) (same_priorities [] s.handlers) in
    let r3 : Refusal = or_then (unless (not (is_some (definition_named s.name library))) (error.NameTaken s.name)) r4 in
    let r2 : Refusal = or_then (unknown_functions library s.handlers) r3 in
    let p1 = or_then_none (unless (is_some (job_named s.job library)) (error.UnknownName s.job)) r2 h in
    let p2 = or_then_none (unknown_functions library s.handlers) r3 p1.1 in
    let p3 = or_then_none (unless (not (is_some (definition_named s.name library))) (error.NameTaken s.name)) r4 p2.1 in
    let p4 = or_then_none (bad_ports library (asked_of s.job library) s.handlers) (same_priorities [] s.handlers) p3.1 in
    let job_is : definition_named s.job library ≡ Some (definition.Job j) = as_job_is (definition_named s.job library) j named in
    let same : asked_of s.job library ≡ required j.head.inputs = ap (λ o. required (inputs_in o)) job_is in
    let few : s.most < 1000 = let f : s.most ≤ 5 = spec.few in omega arith in
    meets library s j rows k job_is checked few
    (handlers_fit library s j rows k job_is checked s.handlers spec.handlers p2.0 (ap (λ ps. bad_ports library ps s.handlers) (sym same) ∙ p4.0)) n enough v
    (order_good (required j.head.inputs) v (required_all j.head.inputs) (ap (λ ps. bad_input ps v) (sym same) ∙ good))
    (none_is (definition_named s.name library) (error.NameTaken s.name) p3.0)
