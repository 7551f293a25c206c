-- What a spec that isn't refused has in a library: its job, and the function of each handler that calls one.
use Rattle.std.proofs.Common.{◌≡◌, ◌∙◌, ap, sym, refl, ℕ, Bool, true, false, List, [], ◌∷◌, Option, Some, None}
use Rattle.std.specs.Prelude.{not, ◌&&◌, is_some}
use Rattle.std.specs.List.{AllByRecursion}
use Rattle.std.proofs.lemmas.Bool.{and_parts}
use Rattle.wc_handlers.specs.declared.error.RestartError.{RestartError}
use Rattle.wc_handlers.specs.declared.error.RestartError.TheVariants as error
use Rattle.wc_handlers.specs.declared.spec.Handler.{Handler}
use Rattle.wc_handlers.specs.declared.spec.Remedy.{Remedy}
use Rattle.wc_handlers.specs.declared.spec.Remedy.TheVariants as remedy
use Rattle.wc_handlers.specs.declared.spec.Spec.{Spec}
use Rattle.wc_syntax.specs.Findings.{definition_named}
use Rattle.wc_syntax.specs.declared.definition.Definition.{Definition}
use Rattle.wc_syntax.specs.declared.definition.Definition.TheVariants as definition
use Rattle.wc_syntax.specs.declared.definition.Function.{Function}
use Rattle.wc_syntax.specs.declared.definition.Job.{Job}
use Rattle.wc_syntax.specs.declared.definition.Port.{Port}
use Rattle.wc_restart.specs.Judging.{Refusal, unless, or_then, unknown_in, fits, misfit_in, unknown_functions, bad_ports, same_priorities, misnamed}
use Rattle.wc_restart.specs.Ports.{as_job, as_function, job_named, function_named, asked_of, all_among, required, ports_fit}

-- the function is there, and takes nothing but these ports
pub record KnownFunction (library : List Definition) (asked : List Port) (name : List ℕ) : Type 0 where
  pub function : Function
  pub named : definition_named name library ≡ Some (definition.Function function)
  pub takes : all_among function.head.inputs asked ≡ true

abbrev pub KnownRemedy : List Definition → List Port → Remedy → Type 0
KnownRemedy library asked (remedy.Abort status) = Unit {0}
KnownRemedy library asked (remedy.Call name) = KnownFunction library asked name

pub record Known (library : List Definition) (s : Spec) : Type 0 where
  pub job : Job
  pub named : definition_named s.job library ≡ Some (definition.Job job)
  pub free : definition_named s.name library ≡ None
  pub handlers : AllByRecursion (λ h. KnownRemedy library (asked_of s.job library) h.remedy) s.handlers

neither : (a b : Refusal) → or_then a b ≡ None → (a ≡ None) × (b ≡ None)
neither None b h = (refl, h)
neither (Some e) b h = absurd (cc)

passed : (b : Bool) (e : RestartError) → unless b e ≡ None → b ≡ true
passed true e h = refl
passed false e h = absurd (cc)

job_of : (o : Option Definition) → is_some (as_job o) ≡ true → (j : Job) × (o ≡ Some (definition.Job j))
job_of None h = absurd (cc)
job_of (Some (definition.Function f)) h = absurd (cc)
job_of (Some (definition.Job j)) h = (j, refl)
job_of (Some (definition.Chain c)) h = absurd (cc)

function_of : (o : Option Definition) → is_some (as_function o) ≡ true → (f : Function) × (o ≡ Some (definition.Function f))
function_of None h = absurd (cc)
function_of (Some (definition.Function f)) h = (f, refl)
function_of (Some (definition.Job j)) h = absurd (cc)
function_of (Some (definition.Chain c)) h = absurd (cc)

nobody : (o : Option Definition) → not (is_some o) ≡ true → o ≡ None
nobody None h = refl
nobody (Some d) h = absurd (cc)

remedy_known : (library : List Definition) (asked : List Port) (r : Remedy) → unknown_in library r ≡ None → misfit_in library asked r ≡ None → KnownRemedy library asked r
remedy_known library asked (remedy.Abort status) h k = tt
remedy_known library asked (remedy.Call name) h k =
    let f = function_of (definition_named name library) (passed (is_some (function_named name library)) (error.UnknownName name) h) in
    let fit : fits asked (function_named name library) ≡ true = passed (fits asked (function_named name library)) (error.BadPorts name) k in
    let all : ports_fit asked f.0 ≡ true = sym (ap (λ (o : Option Definition). fits asked (as_function o)) f.1) ∙ fit in
    record {
      function = f.0;
      named = f.1;
      takes = (and_parts (all_among f.0.head.inputs asked) (all_among (required f.0.head.outputs) asked && all_among asked (required f.0.head.outputs)) all).0;
    }

handlers_known : (library : List Definition) (asked : List Port) (hs : List Handler) → unknown_functions library hs ≡ None → bad_ports library asked hs ≡ None
    → AllByRecursion (λ h. KnownRemedy library asked h.remedy) hs
handlers_known library asked [] h k = tt
handlers_known library asked (x ∷ xs) h k =
    let a = neither (unknown_in library x.remedy) (unknown_functions library xs) h in
    let b = neither (misfit_in library asked x.remedy) (bad_ports library asked xs) k in
    (remedy_known library asked x.remedy a.0 b.0, handlers_known library asked xs a.1 b.1)

pub known : (library : List Definition) (s : Spec) → misnamed library s ≡ None → Known library s
known library s h =
    let asked = asked_of s.job library in
    let taken = unless (not (is_some (definition_named s.name library))) (error.NameTaken s.name) in
    let misfits = or_then (bad_ports library asked s.handlers) (same_priorities [] s.handlers) in
    let a = neither (unless (is_some (job_named s.job library)) (error.UnknownName s.job)) (or_then (unknown_functions library s.handlers) (or_then taken misfits)) h in
    let b = neither (unknown_functions library s.handlers) (or_then taken misfits) a.1 in
    let c = neither taken misfits b.1 in
    let d = neither (bad_ports library asked s.handlers) (same_priorities [] s.handlers) c.1 in
    let j = job_of (definition_named s.job library) (passed (is_some (job_named s.job library)) (error.UnknownName s.job) a.0) in
    record {
      job = j.0;
      named = j.1;
      free = nobody (definition_named s.name library) (passed (not (is_some (definition_named s.name library))) (error.NameTaken s.name) c.0);
      handlers = handlers_known library asked s.handlers b.0 d.0;
    }
