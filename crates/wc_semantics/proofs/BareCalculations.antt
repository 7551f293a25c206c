-- Offsets play no part in what calculations ask and give.
use Rattle.std.proofs.Common.{◌≡◌, ℕ, List, [], ◌∷◌, Option, Some, None, Bool, true, false, map, refl, ap, ◌∙◌}
use Rattle.std.specs.Prelude.{if◌then◌else◌, not, ◌&&◌, ◌||◌, ◌==◌, is_none, option_map}
use Rattle.std.specs.Str.{bytes_eq}
use Rattle.wc_value.specs.Ascending.{lookup, put}
use Rattle.wc_value.specs.declared.process.JobResult.{JobResult}
use Rattle.wc_value.specs.declared.process.ProcessState.TheVariants.{Finished}
use Rattle.wc_value.specs.declared.value.Value.{out-Value}
use Rattle.wc_syntax.specs.Bare.{bare_expr, bare_port, bare_rule, bare_line, bare_file, bare_fetch, bare_function, bare_job}
use Rattle.wc_syntax.specs.declared.definition.Fetch.{Fetch}
use Rattle.wc_syntax.specs.declared.definition.Function.{Function}
use Rattle.wc_syntax.specs.declared.definition.Job.{Job}
use Rattle.wc_syntax.specs.declared.definition.JobFile.{JobFile}
use Rattle.wc_syntax.specs.declared.definition.JobLine.{JobLine}
use Rattle.wc_syntax.specs.declared.definition.Port.{Port}
use Rattle.wc_syntax.specs.declared.definition.Rule.{Rule}
use Rattle.wc_syntax.specs.declared.definition.Rule.TheVariants as rule
use Rattle.wc_syntax.specs.declared.expression.Expr.{Expr}
use Rattle.wc_state.specs.declared.environment.Env.{Env}
use Rattle.wc_expression.specs.declared.outcome.Outcome.{Outcome}
use Rattle.wc_expression.specs.declared.outcome.Outcome.TheVariants.{Gives, Faults}
use Rattle.wc_expression.specs.Outcomes.{◌>>=◌}
use Rattle.wc_expression.specs.Contents.{bool_of, text_of}
use Rattle.wc_expression.proofs.Bare.{val_bare}
use Rattle.wc_semantics.specs.Rules.{Values, End, env_of, bound, kind_of_port, fitting, output_of, is_taken, status_of, run_rules}
use Rattle.wc_semantics.specs.Requests.{text_at, texts_of, files_of, fetched, request_in, request}
use Rattle.wc_semantics.specs.Outcomes.{lacks, concluded, calculated, retrieved, parse_env, parsed, answered, job_outcome}

pub kind_bare : (name : List ℕ) (ps : List Port) → kind_of_port name (map bare_port ps) ≡ kind_of_port name ps
kind_bare name [] = refl
kind_bare name (p ∷ ps) = λ i. if bytes_eq p.name.text name then Some p.kind else kind_bare name ps i

pub lacks_bare : (ps : List Port) (outputs : Values) → lacks (map bare_port ps) outputs ≡ lacks ps outputs
lacks_bare [] outputs = refl
lacks_bare (p ∷ ps) outputs = ap (λ b. (not p.optional && is_none (lookup p.name.text outputs)) || b) (lacks_bare ps outputs)

pub taken_bare : (c : Option Expr) (env : Env) → is_taken (option_map bare_expr c) env ≡ is_taken c env
taken_bare None env = refl
taken_bare (Some e) env = λ i. val_bare e i env >>= (λ v. bool_of (out-Value v))

rules_bare : (ps : List Port) (rs : List Rule) (env : Env) (outputs : Values)
    → run_rules (map bare_port ps) (map bare_rule rs) env outputs ≡ run_rules ps rs env outputs
rules_bare ps [] env outputs = refl
rules_bare ps (rule.Let at name e ∷ rs) env outputs = λ i. val_bare e i env >>= (λ v. rules_bare ps rs (bound name.text v env) outputs i)
rules_bare ps (rule.Out at name e ∷ rs) env outputs =
    λ i. (val_bare e i env >>= fitting (kind_bare name.text ps i)) >>= (λ v. rules_bare ps rs env (put name.text v outputs) i)
rules_bare ps (rule.Exit x ∷ rs) env outputs =
    λ i. taken_bare x.condition env i >>= (λ taken. if taken then Gives (status_of x, outputs) else rules_bare ps rs env outputs i)

concluded_bare : (ps : List Port) (kept : Values) (o : Outcome End) → concluded (map bare_port ps) kept o ≡ concluded ps kept o
concluded_bare ps kept (Gives end) = λ i. record { state = Finished (if (end.0 == 0) && lacks_bare ps end.1 i then 11 else end.0); outputs = end.1 }
concluded_bare ps kept (Faults r) = refl

ended_bare : (ps : List Port) (rs : List Rule) (env : Env) (kept : Values)
    → concluded (map bare_port ps) kept (run_rules (map bare_port ps) (map bare_rule rs) env kept) ≡ concluded ps kept (run_rules ps rs env kept)
ended_bare ps rs env kept = ap (concluded (map bare_port ps) kept) (rules_bare ps rs env kept) ∙ concluded_bare ps kept (run_rules ps rs env kept)

pub calculated_bare : (f : Function) (inputs : Values) → calculated (bare_function f) inputs ≡ calculated f inputs
calculated_bare f inputs = ended_bare f.head.outputs f.rules (env_of inputs) []

text_bare : (e : Expr) (env : Env) → text_at (bare_expr e) env ≡ text_at e env
text_bare e env = λ i. val_bare e i env >>= (λ v. text_of (out-Value v))

texts_bare : (ls : List JobLine) (env : Env) → texts_of (map bare_line ls) env ≡ texts_of ls env
texts_bare [] env = refl
texts_bare (l ∷ ls) env = λ i. text_bare l.value env i >>= (λ t. texts_bare ls env i >>= (λ ts. Gives (t ∷ ts)))

files_bare : (fs : List JobFile) (env : Env) (files : List (List ℕ × List ℕ)) → files_of (map bare_file fs) env files ≡ files_of fs env files
files_bare [] env files = refl
files_bare (f ∷ fs) env files = λ i. text_bare f.value env i >>= (λ t. files_bare fs env (put f.name.text t files) i)

fetched_bare : (fs : List Fetch) → map fetched (map bare_fetch fs) ≡ map fetched fs
fetched_bare [] = refl
fetched_bare (f ∷ fs) = λ i. f.name.text ∷ fetched_bare fs i

pub request_bare : (j : Job) (inputs : Values) → request (bare_job j) inputs ≡ request j inputs
request_bare j inputs =
    let env = env_of inputs in
    λ i. text_bare j.program.value env i >>= (λ program. texts_bare j.args env i >>= (λ args. files_bare j.files env [] i >>= (λ files.
    Gives (record { program = program; args = args; files = files; fetch = fetched_bare j.fetch i }))))

pub parsed_bare : (j : Job) (inputs : Values) (r : JobResult) → parsed (bare_job j) inputs r ≡ parsed j inputs r
parsed_bare j inputs r = ended_bare j.head.outputs j.parse (parse_env inputs r) (retrieved r)

pub outcome_bare : (j : Job) (inputs : Values) (r : JobResult) → job_outcome (bare_job j) inputs r ≡ job_outcome j inputs r
outcome_bare j inputs r = λ i. answered (request_bare j inputs i) (parsed_bare j inputs r i)
