-- The folder that a job brings back stays among its outputs, whatever its rules set.
use Rattle.std.proofs.Common.{◌≡◌, ℕ, Bool, true, false, Option, Some, None, List, [], ◌∷◌, refl, sym, ap, ◌∙◌}
use Rattle.std.specs.Prelude.{codes, if◌then◌else◌}
use Rattle.std.specs.Str.{bytes_eq}
use Rattle.std.proofs.lemmas.Slice.Eq.{bytes_eq-Decides}
use Rattle.wc_value.specs.Ascending.{before, lookup, put}
use Rattle.wc_value.specs.declared.value.Kind.{Kind}
use Rattle.wc_value.specs.declared.value.Value.{Value}
use Rattle.wc_value.specs.declared.value.Value.TheVariants as value
use Rattle.wc_syntax.specs.declared.definition.Port.{Port}
use Rattle.wc_syntax.specs.declared.definition.Rule.{Rule}
use Rattle.wc_syntax.specs.declared.definition.Rule.TheVariants as rule
use Rattle.wc_syntax.specs.declared.expression.Expr.{Expr}
use Rattle.wc_state.specs.declared.environment.Env.{Env}
use Rattle.wc_expression.specs.declared.outcome.Outcome.{Outcome}
use Rattle.wc_expression.specs.declared.outcome.Outcome.TheVariants.{Gives, Faults}
use Rattle.wc_expression.specs.Val.{val}
use Rattle.wc_semantics.specs.Outcomes.{concluded, parse_env, retrieved}
use Rattle.wc_semantics.specs.Rules.{Values, End, bound, kind_of_port, fitting, output_of, is_taken, status_of, run_rules}
use Rattle.wc_machine.proofs.CalculatedOutputs.{gives_by}
use Rattle.wc_soundness.specs.JobLaws.{RetrievedStays}

-- another name's value stays
put_other : (key name : List ℕ) (v : Value) (es : Values) → bytes_eq name key ≡ false → lookup key (put name v es) ≡ lookup key es
put_other key name v [] ne = ap (λ (b : Bool). if b then Some v else None) ne
put_other key name v (e ∷ es) ne = at (before e.0 name) (bytes_eq e.0 name) refl (put_other key name v es ne)
  where
    at : (b c : Bool) → bytes_eq e.0 name ≡ c → lookup key (put name v es) ≡ lookup key es
        → lookup key (if b then e ∷ put name v es else if c then (name, v) ∷ es else (name, v) ∷ e ∷ es) ≡ lookup key (e ∷ es)
    at true c is more = ap (λ (o : Option Value). if bytes_eq e.0 key then Some e.1 else o) more
    at false true is more =
        let same : e.0 ≡ name = (bytes_eq-Decides e.0 name).0 is in
        let other : bytes_eq e.0 key ≡ false = ap (λ (n : List ℕ). bytes_eq n key) same ∙ ne in
        ap (λ (b : Bool). if b then Some v else lookup key es) ne ∙ sym (ap (λ (b : Bool). if b then Some e.1 else lookup key es) other)
    at false false is more = ap (λ (b : Bool). if b then Some v else lookup key (e ∷ es)) ne

-- no output is set where there is no port
none_set : (e : Expr) (env : Env) (v : Value) → output_of None e env ≡ Gives v → ⊥
none_set e env v h =
    let g = gives_by (val e env) (fitting None) v h in
    let faults = g.2 in
    absurd (cc (faults))

rules_keep : (key : List ℕ) (ports : List Port) → kind_of_port key ports ≡ None → (x : Value) (rs : List Rule) (env : Env) (outputs : Values) (end : End)
    → lookup key outputs ≡ Some x → run_rules ports rs env outputs ≡ Gives end → lookup key end.1 ≡ Some x
rules_keep key ports free x [] env outputs end has h =
    let is : (0, outputs) ≡ end = cc in
    ap (λ (e : End). lookup key e.1) (sym is) ∙ has
rules_keep key ports free x (rule.Let at name e ∷ rs) env outputs end has h =
    let g = gives_by (val e env) (λ v. run_rules ports rs (bound name.text v env) outputs) end h in
    rules_keep key ports free x rs (bound name.text g.0 env) outputs end has g.2
rules_keep key ports free x (rule.Out at name e ∷ rs) env outputs end has h =
    let g = gives_by (output_of (kind_of_port name.text ports) e env) (λ v. run_rules ports rs env (put name.text v outputs)) end h in
    by (bytes_eq name.text key) refl g.0 g.1 (λ more. rules_keep key ports free x rs env (put name.text g.0 outputs) end more g.2)
  where
    by : (b : Bool) → bytes_eq name.text key ≡ b → (v : Value) → output_of (kind_of_port name.text ports) e env ≡ Gives v
        → (lookup key (put name.text v outputs) ≡ Some x → lookup key end.1 ≡ Some x) → lookup key end.1 ≡ Some x
    by true is v set rest =
        let same : name.text ≡ key = (bytes_eq-Decides name.text key).0 is in
        absurd (none_set e env v (ap (λ (k : Option Kind). output_of k e env) (sym free ∙ ap (λ (n : List ℕ). kind_of_port n ports) (sym same)) ∙ set))
    by false is v set rest = rest (put_other key name.text v outputs is ∙ has)
rules_keep key ports free x (rule.Exit c ∷ rs) env outputs end has h =
    let g = gives_by (is_taken c.condition env) (λ taken. if taken then Gives (status_of c, outputs) else run_rules ports rs env outputs) end h in
    by g.0 g.2 (rules_keep key ports free x rs env outputs end has)
  where
    by : (b : Bool) → (if b then Gives (status_of c, outputs) else run_rules ports rs env outputs) ≡ Gives end
        → (run_rules ports rs env outputs ≡ Gives end → lookup key end.1 ≡ Some x) → lookup key end.1 ≡ Some x
    by true h rest =
        let is : (status_of c, outputs) ≡ end = cc in
        ap (λ (e : End). lookup key e.1) (sym is) ∙ has
    by false h rest = rest h

concluded_keeps : (key : List ℕ) (ports : List Port) (kept : Values) (o : Outcome End) (x : Value) → lookup key kept ≡ Some x
    → ((end : End) → o ≡ Gives end → lookup key end.1 ≡ Some x) → lookup key (concluded ports kept o).outputs ≡ Some x
concluded_keeps key ports kept (Gives end) x has h = h end refl
concluded_keeps key ports kept (Faults r) x has h = has

pub retrieved_stays : RetrievedStays
retrieved_stays j inputs result free =
    concluded_keeps (codes "retrieved") j.head.outputs (retrieved result) (run_rules j.head.outputs j.parse (parse_env inputs result) (retrieved result)) (value.Folder result.files) refl
    (λ end h. rules_keep (codes "retrieved") j.head.outputs free (value.Folder result.files) j.parse (parse_env inputs result) (retrieved result) end refl h)
