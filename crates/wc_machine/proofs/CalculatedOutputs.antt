-- The outputs of a function ascend by their labels, and none is more than 32 deep.
use Rattle.std.proofs.Common.{◌≡◌, ℕ, ◌≤◌, Bool, true, false, Option, List, [], ◌∷◌, refl, subst}
use Rattle.std.specs.Prelude.{All, if◌then◌else◌}
use Rattle.std.specs.List.Sorted.{IsStrictlySortedBy}
use Rattle.std.specs.Str.{bytes_eq}
use Rattle.std.proofs.lemmas.List.Elements.{All-nil, All-cons, All-head, All-tail}
use Rattle.wc_value.specs.Ascending.{before, put}
use Rattle.wc_value.specs.Spelling.{depth}
use Rattle.wc_value.specs.declared.process.Reason.TheVariants.{WrongKind}
use Rattle.wc_value.specs.declared.value.Kind.{Kind}
use Rattle.wc_value.specs.declared.value.Value.{Value}
use Rattle.wc_value.proofs.Puts.{ascends_put}
use Rattle.wc_syntax.specs.declared.definition.Function.{Function}
use Rattle.wc_syntax.specs.declared.definition.Port.{Port}
use Rattle.wc_syntax.specs.declared.definition.Rule.{Rule}
use Rattle.wc_syntax.specs.declared.definition.Rule.TheVariants as rule
use Rattle.wc_syntax.specs.declared.expression.Expr.{Expr}
use Rattle.wc_state.specs.declared.environment.Env.{Env}
use Rattle.wc_expression.specs.declared.outcome.Outcome.{Outcome}
use Rattle.wc_expression.specs.declared.outcome.Outcome.TheVariants.{Gives, Faults}
use Rattle.wc_expression.specs.Outcomes.{◌>>=◌}
use Rattle.wc_expression.specs.Val.{val}
use Rattle.wc_expression.proofs.Within.{val_levels}
use Rattle.wc_semantics.specs.Rules.{Values, End, env_of, bound, kind_of_port, fits_port, fitting, output_of, is_taken, status_of, run_rules}
use Rattle.wc_semantics.specs.Outcomes.{concluded, calculated}
use Rattle.wc_machine.specs.Submissions.{AreInputs}

abbrev IsLow : List ℕ × Value → Type 0
IsLow e = depth e.1 ≤ 32

pub nothing_set : AreInputs []
unfolding IsStrictlySortedBy
nothing_set = record { ascend = tt; shallow = All-nil IsLow }

low_put : (name : List ℕ) (v : Value) (es : Values) → depth v ≤ 32 → All IsLow es → All IsLow (put name v es)
low_put name v [] h a = All-cons IsLow (name, v) [] h a
low_put name v (e ∷ es) h a = at (before e.0 name) (bytes_eq e.0 name) (low_put name v es h (All-tail IsLow e es a))
  where
    at : (b c : Bool) → All IsLow (put name v es) → All IsLow (if b then e ∷ put name v es else if c then (name, v) ∷ es else (name, v) ∷ e ∷ es)
    at true c rest = All-cons IsLow e (put name v es) (All-head IsLow e es a) rest
    at false true rest = All-cons IsLow (name, v) es h (All-tail IsLow e es a)
    at false false rest = All-cons IsLow (name, v) (e ∷ es) h a

pub set_more : (name : List ℕ) (v : Value) (es : Values) → depth v ≤ 32 → AreInputs es → AreInputs (put name v es)
set_more name v es h a = record { ascend = ascends_put name v es a.ascend; shallow = low_put name v es h a.shallow }

-- what holds of whatever an outcome gives holds of what is made of it
pub gives_by : {A B : Type 0} (o : Outcome A) (f : A → Outcome B) (b : B) → (o >>= f) ≡ Gives b → (a : A) × (o ≡ Gives a) × (f a ≡ Gives b)
gives_by (Gives a) f b h = (a, refl, h)
gives_by (Faults r) f b h = absurd (cc)

fitting_is : (port : Option Kind) (v x : Value) → fitting port v ≡ Gives x → v ≡ x
fitting_is port v x h = at (fits_port port v) h
  where
    at : (b : Bool) → (if b then Gives v else Faults WrongKind) ≡ Gives x → v ≡ x
    at true h = cc
    at false h = absurd (cc)

output_levels : (port : Option Kind) (e : Expr) (env : Env) (v : Value) → output_of port e env ≡ Gives v → depth v ≤ 32
output_levels port e env v h =
    let g = gives_by (val e env) (fitting port) v h in
    subst (λ (x : Value). depth x ≤ 32) (fitting_is port g.0 v g.2) (val_levels e env g.0 g.1)

pub rules_set : (ports : List Port) (rs : List Rule) (env : Env) (outputs : Values) (end : End) → AreInputs outputs → run_rules ports rs env outputs ≡ Gives end
    → AreInputs end.1
rules_set ports [] env outputs end a h =
    let is : (0, outputs) ≡ end = cc in
    subst (λ (e : End). AreInputs e.1) is a
rules_set ports (rule.Let at name e ∷ rs) env outputs end a h =
    let g = gives_by (val e env) (λ v. run_rules ports rs (bound name.text v env) outputs) end h in
    rules_set ports rs (bound name.text g.0 env) outputs end a g.2
rules_set ports (rule.Out at name e ∷ rs) env outputs end a h =
    let g = gives_by (output_of (kind_of_port name.text ports) e env) (λ v. run_rules ports rs env (put name.text v outputs)) end h in
    rules_set ports rs env (put name.text g.0 outputs) end (set_more name.text g.0 outputs (output_levels (kind_of_port name.text ports) e env g.0 g.1) a) g.2
rules_set ports (rule.Exit x ∷ rs) env outputs end a h =
    let g = gives_by (is_taken x.condition env) (λ taken. if taken then Gives (status_of x, outputs) else run_rules ports rs env outputs) end h in
    at g.0 g.2 (rules_set ports rs env outputs end a)
  where
    at : (b : Bool) → (if b then Gives (status_of x, outputs) else run_rules ports rs env outputs) ≡ Gives end
        → (run_rules ports rs env outputs ≡ Gives end → AreInputs end.1) → AreInputs end.1
    at true h rest =
        let is : (status_of x, outputs) ≡ end = cc in
        subst (λ (e : End). AreInputs e.1) is a
    at false h rest = rest h

pub concluded_set : (ports : List Port) (kept : Values) (o : Outcome End) → AreInputs kept → ((end : End) → o ≡ Gives end → AreInputs end.1)
    → AreInputs (concluded ports kept o).outputs
concluded_set ports kept (Gives end) a h = h end refl
concluded_set ports kept (Faults r) a h = a

pub calculated_set : (f : Function) (inputs : Values) → AreInputs (calculated f inputs).outputs
calculated_set f inputs =
    concluded_set f.head.outputs [] (run_rules f.head.outputs f.rules (env_of inputs) []) nothing_set
    (λ end h. rules_set f.head.outputs f.rules (env_of inputs) [] end nothing_set h)
