-- The outputs of a calculation ascend, and each that its rules set is of its port's kind.
use Rattle.std.proofs.Common.{◌≡◌, refl, ℕ, Bool, true, false, List, [], ◌∷◌, Option}
use Rattle.std.specs.Prelude.{codes, if◌then◌else◌}
use Rattle.std.specs.List.{AllByRecursion}
use Rattle.std.specs.List.Sorted.{IsStrictlySortedBy}
use Rattle.std.specs.Str.{bytes_eq}
use Rattle.wc_value.specs.Ascending.{Ascends, before, put}
use Rattle.wc_value.specs.declared.process.JobResult.{JobResult}
use Rattle.wc_value.specs.declared.value.Kind.{Kind}
use Rattle.wc_value.specs.declared.process.Reason.TheVariants.{WrongKind}
use Rattle.wc_value.specs.declared.value.Value.{Value}
use Rattle.wc_value.specs.declared.value.Value.TheVariants as value
use Rattle.wc_value.proofs.Puts.{ascends_put}
use Rattle.wc_syntax.specs.Findings.{is_among, port_names}
use Rattle.wc_syntax.specs.declared.definition.Function.{Function}
use Rattle.wc_syntax.specs.declared.definition.Job.{Job}
use Rattle.wc_syntax.specs.declared.definition.Port.{Port}
use Rattle.wc_syntax.specs.declared.definition.Rule.{Rule}
use Rattle.wc_syntax.specs.declared.definition.Rule.TheVariants as rule
use Rattle.wc_state.specs.declared.environment.Env.{Env}
use Rattle.wc_expression.specs.declared.outcome.Outcome.{Outcome}
use Rattle.wc_expression.specs.declared.outcome.Outcome.TheVariants.{Gives, Faults}
use Rattle.wc_expression.specs.Outcomes.{◌>>=◌}
use Rattle.wc_expression.specs.Val.{val}
use Rattle.wc_semantics.specs.Outcomes.{calculated, concluded, parsed, parse_env, retrieved}
use Rattle.wc_semantics.specs.Rules.{Values, End, bound, env_of, fits_port, fitting, is_taken, kind_of_port, run_rules, status_of}
use Rattle.wc_attempts.specs.Attempts.{at_ports}

module _ (P : List ℕ × Value → Type 0) where
  pub all_put : (name : List ℕ) (v : Value) (es : Values) → AllByRecursion P es → P (name, v) → AllByRecursion P (put name v es)
  all_put name v [] a p = (p, tt)
  all_put name v (e ∷ es) a p = by_tests (before e.0 name) (bytes_eq e.0 name) (all_put name v es a.1 p)
    where
      by_tests : (b c : Bool) → AllByRecursion P (put name v es) → AllByRecursion P (if b then e ∷ put name v es else if c then (name, v) ∷ es else (name, v) ∷ e ∷ es)
      by_tests true c rest = (a.0, rest)
      by_tests false true rest = (p, a.1)
      by_tests false false rest = (p, a)

  pub all_at : (ps : List Port) (es : Values) → AllByRecursion P es → AllByRecursion P (at_ports ps es)
  all_at ps [] a = tt
  all_at ps (e ∷ es) a = by_test (is_among e.0 (port_names ps)) (all_at ps es a.1)
    where
      by_test : (b : Bool) → AllByRecursion P (at_ports ps es) → AllByRecursion P (if b then e ∷ at_ports ps es else at_ports ps es)
      by_test true rest = (a.0, rest)
      by_test false rest = rest

  -- values in order, each of which has the property
  abbrev pub Sound : Values → Type 0
  Sound vs = Ascends vs × AllByRecursion P vs

  sound_put : (name : List ℕ) (v : Value) (es : Values) → Sound es → P (name, v) → Sound (put name v es)
  sound_put name v es a p = (ascends_put name v es a.0, all_put name v es a.1 p)

  abbrev SoundEnd : Outcome End → Type 0
  SoundEnd (Gives e) = Sound e.1
  SoundEnd (Faults r) = Unit {0}

  bind_sound : {A : Type 0} (o : Outcome A) (f : A → Outcome End) → ((v : A) → SoundEnd (f v)) → SoundEnd (o >>= f)
  bind_sound (Gives v) f h = h v
  bind_sound (Faults r) f h = tt

  fitting_sound : (k : Option Kind) (o : Outcome Value) (f : Value → Outcome End) → ((v : Value) → fits_port k v ≡ true → SoundEnd (f v)) → SoundEnd ((o >>= fitting k) >>= f)
  fitting_sound k (Gives v) f h = by_test (fits_port k v) refl
    where
      by_test : (b : Bool) → fits_port k v ≡ b → SoundEnd ((if b then Gives v else Faults WrongKind) >>= f)
      by_test true e = h v e
      by_test false e = tt
  fitting_sound k (Faults r) f h = tt

  if_sound : (b : Bool) (x y : Outcome End) → SoundEnd x → SoundEnd y → SoundEnd (if b then x else y)
  if_sound true x y p q = p
  if_sound false x y p q = q

  -- what rules set is of the ports' kinds
  module _ (ports : List Port) (fits : (name : List ℕ) (v : Value) → fits_port (kind_of_port name ports) v ≡ true → P (name, v)) where
    rules_sound : (rs : List Rule) (env : Env) (outs : Values) → Sound outs → SoundEnd (run_rules ports rs env outs)
    rules_sound [] env outs a = a
    rules_sound (rule.Let at name e ∷ rs) env outs a = bind_sound (val e env) _ (λ v. rules_sound rs (bound name.text v env) outs a)
    rules_sound (rule.Out at name e ∷ rs) env outs a =
        fitting_sound (kind_of_port name.text ports) (val e env) _ (λ v p. rules_sound rs env (put name.text v outs) (sound_put name.text v outs a (fits name.text v p)))
    rules_sound (rule.Exit x ∷ rs) env outs a =
        bind_sound (is_taken x.condition env) _ (λ b. if_sound b (Gives (status_of x, outs)) (run_rules ports rs env outs) a (rules_sound rs env outs a))

    concluded_sound : (kept : Values) (o : Outcome End) → Sound kept → SoundEnd o → Sound (concluded ports kept o).outputs
    concluded_sound kept (Gives e) k a = a
    concluded_sound kept (Faults r) k a = k

none_ascend : Ascends {T = Value} []
unfolding IsStrictlySortedBy
none_ascend = tt

one_ascends : (name : List ℕ) (v : Value) → Ascends ((name, v) ∷ [])
unfolding IsStrictlySortedBy
one_ascends name v = (tt, tt)

-- what a function gives fits its ports
pub calculated_sound : (P : List ℕ × Value → Type 0) (f : Function) (v : Values)
    → ((name : List ℕ) (x : Value) → fits_port (kind_of_port name f.head.outputs) x ≡ true → P (name, x)) → Sound P (calculated f v).outputs
calculated_sound P f v fits =
    concluded_sound P f.head.outputs fits [] (run_rules f.head.outputs f.rules (env_of v) []) (none_ascend, tt)
    (rules_sound P f.head.outputs fits f.rules (env_of v) [] (none_ascend, tt))

-- what a job gives fits its ports, but for the folder
pub parsed_sound : (P : List ℕ × Value → Type 0) (j : Job) (v : Values) (r : JobResult) → P (codes "retrieved", value.Folder r.files)
    → ((name : List ℕ) (x : Value) → fits_port (kind_of_port name j.head.outputs) x ≡ true → P (name, x)) → Sound P (parsed j v r).outputs
parsed_sound P j v r folder fits =
    let first : Sound P (retrieved r) = (one_ascends (codes "retrieved") (value.Folder r.files), (folder, tt)) in
    concluded_sound P j.head.outputs fits (retrieved r) (run_rules j.head.outputs j.parse (parse_env v r) (retrieved r)) first
    (rules_sound P j.head.outputs fits j.parse (parse_env v r) (retrieved r) first)
