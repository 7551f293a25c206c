-- Where the inputs of the next attempt stand, and what calls make of them.
use Rattle.std.proofs.Common.{◌≡◌, ◌∙◌, ap, sym, ℕ, Bool, true, false, List, [], ◌∷◌, map, None}
use Rattle.std.specs.Prelude.{codes, if◌then◌else◌}
use Rattle.std.specs.List.{AllByRecursion}
use Rattle.wc_value.specs.Ascending.{Ascends, lookup}
use Rattle.wc_value.specs.declared.process.Reason.TheVariants.{NoOutput}
use Rattle.wc_syntax.specs.Findings.{is_among, port_names}
use Rattle.wc_syntax.specs.declared.definition.Port.{Port}
use Rattle.wc_state.specs.declared.environment.Child.{Child}
use Rattle.wc_state.specs.declared.environment.Env.{Env}
use Rattle.wc_expression.specs.declared.outcome.Outcome.TheVariants.{Gives, Faults}
use Rattle.wc_expression.specs.Outcomes.{found}
use Rattle.wc_semantics.specs.Outcomes.{lacks}
use Rattle.wc_semantics.specs.Rules.{Values, unnumbered}
use Rattle.wc_semantics.specs.Statements.{arguments}
use Rattle.wc_restart.specs.Pieces.{given}
use Rattle.wc_attempts.specs.Attempts.{at_ports}
use Rattle.wc_attempts.proofs.Arguments.{GivenFrom, HasAll, arguments_gathered, at_finds, gathered_all, gathered_lacks}
use Rattle.wc_attempts.proofs.Choices.{source_by}
use Rattle.wc_attempts.proofs.Conditions.{HasChild}
use Rattle.wc_attempts.proofs.Given.{input_is, output_is}

-- each of some ports is among others by its name
abbrev pub Among : List Port → List Port → Type 0
Among ps = AllByRecursion (λ p. is_among p.name.text (port_names ps) ≡ true)

-- values at ports that are the outputs of the child `fix`
pub record Fixed (ps : List Port) (env : Env) (v : Values) : Type 0 where
  pub child : Child
  pub outs : Values
  pub held : HasChild env (codes "fix") child
  pub has : child.outputs ≡ map unnumbered outs
  pub are : v ≡ at_ports ps outs

-- values at ports that are the inputs of the chain, whatever their order
pub record Own (ps : List Port) (env : Env) (v : Values) : Type 0 where
  pub inputs : Values
  pub held : env.inputs ≡ map unnumbered inputs
  pub same : (name : List ℕ) → lookup name inputs ≡ lookup name v
  pub all : HasAll v ps

-- the values are the inputs of the chain, or outputs of the function that was called last
abbrev pub Stands : List Port → Env → Values → Bool → Type 0
Stands ps env v true = Own ps env v
Stands ps env v false = Fixed ps env v

module _ (ps : List Port) (env : Env) (v : Values) where
  fixed_finds : (f : Fixed ps env v) (name : List ℕ) → is_among name (port_names ps) ≡ true → lookup name f.outs ≡ lookup name v
  fixed_finds f name h =
      sym (ap (λ vs. lookup name vs) f.are ∙ at_finds ps f.outs name ∙ ap (λ (b : Bool). if b then lookup name f.outs else None) h)

  from_inputs : (qs : List Port) → Own ps env v → HasAll v qs → GivenFrom (source_by true) env v qs
  from_inputs [] o h = tt
  from_inputs (q ∷ qs) o h =
      (input_is q.name.text o.inputs env h.0.0 o.held (o.same q.name.text ∙ h.0.1) ∙ ap (found NoOutput) (sym h.0.1), from_inputs qs o h.1)

  from_fix : (qs : List Port) → Fixed ps env v → Among ps qs → GivenFrom (source_by false) env v qs
  from_fix [] f h = tt
  from_fix (q ∷ qs) f h =
      (output_is (codes "fix") q.name.text f.outs env f.child f.held f.has ∙ ap (found NoOutput) (fixed_finds f q.name.text h.0), from_fix qs f h.1)

  -- the arguments of a call, where the values have all that it takes
  pub all_given : (b : Bool) (qs : List Port) → Stands ps env v b → Among ps qs → HasAll v qs → Ascends v
      → arguments (map (given (source_by b)) qs) env [] ≡ Gives (at_ports qs v)
  all_given true qs s m h a = arguments_gathered (source_by true) env v qs [] (from_inputs qs s h) ∙ gathered_all qs v h a
  all_given false qs s m h a = arguments_gathered (source_by false) env v qs [] (from_fix qs s m) ∙ gathered_all qs v h a

  -- and where a port isn't there, which can be so of a function's outputs alone
  pub one_lacks : (qs : List Port) → Fixed ps env v → Among ps qs → lacks qs v ≡ true → arguments (map (given (source_by false)) qs) env [] ≡ Faults NoOutput
  one_lacks qs s m l = arguments_gathered (source_by false) env v qs [] (from_fix qs s m) ∙ gathered_lacks qs v [] l
