-- What the calls of the chain are given: its inputs, or the outputs of the function that was called last.
use Rattle.std.proofs.Common.{◌≡◌, ◌∙◌, ap, sym, refl, ℕ, Bool, true, false, List, [], ◌∷◌, map, Option, Some, None}
use Rattle.std.specs.Prelude.{if◌then◌else◌, option_map}
use Rattle.std.specs.Str.{bytes_eq}
use Rattle.wc_value.specs.Ascending.{lookup}
use Rattle.wc_value.specs.declared.process.Reason.TheVariants.{MissingKey, NoOutput, WrongKind}
use Rattle.wc_value.specs.declared.value.Value.{Value}
use Rattle.wc_syntax.specs.Findings.{is_data}
use Rattle.wc_syntax.specs.declared.expression.ChildPart.TheVariants as part
use Rattle.wc_syntax.specs.declared.expression.Expr.{Expr, out-roll-Expr}
use Rattle.wc_syntax.specs.declared.expression.Form.{Form, out-Form, out-roll-Form, roll-Form, map-Form, fold-roll-Form}
use Rattle.wc_syntax.specs.declared.expression.Form.TheOpen.{Form-F}
use Rattle.wc_syntax.specs.declared.expression.Form.TheVariants as form
use Rattle.wc_state.specs.declared.environment.Child.{Child}
use Rattle.wc_state.specs.declared.environment.Env.{Env}
use Rattle.wc_state.specs.declared.environment.NodeValue.{NodeValue}
use Rattle.wc_expression.specs.declared.outcome.Outcome.TheVariants.{Gives, Faults}
use Rattle.wc_expression.specs.Environment as environment
use Rattle.wc_expression.specs.Outcomes.{◌>>=◌, found, mapped}
use Rattle.wc_expression.specs.Val as values
use Rattle.wc_expression.specs.Val.{Meant, limited, val, val_form}
use Rattle.wc_semantics.specs.Rules.{Values, unnumbered}
use Rattle.wc_semantics.specs.Statements.{argument, datum}
use Rattle.wc_restart.specs.Pieces.{expr, word, input, output_of}
use Rattle.wc_attempts.proofs.Conditions.{HasChild}

-- ---- names of data

module _ (f : Form) (l : Form-F Form Expr) (env : Env) (rolls : roll-Form l ≡ f) (its_data : is_data l ≡ true) where
  its_form : (expr f).form ≡ f
  its_form = ap (λ r. r.form) (out-roll-Expr (record { at = 0; form = f }))

  opens : out-Form f ≡ l
  opens = ap out-Form (sym rolls) ∙ out-roll-Form l

  level : val_form f env ≡ values.form (map-Form Form Expr Meant Meant val_form val l) env
  level = ap (λ (m : Meant). m env) (ap val_form (sym rolls) ∙ fold-roll-Form Meant Meant values.form limited l)

  -- what names data is passed as it is
  argument_is : argument (expr f) env ≡ values.form (map-Form Form Expr Meant Meant val_form val l) env
  argument_is =
      ap (λ (x : Form). if is_data (out-Form x) then val_form x env else val (expr f) env) its_form
      ∙ ap (λ (x : Form-F Form Expr). if is_data x then val_form f env else val (expr f) env) opens
      ∙ ap (λ (b : Bool). if b then val_form f env else val (expr f) env) its_data
      ∙ level

  -- and so is what an output of the chain is set to
  datum_is : datum (expr f) env ≡ values.form (map-Form Form Expr Meant Meant val_form val l) env
  datum_is =
      ap (λ (x : Form). if is_data (out-Form x) then val_form x env else Faults WrongKind) its_form
      ∙ ap (λ (x : Form-F Form Expr). if is_data x then val_form f env else Faults WrongKind) opens
      ∙ ap (λ (b : Bool). if b then val_form f env else Faults WrongKind) its_data
      ∙ level

module _ (env : Env) (name : List ℕ) where
  pub input_given : argument (input name) env ≡ environment.input name env
  input_given = argument_is (form.Input 0 (word name)) (Form-F.Input 0 (word name)) env (form.rolls-Input 0 (word name)) refl

  pub output_given : (key : List ℕ) → argument (output_of key name) env ≡ (environment.child key env >>= environment.asked (part.Outputs (word name)))
  output_given key =
      argument_is (form.Child 0 (word key) None (part.Outputs (word name))) (Form-F.Child 0 (word key) None (part.Outputs (word name))) env
      (form.rolls-Child 0 (word key) None (part.Outputs (word name))) refl

  pub output_passed : (key : List ℕ) → datum (output_of key name) env ≡ (environment.child key env >>= environment.asked (part.Outputs (word name)))
  output_passed key =
      datum_is (form.Child 0 (word key) None (part.Outputs (word name))) (Form-F.Child 0 (word key) None (part.Outputs (word name))) env
      (form.rolls-Child 0 (word key) None (part.Outputs (word name))) refl

-- ---- values without nodes

-- values that stand for no node are looked up as they are
pub unnumbered_found : (name : List ℕ) (v : Values) → lookup name (map unnumbered v) ≡ option_map (λ x. record { node = 0; value = x }) (lookup name v)
unnumbered_found name [] = refl
unnumbered_found name (e ∷ es) = by_name (bytes_eq e.0 name) (unnumbered_found name es)
  where
    by_name : (b : Bool) → lookup name (map unnumbered es) ≡ option_map (λ x. record { node = 0; value = x }) (lookup name es)
        → (if b then Some (record { node = 0; value = e.1 }) else lookup name (map unnumbered es))
        ≡ option_map (λ x. record { node = 0; value = x }) (if b then Some e.1 else lookup name es)
    by_name true rest = refl
    by_name false rest = rest

-- an input that is there
pub input_is : (name : List ℕ) (v : Values) (env : Env) (x : Value) → env.inputs ≡ map unnumbered v → lookup name v ≡ Some x → argument (input name) env ≡ Gives x
input_is name v env x inputs has =
    input_given env name
    ∙ ap (λ is. mapped (λ (i : NodeValue). i.value) (found MissingKey (lookup name is))) inputs
    ∙ ap (λ o. mapped (λ (i : NodeValue). i.value) (found MissingKey o)) (unnumbered_found name v ∙ ap (option_map (λ x. record { node = 0; value = x })) has)

value_found : (o : Option Value) → mapped (λ (i : NodeValue). i.value) (found NoOutput (option_map (λ x. record { node = 0; value = x }) o)) ≡ found NoOutput o
value_found None = refl
value_found (Some x) = refl

asked_is : (key name : List ℕ) (v : Values) (env : Env) (c : Child) → HasChild env key c → c.outputs ≡ map unnumbered v
    → (environment.child key env >>= environment.asked (part.Outputs (word name))) ≡ found NoOutput (lookup name v)
asked_is key name v env c held outputs =
    ap (λ o. (found MissingKey o >>= environment.child_of) >>= environment.asked (part.Outputs (word name))) held
    ∙ ap (λ os. mapped (λ (i : NodeValue). i.value) (found NoOutput (lookup name os))) outputs
    ∙ ap (λ o. mapped (λ (i : NodeValue). i.value) (found NoOutput o)) (unnumbered_found name v)
    ∙ value_found (lookup name v)

-- an output of a child, or no output
pub output_is : (key name : List ℕ) (v : Values) (env : Env) (c : Child) → HasChild env key c → c.outputs ≡ map unnumbered v
    → argument (output_of key name) env ≡ found NoOutput (lookup name v)
output_is key name v env c held outputs = output_given env name key ∙ asked_is key name v env c held outputs

-- the same, as it is passed on
pub passed_is : (key name : List ℕ) (v : Values) (env : Env) (c : Child) → HasChild env key c → c.outputs ≡ map unnumbered v
    → datum (output_of key name) env ≡ found NoOutput (lookup name v)
passed_is key name v env c held outputs = output_passed env name key ∙ asked_is key name v env c held outputs
