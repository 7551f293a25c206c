-- The value of an expression of the pieces, from those of its parts.
use Rattle.std.proofs.Common.{◌≡◌, ℕ, ℤ, pos, Bool, true, false, List, None, refl, sym, ap, ◌∙◌}
use Rattle.std.specs.Prelude.{if◌then◌else◌, nat_le, ◌&&◌, length}
use Rattle.wc_value.specs.Spelling.{spelling, depth, level, depth_level}
use Rattle.wc_value.specs.declared.process.Reason.TheVariants.{TooLong}
use Rattle.wc_value.specs.declared.value.Value.{Value, out-Value, fold-roll-Value}
use Rattle.wc_value.specs.declared.value.Value.TheVariants as value
use Rattle.wc_value.specs.declared.value.Value.TheOpen.{Value-F}
use Rattle.wc_syntax.specs.declared.expression.BinaryOp.{BinaryOp}
use Rattle.wc_syntax.specs.declared.expression.Expr.{Expr, fold-roll-Expr}
use Rattle.wc_syntax.specs.declared.expression.Form.{Form, roll-Form, map-Form, fold-roll-Form}
use Rattle.wc_syntax.specs.declared.expression.Form.TheVariants as form
use Rattle.wc_syntax.specs.declared.expression.Form.TheOpen.{Form-F}
use Rattle.wc_syntax.specs.declared.expression.OneOf.{OneOf}
use Rattle.wc_syntax.specs.declared.expression.TwoOf.{TwoOf}
use Rattle.wc_syntax.specs.declared.expression.UnaryOp.{UnaryOp}
use Rattle.wc_syntax.specs.declared.expression.ChildPart.{ChildPart}
use Rattle.wc_state.specs.declared.environment.Env.{Env}
use Rattle.wc_expression.specs.declared.outcome.Outcome.TheVariants.{Gives, Faults}
use Rattle.wc_expression.specs.Environment as environment
use Rattle.wc_expression.specs.Operators.{of_one, of_two, operated, prefixed, settles}
use Rattle.wc_expression.specs.Outcomes.{◌>>=◌}
use Rattle.wc_expression.specs.Val as values
use Rattle.wc_expression.specs.Val.{Meant, is_allowed, sized, val, val_form, limited}
use Rattle.wc_restart.specs.Examples.{quote}
use Rattle.wc_restart.specs.Pieces.{expr, word, number, numeral, truth, plain, child}

-- ---- limits

allowed_by : (v : Value) → (nat_le (length (spelling v)) 4194304 && nat_le (depth v) 32) ≡ true → is_allowed v ≡ true
unfolding is_allowed
allowed_by v h = h

-- a value that opens so, within the limits
allowed_at : (v : Value) (l : Value-F (List ℕ)) (d : Value-F ℕ) → spelling v ≡ level l → depth v ≡ depth_level d
    → (nat_le (length (level l)) 4194304 && nat_le (depth_level d) 32) ≡ true → is_allowed v ≡ true
allowed_at v l d p q h = allowed_by v ((λ i. nat_le (length (p i)) 4194304 && nat_le (q i) 32) ∙ h)

pub int_allowed : (n : ℤ) → nat_le (length (level (Value-F.Int n))) 4194304 ≡ true → is_allowed (value.Int n) ≡ true
int_allowed n h = allowed_at (value.Int n) (Value-F.Int n) (Value-F.Int n) (ap spelling (sym (value.rolls-Int n)) ∙ fold-roll-Value (List ℕ) level (Value-F.Int n))
    (ap depth (sym (value.rolls-Int n)) ∙ fold-roll-Value ℕ depth_level (Value-F.Int n)) (ap (λ b. b && true) h)

pub text_allowed : (t : List ℕ) → nat_le (length (level (Value-F.Text t))) 4194304 ≡ true → is_allowed (value.Text t) ≡ true
text_allowed t h = allowed_at (value.Text t) (Value-F.Text t) (Value-F.Text t) (ap spelling (sym (value.rolls-Text t)) ∙ fold-roll-Value (List ℕ) level (Value-F.Text t))
    (ap depth (sym (value.rolls-Text t)) ∙ fold-roll-Value ℕ depth_level (Value-F.Text t)) (ap (λ b. b && true) h)

pub bool_allowed : (b : Bool) → is_allowed (value.Bool b) ≡ true
bool_allowed b = allowed_at (value.Bool b) (Value-F.Bool b) (Value-F.Bool b) (ap spelling (sym (value.rolls-Bool b)) ∙ fold-roll-Value (List ℕ) level (Value-F.Bool b))
    (ap depth (sym (value.rolls-Bool b)) ∙ fold-roll-Value ℕ depth_level (Value-F.Bool b)) refl

pub folder_allowed : (fs : List (List ℕ × List ℕ)) → nat_le (length (level (Value-F.Folder fs))) 4194304 ≡ true → is_allowed (value.Folder fs) ≡ true
folder_allowed fs h = allowed_at (value.Folder fs) (Value-F.Folder fs) (Value-F.Folder fs) (ap spelling (sym (value.rolls-Folder fs)) ∙ fold-roll-Value (List ℕ) level (Value-F.Folder fs))
    (ap depth (sym (value.rolls-Folder fs)) ∙ fold-roll-Value ℕ depth_level (Value-F.Folder fs)) (ap (λ b. b && true) h)

-- ---- expressions

made : (f : Form) (l : Form-F Form Expr) (env : Env) → roll-Form l ≡ f
    → val (expr f) env ≡ sized (values.form (map-Form Form Expr Meant Meant val_form val l) env)
made f l env e =
    ap (λ m. m env) (fold-roll-Expr Meant Meant values.form limited (record { at = 0; form = f }))
    ∙ ap (λ m. sized (m env)) (ap val_form (sym e) ∙ fold-roll-Form Meant Meant values.form limited l)

-- a value within the limits
keeps : (v : Value) → is_allowed v ≡ true → sized (Gives v) ≡ Gives v
keeps v h = ap (λ b. if b then Gives v else Faults TooLong) h

-- an expression whose level gives a value within the limits
gives : (f : Form) (l : Form-F Form Expr) (env : Env) (v : Value) → roll-Form l ≡ f → values.form (map-Form Form Expr Meant Meant val_form val l) env ≡ Gives v
    → is_allowed v ≡ true → val (expr f) env ≡ Gives v
gives f l env v e p h = made f l env e ∙ ap sized p ∙ keeps v h

module _ (env : Env) where
  pub number_gives : (n : ℕ) → is_allowed (value.Int (pos n)) ≡ true → val (numeral n) env ≡ Gives (value.Int (pos n))
  number_gives n h = gives _ (Form-F.Number (number n)) env (value.Int (pos n)) (form.rolls-Number (number n)) refl h

  pub quoted_gives : (t : List ℕ) → is_allowed (value.Text t) ≡ true → val (expr (form.Quoted (quote t))) env ≡ Gives (value.Text t)
  quoted_gives t h = gives _ (Form-F.Quoted (quote t)) env (value.Text t) (form.rolls-Quoted (quote t)) refl h

  pub bare_gives : (name : List ℕ) (v : Value) → environment.input name env ≡ Gives v → is_allowed v ≡ true → val (expr (form.Bare (word name))) env ≡ Gives v
  bare_gives name v p h = gives _ (Form-F.Bare (word name)) env v (form.rolls-Bare (word name)) p h

  pub input_gives : (name : List ℕ) (v : Value) → environment.input name env ≡ Gives v → is_allowed v ≡ true → val (expr (form.Input 0 (word name))) env ≡ Gives v
  input_gives name v p h = gives _ (Form-F.Input 0 (word name)) env v (form.rolls-Input 0 (word name)) p h

  pub unary_gives : (op : UnaryOp) (a : Expr) (u v : Value) → val a env ≡ Gives u → prefixed op (out-Value u) ≡ Gives v → is_allowed v ≡ true
      → val (expr (form.Unary op a)) env ≡ Gives v
  unary_gives op a u v p q h = gives _ (Form-F.Unary op a) env v (form.rolls-Unary op a) (ap (λ o. o >>= (λ x. prefixed op (out-Value x))) p ∙ q) h

  pub one_gives : (op : OneOf) (a : Expr) (u v : Value) → val a env ≡ Gives u → of_one op (out-Value u) ≡ Gives v → is_allowed v ≡ true
      → val (expr (form.One op a)) env ≡ Gives v
  one_gives op a u v p q h = gives _ (Form-F.One op a) env v (form.rolls-One op a) (ap (λ o. o >>= (λ x. of_one op (out-Value x))) p ∙ q) h

  pub two_gives : (op : TwoOf) (a b : Expr) (t u v : Value) → val a env ≡ Gives t → val b env ≡ Gives u → of_two op (out-Value t) (out-Value u) ≡ Gives v
      → is_allowed v ≡ true → val (expr (form.Two op a b)) env ≡ Gives v
  two_gives op a b t u v p q r h =
      gives _ (Form-F.Two op a b) env v (form.rolls-Two op a b)
      (ap (λ o. o >>= (λ x. val b env >>= (λ y. of_two op (out-Value x) (out-Value y)))) p ∙ ap (λ o. o >>= (λ y. of_two op (out-Value t) (out-Value y))) q ∙ r) h

  pub binary_gives : (op : BinaryOp) (a b : Expr) (t u v : Value) → val a env ≡ Gives t → settles op (out-Value t) ≡ false → val b env ≡ Gives u
      → operated op t u ≡ Gives v → is_allowed v ≡ true → val (expr (form.Binary op a b)) env ≡ Gives v
  binary_gives op a b t u v p s q r h =
      gives _ (Form-F.Binary op a b) env v (form.rolls-Binary op a b)
      (ap (λ o. o >>= (λ x. if settles op (out-Value x) then Gives x else (val b env >>= operated op x))) p
      ∙ ap (λ (c : Bool). if c then Gives t else (val b env >>= operated op t)) s ∙ ap (λ o. o >>= operated op t) q ∙ r) h

  pub truth_gives : (b : Bool) → val (truth b) env ≡ Gives (value.Bool b)
  truth_gives b = gives _ (Form-F.Truth b) env (value.Bool b) (form.rolls-Truth b) refl (bool_allowed b)

  pub plain_gives : (key : List ℕ) (v : Value) → environment.plain key env ≡ Gives v → is_allowed v ≡ true → val (plain key) env ≡ Gives v
  plain_gives key v p h = gives _ (Form-F.Plain 0 (word key)) env v (form.rolls-Plain 0 (word key)) p h

  pub child_gives : (key : List ℕ) (part : ChildPart) (v : Value) → (environment.child key env >>= environment.asked part) ≡ Gives v → is_allowed v ≡ true
      → val (child key part) env ≡ Gives v
  child_gives key part v p h = gives _ (Form-F.Child 0 (word key) None part) env v (form.rolls-Child 0 (word key) None part) p h

  -- where the left operand settles it, the right one isn't evaluated
  pub settled_gives : (op : BinaryOp) (a b : Expr) (t : Value) → val a env ≡ Gives t → settles op (out-Value t) ≡ true → is_allowed t ≡ true
      → val (expr (form.Binary op a b)) env ≡ Gives t
  settled_gives op a b t p s h =
      gives _ (Form-F.Binary op a b) env t (form.rolls-Binary op a b)
      (ap (λ o. o >>= (λ x. if settles op (out-Value x) then Gives x else (val b env >>= operated op x))) p
      ∙ ap (λ (c : Bool). if c then Gives t else (val b env >>= operated op t)) s) h
