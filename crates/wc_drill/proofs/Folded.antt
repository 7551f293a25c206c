-- What a fold gives of the expressions and of the outline in the library of generated chains.
use Rattle.std.proofs.Common.{◌≡◌, ℕ, List, [], ◌∷◌, None, sym, ap, ◌∙◌}
use Rattle.std.specs.Prelude.{codes}
use Rattle.wc_syntax.specs.declared.expression.BinaryOp.{BinaryOp}
use Rattle.wc_syntax.specs.declared.expression.BinaryOp.TheVariants as binary
use Rattle.wc_syntax.specs.declared.expression.ChildPart.TheVariants as asked
use Rattle.wc_syntax.specs.declared.expression.Expr.{Expr, Expr-F, fold-Expr, fold-roll-Expr}
use Rattle.wc_syntax.specs.declared.expression.Form.{Form, fold-Form, roll-Form, map-Form, fold-roll-Form}
use Rattle.wc_syntax.specs.declared.expression.Form.TheVariants as form
use Rattle.wc_syntax.specs.declared.expression.Form.TheOpen.{Form-F}
use Rattle.wc_syntax.specs.declared.expression.OneOf.{OneOf}
use Rattle.wc_syntax.specs.declared.expression.OneOf.TheVariants as one
use Rattle.wc_syntax.specs.declared.expression.TwoOf.{TwoOf}
use Rattle.wc_syntax.specs.declared.expression.TwoOf.TheVariants as two
use Rattle.wc_syntax.specs.declared.outline.Arm.{Arm-F}
use Rattle.wc_syntax.specs.declared.outline.Block.{Block-F, fold-Block, fold-roll-Block}
use Rattle.wc_syntax.specs.declared.outline.Instr.{fold-Instr, fold-roll-Instr}
use Rattle.wc_syntax.specs.declared.outline.Instr.TheVariants as instr
use Rattle.wc_syntax.specs.declared.outline.Instr.TheOpen.{Instr-F}
use Rattle.wc_syntax.specs.declared.outline.Step.{Step}
use Rattle.wc_drill.specs.Library.{word, quote, expr, bare, input, output_of, program, argument, read_number, sum_of_both, first, second, last, pair}

-- ---- expressions

module _ {A B : Type 0} (f : Form-F A B → A) (g : Expr-F A B → B) where
  abbrev pub folded : Expr → B
  folded = fold-Expr A B f g

  abbrev folded_form : Form → A
  folded_form = fold-Form A B f g

  -- a form, as an expression
  abbrev pub as_expr : A → B
  as_expr a = g (record { at = 0; form = a })

  opened : (l : Form-F Form Expr) (x : Form) → roll-Form l ≡ x → folded (expr x) ≡ as_expr (f (map-Form Form Expr A B folded_form folded l))
  opened l x rolls = fold-roll-Expr A B f g (record { at = 0; form = x }) ∙ ap as_expr (ap folded_form (sym rolls) ∙ fold-roll-Form A B f g l)

  quoted_folded : (text : List ℕ) → folded (expr (form.Quoted (quote text))) ≡ as_expr (f (Form-F.Quoted (quote text)))
  quoted_folded text = opened (Form-F.Quoted (quote text)) (form.Quoted (quote text)) (form.rolls-Quoted (quote text))

  bare_folded : (name : List ℕ) → folded (bare name) ≡ as_expr (f (Form-F.Bare (word name)))
  bare_folded name = opened (Form-F.Bare (word name)) (form.Bare (word name)) (form.rolls-Bare (word name))

  pub input_folded : (name : List ℕ) → folded (input name) ≡ as_expr (f (Form-F.Input 0 (word name)))
  input_folded name = opened (Form-F.Input 0 (word name)) (form.Input 0 (word name)) (form.rolls-Input 0 (word name))

  pub output_folded : (key label : List ℕ) → folded (output_of key label) ≡ as_expr (f (Form-F.Child 0 (word key) None (asked.Outputs (word label))))
  output_folded key label =
      opened (Form-F.Child 0 (word key) None (asked.Outputs (word label))) (form.Child 0 (word key) None (asked.Outputs (word label)))
      (form.rolls-Child 0 (word key) None (asked.Outputs (word label)))

  one_folded : (o : OneOf) (e : Expr) (b : B) → folded e ≡ b → folded (expr (form.One o e)) ≡ as_expr (f (Form-F.One o b))
  one_folded o e b h = opened (Form-F.One o e) (form.One o e) (form.rolls-One o e) ∙ ap (λ x. as_expr (f (Form-F.One o x))) h

  two_folded : (o : TwoOf) (d e : Expr) (a b : B) → folded d ≡ a → folded e ≡ b → folded (expr (form.Two o d e)) ≡ as_expr (f (Form-F.Two o a b))
  two_folded o d e a b h k = opened (Form-F.Two o d e) (form.Two o d e) (form.rolls-Two o d e) ∙ λ i. as_expr (f (Form-F.Two o (h i) (k i)))

  binary_folded : (o : BinaryOp) (d e : Expr) (a b : B) → folded d ≡ a → folded e ≡ b → folded (expr (form.Binary o d e)) ≡ as_expr (f (Form-F.Binary o a b))
  binary_folded o d e a b h k = opened (Form-F.Binary o d e) (form.Binary o d e) (form.rolls-Binary o d e) ∙ λ i. as_expr (f (Form-F.Binary o (h i) (k i)))

  abbrev pub quoted_as : List ℕ → B
  quoted_as text = as_expr (f (Form-F.Quoted (quote text)))

  abbrev pub bare_as : List ℕ → B
  bare_as name = as_expr (f (Form-F.Bare (word name)))

  -- "square"
  pub program_folded : folded program ≡ quoted_as (codes "square")
  program_folded = quoted_folded (codes "square")

  -- text(x)
  pub argument_folded : folded argument ≡ as_expr (f (Form-F.One one.Text (bare_as (codes "x"))))
  argument_folded = one_folded one.Text (bare (codes "x")) _ (bare_folded (codes "x"))

  abbrev pub read_as : B
  read_as = as_expr (f (Form-F.One one.Int (as_expr (f (Form-F.One one.Trim (as_expr (f (Form-F.Two two.File (bare_as (codes "retrieved")) (quoted_as (codes "y"))))))))))

  -- int(trim(file(retrieved, "y")))
  pub read_folded : folded read_number ≡ read_as
  read_folded =
      one_folded one.Int _ _ (one_folded one.Trim _ _ (two_folded two.File (bare (codes "retrieved")) (expr (form.Quoted (quote (codes "y")))) _ _
      (bare_folded (codes "retrieved")) (quoted_folded (codes "y"))))

  -- a + b
  pub sum_folded : folded sum_of_both ≡ as_expr (f (Form-F.Binary binary.Add (bare_as (codes "a")) (bare_as (codes "b"))))
  sum_folded = binary_folded binary.Add (bare (codes "a")) (bare (codes "b")) _ _ (bare_folded (codes "a")) (bare_folded (codes "b"))

-- ---- the outline

module _ {I A B : Type 0} (f : Instr-F I A B → I) (g : Arm-F I A B → A) (h : Block-F I A B → B) where
  step_folded : (s : Step) → fold-Instr I A B f g h (instr.Step s) ≡ f (Instr-F.Step s)
  step_folded s = ap (fold-Instr I A B f g h) (sym (instr.rolls-Step s)) ∙ fold-roll-Instr I A B f g h (Instr-F.Step s)

  pub outline_folded : fold-Block I A B f g h pair.outline ≡ h (record { instrs = f (Instr-F.Step first) ∷ (f (Instr-F.Step second) ∷ (f (Instr-F.Step last) ∷ [])) })
  outline_folded =
      fold-roll-Block I A B f g h (record { instrs = instr.Step first ∷ (instr.Step second ∷ (instr.Step last ∷ [])) })
      ∙ λ i. h (record { instrs = step_folded first i ∷ (step_folded second i ∷ (step_folded last i ∷ [])) })
