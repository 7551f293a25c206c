-- What a fold makes of the pieces of a chain: one level, over what it makes of the parts.
use Rattle.std.proofs.Common.{◌≡◌, ◌∙◌, ap, sym, ℕ, Bool, List, map, Some, None}
use Rattle.wc_syntax.specs.declared.expression.BinaryOp.{BinaryOp}
use Rattle.wc_syntax.specs.declared.expression.ChildPart.{ChildPart}
use Rattle.wc_syntax.specs.declared.expression.Expr.{Expr, Expr-F, fold-Expr, fold-roll-Expr}
use Rattle.wc_syntax.specs.declared.expression.Form.{Form, Form-F, fold-Form, fold-roll-Form, roll-Form, map-Form}
use Rattle.wc_syntax.specs.declared.expression.Form.TheVariants as form
use Rattle.wc_syntax.specs.declared.expression.UnaryOp.TheVariants as unary
use Rattle.wc_syntax.specs.declared.outline.Arm.{Arm, Arm-F, fold-Arm, fold-roll-Arm}
use Rattle.wc_syntax.specs.declared.outline.Block.{Block, Block-F, fold-Block, fold-roll-Block}
use Rattle.wc_syntax.specs.declared.outline.Instr.{Instr, Instr-F, fold-Instr, fold-roll-Instr}
use Rattle.wc_syntax.specs.declared.outline.Instr.TheVariants as instr
use Rattle.wc_syntax.specs.declared.outline.Step.{Step}
use Rattle.wc_syntax.specs.declared.outline.Stmt.{Stmt}
use Rattle.wc_syntax.specs.declared.expression.OneOf.{OneOf}
use Rattle.wc_syntax.specs.declared.expression.TwoOf.{TwoOf}
use Rattle.wc_restart.specs.Examples.{quote, bare}
use Rattle.wc_restart.specs.Pieces.{word, number, expr, numeral, truth, input, plain, child, negated, joined, step, block, arm, either, while}

-- ---- expressions

module _ {A B : Type 0} (f : Form-F A B → A) (g : Expr-F A B → B) where
  abbrev pub folded : Expr → B
  folded = fold-Expr A B f g

  abbrev folded_form : Form → A
  folded_form = fold-Form A B f g

  -- a form, as an expression
  abbrev pub as_expr : A → B
  as_expr a = g (record { at = 0; form = a })

  opened : (l : Form-F Form Expr) (x : Form) → roll-Form l ≡ x → folded (expr x) ≡ as_expr (f (map-Form Form Expr A B folded_form folded l))
  opened l x rolls = fold-roll-Expr A B f g (record { at = 0; form = x }) ∙ ap as_expr (ap folded_form (sym rolls) ∙ fold-roll-Form A B f g l)

  pub numeral_folded : (n : ℕ) → folded (numeral n) ≡ as_expr (f (Form-F.Number (number n)))
  numeral_folded n = opened (Form-F.Number (number n)) (form.Number (number n)) (form.rolls-Number (number n))

  pub truth_folded : (b : Bool) → folded (truth b) ≡ as_expr (f (Form-F.Truth b))
  truth_folded b = opened (Form-F.Truth b) (form.Truth b) (form.rolls-Truth b)

  pub input_folded : (name : List ℕ) → folded (input name) ≡ as_expr (f (Form-F.Input 0 (word name)))
  input_folded name = opened (Form-F.Input 0 (word name)) (form.Input 0 (word name)) (form.rolls-Input 0 (word name))

  pub plain_folded : (key : List ℕ) → folded (plain key) ≡ as_expr (f (Form-F.Plain 0 (word key)))
  plain_folded key = opened (Form-F.Plain 0 (word key)) (form.Plain 0 (word key)) (form.rolls-Plain 0 (word key))

  pub child_folded : (key : List ℕ) (part : ChildPart) → folded (child key part) ≡ as_expr (f (Form-F.Child 0 (word key) None part))
  child_folded key part = opened (Form-F.Child 0 (word key) None part) (form.Child 0 (word key) None part) (form.rolls-Child 0 (word key) None part)

  pub negated_folded : (e : Expr) → folded (negated e) ≡ as_expr (f (Form-F.Unary unary.Not (folded e)))
  negated_folded e = opened (Form-F.Unary unary.Not e) (form.Unary unary.Not e) (form.rolls-Unary unary.Not e)

  pub joined_folded : (o : BinaryOp) (a b : Expr) → folded (joined o a b) ≡ as_expr (f (Form-F.Binary o (folded a) (folded b)))
  joined_folded o a b = opened (Form-F.Binary o a b) (form.Binary o a b) (form.rolls-Binary o a b)

  pub quoted_folded : (text : List ℕ) → folded (expr (form.Quoted (quote text))) ≡ as_expr (f (Form-F.Quoted (quote text)))
  quoted_folded text = opened (Form-F.Quoted (quote text)) (form.Quoted (quote text)) (form.rolls-Quoted (quote text))

  pub bare_folded : (name : List ℕ) → folded (bare name) ≡ as_expr (f (Form-F.Bare (word name)))
  bare_folded name = opened (Form-F.Bare (word name)) (form.Bare (word name)) (form.rolls-Bare (word name))

  pub one_folded : (o : OneOf) (e : Expr) → folded (expr (form.One o e)) ≡ as_expr (f (Form-F.One o (folded e)))
  one_folded o e = opened (Form-F.One o e) (form.One o e) (form.rolls-One o e)

  pub two_folded : (o : TwoOf) (d e : Expr) → folded (expr (form.Two o d e)) ≡ as_expr (f (Form-F.Two o (folded d) (folded e)))
  two_folded o d e = opened (Form-F.Two o d e) (form.Two o d e) (form.rolls-Two o d e)

-- ---- the outline

module _ {I A B : Type 0} (f : Instr-F I A B → I) (g : Arm-F I A B → A) (h : Block-F I A B → B) where
  pub step_folded : (name : List ℕ) (stmts : List Stmt) → fold-Instr I A B f g h (step name stmts) ≡ f (Instr-F.Step (record { at = 0; name = word name; stmts = stmts }))
  step_folded name stmts =
      ap (fold-Instr I A B f g h) (sym (instr.rolls-Step (record { at = 0; name = word name; stmts = stmts })))
      ∙ fold-roll-Instr I A B f g h (Instr-F.Step (record { at = 0; name = word name; stmts = stmts }))

  pub block_folded : (is : List Instr) → fold-Block I A B f g h (block is) ≡ h (record { instrs = map (fold-Instr I A B f g h) is })
  block_folded is = fold-roll-Block I A B f g h (record { instrs = is })

  pub arm_folded : (e : Expr) (is : List Instr) → fold-Arm I A B f g h (arm e is) ≡ g (record { condition = e; block = fold-Block I A B f g h (block is) })
  arm_folded e is = fold-roll-Arm I A B f g h (record { condition = e; block = block is })

  pub either_folded : (arms : List Arm) (is : List Instr) → fold-Instr I A B f g h (either arms is)
      ≡ f (Instr-F.If 0 (map (fold-Arm I A B f g h) arms) (Some (fold-Block I A B f g h (block is))))
  either_folded arms is =
      ap (fold-Instr I A B f g h) (sym (instr.rolls-If 0 arms (Some (block is)))) ∙ fold-roll-Instr I A B f g h (Instr-F.If 0 arms (Some (block is)))

  pub while_folded : (e : Expr) (is : List Instr) → fold-Instr I A B f g h (while e is) ≡ f (Instr-F.While 0 e (fold-Block I A B f g h (block is)))
  while_folded e is = ap (fold-Instr I A B f g h) (sym (instr.rolls-While 0 e (block is))) ∙ fold-roll-Instr I A B f g h (Instr-F.While 0 e (block is))
