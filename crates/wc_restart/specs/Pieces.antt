-- Syntax without offsets, of which the chain is made.
use Rattle.std.specs.Prelude.{ℕ, pos, Bool, false, List, [], ◌∷◌, map, Option, Some, None, codes}
use Rattle.wc_syntax.specs.declared.definition.Port.{Port}
use Rattle.wc_syntax.specs.declared.definition.ExitCode.{ExitCode}
use Rattle.wc_syntax.specs.declared.expression.BinaryOp.{BinaryOp}
use Rattle.wc_syntax.specs.declared.expression.BinaryOp.TheVariants as binary
use Rattle.wc_syntax.specs.declared.expression.ChildPart.{ChildPart}
use Rattle.wc_syntax.specs.declared.expression.ChildPart.TheVariants as asked
use Rattle.wc_syntax.specs.declared.expression.Expr.{Expr, roll-Expr}
use Rattle.wc_syntax.specs.declared.expression.Form.{Form}
use Rattle.wc_syntax.specs.declared.expression.Form.TheVariants as form
use Rattle.wc_syntax.specs.declared.expression.Name.{Name}
use Rattle.wc_syntax.specs.declared.expression.Number.{Number}
use Rattle.wc_syntax.specs.declared.expression.UnaryOp.TheVariants as unary
use Rattle.wc_syntax.specs.declared.outline.Arm.{Arm, roll-Arm}
use Rattle.wc_syntax.specs.declared.outline.Block.{Block, roll-Block}
use Rattle.wc_syntax.specs.declared.outline.CallArg.{CallArg}
use Rattle.wc_syntax.specs.declared.outline.Instr.{Instr}
use Rattle.wc_syntax.specs.declared.outline.Instr.TheVariants as instr
use Rattle.wc_syntax.specs.declared.outline.Stmt.{Stmt}
use Rattle.wc_syntax.specs.declared.outline.Stmt.TheVariants as stmt

-- a name without a place
abbrev pub word : List ℕ → Name
word text = record { text = text; at = 0 }

-- a number without a place
abbrev pub number : ℕ → Number
number n = record { value = pos n; at = 0 }

-- ---- expressions

-- an expression without a place
abbrev pub expr : Form → Expr
expr f = roll-Expr (record { at = 0; form = f })

-- a number as an expression
abbrev pub numeral : ℕ → Expr
numeral n = expr (form.Number (number n))

-- a truth value as an expression
abbrev pub truth : Bool → Expr
truth b = expr (form.Truth b)

-- inputs.name
abbrev pub input : List ℕ → Expr
input name = expr (form.Input 0 (word name))

-- ctx.key
abbrev pub plain : List ℕ → Expr
plain key = expr (form.Plain 0 (word key))

-- ctx.key with what is asked of that child
abbrev pub child : List ℕ → ChildPart → Expr
child key part = expr (form.Child 0 (word key) None part)

-- ctx.key.outputs.label
abbrev pub output_of : (key label : List ℕ) → Expr
output_of key label = child key (asked.Outputs (word label))

-- (not e)
abbrev pub negated : Expr → Expr
negated e = expr (form.Unary unary.Not e)

-- two expressions joined by an operator
abbrev pub joined : BinaryOp → Expr → Expr → Expr
joined o a b = expr (form.Binary o a b)

-- ---- statements

-- ctx.key = e;
abbrev pub set : List ℕ → Expr → Stmt
set key e = stmt.Ctx 0 (word key) e

-- exit n; or exit n if e;
abbrev pub exit : ℕ → Option Expr → Stmt
exit n condition = stmt.Exit (record { at = 0; status = number n; condition = condition })

-- x: e, with e by the port's name
abbrev pub given : (List ℕ → Expr) → Port → CallArg
given source p = record { port = word p.name.text; value = source p.name.text }

-- call callee(x: e, ..) to ctx.key;
abbrev pub call_with : (callee : List ℕ) → (source : List ℕ → Expr) → List Port → (key : List ℕ) → Stmt
call_with callee source ports key = stmt.Call (record { at = 0; callee = word callee; args = map (given source) ports; append = false; key = word key })

-- ---- instructions

-- a step without a place
abbrev pub step : List ℕ → List Stmt → Instr
step name stmts = instr.Step (record { at = 0; name = word name; stmts = stmts })

-- a block of instructions
abbrev pub block : List Instr → Block
block is = roll-Block (record { instrs = is })

-- an arm of an `if`
abbrev pub arm : Expr → List Instr → Arm
arm e is = roll-Arm (record { condition = e; block = block is })

-- if, with the arms behind, and else
abbrev pub either : List Arm → List Instr → Instr
either arms is = instr.If 0 arms (Some (block is))

-- a `while` without a place
abbrev pub while : Expr → List Instr → Instr
while e is = instr.While 0 e (block is)
