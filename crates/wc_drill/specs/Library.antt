-- The library of generated chains: `square` squares a number by a job, `total` adds two numbers, and `pair` adds the squares of two numbers.
use Rattle.std.specs.Prelude.{ℕ, pos, false, List, [], ◌∷◌, ◌++◌, None, codes}
use Rattle.wc_value.specs.declared.value.Kind.TheVariants as kind
use Rattle.wc_value.specs.declared.value.Value.{Value}
use Rattle.wc_value.specs.declared.value.Value.TheVariants as value
use Rattle.wc_syntax.specs.declared.definition.Chain.{Chain}
use Rattle.wc_syntax.specs.declared.definition.Definition.{Definition}
use Rattle.wc_syntax.specs.declared.definition.Definition.TheVariants as definition
use Rattle.wc_syntax.specs.declared.definition.Function.{Function}
use Rattle.wc_syntax.specs.declared.definition.Head.{Head}
use Rattle.wc_syntax.specs.declared.definition.Job.{Job}
use Rattle.wc_syntax.specs.declared.definition.Port.{Port}
use Rattle.wc_syntax.specs.declared.definition.Rule.TheVariants as rule
use Rattle.wc_syntax.specs.declared.expression.BinaryOp.TheVariants as binary
use Rattle.wc_syntax.specs.declared.expression.ChildPart.TheVariants as asked
use Rattle.wc_syntax.specs.declared.expression.Expr.{Expr, roll-Expr}
use Rattle.wc_syntax.specs.declared.expression.Form.{Form}
use Rattle.wc_syntax.specs.declared.expression.Form.TheVariants as form
use Rattle.wc_syntax.specs.declared.expression.Name.{Name}
use Rattle.wc_syntax.specs.declared.expression.OneOf.TheVariants as one
use Rattle.wc_syntax.specs.declared.expression.Quoted.{Quoted}
use Rattle.wc_syntax.specs.declared.expression.TwoOf.TheVariants as two
use Rattle.wc_syntax.specs.declared.outline.Block.{roll-Block}
use Rattle.wc_syntax.specs.declared.outline.CallArg.{CallArg}
use Rattle.wc_syntax.specs.declared.outline.Instr.TheVariants as instr
use Rattle.wc_syntax.specs.declared.outline.Step.{Step}
use Rattle.wc_syntax.specs.declared.outline.Stmt.{Stmt}
use Rattle.wc_syntax.specs.declared.outline.Stmt.TheVariants as stmt

-- ---- syntax without offsets

-- a name without a place
abbrev pub word : List ℕ → Name
word text = record { text = text; at = 0 }

-- a text in quotes without a place
abbrev pub quote : List ℕ → Quoted
quote text = record { text = text; at = 0 }

-- an expression without a place
abbrev pub expr : Form → Expr
expr f = roll-Expr (record { at = 0; form = f })

-- a required port of numbers
abbrev pub port : List ℕ → Port
port name = record { at = 0; name = word name; optional = false; kind = kind.Int }

-- a name with its ports, and no exit codes
abbrev pub headed : List ℕ → (inputs outputs : List Port) → Head
headed name inputs outputs = record { at = 0; name = word name; inputs = inputs; outputs = outputs; codes = [] }

-- a bare name as an expression
abbrev pub bare : List ℕ → Expr
bare name = expr (form.Bare (word name))

-- an input as an expression
abbrev pub input : List ℕ → Expr
input name = expr (form.Input 0 (word name))

-- ctx.key.outputs.label
abbrev pub output_of : (key label : List ℕ) → Expr
output_of key label = expr (form.Child 0 (word key) None (asked.Outputs (word label)))

-- an argument of a call
abbrev pub given : List ℕ → Expr → CallArg
given name value = record { port = word name; value = value }

-- call callee(..) to ctx.key;
abbrev pub call_to : (callee : List ℕ) → List CallArg → (key : List ℕ) → Stmt
call_to callee args key = stmt.Call (record { at = 0; callee = word callee; args = args; append = false; key = word key })

-- a step without a place
abbrev pub step : List ℕ → List Stmt → Step
step name stmts = record { at = 0; name = word name; stmts = stmts }

-- ---- the expressions

-- "square"
abbrev pub program : Expr
program = expr (form.Quoted (quote (codes "square")))

-- text(x)
abbrev pub argument : Expr
argument = expr (form.One one.Text (bare (codes "x")))

-- int(trim(file(retrieved, "y")))
abbrev pub read_number : Expr
read_number = expr (form.One one.Int (expr (form.One one.Trim (expr (form.Two two.File (bare (codes "retrieved")) (expr (form.Quoted (quote (codes "y")))))))))

-- a + b
abbrev pub sum_of_both : Expr
sum_of_both = expr (form.Binary binary.Add (bare (codes "a")) (bare (codes "b")))

-- ---- the definitions

-- calcjob square(x: int) -> (y: int) {
--   program "square"; arg text(x); fetch "y";
--   parse { out y = int(trim(file(retrieved, "y"))); }
-- }
abbrev pub square : Job
square = record {
  head = headed (codes "square") (port (codes "x") ∷ []) (port (codes "y") ∷ []);
  program = record { at = 0; value = program };
  args = record { at = 0; value = argument } ∷ [];
  files = [];
  fetch = record { at = 0; name = quote (codes "y") } ∷ [];
  parse = rule.Out 0 (word (codes "y")) read_number ∷ [];
}

-- calcfunction total(a: int, b: int) -> (s: int) { out s = a + b; }
abbrev pub total : Function
total = record {
  head = headed (codes "total") (port (codes "a") ∷ (port (codes "b") ∷ [])) (port (codes "s") ∷ []);
  rules = rule.Out 0 (word (codes "s")) sum_of_both ∷ [];
}

-- step first { call square(x: inputs.a) to ctx.a; call square(x: inputs.b) to ctx.b; }
abbrev pub first : Step
first = step (codes "first") (
    call_to (codes "square") (given (codes "x") (input (codes "a")) ∷ []) (codes "a")
    ∷ (call_to (codes "square") (given (codes "x") (input (codes "b")) ∷ []) (codes "b") ∷ []))

-- step second { call total(a: ctx.a.outputs.y, b: ctx.b.outputs.y) to ctx.t; }
abbrev pub second : Step
second = step (codes "second") (
    call_to (codes "total") (given (codes "a") (output_of (codes "a") (codes "y")) ∷ (given (codes "b") (output_of (codes "b") (codes "y")) ∷ [])) (codes "t") ∷ [])

-- step last { out s = ctx.t.outputs.s; }
abbrev pub last : Step
last = step (codes "last") (stmt.Out 0 (word (codes "s")) (output_of (codes "t") (codes "s")) ∷ [])

-- workchain pair(a: int, b: int) -> (s: int) { step first { .. } step second { .. } step last { .. } }
abbrev pub pair : Chain
pair = record {
  head = headed (codes "pair") (port (codes "a") ∷ (port (codes "b") ∷ [])) (port (codes "s") ∷ []);
  outline = roll-Block (record { instrs = instr.Step first ∷ (instr.Step second ∷ (instr.Step last ∷ [])) });
}

-- The library of generated chains: the chain `pair` squares two numbers by a job each and adds the squares by a function
abbrev pub library : List Definition
library = definition.Job square ∷ (definition.Function total ∷ (definition.Chain pair ∷ []))

-- ---- its text

-- the library as a file says it
abbrev pub text : List ℕ
text =
    codes "calcjob square(x: int) -> (y: int) {\n"
    ++ codes "  program \"square\";\n"
    ++ codes "  arg text(x);\n"
    ++ codes "  fetch \"y\";\n"
    ++ codes "  parse {\n"
    ++ codes "    out y = int(trim(file(retrieved, \"y\")));\n"
    ++ codes "  }\n"
    ++ codes "}\n"
    ++ codes "calcfunction total(a: int, b: int) -> (s: int) {\n"
    ++ codes "  out s = (a + b);\n"
    ++ codes "}\n"
    ++ codes "workchain pair(a: int, b: int) -> (s: int) {\n"
    ++ codes "  step first {\n"
    ++ codes "    call square(x: inputs.a) to ctx.a;\n"
    ++ codes "    call square(x: inputs.b) to ctx.b;\n"
    ++ codes "  }\n"
    ++ codes "  step second {\n"
    ++ codes "    call total(a: ctx.a.outputs.y, b: ctx.b.outputs.y) to ctx.t;\n"
    ++ codes "  }\n"
    ++ codes "  step last {\n"
    ++ codes "    out s = ctx.t.outputs.s;\n"
    ++ codes "  }\n"
    ++ codes "}\n"

-- ---- what is given to it

-- the name of the definition of chains
abbrev pub chain_name : List ℕ
chain_name = codes "pair"

-- the inputs of a chain with these two numbers
abbrev pub chain_inputs : (first second : ℕ) → List (List ℕ × Value)
chain_inputs first second = (codes "a", value.Int (pos first)) ∷ ((codes "b", value.Int (pos second)) ∷ [])
