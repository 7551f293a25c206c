-- Syntax with each offset at 0. Two pieces of syntax say the same where their bare forms are equal.
use Rattle.std.specs.Prelude.{List, map}
use Rattle.std.specs.Option.{option_map}
use Rattle.wc_syntax.specs.declared.expression.Name.{Name}
use Rattle.wc_syntax.specs.declared.expression.Quoted.{Quoted}
use Rattle.wc_syntax.specs.declared.expression.Number.{Number}
use Rattle.wc_syntax.specs.declared.expression.ChildPart.{ChildPart}
use Rattle.wc_syntax.specs.declared.expression.ChildPart.TheVariants as part
use Rattle.wc_syntax.specs.declared.expression.Expr.{Expr, Expr-F, fold-Expr, roll-Expr}
use Rattle.wc_syntax.specs.declared.expression.Form.{Form, fold-Form, roll-Form}
use Rattle.wc_syntax.specs.declared.expression.Form.TheOpen.{Form-F}
use Rattle.wc_syntax.specs.declared.definition.Definition.{Definition}
use Rattle.wc_syntax.specs.declared.definition.Definition.TheVariants as definition
use Rattle.wc_syntax.specs.declared.definition.Head.{Head}
use Rattle.wc_syntax.specs.declared.definition.Function.{Function}
use Rattle.wc_syntax.specs.declared.definition.Job.{Job}
use Rattle.wc_syntax.specs.declared.definition.Chain.{Chain}
use Rattle.wc_syntax.specs.declared.definition.Port.{Port}
use Rattle.wc_syntax.specs.declared.definition.ExitCode.{ExitCode}
use Rattle.wc_syntax.specs.declared.definition.JobLine.{JobLine}
use Rattle.wc_syntax.specs.declared.definition.JobFile.{JobFile}
use Rattle.wc_syntax.specs.declared.definition.Fetch.{Fetch}
use Rattle.wc_syntax.specs.declared.definition.Exit.{Exit}
use Rattle.wc_syntax.specs.declared.definition.Rule.{Rule}
use Rattle.wc_syntax.specs.declared.definition.Rule.TheVariants as rule
use Rattle.wc_syntax.specs.declared.outline.CallArg.{CallArg}
use Rattle.wc_syntax.specs.declared.outline.CallStmt.{CallStmt}
use Rattle.wc_syntax.specs.declared.outline.Stmt.{Stmt}
use Rattle.wc_syntax.specs.declared.outline.Stmt.TheVariants as stmt
use Rattle.wc_syntax.specs.declared.outline.Step.{Step}
use Rattle.wc_syntax.specs.declared.outline.Block.{Block, Block-F, fold-Block, roll-Block}
use Rattle.wc_syntax.specs.declared.outline.Arm.{Arm, Arm-F, fold-Arm, roll-Arm}
use Rattle.wc_syntax.specs.declared.outline.Instr.{Instr, fold-Instr, roll-Instr}
use Rattle.wc_syntax.specs.declared.outline.Instr.TheOpen.{Instr-F}

-- a name with each offset in it 0
abbrev pub bare_name : Name → Name
bare_name n = record { text = n.text; at = 0 }

-- a text in quotes with each offset in it 0
abbrev pub bare_quoted : Quoted → Quoted
bare_quoted q = record { text = q.text; at = 0 }

-- a number with each offset in it 0
abbrev pub bare_number : Number → Number
bare_number n = record { value = n.value; at = 0 }

-- what is asked of a child with each offset in it 0
abbrev pub bare_part : ChildPart → ChildPart
bare_part (part.Outputs n) = part.Outputs (bare_name n)
bare_part part.Status = part.Status
bare_part part.Ok = part.Ok

-- one level of an expression, with what is inside already bare
abbrev pub bare_level : Form-F Form Expr → Form-F Form Expr
bare_level (Form-F.Number n) = Form-F.Number (bare_number n)
bare_level (Form-F.Quoted q) = Form-F.Quoted (bare_quoted q)
bare_level (Form-F.Truth b) = Form-F.Truth b
bare_level (Form-F.Bare n) = Form-F.Bare (bare_name n)
bare_level (Form-F.Input at n) = Form-F.Input 0 (bare_name n)
bare_level (Form-F.Plain at n) = Form-F.Plain 0 (bare_name n)
bare_level (Form-F.Child at n i p) = Form-F.Child 0 (bare_name n) i (bare_part p)
bare_level (Form-F.Unary o a) = Form-F.Unary o a
bare_level (Form-F.Binary o a b) = Form-F.Binary o a b
bare_level (Form-F.One o a) = Form-F.One o a
bare_level (Form-F.Two o a b) = Form-F.Two o a b
bare_level (Form-F.GivenBare n) = Form-F.GivenBare (bare_name n)
bare_level (Form-F.GivenInput at n) = Form-F.GivenInput 0 (bare_name n)
bare_level (Form-F.Count at n) = Form-F.Count 0 (bare_name n)
bare_level (Form-F.List es) = Form-F.List es

-- a form of an expression with the offset 0, made of what is inside it
abbrev pub at_form : Form-F Form Expr → Form
at_form f = roll-Form (bare_level f)

-- an expression with the offset 0, made of what is inside it
abbrev pub at_expr : Expr-F Form Expr → Expr
at_expr e = roll-Expr (record { at = 0; form = e.form })

-- an expression with each offset in it 0
abbrev pub bare_expr : Expr → Expr
bare_expr = fold-Expr Form Expr at_form at_expr

-- a form of an expression with each offset in it 0
abbrev pub bare_form : Form → Form
bare_form = fold-Form Form Expr at_form at_expr

-- a port with each offset in it 0
abbrev pub bare_port : Port → Port
bare_port p = record { at = 0; name = bare_name p.name; optional = p.optional; kind = p.kind }

-- an exit code with each offset in it 0
abbrev pub bare_code : ExitCode → ExitCode
bare_code c = record { at = 0; status = bare_number c.status; message = bare_quoted c.message; invalidates = c.invalidates }

-- the head of a definition with each offset in it 0
abbrev pub bare_head : Head → Head
bare_head h = record {
  at = 0;
  name = bare_name h.name;
  inputs = map bare_port h.inputs;
  outputs = map bare_port h.outputs;
  codes = map bare_code h.codes;
}

-- an exit with each offset in it 0
abbrev pub bare_exit : Exit → Exit
bare_exit x = record { at = 0; status = bare_number x.status; condition = option_map bare_expr x.condition }

-- a rule with each offset in it 0
abbrev pub bare_rule : Rule → Rule
bare_rule (rule.Let at n e) = rule.Let 0 (bare_name n) (bare_expr e)
bare_rule (rule.Out at n e) = rule.Out 0 (bare_name n) (bare_expr e)
bare_rule (rule.Exit x) = rule.Exit (bare_exit x)

-- a function with each offset in it 0
abbrev pub bare_function : Function → Function
bare_function f = record { head = bare_head f.head; rules = map bare_rule f.rules }

-- a line of a job with each offset in it 0
abbrev pub bare_line : JobLine → JobLine
bare_line l = record { at = 0; value = bare_expr l.value }

-- a file of a job with each offset in it 0
abbrev pub bare_file : JobFile → JobFile
bare_file f = record { at = 0; name = bare_quoted f.name; value = bare_expr f.value }

-- a name that is fetched with each offset in it 0
abbrev pub bare_fetch : Fetch → Fetch
bare_fetch f = record { at = 0; name = bare_quoted f.name }

-- a job with each offset in it 0
abbrev pub bare_job : Job → Job
bare_job j = record {
  head = bare_head j.head;
  program = bare_line j.program;
  args = map bare_line j.args;
  files = map bare_file j.files;
  fetch = map bare_fetch j.fetch;
  parse = map bare_rule j.parse;
}

-- an argument with each offset in it 0
abbrev pub bare_arg : CallArg → CallArg
bare_arg a = record { port = bare_name a.port; value = bare_expr a.value }

-- a call with each offset in it 0
abbrev pub bare_call : CallStmt → CallStmt
bare_call c = record {
  at = 0;
  callee = bare_name c.callee;
  args = map bare_arg c.args;
  append = c.append;
  key = bare_name c.key;
}

-- a statement of a step with each offset in it 0
abbrev pub bare_stmt : Stmt → Stmt
bare_stmt (stmt.Ctx at n e) = stmt.Ctx 0 (bare_name n) (bare_expr e)
bare_stmt (stmt.Out at n e) = stmt.Out 0 (bare_name n) (bare_expr e)
bare_stmt (stmt.Exit x) = stmt.Exit (bare_exit x)
bare_stmt (stmt.Call c) = stmt.Call (bare_call c)

-- a step with each offset in it 0
abbrev pub bare_step : Step → Step
bare_step s = record { at = 0; name = bare_name s.name; stmts = map bare_stmt s.stmts }

-- one level of an outline, with what is inside already bare
abbrev pub instr_level : Instr-F Instr Arm Block → Instr-F Instr Arm Block
instr_level (Instr-F.Step s) = Instr-F.Step (bare_step s)
instr_level (Instr-F.If at arms other) = Instr-F.If 0 arms other
instr_level (Instr-F.While at e b) = Instr-F.While 0 (bare_expr e) b
instr_level (Instr-F.Return at n) = Instr-F.Return 0 (option_map bare_number n)

-- an instruction with the offset 0, made of what is inside it
abbrev pub at_instr : Instr-F Instr Arm Block → Instr
at_instr i = roll-Instr (instr_level i)

-- an arm of an `if` with the offset 0, made of what is inside it
abbrev pub at_arm : Arm-F Instr Arm Block → Arm
at_arm a = roll-Arm (record { condition = bare_expr a.condition; block = a.block })

-- a block with the offset 0, made of what is inside it
abbrev pub at_block : Block-F Instr Arm Block → Block
at_block b = roll-Block (record { instrs = b.instrs })

-- an instruction with each offset in it 0
abbrev pub bare_instr : Instr → Instr
bare_instr = fold-Instr Instr Arm Block at_instr at_arm at_block

-- an arm of an `if` with each offset in it 0
abbrev pub bare_arm : Arm → Arm
bare_arm = fold-Arm Instr Arm Block at_instr at_arm at_block

-- a block with each offset in it 0
abbrev pub bare_block : Block → Block
bare_block = fold-Block Instr Arm Block at_instr at_arm at_block

-- a work chain with each offset in it 0
abbrev pub bare_chain : Chain → Chain
bare_chain c = record { head = bare_head c.head; outline = bare_block c.outline }

-- a definition with each offset in it 0
abbrev pub bare_definition : Definition → Definition
bare_definition (definition.Function f) = definition.Function (bare_function f)
bare_definition (definition.Job j) = definition.Job (bare_job j)
bare_definition (definition.Chain c) = definition.Chain (bare_chain c)

-- a library with each offset in it 0
abbrev pub bare_library : List Definition → List Definition
bare_library = map bare_definition
