-- The printed text of a library: each item on a line of its own, indented by two spaces an open brace.
use Rattle.std.specs.Prelude.{ℕ, ◌==◌, Bool, true, false, if◌then◌else◌, List, [], ◌∷◌, ◌++◌, flat_map, codes, Option, Some, None}
use Rattle.std.specs.Fmt.{signed_decimal}
use Rattle.wc_lexer.specs.Kind.{Kind}
use Rattle.wc_lexer.specs.Kind.TheVariants as kind
use Rattle.wc_syntax.specs.declared.expression.Name.{Name}
use Rattle.wc_syntax.specs.declared.expression.Quoted.{Quoted}
use Rattle.wc_syntax.specs.declared.expression.Number.{Number}
use Rattle.wc_syntax.specs.declared.expression.ChildPart.{ChildPart}
use Rattle.wc_syntax.specs.declared.expression.ChildPart.TheVariants as part
use Rattle.wc_syntax.specs.declared.expression.UnaryOp.{UnaryOp}
use Rattle.wc_syntax.specs.declared.expression.UnaryOp.TheVariants as unary
use Rattle.wc_syntax.specs.declared.expression.BinaryOp.{BinaryOp}
use Rattle.wc_syntax.specs.declared.expression.BinaryOp.TheVariants as binary
use Rattle.wc_syntax.specs.declared.expression.OneOf.{OneOf}
use Rattle.wc_syntax.specs.declared.expression.OneOf.TheVariants as one
use Rattle.wc_syntax.specs.declared.expression.TwoOf.{TwoOf}
use Rattle.wc_syntax.specs.declared.expression.TwoOf.TheVariants as two
use Rattle.wc_syntax.specs.declared.expression.Expr.{Expr, Expr-F, fold-Expr}
use Rattle.wc_syntax.specs.declared.expression.Form.{Form, fold-Form}
use Rattle.wc_syntax.specs.declared.expression.Form.TheOpen.{Form-F}
use Rattle.wc_syntax.specs.declared.definition.Definition.{Definition}
use Rattle.wc_syntax.specs.declared.definition.Definition.TheVariants as definition
use Rattle.wc_syntax.specs.declared.definition.Head.{Head}
use Rattle.wc_syntax.specs.declared.definition.Job.{Job}
use Rattle.wc_syntax.specs.declared.definition.Port.{Port}
use Rattle.wc_syntax.specs.declared.definition.ExitCode.{ExitCode}
use Rattle.wc_syntax.specs.declared.definition.JobLine.{JobLine}
use Rattle.wc_syntax.specs.declared.definition.JobFile.{JobFile}
use Rattle.wc_syntax.specs.declared.definition.Fetch.{Fetch}
use Rattle.wc_syntax.specs.declared.definition.Exit.{Exit}
use Rattle.wc_syntax.specs.declared.definition.Rule.{Rule}
use Rattle.wc_syntax.specs.declared.definition.Rule.TheVariants as rule
use Rattle.wc_syntax.specs.declared.outline.CallArg.{CallArg}
use Rattle.wc_syntax.specs.declared.outline.CallStmt.{CallStmt}
use Rattle.wc_syntax.specs.declared.outline.Stmt.{Stmt}
use Rattle.wc_syntax.specs.declared.outline.Stmt.TheVariants as stmt
use Rattle.wc_syntax.specs.declared.outline.Step.{Step}
use Rattle.wc_syntax.specs.declared.outline.Block.{Block, Block-F, fold-Block}
use Rattle.wc_syntax.specs.declared.outline.Arm.{Arm, Arm-F, fold-Arm}
use Rattle.wc_syntax.specs.declared.outline.Instr.{Instr, fold-Instr}
use Rattle.wc_syntax.specs.declared.outline.Instr.TheOpen.{Instr-F}

-- ---- texts, numbers and lists

-- a byte of a text between its quotes
abbrev pub escape : ℕ → List ℕ
escape b =
    if b == 92 then 92 ∷ 92 ∷ []
    else if b == 34 then 92 ∷ 34 ∷ []
    else if b == 10 then 92 ∷ 110 ∷ []
    else if b == 9 then 92 ∷ 116 ∷ []
    else b ∷ []

-- a text in quotes, with its signs escaped
abbrev pub quoted : List ℕ → List ℕ
quoted text = 34 ∷ (flat_map escape text ++ 34 ∷ [])

-- the printed text of a text in quotes
abbrev pub quoted_text : Quoted → List ℕ
quoted_text q = quoted q.text

-- the printed text of a number
abbrev pub number_text : Number → List ℕ
number_text n = signed_decimal n.value

-- each behind a comma and a space, but for one that is the first
abbrev pub separated : {A : Type 0} → Bool → (A → List ℕ) → List A → List ℕ
separated first text [] = []
separated first text (x ∷ xs) = (if first then [] else codes ", ") ++ (text x ++ separated false text xs)

-- one behind another, with a comma and a space between them
abbrev pub items : {A : Type 0} → (A → List ℕ) → List A → List ℕ
items text xs = separated true text xs

-- ---- expressions

-- the printed text of an operator of one operand
abbrev pub unary_text : UnaryOp → List ℕ
unary_text unary.Negate = codes "-"
unary_text unary.Not = codes "not "

-- the printed text of an operator of two operands
abbrev pub binary_text : BinaryOp → List ℕ
binary_text binary.Or = codes " or "
binary_text binary.And = codes " and "
binary_text binary.Equal = codes " == "
binary_text binary.Differs = codes " != "
binary_text binary.Less = codes " < "
binary_text binary.AtMost = codes " <= "
binary_text binary.Greater = codes " > "
binary_text binary.AtLeast = codes " >= "
binary_text binary.Add = codes " + "
binary_text binary.Subtract = codes " - "
binary_text binary.Multiply = codes " * "
binary_text binary.Divide = codes " / "
binary_text binary.Remainder = codes " % "

-- the printed text of a word of one operand
abbrev pub one_text : OneOf → List ℕ
one_text one.Text = codes "text"
one_text one.Int = codes "int"
one_text one.Trim = codes "trim"
one_text one.Len = codes "len"

-- the printed text of a word of two operands
abbrev pub two_text : TwoOf → List ℕ
two_text two.Get = codes "get"
two_text two.Has = codes "has"
two_text two.File = codes "file"
two_text two.Line = codes "line"
two_text two.Contains = codes "contains"
two_text two.Min = codes "min"
two_text two.Max = codes "max"

-- a text in round brackets
abbrev pub in_brackets : List ℕ → List ℕ
in_brackets text = codes "(" ++ text ++ codes ")"

-- the printed text of an input that is mentioned
abbrev pub input_text : Name → List ℕ
input_text n = codes "inputs." ++ n.text

-- the printed text of a key of the context that is mentioned
abbrev pub context_text : Name → List ℕ
context_text n = codes "ctx." ++ n.text

-- the printed text of an index in square brackets, where there is one
abbrev pub index_text : Option (List ℕ) → List ℕ
index_text None = []
index_text (Some e) = codes "[" ++ e ++ codes "]"

-- the printed text of what is asked of a child
abbrev pub part_text : ChildPart → List ℕ
part_text (part.Outputs n) = codes ".outputs." ++ n.text
part_text part.Status = codes ".status"
part_text part.Ok = codes ".ok"

-- one level, with the texts of what is inside
abbrev pub form_text : Form-F (List ℕ) (List ℕ) → List ℕ
form_text (Form-F.Number n) = number_text n
form_text (Form-F.Quoted q) = quoted_text q
form_text (Form-F.Truth b) = if b then codes "true" else codes "false"
form_text (Form-F.Bare n) = n.text
form_text (Form-F.Input at n) = input_text n
form_text (Form-F.Plain at n) = context_text n
form_text (Form-F.Child at n i p) = context_text n ++ index_text i ++ part_text p
form_text (Form-F.Unary o a) = in_brackets (unary_text o ++ a)
form_text (Form-F.Binary o a b) = in_brackets (a ++ binary_text o ++ b)
form_text (Form-F.One o a) = one_text o ++ in_brackets a
form_text (Form-F.Two o a b) = two_text o ++ in_brackets (a ++ codes ", " ++ b)
form_text (Form-F.GivenBare n) = codes "given" ++ in_brackets n.text
form_text (Form-F.GivenInput at n) = codes "given" ++ in_brackets (input_text n)
form_text (Form-F.Count at n) = codes "count" ++ in_brackets (context_text n)
form_text (Form-F.List es) = codes "[" ++ items (λ t. t) es ++ codes "]"

-- the text of an expression is that of its form
abbrev pub its_text : Expr-F (List ℕ) (List ℕ) → List ℕ
its_text e = e.form

-- The printed text of an expression
abbrev pub expr_text : Expr → List ℕ
expr_text = fold-Expr (List ℕ) (List ℕ) form_text its_text

-- the text of what an expression is made of
abbrev pub text_of : Form → List ℕ
text_of = fold-Form (List ℕ) (List ℕ) form_text its_text

-- ---- lines

-- the spaces before a line, with two more in a further brace
abbrev pub deeper : List ℕ → List ℕ
deeper margin = codes "  " ++ margin

-- in the braces of a definition
abbrev pub inside : List ℕ
inside = deeper []

-- a text behind a margin, with its end
abbrev pub line : List ℕ → List ℕ → List ℕ
line margin text = margin ++ text ++ 10 ∷ []

-- `NAME = expr;` behind what stands before it
abbrev pub set_text : List ℕ → Expr → List ℕ
set_text target e = target ++ codes " = " ++ expr_text e ++ codes ";"

-- the printed text of a condition behind its `if`, where there is one
abbrev pub condition_text : Option Expr → List ℕ
condition_text None = []
condition_text (Some e) = codes " if " ++ expr_text e

-- the printed text of an exit
abbrev pub exit_text : Exit → List ℕ
exit_text x = codes "exit " ++ number_text x.status ++ condition_text x.condition ++ codes ";"

-- the printed text of a rule
abbrev pub rule_text : Rule → List ℕ
rule_text (rule.Let at n e) = set_text (codes "let " ++ n.text) e
rule_text (rule.Out at n e) = set_text (codes "out " ++ n.text) e
rule_text (rule.Exit x) = exit_text x

-- the printed lines of rules
abbrev pub rule_lines : List ℕ → List Rule → List ℕ
rule_lines margin = flat_map (λ r. line margin (rule_text r))

-- ---- heads

-- the printed text of a kind
abbrev pub kind_text : Kind → List ℕ
kind_text kind.Int = codes "int"
kind_text kind.Bool = codes "bool"
kind_text kind.Text = codes "text"
kind_text kind.List = codes "list"
kind_text kind.Dict = codes "dict"
kind_text kind.Folder = codes "folder"

-- the printed text of a port
abbrev pub port_text : Port → List ℕ
port_text p = p.name.text ++ (if p.optional then codes "?" else []) ++ codes ": " ++ kind_text p.kind

-- the printed text of ports
abbrev pub ports_text : List Port → List ℕ
ports_text ports = in_brackets (items port_text ports)

-- the input ports, an arrow, and the output ports
abbrev pub signature_text : Head → List ℕ
signature_text h = ports_text h.inputs ++ codes " -> " ++ ports_text h.outputs

-- the printed text of the head of a definition
abbrev pub head_text : List ℕ → Head → List ℕ
head_text word h = word ++ h.name.text ++ signature_text h ++ codes " {"

-- the printed text of an exit code
abbrev pub code_text : ExitCode → List ℕ
code_text c =
    codes "exit_code " ++ number_text c.status ++ codes " " ++ quoted_text c.message
    ++ (if c.invalidates then codes " invalidates" else []) ++ codes ";"

-- the printed lines of exit codes
abbrev pub code_lines : List ExitCode → List ℕ
code_lines = flat_map (λ c. line inside (code_text c))

-- ---- the outline of a work chain

-- the printed text of an argument
abbrev pub arg_text : CallArg → List ℕ
arg_text a = a.port.text ++ codes ": " ++ expr_text a.value

-- the printed text of a call
abbrev pub call_text : CallStmt → List ℕ
call_text c =
    codes "call " ++ c.callee.text ++ in_brackets (items arg_text c.args)
    ++ (if c.append then codes " append " else codes " to ") ++ context_text c.key ++ codes ";"

-- the printed text of a statement of a step
abbrev pub stmt_text : Stmt → List ℕ
stmt_text (stmt.Ctx at n e) = set_text (context_text n) e
stmt_text (stmt.Out at n e) = set_text (codes "out " ++ n.text) e
stmt_text (stmt.Exit x) = exit_text x
stmt_text (stmt.Call c) = call_text c

-- the printed lines of statements of a step
abbrev pub stmt_lines : List ℕ → List Stmt → List ℕ
stmt_lines margin = flat_map (λ t. line margin (stmt_text t))

-- the printed lines of a step
abbrev pub step_lines : List ℕ → Step → List ℕ
step_lines margin s =
    line margin (codes "step " ++ s.name.text ++ codes " {")
    ++ stmt_lines (deeper margin) s.stmts
    ++ line margin (codes "}")

-- what stands in a block, by the spaces before its lines
abbrev pub Lines : Type 0
Lines = List ℕ → List ℕ

-- a condition, and what stands in its block
abbrev pub Branch : Type 0
Branch = List ℕ × Lines

-- the lines of an arm behind its word, its block one margin deeper
abbrev pub branch_lines : List ℕ → List ℕ → Branch → List ℕ
branch_lines word margin b = line margin (word ++ b.0 ++ codes " {") ++ b.1 (deeper margin)

-- `if` for the first arm, and else `} elif`
abbrev pub arm_word : Bool → List ℕ
arm_word first = if first then codes "if " else codes "} elif "

-- branches, of which one that is the first is the `if`, and the others are its `elif`s
abbrev pub branches_lines : Bool → List ℕ → List Branch → List ℕ
branches_lines first margin [] = []
branches_lines first margin (b ∷ bs) = branch_lines (arm_word first) margin b ++ branches_lines false margin bs

-- the lines of the arms of an `if`
abbrev pub if_lines : List ℕ → List Branch → List ℕ
if_lines = branches_lines true

-- the lines of an `else`, where there is one
abbrev pub else_lines : List ℕ → Option Lines → List ℕ
else_lines margin None = []
else_lines margin (Some b) = line margin (codes "} else {") ++ b (deeper margin)

-- the printed text of the status of a `return`, where there is one
abbrev pub returned_text : Option Number → List ℕ
returned_text None = []
returned_text (Some n) = codes " " ++ number_text n

-- one level, with the lines of what is inside
abbrev pub instr_level_lines : Instr-F Lines Branch Lines → Lines
instr_level_lines (Instr-F.Step s) margin = step_lines margin s
instr_level_lines (Instr-F.If at arms other) margin = if_lines margin arms ++ else_lines margin other ++ line margin (codes "}")
instr_level_lines (Instr-F.While at e b) margin = branch_lines (codes "while ") margin (expr_text e, b) ++ line margin (codes "}")
instr_level_lines (Instr-F.Return at n) margin = line margin (codes "return" ++ returned_text n ++ codes ";")

-- an arm's condition as text, with the lines of its block
abbrev pub arm_level_lines : Arm-F Lines Branch Lines → Branch
arm_level_lines a = (expr_text a.condition, a.block)

-- the lines of a block's instructions one after another
abbrev pub block_level_lines : Block-F Lines Branch Lines → Lines
block_level_lines b margin = flat_map (λ lines. lines margin) b.instrs

-- the lines of an instruction
abbrev pub instr_lines : Instr → Lines
instr_lines = fold-Instr Lines Branch Lines instr_level_lines arm_level_lines block_level_lines

-- a branch of an `if`
abbrev pub arm_branch : Arm → Branch
arm_branch = fold-Arm Lines Branch Lines instr_level_lines arm_level_lines block_level_lines

-- the lines in a block, without its braces
abbrev pub block_lines : Block → Lines
block_lines = fold-Block Lines Branch Lines instr_level_lines arm_level_lines block_level_lines

-- ---- definitions

-- the printed text of a file of a job
abbrev pub file_text : JobFile → List ℕ
file_text f = set_text (codes "file " ++ quoted_text f.name) f.value

-- the printed lines of a job's arguments
abbrev pub arg_lines : List JobLine → List ℕ
arg_lines = flat_map (λ l. line inside (codes "arg " ++ expr_text l.value ++ codes ";"))

-- the printed lines of a job's files
abbrev pub file_lines : List JobFile → List ℕ
file_lines = flat_map (λ f. line inside (file_text f))

-- the printed lines of the names that a job fetches
abbrev pub fetch_lines : List Fetch → List ℕ
fetch_lines = flat_map (λ f. line inside (codes "fetch " ++ quoted_text f.name ++ codes ";"))

-- the printed lines of a job
abbrev pub job_lines : Job → List ℕ
job_lines j =
    line inside (codes "program " ++ expr_text j.program.value ++ codes ";")
    ++ arg_lines j.args ++ file_lines j.files ++ fetch_lines j.fetch
    ++ line inside (codes "parse {") ++ rule_lines (deeper inside) j.parse ++ line inside (codes "}")

-- a head, and the lines of its exit codes
unfoldable pub start_lines : List ℕ → Head → List ℕ
start_lines word h = line [] (head_text word h) ++ code_lines h.codes

-- the lines in a definition's braces, and the closing one
abbrev pub closed : List ℕ → List ℕ
closed body = body ++ line [] (codes "}")

-- the printed lines of a definition
abbrev pub definition_lines : List ℕ → Head → List ℕ → List ℕ
definition_lines word h body = start_lines word h ++ closed body

-- The printed text of a definition
abbrev pub printed_definition : Definition → List ℕ
printed_definition (definition.Function f) = definition_lines (codes "calcfunction ") f.head (rule_lines inside f.rules)
printed_definition (definition.Job j) = definition_lines (codes "calcjob ") j.head (job_lines j)
printed_definition (definition.Chain c) = definition_lines (codes "workchain ") c.head (block_lines c.outline inside)

-- definitions follow each other with no empty line
abbrev pub printed : List Definition → List ℕ
printed = flat_map printed_definition
