-- The tokens of a library's printed text, without their offsets.
use Rattle.std.specs.Prelude.{Bool, true, false, if◌then◌else◌, List, [], ◌∷◌, ◌++◌, flat_map, Option, Some, None}
use Rattle.wc_value.specs.declared.value.Kind.{Kind}
use Rattle.wc_value.specs.declared.value.Kind.TheVariants as kind
use Rattle.wc_lexer.specs.declared.token.Token.{Token}
use Rattle.wc_lexer.specs.declared.token.Token.TheVariants as token
use Rattle.wc_lexer.specs.declared.token.Word.{Word}
use Rattle.wc_lexer.specs.declared.token.Word.TheVariants as word
use Rattle.wc_lexer.specs.declared.token.Symbol.{Symbol}
use Rattle.wc_lexer.specs.declared.token.Symbol.TheVariants as symbol
use Rattle.wc_syntax.specs.declared.expression.Name.{Name}
use Rattle.wc_syntax.specs.declared.expression.Quoted.{Quoted}
use Rattle.wc_syntax.specs.declared.expression.Number.{Number}
use Rattle.wc_syntax.specs.declared.expression.ChildPart.{ChildPart}
use Rattle.wc_syntax.specs.declared.expression.ChildPart.TheVariants as part
use Rattle.wc_syntax.specs.declared.expression.UnaryOp.{UnaryOp}
use Rattle.wc_syntax.specs.declared.expression.UnaryOp.TheVariants as unary
use Rattle.wc_syntax.specs.declared.expression.BinaryOp.{BinaryOp}
use Rattle.wc_syntax.specs.declared.expression.BinaryOp.TheVariants as binary
use Rattle.wc_syntax.specs.declared.expression.OneOf.{OneOf}
use Rattle.wc_syntax.specs.declared.expression.OneOf.TheVariants as one
use Rattle.wc_syntax.specs.declared.expression.TwoOf.{TwoOf}
use Rattle.wc_syntax.specs.declared.expression.TwoOf.TheVariants as two
use Rattle.wc_syntax.specs.declared.expression.Expr.{Expr, Expr-F, fold-Expr}
use Rattle.wc_syntax.specs.declared.expression.Form.{Form, fold-Form}
use Rattle.wc_syntax.specs.declared.expression.Form.TheOpen.{Form-F}
use Rattle.wc_syntax.specs.declared.definition.Definition.{Definition}
use Rattle.wc_syntax.specs.declared.definition.Definition.TheVariants as definition
use Rattle.wc_syntax.specs.declared.definition.Head.{Head}
use Rattle.wc_syntax.specs.declared.definition.Job.{Job}
use Rattle.wc_syntax.specs.declared.definition.Port.{Port}
use Rattle.wc_syntax.specs.declared.definition.ExitCode.{ExitCode}
use Rattle.wc_syntax.specs.declared.definition.JobLine.{JobLine}
use Rattle.wc_syntax.specs.declared.definition.JobFile.{JobFile}
use Rattle.wc_syntax.specs.declared.definition.Fetch.{Fetch}
use Rattle.wc_syntax.specs.declared.definition.Exit.{Exit}
use Rattle.wc_syntax.specs.declared.definition.Rule.{Rule}
use Rattle.wc_syntax.specs.declared.definition.Rule.TheVariants as rule
use Rattle.wc_syntax.specs.declared.outline.CallArg.{CallArg}
use Rattle.wc_syntax.specs.declared.outline.CallStmt.{CallStmt}
use Rattle.wc_syntax.specs.declared.outline.Stmt.{Stmt}
use Rattle.wc_syntax.specs.declared.outline.Stmt.TheVariants as stmt
use Rattle.wc_syntax.specs.declared.outline.Step.{Step}
use Rattle.wc_syntax.specs.declared.outline.Block.{Block, Block-F, fold-Block}
use Rattle.wc_syntax.specs.declared.outline.Arm.{Arm, Arm-F, fold-Arm}
use Rattle.wc_syntax.specs.declared.outline.Instr.{Instr, fold-Instr}
use Rattle.wc_syntax.specs.declared.outline.Instr.TheOpen.{Instr-F}

-- tokens without their places
abbrev pub Tokens : Type 0
Tokens = List Token

-- ---- one token

-- the token of a sign
abbrev pub sign : Symbol → Tokens
sign s = token.Symbol s ∷ []

-- the token of a word of the language
abbrev pub reserved : Word → Tokens
reserved w = token.Word w ∷ []

-- the token of a name
abbrev pub name : Name → Tokens
name n = token.Name n.text ∷ []

-- the token of a number
abbrev pub number : Number → Tokens
number n = token.Number n.value ∷ []

-- the token of a text in quotes
abbrev pub text : Quoted → Tokens
text q = token.Quoted q.text ∷ []

-- each behind a comma, but for one that is the first
abbrev pub separated : {A : Type 0} → Bool → (A → Tokens) → List A → Tokens
separated first f [] = []
separated first f (x ∷ xs) = (if first then [] else sign symbol.Comma) ++ (f x ++ separated false f xs)

-- the tokens of some, with a comma between them
abbrev pub items : {A : Type 0} → (A → Tokens) → List A → Tokens
items f xs = separated true f xs

-- ---- expressions

-- the token of an operator of one operand
abbrev pub unary_sign : UnaryOp → Tokens
unary_sign unary.Negate = sign symbol.Minus
unary_sign unary.Not = reserved word.Not

-- the token of an operator of two operands
abbrev pub binary_sign : BinaryOp → Tokens
binary_sign binary.Or = reserved word.Or
binary_sign binary.And = reserved word.And
binary_sign binary.Equal = sign symbol.Equal
binary_sign binary.Differs = sign symbol.Differs
binary_sign binary.Less = sign symbol.Less
binary_sign binary.AtMost = sign symbol.AtMost
binary_sign binary.Greater = sign symbol.Greater
binary_sign binary.AtLeast = sign symbol.AtLeast
binary_sign binary.Add = sign symbol.Plus
binary_sign binary.Subtract = sign symbol.Minus
binary_sign binary.Multiply = sign symbol.Star
binary_sign binary.Divide = sign symbol.Slash
binary_sign binary.Remainder = sign symbol.Percent

-- the token of a word of one operand
abbrev pub one_word : OneOf → Tokens
one_word one.Text = reserved word.Text
one_word one.Int = reserved word.Int
one_word one.Trim = reserved word.Trim
one_word one.Len = reserved word.Len

-- the token of a word of two operands
abbrev pub two_word : TwoOf → Tokens
two_word two.Get = reserved word.Get
two_word two.Has = reserved word.Has
two_word two.File = reserved word.File
two_word two.Line = reserved word.Line
two_word two.Contains = reserved word.Contains
two_word two.Min = reserved word.Min
two_word two.Max = reserved word.Max

-- the token of a truth value
abbrev pub truth_word : Bool → Tokens
truth_word b = if b then reserved word.True else reserved word.False

-- tokens in round brackets
abbrev pub in_brackets : Tokens → Tokens
in_brackets ts = sign symbol.Open ++ ts ++ sign symbol.Close

-- the tokens of an input that is mentioned
abbrev pub input : Name → Tokens
input n = reserved word.Inputs ++ sign symbol.Dot ++ name n

-- the tokens of a key of the context that is mentioned
abbrev pub context : Name → Tokens
context n = reserved word.Ctx ++ sign symbol.Dot ++ name n

-- the tokens of an index, where there is one
abbrev pub index : Option Tokens → Tokens
index None = []
index (Some e) = sign symbol.OpenSquare ++ e ++ sign symbol.CloseSquare

-- the tokens of what is asked of a child
abbrev pub child_part : ChildPart → Tokens
child_part (part.Outputs n) = sign symbol.Dot ++ reserved word.Outputs ++ sign symbol.Dot ++ name n
child_part part.Status = sign symbol.Dot ++ reserved word.Status
child_part part.Ok = sign symbol.Dot ++ reserved word.Ok

-- one level, with the tokens of what is inside
abbrev pub form_tokens : Form-F Tokens Tokens → Tokens
form_tokens (Form-F.Number n) = number n
form_tokens (Form-F.Quoted q) = text q
form_tokens (Form-F.Truth b) = truth_word b
form_tokens (Form-F.Bare n) = name n
form_tokens (Form-F.Input at n) = input n
form_tokens (Form-F.Plain at n) = context n
form_tokens (Form-F.Child at n i p) = context n ++ index i ++ child_part p
form_tokens (Form-F.Unary o a) = in_brackets (unary_sign o ++ a)
form_tokens (Form-F.Binary o a b) = in_brackets (a ++ binary_sign o ++ b)
form_tokens (Form-F.One o a) = one_word o ++ in_brackets a
form_tokens (Form-F.Two o a b) = two_word o ++ in_brackets (a ++ sign symbol.Comma ++ b)
form_tokens (Form-F.GivenBare n) = reserved word.Given ++ in_brackets (name n)
form_tokens (Form-F.GivenInput at n) = reserved word.Given ++ in_brackets (input n)
form_tokens (Form-F.Count at n) = reserved word.Count ++ in_brackets (context n)
form_tokens (Form-F.List es) = sign symbol.OpenSquare ++ items (λ t. t) es ++ sign symbol.CloseSquare

-- the tokens of an expression are those of its form
abbrev pub its_tokens : Expr-F Tokens Tokens → Tokens
its_tokens e = e.form

-- the tokens of the printed text of an expression
abbrev pub expr_tokens : Expr → Tokens
expr_tokens = fold-Expr Tokens Tokens form_tokens its_tokens

-- the tokens of a form's printed text
abbrev pub tokens_of_form : Form → Tokens
tokens_of_form = fold-Form Tokens Tokens form_tokens its_tokens

-- ---- rules and statements

-- `NAME = expr;` behind what stands before it
abbrev pub set_tokens : Tokens → Expr → Tokens
set_tokens target e = target ++ sign symbol.Is ++ expr_tokens e ++ sign symbol.Semi

-- the tokens of the printed text of a condition, where there is one
abbrev pub condition_tokens : Option Expr → Tokens
condition_tokens None = []
condition_tokens (Some e) = reserved word.If ++ expr_tokens e

-- the tokens of the printed text of an exit
abbrev pub exit_tokens : Exit → Tokens
exit_tokens x = reserved word.Exit ++ number x.status ++ condition_tokens x.condition ++ sign symbol.Semi

-- the tokens of the printed text of a rule
abbrev pub rule_tokens : Rule → Tokens
rule_tokens (rule.Let at n e) = set_tokens (reserved word.Let ++ name n) e
rule_tokens (rule.Out at n e) = set_tokens (reserved word.Out ++ name n) e
rule_tokens (rule.Exit x) = exit_tokens x

-- the tokens of the printed text of an argument
abbrev pub arg_tokens : CallArg → Tokens
arg_tokens a = name a.port ++ sign symbol.Colon ++ expr_tokens a.value

-- the token of `append` or of `to`
abbrev pub way_word : Bool → Tokens
way_word append = if append then reserved word.Append else reserved word.To

-- the tokens of the printed text of a call
abbrev pub call_tokens : CallStmt → Tokens
call_tokens c = reserved word.Call ++ name c.callee ++ in_brackets (items arg_tokens c.args) ++ way_word c.append ++ context c.key ++ sign symbol.Semi

-- the tokens of the printed text of a statement
abbrev pub stmt_tokens : Stmt → Tokens
stmt_tokens (stmt.Ctx at n e) = set_tokens (context n) e
stmt_tokens (stmt.Out at n e) = set_tokens (reserved word.Out ++ name n) e
stmt_tokens (stmt.Exit x) = exit_tokens x
stmt_tokens (stmt.Call c) = call_tokens c

-- ---- heads

-- the token of a kind
abbrev pub kind_word : Kind → Tokens
kind_word kind.Int = reserved word.Int
kind_word kind.Bool = reserved word.Bool
kind_word kind.Text = reserved word.Text
kind_word kind.List = reserved word.List
kind_word kind.Dict = reserved word.Dict
kind_word kind.Folder = reserved word.Folder

-- the tokens of the printed text of a port
abbrev pub port_tokens : Port → Tokens
port_tokens p = name p.name ++ (if p.optional then sign symbol.Question else []) ++ sign symbol.Colon ++ kind_word p.kind

-- the tokens of the printed text of ports
abbrev pub ports_tokens : List Port → Tokens
ports_tokens ports = in_brackets (items port_tokens ports)

-- the tokens of the printed text of a declared exit code
abbrev pub code_tokens : ExitCode → Tokens
code_tokens c =
    reserved word.ExitCode ++ number c.status ++ text c.message
    ++ (if c.invalidates then reserved word.Invalidates else []) ++ sign symbol.Semi

-- the tokens of the printed text of the head of a definition
abbrev pub head_tokens : Word → Head → Tokens
head_tokens w h =
    reserved w ++ name h.name ++ ports_tokens h.inputs ++ sign symbol.Arrow ++ ports_tokens h.outputs ++ sign symbol.OpenBrace
    ++ flat_map code_tokens h.codes

-- ---- the outline of a work chain

-- tokens in braces
abbrev pub in_braces : Tokens → Tokens
in_braces ts = sign symbol.OpenBrace ++ ts ++ sign symbol.CloseBrace

-- the tokens of the printed text of a step
abbrev pub step_tokens : Step → Tokens
step_tokens s = reserved word.Step ++ name s.name ++ in_braces (flat_map stmt_tokens s.stmts)

-- an `if` that is the first, and an `elif` else, with its condition and its block
abbrev pub branches_tokens : Bool → List Tokens → Tokens
branches_tokens first [] = []
branches_tokens first (b ∷ bs) = (if first then reserved word.If else reserved word.Elif) ++ b ++ branches_tokens false bs

-- the tokens of an `else`, where there is one
abbrev pub else_tokens : Option Tokens → Tokens
else_tokens None = []
else_tokens (Some b) = reserved word.Else ++ in_braces b

-- the token of the status of a `return`, where there is one
abbrev pub returned_tokens : Option Number → Tokens
returned_tokens None = []
returned_tokens (Some n) = number n

-- one level, with the tokens of what is inside
abbrev pub instr_level_tokens : Instr-F Tokens Tokens Tokens → Tokens
instr_level_tokens (Instr-F.Step s) = step_tokens s
instr_level_tokens (Instr-F.If at arms other) = branches_tokens true arms ++ else_tokens other
instr_level_tokens (Instr-F.While at e b) = reserved word.While ++ expr_tokens e ++ in_braces b
instr_level_tokens (Instr-F.Return at n) = reserved word.Return ++ returned_tokens n ++ sign symbol.Semi

-- the tokens of an arm, from those of its block
abbrev pub arm_level_tokens : Arm-F Tokens Tokens Tokens → Tokens
arm_level_tokens a = expr_tokens a.condition ++ in_braces a.block

-- the tokens of a block, from those of its instructions
abbrev pub block_level_tokens : Block-F Tokens Tokens Tokens → Tokens
block_level_tokens b = flat_map (λ ts. ts) b.instrs

-- the tokens of the printed text of an instruction
abbrev pub instr_tokens : Instr → Tokens
instr_tokens = fold-Instr Tokens Tokens Tokens instr_level_tokens arm_level_tokens block_level_tokens

-- the tokens of the printed text of an arm
abbrev pub arm_tokens : Arm → Tokens
arm_tokens = fold-Arm Tokens Tokens Tokens instr_level_tokens arm_level_tokens block_level_tokens

-- what stands in a block, without its braces
abbrev pub block_tokens : Block → Tokens
block_tokens = fold-Block Tokens Tokens Tokens instr_level_tokens arm_level_tokens block_level_tokens

-- ---- definitions

-- the tokens of the printed text of a line of a job
abbrev pub line_tokens : Word → JobLine → Tokens
line_tokens w l = reserved w ++ expr_tokens l.value ++ sign symbol.Semi

-- the tokens of the printed text of a file of a job
abbrev pub file_tokens : JobFile → Tokens
file_tokens f = set_tokens (reserved word.File ++ text f.name) f.value

-- the tokens of the printed text of a name that is fetched
abbrev pub fetch_tokens : Fetch → Tokens
fetch_tokens f = reserved word.Fetch ++ text f.name ++ sign symbol.Semi

-- the tokens of the printed text of a job
abbrev pub job_tokens : Job → Tokens
job_tokens j =
    line_tokens word.Program j.program ++ flat_map (line_tokens word.Arg) j.args ++ flat_map file_tokens j.files
    ++ flat_map fetch_tokens j.fetch ++ reserved word.Parse ++ in_braces (flat_map rule_tokens j.parse)

-- the tokens of the printed text of a definition
abbrev pub definition_tokens : Definition → Tokens
definition_tokens (definition.Function f) = head_tokens word.Calcfunction f.head ++ flat_map rule_tokens f.rules ++ sign symbol.CloseBrace
definition_tokens (definition.Job j) = head_tokens word.Calcjob j.head ++ job_tokens j ++ sign symbol.CloseBrace
definition_tokens (definition.Chain c) = head_tokens word.Workchain c.head ++ block_tokens c.outline ++ sign symbol.CloseBrace

-- The tokens of a library's printed text, without their offsets
abbrev pub printed_tokens : List Definition → Tokens
printed_tokens = flat_map definition_tokens
