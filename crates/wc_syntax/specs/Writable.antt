-- What a file can say: libraries that have a printed text which reads back.
use Rattle.std.specs.Prelude.{ℕ, ◌≤◌, ◌≡◌, pos, int_le, int_lt, ◌^◌, Bool, true, false, ◌&&◌, List, [], ◌∷◌, length, Option, Some, None, Ok}
use Rattle.std.specs.List.{list_all}
use Rattle.wc_lexer.specs.declared.token.Token.{Token}
use Rattle.wc_lexer.specs.declared.token.Word.{Word}
use Rattle.wc_lexer.specs.Spellings.{word_of}
use Rattle.wc_lexer.specs.Cuts.{is_letters}
use Rattle.wc_lexer.specs.Tokens.{tokens_of}
use Rattle.wc_lexer.specs.Bounds.{StaysWithin}
use Rattle.wc_syntax.specs.declared.expression.Name.{Name}
use Rattle.wc_syntax.specs.declared.expression.Number.{Number}
use Rattle.wc_syntax.specs.declared.expression.ChildPart.{ChildPart}
use Rattle.wc_syntax.specs.declared.expression.ChildPart.TheVariants as part
use Rattle.wc_syntax.specs.declared.expression.Expr.{Expr, Expr-F, fold-Expr}
use Rattle.wc_syntax.specs.declared.expression.Form.TheOpen.{Form-F}
use Rattle.wc_syntax.specs.declared.definition.Definition.{Definition}
use Rattle.wc_syntax.specs.declared.definition.Definition.TheVariants as definition
use Rattle.wc_syntax.specs.declared.definition.Head.{Head}
use Rattle.wc_syntax.specs.declared.definition.Job.{Job}
use Rattle.wc_syntax.specs.declared.definition.Exit.{Exit}
use Rattle.wc_syntax.specs.declared.definition.Rule.{Rule}
use Rattle.wc_syntax.specs.declared.definition.Rule.TheVariants as rule
use Rattle.wc_syntax.specs.declared.outline.CallArg.{CallArg}
use Rattle.wc_syntax.specs.declared.outline.CallStmt.{CallStmt}
use Rattle.wc_syntax.specs.declared.outline.Stmt.{Stmt}
use Rattle.wc_syntax.specs.declared.outline.Stmt.TheVariants as stmt
use Rattle.wc_syntax.specs.declared.outline.Step.{Step}
use Rattle.wc_syntax.specs.declared.outline.Block.{Block, Block-F, fold-Block}
use Rattle.wc_syntax.specs.declared.outline.Arm.{Arm-F}
use Rattle.wc_syntax.specs.declared.outline.Instr.TheOpen.{Instr-F}
use Rattle.wc_syntax.specs.Printing.{printed}

-- ---- names, numbers and arms

-- whether a name is no word of the language
abbrev pub is_free : Option Word → Bool
is_free None = true
is_free (Some w) = false

-- a letter or `_`, then letters, digits and `_`, and no reserved word
abbrev pub is_name : Name → Bool
is_name n = is_letters n.text && is_free (word_of n.text)

-- from 0 to 9223372036854775807
abbrev pub is_number : Number → Bool
is_number n = int_le (pos 0) n.value && int_lt n.value (pos (2 ^ 63))

-- what holds of something that may not be there
abbrev pub if_any : Option Bool → Bool
if_any None = true
if_any (Some b) = b

-- whether a file can say what is asked of a child
abbrev pub is_part : ChildPart → Bool
is_part (part.Outputs n) = is_name n
is_part part.Status = true
is_part part.Ok = true

-- one level, with what is said of what is inside
abbrev pub is_form : Form-F Bool Bool → Bool
is_form (Form-F.Number n) = is_number n
is_form (Form-F.Quoted q) = true
is_form (Form-F.Truth b) = true
is_form (Form-F.Bare n) = is_name n
is_form (Form-F.Input at n) = is_name n
is_form (Form-F.Plain at n) = is_name n
is_form (Form-F.Child at n i p) = is_name n && (if_any i && is_part p)
is_form (Form-F.Unary o a) = a
is_form (Form-F.Binary o a b) = a && b
is_form (Form-F.One o a) = a
is_form (Form-F.Two o a b) = a && b
is_form (Form-F.GivenBare n) = is_name n
is_form (Form-F.GivenInput at n) = is_name n
is_form (Form-F.Count at n) = is_name n
is_form (Form-F.List es) = list_all (λ e. e) es

-- an expression can be said where its form can
abbrev pub its_form : Expr-F Bool Bool → Bool
its_form e = e.form

-- the names in an expression are names, and the numbers are a file's
abbrev pub is_expr : Expr → Bool
is_expr = fold-Expr Bool Bool is_form its_form

-- whether a file can say a condition
abbrev pub is_condition : Option Expr → Bool
is_condition None = true
is_condition (Some e) = is_expr e

-- whether a file can say an exit
abbrev pub is_exit : Exit → Bool
is_exit x = is_number x.status && is_condition x.condition

-- whether a file can say a rule
abbrev pub is_rule : Rule → Bool
is_rule (rule.Let at n e) = is_name n && is_expr e
is_rule (rule.Out at n e) = is_name n && is_expr e
is_rule (rule.Exit x) = is_exit x

-- whether a file can say an argument
abbrev pub is_arg : CallArg → Bool
is_arg a = is_name a.port && is_expr a.value

-- whether a file can say a call
abbrev pub is_call : CallStmt → Bool
is_call c = is_name c.callee && (list_all is_arg c.args && is_name c.key)

-- whether a file can say a statement of a step
abbrev pub is_stmt : Stmt → Bool
is_stmt (stmt.Ctx at n e) = is_name n && is_expr e
is_stmt (stmt.Out at n e) = is_name n && is_expr e
is_stmt (stmt.Exit x) = is_exit x
is_stmt (stmt.Call c) = is_call c

-- whether a file can say a step
abbrev pub is_step : Step → Bool
is_step s = is_name s.name && list_all is_stmt s.stmts

-- whether a file can say the status of a `return`, where there is one
abbrev pub is_returned : Option Number → Bool
is_returned None = true
is_returned (Some n) = is_number n

-- an `if` has a first arm, and each is as it must be
abbrev pub are_arms : List Bool → Bool
are_arms [] = false
are_arms (a ∷ rest) = a && list_all (λ b. b) rest

-- one level, with what is said of what is inside
abbrev pub is_instr : Instr-F Bool Bool Bool → Bool
is_instr (Instr-F.Step s) = is_step s
is_instr (Instr-F.If at arms other) = are_arms arms && if_any other
is_instr (Instr-F.While at e b) = is_expr e && b
is_instr (Instr-F.Return at n) = is_returned n

-- whether a file can say an arm of an `if`
abbrev pub is_arm : Arm-F Bool Bool Bool → Bool
is_arm a = is_expr a.condition && a.block

-- whether a file can say a block, by what is inside it
abbrev pub is_level : Block-F Bool Bool Bool → Bool
is_level b = list_all (λ i. i) b.instrs

-- whether a file can say a block
abbrev pub is_block : Block → Bool
is_block = fold-Block Bool Bool Bool is_instr is_arm is_level

-- whether a file can say the head of a definition
abbrev pub is_head : Head → Bool
is_head h =
    is_name h.name && (list_all (λ p. is_name p.name) h.inputs
    && (list_all (λ p. is_name p.name) h.outputs && list_all (λ c. is_number c.status) h.codes))

-- whether a file can say the body of a job
abbrev pub is_body : Job → Bool
is_body j =
    is_expr j.program.value && (list_all (λ l. is_expr l.value) j.args
    && (list_all (λ f. is_expr f.value) j.files && list_all is_rule j.parse))

-- whether a file can say a definition
abbrev pub is_definition : Definition → Bool
is_definition (definition.Function f) = is_head f.head && list_all is_rule f.rules
is_definition (definition.Job j) = is_head j.head && is_body j
is_definition (definition.Chain c) = is_head c.head && is_block c.outline

-- Each name is a name and no reserved word, each number is one that a file can have, and each `if` has an arm.
abbrev pub is_sayable : List Definition → Bool
is_sayable library = list_all is_definition library

-- the bytes have tokens, which stay within the bounds on nesting and weight
abbrev pub HasFlatTokens : List ℕ → Type 0
HasFlatTokens bytes = (ts : List (Token × ℕ)) × (tokens_of bytes ≡ Ok ts) × StaysWithin ts

-- A file can say the library: its printed text stays within the bounds on nesting and weight, and has at most 1,048,576 bytes.
pub record IsWritable (library : List Definition) : Type 0 where
  pub sayable : is_sayable library ≡ true
  pub flat : HasFlatTokens (printed library)
  pub short : length (printed library) ≤ 1048576
