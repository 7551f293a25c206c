-- What a library mentions: the names, the expressions and the statements in it, each list in the order of the file.
use Rattle.std.specs.Prelude.{ℕ, List, [], ◌∷◌, ◌++◌, map, flat_map, Option, Some, None}
use Rattle.wc_syntax.specs.declared.expression.Name.{Name}
use Rattle.wc_syntax.specs.declared.expression.Number.{Number}
use Rattle.wc_syntax.specs.declared.expression.ChildPart.{ChildPart}
use Rattle.wc_syntax.specs.declared.expression.ChildPart.TheVariants as part
use Rattle.wc_syntax.specs.declared.expression.Expr.{Expr, Expr-F, fold-Expr}
use Rattle.wc_syntax.specs.declared.expression.Form.TheOpen.{Form-F}
use Rattle.wc_syntax.specs.declared.definition.Exit.{Exit}
use Rattle.wc_syntax.specs.declared.definition.Rule.{Rule}
use Rattle.wc_syntax.specs.declared.definition.Rule.TheVariants as rule
use Rattle.wc_syntax.specs.declared.outline.Stmt.{Stmt}
use Rattle.wc_syntax.specs.declared.outline.Stmt.TheVariants as stmt
use Rattle.wc_syntax.specs.declared.outline.Step.{Step}
use Rattle.wc_syntax.specs.declared.outline.Block.{Block, Block-F, fold-Block}
use Rattle.wc_syntax.specs.declared.outline.Arm.{Arm-F}
use Rattle.wc_syntax.specs.declared.outline.Instr.TheOpen.{Instr-F}

-- ---- in an expression

-- a name in an expression, and how it stands there
pub data Mention : Type 0 where
  -- a bare name
  Bare : Name → Mention
  -- `given(NAME)`
  Given : Name → Mention
  -- `inputs.NAME`, with the offset of the word; also within `given`
  Input : ℕ → Name → Mention
  -- `ctx.NAME`, with the offset of the word; also within `count`
  Context : ℕ → Name → Mention
  -- `.outputs.NAME`
  Label : Name → Mention

-- the names that are mentioned in what is asked of a child
abbrev pub part_mentions : ChildPart → List Mention
part_mentions (part.Outputs n) = Label n ∷ []
part_mentions part.Status = []
part_mentions part.Ok = []

-- what is there, or an empty list
abbrev pub or_none : {A : Type 0} → Option (List A) → List A
or_none None = []
or_none (Some xs) = xs

-- one level, with the mentions of what is inside
abbrev pub form_mentions : Form-F (List Mention) (List Mention) → List Mention
form_mentions (Form-F.Number n) = []
form_mentions (Form-F.Quoted q) = []
form_mentions (Form-F.Truth b) = []
form_mentions (Form-F.Bare n) = Bare n ∷ []
form_mentions (Form-F.Input at n) = Input at n ∷ []
form_mentions (Form-F.Plain at n) = Context at n ∷ []
form_mentions (Form-F.Child at n i p) = (Context at n ∷ or_none i) ++ part_mentions p
form_mentions (Form-F.Unary o a) = a
form_mentions (Form-F.Binary o a b) = a ++ b
form_mentions (Form-F.One o a) = a
form_mentions (Form-F.Two o a b) = a ++ b
form_mentions (Form-F.GivenBare n) = Given n ∷ []
form_mentions (Form-F.GivenInput at n) = Input at n ∷ []
form_mentions (Form-F.Count at n) = Context at n ∷ []
form_mentions (Form-F.List es) = flat_map (λ ms. ms) es

-- the mentions of an expression are those of its form
abbrev pub its_mentions : Expr-F (List Mention) (List Mention) → List Mention
its_mentions e = e.form

-- the names in an expression, from left to right
abbrev pub mentions : Expr → List Mention
mentions = fold-Expr (List Mention) (List Mention) form_mentions its_mentions

-- the name of a mention
abbrev pub mentioned : Mention → Name
mentioned (Bare n) = n
mentioned (Given n) = n
mentioned (Input at n) = n
mentioned (Context at n) = n
mentioned (Label n) = n

-- the names that are mentioned in a condition
abbrev pub condition_mentions : Option Expr → List Mention
condition_mentions None = []
condition_mentions (Some e) = mentions e

-- the names that are mentioned in an exit
abbrev pub exit_mentions : Exit → List Mention
exit_mentions x = condition_mentions x.condition

-- ---- in a statement

-- the names that are mentioned in a statement of a step
abbrev pub stmt_mentions : Stmt → List Mention
stmt_mentions (stmt.Ctx at n e) = mentions e
stmt_mentions (stmt.Out at n e) = mentions e
stmt_mentions (stmt.Exit x) = exit_mentions x
stmt_mentions (stmt.Call c) = flat_map (λ a. mentions a.value) c.args

-- the names that are mentioned in a rule
abbrev pub rule_mentions : Rule → List Mention
rule_mentions (rule.Let at n e) = mentions e
rule_mentions (rule.Out at n e) = mentions e
rule_mentions (rule.Exit x) = exit_mentions x

-- ---- in an outline

-- A thing in an outline that is a part of an instruction, or the instruction's own place.
pub data Piece : Type 0 where
  -- an instruction begins here
  Begins : ℕ → Piece
  -- the name of a step
  Named : Name → Piece
  -- a statement of a step
  Does : Stmt → Piece
  -- the condition of an `if`, an `elif` or a `while`
  Tests : Expr → Piece
  -- the number behind `return`
  Returns : Number → Piece

-- the pieces of a step: its beginning, its name, its statements
abbrev pub step_pieces : Step → List Piece
step_pieces s = Begins s.at ∷ Named s.name ∷ map Does s.stmts

-- the piece of the status of a `return`, if there is one
abbrev pub returned_pieces : Option Number → List Piece
returned_pieces None = []
returned_pieces (Some n) = Returns n ∷ []

-- one level, with the pieces of what is inside
abbrev pub instr_pieces : Instr-F (List Piece) (List Piece) (List Piece) → List Piece
instr_pieces (Instr-F.Step s) = step_pieces s
instr_pieces (Instr-F.If at arms other) = Begins at ∷ (flat_map (λ ps. ps) arms ++ or_none other)
instr_pieces (Instr-F.While at e b) = Begins at ∷ Tests e ∷ b
instr_pieces (Instr-F.Return at n) = Begins at ∷ returned_pieces n

-- the pieces of an arm: its condition and those of its block
abbrev pub arm_pieces : Arm-F (List Piece) (List Piece) (List Piece) → List Piece
arm_pieces a = Tests a.condition ∷ a.block

-- the pieces of a block, one instruction after another
abbrev pub block_pieces : Block-F (List Piece) (List Piece) (List Piece) → List Piece
block_pieces b = flat_map (λ ps. ps) b.instrs

-- the pieces of an outline, in the order of the file
abbrev pub pieces : Block → List Piece
pieces = fold-Block (List Piece) (List Piece) (List Piece) instr_pieces arm_pieces block_pieces
