-- What the laws say of runs.
use Rattle.std.specs.Prelude.{◌≡◌, ℕ, ◌+◌, ◌≤◌, false, All, List, [], Option, Some, None}
use Rattle.wc_value.specs.declared.process.JobResult.{JobResult}
use Rattle.wc_value.specs.declared.process.Request.{Request}
use Rattle.wc_value.specs.declared.process.Tree.{out-Tree}
use Rattle.wc_syntax.specs.declared.expression.Expr.{Expr}
use Rattle.wc_syntax.specs.declared.outline.Arm.{Arm, out-Arm}
use Rattle.wc_syntax.specs.declared.outline.Block.{Block}
use Rattle.wc_syntax.specs.declared.outline.Instr.{Instr}
use Rattle.wc_semantics.specs.Rules.{Values}
use Rattle.wc_semantics.specs.declared.progress.Answer.{Answer}
use Rattle.wc_semantics.specs.declared.progress.Answer.TheVariants.{Gave, TooLittle, Without, Astray}
use Rattle.wc_semantics.specs.Tables.{Label, Path, Table}
use Rattle.wc_semantics.specs.Run.{Call, instrs}
use Rattle.wc_semantics.specs.Meaning.{is_killed}

-- an arm's block, its condition, and its condition with its list of instructions
abbrev pub arm_block : Arm → Block
arm_block x = (out-Arm x).block

-- the condition of an arm
abbrev pub condition : Arm → Expr
condition x = (out-Arm x).condition

-- an arm's condition with the instructions of its block
abbrev pub arm_list : Arm → Expr × List Instr
arm_list x = (condition x, instrs (arm_block x))

-- the instructions of an `else`
abbrev pub else_list : Option Block → List Instr
else_list None = []
else_list (Some b) = instrs b

-- no more fuel is left than there was
abbrev pub Leaves : ℕ → Answer → Type 0
Leaves n (Gave t m) = m ≤ n
Leaves n TooLittle = Unit {0}
Leaves n (Without q) = Unit {0}
Leaves n Astray = Unit {0}

-- calls leave no more fuel than they are given
abbrev pub FrugalCall : Call → Type 0
FrugalCall call = (l : Label) (n : ℕ) (name : List ℕ) (inputs : Values) → Leaves n (call l n name inputs)

-- the second answer is the first with so much more fuel left, unless the first lacks fuel
abbrev pub MoreAnswer : ℕ → Answer → Answer → Type 0
MoreAnswer k (Gave t m) b = b ≡ Gave t (m + k)
MoreAnswer k TooLittle b = Unit {0}
MoreAnswer k (Without q) b = b ≡ Without q
MoreAnswer k Astray b = b ≡ Astray

-- a table has each result of another
abbrev pub HasRows : Table → Table → Type 0
HasRows table richer = (path : Path) (q : Request) (r : JobResult) → table path q ≡ Some r → richer path q ≡ Some r

-- a table has a result for each of these requests at its path
abbrev pub HasEach : Table → List (Path × Request) → Type 0
HasEach table asked = All (λ a. (r : JobResult) × (table a.0 a.1 ≡ Some r)) asked

-- another table has the same for each of these requests at its path
abbrev pub AgreeAt : Table → Table → List (Path × Request) → Type 0
AgreeAt table other asked = All (λ a. other a.0 a.1 ≡ table a.0 a.1) asked

-- the second answer is the first, unless that lacks a result
abbrev pub SameUnlessLacking : Answer → Answer → Type 0
SameUnlessLacking (Gave t n) b = b ≡ Gave t n
SameUnlessLacking TooLittle b = b ≡ TooLittle
SameUnlessLacking (Without q) b = Unit {0}
SameUnlessLacking Astray b = b ≡ Astray

-- a tree, if there is one, isn't that of a killed process, and no kill was missed
abbrev pub IsUncut : Answer → Type 0
IsUncut (Gave t n) = is_killed (out-Tree t.tree).state ≡ false
IsUncut TooLittle = Unit {0}
IsUncut (Without q) = Unit {0}
IsUncut Astray = ⊥
