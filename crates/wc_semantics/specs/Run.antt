-- What an outline does, with one amount of fuel for all of it: each turn of a loop and each call takes one.
use Rattle.std.specs.Prelude.{ℕ, zero, suc, ◌+◌, nat_eq, Bool, true, false, if◌then◌else◌, List, [], ◌∷◌, ◌++◌, Option, Some, None, length, map}
use Rattle.std.specs.Fmt.{decimal}
use Rattle.std.specs.Int.{w32, saturate_unsigned}
use Rattle.wc_value.specs.Ascending.{lookup}
use Rattle.wc_value.specs.declared.process.ProcessState.TheVariants.{Finished, Excepted, Killed}
use Rattle.wc_value.specs.declared.process.Tree.{out-Tree}
use Rattle.wc_value.specs.declared.value.Kind.{Kind}
use Rattle.wc_syntax.specs.declared.expression.Expr.{Expr}
use Rattle.wc_syntax.specs.declared.expression.Number.{Number}
use Rattle.wc_syntax.specs.declared.outline.Arm.{Arm, fold-Arm}
use Rattle.wc_syntax.specs.declared.outline.Block.{Block, fold-Block, out-Block}
use Rattle.wc_syntax.specs.declared.outline.Instr.{Instr, fold-Instr}
use Rattle.wc_syntax.specs.declared.outline.Instr.TheOpen.{Instr-F, Arm-F, Block-F}
use Rattle.wc_syntax.specs.declared.outline.Stmt.{Stmt}
use Rattle.wc_state.specs.declared.environment.Child.{Child}
use Rattle.wc_state.specs.declared.environment.Env.{Env}
use Rattle.wc_state.specs.declared.environment.Item.{Item}
use Rattle.wc_state.specs.declared.environment.Item.TheVariants.{One, Many}
use Rattle.wc_expression.specs.declared.outcome.Outcome.{Outcome}
use Rattle.wc_expression.specs.declared.outcome.Outcome.TheVariants.{Gives, Faults}
use Rattle.wc_expression.specs.Outcomes.{◌>>=◌}
use Rattle.wc_expression.specs.Val.{holds}
use Rattle.wc_semantics.specs.Rules.{Values, unnumbered}
use Rattle.wc_semantics.specs.declared.progress.Answer.{Answer}
use Rattle.wc_semantics.specs.declared.progress.Answer.TheVariants.{Gave, TooLittle, Without, Astray}
use Rattle.wc_semantics.specs.declared.progress.Flow.{Flow}
use Rattle.wc_semantics.specs.declared.progress.Flow.TheVariants.{Goes, Ends, NoFuel, Lacks, Off}
use Rattle.wc_semantics.specs.declared.progress.Planned.{Planned}
use Rattle.wc_semantics.specs.declared.progress.Progress.{Progress}
use Rattle.wc_semantics.specs.declared.progress.Replayed.{Replayed}
use Rattle.wc_semantics.specs.declared.progress.Stepped.{Stepped}
use Rattle.wc_semantics.specs.declared.progress.Stepped.TheVariants.{Stops, Makes}
use Rattle.wc_semantics.specs.Tables.{Label}
use Rattle.wc_semantics.specs.Statements.{with_key, statements}

-- what a call gives, by label, fuel, name and inputs
abbrev pub Call : Type 0
Call = Label → ℕ → List ℕ → Values → Answer

-- what surrounds a run
pub record Around : Type 0 where
  pub call : Call
  -- no call may be made, as deep as it is
  pub deep : Bool
  -- whether a callee takes these inputs
  pub takes : List ℕ → Values → Bool
  -- the kinds of the chain's output ports
  pub kinds : List ℕ → Option Kind
  -- how many calls the chain makes until it is killed
  pub stop : Option ℕ

-- what an instruction does, with an amount of fuel
abbrev pub Act : Type 0
Act = Around → ℕ → Progress → Flow

-- ---- one after another

infixl 10 ◌>->◌
-- one part of a run after another: where the first goes on, with the fuel that it left
abbrev pub ◌>->◌ : Flow → (ℕ → Progress → Flow) → Flow
(Goes n e) >-> f = f n e
(Ends s n e) >-> f = Ends s n e
NoFuel >-> f = NoFuel
(Lacks q) >-> f = Lacks q
Off >-> f = Off

-- takes one of the fuel
abbrev pub spend : ℕ → (ℕ → Flow) → Flow
spend zero f = NoFuel
spend (suc n) f = f n

-- what is done with the tree of a call, where it gave one
abbrev pub taken : Answer → (Replayed → ℕ → Flow) → Flow
taken (Gave t n) f = f t n
taken TooLittle f = NoFuel
taken (Without q) f = Lacks q
taken Astray f = Off

-- goes on with a value, or ends by the reason
abbrev pub by_value : {A : Type 0} → Outcome A → ℕ → Progress → (A → Flow) → Flow
by_value (Gives v) n e f = f v
by_value (Faults r) n e f = Ends (Excepted r) n e

-- ---- the calls of a step

-- K_n, where n counts all calls of the process
abbrev pub label : List ℕ → ℕ → Label
label key n = key ++ (95 ∷ decimal n)

-- the children that a key's list holds
abbrev pub children_at : Option Item → List Child
children_at (Some (Many cs)) = cs
children_at _ = []

-- what a key holds once the child is bound to it: the child, or a list of children with one more
abbrev pub joined : Bool → Option Item → Child → Item
joined append held c = if append then Many (children_at held ++ c ∷ []) else One c

-- an environment with a child bound to its call's key, or put behind that key's list
abbrev pub bound : Planned → Child → Env → Env
bound p c env = with_key p.key (joined p.append (lookup p.key env.ctx) c) env

-- the child that a tree makes
abbrev pub child : Replayed → Child
child t = record { node = 0; state = (out-Tree t.tree).state; outputs = map unnumbered (out-Tree t.tree).outputs }

-- what a run has come to, with a further call and its tree
abbrev pub with_call : Planned → Label → Replayed → Progress → Progress
with_call p l t e = record { env = bound p (child t) e.env; outputs = e.outputs; calls = e.calls ++ (l, t) ∷ [] }

-- the label of the next call into this key
abbrev pub next_label : Planned → Progress → Label
next_label p e = label p.key (length e.calls + 1)

-- One call after another, each with the fuel that those before it left. What a call does doesn't depend on the context, so each
-- may be bound as soon as it is taken.
abbrev pub take_calls : List Planned → Act
take_calls [] a n e = Goes n e
take_calls (p ∷ ps) a n e = spend n (λ m. taken (a.call (next_label p e) m p.callee p.inputs) (λ t left. take_calls ps a left (with_call p (next_label p e) t e)))

-- whether a run is to stop behind so many calls
abbrev pub is_stop : Option ℕ → ℕ → Bool
is_stop None n = false
is_stop (Some s) n = nat_eq s n

-- the end as killed, where as many calls are made as the stop says
abbrev pub stopped : Act
stopped a n e = if is_stop a.stop (length e.calls) then Ends Killed n e else Goes n e

-- only a step that makes a call may be the last before a kill
abbrev pub make_calls : List Planned → Act
make_calls [] a n e = Goes n e
make_calls (p ∷ ps) a n e = take_calls (p ∷ ps) a n e >-> stopped a

-- what follows a step: the end that it asked for, or the calls that it collected
abbrev pub after : Stepped → Act
after (Stops s env outs) a n e = Ends s n (record { env = env; outputs = outs; calls = e.calls })
after (Makes ps env outs) a n e = make_calls ps a n (record { env = env; outputs = outs; calls = e.calls })

-- a step: its statements, and what follows them
abbrev pub step_of : List Stmt → Act
step_of ss a n e = after (statements a.deep a.takes a.kinds ss [] e.env e.outputs) a n e

-- ---- instructions

-- by a condition
abbrev pub test : Outcome Bool → ℕ → Progress → Flow → Flow → Flow
test (Faults r) n e then_do else_do = Ends (Excepted r) n e
test (Gives true) n e then_do else_do = then_do
test (Gives false) n e then_do else_do = else_do

-- instructions one after another
abbrev pub all : List Act → Act
all [] a n e = Goes n e
all (x ∷ xs) a n e = x a n e >-> all xs a

-- what stands behind the first true condition, or else what stands in its place
abbrev pub picked : {A : Type 0} → List (Expr × A) → A → Env → Outcome A
picked [] other env = Gives other
picked (x ∷ xs) other env = holds x.0 env >>= (λ b. if b then Gives x.1 else picked xs other env)

-- an instruction that does nothing
abbrev pub nothing : Act
nothing a n e = Goes n e

-- an act, or nothing where there is none
abbrev pub or_nothing : Option Act → Act
or_nothing None = nothing
or_nothing (Some x) = x

-- the act of the first arm whose condition is true, else the other one
abbrev pub choose : List (Expr × Act) → Option Act → Act
choose arms other a n e = by_value (picked arms (or_nothing other) e.env) n e (λ x. x a n e)

-- A loop, of at most `most` turns. As each turn takes fuel, a loop is within as many turns as there is fuel.
abbrev pub turns : ℕ → Expr → Act → Act
turns zero c body a n e = test (holds c e.env) n e NoFuel (Goes n e)
turns (suc most) c body a n e =
    test (holds c e.env) n e (spend n (λ m. body a m e >-> turns most c body a)) (Goes n e)

-- The status of a `return`: 0 where it has no number. Beyond 32 bits it is the nearest one; no checked library has such a number.
abbrev pub returned : Option Number → ℕ
returned None = 0
returned (Some k) = saturate_unsigned w32 k.value

-- what one instruction does, from what the instructions inside it do
abbrev pub instr : Instr-F Act (Expr × Act) Act → Act
instr (Instr-F.Step s) a n e = step_of s.stmts a n e
instr (Instr-F.If at arms other) a n e = choose arms other a n e
instr (Instr-F.While at c body) a n e = turns n c body a n e
instr (Instr-F.Return at code) a n e = Ends (Finished (returned code)) n e

-- an arm's condition with what its block does
abbrev pub arm : Arm-F Act (Expr × Act) Act → Expr × Act
arm x = (x.condition, x.block)

-- what a block does: its instructions one after another
abbrev pub block : Block-F Act (Expr × Act) Act → Act
block b = all b.instrs

-- what an instruction does
abbrev pub exec : Instr → Act
exec = fold-Instr Act (Expr × Act) Act instr arm block

-- an arm's condition, with what its block does
abbrev pub arm_act : Arm → Expr × Act
arm_act = fold-Arm Act (Expr × Act) Act instr arm block

-- what a block of an outline does
abbrev pub run_block : Block → Act
run_block = fold-Block Act (Expr × Act) Act instr arm block

-- a list of instructions
abbrev pub run : List Instr → Act
run is = all (map exec is)

-- the instructions of a block
abbrev pub instrs : Block → List Instr
instrs b = (out-Block b).instrs

-- a run that goes on past its last instruction ends with 0
abbrev pub settled : Flow → Flow
settled f = f >-> (λ n e. Ends (Finished 0) n e)
