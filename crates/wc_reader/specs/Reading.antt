-- The same grammar, read from the left by one token ahead.
use Rattle.std.specs.Prelude.{ℕ, zero, suc, Bool, List, [], ◌∷◌, ◌++◌, Option, Some, None}
use Rattle.std.specs.Prelude.{Result, Ok, Err}
use Rattle.wc_syntax.specs.declared.expression.Name.{Name}
use Rattle.wc_syntax.specs.declared.expression.Number.{Number}
use Rattle.wc_syntax.specs.declared.expression.Expr.{Expr}
use Rattle.wc_syntax.specs.declared.outline.CallArg.{CallArg}
use Rattle.wc_syntax.specs.declared.outline.CallStmt.{CallStmt}
use Rattle.wc_syntax.specs.declared.outline.Stmt.{Stmt}
use Rattle.wc_syntax.specs.declared.outline.Step.{Step}
use Rattle.wc_syntax.specs.declared.outline.Block.{Block, roll-Block}
use Rattle.wc_syntax.specs.declared.outline.Arm.{Arm, roll-Arm}
use Rattle.wc_syntax.specs.declared.outline.Instr.{Instr}
use Rattle.wc_syntax.specs.declared.outline.Stmt.TheVariants as stmt
use Rattle.wc_syntax.specs.declared.outline.Instr.TheVariants as instr
use Rattle.wc_syntax.specs.declared.definition.Port.{Port}
use Rattle.wc_syntax.specs.declared.definition.ExitCode.{ExitCode}
use Rattle.wc_syntax.specs.declared.definition.Exit.{Exit}
use Rattle.wc_syntax.specs.declared.definition.Head.{Head}
use Rattle.wc_syntax.specs.declared.definition.Function.{Function}
use Rattle.wc_syntax.specs.declared.definition.JobLine.{JobLine}
use Rattle.wc_syntax.specs.declared.definition.JobFile.{JobFile}
use Rattle.wc_syntax.specs.declared.definition.Fetch.{Fetch}
use Rattle.wc_syntax.specs.declared.definition.Job.{Job}
use Rattle.wc_syntax.specs.declared.definition.Chain.{Chain}
use Rattle.wc_syntax.specs.declared.definition.Definition.{Definition}
use Rattle.wc_syntax.specs.declared.definition.Rule.{Rule as Line}
use Rattle.wc_syntax.specs.declared.definition.Rule.TheVariants as line
use Rattle.wc_syntax.specs.declared.definition.Definition.TheVariants as definition
use Rattle.wc_grammar.specs.Kinds.{K_NAME, K_NUMBER, S_OPEN_BRACE, S_CLOSE_BRACE, S_OPEN, S_CLOSE, S_COMMA, S_SEMI, S_COLON, S_QUESTION, S_IS, S_ARROW, W_CALCFUNCTION, W_CALCJOB, W_WORKCHAIN, W_PROGRAM, W_ARG, W_FILE, W_FETCH, W_PARSE, W_EXIT_CODE, W_INVALIDATES, W_LET, W_OUT, W_EXIT, W_IF, W_STEP, W_ELIF, W_ELSE, W_WHILE, W_RETURN, W_CTX, W_CALL}
use Rattle.wc_grammar.specs.Rules.{Reader, done, deep, seq, either, turns, as_at, many_at, sign_at, flag_at, between_at, pick_at}
use Rattle.wc_grammar.specs.Reading.{name_at, number_at, text_at, member_at, expr_at}
use Rattle.wc_grammar.specs.Rules.{Tok, Reading}
use Rattle.wc_grammar.specs.declared.fault.Fault.{Fault}
use Rattle.wc_grammar.specs.declared.fault.Fault.TheVariants.{Unexpected}
use Rattle.wc_reader.specs.Parts.{types}
use Rattle.wc_reader.specs.Outlines.{ways}

-- ---- ports, exit codes and rules
-- the reading of a port
abbrev pub port_at : Reader Port
port_at = seq name_at (λ x. seq (flag_at S_QUESTION) (λ o. seq (sign_at S_COLON) (λ _. as_at (pick_at types) (λ k. record { at = x.at; name = x; optional = o; kind = k.0 }))))

-- what tokens are read as by the rule `Ports`, with the tokens behind it, or the first fault
abbrev pub ports_at : ℕ → Reader (List Port)
ports_at n = seq (sign_at S_OPEN) (λ _. seq (between_at n S_COMMA (K_NAME ∷ []) port_at) (λ ps. as_at (sign_at S_CLOSE) (λ _. ps)))

-- the reading of a declared exit code
abbrev pub code_at : Reader ExitCode
code_at = seq (sign_at W_EXIT_CODE) (λ at. seq number_at (λ s. seq text_at (λ m. seq (flag_at W_INVALIDATES) (λ i. as_at (sign_at S_SEMI) (λ _. record { at = at; status = s; message = m; invalidates = i })))))

-- the reading of a condition, where there is one
abbrev pub condition_at : Reader Expr → Reader (Option Expr)
condition_at e = either (W_IF ∷ []) (seq (sign_at W_IF) (λ _. as_at e Some)) (done None)

-- the reading of an exit
abbrev pub exit_at : Reader Expr → Reader Exit
exit_at e = seq (sign_at W_EXIT) (λ at. seq number_at (λ s. seq (condition_at e) (λ c. as_at (sign_at S_SEMI) (λ _. record { at = at; status = s; condition = c }))))

-- the reading of a `let` or an `out` behind its word
abbrev pub set_at : ℕ → Reader Expr → Reader (ℕ × Name × Expr)
set_at w e = seq (sign_at w) (λ at. seq name_at (λ x. seq (sign_at S_IS) (λ _. seq e (λ v. as_at (sign_at S_SEMI) (λ _. (at, x, v))))))

-- what tokens are read as by the rule `Rule`, with the tokens behind it, or the first fault
abbrev pub rule_at : Reader Expr → Reader Line
rule_at e = either (W_LET ∷ []) (as_at (set_at W_LET e) (λ x. line.Let x.0 x.1 x.2)) (either (W_OUT ∷ []) (as_at (set_at W_OUT e) (λ x. line.Out x.0 x.1 x.2)) (as_at (exit_at e) line.Exit))

-- the kinds of tokens with which a rule begins
abbrev pub RULE : List ℕ
RULE = W_LET ∷ W_OUT ∷ W_EXIT ∷ []

-- ---- outlines
-- the reading of an argument
abbrev pub arg_at : Reader Expr → Reader CallArg
arg_at e = seq name_at (λ x. seq (sign_at S_COLON) (λ _. as_at e (λ v. record { port = x; value = v })))

-- the reading of the key to which a call's process is bound
abbrev pub target_at : Reader (Bool × Name)
target_at = seq (pick_at ways) (λ p. seq (member_at W_CTX) (λ c. as_at (sign_at S_SEMI) (λ _. (p.0, c.1))))

-- the reading of a call
abbrev pub call_at : ℕ → Reader Expr → Reader CallStmt
call_at n e = seq (sign_at W_CALL) (λ at. seq name_at (λ x. seq (sign_at S_OPEN) (λ _. seq (between_at n S_COMMA (K_NAME ∷ []) (arg_at e)) (λ xs. seq (sign_at S_CLOSE) (λ _.
    as_at target_at (λ t. record { at = at; callee = x; args = xs; append = t.0; key = t.1 }))))))

-- the reading of a key that is set
abbrev pub assign_at : Reader Expr → Reader Stmt
assign_at e = seq (member_at W_CTX) (λ c. seq (sign_at S_IS) (λ _. seq e (λ v. as_at (sign_at S_SEMI) (λ _. stmt.Ctx c.0 c.1 v))))

-- the reading of a statement
abbrev pub stmt_at : ℕ → Reader Expr → Reader Stmt
stmt_at n e = either (W_CTX ∷ []) (assign_at e) (either (W_OUT ∷ []) (as_at (set_at W_OUT e) (λ x. stmt.Out x.0 x.1 x.2)) (either (W_EXIT ∷ []) (as_at (exit_at e) stmt.Exit) (as_at (call_at n e) stmt.Call)))

-- the kinds of tokens with which a statement begins
abbrev pub STMT : List ℕ
STMT = W_CTX ∷ W_OUT ∷ W_EXIT ∷ W_CALL ∷ []

-- the reading of a step
abbrev pub step_at : ℕ → Reader Expr → Reader Step
step_at n e = seq (sign_at W_STEP) (λ at. seq name_at (λ x. seq (sign_at S_OPEN_BRACE) (λ _. seq (many_at n STMT (stmt_at n e)) (λ ss. as_at (sign_at S_CLOSE_BRACE) (λ _. record { at = at; name = x; stmts = ss })))))

-- the kinds of tokens with which an instruction begins
abbrev pub INSTR : List ℕ
INSTR = W_IF ∷ W_WHILE ∷ W_STEP ∷ W_RETURN ∷ []

-- the reading of a block
abbrev pub block_at : ℕ → Reader Instr → Reader Block
block_at n i = seq (sign_at S_OPEN_BRACE) (λ _. seq (many_at n INSTR i) (λ is. as_at (sign_at S_CLOSE_BRACE) (λ _. roll-Block (record { instrs = is }))))

-- the reading of an arm
abbrev pub arm_at : ℕ → Reader Expr → Reader Block → Reader (ℕ × Arm)
arm_at w e b = seq (sign_at w) (λ at. seq e (λ v. as_at b (λ x. (at, roll-Arm (record { condition = v; block = x })))))

-- the reading of a further arm
abbrev pub elif_at : Reader Expr → Reader Block → List Arm → Reader (List Arm)
elif_at e b xs = as_at (arm_at W_ELIF e b) (λ x. xs ++ x.1 ∷ [])

-- what tokens are read as by the rule `Otherwise`, with the tokens behind it, or the first fault
abbrev pub otherwise_at : Reader Block → Reader (Option Block)
otherwise_at b = either (W_ELSE ∷ []) (seq (sign_at W_ELSE) (λ _. as_at b Some)) (done None)

-- what is behind the arms of an `if`, which begins at the offset
abbrev pub end_if_at : Reader Block → ℕ → List Arm → Reader Instr
end_if_at b at xs = as_at (otherwise_at b) (λ o. instr.If at xs o)

-- the reading of an `if` with all its arms
abbrev pub if_at : ℕ → Reader Expr → Reader Block → Reader Instr
if_at n e b = seq (arm_at W_IF e b) (λ x. seq (turns n (W_ELIF ∷ []) (elif_at e b) (x.1 ∷ [])) (λ xs. end_if_at b x.0 xs))

-- the reading of a `while`
abbrev pub while_at : Reader Expr → Reader Block → Reader Instr
while_at e b = seq (sign_at W_WHILE) (λ at. seq e (λ v. as_at b (λ x. instr.While at v x)))

-- the reading of a status, or of none
abbrev pub status_at : Reader (Option Number)
status_at = either (K_NUMBER ∷ []) (as_at number_at Some) (done None)

-- the reading of a `return`
abbrev pub return_at : Reader Instr
return_at = seq (sign_at W_RETURN) (λ at. seq status_at (λ k. as_at (sign_at S_SEMI) (λ _. instr.Return at k)))

-- the reading of an `if` or a `while`
abbrev pub branch_in : ℕ → Reader Expr → Reader Block → Reader Instr
branch_in n e b = either (W_IF ∷ []) (if_at n e b) (while_at e b)

-- the reading of a step or a `return`
abbrev pub plain_at : ℕ → Reader Expr → Reader Instr
plain_at n e = either (W_STEP ∷ []) (as_at (step_at n e) instr.Step) return_at

-- the reading of an instruction
abbrev pub instr_at : ℕ → Reader Instr
instr_at zero = either (W_IF ∷ W_WHILE ∷ []) deep (plain_at zero (expr_at zero))
instr_at (suc n) = either (W_IF ∷ W_WHILE ∷ []) (branch_in n (expr_at n) (block_at n (instr_at n))) (plain_at (suc n) (expr_at (suc n)))

-- the instructions with blocks by themselves
abbrev pub branch_at : ℕ → Reader Instr
branch_at zero = deep
branch_at (suc n) = branch_in n (expr_at n) (block_at n (instr_at n))

-- ---- definitions
-- the reading of the head of a definition
abbrev pub head_at : ℕ → ℕ → Reader Head
head_at n w = seq (sign_at w) (λ at. seq name_at (λ x. seq (ports_at n) (λ ins. seq (sign_at S_ARROW) (λ _. seq (ports_at n) (λ outs.
    seq (sign_at S_OPEN_BRACE) (λ _. as_at (many_at n (W_EXIT_CODE ∷ []) code_at) (λ cs. record { at = at; name = x; inputs = ins; outputs = outs; codes = cs })))))))

-- the reading of a function
abbrev pub function_at : ℕ → Reader Function
function_at n = seq (head_at n W_CALCFUNCTION) (λ h. seq (many_at n RULE (rule_at (expr_at n))) (λ rs. as_at (sign_at S_CLOSE_BRACE) (λ _. record { head = h; rules = rs })))

-- the reading of a line of a job
abbrev pub line_at : ℕ → Reader Expr → Reader JobLine
line_at w e = seq (sign_at w) (λ at. seq e (λ v. as_at (sign_at S_SEMI) (λ _. record { at = at; value = v })))

-- the reading of a file of a job
abbrev pub file_at : Reader Expr → Reader JobFile
file_at e = seq (sign_at W_FILE) (λ at. seq text_at (λ x. seq (sign_at S_IS) (λ _. seq e (λ v. as_at (sign_at S_SEMI) (λ _. record { at = at; name = x; value = v })))))

-- the reading of a name that is fetched
abbrev pub fetch_at : Reader Fetch
fetch_at = seq (sign_at W_FETCH) (λ at. seq text_at (λ x. as_at (sign_at S_SEMI) (λ _. record { at = at; name = x })))

-- the reading of a job's rules
abbrev pub parse_at : ℕ → Reader Expr → Reader (List Line)
parse_at n e = seq (sign_at W_PARSE) (λ _. seq (sign_at S_OPEN_BRACE) (λ _. seq (many_at n RULE (rule_at e)) (λ rs. as_at (sign_at S_CLOSE_BRACE) (λ _. rs))))

-- the reading of a job
abbrev pub job_at : ℕ → Reader Job
job_at n = seq (head_at n W_CALCJOB) (λ h. seq (line_at W_PROGRAM (expr_at n)) (λ p. seq (many_at n (W_ARG ∷ []) (line_at W_ARG (expr_at n))) (λ xs. seq (many_at n (W_FILE ∷ []) (file_at (expr_at n))) (λ fs.
    seq (many_at n (W_FETCH ∷ []) fetch_at) (λ ts. seq (parse_at n (expr_at n)) (λ rs. as_at (sign_at S_CLOSE_BRACE) (λ _.
    record { head = h; program = p; args = xs; files = fs; fetch = ts; parse = rs })))))))

-- what tokens are read as by the rule `Chain`, with the tokens behind it, or the first fault
abbrev pub chain_at : ℕ → Reader Chain
chain_at n = seq (head_at n W_WORKCHAIN) (λ h. seq (many_at n INSTR (instr_at n)) (λ is. as_at (sign_at S_CLOSE_BRACE) (λ _. record { head = h; outline = roll-Block (record { instrs = is }) })))

-- the reading of a definition
abbrev pub definition_at : ℕ → Reader Definition
definition_at n = either (W_CALCFUNCTION ∷ []) (as_at (function_at n) definition.Function) (either (W_CALCJOB ∷ []) (as_at (job_at n) definition.Job) (as_at (chain_at n) definition.Chain))

-- the kinds of tokens with which a definition begins
abbrev pub DEFINITION : List ℕ
DEFINITION = W_CALCFUNCTION ∷ W_CALCJOB ∷ W_WORKCHAIN ∷ []

-- the reading of definitions
abbrev pub library_at : ℕ → Reader (List Definition)
library_at n = many_at n DEFINITION (definition_at n)

-- ---- all of the tokens
-- a library, where no token is left behind it
abbrev pub rest_of : List Definition → List Tok → Result (List Definition) Fault
rest_of library [] = Ok library
rest_of library (t ∷ ts) = Err (Unexpected t.1)

-- what was read, where no token is left
abbrev pub ended : Reading (List Definition) → Result (List Definition) Fault
ended (Ok x) = rest_of x.0 x.1
ended (Err e) = Err e

-- what all tokens are read as
abbrev pub whole : ℕ → List Tok → Result (List Definition) Fault
whole n ts = ended (library_at n ts)
