-- The run of a list of instructions, by its first one: a step, an `if` or a loop of the pieces.
use Rattle.std.proofs.Common.{◌≡◌, ◌∙◌, ap, sym, ℕ, List, ◌∷◌, ◌++◌, map, Some}
use Rattle.wc_syntax.specs.declared.expression.Expr.{Expr}
use Rattle.wc_syntax.specs.declared.outline.Arm.{Arm, out-roll-Arm}
use Rattle.wc_syntax.specs.declared.outline.Block.{out-roll-Block}
use Rattle.wc_syntax.specs.declared.outline.Instr.{Instr, out-Instr, out-roll-Instr}
use Rattle.wc_syntax.specs.declared.outline.Instr.TheOpen.{Instr-F}
use Rattle.wc_syntax.specs.declared.outline.Instr.TheVariants as instr
use Rattle.wc_syntax.specs.declared.outline.Step.{Step}
use Rattle.wc_syntax.specs.declared.outline.Stmt.{Stmt}
use Rattle.wc_expression.specs.Val.{holds}
use Rattle.wc_semantics.specs.declared.progress.Progress.{Progress}
use Rattle.wc_semantics.specs.Run.{Act, Around, ◌>->◌, spend, by_value, step_of, test, picked, run, instrs}
use Rattle.wc_semantics.specs.Laws.{arm_list, FrugalCall}
use Rattle.wc_semantics.proofs.Acts.{exec_is, opened}
use Rattle.wc_semantics.proofs.Clauses.{run_opened, branch_is, turn_is}
use Rattle.wc_restart.specs.Pieces.{word, step, block, arm, either, while}

-- ---- what the pieces are, opened

abbrev a_step : List ℕ → List Stmt → Step
a_step name stmts = record { at = 0; name = word name; stmts = stmts }

step_opens : (name : List ℕ) (stmts : List Stmt) → out-Instr (step name stmts) ≡ Instr-F.Step (a_step name stmts)
step_opens name stmts = ap out-Instr (sym (instr.rolls-Step (a_step name stmts))) ∙ out-roll-Instr (Instr-F.Step (a_step name stmts))

either_opens : (arms : List Arm) (js : List Instr) → out-Instr (either arms js) ≡ Instr-F.If 0 arms (Some (block js))
either_opens arms js = ap out-Instr (sym (instr.rolls-If 0 arms (Some (block js)))) ∙ out-roll-Instr (Instr-F.If 0 arms (Some (block js)))

while_opens : (c : Expr) (js : List Instr) → out-Instr (while c js) ≡ Instr-F.While 0 c (block js)
while_opens c js = ap out-Instr (sym (instr.rolls-While 0 c (block js))) ∙ out-roll-Instr (Instr-F.While 0 c (block js))

pub block_lists : (js : List Instr) → instrs (block js) ≡ js
block_lists js = ap (λ b. b.instrs) (out-roll-Block (record { instrs = js }))

pub arm_lists : (c : Expr) (js : List Instr) → arm_list (arm c js) ≡ (c, js)
arm_lists c js =
    ap (λ x. (x.condition, instrs x.block)) (out-roll-Arm (record { condition = c; block = block js }))
    ∙ ap (λ ks. (c, ks)) (block_lists js)

-- ---- runs

pub step_runs : (name : List ℕ) (stmts : List Stmt) (is : List Instr) (a : Around) (n : ℕ) (e : Progress)
    → run (step name stmts ∷ is) a n e ≡ (step_of stmts a n e >-> run is a)
step_runs name stmts is a n e = run_opened (step name stmts) (Instr-F.Step (a_step name stmts)) is a n e (step_opens name stmts)

pub either_runs : (arms : List Arm) (js is : List Instr) (a : Around) (n : ℕ) (e : Progress)
    → run (either arms js ∷ is) a n e ≡ by_value (picked (map arm_list arms) js e.env) n e (λ ks. run (ks ++ is) a n e)
either_runs arms js is a n e =
    run_opened (either arms js) (Instr-F.If 0 arms (Some (block js))) is a n e (either_opens arms js)
    ∙ branch_is arms (Some (block js)) is a n e
    ∙ ap (λ ks. by_value (picked (map arm_list arms) ks e.env) n e (λ ls. run (ls ++ is) a n e)) (block_lists js)

pub while_runs : (c : Expr) (js is : List Instr) (a : Around) (n : ℕ) (e : Progress) → FrugalCall a.call
    → run (while c js ∷ is) a n e ≡ test (holds c e.env) n e (spend n (λ m. run (js ++ while c js ∷ is) a m e)) (run is a n e)
while_runs c js is a n e t =
    run_opened (while c js) (Instr-F.While 0 c (block js)) is a n e (while_opens c js)
    ∙ turn_is (while c js) is a t c (block js) n e (λ m d. ap (λ (y : Act). y a m d) (exec_is (while c js) ∙ ap opened (while_opens c js)))
    ∙ ap (λ ks. test (holds c e.env) n e (spend n (λ m. run (ks ++ while c js ∷ is) a m e)) (run is a n e)) (block_lists js)
