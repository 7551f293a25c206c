-- What an instruction does, by what stands in it.
use Rattle.std.proofs.Common.{◌≡◌, ℕ, Bool, true, false, List, [], ◌∷◌, ◌++◌, Option, Some, None, map, refl, sym, ap, ◌∙◌}
use Rattle.std.specs.Prelude.{if◌then◌else◌}
use Rattle.std.specs.Option.{option_map}
use Rattle.wc_value.specs.declared.process.ProcessState.TheVariants.{Finished}
use Rattle.wc_syntax.specs.declared.expression.Expr.{Expr}
use Rattle.wc_syntax.specs.declared.outline.Instr.{Instr, out-Instr, map-Instr, fold_out-Instr}
use Rattle.wc_syntax.specs.declared.outline.Instr.TheOpen.{Instr-F}
use Rattle.wc_syntax.specs.declared.outline.Arm.{Arm, fold_out-Arm}
use Rattle.wc_syntax.specs.declared.outline.Block.{Block, fold_out-Block}
use Rattle.wc_state.specs.declared.environment.Env.{Env}
use Rattle.wc_expression.specs.declared.outcome.Outcome.{Outcome}
use Rattle.wc_expression.specs.declared.outcome.Outcome.TheVariants.{Gives, Faults}
use Rattle.wc_expression.specs.Outcomes.{◌>>=◌, mapped}
use Rattle.wc_expression.specs.Val.{holds}
use Rattle.wc_semantics.specs.declared.progress.Flow.{Flow}
use Rattle.wc_semantics.specs.declared.progress.Flow.TheVariants.{Goes, Ends, NoFuel, Lacks, Off}
use Rattle.wc_semantics.specs.declared.progress.Progress.{Progress}
use Rattle.wc_semantics.specs.Run.{Act, ◌>->◌, step_of, all, picked, or_nothing, choose, turns, returned, instr, arm, block, exec, arm_act, run_block, run, instrs}
use Rattle.wc_semantics.specs.Laws.{arm_block, condition, arm_list, else_list}

abbrev pub opened : Instr-F Instr Arm Block → Act
opened (Instr-F.Step s) a n e = step_of s.stmts a n e
opened (Instr-F.If at arms other) a n e = choose (map arm_act arms) (option_map run_block other) a n e
opened (Instr-F.While at c b) a n e = turns n c (run_block b) a n e
opened (Instr-F.Return at code) a n e = Ends (Finished (returned code)) n e

opened_is : (y : Instr-F Instr Arm Block) → instr (map-Instr Instr Arm Block Act (Expr × Act) Act exec arm_act run_block y) ≡ opened y
opened_is (Instr-F.Step s) = refl
opened_is (Instr-F.If at arms None) = refl
opened_is (Instr-F.If at arms (Some b)) = refl
opened_is (Instr-F.While at c b) = refl
opened_is (Instr-F.Return at code) = refl

pub exec_is : (i : Instr) → exec i ≡ opened (out-Instr i)
exec_is i = fold_out-Instr Act (Expr × Act) Act instr arm block i ∙ opened_is (out-Instr i)

pub block_is : (b : Block) → run_block b ≡ run (instrs b)
block_is b = fold_out-Block Act (Expr × Act) Act instr arm block b

pub arm_is : (x : Arm) → arm_act x ≡ (condition x, run_block (arm_block x))
arm_is x = fold_out-Arm Act (Expr × Act) Act instr arm block x

-- ---- one after another

pub follow_assoc : (f : Flow) (g h : ℕ → Progress → Flow) → ((f >-> g) >-> h) ≡ (f >-> (λ n e. g n e >-> h))
follow_assoc (Goes n e) g h = refl
follow_assoc (Ends s n e) g h = refl
follow_assoc NoFuel g h = refl
follow_assoc (Lacks q) g h = refl
follow_assoc Off g h = refl

pub run_append : (xs ys : List Act) (a : _) (n : ℕ) (e : Progress) → all (xs ++ ys) a n e ≡ (all xs a n e >-> all ys a)
run_append [] ys a n e = refl
run_append (x ∷ xs) ys a n e = ap (λ (g : ℕ → Progress → Flow). x a n e >-> g) (λ i m d. run_append xs ys a m d i) ∙ sym (follow_assoc (x a n e) (all xs a) (all ys a))

map_append : {A B : Type 0} (f : A → B) (xs ys : List A) → map f (xs ++ ys) ≡ map f xs ++ map f ys
map_append f [] ys = refl
map_append f (x ∷ xs) ys = ap (λ zs. f x ∷ zs) (map_append f xs ys)

-- a list in front of a list is run first, and then the other is
pub run_lists : (xs ys : List Instr) (a : _) (n : ℕ) (e : Progress) → run (xs ++ ys) a n e ≡ (run xs a n e >-> run ys a)
run_lists xs ys a n e = ap (λ (zs : List Act). all zs a n e) (map_append exec xs ys) ∙ run_append (map exec xs) (map exec ys) a n e

-- ---- the first true condition, over lists of instructions

picked_on : {A B : Type 0} (f : A → B) (o : Outcome Bool) (x : A) (r : Outcome A)
    → (o >>= (λ b. if b then Gives (f x) else mapped f r)) ≡ mapped f (o >>= (λ b. if b then Gives x else r))
picked_on f (Faults q) x r = refl
picked_on f (Gives true) x r = refl
picked_on f (Gives false) x r = refl

else_act : (other : Option Block) → or_nothing (option_map run_block other) ≡ run (else_list other)
else_act None = refl
else_act (Some b) = block_is b

abbrev arm_run : Arm → Expr × Act
arm_run x = (condition x, run (instrs (arm_block x)))

arm_acts : (arms : List Arm) → map arm_act arms ≡ map arm_run arms
arm_acts [] = refl
arm_acts (x ∷ xs) = λ i. (arm_is x ∙ (λ j. (condition x, block_is (arm_block x) j))) i ∷ arm_acts xs i

picked_runs : (arms : List Arm) (js : List Instr) (e : Env) → picked (map arm_run arms) (run js) e ≡ mapped run (picked (map arm_list arms) js e)
picked_runs [] js e = refl
picked_runs (x ∷ xs) js e = ap (λ (r : Outcome Act). holds (condition x) e >>= (λ b. if b then Gives (run (instrs (arm_block x))) else r)) (picked_runs xs js e)
    ∙ picked_on run (holds (condition x) e) (instrs (arm_block x)) (picked (map arm_list xs) js e)

pub picked_lists : (arms : List Arm) (other : Option Block) (e : Env)
    → picked (map arm_act arms) (or_nothing (option_map run_block other)) e ≡ mapped run (picked (map arm_list arms) (else_list other) e)
picked_lists arms other e = (λ i. picked (arm_acts arms i) (else_act other i) e) ∙ picked_runs arms (else_list other) e
