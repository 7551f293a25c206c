-- The run of a list of instructions, by its first one.
use Rattle.std.proofs.Common.{◌≡◌, ℕ, zero, suc, ◌≤◌, Bool, true, false, List, ◌∷◌, ◌++◌, Option, map, refl, sym, ap, ◌∙◌, arith}
use Rattle.std.specs.Option.{option_map}
use Rattle.wc_syntax.specs.declared.expression.Expr.{Expr}
use Rattle.wc_syntax.specs.declared.outline.Instr.{Instr, out-Instr}
use Rattle.wc_syntax.specs.declared.outline.Instr.TheOpen.{Instr-F}
use Rattle.wc_syntax.specs.declared.outline.Arm.{Arm}
use Rattle.wc_syntax.specs.declared.outline.Block.{Block}
use Rattle.wc_expression.specs.declared.outcome.Outcome.{Outcome}
use Rattle.wc_expression.specs.declared.outcome.Outcome.TheVariants.{Gives, Faults}
use Rattle.wc_expression.specs.Outcomes.{mapped}
use Rattle.wc_expression.specs.Val.{holds}
use Rattle.wc_semantics.specs.declared.progress.Flow.{Flow}
use Rattle.wc_semantics.specs.declared.progress.Flow.TheVariants.{Goes, Ends, NoFuel, Lacks, Off}
use Rattle.wc_semantics.specs.declared.progress.Progress.{Progress}
use Rattle.wc_semantics.specs.Run.{Around, Act, ◌>->◌, spend, by_value, test, picked, choose, turns, exec, arm_act, run_block, run, instrs}
use Rattle.wc_semantics.specs.Laws.{arm_list, else_list, FrugalCall}
use Rattle.wc_semantics.proofs.Acts.{opened, exec_is, block_is, follow_assoc, run_lists, picked_lists}
use Rattle.wc_semantics.proofs.Frugal.{Within, Frugal, block_frugal}

-- ---- a bound on turns of at least the fuel plays no part

follow_same : (n : ℕ) (f : Flow) (g h : ℕ → Progress → Flow) → Within n f → ((m : ℕ) (e : Progress) → m ≤ n → g m e ≡ h m e) → (f >-> g) ≡ (f >-> h)
follow_same n (Goes m e) g h p q = q m e p
follow_same n (Ends s m e) g h p q = refl
follow_same n NoFuel g h p q = refl
follow_same n (Lacks r) g h p q = refl
follow_same n Off g h p q = refl

pub turns_same : (b b' : ℕ) (x : Expr) (body : Act) → Frugal body → (a : Around) → FrugalCall a.call → (n : ℕ) (e : Progress) → n ≤ b → n ≤ b' → turns b x body a n e ≡ turns b' x body a n e
turns_same zero zero x body t a c n e p q = refl
turns_same zero (suc b') x body t a c zero e p q = refl
turns_same zero (suc b') x body t a c (suc n) e p q = absurd (omega arith)
turns_same (suc b) zero x body t a c zero e p q = refl
turns_same (suc b) zero x body t a c (suc n) e p q = absurd (omega arith)
turns_same (suc b) (suc b') x body t a c zero e p q = refl
turns_same (suc b) (suc b') x body t a c (suc n) e p q = ap (λ (f : Flow). test (holds x e.env) (suc n) e f (Goes (suc n) e))
    (follow_same n (body a n e) (turns b x body a) (turns b' x body a) (t a c n e) (λ m d h. turns_same b b' x body t a c m d (omega arith) (omega arith)))

test_follow : (o : Outcome Bool) (n : ℕ) (e : Progress) (f g : Flow) (h : ℕ → Progress → Flow) → (test o n e f g >-> h) ≡ test o n e (f >-> h) (g >-> h)
test_follow (Faults r) n e f g h = refl
test_follow (Gives true) n e f g h = refl
test_follow (Gives false) n e f g h = refl

value_follow : (o : Outcome (List Instr)) (is : List Instr) (a : Around) (n : ℕ) (e : Progress)
    → (by_value (mapped run o) n e (λ x. x a n e) >-> run is a) ≡ by_value o n e (λ js. run (js ++ is) a n e)
value_follow (Gives js) is a n e = sym (run_lists js is a n e)
value_follow (Faults r) is a n e = refl

-- the branches of an `if`
pub branch_is : (arms : List Arm) (other : Option Block) (is : List Instr) (a : Around) (n : ℕ) (e : Progress)
    → (choose (map arm_act arms) (option_map run_block other) a n e >-> run is a) ≡ by_value (picked (map arm_list arms) (else_list other) e.env) n e (λ js. run (js ++ is) a n e)
branch_is arms other is a n e =
    ap (λ (o : Outcome Act). by_value o n e (λ x. x a n e) >-> run is a) (picked_lists arms other e.env)
    ∙ value_follow (picked (map arm_list arms) (else_list other) e.env) is a n e

-- the run of a list by what its first instruction does
pub run_opened : (i : Instr) (y : Instr-F Instr Arm Block) (is : List Instr) (a : Around) (n : ℕ) (e : Progress) → out-Instr i ≡ y
    → run (i ∷ is) a n e ≡ (opened y a n e >-> run is a)
run_opened i y is a n e h = ap (λ (x : Act). x a n e >-> run is a) (exec_is i ∙ ap opened h)

-- one turn, and then the same loop
pub turn_is : (i : Instr) (is : List Instr) (a : Around) → FrugalCall a.call → (x : Expr) (b : Block) (n : ℕ) (e : Progress)
    → ((m : ℕ) (d : Progress) → exec i a m d ≡ turns m x (run_block b) a m d)
    → (turns n x (run_block b) a n e >-> run is a) ≡ test (holds x e.env) n e (spend n (λ m. run (instrs b ++ i ∷ is) a m e)) (run is a n e)
turn_is i is a t x b zero e p = test_follow (holds x e.env) zero e NoFuel (Goes zero e) (run is a)
turn_is i is a t x b (suc n) e p = test_follow (holds x e.env) (suc n) e _ (Goes (suc n) e) (run is a)
    ∙ ap (λ (f : Flow). test (holds x e.env) (suc n) e f (run is a (suc n) e))
    (follow_assoc (run_block b a n e) (turns n x (run_block b) a) (run is a)
    ∙ follow_same n (run_block b a n e) _ (run (i ∷ is) a) (block_frugal b a t n e)
    (λ m d h. ap (λ (f : Flow). f >-> run is a) (turns_same n m x (run_block b) (block_frugal b) a t m d h (omega arith) ∙ sym (p m d)))
    ∙ ap (λ (y : Act). y a n e >-> run (i ∷ is) a) (block_is b)
    ∙ sym (run_lists (instrs b) (i ∷ is) a n e))
