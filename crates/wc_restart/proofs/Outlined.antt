-- What a fold makes of a chain's outline: of its steps, its conditions and its blocks.
use Rattle.std.proofs.Common.{◌≡◌, ◌∙◌, ap, refl, ℕ, List, [], ◌∷◌, map, Some}
use Rattle.std.specs.Prelude.{codes}
use Rattle.wc_handlers.specs.declared.spec.Handler.{Handler}
use Rattle.wc_handlers.specs.declared.spec.Remedy.{Remedy}
use Rattle.wc_handlers.specs.declared.spec.Remedy.TheVariants as remedy
use Rattle.wc_handlers.specs.declared.spec.Spec.{Spec}
use Rattle.wc_syntax.specs.declared.definition.Definition.{Definition}
use Rattle.wc_syntax.specs.declared.definition.Port.{Port}
use Rattle.wc_syntax.specs.declared.expression.Expr.{Expr}
use Rattle.wc_syntax.specs.declared.outline.Arm.{Arm, Arm-F, fold-Arm}
use Rattle.wc_syntax.specs.declared.outline.Block.{Block, Block-F, fold-Block}
use Rattle.wc_syntax.specs.declared.outline.Instr.{Instr, Instr-F, fold-Instr}
use Rattle.wc_syntax.specs.declared.outline.Stmt.{Stmt}
use Rattle.wc_restart.specs.Pieces.{word, input, plain, call_with, step, block, arm, either, while}
use Rattle.wc_restart.specs.Ports.{inputs_of, asked_of, given_of}
use Rattle.wc_restart.specs.Chains.{fresh_or_fixed, by_priority, remedied, arm_of, counted, good, unhandled, turn, chain_of}
use Rattle.wc_restart.specs.Sources.{of_fix}
use Rattle.wc_restart.specs.Statements.{goes_on, has_succeeded, is_one_of, setting, counting, passing, ending, mending, failing, closing}
use Rattle.wc_restart.proofs.Folded.{step_folded, block_folded, arm_folded, either_folded, while_folded}

module _ {I A B : Type 0} (f : Instr-F I A B → I) (g : Arm-F I A B → A) (h : Block-F I A B → B) where
  abbrev instr_of : Instr → I
  instr_of = fold-Instr I A B f g h

  abbrev arm_to : Arm → A
  arm_to = fold-Arm I A B f g h

  abbrev block_to : Block → B
  block_to = fold-Block I A B f g h

  -- ---- what it makes of a piece, over what it makes of the parts

  abbrev pub step_made : List ℕ → List Stmt → I
  step_made name stmts = f (Instr-F.Step (record { at = 0; name = word name; stmts = stmts }))

  abbrev pub block_made : List I → B
  block_made is = h (record { instrs = is })

  abbrev pub arm_made : Expr → List I → A
  arm_made e is = g (record { condition = e; block = block_made is })

  abbrev pub either_made : List A → List I → I
  either_made arms is = f (Instr-F.If 0 arms (Some (block_made is)))

  abbrev pub while_made : Expr → List I → I
  while_made e is = f (Instr-F.While 0 e (block_made is))

  block_by : (is : List Instr) (xs : List I) → map instr_of is ≡ xs → block_to (block is) ≡ block_made xs
  block_by is xs e = block_folded f g h is ∙ ap block_made e

  arm_by : (c : Expr) (is : List Instr) (xs : List I) → map instr_of is ≡ xs → arm_to (arm c is) ≡ arm_made c xs
  arm_by c is xs e = arm_folded f g h c is ∙ ap (λ b. g (record { condition = c; block = b })) (block_by is xs e)

  either_by : (arms : List Arm) (done : List A) (is : List Instr) (xs : List I) → map arm_to arms ≡ done → map instr_of is ≡ xs → instr_of (either arms is) ≡ either_made done xs
  either_by arms done is xs d e = either_folded f g h arms is ∙ λ i. f (Instr-F.If 0 (d i) (Some (block_by is xs e i)))

  while_by : (c : Expr) (is : List Instr) (xs : List I) → map instr_of is ≡ xs → instr_of (while c is) ≡ while_made c xs
  while_by c is xs e = while_folded f g h c is ∙ ap (λ b. f (Instr-F.While 0 c b)) (block_by is xs e)

  -- ---- the chain

  abbrev pub calls_made : (first second callee key : List ℕ) → List Port → I
  calls_made first second callee key ports =
      either_made (arm_made (plain (codes "fresh")) (step_made first (call_with callee input ports key ∷ []) ∷ []) ∷ [])
      (step_made second (call_with callee of_fix ports key ∷ []) ∷ [])

  calls_folded : (first second callee key : List ℕ) (ports : List Port)
      → instr_of (fresh_or_fixed first second callee key ports) ≡ calls_made first second callee key ports
  calls_folded first second callee key ports =
      either_by _ _ _ _
      (λ i. arm_by (plain (codes "fresh")) (step first (call_with callee input ports key ∷ []) ∷ []) _ (λ j. step_folded f g h first (call_with callee input ports key ∷ []) j ∷ []) i ∷ [])
      (λ i. step_folded f g h second (call_with callee of_fix ports key ∷ []) i ∷ [])

  abbrev pub remedy_made : List Definition → Remedy → List I
  remedy_made library (remedy.Abort status) = step_made (codes "stop") (ending status) ∷ []
  remedy_made library (remedy.Call name) =
      calls_made (codes "mend") (codes "remend") name (codes "fix") (inputs_of name library) ∷ (step_made (codes "mended") mending ∷ [])

  remedy_folded : (library : List Definition) (r : Remedy) → map instr_of (remedied library r) ≡ remedy_made library r
  remedy_folded library (remedy.Abort status) = λ i. step_folded f g h (codes "stop") (ending status) i ∷ []
  remedy_folded library (remedy.Call name) =
      λ i. calls_folded (codes "mend") (codes "remend") name (codes "fix") (inputs_of name library) i ∷ (step_folded f g h (codes "mended") mending i ∷ [])

  abbrev pub handler_made : List Definition → Handler → A
  handler_made library k = arm_made (is_one_of k.statuses) (remedy_made library k.remedy)

  handlers_folded : (library : List Definition) (ks : List Handler) → map arm_to (map (arm_of library) ks) ≡ map (handler_made library) ks
  handlers_folded library [] = refl
  handlers_folded library (k ∷ ks) =
      λ i. arm_by (is_one_of k.statuses) (remedied library k.remedy) _ (remedy_folded library k.remedy) i ∷ handlers_folded library ks i

  abbrev pub arms_made : List Definition → Spec → List A
  arms_made library s =
      arm_made has_succeeded (step_made (codes "good") (passing (given_of s.job library)) ∷ []) ∷ map (handler_made library) (by_priority s.handlers)

  arms_folded : (library : List Definition) (s : Spec) → map arm_to (good (given_of s.job library) ∷ map (arm_of library) (by_priority s.handlers)) ≡ arms_made library s
  arms_folded library s =
      λ i. arm_by has_succeeded (step (codes "good") (passing (given_of s.job library)) ∷ []) _ (λ j. step_folded f g h (codes "good") (passing (given_of s.job library)) j ∷ []) i
      ∷ handlers_folded library (by_priority s.handlers) i

  abbrev pub turn_made : List Definition → Spec → List I
  turn_made library s =
      calls_made (codes "start") (codes "again") s.job (codes "job") (asked_of s.job library)
      ∷ (step_made (codes "counted") counting ∷ (either_made (arms_made library s) (step_made (codes "unhandled") failing ∷ []) ∷ []))

  turn_folded : (library : List Definition) (s : Spec) → map instr_of (turn library s) ≡ turn_made library s
  turn_folded library s =
      λ i. calls_folded (codes "start") (codes "again") s.job (codes "job") (asked_of s.job library) i
      ∷ (step_folded f g h (codes "counted") counting i
      ∷ (either_by (good (given_of s.job library) ∷ map (arm_of library) (by_priority s.handlers)) (arms_made library s) (unhandled ∷ []) (step_made (codes "unhandled") failing ∷ []) (arms_folded library s) (λ j. step_folded f g h (codes "unhandled") failing j ∷ []) i ∷ []))

  abbrev pub outline_made : List Definition → Spec → B
  outline_made library s =
      block_made (step_made (codes "setup") setting ∷ (while_made (goes_on s.most) (turn_made library s) ∷ (step_made (codes "finish") closing ∷ [])))

  pub outline_folded : (library : List Definition) (s : Spec) → block_to (chain_of library s).outline ≡ outline_made library s
  outline_folded library s =
      block_by _ _ (λ i. step_folded f g h (codes "setup") setting i ∷ (while_by (goes_on s.most) (turn library s) (turn_made library s) (turn_folded library s) i ∷ (step_folded f g h (codes "finish") closing i ∷ [])))
