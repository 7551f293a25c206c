-- The laws of the outlines of work chains.
use Rattle.std.proofs.Common.{ℕ, zero, suc, List, [], ◌∷◌, ◌++◌, true, false, Some, None, refl, arith}
use Rattle.wc_syntax.specs.declared.expression.Expr.{Expr}
use Rattle.wc_syntax.specs.declared.outline.Block.{Block, roll-Block}
use Rattle.wc_syntax.specs.declared.outline.Arm.{roll-Arm}
use Rattle.wc_syntax.specs.declared.outline.Instr.{Instr}
use Rattle.wc_syntax.specs.declared.outline.Stmt.TheVariants as stmt
use Rattle.wc_syntax.specs.declared.outline.Instr.TheVariants as instr
use Rattle.wc_lexer.specs.declared.token.Word.TheVariants as word
use Rattle.wc_lexer.specs.declared.token.Symbol.TheVariants as symbol
use Rattle.wc_grammar.specs.Kinds.{K_NAME, K_NUMBER, S_OPEN_BRACE, S_CLOSE_BRACE, S_OPEN, S_CLOSE, S_COMMA, S_SEMI, S_COLON, S_IS, W_OUT, W_EXIT, W_IF, W_STEP, W_ELIF, W_ELSE, W_WHILE, W_RETURN, W_CTX, W_CALL, W_TO, W_APPEND}
use Rattle.wc_grammar.specs.Rules.{Rule, Reader}
use Rattle.wc_grammar.specs.Reading.{EXPR}
use Rattle.wc_reader.specs.Outlines.{ways, Args, Targets, Calls, Assigns, Stmts, Steps, Blocks, Arms, Otherwise, Ifs, Whiles, Returns, Instrs}
use Rattle.wc_reader.specs.Reading.{arg_at, target_at, call_at, assign_at, stmt_at, STMT, step_at, INSTR, block_at, arm_at, otherwise_at, if_at, while_at, return_at, instr_at}
use Rattle.wc_grammar.proofs.Laws.{Law, Fine, fine_done, fine_seq, law_after, law_either, fine_either, law_wide, fine_wide, fine_turns, fine_as, fine_many, fine_sign, fine_between, fine_pick}
use Rattle.wc_grammar.proofs.Exact.{MORE, w, s, fine_name, fine_number, ctx_law, expr_law, none_law}
use Rattle.wc_reader.proofs.PartLaws.{exit_law, set_law}

arg_law : {E : Rule Expr} {e e' : Reader Expr} {m : ℕ} → Fine EXPR false MORE m E e e' → Fine (K_NAME ∷ []) false MORE m (Args E) (arg_at e) (arg_at e')
arg_law {m = m} l = fine_seq (fine_name m) (λ x. fine_seq (fine_sign m S_COLON (s symbol.Colon) refl) (λ _. fine_as (λ v. record { port = x; value = v }) l) refl) refl

target_law : (m : ℕ) → Fine (W_TO ∷ W_APPEND ∷ []) false [] m Targets target_at target_at
target_law m = fine_seq (fine_pick m ways (w word.To) _ refl) (λ p. fine_seq (ctx_law m) (λ c. fine_as (λ _. (p.0, c.1)) (fine_sign m S_SEMI (s symbol.Semi) refl)) refl) refl

call_law : {E : Rule Expr} {e e' : Reader Expr} (n : ℕ) → Fine EXPR false MORE n E e e' → Fine (W_CALL ∷ []) false [] n (Calls n E) (call_at n e) (call_at (suc n) e')
call_law n l = fine_seq (fine_sign n W_CALL (w word.Call) refl) (λ at. fine_seq (fine_name n) (λ x. fine_seq (fine_sign n S_OPEN (s symbol.Open) refl) (λ _.
    fine_seq (fine_between n S_COMMA (s symbol.Comma) (K_NAME ∷ []) refl (arg_law l) refl refl) (λ xs. fine_seq (fine_sign n S_CLOSE (s symbol.Close) refl) (λ _.
    fine_as (λ t. record { at = at; callee = x; args = xs; append = t.0; key = t.1 }) (target_law n)) refl) refl) refl) refl) refl

assign_law : {E : Rule Expr} {e e' : Reader Expr} {m : ℕ} → Fine EXPR false MORE m E e e' → Fine (W_CTX ∷ []) false [] m (Assigns E) (assign_at e) (assign_at e')
assign_law {m = m} l = fine_seq (ctx_law m) (λ c. fine_seq (fine_sign m S_IS (s symbol.Is) refl) (λ _. fine_seq l (λ v. fine_as (λ _. stmt.Ctx c.0 c.1 v) (fine_sign m S_SEMI (s symbol.Semi) refl)) refl) refl) refl

stmt_law : {E : Rule Expr} {e e' : Reader Expr} (n : ℕ) → Fine EXPR false MORE n E e e' → Fine STMT false [] n (Stmts n E) (stmt_at n e) (stmt_at (suc n) e')
stmt_law n l = fine_either (W_CTX ∷ []) (assign_law l).law (fine_either (W_OUT ∷ []) (fine_as (λ x. stmt.Out x.0 x.1 x.2) (set_law W_OUT (w word.Out) refl l)).law
    (fine_either (W_EXIT ∷ []) (fine_as stmt.Exit (exit_law l)).law (fine_as stmt.Call (call_law n l)) refl refl) refl refl) refl refl

step_law : {E : Rule Expr} {e e' : Reader Expr} (n : ℕ) → Fine EXPR false MORE n E e e' → Fine (W_STEP ∷ []) false [] n (Steps n E) (step_at n e) (step_at (suc n) e')
step_law n l = fine_seq (fine_sign n W_STEP (w word.Step) refl) (λ at. fine_seq (fine_name n) (λ x. fine_seq (fine_sign n S_OPEN_BRACE (s symbol.OpenBrace) refl) (λ _.
    fine_seq (fine_many n STMT (stmt_law n l) refl refl (omega arith)) (λ ss. fine_as (λ _. record { at = at; name = x; stmts = ss }) (fine_sign n S_CLOSE_BRACE (s symbol.CloseBrace) refl)) refl) refl) refl) refl

-- what an instruction may go on with
abbrev pub OTHERS : List ℕ
OTHERS = W_ELIF ∷ W_ELSE ∷ []

block_law : {I : Rule Instr} {i i' : Reader Instr} (n : ℕ) → Fine INSTR false OTHERS n I i i' → Fine (S_OPEN_BRACE ∷ []) false [] n (Blocks n I) (block_at n i) (block_at (suc n) i')
block_law n l = fine_seq (fine_sign n S_OPEN_BRACE (s symbol.OpenBrace) refl) (λ _. fine_seq (fine_many n INSTR l refl refl (omega arith))
    (λ is. fine_as (λ _. roll-Block (record { instrs = is })) (fine_sign n S_CLOSE_BRACE (s symbol.CloseBrace) refl)) refl) refl

elif_law : {E : Rule Expr} {B : Rule Block} {e e' : Reader Expr} {b b' : Reader Block} {m : ℕ} → Fine EXPR false MORE m E e e' → Fine (S_OPEN_BRACE ∷ []) false [] m B b b'
    → Fine (W_ELIF ∷ []) false [] m (Arms W_ELIF E B) (arm_at W_ELIF e b) (arm_at W_ELIF e' b')
elif_law {m = m} l k = fine_seq (fine_sign m W_ELIF (w word.Elif) refl) (λ at. fine_seq l (λ v. fine_as (λ x. (at, roll-Arm (record { condition = v; block = x }))) k) refl) refl

arm_law : {E : Rule Expr} {B : Rule Block} {e e' : Reader Expr} {b b' : Reader Block} {m : ℕ} → Fine EXPR false MORE m E e e' → Fine (S_OPEN_BRACE ∷ []) false [] m B b b'
    → Fine (W_IF ∷ []) false [] (suc m) (Arms W_IF E B) (arm_at W_IF e b) (arm_at W_IF e' b')
arm_law {m = m} l k = record {
  law = law_after (fine_sign (suc m) W_IF (w word.If) refl) (λ at. fine_seq l (λ v. fine_as (λ x. (at, roll-Arm (record { condition = v; block = x }))) k) refl) refl;
  some = (fine_seq (fine_sign m W_IF (w word.If) refl) (λ at. fine_seq l (λ v. fine_as (λ x. (at, roll-Arm (record { condition = v; block = x }))) k) refl) refl).some;
}

otherwise_law : {B : Rule Block} {b b' : Reader Block} {m : ℕ} → Fine (S_OPEN_BRACE ∷ []) false [] m B b b'
    → Fine (W_ELSE ∷ []) true (W_ELSE ∷ []) m (Otherwise B) (otherwise_at b) (otherwise_at b')
otherwise_law {m = m} k = fine_either (W_ELSE ∷ []) (fine_seq (fine_sign m W_ELSE (w word.Else) refl) (λ _. fine_as Some k) refl).law (fine_done m None) refl refl

if_law : {E : Rule Expr} {B : Rule Block} {e e' : Reader Expr} {b b' : Reader Block} (n : ℕ) → Fine EXPR false MORE n E e e' → Fine (S_OPEN_BRACE ∷ []) false [] n B b b'
    → Law (W_IF ∷ []) false OTHERS (suc n) (Ifs n E B) (if_at n e b) (if_at (suc n) e' b')
if_law n l k = law_wide (W_IF ∷ []) OTHERS (law_after (arm_law l k)
    (λ a. fine_seq (fine_turns n (W_ELIF ∷ []) (λ xs. (fine_as (λ x. xs ++ x.1 ∷ []) (elif_law l k)).law) refl refl (omega arith) (a.1 ∷ []))
    (λ xs. fine_as (λ o. instr.If a.0 xs o) (otherwise_law k)) refl) refl) refl refl

while_law : {E : Rule Expr} {B : Rule Block} {e e' : Reader Expr} {b b' : Reader Block} {m : ℕ} → Fine EXPR false MORE m E e e' → Fine (S_OPEN_BRACE ∷ []) false [] m B b b'
    → Law (W_WHILE ∷ []) false [] (suc m) (Whiles E B) (while_at e b) (while_at e' b')
while_law {m = m} l k = law_after (fine_sign (suc m) W_WHILE (w word.While) refl) (λ at. fine_seq l (λ v. fine_as (λ x. instr.While at v x) k) refl) refl

return_law : (m : ℕ) → Fine (W_RETURN ∷ []) false [] m Returns return_at return_at
return_law m = fine_seq (fine_sign m W_RETURN (w word.Return) refl) (λ at. fine_seq (fine_either (K_NUMBER ∷ []) (fine_as Some (fine_number m)).law (fine_done m None) refl refl)
    (λ k. fine_as (λ _. instr.Return at k) (fine_sign m S_SEMI (s symbol.Semi) refl)) refl) refl

pub instr_law : (n : ℕ) → Fine INSTR false OTHERS n (Instrs n) (instr_at n) (instr_at (suc n))
instr_law zero = fine_wide INSTR OTHERS (fine_either (W_IF ∷ W_WHILE ∷ []) (none_law (W_IF ∷ W_WHILE ∷ []) _)
    (fine_either (W_STEP ∷ []) (fine_as instr.Step (step_law zero (expr_law zero))).law (return_law zero) refl refl) refl refl) refl refl
instr_law (suc n) = fine_wide INSTR OTHERS (fine_either (W_IF ∷ W_WHILE ∷ [])
    (law_either (W_IF ∷ []) (if_law n (expr_law n) (block_law n (instr_law n))) (while_law (expr_law n) (block_law n (instr_law n))) refl refl)
    (fine_either (W_STEP ∷ []) (fine_as instr.Step (step_law (suc n) (expr_law (suc n)))).law (return_law (suc n)) refl refl) refl refl) refl refl
