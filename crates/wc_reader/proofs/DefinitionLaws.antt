-- The laws of definitions and libraries.
use Rattle.std.proofs.Common.{◌≡◌, ℕ, suc, [], ◌∷◌, true, false, refl, arith}
use Rattle.wc_syntax.specs.declared.expression.Expr.{Expr}
use Rattle.wc_syntax.specs.declared.outline.Block.{roll-Block}
use Rattle.wc_syntax.specs.declared.definition.Definition.TheVariants as definition
use Rattle.std.specs.Prelude.{nat_eq}
use Rattle.wc_lexer.specs.declared.token.Token.{Token}
use Rattle.wc_lexer.specs.declared.token.Word.TheVariants as word
use Rattle.wc_lexer.specs.declared.token.Symbol.TheVariants as symbol
use Rattle.wc_grammar.specs.Kinds.{kind}
use Rattle.wc_grammar.specs.Kinds.{S_OPEN_BRACE, S_CLOSE_BRACE, S_SEMI, S_IS, S_ARROW, W_CALCFUNCTION, W_CALCJOB, W_WORKCHAIN, W_PROGRAM, W_ARG, W_FILE, W_FETCH, W_PARSE, W_EXIT_CODE}
use Rattle.wc_grammar.specs.Rules.{Rule, Reader}
use Rattle.wc_grammar.specs.Reading.{EXPR}
use Rattle.wc_reader.specs.Grammar.{Heads, Functions, JobLines, JobFiles, Fetches, Parses, Jobs, Chains, Definitions, Libraries}
use Rattle.wc_reader.specs.Reading.{RULE, INSTR, head_at, function_at, line_at, file_at, fetch_at, parse_at, job_at, chain_at, definition_at, DEFINITION, library_at}
use Rattle.wc_grammar.proofs.Laws.{Fine, fine_seq, fine_either, fine_as, fine_many, fine_sign}
use Rattle.wc_grammar.proofs.Exact.{MORE, w, s, fine_name, fine_text, expr_law}
use Rattle.wc_reader.proofs.PartLaws.{ports_law, code_law, rule_law}
use Rattle.wc_reader.proofs.OutlineLaws.{instr_law}

head_law : (n k : ℕ) (t : Token) → nat_eq (kind t) k ≡ true → Fine (k ∷ []) false (W_EXIT_CODE ∷ []) n (Heads n k) (head_at n k) (head_at (suc n) k)
head_law n k t h = fine_seq (fine_sign n k t h) (λ at. fine_seq (fine_name n) (λ x. fine_seq (ports_law n) (λ ins. fine_seq (fine_sign n S_ARROW (s symbol.Arrow) refl) (λ _. fine_seq (ports_law n) (λ outs.
    fine_seq (fine_sign n S_OPEN_BRACE (s symbol.OpenBrace) refl) (λ _. fine_as (λ cs. record { at = at; name = x; inputs = ins; outputs = outs; codes = cs })
    (fine_many n (W_EXIT_CODE ∷ []) (code_law n) refl refl (omega arith))) refl) refl) refl) refl) refl) refl

function_law : (n : ℕ) → Fine (W_CALCFUNCTION ∷ []) false [] n (Functions n) (function_at n) (function_at (suc n))
function_law n = fine_seq (head_law n W_CALCFUNCTION (w word.Calcfunction) refl) (λ h. fine_seq (fine_many n RULE (rule_law (expr_law n)) refl refl (omega arith))
    (λ rs. fine_as (λ _. record { head = h; rules = rs }) (fine_sign n S_CLOSE_BRACE (s symbol.CloseBrace) refl)) refl) refl

line_law : {E : Rule Expr} {e e' : Reader Expr} {m : ℕ} (k : ℕ) (t : Token) → nat_eq (kind t) k ≡ true → Fine EXPR false MORE m E e e' → Fine (k ∷ []) false [] m (JobLines k E) (line_at k e) (line_at k e')
line_law {m = m} k t h l = fine_seq (fine_sign m k t h) (λ at. fine_seq l (λ v. fine_as (λ _. record { at = at; value = v }) (fine_sign m S_SEMI (s symbol.Semi) refl)) refl) refl

file_law : {E : Rule Expr} {e e' : Reader Expr} {m : ℕ} → Fine EXPR false MORE m E e e' → Fine (W_FILE ∷ []) false [] m (JobFiles E) (file_at e) (file_at e')
file_law {m = m} l = fine_seq (fine_sign m W_FILE (w word.File) refl) (λ at. fine_seq (fine_text m) (λ x. fine_seq (fine_sign m S_IS (s symbol.Is) refl) (λ _. fine_seq l
    (λ v. fine_as (λ _. record { at = at; name = x; value = v }) (fine_sign m S_SEMI (s symbol.Semi) refl)) refl) refl) refl) refl

fetch_law : (m : ℕ) → Fine (W_FETCH ∷ []) false [] m Fetches fetch_at fetch_at
fetch_law m = fine_seq (fine_sign m W_FETCH (w word.Fetch) refl) (λ at. fine_seq (fine_text m) (λ x. fine_as (λ _. record { at = at; name = x }) (fine_sign m S_SEMI (s symbol.Semi) refl)) refl) refl

parse_law : {E : Rule Expr} {e e' : Reader Expr} (n : ℕ) → Fine EXPR false MORE n E e e' → Fine (W_PARSE ∷ []) false [] n (Parses n E) (parse_at n e) (parse_at (suc n) e')
parse_law n l = fine_seq (fine_sign n W_PARSE (w word.Parse) refl) (λ _. fine_seq (fine_sign n S_OPEN_BRACE (s symbol.OpenBrace) refl) (λ _. fine_seq (fine_many n RULE (rule_law l) refl refl (omega arith))
    (λ rs. fine_as (λ _. rs) (fine_sign n S_CLOSE_BRACE (s symbol.CloseBrace) refl)) refl) refl) refl

job_law : (n : ℕ) → Fine (W_CALCJOB ∷ []) false [] n (Jobs n) (job_at n) (job_at (suc n))
job_law n = fine_seq (head_law n W_CALCJOB (w word.Calcjob) refl) (λ h. fine_seq (line_law W_PROGRAM (w word.Program) refl (expr_law n)) (λ p.
    fine_seq (fine_many n (W_ARG ∷ []) (line_law W_ARG (w word.Arg) refl (expr_law n)) refl refl (omega arith)) (λ xs.
    fine_seq (fine_many n (W_FILE ∷ []) (file_law (expr_law n)) refl refl (omega arith)) (λ fs.
    fine_seq (fine_many n (W_FETCH ∷ []) (fetch_law n) refl refl (omega arith)) (λ ts. fine_seq (parse_law n (expr_law n)) (λ rs. fine_as (λ _.
    record { head = h; program = p; args = xs; files = fs; fetch = ts; parse = rs }) (fine_sign n S_CLOSE_BRACE (s symbol.CloseBrace) refl)) refl) refl) refl) refl) refl) refl

chain_law : (n : ℕ) → Fine (W_WORKCHAIN ∷ []) false [] n (Chains n) (chain_at n) (chain_at (suc n))
chain_law n = fine_seq (head_law n W_WORKCHAIN (w word.Workchain) refl) (λ h. fine_seq (fine_many n INSTR (instr_law n) refl refl (omega arith))
    (λ is. fine_as (λ _. record { head = h; outline = roll-Block (record { instrs = is }) }) (fine_sign n S_CLOSE_BRACE (s symbol.CloseBrace) refl)) refl) refl

definition_law : (n : ℕ) → Fine DEFINITION false [] n (Definitions n) (definition_at n) (definition_at (suc n))
definition_law n = fine_either (W_CALCFUNCTION ∷ []) (fine_as definition.Function (function_law n)).law
    (fine_either (W_CALCJOB ∷ []) (fine_as definition.Job (job_law n)).law (fine_as definition.Chain (chain_law n)) refl refl) refl refl

pub library_law : (n : ℕ) → Fine DEFINITION true DEFINITION n (Libraries n) (library_at n) (library_at (suc n))
library_law n = fine_many n DEFINITION (definition_law n) refl refl (omega arith)
