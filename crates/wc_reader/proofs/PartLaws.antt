-- The laws of ports, exit codes and rules.
use Rattle.std.proofs.Common.{◌≡◌, ℕ, suc, [], ◌∷◌, true, false, Some, None, refl}
use Rattle.wc_syntax.specs.declared.expression.Expr.{Expr}
use Rattle.wc_syntax.specs.declared.definition.Rule.TheVariants as line
use Rattle.std.specs.Prelude.{nat_eq}
use Rattle.wc_lexer.specs.declared.token.Token.{Token}
use Rattle.wc_lexer.specs.declared.token.Word.TheVariants as word
use Rattle.wc_lexer.specs.declared.token.Symbol.TheVariants as symbol
use Rattle.wc_grammar.specs.Kinds.{kind}
use Rattle.wc_grammar.specs.Kinds.{K_NAME, S_OPEN, S_CLOSE, S_COMMA, S_SEMI, S_COLON, S_QUESTION, S_IS, W_EXIT_CODE, W_INVALIDATES, W_LET, W_OUT, W_EXIT, W_IF}
use Rattle.wc_grammar.specs.Rules.{Rule, Reader}
use Rattle.wc_grammar.specs.Reading.{EXPR}
use Rattle.wc_reader.specs.Parts.{types, Ports, PortLists, ExitCodes, Exits, Sets, RuleLines}
use Rattle.wc_reader.specs.Reading.{port_at, ports_at, code_at, exit_at, set_at, rule_at, RULE}
use Rattle.wc_grammar.proofs.Laws.{Fine, fine_done, fine_seq, fine_either, fine_wide, fine_as, fine_sign, fine_flag, fine_between, fine_pick}
use Rattle.wc_grammar.proofs.Exact.{MORE, w, s, fine_name, fine_number, fine_text}

port_law : (m : ℕ) → Fine (K_NAME ∷ []) false [] m Ports port_at port_at
port_law m = fine_seq (fine_name m) (λ x. fine_seq (fine_flag m S_QUESTION (s symbol.Question) refl) (λ o. fine_seq (fine_sign m S_COLON (s symbol.Colon) refl)
    (λ _. fine_as (λ k. record { at = x.at; name = x; optional = o; kind = k.0 }) (fine_pick m types (w word.Int) _ refl)) refl) refl) refl

pub ports_law : (n : ℕ) → Fine (S_OPEN ∷ []) false [] n (PortLists n) (ports_at n) (ports_at (suc n))
ports_law n = fine_seq (fine_sign n S_OPEN (s symbol.Open) refl) (λ _. fine_seq (fine_between n S_COMMA (s symbol.Comma) (K_NAME ∷ []) refl (port_law n) refl refl)
    (λ ps. fine_as (λ _. ps) (fine_sign n S_CLOSE (s symbol.Close) refl)) refl) refl

pub code_law : (m : ℕ) → Fine (W_EXIT_CODE ∷ []) false [] m ExitCodes code_at code_at
code_law m = fine_seq (fine_sign m W_EXIT_CODE (w word.ExitCode) refl) (λ at. fine_seq (fine_number m) (λ x. fine_seq (fine_text m) (λ t. fine_seq (fine_flag m W_INVALIDATES (w word.Invalidates) refl)
    (λ i. fine_as (λ _. record { at = at; status = x; message = t; invalidates = i }) (fine_sign m S_SEMI (s symbol.Semi) refl)) refl) refl) refl) refl

pub exit_law : {E : Rule Expr} {e e' : Reader Expr} {m : ℕ} → Fine EXPR false MORE m E e e' → Fine (W_EXIT ∷ []) false [] m (Exits E) (exit_at e) (exit_at e')
exit_law {m = m} l = fine_seq (fine_sign m W_EXIT (w word.Exit) refl) (λ at. fine_seq (fine_number m) (λ x. fine_seq
    (fine_wide (W_IF ∷ []) (W_IF ∷ MORE) (fine_either (W_IF ∷ []) (fine_seq (fine_sign m W_IF (w word.If) refl) (λ _. fine_as Some l) refl).law (fine_done m None) refl refl) refl refl)
    (λ c. fine_as (λ _. record { at = at; status = x; condition = c }) (fine_sign m S_SEMI (s symbol.Semi) refl)) refl) refl) refl

-- t is a token of the kind k
pub set_law : {E : Rule Expr} {e e' : Reader Expr} {m : ℕ} (k : ℕ) (t : Token) → nat_eq (kind t) k ≡ true → Fine EXPR false MORE m E e e'
    → Fine (k ∷ []) false [] m (Sets k E) (set_at k e) (set_at k e')
set_law {m = m} k t h l = fine_seq (fine_sign m k t h) (λ at. fine_seq (fine_name m) (λ x. fine_seq (fine_sign m S_IS (s symbol.Is) refl) (λ _. fine_seq l
    (λ v. fine_as (λ _. (at, x, v)) (fine_sign m S_SEMI (s symbol.Semi) refl)) refl) refl) refl) refl

pub rule_law : {E : Rule Expr} {e e' : Reader Expr} {m : ℕ} → Fine EXPR false MORE m E e e' → Fine RULE false [] m (RuleLines E) (rule_at e) (rule_at e')
rule_law l = fine_either (W_LET ∷ []) (fine_as (λ x. line.Let x.0 x.1 x.2) (set_law W_LET (w word.Let) refl l)).law (fine_either (W_OUT ∷ []) (fine_as (λ x. line.Out x.0 x.1 x.2) (set_law W_OUT (w word.Out) refl l)).law (fine_as line.Exit (exit_law l)) refl refl) refl refl
