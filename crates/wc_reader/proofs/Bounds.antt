-- Readings at bounds that are not written as successors.
use Rattle.std.proofs.Common.{◌≡◌, ℕ, zero, suc, ◌+◌, ◌-◌, ◌<◌, List, [], ◌∷◌, Ok, refl, sym, ap, ◌∙◌, arith}
use Rattle.wc_syntax.specs.declared.expression.Expr.{Expr}
use Rattle.wc_syntax.specs.declared.outline.Block.{Block}
use Rattle.wc_syntax.specs.declared.outline.Arm.{Arm}
use Rattle.wc_grammar.specs.Kinds.{W_IF, W_WHILE, W_ELIF}
use Rattle.wc_grammar.specs.Rules.{Tok, Reader, ◌>>=◌, done, either, seq, turns}
use Rattle.wc_grammar.specs.Reading.{expr_at}
use Rattle.wc_grammar.proofs.Bounds.{turns_at as turns_of}
use Rattle.wc_reader.specs.Reading.{block_at, arm_at, elif_at, end_if_at, if_at, branch_in, branch_at, plain_at, instr_at}

pub turns_at : {A : Type 0} (n i : ℕ) (ks : List ℕ) (p : A → Reader A) (a : A) (ts : List Tok) → i < n
    → turns (n - i) ks p a ts ≡ either ks (seq (p a) (turns (n - (i + 1)) ks p)) (done a) ts
turns_at n i ks p a ts h = turns_of n i ks p a ts h

pub instr_is : (n : ℕ) (ts : List Tok) → instr_at n ts ≡ either (W_IF ∷ W_WHILE ∷ []) (branch_at n) (plain_at n (expr_at n)) ts
instr_is zero ts = refl
instr_is (suc n) ts = refl

pub branch_below : (n : ℕ) (ts : List Tok) → 0 < n → branch_at n ts ≡ branch_in (n - 1) (expr_at (n - 1)) (block_at (n - 1) (instr_at (n - 1))) ts
branch_below n ts h = let p : n ≡ suc (n - 1) = omega arith in ap (λ (k : ℕ). branch_at k ts) p

-- an `if` by its parts
pub if_read : (n : ℕ) (e : Reader Expr) (b : Reader Block) (ts : List Tok) (at : ℕ) (first : Arm) (rest : List Tok) (arms more : List Arm) (last : List Tok)
    → arm_at W_IF e b ts ≡ Ok ((at, first), rest) → arms ≡ first ∷ [] → turns n (W_ELIF ∷ []) (elif_at e b) arms rest ≡ Ok (more, last)
    → if_at n e b ts ≡ end_if_at b at more last
if_read n e b ts at first rest arms more last h k l =
    ap (λ z. z >>= (λ x. seq (turns n (W_ELIF ∷ []) (elif_at e b) (x.0.1 ∷ [])) (λ xs. end_if_at b x.0.0 xs) x.1)) h
    ∙ ap (λ z. z >>= (λ x. end_if_at b at x.0 x.1)) (ap (λ (z : List Arm). turns n (W_ELIF ∷ []) (elif_at e b) z rest) (sym k) ∙ l)
