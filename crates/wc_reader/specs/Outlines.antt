-- The grammar of the outlines of work chains.
use Rattle.std.specs.Prelude.{ℕ, zero, suc, Bool, true, false, List, [], ◌∷◌, ◌++◌, Option, Some, None}
use Rattle.wc_syntax.specs.declared.expression.Name.{Name}
use Rattle.wc_syntax.specs.declared.expression.Expr.{Expr}
use Rattle.wc_syntax.specs.declared.outline.CallArg.{CallArg}
use Rattle.wc_syntax.specs.declared.outline.CallStmt.{CallStmt}
use Rattle.wc_syntax.specs.declared.outline.Stmt.{Stmt}
use Rattle.wc_syntax.specs.declared.outline.Step.{Step}
use Rattle.wc_syntax.specs.declared.outline.Block.{Block, roll-Block}
use Rattle.wc_syntax.specs.declared.outline.Arm.{Arm, roll-Arm}
use Rattle.wc_syntax.specs.declared.outline.Instr.{Instr}
use Rattle.wc_syntax.specs.declared.outline.Stmt.TheVariants as stmt
use Rattle.wc_syntax.specs.declared.outline.Instr.TheVariants as instr
use Rattle.wc_grammar.specs.Kinds.{S_OPEN_BRACE, S_CLOSE_BRACE, S_OPEN, S_CLOSE, S_COMMA, S_SEMI, S_COLON, S_IS, W_OUT, W_IF, W_STEP, W_ELIF, W_ELSE, W_WHILE, W_RETURN, W_CTX, W_CALL, W_TO, W_APPEND}
use Rattle.wc_grammar.specs.Rules.{Rule, Done, Never, Seq, Either, Turns, As, Many, Sign, Between, Pick}
use Rattle.wc_grammar.specs.Grammar.{NAME, NUMBER, Member, Exprs}
use Rattle.wc_reader.specs.Parts.{Exits, Sets}

-- arg := NAME ':' expr
abbrev pub Args : Rule Expr → Rule CallArg
Args E = Seq NAME (λ x. Seq (Sign S_COLON) (λ _. As E (λ e. record { port = x; value = e })))

-- the words `to` and `append`
abbrev pub ways : List (ℕ × Bool)
ways = (W_TO, false) ∷ (W_APPEND, true) ∷ []

-- ('to'|'append') 'ctx' '.' NAME ';', which stands for whether it appends, and the name
abbrev pub Targets : Rule (Bool × Name)
Targets = Seq (Pick ways) (λ p. Seq (Member W_CTX) (λ c. As (Sign S_SEMI) (λ _. (p.0, c.1))))

-- 'call' NAME '(' [ arg (',' arg)* ] ')' ('to'|'append') 'ctx' '.' NAME ';'
abbrev pub Calls : ℕ → Rule Expr → Rule CallStmt
Calls n E = Seq (Sign W_CALL) (λ at. Seq NAME (λ x. Seq (Sign S_OPEN) (λ _. Seq (Between n S_COMMA (Args E)) (λ xs. Seq (Sign S_CLOSE) (λ _.
    As Targets (λ t. record { at = at; callee = x; args = xs; append = t.0; key = t.1 }))))))

-- 'ctx' '.' NAME '=' expr ';'
abbrev pub Assigns : Rule Expr → Rule Stmt
Assigns E = Seq (Member W_CTX) (λ c. Seq (Sign S_IS) (λ _. Seq E (λ e. As (Sign S_SEMI) (λ _. stmt.Ctx c.0 c.1 e))))

-- stmt := 'ctx' '.' NAME '=' expr ';' | 'out' NAME '=' expr ';' | exit | 'call' ..
abbrev pub Stmts : ℕ → Rule Expr → Rule Stmt
Stmts n E = Either (Assigns E) (Either (As (Sets W_OUT E) (λ x. stmt.Out x.0 x.1 x.2)) (Either (As (Exits E) stmt.Exit) (As (Calls n E) stmt.Call)))

-- 'step' NAME '{' stmt* '}'
abbrev pub Steps : ℕ → Rule Expr → Rule Step
Steps n E = Seq (Sign W_STEP) (λ at. Seq NAME (λ x. Seq (Sign S_OPEN_BRACE) (λ _. Seq (Many n (Stmts n E)) (λ ss. As (Sign S_CLOSE_BRACE) (λ _. record { at = at; name = x; stmts = ss })))))

-- block := '{' instr* '}'
abbrev pub Blocks : ℕ → Rule Instr → Rule Block
Blocks n I = Seq (Sign S_OPEN_BRACE) (λ _. Seq (Many n I) (λ is. As (Sign S_CLOSE_BRACE) (λ _. roll-Block (record { instrs = is }))))

-- ('if'|'elif') expr block, which stands for the offset of the word, and the arm
abbrev pub Arms : ℕ → Rule Expr → Rule Block → Rule (ℕ × Arm)
Arms w E B = Seq (Sign w) (λ at. Seq E (λ e. As B (λ b. (at, roll-Arm (record { condition = e; block = b })))))

-- 'elif' expr block, behind the arms before it
abbrev pub Elifs : Rule Expr → Rule Block → List Arm → Rule (List Arm)
Elifs E B xs = As (Arms W_ELIF E B) (λ x. xs ++ x.1 ∷ [])

-- ['else' block]
abbrev pub Otherwise : Rule Block → Rule (Option Block)
Otherwise B = Either (Seq (Sign W_ELSE) (λ _. As B Some)) (Done None)

-- 'if' expr block ('elif' expr block)* ['else' block]
abbrev pub Ifs : ℕ → Rule Expr → Rule Block → Rule Instr
Ifs n E B = Seq (Arms W_IF E B) (λ x. Seq (Turns n (Elifs E B) (x.1 ∷ [])) (λ xs. As (Otherwise B) (λ o. instr.If x.0 xs o)))

-- 'while' expr block
abbrev pub Whiles : Rule Expr → Rule Block → Rule Instr
Whiles E B = Seq (Sign W_WHILE) (λ at. Seq E (λ e. As B (λ b. instr.While at e b)))

-- 'return' [NUMBER] ';'
abbrev pub Returns : Rule Instr
Returns = Seq (Sign W_RETURN) (λ at. Seq (Either (As NUMBER Some) (Done None)) (λ k. As (Sign S_SEMI) (λ _. instr.Return at k)))

-- instr := 'if' .. | 'while' .. | 'step' .. | 'return' [NUMBER] ';'
-- Blocks nest at most n deep in it.
abbrev pub Instrs : ℕ → Rule Instr
Instrs zero = Either Never (Either (As (Steps zero (Exprs zero)) instr.Step) Returns)
Instrs (suc n) = Either (Either (Ifs n (Exprs n) (Blocks n (Instrs n))) (Whiles (Exprs n) (Blocks n (Instrs n)))) (Either (As (Steps (suc n) (Exprs (suc n))) instr.Step) Returns)
