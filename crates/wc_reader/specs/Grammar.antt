-- The grammar of definitions and libraries.
use Rattle.std.specs.Prelude.{ℕ, List}
use Rattle.wc_syntax.specs.declared.expression.Expr.{Expr}
use Rattle.wc_syntax.specs.declared.outline.Block.{roll-Block}
use Rattle.wc_syntax.specs.declared.definition.Head.{Head}
use Rattle.wc_syntax.specs.declared.definition.Function.{Function}
use Rattle.wc_syntax.specs.declared.definition.JobLine.{JobLine}
use Rattle.wc_syntax.specs.declared.definition.JobFile.{JobFile}
use Rattle.wc_syntax.specs.declared.definition.Fetch.{Fetch}
use Rattle.wc_syntax.specs.declared.definition.Job.{Job}
use Rattle.wc_syntax.specs.declared.definition.Chain.{Chain}
use Rattle.wc_syntax.specs.declared.definition.Definition.{Definition}
use Rattle.wc_syntax.specs.declared.definition.Rule.{Rule as Line}
use Rattle.wc_syntax.specs.declared.definition.Definition.TheVariants as definition
use Rattle.wc_grammar.specs.Kinds.{S_OPEN_BRACE, S_CLOSE_BRACE, S_SEMI, S_IS, S_ARROW, W_CALCFUNCTION, W_CALCJOB, W_WORKCHAIN, W_PROGRAM, W_ARG, W_FILE, W_FETCH, W_PARSE}
use Rattle.wc_grammar.specs.Rules.{Tok, Rule, Seq, Either, As, Many, Sign}
use Rattle.wc_grammar.specs.Grammar.{NAME, TEXT, Exprs}
use Rattle.wc_reader.specs.Parts.{PortLists, ExitCodes, RuleLines}
use Rattle.wc_reader.specs.Outlines.{Instrs}

-- what each definition begins with: a word, then NAME ports '->' ports '{' exitcode*
abbrev pub Heads : ℕ → ℕ → Rule Head
Heads n w = Seq (Sign w) (λ at. Seq NAME (λ x. Seq (PortLists n) (λ ins. Seq (Sign S_ARROW) (λ _. Seq (PortLists n) (λ outs.
    Seq (Sign S_OPEN_BRACE) (λ _. As (Many n ExitCodes) (λ cs. record { at = at; name = x; inputs = ins; outputs = outs; codes = cs })))))))

-- 'calcfunction' NAME ports '->' ports '{' exitcode* rule* '}'
abbrev pub Functions : ℕ → Rule Function
Functions n = Seq (Heads n W_CALCFUNCTION) (λ h. Seq (Many n (RuleLines (Exprs n))) (λ rs. As (Sign S_CLOSE_BRACE) (λ _. record { head = h; rules = rs })))

-- ('program'|'arg') expr ';'
abbrev pub JobLines : ℕ → Rule Expr → Rule JobLine
JobLines w E = Seq (Sign w) (λ at. Seq E (λ e. As (Sign S_SEMI) (λ _. record { at = at; value = e })))

-- 'file' TEXT '=' expr ';'
abbrev pub JobFiles : Rule Expr → Rule JobFile
JobFiles E = Seq (Sign W_FILE) (λ at. Seq TEXT (λ x. Seq (Sign S_IS) (λ _. Seq E (λ e. As (Sign S_SEMI) (λ _. record { at = at; name = x; value = e })))))

-- 'fetch' TEXT ';'
abbrev pub Fetches : Rule Fetch
Fetches = Seq (Sign W_FETCH) (λ at. Seq TEXT (λ x. As (Sign S_SEMI) (λ _. record { at = at; name = x })))

-- 'parse' '{' rule* '}'
abbrev pub Parses : ℕ → Rule Expr → Rule (List Line)
Parses n E = Seq (Sign W_PARSE) (λ _. Seq (Sign S_OPEN_BRACE) (λ _. Seq (Many n (RuleLines E)) (λ rs. As (Sign S_CLOSE_BRACE) (λ _. rs))))

-- 'calcjob' NAME ports '->' ports '{' exitcode* 'program' expr ';' ('arg' expr ';')* ('file' TEXT '=' expr ';')*
-- ('fetch' TEXT ';')* 'parse' '{' rule* '}' '}'
abbrev pub Jobs : ℕ → Rule Job
Jobs n = Seq (Heads n W_CALCJOB) (λ h. Seq (JobLines W_PROGRAM (Exprs n)) (λ p. Seq (Many n (JobLines W_ARG (Exprs n))) (λ xs. Seq (Many n (JobFiles (Exprs n))) (λ fs.
    Seq (Many n Fetches) (λ ts. Seq (Parses n (Exprs n)) (λ rs. As (Sign S_CLOSE_BRACE) (λ _.
    record { head = h; program = p; args = xs; files = fs; fetch = ts; parse = rs })))))))

-- 'workchain' NAME ports '->' ports '{' exitcode* instr* '}'
abbrev pub Chains : ℕ → Rule Chain
Chains n = Seq (Heads n W_WORKCHAIN) (λ h. Seq (Many n (Instrs n)) (λ is. As (Sign S_CLOSE_BRACE) (λ _. record { head = h; outline = roll-Block (record { instrs = is }) })))

-- definition := 'calcfunction' .. | 'calcjob' .. | 'workchain' ..
abbrev pub Definitions : ℕ → Rule Definition
Definitions n = Either (As (Functions n) definition.Function) (Either (As (Jobs n) definition.Job) (As (Chains n) definition.Chain))

-- library := definition*
-- Brackets and blocks nest at most n deep in it, and each list and chain of operators has at most n parts behind its first.
abbrev pub Libraries : ℕ → Rule (List Definition)
Libraries n = Many n (Definitions n)

-- the tokens are those of a file, which stands for the library
abbrev pub Derives : List Tok → List Definition → Type 0
Derives ts library = (n : ℕ) × Libraries n ts library
