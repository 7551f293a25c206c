-- The grammar of ports, exit codes and rules: one line for each rule, one part of an Either for each alternative.
use Rattle.std.specs.Prelude.{ℕ, List, [], ◌∷◌, Some, None}
use Rattle.wc_syntax.specs.declared.expression.Name.{Name}
use Rattle.wc_syntax.specs.declared.expression.Expr.{Expr}
use Rattle.wc_value.specs.declared.value.Kind.{Kind}
use Rattle.wc_syntax.specs.declared.definition.Port.{Port}
use Rattle.wc_syntax.specs.declared.definition.ExitCode.{ExitCode}
use Rattle.wc_syntax.specs.declared.definition.Exit.{Exit}
use Rattle.wc_syntax.specs.declared.definition.Rule.{Rule as Line}
use Rattle.wc_syntax.specs.declared.definition.Rule.TheVariants as line
use Rattle.wc_value.specs.declared.value.Kind.TheVariants as values
use Rattle.wc_grammar.specs.Kinds.{S_OPEN, S_CLOSE, S_COMMA, S_SEMI, S_COLON, S_QUESTION, S_IS, W_INT, W_BOOL, W_TEXT, W_LIST, W_DICT, W_FOLDER, W_EXIT_CODE, W_INVALIDATES, W_LET, W_OUT, W_EXIT, W_IF}
use Rattle.wc_grammar.specs.Rules.{Rule, Done, Seq, Either, As, Sign, Flag, Between, Pick}
use Rattle.wc_grammar.specs.Grammar.{NAME, NUMBER, TEXT}

-- the words of kinds
abbrev pub types : List (ℕ × Kind)
types = (W_INT, values.Int) ∷ (W_BOOL, values.Bool) ∷ (W_TEXT, values.Text) ∷ (W_LIST, values.List) ∷ (W_DICT, values.Dict) ∷ (W_FOLDER, values.Folder) ∷ []

-- port := NAME ['?'] ':' ('int'|'bool'|'text'|'list'|'dict'|'folder')
abbrev pub Ports : Rule Port
Ports = Seq NAME (λ x. Seq (Flag S_QUESTION) (λ o. Seq (Sign S_COLON) (λ _. As (Pick types) (λ k. record { at = x.at; name = x; optional = o; kind = k.0 }))))

-- ports := '(' [ port (',' port)* ] ')'
abbrev pub PortLists : ℕ → Rule (List Port)
PortLists n = Seq (Sign S_OPEN) (λ _. Seq (Between n S_COMMA Ports) (λ ps. As (Sign S_CLOSE) (λ _. ps)))

-- exitcode := 'exit_code' NUMBER TEXT ['invalidates'] ';'
abbrev pub ExitCodes : Rule ExitCode
ExitCodes = Seq (Sign W_EXIT_CODE) (λ at. Seq NUMBER (λ s. Seq TEXT (λ m. Seq (Flag W_INVALIDATES) (λ i. As (Sign S_SEMI) (λ _. record { at = at; status = s; message = m; invalidates = i })))))

-- exit := 'exit' NUMBER ['if' expr] ';'
abbrev pub Exits : Rule Expr → Rule Exit
Exits E = Seq (Sign W_EXIT) (λ at. Seq NUMBER (λ s. Seq (Either (Seq (Sign W_IF) (λ _. As E Some)) (Done None)) (λ c. As (Sign S_SEMI) (λ _. record { at = at; status = s; condition = c }))))

-- a word, then NAME '=' expr ';', which stands for the offset of the word, the name and the expression
abbrev pub Sets : ℕ → Rule Expr → Rule (ℕ × Name × Expr)
Sets w E = Seq (Sign w) (λ at. Seq NAME (λ x. Seq (Sign S_IS) (λ _. Seq E (λ e. As (Sign S_SEMI) (λ _. (at, x, e))))))

-- rule := 'let' NAME '=' expr ';' | 'out' NAME '=' expr ';' | exit
abbrev pub RuleLines : Rule Expr → Rule Line
RuleLines E = Either (As (Sets W_LET E) (λ x. line.Let x.0 x.1 x.2)) (Either (As (Sets W_OUT E) (λ x. line.Out x.0 x.1 x.2)) (As (Exits E) line.Exit))
