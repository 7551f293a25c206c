-- The tokens of printed rules, ports and exit codes are derived as rules, ports and exit codes that say the same.
use Rattle.std.proofs.Common.{◌≡◌, ℕ, ◌≤◌, List, [], ◌∷◌, ◌++◌, map, length, Bool, true, false, if◌then◌else◌, Option, Some, None, refl, sym, ap, ◌∙◌, append_assoc}
use Rattle.std.specs.Prelude.{nat_eq, flat_map}
use Rattle.std.specs.Option.{option_map}
use Rattle.wc_value.specs.declared.value.Kind.{Kind}
use Rattle.wc_value.specs.declared.value.Kind.TheVariants as values
use Rattle.wc_lexer.specs.declared.token.Token.{Token}
use Rattle.wc_lexer.specs.declared.token.Token.TheVariants as token
use Rattle.wc_lexer.specs.declared.token.Word.{Word}
use Rattle.wc_lexer.specs.declared.token.Word.TheVariants as word
use Rattle.wc_lexer.specs.declared.token.Symbol.TheVariants as symbol
use Rattle.wc_syntax.specs.declared.expression.Name.{Name}
use Rattle.wc_syntax.specs.declared.expression.Expr.{Expr}
use Rattle.wc_syntax.specs.declared.definition.Port.{Port}
use Rattle.wc_syntax.specs.declared.definition.ExitCode.{ExitCode}
use Rattle.wc_syntax.specs.declared.definition.Exit.{Exit}
use Rattle.wc_syntax.specs.declared.definition.Rule.{Rule as Line}
use Rattle.wc_syntax.specs.declared.definition.Rule.TheVariants as line
use Rattle.wc_syntax.specs.Bare.{bare_expr, bare_port, bare_code, bare_exit, bare_rule}
use Rattle.wc_grammar.specs.Kinds.{kind, S_SEMI, S_COLON, S_QUESTION, S_IS, W_EXIT_CODE, W_INVALIDATES, W_LET, W_OUT, W_EXIT, W_IF}
use Rattle.wc_grammar.specs.Rules.{Rule, Done, Seq, Either, As, Many, Sign, Flag, pick, Pick}
use Rattle.wc_grammar.specs.Grammar.{Exprs}
use Rattle.wc_reader.specs.Parts.{types, Ports, PortLists, ExitCodes, Exits, Sets, RuleLines}
use Rattle.wc_parser.specs.PrintedTokens.{Tokens, sign, reserved, name, set_tokens, expr_tokens, condition_tokens, exit_tokens, rule_tokens, kind_word, port_tokens, ports_tokens, code_tokens}
use Rattle.wc_parser.proofs.Makes.{Makes, again, done_makes, seq_makes, as_makes, left_makes, right_makes, sign_makes, Stands, pick_makes, all_of, between_makes, Same, From, always, implied, many_from}
use Rattle.wc_parser.proofs.PrintedExpressions.{SameName, SameExpr, name_makes, number_makes, text_makes, word_makes, symbol_makes, open_makes, expr_makes}

-- ---- what rules have in common
-- five parts, grouped to the right
pub in_five : (a b c d e : Tokens) → a ++ b ++ c ++ d ++ e ≡ a ++ (b ++ (c ++ (d ++ e)))
in_five a b c d e = append_assoc (a ++ b ++ c) d e ∙ append_assoc (a ++ b) c (d ++ e) ∙ append_assoc a b (c ++ (d ++ e))

-- what is set, behind a word, and what it is set to
abbrev pub SameSet : Name → Expr → ℕ × Name × Expr → Type 0
SameSet n e x = SameName n x.1 × SameExpr e x.2

pub set_makes : {E : Rule Expr} (k : ℕ) (w : Word) → nat_eq (kind (token.Word w)) k ≡ true → (n : Name) (e : Expr) → Makes E (expr_tokens e) (SameExpr e)
    → Makes (Sets k E) (set_tokens (reserved w ++ name n) e) (SameSet n e)
set_makes k w h n e m = seq_makes (word_makes k w h) (λ at _. seq_makes (name_makes n) (λ x p. seq_makes (symbol_makes S_IS symbol.Is refl) (λ _ _.
    seq_makes m (λ y q. as_makes (λ _. (at, x, y)) (symbol_makes S_SEMI symbol.Semi refl) (λ _ _. (p, q))))))

-- the tokens of an expression are derived
abbrev pub Derived : Rule Expr → Expr → Type 0
Derived E e = Makes E (expr_tokens e) (SameExpr e)

-- what holds of what is there
abbrev pub InOption : {A : Type 0} → (A → Type 0) → Option A → Type 0
InOption P None = Unit {0}
InOption P (Some x) = P x

condition_makes : {E : Rule Expr} (c : Option Expr) → InOption (Derived E) c
    → Makes (Either (Seq (Sign W_IF) (λ _. As E Some)) (Done None)) (condition_tokens c) (Same (option_map bare_expr) c)
condition_makes None h = right_makes (done_makes (Same (option_map bare_expr) None) None refl)
condition_makes (Some e) h = left_makes (seq_makes (word_makes W_IF word.If refl) (λ _ _. as_makes Some h (λ y p. λ i. Some (p i))))

pub exit_makes : {E : Rule Expr} (x : Exit) → InOption (Derived E) x.condition → Makes (Exits E) (exit_tokens x) (Same bare_exit x)
exit_makes x h = seq_makes (word_makes W_EXIT word.Exit refl) (λ at _. seq_makes (number_makes x.status) (λ s p. seq_makes (condition_makes x.condition h) (λ c q.
    as_makes (λ _. record { at = at; status = s; condition = c }) (symbol_makes S_SEMI symbol.Semi refl)
    (λ _ _. λ i. record { at = 0; status = p i; condition = q i }))))

-- the expressions in a rule are derived
abbrev pub RuleDerived : Rule Expr → Line → Type 0
RuleDerived E (line.Let at n e) = Derived E e
RuleDerived E (line.Out at n e) = Derived E e
RuleDerived E (line.Exit x) = InOption (Derived E) x.condition

pub rule_makes : {E : Rule Expr} (r : Line) → RuleDerived E r → Makes (RuleLines E) (rule_tokens r) (Same bare_rule r)
rule_makes (line.Let at n e) h = left_makes (as_makes (λ x. line.Let x.0 x.1 x.2) (set_makes W_LET word.Let refl n e h) (λ x p. λ i. line.Let 0 (p.0 i) (p.1 i)))
rule_makes (line.Out at n e) h = right_makes (left_makes (as_makes (λ x. line.Out x.0 x.1 x.2) (set_makes W_OUT word.Out refl n e h) (λ x p. λ i. line.Out 0 (p.0 i) (p.1 i))))
rule_makes (line.Exit x) h = right_makes (right_makes (as_makes line.Exit (exit_makes x h) (λ y p. λ i. line.Exit (p i))))

-- ---- from some bound on
pub in_option : {A : Type 0} {P : ℕ → A → Type 0} → ((x : A) → From (λ n. P n x)) → (o : Option A) → From (λ n. InOption (P n) o)
in_option k None = always (λ n. tt)
in_option k (Some x) = k x

rule_derived : (r : Line) → From (λ n. RuleDerived (Exprs n) r)
rule_derived (line.Let at n e) = expr_makes e
rule_derived (line.Out at n e) = expr_makes e
rule_derived (line.Exit x) = in_option expr_makes x.condition

pub rules_make : (rs : List Line) → From (λ n. Makes (Many n (RuleLines (Exprs n))) (flat_map rule_tokens rs) (Same (map bare_rule) rs))
rules_make = many_from (λ n. RuleLines (Exprs n)) rule_tokens bare_rule (λ r. implied (λ n h. rule_makes r h) (rule_derived r))

-- ---- ports and exit codes
kind_token : (k : Kind) → (t : Token) × (kind_word k ≡ t ∷ []) × (pick types (kind t) ≡ Some k)
kind_token values.Int = (token.Word word.Int, refl, refl)
kind_token values.Bool = (token.Word word.Bool, refl, refl)
kind_token values.Text = (token.Word word.Text, refl, refl)
kind_token values.List = (token.Word word.List, refl, refl)
kind_token values.Dict = (token.Word word.Dict, refl, refl)
kind_token values.Folder = (token.Word word.Folder, refl, refl)

kind_makes : (k : Kind) → Makes (Pick types) (kind_word k) (Stands k)
kind_makes k = let t = kind_token k in again (sym t.1) (pick_makes types t.0 k t.2)

-- whether a token is there
flag_makes : (k : ℕ) (t : Token) (b : Bool) → nat_eq (kind t) k ≡ true → Makes (Flag k) (if b then t ∷ [] else []) (λ x. x ≡ b)
flag_makes k t true h = left_makes (as_makes (λ _. true) (sign_makes k t h) (λ _ _. refl))
flag_makes k t false h = right_makes (done_makes (λ x. x ≡ false) false refl)

port_makes : (p : Port) → Makes Ports (port_tokens p) (Same bare_port p)
port_makes p = again (ap (λ z. name p.name ++ z) (sym (append_assoc (if p.optional then sign symbol.Question else []) (sign symbol.Colon) (kind_word p.kind))))
    (seq_makes (name_makes p.name) (λ x e. seq_makes (flag_makes S_QUESTION (token.Symbol symbol.Question) p.optional refl) (λ o f.
    seq_makes (symbol_makes S_COLON symbol.Colon refl) (λ _ _. as_makes (λ (k : Kind × ℕ). record { at = x.at; name = x; optional = o; kind = k.0 }) (kind_makes p.kind)
    (λ k g. λ i. record { at = 0; name = e i; optional = f i; kind = g i })))))

pub ports_make : (n : ℕ) (ps : List Port) → length ps ≤ n → Makes (PortLists n) (ports_tokens ps) (Same (map bare_port) ps)
ports_make n ps l = open_makes (λ ys. ys) (between_makes Ports port_tokens bare_port ps (all_of port_makes ps) n l) (λ ys e. e)

pub code_makes : (c : ExitCode) → Makes ExitCodes (code_tokens c) (Same bare_code c)
code_makes c = seq_makes (word_makes W_EXIT_CODE word.ExitCode refl) (λ at _. seq_makes (number_makes c.status) (λ s p. seq_makes (text_makes c.message) (λ m q.
    seq_makes (flag_makes W_INVALIDATES (token.Word word.Invalidates) c.invalidates refl) (λ i r. as_makes (λ _. record { at = at; status = s; message = m; invalidates = i })
    (symbol_makes S_SEMI symbol.Semi refl) (λ _ _. λ j. record { at = 0; status = p j; message = q j; invalidates = r j })))))
