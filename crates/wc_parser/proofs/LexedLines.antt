-- The tokens of printed lines: rules, statements and heads.
use Rattle.std.proofs.Common.{◌≡◌, ℕ, List, [], ◌∷◌, ◌++◌, Bool, true, false, Option, Some, None, refl, append-nil, if◌then◌else◌}
use Rattle.std.specs.Prelude.{◌==◌, ◌&&◌, codes, flat_map}
use Rattle.std.specs.List.{list_all}
use Rattle.std.proofs.lemmas.Bool.{and_parts}
use Rattle.wc_value.specs.declared.value.Kind.{Kind}
use Rattle.wc_value.specs.declared.value.Kind.TheVariants as kind
use Rattle.wc_lexer.specs.declared.token.Token.{Token}
use Rattle.wc_lexer.specs.declared.token.Word.{Word}
use Rattle.wc_lexer.specs.declared.token.Word.TheVariants as word
use Rattle.wc_lexer.specs.declared.token.Symbol.TheVariants as symbol
use Rattle.wc_lexer.specs.Spellings.{word_text}
use Rattle.wc_lexer.specs.Tokens.{is_in_name}
use Rattle.wc_syntax.specs.declared.expression.Name.{Name}
use Rattle.wc_syntax.specs.declared.expression.Expr.{Expr}
use Rattle.wc_syntax.specs.declared.definition.Head.{Head}
use Rattle.wc_syntax.specs.declared.definition.Port.{Port}
use Rattle.wc_syntax.specs.declared.definition.ExitCode.{ExitCode}
use Rattle.wc_syntax.specs.declared.definition.Exit.{Exit}
use Rattle.wc_syntax.specs.declared.definition.Rule.{Rule}
use Rattle.wc_syntax.specs.declared.definition.Rule.TheVariants as rule
use Rattle.wc_syntax.specs.declared.outline.CallArg.{CallArg}
use Rattle.wc_syntax.specs.declared.outline.CallStmt.{CallStmt}
use Rattle.wc_syntax.specs.declared.outline.Stmt.{Stmt}
use Rattle.wc_syntax.specs.declared.outline.Stmt.TheVariants as stmt
use Rattle.wc_syntax.specs.declared.outline.Step.{Step}
use Rattle.wc_syntax.specs.Printing.{quoted_text, number_text, items, in_brackets, context_text, expr_text, deeper, inside, line, set_text, condition_text, exit_text, rule_text}
use Rattle.wc_syntax.specs.Printing.{rule_lines, kind_text, port_text, ports_text, signature_text, head_text, code_text, code_lines, arg_text, call_text, stmt_text, stmt_lines, step_lines}
use Rattle.wc_syntax.specs.Writable.{is_name, is_number, is_expr, is_condition, is_exit, is_rule, is_arg, is_call, is_stmt, is_step}
use Rattle.wc_parser.specs.PrintedTokens as tokens
use Rattle.wc_parser.specs.PrintedTokens.{sign, reserved, name, number, expr_tokens, set_tokens, condition_tokens, exit_tokens, rule_tokens}
use Rattle.wc_parser.specs.PrintedTokens.{arg_tokens, way_word, call_tokens, stmt_tokens, kind_word, port_tokens, ports_tokens, code_tokens, step_tokens}
use Rattle.wc_parser.proofs.LexedPieces.{Reads, retold, pieces, nothing, each_reads}
use Rattle.wc_parser.proofs.LexedWords.{space, spaces, line_end, begins, word_reads, name_reads, sign_reads}
use Rattle.wc_parser.proofs.LexedLiterals.{text_reads, number_reads}
use Rattle.wc_parser.proofs.LexedForms.{spaced, spaced_word, before_space, sign_space, bracketed, listed, context_reads}
use Rattle.wc_parser.proofs.LexedExpressions.{expr_reads}

-- spaces alone
abbrev pub is_margin : List ℕ → Bool
is_margin margin = list_all (λ b. b == 32) margin

pub line_reads : (margin text : List ℕ) (spelled : List Token) (rest : List ℕ) → is_margin margin ≡ true → Reads text spelled (10 ∷ rest) → Reads (line margin text) spelled rest
line_reads margin text spelled rest h r =
    retold (line margin text) (line margin text) (spelled ++ []) spelled rest refl (append-nil spelled)
    (pieces (margin, []) ((text, spelled) ∷ (10 ∷ [], []) ∷ []) rest (spaces margin (text ++ (10 ∷ rest)) h, (r, (line_end rest, tt))))

-- a line for each element
pub lines_read : {A : Type 0} (margin : List ℕ) (text : A → List ℕ) (spelled : A → List Token) (test : A → Bool) → is_margin margin ≡ true
    → ((x : A) → test x ≡ true → (rest : List ℕ) → Reads (text x) (spelled x) rest) → (xs : List A) → list_all test xs ≡ true → (rest : List ℕ)
    → Reads (flat_map (λ x. line margin (text x)) xs) (flat_map spelled xs) rest
lines_read margin text spelled test m one xs h rest =
    each_reads (λ x. line margin (text x)) spelled test (λ x e r. line_reads margin (text x) (spelled x) r m (one x e (10 ∷ r))) xs h rest

pub semi : (rest : List ℕ) → Reads (codes ";") (sign symbol.Semi) rest
semi rest = sign_reads symbol.Semi rest refl

-- a word, a space and a name
pub word_name : (w : Word) (n : Name) (rest : List ℕ) → is_name n ≡ true → begins is_in_name rest ≡ false → Reads (word_text w ++ codes " " ++ n.text) (reserved w ++ name n) rest
word_name w n rest h k = pieces (word_text w ++ codes " ", reserved w) ((n.text, name n) ∷ []) rest (before_space w (n.text ++ rest), (name_reads n rest h k, tt))

-- ---- rules
pub set_reads : (target : List ℕ) (spelled : List Token) (e : Expr) (rest : List ℕ) → is_expr e ≡ true
    → ((others : List ℕ) → begins is_in_name others ≡ false → Reads target spelled others) → Reads (set_text target e) (set_tokens spelled e) rest
set_reads target spelled e rest h r =
    pieces (target, spelled) ((codes " = ", sign symbol.Is) ∷ (expr_text e, expr_tokens e) ∷ (codes ";", sign symbol.Semi) ∷ []) rest
    (r (codes " = " ++ (expr_text e ++ (codes ";" ++ rest))) refl, (spaced symbol.Is (expr_text e ++ (codes ";" ++ rest)), (expr_reads e (codes ";" ++ rest) h refl, (semi rest, tt))))

condition_reads : (c : Option Expr) (rest : List ℕ) → is_condition c ≡ true → begins is_in_name rest ≡ false → Reads (condition_text c) (condition_tokens c) rest
condition_reads None rest h k = nothing rest
condition_reads (Some e) rest h k =
    pieces (codes " if ", reserved word.If) ((expr_text e, expr_tokens e) ∷ []) rest (spaced_word word.If (expr_text e ++ rest), (expr_reads e rest h k, tt))

condition_apart : (c : Option Expr) (rest : List ℕ) → begins is_in_name (condition_text c ++ (codes ";" ++ rest)) ≡ false
condition_apart None rest = refl
condition_apart (Some e) rest = refl

exit_reads : (x : Exit) (rest : List ℕ) → is_exit x ≡ true → Reads (exit_text x) (exit_tokens x) rest
exit_reads x rest h =
    let a = and_parts (is_number x.status) (is_condition x.condition) h in
    pieces (codes "exit ", reserved word.Exit) ((number_text x.status, number x.status) ∷ (condition_text x.condition, condition_tokens x.condition) ∷ (codes ";", sign symbol.Semi) ∷ []) rest (
      before_space word.Exit (number_text x.status ++ (condition_text x.condition ++ (codes ";" ++ rest))),
      (
        number_reads x.status (condition_text x.condition ++ (codes ";" ++ rest)) a.0 (condition_apart x.condition rest),
        (condition_reads x.condition (codes ";" ++ rest) a.1 refl, (semi rest, tt)),
      ),
    )

rule_reads : (r : Rule) (rest : List ℕ) → is_rule r ≡ true → Reads (rule_text r) (rule_tokens r) rest
rule_reads (rule.Let at n e) rest h =
    let a = and_parts (is_name n) (is_expr e) h in set_reads (codes "let " ++ n.text) (reserved word.Let ++ name n) e rest a.1 (λ others k. word_name word.Let n others a.0 k)
rule_reads (rule.Out at n e) rest h =
    let a = and_parts (is_name n) (is_expr e) h in set_reads (codes "out " ++ n.text) (reserved word.Out ++ name n) e rest a.1 (λ others k. word_name word.Out n others a.0 k)
rule_reads (rule.Exit x) rest h = exit_reads x rest h

pub rules_read : (margin : List ℕ) (rules : List Rule) (rest : List ℕ) → is_margin margin ≡ true → list_all is_rule rules ≡ true → Reads (rule_lines margin rules) (flat_map rule_tokens rules) rest
rules_read margin rules rest m h = lines_read margin rule_text rule_tokens is_rule m (λ r e others. rule_reads r others e) rules h rest

-- ---- statements
arg_reads : (a : CallArg) (rest : List ℕ) → is_arg a ≡ true → begins is_in_name rest ≡ false → Reads (arg_text a) (arg_tokens a) rest
arg_reads a rest h k =
    let b = and_parts (is_name a.port) (is_expr a.value) h in
    pieces (a.port.text, name a.port) ((codes ": ", sign symbol.Colon) ∷ (expr_text a.value, expr_tokens a.value) ∷ []) rest
    (name_reads a.port (codes ": " ++ (expr_text a.value ++ rest)) b.0 refl, (sign_space symbol.Colon (expr_text a.value ++ rest), (expr_reads a.value rest b.1 k, tt)))

way_reads : (append : Bool) (rest : List ℕ) → Reads (if append then codes " append " else codes " to ") (way_word append) rest
way_reads true rest = spaced_word word.Append rest
way_reads false rest = spaced_word word.To rest

call_reads : (c : CallStmt) (rest : List ℕ) → is_call c ≡ true → Reads (call_text c) (call_tokens c) rest
call_reads c rest h =
    let a = and_parts (is_name c.callee) (list_all is_arg c.args && is_name c.key) h in
    let b = and_parts (list_all is_arg c.args) (is_name c.key) a.1 in
    let way = if c.append then codes " append " else codes " to " in
    let ending = context_text c.key ++ (codes ";" ++ rest) in
    let behind = way ++ ending in
    pieces (codes "call ", reserved word.Call) ((c.callee.text, name c.callee) ∷ (in_brackets (items arg_text c.args), tokens.in_brackets (tokens.items arg_tokens c.args))
    ∷ (way, way_word c.append) ∷ (context_text c.key, tokens.context c.key) ∷ (codes ";", sign symbol.Semi) ∷ []) rest (
      before_space word.Call (c.callee.text ++ (in_brackets (items arg_text c.args) ++ behind)),
      (
        name_reads c.callee (in_brackets (items arg_text c.args) ++ behind) a.0 refl,
        (
          bracketed (items arg_text c.args) (tokens.items arg_tokens c.args) behind
              (listed arg_text arg_tokens is_arg (λ x e r k. arg_reads x r e k) true c.args b.0 (codes ")" ++ behind) refl),
          (way_reads c.append ending, (context_reads c.key (codes ";" ++ rest) b.1 refl, (semi rest, tt))),
        ),
      ),
    )

stmt_reads : (t : Stmt) (rest : List ℕ) → is_stmt t ≡ true → Reads (stmt_text t) (stmt_tokens t) rest
stmt_reads (stmt.Ctx at n e) rest h =
    let a = and_parts (is_name n) (is_expr e) h in set_reads (context_text n) (tokens.context n) e rest a.1 (λ others k. context_reads n others a.0 k)
stmt_reads (stmt.Out at n e) rest h =
    let a = and_parts (is_name n) (is_expr e) h in set_reads (codes "out " ++ n.text) (reserved word.Out ++ name n) e rest a.1 (λ others k. word_name word.Out n others a.0 k)
stmt_reads (stmt.Exit x) rest h = exit_reads x rest h
stmt_reads (stmt.Call c) rest h = call_reads c rest h

pub brace_reads : (rest : List ℕ) → Reads (codes " {") (sign symbol.OpenBrace) rest
brace_reads rest = pieces (codes " ", []) ((codes "{", sign symbol.OpenBrace) ∷ []) rest (space (codes "{" ++ rest), (sign_reads symbol.OpenBrace rest refl, tt))

-- a word, a name and an opening brace
opening : (w : Word) (n : Name) (rest : List ℕ) → is_name n ≡ true → Reads (word_text w ++ codes " " ++ n.text ++ codes " {") (reserved w ++ name n ++ sign symbol.OpenBrace) rest
opening w n rest h =
    pieces (word_text w ++ codes " " ++ n.text, reserved w ++ name n) ((codes " {", sign symbol.OpenBrace) ∷ []) rest (word_name w n (codes " {" ++ rest) h refl, (brace_reads rest, tt))

pub closing_line : (margin rest : List ℕ) → is_margin margin ≡ true → Reads (line margin (codes "}")) (sign symbol.CloseBrace) rest
closing_line margin rest m = line_reads margin (codes "}") (sign symbol.CloseBrace) rest m (sign_reads symbol.CloseBrace (10 ∷ rest) refl)

pub step_reads : (margin : List ℕ) (s : Step) (rest : List ℕ) → is_margin margin ≡ true → is_step s ≡ true → Reads (step_lines margin s) (step_tokens s) rest
step_reads margin s rest m h =
    let a = and_parts (is_name s.name) (list_all is_stmt s.stmts) h in
    let closed = line margin (codes "}") ++ rest in
    let body = stmt_lines (deeper margin) s.stmts in
    pieces (line margin (codes "step " ++ s.name.text ++ codes " {"), reserved word.Step ++ name s.name ++ sign symbol.OpenBrace)
    ((body, flat_map stmt_tokens s.stmts) ∷ (line margin (codes "}"), sign symbol.CloseBrace) ∷ []) rest (
      line_reads margin (codes "step " ++ s.name.text ++ codes " {") (reserved word.Step ++ name s.name ++ sign symbol.OpenBrace) (body ++ closed) m (opening word.Step s.name (10 ∷ (body ++ closed)) a.0),
      (lines_read (deeper margin) stmt_text stmt_tokens is_stmt m (λ t e others. stmt_reads t others e) s.stmts a.1 closed, (closing_line margin rest m, tt)),
    )

-- ---- heads
kind_reads : (k : Kind) (rest : List ℕ) → begins is_in_name rest ≡ false → Reads (kind_text k) (kind_word k) rest
kind_reads kind.Int rest h = word_reads word.Int rest h
kind_reads kind.Bool rest h = word_reads word.Bool rest h
kind_reads kind.Text rest h = word_reads word.Text rest h
kind_reads kind.List rest h = word_reads word.List rest h
kind_reads kind.Dict rest h = word_reads word.Dict rest h
kind_reads kind.Folder rest h = word_reads word.Folder rest h

question_reads : (optional : Bool) (rest : List ℕ) → Reads (if optional then codes "?" else []) (if optional then sign symbol.Question else []) rest
question_reads true rest = sign_reads symbol.Question rest refl
question_reads false rest = nothing rest

question_apart : (optional : Bool) (rest : List ℕ) → begins is_in_name ((if optional then codes "?" else []) ++ (codes ": " ++ rest)) ≡ false
question_apart true rest = refl
question_apart false rest = refl

port_reads : (p : Port) (rest : List ℕ) → is_name p.name ≡ true → begins is_in_name rest ≡ false → Reads (port_text p) (port_tokens p) rest
port_reads p rest h k =
    let question = if p.optional then codes "?" else [] in
    pieces (p.name.text, name p.name) ((question, (if p.optional then sign symbol.Question else [])) ∷ (codes ": ", sign symbol.Colon) ∷ (kind_text p.kind, kind_word p.kind) ∷ []) rest (
      name_reads p.name (question ++ (codes ": " ++ (kind_text p.kind ++ rest))) h (question_apart p.optional (kind_text p.kind ++ rest)),
      (question_reads p.optional (codes ": " ++ (kind_text p.kind ++ rest)), (sign_space symbol.Colon (kind_text p.kind ++ rest), (kind_reads p.kind rest k, tt))),
    )

ports_read : (ports : List Port) (rest : List ℕ) → list_all (λ p. is_name p.name) ports ≡ true → Reads (ports_text ports) (ports_tokens ports) rest
ports_read ports rest h =
    bracketed (items port_text ports) (tokens.items port_tokens ports) rest (listed port_text port_tokens (λ p. is_name p.name) (λ x e r k. port_reads x r e k) true ports h (codes ")" ++ rest) refl)

invalid_reads : (b : Bool) (rest : List ℕ) → begins is_in_name rest ≡ false → Reads (if b then codes " invalidates" else []) (if b then reserved word.Invalidates else []) rest
invalid_reads true rest k = pieces (codes " ", []) ((codes "invalidates", reserved word.Invalidates) ∷ []) rest (space (codes "invalidates" ++ rest), (word_reads word.Invalidates rest k, tt))
invalid_reads false rest k = nothing rest

code_reads : (c : ExitCode) (rest : List ℕ) → is_number c.status ≡ true → Reads (code_text c) (code_tokens c) rest
code_reads c rest h =
    let ending = (if c.invalidates then codes " invalidates" else []) ++ (codes ";" ++ rest) in
    pieces (codes "exit_code ", reserved word.ExitCode) ((number_text c.status, number c.status) ∷ (codes " ", []) ∷ (quoted_text c.message, tokens.text c.message)
    ∷ ((if c.invalidates then codes " invalidates" else []), (if c.invalidates then reserved word.Invalidates else [])) ∷ (codes ";", sign symbol.Semi) ∷ []) rest (
      before_space word.ExitCode (number_text c.status ++ (codes " " ++ (quoted_text c.message ++ ending))),
      (
        number_reads c.status (codes " " ++ (quoted_text c.message ++ ending)) h refl,
        (space (quoted_text c.message ++ ending), (text_reads c.message ending, (invalid_reads c.invalidates (codes ";" ++ rest) refl, (semi rest, tt)))),
      ),
    )

pub codes_read : (cs : List ExitCode) (rest : List ℕ) → list_all (λ c. is_number c.status) cs ≡ true → Reads (code_lines cs) (flat_map code_tokens cs) rest
codes_read cs rest h = lines_read inside code_text code_tokens (λ c. is_number c.status) refl (λ c e others. code_reads c others e) cs h rest

-- the line of a definition's head
pub head_reads : (w : Word) (h : Head) (rest : List ℕ) → is_name h.name ≡ true → list_all (λ p. is_name p.name) h.inputs ≡ true → list_all (λ p. is_name p.name) h.outputs ≡ true
    → Reads (head_text (word_text w ++ codes " ") h) (reserved w ++ name h.name ++ ports_tokens h.inputs ++ sign symbol.Arrow ++ ports_tokens h.outputs ++ sign symbol.OpenBrace) rest
head_reads w h rest a b c =
    let brace = codes " {" ++ rest in
    pieces (word_text w ++ codes " " ++ h.name.text, reserved w ++ name h.name)
    ((signature_text h, ports_tokens h.inputs ++ sign symbol.Arrow ++ ports_tokens h.outputs) ∷ (codes " {", sign symbol.OpenBrace) ∷ []) rest (
      word_name w h.name (signature_text h ++ brace) a refl,
      (
        pieces (ports_text h.inputs, ports_tokens h.inputs) ((codes " -> ", sign symbol.Arrow) ∷ (ports_text h.outputs, ports_tokens h.outputs) ∷ []) brace
            (ports_read h.inputs (codes " -> " ++ (ports_text h.outputs ++ brace)) b, (spaced symbol.Arrow (ports_text h.outputs ++ brace), (ports_read h.outputs brace c, tt))),
        (brace_reads rest, tt),
      ),
    )
