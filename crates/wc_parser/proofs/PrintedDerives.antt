-- The tokens of a library's printed text are derived as a library that says the same.
use Rattle.std.proofs.Common.{◌≡◌, ℕ, ◌≤◌, List, [], ◌∷◌, ◌++◌, map, length, true, refl, sym, ap, ◌∙◌, append_assoc, arith}
use Rattle.std.specs.Prelude.{nat_eq, flat_map}
use Rattle.wc_lexer.specs.declared.token.Token.{Token}
use Rattle.wc_lexer.specs.declared.token.Token.TheVariants as token
use Rattle.wc_lexer.specs.declared.token.Word.{Word}
use Rattle.wc_lexer.specs.declared.token.Word.TheVariants as word
use Rattle.wc_lexer.specs.declared.token.Symbol.TheVariants as symbol
use Rattle.wc_syntax.specs.declared.outline.Block.{roll-Block}
use Rattle.wc_syntax.specs.declared.definition.Definition.{Definition}
use Rattle.wc_syntax.specs.declared.definition.Definition.TheVariants as definition
use Rattle.wc_syntax.specs.declared.definition.Head.{Head}
use Rattle.wc_syntax.specs.declared.definition.Function.{Function}
use Rattle.wc_syntax.specs.declared.definition.Job.{Job}
use Rattle.wc_syntax.specs.declared.definition.Chain.{Chain}
use Rattle.wc_syntax.specs.declared.definition.JobLine.{JobLine}
use Rattle.wc_syntax.specs.declared.definition.JobFile.{JobFile}
use Rattle.wc_syntax.specs.declared.definition.Fetch.{Fetch}
use Rattle.wc_syntax.specs.declared.definition.Rule.{Rule as Line}
use Rattle.wc_syntax.specs.Bare.{bare_head, bare_code, bare_rule, bare_line, bare_file, bare_fetch, bare_function, bare_job, bare_chain, bare_definition, bare_library}
use Rattle.wc_syntax.specs.Writable.{is_head, is_block, is_definition, is_sayable}
use Rattle.wc_grammar.specs.Kinds.{kind, S_OPEN_BRACE, S_CLOSE_BRACE, S_SEMI, S_IS, S_ARROW, W_CALCFUNCTION, W_CALCJOB, W_WORKCHAIN, W_PROGRAM, W_ARG, W_FILE, W_FETCH, W_PARSE}
use Rattle.wc_grammar.specs.Rules.{Many}
use Rattle.wc_grammar.specs.Grammar.{Exprs}
use Rattle.wc_reader.specs.Parts.{ExitCodes}
use Rattle.wc_reader.specs.Grammar.{Heads, Functions, JobLines, JobFiles, Fetches, Parses, Jobs, Chains, Definitions, Libraries, Derives}
use Rattle.wc_parser.specs.PrintedTokens.{Tokens, sign, reserved, name, rule_tokens, ports_tokens, code_tokens, head_tokens, in_braces, block_tokens, line_tokens, file_tokens, fetch_tokens, job_tokens, definition_tokens, printed_tokens}
use Rattle.wc_parser.proofs.Makes.{Makes, again, seq_makes, as_makes, left_makes, right_makes, AllOf, all_of, many_make, From, always, reaching, implied, together, many_from, Same}
use Rattle.wc_parser.proofs.PrintedExpressions.{name_makes, text_makes, word_makes, symbol_makes, expr_makes}
use Rattle.wc_parser.proofs.PrintedParts.{Derived, in_five, rules_make, ports_make, code_makes}
use Rattle.wc_parser.proofs.PrintedOutlines.{braces_make, block_makes, both_left, both_right}

-- ---- heads
-- the lists of a head are within a bound
abbrev HeadBound : ℕ → Head → Type 0
HeadBound n h = (length h.inputs ≤ n) × (length h.outputs ≤ n) × (length h.codes ≤ n)

head_bound : (h : Head) → From (λ n. HeadBound n h)
head_bound h = implied (λ n k. (k.0, k.1.0, k.1.1)) (together (reaching (length h.inputs)) (together (reaching (length h.outputs)) (reaching (length h.codes))))

head_makes : (n k : ℕ) (w : Word) → nat_eq (kind (token.Word w)) k ≡ true → (h : Head) → HeadBound n h → Makes (Heads n k) (head_tokens w h) (Same bare_head h)
head_makes n k w r h l = again (ap (λ z. reserved w ++ name h.name ++ z)
    (sym (in_five (ports_tokens h.inputs) (sign symbol.Arrow) (ports_tokens h.outputs) (sign symbol.OpenBrace) (flat_map code_tokens h.codes))))
    (seq_makes (word_makes k w r) (λ at _. seq_makes (name_makes h.name) (λ x p. seq_makes (ports_make n h.inputs l.0) (λ ins q. seq_makes (symbol_makes S_ARROW symbol.Arrow refl) (λ _ _.
    seq_makes (ports_make n h.outputs l.1) (λ outs s. seq_makes (symbol_makes S_OPEN_BRACE symbol.OpenBrace refl) (λ _ _.
    as_makes (λ cs. record { at = at; name = x; inputs = ins; outputs = outs; codes = cs })
    (many_make ExitCodes code_tokens bare_code h.codes (all_of code_makes h.codes) n l.2)
    (λ cs t. λ i. record { at = 0; name = p i; inputs = q i; outputs = s i; codes = t i }))))))))

-- ---- bodies, with the closing brace
abbrev close : Tokens
close = sign symbol.CloseBrace

function_makes : (f : Function) → From (λ n. Makes (Functions n) (head_tokens word.Calcfunction f.head ++ flat_map rule_tokens f.rules ++ close) (Same bare_function f))
function_makes f = implied (λ n h. again (sym (append_assoc (head_tokens word.Calcfunction f.head) (flat_map rule_tokens f.rules) close))
    (seq_makes (head_makes n W_CALCFUNCTION word.Calcfunction refl f.head h.0) (λ x p. seq_makes h.1 (λ rs q.
    as_makes (λ _. record { head = x; rules = rs }) (symbol_makes S_CLOSE_BRACE symbol.CloseBrace refl) (λ _ _. λ i. record { head = p i; rules = q i })))))
    (together (head_bound f.head) (rules_make f.rules))

line_makes : (n k : ℕ) (w : Word) → nat_eq (kind (token.Word w)) k ≡ true → (l : JobLine) → Derived (Exprs n) l.value → Makes (JobLines k (Exprs n)) (line_tokens w l) (Same bare_line l)
line_makes n k w r l h = seq_makes (word_makes k w r) (λ at _. seq_makes h (λ x p.
    as_makes (λ _. record { at = at; value = x }) (symbol_makes S_SEMI symbol.Semi refl) (λ _ _. λ i. record { at = 0; value = p i })))

file_makes : (n : ℕ) (f : JobFile) → Derived (Exprs n) f.value → Makes (JobFiles (Exprs n)) (file_tokens f) (Same bare_file f)
file_makes n f h = seq_makes (word_makes W_FILE word.File refl) (λ at _. seq_makes (text_makes f.name) (λ x p. seq_makes (symbol_makes S_IS symbol.Is refl) (λ _ _. seq_makes h (λ y q.
    as_makes (λ _. record { at = at; name = x; value = y }) (symbol_makes S_SEMI symbol.Semi refl) (λ _ _. λ i. record { at = 0; name = p i; value = q i })))))

fetch_makes : (f : Fetch) → Makes Fetches (fetch_tokens f) (Same bare_fetch f)
fetch_makes f = seq_makes (word_makes W_FETCH word.Fetch refl) (λ at _. seq_makes (text_makes f.name) (λ x p.
    as_makes (λ _. record { at = at; name = x }) (symbol_makes S_SEMI symbol.Semi refl) (λ _ _. λ i. record { at = 0; name = p i })))

-- the parts of a job, from some bound on
line_made : (k : ℕ) (w : Word) → nat_eq (kind (token.Word w)) k ≡ true → (l : JobLine) → From (λ n. Makes (JobLines k (Exprs n)) (line_tokens w l) (Same bare_line l))
line_made k w r l = implied (λ n h. line_makes n k w r l h) (expr_makes l.value)

args_made : (ls : List JobLine) → From (λ n. Makes (Many n (JobLines W_ARG (Exprs n))) (flat_map (line_tokens word.Arg) ls) (Same (map bare_line) ls))
args_made = many_from (λ n. JobLines W_ARG (Exprs n)) (line_tokens word.Arg) bare_line (line_made W_ARG word.Arg refl)

files_made : (fs : List JobFile) → From (λ n. Makes (Many n (JobFiles (Exprs n))) (flat_map file_tokens fs) (Same (map bare_file) fs))
files_made = many_from (λ n. JobFiles (Exprs n)) file_tokens bare_file (λ f. implied (λ n h. file_makes n f h) (expr_makes f.value))

fetches_made : (fs : List Fetch) → From (λ n. Makes (Many n Fetches) (flat_map fetch_tokens fs) (Same (map bare_fetch) fs))
fetches_made = many_from (λ n. Fetches) fetch_tokens bare_fetch (λ f. always (λ n. fetch_makes f))

parse_made : (rs : List Line) → From (λ n. Makes (Parses n (Exprs n)) (reserved word.Parse ++ in_braces (flat_map rule_tokens rs)) (Same (map bare_rule) rs))
parse_made rs = implied (λ n h. seq_makes (word_makes W_PARSE word.Parse refl) (λ _ _. braces_make (λ ys. ys) h (λ ys e. e))) (rules_make rs)

-- the tokens of a job in a definition, grouped to the right
job_is : (h l a f t r : Tokens) → h ++ (l ++ a ++ f ++ t ++ reserved word.Parse ++ r) ++ close ≡ h ++ (l ++ (a ++ (f ++ (t ++ (reserved word.Parse ++ r ++ close)))))
job_is h l a f t r =
    append_assoc h (l ++ a ++ f ++ t ++ reserved word.Parse ++ r) close
    ∙ ap (λ z. h ++ z) (ap (λ z. z ++ close) (append_assoc (l ++ a ++ f ++ t) (reserved word.Parse) r)
    ∙ append_assoc (l ++ a ++ f ++ t) (reserved word.Parse ++ r) close ∙ in_five l a f t (reserved word.Parse ++ r ++ close))

-- each part of a job is derived
abbrev JobDerived : ℕ → Job → Type 0
JobDerived n j =
    HeadBound n j.head
    × Makes (JobLines W_PROGRAM (Exprs n)) (line_tokens word.Program j.program) (Same bare_line j.program)
    × Makes (Many n (JobLines W_ARG (Exprs n))) (flat_map (line_tokens word.Arg) j.args) (Same (map bare_line) j.args)
    × Makes (Many n (JobFiles (Exprs n))) (flat_map file_tokens j.files) (Same (map bare_file) j.files)
    × Makes (Many n Fetches) (flat_map fetch_tokens j.fetch) (Same (map bare_fetch) j.fetch)
    × Makes (Parses n (Exprs n)) (reserved word.Parse ++ in_braces (flat_map rule_tokens j.parse)) (Same (map bare_rule) j.parse)

job_at : (n : ℕ) (j : Job) → JobDerived n j → Makes (Jobs n) (head_tokens word.Calcjob j.head ++ job_tokens j ++ close) (Same bare_job j)
job_at n j h = again (sym (job_is (head_tokens word.Calcjob j.head) (line_tokens word.Program j.program) (flat_map (line_tokens word.Arg) j.args)
    (flat_map file_tokens j.files) (flat_map fetch_tokens j.fetch) (in_braces (flat_map rule_tokens j.parse))))
    (seq_makes (head_makes n W_CALCJOB word.Calcjob refl j.head h.0) (λ x p0. seq_makes h.1 (λ l p1. seq_makes h.2 (λ ls p2. seq_makes h.3 (λ fs p3. seq_makes h.4 (λ ts p4.
    seq_makes h.5 (λ rs p5. as_makes (λ _. record { head = x; program = l; args = ls; files = fs; fetch = ts; parse = rs }) (symbol_makes S_CLOSE_BRACE symbol.CloseBrace refl)
    (λ _ _. λ i. record { head = p0 i; program = p1 i; args = p2 i; files = p3 i; fetch = p4 i; parse = p5 i }))))))))

job_makes : (j : Job) → From (λ n. Makes (Jobs n) (head_tokens word.Calcjob j.head ++ job_tokens j ++ close) (Same bare_job j))
job_makes j = implied (λ n h. job_at n j (h.0, h.1.0, h.1.1.0, h.1.1.1.0, h.1.1.1.1.0, h.1.1.1.1.1))
    (together (head_bound j.head) (together (line_made W_PROGRAM word.Program refl j.program) (together (args_made j.args) (together (files_made j.files) (together (fetches_made j.fetch) (parse_made j.parse))))))

chain_makes : (c : Chain) → is_block c.outline ≡ true
    → From (λ n. Makes (Chains n) (head_tokens word.Workchain c.head ++ block_tokens c.outline ++ close) (Same bare_chain c))
chain_makes c b = implied (λ n h. again (sym (append_assoc (head_tokens word.Workchain c.head) (block_tokens c.outline) close))
    (seq_makes (head_makes n W_WORKCHAIN word.Workchain refl c.head h.0) (λ x p. seq_makes h.1 (λ is q.
    as_makes (λ _. record { head = x; outline = roll-Block (record { instrs = is }) }) (symbol_makes S_CLOSE_BRACE symbol.CloseBrace refl)
    (λ _ _. λ i. record { head = p i; outline = q i })))))
    (together (head_bound c.head) (block_makes c.outline b))

-- ---- libraries
-- the tokens of a definition are derived as one that says the same
abbrev DefinitionMade : ℕ → Definition → Type 0
DefinitionMade n d = Makes (Definitions n) (definition_tokens d) (Same bare_definition d)

definition_makes : (d : Definition) → is_definition d ≡ true → From (λ n. DefinitionMade n d)
definition_makes (definition.Function f) s = implied (λ n h. left_makes (as_makes definition.Function h (λ y e. λ i. definition.Function (e i)))) (function_makes f)
definition_makes (definition.Job j) s = implied (λ n h. right_makes (left_makes (as_makes definition.Job h (λ y e. λ i. definition.Job (e i))))) (job_makes j)
definition_makes (definition.Chain c) s = implied (λ n h. right_makes (right_makes (as_makes definition.Chain h (λ y e. λ i. definition.Chain (e i)))))
    (chain_makes c (both_right (is_head c.head) (is_block c.outline) s))

definitions_make : (ds : List Definition) → is_sayable ds ≡ true → From (λ n. AllOf (DefinitionMade n) ds)
definitions_make [] s = always (λ n. tt)
definitions_make (d ∷ ds) s = together (definition_makes d (both_left (is_definition d) (is_sayable ds) s)) (definitions_make ds (both_right (is_definition d) (is_sayable ds) s))

library_makes : (library : List Definition) → is_sayable library ≡ true → From (λ n. Makes (Libraries n) (printed_tokens library) (Same bare_library library))
library_makes library s = implied (λ n h. many_make (Definitions n) definition_tokens bare_definition library h.0 n h.1)
    (together (definitions_make library s) (reaching (length library)))

-- The tokens of the printed text of a library that can be said are derived as a library that says the same, whatever their offsets are.
pub printed_derives : (library : List Definition) → is_sayable library ≡ true → (ts : List (Token × ℕ)) → map (λ t. t.0) ts ≡ printed_tokens library
    → (other : List Definition) × Derives ts other × (bare_library other ≡ bare_library library)
printed_derives library s ts e =
    let h = library_makes library s in
    let m = (h.1 h.0 (omega arith)).of ts e in
    (m.0, (h.0, m.1), m.2)
