-- The tokens of a library's printed text.
use Rattle.std.proofs.Common.{◌≡◌, ℕ, List, [], ◌∷◌, ◌++◌, true, Ok, map, refl, append_assoc}
use Rattle.std.specs.Prelude.{codes, flat_map}
use Rattle.std.specs.List.{list_all}
use Rattle.std.proofs.lemmas.Bool.{and_parts}
use Rattle.wc_lexer.specs.declared.token.Token.{Token}
use Rattle.wc_lexer.specs.declared.token.Word.{Word}
use Rattle.wc_lexer.specs.declared.token.Word.TheVariants as word
use Rattle.wc_lexer.specs.declared.token.Symbol.TheVariants as symbol
use Rattle.wc_lexer.specs.Spellings.{word_text}
use Rattle.wc_lexer.specs.Tokens.{tokens_of}
use Rattle.wc_syntax.specs.declared.definition.Definition.{Definition}
use Rattle.wc_syntax.specs.declared.definition.Definition.TheVariants as definition
use Rattle.wc_syntax.specs.declared.definition.Head.{Head}
use Rattle.wc_syntax.specs.declared.definition.Job.{Job}
use Rattle.wc_syntax.specs.declared.definition.JobLine.{JobLine}
use Rattle.wc_syntax.specs.declared.definition.JobFile.{JobFile}
use Rattle.wc_syntax.specs.declared.definition.Fetch.{Fetch}
use Rattle.wc_syntax.specs.Printing.{quoted_text, expr_text, deeper, inside, line, rule_lines, head_text, code_lines, file_text}
use Rattle.wc_syntax.specs.Printing.{arg_lines, file_lines, fetch_lines, job_lines, start_lines, definition_lines, block_lines, printed_definition, printed}
use Rattle.wc_syntax.specs.Writable.{is_name, is_number, is_expr, is_rule, is_head, is_body, is_block, is_definition, is_sayable}
use Rattle.wc_parser.specs.PrintedTokens as tokens
use Rattle.wc_parser.specs.PrintedTokens.{sign, reserved, expr_tokens, rule_tokens, head_tokens, in_braces, block_tokens}
use Rattle.wc_parser.specs.PrintedTokens.{line_tokens, file_tokens, fetch_tokens, job_tokens, definition_tokens, printed_tokens}
use Rattle.wc_parser.proofs.LexedPieces.{Reads, retold, pieces, each_reads, all_said, said_ok}
use Rattle.wc_parser.proofs.LexedWords.{word_reads}
use Rattle.wc_parser.proofs.LexedLiterals.{text_reads}
use Rattle.wc_parser.proofs.LexedForms.{before_space}
use Rattle.wc_parser.proofs.LexedExpressions.{expr_reads}
use Rattle.wc_parser.proofs.LexedLines.{line_reads, lines_read, semi, set_reads, brace_reads, closing_line, rules_read, codes_read, head_reads}
use Rattle.wc_parser.proofs.LexedOutlines.{block_spoken}

-- ---- the lines of a job
-- `WORD expr;`
line_spoken : (w : Word) (l : JobLine) (rest : List ℕ) → is_expr l.value ≡ true → Reads (word_text w ++ codes " " ++ expr_text l.value ++ codes ";") (line_tokens w l) rest
line_spoken w l rest h =
    pieces (word_text w ++ codes " ", reserved w) ((expr_text l.value, expr_tokens l.value) ∷ (codes ";", sign symbol.Semi) ∷ []) rest
    (before_space w (expr_text l.value ++ (codes ";" ++ rest)), (expr_reads l.value (codes ";" ++ rest) h refl, (semi rest, tt)))

file_reads : (f : JobFile) (rest : List ℕ) → is_expr f.value ≡ true → Reads (file_text f) (file_tokens f) rest
file_reads f rest h =
    set_reads (codes "file " ++ quoted_text f.name) (reserved word.File ++ tokens.text f.name) f.value rest h
    (λ others k. pieces (codes "file ", reserved word.File) ((quoted_text f.name, tokens.text f.name) ∷ []) others (before_space word.File (quoted_text f.name ++ others), (text_reads f.name others, tt)))

fetch_reads : (f : Fetch) (rest : List ℕ) → Reads (codes "fetch " ++ quoted_text f.name ++ codes ";") (fetch_tokens f) rest
fetch_reads f rest =
    pieces (codes "fetch ", reserved word.Fetch) ((quoted_text f.name, tokens.text f.name) ∷ (codes ";", sign symbol.Semi) ∷ []) rest
    (before_space word.Fetch (quoted_text f.name ++ (codes ";" ++ rest)), (text_reads f.name (codes ";" ++ rest), (semi rest, tt)))

fetches_pass : (fs : List Fetch) → list_all (λ f. true) fs ≡ true
fetches_pass [] = refl
fetches_pass (f ∷ fs) = fetches_pass fs

parse_line : (rest : List ℕ) → Reads (line inside (codes "parse {")) (reserved word.Parse ++ sign symbol.OpenBrace) rest
parse_line rest =
    line_reads inside (codes "parse {") (reserved word.Parse ++ sign symbol.OpenBrace) rest refl
    (pieces (codes "parse", reserved word.Parse) ((codes " {", sign symbol.OpenBrace) ∷ []) (10 ∷ rest) (word_reads word.Parse (codes " {" ++ (10 ∷ rest)) refl, (brace_reads (10 ∷ rest), tt)))

braced : (front rules : List Token) → front ++ (reserved word.Parse ++ sign symbol.OpenBrace) ++ rules ++ sign symbol.CloseBrace ≡ front ++ reserved word.Parse ++ in_braces rules
braced front rules = simp append_assoc refl

job_reads : (j : Job) (rest : List ℕ) → is_body j ≡ true → Reads (job_lines j) (job_tokens j) rest
job_reads j rest h =
    let a = and_parts (is_expr j.program.value) _ h in
    let b = and_parts (list_all (λ l. is_expr l.value) j.args) _ a.1 in
    let c = and_parts (list_all (λ f. is_expr f.value) j.files) (list_all is_rule j.parse) b.1 in
    let program = line inside (codes "program " ++ expr_text j.program.value ++ codes ";") in
    let ending = line inside (codes "}") ++ rest in
    let rules = rule_lines (deeper inside) j.parse ++ ending in
    let parse = line inside (codes "parse {") ++ rules in
    let front = line_tokens word.Program j.program ++ flat_map (line_tokens word.Arg) j.args ++ flat_map file_tokens j.files ++ flat_map fetch_tokens j.fetch in
    retold (job_lines j) (job_lines j) (front ++ (reserved word.Parse ++ sign symbol.OpenBrace) ++ flat_map rule_tokens j.parse ++ sign symbol.CloseBrace) (job_tokens j) rest
    refl (braced front (flat_map rule_tokens j.parse))
    (pieces (program, line_tokens word.Program j.program)
    ((arg_lines j.args, flat_map (line_tokens word.Arg) j.args) ∷ (file_lines j.files, flat_map file_tokens j.files) ∷ (fetch_lines j.fetch, flat_map fetch_tokens j.fetch)
    ∷ (line inside (codes "parse {"), reserved word.Parse ++ sign symbol.OpenBrace) ∷ (rule_lines (deeper inside) j.parse, flat_map rule_tokens j.parse) ∷ (line inside (codes "}"), sign symbol.CloseBrace) ∷ []) rest (
      line_reads inside (codes "program " ++ expr_text j.program.value ++ codes ";") (line_tokens word.Program j.program) (arg_lines j.args ++ (file_lines j.files ++ (fetch_lines j.fetch ++ parse))) refl
          (line_spoken word.Program j.program (10 ∷ (arg_lines j.args ++ (file_lines j.files ++ (fetch_lines j.fetch ++ parse)))) a.0),
      (
        lines_read inside (λ l. codes "arg " ++ expr_text l.value ++ codes ";") (line_tokens word.Arg) (λ l. is_expr l.value) refl (λ l e r. line_spoken word.Arg l r e) j.args b.0
            (file_lines j.files ++ (fetch_lines j.fetch ++ parse)),
        (
          lines_read inside file_text file_tokens (λ f. is_expr f.value) refl (λ f e r. file_reads f r e) j.files c.0 (fetch_lines j.fetch ++ parse),
          (
            lines_read inside (λ f. codes "fetch " ++ quoted_text f.name ++ codes ";") fetch_tokens (λ f. true) refl (λ f e r. fetch_reads f r) j.fetch (fetches_pass j.fetch) parse,
            (parse_line rules, (rules_read (deeper inside) j.parse ending refl c.1, (closing_line inside rest refl, tt))),
          ),
        ),
      ),
    ))

-- ---- definitions
start_reads : (w : Word) (h : Head) (rest : List ℕ) → is_head h ≡ true → Reads (start_lines (word_text w ++ codes " ") h) (head_tokens w h) rest
unfolding start_lines
start_reads w h rest e =
    let a = and_parts (is_name h.name) _ e in
    let b = and_parts (list_all (λ p. is_name p.name) h.inputs) _ a.1 in
    let c = and_parts (list_all (λ p. is_name p.name) h.outputs) (list_all (λ c. is_number c.status) h.codes) b.1 in
    let front = reserved w ++ tokens.name h.name ++ tokens.ports_tokens h.inputs ++ sign symbol.Arrow ++ tokens.ports_tokens h.outputs ++ sign symbol.OpenBrace in
    pieces (line [] (head_text (word_text w ++ codes " ") h), front) ((code_lines h.codes, flat_map tokens.code_tokens h.codes) ∷ []) rest
    (line_reads [] (head_text (word_text w ++ codes " ") h) front (code_lines h.codes ++ rest) refl (head_reads w h (10 ∷ (code_lines h.codes ++ rest)) a.0 b.0 c.0), (codes_read h.codes rest c.1, tt))

framed : (w : Word) (h : Head) (body : List ℕ) (spelled : List Token) (rest : List ℕ) → is_head h ≡ true → ((others : List ℕ) → Reads body spelled others)
    → Reads (definition_lines (word_text w ++ codes " ") h body) (head_tokens w h ++ spelled ++ sign symbol.CloseBrace) rest
framed w h body spelled rest e r =
    let start = start_lines (word_text w ++ codes " ") h in
    retold (start ++ body ++ line [] (codes "}")) (definition_lines (word_text w ++ codes " ") h body) (head_tokens w h ++ spelled ++ sign symbol.CloseBrace) (head_tokens w h ++ spelled ++ sign symbol.CloseBrace) rest
    (append_assoc start body (line [] (codes "}"))) refl
    (pieces (start, head_tokens w h) ((body, spelled) ∷ (line [] (codes "}"), sign symbol.CloseBrace) ∷ []) rest
    (start_reads w h (body ++ (line [] (codes "}") ++ rest)) e, (r (line [] (codes "}") ++ rest), (closing_line [] rest refl, tt))))

definition_reads : (d : Definition) → is_definition d ≡ true → (rest : List ℕ) → Reads (printed_definition d) (definition_tokens d) rest
definition_reads (definition.Function f) h rest =
    let a = and_parts (is_head f.head) (list_all is_rule f.rules) h in
    framed word.Calcfunction f.head (rule_lines inside f.rules) (flat_map rule_tokens f.rules) rest a.0 (λ others. rules_read inside f.rules others refl a.1)
definition_reads (definition.Job j) h rest =
    let a = and_parts (is_head j.head) (is_body j) h in
    framed word.Calcjob j.head (job_lines j) (job_tokens j) rest a.0 (λ others. job_reads j others a.1)
definition_reads (definition.Chain c) h rest =
    let a = and_parts (is_head c.head) (is_block c.outline) h in
    framed word.Workchain c.head (block_lines c.outline inside) (block_tokens c.outline) rest a.0 (λ others. (block_spoken c.outline).lays a.1 inside others refl)

-- A library's printed text has its tokens.
pub printed_lexes : (library : List Definition) → is_sayable library ≡ true → (ts : List (Token × ℕ)) × (tokens_of (printed library) ≡ Ok ts) × (map (λ t. t.0) ts ≡ printed_tokens library)
printed_lexes library h =
    said_ok (tokens_of (printed library)) (printed_tokens library)
    (all_said (printed library) (printed_tokens library) (each_reads printed_definition definition_tokens is_definition definition_reads library h []))
