-- The parts of bare definitions are bare.
use Rattle.std.proofs.Common.{◌≡◌, ℕ, List, [], ◌∷◌, ◌++◌, Option, Some, None, Bool, true, false, map, refl, ap, ◌∙◌}
use Rattle.std.specs.Prelude.{flat_map, if◌then◌else◌}
use Rattle.std.specs.Option.{option_map}
use Rattle.std.specs.Str.{bytes_eq}
use Rattle.wc_syntax.specs.declared.expression.Expr.{Expr}
use Rattle.wc_syntax.specs.declared.expression.Name.{Name}
use Rattle.wc_syntax.specs.declared.definition.Definition.{Definition}
use Rattle.wc_syntax.specs.declared.definition.Definition.TheVariants as definition
use Rattle.wc_syntax.specs.declared.definition.Head.{Head}
use Rattle.wc_syntax.specs.declared.definition.Port.{Port}
use Rattle.wc_syntax.specs.declared.definition.Rule.{Rule}
use Rattle.wc_syntax.specs.declared.definition.Rule.TheVariants as rule
use Rattle.wc_syntax.specs.declared.outline.CallStmt.{CallStmt}
use Rattle.wc_syntax.specs.declared.outline.Stmt.{Stmt}
use Rattle.wc_syntax.specs.declared.outline.Stmt.TheVariants as stmt
use Rattle.wc_syntax.specs.Bare.{bare_name, bare_number, bare_expr, bare_port, bare_code, bare_head, bare_rule, bare_line, bare_file, bare_fetch, bare_arg, bare_call, bare_stmt, bare_definition, bare_library}
use Rattle.wc_syntax.specs.Findings.{head_of, rules_of, pieces_of, is_chain, stmt_of, stmts_of, call_of, calls_of, line_exprs, definition_named, port_names, reserved_in, Scope, inputs_of, scope_of, first_scope, scope_after, piece_mentions, declared_numbers, called_ports, rule_at, stmt_at, piece_places, line_places, places, rule_name, stmt_names, piece_names, mentioned_names, names_of}
use Rattle.wc_syntax.specs.Mentions.{Mention, Bare, Given, Input, Context, Label, mentions, mentioned, condition_mentions, stmt_mentions, rule_mentions, Piece, Begins, Named, Does, Tests, Returns}
use Rattle.wc_check.proofs.BareLists.{both, each, mapped, all}
use Rattle.wc_check.proofs.BareMentions.{bare_mention, mentions_bare, bare_piece, pieces_bare}

-- ---- heads, rules and outlines

pub head_bare : (d : Definition) → head_of (bare_definition d) ≡ bare_head (head_of d)
head_bare (definition.Function f) = refl
head_bare (definition.Job j) = refl
head_bare (definition.Chain c) = refl

pub rules_bare : (d : Definition) → rules_of (bare_definition d) ≡ map bare_rule (rules_of d)
rules_bare (definition.Function f) = refl
rules_bare (definition.Job j) = refl
rules_bare (definition.Chain c) = refl

pub outline_bare : (d : Definition) → pieces_of (bare_definition d) ≡ map bare_piece (pieces_of d)
outline_bare (definition.Function f) = refl
outline_bare (definition.Job j) = refl
outline_bare (definition.Chain c) = pieces_bare c.outline

stmt_bare : (p : Piece) → stmt_of (bare_piece p) ≡ map bare_stmt (stmt_of p)
stmt_bare (Begins at) = refl
stmt_bare (Named n) = refl
stmt_bare (Does s) = refl
stmt_bare (Tests e) = refl
stmt_bare (Returns n) = refl

pub stmts_bare : (d : Definition) → stmts_of (bare_definition d) ≡ map bare_stmt (stmts_of d)
stmts_bare d = ap (flat_map stmt_of) (outline_bare d) ∙ all bare_piece bare_stmt stmt_of stmt_of stmt_bare (pieces_of d)

call_bare : (s : Stmt) → call_of (bare_stmt s) ≡ map bare_call (call_of s)
call_bare (stmt.Ctx at n e) = refl
call_bare (stmt.Out at n e) = refl
call_bare (stmt.Exit x) = refl
call_bare (stmt.Call c) = refl

pub calls_bare : (d : Definition) → calls_of (bare_definition d) ≡ map bare_call (calls_of d)
calls_bare d = ap (flat_map call_of) (stmts_bare d) ∙ all bare_stmt bare_call call_of call_of call_bare (stmts_of d)

pub lines_bare : (d : Definition) → line_exprs (bare_definition d) ≡ map bare_expr (line_exprs d)
lines_bare (definition.Function f) = refl
lines_bare (definition.Job j) = ap (λ es. bare_expr j.program.value ∷ es)
    (both bare_expr (map (λ l. l.value) j.args) (map (λ f. f.value) j.files) _ _
    (mapped bare_line bare_expr (λ l. l.value) (λ l. l.value) (λ l. refl) j.args)
    (mapped bare_file bare_expr (λ f. f.value) (λ f. f.value) (λ f. refl) j.files))
lines_bare (definition.Chain c) = refl

pub declared_bare : (d : Definition) → declared_numbers (bare_definition d) ≡ map bare_number (declared_numbers d)
declared_bare d = ap (λ (h : Head). map (λ c. c.status) h.codes) (head_bare d) ∙ mapped bare_code bare_number (λ c. c.status) (λ c. c.status) (λ c. refl) (head_of d).codes

-- ---- names that are known

pub port_names_bare : (ps : List Port) → port_names (map bare_port ps) ≡ port_names ps
port_names_bare = each bare_port (λ p. p.name.text) (λ p. p.name.text) (λ p. refl)

inputs_bare : (d : Definition) → inputs_of (bare_definition d) ≡ inputs_of d
inputs_bare d = ap (λ (h : Head). port_names h.inputs) (head_bare d) ∙ port_names_bare (head_of d).inputs

chain_bare : (d : Definition) → is_chain (bare_definition d) ≡ is_chain d
chain_bare (definition.Function f) = refl
chain_bare (definition.Job j) = refl
chain_bare (definition.Chain c) = refl

reserved_bare : (d : Definition) → reserved_in (bare_definition d) ≡ reserved_in d
reserved_bare (definition.Function f) = refl
reserved_bare (definition.Job j) = refl
reserved_bare (definition.Chain c) = refl

pub scope_bare : (d : Definition) → scope_of (bare_definition d) ≡ scope_of d
scope_bare d = λ i. record { in_chain = chain_bare d i; ports = inputs_bare d i; known = if chain_bare d i then [] else inputs_bare d i }

pub first_scope_bare : (d : Definition) → first_scope (bare_definition d) ≡ first_scope d
first_scope_bare d = λ i. record { in_chain = false; ports = inputs_bare d i; known = inputs_bare d i ++ reserved_bare d i }

pub after_bare : (r : Rule) (s : Scope) → scope_after (bare_rule r) s ≡ scope_after r s
after_bare (rule.Let at n e) s = refl
after_bare (rule.Out at n e) s = refl
after_bare (rule.Exit x) s = refl

-- ---- what is called

chosen : (b : Bool) (d : Definition) (o : Option Definition)
    → (if b then Some (bare_definition d) else option_map bare_definition o) ≡ option_map bare_definition (if b then Some d else o)
chosen true d o = refl
chosen false d o = refl

named_bare : (name : List ℕ) (ds : List Definition) → definition_named name (bare_library ds) ≡ option_map bare_definition (definition_named name ds)
named_bare name [] = refl
named_bare name (d ∷ ds) =
    (λ i. if bytes_eq (head_bare d i).name.text name then Some (bare_definition d) else named_bare name ds i)
    ∙ chosen (bytes_eq (head_of d).name.text name) d (definition_named name ds)

ports_bare : (o : Option Definition) → option_map (λ d. (head_of d).inputs) (option_map bare_definition o) ≡ option_map (map bare_port) (option_map (λ d. (head_of d).inputs) o)
ports_bare None = refl
ports_bare (Some d) = ap (λ (h : Head). Some h.inputs) (head_bare d)

pub called_bare : (library : List Definition) (c : CallStmt) → called_ports (bare_library library) (bare_call c) ≡ option_map (map bare_port) (called_ports library c)
called_bare library c = ap (option_map (λ d. (head_of d).inputs)) (named_bare c.callee.text library) ∙ ports_bare (definition_named c.callee.text library)

-- ---- mentions

condition_bare : (c : Option Expr) → condition_mentions (option_map bare_expr c) ≡ map bare_mention (condition_mentions c)
condition_bare None = refl
condition_bare (Some e) = mentions_bare e

pub rule_mentions_bare : (r : Rule) → rule_mentions (bare_rule r) ≡ map bare_mention (rule_mentions r)
rule_mentions_bare (rule.Let at n e) = mentions_bare e
rule_mentions_bare (rule.Out at n e) = mentions_bare e
rule_mentions_bare (rule.Exit x) = condition_bare x.condition

stmt_mentions_bare : (s : Stmt) → stmt_mentions (bare_stmt s) ≡ map bare_mention (stmt_mentions s)
stmt_mentions_bare (stmt.Ctx at n e) = mentions_bare e
stmt_mentions_bare (stmt.Out at n e) = mentions_bare e
stmt_mentions_bare (stmt.Exit x) = condition_bare x.condition
stmt_mentions_bare (stmt.Call c) = all bare_arg bare_mention (λ a. mentions a.value) (λ a. mentions a.value) (λ a. mentions_bare a.value) c.args

pub piece_mentions_bare : (p : Piece) → piece_mentions (bare_piece p) ≡ map bare_mention (piece_mentions p)
piece_mentions_bare (Begins at) = refl
piece_mentions_bare (Named n) = refl
piece_mentions_bare (Does s) = stmt_mentions_bare s
piece_mentions_bare (Tests e) = mentions_bare e
piece_mentions_bare (Returns n) = refl

-- ---- places

rule_at_bare : (r : Rule) → rule_at (bare_rule r) ≡ 0
rule_at_bare (rule.Let at n e) = refl
rule_at_bare (rule.Out at n e) = refl
rule_at_bare (rule.Exit x) = refl

stmt_at_bare : (s : Stmt) → stmt_at (bare_stmt s) ≡ 0
stmt_at_bare (stmt.Ctx at n e) = refl
stmt_at_bare (stmt.Out at n e) = refl
stmt_at_bare (stmt.Exit x) = refl
stmt_at_bare (stmt.Call c) = refl

piece_places_bare : (p : Piece) → piece_places (bare_piece p) ≡ map (λ n. 0) (piece_places p)
piece_places_bare (Begins at) = refl
piece_places_bare (Named n) = refl
piece_places_bare (Does s) = λ i. stmt_at_bare s i ∷ []
piece_places_bare (Tests e) = refl
piece_places_bare (Returns n) = refl

line_places_bare : (d : Definition) → line_places (bare_definition d) ≡ map (λ n. 0) (line_places d)
line_places_bare (definition.Function f) = refl
line_places_bare (definition.Job j) = ap (λ ats. 0 ∷ ats)
    (both (λ n. 0) (map (λ l. l.at) j.args) (map (λ f. f.at) j.files ++ map (λ f. f.at) j.fetch) _ _ (mapped bare_line (λ n. 0) (λ l. l.at) (λ l. l.at) (λ l. refl) j.args)
    (both (λ n. 0) (map (λ f. f.at) j.files) (map (λ f. f.at) j.fetch) _ _ (mapped bare_file (λ n. 0) (λ f. f.at) (λ f. f.at) (λ f. refl) j.files)
    (mapped bare_fetch (λ n. 0) (λ f. f.at) (λ f. f.at) (λ f. refl) j.fetch)))
line_places_bare (definition.Chain c) = refl

pub places_bare : (d : Definition) → places (bare_definition d) ≡ map (λ n. 0) (places d)
places_bare d =
    both (λ n. 0) (line_places d) (map rule_at (rules_of d) ++ flat_map piece_places (pieces_of d)) _ _ (line_places_bare d)
    (both (λ n. 0) (map rule_at (rules_of d)) (flat_map piece_places (pieces_of d)) _ _
    (ap (map rule_at) (rules_bare d) ∙ mapped bare_rule (λ n. 0) rule_at rule_at rule_at_bare (rules_of d))
    (ap (flat_map piece_places) (outline_bare d) ∙ all bare_piece (λ n. 0) piece_places piece_places piece_places_bare (pieces_of d)))

-- ---- names

rule_name_bare : (r : Rule) → rule_name (bare_rule r) ≡ map bare_name (rule_name r)
rule_name_bare (rule.Let at n e) = refl
rule_name_bare (rule.Out at n e) = refl
rule_name_bare (rule.Exit x) = refl

stmt_names_bare : (s : Stmt) → stmt_names (bare_stmt s) ≡ map bare_name (stmt_names s)
stmt_names_bare (stmt.Ctx at n e) = refl
stmt_names_bare (stmt.Out at n e) = refl
stmt_names_bare (stmt.Exit x) = refl
stmt_names_bare (stmt.Call c) = ap (λ ns. bare_name c.callee ∷ ns)
    (both bare_name (map (λ a. a.port) c.args) (c.key ∷ []) _ _ (mapped bare_arg bare_name (λ a. a.port) (λ a. a.port) (λ a. refl) c.args) refl)

piece_names_bare : (p : Piece) → piece_names (bare_piece p) ≡ map bare_name (piece_names p)
piece_names_bare (Begins at) = refl
piece_names_bare (Named n) = refl
piece_names_bare (Does s) = stmt_names_bare s
piece_names_bare (Tests e) = refl
piece_names_bare (Returns n) = refl

mentioned_bare : (m : Mention) → mentioned (bare_mention m) ≡ bare_name (mentioned m)
mentioned_bare (Bare n) = refl
mentioned_bare (Given n) = refl
mentioned_bare (Input at n) = refl
mentioned_bare (Context at n) = refl
mentioned_bare (Label n) = refl

mentioned_names_bare : (ms bare : List Mention) → bare ≡ map bare_mention ms → mentioned_names bare ≡ map bare_name (mentioned_names ms)
mentioned_names_bare ms bare h = ap mentioned_names h ∙ mapped bare_mention bare_name mentioned mentioned mentioned_bare ms

names_in_expr : Expr → List Name
names_in_expr e = mentioned_names (mentions e)

names_in_rule : Rule → List Name
names_in_rule r = rule_name r ++ mentioned_names (rule_mentions r)

names_in_piece : Piece → List Name
names_in_piece p = piece_names p ++ mentioned_names (piece_mentions p)

expr_all : (e : Expr) → names_in_expr (bare_expr e) ≡ map bare_name (names_in_expr e)
unfolding names_in_expr
expr_all e = mentioned_names_bare (mentions e) _ (mentions_bare e)

rule_all : (r : Rule) → names_in_rule (bare_rule r) ≡ map bare_name (names_in_rule r)
unfolding names_in_rule
rule_all r = both bare_name (rule_name r) (mentioned_names (rule_mentions r)) _ _ (rule_name_bare r) (mentioned_names_bare (rule_mentions r) _ (rule_mentions_bare r))

piece_all : (p : Piece) → names_in_piece (bare_piece p) ≡ map bare_name (names_in_piece p)
unfolding names_in_piece
piece_all p = both bare_name (piece_names p) (mentioned_names (piece_mentions p)) _ _ (piece_names_bare p) (mentioned_names_bare (piece_mentions p) _ (piece_mentions_bare p))

port_all : (h : Head) → map (λ p. p.name) ((bare_head h).inputs ++ (bare_head h).outputs) ≡ map bare_name (map (λ p. p.name) (h.inputs ++ h.outputs))
port_all h = ap (map (λ p. p.name)) (both bare_port h.inputs h.outputs _ _ refl refl) ∙ mapped bare_port bare_name (λ p. p.name) (λ p. p.name) (λ p. refl) (h.inputs ++ h.outputs)

pub names_bare : (d : Definition) → names_of (bare_definition d) ≡ map bare_name (names_of d)
unfolding names_in_expr names_in_rule names_in_piece
names_bare d =
    (λ i. (head_bare d i).name ∷ map (λ p. p.name) ((head_bare d i).inputs ++ (head_bare d i).outputs)
    ++ (flat_map names_in_expr (lines_bare d i) ++ (flat_map names_in_rule (rules_bare d i) ++ flat_map names_in_piece (outline_bare d i))))
    ∙ ap (λ ns. bare_name (head_of d).name ∷ ns)
    (both bare_name (map (λ p. p.name) ((head_of d).inputs ++ (head_of d).outputs)) _ _ _ (port_all (head_of d))
    (both bare_name (flat_map names_in_expr (line_exprs d)) _ _ _ (all bare_expr bare_name names_in_expr names_in_expr expr_all (line_exprs d))
    (both bare_name (flat_map names_in_rule (rules_of d)) (flat_map names_in_piece (pieces_of d)) _ _
    (all bare_rule bare_name names_in_rule names_in_rule rule_all (rules_of d))
    (all bare_piece bare_name names_in_piece names_in_piece piece_all (pieces_of d)))))
