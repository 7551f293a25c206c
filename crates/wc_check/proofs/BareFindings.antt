-- What is found in a bare library is what is found in the library, without the places.
use Rattle.std.proofs.Common.{◌≡◌, ℕ, ℤ, List, [], ◌∷◌, ◌++◌, Option, Some, None, Bool, true, false, map, length, refl, sym, ap, ◌∙◌}
use Rattle.std.specs.Prelude.{flat_map, pos, int_le, nat_le, not, ◌&&◌, ◌||◌, if◌then◌else◌}
use Rattle.std.specs.Ordering.{int_eq}
use Rattle.std.specs.Option.{option_map}
use Rattle.std.specs.Fmt.{signed_decimal}
use Rattle.wc_syntax.specs.declared.expression.Form.{out-Form}
use Rattle.wc_syntax.specs.declared.expression.Expr.{Expr}
use Rattle.wc_syntax.specs.declared.expression.Number.{Number}
use Rattle.wc_syntax.specs.declared.definition.Definition.{Definition}
use Rattle.wc_syntax.specs.declared.definition.Definition.TheVariants as definition
use Rattle.wc_syntax.specs.declared.definition.Fetch.{Fetch}
use Rattle.wc_syntax.specs.declared.definition.Head.{Head}
use Rattle.wc_syntax.specs.declared.definition.JobFile.{JobFile}
use Rattle.wc_syntax.specs.declared.definition.Port.{Port}
use Rattle.wc_syntax.specs.declared.definition.Rule.{Rule}
use Rattle.wc_syntax.specs.declared.definition.Rule.TheVariants as rule
use Rattle.wc_syntax.specs.declared.outline.CallStmt.{CallStmt}
use Rattle.wc_syntax.specs.declared.outline.Stmt.{Stmt}
use Rattle.wc_syntax.specs.declared.outline.Stmt.TheVariants as stmt
use Rattle.wc_syntax.specs.Bare.{bare_name, bare_number, bare_expr, bare_port, bare_code, bare_rule, bare_file, bare_fetch, bare_arg, bare_call, bare_stmt, bare_definition, bare_library}
use Rattle.wc_syntax.specs.Checked.{repeated_in, unknown_to, ports_of_calls, misformed_in, findings_in, findings}
use Rattle.wc_syntax.specs.Findings.{Finding, twice, unknown, port_missing, port_unknown, not_data, bad_status, bad_name, unless, is_among, is_status, repeats, placed, placed_quoted, port_names, ports_placed, head_of, rules_of, pieces_of, stmts_of, calls_of, line_exprs, result_names, Scope, scope_of, first_scope, scope_after, inputs_word, ctx_word, unknown_mention, unknown_in, unknown_in_rules, piece_mentions, repeated_ports, reserved_port, reserved_ports, repeated_statuses_after, declared_numbers, repeated_statuses, repeated_files, let_repeats, repeated_lets_in, repeated_lets, unknown_names, rule_output, stmt_output, unknown_output, unknown_outputs, called_ports, callee_of, unknown_callees, given_ports, required_name, required_names, missing_port, missing_of, missing_ports, unknown_port, unknown_of, unknown_ports, repeated_args, repeated_arguments, is_data, stmt_data, not_nodes, bad_range, bad_declared, rule_status, stmt_status, piece_status, undeclared, bad_exits, over, places, over_counts, names_of, long_name, long_names, is_file_name, output_files, bad_written, bad_fetched, bad_file_names, repeated_definitions, over_definitions}
use Rattle.wc_syntax.specs.Mentions.{Mention, Bare, Given, Input, Context, Label, mentions, rule_mentions, Piece, Begins, Named, Does, Tests, Returns}
use Rattle.wc_check.specs.Laws.{RulesForgetOffsets}
use Rattle.wc_check.proofs.BareLists.{unplaced, both, each, mapped, all, map_empty, found, twice_bare, over_bare}
use Rattle.wc_check.proofs.BareMentions.{bare_mention, mentions_bare, place_bare, data_bare, bare_piece}
use Rattle.wc_check.proofs.BareParts.{head_bare, rules_bare, outline_bare, stmts_bare, calls_bare, lines_bare, declared_bare, port_names_bare, scope_bare, first_scope_bare, after_bare, called_bare, rule_mentions_bare, piece_mentions_bare, places_bare, names_bare}
use Rattle.wc_check.proofs.Kept.{kept}

-- ---- what stands twice

ports_twice : (ps : List Port) → repeats (ports_placed (map bare_port ps)) ≡ map unplaced (repeats (ports_placed ps))
ports_twice = twice_bare bare_port (λ p. placed p.name) (λ p. refl) []

repeated_ports_bare : (d : Definition) → repeated_ports (bare_definition d) ≡ map unplaced (repeated_ports d)
repeated_ports_bare d =
    ap (λ (h : Head). repeats (ports_placed h.inputs) ++ repeats (ports_placed h.outputs)) (head_bare d)
    ∙ both unplaced (repeats (ports_placed (head_of d).inputs)) (repeats (ports_placed (head_of d).outputs)) _ _ (ports_twice (head_of d).inputs) (ports_twice (head_of d).outputs)

ports_reserved : (ps : List Port) → flat_map reserved_port (map bare_port ps) ≡ map unplaced (flat_map reserved_port ps)
ports_reserved = all bare_port unplaced reserved_port reserved_port (λ p. found (not (is_among p.name.text result_names)) (twice p.name.text p.name.at))

reserved_ports_bare : (d : Definition) → reserved_ports (bare_definition d) ≡ map unplaced (reserved_ports d)
reserved_ports_bare (definition.Function f) = refl
reserved_ports_bare (definition.Job j) =
    both unplaced (flat_map reserved_port j.head.inputs) (flat_map reserved_port j.head.outputs) _ _ (ports_reserved j.head.inputs) (ports_reserved j.head.outputs)
reserved_ports_bare (definition.Chain c) = refl

statuses_twice : (before : List ℤ) (ns : List Number) → repeated_statuses_after before (map bare_number ns) ≡ map unplaced (repeated_statuses_after before ns)
statuses_twice before [] = refl
statuses_twice before (n ∷ ns) =
    both unplaced (unless (not (is_status n.value before)) (twice (signed_decimal n.value) n.at)) (repeated_statuses_after (before ++ n.value ∷ []) ns) _ _
    (found (not (is_status n.value before)) (twice (signed_decimal n.value) n.at)) (statuses_twice (before ++ n.value ∷ []) ns)

repeated_statuses_bare : (d : Definition) → repeated_statuses (bare_definition d) ≡ map unplaced (repeated_statuses d)
repeated_statuses_bare d = ap (repeated_statuses_after []) (declared_bare d) ∙ statuses_twice [] (declared_numbers d)

repeated_files_bare : (d : Definition) → repeated_files (bare_definition d) ≡ map unplaced (repeated_files d)
repeated_files_bare (definition.Function f) = refl
repeated_files_bare (definition.Job j) =
    both unplaced (repeats (map (λ f. placed_quoted f.name) j.files)) (repeats (map (λ f. placed_quoted f.name) j.fetch)) _ _
    (twice_bare bare_file (λ f. placed_quoted f.name) (λ f. refl) [] j.files) (twice_bare bare_fetch (λ f. placed_quoted f.name) (λ f. refl) [] j.fetch)
repeated_files_bare (definition.Chain c) = refl

let_twice : (s : Scope) (r : Rule) → let_repeats s (bare_rule r) ≡ map unplaced (let_repeats s r)
let_twice s (rule.Let at n e) = found (not (is_among n.text s.known)) (twice n.text n.at)
let_twice s (rule.Out at n e) = refl
let_twice s (rule.Exit x) = refl

lets_twice : (s : Scope) (rs : List Rule) → repeated_lets_in s (map bare_rule rs) ≡ map unplaced (repeated_lets_in s rs)
lets_twice s [] = refl
lets_twice s (r ∷ rs) =
    ap (λ t. let_repeats s (bare_rule r) ++ repeated_lets_in t (map bare_rule rs)) (after_bare r s)
    ∙ both unplaced (let_repeats s r) (repeated_lets_in (scope_after r s) rs) _ _ (let_twice s r) (lets_twice (scope_after r s) rs)

repeated_lets_bare : (d : Definition) → repeated_lets (bare_definition d) ≡ map unplaced (repeated_lets d)
repeated_lets_bare d = (λ i. repeated_lets_in (first_scope_bare d i) (rules_bare d i)) ∙ lets_twice (first_scope d) (rules_of d)

repeated_bare : (d : Definition) → repeated_in (bare_definition d) ≡ map unplaced (repeated_in d)
repeated_bare d =
    both unplaced (repeated_ports d) _ _ _ (repeated_ports_bare d) (both unplaced (reserved_ports d) _ _ _ (reserved_ports_bare d)
    (both unplaced (repeated_statuses d) _ _ _ (repeated_statuses_bare d) (both unplaced (repeated_files d) (repeated_lets d) _ _ (repeated_files_bare d) (repeated_lets_bare d))))

-- ---- what isn't known

input_unknown : (chain known : Bool) (f g : Finding) → (if chain then unless known (unplaced f) else unplaced g ∷ []) ≡ map unplaced (if chain then unless known f else g ∷ [])
input_unknown true known f g = found known f
input_unknown false known f g = refl

mention_unknown : (s : Scope) (m : Mention) → unknown_mention s (bare_mention m) ≡ map unplaced (unknown_mention s m)
mention_unknown s (Bare n) = found (is_among n.text s.known) (unknown n.text n.at)
mention_unknown s (Given n) = found (not s.in_chain && is_among n.text s.ports) (unknown n.text n.at)
mention_unknown s (Input at n) = input_unknown s.in_chain (is_among n.text s.ports) (unknown n.text n.at) (unknown inputs_word at)
mention_unknown s (Context at n) = found s.in_chain (unknown ctx_word at)
mention_unknown s (Label n) = refl

mentions_unknown : (s : Scope) (ms bare : List Mention) → bare ≡ map bare_mention ms → unknown_in s bare ≡ map unplaced (unknown_in s ms)
mentions_unknown s ms bare h = ap (unknown_in s) h ∙ all bare_mention unplaced (unknown_mention s) (unknown_mention s) (mention_unknown s) ms

rules_unknown : (s : Scope) (rs : List Rule) → unknown_in_rules s (map bare_rule rs) ≡ map unplaced (unknown_in_rules s rs)
rules_unknown s [] = refl
rules_unknown s (r ∷ rs) =
    ap (λ t. unknown_in s (rule_mentions (bare_rule r)) ++ unknown_in_rules t (map bare_rule rs)) (after_bare r s)
    ∙ both unplaced (unknown_in s (rule_mentions r)) (unknown_in_rules (scope_after r s) rs) _ _
    (mentions_unknown s (rule_mentions r) _ (rule_mentions_bare r)) (rules_unknown (scope_after r s) rs)

lines_unknown : (s : Scope) (es : List Expr) → flat_map (λ e. unknown_in s (mentions e)) (map bare_expr es) ≡ map unplaced (flat_map (λ e. unknown_in s (mentions e)) es)
lines_unknown s = all bare_expr unplaced (λ e. unknown_in s (mentions e)) (λ e. unknown_in s (mentions e)) (λ e. mentions_unknown s (mentions e) _ (mentions_bare e))

pieces_unknown : (s : Scope) (ps : List Piece)
    → flat_map (λ p. unknown_in s (piece_mentions p)) (map bare_piece ps) ≡ map unplaced (flat_map (λ p. unknown_in s (piece_mentions p)) ps)
pieces_unknown s =
    all bare_piece unplaced (λ p. unknown_in s (piece_mentions p)) (λ p. unknown_in s (piece_mentions p)) (λ p. mentions_unknown s (piece_mentions p) _ (piece_mentions_bare p))

unknown_names_bare : (d : Definition) → unknown_names (bare_definition d) ≡ map unplaced (unknown_names d)
unknown_names_bare d =
    (λ i.
    flat_map (λ e. unknown_in (scope_bare d i) (mentions e)) (lines_bare d i)
    ++ (unknown_in_rules (first_scope_bare d i) (rules_bare d i)
    ++ flat_map (λ p. unknown_in (scope_bare d i) (piece_mentions p)) (outline_bare d i)))
    ∙ both unplaced (flat_map (λ e. unknown_in (scope_of d) (mentions e)) (line_exprs d)) _ _ _ (lines_unknown (scope_of d) (line_exprs d))
    (both unplaced (unknown_in_rules (first_scope d) (rules_of d)) (flat_map (λ p. unknown_in (scope_of d) (piece_mentions p)) (pieces_of d)) _ _
    (rules_unknown (first_scope d) (rules_of d)) (pieces_unknown (scope_of d) (pieces_of d)))

rule_output_bare : (r : Rule) → rule_output (bare_rule r) ≡ map bare_name (rule_output r)
rule_output_bare (rule.Let at n e) = refl
rule_output_bare (rule.Out at n e) = refl
rule_output_bare (rule.Exit x) = refl

stmt_output_bare : (s : Stmt) → stmt_output (bare_stmt s) ≡ map bare_name (stmt_output s)
stmt_output_bare (stmt.Ctx at n e) = refl
stmt_output_bare (stmt.Out at n e) = refl
stmt_output_bare (stmt.Exit x) = refl
stmt_output_bare (stmt.Call c) = refl

outputs_bare : (d : Definition) → port_names (head_of (bare_definition d)).outputs ≡ port_names (head_of d).outputs
outputs_bare d = ap (λ (h : Head). port_names h.outputs) (head_bare d) ∙ port_names_bare (head_of d).outputs

named_outputs_bare : (d : Definition)
    → flat_map rule_output (rules_of (bare_definition d)) ++ flat_map stmt_output (stmts_of (bare_definition d))
    ≡ map bare_name (flat_map rule_output (rules_of d) ++ flat_map stmt_output (stmts_of d))
named_outputs_bare d =
    both bare_name (flat_map rule_output (rules_of d)) (flat_map stmt_output (stmts_of d)) _ _
    (ap (flat_map rule_output) (rules_bare d) ∙ all bare_rule bare_name rule_output rule_output rule_output_bare (rules_of d))
    (ap (flat_map stmt_output) (stmts_bare d) ∙ all bare_stmt bare_name stmt_output stmt_output stmt_output_bare (stmts_of d))

unknown_outputs_bare : (d : Definition) → unknown_outputs (bare_definition d) ≡ map unplaced (unknown_outputs d)
unknown_outputs_bare d =
    (λ i. flat_map (unknown_output (outputs_bare d i)) (named_outputs_bare d i))
    ∙ all bare_name unplaced (unknown_output (port_names (head_of d).outputs)) (unknown_output (port_names (head_of d).outputs))
    (λ n. found (is_among n.text (port_names (head_of d).outputs)) (unknown n.text n.at))
    (flat_map rule_output (rules_of d) ++ flat_map stmt_output (stmts_of d))

-- ---- calls

-- what is found at each call, with the ports of what it calls
at_calls : (f : CallStmt → Option (List Port) → List Finding)
    → ((c : CallStmt) (o : Option (List Port)) → f (bare_call c) (option_map (map bare_port) o) ≡ map unplaced (f c o)) → (library : List Definition) (d : Definition)
    → flat_map (λ c. f c (called_ports (bare_library library) c)) (calls_of (bare_definition d)) ≡ map unplaced (flat_map (λ c. f c (called_ports library c)) (calls_of d))
at_calls f h library d =
    ap (flat_map (λ c. f c (called_ports (bare_library library) c))) (calls_bare d)
    ∙ all bare_call unplaced (λ c. f c (called_ports (bare_library library) c)) (λ c. f c (called_ports library c))
    (λ c. ap (f (bare_call c)) (called_bare library c) ∙ h c (called_ports library c)) (calls_of d)

callee_bare : (c : CallStmt) (o : Option (List Port)) → callee_of (bare_call c) (option_map (map bare_port) o) ≡ map unplaced (callee_of c o)
callee_bare c None = refl
callee_bare c (Some ps) = refl

given_bare : (c : CallStmt) → given_ports (bare_call c) ≡ given_ports c
given_bare c = each bare_arg (λ a. a.port.text) (λ a. a.port.text) (λ a. refl) c.args

required_bare : (ps : List Port) → required_names (map bare_port ps) ≡ required_names ps
required_bare [] = refl
required_bare (p ∷ ps) = ap (λ ns. required_name p ++ ns) (required_bare ps)

missing_unplaced : (given : List (List ℕ)) (at : ℕ) (names : List (List ℕ)) → flat_map (missing_port given 0) names ≡ map unplaced (flat_map (missing_port given at) names)
missing_unplaced given at [] = refl
missing_unplaced given at (n ∷ ns) =
    both unplaced (missing_port given at n) (flat_map (missing_port given at) ns) _ _ (found (is_among n given) (port_missing n at)) (missing_unplaced given at ns)

missing_bare : (c : CallStmt) (o : Option (List Port)) → missing_of (bare_call c) (option_map (map bare_port) o) ≡ map unplaced (missing_of c o)
missing_bare c None = refl
missing_bare c (Some ps) = (λ i. flat_map (missing_port (given_bare c i) 0) (required_bare ps i)) ∙ missing_unplaced (given_ports c) c.at (required_names ps)

unknown_port_bare : (c : CallStmt) (o : Option (List Port)) → unknown_of (bare_call c) (option_map (map bare_port) o) ≡ map unplaced (unknown_of c o)
unknown_port_bare c None = refl
unknown_port_bare c (Some ps) =
    ap (λ names. flat_map (unknown_port names) (map bare_arg c.args)) (port_names_bare ps)
    ∙ all bare_arg unplaced (unknown_port (port_names ps)) (unknown_port (port_names ps))
    (λ a. found (is_among a.port.text (port_names ps)) (port_unknown a.port.text a.port.at)) c.args

repeated_arguments_bare : (d : Definition) → repeated_arguments (bare_definition d) ≡ map unplaced (repeated_arguments d)
repeated_arguments_bare d =
    ap (flat_map repeated_args) (calls_bare d)
    ∙ all bare_call unplaced repeated_args repeated_args (λ c. twice_bare bare_arg (λ a. placed a.port) (λ a. refl) [] c.args) (calls_of d)

unknown_bare : (library : List Definition) (d : Definition) → unknown_to (bare_library library) (bare_definition d) ≡ map unplaced (unknown_to library d)
unknown_bare library d =
    both unplaced (unknown_names d) _ _ _ (unknown_names_bare d)
    (both unplaced (unknown_outputs d) (unknown_callees library d) _ _ (unknown_outputs_bare d) (at_calls callee_of callee_bare library d))

calls_found : (library : List Definition) (d : Definition) → ports_of_calls (bare_library library) (bare_definition d) ≡ map unplaced (ports_of_calls library d)
calls_found library d =
    both unplaced (missing_ports library d) _ _ _ (at_calls missing_of missing_bare library d)
    (both unplaced (unknown_ports library d) (repeated_arguments d) _ _ (at_calls unknown_of unknown_port_bare library d) (repeated_arguments_bare d))

-- ---- what has a wrong form

stmt_data_bare : (s : Stmt) → stmt_data (bare_stmt s) ≡ map unplaced (stmt_data s)
stmt_data_bare (stmt.Ctx at n e) = refl
stmt_data_bare (stmt.Out at n e) = (λ i. unless (data_bare e i) (not_data (place_bare e i))) ∙ found (is_data (out-Form e.form)) (not_data e.at)
stmt_data_bare (stmt.Exit x) = refl
stmt_data_bare (stmt.Call c) = refl

not_nodes_bare : (d : Definition) → not_nodes (bare_definition d) ≡ map unplaced (not_nodes d)
not_nodes_bare d = ap (flat_map stmt_data) (stmts_bare d) ∙ all bare_stmt unplaced stmt_data stmt_data stmt_data_bare (stmts_of d)

bad_declared_bare : (d : Definition) → bad_declared (bare_definition d) ≡ map unplaced (bad_declared d)
bad_declared_bare d =
    ap (flat_map bad_range) (declared_bare d)
    ∙ all bare_number unplaced bad_range bad_range (λ n. found (int_le (pos 100) n.value && int_le n.value (pos 9999)) (bad_status n.at)) (declared_numbers d)

rule_status_bare : (r : Rule) → rule_status (bare_rule r) ≡ map bare_number (rule_status r)
rule_status_bare (rule.Let at n e) = refl
rule_status_bare (rule.Out at n e) = refl
rule_status_bare (rule.Exit x) = refl

stmt_status_bare : (s : Stmt) → stmt_status (bare_stmt s) ≡ map bare_number (stmt_status s)
stmt_status_bare (stmt.Ctx at n e) = refl
stmt_status_bare (stmt.Out at n e) = refl
stmt_status_bare (stmt.Exit x) = refl
stmt_status_bare (stmt.Call c) = refl

piece_status_bare : (p : Piece) → piece_status (bare_piece p) ≡ map bare_number (piece_status p)
piece_status_bare (Begins at) = refl
piece_status_bare (Named n) = refl
piece_status_bare (Does s) = stmt_status_bare s
piece_status_bare (Tests e) = refl
piece_status_bare (Returns n) = refl

exits_bare : (d : Definition)
    → flat_map rule_status (rules_of (bare_definition d)) ++ flat_map piece_status (pieces_of (bare_definition d))
    ≡ map bare_number (flat_map rule_status (rules_of d) ++ flat_map piece_status (pieces_of d))
exits_bare d =
    both bare_number (flat_map rule_status (rules_of d)) (flat_map piece_status (pieces_of d)) _ _
    (ap (flat_map rule_status) (rules_bare d) ∙ all bare_rule bare_number rule_status rule_status rule_status_bare (rules_of d))
    (ap (flat_map piece_status) (outline_bare d) ∙ all bare_piece bare_number piece_status piece_status piece_status_bare (pieces_of d))

statuses_bare : (d : Definition) → map (λ n. n.value) (declared_numbers (bare_definition d)) ≡ map (λ n. n.value) (declared_numbers d)
statuses_bare d = ap (map (λ n. n.value)) (declared_bare d) ∙ each bare_number (λ n. n.value) (λ n. n.value) (λ n. refl) (declared_numbers d)

bad_exits_bare : (d : Definition) → bad_exits (bare_definition d) ≡ map unplaced (bad_exits d)
bad_exits_bare d =
    (λ i. flat_map (undeclared (statuses_bare d i)) (exits_bare d i))
    ∙ all bare_number unplaced (undeclared (map (λ n. n.value) (declared_numbers d))) (undeclared (map (λ n. n.value) (declared_numbers d)))
    (λ n. found (int_eq n.value (pos 0) || is_status n.value (map (λ m. m.value) (declared_numbers d))) (bad_status n.at))
    (flat_map rule_status (rules_of d) ++ flat_map piece_status (pieces_of d))

over_many : {A : Type 0} (u : A → A) (at : A → ℕ) (most : ℕ) → ((x : A) → at (u x) ≡ 0) → (xs : List A) → over most (map at (map u xs)) ≡ map unplaced (over most (map at xs))
over_many u at most h xs = ap (over most) (mapped u (λ n. 0) at at h xs) ∙ over_bare most (map at xs)

over_counts_bare : (d : Definition) → over_counts (bare_definition d) ≡ map unplaced (over_counts d)
over_counts_bare d =
    (λ i.
    over 32 (map (λ p. p.at) (head_bare d i).inputs)
    ++ (over 32 (map (λ p. p.at) (head_bare d i).outputs) ++ (over 64 (map (λ c. c.at) (head_bare d i).codes) ++ over 512 (places_bare d i))))
    ∙ both unplaced (over 32 (map (λ p. p.at) (head_of d).inputs)) _ _ _ (over_many bare_port (λ p. p.at) 32 (λ p. refl) (head_of d).inputs)
    (both unplaced (over 32 (map (λ p. p.at) (head_of d).outputs)) _ _ _ (over_many bare_port (λ p. p.at) 32 (λ p. refl) (head_of d).outputs)
    (both unplaced (over 64 (map (λ c. c.at) (head_of d).codes)) (over 512 (places d)) _ _
    (over_many bare_code (λ c. c.at) 64 (λ c. refl) (head_of d).codes) (over_bare 512 (places d))))

long_names_bare : (d : Definition) → long_names (bare_definition d) ≡ map unplaced (long_names d)
long_names_bare d = ap (flat_map long_name) (names_bare d) ∙ all bare_name unplaced long_name long_name (λ n. found (nat_le (length n.text) 64) (bad_name n.text n.at)) (names_of d)

written_bare : (f : JobFile) → bad_written (bare_file f) ≡ map unplaced (bad_written f)
written_bare f = found (is_file_name f.name.text && not (is_among f.name.text output_files)) (bad_name f.name.text f.name.at)

fetched_bare : (f : Fetch) → bad_fetched (bare_fetch f) ≡ map unplaced (bad_fetched f)
fetched_bare f = found (is_file_name f.name.text) (bad_name f.name.text f.name.at)

bad_file_names_bare : (d : Definition) → bad_file_names (bare_definition d) ≡ map unplaced (bad_file_names d)
bad_file_names_bare (definition.Function f) = refl
bad_file_names_bare (definition.Job j) =
    both unplaced (flat_map bad_written j.files) (flat_map bad_fetched j.fetch) _ _
    (all bare_file unplaced bad_written bad_written written_bare j.files) (all bare_fetch unplaced bad_fetched bad_fetched fetched_bare j.fetch)
bad_file_names_bare (definition.Chain c) = refl

misformed_bare : (d : Definition) → misformed_in (bare_definition d) ≡ map unplaced (misformed_in d)
misformed_bare d =
    both unplaced (not_nodes d) _ _ _ (not_nodes_bare d) (both unplaced (bad_declared d) _ _ _ (bad_declared_bare d)
    (both unplaced (bad_exits d) _ _ _ (bad_exits_bare d) (both unplaced (over_counts d) _ _ _ (over_counts_bare d)
    (both unplaced (long_names d) (bad_file_names d) _ _ (long_names_bare d) (bad_file_names_bare d)))))

-- ---- libraries

definition_found : (library : List Definition) (d : Definition) → findings_in (bare_library library) (bare_definition d) ≡ map unplaced (findings_in library d)
definition_found library d =
    both unplaced (repeated_in d) _ _ _ (repeated_bare d) (both unplaced (unknown_to library d) _ _ _ (unknown_bare library d)
    (both unplaced (ports_of_calls library d) (misformed_in d) _ _ (calls_found library d) (misformed_bare d)))

name_bare : (d : Definition) → placed (head_of (bare_definition d)).name ≡ ((head_of d).name.text, 0)
name_bare d = ap (λ (h : Head). placed h.name) (head_bare d)

at_bare : (d : Definition) → (head_of (bare_definition d)).at ≡ 0
at_bare d = ap (λ (h : Head). h.at) (head_bare d)

findings_bare : (library : List Definition) → findings (bare_library library) ≡ map unplaced (findings library)
findings_bare library =
    both unplaced (repeated_definitions library) _ _ _ (twice_bare bare_definition (λ d. placed (head_of d).name) name_bare [] library)
    (both unplaced (over_definitions library) (flat_map (findings_in library) library) _ _ (over_many bare_definition (λ d. (head_of d).at) 64 at_bare library)
    (all bare_definition unplaced (findings_in (bare_library library)) (findings_in library) (definition_found library) library))

pub rules_forget_offsets : RulesForgetOffsets
rules_forget_offsets a b same keeps =
    (kept b).1 (map_empty unplaced (findings b)
    (sym (findings_bare b) ∙ ap findings (sym same) ∙ findings_bare a ∙ ap (map unplaced) ((kept a).0 keeps)))
