-- Where a library breaks a rule of checked libraries: for each rule the places at which it is broken, each with what a refusal
-- there says. A library meets a rule where its list is empty.
use Rattle.std.specs.Prelude.{ℕ, ◌==◌, nat_le, ℤ, pos, int_le, Bool, true, false, not, ◌&&◌, ◌||◌, if◌then◌else◌, List, [], ◌∷◌, ◌++◌, length, map, flat_map, take, drop, codes, Option, Some, None}
use Rattle.std.specs.Ordering.{int_eq}
use Rattle.std.specs.List.{list_all, list_any}
use Rattle.std.specs.Fmt.{signed_decimal}
use Rattle.std.specs.Option.{option_map}
use Rattle.std.specs.Str.{bytes_eq}
use Rattle.wc_syntax.specs.declared.expression.Name.{Name}
use Rattle.wc_syntax.specs.declared.expression.Number.{Number}
use Rattle.wc_syntax.specs.declared.expression.Quoted.{Quoted}
use Rattle.wc_syntax.specs.declared.expression.ChildPart.{ChildPart}
use Rattle.wc_syntax.specs.declared.expression.ChildPart.TheVariants as part
use Rattle.wc_syntax.specs.declared.expression.Expr.{Expr}
use Rattle.wc_syntax.specs.declared.expression.Form.{Form, out-Form}
use Rattle.wc_syntax.specs.declared.expression.Form.TheOpen.{Form-F}
use Rattle.wc_syntax.specs.declared.definition.Definition.{Definition}
use Rattle.wc_syntax.specs.declared.definition.Definition.TheVariants as definition
use Rattle.wc_syntax.specs.declared.definition.Head.{Head}
use Rattle.wc_syntax.specs.declared.definition.Port.{Port}
use Rattle.wc_syntax.specs.declared.definition.JobFile.{JobFile}
use Rattle.wc_syntax.specs.declared.definition.Fetch.{Fetch}
use Rattle.wc_syntax.specs.declared.definition.Rule.{Rule}
use Rattle.wc_syntax.specs.declared.definition.Rule.TheVariants as rule
use Rattle.wc_syntax.specs.declared.outline.CallArg.{CallArg}
use Rattle.wc_syntax.specs.declared.outline.CallStmt.{CallStmt}
use Rattle.wc_syntax.specs.declared.outline.Stmt.{Stmt}
use Rattle.wc_syntax.specs.declared.outline.Stmt.TheVariants as stmt
use Rattle.wc_syntax.specs.Mentions.{Mention, Bare, Given, Input, Context, Label, mentions, mentioned, rule_mentions, stmt_mentions, Piece, Begins, Named, Does, Tests, Returns, pieces}

-- a rule is broken at a place; the refusal there has this number, and this name or none
pub record Finding : Type 0 where
  pub number : ℕ
  pub name : List ℕ
  pub at : ℕ

-- the finding that a name stands twice, the first of the rules
abbrev pub twice : List ℕ → ℕ → Finding
twice name at = record { number = 1; name = name; at = at }

-- the finding that a name is unknown
abbrev pub unknown : List ℕ → ℕ → Finding
unknown name at = record { number = 2; name = name; at = at }

-- the finding that a call lacks a required port
abbrev pub port_missing : List ℕ → ℕ → Finding
port_missing name at = record { number = 3; name = name; at = at }

-- the finding that a call names a port that isn't there
abbrev pub port_unknown : List ℕ → ℕ → Finding
port_unknown name at = record { number = 4; name = name; at = at }

-- the finding that an output of a chain is no data
abbrev pub not_data : ℕ → Finding
not_data at = record { number = 5; name = []; at = at }

-- the finding that a status is out of its range, or isn't declared
abbrev pub bad_status : ℕ → Finding
bad_status at = record { number = 6; name = []; at = at }

-- the finding that there are too many of something
abbrev pub too_many : ℕ → Finding
too_many at = record { number = 7; name = []; at = at }

-- the finding that a name is too long, or can't be a file's
abbrev pub bad_name : List ℕ → ℕ → Finding
bad_name name at = record { number = 8; name = name; at = at }

-- a finding, where the test fails
abbrev pub unless : Bool → Finding → List Finding
unless true f = []
unless false f = f ∷ []

-- whether a name is one of these
abbrev pub is_among : List ℕ → List (List ℕ) → Bool
is_among name names = list_any (λ n. bytes_eq n name) names

-- ---- names that stand twice

-- names with their places; each that one of those before it has is found at its own place
abbrev pub repeats_after : List (List ℕ) → List (List ℕ × ℕ) → List Finding
repeats_after before [] = []
repeats_after before (n ∷ ns) = unless (not (is_among n.0 before)) (twice n.0 n.1) ++ repeats_after (before ++ n.0 ∷ []) ns

-- a finding for each name that stands twice
abbrev pub repeats : List (List ℕ × ℕ) → List Finding
repeats = repeats_after []

-- a name with its place
abbrev pub placed : Name → List ℕ × ℕ
placed n = (n.text, n.at)

-- a text in quotes with its place
abbrev pub placed_quoted : Quoted → List ℕ × ℕ
placed_quoted q = (q.text, q.at)

-- the names of ports
abbrev pub port_names : List Port → List (List ℕ)
port_names = map (λ p. p.name.text)

-- the names of ports with their places
abbrev pub ports_placed : List Port → List (List ℕ × ℕ)
ports_placed = map (λ p. placed p.name)

-- ---- the parts of a definition

-- a definition's head: its name, its ports and its exit codes
abbrev pub head_of : Definition → Head
head_of (definition.Function f) = f.head
head_of (definition.Job j) = j.head
head_of (definition.Chain c) = c.head

-- the rules of a function or a job; a chain has none
abbrev pub rules_of : Definition → List Rule
rules_of (definition.Function f) = f.rules
rules_of (definition.Job j) = j.parse
rules_of (definition.Chain c) = []

-- the pieces of a chain's outline; others have none
abbrev pub pieces_of : Definition → List Piece
pieces_of (definition.Function f) = []
pieces_of (definition.Job j) = []
pieces_of (definition.Chain c) = pieces c.outline

-- whether a definition is a work chain
abbrev pub is_chain : Definition → Bool
is_chain (definition.Chain c) = true
is_chain _ = false

-- the statement of a piece, if it is one
abbrev pub stmt_of : Piece → List Stmt
stmt_of (Does s) = s ∷ []
stmt_of _ = []

-- the statements of a definition's outline
abbrev pub stmts_of : Definition → List Stmt
stmts_of d = flat_map stmt_of (pieces_of d)

-- the call of a statement, if it is one
abbrev pub call_of : Stmt → List CallStmt
call_of (stmt.Call c) = c ∷ []
call_of _ = []

-- the calls of a definition
abbrev pub calls_of : Definition → List CallStmt
calls_of d = flat_map call_of (stmts_of d)

-- the expressions of a job's lines, in order
abbrev pub line_exprs : Definition → List Expr
line_exprs (definition.Job j) = j.program.value ∷ map (λ l. l.value) j.args ++ map (λ f. f.value) j.files
line_exprs _ = []

-- The first definition of this name in a library, or none
abbrev pub definition_named : List ℕ → List Definition → Option Definition
definition_named name [] = None
definition_named name (d ∷ ds) = if bytes_eq (head_of d).name.text name then Some d else definition_named name ds

-- ---- what a bare name may name

-- `retrieved` and `code`, which the rules of a job know beside its inputs
abbrev pub result_names : List (List ℕ)
result_names = codes "retrieved" ∷ codes "code" ∷ []

-- the names that a definition may not give itself: of a job those of its result
abbrev pub reserved_in : Definition → List (List ℕ)
reserved_in (definition.Job j) = result_names
reserved_in _ = []

-- what may be named at a place: whether it is in a chain, the input ports, and the bare names
pub record Scope : Type 0 where
  pub in_chain : Bool
  -- the input ports
  pub ports : List (List ℕ)
  -- what a bare name may name
  pub known : List (List ℕ)

-- the names of a definition's input ports
abbrev pub inputs_of : Definition → List (List ℕ)
inputs_of d = port_names (head_of d).inputs

-- where lines of a job and the outline of a work chain stand
abbrev pub scope_of : Definition → Scope
scope_of d = record { in_chain = is_chain d; ports = inputs_of d; known = if is_chain d then [] else inputs_of d }

-- where the first rule stands
abbrev pub first_scope : Definition → Scope
first_scope d = record { in_chain = false; ports = inputs_of d; known = inputs_of d ++ reserved_in d }

-- where what follows a rule stands
abbrev pub scope_after : Rule → Scope → Scope
scope_after (rule.Let at n e) s = record { in_chain = s.in_chain; ports = s.ports; known = s.known ++ n.text ∷ [] }
scope_after _ s = s

-- the word `inputs`
abbrev pub inputs_word : List ℕ
inputs_word = codes "inputs"

-- the word `ctx`
abbrev pub ctx_word : List ℕ
ctx_word = codes "ctx"

-- a finding where what is mentioned can't be named at this place
abbrev pub unknown_mention : Scope → Mention → List Finding
unknown_mention s (Bare n) = unless (is_among n.text s.known) (unknown n.text n.at)
unknown_mention s (Given n) = unless (not s.in_chain && is_among n.text s.ports) (unknown n.text n.at)
unknown_mention s (Input at n) = if s.in_chain then unless (is_among n.text s.ports) (unknown n.text n.at) else unknown inputs_word at ∷ []
unknown_mention s (Context at n) = unless s.in_chain (unknown ctx_word at)
unknown_mention s (Label n) = []

-- the findings of unknown names among mentions
abbrev pub unknown_in : Scope → List Mention → List Finding
unknown_in s = flat_map (unknown_mention s)

-- the findings of unknown names in rules, each in the scope behind those before it
abbrev pub unknown_in_rules : Scope → List Rule → List Finding
unknown_in_rules s [] = []
unknown_in_rules s (r ∷ rs) = unknown_in s (rule_mentions r) ++ unknown_in_rules (scope_after r s) rs

-- what a piece of an outline mentions
abbrev pub piece_mentions : Piece → List Mention
piece_mentions (Begins at) = []
piece_mentions (Named n) = []
piece_mentions (Does s) = stmt_mentions s
piece_mentions (Tests e) = mentions e
piece_mentions (Returns n) = []

-- ---- the rules, each with the places at which a definition breaks it

-- port names differ in one list
abbrev pub repeated_ports : Definition → List Finding
repeated_ports d = repeats (ports_placed (head_of d).inputs) ++ repeats (ports_placed (head_of d).outputs)

-- a finding where a job's port has a name of its result
abbrev pub reserved_port : Port → List Finding
reserved_port p = unless (not (is_among p.name.text result_names)) (twice p.name.text p.name.at)

-- no port of a job is named `retrieved` or `code`
abbrev pub reserved_ports : Definition → List Finding
reserved_ports (definition.Job j) = flat_map reserved_port j.head.inputs ++ flat_map reserved_port j.head.outputs
reserved_ports _ = []

-- whether a status is among these
abbrev pub is_status : ℤ → List ℤ → Bool
is_status n ms = list_any (λ m. int_eq m n) ms

-- a finding for each status that stands among those before it
abbrev pub repeated_statuses_after : List ℤ → List Number → List Finding
repeated_statuses_after before [] = []
repeated_statuses_after before (n ∷ ns) = unless (not (is_status n.value before)) (twice (signed_decimal n.value) n.at) ++ repeated_statuses_after (before ++ n.value ∷ []) ns

-- the statuses that a definition declares
abbrev pub declared_numbers : Definition → List Number
declared_numbers d = map (λ c. c.status) (head_of d).codes

-- exit statuses differ
abbrev pub repeated_statuses : Definition → List Finding
repeated_statuses d = repeated_statuses_after [] (declared_numbers d)

-- the names of a job's `file` lines differ, and those of its `fetch` lines
abbrev pub repeated_files : Definition → List Finding
repeated_files (definition.Job j) = repeats (map (λ f. placed_quoted f.name) j.files) ++ repeats (map (λ f. placed_quoted f.name) j.fetch)
repeated_files _ = []

-- a `let` differs from the input ports and the lets before it, and in a job from `retrieved` and `code`
abbrev pub let_repeats : Scope → Rule → List Finding
let_repeats s (rule.Let at n e) = unless (not (is_among n.text s.known)) (twice n.text n.at)
let_repeats s _ = []

-- the findings of lets that name what is known already, in rules
abbrev pub repeated_lets_in : Scope → List Rule → List Finding
repeated_lets_in s [] = []
repeated_lets_in s (r ∷ rs) = let_repeats s r ++ repeated_lets_in (scope_after r s) rs

-- those of a definition
abbrev pub repeated_lets : Definition → List Finding
repeated_lets d = repeated_lets_in (first_scope d) (rules_of d)

-- each name in an expression is one that may stand there
abbrev pub unknown_names : Definition → List Finding
unknown_names d =
    flat_map (λ e. unknown_in (scope_of d) (mentions e)) (line_exprs d)
    ++ (unknown_in_rules (first_scope d) (rules_of d)
    ++ flat_map (λ p. unknown_in (scope_of d) (piece_mentions p)) (pieces_of d))

-- the output that a rule sets, if it sets one
abbrev pub rule_output : Rule → List Name
rule_output (rule.Out at n e) = n ∷ []
rule_output _ = []

-- the output that a statement sets, if it sets one
abbrev pub stmt_output : Stmt → List Name
stmt_output (stmt.Out at n e) = n ∷ []
stmt_output _ = []

-- a finding where an output isn't declared
abbrev pub unknown_output : List (List ℕ) → Name → List Finding
unknown_output outputs n = unless (is_among n.text outputs) (unknown n.text n.at)

-- `out` names an output port
abbrev pub unknown_outputs : Definition → List Finding
unknown_outputs d = flat_map (unknown_output (port_names (head_of d).outputs)) (flat_map rule_output (rules_of d) ++ flat_map stmt_output (stmts_of d))

-- the input ports of what is called, or none where that isn't there
abbrev pub called_ports : List Definition → CallStmt → Option (List Port)
called_ports library c = option_map (λ d. (head_of d).inputs) (definition_named c.callee.text library)

-- a finding where what is called isn't in the library
abbrev pub callee_of : CallStmt → Option (List Port) → List Finding
callee_of c None = unknown c.callee.text c.callee.at ∷ []
callee_of c (Some ports) = []

-- `call` names a definition
abbrev pub unknown_callees : List Definition → Definition → List Finding
unknown_callees library d = flat_map (λ c. callee_of c (called_ports library c)) (calls_of d)

-- the ports that a call gives
abbrev pub given_ports : CallStmt → List (List ℕ)
given_ports c = map (λ a. a.port.text) c.args

-- the name of a port, where it is required
abbrev pub required_name : Port → List (List ℕ)
required_name p = if p.optional then [] else p.name.text ∷ []

-- the ports that may not be left out
abbrev pub required_names : List Port → List (List ℕ)
required_names = flat_map required_name

-- a finding where a required port isn't given
abbrev pub missing_port : List (List ℕ) → ℕ → List ℕ → List Finding
missing_port given at name = unless (is_among name given) (port_missing name at)

-- the findings of required ports that a call doesn't give
abbrev pub missing_of : CallStmt → Option (List Port) → List Finding
missing_of c None = []
missing_of c (Some ports) = flat_map (missing_port (given_ports c) c.at) (required_names ports)

-- a call gives every required input port of what it calls
abbrev pub missing_ports : List Definition → Definition → List Finding
missing_ports library d = flat_map (λ c. missing_of c (called_ports library c)) (calls_of d)

-- a finding where an argument's port isn't one of the callee's
abbrev pub unknown_port : List (List ℕ) → CallArg → List Finding
unknown_port ports a = unless (is_among a.port.text ports) (port_unknown a.port.text a.port.at)

-- the findings of such arguments of a call
abbrev pub unknown_of : CallStmt → Option (List Port) → List Finding
unknown_of c None = []
unknown_of c (Some ports) = flat_map (unknown_port (port_names ports)) c.args

-- a call gives no port that isn't there
abbrev pub unknown_ports : List Definition → Definition → List Finding
unknown_ports library d = flat_map (λ c. unknown_of c (called_ports library c)) (calls_of d)

-- the findings of ports that a call gives twice
abbrev pub repeated_args : CallStmt → List Finding
repeated_args c = repeats (map (λ a. placed a.port) c.args)

-- a call gives no port twice
abbrev pub repeated_arguments : Definition → List Finding
repeated_arguments d = flat_map repeated_args (calls_of d)

-- whether an output of a child is asked for
abbrev pub is_outputs : ChildPart → Bool
is_outputs (part.Outputs n) = true
is_outputs _ = false

-- whether an expression is a node: an input or an output of a child
abbrev pub is_data : Form-F Form Expr → Bool
is_data (Form-F.Input at n) = true
is_data (Form-F.Child at n i p) = is_outputs p
is_data _ = false

-- a finding where an output of a chain is no node
abbrev pub stmt_data : Stmt → List Finding
stmt_data (stmt.Out at n e) = unless (is_data (out-Form e.form)) (not_data e.at)
stmt_data _ = []

-- the expression of `out` in a work chain is `inputs.N`, or a path that ends in `outputs.N`
abbrev pub not_nodes : Definition → List Finding
not_nodes d = flat_map stmt_data (stmts_of d)

-- a finding where a declared status isn't from 100 to 9999
abbrev pub bad_range : Number → List Finding
bad_range n = unless (int_le (pos 100) n.value && int_le n.value (pos 9999)) (bad_status n.at)

-- a declared status is 100 to 9999
abbrev pub bad_declared : Definition → List Finding
bad_declared d = flat_map bad_range (declared_numbers d)

-- the status of a rule that is an exit
abbrev pub rule_status : Rule → List Number
rule_status (rule.Exit x) = x.status ∷ []
rule_status _ = []

-- the status of a statement that is an exit
abbrev pub stmt_status : Stmt → List Number
stmt_status (stmt.Exit x) = x.status ∷ []
stmt_status _ = []

-- the status of a piece that is an exit or a `return`
abbrev pub piece_status : Piece → List Number
piece_status (Does s) = stmt_status s
piece_status (Returns n) = n ∷ []
piece_status _ = []

-- a finding where a status is neither 0 nor declared
abbrev pub undeclared : List ℤ → Number → List Finding
undeclared declared n = unless (int_eq n.value (pos 0) || is_status n.value declared) (bad_status n.at)

-- a number after `exit` or `return` is 0 or declared
abbrev pub bad_exits : Definition → List Finding
bad_exits d = flat_map (undeclared (map (λ n. n.value) (declared_numbers d))) (flat_map rule_status (rules_of d) ++ flat_map piece_status (pieces_of d))

-- the first of the items that is one too many
abbrev pub first_of : List ℕ → List Finding
first_of [] = []
first_of (at ∷ ats) = too_many at ∷ []

-- a finding at the first place beyond the most that there may be
abbrev pub over : ℕ → List ℕ → List Finding
over most ats = first_of (drop most ats)

-- the place of a rule
abbrev pub rule_at : Rule → ℕ
rule_at (rule.Let at n e) = at
rule_at (rule.Out at n e) = at
rule_at (rule.Exit x) = x.at

-- the place of a statement
abbrev pub stmt_at : Stmt → ℕ
stmt_at (stmt.Ctx at n e) = at
stmt_at (stmt.Out at n e) = at
stmt_at (stmt.Exit x) = x.at
stmt_at (stmt.Call c) = c.at

-- the place of a piece that counts as a statement or a step
abbrev pub piece_places : Piece → List ℕ
piece_places (Begins at) = at ∷ []
piece_places (Does s) = stmt_at s ∷ []
piece_places _ = []

-- the places of a job's lines
abbrev pub line_places : Definition → List ℕ
line_places (definition.Job j) = j.program.at ∷ map (λ l. l.at) j.args ++ (map (λ f. f.at) j.files ++ map (λ f. f.at) j.fetch)
line_places _ = []

-- where the instructions, statements, rules and job lines of a definition begin
abbrev pub places : Definition → List ℕ
places d = line_places d ++ (map rule_at (rules_of d) ++ flat_map piece_places (pieces_of d))

-- at most 32 ports in a list, 64 exit codes, and 512 instructions, statements, rules and job lines together
abbrev pub over_counts : Definition → List Finding
over_counts d =
    over 32 (map (λ p. p.at) (head_of d).inputs)
    ++ (over 32 (map (λ p. p.at) (head_of d).outputs)
    ++ (over 64 (map (λ c. c.at) (head_of d).codes)
    ++ over 512 (places d)))

-- the name that a rule gives
abbrev pub rule_name : Rule → List Name
rule_name (rule.Let at n e) = n ∷ []
rule_name (rule.Out at n e) = n ∷ []
rule_name (rule.Exit x) = []

-- the names that a statement gives or uses
abbrev pub stmt_names : Stmt → List Name
stmt_names (stmt.Ctx at n e) = n ∷ []
stmt_names (stmt.Out at n e) = n ∷ []
stmt_names (stmt.Exit x) = []
stmt_names (stmt.Call c) = c.callee ∷ map (λ a. a.port) c.args ++ c.key ∷ []

-- the names that a piece gives or uses
abbrev pub piece_names : Piece → List Name
piece_names (Named n) = n ∷ []
piece_names (Does s) = stmt_names s
piece_names _ = []

-- the names of mentions
abbrev pub mentioned_names : List Mention → List Name
mentioned_names = map mentioned

-- every name in a definition
abbrev pub names_of : Definition → List Name
names_of d =
    (head_of d).name ∷ map (λ p. p.name) ((head_of d).inputs ++ (head_of d).outputs)
    ++ (flat_map (λ e. mentioned_names (mentions e)) (line_exprs d)
    ++ (flat_map (λ r. rule_name r ++ mentioned_names (rule_mentions r)) (rules_of d)
    ++ flat_map (λ p. piece_names p ++ mentioned_names (piece_mentions p)) (pieces_of d)))

-- a finding where a name has more than 64 bytes
abbrev pub long_name : Name → List Finding
long_name n = unless (nat_le (length n.text) 64) (bad_name n.text n.at)

-- names have at most 64 bytes
abbrev pub long_names : Definition → List Finding
long_names d = flat_map long_name (names_of d)

-- a letter, a digit, `.`, `_` or `-`
abbrev pub is_file_byte : ℕ → Bool
is_file_byte b =
    (nat_le 65 b && nat_le b 90) || (nat_le 97 b && nat_le b 122) || (nat_le 48 b && nat_le b 57)
    || (b == 46) || (b == 95) || (b == 45)

-- `_wc`, with which no name of a job's file begins
abbrev pub own_prefix : List ℕ
own_prefix = codes "_wc"

-- whether a name begins with these bytes
abbrev pub begins_with : List ℕ → List ℕ → Bool
begins_with prefix name = bytes_eq prefix (take (length prefix) name)

-- a name that a job's file may have
abbrev pub is_file_name : List ℕ → Bool
is_file_name name =
    nat_le 1 (length name) && nat_le (length name) 64 && list_all is_file_byte name
    && not (begins_with (codes ".") name) && not (begins_with own_prefix name)

-- `stdout.txt` and `stderr.txt`, which the program's own output has
abbrev pub output_files : List (List ℕ)
output_files = codes "stdout.txt" ∷ codes "stderr.txt" ∷ []

-- a finding where a file of a job can't have its name
abbrev pub bad_written : JobFile → List Finding
bad_written f = unless (is_file_name f.name.text && not (is_among f.name.text output_files)) (bad_name f.name.text f.name.at)

-- a finding where what is fetched can't have its name
abbrev pub bad_fetched : Fetch → List Finding
bad_fetched f = unless (is_file_name f.name.text) (bad_name f.name.text f.name.at)

-- a job's files have names that they may have, and none that is written has that of the program's own output
abbrev pub bad_file_names : Definition → List Finding
bad_file_names (definition.Job j) = flat_map bad_written j.files ++ flat_map bad_fetched j.fetch
bad_file_names _ = []

-- ---- of a whole library

-- definition names differ
abbrev pub repeated_definitions : List Definition → List Finding
repeated_definitions library = repeats (map (λ d. placed (head_of d).name) library)

-- at most 64 definitions
abbrev pub over_definitions : List Definition → List Finding
over_definitions library = over 64 (map (λ d. (head_of d).at) library)
