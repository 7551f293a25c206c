-- The pieces of a chain keep the rules.
use Rattle.std.proofs.Common.{◌≡◌, ◌∙◌, ap, sym, refl, subst, ℕ, ℤ, pos, true, false, List, [], ◌∷◌, ◌++◌, map, Some, None}
use Rattle.std.specs.Prelude.{codes, flat_map, ◌||◌}
use Rattle.std.specs.Ordering.{int_eq}
use Rattle.std.specs.List.{AllByRecursion}
use Rattle.wc_syntax.specs.Findings.{unless, unknown, bad_status, not_data, port_unknown, is_among, is_status, placed, port_names, stmt_of, call_of, unknown_in, piece_mentions, stmt_output, unknown_output, called_ports, callee_of, given_ports, missing_of, unknown_port, unknown_of, repeated_args, is_data, stmt_data, piece_status, undeclared, piece_names, mentioned_names, long_name}
use Rattle.wc_syntax.specs.Mentions.{Mention, mentions, Piece, Begins, Named, Does, Tests}
use Rattle.wc_syntax.specs.declared.definition.Definition.{Definition}
use Rattle.wc_syntax.specs.declared.definition.Port.{Port}
use Rattle.wc_syntax.specs.declared.expression.ChildPart.TheVariants as asked
use Rattle.wc_syntax.specs.declared.expression.Expr.{Expr}
use Rattle.wc_syntax.specs.declared.expression.Form.{Form, out-Form, out-roll-Form}
use Rattle.wc_syntax.specs.declared.expression.Form.TheVariants as form
use Rattle.wc_syntax.specs.declared.expression.Form.TheOpen.{Form-F}
use Rattle.wc_syntax.specs.declared.expression.Name.{Name}
use Rattle.wc_syntax.specs.declared.outline.CallStmt.{CallStmt}
use Rattle.wc_restart.specs.Pieces.{word, number, set, exit, given, call_with, output_of}
use Rattle.wc_restart.specs.Ports.{required}
use Rattle.wc_restart.specs.Statements.{passed_on_as}
use Rattle.wc_expansion.proofs.Lists.{none, all_map, all_flat, or_right}
use Rattle.wc_expansion.proofs.Mentioned.{inside_of, Short, Seen, Sees, known_all, short_all, sees_output}
use Rattle.wc_expansion.proofs.Names.{Names, Within, Differ, met, none_missing, of_differ}

abbrev pub calls_in : Piece → List CallStmt
calls_in p = flat_map call_of (stmt_of p)

-- a piece keeps the rules in a chain with these ports and declared statuses
pub record Fine (library : List Definition) (ports outs : Names) (declared : List ℤ) (p : Piece) : Type 0 where
  pub known : unknown_in (inside_of ports) (piece_mentions p) ≡ []
  pub outputs : flat_map (unknown_output outs) (flat_map stmt_output (stmt_of p)) ≡ []
  pub callees : flat_map (λ c. callee_of c (called_ports library c)) (calls_in p) ≡ []
  pub required : flat_map (λ c. missing_of c (called_ports library c)) (calls_in p) ≡ []
  pub given : flat_map (λ c. unknown_of c (called_ports library c)) (calls_in p) ≡ []
  pub once : flat_map repeated_args (calls_in p) ≡ []
  pub nodes : flat_map stmt_data (stmt_of p) ≡ []
  pub exits : flat_map (undeclared declared) (piece_status p) ≡ []
  pub short : flat_map long_name (piece_names p ++ mentioned_names (piece_mentions p)) ≡ []

-- an expression that passes a node
pub data_of : (key label : List ℕ) → is_data (out-Form (output_of key label).form) ≡ true
data_of key label =
    ap (λ (f : Form). is_data (out-Form f)) (sym (form.rolls-Child 0 (word key) None (asked.Outputs (word label))))
    ∙ ap is_data (out-roll-Form (Form-F.Child 0 (word key) None (asked.Outputs (word label))))

-- what a call gives to what it calls
pub record Gives (target ports : List Port) : Type 0 where
  pub whole : Within (port_names (required target)) (port_names ports)
  pub among : AllByRecursion (λ p. is_among p.name.text (port_names target) ≡ true) ports
  pub differ : Differ [] (port_names ports)
  pub short : AllByRecursion (λ p. Short p.name.text) ports

module _ (library : List Definition) (ports outs : Names) (declared : List ℤ) where
  abbrev pub FineHere : Piece → Type 0
  FineHere = Fine library ports outs declared

  pub fine_begins : FineHere (Begins 0)
  fine_begins = record { known = refl; outputs = refl; callees = refl; required = refl; given = refl; once = refl; nodes = refl; exits = refl; short = refl }

  pub fine_named : (n : List ℕ) → Short n → FineHere (Named (word n))
  fine_named n h =
      record { known = refl; outputs = refl; callees = refl; required = refl; given = refl; once = refl; nodes = refl; exits = refl; short = none (long_name (word n)) [] h refl }

  pub fine_tests : (e : Expr) → Sees ports e → FineHere (Tests e)
  fine_tests e a = record {
    known = known_all ports (mentions e) a;
    outputs = refl;
    callees = refl;
    required = refl;
    given = refl;
    once = refl;
    nodes = refl;
    exits = refl;
    short = short_all ports (mentions e) a;
  }

  pub fine_set : (key : List ℕ) (e : Expr) → Short key → Sees ports e → FineHere (Does (set key e))
  fine_set key e h a = record {
    known = known_all ports (mentions e) a;
    outputs = refl;
    callees = refl;
    required = refl;
    given = refl;
    once = refl;
    nodes = refl;
    exits = refl;
    short = none (long_name (word key)) (flat_map long_name (mentioned_names (mentions e))) h (short_all ports (mentions e) a);
  }

  pub fine_passed : (name : List ℕ) → Short name → is_among name outs ≡ true → FineHere (Does (passed_on_as name))
  fine_passed name h k =
      let value = output_of (codes "job") name in
      let a = sees_output ports (codes "job") name refl h in
      record {
        known = known_all ports (mentions value) a;
        outputs = none (unless (is_among name outs) (unknown name 0)) [] (met (is_among name outs) (unknown name 0) k) refl;
        callees = refl;
        required = refl;
        given = refl;
        once = refl;
        nodes = none (unless (is_data (out-Form value.form)) (not_data value.at)) [] (met (is_data (out-Form value.form)) (not_data value.at) (data_of (codes "job") name)) refl;
        exits = refl;
        short = none (long_name (word name)) (flat_map long_name (mentioned_names (mentions value))) h (short_all ports (mentions value) a);
      }

  declares : (n : ℕ) → is_status (pos n) declared ≡ true → flat_map (undeclared declared) (number n ∷ []) ≡ []
  declares n h = none (unless (int_eq (pos n) (pos 0) || is_status (pos n) declared) (bad_status 0)) []
      (met (int_eq (pos n) (pos 0) || is_status (pos n) declared) (bad_status 0) (or_right (int_eq (pos n) (pos 0)) (is_status (pos n) declared) h)) refl

  pub fine_exit : (n : ℕ) → is_status (pos n) declared ≡ true → FineHere (Does (exit n None))
  fine_exit n h =
      record { known = refl; outputs = refl; callees = refl; required = refl; given = refl; once = refl; nodes = refl; exits = declares n h; short = refl }

  pub fine_exit_if : (n : ℕ) (e : Expr) → is_status (pos n) declared ≡ true → Sees ports e → FineHere (Does (exit n (Some e)))
  fine_exit_if n e h a = record {
    known = known_all ports (mentions e) a;
    outputs = refl;
    callees = refl;
    required = refl;
    given = refl;
    once = refl;
    nodes = refl;
    exits = declares n h;
    short = short_all ports (mentions e) a;
  }

  -- ---- calls

  given_names : (source : List ℕ → Expr) (ps : List Port) → map (λ a. a.port.text) (map (given source) ps) ≡ port_names ps
  given_names source [] = refl
  given_names source (p ∷ ps) = λ i. p.name.text ∷ given_names source ps i

  placed_names : (source : List ℕ → Expr) (ps : List Port) → map (λ x. x.0) (map (λ a. placed a.port) (map (given source) ps)) ≡ port_names ps
  placed_names source [] = refl
  placed_names source (p ∷ ps) = λ i. p.name.text ∷ placed_names source ps i

  none_unknown : (target : List Port) (source : List ℕ → Expr) (ps : List Port) → AllByRecursion (λ p. is_among p.name.text (port_names target) ≡ true) ps
      → flat_map (unknown_port (port_names target)) (map (given source) ps) ≡ []
  none_unknown target source [] a = refl
  none_unknown target source (p ∷ ps) a =
      none (unless (is_among p.name.text (port_names target)) (port_unknown p.name.text 0)) (flat_map (unknown_port (port_names target)) (map (given source) ps))
      (met (is_among p.name.text (port_names target)) (port_unknown p.name.text 0) a.0) (none_unknown target source ps a.1)

  arguments_seen : (source : List ℕ → Expr) (ps : List Port) → AllByRecursion (λ p. Sees ports (source p.name.text)) ps
      → AllByRecursion (Seen ports) (flat_map (λ a. mentions a.value) (map (given source) ps))
  arguments_seen source ps a = all_flat (Seen ports) (λ a. mentions a.value) (map (given source) ps) (all_map (λ c. AllByRecursion (Seen ports) (mentions c.value)) (given source) ps a)

  names_short : (source : List ℕ → Expr) (ps : List Port) (key : List ℕ) → AllByRecursion (λ p. Short p.name.text) ps → Short key
      → flat_map long_name (map (λ a. a.port) (map (given source) ps) ++ word key ∷ []) ≡ []
  names_short source [] key a h = none (long_name (word key)) [] h refl
  names_short source (p ∷ ps) key a h =
      none (long_name (word p.name.text)) (flat_map long_name (map (λ a. a.port) (map (given source) ps) ++ word key ∷ [])) a.0 (names_short source ps key a.1 h)

  joined_short : (ns : List Name) (ms : List Mention) → flat_map long_name ns ≡ [] → flat_map long_name (mentioned_names ms) ≡ [] → flat_map long_name (ns ++ mentioned_names ms) ≡ []
  joined_short [] ms h k = k
  joined_short (n ∷ ns) ms h k = by_parts (long_name n) (flat_map long_name ns) h (joined_short ns ms)
    where
      by_parts : (xs ys : _) → xs ++ ys ≡ [] → (ys ≡ [] → flat_map long_name (mentioned_names ms) ≡ [] → flat_map long_name (ns ++ mentioned_names ms) ≡ []) → xs ++ flat_map long_name (ns ++ mentioned_names ms) ≡ []
      by_parts [] ys h f = f h k
      by_parts (x ∷ xs) ys h f = absurd (cc)

  pub fine_call : (callee : List ℕ) (source : List ℕ → Expr) (ps target : List Port) (key : List ℕ) → Short callee → Short key
      → ((c : CallStmt) → c.callee.text ≡ callee → called_ports library c ≡ Some target) → Gives target ps → AllByRecursion (λ p. Sees ports (source p.name.text)) ps
      → FineHere (Does (call_with callee source ps key))
  fine_call callee source ps target key h k found g a =
      let c : CallStmt = record { at = 0; callee = word callee; args = map (given source) ps; append = false; key = word key } in
      let e = found c refl in
      let ms = flat_map (λ x. mentions x.value) c.args in
      let seen = arguments_seen source ps a in
      record {
        known = known_all ports ms seen;
        outputs = refl;
        callees = none (callee_of c (called_ports library c)) [] (ap (callee_of c) e) refl;
        required = none (missing_of c (called_ports library c)) [] (ap (missing_of c) e ∙ none_missing target (given_ports c) 0 (λ n m. ap (is_among n) (given_names source ps) ∙ g.whole n m)) refl;
        given = none (unknown_of c (called_ports library c)) [] (ap (unknown_of c) e ∙ none_unknown target source ps g.among) refl;
        once = none (repeated_args c) [] (of_differ [] (map (λ x. placed x.port) c.args) (subst (Differ []) (sym (placed_names source ps)) g.differ)) refl;
        nodes = refl;
        exits = refl;
        short = joined_short (word callee ∷ map (λ x. x.port) c.args ++ word key ∷ []) ms
            (none (long_name (word callee)) (flat_map long_name (map (λ x. x.port) c.args ++ word key ∷ [])) h (names_short source ps key g.short k)) (short_all ports ms seen);
      }
