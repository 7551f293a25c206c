-- What is found at one part of a library.
use Rattle.std.specs.Prelude.{ℕ, List, ◌++◌, flat_map}
use Rattle.wc_syntax.specs.declared.definition.Definition.{Definition}
use Rattle.wc_syntax.specs.declared.definition.Rule.{Rule}
use Rattle.wc_syntax.specs.declared.outline.CallStmt.{CallStmt}
use Rattle.wc_syntax.specs.Mentions.{Mention, Piece, mentions, mentioned, rule_mentions}
use Rattle.wc_syntax.specs.Findings.{Finding, unknown_mention, unknown_in, unknown_output, long_name, line_exprs, pieces_of, piece_mentions, piece_names, rule_name, scope_of, stmt_of, stmt_output, stmt_data, call_of, called_ports, callee_of, missing_of, unknown_of, repeated_args}
use Rattle.wc_check.specs.declared.mentions.Search.{Search}
use Rattle.wc_check.specs.declared.mentions.Search.TheVariants as search
use Rattle.wc_check.specs.Scopes.{scope_seen}

-- a finding where a name that is mentioned is too long
abbrev pub long_mention : Mention → List Finding
long_mention m = long_name (mentioned m)

-- at a name in an expression
abbrev pub found_at : Search → Mention → List Finding
found_at (search.Unknown s) = unknown_mention (scope_seen s.now)
found_at search.Long = long_mention

-- at the names of a rule
abbrev pub long_in_rule : Rule → List Finding
long_in_rule r = flat_map long_name (rule_name r) ++ flat_map long_mention (rule_mentions r)

-- at the names of a piece
abbrev pub long_in_piece : Piece → List Finding
long_in_piece p = flat_map long_name (piece_names p) ++ flat_map long_mention (piece_mentions p)

-- at the names that expressions outside of rules mention
abbrev pub unknown_outside : Definition → List Finding
unknown_outside d = flat_map (λ e. unknown_in (scope_of d) (mentions e)) (line_exprs d) ++ flat_map (λ p. unknown_in (scope_of d) (piece_mentions p)) (pieces_of d)

-- at an output that a piece sets
abbrev pub outputs_at : List (List ℕ) → Piece → List Finding
outputs_at outputs p = flat_map (unknown_output outputs) (flat_map stmt_output (stmt_of p)) ++ flat_map stmt_data (stmt_of p)

-- at a call
abbrev pub call_found : List Definition → CallStmt → List Finding
call_found library c = callee_of c (called_ports library c) ++ (missing_of c (called_ports library c) ++ (unknown_of c (called_ports library c) ++ repeated_args c))

-- at the call that a piece is
abbrev pub calls_at : List Definition → Piece → List Finding
calls_at library p = flat_map (call_found library) (flat_map call_of (stmt_of p))
