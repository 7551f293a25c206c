-- The rules of a checked library: one field for each.
use Rattle.std.specs.Prelude.{◌≡◌, List, [], ◌++◌, flat_map}
use Rattle.std.specs.List.{AllByRecursion}
use Rattle.wc_syntax.specs.declared.definition.Definition.{Definition}
use Rattle.wc_syntax.specs.Findings.{Finding, repeated_ports, reserved_ports, repeated_statuses, repeated_files, repeated_lets, unknown_names, unknown_outputs, unknown_callees, missing_ports, unknown_ports, repeated_arguments, not_nodes, bad_declared, bad_exits, over_counts, long_names, bad_file_names, repeated_definitions, over_definitions}
use Rattle.wc_syntax.specs.Writable.{IsWritable}

-- a definition of a library meets the rules
pub record IsCheckedDefinition (library : List Definition) (d : Definition) : Type 0 where
  pub ports_differ : repeated_ports d ≡ []
  pub ports_free : reserved_ports d ≡ []
  pub statuses_differ : repeated_statuses d ≡ []
  pub files_differ : repeated_files d ≡ []
  pub lets_differ : repeated_lets d ≡ []
  pub names_known : unknown_names d ≡ []
  pub outputs_known : unknown_outputs d ≡ []
  pub callees_known : unknown_callees library d ≡ []
  pub required_given : missing_ports library d ≡ []
  pub given_known : unknown_ports library d ≡ []
  pub given_once : repeated_arguments d ≡ []
  pub outputs_are_nodes : not_nodes d ≡ []
  pub statuses_in_range : bad_declared d ≡ []
  pub exits_declared : bad_exits d ≡ []
  pub counts : over_counts d ≡ []
  pub names_short : long_names d ≡ []
  pub files_named : bad_file_names d ≡ []

-- a library meets the rules
pub record KeepsRules (library : List Definition) : Type 0 where
  pub differ : repeated_definitions library ≡ []
  pub few : over_definitions library ≡ []
  pub each : AllByRecursion (IsCheckedDefinition library) library

-- what stands twice in a definition
abbrev pub repeated_in : Definition → List Finding
repeated_in d = repeated_ports d ++ (reserved_ports d ++ (repeated_statuses d ++ (repeated_files d ++ repeated_lets d)))

-- what isn't known in a definition
abbrev pub unknown_to : List Definition → Definition → List Finding
unknown_to library d = unknown_names d ++ (unknown_outputs d ++ unknown_callees library d)

-- what is wrong with the ports that calls give
abbrev pub ports_of_calls : List Definition → Definition → List Finding
ports_of_calls library d = missing_ports library d ++ (unknown_ports library d ++ repeated_arguments d)

-- what has a wrong form in a definition
abbrev pub misformed_in : Definition → List Finding
misformed_in d = not_nodes d ++ (bad_declared d ++ (bad_exits d ++ (over_counts d ++ (long_names d ++ bad_file_names d))))

-- everything that a definition breaks
abbrev pub findings_in : List Definition → Definition → List Finding
findings_in library d = repeated_in d ++ (unknown_to library d ++ (ports_of_calls library d ++ misformed_in d))

-- everything that a library breaks
abbrev pub findings : List Definition → List Finding
findings library = repeated_definitions library ++ (over_definitions library ++ flat_map (findings_in library) library)

-- a checked library
pub record IsChecked (library : List Definition) : Type 0 where
  pub writable : IsWritable library
  pub rules : KeepsRules library
