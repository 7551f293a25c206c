-- A library keeps the rules exactly where nothing is found.
use Rattle.std.proofs.Common.{◌≡◌, List, [], ◌∷◌, ◌++◌, refl}
use Rattle.std.specs.Prelude.{◌↔◌, flat_map}
use Rattle.std.specs.List.{AllByRecursion}
use Rattle.wc_syntax.specs.declared.definition.Definition.{Definition}
use Rattle.wc_syntax.specs.Findings.{repeated_ports, reserved_ports, repeated_statuses, repeated_files, unknown_names, unknown_outputs, missing_ports, unknown_ports, not_nodes, bad_declared, bad_exits, over_counts, long_names, repeated_definitions, over_definitions}
use Rattle.wc_syntax.specs.Checked.{IsCheckedDefinition, KeepsRules, repeated_in, unknown_to, ports_of_calls, misformed_in, findings_in, findings}

none : {A : Type 0} (xs ys : List A) → xs ≡ [] → ys ≡ [] → xs ++ ys ≡ []
none xs ys p q = λ i. p i ++ q i

first : {A : Type 0} (xs ys : List A) → xs ++ ys ≡ [] → xs ≡ []
first [] ys h = refl
first (x ∷ xs) ys h = absurd (cc)

second : {A : Type 0} (xs ys : List A) → xs ++ ys ≡ [] → ys ≡ []
second [] ys h = h
second (x ∷ xs) ys h = absurd (cc)

definition_kept : (library : List Definition) (d : Definition) → IsCheckedDefinition library d → findings_in library d ≡ []
definition_kept library d k =
    none _ _ (none _ _ k.ports_differ (none _ _ k.ports_free (none _ _ k.statuses_differ (none _ _ k.files_differ k.lets_differ))))
    (none _ _ (none _ _ k.names_known (none _ _ k.outputs_known k.callees_known))
    (none _ _ (none _ _ k.required_given (none _ _ k.given_known k.given_once))
    (none _ _ k.outputs_are_nodes (none _ _ k.statuses_in_range (none _ _ k.exits_declared (none _ _ k.counts (none _ _ k.names_short k.files_named)))))))

definition_keeps : (library : List Definition) (d : Definition) → findings_in library d ≡ [] → IsCheckedDefinition library d
definition_keeps library d h =
    let r : repeated_in d ≡ [] = first (repeated_in d) _ h in
    let r₁ = second (repeated_ports d) _ r in
    let r₂ = second (reserved_ports d) _ r₁ in
    let r₃ = second (repeated_statuses d) _ r₂ in
    let h₁ = second (repeated_in d) _ h in
    let u : unknown_to library d ≡ [] = first (unknown_to library d) _ h₁ in
    let u₁ = second (unknown_names d) _ u in
    let h₂ = second (unknown_to library d) _ h₁ in
    let p : ports_of_calls library d ≡ [] = first (ports_of_calls library d) _ h₂ in
    let p₁ = second (missing_ports library d) _ p in
    let m : misformed_in d ≡ [] = second (ports_of_calls library d) _ h₂ in
    let m₁ = second (not_nodes d) _ m in
    let m₂ = second (bad_declared d) _ m₁ in
    let m₃ = second (bad_exits d) _ m₂ in
    let m₄ = second (over_counts d) _ m₃ in
    record {
      ports_differ = first (repeated_ports d) _ r;
      ports_free = first (reserved_ports d) _ r₁;
      statuses_differ = first (repeated_statuses d) _ r₂;
      files_differ = first (repeated_files d) _ r₃;
      lets_differ = second (repeated_files d) _ r₃;
      names_known = first (unknown_names d) _ u;
      outputs_known = first (unknown_outputs d) _ u₁;
      callees_known = second (unknown_outputs d) _ u₁;
      required_given = first (missing_ports library d) _ p;
      given_known = first (unknown_ports library d) _ p₁;
      given_once = second (unknown_ports library d) _ p₁;
      outputs_are_nodes = first (not_nodes d) _ m;
      statuses_in_range = first (bad_declared d) _ m₁;
      exits_declared = first (bad_exits d) _ m₂;
      counts = first (over_counts d) _ m₃;
      names_short = first (long_names d) _ m₄;
      files_named = second (long_names d) _ m₄;
    }

each_kept : (library ds : List Definition) → AllByRecursion (IsCheckedDefinition library) ds → flat_map (findings_in library) ds ≡ []
each_kept library [] a = refl
each_kept library (d ∷ ds) a = none _ _ (definition_kept library d a.0) (each_kept library ds a.1)

each_keeps : (library ds : List Definition) → flat_map (findings_in library) ds ≡ [] → AllByRecursion (IsCheckedDefinition library) ds
each_keeps library [] h = tt
each_keeps library (d ∷ ds) h = (definition_keeps library d (first (findings_in library d) _ h), each_keeps library ds (second (findings_in library d) _ h))

pub kept : (library : List Definition) → KeepsRules library ↔ (findings library ≡ [])
kept library = (
  (λ k. none _ _ k.differ (none _ _ k.few (each_kept library library k.each))),
  (λ h. let h₁ = second (repeated_definitions library) _ h in record {
    differ = first (repeated_definitions library) _ h;
    few = first (over_definitions library) _ h₁;
    each = each_keeps library library (second (over_definitions library) _ h₁);
  }),
)
