-- The definitions of a library keep the rules in the library with a chain behind them.
use Rattle.std.proofs.Common.{◌≡◌, ◌∙◌, ap, sym, refl, subst, ℕ, ◌+◌, ◌<◌, List, [], ◌∷◌, ◌++◌, map, length, length-append, Option, Some, None, arith}
use Rattle.std.proofs.lemmas.List.{map-append}
use Rattle.std.specs.Prelude.{flat_map, option_map}
use Rattle.std.specs.List.{AllByRecursion}
use Rattle.wc_syntax.specs.Checked.{IsCheckedDefinition, KeepsRules}
use Rattle.wc_syntax.specs.Findings.{Finding, placed, head_of, definition_named, calls_of, called_ports, callee_of, missing_of, unknown_of, repeated_definitions, over_definitions}
use Rattle.wc_syntax.specs.declared.definition.Definition.{Definition}
use Rattle.wc_syntax.specs.declared.definition.Port.{Port}
use Rattle.wc_syntax.specs.declared.outline.CallStmt.{CallStmt}
use Rattle.wc_check.proofs.Ruled.{over_within}
use Rattle.wc_restart.proofs.Named.{found_before}
use Rattle.wc_expansion.proofs.Lists.{none, first, second, all_append}
use Rattle.wc_expansion.proofs.Names.{Differ, differ_of, of_differ, names_of, differ_last, named, not_named}

found_there : (c : CallStmt) (o : Option Definition) → callee_of c (option_map (λ d. (head_of d).inputs) o) ≡ [] → (d : Definition) × (o ≡ Some d)
found_there c None h = absurd (cc)
found_there c (Some d) h = (d, refl)

-- a call finds what it found before
same_ports : (library more : List Definition) (c : CallStmt) → callee_of c (called_ports library c) ≡ [] → called_ports (library ++ more) c ≡ called_ports library c
same_ports library more c h =
    let f = found_there c (definition_named c.callee.text library) h in
    ap (option_map (λ d. (head_of d).inputs)) (found_before c.callee.text library more f.0 f.1 ∙ sym f.1)

same_calls : (library more : List Definition) (f : CallStmt → Option (List Port) → List Finding) (cs : List CallStmt) → flat_map (λ c. callee_of c (called_ports library c)) cs ≡ []
    → flat_map (λ c. f c (called_ports library c)) cs ≡ [] → flat_map (λ c. f c (called_ports (library ++ more) c)) cs ≡ []
same_calls library more f [] h k = refl
same_calls library more f (c ∷ cs) h k =
    let here = first (callee_of c (called_ports library c)) (flat_map (λ x. callee_of x (called_ports library x)) cs) h in
    none (f c (called_ports (library ++ more) c)) (flat_map (λ x. f x (called_ports (library ++ more) x)) cs)
    (ap (f c) (same_ports library more c here) ∙ first (f c (called_ports library c)) (flat_map (λ x. f x (called_ports library x)) cs) k)
    (same_calls library more f cs (second (callee_of c (called_ports library c)) (flat_map (λ x. callee_of x (called_ports library x)) cs) h)
    (second (f c (called_ports library c)) (flat_map (λ x. f x (called_ports library x)) cs) k))

old_definition : (library more : List Definition) (d : Definition) → IsCheckedDefinition library d → IsCheckedDefinition (library ++ more) d
old_definition library more d k = record {
  ports_differ = k.ports_differ;
  ports_free = k.ports_free;
  statuses_differ = k.statuses_differ;
  files_differ = k.files_differ;
  lets_differ = k.lets_differ;
  names_known = k.names_known;
  outputs_known = k.outputs_known;
  callees_known = same_calls library more callee_of (calls_of d) k.callees_known k.callees_known;
  required_given = same_calls library more missing_of (calls_of d) k.callees_known k.required_given;
  given_known = same_calls library more unknown_of (calls_of d) k.callees_known k.given_known;
  given_once = k.given_once;
  outputs_are_nodes = k.outputs_are_nodes;
  statuses_in_range = k.statuses_in_range;
  exits_declared = k.exits_declared;
  counts = k.counts;
  names_short = k.names_short;
  files_named = k.files_named;
}

old_each : (library more ds : List Definition) → AllByRecursion (IsCheckedDefinition library) ds → AllByRecursion (IsCheckedDefinition (library ++ more)) ds
old_each library more [] a = tt
old_each library more (d ∷ ds) a = (old_definition library more d a.0, old_each library more ds a.1)

differ_more : (library : List Definition) (d : Definition) → repeated_definitions library ≡ [] → definition_named (named d) library ≡ None → repeated_definitions (library ++ d ∷ []) ≡ []
differ_more library d h free =
    let places : List Definition → List (List ℕ × ℕ) = map (λ x. placed (head_of x).name) in
    let old : Differ [] (map named library) = subst (Differ []) (names_of (λ x. placed (head_of x).name) library) (differ_of [] (places library) h) in
    let all : Differ [] (map named (library ++ d ∷ [])) = subst (Differ []) (sym (map-append named library (d ∷ []))) (differ_last [] (map named library) (named d) old (not_named (named d) library free)) in
    of_differ [] (places (library ++ d ∷ [])) (subst (Differ []) (sym (names_of (λ x. placed (head_of x).name) (library ++ d ∷ []))) all)

few_more : (library : List Definition) (d : Definition) → length library < 64 → over_definitions (library ++ d ∷ []) ≡ []
few_more library d h =
    let l : length (library ++ d ∷ []) ≡ length library + 1 = length-append library (d ∷ []) in
    over_within (λ x. (head_of x).at) 64 (library ++ d ∷ []) (omega arith)

-- The rules are kept with one definition more, where it keeps them, has a new name and finds room.
pub kept_more : (library : List Definition) (d : Definition) → KeepsRules library → definition_named (named d) library ≡ None → length library < 64
    → IsCheckedDefinition (library ++ d ∷ []) d → KeepsRules (library ++ d ∷ [])
kept_more library d k free few c = record {
  differ = differ_more library d k.differ free;
  few = few_more library d few;
  each = all_append (IsCheckedDefinition (library ++ d ∷ [])) library (d ∷ []) (old_each library (d ∷ []) library k.each) (c, tt);
}
