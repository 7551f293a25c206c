-- Where expressions stand, by sets of names.
use Rattle.std.specs.Prelude.{◌≡◌, ℕ, Bool, List, [], ◌++◌, if◌then◌else◌}
use Rattle.wc_syntax.specs.Findings.{Scope, result_names}
use Rattle.wc_check.specs.declared.scopes.Scope.{Scope as Place}
use Rattle.wc_check.specs.Least.{Agree}

-- what a bare name may name, by whether it stands in a work chain, whether it stands where the results of a job do, the input
-- ports and the lets
abbrev pub known_names : Bool → Bool → List (List ℕ) → List (List ℕ) → List (List ℕ)
known_names in_chain has_results ports lets = if in_chain then lets else ports ++ ((if has_results then result_names else []) ++ lets)

-- a scope as contracts see it
abbrev pub scope_seen : Place → Scope
scope_seen s = record { in_chain = s.in_chain; ports = s.ports.now; known = known_names s.in_chain s.has_results s.ports.now s.lets }

-- the same names may stand in both
pub record Alike (s t : Scope) : Type 0 where
  pub in_chain : s.in_chain ≡ t.in_chain
  pub ports : Agree s.ports t.ports
  pub known : Agree s.known t.known
