-- What is given to a chain: values of depth 1 for a definition that is there.
use Rattle.std.proofs.Common.{◌≡◌, ◌≤◌, ℕ, ℤ, List, [], ◌∷◌, Some, refl, sym, subst, arith}
use Rattle.std.specs.Prelude.{All, codes, pos}
use Rattle.std.proofs.lemmas.List.Elements.{All-nil, All-cons}
use Rattle.wc_value.specs.Spelling.{depth}
use Rattle.wc_value.specs.declared.value.Value.{Value}
use Rattle.wc_value.specs.declared.value.Value.TheVariants as value
use Rattle.wc_value.proofs.Depths.{depth_int}
use Rattle.wc_syntax.specs.Findings.{definition_named}
use Rattle.wc_syntax.specs.declared.definition.Definition.TheVariants as definition
use Rattle.wc_drill.specs.Library.{chain_inputs, chain_name, library, pair}

abbrev Entry : Type 0
Entry = List ℕ × Value

abbrev IsShallow : Entry → Type 0
IsShallow i = depth i.1 ≤ 32

flat : (name : List ℕ) (n : ℤ) → IsShallow (name, value.Int n)
flat name n = subst (λ (d : ℕ). d ≤ 32) (sym (depth_int n)) (omega arith)

pub shallow : (first second : ℕ) → All (λ (i : Entry). depth i.1 ≤ 32) (chain_inputs first second)
shallow first second =
    All-cons IsShallow (codes "a", value.Int (pos first)) ((codes "b", value.Int (pos second)) ∷ []) (flat (codes "a") (pos first))
    (All-cons IsShallow (codes "b", value.Int (pos second)) [] (flat (codes "b") (pos second)) (All-nil IsShallow))

-- the library has the definition of chains
pub named : definition_named chain_name library ≡ Some (definition.Chain pair)
named = refl
