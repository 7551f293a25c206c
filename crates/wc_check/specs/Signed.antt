-- Input ports, by sets of their names.
use Rattle.std.specs.Prelude.{ℕ, List, Vec, Option, Some, None, ⊤}
use Rattle.std.specs.Option.{option_map}
use Rattle.std.specs.Ordering.{nat_cmp}
use Rattle.std.specs.Cmp.Lexicographic.{slice_cmp}
use Rattle.std.specs.BTreeMap.{BTreeMap, get_by}
use Rattle.std.specs.declared.alloc.Global.{Global}
use Rattle.wc_syntax.specs.declared.definition.Definition.{Definition}
use Rattle.wc_syntax.specs.declared.definition.Port.{Port}
use Rattle.wc_syntax.specs.Findings.{port_names, required_names, definition_named, head_of}
use Rattle.wc_check.specs.declared.calls.Signature.{Signature}
use Rattle.wc_check.specs.Flat.{behind}
use Rattle.wc_check.specs.Least.{Agree}

-- the sets of names are those of the ports, and of the required ones
pub record IsSignature (s : Signature) (ps : List Port) : Type 0 where
  pub ports : Agree s.ports (port_names ps)
  pub required : Agree (behind s.required.items) (required_names ps)

-- a signature of the ports, where there are such, and none where there are none
abbrev pub FitsFound : Option Signature → Option (List Port) → Type 0
FitsFound None None = ⊤
FitsFound None (Some ports) = ⊥
FitsFound (Some s) None = ⊥
FitsFound (Some s) (Some ports) = IsSignature s ports

-- the signature that is kept for a name
abbrev pub signature_named : List ℕ → BTreeMap (Vec ℕ Global) Signature → Option Signature
signature_named name = get_by (λ k. slice_cmp nat_cmp name k.items)

-- the input ports of the definition with a name
abbrev pub ports_named : List ℕ → List Definition → Option (List Port)
ports_named name library = option_map (λ d. (head_of d).inputs) (definition_named name library)

-- there is a signature for each name of a library, and it is that definition's
abbrev pub AreSignatures : BTreeMap (Vec ℕ Global) Signature → List Definition → Type 0
AreSignatures signatures library = (name : List ℕ) → FitsFound (signature_named name signatures) (ports_named name library)
