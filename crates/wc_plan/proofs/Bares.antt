-- Offsets play no part in how inputs are given.
use Rattle.std.proofs.Common.{◌≡◌, ℕ, List, [], ◌∷◌, ◌++◌, Option, Some, None, Result, map, refl, sym, ap, ◌∙◌, if◌then◌else◌}
use Rattle.std.specs.Prelude.{is_none}
use Rattle.wc_value.specs.declared.value.Kind.{Kind}
use Rattle.wc_value.specs.declared.value.Value.{Value}
use Rattle.wc_syntax.specs.declared.definition.Port.{Port}
use Rattle.wc_syntax.specs.Bare.{bare_port}
use Rattle.wc_meaning.specs.Inputs.{least}
use Rattle.wc_semantics.proofs.BareCalculations.{kind_bare}
use Rattle.wc_json.specs.Limits.{read_fields}
use Rattle.wc_plan.specs.declared.status.Cause.{Cause}
use Rattle.wc_plan.specs.declared.status.Cause.TheVariants as cause
use Rattle.wc_plan.specs.Further.{InputsFrom, read_file}
use Rattle.wc_plan.proofs.Filed.{kinds_bare}
use Rattle.wc_plan.specs.Given.{value_of_kind, given_value, unread, times_given, is_in, is_ill, ill_given, bad_given, with_field, fields_of}

given_bare : (ps : List Port) (g : List ℕ × List ℕ) → given_value (map bare_port ps) g ≡ given_value ps g
given_bare ps g = λ i. value_of_kind (kind_bare g.0 ps i) g.1

unread_bare : (ps : List Port) (given : List (List ℕ × List ℕ)) → unread (map bare_port ps) given ≡ unread ps given
unread_bare ps [] = refl
unread_bare ps (g ∷ gs) = λ i. if is_none (given_bare ps g i) then g.0 ∷ unread_bare ps gs i else unread_bare ps gs i

ill_bare : (ps : List Port) (given : List (List ℕ × List ℕ)) (file : List (List ℕ × Value)) → ill_given (map bare_port ps) given file ≡ ill_given ps given file
ill_bare [] given file = refl
ill_bare (p ∷ ps) given file =
    λ i. if is_ill p (times_given p.name.text given) (is_in p.name.text file) then p.name.text ∷ ill_bare ps given file i else ill_bare ps given file i

pub bad_given_bare : (ps : List Port) (given : List (List ℕ × List ℕ)) (file : List (List ℕ × Value)) → bad_given (map bare_port ps) given file ≡ bad_given ps given file
bad_given_bare ps given file = λ i. least (ill_bare ps given file i ++ unread_bare ps given i)

pub fields_bare : (ps : List Port) (given : List (List ℕ × List ℕ)) (fs : List (List ℕ × Value))
    → fields_of (map bare_port ps) given fs ≡ fields_of ps given fs
fields_bare ps [] fs = refl
fields_bare ps (g ∷ gs) fs =
    let rest = fields_bare ps gs in
    (λ i. fields_of (map bare_port ps) gs (with_field g.0 (given_bare ps g i) fs)) ∙ rest (with_field g.0 (given_value ps g) fs)

-- a file of inputs is read alike
pub inputs_from_bare : (told : Option (List ℕ → Option (List ℕ))) (inputs : Option (List ℕ)) (ps : List Port) (r : Result (List (List ℕ × Value)) Cause)
    → InputsFrom told inputs ps r → InputsFrom told inputs (map bare_port ps) r
inputs_from_bare told None ps r h = h
inputs_from_bare told (Some file) ps r h =
    (h.0, h.1, h.2 ∙ sym (ap (λ (kinds : List (List ℕ × Kind)). read_file cause.Inputs (read_fields kinds) file h.0) (kinds_bare ps [])))
