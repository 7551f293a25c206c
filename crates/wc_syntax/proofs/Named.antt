-- Offsets play no part in which definition has a name, nor in its text.
use Rattle.std.proofs.Common.{◌≡◌, ◌<◌, ◌+◌, ℕ, Bool, true, false, List, [], ◌∷◌, Option, Some, length, map, drop, get_or, refl, sym, ap, ◌∙◌}
use Rattle.std.specs.Prelude.{if◌then◌else◌, slice_get}
use Rattle.std.specs.Option.{option_map}
use Rattle.std.proofs.lemmas.Option.{slice_get-map, slice_get-get_or}
use Rattle.std.proofs.lemmas.List.{drop_more}
use Rattle.std.specs.Str.{bytes_eq}
use Rattle.wc_syntax.specs.Bare.{bare_definition, bare_library}
use Rattle.wc_syntax.specs.Findings.{head_of, definition_named}
use Rattle.wc_syntax.specs.Printing.{printed_definition}
use Rattle.wc_syntax.specs.declared.definition.Definition.{Definition}
use Rattle.wc_syntax.specs.declared.definition.Definition.TheVariants as definition
use Rattle.wc_syntax.proofs.Bared.{definition_bare}

head_bare : (d : Definition) → (head_of (bare_definition d)).name.text ≡ (head_of d).name.text
head_bare (definition.Function f) = refl
head_bare (definition.Job j) = refl
head_bare (definition.Chain c) = refl

chosen : (t : Bool) (d : Definition) (o p : Option Definition) → option_map printed_definition o ≡ option_map printed_definition p
    → option_map printed_definition (if t then Some (bare_definition d) else o) ≡ option_map printed_definition (if t then Some d else p)
chosen true d o p same = ap (λ (t : List ℕ). Some t) (definition_bare d)
chosen false d o p same = same

pub text_bare : (name : List ℕ) (ds : List Definition) → option_map printed_definition (definition_named name (bare_library ds)) ≡ option_map printed_definition (definition_named name ds)
text_bare name [] = refl
text_bare name (d ∷ ds) =
    ap (λ (text : List ℕ). option_map printed_definition (if bytes_eq text name then Some (bare_definition d) else definition_named name (bare_library ds))) (head_bare d)
    ∙ chosen (bytes_eq (head_of d).name.text name) d (definition_named name (bare_library ds)) (definition_named name ds) (text_bare name ds)

cut_at : (ds : List Definition) (at : ℕ) (d : Definition) → at < length ds → d ≡ get_or ds at d → drop at ds ≡ d ∷ drop (at + 1) ds
cut_at ds at d within is = drop_more ds at d within ∙ ap (λ (x : Definition). x ∷ drop (at + 1) ds) (sym is)

named_at : (name : List ℕ) (ds : List Definition) (at : ℕ) (d : Definition) (t : Bool) → at < length ds → d ≡ get_or ds at d → bytes_eq (head_of d).name.text name ≡ t
    → definition_named name (drop at ds) ≡ (if t then Some d else definition_named name (drop (at + 1) ds))
named_at name ds at d t within is same =
    ap (definition_named name) (cut_at ds at d within is) ∙ ap (λ (b : Bool). if b then Some d else definition_named name (drop (at + 1) ds)) same

-- The definition at a place has the name, and none before it.
pub text_at : (name : List ℕ) (ds : List Definition) (at : ℕ) (d : Definition) → at < length ds → d ≡ get_or ds at d → bytes_eq (head_of d).name.text name ≡ true
    → definition_named name (drop at ds) ≡ definition_named name ds → slice_get (map printed_definition ds) at ≡ option_map printed_definition (definition_named name ds)
text_at name ds at d within is same kept =
    slice_get-map printed_definition ds at
    ∙ ap (λ (o : Option Definition). option_map printed_definition o) (slice_get-get_or ds at d within ∙ ap (λ (x : Definition). Some x) (sym is) ∙ sym (named_at name ds at d true within is same) ∙ kept)

-- It has another name.
pub text_next : (name : List ℕ) (ds : List Definition) (at : ℕ) (d : Definition) → at < length ds → d ≡ get_or ds at d → bytes_eq (head_of d).name.text name ≡ false
    → definition_named name (drop at ds) ≡ definition_named name ds → definition_named name (drop (at + 1) ds) ≡ definition_named name ds
text_next name ds at d within is same kept = sym (named_at name ds at d false within is same) ∙ kept
