-- Definitions that a world keeps are the same where they print the same text.
use Rattle.std.proofs.Common.{◌≡◌, ℕ, zero, suc, Bool, true, false, List, [], ◌∷◌, Option, Some, None, refl, sym, ap, subst, ◌∙◌}
use Rattle.std.specs.Prelude.{All, if◌then◌else◌, option_and_then, slice_get}
use Rattle.std.specs.List.{list_all}
use Rattle.std.specs.Str.{bytes_eq}
use Rattle.std.proofs.lemmas.List.Elements.{All-head, All-tail}
use Rattle.wc_syntax.specs.Bare.{bare_definition, bare_library}
use Rattle.wc_syntax.specs.Findings.{head_of, definition_named}
use Rattle.wc_syntax.specs.Printing.{printed_definition}
use Rattle.wc_syntax.specs.Writable.{is_definition}
use Rattle.wc_syntax.specs.declared.definition.Definition.{Definition}
use Rattle.wc_syntax.proofs.Bared.{definition_bare}
use Rattle.wc_parser.proofs.ReadBack.{definitions_print_apart}
use Rattle.wc_state.specs.declared.record.ProcessRecord.{ProcessRecord}
use Rattle.wc_world.specs.World.{World, Known}
use Rattle.wc_world.specs.Records.{library_at}
use Rattle.wc_world.proofs.Definitions.{named_bare}
use Rattle.wc_world.proofs.FoundRecords.{left, right}
use Rattle.wc_world.proofs.ReachedLists.{option_map_some}
use Rattle.wc_machine.specs.Recorded.{its_definition}
use Rattle.wc_machine.specs.Sources.{HaveEqualKeys}
use Rattle.wc_machine.specs.Submissions.{IsKeptLibrary}
use Rattle.wc_turn_laws.specs.CalculationLaws.{EqualKeysRunAlike}

-- ---- a kept definition is a bare one

-- what holds of each definition holds of the one that has a name
named_passes : (p : Definition → Bool) (ds : List Definition) (name : List ℕ) (d : Definition) → list_all p ds ≡ true → definition_named name ds ≡ Some d → p d ≡ true
named_passes p [] name d h e = absurd (cc)
named_passes p (x ∷ xs) name d h e =
    at (bytes_eq (head_of x).name.text name) (named_passes p xs name d (right (p x) (list_all p xs) h)) e
  where
    at : (b : Bool) → (definition_named name xs ≡ Some d → p d ≡ true) → (if b then Some x else definition_named name xs) ≡ Some d → p d ≡ true
    at true rest is = let same : x ≡ d = cc in ap p (sym same) ∙ left (p x) (list_all p xs) h
    at false rest is = rest is

-- a definition with its offsets, which a file can say
abbrev IsBareOf : Definition → Type 0
IsBareOf d = (x : Definition) × (is_definition x ≡ true) × (bare_definition x ≡ d)

kept_is_bare : (library : List Definition) → IsKeptLibrary library → (name : List ℕ) (d : Definition) → definition_named name library ≡ Some d → IsBareOf d
kept_is_bare library k name d h =
    let bare : definition_named name (bare_library k.0) ≡ Some d = ap (definition_named name) k.2 ∙ h in
    let x = option_map_some bare_definition (definition_named name k.0) d (sym (named_bare name k.0) ∙ bare) in
    (x.0, named_passes is_definition k.0 name x.0 k.1.writable.sayable x.1, x.2)

got : (P : Known → Type 0) (ks : List Known) (place : ℕ) (k : Known) → All P ks → slice_get ks place ≡ Some k → P k
got P [] place k all h = absurd (cc)
got P (x ∷ xs) zero k all h = let same : x ≡ k = cc in subst P same (All-head P x xs all)
got P (x ∷ xs) (suc place) k all h = got P xs place k (All-tail P x xs all) h

library_is_kept : (ks : List Known) (number : ℕ) (library : List Definition) → All (λ k. IsKeptLibrary k.0) ks → library_at ks number ≡ Some library → IsKeptLibrary library
library_is_kept ks zero library all h = absurd (cc)
library_is_kept ks (suc place) library all h =
    let k = option_map_some (λ (x : Known). x.0) (slice_get ks place) library h in
    subst IsKeptLibrary k.2 (got (λ x. IsKeptLibrary x.0) ks place k.0 all k.1)

definition_is_bare : (w : World) (r : ProcessRecord) (d : Definition) → All (λ k. IsKeptLibrary k.0) w.libraries → its_definition w r ≡ Some d → IsBareOf d
definition_is_bare w r d all h = at (library_at w.libraries r.library) refl h
  where
    at : (o : Option (List Definition)) → library_at w.libraries r.library ≡ o → option_and_then (definition_named r.definition) o ≡ Some d → IsBareOf d
    at None is e = absurd (cc)
    at (Some library) is e = kept_is_bare library (library_is_kept w.libraries r.library library all is) r.definition d e

-- ---- keys

one_bare : (a b : Definition) → IsBareOf a → IsBareOf b → printed_definition a ≡ printed_definition b → a ≡ b
one_bare a b x y h =
    let text : printed_definition x.0 ≡ printed_definition y.0
    = sym (definition_bare x.0) ∙ ap printed_definition x.2 ∙ h ∙ sym (ap printed_definition y.2) ∙ definition_bare y.0 in
    sym x.2 ∙ definitions_print_apart x.0 y.0 x.1 y.1 text ∙ y.2

-- Where a world keeps checked libraries, equal keys are those of equal definitions.
pub equal_keys : (w : World) (p q : ProcessRecord) → All (λ k. IsKeptLibrary k.0) w.libraries → HaveEqualKeys w p q → its_definition w p ≡ its_definition w q
equal_keys w p q all h =
    let same = one_bare h.one h.other (definition_is_bare w p h.one all h.is_one) (definition_is_bare w q h.other all h.is_other) h.texts in
    h.is_one ∙ ap (λ (d : Definition). Some d) same ∙ sym h.is_other

pub equal_keys_run_alike : EqualKeysRunAlike
equal_keys_run_alike w p q s h = equal_keys w p q s.libraries h
