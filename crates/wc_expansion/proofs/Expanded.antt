-- The library with the chain added, in the terms of the bare library that it is made of.
use Rattle.std.proofs.Common.{◌≡◌, ◌∙◌, ap, sym, subst, ℕ, ◌<◌, ◌≤◌, false, if◌then◌else◌, List, [], ◌∷◌, ◌++◌, length, Some, None, Ok, append-nil, arith}
use Rattle.std.proofs.lemmas.Bool.{le-leb, lt-ltb}
use Rattle.std.proofs.lemmas.Bool.Decides.{nat_tests}
use Rattle.std.proofs.lemmas.Grind.{flat_map-append}
use Rattle.std.proofs.lemmas.List.{length-map}
use Rattle.std.specs.Prelude.{nat_lt, nat_le}
use Rattle.wc_handlers.specs.Specs.{IsSpec}
use Rattle.wc_handlers.specs.declared.error.RestartError.{RestartError}
use Rattle.wc_handlers.specs.declared.error.RestartError.TheVariants as error
use Rattle.wc_handlers.specs.declared.spec.Spec.{Spec}
use Rattle.wc_syntax.specs.Bare.{bare_definition, bare_library}
use Rattle.wc_syntax.specs.Checked.{IsChecked}
use Rattle.wc_syntax.specs.Printing.{printed_definition, printed}
use Rattle.wc_syntax.proofs.Bared.{printed_bare}
use Rattle.wc_syntax.specs.declared.definition.Chain.{Chain}
use Rattle.wc_syntax.specs.declared.definition.Definition.{Definition}
use Rattle.wc_syntax.specs.declared.definition.Definition.TheVariants as definition
use Rattle.wc_parser.specs.Parsing.{TextSays}
use Rattle.wc_restart.specs.Chains.{chain_of, expanded}
use Rattle.wc_restart.specs.Judging.{Refusal, unless, or_then, misnamed, is_small, refusal}
use Rattle.wc_expansion.specs.Texts.{ReadsAs}
use Rattle.wc_expansion.proofs.Bares.{chain_bare, expanded_bare, misnamed_bare}
use Rattle.wc_expansion.proofs.Known.{known}
use Rattle.wc_expansion.proofs.Written.{read_back}

-- the printed text, made of that of the library and that of the chain of the library with its offsets
pub text_is : (library bare : List Definition) (s : Spec) → bare_library library ≡ bare → printed bare ++ printed_definition (definition.Chain (chain_of library s)) ≡ printed (expanded bare s)
text_is library bare s h =
    let chain : printed_definition (definition.Chain (chain_of library s)) ≡ printed_definition (definition.Chain (chain_of bare s)) =
    ap (λ (c : Chain). printed_definition (definition.Chain c)) (sym (chain_bare library s) ∙ ap (λ (l : List Definition). chain_of l s) h) in
    (λ i. printed bare ++ chain i)
    ∙ ap (λ (z : List ℕ). printed bare ++ z) (sym (append-nil (printed_definition (definition.Chain (chain_of bare s)))))
    ∙ sym (flat_map-append printed_definition bare (definition.Chain (chain_of bare s) ∷ []))

same_text : (library bare : List Definition) (s : Spec) → bare_library library ≡ bare → printed (expanded library s) ≡ printed (expanded bare s)
same_text library bare s h = sym (printed_bare (expanded library s)) ∙ ap printed (expanded_bare library s) ∙ ap (λ (l : List Definition). printed (expanded l s)) h

pub expansion : (library bare : List Definition) (s : Spec) → bare_library library ≡ bare → IsChecked library → IsSpec s → misnamed bare s ≡ None → length bare < 64
    → length (printed (expanded bare s)) ≤ 1048576 → ReadsAs (printed (expanded bare s)) (expanded bare s)
expansion library bare s h k i m few short =
    let named : misnamed library s ≡ None = sym (misnamed_bare library s) ∙ ap (λ (l : List Definition). misnamed l s) h ∙ m in
    let text = same_text library bare s h in
    let count : length library ≡ length bare = sym (length-map library bare_definition) ∙ ap length h in
    let fits : length library < 64 = omega arith in
    let long : length (printed (expanded library s)) ≡ length (printed (expanded bare s)) = ap length text in
    let r = read_back library s k.writable i (known library s named) k.rules fits (omega arith) in
    record {
      library = r.0;
      says = subst (λ t. TextSays t (Ok r.0)) text r.1;
      same = r.2 ∙ expanded_bare library s ∙ ap (λ (l : List Definition). expanded l s) h;
      keeps = r.3;
    }

-- ---- refusals

pub named_first : (library bare : List Definition) (s : Spec) (e : RestartError) → bare_library library ≡ bare → misnamed library s ≡ Some e → refusal bare s ≡ Some e
named_first library bare s e h m =
    let n : misnamed bare s ≡ Some e = ap (λ (l : List Definition). misnamed l s) (sym h) ∙ misnamed_bare library s ∙ m in
    ap (λ (r : Refusal). or_then r (unless (is_small bare s) error.TooMany)) n

pub not_named : (library bare : List Definition) (s : Spec) → bare_library library ≡ bare → misnamed library s ≡ None → misnamed bare s ≡ None
not_named library bare s h m = ap (λ (l : List Definition). misnamed l s) (sym h) ∙ misnamed_bare library s ∙ m

not_less : (m n : ℕ) → n ≤ m → nat_lt m n ≡ false
not_less m n h = grind (arith, nat_tests)

not_within : (m n : ℕ) → n < m → nat_le m n ≡ false
not_within m n h = grind (arith, nat_tests)

pub many : (bare : List Definition) (s : Spec) → misnamed bare s ≡ None → 64 ≤ length bare → refusal bare s ≡ Some error.TooMany
many bare s m h = λ i. or_then (m i) (unless (if not_less (length bare) 64 h i then nat_le (length (printed (expanded bare s))) 1048576 else false) error.TooMany)

pub long : (bare : List Definition) (s : Spec) → misnamed bare s ≡ None → length bare < 64 → 1048576 < length (printed (expanded bare s)) → refusal bare s ≡ Some error.TooMany
long bare s m h l = λ i. or_then (m i) (unless (if lt-ltb (length bare) 64 h i then not_within (length (printed (expanded bare s))) 1048576 l i else false) error.TooMany)

pub taken : (bare : List Definition) (s : Spec) → misnamed bare s ≡ None → length bare < 64 → length (printed (expanded bare s)) ≤ 1048576 → refusal bare s ≡ None
taken bare s m h l = λ i. or_then (m i) (unless (if lt-ltb (length bare) 64 h i then le-leb (length (printed (expanded bare s))) 1048576 l i else false) error.TooMany)
