-- What a file's bytes are read as.
use Rattle.std.proofs.Common.{◌≡◌, ◌∙◌, ap, sym, refl, subst, ℕ, Bool, true, false, if◌then◌else◌, List, Some, None, Result, Ok, Err, IsUtf8}
use Rattle.std.specs.Str.{is_utf8}
use Rattle.std.proofs.lemmas.Str.{IsUtf8-from_is_utf8, is_utf8-from_IsUtf8}
use Rattle.toml.specs.Data.{Members}
use Rattle.toml.specs.Parse.{parse_document}
use Rattle.wc_handlers.specs.declared.error.RestartError.{RestartError}
use Rattle.wc_handlers.specs.declared.error.RestartError.TheVariants.{NotToml}
use Rattle.wc_handlers.specs.declared.spec.Spec.{Spec}
use Rattle.wc_handlers.specs.Reading.{told, unless_refused, spec_in_document, spec_in}
use Rattle.wc_handlers.specs.Refusals.{Refusal, least, refusals}
use Rattle.wc_handlers.specs.Specs.{spec_of, IsSpec}
use Rattle.wc_handlers.proofs.Kept.{spec_kept}

no_table : (bytes : List ℕ) (b : Bool) → is_utf8 bytes ≡ b → (IsUtf8 bytes → parse_document bytes ≡ None) → (if b then parse_document bytes else None) ≡ None
no_table bytes true is h = h (IsUtf8-from_is_utf8 bytes is)
no_table bytes false is h = refl

pub not_toml : (bytes : List ℕ) → (IsUtf8 bytes → parse_document bytes ≡ None) → spec_in bytes ≡ Err NotToml
not_toml bytes h = ap spec_in_document (no_table bytes (is_utf8 bytes) refl h)

pub of_table : (bytes : List ℕ) (ms : Members) → IsUtf8 bytes → parse_document bytes ≡ Some ms → spec_in bytes ≡ unless_refused ms (least (refusals ms))
of_table bytes ms utf8 parsed =
    ap spec_in_document (ap (λ (b : Bool). if b then parse_document bytes else None) (is_utf8-from_IsUtf8 bytes utf8) ∙ parsed)

refused_with : RestartError → Result Spec RestartError
refused_with e = Err e

pub refused_so : (bytes : List ℕ) (ms : Members) (r : Refusal) (e : RestartError) → IsUtf8 bytes → parse_document bytes ≡ Some ms → least (refusals ms) ≡ Some r
    → e ≡ told r → spec_in bytes ≡ Err e
unfolding refused_with
refused_so bytes ms r e utf8 parsed first is = of_table bytes ms utf8 parsed ∙ (ap (unless_refused ms) first ∙ ap refused_with (sym is))

says : Spec → Result Spec RestartError
says s = Ok s

pub read_so : (bytes : List ℕ) (ms : Members) (s : Spec) → IsUtf8 bytes → parse_document bytes ≡ Some ms → least (refusals ms) ≡ None → s ≡ spec_of ms → spec_in bytes ≡ Ok s
unfolding says
read_so bytes ms s utf8 parsed first is = of_table bytes ms utf8 parsed ∙ (ap (unless_refused ms) first ∙ ap says (sym is))

pub kept_so : (ms : Members) (s : Spec) → least (refusals ms) ≡ None → s ≡ spec_of ms → IsSpec s
kept_so ms s first is = subst IsSpec (sym is) (spec_kept ms first)
