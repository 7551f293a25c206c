-- The content of a file, and the text of a whole value.
use Rattle.std.proofs.Common.{◌≡◌, ℕ, ◌≤◌, List, Bool, true, false, Some, Result, Ok, Err, String, Global, string_bytes, refl, sym, ap, ◌∙◌, subst, rules}
use Rattle.std.specs.Prelude.{if◌then◌else◌, IfOk}
use Rattle.std.specs.Str.{IsUtf8, is_utf8}
use Rattle.std.proofs.lemmas.Str.{IsUtf8-from_is_utf8, is_utf8-from_IsUtf8}
use Rattle.serde_json.specs.Data.{Data, string, depth}
use Rattle.serde_json.specs.Read.{read}
use Rattle.serde_json.specs.View.{view}
use Rattle.serde_json.specs.declared.value.Value.{Value, the_lemmas}
use Rattle.serde_json.specs.declared.value.Value.TheVariants as json
use Rattle.wc_json.specs.Writing.{hex_data, content_data}

view_string : (s : String Global) → view (json.String s) ≡ string (string_bytes s)
view_string s = search (rules, the_lemmas)

pub text_content : (s : String Global) (text bytes content : List ℕ) → string_bytes s ≡ text → text ≡ bytes → IsUtf8 bytes → bytes ≡ content → view (json.String s) ≡ content_data content
text_content s text bytes content p q u r =
    let known : is_utf8 content ≡ true = ap is_utf8 (sym r) ∙ is_utf8-from_IsUtf8 bytes u in
    view_string s ∙ ap string (p ∙ q ∙ r) ∙ ap (λ (b : Bool). if b then string content else hex_data content) (sym known)

no_text_at : (bytes : List ℕ) → (IsUtf8 bytes → ⊥) → (b : Bool) → is_utf8 bytes ≡ b → hex_data bytes ≡ (if b then string bytes else hex_data bytes)
no_text_at bytes h true e = absurd (h (IsUtf8-from_is_utf8 bytes e))
no_text_at bytes h false e = refl

pub hex_content : {E : Type 0} (r : Result Value E) (bytes again content : List ℕ) → (IsUtf8 bytes → ⊥) → bytes ≡ content → again ≡ content
    → IfOk r (λ v. view v ≡ hex_data again) → IfOk r (λ v. view v ≡ content_data content)
hex_content (Ok v) bytes again content h p q seen = seen ∙ ap hex_data q ∙ no_text_at content (λ u. h (subst IsUtf8 (sym p) u)) (is_utf8 content) refl
hex_content (Err e) bytes again content h p q seen = tt

pub reads : {E : Type 0} (r : Result (List ℕ) E) (s : List ℕ) (d e : Data) → IfOk r (λ t. t ≡ s) → d ≡ e → (depth d ≤ 127 → read s ≡ Some d) → IfOk r (λ t. depth e ≤ 127 → read t ≡ Some e)
reads (Ok t) s d e is same back = λ h. ap read is ∙ back (subst (λ z. depth z ≤ 127) (sym same) h) ∙ ap Some same
reads (Err x) s d e is same back = tt
