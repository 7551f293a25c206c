-- Which bytes are texts.
use Rattle.std.proofs.Common.{◌≡◌, ℕ, ◌<◌, List, length, get_or, Bool, true, Some, None, sym, ap, ◌∙◌, subst, arith, if◌then◌else◌}
use Rattle.std.specs.Str.{IsUtf8, is_utf8}
use Rattle.std.proofs.lemmas.Bool.Decides.{nat_tests}
use Rattle.std.proofs.lemmas.Str.{is_utf8-from_IsUtf8, IsUtf8-from_ascii}
use Rattle.std.proofs.lemmas.Str.Ascii.{IsAscii-from_reads}
use Rattle.wc_lexer.specs.Tokens.{is_in_name}

-- a text of such bytes is never refused
pub is_text : (bs cs : List ℕ) → IsUtf8 bs → cs ≡ bs → None ≡ (if is_utf8 cs then Some cs else None) → ⊥
is_text bs cs u e h =
    let t : is_utf8 cs ≡ true = is_utf8-from_IsUtf8 cs (subst IsUtf8 (sym e) u) in
    let k : None ≡ Some cs = h ∙ ap (λ (b : Bool). if b then Some cs else None) t in
    absurd (cc)

below_128 : (b : ℕ) → is_in_name b ≡ true → b < 128
below_128 b h = grind (arith, nat_tests)

-- letters are a text
pub name_utf8 : (bs : List ℕ) → ((k : ℕ) → k < length bs → is_in_name (get_or bs k 0) ≡ true) → IsUtf8 bs
name_utf8 bs h = IsUtf8-from_ascii bs (IsAscii-from_reads bs (length bs) (omega arith) (λ k l. below_128 _ (h k l)))
