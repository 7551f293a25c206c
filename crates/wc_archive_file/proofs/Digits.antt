-- Values as hexadecimal digits.
use Rattle.std.proofs.Common.{◌≡◌, ℕ, ◌≤◌, List, Result, Ok, Err, Vec, ◌⊎◌, inl, inr, refl, sym, ap, subst, ◌∙◌}
use Rattle.std.specs.Prelude.{IsErr, IsErrAnd}
use Rattle.std.specs.declared.alloc.Global.{Global}
use Rattle.hex.specs.Hex.{IsBytes, decode_of, encode_lower}
use Rattle.hex.specs.declared.error.FromHexError.{FromHexError}
use Rattle.hex.specs.declared.error.FromHexError.TheVariants as hex
use Rattle.hex.proofs.HexLemmas.{decode_of-encode_lower, decode_of-ok}
use Rattle.wc_value.specs.Reading.{Answers}
use Rattle.wc_value.specs.Spelling.{depth, spelling}
use Rattle.wc_value.specs.Spells.{Spells}
use Rattle.wc_value.specs.declared.refusal.ValueError.{ValueError}
use Rattle.wc_value.specs.declared.refusal.ValueError.TheVariants as refusal
use Rattle.wc_value.specs.declared.value.Value.{Value}
use Rattle.wc_value.proofs.Respelled.{spells_is}
use Rattle.wc_archive_file.specs.declared.misread.Misread.{Misread}
use Rattle.wc_archive_file.specs.Archives.{IsValue}
use Rattle.wc_archive_file.specs.Reads.{IsShallow, Reads, ReadsDigits, Refuses, value_digits}
use Rattle.wc_archive_file.proofs.Steps.{passed, refuses}

abbrev okay : List ℕ → Result (List ℕ) FromHexError
okay bytes = Ok bytes

-- ---- digits

pub undecoded : (digits : List ℕ) (x : FromHexError) (e : Misread) → (x ≡ hex.OutOfMemory) ⊎ (decode_of digits ≡ Err x) → Refuses (x ≡ hex.OutOfMemory → ⊥) e
    → Refuses ((bytes : List ℕ) → decode_of digits ≡ Ok bytes → ⊥) e
undecoded digits x e (inl full) h = refuses e (λ other bytes ok. other full) h
undecoded digits x e (inr bad) h = refuses e (λ other bytes ok. let wrong : Err x ≡ Ok bytes = sym bad ∙ ok in cc) h

pub unread : (digits : List ℕ) (r : Result (Vec ℕ Global) Misread) (e : Misread) → IsErr r × IsErrAnd r (λ f. f ≡ e) → Refuses ((bytes : List ℕ) → decode_of digits ≡ Ok bytes → ⊥) e
    → ReadsDigits digits r
unread digits (Ok v) e h never = absurd h.1
unread digits (Err f) e h never =
    subst (Refuses ((bytes : List ℕ) → IsBytes bytes → digits ≡ encode_lower bytes → ⊥)) (sym h.1)
    (refuses e (λ none bytes small is. none bytes (ap decode_of is ∙ decode_of-encode_lower bytes small)) never)

pub decoded : (digits bytes : List ℕ) → decode_of digits ≡ Ok bytes → encode_lower bytes ≡ digits → (digits ≡ encode_lower bytes) × IsBytes bytes
decoded digits bytes h same = (sym same, (decode_of-ok digits bytes h).3)

pub other_digits : (digits bytes : List ℕ) → decode_of digits ≡ Ok bytes → (encode_lower bytes ≡ digits → ⊥) → (more : List ℕ) → IsBytes more → digits ≡ encode_lower more → ⊥
other_digits digits bytes h other more small is =
    let ok : decode_of digits ≡ Ok more = ap decode_of is ∙ decode_of-encode_lower more small in
    let both : okay bytes ≡ okay more = sym h ∙ ok in
    let same : bytes ≡ more = one_ok bytes more both in
    other (ap encode_lower same ∙ sym is)
  where
    one_ok : (a b : List ℕ) → okay a ≡ okay b → a ≡ b
    one_ok a b e = cc

-- ---- values

pub value_found : (bytes : List ℕ) (v : Value) → Spells v bytes → depth v ≤ 32 → (bytes ≡ spelling v) × IsShallow v
value_found bytes v h low = let is = spells_is v bytes h in (is, (subst (λ (b : List ℕ). Spells v b) is h, low))

not_answered : (e : ValueError) (v : Value) → (e ≡ refusal.OutOfMemory → ⊥) → Answers (Err e) (Ok v) → ⊥
not_answered refusal.OutOfMemory v other h = other refl
not_answered (refusal.Truncated at) v other h = cc
not_answered (refusal.BadTag at) v other h = cc
not_answered (refusal.NotUtf8 at) v other h = cc
not_answered (refusal.Unsorted at) v other h = cc
not_answered (refusal.TooDeep at) v other h = cc
not_answered (refusal.Trailing at) v other h = cc

pub no_value_found : (bytes : List ℕ) (e : ValueError) → (e ≡ refusal.OutOfMemory → ⊥) → ((v : Value) → Spells v bytes → depth v ≤ 32 → Answers (Err e) (Ok v))
    → (v : Value) → IsShallow v → bytes ≡ spelling v → ⊥
no_value_found bytes e other only v f is = not_answered e v other (only v (subst (λ (b : List ℕ). Spells v b) (sym is) f.0) f.1)

-- ---- digits of values

no_digits_at : (digits : List ℕ) (e : Misread) → Refuses ((bytes : List ℕ) → IsBytes bytes → digits ≡ encode_lower bytes → ⊥) e
    → Refuses ((v : Value) → IsValue v → digits ≡ value_digits v → ⊥) e
no_digits_at digits e h = refuses e (λ never v f is. never (spelling v) f.bytes is) h

module _ (digits bytes : List ℕ) (is : digits ≡ encode_lower bytes) (small : IsBytes bytes) where
  same_bytes : (v : Value) → IsValue v → digits ≡ value_digits v → bytes ≡ spelling v
  same_bytes v f same =
      let ok : okay bytes ≡ okay (spelling v) = sym (decode_of-encode_lower bytes small) ∙ ap decode_of (sym is ∙ same) ∙ decode_of-encode_lower (spelling v) f.bytes in
      one_ok bytes (spelling v) ok
    where
      one_ok : (a b : List ℕ) → okay a ≡ okay b → a ≡ b
      one_ok a b e = cc

  pub digits_read : (r : Result Value Misread) → Reads spelling IsShallow bytes r → Reads value_digits IsValue digits r
  digits_read (Ok v) h = (is ∙ ap encode_lower h.0, record { spelled = h.1.0; bytes = subst IsBytes h.0 small; shallow = h.1.1 })
  digits_read (Err e) h = refuses e (λ never v f same. never v (f.spelled, f.shallow) (same_bytes v f same)) h

pub no_digits : (digits : List ℕ) (r : Result Value Misread) (e : Misread) → IsErr r × IsErrAnd r (λ f. f ≡ e) → Refuses ((bytes : List ℕ) → IsBytes bytes → digits ≡ encode_lower bytes → ⊥) e
    → Reads value_digits IsValue digits r
no_digits digits r e h never = passed value_digits IsValue digits r e h (no_digits_at digits e never)
