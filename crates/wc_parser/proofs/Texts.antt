-- A text has one answer at most.
use Rattle.std.proofs.Common.{◌≡◌, ℕ, ◌≤◌, ◌<◌, Bool, true, false, List, length, Option, Some, None, Result, Ok, Err, refl, sym, ◌∙◌, subst, ◌⊎◌, inl, inr}
use Rattle.std.specs.Prelude.{nat_lt}
use Rattle.std.proofs.lemmas.Bool.{lt-ltb, le-ltb}
use Rattle.wc_lexer.specs.declared.error.LexError.{LexError}
use Rattle.wc_syntax.specs.declared.definition.Definition.{Definition}
use Rattle.wc_syntax.specs.Printing.{printed}
use Rattle.wc_lexer.specs.Tokens.{tokens_of}
use Rattle.wc_grammar.specs.Rules.{Tok}
use Rattle.wc_reader.specs.declared.error.ReadError.TheVariants as reading
use Rattle.wc_parser.specs.declared.error.ParseError.TheVariants.{OutOfMemory, TooLong, Lex, TooDeep, Unexpected, EndOfText}
use Rattle.wc_reader.specs.Answer.{Answer, Says}
use Rattle.wc_reader.specs.Depth.{too_deep}
use Rattle.wc_parser.specs.Parsing.{Parsed, HasTokens, IsTextOf, PrintsLong, TextSays, TextTold, TextMeets}
use Rattle.wc_reader.proofs.Whole.{one_answer}

-- ---- the answer, step by step
abbrev Limits : Bool → List Definition → Parsed → Type 0
Limits true library r = r ≡ Err TooLong
Limits false library r = r ≡ Ok library

abbrev lifted : Answer → Parsed → Type 0
lifted (Ok library) r = Limits (nat_lt 1048576 (length (printed library))) library r
lifted (Err (reading.Unexpected at)) r = r ≡ Err (Unexpected at)
lifted (Err reading.EndOfText) r = r ≡ Err EndOfText
lifted (Err reading.OutOfMemory) r = r ≡ Err OutOfMemory

abbrev Deep : Option ℕ → List Tok → Parsed → Type 0
Deep (Some at) ts r = r ≡ Err (TooDeep at)
Deep None ts r = (a : Answer) × Says ts a × lifted a r

abbrev Chosen : Bool → Result (List Tok) LexError → Parsed → Type 0
Chosen true c r = r ≡ Err TooLong
Chosen false (Err e) r = r ≡ Err (Lex e)
Chosen false (Ok ts) r = Deep (too_deep ts) ts r

one_limit : (b : Bool) (library : List Definition) (r s : Parsed) → Limits b library r → Limits b library s → r ≡ s
one_limit true library r s h k = h ∙ sym k
one_limit false library r s h k = h ∙ sym k

one_lifted : (a : Answer) (r s : Parsed) → lifted a r → lifted a s → r ≡ s
one_lifted (Ok library) r s h k = one_limit (nat_lt 1048576 (length (printed library))) library r s h k
one_lifted (Err (reading.Unexpected at)) r s h k = h ∙ sym k
one_lifted (Err reading.EndOfText) r s h k = h ∙ sym k
one_lifted (Err reading.OutOfMemory) r s h k = h ∙ sym k

one_deep : (o : Option ℕ) (ts : List Tok) (r s : Parsed) → Deep o ts r → Deep o ts s → r ≡ s
one_deep (Some at) ts r s h k = h ∙ sym k
one_deep None ts r s h k = one_lifted h.0 r s h.2 (subst (λ (a : Answer). lifted a s) (one_answer ts k.0 h.0 k.1 h.1) k.2)

one_chosen : (b : Bool) (c : Result (List Tok) LexError) (r s : Parsed) → Chosen b c r → Chosen b c s → r ≡ s
one_chosen true c r s h k = h ∙ sym k
one_chosen false (Err e) r s h k = h ∙ sym k
one_chosen false (Ok ts) r s h k = one_deep (too_deep ts) ts r s h k

at_short : (bytes : List ℕ) (r : Parsed) → length bytes ≤ 1048576 → Chosen false (tokens_of bytes) r → Chosen (nat_lt 1048576 (length bytes)) (tokens_of bytes) r
at_short bytes r h k = subst (λ (z : Bool). Chosen z (tokens_of bytes) r) (sym (le-ltb 1048576 (length bytes) h)) k

at_tokens : (bytes : List ℕ) (ts : List Tok) (r : Parsed) → HasTokens bytes ts → Deep None ts r → Chosen (nat_lt 1048576 (length bytes)) (tokens_of bytes) r
at_tokens bytes ts r h k =
    at_short bytes r h.short (subst (λ z. Chosen false z r) (sym h.cut) (subst (λ (z : Option ℕ). Deep z ts r) (sym h.flat) k))

at_library : (bytes : List ℕ) (library : List Definition) (r : Parsed) → IsTextOf bytes library → Limits (nat_lt 1048576 (length (printed library))) library r
    → Chosen (nat_lt 1048576 (length bytes)) (tokens_of bytes) r
at_library bytes library r h k = at_tokens bytes h.0 r h.1 (Ok library, h.2, k)

at_ok : (bytes : List ℕ) (library : List Definition) → IsTextOf bytes library → length (printed library) ≤ 1048576
    → Chosen (nat_lt 1048576 (length bytes)) (tokens_of bytes) (Ok library)
at_ok bytes library h k =
    at_library bytes library (Ok library) h (subst (λ (z : Bool). Limits z library (Ok library)) (sym (le-ltb 1048576 (length (printed library)) k)) refl)

at_long : (bytes : List ℕ) → (1048576 < length bytes) ⊎ PrintsLong bytes → Chosen (nat_lt 1048576 (length bytes)) (tokens_of bytes) (Err TooLong)
at_long bytes (inl h) = subst (λ (z : Bool). Chosen z (tokens_of bytes) (Err TooLong)) (sym (lt-ltb 1048576 (length bytes) h)) refl
at_long bytes (inr h) =
    at_library bytes h.0 (Err TooLong) h.1 (subst (λ (z : Bool). Limits z h.0 (Err TooLong)) (sym (lt-ltb 1048576 (length (printed h.0)) h.2)) refl)

chosen : (bytes : List ℕ) (r : Parsed) → TextSays bytes r → Chosen (nat_lt 1048576 (length bytes)) (tokens_of bytes) r
chosen bytes (Ok library) h = at_ok bytes library h.0 h.1
chosen bytes (Err TooLong) h = at_long bytes h
chosen bytes (Err (Lex e)) h = at_short bytes (Err (Lex e)) h.0 (subst (λ z. Chosen false z (Err (Lex e))) (sym h.1) refl)
chosen bytes (Err (TooDeep at)) h =
    at_short bytes (Err (TooDeep at)) h.short (subst (λ z. Chosen false z (Err (TooDeep at))) (sym h.cut) (subst (λ (z : Option ℕ). Deep z h.tokens (Err (TooDeep at))) (sym h.deep) refl))
chosen bytes (Err (Unexpected at)) h = at_tokens bytes h.0 (Err (Unexpected at)) h.1 (Err (reading.Unexpected at), h.2, refl)
chosen bytes (Err EndOfText) h = at_tokens bytes h.0 (Err EndOfText) h.1 (Err reading.EndOfText, h.2, refl)
chosen bytes (Err OutOfMemory) h = absurd h

pub one_text_answer : (bytes : List ℕ) (r s : Parsed) → TextSays bytes r → TextSays bytes s → r ≡ s
one_text_answer bytes r s h k = one_chosen (nat_lt 1048576 (length bytes)) (tokens_of bytes) r s (chosen bytes r h) (chosen bytes s k)

-- ---- what a call returned
pub text_meets : (bytes : List ℕ) (r : Parsed) → TextTold bytes r → (other : Parsed) → TextSays bytes other → TextMeets r other
text_meets bytes (Ok library) t other k = one_text_answer bytes (Ok library) other t k
text_meets bytes (Err TooLong) t other k = one_text_answer bytes (Err TooLong) other t k
text_meets bytes (Err (Lex e)) t other k = one_text_answer bytes (Err (Lex e)) other t k
text_meets bytes (Err (TooDeep at)) t other k = one_text_answer bytes (Err (TooDeep at)) other t k
text_meets bytes (Err (Unexpected at)) t other k = one_text_answer bytes (Err (Unexpected at)) other t k
text_meets bytes (Err EndOfText) t other k = one_text_answer bytes (Err EndOfText) other t k
text_meets bytes (Err OutOfMemory) t other k = tt
