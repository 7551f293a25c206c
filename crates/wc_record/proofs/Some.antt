-- Reading has an answer.
use Rattle.std.proofs.Common.{◌≡◌, ◌⊎◌, ℕ, zero, suc, ◌+◌, ◌≤◌, Bool, true, false, cond, ltb, bytes_eq, List, [], ◌∷◌, ◌++◌, length, get_or, Option, Some, None, Result, Ok, Err, refl, ap, inl, inr}
use Rattle.std.proofs.lemmas.Bool.{cases_lt, cases_eq}
use Rattle.std.proofs.lemmas.Slice.Eq.{bytes_eq-Decides}
use Rattle.wc_lexer.specs.declared.error.LexError.{LexError}
use Rattle.wc_lexer.specs.Tokens.{tokens_of}
use Rattle.wc_syntax.specs.declared.definition.Definition.{Definition}
use Rattle.wc_syntax.specs.Bare.{bare_library}
use Rattle.wc_syntax.specs.Checked.{findings}
use Rattle.wc_syntax.specs.Findings.{Finding}
use Rattle.wc_syntax.specs.Printing.{printed}
use Rattle.wc_grammar.specs.Rules.{Tok}
use Rattle.wc_reader.specs.declared.error.ReadError.TheVariants as reading
use Rattle.wc_reader.specs.Answer.{Answer, Says}
use Rattle.wc_reader.specs.Depth.{too_deep}
use Rattle.wc_reader.proofs.Whole.{some_answer}
use Rattle.wc_parser.specs.declared.error.ParseError.TheVariants.{TooLong, Lex, TooDeep, Unexpected, EndOfText}
use Rattle.wc_parser.specs.Parsing.{Parsed, HasTokens, IsTextOf, TextSays}
use Rattle.wc_check.proofs.Kept.{kept}
use Rattle.wc_world.specs.declared.change.Change.{Change}
use Rattle.wc_world.specs.declared.change.Change.TheVariants as change
use Rattle.wc_record.specs.declared.error.RecordError.{RecordError}
use Rattle.wc_record.specs.declared.error.RecordError.TheVariants.{Truncated, Trailing, BadLibrary}
use Rattle.wc_record.specs.Readers.{Reader, u32, text, built}
use Rattle.wc_record.specs.Fields.{names, other_change}
use Rattle.wc_record.specs.Reading.{Step, given, bind, library, library_change, HasLibraryTag, one_change, changes, counted_changes, whole}
use Rattle.wc_record.specs.Libraries.{Prints}
use Rattle.wc_record.proofs.Codes.{ok_is}
use Rattle.wc_record.proofs.Printed.{prints_other, prints_unruled, says_refused}

-- ---- a text has an answer
abbrev TextAnswer : List ℕ → Type 0
TextAnswer t = (r : Parsed) × TextSays t r

answer_by_length : (t : List ℕ) (l : List Definition) → IsTextOf t l → TextAnswer t
answer_by_length t l h =
    elim (cases_lt 1048576 (length (printed l))) [
      | inl long ↦ (Err TooLong, inr (l, h, long))
      | inr short ↦ (Ok l, (h, short))
    ]

answer_by_tokens : (t : List ℕ) (ts : List Tok) → HasTokens t ts → (a : Answer) → Says ts a → TextAnswer t
answer_by_tokens t ts h (Ok l) says = answer_by_length t l (ts, h, says)
answer_by_tokens t ts h (Err (reading.Unexpected at)) says = (Err (Unexpected at), (ts, h, says))
answer_by_tokens t ts h (Err reading.EndOfText) says = (Err EndOfText, (ts, h, says))
answer_by_tokens t ts h (Err reading.OutOfMemory) says = absurd says

answer_by_depth : (t : List ℕ) (ts : List Tok) → length t ≤ 1048576 → tokens_of t ≡ Ok ts → (o : Option ℕ) → too_deep ts ≡ o → TextAnswer t
answer_by_depth t ts short cut (Some at) deep = (Err (TooDeep at), record { short = short; tokens = ts; cut = cut; deep = deep })
answer_by_depth t ts short cut None flat =
    let a = some_answer ts in answer_by_tokens t ts (record { short = short; cut = cut; flat = flat }) a.0 a.1

answer_by_cut : (t : List ℕ) → length t ≤ 1048576 → (c : Result (List Tok) LexError) → tokens_of t ≡ c → TextAnswer t
answer_by_cut t short (Ok ts) cut = answer_by_depth t ts short cut (too_deep ts) refl
answer_by_cut t short (Err e) cut = (Err (Lex e), (short, cut))

text_answer : (t : List ℕ) → TextAnswer t
text_answer t =
    elim (cases_lt 1048576 (length t)) [
      | inl long ↦ (Err TooLong, inl long)
      | inr short ↦ answer_by_cut t short (tokens_of t) refl
    ]

-- ---- a text prints a library, or none
abbrev PrintsSome : List ℕ → Type 0
PrintsSome t = (o : Option (List Definition)) × Prints t o

prints_by_rules : (t : List ℕ) (l : List Definition) → TextSays t (Ok l) → printed l ≡ t → (fs : List Finding) → findings l ≡ fs → PrintsSome t
prints_by_rules t l says same [] e =
    (Some (bare_library l), record { library = l; says = says; rules = (kept l).1 e; prints = same; is_bare = refl })
prints_by_rules t l says same (f ∷ fs) e =
    (None, prints_unruled t l says (λ k. let none : findings l ≡ [] = (kept l).0 k in absurd (cc)))

prints_by_text : (t : List ℕ) (l : List Definition) → TextSays t (Ok l) → (b : Bool) → bytes_eq (printed l) t ≡ b → PrintsSome t
prints_by_text t l says true e = prints_by_rules t l says ((bytes_eq-Decides (printed l) t).0 e) (findings l) refl
prints_by_text t l says false e =
    (None, prints_other t l says (λ same. let equal : bytes_eq (printed l) t ≡ true = (bytes_eq-Decides (printed l) t).1 same in absurd (cc)))

prints_by_answer : (t : List ℕ) (r : Parsed) → TextSays t r → PrintsSome t
prints_by_answer t (Ok l) says = prints_by_text t l says (bytes_eq (printed l) t) refl
prints_by_answer t (Err e) says = (None, says_refused t e says)

prints_some : (t : List ℕ) → PrintsSome t
prints_some t = let a = text_answer t in prints_by_answer t a.0 a.1

-- ---- steps
abbrev Gives : {A : Type 0} → Step A → List ℕ → ℕ → Type 0
Gives {A} s bytes at = (r : Result (A × ℕ) RecordError) × s bytes at r

-- a step has an answer at each place
abbrev IsAnswered : {A : Type 0} → Step A → Type 0
IsAnswered s = (bytes : List ℕ) (at : ℕ) → Gives s bytes at

given_answered : {A : Type 0} (read : Reader A) → IsAnswered (given read)
given_answered read bytes at = (read bytes at, refl)

module _ {A B : Type 0} (s : Step A) (f : A → Step B) (rest : (x : A) → IsAnswered (f x)) where
  bind_by : (bytes : List ℕ) (at : ℕ) (r : Result (A × ℕ) RecordError) → s bytes at r → Gives (bind s f) bytes at
  bind_by bytes at (Ok x) h = let more = rest x.0 bytes x.1 in (more.0, inl (x.0, x.1, h, more.1))
  bind_by bytes at (Err e) h = (Err e, inr (e, h, refl))

  bind_answered : IsAnswered s → IsAnswered (bind s f)
  bind_answered one bytes at = let first = one bytes at in bind_by bytes at first.0 first.1

-- ---- libraries
library_by_print : (bytes : List ℕ) (at : ℕ) (t : List ℕ) (next : ℕ) → text bytes at ≡ Ok (t, next) → (o : Option (List Definition)) → Prints t o → Gives library bytes at
library_by_print bytes at t next there (Some l) p = (Ok (l, next), (t, there, p))
library_by_print bytes at t next there None p = (Err (BadLibrary (at + 4)), inr (refl, record { content = t; next = next; there = there; none = p }))

library_by_text : (bytes : List ℕ) (at : ℕ) (r : Result (List ℕ × ℕ) RecordError) → text bytes at ≡ r → Gives library bytes at
library_by_text bytes at (Ok x) there = let p = prints_some x.0 in library_by_print bytes at x.0 x.1 there p.0 p.1
library_by_text bytes at (Err e) there = (Err e, inl there)

library_answered : IsAnswered library
library_answered bytes at = library_by_text bytes at (text bytes at) refl

library_change_answered : IsAnswered library_change
library_change_answered =
    bind_answered library (λ l. given (built (change.Library l) names)) (λ l. given_answered (built (change.Library l) names)) library_answered

-- ---- changes
abbrev tagged : ℕ → ℕ → Result (ℕ × ℕ) RecordError
tagged tag next = Ok (tag, next)

-- whether a byte that is there or not is 1
tag_by : (b : Bool) (tag next : ℕ) (e : RecordError)
    → (cond b (Ok (tag, next)) (Err e) ≡ tagged 1 next) ⊎ (cond b (Ok (tag, next)) (Err e) ≡ tagged 1 next → ⊥)
tag_by true tag next e =
    elim (cases_eq tag 1) [
      | inl same ↦ inl (ap (λ (k : ℕ). tagged k next) same)
      | inr differs ↦ inr (λ h. differs (ap (λ (w : ℕ × ℕ). w.0) (ok_is (tag, next) (1, next) h)))
    ]
tag_by false tag next e = inr (λ h. absurd (cc))

library_tag : (bytes : List ℕ) (at : ℕ) → HasLibraryTag bytes at ⊎ (HasLibraryTag bytes at → ⊥)
library_tag bytes at = tag_by (ltb at (length bytes)) (get_or bytes at 0) (at + 1) (Truncated (length bytes))

one_change_answered : IsAnswered one_change
one_change_answered bytes at =
    elim (library_tag bytes at) [
      | inl tag ↦ let l = library_change_answered bytes (at + 1) in (l.0, inl (tag, l.1))
      | inr other ↦ (other_change bytes at, inr (other, refl))
    ]

changes_answered : (n : ℕ) (front : List Change) → IsAnswered (changes n front)
changes_answered zero front bytes at = (Ok (front, at), refl)
changes_answered (suc n) front bytes at =
    bind_answered one_change (λ c. changes n (front ++ c ∷ [])) (λ c. changes_answered n (front ++ c ∷ [])) one_change_answered bytes at

counted_answered : IsAnswered counted_changes
counted_answered = bind_answered (given u32) (λ n. changes n []) (λ n. changes_answered n []) (given_answered u32)

-- ---- all of the bytes
abbrev SomeWhole : List ℕ → Type 0
SomeWhole bytes = (r : Result (List Change) RecordError) × whole bytes r

whole_by : (bytes : List ℕ) (r : Result (List Change × ℕ) RecordError) → counted_changes bytes 0 r → SomeWhole bytes
whole_by bytes (Ok x) h =
    elim (cases_lt x.1 (length bytes)) [
      | inl more ↦ (Err (Trailing x.1), inr (x.0, x.1, h, more, refl))
      | inr end ↦ (Ok x.0, (x.1, h, end))
    ]
whole_by bytes (Err e) h = (Err e, inl h)

pub some_reading : (bytes : List ℕ) → SomeWhole bytes
some_reading bytes = let all = counted_answered bytes 0 in whole_by bytes all.0 all.1
