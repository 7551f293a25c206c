-- Reading gives one answer at most.
use Rattle.std.proofs.Common.{◌≡◌, ℕ, zero, suc, ◌+◌, List, [], ◌∷◌, ◌++◌, Result, Ok, Err, sym, ap, subst, ◌∙◌, inl, inr, arith}
use Rattle.wc_syntax.specs.declared.definition.Definition.{Definition}
use Rattle.wc_syntax.specs.Bare.{bare_library}
use Rattle.wc_parser.specs.declared.error.ParseError.{ParseError}
use Rattle.wc_parser.proofs.Texts.{one_text_answer}
use Rattle.wc_world.specs.declared.change.Change.{Change}
use Rattle.wc_world.specs.declared.change.Change.TheVariants as change
use Rattle.wc_record.specs.declared.error.RecordError.{RecordError}
use Rattle.wc_record.specs.declared.error.RecordError.TheVariants.{Trailing}
use Rattle.wc_record.specs.Readers.{Reader, u32, built}
use Rattle.wc_record.specs.Fields.{names}
use Rattle.wc_record.specs.Reading.{Step, given, bind, IsPrinted, library, library_change, one_change, changes, counted_changes, whole}
use Rattle.wc_record.proofs.Codes.{ok_is}

abbrev fails : {A : Type 0} → RecordError → Result A RecordError
fails e = Err e

abbrev gives : {A : Type 0} → A → Result A RecordError
gives x = Ok x

pub err_is : {A : Type 0} (d e : RecordError) → fails {A = A} d ≡ fails e → d ≡ e
err_is d e h = cc

pub ok_or_err : {A : Type 0} (x : A) (e : RecordError) → gives x ≡ fails e → ⊥
ok_or_err x e h = cc

abbrev pub IsUnique : {A : Type 0} → Step A → Type 0
IsUnique {A} s = (bytes : List ℕ) (at : ℕ) (r t : Result (A × ℕ) RecordError) → s bytes at r → s bytes at t → r ≡ t

given_unique : {A : Type 0} (read : Reader A) → IsUnique (given read)
given_unique read bytes at r t h k = h ∙ sym k

bind_unique : {A B : Type 0} (s : Step A) (f : A → Step B) → IsUnique s → ((x : A) → IsUnique (f x)) → IsUnique (bind s f)
bind_unique {A} s f one rest bytes at r t (inl h) (inl k) =
    let same : (h.0, h.1) ≡ (k.0, k.1) = ok_is (h.0, h.1) (k.0, k.1) (one bytes at (Ok (h.0, h.1)) (Ok (k.0, k.1)) h.2 k.2) in
    rest h.0 bytes h.1 r t h.3 (subst (λ (w : A × ℕ). f w.0 bytes w.1 t) (sym same) k.3)
bind_unique s f one rest bytes at r t (inl h) (inr k) = absurd (ok_or_err (h.0, h.1) k.0 (one bytes at (Ok (h.0, h.1)) (Err k.0) h.2 k.1))
bind_unique s f one rest bytes at r t (inr h) (inl k) = absurd (ok_or_err (k.0, k.1) h.0 (one bytes at (Ok (k.0, k.1)) (Err h.0) k.2 h.1))
bind_unique s f one rest bytes at r t (inr h) (inr k) =
    h.2 ∙ ap fails (err_is h.0 k.0 (one bytes at (Err h.0) (Err k.0) h.1 k.1)) ∙ sym k.2

-- ---- libraries
abbrev parsed : List Definition → Result (List Definition) ParseError
parsed l = Ok l

same_parsed : (l m : List Definition) → parsed l ≡ parsed m → l ≡ m
same_parsed l m h = cc

one_printed : (t : List ℕ) (l m : List Definition) → IsPrinted t l → IsPrinted t m → l ≡ m
one_printed t l m h k =
    sym h.is_bare ∙ ap bare_library (same_parsed h.library k.library (one_text_answer t (Ok h.library) (Ok k.library) h.says k.says)) ∙ k.is_bare

library_unique : IsUnique library
library_unique bytes at (Ok x) (Ok y) h k =
    let same : (h.0, x.1) ≡ (k.0, y.1) = ok_is (h.0, x.1) (k.0, y.1) (sym h.1 ∙ k.1) in
    let l : x.0 ≡ y.0 = one_printed h.0 x.0 y.0 h.2 (subst (λ (t : List ℕ). IsPrinted t y.0) (sym (ap (λ w. w.0) same)) k.2) in
    let n : x.1 ≡ y.1 = ap (λ w. w.1) same in
    λ i. Ok (l i, n i)
library_unique bytes at (Ok x) (Err e) h (inl k) = absurd (ok_or_err (h.0, x.1) e (sym h.1 ∙ k))
library_unique bytes at (Ok x) (Err e) h (inr k) =
    let same : (h.0, x.1) ≡ (k.1.content, k.1.next) = ok_is (h.0, x.1) (k.1.content, k.1.next) (sym h.1 ∙ k.1.there) in
    absurd (k.1.none x.0 (subst (λ (t : List ℕ). IsPrinted t x.0) (ap (λ w. w.0) same) h.2))
library_unique bytes at (Err e) (Ok y) (inl h) k = absurd (ok_or_err (k.0, y.1) e (sym k.1 ∙ h))
library_unique bytes at (Err e) (Ok y) (inr h) k =
    let same : (k.0, y.1) ≡ (h.1.content, h.1.next) = ok_is (k.0, y.1) (h.1.content, h.1.next) (sym k.1 ∙ h.1.there) in
    absurd (h.1.none y.0 (subst (λ (t : List ℕ). IsPrinted t y.0) (ap (λ w. w.0) same) k.2))
library_unique bytes at (Err e) (Err d) (inl h) (inl k) = ap fails (err_is e d (sym h ∙ k))
library_unique bytes at (Err e) (Err d) (inl h) (inr k) = absurd (ok_or_err (k.1.content, k.1.next) e (sym k.1.there ∙ h))
library_unique bytes at (Err e) (Err d) (inr h) (inl k) = absurd (ok_or_err (h.1.content, h.1.next) d (sym h.1.there ∙ k))
library_unique bytes at (Err e) (Err d) (inr h) (inr k) = ap fails (h.0 ∙ sym k.0)

library_change_unique : IsUnique library_change
library_change_unique = bind_unique library (λ l. given (built (change.Library l) names)) library_unique (λ l. given_unique (built (change.Library l) names))

-- ---- changes
one_change_unique : IsUnique one_change
one_change_unique bytes at r t (inl h) (inl k) = library_change_unique bytes (at + 1) r t h.1 k.1
one_change_unique bytes at r t (inl h) (inr k) = absurd (k.0 h.0)
one_change_unique bytes at r t (inr h) (inl k) = absurd (h.0 k.0)
one_change_unique bytes at r t (inr h) (inr k) = h.1 ∙ sym k.1

changes_unique : (n : ℕ) (front : List Change) → IsUnique (changes n front)
changes_unique zero front bytes at r t h k = h ∙ sym k
changes_unique (suc n) front bytes at r t h k =
    bind_unique one_change (λ c. changes n (front ++ c ∷ [])) one_change_unique (λ c. changes_unique n (front ++ c ∷ [])) bytes at r t h k

counted_unique : IsUnique counted_changes
counted_unique = bind_unique (given u32) (λ n. changes n []) (given_unique u32) (λ n. changes_unique n [])

-- ---- all of the bytes
pub whole_unique : (bytes : List ℕ) (r t : Result (List Change) RecordError) → whole bytes r → whole bytes t → r ≡ t
whole_unique bytes (Ok cs) (Ok ds) h k =
    let same : (cs, h.0) ≡ (ds, k.0) = ok_is (cs, h.0) (ds, k.0) (counted_unique bytes 0 (Ok (cs, h.0)) (Ok (ds, k.0)) h.1 k.1) in
    ap (λ w. Ok w.0) same
whole_unique bytes (Ok cs) (Err e) h (inl k) = absurd (ok_or_err (cs, h.0) e (counted_unique bytes 0 (Ok (cs, h.0)) (Err e) h.1 k))
whole_unique bytes (Ok cs) (Err e) h (inr k) =
    let same : (cs, h.0) ≡ (k.0, k.1) = ok_is (cs, h.0) (k.0, k.1) (counted_unique bytes 0 (Ok (cs, h.0)) (Ok (k.0, k.1)) h.1 k.2) in
    let place : h.0 ≡ k.1 = ap (λ w. w.1) same in
    let end = h.2 in let more = k.3 in absurd (omega arith)
whole_unique bytes (Err e) (Ok ds) (inl h) k = absurd (ok_or_err (ds, k.0) e (counted_unique bytes 0 (Ok (ds, k.0)) (Err e) k.1 h))
whole_unique bytes (Err e) (Ok ds) (inr h) k =
    let same : (ds, k.0) ≡ (h.0, h.1) = ok_is (ds, k.0) (h.0, h.1) (counted_unique bytes 0 (Ok (ds, k.0)) (Ok (h.0, h.1)) k.1 h.2) in
    let place : k.0 ≡ h.1 = ap (λ w. w.1) same in
    let end = k.2 in let more = h.3 in absurd (omega arith)
whole_unique bytes (Err e) (Err d) (inl h) (inl k) = ap fails (err_is e d (counted_unique bytes 0 (Err e) (Err d) h k))
whole_unique bytes (Err e) (Err d) (inl h) (inr k) = absurd (ok_or_err (k.0, k.1) e (counted_unique bytes 0 (Ok (k.0, k.1)) (Err e) k.2 h))
whole_unique bytes (Err e) (Err d) (inr h) (inl k) = absurd (ok_or_err (h.0, h.1) d (counted_unique bytes 0 (Ok (h.0, h.1)) (Err d) h.2 k))
whole_unique bytes (Err e) (Err d) (inr h) (inr k) =
    let same : (h.0, h.1) ≡ (k.0, k.1) = ok_is (h.0, h.1) (k.0, k.1) (counted_unique bytes 0 (Ok (h.0, h.1)) (Ok (k.0, k.1)) h.2 k.2) in
    ap fails (h.4 ∙ ap (λ w. Trailing w.1) same ∙ sym k.4)
