-- Bytes are read as one thing.
use Rattle.std.proofs.Common.{◌≡◌, ℕ, List, Bool, true, false, Some, None, Result, Ok, Err, IsUtf8, if◌then◌else◌, refl, ap, ◌∙◌}
use Rattle.std.specs.Str.{is_utf8}
use Rattle.std.proofs.lemmas.Str.{IsUtf8-from_is_utf8, is_utf8-from_IsUtf8}
use Rattle.serde_json.specs.Data.{Data}
use Rattle.serde_json.specs.Read.{read}
use Rattle.wc_json.specs.declared.error.JsonError.{JsonError}
use Rattle.wc_json.specs.declared.error.JsonError.TheVariants as error
use Rattle.wc_json.specs.Answers.{AnswersFor, ReadsAs}
use Rattle.wc_json.specs.Documents.{document_of, answered, answer_in, answer_of}
use Rattle.wc_json.specs.Reading.{Refusal, not_whole, too_great, other_shape}

document-is : (bytes : List ℕ) (d : Data) → IsUtf8 bytes → read bytes ≡ Some d → document_of bytes ≡ Some d
document-is bytes d utf8 parsed = ap (λ (b : Bool). if b then read bytes else None) (is_utf8-from_IsUtf8 bytes utf8) ∙ parsed

read-is : {A : Type 0} (bytes : List ℕ) (reads : Data → Result A Refusal) (answer : Result A Refusal) → ReadsAs bytes reads answer → answer_of reads bytes ≡ answered answer
read-is bytes reads answer r = ap (answer_in reads) (document-is bytes r.document r.utf8 r.parsed) ∙ ap answered r.is

no-document : (bytes : List ℕ) → (IsUtf8 bytes → read bytes ≡ None) → document_of bytes ≡ None
no-document bytes none = at (is_utf8 bytes) refl
  where
    at : (b : Bool) → is_utf8 bytes ≡ b → (if b then read bytes else None) ≡ None
    at true e = none (IsUtf8-from_is_utf8 bytes e)
    at false e = refl

pub ok-is-one : {A : Type 0} (bytes : List ℕ) (reads : Data → Result A Refusal) (x : A) → AnswersFor bytes reads (Ok x) → answer_of reads bytes ≡ Ok x
ok-is-one bytes reads x h = read-is bytes reads (Ok x) h

-- an error, unless memory ran out
pub error-is-one : {A : Type 0} (bytes : List ℕ) (reads : Data → Result A Refusal) (e : JsonError) → (e ≡ error.OutOfMemory → ⊥) → AnswersFor bytes reads (Err e) → answer_of reads bytes ≡ Err e
error-is-one bytes reads error.NotJson known h = ap (answer_in reads) (no-document bytes h)
error-is-one bytes reads (error.Float path) known h = read-is bytes reads (Err (not_whole, path)) h
error-is-one bytes reads (error.OutOfRange path) known h = read-is bytes reads (Err (too_great, path)) h
error-is-one bytes reads (error.Shape path) known h = read-is bytes reads (Err (other_shape, path)) h
error-is-one bytes reads error.OutOfMemory known h = absurd (known refl)
