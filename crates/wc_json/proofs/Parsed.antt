-- What is told of bytes that are JSON, or are none.
use Rattle.std.proofs.Common.{◌≡◌, ℕ, List, Some, Result, Ok, Err, IsUtf8, refl, ap, ◌∙◌}
use Rattle.serde_json.specs.Data.{Data}
use Rattle.serde_json.specs.Read.{read}
use Rattle.wc_json.specs.declared.error.JsonError.{JsonError}
use Rattle.wc_json.specs.declared.error.JsonError.TheVariants as error
use Rattle.wc_json.specs.Answers.{Answers, AnswersFor, Parses, Tells}
use Rattle.wc_json.specs.Reading.{Refusal}

told-answers : {A : Type 0} (bytes : List ℕ) (reads : Data → Result A Refusal) (d : Data) (got : Result A Refusal) (e : JsonError) → reads d ≡ got
    → IsUtf8 bytes × (read bytes ≡ Some d) → Tells got e → AnswersFor bytes reads (Err e)
told-answers bytes reads d (Ok x) e same h told = rw told (record {})
told-answers bytes reads d (Err r) error.NotJson same h told = absurd told
told-answers bytes reads d (Err r) (error.Float path) same h told = record { utf8 = h.0; document = d; parsed = h.1; is = same ∙ ap Err told }
told-answers bytes reads d (Err r) (error.OutOfRange path) same h told = record { utf8 = h.0; document = d; parsed = h.1; is = same ∙ ap Err told }
told-answers bytes reads d (Err r) (error.Shape path) same h told = record { utf8 = h.0; document = d; parsed = h.1; is = same ∙ ap Err told }
told-answers bytes reads d (Err r) error.OutOfMemory same h told = record {}

-- a reading of what was parsed tells of the bytes
pub parsed-answers : {A : Type 0} (bytes : List ℕ) (reads : Data → Result A Refusal) (d : Data) (result : Result A JsonError) → IsUtf8 bytes × (read bytes ≡ Some d)
    → Answers (reads d) result → AnswersFor bytes reads result
parsed-answers bytes reads d (Ok x) h is = record { utf8 = h.0; document = d; parsed = h.1; is = is }
parsed-answers bytes reads d (Err e) h is = told-answers bytes reads d (reads d) e refl h is

-- what is told of bytes that aren't parsed
pub unparsed-answers : {A : Type 0} (bytes : List ℕ) (reads : Data → Result A Refusal) (e : JsonError) → Parses bytes (Err e) → AnswersFor bytes reads (Err e)
unparsed-answers bytes reads error.NotJson h = h
unparsed-answers bytes reads (error.Float path) h = absurd h
unparsed-answers bytes reads (error.OutOfRange path) h = absurd h
unparsed-answers bytes reads (error.Shape path) h = absurd h
unparsed-answers bytes reads error.OutOfMemory h = h
