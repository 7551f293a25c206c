-- How the answer of a call follows from what the definitions give.
use Rattle.std.specs.Prelude.{◌≡◌, ◌⊎◌, ℕ, List, Some, None, Result, Ok, Err, IsUtf8}
use Rattle.serde_json.specs.Data.{Data}
use Rattle.serde_json.specs.Read.{read}
use Rattle.serde_json.specs.View.{view}
use Rattle.serde_json.specs.declared.value.Value.{Value as Json}
use Rattle.wc_json.specs.declared.error.JsonError.{JsonError}
use Rattle.wc_json.specs.declared.error.JsonError.TheVariants as error
use Rattle.wc_json.specs.Reading.{Refusal, not_whole, too_great, other_shape, path_under}

-- the error tells the refusal, or memory ran out
abbrev pub IsTold : Refusal → JsonError → Type 0
IsTold r error.NotJson = ⊥
IsTold r (error.Float path) = r ≡ (not_whole, path)
IsTold r (error.OutOfRange path) = r ≡ (too_great, path)
IsTold r (error.Shape path) = r ≡ (other_shape, path)
IsTold r error.OutOfMemory = Unit {0}

-- it tells what reading refuses, or memory ran out
abbrev pub Tells : {A : Type 0} → Result A Refusal → JsonError → Type 0
Tells (Ok x) e = e ≡ error.OutOfMemory
Tells (Err r) e = IsTold r e

-- the answer is what reading gives, or memory ran out
abbrev pub Answers : {A : Type 0} → Result A Refusal → Result A JsonError → Type 0
Answers read (Ok x) = read ≡ Ok x
Answers read (Err e) = Tells read e

-- the second error is the first, one level up, or memory ran out
abbrev pub Lifts : List ℕ → JsonError → JsonError → Type 0
Lifts step error.NotJson e = e ≡ error.NotJson
Lifts step (error.Float path) e = (e ≡ error.Float (path_under step path)) ⊎ (e ≡ error.OutOfMemory)
Lifts step (error.OutOfRange path) e = (e ≡ error.OutOfRange (path_under step path)) ⊎ (e ≡ error.OutOfMemory)
Lifts step (error.Shape path) e = (e ≡ error.Shape (path_under step path)) ⊎ (e ≡ error.OutOfMemory)
Lifts step error.OutOfMemory e = e ≡ error.OutOfMemory

-- the bytes are parsed as JSON of this view, or are none, or memory ran out
abbrev pub Parses : List ℕ → Result Json JsonError → Type 0
Parses bytes (Ok json) = IsUtf8 bytes × (read bytes ≡ Some (view json))
Parses bytes (Err error.NotJson) = IsUtf8 bytes → read bytes ≡ None
Parses bytes (Err (error.Float path)) = ⊥
Parses bytes (Err (error.OutOfRange path)) = ⊥
Parses bytes (Err (error.Shape path)) = ⊥
Parses bytes (Err error.OutOfMemory) = Unit {0}

-- The bytes are JSON that is read as this.
pub record ReadsAs {A : Type 0} (bytes : List ℕ) (reads : Data → Result A Refusal) (answer : Result A Refusal) : Type 0 where
  pub utf8 : IsUtf8 bytes
  pub document : Data
  pub parsed : read bytes ≡ Some document
  pub is : reads document ≡ answer

-- What is told of the bytes: they are JSON that is read so, or are no JSON, or memory ran out.
abbrev pub AnswersFor : {A : Type 0} → List ℕ → (Data → Result A Refusal) → Result A JsonError → Type 0
AnswersFor bytes reads (Ok x) = ReadsAs bytes reads (Ok x)
AnswersFor bytes reads (Err error.NotJson) = IsUtf8 bytes → read bytes ≡ None
AnswersFor bytes reads (Err (error.Float path)) = ReadsAs bytes reads (Err (not_whole, path))
AnswersFor bytes reads (Err (error.OutOfRange path)) = ReadsAs bytes reads (Err (too_great, path))
AnswersFor bytes reads (Err (error.Shape path)) = ReadsAs bytes reads (Err (other_shape, path))
AnswersFor bytes reads (Err error.OutOfMemory) = Unit {0}
