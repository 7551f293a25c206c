-- Readers: what stands at a place and the place behind it, or the first refusal that reading from the left meets.
use Rattle.std.specs.Prelude.{ℕ, zero, suc, ◌+◌, ◌-◌, nat_lt, nat_eq, ◌≡◌, if◌then◌else◌, List, [], ◌∷◌, ◌++◌, length, slice_get, slice_index, Option, Result, Ok, Err, ℤ}
use Rattle.std.specs.Int.{w64, from_be_bytes}
use Rattle.wc_value.specs.declared.value.Value.{Value}
use Rattle.wc_value.specs.declared.refusal.ValueError.{ValueError}
use Rattle.wc_value.specs.declared.refusal.ValueError.TheVariants as value_error
use Rattle.wc_value.specs.Reading as read
use Rattle.wc_world.specs.Fits.{comes_after}
use Rattle.wc_record.specs.declared.error.RecordError.{RecordError}
use Rattle.wc_record.specs.declared.error.RecordError.TheVariants.{OutOfMemory, Truncated, BadTag, NotUtf8, Unsorted, TooDeep, Trailing}

-- what bytes are read as from a place on, with the place behind
abbrev pub Reader : Type 0 → Type 0
Reader A = List ℕ → ℕ → Result (A × ℕ) RecordError

infixl 10 ◌>>=◌
-- one reading after another, where the first gave something
abbrev pub ◌>>=◌ : {A B : Type 0} → Result A RecordError → (A → Result B RecordError) → Result B RecordError
(Ok x) >>= f = f x
(Err e) >>= f = Err e

-- ---- what a call returned, beside what reading gives: the same, unless memory ran out
-- a call failed as the reading does, or memory ran out
abbrev pub Fails : {X : Type 0} → RecordError → Result X RecordError → Type 0
Fails OutOfMemory read = Unit {0}
Fails e read = read ≡ Err e

-- what a call returned is what reading gives; want of memory alone is free
abbrev pub Answers : {X : Type 0} → Result X RecordError → Result X RecordError → Type 0
Answers (Ok x) read = read ≡ Ok x
Answers (Err e) read = Fails e read

-- ---- refusals of values, in the same bytes
-- a refusal of a value as one of a record
abbrev pub moved : ValueError → RecordError
moved value_error.OutOfMemory = OutOfMemory
moved (value_error.Truncated at) = Truncated at
moved (value_error.BadTag at) = BadTag at
moved (value_error.NotUtf8 at) = NotUtf8 at
moved (value_error.Unsorted at) = Unsorted at
moved (value_error.TooDeep at) = TooDeep at
moved (value_error.Trailing at) = Trailing at

-- the reading of a value as one of a record
abbrev pub lifted : {A : Type 0} → Result A ValueError → Result A RecordError
lifted (Ok x) = Ok x
lifted (Err e) = Err (moved e)

-- ---- numbers, texts and values
-- the reading of one byte; behind the last one the bytes are truncated
abbrev pub byte : Reader ℕ
byte bytes at = if nat_lt at (length bytes) then Ok (slice_index bytes at, at + 1) else Err (Truncated (length bytes))

-- the reading of a number of four bytes
abbrev pub u32 : Reader ℕ
u32 bytes at = lifted (read.u32_at bytes at)

-- the reading of eight bytes
abbrev pub eight : Reader (List ℕ)
eight bytes at = lifted (read.bytes_at 8 bytes at)

-- the reading of a number of eight bytes
abbrev pub u64 : Reader ℕ
u64 bytes at = eight bytes at >>= (λ x. Ok (from_be_bytes w64 x.0, x.1))

-- the reading of a whole number of eight bytes
abbrev pub i64 : Reader ℤ
i64 bytes at = lifted (read.i64_at bytes at)

-- the reading of a text behind its length
abbrev pub text : Reader (List ℕ)
text bytes at = lifted (read.text_at bytes at)

-- a value of at most 32 levels
abbrev pub value : Reader Value
value bytes at = lifted (read.value_at 32 bytes at)

-- ---- readers from readers
-- nothing, which stands for x
abbrev pub always : {A : Type 0} → A → Reader A
always x bytes at = Ok (x, at)

-- one thing, and another behind it
infixr 20 ◌⊗◌
-- two readings one after another, as a pair
abbrev pub ◌⊗◌ : {A B : Type 0} → Reader A → Reader B → Reader (A × B)
(r ⊗ s) bytes at = r bytes at >>= (λ x. s bytes x.1 >>= (λ y. Ok ((x.0, y.0), y.1)))

-- what f makes of what is read
abbrev pub built : {A B : Type 0} → (A → B) → Reader A → Reader B
built f r bytes at = r bytes at >>= (λ x. Ok (f x.0, x.1))

-- what stands behind the tag that was read at a place
abbrev pub behind : {A : Type 0} → List (ℕ × Reader A) → List ℕ → ℕ → ℕ × ℕ → Result (A × ℕ) RecordError
behind [] bytes at tag = Err (BadTag at)
behind (c ∷ cs) bytes at tag = if nat_eq tag.0 c.0 then c.1 bytes tag.1 else behind cs bytes at tag

-- a tag, and what stands behind it
abbrev pub choice : {A : Type 0} → List (ℕ × Reader A) → Reader A
choice cs bytes at = byte bytes at >>= behind cs bytes at

-- what the number that was read at a place stands for
abbrev pub stands_for : {A : Type 0} → List (ℕ × A) → ℕ → ℕ × ℕ → Result (A × ℕ) RecordError
stands_for [] at n = Err (BadTag at)
stands_for (c ∷ cs) at n = if nat_eq n.0 c.0 then Ok (c.1, n.1) else stands_for cs at n

-- a number that stands for something
abbrev pub number_of : {A : Type 0} → List (ℕ × A) → Reader A
number_of cs bytes at = u32 bytes at >>= stands_for cs at

-- a byte below n
abbrev pub byte_below : ℕ → Reader ℕ
byte_below n bytes at = byte bytes at >>= (λ b. if nat_lt b.0 n then Ok b else Err (BadTag at))

-- ---- lists
-- as many items as are counted, each behind those before it
abbrev pub several : {A : Type 0} → ℕ → (List A → Reader A) → List A → Reader (List A)
several zero item front bytes at = Ok (front, at)
several (suc n) item front bytes at = item front bytes at >>= (λ x. several n item (front ++ x.0 ∷ []) bytes x.1)

-- a count, and that many items
abbrev pub counted : {A : Type 0} → (List A → Reader A) → Reader (List A)
counted item bytes at = u32 bytes at >>= (λ n. several n.0 item [] bytes n.1)

-- the last item, if there is one
abbrev pub last_of : {A : Type 0} → List A → Option A
last_of xs = slice_get xs (length xs - 1)

-- a name that comes after those in front
abbrev pub name : List (List ℕ) → Reader (List ℕ)
name front bytes at = text bytes at >>= (λ k. if comes_after (last_of front) k.0 then Ok k else Err (Unsorted at))

-- a label that comes after those in front
abbrev pub label : {T : Type 0} → List (List ℕ × T) → Reader (List ℕ)
label front bytes at = lifted (read.name_at front bytes at)
