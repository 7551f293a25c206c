-- Reading canonical bytes from the left: what stands at a place and the place after it, or the first refusal.
use Rattle.std.specs.Prelude.{ℕ, zero, suc, ◌+◌, ◌-◌, true, false, nat_lt, nat_eq, ◌&&◌, ◌≡◌, if◌then◌else◌, List, [], ◌∷◌, ◌++◌, length, take, drop, slice_index, Result, Ok, Err, ℤ}
use Rattle.std.specs.Str.{is_utf8}
use Rattle.std.specs.Int.{w32, w64, from_be_bytes, cast_signed}
use Rattle.wc_value.specs.Ascending.{goes_last}
use Rattle.wc_value.specs.declared.value.Value.{Value}
use Rattle.wc_value.specs.declared.value.Value.TheVariants as value
use Rattle.wc_value.specs.declared.refusal.ValueError.{ValueError}
use Rattle.wc_value.specs.declared.refusal.ValueError.TheVariants.{OutOfMemory, Truncated, BadTag, NotUtf8, Unsorted, TooDeep, Trailing}

infixl 10 ◌>>=◌
-- one reading after another, where the first gave something
abbrev pub ◌>>=◌ : {A B : Type 0} → Result A ValueError → (A → Result B ValueError) → Result B ValueError
(Ok x) >>= f = f x
(Err e) >>= f = Err e

-- ---- what a call returned, beside what reading gives: the same, unless memory ran out
-- a call failed as the reading does, or memory ran out
abbrev pub Fails : {X : Type 0} → ValueError → Result X ValueError → Type 0
Fails OutOfMemory read = Unit {0}
Fails e read = read ≡ Err e

-- a call gave what the reading gives, seen so, or failed as it does
abbrev pub Gives : {X Y : Type 0} → (X → Y) → Result X ValueError → Result Y ValueError → Type 0
Gives view (Ok x) read = read ≡ Ok (view x)
Gives view (Err e) read = Fails e read

-- What a call returned is what reading gives; want of memory alone is free
abbrev pub Answers : {X : Type 0} → Result X ValueError → Result X ValueError → Type 0
Answers = Gives (λ x. x)

-- ---- numbers and texts
-- n bytes from a place on; what is missing is missing at the end
abbrev pub bytes_at : ℕ → List ℕ → ℕ → Result (List ℕ × ℕ) ValueError
bytes_at n bytes at = if nat_lt (length bytes - at) n then Err (Truncated (length bytes)) else Ok (take n (drop at bytes), at + n)

-- a number of four bytes, the highest first
abbrev pub u32_at : List ℕ → ℕ → Result (ℕ × ℕ) ValueError
u32_at bytes at = bytes_at 4 bytes at >>= (λ x. Ok (from_be_bytes w32 x.0, x.1))

-- a whole number of eight bytes with its sign
abbrev pub i64_at : List ℕ → ℕ → Result (ℤ × ℕ) ValueError
i64_at bytes at = bytes_at 8 bytes at >>= (λ x. Ok (cast_signed w64 (from_be_bytes w64 x.0), x.1))

-- a byte
abbrev pub byte_at : List ℕ → ℕ → Result ℕ ValueError
byte_at bytes at = if nat_lt at (length bytes) then Ok (slice_index bytes at) else Err (Truncated (length bytes))

-- a length, and that many bytes
abbrev pub content_at : List ℕ → ℕ → Result (List ℕ × ℕ) ValueError
content_at bytes at = u32_at bytes at >>= (λ n. bytes_at n.0 bytes n.1)

-- a content that has to be UTF-8, behind four bytes of length
abbrev pub checked : ℕ → List ℕ × ℕ → Result (List ℕ × ℕ) ValueError
checked at x = if is_utf8 x.0 then Ok x else Err (NotUtf8 (at + 4))

-- a text behind its length
abbrev pub text_at : List ℕ → ℕ → Result (List ℕ × ℕ) ValueError
text_at bytes at = content_at bytes at >>= checked at

-- ---- as many items as are counted, each behind those before it
-- so many items one after another, behind those that were read
abbrev pub several : {A : Type 0} → ℕ → (List A → ℕ → Result (A × ℕ) ValueError) → List A → ℕ → Result (List A × ℕ) ValueError
several zero item front at = Ok (front, at)
several (suc n) item front at = item front at >>= (λ x. several n item (front ++ x.0 ∷ []) x.1)

-- a count of four bytes and so many items
abbrev pub counted : {A : Type 0} → (List A → ℕ → Result (A × ℕ) ValueError) → List ℕ → ℕ → Result (List A × ℕ) ValueError
counted item bytes at = u32_at bytes at >>= (λ n. several n.0 item [] n.1)

-- a name that comes after those in front
abbrev pub name_at : {T : Type 0} → List (List ℕ × T) → List ℕ → ℕ → Result (List ℕ × ℕ) ValueError
name_at front bytes at = text_at bytes at >>= (λ k. if goes_last k.0 front then Ok k else Err (Unsorted at))

-- such a name, and what belongs to it
abbrev pub entry_at : {T : Type 0} → (ℕ → Result (T × ℕ) ValueError) → List ℕ → List (List ℕ × T) → ℕ → Result ((List ℕ × T) × ℕ) ValueError
entry_at read bytes front at = do
  k ← name_at front bytes at
  x ← read k.1
  Ok ((k.0, x.0), x.1)

-- ---- what stands behind each tag
-- a whole number as a value
abbrev pub int_at : List ℕ → ℕ → Result (Value × ℕ) ValueError
int_at bytes at = i64_at bytes at >>= (λ x. Ok (value.Int x.0, x.1))

-- the truth value of a byte: 0 or 1, and else a bad tag
abbrev pub truth : ℕ → ℕ → Result (Value × ℕ) ValueError
truth at b = if nat_eq b 0 then Ok (value.Bool false, at + 1) else if nat_eq b 1 then Ok (value.Bool true, at + 1) else Err (BadTag at)

-- a truth value as a value
abbrev pub bool_at : List ℕ → ℕ → Result (Value × ℕ) ValueError
bool_at bytes at = byte_at bytes at >>= truth at

-- a text as a value
abbrev pub text_value_at : List ℕ → ℕ → Result (Value × ℕ) ValueError
text_value_at bytes at = text_at bytes at >>= (λ x. Ok (value.Text x.0, x.1))

-- items as a list
abbrev pub as_list : List Value × ℕ → Result (Value × ℕ) ValueError
as_list x = Ok (value.List x.0, x.1)

-- a list, whose items are read so
abbrev pub list_at : (ℕ → Result (Value × ℕ) ValueError) → List ℕ → ℕ → Result (Value × ℕ) ValueError
list_at read bytes at = counted (λ front. read) bytes at >>= as_list

-- named values as a dictionary
abbrev pub as_dict : List (List ℕ × Value) × ℕ → Result (Value × ℕ) ValueError
as_dict x = Ok (value.Dict x.0, x.1)

-- a dictionary, whose values are read so
abbrev pub dict_at : (ℕ → Result (Value × ℕ) ValueError) → List ℕ → ℕ → Result (Value × ℕ) ValueError
dict_at read bytes at = counted (entry_at read bytes) bytes at >>= as_dict

-- files as a folder
abbrev pub as_folder : List (List ℕ × List ℕ) × ℕ → Result (Value × ℕ) ValueError
as_folder x = Ok (value.Folder x.0, x.1)

-- a folder
abbrev pub folder_at : List ℕ → ℕ → Result (Value × ℕ) ValueError
folder_at bytes at = counted (entry_at (content_at bytes) bytes) bytes at >>= as_folder

-- what stands behind the tag at a place
abbrev pub behind : (ℕ → Result (Value × ℕ) ValueError) → List ℕ → ℕ → ℕ → Result (Value × ℕ) ValueError
behind read bytes at tag =
    if nat_eq tag 1 then int_at bytes (at + 1)
    else if nat_eq tag 2 then bool_at bytes (at + 1)
    else if nat_eq tag 3 then text_value_at bytes (at + 1)
    else if nat_eq tag 4 then list_at read bytes (at + 1)
    else if nat_eq tag 5 then dict_at read bytes (at + 1)
    else if nat_eq tag 6 then folder_at bytes (at + 1)
    else Err (BadTag at)

-- with no level left
abbrev pub too_deep : ℕ → ℕ → Result (Value × ℕ) ValueError
too_deep at tag = if nat_lt 0 tag && nat_lt tag 7 then Err (TooDeep at) else Err (BadTag at)

-- a value of at most so many levels
abbrev pub value_at : ℕ → List ℕ → ℕ → Result (Value × ℕ) ValueError
value_at zero bytes at = byte_at bytes at >>= too_deep at
value_at (suc levels) bytes at = byte_at bytes at >>= behind (value_at levels bytes) bytes at

-- a value to the end of the bytes
abbrev pub ended : List ℕ → Value × ℕ → Result Value ValueError
ended bytes x = if nat_lt x.1 (length bytes) then Err (Trailing x.1) else Ok x.0

-- Reading from the left: the value at a place and the place after it, or the first refusal with its offset
abbrev pub whole : List ℕ → Result Value ValueError
whole bytes = value_at 32 bytes 0 >>= ended bytes
