-- What values hold. Each definition takes values opened; a value of another kind than asked is WrongKind.
use Rattle.std.specs.Prelude.{ℕ, ℤ, pos, negsuc, Bool, true, false, codes, if◌then◌else◌, List, length, is_some, slice_get}
use Rattle.std.specs.Fmt.{signed_decimal}
use Rattle.std.specs.Str.{is_utf8}
use Rattle.wc_value.specs.Ascending.{lookup}
use Rattle.wc_value.specs.declared.process.Reason.TheVariants.{MissingKey, WrongKind, BadText}
use Rattle.wc_value.specs.declared.value.Kind.{Kind}
use Rattle.wc_value.specs.declared.value.Kind.TheVariants as kind
use Rattle.wc_value.specs.declared.value.Value.{Value}
use Rattle.wc_value.specs.declared.value.Value.TheOpen.{Value-F}
use Rattle.wc_expression.specs.declared.outcome.Outcome.{Outcome}
use Rattle.wc_expression.specs.declared.outcome.Outcome.TheVariants.{Gives, Faults}
use Rattle.wc_expression.specs.Outcomes.{◌>>=◌, mapped, found}
use Rattle.wc_expression.specs.Whole.{number_of}
use Rattle.wc_expression.specs.Texts.{trimmed, pieces, stands_in}

-- a value, opened
abbrev pub Seen : Type 0
Seen = Value-F Value

-- whether a value is of a kind
abbrev pub has_kind : Kind → Seen → Bool
has_kind kind.Int (Value-F.Int n) = true
has_kind kind.Bool (Value-F.Bool b) = true
has_kind kind.Text (Value-F.Text t) = true
has_kind kind.List (Value-F.List vs) = true
has_kind kind.Dict (Value-F.Dict ps) = true
has_kind kind.Folder (Value-F.Folder fs) = true
has_kind _ _ = false

-- the truth value that a value is, or a wrong kind
abbrev pub bool_of : Seen → Outcome Bool
bool_of (Value-F.Bool b) = Gives b
bool_of _ = Faults WrongKind

-- the text that a value is, or a wrong kind
abbrev pub text_of : Seen → Outcome (List ℕ)
text_of (Value-F.Text t) = Gives t
text_of _ = Faults WrongKind

-- the two whole numbers that two values are, or a wrong kind
abbrev pub ints_of : Seen → Seen → Outcome (ℤ × ℤ)
ints_of (Value-F.Int a) (Value-F.Int b) = Gives (a, b)
ints_of _ _ = Faults WrongKind

-- the two truth values that two values are, or a wrong kind
abbrev pub bools_of : Seen → Seen → Outcome (Bool × Bool)
bools_of (Value-F.Bool a) (Value-F.Bool b) = Gives (a, b)
bools_of _ _ = Faults WrongKind

-- the item at a whole number, counted from 0
abbrev pub item_at : {A : Type 0} → List A → ℤ → Outcome A
item_at xs (pos n) = found MissingKey (slice_get xs n)
item_at xs (negsuc n) = Faults MissingKey

-- the item of a list at an index; a wrong kind where the index is no whole number
abbrev pub item : {A : Type 0} → List A → Seen → Outcome A
item xs (Value-F.Int n) = item_at xs n
item xs _ = Faults WrongKind

-- ---- words of one value

-- a number in decimal, a truth value's name, or the text itself
abbrev pub printed : Seen → Outcome (List ℕ)
printed (Value-F.Int n) = Gives (signed_decimal n)
printed (Value-F.Bool b) = Gives (if b then codes "true" else codes "false")
printed (Value-F.Text t) = Gives t
printed _ = Faults WrongKind

-- the number itself, or the one that a text spells
abbrev pub whole : Seen → Outcome ℤ
whole (Value-F.Int n) = Gives n
whole (Value-F.Text t) = found BadText (number_of t)
whole _ = Faults WrongKind

-- the bytes of a text, or the elements of anything else that has some
abbrev pub size : Seen → Outcome ℤ
size (Value-F.Text t) = Gives (pos (length t))
size (Value-F.List vs) = Gives (pos (length vs))
size (Value-F.Dict ps) = Gives (pos (length ps))
size (Value-F.Folder fs) = Gives (pos (length fs))
size _ = Faults WrongKind

-- the text that a value is, without blanks at its ends
abbrev pub trimmed_text : Seen → Outcome (List ℕ)
trimmed_text v = mapped trimmed (text_of v)

-- ---- words of two values

-- the item of a list at a number, or the value of a dictionary at a key
abbrev pub got : Seen → Seen → Outcome Value
got (Value-F.List vs) i = item vs i
got (Value-F.Dict ps) (Value-F.Text key) = found MissingKey (lookup key ps)
got _ _ = Faults WrongKind

-- whether a dictionary has a key, or a folder a name
abbrev pub has_name : Seen → Seen → Outcome Bool
has_name (Value-F.Dict ps) (Value-F.Text name) = Gives (is_some (lookup name ps))
has_name (Value-F.Folder fs) (Value-F.Text name) = Gives (is_some (lookup name fs))
has_name _ _ = Faults WrongKind

-- bytes as a text, where they are UTF-8
abbrev pub as_text : List ℕ → Outcome (List ℕ)
as_text bytes = if is_utf8 bytes then Gives bytes else Faults BadText

-- the content of a file, as text
abbrev pub content_of : List (List ℕ × List ℕ) → List ℕ → Outcome (List ℕ)
content_of files name = found MissingKey (lookup name files) >>= as_text

-- what `file` gives: the bytes of a folder's file with a name; of other kinds a wrong kind
abbrev pub content : Seen → Seen → Outcome (List ℕ)
content (Value-F.Folder fs) (Value-F.Text name) = content_of fs name
content _ _ = Faults WrongKind

-- the piece of a text at a number
abbrev pub line : Seen → Seen → Outcome (List ℕ)
line (Value-F.Text t) i = item (pieces t) i
line _ _ = Faults WrongKind

-- what `contains` gives: whether a text stands in another; of other kinds a wrong kind
abbrev pub contains : Seen → Seen → Outcome Bool
contains (Value-F.Text t) (Value-F.Text part) = Gives (stands_in part t)
contains _ _ = Faults WrongKind
