-- The JSON value of a value, and its text.
use Rattle.std.specs.Prelude.{ℕ, if◌then◌else◌, List, [], ◌∷◌, map, codes}
use Rattle.std.specs.Str.{is_utf8}
use Rattle.hex.specs.Hex.{encode_lower}
use Rattle.serde_json.specs.Data.{Data, boolean, number, string, array, object, Items, Members, no_members, member}
use Rattle.serde_json.specs.Find.{of_integer}
use Rattle.serde_json.specs.View.{items_of}
use Rattle.serde_json.specs.Written.{compact_text}
use Rattle.wc_value.specs.declared.value.Value.{Value, fold-Value}
use Rattle.wc_value.specs.declared.value.Value.TheOpen.{Value-F}

-- an object with the members as they stand
abbrev pub members_in : List (List ℕ × Data) → Members
members_in [] = no_members
members_in (m ∷ ms) = member m.0 m.1 (members_in ms)

-- the elements of an array, each written so
abbrev pub elements_by : {A : Type 0} → (A → Data) → List A → Items
elements_by f items = items_of (map f items)

-- the members of an object, each value written so
abbrev pub members_by : {A : Type 0} → (A → Data) → List (List ℕ × A) → Members
members_by f entries = members_in (map (λ e. (e.0, f e.1)) entries)

-- bytes as an object with their hexadecimal digits
abbrev pub hex_data : List ℕ → Data
hex_data bytes = object (member (codes "hex") (string (encode_lower bytes)) no_members)

-- the content of a file: the text that its bytes spell, or their digits where they are no UTF-8
abbrev pub content_data : List ℕ → Data
content_data bytes = if is_utf8 bytes then string bytes else hex_data bytes

-- one level, with each value inside already written
abbrev pub level : Value-F Data → Data
level (Value-F.Int n) = number (of_integer n)
level (Value-F.Bool b) = boolean b
level (Value-F.Text t) = string t
level (Value-F.List items) = array (items_of items)
level (Value-F.Dict pairs) = object (members_in pairs)
level (Value-F.Folder files) = object (members_by content_data files)

-- a value as JSON
abbrev pub data_of : Value → Data
data_of = fold-Value Data level

-- the text with no space
abbrev pub json_text : Value → List ℕ
json_text v = compact_text (data_of v)
