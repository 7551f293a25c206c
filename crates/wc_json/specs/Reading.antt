-- The value that JSON is read as, or the first refusal in walking order, with its path.
use Rattle.std.specs.Prelude.{ℕ, ℤ, suc, pos, ◌^◌, Bool, List, [], ◌∷◌, ◌++◌, Option, Some, None, Result, Ok, Err, codes, decimal, nat_eq, nat_lt, if◌then◌else◌}
use Rattle.std.specs.Str.{bytes_eq}
use Rattle.hex.specs.Hex.{decode_of, encode_lower}
use Rattle.hex.specs.declared.error.FromHexError.{FromHexError}
use Rattle.serde_json.specs.Data.{Num, unsigned, negative, float, Data, null, boolean, number, string, array, object, Items, no_items, item, Members, no_members, member}
use Rattle.serde_json.specs.Find.{get_member}
use Rattle.serde_json.specs.Events.{members_len}
use Rattle.wc_value.specs.Ascending.{put, lookup}
use Rattle.wc_value.specs.declared.value.Kind.{Kind}
use Rattle.wc_value.specs.declared.value.Kind.TheVariants as kind
use Rattle.wc_value.specs.declared.value.Value.{Value}
use Rattle.wc_value.specs.declared.value.Value.TheVariants as value

-- what is wrong with a value
pub data Fault : Type 0 where
  not_whole : Fault
  too_great : Fault
  other_shape : Fault

-- what is wrong, and the path of the value
abbrev pub Refusal : Type 0
Refusal = Fault × List ℕ

infixl 10 ◌>>=◌
-- one reading after another, where the first gave something
abbrev pub ◌>>=◌ : {A B : Type 0} → Result A Refusal → (A → Result B Refusal) → Result B Refusal
(Ok x) >>= f = f x
(Err r) >>= f = Err r

-- the refusal that something has another shape
abbrev pub shape : {A : Type 0} → Result A Refusal
shape = Err (other_shape, [])

-- `/` and a step, in front of a path
abbrev pub path_under : List ℕ → List ℕ → List ℕ
path_under step path = codes "/" ++ step ++ path

-- what is refused inside a step
abbrev pub under : {A : Type 0} → List ℕ → Result A Refusal → Result A Refusal
under step (Ok x) = Ok x
under step (Err r) = Err (r.0, path_under step r.1)

-- ---- numbers

-- a number of 64 bits with sign, one of 64 bits without sign alone, or any other
abbrev pub read_number : Num → Result ℤ Refusal
read_number (unsigned n) = if nat_lt n (2 ^ 63) then Ok (pos n) else Err (too_great, [])
read_number (negative z) = Ok z
read_number (float x) = Err (not_whole, [])

-- a whole number as a value
abbrev pub read_int : Num → Result Value Refusal
read_int n = read_number n >>= (λ z. Ok (value.Int z))

-- ---- values of whatever kind they are, where objects are dictionaries

abbrev mutual
  pub read_any : Data → Result Value Refusal
  read_any null = shape
  read_any (boolean b) = Ok (value.Bool b)
  read_any (number n) = read_int n
  read_any (string s) = Ok (value.Text s)
  read_any (array ds) = read_items 0 [] ds >>= (λ vs. Ok (value.List vs))
  read_any (object ms) = read_members [] ms >>= (λ vs. Ok (value.Dict vs))

  -- elements from this index on, behind those that were read
  pub read_items : ℕ → List Value → Items → Result (List Value) Refusal
  read_items i front no_items = Ok front
  read_items i front (item d ds) = under (decimal i) (read_any d) >>= (λ v. read_items (suc i) (front ++ v ∷ []) ds)

  -- members in the order of their keys, beside those that were read
  pub read_members : List (List ℕ × Value) → Members → Result (List (List ℕ × Value)) Refusal
  read_members front no_members = Ok front
  read_members front (member k d ms) = under k (read_any d) >>= (λ v. read_members (put k v front) ms)

-- ---- folders

-- why something else than a number is asked for: the number is none of 64 bits with sign, or else it is a number
abbrev pub or_other_shape : Result ℤ Refusal → Refusal
or_other_shape (Ok z) = (other_shape, [])
or_other_shape (Err r) = r

-- the refusal of a number where another kind is wanted: what is wrong with the number itself comes first
abbrev pub not_a_number : {A : Type 0} → Num → Result A Refusal
not_a_number n = Err (or_other_shape (read_number n))

-- bytes whose lower hexadecimal digits these are, or another shape
abbrev pub or_shape : Result (List ℕ) FromHexError → List ℕ → Result (List ℕ) Refusal
or_shape (Err e) digits = shape
or_shape (Ok bytes) digits = if bytes_eq (encode_lower bytes) digits then Ok bytes else shape

-- hexadecimal digits in lower case
abbrev pub read_digits : Data → Result (List ℕ) Refusal
read_digits (string s) = or_shape (decode_of s) s
read_digits (number n) = not_a_number n
read_digits null = shape
read_digits (boolean b) = shape
read_digits (array ds) = shape
read_digits (object ms) = shape

-- what stands at the key `hex` of an object that has no other key
abbrev pub digits_in : Members → Option Data
digits_in ms = if nat_eq (members_len ms) 1 then get_member (codes "hex") ms else None

-- bytes of hexadecimal digits under the key `hex`
abbrev pub read_hex : Option Data → Result (List ℕ) Refusal
read_hex None = shape
read_hex (Some d) = under (codes "hex") (read_digits d) >>= Ok

-- the content of a file
abbrev pub read_content : Data → Result (List ℕ) Refusal
read_content (string s) = Ok s
read_content (number n) = not_a_number n
read_content (object ms) = read_hex (digits_in ms)
read_content null = shape
read_content (boolean b) = shape
read_content (array ds) = shape

-- files by name, of the members of an object
abbrev pub read_files : List (List ℕ × List ℕ) → Members → Result (List (List ℕ × List ℕ)) Refusal
read_files front no_members = Ok front
read_files front (member k d ms) = under k (read_content d) >>= (λ c. read_files (put k c front) ms)

-- ---- values of a kind

-- a number, where one is wanted
abbrev pub if_int : Kind → ℤ → Result Value Refusal
if_int kind.Int z = Ok (value.Int z)
if_int kind.Bool z = shape
if_int kind.Text z = shape
if_int kind.List z = shape
if_int kind.Dict z = shape
if_int kind.Folder z = shape

-- a number as a value of a kind
abbrev pub read_number_as : Kind → Num → Result Value Refusal
read_number_as k n = read_number n >>= if_int k

-- an object is a dictionary or a folder
abbrev pub read_object : Kind → Members → Result Value Refusal
read_object kind.Dict ms = read_members [] ms >>= (λ vs. Ok (value.Dict vs))
read_object kind.Folder ms = read_files [] ms >>= (λ fs. Ok (value.Folder fs))
read_object kind.Int ms = shape
read_object kind.Bool ms = shape
read_object kind.Text ms = shape
read_object kind.List ms = shape

-- a truth value, where one is wanted
abbrev pub if_bool : Kind → Bool → Result Value Refusal
if_bool kind.Bool b = Ok (value.Bool b)
if_bool kind.Int b = shape
if_bool kind.Text b = shape
if_bool kind.List b = shape
if_bool kind.Dict b = shape
if_bool kind.Folder b = shape

-- a text, where one is wanted
abbrev pub if_text : Kind → List ℕ → Result Value Refusal
if_text kind.Text s = Ok (value.Text s)
if_text kind.Int s = shape
if_text kind.Bool s = shape
if_text kind.List s = shape
if_text kind.Dict s = shape
if_text kind.Folder s = shape

-- a list, where one is wanted
abbrev pub if_list : Kind → Items → Result Value Refusal
if_list kind.List ds = read_any (array ds)
if_list kind.Int ds = shape
if_list kind.Bool ds = shape
if_list kind.Text ds = shape
if_list kind.Dict ds = shape
if_list kind.Folder ds = shape

-- A number is read before its kind is looked at; a list or an object of another kind is refused before what stands in it.
abbrev pub read_as : Kind → Data → Result Value Refusal
read_as k null = shape
read_as k (boolean b) = if_bool k b
read_as k (number n) = read_number_as k n
read_as k (string s) = if_text k s
read_as k (array ds) = if_list k ds
read_as k (object ms) = read_object k ms

-- ---- an inputs file

-- a key that is no port is refused before its value is read
abbrev pub read_port : Option Kind → Data → Result Value Refusal
read_port None d = shape
read_port (Some k) d = read_as k d

-- values by port, of the members of an object, each of its port's kind
abbrev pub read_ports : List (List ℕ × Kind) → List (List ℕ × Value) → Members → Result (List (List ℕ × Value)) Refusal
read_ports ports front no_members = Ok front
read_ports ports front (member k d ms) = under k (read_port (lookup k ports) d) >>= (λ v. read_ports ports (put k v front) ms)

-- an object from ports to values
abbrev pub read_inputs : List (List ℕ × Kind) → Data → Result (List (List ℕ × Value)) Refusal
read_inputs ports (object ms) = read_ports ports [] ms
read_inputs ports (number n) = not_a_number n
read_inputs ports null = shape
read_inputs ports (boolean b) = shape
read_inputs ports (string s) = shape
read_inputs ports (array ds) = shape
