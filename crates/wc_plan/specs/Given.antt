-- Inputs that are given in words and in a file, and the least port that is given badly.
use Rattle.std.specs.Prelude.{◌≡◌, ℕ, suc, ◌==◌, nat_lt, Bool, true, false, not, ◌&&◌, ◌||◌, is_none, if◌then◌else◌, List, [], ◌∷◌, ◌++◌, Option, Some, None, option_map, Result, Ok, Err, codes}
use Rattle.std.specs.Str.{bytes_eq}
use Rattle.wc_value.specs.Ascending.{lookup, put}
use Rattle.wc_value.specs.declared.value.Kind.{Kind}
use Rattle.wc_value.specs.declared.value.Kind.TheVariants as kind
use Rattle.wc_value.specs.declared.value.Value.{Value}
use Rattle.wc_value.specs.declared.value.Value.TheVariants as value
use Rattle.wc_syntax.specs.declared.definition.Port.{Port}
use Rattle.wc_expression.specs.Val.{is_allowed}
use Rattle.wc_expression.specs.Whole.{number_of}
use Rattle.wc_semantics.specs.Rules.{kind_of_port}
use Rattle.wc_meaning.specs.Inputs.{least}

-- the truth value that a text writes: `true` or `false`, and else none
abbrev pub bool_in_words : List ℕ → Option Bool
bool_in_words text = if bytes_eq text (codes "true") then Some true else if bytes_eq text (codes "false") then Some false else None

-- the value of a kind that a text writes; lists, dictionaries and folders have no form in words
abbrev pub value_in_words : Kind → List ℕ → Option Value
value_in_words kind.Int text = option_map value.Int (number_of text)
value_in_words kind.Bool text = option_map value.Bool (bool_in_words text)
value_in_words kind.Text text = Some (value.Text text)
value_in_words kind.List text = None
value_in_words kind.Dict text = None
value_in_words kind.Folder text = None

-- a value that is within the limits
abbrev pub allowed : Option Value → Option Value
allowed None = None
allowed (Some v) = if is_allowed v then Some v else None

-- the value of a kind that a text writes, within the limits of expressions; where there is no port, none
abbrev pub value_of_kind : Option Kind → List ℕ → Option Value
value_of_kind None text = None
value_of_kind (Some k) text = allowed (value_in_words k text)

-- the value that a word gives to the port that it names
abbrev pub given_value : List Port → List ℕ × List ℕ → Option Value
given_value ports g = value_of_kind (kind_of_port g.0 ports) g.1

-- the names that are given and are no port, or have no value of the port's kind
abbrev pub unread : List Port → List (List ℕ × List ℕ) → List (List ℕ)
unread ports [] = []
unread ports (g ∷ gs) = if is_none (given_value ports g) then g.0 ∷ unread ports gs else unread ports gs

-- how often a name is given in words
abbrev pub times_given : List ℕ → List (List ℕ × List ℕ) → ℕ
times_given name [] = 0
times_given name (g ∷ gs) = if bytes_eq g.0 name then suc (times_given name gs) else times_given name gs

-- a file of inputs gives the name
abbrev pub is_in : List ℕ → List (List ℕ × Value) → Bool
is_in name file = not (is_none (lookup name file))

-- a port that the words give so often is given more than once, in words or in words and the file, or is required and not given
abbrev pub is_ill : Port → ℕ → Bool → Bool
is_ill p n filed = nat_lt 1 n || ((nat_lt 0 n && filed) || (n == 0 && (not filed && not p.optional)))

-- the ports that are given more than once, or are required and not given
abbrev pub ill_given : List Port → List (List ℕ × List ℕ) → List (List ℕ × Value) → List (List ℕ)
ill_given [] given file = []
ill_given (p ∷ ps) given file =
    if is_ill p (times_given p.name.text given) (is_in p.name.text file) then p.name.text ∷ ill_given ps given file else ill_given ps given file

-- the least port that is given badly in words, beside what a file gives
abbrev pub bad_given : List Port → List (List ℕ × List ℕ) → List (List ℕ × Value) → Option (List ℕ)
bad_given ports given file = least (ill_given ports given file ++ unread ports given)

-- inputs with one more, where it has a value
abbrev pub with_field : List ℕ → Option Value → List (List ℕ × Value) → List (List ℕ × Value)
with_field name None fields = fields
with_field name (Some v) fields = put name v fields

-- the inputs that the words give, beside these
abbrev pub fields_of : List Port → List (List ℕ × List ℕ) → List (List ℕ × Value) → List (List ℕ × Value)
fields_of ports [] fields = fields
fields_of ports (g ∷ gs) fields = fields_of ports gs (with_field g.0 (given_value ports g) fields)

-- the words give these inputs beside a file's, where no port is given badly, and else the least port that is
abbrev pub IsGiven : List Port → List (List ℕ × List ℕ) → List (List ℕ × Value) → Result (List (List ℕ × Value)) (List ℕ) → Type 0
IsGiven ports given file (Ok fields) = (bad_given ports given file ≡ None) × (fields ≡ fields_of ports given file)
IsGiven ports given file (Err port) = bad_given ports given file ≡ Some port
