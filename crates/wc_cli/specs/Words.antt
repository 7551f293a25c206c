-- The words of the command line, and the command that they are.
use Rattle.std.specs.Prelude.{ℕ, Bool, true, not, ◌&&◌, ◌==◌, nat_lt, nat_le, if◌then◌else◌, List, [], ◌∷◌, ◌++◌, length, drop, take, slice_index, find, Option, Some, None, is_some, option_map, option_and_then, codes}
use Rattle.std.specs.Char.{digit_value}
use Rattle.std.specs.List.{position_or_len, before_first, after_first, list_all, list_any}
use Rattle.std.specs.Str.{bytes_eq}
use Rattle.std.specs.Str.Parse.{digits_value}
use Rattle.wc_cli.specs.declared.command.Command.{Command}
use Rattle.wc_cli.specs.declared.command.Command.TheVariants.{Check, Dry, Init, Submit, Run, View, Pause, Play, Kill, Pack, Drill, Query, Expand}
use Rattle.wc_cli.specs.declared.command.View.TheVariants as view
use Rattle.wc_cli.specs.declared.table.Bounds.{Bounds}
use Rattle.wc_cli.specs.declared.table.Form.{Form}
use Rattle.wc_cli.specs.declared.table.Form.TheVariants as form
use Rattle.wc_cli.specs.declared.table.Lone.{Lone}
use Rattle.wc_cli.specs.declared.table.Lone.TheVariants as lone
use Rattle.wc_cli.specs.declared.table.Numbered.{Numbered}
use Rattle.wc_cli.specs.declared.table.Numbered.TheVariants as numbered
use Rattle.wc_cli.specs.Table.{Amount, for_inputs, for_results, for_settings, for_spec, for_fuel, for_turns, for_seed, for_limit, form_of, options_of}

-- ---- a word PORT=VALUE

-- `=`
abbrev pub is_equals : ℕ → Bool
is_equals b = b == 61

-- a word cut at its first `=`, if it has one
abbrev pub cut_word : List ℕ → Option (List ℕ × List ℕ)
cut_word w =
    if nat_lt (position_or_len is_equals w) (length w) then Some (before_first is_equals w, after_first is_equals w) else None

-- all words cut so, behind those in front, if each has an `=`
abbrev pub cut_after : List (List ℕ × List ℕ) → List (List ℕ) → Option (List (List ℕ × List ℕ))
cut_after front [] = Some front
cut_after front (w ∷ ws) = option_and_then (λ g. cut_after (front ++ g ∷ []) ws) (cut_word w)

-- all words cut so, where each has one
abbrev pub cut_all : List (List ℕ) → Option (List (List ℕ × List ℕ))
cut_all = cut_after []

-- ---- operands and options

-- a word that begins with `-` and has more bytes is an operand only behind `--`, and never the value of an option that is
-- the word before it
abbrev pub is_option : List ℕ → Bool
is_option w = nat_lt 1 (length w) && slice_index w 0 == 45

-- `--`, behind which there are operands alone
abbrev pub ends_options : List ℕ → Bool
ends_options w = bytes_eq w (codes "--")

-- `--name` or `--name=value`
abbrev pub is_long : List ℕ → Bool
is_long w = bytes_eq (take 2 w) (codes "--")

-- what stands behind a command: the operands, and the options with their values, both in order
pub record Line : Type 0 where
  pub operands : List (List ℕ)
  pub options : List (List ℕ × List ℕ)

-- a line with operands and no option
abbrev pub operands_alone : List (List ℕ) → Line
operands_alone ws = record { operands = ws; options = [] }

-- a word in front of the operands of a line
abbrev pub with_operand : List ℕ → Line → Line
with_operand w l = record { operands = w ∷ l.operands; options = l.options }

-- an option in front of those of a line
abbrev pub with_option : List ℕ → List ℕ → Line → Line
with_option name value l = record { operands = l.operands; options = (name, value) ∷ l.options }

-- `--name=value` in front of a line; behind `--name` there is a line that begins with its value
abbrev pub long_line : Option (List ℕ × List ℕ) → Option Line → Option Line → Option Line
long_line None behind valued = valued
long_line (Some option) behind valued = option_map (with_option option.0 option.1) behind

-- Words as a line: operands, and options with their values, which stand anywhere up to a word `--`. Where a name is there, the
-- first word is the value of the option with this name.
abbrev pub line_from : Option (List ℕ) → List (List ℕ) → Option Line
line_from (Some name) [] = None
line_from (Some name) (w ∷ ws) = if is_option w then None else option_map (with_option name w) (line_from None ws)
line_from None [] = Some (operands_alone [])
line_from None (w ∷ ws) =
    if ends_options w then Some (operands_alone ws)
    else if is_long w then long_line (cut_word (drop 2 w)) (line_from None ws) (line_from (Some (drop 2 w)) ws)
    else if is_option w then None
    else option_map (with_operand w) (line_from None ws)

-- The operands and the options behind the command's name, in their order; options stand up to a word `--`
abbrev pub line_of : List (List ℕ) → Option Line
line_of = line_from None

-- what stands for the option with this name
abbrev pub value_of : List ℕ → List (List ℕ × List ℕ) → Option (List ℕ)
value_of name options = option_map (λ o. o.1) (find (λ o. bytes_eq o.0 name) options)

-- each option has one of these names, and none stands twice
abbrev pub are_of : List (List ℕ) → List (List ℕ × List ℕ) → Bool
are_of names [] = true
are_of names (o ∷ rest) = list_any (λ name. bytes_eq o.0 name) names && not (is_some (value_of o.0 rest)) && are_of names rest

-- ---- numbers

-- one decimal digit or more
abbrev pub is_numeral : List ℕ → Bool
is_numeral text = nat_lt 0 (length text) && list_all (λ d. nat_lt (digit_value d) 10) text

-- the number that decimal digits write
abbrev pub digits_of : List ℕ → Option ℕ
digits_of text = if is_numeral text then Some (digits_value 10 text) else None

-- a number from the least to the most that is allowed
abbrev pub within : ℕ → ℕ → Option ℕ → Option ℕ
within least most None = None
within least most (Some n) = if nat_le least n && nat_le n most then Some n else None

-- the number that a text writes, within bounds
abbrev pub number_in : Bounds → List ℕ → Option ℕ
number_in bounds text = within bounds.least bounds.most (digits_of text)

-- ---- the options of a command

-- what stands for an option, by its name
abbrev pub Values : Type 0
Values = List ℕ → Option (List ℕ)

-- the number that an option writes; the usual one where the option isn't there
abbrev pub number_or : Bounds → ℕ → Option (List ℕ) → Option ℕ
number_or bounds usual None = Some usual
number_or bounds usual (Some text) = number_in bounds text

-- What an option writes, or the usual number where it isn't there
abbrev pub amount_of : Amount → Values → Option ℕ
amount_of a value = number_or a.bounds a.usual (value a.name)

-- ---- the operands of a command, and the command that they make

-- `dry`, where its inputs and its fuel are right
abbrev pub dry_with : List ℕ → List ℕ → Option (List (List ℕ × List ℕ)) → Option (List ℕ) → Option (List ℕ) → Option ℕ → Option Command
dry_with file name (Some given) inputs table (Some fuel) = Some (Dry file name given inputs table fuel)
dry_with file name _ inputs table _ = None

-- `FILE NAME [PORT=VALUE]...`
abbrev pub dry_of : List (List ℕ) → Values → Option Command
dry_of (file ∷ name ∷ given) value = dry_with file name (cut_all given) (value for_inputs) (value for_results) (amount_of for_fuel value)
dry_of _ value = None

-- `FILE`
abbrev pub check_of : List (List ℕ) → Option Command
check_of (file ∷ []) = Some (Check file)
check_of _ = None

-- `submit`, where its inputs are right
abbrev pub submit_with : List ℕ → List ℕ → Option (List (List ℕ × List ℕ)) → Option (List ℕ) → Option (List ℕ) → Option Command
submit_with file name (Some given) inputs settings = Some (Submit file name given inputs settings)
submit_with file name None inputs settings = None

-- `FILE NAME [PORT=VALUE]...`
abbrev pub submit_of : List (List ℕ) → Values → Option Command
submit_of (file ∷ name ∷ given) value = submit_with file name (cut_all given) (value for_inputs) (value for_settings)
submit_of _ value = None

-- `run`, where its numbers are right
abbrev pub run_with : Option ℕ → Option ℕ → Option (List ℕ) → Option Command
run_with (Some turns) (Some seed) settings = Some (Run turns seed settings)
run_with _ _ settings = None

-- no operands
abbrev pub run_of : List (List ℕ) → Values → Option Command
run_of [] value = run_with (amount_of for_turns value) (amount_of for_seed value) (value for_settings)
run_of _ value = None

-- the number that is the one operand
abbrev pub one_number : Bounds → List (List ℕ) → Option ℕ
one_number bounds (n ∷ []) = number_in bounds n
one_number bounds _ = None

-- `drill`, where its numbers are right
abbrev pub drill_with : Option ℕ → Option ℕ → Option Command
drill_with (Some seed) (Some count) = Some (Drill seed count)
drill_with _ _ = None

-- `SEED N`
abbrev pub drill_of : Bounds → Bounds → List (List ℕ) → Option Command
drill_of seeds counts (seed ∷ count ∷ []) = drill_with (number_in seeds seed) (number_in counts count)
drill_of seeds counts _ = None

-- `query`, where its limit is right
abbrev pub query_with : List (List ℕ) → Option ℕ → Option Command
query_with words (Some limit) = Some (Query words limit)
query_with words None = None

-- any number of operands
abbrev pub query_of : List (List ℕ) → Values → Option Command
query_of words value = query_with words (amount_of for_limit value)

-- `FILE`, where the option for the other file is given; without it the words are no command
abbrev pub expand_of : List (List ℕ) → Values → Option Command
expand_of (file ∷ []) value = option_map (Expand file) (value for_spec)
expand_of _ value = None

-- a command that takes no operands
abbrev pub alone : Command → List (List ℕ) → Option Command
alone c [] = Some c
alone c _ = None

-- the command of a word that stands alone
abbrev pub lone_command : Lone → Command
lone_command lone.Init = Init
lone_command lone.List = View view.List
lone_command lone.Graph = View view.Graph
lone_command lone.Verify = View view.Verify
lone_command lone.Pack = Pack

-- the command of a word with the number of a node or a process
abbrev pub with_number : Numbered → ℕ → Command
with_number numbered.Tree n = View (view.Tree n)
with_number numbered.Show n = View (view.Show n)
with_number numbered.Pause n = Pause n
with_number numbered.Play n = Play n
with_number numbered.Kill n = Kill n

-- the command of this form, with these operands and these values of its options
abbrev pub formed : Form → List (List ℕ) → Values → Option Command
formed form.Dry operands value = dry_of operands value
formed form.Check operands value = check_of operands
formed form.Submit operands value = submit_of operands value
formed form.Run operands value = run_of operands value
formed (form.Alone which) operands value = alone (lone_command which) operands
formed (form.Numbered bounds which) operands value = option_map (with_number which) (one_number bounds operands)
formed (form.Drill seeds counts) operands value = drill_of seeds counts operands
formed form.Query operands value = query_of operands value
formed form.Expand operands value = expand_of operands value

-- ---- all words

-- the command with this word, these operands and these values of its options
abbrev pub named_command : List ℕ → List (List ℕ) → Values → Option Command
named_command word operands value = option_and_then (λ f. formed f operands value) (form_of word)

-- the command with this name and line, where it has the options of the line
abbrev pub command_in : List ℕ → Line → Option Command
command_in word l = if are_of (options_of word) l.options then named_command word l.operands (λ name. value_of name l.options) else None

-- the first word is the command
abbrev pub command_of : List (List ℕ) → Option Command
command_of [] = None
command_of (word ∷ ws) = option_and_then (command_in word) (line_of ws)
