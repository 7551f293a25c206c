-- What `clap` makes of the words behind a command is the line of the definition.
use Rattle.std.proofs.Common.{◌≡◌, ◌∙◌, ◌⊎◌, ℕ, Bool, true, false, ◌&&◌, ◌||◌, List, [], ◌∷◌, ◌++◌, map, Option, Some, None, refl, sym, ap, subst, true≢false}
use Rattle.std.specs.Prelude.{is_some, fold, unwrap_or, option_map}
use Rattle.std.specs.Str.{bytes_eq}
use Rattle.clap.specs.Words.{Row, Rule, Shape, Text, all_of}
use Rattle.clap.specs.Walk.{Held, Waiting, option, Walk, walked, with_values, without, has_row, settled_rows, arg_by_long, arg_by_short, arg_by_id}
use Rattle.clap.specs.Simple.{new_shape}
use Rattle.clap.specs.Faults.{settle_fault, use_fault, walk_fault}
use Rattle.clap.specs.Kinds.{Kinds, or_else}
use Rattle.clap.specs.declared.builder.range.ValueRange.{ValueRange}
use Rattle.clap.specs.declared.builder.value_parser.ValueParser.TheVariants as vp
use Rattle.clap.specs.declared.builder.value_parser.Reading.TheVariants.{AsWritten}
use Rattle.clap.specs.declared.parser.matches.ValueSource.TheVariants.{CommandLine}
use Rattle.clap.specs.declared.error.kind.ErrorKind.{ErrorKind}
use Rattle.clap.specs.declared.error.kind.ErrorKind.TheVariants as kind
use Rattle.wc_cli.specs.Words.{Line, value_of, are_of}
use Rattle.wc_cli.specs.Line as set
use Rattle.wc_cli.proofs.Lines.{operands_behind, option_behind}
use Rattle.wc_cli.proofs.Rows.{known, same_text, turned, values_added, values_kept, has_values, none_goes, value_new, value_other}

-- ---- a command that is built

abbrev one : ValueRange
one = record { start_inclusive = 1; end_inclusive = 1 }

abbrev pub ready_option : Text → Rule
ready_option name = record (set.option name) { range = Some one; parser = Some vp.String }

abbrev pub ready_operands : Rule
ready_operands = record set.operands { index = Some 1; range = Some one; parser = Some vp.String }

abbrev pub rules : List Text → List Rule
rules names = ready_operands ∷ map ready_option names

abbrev pub ready : Text → List Text → Shape
ready name names = record (new_shape name) {
  rules = rules names;
  no_binary_name = true;
  disable_help_flag = true;
  disable_help_subcommand = true;
  disable_version_flag = true;
  is_built = true;
}

-- no option is called as the operands are
abbrev pub Apart : List Text → Type 0
Apart names = known names set.operand_id ≡ false

pub apart_from : (names : List Text) (n : Text) → Apart names → known names n ≡ true → bytes_eq set.operand_id n ≡ false
apart_from names n apart k = go (bytes_eq set.operand_id n) refl
  where
    go : (b : Bool) → bytes_eq set.operand_id n ≡ b → bytes_eq set.operand_id n ≡ false
    go false e = e
    go true e = absurd (true≢false (sym k ∙ ap (known names) (sym (same_text set.operand_id n e)) ∙ apart))

-- ---- the rules by name

pub long_rule : (names : List Text) (n : Text) → known names n ≡ true → arg_by_long (map ready_option names) n ≡ Some (ready_option n)
long_rule [] n k = absurd (true≢false (sym k))
long_rule (name ∷ names) n k = go (bytes_eq n name) refl (long_rule names n)
  where
    go : (b : Bool) → bytes_eq n name ≡ b → (known names n ≡ true → arg_by_long (map ready_option names) n ≡ Some (ready_option n))
        → arg_by_long (map ready_option (name ∷ names)) n ≡ Some (ready_option n)
    go true e more = rw (turned name n ∙ e) (ap (λ (x : Text). Some (ready_option x)) (sym (same_text n name e)))
    go false e more = rw (turned name n ∙ e) (more (sym (ap (λ (x : Bool). x || known names n) e) ∙ k))

pub no_long_rule : (names : List Text) (n : Text) → known names n ≡ false → arg_by_long (map ready_option names) n ≡ None
no_long_rule [] n k = refl
no_long_rule (name ∷ names) n k = go (bytes_eq n name) refl (no_long_rule names n)
  where
    go : (b : Bool) → bytes_eq n name ≡ b → (known names n ≡ false → arg_by_long (map ready_option names) n ≡ None)
        → arg_by_long (map ready_option (name ∷ names)) n ≡ None
    go true e more = absurd (true≢false (sym (ap (λ (x : Bool). x || known names n) e) ∙ k))
    go false e more = rw (turned name n ∙ e) (more (sym (ap (λ (x : Bool). x || known names n) e) ∙ k))

id_rule : (names : List Text) (n : Text) → known names n ≡ true → arg_by_id (map ready_option names) n ≡ Some (ready_option n)
id_rule [] n k = absurd (true≢false (sym k))
id_rule (name ∷ names) n k = go (bytes_eq n name) refl (id_rule names n)
  where
    go : (b : Bool) → bytes_eq n name ≡ b → (known names n ≡ true → arg_by_id (map ready_option names) n ≡ Some (ready_option n))
        → arg_by_id (map ready_option (name ∷ names)) n ≡ Some (ready_option n)
    go true e more = rw (turned name n ∙ e) (ap (λ (x : Text). Some (ready_option x)) (sym (same_text n name e)))
    go false e more = rw (turned name n ∙ e) (more (sym (ap (λ (x : Bool). x || known names n) e) ∙ k))

pub by_id : (names : List Text) (n : Text) → known names n ≡ true → bytes_eq set.operand_id n ≡ false → arg_by_id (rules names) n ≡ Some (ready_option n)
by_id names n k apart = rw apart (id_rule names n k)

pub no_short : (names : List Text) (x : ℕ) → arg_by_short (rules names) x ≡ None
no_short [] x = refl
no_short (name ∷ names) x = no_short names x

-- ---- where a walk stands

abbrev pub Pending : Type 0
Pending = Option (Text × List Text)

abbrev pub held : List Row → Pending → Held
held rows pending = record { rows = rows; pending = pending; skip = 0 }

abbrev pub at : List Row → Pending → Waiting → Bool → Walk
at rows pending waiting trailing = record { held = held rows pending; waiting = waiting; position = 1; is_trailing = trailing; stopped = None }

abbrev pub walked_on : List Text → Walk → List Text → Walk
walked_on names w ws = fold (walked (rules names) []) w ws

-- the faults of the words, and of what is pending behind them
abbrev pub after : Text → List Text → Walk → List Text → Kinds
after name names w ws = or_else (walk_fault (ready name names) [] w ws) (settle_fault (rules names) false (walked_on names w ws).held)

abbrev pub end_rows : List Text → Walk → List Text → List Row
end_rows names w ws = settled_rows (rules names) (walked_on names w ws).held.pending (walked_on names w ws).held.rows

-- the rows say what the line says
abbrev pub Says : List Row → Line → Type 0
Says rows l = (unwrap_or (all_of set.operand_id rows) [] ≡ l.operands)
    × ((n : Text) → bytes_eq set.operand_id n ≡ false → all_of n rows ≡ option_map (λ v. v ∷ []) (value_of n l.options))

-- either there is no fault, and a line that fits with these rows, or there is a fault, and no line that fits
abbrev pub Fate : List Text → Kinds → List Row → Option Line → Type 0
Fate names fault rows line =
    ((l : Line) × (fault ≡ []) × (line ≡ Some l) × (are_of names l.options ≡ true) × Says rows l)
    ⊎ ((fault ≡ [] → ⊥) × ((l : Line) → line ≡ Some l → are_of names l.options ≡ false))

-- what is taken so far says what the line says, or doesn't fit
abbrev pub Full : List Text → List Row → Pending → Line → Type 0
Full names rows pending l =
    ((settle_fault (rules names) false (held rows pending) ≡ []) × (are_of names l.options ≡ true) × Says (settled_rows (rules names) pending rows) l)
    ⊎ ((settle_fault (rules names) false (held rows pending) ≡ [] → ⊥) × (are_of names l.options ≡ false))

abbrev pub Stand : List Text → List Row → Pending → Line → Waiting → Type 0
Stand names rows pending l (option n) = (pending ≡ Some (n, [])) × (known names n ≡ true) × (are_of names l.options ≡ true) × Says rows l
Stand names rows pending l _ = Full names rows pending l

abbrev pub name_of : Waiting → Option Text
name_of (option n) = Some n
name_of _ = None

-- ---- small laws

pub or_left : (a b : Kinds) → or_else a b ≡ [] → a ≡ []
or_left [] b e = refl
or_left (k ∷ ks) b e = e

pub or_nil : (a : Kinds) → or_else a [] ≡ a
or_nil [] = refl
or_nil (k ∷ ks) = refl

pub filled_kinds : {k : ErrorKind} {ks : Kinds} → k ∷ ks ≡ [] → ⊥
filled_kinds e = cc

pub and_false : (b : Bool) → (b && false) ≡ false
and_false true = refl
and_false false = refl

pub some_of : (o : Option Text) → is_some (option_map (λ v. v ∷ []) o) ≡ is_some o
some_of None = refl
some_of (Some v) = refl

pub is_none : (o : Option Text) → is_some o ≡ false → o ≡ None
is_none None e = refl
is_none (Some v) e = absurd (true≢false e)

-- ---- what rows say

abbrev pub with_operand_row : Text → List Row → List Row
with_operand_row v rows = with_values set.operand_id AsWritten CommandLine (v ∷ []) rows

pub says_operand : (rows : List Row) (l : Line) (v : Text) → Says rows l → Says (with_operand_row v rows) (operands_behind (v ∷ []) l)
says_operand rows l v says = (
  ap (λ (o : Option (List Text)). unwrap_or o []) (values_added set.operand_id AsWritten CommandLine (v ∷ []) rows) ∙ ap (λ (t : List Text). t ++ v ∷ []) says.0,
  λ n apart. values_kept set.operand_id n AsWritten CommandLine (v ∷ []) rows apart ∙ says.1 n apart,
)

abbrev pub with_option_row : Text → Text → List Row → List Row
with_option_row n v rows = with_values n AsWritten CommandLine (v ∷ []) (without n rows)

pub has_option_row : (rows : List Row) (l : Line) (n : Text) → Says rows l → bytes_eq set.operand_id n ≡ false → has_row n rows ≡ is_some (value_of n l.options)
has_option_row rows l n says apart = has_values n rows ∙ ap is_some (says.1 n apart) ∙ some_of (value_of n l.options)

pub says_option : (rows : List Row) (l : Line) (n v : Text) → Says rows l → bytes_eq set.operand_id n ≡ false → has_row n rows ≡ false → Says (with_option_row n v rows) (option_behind (n, v) l)
says_option rows l n v says apart none =
    subst (λ (t : List Row). Says (with_values n AsWritten CommandLine (v ∷ []) t) (option_behind (n, v) l)) (sym (none_goes n rows none)) (operands, options)
  where
    fresh : value_of n l.options ≡ None
    fresh = is_none (value_of n l.options) (sym (has_option_row rows l n says apart) ∙ none)

    operands : unwrap_or (all_of set.operand_id (with_values n AsWritten CommandLine (v ∷ []) rows)) [] ≡ l.operands
    operands = ap (λ (o : Option (List Text)). unwrap_or o []) (values_kept n set.operand_id AsWritten CommandLine (v ∷ []) rows (turned n set.operand_id ∙ apart)) ∙ says.0

    here : all_of n (with_values n AsWritten CommandLine (v ∷ []) rows) ≡ option_map (λ x. x ∷ []) (value_of n (l.options ++ (n, v) ∷ []))
    here = values_added n AsWritten CommandLine (v ∷ []) rows
        ∙ ap (λ (o : Option (List Text)). Some (unwrap_or o [] ++ v ∷ [])) (says.1 n apart ∙ ap (option_map (λ x. x ∷ [])) fresh)
        ∙ sym (ap (option_map (λ x. x ∷ [])) (value_new n v l.options [] fresh))

    options : (m : Text) → bytes_eq set.operand_id m ≡ false → all_of m (with_values n AsWritten CommandLine (v ∷ []) rows) ≡ option_map (λ x. x ∷ []) (value_of m (l.options ++ (n, v) ∷ []))
    options m other = go (bytes_eq n m) refl
      where
        go : (b : Bool) → bytes_eq n m ≡ b → all_of m (with_values n AsWritten CommandLine (v ∷ []) rows) ≡ option_map (λ x. x ∷ []) (value_of m (l.options ++ (n, v) ∷ []))
        go true e = subst (λ (x : Text). all_of x (with_values n AsWritten CommandLine (v ∷ []) rows) ≡ option_map (λ y. y ∷ []) (value_of x (l.options ++ (n, v) ∷ []))) (same_text n m e) here
        go false e = values_kept n m AsWritten CommandLine (v ∷ []) rows e ∙ says.1 m other ∙ sym (ap (option_map (λ x. x ∷ [])) (value_other n v m l.options e))

-- ---- one use

abbrev pub option_use : Text → Text → List Row → Kinds
option_use n v rows = use_fault false (ready_option n) (v ∷ []) rows

pub first_use : (n v : Text) (rows : List Row) → has_row n rows ≡ false → option_use n v rows ≡ []
first_use n v rows none = rw none refl

pub second_use : (n v : Text) (rows : List Row) → has_row n rows ≡ true → option_use n v rows ≡ kind.ArgumentConflict ∷ []
second_use n v rows some = rw some refl

pub settles_option : (names : List Text) (n v : Text) (rows : List Row) → known names n ≡ true → bytes_eq set.operand_id n ≡ false
    → settle_fault (rules names) false (held rows (Some (n, v ∷ []))) ≡ option_use n v rows
settles_option names n v rows k apart = rw (by_id names n k apart) refl

pub option_rows : (names : List Text) (n v : Text) (rows : List Row) → known names n ≡ true → bytes_eq set.operand_id n ≡ false
    → settled_rows (rules names) (Some (n, v ∷ [])) rows ≡ with_option_row n v rows
option_rows names n v rows k apart = rw (by_id names n k apart) refl

pub settles_nothing : (names : List Text) (n : Text) (rows : List Row) → known names n ≡ true → bytes_eq set.operand_id n ≡ false
    → settle_fault (rules names) false (held rows (Some (n, []))) ≡ kind.InvalidValue ∷ []
settles_nothing names n rows k apart = rw (by_id names n k apart) refl
