-- What `clap` reads of words is the command that they are.
use Rattle.std.proofs.Common.{◌≡◌, ◌∙◌, ◌⊎◌, ℕ, Bool, true, false, not, ◌&&◌, ◌||◌, List, [], ◌∷◌, Option, Some, None, if◌then◌else◌, refl, sym, ap, subst, true≢false, inl, inr}
use Rattle.std.specs.Prelude.{find, fold, map, option_map, option_and_then, slice_get}
use Rattle.std.specs.List.{list_all}
use Rattle.std.specs.Str.{bytes_eq, chars}
use Rattle.clap.specs.Lexer.{long_of, short_of}
use Rattle.clap.specs.Words.{App, Row, Text, fault_of, subcommand_of, is_simple, is_simple_and_free, all_of, first_of}
use Rattle.clap.specs.Walk.{Walk, idle, answers_to, walked, walk, walk_from, nothing_held, rows_after}
use Rattle.clap.specs.Simple.{argument_words, built, entered, names_of}
use Rattle.clap.specs.Faults.{turn_fault, walk_fault, flags_fault, defaults_fault, built_fault}
use Rattle.clap.specs.Kinds.{Kinds, or_else}
use Rattle.clap.specs.declared.error.kind.ErrorKind.TheVariants as kind
use Rattle.wc_cli.specs.declared.table.Form.{Form}
use Rattle.wc_cli.specs.declared.table.Form.TheVariants as form
use Rattle.wc_cli.specs.Table.{Entry, table, entry_among, form_of, option_names, options_among, options_of}
use Rattle.wc_cli.specs.Words.{Line, Values, line_of, are_of, value_of, formed, named_command, command_in, command_of}
use Rattle.wc_cli.specs.Line as set
use Rattle.wc_cli.proofs.Rows.{known}
use Rattle.wc_cli.proofs.Look.{Look, look}
use Rattle.wc_cli.proofs.Leaf.{Apart, rules, Says, Fate, or_left, filled_kinds}
use Rattle.wc_cli.proofs.Walks.{AreUtf8}
use Rattle.wc_cli.proofs.Tops.{top, ready_app, names, fault_at, name_unknown, leaf, fault_of_command, rows_of_command}

-- ---- the command line as it is built

abbrev commands : List Text
commands = map (λ e. e.word) table

built_line : built set.line_app ≡ ready_app commands
unfolding table
built_line = refl

pub simple : is_simple set.line_app ≡ true
unfolding table
simple = refl

pub free : is_simple_and_free set.line_app ≡ true
unfolding table
free = refl

-- ---- a word that is no command

no_entry : (entries : List Entry) (word : Text) → known (map (λ e. e.word) entries) word ≡ false → entry_among word entries ≡ None
no_entry [] word k = refl
no_entry (e ∷ es) word k = go (bytes_eq word e.word) refl (no_entry es word)
  where
    words : List Text
    words = map (λ x. x.word) es

    go : (b : Bool) → bytes_eq word e.word ≡ b → (known words word ≡ false → entry_among word es ≡ None) → entry_among word (e ∷ es) ≡ None
    go true is more = absurd (true≢false (sym (ap (λ (x : Bool). x || known words word) is) ∙ k))
    go false is more = rw is (more (sym (ap (λ (x : Bool). x || known words word) is) ∙ k))

unknown_command : (word : Text) (operands : List Text) (value : Values) → known commands word ≡ false → named_command word operands value ≡ None
unknown_command word operands value k = rw (no_entry table word k) refl

no_command : (word : Text) (ws : List Text) → known commands word ≡ false → command_of (word ∷ ws) ≡ None
no_command word ws k = go (line_of ws)
  where
    either : (b : Bool) (l : Line) → (if b then named_command word l.operands (λ name. value_of name l.options) else None) ≡ None
    either true l = unknown_command word l.operands (λ name. value_of name l.options) k
    either false l = refl

    go : (r : Option Line) → option_and_then (command_in word) r ≡ None
    go None = refl
    go (Some l) = either (are_of (options_of word) l.options) l

-- ---- a word that is no command is refused

abbrev start_fault : Text → Kinds
start_fault word = turn_fault top (names commands) (walk_from nothing_held) word

unknown_long : (word n : Text) (v : Option Text) → find (answers_to word) (names commands) ≡ None → bytes_eq word (45 ∷ 45 ∷ []) ≡ false → long_of word ≡ Some (n, v) → start_fault word ≡ kind.UnknownArgument ∷ []
unknown_long word n v none end long = rw (none, end, long) refl

unknown_short : (word : Text) (b : ℕ) (bs : Text) (x : ℕ) → find (answers_to word) (names commands) ≡ None → bytes_eq word (45 ∷ 45 ∷ []) ≡ false → long_of word ≡ None
    → short_of word ≡ Some (b ∷ bs) → slice_get (chars (b ∷ bs)) 0 ≡ Some x → start_fault word ≡ kind.UnknownArgument ∷ []
unfolding flags_fault
unknown_short word b bs x none end long short char = rw (none, end, long, short, char) refl

unknown_plain : (word : Text) → find (answers_to word) (names commands) ≡ None → bytes_eq word (45 ∷ 45 ∷ []) ≡ false → long_of word ≡ None → short_of word ≡ None
    → start_fault word ≡ kind.UnknownArgument ∷ kind.InvalidSubcommand ∷ []
unknown_plain word none end long short = rw (none, end, long, short) refl

first_fault : (word : Text) (ws : List Text) → (start_fault word ≡ [] → ⊥) → built_fault (ready_app commands) nothing_held (word ∷ ws) ≡ [] → ⊥
unfolding walk_fault
first_fault word ws fails e = fails (or_left _ _ (or_left _ _ e))

abbrev behind_end : Walk
behind_end = record { held = nothing_held; waiting = idle; position = 1; is_trailing = true; stopped = None }

ends_there : (word : Text) → find (answers_to word) (names commands) ≡ None → bytes_eq word (45 ∷ 45 ∷ []) ≡ true → walked [] (names commands) (walk_from nothing_held) word ≡ behind_end
unfolding walked
ends_there word none end = rw (none, end) refl

abbrev fault_behind : Kinds → Walk → List Text → Kinds
fault_behind first w ws = fault_at commands (or_else first (walk_fault top (names commands) w ws)) (fold (walked [] (names commands)) w ws)

after_end : (ws : List Text) (first : Kinds) → fault_behind first behind_end ws ≡ [] → ⊥
unfolding walk_fault defaults_fault
after_end [] [] e = filled_kinds e
after_end [] (k ∷ ks) e = filled_kinds e
after_end (w ∷ ws) [] e = filled_kinds e
after_end (w ∷ ws) (k ∷ ks) e = filled_kinds e

end_refused : (word : Text) (ws : List Text) → find (answers_to word) (names commands) ≡ None → bytes_eq word (45 ∷ 45 ∷ []) ≡ true → built_fault (ready_app commands) nothing_held (word ∷ ws) ≡ [] → ⊥
unfolding walk_fault
end_refused word ws none end e = after_end ws (start_fault word) (sym (ap (λ (w : Walk). fault_behind (start_fault word) w ws) (ends_there word none end)) ∙ e)

by_fault : (k f : Kinds) → k ≡ f → (f ≡ [] → ⊥) → k ≡ [] → ⊥
by_fault k f e h g = h (sym e ∙ g)

pub top_refused : (word : Text) (ws : List Text) → Look word → known commands word ≡ false → built_fault (ready_app commands) nothing_held (word ∷ ws) ≡ [] → ⊥
top_refused word ws seen k = elim seen [
  | inl end ↦ end_refused word ws none end.0
  | inr (inl long) ↦ first_fault word ws (by_fault _ _ (unknown_long word _ _ none long.0 long.3) filled_kinds)
  | inr (inr (inl short)) ↦ first_fault word ws (by_fault _ _ (unknown_short word short.4.0 short.4.1 short.4.2 none short.0 short.3 short.4.3 short.4.4) filled_kinds)
  | inr (inr (inr plain)) ↦ first_fault word ws (by_fault _ _ (unknown_plain word none plain.0 plain.3 plain.4) filled_kinds)
]
  where
    none : find (answers_to word) (names commands) ≡ None
    none = name_unknown commands word k

nothing_refused : built_fault (ready_app commands) nothing_held [] ≡ [] → ⊥
unfolding walk_fault defaults_fault
nothing_refused e = filled_kinds e

-- ---- the command of rows that say what a line says

first_is : (id : Text) (rows : List Row) → first_of id rows ≡ option_and_then (λ vs. slice_get vs 0) (all_of id rows)
first_is id rows = go (find (λ r. bytes_eq r.id id) rows)
  where
    go : (o : Option Row) → option_and_then (λ r. slice_get r.values 0) o ≡ option_and_then (λ vs. slice_get vs 0) (option_map (λ r. r.values) o)
    go None = refl
    go (Some r) = refl

only_value : (o : Option Text) → option_and_then (λ vs. slice_get vs 0) (option_map (λ v. v ∷ []) o) ≡ o
only_value None = refl
only_value (Some v) = refl

value_is : (rows : List Row) (l : Line) (n : Text) → Says rows l → bytes_eq set.operand_id n ≡ false → set.values_in rows n ≡ value_of n l.options
value_is rows l n says apart = first_is n rows ∙ ap (option_and_then (λ vs. slice_get vs 0)) (says.1 n apart) ∙ only_value (value_of n l.options)

-- no option is called as the operands are, so a command asks for no value by this name
abbrev masked : Values → Values
masked f n = if bytes_eq set.operand_id n then None else f n

formed_masked : (x : Form) (operands : List Text) (f : Values) → formed x operands f ≡ formed x operands (masked f)
formed_masked form.Dry [] f = refl
formed_masked form.Dry (file ∷ []) f = refl
formed_masked form.Dry (file ∷ name ∷ given) f = refl
formed_masked form.Check operands f = refl
formed_masked form.Submit [] f = refl
formed_masked form.Submit (file ∷ []) f = refl
formed_masked form.Submit (file ∷ name ∷ given) f = refl
formed_masked form.Run [] f = refl
formed_masked form.Run (w ∷ ws) f = refl
formed_masked (form.Alone which) operands f = refl
formed_masked (form.Numbered bounds which) operands f = refl
formed_masked (form.Drill seeds counts) operands f = refl
formed_masked form.Query operands f = refl
formed_masked form.Expand [] f = refl
formed_masked form.Expand (file ∷ []) f = refl
formed_masked form.Expand (file ∷ w ∷ ws) f = refl

masked_same : (f g : Values) → ((n : Text) → bytes_eq set.operand_id n ≡ false → f n ≡ g n) → masked f ≡ masked g
masked_same f g is = λ i n. at n i
  where
    at : (n : Text) → masked f n ≡ masked g n
    at n = go (bytes_eq set.operand_id n) refl
      where
        go : (b : Bool) → bytes_eq set.operand_id n ≡ b → (if b then None else f n) ≡ (if b then None else g n)
        go true e = refl
        go false e = is n e

formed_same : (x : Form) (operands : List Text) (f g : Values) → ((n : Text) → bytes_eq set.operand_id n ≡ false → f n ≡ g n) → formed x operands f ≡ formed x operands g
formed_same x operands f g is = formed_masked x operands f ∙ ap (formed x operands) (masked_same f g is) ∙ sym (formed_masked x operands g)

named_same : (word : Text) (rows : List Row) (l : Line) → Says rows l → named_command word (set.operands_in rows) (set.values_in rows) ≡ named_command word l.operands (λ name. value_of name l.options)
named_same word rows l says = ap (λ (o : List Text). named_command word o f) says.0 ∙ go (form_of word)
  where
    f : Values
    f = set.values_in rows

    g : Values
    g = λ name. value_of name l.options

    go : (o : Option Form) → option_and_then (λ x. formed x l.operands f) o ≡ option_and_then (λ x. formed x l.operands g) o
    go None = refl
    go (Some x) = formed_same x l.operands f g (λ n apart. value_is rows l n says apart)

-- ---- all words

-- no option of these commands is called as the operands are
abbrev are_apart : List Entry → Bool
are_apart = list_all (λ e. not (known (option_names e) set.operand_id))

among_apart : (entries : List Entry) (word : Text) → are_apart entries ≡ true → Apart (options_among word entries)
among_apart [] word all = refl
among_apart (e ∷ es) word all = go (bytes_eq word e.word) refl (known (option_names e) set.operand_id) refl (among_apart es word)
  where
    go : (b : Bool) → bytes_eq word e.word ≡ b → (k : Bool) → known (option_names e) set.operand_id ≡ k → (are_apart es ≡ true → Apart (options_among word es)) → Apart (options_among word (e ∷ es))
    go b is true same more = absurd (true≢false (sym all ∙ ap (λ (x : Bool). not x && are_apart es) same))
    go true is false same more = rw is same
    go false is false same more = rw is (more (sym (ap (λ (x : Bool). not x && are_apart es) same) ∙ all))

table_apart : are_apart table ≡ true
unfolding table
table_apart = refl

options_apart : (word : Text) → Apart (options_of word)
options_apart word = among_apart table word table_apart

-- where there is no fault, the command is that of the subcommand that is met; where there is one, there is no command
abbrev pub Meets : List Text → Kinds → Option (Text × List Row) → Type 0
Meets words fault met = ((fault ≡ []) × (command_of words ≡ set.command_met met)) ⊎ ((fault ≡ [] → ⊥) × (command_of words ≡ None))

meets_fate : (word : Text) (ws : List Text) (fault : Kinds) (rows : List Row) → Fate (options_of word) fault rows (line_of ws) → Meets (word ∷ ws) fault (Some (word, rows))
meets_fate word ws fault rows (inl fate) = inl (fate.1, rw (fate.2, fate.3) (sym (named_same word rows fate.0 fate.4)))
meets_fate word ws fault rows (inr fate) = inr (fate.0, go (line_of ws) refl)
  where
    go : (r : Option Line) → line_of ws ≡ r → option_and_then (command_in word) (line_of ws) ≡ None
    go None e = rw e refl
    go (Some l) e = rw (e, fate.1 l e) refl

meets_built : (words : List Text) → AreUtf8 words → Meets words (built_fault (ready_app commands) nothing_held words) (entered (ready_app commands) (walk [] (names commands) nothing_held words).stopped)
meets_built [] utf8 = inr (nothing_refused, refl)
meets_built (word ∷ ws) utf8 = go (known commands word) refl
  where
    Goal : Type 0
    Goal = Meets (word ∷ ws) (built_fault (ready_app commands) nothing_held (word ∷ ws)) (entered (ready_app commands) (walk [] (names commands) nothing_held (word ∷ ws)).stopped)

    go : (b : Bool) → known commands word ≡ b → Goal
    go true k = subst (λ (m : Option (Text × List Row)). Meets (word ∷ ws) (built_fault (ready_app commands) nothing_held (word ∷ ws)) m) (sym (rows_of_command commands word ws k))
        (subst (λ (f : Kinds). Meets (word ∷ ws) f (Some (word, rows_after (rules (options_of word)) [] ws))) (sym (fault_of_command commands word ws k))
        (meets_fate word ws _ _ (leaf word (options_of word) (options_apart word) ws utf8.1)))
    go false k = inr (top_refused word ws (look word utf8.0) k, no_command word ws k)

-- no word is the program's name
words_alone : (words : List Text) → argument_words set.line_app words ≡ words
unfolding table
words_alone words = refl

abbrev MeetsAs : List Text → App → List Text → Type 0
MeetsAs words a ws = Meets words (built_fault a nothing_held ws) (entered a (walk a.top.rules (names_of a) nothing_held ws).stopped)

pub meets : (words : List Text) → AreUtf8 words → Meets words (fault_of set.line_app words) (subcommand_of set.line_app words)
meets words utf8 = subst (MeetsAs words (built set.line_app)) (sym (words_alone words)) (subst (λ (a : App). MeetsAs words a words) (sym built_line) (meets_built words utf8))
