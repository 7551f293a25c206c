-- The words behind a command, as `clap` takes them and as the definition does.
use Rattle.std.proofs.Common.{◌≡◌, ◌∙◌, Bool, true, false, List, [], ◌∷◌, drop, Option, Some, None, refl, sym, ap, ap₂, subst, inl, inr, append_assoc, append-nil}
use Rattle.std.specs.Bool.{⊤}
use Rattle.std.specs.Prelude.{option_map}
use Rattle.std.specs.Str.{bytes_eq, IsUtf8}
use Rattle.clap.specs.Words.{Row, Text}
use Rattle.clap.specs.Walk.{Waiting, idle, option, positional, Walk, walked, has_row, settled_rows, used}
use Rattle.clap.specs.Faults.{settle_fault, turn_fault}
use Rattle.clap.specs.Kinds.{Kinds, or_else}
use Rattle.clap.specs.Lexer.{long_of}
use Rattle.wc_cli.specs.Words.{Line, cut_word, is_option, is_long, value_of, are_of, line_from}
use Rattle.wc_cli.specs.Line as set
use Rattle.wc_cli.proofs.Lines.{operands_behind, option_behind, line_after, joined, read_on}
use Rattle.wc_cli.proofs.Rows.{known, fits_prefix, fits_unknown, fits_twice, fits_new}
use Rattle.wc_cli.proofs.Look.{IsLong, IsOther, Cut, cut, look}
use Rattle.wc_cli.proofs.Leaf.{Apart, apart_from, ready, ready_option, rules, at, held, Pending, after, end_rows, Says, Fate, Full, Stand, name_of, or_left, or_nil, filled_kinds, is_none, says_operand, says_option, has_option_row, first_use, second_use, option_use, settles_option, option_rows, settles_nothing}
use Rattle.wc_cli.proofs.Turns.{is_free, fault_attached, walk_attached, fault_named, walk_named, fault_unknown, fault_short, fault_operand, walk_operand, fault_value, walk_value, fault_end, walk_end, fault_trailing, walk_trailing, goes_on, rows_go_on, stops, nothing_behind, attached_fault}

abbrev pub AreUtf8 : List Text → Type 0
AreUtf8 [] = ⊤
AreUtf8 (w ∷ ws) = IsUtf8 w × AreUtf8 ws

some_is : {l m : Line} → Some l ≡ Some m → l ≡ m
some_is e = cc

none_some : {m : Line} → None ≡ Some m → ⊥
none_some e = cc

-- ---- what doesn't fit stays so

never : (names : List Text) (l : Line) (v : Option Text) (ws : List Text) → are_of names l.options ≡ false → (m : Line) → line_after l v ws ≡ Some m → are_of names m.options ≡ false
never names l v ws h m e = go (line_from v ws) (sym (read_on l v ws) ∙ e)
  where
    go : (r : Option Line) → option_map (joined l) r ≡ Some m → are_of names m.options ≡ false
    go None f = absurd (none_some f)
    go (Some k) f = subst (λ (x : Line). are_of names x.options ≡ false) (some_is f) (fits_prefix names l.options k.options h)

never_valued : (names : List Text) (l : Line) (n : Text) (ws : List Text) → known names n ≡ false → (m : Line) → line_after l (Some n) ws ≡ Some m → are_of names m.options ≡ false
never_valued names l n [] h m e = absurd (none_some e)
never_valued names l n (w ∷ ws) h m e = go (is_option w) refl
  where
    refused : is_option w ≡ true → line_after l (Some n) (w ∷ ws) ≡ None
    refused o = rw o refl

    valued : is_option w ≡ false → line_after l (Some n) (w ∷ ws) ≡ line_after (option_behind (n, w) l) None ws
    valued o = rw o refl

    go : (b : Bool) → is_option w ≡ b → are_of names m.options ≡ false
    go true o = absurd (none_some (sym (refused o) ∙ e))
    go false o = never names (option_behind (n, w) l) None ws (fits_unknown names n w l.options [] h) m (sym (valued o) ∙ e)

-- ---- fates

-- the fate of the words behind one that passes
passed : (name : Text) (names : List Text) (v u : Walk) (w : Text) (ws : List Text) (whole rest : Option Line) → turn_fault (ready name names) [] v w ≡ [] → walked (rules names) [] v w ≡ u
    → whole ≡ rest → Fate names (after name names u ws) (end_rows names u ws) rest → Fate names (after name names v (w ∷ ws)) (end_rows names v (w ∷ ws)) whole
passed name names v u w ws whole rest fault moves line fate =
    subst (λ (k : Kinds). Fate names k (end_rows names v (w ∷ ws)) whole) (sym (goes_on name names v u w ws fault moves))
    (subst (λ (r : List Row). Fate names (after name names u ws) r whole) (sym (rows_go_on names v u w ws moves))
    (subst (λ (l : Option Line). Fate names (after name names u ws) (end_rows names u ws) l) (sym line) fate))

-- a word that is refused
fails : (name : Text) (names : List Text) (v : Walk) (w : Text) (ws : List Text) (whole : Option Line) → (turn_fault (ready name names) [] v w ≡ [] → ⊥)
    → ((m : Line) → whole ≡ Some m → are_of names m.options ≡ false) → Fate names (after name names v (w ∷ ws)) (end_rows names v (w ∷ ws)) whole
fails name names v w ws whole fault unfit = inr (stops name names v w ws fault, unfit)

by_fault : (k f : Kinds) → k ≡ f → (f ≡ [] → ⊥) → k ≡ [] → ⊥
by_fault k f e h g = h (sym e ∙ g)

-- no words are left
ended : (name : Text) (names : List Text) (rows : List Row) (pending : Pending) (waiting : Waiting) (trailing : Bool) (l : Line) (whole : Option Line) → whole ≡ Some l → Full names rows pending l
    → Fate names (after name names (at rows pending waiting trailing) []) (end_rows names (at rows pending waiting trailing) []) whole
ended name names rows pending waiting trailing l whole line (inl full) = inl (l, nothing_behind name names (at rows pending waiting trailing) ∙ full.0, line, full.1, full.2)
ended name names rows pending waiting trailing l whole line (inr bad) =
    inr (λ e. bad.0 (sym (nothing_behind name names (at rows pending waiting trailing)) ∙ e), λ m f. subst (λ (x : Line). are_of names x.options ≡ false) (some_is (sym line ∙ f)) bad.1)

-- ---- what is taken

full_operand : (names : List Text) (rows : List Row) (pending : Pending) (l : Line) (w : Text) → are_of names l.options ≡ true → Says (settled_rows (rules names) pending rows) l
    → Full names (settled_rows (rules names) pending rows) (Some (set.operand_id, w ∷ [])) (operands_behind (w ∷ []) l)
full_operand names rows pending l w fits says = inl (refl, fits, says_operand (settled_rows (rules names) pending rows) l w says)

full_option : (names : List Text) (rows : List Row) (l : Line) (n v : Text) → known names n ≡ true → bytes_eq set.operand_id n ≡ false → are_of names l.options ≡ true → Says rows l
    → Full names rows (Some (n, v ∷ [])) (option_behind (n, v) l)
full_option names rows l n v k apart fits says = go (has_row n rows) refl
  where
    go : (b : Bool) → has_row n rows ≡ b → Full names rows (Some (n, v ∷ [])) (option_behind (n, v) l)
    go false e = inl (
      settles_option names n v rows k apart ∙ first_use n v rows e,
      fits_new names n v l.options fits k (is_none (value_of n l.options) (sym (has_option_row rows l n says apart) ∙ e)),
      subst (λ (t : List Row). Says t (option_behind (n, v) l)) (sym (option_rows names n v rows k apart)) (says_option rows l n v says apart e),
    )
    go true e = inr (
      by_fault _ _ (settles_option names n v rows k apart ∙ second_use n v rows e) filled_kinds,
      fits_twice names n v l.options [] (sym (has_option_row rows l n says apart) ∙ e),
    )

full_attached : (names : List Text) (rows : List Row) (l : Line) (n v : Text) → known names n ≡ true → bytes_eq set.operand_id n ≡ false → are_of names l.options ≡ true → Says rows l → has_row n rows ≡ false
    → Full names (used (ready_option n) (v ∷ []) rows) None (option_behind (n, v) l)
full_attached names rows l n v k apart fits says e =
    inl (refl, fits_new names n v l.options fits k (is_none (value_of n l.options) (sym (has_option_row rows l n says apart) ∙ e)), says_option rows l n v says apart e)

-- ---- behind `--`

pub trailing : (name : Text) (names : List Text) (ws : List Text) (rows : List Row) (pending : Pending) (waiting : Waiting) (l : Line) → Full names rows pending l
    → Fate names (after name names (at rows pending waiting true) ws) (end_rows names (at rows pending waiting true) ws) (Some (operands_behind ws l))
trailing name names [] rows pending waiting l full = ended name names rows pending waiting true l _ ends full
  where
    ends : Some (operands_behind [] l) ≡ Some l
    ends = ap (λ (t : List Text). Some (record { operands = t; options = l.options })) (append-nil l.operands)
trailing name names (w ∷ ws) rows pending waiting l (inl full) =
    passed name names (at rows pending waiting true) _ w ws _ (Some (operands_behind ws (operands_behind (w ∷ []) l))) (fault_trailing name names rows pending waiting w ∙ full.0) (walk_trailing names rows pending waiting w)
    (ap (λ (t : List Text). Some (record { operands = t; options = l.options })) (sym (append_assoc l.operands (w ∷ []) ws)))
    (trailing name names ws (settled_rows (rules names) pending rows) (Some (set.operand_id, w ∷ [])) positional (operands_behind (w ∷ []) l) (full_operand names rows pending l w full.1 full.2))
trailing name names (w ∷ ws) rows pending waiting l (inr bad) =
    fails name names (at rows pending waiting true) w ws _ (by_fault _ _ (fault_trailing name names rows pending waiting w) bad.0)
    (λ m e. subst (λ (x : Line). are_of names x.options ≡ false) (some_is e) bad.1)

-- an option that waits for its value gets none behind `--`
pub stuck : (name : Text) (names : List Text) (ws : List Text) (rows : List Row) (n : Text) (waiting : Waiting) → known names n ≡ true → bytes_eq set.operand_id n ≡ false
    → after name names (at rows (Some (n, [])) waiting true) ws ≡ [] → ⊥
stuck name names [] rows n waiting k apart = by_fault _ _ (nothing_behind name names (at rows (Some (n, [])) waiting true) ∙ settles_nothing names n rows k apart) filled_kinds
stuck name names (w ∷ ws) rows n waiting k apart =
    stops name names (at rows (Some (n, [])) waiting true) w ws (by_fault _ _ (fault_trailing name names rows (Some (n, [])) waiting w ∙ settles_nothing names n rows k apart) filled_kinds)

-- ---- the words before `--`

-- the fate of the words behind, from any place where a walk may stand
abbrev Onward : Text → List Text → List Text → Type 0
Onward name names ws = (rows : List Row) (pending : Pending) (waiting : Waiting) (l : Line) → Stand names rows pending l waiting
    → Fate names (after name names (at rows pending waiting false) ws) (end_rows names (at rows pending waiting false) ws) (line_after l (name_of waiting) ws)

attached_passes : (names : List Text) (rows : List Row) (pending : Pending) (n v : Text) → settle_fault (rules names) false (held rows pending) ≡ []
    → option_use n v (settled_rows (rules names) pending rows) ≡ [] → attached_fault names rows pending n v ≡ []
attached_passes names rows pending n v e f = ap₂ (λ (x y : Kinds). or_else (or_else x y) []) e f

attached_fails : (names : List Text) (rows : List Row) (pending : Pending) (n v : Text) → (settle_fault (rules names) false (held rows pending) ≡ [] → ⊥) → attached_fault names rows pending n v ≡ [] → ⊥
attached_fails names rows pending n v h e = h (or_left _ _ (or_left _ _ e))

second_fails : (names : List Text) (rows : List Row) (pending : Pending) (n v : Text) → has_row n (settled_rows (rules names) pending rows) ≡ true → attached_fault names rows pending n v ≡ [] → ⊥
second_fails names rows pending n v some e = filled_kinds (sym (second_use n v (settled_rows (rules names) pending rows) some) ∙ behind (settle_fault (rules names) false (held rows pending)) _ (or_left _ _ e))
  where
    behind : (x y : Kinds) → or_else x y ≡ [] → y ≡ []
    behind [] y f = f
    behind (k ∷ ks) y f = absurd (filled_kinds f)

-- an option with its value attached, where nothing waits
option_step : (name : Text) (names : List Text) → Apart names → (w : Text) (ws : List Text) → Onward name names ws → (rows : List Row) (pending : Pending) (waiting : Waiting) (l : Line) → is_free waiting ≡ true
    → Full names rows pending l → (n v : Text) → bytes_eq w (45 ∷ 45 ∷ []) ≡ false → long_of w ≡ Some (n, Some v) → line_after l None (w ∷ ws) ≡ line_after (option_behind (n, v) l) None ws → (b : Bool) → known names n ≡ b
    → Fate names (after name names (at rows pending waiting false) (w ∷ ws)) (end_rows names (at rows pending waiting false) (w ∷ ws)) (line_after l None (w ∷ ws))
option_step name names apart w ws next rows pending waiting l free full n v end long line false k =
    fails name names (at rows pending waiting false) w ws _ (by_fault _ _ (fault_unknown name names rows pending waiting w n (Some v) k end long) filled_kinds)
    (λ m e. never names (option_behind (n, v) l) None ws (fits_unknown names n v l.options [] k) m (sym line ∙ e))
option_step name names apart w ws next rows pending waiting l free (inr bad) n v end long line true k =
    fails name names (at rows pending waiting false) w ws _ (by_fault _ _ (fault_attached name names rows pending waiting w n v k end long) (attached_fails names rows pending n v bad.0))
    (λ m e. never names l None (w ∷ ws) bad.1 m e)
option_step name names apart w ws next rows pending waiting l free (inl full) n v end long line true k = go (has_row n (settled_rows (rules names) pending rows)) refl
  where
    other : bytes_eq set.operand_id n ≡ false
    other = apart_from names n apart k

    go : (b : Bool) → has_row n (settled_rows (rules names) pending rows) ≡ b
        → Fate names (after name names (at rows pending waiting false) (w ∷ ws)) (end_rows names (at rows pending waiting false) (w ∷ ws)) (line_after l None (w ∷ ws))
    go false e = passed name names (at rows pending waiting false) _ w ws _ _
        (fault_attached name names rows pending waiting w n v k end long ∙ attached_passes names rows pending n v full.0 (first_use n v (settled_rows (rules names) pending rows) e))
        (walk_attached names rows pending waiting w n v k end long) line
        (next (used (ready_option n) (v ∷ []) (settled_rows (rules names) pending rows)) None idle (option_behind (n, v) l)
        (full_attached names (settled_rows (rules names) pending rows) l n v k other full.1 full.2 e))
    go true e = fails name names (at rows pending waiting false) w ws _
        (by_fault _ _ (fault_attached name names rows pending waiting w n v k end long) (second_fails names rows pending n v e))
        (λ m f. never names (option_behind (n, v) l) None ws (fits_twice names n v l.options [] (sym (has_option_row (settled_rows (rules names) pending rows) l n full.2 other) ∙ e)) m (sym line ∙ f))

-- an option whose value is the next word
name_step : (name : Text) (names : List Text) → (w : Text) (ws : List Text) → Onward name names ws → (rows : List Row) (pending : Pending) (waiting : Waiting) (l : Line)
    → Full names rows pending l → (n : Text) → bytes_eq w (45 ∷ 45 ∷ []) ≡ false → long_of w ≡ Some (n, None) → line_after l None (w ∷ ws) ≡ line_after l (Some n) ws → (b : Bool) → known names n ≡ b
    → Fate names (after name names (at rows pending waiting false) (w ∷ ws)) (end_rows names (at rows pending waiting false) (w ∷ ws)) (line_after l None (w ∷ ws))
name_step name names w ws next rows pending waiting l full n end long line false k =
    fails name names (at rows pending waiting false) w ws _ (by_fault _ _ (fault_unknown name names rows pending waiting w n None k end long) filled_kinds)
    (λ m e. never_valued names l n ws k m (sym line ∙ e))
name_step name names w ws next rows pending waiting l (inr bad) n end long line true k =
    fails name names (at rows pending waiting false) w ws _ (by_fault _ _ (fault_named name names rows pending waiting w n k end long ∙ or_nil _) bad.0)
    (λ m e. never names l None (w ∷ ws) bad.1 m e)
name_step name names w ws next rows pending waiting l (inl full) n end long line true k =
    passed name names (at rows pending waiting false) _ w ws _ _ (fault_named name names rows pending waiting w n k end long ∙ or_nil _ ∙ full.0) (walk_named names rows pending waiting w n k end long) line
    (next (settled_rows (rules names) pending rows) (Some (n, [])) (option n) l (refl, k, full.1, full.2))

-- ---- how a line goes on with a word

line_ends : (l : Line) (w : Text) (ws : List Text) → bytes_eq w (45 ∷ 45 ∷ []) ≡ true → line_after l None (w ∷ ws) ≡ Some (operands_behind ws l)
line_ends l w ws e = rw e refl

line_attached : (l : Line) (w : Text) (ws : List Text) (p : Text × Text) → bytes_eq w (45 ∷ 45 ∷ []) ≡ false → is_long w ≡ true → cut_word (drop 2 w) ≡ Some p
    → line_after l None (w ∷ ws) ≡ line_after (option_behind p l) None ws
line_attached l w ws p e long c = rw (e, long, c) refl

line_named : (l : Line) (w : Text) (ws : List Text) → bytes_eq w (45 ∷ 45 ∷ []) ≡ false → is_long w ≡ true → cut_word (drop 2 w) ≡ None → line_after l None (w ∷ ws) ≡ line_after l (Some (drop 2 w)) ws
line_named l w ws e long c = rw (e, long, c) refl

line_short : (l : Line) (w : Text) (ws : List Text) → bytes_eq w (45 ∷ 45 ∷ []) ≡ false → is_long w ≡ false → is_option w ≡ true → line_after l None (w ∷ ws) ≡ None
line_short l w ws e long o = rw (e, long, o) refl

line_operand : (l : Line) (w : Text) (ws : List Text) → bytes_eq w (45 ∷ 45 ∷ []) ≡ false → is_long w ≡ false → is_option w ≡ false → line_after l None (w ∷ ws) ≡ line_after (operands_behind (w ∷ []) l) None ws
line_operand l w ws e long o = rw (e, long, o) refl

line_unvalued : (l : Line) (n w : Text) (ws : List Text) → is_option w ≡ true → line_after l (Some n) (w ∷ ws) ≡ None
line_unvalued l n w ws o = rw o refl

line_valued : (l : Line) (n w : Text) (ws : List Text) → is_option w ≡ false → line_after l (Some n) (w ∷ ws) ≡ line_after (option_behind (n, w) l) None ws
line_valued l n w ws o = rw o refl

-- ---- a word where nothing waits

free_step : (name : Text) (names : List Text) → Apart names → (w : Text) (ws : List Text) → IsUtf8 w → Onward name names ws → (rows : List Row) (pending : Pending) (waiting : Waiting) (l : Line) → is_free waiting ≡ true
    → Full names rows pending l → Fate names (after name names (at rows pending waiting false) (w ∷ ws)) (end_rows names (at rows pending waiting false) (w ∷ ws)) (line_after l None (w ∷ ws))
free_step name names apart w ws utf8 next rows pending waiting l free full = elim (look w utf8) [
  | inl end ↦ passed name names (at rows pending waiting false) _ w ws _ _ (fault_end name names rows pending waiting w end.0) (walk_end names rows pending waiting w end.0) (line_ends l w ws end.0)
      (trailing name names ws rows pending waiting l full)
  | inr (inl long) ↦ long_word long (cut (drop 2 w))
  | inr (inr (inl short)) ↦ fails name names (at rows pending waiting false) w ws _
      (by_fault _ _ (fault_short name names rows pending waiting w short.4.0 short.4.1 short.4.2 short.0 short.3 short.4.3 short.4.4) filled_kinds)
      (λ m e. absurd (none_some (sym (line_short l w ws short.0 short.1 short.2) ∙ e)))
  | inr (inr (inr other)) ↦ operand_word other full
]
  where
    Goal : Type 0
    Goal = Fate names (after name names (at rows pending waiting false) (w ∷ ws)) (end_rows names (at rows pending waiting false) (w ∷ ws)) (line_after l None (w ∷ ws))

    long_word : IsLong w → Cut (drop 2 w) → Goal
    long_word long (inl c) = option_step name names apart w ws next rows pending waiting l free full c.0.0 c.0.1 long.0 (long.3 ∙ ap Some c.2) (line_attached l w ws c.0 long.0 long.1 c.1) (known names c.0.0) refl
    long_word long (inr c) = name_step name names w ws next rows pending waiting l full (drop 2 w) long.0 (long.3 ∙ ap Some c.1) (line_named l w ws long.0 long.1 c.0) (known names (drop 2 w)) refl

    operand_word : IsOther w → Full names rows pending l → Goal
    operand_word other (inr bad) = fails name names (at rows pending waiting false) w ws _ (by_fault _ _ (fault_operand name names rows pending waiting w free other.0 other.3 other.4) bad.0)
        (λ m e. never names l None (w ∷ ws) bad.1 m e)
    operand_word other (inl good) = passed name names (at rows pending waiting false) _ w ws _ _ (fault_operand name names rows pending waiting w free other.0 other.3 other.4 ∙ good.0)
        (walk_operand names rows pending waiting w free other.0 other.3 other.4) (line_operand l w ws other.0 other.1 other.2)
        (next (settled_rows (rules names) pending rows) (Some (set.operand_id, w ∷ [])) positional (operands_behind (w ∷ []) l) (full_operand names rows pending l w good.1 good.2))

-- ---- a word where an option waits for its value

wait_step : (name : Text) (names : List Text) → Apart names → (w : Text) (ws : List Text) → IsUtf8 w → Onward name names ws → (rows : List Row) (n : Text) (l : Line)
    → known names n ≡ true → are_of names l.options ≡ true → Says rows l
    → Fate names (after name names (at rows (Some (n, [])) (option n) false) (w ∷ ws)) (end_rows names (at rows (Some (n, [])) (option n) false) (w ∷ ws)) (line_after l (Some n) (w ∷ ws))
wait_step name names apart w ws utf8 next rows n l k fits says = elim (look w utf8) [
  | inl end ↦ inr (
    λ e. stuck name names ws rows n (option n) k other
        (sym (goes_on name names (at rows (Some (n, [])) (option n) false) _ w ws (fault_end name names rows (Some (n, [])) (option n) w end.0) (walk_end names rows (Some (n, [])) (option n) w end.0)) ∙ e),
    λ m e. absurd (none_some (sym (line_unvalued l n w ws end.1) ∙ e)),
  )
  | inr (inl long) ↦ fails name names (at rows (Some (n, [])) (option n) false) w ws _ (long_fails long (cut (drop 2 w))) (λ m e. absurd (none_some (sym (line_unvalued l n w ws long.2) ∙ e)))
  | inr (inr (inl short)) ↦ fails name names (at rows (Some (n, [])) (option n) false) w ws _
      (by_fault _ _ (fault_short name names rows (Some (n, [])) (option n) w short.4.0 short.4.1 short.4.2 short.0 short.3 short.4.3 short.4.4) filled_kinds)
      (λ m e. absurd (none_some (sym (line_unvalued l n w ws short.2) ∙ e)))
  | inr (inr (inr plain)) ↦ passed name names (at rows (Some (n, [])) (option n) false) _ w ws _ _ (fault_value name names rows (Some (n, [])) n w plain.0 plain.3 plain.4)
      (walk_value names rows n w k other plain.0 plain.3 plain.4) (line_valued l n w ws plain.2)
      (next rows (Some (n, w ∷ [])) idle (option_behind (n, w) l) (full_option names rows l n w k other fits says))
]
  where
    other : bytes_eq set.operand_id n ≡ false
    other = apart_from names n apart k

    unsettled : settle_fault (rules names) false (held rows (Some (n, []))) ≡ [] → ⊥
    unsettled = by_fault _ _ (settles_nothing names n rows k other) filled_kinds

    attached : (m v : Text) (b : Bool) → known names m ≡ b → bytes_eq w (45 ∷ 45 ∷ []) ≡ false → long_of w ≡ Some (m, Some v) → turn_fault (ready name names) [] (at rows (Some (n, [])) (option n) false) w ≡ [] → ⊥
    attached m v true known_m end long = by_fault _ _ (fault_attached name names rows (Some (n, [])) (option n) w m v known_m end long) (attached_fails names rows (Some (n, [])) m v unsettled)
    attached m v false known_m end long = by_fault _ _ (fault_unknown name names rows (Some (n, [])) (option n) w m (Some v) known_m end long) filled_kinds

    named : (m : Text) (b : Bool) → known names m ≡ b → bytes_eq w (45 ∷ 45 ∷ []) ≡ false → long_of w ≡ Some (m, None) → turn_fault (ready name names) [] (at rows (Some (n, [])) (option n) false) w ≡ [] → ⊥
    named m true known_m end long = by_fault _ _ (fault_named name names rows (Some (n, [])) (option n) w m known_m end long ∙ or_nil _) unsettled
    named m false known_m end long = by_fault _ _ (fault_unknown name names rows (Some (n, [])) (option n) w m None known_m end long) filled_kinds

    long_fails : IsLong w → Cut (drop 2 w) → turn_fault (ready name names) [] (at rows (Some (n, [])) (option n) false) w ≡ [] → ⊥
    long_fails long (inl c) = attached c.0.0 c.0.1 (known names c.0.0) refl long.0 (long.3 ∙ ap Some c.2)
    long_fails long (inr c) = named (drop 2 w) (known names (drop 2 w)) refl long.0 (long.3 ∙ ap Some c.1)

-- ---- all words

pub onward : (name : Text) (names : List Text) → Apart names → (ws : List Text) → AreUtf8 ws → Onward name names ws
onward name names apart [] utf8 rows pending idle l stand = ended name names rows pending idle false l _ refl stand
onward name names apart [] utf8 rows pending positional l stand = ended name names rows pending positional false l _ refl stand
onward name names apart [] utf8 rows pending (option n) l stand =
    inr (
      by_fault _ _ (nothing_behind name names (at rows pending (option n) false) ∙ ap (λ (p : Pending). settle_fault (rules names) false (held rows p)) stand.0
          ∙ settles_nothing names n rows stand.1 (apart_from names n apart stand.1)) filled_kinds,
      λ m e. absurd (none_some e),
    )
onward name names apart (w ∷ ws) utf8 rows pending idle l stand = free_step name names apart w ws utf8.0 (onward name names apart ws utf8.1) rows pending idle l refl stand
onward name names apart (w ∷ ws) utf8 rows pending positional l stand = free_step name names apart w ws utf8.0 (onward name names apart ws utf8.1) rows pending positional l refl stand
onward name names apart (w ∷ ws) utf8 rows pending (option n) l stand =
    subst (λ (p : Pending). Fate names (after name names (at rows p (option n) false) (w ∷ ws)) (end_rows names (at rows p (option n) false) (w ∷ ws)) (line_after l (Some n) (w ∷ ws))) (sym stand.0)
    (wait_step name names apart w ws utf8.0 (onward name names apart ws utf8.1) rows n l stand.1 stand.2 stand.3)
