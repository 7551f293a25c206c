-- One more word, as `clap` takes it.
use Rattle.std.proofs.Common.{◌≡◌, ◌∙◌, ℕ, Bool, true, false, List, [], ◌∷◌, Option, Some, None, refl, ap}
use Rattle.std.specs.Prelude.{slice_get}
use Rattle.std.specs.Str.{bytes_eq, chars}
use Rattle.clap.specs.Words.{Row, Text}
use Rattle.clap.specs.Walk.{Waiting, idle, option, positional, Walk, walked, settled_rows, used, is_pending}
use Rattle.clap.specs.Faults.{settle_fault, use_fault, turn_fault, walk_fault, flags_fault}
use Rattle.clap.specs.Kinds.{Kinds, or_else}
use Rattle.clap.specs.Lexer.{long_of, short_of}
use Rattle.clap.specs.declared.error.kind.ErrorKind.TheVariants as kind
use Rattle.wc_cli.specs.Line as set
use Rattle.wc_cli.proofs.Rows.{known, itself}
use Rattle.wc_cli.proofs.Leaf.{ready, ready_option, ready_operands, rules, at, held, Pending, long_rule, no_long_rule, no_short, by_id, or_left, and_false, after, end_rows, walked_on}

abbrev pub IsNoEnd : Text → Type 0
IsNoEnd w = bytes_eq w (45 ∷ 45 ∷ []) ≡ false

abbrev pub turn : Text → List Text → List Row → Pending → Waiting → Bool → Text → Kinds
turn name names rows pending waiting trailing w = turn_fault (ready name names) [] (at rows pending waiting trailing) w

abbrev pub step : List Text → List Row → Pending → Waiting → Bool → Text → Walk
step names rows pending waiting trailing w = walked (rules names) [] (at rows pending waiting trailing) w

-- ---- `--name=value`

abbrev pub attached_fault : List Text → List Row → Pending → Text → Text → Kinds
attached_fault names rows pending n v =
    or_else (or_else (settle_fault (rules names) false (held rows pending)) (use_fault false (ready_option n) (v ∷ []) (settled_rows (rules names) pending rows))) []

pub fault_attached : (name : Text) (names : List Text) (rows : List Row) (pending : Pending) (waiting : Waiting) (w n v : Text) → known names n ≡ true → IsNoEnd w → long_of w ≡ Some (n, Some v)
    → turn name names rows pending waiting false w ≡ attached_fault names rows pending n v
fault_attached name names rows pending idle w n v k end long = rw (end, long, long_rule names n k) refl
fault_attached name names rows pending positional w n v k end long = rw (end, long, long_rule names n k) refl
fault_attached name names rows pending (option m) w n v k end long = rw (end, long, long_rule names n k) refl

pub walk_attached : (names : List Text) (rows : List Row) (pending : Pending) (waiting : Waiting) (w n v : Text) → known names n ≡ true → IsNoEnd w → long_of w ≡ Some (n, Some v)
    → step names rows pending waiting false w ≡ at (used (ready_option n) (v ∷ []) (settled_rows (rules names) pending rows)) None idle false
unfolding walked
walk_attached names rows pending idle w n v k end long = rw (end, long, long_rule names n k) refl
walk_attached names rows pending positional w n v k end long = rw (end, long, long_rule names n k) refl
walk_attached names rows pending (option m) w n v k end long = rw (end, long, long_rule names n k) refl

-- ---- `--name`

pub fault_named : (name : Text) (names : List Text) (rows : List Row) (pending : Pending) (waiting : Waiting) (w n : Text) → known names n ≡ true → IsNoEnd w → long_of w ≡ Some (n, None)
    → turn name names rows pending waiting false w ≡ or_else (settle_fault (rules names) false (held rows pending)) []
fault_named name names rows pending idle w n k end long = rw (end, long, long_rule names n k) refl
fault_named name names rows pending positional w n k end long = rw (end, long, long_rule names n k) refl
fault_named name names rows pending (option m) w n k end long = rw (end, long, long_rule names n k) refl

pub walk_named : (names : List Text) (rows : List Row) (pending : Pending) (waiting : Waiting) (w n : Text) → known names n ≡ true → IsNoEnd w → long_of w ≡ Some (n, None)
    → step names rows pending waiting false w ≡ at (settled_rows (rules names) pending rows) (Some (n, [])) (option n) false
unfolding walked
walk_named names rows pending idle w n k end long = rw (end, long, long_rule names n k) refl
walk_named names rows pending positional w n k end long = rw (end, long, long_rule names n k) refl
walk_named names rows pending (option m) w n k end long = rw (end, long, long_rule names n k) refl

-- ---- words that are refused

pub fault_unknown : (name : Text) (names : List Text) (rows : List Row) (pending : Pending) (waiting : Waiting) (w n : Text) (v : Option Text) → known names n ≡ false → IsNoEnd w → long_of w ≡ Some (n, v)
    → turn name names rows pending waiting false w ≡ kind.UnknownArgument ∷ []
fault_unknown name names rows pending idle w n v k end long = rw (end, long, no_long_rule names n k) refl
fault_unknown name names rows pending positional w n v k end long = rw (end, long, no_long_rule names n k) refl
fault_unknown name names rows pending (option m) w n v k end long = rw (end, long, no_long_rule names n k) refl

pub fault_short : (name : Text) (names : List Text) (rows : List Row) (pending : Pending) (waiting : Waiting) (w : Text) (b : ℕ) (bs : Text) (x : ℕ) → IsNoEnd w → long_of w ≡ None
    → short_of w ≡ Some (b ∷ bs) → slice_get (chars (b ∷ bs)) 0 ≡ Some x → turn name names rows pending waiting false w ≡ kind.UnknownArgument ∷ []
unfolding flags_fault
fault_short name names rows pending idle w b bs x end long short char = rw (end, long, short, char, no_short names x) refl
fault_short name names rows pending positional w b bs x end long short char = rw (end, long, short, char, no_short names x) refl
fault_short name names rows pending (option m) w b bs x end long short char = rw (end, long, short, char, no_short names x) refl

-- ---- an operand

abbrev pub is_free : Waiting → Bool
is_free (option n) = false
is_free _ = true

pub fault_operand : (name : Text) (names : List Text) (rows : List Row) (pending : Pending) (waiting : Waiting) (w : Text) → is_free waiting ≡ true → IsNoEnd w → long_of w ≡ None → short_of w ≡ None
    → turn name names rows pending waiting false w ≡ settle_fault (rules names) false (held rows pending)
fault_operand name names rows pending idle w free end long short = rw (end, long, short, and_false (is_pending ready_operands pending)) refl
fault_operand name names rows pending positional w free end long short = rw (end, long, short, and_false (is_pending ready_operands pending)) refl
fault_operand name names rows pending (option m) w free end long short = absurd (cc (free))

pub walk_operand : (names : List Text) (rows : List Row) (pending : Pending) (waiting : Waiting) (w : Text) → is_free waiting ≡ true → IsNoEnd w → long_of w ≡ None → short_of w ≡ None
    → step names rows pending waiting false w ≡ at (settled_rows (rules names) pending rows) (Some (set.operand_id, w ∷ [])) positional false
unfolding walked
walk_operand names rows pending idle w free end long short = rw (end, long, short, and_false (is_pending ready_operands pending)) refl
walk_operand names rows pending positional w free end long short = rw (end, long, short, and_false (is_pending ready_operands pending)) refl
walk_operand names rows pending (option m) w free end long short = absurd (cc (free))

-- ---- the value of an option that is the word before it

pub fault_value : (name : Text) (names : List Text) (rows : List Row) (pending : Pending) (n w : Text) → IsNoEnd w → long_of w ≡ None → short_of w ≡ None
    → turn name names rows pending (option n) false w ≡ []
fault_value name names rows pending n w end long short = rw (end, long, short) refl

pub walk_value : (names : List Text) (rows : List Row) (n w : Text) → known names n ≡ true → bytes_eq set.operand_id n ≡ false → IsNoEnd w → long_of w ≡ None → short_of w ≡ None
    → step names rows (Some (n, [])) (option n) false w ≡ at rows (Some (n, w ∷ [])) idle false
unfolding walked
walk_value names rows n w k apart end long short = rw (end, long, short, by_id names n k apart, itself n) refl

-- ---- `--`, and behind it

pub fault_end : (name : Text) (names : List Text) (rows : List Row) (pending : Pending) (waiting : Waiting) (w : Text) → bytes_eq w (45 ∷ 45 ∷ []) ≡ true → turn name names rows pending waiting false w ≡ []
fault_end name names rows pending idle w end = rw end refl
fault_end name names rows pending positional w end = rw end refl
fault_end name names rows pending (option m) w end = rw end refl

pub walk_end : (names : List Text) (rows : List Row) (pending : Pending) (waiting : Waiting) (w : Text) → bytes_eq w (45 ∷ 45 ∷ []) ≡ true
    → step names rows pending waiting false w ≡ at rows pending waiting true
unfolding walked
walk_end names rows pending idle w end = rw end refl
walk_end names rows pending positional w end = rw end refl
walk_end names rows pending (option m) w end = rw end refl

pub fault_trailing : (name : Text) (names : List Text) (rows : List Row) (pending : Pending) (waiting : Waiting) (w : Text)
    → turn name names rows pending waiting true w ≡ settle_fault (rules names) false (held rows pending)
fault_trailing name names rows pending waiting w = rw (and_false (is_pending ready_operands pending)) refl

pub walk_trailing : (names : List Text) (rows : List Row) (pending : Pending) (waiting : Waiting) (w : Text)
    → step names rows pending waiting true w ≡ at (settled_rows (rules names) pending rows) (Some (set.operand_id, w ∷ [])) positional true
unfolding walked
walk_trailing names rows pending waiting w = rw (and_false (is_pending ready_operands pending)) refl

-- ---- a word and those behind it

pub goes_on : (name : Text) (names : List Text) (v u : Walk) (w : Text) (ws : List Text) → turn_fault (ready name names) [] v w ≡ [] → walked (rules names) [] v w ≡ u
    → after name names v (w ∷ ws) ≡ after name names u ws
unfolding walk_fault
goes_on name names v u w ws fault moves =
    ap (λ (k : Kinds). or_else (or_else k (walk_fault (ready name names) [] (walked (rules names) [] v w) ws)) (settle_fault (rules names) false (walked_on names (walked (rules names) [] v w) ws).held)) fault
    ∙ ap (λ (x : Walk). after name names x ws) moves

pub rows_go_on : (names : List Text) (v u : Walk) (w : Text) (ws : List Text) → walked (rules names) [] v w ≡ u → end_rows names v (w ∷ ws) ≡ end_rows names u ws
rows_go_on names v u w ws moves = ap (λ (x : Walk). end_rows names x ws) moves

pub stops : (name : Text) (names : List Text) (v : Walk) (w : Text) (ws : List Text) → (turn_fault (ready name names) [] v w ≡ [] → ⊥) → after name names v (w ∷ ws) ≡ [] → ⊥
unfolding walk_fault
stops name names v w ws fails e = fails (or_left _ _ (or_left _ _ e))

pub nothing_behind : (name : Text) (names : List Text) (v : Walk) → after name names v [] ≡ settle_fault (rules names) false v.held
unfolding walk_fault
nothing_behind name names v = refl
