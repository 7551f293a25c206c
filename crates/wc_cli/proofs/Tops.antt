-- All words of a command line, as `clap` takes them and as the definition does.
use Rattle.std.proofs.Common.{◌≡◌, ◌∙◌, Bool, true, false, ◌||◌, List, [], ◌∷◌, ◌++◌, map, Option, Some, None, refl, sym, ap, subst, codes, true≢false, inl, append_assoc, append-nil}
use Rattle.std.specs.Prelude.{is_some, find, fold}
use Rattle.std.specs.Str.{bytes_eq}
use Rattle.clap.specs.Words.{App, Row, Shape, Text}
use Rattle.clap.specs.Walk.{Names, idle, Walk, walked, walk, walk_from, with_default, finished, settled, nothing_held, rows_after, has_row, answers_to}
use Rattle.clap.specs.Simple.{new_shape, label_of, names_of, entered}
use Rattle.clap.specs.Faults.{settle_fault, turn_fault, walk_fault, level_fault, defaults_fault, check_fault, built_fault, entered_fault}
use Rattle.clap.specs.Kinds.{Kinds, or_else}
use Rattle.wc_cli.specs.Table.{options_of}
use Rattle.wc_cli.specs.Words.{Line, line_of, operands_alone}
use Rattle.wc_cli.specs.Line as set
use Rattle.wc_cli.proofs.Lines.{read_whole}
use Rattle.wc_cli.proofs.Rows.{known, same_text, turned}
use Rattle.wc_cli.proofs.Leaf.{Apart, ready, ready_option, ready_operands, rules, at, after, end_rows, Fate, or_nil, and_false}
use Rattle.wc_cli.proofs.Walks.{AreUtf8, onward}

-- ---- the end of a command

or_true : (b : Bool) → (b || true) ≡ true
or_true true = refl
or_true false = refl

default_same : (rows : List Row) (name : Text) → with_default rows (ready_option name) ≡ rows
default_same rows name = go (has_row name rows) refl
  where
    go : (b : Bool) → has_row name rows ≡ b → with_default rows (ready_option name) ≡ rows
    go true e = rw e refl
    go false e = rw e refl

no_default : (rows : List Row) (names : List Text) → defaults_fault rows (map ready_option names) ≡ []
unfolding defaults_fault
no_default rows [] = refl
no_default rows (name ∷ names) =
    rw (or_true (has_row name rows)) (ap (λ (r : List Row). defaults_fault r (map ready_option names)) (default_same rows name) ∙ no_default rows names)

no_defaults : (rows : List Row) (names : List Text) → defaults_fault rows (rules names) ≡ []
unfolding defaults_fault
no_defaults rows names = go (has_row set.operand_id rows) refl
  where
    go : (b : Bool) → has_row set.operand_id rows ≡ b → defaults_fault rows (rules names) ≡ []
    go true e = rw e (no_default rows names)
    go false e = rw e (no_default rows names)

rows_stay : (rows : List Row) (names : List Text) → fold with_default rows (map ready_option names) ≡ rows
rows_stay rows [] = refl
rows_stay rows (name ∷ names) = ap (λ (r : List Row). fold with_default r (map ready_option names)) (default_same rows name) ∙ rows_stay rows names

operands_same : (rows : List Row) → with_default rows ready_operands ≡ rows
operands_same rows = go (has_row set.operand_id rows) refl
  where
    go : (b : Bool) → has_row set.operand_id rows ≡ b → with_default rows ready_operands ≡ rows
    go true e = rw e refl
    go false e = rw e refl

all_rows_stay : (rows : List Row) (names : List Text) → fold with_default rows (rules names) ≡ rows
all_rows_stay rows names = ap (λ (r : List Row). fold with_default r (map ready_option names)) (operands_same rows) ∙ rows_stay rows names

nothing_required : (name : Text) (names : List Text) (rows : List Row) → check_fault (ready name names) rows false ≡ []
nothing_required name [] rows = refl
nothing_required name (n ∷ names) rows = nothing_required name names rows

-- ---- the words behind a command

pub leaf : (name : Text) (names : List Text) → Apart names → (ws : List Text) → AreUtf8 ws
    → Fate names (level_fault (ready name names) [] nothing_held ws false []) (rows_after (rules names) [] ws) (line_of ws)
leaf name names apart ws utf8 =
    subst (λ (k : Kinds). Fate names k (rows_after (rules names) [] ws) (line_of ws)) (sym fault)
    (subst (λ (r : List Row). Fate names (after name names (at [] None idle false) ws) r (line_of ws)) (sym rows)
    (subst (λ (l : Option Line). Fate names (after name names (at [] None idle false) ws) (end_rows names (at [] None idle false) ws) l) (read_whole ws)
    (onward name names apart ws utf8 [] None idle (operands_alone []) (inl (refl, refl, (refl, λ n other. refl))))))
  where
    end : Walk
    end = fold (walked (rules names) []) (at [] None idle false) ws

    tail : or_else (defaults_fault (settled (rules names) end.held).rows (rules names)) (check_fault (ready name names) (finished (rules names) end.held) false) ≡ []
    tail = ap (λ (k : Kinds). or_else k (check_fault (ready name names) (finished (rules names) end.held) false)) (no_defaults (settled (rules names) end.held).rows names)
        ∙ nothing_required name names (finished (rules names) end.held)

    fault : level_fault (ready name names) [] nothing_held ws false [] ≡ after name names (at [] None idle false) ws
    fault = ap (λ (k : Kinds). or_else (walk_fault (ready name names) [] (at [] None idle false) ws) (or_else (settle_fault (rules names) false end.held) k)) tail
        ∙ ap (or_else (walk_fault (ready name names) [] (at [] None idle false) ws)) (or_nil (settle_fault (rules names) false end.held))

    rows : rows_after (rules names) [] ws ≡ end_rows names (at [] None idle false) ws
    rows = all_rows_stay (settled (rules names) end.held).rows names

-- ---- the command

abbrev pub top : Shape
top = record (new_shape (codes "wc")) {
  is_leaf = false;
  no_binary_name = true;
  disable_help_flag = true;
  disable_help_subcommand = true;
  disable_version_flag = true;
  subcommand_required = true;
  is_built = true;
}

abbrev pub sub : Text → Shape
sub name = ready name (options_of name)

abbrev pub ready_app : List Text → App
ready_app commands = record { top = top; subs = map sub commands }

abbrev pub names : List Text → Names
names commands = names_of (ready_app commands)

name_found : (commands : List Text) (word : Text) → known commands word ≡ true → find (answers_to word) (names commands) ≡ Some (word, [])
name_found [] word k = absurd (true≢false (sym k))
name_found (name ∷ rest) word k = go (bytes_eq word name) refl (name_found rest word)
  where
    go : (b : Bool) → bytes_eq word name ≡ b → (known rest word ≡ true → find (answers_to word) (names rest) ≡ Some (word, [])) → find (answers_to word) (names (name ∷ rest)) ≡ Some (word, [])
    go true e more = rw (turned name word ∙ e) (ap (λ (x : Text). Some (x, [])) (sym (same_text word name e)))
    go false e more = rw (turned name word ∙ e) (more (sym (ap (λ (x : Bool). x || known rest word) e) ∙ k))

pub name_unknown : (commands : List Text) (word : Text) → known commands word ≡ false → find (answers_to word) (names commands) ≡ None
name_unknown [] word k = refl
name_unknown (name ∷ rest) word k = go (bytes_eq word name) refl (name_unknown rest word)
  where
    go : (b : Bool) → bytes_eq word name ≡ b → (known rest word ≡ false → find (answers_to word) (names rest) ≡ None) → find (answers_to word) (names (name ∷ rest)) ≡ None
    go true e more = absurd (true≢false (sym (ap (λ (x : Bool). x || known rest word) e) ∙ k))
    go false e more = rw (turned name word ∙ e) (more (sym (ap (λ (x : Bool). x || known rest word) e) ∙ k))

sub_found : (commands : List Text) (word : Text) → known commands word ≡ true → find (λ s. answers_to word (label_of s)) (map sub commands) ≡ Some (sub word)
sub_found [] word k = absurd (true≢false (sym k))
sub_found (name ∷ rest) word k = go (bytes_eq word name) refl (sub_found rest word)
  where
    go : (b : Bool) → bytes_eq word name ≡ b → (known rest word ≡ true → find (λ s. answers_to word (label_of s)) (map sub rest) ≡ Some (sub word))
        → find (λ s. answers_to word (label_of s)) (map sub (name ∷ rest)) ≡ Some (sub word)
    go true e more = rw (turned name word ∙ e) (ap (λ (x : Text). Some (sub x)) (sym (same_text word name e)))
    go false e more = rw (turned name word ∙ e) (more (sym (ap (λ (x : Bool). x || known rest word) e) ∙ k))

-- the walk has met a command, with these words behind it
abbrev stopped_at : Text → List Text → Walk
stopped_at word us = record { held = nothing_held; waiting = idle; position = 1; is_trailing = false; stopped = Some (word, us) }

passes_over : (ns : Names) (word : Text) (us ws : List Text) → fold (walked [] ns) (stopped_at word us) ws ≡ stopped_at word (us ++ ws)
unfolding walked
passes_over ns word us [] = ap (stopped_at word) (sym (append-nil us))
passes_over ns word us (w ∷ ws) = passes_over ns word (us ++ w ∷ []) ws ∙ ap (stopped_at word) (append_assoc us (w ∷ []) ws)

no_fault_behind : (ns : Names) (word : Text) (us ws : List Text) → walk_fault top ns (stopped_at word us) ws ≡ []
unfolding walked walk_fault
no_fault_behind ns word us [] = refl
no_fault_behind ns word us (w ∷ ws) = no_fault_behind ns word (us ++ w ∷ []) ws

meets : (commands : List Text) (word : Text) → known commands word ≡ true → walked [] (names commands) (walk_from nothing_held) word ≡ stopped_at word []
unfolding walked
meets commands word k = rw (name_found commands word k) refl

meets_well : (commands : List Text) (word : Text) → known commands word ≡ true → turn_fault top (names commands) (walk_from nothing_held) word ≡ []
meets_well commands word k = rw (name_found commands word k, and_false (bytes_eq word (codes "help"))) refl

walk_of_all : (commands : List Text) (word : Text) (ws : List Text) → known commands word ≡ true → walk [] (names commands) nothing_held (word ∷ ws) ≡ stopped_at word ws
walk_of_all commands word ws k = ap (λ (w : Walk). fold (walked [] (names commands)) w ws) (meets commands word k) ∙ passes_over (names commands) word [] ws

well_before : (commands : List Text) (word : Text) (ws : List Text) → known commands word ≡ true → walk_fault top (names commands) (walk_from nothing_held) (word ∷ ws) ≡ []
unfolding walk_fault
well_before commands word ws k =
    ap (λ (t : Kinds). or_else t (walk_fault top (names commands) (walked [] (names commands) (walk_from nothing_held) word) ws)) (meets_well commands word k)
    ∙ ap (λ (w : Walk). walk_fault top (names commands) w ws) (meets commands word k) ∙ no_fault_behind (names commands) word [] ws

abbrev pub fault_at : List Text → Kinds → Walk → Kinds
fault_at commands before w = or_else before (or_else (entered_fault (ready_app commands) w.stopped) (or_else (settle_fault [] false w.held)
    (or_else (defaults_fault (settled [] w.held).rows []) (check_fault top (finished [] w.held) (is_some (entered (ready_app commands) w.stopped))))))

entered_there : (commands : List Text) (word : Text) (ws : List Text) → known commands word ≡ true → fault_at commands [] (stopped_at word ws) ≡ level_fault (sub word) [] nothing_held ws false []
unfolding defaults_fault
entered_there commands word ws k = rw (sub_found commands word k) (or_nil _)

pub fault_of_command : (commands : List Text) (word : Text) (ws : List Text) → known commands word ≡ true
    → built_fault (ready_app commands) nothing_held (word ∷ ws) ≡ level_fault (sub word) [] nothing_held ws false []
fault_of_command commands word ws k =
    ap (λ (w : Walk). fault_at commands (walk_fault top (names commands) (walk_from nothing_held) (word ∷ ws)) w) (walk_of_all commands word ws k)
    ∙ ap (λ (b : Kinds). fault_at commands b (stopped_at word ws)) (well_before commands word ws k) ∙ entered_there commands word ws k

pub rows_of_command : (commands : List Text) (word : Text) (ws : List Text) → known commands word ≡ true
    → entered (ready_app commands) (walk [] (names commands) nothing_held (word ∷ ws)).stopped ≡ Some (word, rows_after (rules (options_of word)) [] ws)
rows_of_command commands word ws k =
    ap (λ (w : Walk). entered (ready_app commands) w.stopped) (walk_of_all commands word ws k) ∙ here
  where
    here : entered (ready_app commands) (Some (word, ws)) ≡ Some (word, rows_after (rules (options_of word)) [] ws)
    here = rw (sub_found commands word k) refl
