-- A line that is read word by word is the line of the words.
use Rattle.std.proofs.Common.{◌≡◌, ◌∙◌, ℕ, Bool, true, false, not, ◌&&◌, List, [], ◌∷◌, ◌++◌, drop, Option, Some, None, if◌then◌else◌, refl, sym, ap, append-nil, append_assoc}
use Rattle.std.specs.Prelude.{is_some, option_map, option_and_then}
use Rattle.wc_cli.specs.Words.{Line, cut_word, is_option, ends_options, is_long, operands_alone, with_operand, with_option, long_line, line_from, line_of}

-- operands behind those of a line
abbrev pub operands_behind : List (List ℕ) → Line → Line
operands_behind ws l = record { operands = l.operands ++ ws; options = l.options }

-- an option behind those of a line
abbrev pub option_behind : List ℕ × List ℕ → Line → Line
option_behind o l = record { operands = l.operands; options = l.options ++ o ∷ [] }

-- behind `--name=value`, and behind `--name`, whose value is the next word
abbrev pub long_step : Line → List ℕ → Option (List ℕ × List ℕ) → Line × Option (List ℕ)
long_step l name None = (l, Some name)
long_step l name (Some option) = (option_behind option l, None)

-- the line with one word more, and the name of the option whose value is the next word
abbrev pub step_of : Line → Option (List ℕ) → List ℕ → Option (Line × Option (List ℕ))
step_of l (Some name) w = if is_option w then None else Some (option_behind (name, w) l, None)
step_of l None w =
    if is_long w then Some (long_step l (drop 2 w) (cut_word (drop 2 w)))
    else if is_option w then None
    else Some (operands_behind (w ∷ []) l, None)

-- `--`, where no option waits for its value
abbrev pub ends_here : Option (List ℕ) → List ℕ → Bool
ends_here waiting w = not (is_some waiting) && ends_options w

-- the words behind others that were taken so
abbrev pub line_after : Line → Option (List ℕ) → List (List ℕ) → Option Line
line_after l waiting [] = if is_some waiting then None else Some l
line_after l waiting (w ∷ ws) =
    if ends_here waiting w then Some (operands_behind ws l)
    else option_and_then (λ n. line_after n.0 n.1 ws) (step_of l waiting w)

abbrev pub joined : Line → Line → Line
joined l m = record { operands = l.operands ++ m.operands; options = l.options ++ m.options }

option_joins : (l : Line) (o : List ℕ × List ℕ) (r : Option Line) → option_map (joined (option_behind o l)) r ≡ option_map (joined l) (option_map (with_option o.0 o.1) r)
option_joins l o None = refl
option_joins l o (Some m) = ap (λ (os : List (List ℕ × List ℕ)). Some (record { operands = l.operands ++ m.operands; options = os })) (append_assoc l.options (o ∷ []) m.options)

operand_joins : (l : Line) (w : List ℕ) (r : Option Line) → option_map (joined (operands_behind (w ∷ []) l)) r ≡ option_map (joined l) (option_map (with_operand w) r)
operand_joins l w None = refl
operand_joins l w (Some m) = ap (λ (ws : List (List ℕ)). Some (record { operands = ws; options = l.options ++ m.options })) (append_assoc l.operands (w ∷ []) m.operands)

ends : (l : Line) (ws : List (List ℕ)) → Some (operands_behind ws l) ≡ Some (joined l (operands_alone ws))
ends l ws = ap (λ (os : List (List ℕ × List ℕ)). Some (record { operands = l.operands ++ ws; options = os })) (sym (append-nil l.options))

nothing_left : (l : Line) → Some l ≡ Some (joined l (operands_alone []))
nothing_left l = ap (λ (ws : List (List ℕ)). Some (record { operands = ws; options = l.options })) (sym (append-nil l.operands)) ∙ ends_operands
  where
    ends_operands : Some (record { operands = l.operands ++ []; options = l.options }) ≡ Some (joined l (operands_alone []))
    ends_operands = ap (λ (os : List (List ℕ × List ℕ)). Some (record { operands = l.operands ++ []; options = os })) (sym (append-nil l.options))

abbrev onward : List (List ℕ) → Option (Line × Option (List ℕ)) → Option Line
onward ws = option_and_then (λ n. line_after n.0 n.1 ws)

valued : (b : Bool) (l : Line) (name w : List ℕ) (ws : List (List ℕ)) → line_after (option_behind (name, w) l) None ws ≡ option_map (joined l) (option_map (with_option name w) (line_from None ws))
    → onward ws (if b then None else Some (option_behind (name, w) l, None)) ≡ option_map (joined l) (if b then None else option_map (with_option name w) (line_from None ws))
valued true l name w ws e = refl
valued false l name w ws e = e

pub read_on : (l : Line) (waiting : Option (List ℕ)) (ws : List (List ℕ)) → line_after l waiting ws ≡ option_map (joined l) (line_from waiting ws)
read_on l (Some name) [] = refl
read_on l (Some name) (w ∷ ws) = valued (is_option w) l name w ws (read_on (option_behind (name, w) l) None ws ∙ option_joins l (name, w) (line_from None ws))
read_on l None [] = nothing_left l
read_on l None (w ∷ ws) =
    go (ends_options w) (is_long w) (is_option w) (cut_word (drop 2 w))
    (λ o. read_on (option_behind o l) None ws ∙ option_joins l o (line_from None ws)) (read_on l (Some (drop 2 w)) ws)
    (read_on (operands_behind (w ∷ []) l) None ws ∙ operand_joins l w (line_from None ws))
  where
    go : (end long other : Bool) (cut : Option (List ℕ × List ℕ))
        → ((o : List ℕ × List ℕ) → line_after (option_behind o l) None ws ≡ option_map (joined l) (option_map (with_option o.0 o.1) (line_from None ws)))
        → line_after l (Some (drop 2 w)) ws ≡ option_map (joined l) (line_from (Some (drop 2 w)) ws)
        → line_after (operands_behind (w ∷ []) l) None ws ≡ option_map (joined l) (option_map (with_operand w) (line_from None ws))
        → (if end then Some (operands_behind ws l) else onward ws (if long then Some (long_step l (drop 2 w) cut)
        else if other then None else Some (operands_behind (w ∷ []) l, None)))
        ≡ option_map (joined l) (if end then Some (operands_alone ws) else if long then long_line cut (line_from None ws) (line_from (Some (drop 2 w)) ws)
        else if other then None else option_map (with_operand w) (line_from None ws))
    go true long other cut e f g = ends l ws
    go false true other None e f g = f
    go false true other (Some o) e f g = e o
    go false false true cut e f g = refl
    go false false false cut e f g = g

itself : (r : Option Line) → option_map (joined (operands_alone [])) r ≡ r
itself None = refl
itself (Some m) = refl

-- nothing stands before the first word
pub read_whole : (ws : List (List ℕ)) → line_after (operands_alone []) None ws ≡ line_of ws
read_whole ws = read_on (operands_alone []) None ws ∙ itself (line_from None ws)
