-- Rules over gathered lists.
use Rattle.std.proofs.Common.{◌≡◌, ◌<◌, ◌≤◌, ℕ, ℤ, zero, suc, List, [], ◌∷◌, ◌++◌, refl, sym, ap, ◌∙◌, map, length, get_or, arith}
use Rattle.std.specs.Prelude.{Option, flat_map, ◌||◌}
use Rattle.std.specs.Ordering.{int_eq}
use Rattle.std.specs.Prelude.{pos}
use Rattle.std.proofs.lemmas.List.Concat.{flat_map-append}
use Rattle.std.proofs.lemmas.List.Folds.{flat_map-map}
use Rattle.wc_syntax.specs.declared.definition.Definition.{Definition}
use Rattle.wc_syntax.specs.declared.definition.Rule.{Rule}
use Rattle.wc_syntax.specs.declared.expression.Name.{Name}
use Rattle.wc_syntax.specs.declared.expression.Number.{Number}
use Rattle.wc_syntax.specs.declared.outline.CallStmt.{CallStmt}
use Rattle.wc_syntax.specs.Mentions.{Mention, Piece, mentions, mentioned, rule_mentions}
use Rattle.wc_syntax.specs.Checked.{ports_of_calls, findings_in}
use Rattle.wc_syntax.specs.Findings.{Finding, is_status, unless, unknown, bad_status, too_many, unknown_output, unknown_outputs, undeclared, bad_exits, over, head_of, port_names, rules_of, stmts_of, stmt_of, call_of, calls_of, pieces_of, rule_output, stmt_output, stmt_data, not_nodes, rule_status, piece_status, declared_numbers, called_ports, callee_of, unknown_callees, missing_of, unknown_of, repeated_args, long_name, long_names, mentioned_names, line_exprs, rule_name, piece_names, piece_mentions, repeated_ports, reserved_ports, repeated_statuses, repeated_files, repeated_lets, unknown_names, bad_declared, over_counts, bad_file_names}
use Rattle.wc_check.specs.Least.{Agree, AgreeAt, least_after}
use Rattle.wc_check.specs.Sought.{long_mention, long_in_rule, long_in_piece, outputs_at, call_found, calls_at}
use Rattle.wc_check.proofs.Leasts.{least_joined, least_both, least_split, least_swapped}

-- ---- lists of lists
flat_flat : {A B C : Type 0} (f : B → List C) (g : A → List B) (xs : List A) → flat_map f (flat_map g xs) ≡ flat_map (λ x. flat_map f (g x)) xs
flat_flat f g [] = refl
flat_flat f g (x ∷ xs) = flat_map-append f (g x) (flat_map g xs) ∙ ap (λ ys. flat_map f (g x) ++ ys) (flat_flat f g xs)

-- what is found in rules, and then in pieces
gathered : {A B C : Type 0} (f : B → List Finding) (g : A → List B) (k : C → List B) (best mid now : Option Finding) (rs : List A) (ps : List C)
    → mid ≡ least_after best (flat_map (λ r. flat_map f (g r)) rs) → now ≡ least_after mid (flat_map (λ p. flat_map f (k p)) ps) → now ≡ least_after best (flat_map f (flat_map g rs ++ flat_map k ps))
gathered f g k best mid now rs ps p q =
    q ∙ ap (least_after mid) (sym (flat_flat f k ps))
    ∙ ap (λ b. least_after b (flat_map f (flat_map k ps))) (p ∙ ap (least_after best) (sym (flat_flat f g rs)))
    ∙ sym (least_both f best (flat_map g rs) (flat_map k ps))

-- ---- names and statuses, by sets of them
outputs_agree : (xs ys : List (List ℕ)) → Agree xs ys → (ns : List Name) → flat_map (unknown_output xs) ns ≡ flat_map (unknown_output ys) ns
outputs_agree xs ys h [] = refl
outputs_agree xs ys h (n ∷ ns) = λ i. unless (h n.text i) (unknown n.text n.at) ++ outputs_agree xs ys h ns i

pub outputs_all : (d : Definition) (outputs : List (List ℕ)) (rules : List Rule) (ps : List Piece) (best mid now : Option Finding)
    → Agree outputs (port_names (head_of d).outputs) → rules ≡ rules_of d → ps ≡ pieces_of d
    → mid ≡ least_after best (flat_map (λ r. flat_map (unknown_output outputs) (rule_output r)) rules) → now ≡ least_after mid (flat_map (outputs_at outputs) ps)
    → now ≡ least_after best (unknown_outputs d ++ not_nodes d)
outputs_all d outputs rules ps best mid now h m n p q =
    let test = unknown_output outputs in
    let set : Piece → List Name = λ x. flat_map stmt_output (stmt_of x) in
    let nodes : Piece → List Finding = λ x. flat_map stmt_data (stmt_of x) in
    let names = flat_map rule_output (rules_of d) ++ flat_map stmt_output (stmts_of d) in
    q ∙ least_split (λ x. flat_map test (set x)) nodes mid ps
    ∙ ap (λ b. least_after b (flat_map nodes ps)) (gathered test rule_output set best mid (least_after mid (flat_map (λ x. flat_map test (set x)) ps)) rules ps p refl)
    ∙ (λ i. least_after (least_after best (flat_map test (flat_map rule_output (m i) ++ flat_map set (n i)))) (flat_map nodes (n i)))
    ∙ (λ i. least_after (least_after best (flat_map test (flat_map rule_output (rules_of d) ++ sym (flat_flat stmt_output stmt_of (pieces_of d)) i))) (sym (flat_flat stmt_data stmt_of (pieces_of d)) i))
    ∙ ap (λ fs. least_after (least_after best fs) (not_nodes d)) (outputs_agree outputs (port_names (head_of d).outputs) h names)
    ∙ sym (least_joined best (unknown_outputs d) (not_nodes d))

statuses_agree : (xs ys : List ℤ) → AgreeAt is_status xs ys → (ns : List Number) → flat_map (undeclared xs) ns ≡ flat_map (undeclared ys) ns
statuses_agree xs ys h [] = refl
statuses_agree xs ys h (n ∷ ns) = λ i. unless (int_eq n.value (pos 0) || h n.value i) (bad_status n.at) ++ statuses_agree xs ys h ns i

pub exits_all : (d : Definition) (declared : List ℤ) (rules : List Rule) (ps : List Piece) (best mid now : Option Finding)
    → AgreeAt is_status declared (map (λ n. n.value) (declared_numbers d)) → rules ≡ rules_of d → ps ≡ pieces_of d
    → mid ≡ least_after best (flat_map (λ r. flat_map (undeclared declared) (rule_status r)) rules) → now ≡ least_after mid (flat_map (λ x. flat_map (undeclared declared) (piece_status x)) ps)
    → now ≡ least_after best (bad_exits d)
exits_all d declared rules ps best mid now h m n p q =
    gathered (undeclared declared) rule_status piece_status best mid now rules ps p q
    ∙ (λ i. least_after best (flat_map (undeclared declared) (flat_map rule_status (m i) ++ flat_map piece_status (n i))))
    ∙ ap (least_after best) (statuses_agree declared (map (λ n. n.value) (declared_numbers d)) h (flat_map rule_status (rules_of d) ++ flat_map piece_status (pieces_of d)))

-- ---- calls
pub calls_all : (library : List Definition) (d : Definition) (ps : List Piece) (best now : Option Finding) → ps ≡ pieces_of d → now ≡ least_after best (flat_map (calls_at library) ps)
    → now ≡ least_after best (unknown_callees library d ++ ports_of_calls library d)
calls_all library d ps best now n q =
    let callee : CallStmt → List Finding = λ c. callee_of c (called_ports library c) in
    let missing : CallStmt → List Finding = λ c. missing_of c (called_ports library c) in
    let not_there : CallStmt → List Finding = λ c. unknown_of c (called_ports library c) in
    let cs = calls_of d in
    let b₁ = least_after best (flat_map callee cs) in
    let b₂ = least_after b₁ (flat_map missing cs) in
    q ∙ ap (λ xs. least_after best (flat_map (calls_at library) xs)) n
    ∙ ap (least_after best) (sym (flat_flat (call_found library) (λ x. flat_map call_of (stmt_of x)) (pieces_of d)) ∙ ap (flat_map (call_found library)) (sym (flat_flat call_of stmt_of (pieces_of d))))
    ∙ least_split callee (λ c. missing c ++ (not_there c ++ repeated_args c)) best cs
    ∙ least_split missing (λ c. not_there c ++ repeated_args c) b₁ cs
    ∙ least_split not_there repeated_args b₂ cs
    ∙ sym (least_joined b₂ (flat_map not_there cs) (flat_map repeated_args cs))
    ∙ sym (least_joined b₁ (flat_map missing cs) (flat_map not_there cs ++ flat_map repeated_args cs))
    ∙ sym (least_joined best (flat_map callee cs) (flat_map missing cs ++ (flat_map not_there cs ++ flat_map repeated_args cs)))

-- ---- names
flat_alike : {A B : Type 0} (f g : A → List B) → ((a : A) → f a ≡ g a) → (xs : List A) → flat_map f xs ≡ flat_map g xs
flat_alike f g h [] = refl
flat_alike f g h (x ∷ xs) = λ i. h x i ++ flat_alike f g h xs i

named : {A : Type 0} (own : A → List Name) (ms : A → List Mention) (xs : List A) → flat_map long_name (flat_map (λ x. own x ++ mentioned_names (ms x)) xs) ≡ flat_map (λ x. flat_map long_name (own x) ++ flat_map long_mention (ms x)) xs
named own ms xs =
    flat_flat long_name (λ x. own x ++ mentioned_names (ms x)) xs
    ∙ flat_alike _ _ (λ x. flat_map-append long_name (own x) (mentioned_names (ms x)) ∙ ap (λ fs. flat_map long_name (own x) ++ fs) (flat_map-map long_name mentioned (ms x))) xs

pub long_all : (d : Definition) (rules : List Rule) (ps : List Piece) (best b₁ b₂ b₃ now : Option Finding) → rules ≡ rules_of d → ps ≡ pieces_of d
    → b₁ ≡ least_after best (long_name (head_of d).name ++ (flat_map (λ p. long_name p.name) (head_of d).inputs ++ flat_map (λ p. long_name p.name) (head_of d).outputs))
    → b₂ ≡ least_after b₁ (flat_map (λ e. flat_map long_mention (mentions e)) (line_exprs d)) → b₃ ≡ least_after b₂ (flat_map long_in_rule rules) → now ≡ least_after b₃ (flat_map long_in_piece ps)
    → now ≡ least_after best (long_names d)
long_all d rules ps best b₁ b₂ b₃ now m n p q r s =
    let ins = (head_of d).inputs in
    let outs = (head_of d).outputs in
    let lines = flat_map (λ e. mentioned_names (mentions e)) (line_exprs d) in
    let ruled = flat_map (λ r. rule_name r ++ mentioned_names (rule_mentions r)) (rules_of d) in
    let outline = flat_map (λ p. piece_names p ++ mentioned_names (piece_mentions p)) (pieces_of d) in
    let heads = (head_of d).name ∷ map (λ p. p.name) (ins ++ outs) in
    let head : long_name (head_of d).name ++ (flat_map (λ p. long_name p.name) ins ++ flat_map (λ p. long_name p.name) outs) ≡ flat_map long_name heads =
    ap (λ fs. long_name (head_of d).name ++ fs) (sym (flat_map-append (λ p. long_name p.name) ins outs) ∙ sym (flat_map-map long_name (λ p. p.name) (ins ++ outs))) in
    s ∙ (λ i. least_after (r i) (flat_map long_in_piece (n i)))
    ∙ (λ i. least_after (least_after (q i) (flat_map long_in_rule (m i))) (flat_map long_in_piece (pieces_of d)))
    ∙ (λ i. least_after (least_after (least_after (p i) (flat_map (λ e. flat_map long_mention (mentions e)) (line_exprs d))) (flat_map long_in_rule (rules_of d))) (flat_map long_in_piece (pieces_of d)))
    ∙ (λ i. least_after (least_after (least_after (least_after best (head i)) (sym (named (λ e. []) mentions (line_exprs d)) i)) (sym (named rule_name rule_mentions (rules_of d)) i)) (sym (named piece_names piece_mentions (pieces_of d)) i))
    ∙ sym (least_both long_name (least_after (least_after best (flat_map long_name heads)) (flat_map long_name lines)) ruled outline)
    ∙ sym (least_both long_name (least_after best (flat_map long_name heads)) lines (ruled ++ outline))
    ∙ sym (least_both long_name best heads (lines ++ (ruled ++ outline)))

-- ---- everything
regrouped : (best : Option Finding) (p r s f l n o c a m rest : List Finding)
    → least_after (least_after (least_after (least_after (least_after (least_after (least_after best (p ++ (r ++ (s ++ f)))) l) n) o) (c ++ a)) m) rest
    ≡ least_after best ((p ++ (r ++ (s ++ (f ++ l)))) ++ ((n ++ (o ++ c)) ++ (a ++ (m ++ rest))))
regrouped best p r s f l n o c a m rest = simp least_joined

pub findings_all : (library : List Definition) (d : Definition) (ps : List Piece) (best b₁ b₂ b₃ b₄ now : Option Finding) → ps ≡ pieces_of d
    → b₁ ≡ least_after best (repeated_ports d ++ (reserved_ports d ++ (repeated_statuses d ++ repeated_files d))) → b₂ ≡ least_after b₁ (repeated_lets d ++ unknown_names d)
    → b₃ ≡ least_after b₂ (flat_map (calls_at library) ps) → b₄ ≡ least_after b₃ (unknown_outputs d ++ not_nodes d)
    → now ≡ least_after b₄ (bad_declared d ++ (bad_exits d ++ (over_counts d ++ (long_names d ++ bad_file_names d))))
    → now ≡ least_after best (findings_in library d)
findings_all library d ps best b₁ b₂ b₃ b₄ now n p q r s t =
    let calls = unknown_callees library d ++ ports_of_calls library d in
    let rest = bad_declared d ++ (bad_exits d ++ (over_counts d ++ (long_names d ++ bad_file_names d))) in
    let swapped : b₄ ≡ least_after (least_after (least_after b₂ (unknown_outputs d)) calls) (not_nodes d) =
    s ∙ least_joined b₃ (unknown_outputs d) (not_nodes d) ∙ ap (λ b. least_after (least_after b (unknown_outputs d)) (not_nodes d)) (calls_all library d ps b₂ b₃ n r) ∙ ap (λ b. least_after b (not_nodes d)) (least_swapped b₂ calls (unknown_outputs d)) in
    let chained : now ≡ least_after (least_after (least_after (least_after (least_after (least_after (least_after best (repeated_ports d ++ (reserved_ports d ++ (repeated_statuses d ++ repeated_files d)))) (repeated_lets d)) (unknown_names d)) (unknown_outputs d)) calls) (not_nodes d)) rest =
    t ∙ ap (λ b. least_after b rest) (swapped ∙ ap (λ b. least_after (least_after (least_after b (unknown_outputs d)) calls) (not_nodes d)) (q ∙ least_joined b₁ (repeated_lets d) (unknown_names d) ∙ ap (λ b. least_after (least_after b (repeated_lets d)) (unknown_names d)) p)) in
    chained ∙ regrouped best (repeated_ports d) (reserved_ports d) (repeated_statuses d) (repeated_files d) (repeated_lets d) (unknown_names d) (unknown_outputs d) (unknown_callees library d) (ports_of_calls library d) (not_nodes d) rest

-- ---- counts
pub over_at : {A : Type 0} (f : A → ℕ) (most : ℕ) (xs : List A) (x : A) → most < length xs → x ≡ get_or xs most x → over most (map f xs) ≡ too_many (f x) ∷ []
over_at f zero [] x h e = absurd (omega arith)
over_at f zero (y ∷ ys) x h e = λ i. too_many (f (sym e i)) ∷ []
over_at f (suc n) [] x h e = absurd (omega arith)
over_at f (suc n) (y ∷ ys) x h e = over_at f n ys x (omega arith) e

pub over_read : {A : Type 0} (f : A → ℕ) (most : ℕ) (xs : List A) (d : A) → most < length xs → over most (map f xs) ≡ too_many (f (get_or xs most d)) ∷ []
over_read f zero [] d h = absurd (omega arith)
over_read f zero (y ∷ ys) d h = refl
over_read f (suc n) [] d h = absurd (omega arith)
over_read f (suc n) (y ∷ ys) d h = over_read f n ys d (omega arith)

pub over_within : {A : Type 0} (f : A → ℕ) (most : ℕ) (xs : List A) → length xs ≤ most → over most (map f xs) ≡ []
over_within f zero [] h = refl
over_within f zero (y ∷ ys) h = absurd (omega arith)
over_within f (suc n) [] h = refl
over_within f (suc n) (y ∷ ys) h = over_within f n ys (omega arith)

pub no_more : (most : ℕ) (ats : List ℕ) → length ats ≤ most → over most ats ≡ []
no_more zero [] h = refl
no_more zero (a ∷ ats) h = absurd (omega arith)
no_more (suc n) [] h = refl
no_more (suc n) (a ∷ ats) h = no_more n ats (omega arith)
