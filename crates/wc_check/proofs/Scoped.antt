-- What may stand in a scope depends on the names in it alone.
use Rattle.std.proofs.Common.{◌≡◌, ◌<◌, ◌+◌, ℕ, List, [], ◌∷◌, ◌++◌, refl, sym, ap, ◌∙◌, length, get_or, drop, append_assoc}
use Rattle.std.specs.Prelude.{not, ◌&&◌, if◌then◌else◌, Option, flat_map}
use Rattle.wc_syntax.specs.declared.definition.Rule.{Rule}
use Rattle.wc_syntax.specs.declared.definition.Rule.TheVariants as rule
use Rattle.wc_syntax.specs.Mentions.{Mention, Bare, Given, Input, Context, Label, Piece, mentions, rule_mentions}
use Rattle.wc_syntax.specs.Findings.{Finding, Scope, unless, unknown, twice, unknown_mention, unknown_in, unknown_in_rules, unknown_names, inputs_word, ctx_word, scope_after, let_repeats, repeated_lets_in, repeated_lets, scope_of, first_scope, line_exprs, rules_of, pieces_of, piece_mentions}
use Rattle.wc_syntax.specs.declared.definition.Definition.{Definition}
use Rattle.wc_check.specs.Least.{least_after}
use Rattle.wc_check.specs.Scopes.{Alike}
use Rattle.wc_check.specs.Sought.{unknown_outside}
use Rattle.wc_check.proofs.Leasts.{least_joined, least_swapped, drop_at}
use Rattle.wc_check.proofs.Repeated.{agree_last}

-- ---- names by what is known
pub mention_alike : (s t : Scope) → Alike s t → (m : Mention) → unknown_mention s m ≡ unknown_mention t m
mention_alike s t h (Bare n) = λ i. unless (h.known n.text i) (unknown n.text n.at)
mention_alike s t h (Given n) = λ i. unless (not (h.in_chain i) && h.ports n.text i) (unknown n.text n.at)
mention_alike s t h (Input at n) = λ i. if h.in_chain i then unless (h.ports n.text i) (unknown n.text n.at) else unknown inputs_word at ∷ []
mention_alike s t h (Context at n) = λ i. unless (h.in_chain i) (unknown ctx_word at)
mention_alike s t h (Label n) = refl

pub unknown_alike : (s t : Scope) → Alike s t → (ms : List Mention) → unknown_in s ms ≡ unknown_in t ms
unknown_alike s t h [] = refl
unknown_alike s t h (m ∷ ms) = λ i. mention_alike s t h m i ++ unknown_alike s t h ms i

after_alike : (s t : Scope) → Alike s t → (r : Rule) → Alike (scope_after r s) (scope_after r t)
after_alike s t h (rule.Let at n e) = record { in_chain = h.in_chain; ports = h.ports; known = agree_last s.known t.known n.text h.known }
after_alike s t h (rule.Out at n e) = h
after_alike s t h (rule.Exit x) = h

rules_alike : (s t : Scope) → Alike s t → (rs : List Rule) → unknown_in_rules s rs ≡ unknown_in_rules t rs
rules_alike s t h [] = refl
rules_alike s t h (r ∷ rs) = λ i. unknown_alike s t h (rule_mentions r) i ++ rules_alike (scope_after r s) (scope_after r t) (after_alike s t h r) rs i

let_alike : (s t : Scope) → Alike s t → (r : Rule) → let_repeats s r ≡ let_repeats t r
let_alike s t h (rule.Let at n e) = λ i. unless (not (h.known n.text i)) (twice n.text n.at)
let_alike s t h (rule.Out at n e) = refl
let_alike s t h (rule.Exit x) = refl

lets_alike : (s t : Scope) → Alike s t → (rs : List Rule) → repeated_lets_in s rs ≡ repeated_lets_in t rs
lets_alike s t h [] = refl
lets_alike s t h (r ∷ rs) = λ i. let_alike s t h r i ++ lets_alike (scope_after r s) (scope_after r t) (after_alike s t h r) rs i

-- ---- in a loop over rules
abbrev pub in_rules : Option Finding → Scope → List Rule → Option Finding
in_rules best s rs = least_after (least_after best (repeated_lets_in s rs)) (unknown_in_rules s rs)

rules_turn : (best mid now : Option Finding) (s t : Scope) (r : Rule) (rs : List Rule) → mid ≡ least_after best (let_repeats s r) → now ≡ least_after mid (unknown_in s (rule_mentions r)) → Alike t (scope_after r s)
    → in_rules now t rs ≡ in_rules best s (r ∷ rs)
rules_turn best mid now s t r rs p q h =
    let u = scope_after r s in
    let ls = repeated_lets_in u rs in
    let us = unknown_in_rules u rs in
    (λ i. least_after (least_after now (lets_alike t u h rs i)) (rules_alike t u h rs i))
    ∙ ap (λ b. least_after (least_after b ls) us) (q ∙ ap (λ b. least_after b (unknown_in s (rule_mentions r))) p)
    ∙ ap (λ b. least_after b us) (least_swapped (least_after best (let_repeats s r)) (unknown_in s (rule_mentions r)) ls)
    ∙ sym (least_joined (least_after (least_after best (let_repeats s r)) ls) (unknown_in s (rule_mentions r)) us)
    ∙ ap (λ b. least_after b (unknown_in s (rule_mentions r) ++ us)) (sym (least_joined best (let_repeats s r) ls))

pub rules_step : (best mid now all : Option Finding) (s t : Scope) (rs : List Rule) (i : ℕ) (r : Rule)
    → in_rules best s (drop i rs) ≡ all → mid ≡ least_after best (let_repeats s r) → now ≡ least_after mid (unknown_in s (rule_mentions r)) → Alike t (scope_after r s) → i < length rs → r ≡ get_or rs i r
    → in_rules now t (drop (i + 1) rs) ≡ all
rules_step best mid now all s t rs i r a p q h l e = rules_turn best mid now s t r (drop (i + 1) rs) p q h ∙ ap (in_rules best s) (sym (drop_at rs i r l e)) ∙ a

-- ---- all names of a definition, by sets of what is known
flat_alike : {A B : Type 0} (f g : A → List B) → ((a : A) → f a ≡ g a) → (xs : List A) → flat_map f xs ≡ flat_map g xs
flat_alike f g h [] = refl
flat_alike f g h (x ∷ xs) = λ i. h x i ++ flat_alike f g h xs i

pub outside : (d : Definition) (s : Scope) (best mid now : Option Finding) (ps : List Piece) → Alike s (scope_of d) → ps ≡ pieces_of d
    → mid ≡ least_after best (flat_map (λ e. unknown_in s (mentions e)) (line_exprs d)) → now ≡ least_after mid (flat_map (λ p. unknown_in s (piece_mentions p)) ps)
    → now ≡ least_after best (unknown_outside d)
outside d s best mid now ps h n p q =
    q ∙ (λ i. least_after (p i) (flat_map (λ p. unknown_in s (piece_mentions p)) (n i)))
    ∙ (λ i. least_after (least_after best (flat_alike (λ e. unknown_in s (mentions e)) (λ e. unknown_in (scope_of d) (mentions e)) (λ e. unknown_alike s (scope_of d) h (mentions e)) (line_exprs d) i))
    (flat_alike (λ p. unknown_in s (piece_mentions p)) (λ p. unknown_in (scope_of d) (piece_mentions p)) (λ p. unknown_alike s (scope_of d) h (piece_mentions p)) (pieces_of d) i))
    ∙ sym (least_joined best (flat_map (λ e. unknown_in (scope_of d) (mentions e)) (line_exprs d)) (flat_map (λ p. unknown_in (scope_of d) (piece_mentions p)) (pieces_of d)))

pub all_names : (d : Definition) (s : Scope) (rules : List Rule) (best mid now : Option Finding) → Alike s (first_scope d) → rules ≡ rules_of d → mid ≡ least_after best (unknown_outside d) → now ≡ in_rules mid s rules
    → now ≡ least_after best (repeated_lets d ++ unknown_names d)
all_names d s rules best mid now h m p q =
    let lines = flat_map (λ e. unknown_in (scope_of d) (mentions e)) (line_exprs d) in
    let outline = flat_map (λ p. unknown_in (scope_of d) (piece_mentions p)) (pieces_of d) in
    let ls = repeated_lets d in
    let us = unknown_in_rules (first_scope d) (rules_of d) in
    q ∙ (λ i. in_rules (p i) s (m i))
    ∙ (λ i. least_after (least_after (least_after best (unknown_outside d)) (lets_alike s (first_scope d) h (rules_of d) i)) (rules_alike s (first_scope d) h (rules_of d) i))
    ∙ ap (λ b. least_after b us) (least_swapped best (lines ++ outline) ls)
    ∙ ap (λ b. least_after b us) (least_joined (least_after best ls) lines outline)
    ∙ least_swapped (least_after (least_after best ls) lines) outline us
    ∙ ap (λ b. least_after b outline) (sym (least_joined (least_after best ls) lines us))
    ∙ sym (least_joined (least_after best ls) (lines ++ us) outline)
    ∙ ap (least_after (least_after best ls)) (append_assoc lines us outline)
    ∙ sym (least_joined best ls (lines ++ (us ++ outline)))
