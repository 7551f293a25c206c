-- From the beginning of a statement on, the printed tokens of a library stay within the bounds where its own do, and what stands behind them begins anew.
use Rattle.std.proofs.Common.{◌≡◌, ℕ, zero, suc, List, [], ◌∷◌, ◌++◌, map, true, false, Option, Some, None, refl, sym, ap, ◌∙◌, append_assoc, append-nil, subst, arith}
use Rattle.std.specs.Prelude.{flat_map}
use Rattle.wc_lexer.specs.declared.token.Token.TheVariants as token
use Rattle.wc_lexer.specs.declared.token.Word.{Word}
use Rattle.wc_lexer.specs.declared.token.Word.TheVariants as word
use Rattle.wc_lexer.specs.declared.token.Symbol.TheVariants as symbol
use Rattle.wc_syntax.specs.declared.expression.Name.{Name}
use Rattle.wc_syntax.specs.declared.expression.Number.{Number}
use Rattle.wc_syntax.specs.declared.expression.Expr.{Expr}
use Rattle.wc_syntax.specs.declared.outline.Arm.{Arm, roll-Arm}
use Rattle.wc_syntax.specs.declared.outline.Block.{Block}
use Rattle.wc_syntax.specs.declared.outline.Instr.{Instr}
use Rattle.wc_syntax.specs.declared.outline.Instr.TheVariants as instr
use Rattle.wc_syntax.specs.declared.outline.Instr.TheOpen.{Instr-F}
use Rattle.wc_syntax.specs.declared.definition.Definition.{Definition}
use Rattle.wc_syntax.specs.declared.definition.Definition.TheVariants as definition
use Rattle.wc_syntax.specs.declared.definition.Head.{Head}
use Rattle.wc_grammar.specs.Kinds.{kind}
use Rattle.wc_grammar.specs.Rules.{Rule, As}
use Rattle.wc_grammar.specs.Grammar.{Exprs}
use Rattle.wc_reader.specs.Outlines.{Steps, Blocks, Arms, Otherwise, Ifs, Whiles, Returns, Instrs}
use Rattle.wc_reader.specs.Grammar.{Functions, Jobs, Chains, Parses, Libraries}
use Rattle.wc_parser.specs.PrintedTokens as print
use Rattle.wc_parser.specs.PrintedTokens.{Tokens, expr_tokens, instr_tokens, arm_tokens, block_tokens}
use Rattle.wc_parser.proofs.TokenKinds.{token_of}
use Rattle.wc_parser.proofs.Derived.{Holds, holds_more, never_holds, done_holds, either_holds, seq_holds, as_holds, first_says, sign_then, sign_last, number_holds, turns_hold, some_holds, maybe_then}
use Rattle.wc_parser.proofs.Expressions.{w, s}
use Rattle.wc_parser.proofs.Folds.{instr_made, arm_made, block_made}
use Rattle.wc_parser.proofs.Lines.{head_form, from_right, head_says}
use Rattle.wc_parser.proofs.Walks.{Light, Carries, Ends, carries_nothing, carries_append, braced, ended, semi, light_inner, ahead}
use Rattle.wc_parser.proofs.FlatExpressions.{Weighs, exprs_weigh}
use Rattle.wc_parser.proofs.FlatLines.{many_carry, rules_carry, lines_carry, files_carry, fetches_carry, steps_carry, definition_carries}

abbrev end : Tokens
end = s symbol.Semi ∷ []

-- the printed block beside tokens that derive it
abbrev EndsBlock : Tokens → Block → Type 1
EndsBlock ts b = Ends ts (print.in_braces (block_tokens b))

-- the printed instruction beside tokens that derive it
abbrev CarriesInstr : Tokens → Instr → Type 1
CarriesInstr ts i = Carries ts (instr_tokens i)

blocks_end : {I : Rule Instr} (n : ℕ) → Holds CarriesInstr I → Holds EndsBlock (Blocks n I)
blocks_end n h = sign_then (s symbol.OpenBrace) refl (λ _. seq_holds (λ ts is. Carries ts (flat_map instr_tokens is)) (many_carry n instr_tokens h)
    (λ front is k. sign_last (s symbol.CloseBrace) refl
    (λ _. subst (λ z. Ends (s symbol.OpenBrace ∷ (front ++ s symbol.CloseBrace ∷ [])) (print.in_braces z)) (sym (block_made is)) (braced front (flat_map instr_tokens is) k))))

-- a word, an expression and a block
guarded : {ts : Tokens} (us qs : Tokens) (u : Word) (e : Expr) → Light (w u ∷ []) false → Weighs ts e → Ends us qs → Carries (w u ∷ (ts ++ us)) (w u ∷ (expr_tokens e ++ qs))
guarded us qs u e l x y = ended us qs tt (omega arith) (ahead l refl x.1) y

-- an arm behind its word
arms_carry : {E : Rule Expr} {B : Rule Block} (u : Word) → token_of (kind (w u)) ≡ Some (w u) → Light (w u ∷ []) false → Holds Weighs E → Holds EndsBlock B
    → Holds (λ ts x. Carries ts (w u ∷ arm_tokens x.1)) (Arms (kind (w u)) E B)
arms_carry u i l e h = sign_then (w u) i (λ at. seq_holds Weighs e (λ front v x. as_holds (holds_more EndsBlock
    (λ ts b. Carries (w u ∷ (front ++ ts)) (w u ∷ arm_tokens (roll-Arm (record { condition = v; block = b }))))
    (λ ts b y. subst (λ z. Carries (w u ∷ (front ++ ts)) (w u ∷ z)) (sym (arm_made v b)) (guarded ts (print.in_braces (block_tokens b)) u v l x y)) h)))

if_light : Light (w word.If ∷ []) false
if_light = record { lean = λ K b w c l. l.2; flat = λ K b r w c h k. (h, k) }

elif_light : Light (w word.Elif ∷ []) false
elif_light = record { lean = λ K b w c l. l.2; flat = λ K b r w c h k. (h, k) }

else_light : Light (w word.Else ∷ []) false
else_light = record { lean = λ K b w c l. l.2; flat = λ K b r w c h k. (h, k) }

while_light : Light (w word.While ∷ []) false
while_light = record { lean = λ K b w c l. l.2; flat = λ K b r w c h k. (h, k) }

return_light : Light (w word.Return ∷ []) false
return_light = record { lean = λ K b w c l. l.2; flat = λ K b r w c h k. (h, k) }

status_light : (n : Number) → Light (w word.Return ∷ token.Number n.value ∷ []) false
status_light n = record { lean = λ K b w c l. l.2.2; flat = λ K b r w c h k. (h, (h, k)) }

-- ---- an `if` with its arms
branches_more : (xs : List Arm) (x : Arm) → print.branches_tokens false (map arm_tokens (xs ++ x ∷ [])) ≡ print.branches_tokens false (map arm_tokens xs) ++ w word.Elif ∷ arm_tokens x
branches_more [] x = ap (λ z. w word.Elif ∷ z) (append-nil (arm_tokens x))
branches_more (y ∷ xs) x = ap (λ z. w word.Elif ∷ z)
    (ap (λ z. arm_tokens y ++ z) (branches_more xs x) ∙ sym (append_assoc (arm_tokens y) (print.branches_tokens false (map arm_tokens xs)) (w word.Elif ∷ arm_tokens x)))

branches_are : (row : Tokens) (xs : List Arm) → w word.Elif ∷ row ≡ print.branches_tokens false (map arm_tokens xs) → w word.If ∷ row ≡ print.branches_tokens true (map arm_tokens xs)
branches_are row [] e = absurd (cc)
branches_are row (x ∷ xs) e =
    let q : row ≡ arm_tokens x ++ print.branches_tokens false (map arm_tokens xs) = cc in
    ap (λ z. w word.If ∷ z) q

-- the printed arms beside tokens that derive them, of which the first is the `if`
abbrev CarriesArms : Tokens → List Arm → Type 1
CarriesArms ts xs = (row : Tokens) × (w word.Elif ∷ row ≡ print.branches_tokens false (map arm_tokens xs)) × Carries ts (w word.If ∷ row)

first_arm : (ts : Tokens) (x : Arm) → Carries ts (w word.If ∷ arm_tokens x) → CarriesArms ts (x ∷ [])
first_arm ts x h = (arm_tokens x, ap (λ z. w word.Elif ∷ z) (sym (append-nil (arm_tokens x))), h)

more_arms : (front : Tokens) (xs : List Arm) (ts : Tokens) (x : Arm) → CarriesArms front xs → Carries ts (w word.Elif ∷ arm_tokens x) → CarriesArms (front ++ ts) (xs ++ x ∷ [])
more_arms front xs ts x h k = (
  h.0 ++ w word.Elif ∷ arm_tokens x,
  ap (λ z. z ++ w word.Elif ∷ arm_tokens x) h.1 ∙ sym (branches_more xs x),
  carries_append front (w word.If ∷ h.0) ts (w word.Elif ∷ arm_tokens x) h.2 k,
)

other_tokens : Option Block → Tokens
other_tokens None = []
other_tokens (Some b) = w word.Else ∷ print.in_braces (block_tokens b)

if_tokens : (at : ℕ) (xs : List Arm) (o : Option Block) → instr_tokens (instr.If at xs o) ≡ print.branches_tokens true (map arm_tokens xs) ++ other_tokens o
unfolding other_tokens
if_tokens at xs None = instr_made (instr.If at xs None) (Instr-F.If at xs None) (instr.rolls-If at xs None)
if_tokens at xs (Some b) = instr_made (instr.If at xs (Some b)) (Instr-F.If at xs (Some b)) (instr.rolls-If at xs (Some b))

others_carry : {B : Rule Block} → Holds EndsBlock B → Holds (λ ts o. Carries ts (other_tokens o)) (Otherwise B)
unfolding other_tokens
others_carry h = either_holds
    (sign_then (w word.Else) refl (λ _. as_holds (holds_more EndsBlock (λ ts b. Carries (w word.Else ∷ ts) (w word.Else ∷ print.in_braces (block_tokens b)))
    (λ ts b y. ended {ts = w word.Else ∷ []} ts (print.in_braces (block_tokens b)) tt (omega arith) (light_inner else_light) y) h)))
    (done_holds carries_nothing)

ifs_carry : {E : Rule Expr} {B : Rule Block} (n : ℕ) → Holds Weighs E → Holds EndsBlock B → Holds CarriesInstr (Ifs n E B)
ifs_carry n e h = seq_holds (λ ts x. Carries ts (w word.If ∷ arm_tokens x.1)) (arms_carry word.If refl if_light e h)
    (λ front x k. seq_holds (λ ts xs. CarriesArms (front ++ ts) xs)
    (turns_hold CarriesArms n (λ before xs l. as_holds (holds_more (λ ts y. Carries ts (w word.Elif ∷ arm_tokens y.1)) (λ ts y. CarriesArms (before ++ ts) (xs ++ y.1 ∷ []))
    (λ ts y m. more_arms before xs ts y.1 l m) (arms_carry word.Elif refl elif_light e h))) front (x.1 ∷ []) (first_arm front x.1 k))
    (λ more xs l. as_holds (holds_more (λ ts o. Carries ts (other_tokens o)) (λ ts o. CarriesInstr (front ++ (more ++ ts)) (instr.If x.0 xs o))
    (λ ts o m. subst (λ z. CarriesInstr z (instr.If x.0 xs o)) (append_assoc front more ts)
    (subst (λ z. Carries ((front ++ more) ++ ts) z) (ap (λ z. z ++ other_tokens o) (branches_are l.0 xs l.1) ∙ sym (if_tokens x.0 xs o))
    (carries_append (front ++ more) (w word.If ∷ l.0) ts (other_tokens o) l.2 m))) (others_carry h))))

whiles_carry : {E : Rule Expr} {B : Rule Block} → Holds Weighs E → Holds EndsBlock B → Holds CarriesInstr (Whiles E B)
whiles_carry e h = sign_then (w word.While) refl (λ at. seq_holds Weighs e (λ front v x. as_holds (holds_more EndsBlock
    (λ ts b. CarriesInstr (w word.While ∷ (front ++ ts)) (instr.While at v b))
    (λ ts b y. subst (λ z. Carries (w word.While ∷ (front ++ ts)) z) (sym (instr_made (instr.While at v b) (Instr-F.While at v b) (instr.rolls-While at v b)))
    (guarded ts (print.in_braces (block_tokens b)) word.While v while_light x y)) h)))

returns_carry : Holds CarriesInstr Returns
returns_carry = sign_then (w word.Return) refl (λ at. maybe_then (λ ts n. ts ≡ token.Number n.value ∷ []) (some_holds (λ ts n. ts ≡ token.Number n.value ∷ []) (number_holds (λ n. refl)))
    (λ front n h. sign_last (s symbol.Semi) refl (λ _. subst (λ z. CarriesInstr (w word.Return ∷ (z ++ s symbol.Semi ∷ [])) (instr.Return at (Some n))) (sym h)
    (subst (λ z. Carries (w word.Return ∷ token.Number n.value ∷ s symbol.Semi ∷ []) z) (sym (instr_made (instr.Return at (Some n)) (Instr-F.Return at (Some n)) (instr.rolls-Return at (Some n))))
    (ended {ts = w word.Return ∷ token.Number n.value ∷ []} end end tt (omega arith) (light_inner (status_light n)) semi))))
    (sign_last (s symbol.Semi) refl (λ _. subst (λ z. Carries (w word.Return ∷ s symbol.Semi ∷ []) z)
    (sym (instr_made (instr.Return at None) (Instr-F.Return at None) (instr.rolls-Return at None)))
    (ended {ts = w word.Return ∷ []} end end tt (omega arith) (light_inner return_light) semi))))

step_instrs : (n : ℕ) → Holds CarriesInstr (As (Steps n (Exprs n)) instr.Step)
step_instrs n = as_holds (holds_more (λ ts t. Carries ts (print.step_tokens t)) (λ ts t. CarriesInstr ts (instr.Step t))
    (λ ts t h. subst (λ z. Carries ts z) (sym (instr_made (instr.Step t) (Instr-F.Step t) (instr.rolls-Step t))) h) (steps_carry n (exprs_weigh n)))

instrs_carry : (n : ℕ) → Holds CarriesInstr (Instrs n)
instrs_carry zero = either_holds never_holds (either_holds (step_instrs zero) returns_carry)
instrs_carry (suc n) = either_holds
    (either_holds (ifs_carry n (exprs_weigh n) (blocks_end n (instrs_carry n))) (whiles_carry (exprs_weigh n) (blocks_end n (instrs_carry n))))
    (either_holds (step_instrs (suc n)) returns_carry)

-- ---- definitions
function_light : (n : Name) → Light (w word.Calcfunction ∷ token.Name n.text ∷ []) true
function_light n = record { lean = λ K b w c l. l.2.2; flat = λ K b r w c h k. (h, (h, k)) }

job_light : (n : Name) → Light (w word.Calcjob ∷ token.Name n.text ∷ []) true
job_light n = record { lean = λ K b w c l. l.2.2; flat = λ K b r w c h k. (h, (h, k)) }

chain_light : (n : Name) → Light (w word.Workchain ∷ token.Name n.text ∷ []) true
chain_light n = record { lean = λ K b w c l. l.2.2; flat = λ K b r w c h k. (h, (h, k)) }

program_light : Light (w word.Program ∷ []) false
program_light = record { lean = λ K b w c l. l.2; flat = λ K b r w c h k. (h, k) }

argument_light : Light (w word.Arg ∷ []) false
argument_light = record { lean = λ K b w c l. l.2; flat = λ K b r w c h k. (h, k) }

parse_light : Light (w word.Parse ∷ []) false
parse_light = record { lean = λ K b w c l. l.2; flat = λ K b r w c h k. (h, k) }

-- the printed definition beside tokens that derive it
abbrev Whole : Tokens → Definition → Type 1
Whole ts d = Carries ts (print.definition_tokens d)

functions_carry : (n : ℕ) → Holds Whole (As (Functions n) definition.Function)
functions_carry n = as_holds (first_says (head_form word.Calcfunction) (head_says n word.Calcfunction refl)
    (λ h. seq_holds (λ ts rs. Carries ts (flat_map print.rule_tokens rs)) (many_carry n print.rule_tokens (rules_carry (exprs_weigh n)))
    (λ front rs k. sign_last (s symbol.CloseBrace) refl (λ _. definition_carries word.Calcfunction h front (flat_map print.rule_tokens rs) (function_light h.name) k))))

parse_carries : (ts ps : Tokens) → Carries ts ps → Carries (w word.Parse ∷ print.in_braces ts) (w word.Parse ∷ print.in_braces ps)
parse_carries ts ps k = ended {ts = w word.Parse ∷ []} (print.in_braces ts) (print.in_braces ps) tt (omega arith) (light_inner parse_light) (braced ts ps k)

parses_carry : {E : Rule Expr} (n : ℕ) → Holds Weighs E → Holds (λ ts rs. Carries ts (w word.Parse ∷ print.in_braces (flat_map print.rule_tokens rs))) (Parses n E)
parses_carry n e = sign_then (w word.Parse) refl (λ _. sign_then (s symbol.OpenBrace) refl (λ _.
    seq_holds (λ ts rs. Carries ts (flat_map print.rule_tokens rs)) (many_carry n print.rule_tokens (rules_carry e))
    (λ front rs k. sign_last (s symbol.CloseBrace) refl (λ _. parse_carries front (flat_map print.rule_tokens rs) k))))

five_split : (a b c d e f : Tokens) → (a ++ (b ++ (c ++ (d ++ e)))) ++ f ≡ a ++ (b ++ (c ++ (d ++ (e ++ f))))
five_split a b c d e f =
    append_assoc a (b ++ (c ++ (d ++ e))) f
    ∙ ap (λ z. a ++ z) (append_assoc b (c ++ (d ++ e)) f ∙ ap (λ z. b ++ z) (append_assoc c (d ++ e) f ∙ ap (λ z. c ++ z) (append_assoc d e f)))

-- the five parts of a job, one behind the other
job_carries : (h : Head) (a b c d e p q r t u : Tokens) → Carries a p → Carries b q → Carries c r → Carries d t → Carries e (w word.Parse ∷ u)
    → Carries (head_form word.Calcjob h ++ (a ++ (b ++ (c ++ (d ++ (e ++ s symbol.CloseBrace ∷ []))))))
    ((print.head_tokens word.Calcjob h ++ (((((p ++ q) ++ r) ++ t) ++ w word.Parse ∷ []) ++ u)) ++ s symbol.CloseBrace ∷ [])
job_carries h a b c d e p q r t u x y z v k =
    let last : Tokens = s symbol.CloseBrace ∷ [] in
    let parse = w word.Parse ∷ u in
    let body = p ++ (q ++ (r ++ (t ++ parse))) in
    let from : body ≡ ((((p ++ q) ++ r) ++ t) ++ w word.Parse ∷ []) ++ u = sym (append_assoc (((p ++ q) ++ r) ++ t) (w word.Parse ∷ []) u ∙ from_right p q r t parse) in
    subst (λ l. Carries (head_form word.Calcjob h ++ l) ((print.head_tokens word.Calcjob h ++ (((((p ++ q) ++ r) ++ t) ++ w word.Parse ∷ []) ++ u)) ++ last))
    (five_split a b c d e last)
    (subst (λ l. Carries (head_form word.Calcjob h ++ ((a ++ (b ++ (c ++ (d ++ e)))) ++ last)) ((print.head_tokens word.Calcjob h ++ l) ++ last)) from
    (definition_carries word.Calcjob h (a ++ (b ++ (c ++ (d ++ e)))) body (job_light h.name)
    (carries_append a p (b ++ (c ++ (d ++ e))) (q ++ (r ++ (t ++ parse))) x
    (carries_append b q (c ++ (d ++ e)) (r ++ (t ++ parse)) y
    (carries_append c r (d ++ e) (t ++ parse) z (carries_append d t e parse v k))))))

jobs_carry : (n : ℕ) → Holds Whole (As (Jobs n) definition.Job)
jobs_carry n = as_holds (first_says (head_form word.Calcjob) (head_says n word.Calcjob refl) (λ h.
    seq_holds (λ ts l. Carries ts (print.line_tokens word.Program l)) (lines_carry word.Program refl program_light (exprs_weigh n)) (λ a p x.
    seq_holds (λ ts ls. Carries ts (flat_map (print.line_tokens word.Arg) ls)) (many_carry n (print.line_tokens word.Arg) (lines_carry word.Arg refl argument_light (exprs_weigh n))) (λ b q y.
    seq_holds (λ ts fs. Carries ts (flat_map print.file_tokens fs)) (many_carry n print.file_tokens (files_carry (exprs_weigh n))) (λ c r z.
    seq_holds (λ ts fs. Carries ts (flat_map print.fetch_tokens fs)) (many_carry n print.fetch_tokens fetches_carry) (λ d t v.
    seq_holds (λ ts rs. Carries ts (w word.Parse ∷ print.in_braces (flat_map print.rule_tokens rs))) (parses_carry n (exprs_weigh n)) (λ e u k.
    sign_last (s symbol.CloseBrace) refl (λ _. job_carries h a b c d e (print.line_tokens word.Program p) (flat_map (print.line_tokens word.Arg) q) (flat_map print.file_tokens r)
    (flat_map print.fetch_tokens t) (print.in_braces (flat_map print.rule_tokens u)) x y z v k))))))))

chains_carry : (n : ℕ) → Holds Whole (As (Chains n) definition.Chain)
chains_carry n = as_holds (first_says (head_form word.Workchain) (head_says n word.Workchain refl)
    (λ h. seq_holds (λ ts is. Carries ts (flat_map instr_tokens is)) (many_carry n instr_tokens (instrs_carry n))
    (λ front is k. sign_last (s symbol.CloseBrace) refl (λ _.
    subst (λ z. Carries (head_form word.Workchain h ++ (front ++ s symbol.CloseBrace ∷ [])) ((print.head_tokens word.Workchain h ++ z) ++ s symbol.CloseBrace ∷ [])) (sym (block_made is))
    (definition_carries word.Workchain h front (flat_map instr_tokens is) (chain_light h.name) k)))))

pub libraries_carry : (n : ℕ) → Holds (λ ts ds. Carries ts (flat_map print.definition_tokens ds)) (Libraries n)
libraries_carry n = many_carry n print.definition_tokens (either_holds (functions_carry n) (either_holds (jobs_carry n) (chains_carry n)))
