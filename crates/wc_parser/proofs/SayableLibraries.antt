-- What tokens that are spelled as they must be derive can be said in a file: statements, outlines and definitions.
use Rattle.std.proofs.Common.{◌≡◌, ℕ, zero, suc, List, [], ◌∷◌, ◌++◌, map, Bool, true, false, ◌&&◌, Option, Some, None, refl, sym, ◌∙◌, append_assoc, subst}
use Rattle.std.specs.Prelude.{flat_map}
use Rattle.std.specs.List.{list_all}
use Rattle.std.proofs.lemmas.Bool.{and_parts, and_from}
use Rattle.wc_lexer.specs.declared.token.Token.{Token}
use Rattle.wc_lexer.specs.declared.token.Token.TheVariants as token
use Rattle.wc_lexer.specs.declared.token.Word.{Word}
use Rattle.wc_lexer.specs.declared.token.Word.TheVariants as word
use Rattle.wc_lexer.specs.declared.token.Symbol.TheVariants as symbol
use Rattle.wc_syntax.specs.declared.expression.Name.{Name}
use Rattle.wc_syntax.specs.declared.expression.Expr.{Expr}
use Rattle.wc_syntax.specs.declared.definition.Definition.{Definition}
use Rattle.wc_syntax.specs.declared.definition.Definition.TheVariants as definition
use Rattle.wc_syntax.specs.declared.definition.Head.{Head}
use Rattle.wc_syntax.specs.declared.definition.Port.{Port}
use Rattle.wc_syntax.specs.declared.definition.ExitCode.{ExitCode}
use Rattle.wc_syntax.specs.declared.outline.Arm.{Arm, roll-Arm}
use Rattle.wc_syntax.specs.declared.outline.Block.{Block, roll-Block}
use Rattle.wc_syntax.specs.declared.outline.Instr.{Instr}
use Rattle.wc_syntax.specs.declared.outline.Instr.TheVariants as instr
use Rattle.wc_syntax.specs.declared.outline.Instr.TheOpen.{Instr-F}
use Rattle.wc_syntax.specs.Writable.{is_name, is_number, is_expr, is_exit, is_rule, is_arg, is_call, is_stmt, is_step, are_arms, is_block, is_head, is_definition, is_sayable}
use Rattle.wc_grammar.specs.Kinds.{S_COMMA, kind}
use Rattle.wc_grammar.specs.Rules.{Rule, As, Many, Between}
use Rattle.wc_grammar.specs.Grammar.{Exprs}
use Rattle.wc_reader.specs.Parts.{Exits, RuleLines}
use Rattle.wc_reader.specs.Outlines.{Args, Calls, Stmts, Steps, Blocks, Arms, Otherwise, Ifs, Whiles, Returns, Instrs}
use Rattle.wc_reader.specs.Grammar.{Functions, Jobs, Chains, JobLines, JobFiles, Parses, Libraries, Derives}
use Rattle.wc_parser.specs.PrintedTokens as print
use Rattle.wc_parser.specs.PrintedTokens.{Tokens}
use Rattle.wc_parser.proofs.TokenKinds.{token_of}
use Rattle.wc_parser.proofs.Derived.{Holds, holds_more, never_holds, done_holds, either_holds, seq_holds, as_holds, first_says, sign_then}
use Rattle.wc_parser.proofs.Derived.{sign_last, name_then, number_holds, many_hold, between_holds, turns_hold, some_holds, maybe_then}
use Rattle.wc_parser.proofs.Expressions.{w, s, round, member_then}
use Rattle.wc_parser.proofs.Folds.{instr_said, arm_said, said_instr, said_arm, said_block, all_map}
use Rattle.wc_parser.proofs.Lines.{head_form, head_says, exit_holds, set_holds, line_holds, file_holds, fetch_says, arg_holds, target, call_holds}
use Rattle.wc_parser.proofs.Spelled.{AreSpelled, AllSpelled, bare_spelled, spelled_left, spelled_right}
use Rattle.wc_parser.proofs.SayableExpressions.{all_more, name_said, number_said, Said, exprs_said}

-- the test is passed if the tokens are spelled as they must be
abbrev Passes : {A : Type 0} → (A → Bool) → Tokens → A → Type 0
Passes p ts x = AllSpelled ts → p x ≡ true

abbrev end : Tokens
end = s symbol.Semi ∷ []

abbrev brace : Tokens
brace = s symbol.CloseBrace ∷ []

many_pass : {A : Type 0} {R : Rule A} (n : ℕ) (p : A → Bool) → Holds (Passes p) R → Holds (Passes (list_all p)) (Many n R)
many_pass n p r = many_hold n (Passes p) (Passes (list_all p)) (λ h. refl)
    (λ front xs ts x h k l. all_more p xs x (h (spelled_left front ts l)) (k (spelled_right front ts l))) r

-- ---- heads
ports_pass : (first : Bool) (ps : List Port) → AllSpelled (print.separated first print.port_tokens ps) → list_all (λ p. is_name p.name) ps ≡ true
ports_pass first [] h = refl
ports_pass true (p ∷ ps) h = and_from (is_name p.name) (list_all (λ q. is_name q.name) ps) (name_said p.name h.0)
    (ports_pass false ps (spelled_right (print.port_tokens p) (print.separated false print.port_tokens ps) h))
ports_pass false (p ∷ ps) h = and_from (is_name p.name) (list_all (λ q. is_name q.name) ps) (name_said p.name h.1.0)
    (ports_pass false ps (spelled_right (print.port_tokens p) (print.separated false print.port_tokens ps) h.1))

codes_pass : (cs : List ExitCode) → AllSpelled (flat_map print.code_tokens cs) → list_all (λ c. is_number c.status) cs ≡ true
codes_pass [] h = refl
codes_pass (c ∷ cs) h = and_from (is_number c.status) (list_all (λ d. is_number d.status) cs) (number_said c.status h.1.0)
    (codes_pass cs (spelled_right (print.code_tokens c) (flat_map print.code_tokens cs) h))

head_passes : (u : Word) (h : Head) → AllSpelled (head_form u h) → is_head h ≡ true
head_passes u h a =
    let ins = print.items print.port_tokens h.inputs in
    let outs = print.items print.port_tokens h.outputs in
    let codes = flat_map print.code_tokens h.codes in
    let behind = s symbol.OpenBrace ∷ codes in
    let first : AllSpelled (round ins ++ s symbol.Arrow ∷ (round outs ++ behind)) = a.1.1 in
    let second : AllSpelled (round outs ++ behind) = (spelled_right (round ins) (s symbol.Arrow ∷ (round outs ++ behind)) first).1 in
    let third : AllSpelled codes = (spelled_right (round outs) behind second).1 in
    let one : AllSpelled ins = spelled_left ins (s symbol.Close ∷ []) (spelled_left (round ins) (s symbol.Arrow ∷ (round outs ++ behind)) first).1 in
    let two : AllSpelled outs = spelled_left outs (s symbol.Close ∷ []) (spelled_left (round outs) behind second).1 in
    and_from (is_name h.name) (list_all (λ p. is_name p.name) h.inputs && (list_all (λ p. is_name p.name) h.outputs && list_all (λ c. is_number c.status) h.codes)) (name_said h.name a.1.0)
    (and_from (list_all (λ p. is_name p.name) h.inputs) (list_all (λ p. is_name p.name) h.outputs && list_all (λ c. is_number c.status) h.codes) (ports_pass true h.inputs one)
    (and_from (list_all (λ p. is_name p.name) h.outputs) (list_all (λ c. is_number c.status) h.codes) (ports_pass true h.outputs two) (codes_pass h.codes third)))

-- ---- lines with an expression
exits_pass : {E : Rule Expr} → Holds Said E → Holds (Passes is_exit) (Exits E)
exits_pass e = exit_holds Said (λ at n h. and_from (is_number n) true (number_said n h.1.0) refl)
    (λ at n ts v x h. and_from (is_number n) (is_expr v) (number_said n h.1.0) (x (spelled_left ts end h.1.1.1))) e

rules_pass : {E : Rule Expr} → Holds Said E → Holds (Passes is_rule) (RuleLines E)
rules_pass e = either_holds
    (as_holds (set_holds Said (w word.Let) refl (λ at n ts v x h. and_from (is_name n) (is_expr v) (name_said n h.1.0) (x (spelled_left ts end h.1.1.1))) e))
    (either_holds (as_holds (set_holds Said (w word.Out) refl (λ at n ts v x h. and_from (is_name n) (is_expr v) (name_said n h.1.0) (x (spelled_left ts end h.1.1.1))) e))
    (as_holds (exits_pass e)))

lines_pass : {E : Rule Expr} (u : Word) → token_of (kind (w u)) ≡ Some (w u) → Holds Said E → Holds (Passes (λ l. is_expr l.value)) (JobLines (kind (w u)) E)
lines_pass u i e = line_holds Said (w u) i (λ at ts v x h. x (spelled_left ts end h.1)) e

files_pass : {E : Rule Expr} → Holds Said E → Holds (Passes (λ f. is_expr f.value)) (JobFiles E)
files_pass e = file_holds Said (λ at q ts v x h. x (spelled_left ts end h.1.1.1)) e

-- ---- statements
args_pass : {E : Rule Expr} (n : ℕ) → Holds Said E → Holds (Passes (list_all is_arg)) (Between n S_COMMA (Args E))
args_pass n e = between_holds n (Passes is_arg) (Passes (list_all is_arg)) (s symbol.Comma) refl (λ h. refl) (λ ts xs x. x)
    (λ ts a x h. and_from (is_arg a) true (x h) refl)
    (λ front xs ts a x y h. all_more is_arg xs a (x (spelled_left front (s symbol.Comma ∷ ts) h)) (y (spelled_right front (s symbol.Comma ∷ ts) h).1))
    (arg_holds Said (λ n ts v x h. and_from (is_name n) (is_expr v) (name_said n h.0) (x h.1.1)) e)

key_passes : (append : Bool) (key : Name) → AllSpelled (target append key) → is_name key ≡ true
key_passes true key h = name_said key h.1.1.1.0
key_passes false key h = name_said key h.1.1.1.0

calls_pass : {E : Rule Expr} (n : ℕ) → Holds Said E → Holds (Passes is_call) (Calls n E)
calls_pass n e = call_holds n (Passes (list_all is_arg)) (λ at x ts xs append key k h.
    and_from (is_name x) (list_all is_arg xs && is_name key) (name_said x h.1.0)
    (and_from (list_all is_arg xs) (is_name key) (k (spelled_left ts (s symbol.Close ∷ []) (spelled_left (round ts) (target append key) h.1.1).1))
    (key_passes append key (spelled_right (round ts) (target append key) h.1.1)))) (args_pass n e)

stmts_pass : {E : Rule Expr} (n : ℕ) → Holds Said E → Holds (Passes is_stmt) (Stmts n E)
stmts_pass n e = either_holds
    (member_then (w word.Ctx) refl (λ c. sign_then (s symbol.Is) refl (λ _. seq_holds Said e (λ front v x. sign_last (s symbol.Semi) refl
    (λ _ h. and_from (is_name c.1) (is_expr v) (name_said c.1 h.1.1.0) (x (spelled_left front end h.1.1.1.1)))))))
    (either_holds (as_holds (set_holds Said (w word.Out) refl (λ at n ts v x h. and_from (is_name n) (is_expr v) (name_said n h.1.0) (x (spelled_left ts end h.1.1.1))) e))
    (either_holds (as_holds (exits_pass e)) (as_holds (calls_pass n e))))

steps_pass : {E : Rule Expr} (n : ℕ) → Holds Said E → Holds (Passes is_step) (Steps n E)
steps_pass n e = sign_then (w word.Step) refl (λ at. name_then (λ x. sign_then (s symbol.OpenBrace) refl (λ _.
    seq_holds (Passes (list_all is_stmt)) (many_pass n is_stmt (stmts_pass n e))
    (λ front ss k. sign_last (s symbol.CloseBrace) refl (λ _ h. and_from (is_name x) (list_all is_stmt ss) (name_said x h.1.0) (k (spelled_left front brace h.1.1.1)))))))

-- ---- outlines
blocks_pass : {I : Rule Instr} (n : ℕ) → Holds (Passes instr_said) I → Holds (Passes is_block) (Blocks n I)
blocks_pass n i = sign_then (s symbol.OpenBrace) refl (λ _. seq_holds (Passes (list_all instr_said)) (many_pass n instr_said i)
    (λ front is k. sign_last (s symbol.CloseBrace) refl (λ _ h. said_block is ∙ k (spelled_left front brace h.1))))

-- an arm, with the offset of its word
abbrev placed_arm : ℕ × Arm → Bool
placed_arm x = arm_said x.1

arms_pass : {E : Rule Expr} {B : Rule Block} (u : Word) → token_of (kind (w u)) ≡ Some (w u) → Holds Said E → Holds (Passes is_block) B → Holds (Passes placed_arm) (Arms (kind (w u)) E B)
arms_pass u i e b = sign_then (w u) i (λ at. seq_holds Said e (λ front v x. as_holds (holds_more (Passes is_block)
    (λ ts c. Passes placed_arm (w u ∷ (front ++ ts)) (at, roll-Arm (record { condition = v; block = c })))
    (λ ts c y h. said_arm v c ∙ and_from (is_expr v) (is_block c) (x (spelled_left front ts h.1)) (y (spelled_right front ts h.1))) b)))

others_said : Option Block → Bool
others_said None = true
others_said (Some b) = is_block b

if_said : (at : ℕ) (xs : List Arm) (o : Option Block) → instr_said (instr.If at xs o) ≡ (are_arms (map arm_said xs) && others_said o)
unfolding others_said
if_said at xs None = said_instr (instr.If at xs None) (Instr-F.If at xs None) (instr.rolls-If at xs None)
if_said at xs (Some b) = said_instr (instr.If at xs (Some b)) (Instr-F.If at xs (Some b)) (instr.rolls-If at xs (Some b))

others_pass : {B : Rule Block} → Holds (Passes is_block) B → Holds (Passes others_said) (Otherwise B)
unfolding others_said
others_pass b = either_holds (sign_then (w word.Else) refl (λ _. as_holds (holds_more (Passes is_block) (λ ts c. Passes others_said (w word.Else ∷ ts) (Some c)) (λ ts c y h. y h.1) b)))
    (done_holds (λ h. refl))

-- one arm or more, which pass
abbrev Armed : List Arm → Type 0
Armed xs = are_arms (map arm_said xs) ≡ true

more_armed : (xs : List Arm) (x : Arm) → Armed xs → arm_said x ≡ true → Armed (xs ++ x ∷ [])
more_armed [] x h k = and_from (arm_said x) true k refl
more_armed (y ∷ xs) x h k =
    let e = and_parts (arm_said y) (list_all (λ b. b) (map arm_said xs)) h in
    and_from (arm_said y) (list_all (λ b. b) (map arm_said (xs ++ x ∷ []))) e.0
    (all_map arm_said (xs ++ x ∷ []) ∙ all_more arm_said xs x (sym (all_map arm_said xs) ∙ e.1) k)

ifs_pass : {E : Rule Expr} {B : Rule Block} (n : ℕ) → Holds Said E → Holds (Passes is_block) B → Holds (Passes instr_said) (Ifs n E B)
ifs_pass n e b = seq_holds (Passes placed_arm) (arms_pass word.If refl e b) (λ front x k.
    seq_holds (λ ts xs. AllSpelled (front ++ ts) → Armed xs)
    (turns_hold (λ ts xs. AllSpelled ts → Armed xs) n
    (λ before xs l. as_holds (holds_more (Passes placed_arm) (λ ts y. AllSpelled (before ++ ts) → Armed (xs ++ y.1 ∷ []))
    (λ ts y m h. more_armed xs y.1 (l (spelled_left before ts h)) (m (spelled_right before ts h))) (arms_pass word.Elif refl e b)))
    front (x.1 ∷ []) (λ h. and_from (arm_said x.1) true (k h) refl))
    (λ more xs l. as_holds (holds_more (Passes others_said) (λ ts o. AllSpelled (front ++ (more ++ ts)) → instr_said (instr.If x.0 xs o) ≡ true)
    (λ ts o m h.
    let g : AllSpelled ((front ++ more) ++ ts) = subst AllSpelled (sym (append_assoc front more ts)) h in
    if_said x.0 xs o ∙ and_from (are_arms (map arm_said xs)) (others_said o) (l (spelled_left (front ++ more) ts g)) (m (spelled_right (front ++ more) ts g))) (others_pass b))))

whiles_pass : {E : Rule Expr} {B : Rule Block} → Holds Said E → Holds (Passes is_block) B → Holds (Passes instr_said) (Whiles E B)
whiles_pass e b = sign_then (w word.While) refl (λ at. seq_holds Said e (λ front v x. as_holds (holds_more (Passes is_block)
    (λ ts c. Passes instr_said (w word.While ∷ (front ++ ts)) (instr.While at v c))
    (λ ts c y h. said_instr (instr.While at v c) (Instr-F.While at v c) (instr.rolls-While at v c)
    ∙ and_from (is_expr v) (is_block c) (x (spelled_left front ts h.1)) (y (spelled_right front ts h.1))) b)))

returns_pass : Holds (Passes instr_said) Returns
returns_pass = sign_then (w word.Return) refl (λ at. maybe_then (λ ts n. ts ≡ token.Number n.value ∷ []) (some_holds (λ ts n. ts ≡ token.Number n.value ∷ []) (number_holds (λ n. refl)))
    (λ front n h. sign_last (s symbol.Semi) refl (λ _. subst (λ z. Passes instr_said (w word.Return ∷ (z ++ end)) (instr.Return at (Some n))) (sym h)
    (λ a. said_instr (instr.Return at (Some n)) (Instr-F.Return at (Some n)) (instr.rolls-Return at (Some n)) ∙ number_said n a.1.0)))
    (sign_last (s symbol.Semi) refl (λ _ h. said_instr (instr.Return at None) (Instr-F.Return at None) (instr.rolls-Return at None))))

step_instrs : (n : ℕ) → Holds (Passes instr_said) (As (Steps n (Exprs n)) instr.Step)
step_instrs n = as_holds (holds_more (Passes is_step) (λ ts t. Passes instr_said ts (instr.Step t))
    (λ ts t k h. said_instr (instr.Step t) (Instr-F.Step t) (instr.rolls-Step t) ∙ k h) (steps_pass n (exprs_said n)))

instrs_pass : (n : ℕ) → Holds (Passes instr_said) (Instrs n)
instrs_pass zero = either_holds never_holds (either_holds (step_instrs zero) returns_pass)
instrs_pass (suc n) = either_holds
    (either_holds (ifs_pass n (exprs_said n) (blocks_pass n (instrs_pass n))) (whiles_pass (exprs_said n) (blocks_pass n (instrs_pass n))))
    (either_holds (step_instrs (suc n)) returns_pass)

-- ---- definitions
functions_pass : (n : ℕ) → Holds (Passes is_definition) (As (Functions n) definition.Function)
functions_pass n = as_holds (first_says (head_form word.Calcfunction) (head_says n word.Calcfunction refl) (λ h.
    seq_holds (Passes (list_all is_rule)) (many_pass n is_rule (rules_pass (exprs_said n))) (λ front rs k. sign_last (s symbol.CloseBrace) refl (λ _ a.
    and_from (is_head h) (list_all is_rule rs) (head_passes word.Calcfunction h (spelled_left (head_form word.Calcfunction h) (front ++ brace) a))
    (k (spelled_left front brace (spelled_right (head_form word.Calcfunction h) (front ++ brace) a)))))))

parses_pass : {E : Rule Expr} (n : ℕ) → Holds Said E → Holds (Passes (list_all is_rule)) (Parses n E)
parses_pass n e = sign_then (w word.Parse) refl (λ _. sign_then (s symbol.OpenBrace) refl (λ _. seq_holds (Passes (list_all is_rule)) (many_pass n is_rule (rules_pass e))
    (λ front rs k. sign_last (s symbol.CloseBrace) refl (λ _ h. k (spelled_left front brace h.1.1)))))

jobs_pass : (n : ℕ) → Holds (Passes is_definition) (As (Jobs n) definition.Job)
jobs_pass n = as_holds (first_says (head_form word.Calcjob) (head_says n word.Calcjob refl) (λ h.
    seq_holds (Passes (λ l. is_expr l.value)) (lines_pass word.Program refl (exprs_said n)) (λ a p x.
    seq_holds (Passes (list_all (λ l. is_expr l.value))) (many_pass n (λ l. is_expr l.value) (lines_pass word.Arg refl (exprs_said n))) (λ b q y.
    seq_holds (Passes (list_all (λ f. is_expr f.value))) (many_pass n (λ f. is_expr f.value) (files_pass (exprs_said n))) (λ c r z.
    seq_holds (Passes (list_all (λ f. true))) (many_pass n (λ f. true) (holds_more (λ ts f. ts ≡ print.fetch_tokens f) (Passes (λ f. true)) (λ ts f i m. refl) fetch_says)) (λ d t v.
    seq_holds (Passes (list_all is_rule)) (parses_pass n (exprs_said n)) (λ e u k. sign_last (s symbol.CloseBrace) refl (λ _ m.
    let head = head_form word.Calcjob h in
    let m1 = spelled_right head (a ++ (b ++ (c ++ (d ++ (e ++ brace))))) m in
    let m2 = spelled_right a (b ++ (c ++ (d ++ (e ++ brace)))) m1 in
    let m3 = spelled_right b (c ++ (d ++ (e ++ brace))) m2 in
    let m4 = spelled_right c (d ++ (e ++ brace)) m3 in
    let m5 = spelled_right d (e ++ brace) m4 in
    let files = list_all (λ f. is_expr f.value) r in
    let args = list_all (λ l. is_expr l.value) q in
    and_from (is_head h) (is_expr p.value && (args && (files && list_all is_rule u))) (head_passes word.Calcjob h (spelled_left head (a ++ (b ++ (c ++ (d ++ (e ++ brace))))) m))
    (and_from (is_expr p.value) (args && (files && list_all is_rule u)) (x (spelled_left a (b ++ (c ++ (d ++ (e ++ brace)))) m1))
    (and_from args (files && list_all is_rule u) (y (spelled_left b (c ++ (d ++ (e ++ brace))) m2))
    (and_from files (list_all is_rule u) (z (spelled_left c (d ++ (e ++ brace)) m3)) (k (spelled_left e brace m5)))))))))))))

chains_pass : (n : ℕ) → Holds (Passes is_definition) (As (Chains n) definition.Chain)
chains_pass n = as_holds (first_says (head_form word.Workchain) (head_says n word.Workchain refl) (λ h.
    seq_holds (Passes (list_all instr_said)) (many_pass n instr_said (instrs_pass n)) (λ front is k. sign_last (s symbol.CloseBrace) refl (λ _ a.
    and_from (is_head h) (is_block (roll-Block (record { instrs = is }))) (head_passes word.Workchain h (spelled_left (head_form word.Workchain h) (front ++ brace) a))
    (said_block is ∙ k (spelled_left front brace (spelled_right (head_form word.Workchain h) (front ++ brace) a)))))))

libraries_pass : (n : ℕ) → Holds (Passes is_sayable) (Libraries n)
libraries_pass n = many_pass n is_definition (either_holds (functions_pass n) (either_holds (jobs_pass n) (chains_pass n)))

-- What tokens that are spelled as they must be derive can be said in a file.
pub derived_sayable : (ts : List (Token × ℕ)) (library : List Definition) → AreSpelled ts → Derives ts library → is_sayable library ≡ true
derived_sayable ts library a d = (libraries_pass d.0).by ts library d.1 (bare_spelled ts a)
