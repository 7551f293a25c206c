-- The printed tokens of statements, outlines and definitions stay within the bounds where their own do.
use Rattle.std.proofs.Common.{◌≡◌, ℕ, suc, ◌+◌, ◌≤◌, List, [], ◌∷◌, ◌++◌, Bool, true, false, if◌then◌else◌, Some, refl, sym, ap, ◌∙◌, append_assoc, append-nil, subst, arith}
use Rattle.std.specs.Prelude.{flat_map}
use Rattle.wc_value.specs.declared.value.Kind.{Kind}
use Rattle.wc_value.specs.declared.value.Kind.TheVariants as values
use Rattle.wc_lexer.specs.declared.token.Token.TheVariants as token
use Rattle.wc_lexer.specs.declared.token.Word.{Word}
use Rattle.wc_lexer.specs.declared.token.Word.TheVariants as word
use Rattle.wc_lexer.specs.declared.token.Symbol.TheVariants as symbol
use Rattle.wc_syntax.specs.declared.expression.Name.{Name}
use Rattle.wc_syntax.specs.declared.expression.Number.{Number}
use Rattle.wc_syntax.specs.declared.expression.Quoted.{Quoted}
use Rattle.wc_syntax.specs.declared.expression.Expr.{Expr}
use Rattle.wc_syntax.specs.declared.definition.Head.{Head}
use Rattle.wc_syntax.specs.declared.definition.Port.{Port}
use Rattle.wc_syntax.specs.declared.definition.ExitCode.{ExitCode}
use Rattle.wc_syntax.specs.declared.definition.Fetch.{Fetch}
use Rattle.wc_syntax.specs.declared.outline.CallArg.{CallArg}
use Rattle.wc_grammar.specs.Kinds.{S_COMMA, kind}
use Rattle.wc_grammar.specs.Rules.{Rule, Many, Between}
use Rattle.wc_reader.specs.Parts.{Exits, RuleLines}
use Rattle.wc_reader.specs.Outlines.{Args, Calls, Stmts, Steps}
use Rattle.wc_reader.specs.Grammar.{JobLines, JobFiles, Fetches}
use Rattle.wc_parser.specs.PrintedTokens as print
use Rattle.wc_parser.specs.PrintedTokens.{Tokens, expr_tokens}
use Rattle.wc_parser.proofs.TokenKinds.{token_of}
use Rattle.wc_parser.proofs.Derived.{Holds, holds_more, either_holds, seq_holds, as_holds, sign_then, sign_last, name_then, many_hold, between_holds}
use Rattle.wc_parser.proofs.Expressions.{w, s, round, member_then}
use Rattle.wc_parser.proofs.Lines.{separated_more, row_is, flat_more, exit_holds, set_holds, line_holds, file_holds, fetch_says, head_form, head_is, arg_holds, target, call_holds}
use Rattle.wc_parser.proofs.Walks.{Light, Any, Inner, shut, light_append, light_inner, nothing_inner, join, ahead, grouped, bracketed, called, Carries, carries_nothing, carries_append, semi, braced, ended}
use Rattle.wc_parser.proofs.FlatExpressions.{comma_light, context_light, Weighs}

abbrev end : Tokens
end = s symbol.Semi ∷ []

-- a line whose tokens weigh nothing
light_line : {o : Tokens} {f : Bool} → Light o f → Carries (o ++ end) (o ++ end)
light_line x = ended end end tt (omega arith) (light_inner x) semi

-- a line that ends with an expression
heavy_line : {o ts : Tokens} (e : Expr) → Light o false → Weighs ts e → Carries ((o ++ ts) ++ end) ((o ++ expr_tokens e) ++ end)
heavy_line e l x = ended end end tt (omega arith) (ahead l refl x.1) semi

pub many_carry : {A : Type 0} {R : Rule A} (n : ℕ) (f : A → Tokens) → Holds (λ ts x. Carries ts (f x)) R → Holds (λ ts xs. Carries ts (flat_map f xs)) (Many n R)
many_carry n f r = many_hold n (λ ts x. Carries ts (f x)) (λ ts xs. Carries ts (flat_map f xs)) carries_nothing
    (λ front xs ts x h k. subst (λ z. Carries (front ++ ts) z) (sym (flat_more f xs x)) (carries_append front (flat_map f xs) ts (f x) h k)) r

-- ---- heads
kind_called : Kind → Bool
kind_called values.Int = true
kind_called values.Text = true
kind_called _ = false

kind_light : (k : Kind) → Light (print.kind_word k) (kind_called k)
unfolding kind_called
kind_light values.Int = record { lean = λ K b w c l. l.2; flat = λ K b r w c h k. (h, k) }
kind_light values.Bool = record { lean = λ K b w c l. l.2; flat = λ K b r w c h k. (h, k) }
kind_light values.Text = record { lean = λ K b w c l. l.2; flat = λ K b r w c h k. (h, k) }
kind_light values.List = record { lean = λ K b w c l. l.2; flat = λ K b r w c h k. (h, k) }
kind_light values.Dict = record { lean = λ K b w c l. l.2; flat = λ K b r w c h k. (h, k) }
kind_light values.Folder = record { lean = λ K b w c l. l.2; flat = λ K b r w c h k. (h, k) }

named_light : (n : Name) (b : Bool) → Light (print.name n ++ ((if b then s symbol.Question ∷ [] else []) ++ s symbol.Colon ∷ [])) false
named_light n true = record { lean = λ K b w c l. l.2.2.2; flat = λ K b r w c h k. (h, (h, (h, k))) }
named_light n false = record { lean = λ K b w c l. l.2.2; flat = λ K b r w c h k. (h, (h, k)) }

port_light : (p : Port) → Light (print.port_tokens p) (kind_called p.kind)
port_light p = light_append (named_light p.name p.optional) (kind_light p.kind)

ports_inner : (first : Bool) (ps : List Port) → Inner Any 0 0 (print.separated first print.port_tokens ps) (print.separated first print.port_tokens ps)
ports_inner first [] = nothing_inner
ports_inner true (p ∷ ps) = join (light_inner (port_light p)) (ports_inner false ps)
ports_inner false (p ∷ ps) = ahead comma_light tt (join (light_inner (port_light p)) (ports_inner false ps))

arrow_light : Light (s symbol.Arrow ∷ []) false
arrow_light = record { lean = λ K b w c l. l.2; flat = λ K b r w c h k. (h, k) }

-- what stands in a head before its brace
abbrev pub signature : Word → Head → Tokens
signature u h = w u ∷ token.Name h.name.text ∷ (print.ports_tokens h.inputs ++ s symbol.Arrow ∷ print.ports_tokens h.outputs)

signature_inner : (u : Word) (h : Head) → Light (w u ∷ token.Name h.name.text ∷ []) true → Inner Any 2 1 (signature u h) (signature u h)
signature_inner u h l = ahead l refl (join (called (shut (ports_inner true h.inputs))) (ahead arrow_light refl (bracketed (grouped (shut (ports_inner true h.outputs))))))

invalid_line : (n : Number) (q : Quoted) (b : Bool)
    → Carries (w word.ExitCode ∷ token.Number n.value ∷ token.Quoted q.text ∷ ((if b then w word.Invalidates ∷ [] else []) ++ end))
    (w word.ExitCode ∷ token.Number n.value ∷ token.Quoted q.text ∷ ((if b then w word.Invalidates ∷ [] else []) ++ end))
invalid_line n q true = light_line {o = w word.ExitCode ∷ token.Number n.value ∷ token.Quoted q.text ∷ w word.Invalidates ∷ []}
    (record { lean = λ K b w c l. l.2.2.2.2; flat = λ K b r w c h k. (h, (h, (h, (h, k)))) })
invalid_line n q false = light_line {o = w word.ExitCode ∷ token.Number n.value ∷ token.Quoted q.text ∷ []}
    (record { lean = λ K b w c l. l.2.2.2; flat = λ K b r w c h k. (h, (h, (h, k))) })

codes_carry : (cs : List ExitCode) → Carries (flat_map print.code_tokens cs) (flat_map print.code_tokens cs)
codes_carry [] = carries_nothing
codes_carry (c ∷ cs) = carries_append (print.code_tokens c) (print.code_tokens c) (flat_map print.code_tokens cs) (flat_map print.code_tokens cs)
    (invalid_line c.status c.message c.invalidates) (codes_carry cs)

head_split : (u : Word) (h : Head) (body : Tokens)
    → signature u h ++ (s symbol.OpenBrace ∷ ((flat_map print.code_tokens h.codes ++ body) ++ s symbol.CloseBrace ∷ [])) ≡ head_form u h ++ (body ++ s symbol.CloseBrace ∷ [])
head_split u h body =
    let ins = print.ports_tokens h.inputs in
    let outs = print.ports_tokens h.outputs in
    let codes = flat_map print.code_tokens h.codes in
    let last : Tokens = s symbol.CloseBrace ∷ [] in
    ap (λ z. w u ∷ token.Name h.name.text ∷ z)
    (append_assoc ins (s symbol.Arrow ∷ outs) (s symbol.OpenBrace ∷ ((codes ++ body) ++ last))
    ∙ ap (λ z. ins ++ s symbol.Arrow ∷ (outs ++ s symbol.OpenBrace ∷ z)) (append_assoc codes body last)
    ∙ ap (λ z. ins ++ s symbol.Arrow ∷ z) (sym (append_assoc outs (s symbol.OpenBrace ∷ codes) (body ++ last)))
    ∙ sym (append_assoc ins (s symbol.Arrow ∷ (outs ++ s symbol.OpenBrace ∷ codes)) (body ++ last)))

printed_split : (u : Word) (h : Head) (body : Tokens) → head_form u h ++ (body ++ s symbol.CloseBrace ∷ []) ≡ (print.head_tokens u h ++ body) ++ s symbol.CloseBrace ∷ []
printed_split u h body =
    ap (λ z. z ++ (body ++ s symbol.CloseBrace ∷ [])) (sym (head_is u h)) ∙ sym (append_assoc (print.head_tokens u h) body (s symbol.CloseBrace ∷ []))

-- a definition with what stands behind its exit codes
pub definition_carries : (u : Word) (h : Head) (ts ps : Tokens) → Light (w u ∷ token.Name h.name.text ∷ []) true → Carries ts ps
    → Carries (head_form u h ++ (ts ++ s symbol.CloseBrace ∷ [])) ((print.head_tokens u h ++ ps) ++ s symbol.CloseBrace ∷ [])
definition_carries u h ts ps l x =
    let codes = flat_map print.code_tokens h.codes in
    let front : 2 ≤ 1 + 28 = omega arith in
    let whole : Tokens → Tokens = λ z. s symbol.OpenBrace ∷ ((codes ++ z) ++ s symbol.CloseBrace ∷ []) in
    subst (λ z. Carries z ((print.head_tokens u h ++ ps) ++ s symbol.CloseBrace ∷ [])) (head_split u h ts)
    (subst (λ z. Carries (signature u h ++ whole ts) z) (head_split u h ps ∙ printed_split u h ps)
    (ended (whole ts) (whole ps) tt front (signature_inner u h l) (braced (codes ++ ts) (codes ++ ps) (carries_append codes codes ts ps (codes_carry h.codes) x))))

-- ---- lines with an expression
set_light : (u : Word) (n : Name) → Light (w u ∷ []) false → Light (w u ∷ token.Name n.text ∷ s symbol.Is ∷ []) false
set_light u n l = light_append l (record { lean = λ K b w c l. l.2.2; flat = λ K b r w c h k. (h, (h, k)) })

let_light : Light (w word.Let ∷ []) false
let_light = record { lean = λ K b w c l. l.2; flat = λ K b r w c h k. (h, k) }

out_light : Light (w word.Out ∷ []) false
out_light = record { lean = λ K b w c l. l.2; flat = λ K b r w c h k. (h, k) }

exit_light : (n : Number) → Light (w word.Exit ∷ token.Number n.value ∷ []) false
exit_light n = record { lean = λ K b w c l. l.2.2; flat = λ K b r w c h k. (h, (h, k)) }

exit_if_light : (n : Number) → Light (w word.Exit ∷ token.Number n.value ∷ w word.If ∷ []) false
exit_if_light n = record { lean = λ K b w c l. l.2.2.2; flat = λ K b r w c h k. (h, (h, (h, k))) }

exits_carry : {E : Rule Expr} → Holds Weighs E → Holds (λ ts x. Carries ts (print.exit_tokens x)) (Exits E)
exits_carry e = exit_holds Weighs (λ at n. light_line (exit_light n)) (λ at n ts v x. heavy_line v (exit_if_light n) x) e

pub rules_carry : {E : Rule Expr} → Holds Weighs E → Holds (λ ts r. Carries ts (print.rule_tokens r)) (RuleLines E)
rules_carry e = either_holds
    (as_holds (set_holds Weighs (w word.Let) refl (λ at n ts v x. heavy_line v (set_light word.Let n let_light) x) e))
    (either_holds (as_holds (set_holds Weighs (w word.Out) refl (λ at n ts v x. heavy_line v (set_light word.Out n out_light) x) e))
    (as_holds (exits_carry e)))

pub lines_carry : {E : Rule Expr} (u : Word) → token_of (kind (w u)) ≡ Some (w u) → Light (w u ∷ []) false → Holds Weighs E → Holds (λ ts l. Carries ts (print.line_tokens u l)) (JobLines (kind (w u)) E)
lines_carry u i l e = line_holds Weighs (w u) i (λ at ts v x. heavy_line v l x) e

file_light : (q : Quoted) → Light (w word.File ∷ token.Quoted q.text ∷ s symbol.Is ∷ []) false
file_light q = record { lean = λ K b w c l. l.2.2.2; flat = λ K b r w c h k. (h, (h, (h, k))) }

pub files_carry : {E : Rule Expr} → Holds Weighs E → Holds (λ ts f. Carries ts (print.file_tokens f)) (JobFiles E)
files_carry e = file_holds Weighs (λ at q ts v x. heavy_line v (file_light q) x) e

fetch_light : (f : Fetch) → Light (w word.Fetch ∷ token.Quoted f.name.text ∷ []) false
fetch_light f = record { lean = λ K b w c l. l.2.2; flat = λ K b r w c h k. (h, (h, k)) }

pub fetches_carry : Holds (λ ts f. Carries ts (print.fetch_tokens f)) Fetches
fetches_carry = holds_more (λ ts f. ts ≡ print.fetch_tokens f) (λ ts f. Carries ts (print.fetch_tokens f))
    (λ ts f h. subst (λ z. Carries z (print.fetch_tokens f)) (sym h) (light_line (fetch_light f))) fetch_says

-- ---- statements
-- the printed tokens of an argument beside tokens that derive it
abbrev WeighArg : Tokens → CallArg → Type 1
WeighArg ts a = (n : ℕ) × Inner Any n n ts (print.arg_tokens a)

-- so too those of several, with commas between them
abbrev WeighRow : Tokens → List CallArg → Type 1
WeighRow ts xs = (row : Tokens) × (s symbol.Comma ∷ row ≡ print.separated false print.arg_tokens xs) × (n : ℕ) × Inner Any n n ts row

abbrev WeighArgs : Tokens → List CallArg → Type 1
WeighArgs ts xs = (n : ℕ) × Inner Any n n ts (print.items print.arg_tokens xs)

arg_light : (n : Name) → Light (token.Name n.text ∷ s symbol.Colon ∷ []) false
arg_light n = record { lean = λ K b w c l. l.2.2; flat = λ K b r w c h k. (h, (h, k)) }

args_weigh : {E : Rule Expr} (n : ℕ) → Holds Weighs E → Holds WeighArgs (Between n S_COMMA (Args E))
args_weigh n e = between_holds n WeighArg WeighRow (s symbol.Comma) refl (0, nothing_inner)
    (λ ts xs x. (x.2, subst (λ z. Inner Any x.2 x.2 ts z) (row_is print.arg_tokens x.0 xs x.1) x.3))
    (λ ts a x. (print.arg_tokens a, ap (λ z. s symbol.Comma ∷ z) (sym (append-nil (print.arg_tokens a))), x.0, x.1))
    (λ front xs ts a x y. (
      x.0 ++ s symbol.Comma ∷ print.arg_tokens a,
      ap (λ z. z ++ s symbol.Comma ∷ print.arg_tokens a) x.1 ∙ sym (separated_more print.arg_tokens xs a),
      x.2 + y.0,
      join x.3 (ahead comma_light tt y.1),
    ))
    (arg_holds Weighs (λ n ts v x. (x.0, ahead (arg_light n) refl x.1)) e)

way_light : (b : Bool) → Light (print.way_word b) false
way_light true = record { lean = λ K b w c l. l.2; flat = λ K b r w c h k. (h, k) }
way_light false = record { lean = λ K b w c l. l.2; flat = λ K b r w c h k. (h, k) }

call_light : (x : Name) → Light (w word.Call ∷ token.Name x.text ∷ []) true
call_light x = record { lean = λ K b w c l. l.2.2; flat = λ K b r w c h k. (h, (h, k)) }

call_split : (a b c d : Tokens) → (a ++ (b ++ c)) ++ d ≡ a ++ (b ++ (c ++ d))
call_split a b c d = append_assoc a (b ++ c) d ∙ ap (λ z. a ++ z) (append_assoc b c d)

printed_call : (a b c d : Tokens) → (a ++ (b ++ c)) ++ d ≡ ((a ++ b) ++ c) ++ d
printed_call a b c d = ap (λ z. z ++ d) (sym (append_assoc a b c))

-- a call's tokens, whose own stand behind its name
call_carries : (x : Name) (ts ps : Tokens) (append : Bool) (key : Name) (n : ℕ) → Inner Any n n ts ps
    → Carries (w word.Call ∷ token.Name x.text ∷ (round ts ++ target append key))
    (w word.Call ∷ token.Name x.text ∷ (((round ps ++ print.way_word append) ++ print.context key) ++ end))
call_carries x ts ps append key n i =
    let tail = print.way_word append ++ print.context key in
    let front : Tokens → Tokens = λ z. w word.Call ∷ token.Name x.text ∷ z in
    let size : suc n + 0 ≤ suc n + 0 + 28 = omega arith in
    subst (λ z. Carries (front z) (front (((round ps ++ print.way_word append) ++ print.context key) ++ end))) (call_split (round ts) (print.way_word append) (print.context key) end)
    (subst (λ z. Carries (front ((round ts ++ tail) ++ end)) (front z)) (printed_call (round ps) (print.way_word append) (print.context key) end)
    (ended end end tt size (ahead (call_light x) refl (join (called (shut i)) (light_inner (light_append (way_light append) (context_light key))))) semi))

calls_carry : {E : Rule Expr} (n : ℕ) → Holds Weighs E → Holds (λ ts c. Carries ts (print.call_tokens c)) (Calls n E)
calls_carry n e = call_holds n WeighArgs (λ at x ts xs append key k. call_carries x ts (print.items print.arg_tokens xs) append key k.0 k.1) (args_weigh n e)

keep_light : (n : Name) → Light (w word.Ctx ∷ s symbol.Dot ∷ token.Name n.text ∷ s symbol.Is ∷ []) false
keep_light n = record { lean = λ K b w c l. l.2.2.2.2; flat = λ K b r w c h k. (h, (h, (h, (h, k)))) }

stmts_carry : {E : Rule Expr} (n : ℕ) → Holds Weighs E → Holds (λ ts t. Carries ts (print.stmt_tokens t)) (Stmts n E)
stmts_carry n e = either_holds
    (member_then (w word.Ctx) refl (λ c. sign_then (s symbol.Is) refl (λ _. seq_holds Weighs e (λ front v x. sign_last (s symbol.Semi) refl (λ _. heavy_line v (keep_light c.1) x)))))
    (either_holds (as_holds (set_holds Weighs (w word.Out) refl (λ at n ts v x. heavy_line v (set_light word.Out n out_light) x) e))
    (either_holds (as_holds (exits_carry e)) (as_holds (calls_carry n e))))

step_light : (n : Name) → Light (w word.Step ∷ token.Name n.text ∷ []) true
step_light n = record { lean = λ K b w c l. l.2.2; flat = λ K b r w c h k. (h, (h, k)) }

step_carries : (x : Name) (ts ps : Tokens) → Carries ts ps
    → Carries (w word.Step ∷ token.Name x.text ∷ print.in_braces ts) (w word.Step ∷ token.Name x.text ∷ print.in_braces ps)
step_carries x ts ps k = ended (print.in_braces ts) (print.in_braces ps) tt (omega arith) (light_inner (step_light x)) (braced ts ps k)

pub steps_carry : {E : Rule Expr} (n : ℕ) → Holds Weighs E → Holds (λ ts t. Carries ts (print.step_tokens t)) (Steps n E)
steps_carry n e = sign_then (w word.Step) refl (λ at. name_then (λ x. sign_then (s symbol.OpenBrace) refl (λ _.
    seq_holds (λ ts ss. Carries ts (flat_map print.stmt_tokens ss)) (many_carry n print.stmt_tokens (stmts_carry n e))
    (λ front ss k. sign_last (s symbol.CloseBrace) refl (λ _. step_carries x front (flat_map print.stmt_tokens ss) k)))))
