-- Tokens that stay within the bounds on nesting and weight, with so many braces open at once.
use Rattle.std.proofs.Common.{◌≡◌, ℕ, suc, ◌+◌, ◌≤◌, List, [], ◌∷◌, ◌++◌, map, Bool, true, false, if◌then◌else◌, refl, sym, ap, append_assoc, subst, arith}
use Rattle.std.specs.Prelude.{flat_map}
use Rattle.wc_value.specs.declared.value.Kind.{Kind}
use Rattle.wc_value.specs.declared.value.Kind.TheVariants as values
use Rattle.wc_lexer.specs.declared.token.Token.TheVariants as token
use Rattle.wc_lexer.specs.declared.token.Word.TheVariants as word
use Rattle.wc_lexer.specs.declared.token.Symbol.TheVariants as symbol
use Rattle.wc_syntax.specs.declared.definition.Head.{Head}
use Rattle.wc_syntax.specs.declared.definition.Port.{Port}
use Rattle.wc_syntax.specs.declared.expression.Expr.{Expr}
use Rattle.wc_syntax.specs.declared.expression.Name.{Name}
use Rattle.wc_syntax.specs.declared.outline.CallArg.{CallArg}
use Rattle.wc_parser.specs.PrintedTokens as print
use Rattle.wc_parser.specs.PrintedTokens.{Tokens, expr_tokens}
use Rattle.wc_parser.proofs.Expressions.{w, s, round}
use Rattle.wc_parser.proofs.FlatExpressions.{comma_light, context_light}
use Rattle.wc_parser.proofs.Walks.{Within, Flat, flat_append, Light, Any, Shut, Inner, shut, light_append, light_inner, nothing_inner, join, ahead, grouped, bracketed, called}

-- ---- whole statements

-- From the beginning of a statement, the tokens have at most so many more braces open, and leave none.
pub record Calm (m : ℕ) (ts : Tokens) : Type 1 where
  pub flat : (J : ℕ → ℕ → ℕ → Bool → Type 0) (b : ℕ) → b + m ≤ 24 → J b 0 0 false → Flat ts J b 0 0 false

-- so too from the end of a statement's expressions
pub record Closes (m : ℕ) (ts : Tokens) : Type 1 where
  pub flat : (J : ℕ → ℕ → ℕ → Bool → Type 0) (b n : ℕ) (f : Bool) → b + m ≤ 24 → n ≤ 100 → J b 0 0 false → Flat ts J b 0 n f

pub calm_nothing : {m : ℕ} → Calm m []
calm_nothing = record { flat = λ J b i k. k }

pub calm_append : {m : ℕ} (ts us : Tokens) → Calm m ts → Calm m us → Calm m (ts ++ us)
calm_append ts us x y = record { flat = λ J b i k. flat_append ts us J b 0 0 false (x.flat (Flat us J) b i (y.flat J b i k)) }

pub calm_more : (m n : ℕ) {ts : Tokens} → m ≤ n → Calm m ts → Calm n ts
calm_more m n h x = record { flat = λ J b i k. x.flat J b (omega arith) k }

pub calm_many : {A : Type 0} (m : ℕ) (f : A → Tokens) → ((x : A) → Calm m (f x)) → (xs : List A) → Calm m (flat_map f xs)
calm_many m f h [] = calm_nothing
calm_many m f h (x ∷ xs) = calm_append (f x) (flat_map f xs) (h x) (calm_many m f h xs)

abbrev pub end : Tokens
end = s symbol.Semi ∷ []

pub closes_semi : Closes 0 end
closes_semi = record { flat = λ J b n f i l k. ((omega arith, omega arith, omega arith), k) }

abbrev close : Tokens
close = s symbol.CloseBrace ∷ []

braced_flat : (m : ℕ) (ts : Tokens) → Calm m ts → (J : ℕ → ℕ → ℕ → Bool → Type 0) (b n : ℕ) (f : Bool) → b + suc m ≤ 24 → n ≤ 100 → J b 0 0 false → Flat (print.in_braces ts) J b 0 n f
braced_flat m ts x J b n f i l k =
    let within : Within b 0 0 = (omega arith, omega arith, omega arith) in
    let opened : Within (suc b) 0 0 = (omega arith, omega arith, omega arith) in
    let room : suc b + m ≤ 24 = omega arith in
    (opened, flat_append ts close J (suc b) 0 0 false (x.flat (Flat close J) (suc b) room (within, k)))

pub closes_braced : (m : ℕ) (ts : Tokens) → Calm m ts → Closes (suc m) (print.in_braces ts)
closes_braced m ts x = record { flat = braced_flat m ts x }

statement_flat : {d n m : ℕ} {ts ps : Tokens} (us : Tokens) → Inner Any d n ts ps → d ≤ 128 → n ≤ 100 → Closes m us
    → (J : ℕ → ℕ → ℕ → Bool → Type 0) (b : ℕ) → b + m ≤ 24 → J b 0 0 false → Flat (ps ++ us) J b 0 0 false
statement_flat {d = d} {n = n} {m = m} {ps = ps} us x h l y J b i k =
    flat_append ps us J b 0 0 false (x.flat (Flat us J) b 0 0 false tt (omega arith) (omega arith) (omega arith) (λ g. y.flat J b (0 + n) g i (omega arith) k))

pub calm_statement : {d n m : ℕ} {ts ps : Tokens} (us : Tokens) → Inner Any d n ts ps → d ≤ 128 → n ≤ 100 → Closes m us → Calm m (ps ++ us)
calm_statement us x h l y = record { flat = statement_flat us x h l y }

pub calm_light : {o : Tokens} {f : Bool} → Light o f → Calm 0 (o ++ end)
calm_light x = calm_statement end (light_inner x) (omega arith) (omega arith) closes_semi

-- ---- lines with an expression

-- The printed tokens of the expression weigh so much, and have no more brackets open at once.
abbrev pub Sized : ℕ → Expr → Type 1
Sized n e = (ts : Tokens) × Inner Shut n n ts (expr_tokens e)

pub calm_heavy : {o : Tokens} (n : ℕ) (e : Expr) → n ≤ 100 → Light o false → Sized n e → Calm 0 ((o ++ expr_tokens e) ++ end)
calm_heavy n e h l x = calm_statement end (ahead l refl x.1) (omega arith) h closes_semi

-- an expression and a block
pub calm_guarded : {o : Tokens} (m n : ℕ) (e : Expr) (block : Tokens) → n ≤ 100 → Light o false → Sized n e → Calm m block → Calm (suc m) ((o ++ expr_tokens e) ++ print.in_braces block)
calm_guarded m n e block h l x y = calm_statement (print.in_braces block) (ahead l refl x.1) (omega arith) h (closes_braced m block y)

-- a block behind tokens that weigh nothing
pub calm_block : {o : Tokens} {f : Bool} (m : ℕ) (block : Tokens) → Light o f → Calm m block → Calm (suc m) (o ++ print.in_braces block)
calm_block m block l y = calm_statement (print.in_braces block) (light_inner l) (omega arith) (omega arith) (closes_braced m block y)

-- ---- calls

arg_light : (n : Name) → Light (token.Name n.text ∷ s symbol.Colon ∷ []) false
arg_light n = record { lean = λ K b w c l. l.2.2; flat = λ K b r w c h k. (h, (h, k)) }

-- arguments that weigh nothing, with commas between them
abbrev Row : Bool → List CallArg → Type 1
Row first args = (ts : Tokens) × Inner Any 0 0 ts (print.separated first print.arg_tokens args)

pub args_inner : {A : Type 0} (first : Bool) (arg : A → CallArg) → ((x : A) → Sized 0 (arg x).value) → (xs : List A) → Row first (map arg xs)
args_inner first arg h [] = ([], nothing_inner)
args_inner true arg h (x ∷ xs) =
    let rest = args_inner false arg h xs in
    (_, join (ahead (arg_light (arg x).port) refl (h x).1) rest.1)
args_inner false arg h (x ∷ xs) =
    let rest = args_inner false arg h xs in
    (_, ahead comma_light tt (join (ahead (arg_light (arg x).port) refl (h x).1) rest.1))

way_light : (b : Bool) → Light (print.way_word b) false
way_light true = record { lean = λ K b w c l. l.2; flat = λ K b r w c h k. (h, k) }
way_light false = record { lean = λ K b w c l. l.2; flat = λ K b r w c h k. (h, k) }

call_light : (x : Name) → Light (w word.Call ∷ token.Name x.text ∷ []) true
call_light x = record { lean = λ K b w c l. l.2.2; flat = λ K b r w c h k. (h, (h, k)) }

regrouped : (a b c d : Tokens) → (a ++ (b ++ c)) ++ d ≡ ((a ++ b) ++ c) ++ d
regrouped a b c d = ap (λ z. z ++ d) (sym (append_assoc a b c))

pub calm_call : (callee : Name) (ps : Tokens) (append : Bool) (key : Name) → (ts : Tokens) × Inner Any 0 0 ts ps
    → Calm 0 (w word.Call ∷ token.Name callee.text ∷ (((round ps ++ print.way_word append) ++ print.context key) ++ end))
calm_call callee ps append key x =
    subst (λ z. Calm 0 (w word.Call ∷ token.Name callee.text ∷ z)) (regrouped (round ps) (print.way_word append) (print.context key) end)
    (calm_statement end (ahead (call_light callee) refl (join (called (shut x.1)) (light_inner (light_append (way_light append) (context_light key))))) (omega arith) (omega arith) closes_semi)

-- ---- steps

step_light : (n : Name) → Light (w word.Step ∷ token.Name n.text ∷ []) true
step_light n = record { lean = λ K b w c l. l.2.2; flat = λ K b r w c h k. (h, (h, k)) }

pub calm_step : (n : Name) (ts : Tokens) → Calm 0 ts → Calm 1 (w word.Step ∷ token.Name n.text ∷ print.in_braces ts)
calm_step n ts x = calm_block 0 ts (step_light n) x

-- ---- heads

kind_called : Kind → Bool
kind_called values.Int = true
kind_called values.Text = true
kind_called _ = false

kind_light : (k : Kind) → Light (print.kind_word k) (kind_called k)
unfolding kind_called
kind_light values.Int = record { lean = λ K b w c l. l.2; flat = λ K b r w c h k. (h, k) }
kind_light values.Bool = record { lean = λ K b w c l. l.2; flat = λ K b r w c h k. (h, k) }
kind_light values.Text = record { lean = λ K b w c l. l.2; flat = λ K b r w c h k. (h, k) }
kind_light values.List = record { lean = λ K b w c l. l.2; flat = λ K b r w c h k. (h, k) }
kind_light values.Dict = record { lean = λ K b w c l. l.2; flat = λ K b r w c h k. (h, k) }
kind_light values.Folder = record { lean = λ K b w c l. l.2; flat = λ K b r w c h k. (h, k) }

named_light : (n : Name) (b : Bool) → Light (print.name n ++ ((if b then s symbol.Question ∷ [] else []) ++ s symbol.Colon ∷ [])) false
named_light n true = record { lean = λ K b w c l. l.2.2.2; flat = λ K b r w c h k. (h, (h, (h, k))) }
named_light n false = record { lean = λ K b w c l. l.2.2; flat = λ K b r w c h k. (h, (h, k)) }

port_light : (p : Port) → Light (print.port_tokens p) (kind_called p.kind)
port_light p = light_append (named_light p.name p.optional) (kind_light p.kind)

ports_inner : (first : Bool) (ps : List Port) → Inner Any 0 0 (print.separated first print.port_tokens ps) (print.separated first print.port_tokens ps)
ports_inner first [] = nothing_inner
ports_inner true (p ∷ ps) = join (light_inner (port_light p)) (ports_inner false ps)
ports_inner false (p ∷ ps) = ahead comma_light tt (join (light_inner (port_light p)) (ports_inner false ps))

arrow_light : Light (s symbol.Arrow ∷ []) false
arrow_light = record { lean = λ K b w c l. l.2; flat = λ K b r w c h k. (h, k) }

chain_light : (n : Name) → Light (w word.Workchain ∷ token.Name n.text ∷ []) true
chain_light n = record { lean = λ K b w c l. l.2.2; flat = λ K b r w c h k. (h, (h, k)) }

signature_inner : (h : Head)
    → Inner Any 2 1 (w word.Workchain ∷ token.Name h.name.text ∷ (print.ports_tokens h.inputs ++ s symbol.Arrow ∷ print.ports_tokens h.outputs))
    (w word.Workchain ∷ token.Name h.name.text ∷ (print.ports_tokens h.inputs ++ s symbol.Arrow ∷ print.ports_tokens h.outputs))
signature_inner h = ahead (chain_light h.name) refl (join (called (shut (ports_inner true h.inputs))) (ahead arrow_light refl (bracketed (grouped (shut (ports_inner true h.outputs))))))

split : (a i o c body : Tokens)
    → (a ++ (i ++ s symbol.Arrow ∷ o)) ++ s symbol.OpenBrace ∷ ((c ++ body) ++ s symbol.CloseBrace ∷ [])
    ≡ ((((((a ++ i) ++ s symbol.Arrow ∷ []) ++ o) ++ s symbol.OpenBrace ∷ []) ++ c) ++ body) ++ s symbol.CloseBrace ∷ []
split a i o c body = simp append_assoc refl

pub calm_definition : (m : ℕ) (h : Head) (body : Tokens) → Calm m (flat_map print.code_tokens h.codes) → Calm m body
    → Calm (suc m) ((print.head_tokens word.Workchain h ++ body) ++ s symbol.CloseBrace ∷ [])
calm_definition m h body x y =
    let codes = flat_map print.code_tokens h.codes in
    subst (λ z. Calm (suc m) z) (split (w word.Workchain ∷ token.Name h.name.text ∷ []) (print.ports_tokens h.inputs) (print.ports_tokens h.outputs) codes body)
    (calm_statement (print.in_braces (codes ++ body)) (signature_inner h) (omega arith) (omega arith) (closes_braced m (codes ++ body) (calm_append codes body x y)))
