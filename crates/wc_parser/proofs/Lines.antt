-- What holds of the tokens of ports, heads, statements and lines, and of what they stand for.
use Rattle.std.proofs.Common.{◌≡◌, ℕ, List, [], ◌∷◌, ◌++◌, Bool, true, false, if◌then◌else◌, Some, None, refl, sym, ap, ◌∙◌, append_assoc, append-nil, subst}
use Rattle.std.specs.Prelude.{flat_map}
use Rattle.wc_lexer.specs.declared.token.Token.{Token}
use Rattle.wc_lexer.specs.declared.token.Token.TheVariants as token
use Rattle.wc_lexer.specs.declared.token.Word.{Word}
use Rattle.wc_lexer.specs.declared.token.Word.TheVariants as word
use Rattle.wc_lexer.specs.declared.token.Symbol.TheVariants as symbol
use Rattle.wc_value.specs.declared.value.Kind.{Kind}
use Rattle.wc_syntax.specs.declared.expression.Name.{Name}
use Rattle.wc_syntax.specs.declared.expression.Number.{Number}
use Rattle.wc_syntax.specs.declared.expression.Quoted.{Quoted}
use Rattle.wc_syntax.specs.declared.expression.Expr.{Expr}
use Rattle.wc_syntax.specs.declared.definition.Head.{Head}
use Rattle.wc_syntax.specs.declared.definition.ExitCode.{ExitCode}
use Rattle.wc_syntax.specs.declared.definition.JobLine.{JobLine}
use Rattle.wc_syntax.specs.declared.definition.JobFile.{JobFile}
use Rattle.wc_syntax.specs.declared.definition.Exit.{Exit}
use Rattle.wc_syntax.specs.declared.outline.CallArg.{CallArg}
use Rattle.wc_syntax.specs.declared.outline.CallStmt.{CallStmt}
use Rattle.wc_grammar.specs.Kinds.{S_COMMA, kind}
use Rattle.wc_grammar.specs.Rules.{Rule, Many, Flag, Between}
use Rattle.wc_reader.specs.Parts.{types, Ports, PortLists, ExitCodes, Exits, Sets}
use Rattle.wc_reader.specs.Outlines.{Args, ways, Targets, Calls}
use Rattle.wc_reader.specs.Grammar.{Heads, JobLines, JobFiles, Fetches}
use Rattle.wc_parser.specs.PrintedTokens as print
use Rattle.wc_parser.specs.PrintedTokens.{Tokens}
use Rattle.wc_parser.proofs.TokenKinds.{token_of}
use Rattle.wc_parser.proofs.Derived.{Holds, holds_more, done_holds, either_holds, seq_holds, as_holds, first_says, sign_then, sign_last, name_then}
use Rattle.wc_parser.proofs.Derived.{number_then, text_then, Words, pick_says, pick_then, many_hold, between_holds, SomeWith, maybe_then}
use Rattle.wc_parser.proofs.Expressions.{w, s, round, member_then}

-- ---- lists
pub separated_more : {A : Type 0} (f : A → Tokens) (xs : List A) (x : A)
    → print.separated false f (xs ++ x ∷ []) ≡ print.separated false f xs ++ s symbol.Comma ∷ f x
separated_more f [] x = ap (λ z. s symbol.Comma ∷ z) (append-nil (f x))
separated_more f (y ∷ xs) x = ap (λ z. s symbol.Comma ∷ z)
    (ap (λ z. f y ++ z) (separated_more f xs x) ∙ sym (append_assoc (f y) (print.separated false f xs) (s symbol.Comma ∷ f x)))

pub row_is : {A : Type 0} (f : A → Tokens) (ts : Tokens) (xs : List A) → s symbol.Comma ∷ ts ≡ print.separated false f xs → ts ≡ print.items f xs
row_is f ts [] e = absurd (cc)
row_is f ts (x ∷ xs) e = cc

pub flat_more : {A : Type 0} (f : A → Tokens) (xs : List A) (x : A) → flat_map f (xs ++ x ∷ []) ≡ flat_map f xs ++ f x
flat_more f [] x = append-nil (f x)
flat_more f (y ∷ xs) x = ap (λ z. f y ++ z) (flat_more f xs x) ∙ sym (append_assoc (f y) (flat_map f xs) (f x))

-- all tokens of a list are said where those of its items are
pub many_says : {A : Type 0} {R : Rule A} (n : ℕ) (f : A → Tokens) → Holds (λ ts x. ts ≡ f x) R → Holds (λ ts xs. ts ≡ flat_map f xs) (Many n R)
many_says n f r = many_hold n (λ ts x. ts ≡ f x) (λ ts xs. ts ≡ flat_map f xs) refl
    (λ front xs ts x h k. ap (λ z. z ++ ts) h ∙ ap (λ z. flat_map f xs ++ z) k ∙ sym (flat_more f xs x)) r

pub between_says : {A : Type 0} {R : Rule A} (n : ℕ) (f : A → Tokens) → Holds (λ ts x. ts ≡ f x) R → Holds (λ ts xs. ts ≡ print.items f xs) (Between n S_COMMA R)
between_says n f r = between_holds n (λ ts x. ts ≡ f x) (λ ts xs. s symbol.Comma ∷ ts ≡ print.separated false f xs) (s symbol.Comma) refl refl
    (row_is f) (λ ts x h. ap (λ z. s symbol.Comma ∷ z) (h ∙ sym (append-nil (f x))))
    (λ front xs ts x h k. ap (λ z. z ++ s symbol.Comma ∷ ts) h ∙ ap (λ z. print.separated false f xs ++ s symbol.Comma ∷ z) k ∙ sym (separated_more f xs x)) r

-- ---- heads
flag_says : (u : Token) → token_of (kind u) ≡ Some u → Holds (λ ts b. ts ≡ (if b then u ∷ [] else [])) (Flag (kind u))
flag_says u e = either_holds (sign_last u e (λ _. refl)) (done_holds refl)

type_words : Words print.kind_word types
type_words = (
  w word.Int,
  refl,
  refl,
  (
    w word.Bool,
    refl,
    refl,
    (
      w word.Text,
      refl,
      refl,
      (
        w word.List,
        refl,
        refl,
        (w word.Dict, refl, refl, (w word.Folder, refl, refl, tt)),
      ),
    ),
  ),
)

port_form : (n : Name) (o : Bool) (k : Tokens) → token.Name n.text ∷ ((if o then s symbol.Question ∷ [] else []) ++ s symbol.Colon ∷ k)
    ≡ token.Name n.text ∷ (((if o then s symbol.Question ∷ [] else []) ++ s symbol.Colon ∷ []) ++ k)
port_form n true k = refl
port_form n false k = refl

port_says : Holds (λ ts p. ts ≡ print.port_tokens p) Ports
port_says = name_then (λ x. first_says (λ o. if o then s symbol.Question ∷ [] else []) (flag_says (s symbol.Question) refl)
    (λ o. sign_then (s symbol.Colon) refl (λ _. as_holds (holds_more (λ ts (k : Kind × ℕ). ts ≡ print.kind_word k.0)
    (λ ts (k : Kind × ℕ). token.Name x.text ∷ ((if o then s symbol.Question ∷ [] else []) ++ s symbol.Colon ∷ ts)
    ≡ print.port_tokens (record { at = x.at; name = x; optional = o; kind = k.0 }))
    (λ ts (k : Kind × ℕ) h. port_form x o ts ∙ ap (λ z. token.Name x.text ∷ (((if o then s symbol.Question ∷ [] else []) ++ s symbol.Colon ∷ []) ++ z)) h)
    (pick_says print.kind_word types type_words)))))

ports_say : (n : ℕ) → Holds (λ ts ps. ts ≡ print.ports_tokens ps) (PortLists n)
ports_say n = sign_then (s symbol.Open) refl (λ _. first_says (print.items print.port_tokens) (between_says n print.port_tokens port_says)
    (λ ps. sign_last (s symbol.Close) refl (λ _. refl)))

code_says : Holds (λ ts c. ts ≡ print.code_tokens c) ExitCodes
code_says = sign_then (w word.ExitCode) refl (λ at. number_then (λ x. text_then (λ m.
    first_says (λ i. if i then w word.Invalidates ∷ [] else []) (flag_says (w word.Invalidates) refl) (λ i. sign_last (s symbol.Semi) refl (λ _. refl)))))

-- a head's tokens from the right
abbrev pub head_form : Word → Head → Tokens
head_form u h = w u ∷ token.Name h.name.text
    ∷ (print.ports_tokens h.inputs ++ s symbol.Arrow ∷ (print.ports_tokens h.outputs ++ s symbol.OpenBrace ∷ flat_map print.code_tokens h.codes))

pub from_right : (a b c d e : Tokens) → (((a ++ b) ++ c) ++ d) ++ e ≡ a ++ (b ++ (c ++ (d ++ e)))
from_right a b c d e = append_assoc ((a ++ b) ++ c) d e ∙ append_assoc (a ++ b) c (d ++ e) ∙ append_assoc a b (c ++ (d ++ e))

pub head_is : (u : Word) (h : Head) → print.head_tokens u h ≡ head_form u h
head_is u h = ap (λ z. w u ∷ token.Name h.name.text ∷ z)
    (from_right (print.ports_tokens h.inputs) (s symbol.Arrow ∷ []) (print.ports_tokens h.outputs) (s symbol.OpenBrace ∷ []) (flat_map print.code_tokens h.codes))

-- A head's own tokens are those of its printed form.
pub head_says : (n : ℕ) (u : Word) → token_of (kind (w u)) ≡ Some (w u) → Holds (λ ts h. ts ≡ head_form u h) (Heads n (kind (w u)))
head_says n u e = sign_then (w u) e (λ at. name_then (λ x. first_says print.ports_tokens (ports_say n) (λ ins. sign_then (s symbol.Arrow) refl (λ _.
    first_says print.ports_tokens (ports_say n) (λ outs. sign_then (s symbol.OpenBrace) refl (λ _. as_holds (holds_more (λ ts (cs : List ExitCode). ts ≡ flat_map print.code_tokens cs)
    (λ ts (cs : List ExitCode). w u ∷ token.Name x.text ∷ (print.ports_tokens ins ++ s symbol.Arrow ∷ (print.ports_tokens outs ++ s symbol.OpenBrace ∷ ts))
    ≡ head_form u (record { at = at; name = x; inputs = ins; outputs = outs; codes = cs }))
    (λ ts cs h. ap (λ z. w u ∷ token.Name x.text ∷ (print.ports_tokens ins ++ s symbol.Arrow ∷ (print.ports_tokens outs ++ s symbol.OpenBrace ∷ z))) h)
    (many_says n print.code_tokens code_says))))))))

pub fetch_says : Holds (λ ts f. ts ≡ print.fetch_tokens f) Fetches
fetch_says = sign_then (w word.Fetch) refl (λ at. text_then (λ x. sign_last (s symbol.Semi) refl (λ _. refl)))

-- ---- lines with an expression
abbrev Under {ℓ} : (Tokens → Expr → Type ℓ) → Tokens → Expr → Type ℓ
Under P ts e = (inner : Tokens) × (ts ≡ w word.If ∷ inner) × P inner e

-- an `exit` line, with or without a condition
pub exit_holds {ℓ κ} : {E : Rule Expr} {Q : Tokens → Exit → Type ℓ} (P : Tokens → Expr → Type κ)
    → ((at : ℕ) (n : Number) → Q (w word.Exit ∷ token.Number n.value ∷ s symbol.Semi ∷ []) (record { at = at; status = n; condition = None }))
    → ((at : ℕ) (n : Number) (ts : Tokens) (e : Expr) → P ts e
    → Q (w word.Exit ∷ token.Number n.value ∷ w word.If ∷ (ts ++ s symbol.Semi ∷ [])) (record { at = at; status = n; condition = Some e }))
    → Holds P E → Holds Q (Exits E)
exit_holds {Q = Q} P always under h = sign_then (w word.Exit) refl (λ at. number_then (λ n. maybe_then (Under P)
    (sign_then (w word.If) refl (λ _. as_holds (holds_more P (λ ts e. SomeWith (Under P) (w word.If ∷ ts) (Some e)) (λ ts e k. (e, refl, (ts, refl, k))) h)))
    (λ front e k. sign_last (s symbol.Semi) refl (λ _.
    subst (λ z. Q (w word.Exit ∷ token.Number n.value ∷ (z ++ s symbol.Semi ∷ [])) (record { at = at; status = n; condition = Some e })) (sym k.1) (under at n k.0 e k.2)))
    (sign_last (s symbol.Semi) refl (λ _. always at n))))

-- a word, a name and an expression
pub set_holds {ℓ κ} : {E : Rule Expr} {Q : Tokens → ℕ × Name × Expr → Type ℓ} (P : Tokens → Expr → Type κ) (u : Token) → token_of (kind u) ≡ Some u
    → ((at : ℕ) (n : Name) (ts : Tokens) (e : Expr) → P ts e → Q (u ∷ token.Name n.text ∷ s symbol.Is ∷ (ts ++ s symbol.Semi ∷ [])) (at, n, e))
    → Holds P E → Holds Q (Sets (kind u) E)
set_holds P u i set h = sign_then u i (λ at. name_then (λ n. sign_then (s symbol.Is) refl (λ _. seq_holds P h (λ front e l. sign_last (s symbol.Semi) refl (λ _. set at n front e l)))))

pub line_holds {ℓ κ} : {E : Rule Expr} {Q : Tokens → JobLine → Type ℓ} (P : Tokens → Expr → Type κ) (u : Token) → token_of (kind u) ≡ Some u
    → ((at : ℕ) (ts : Tokens) (e : Expr) → P ts e → Q (u ∷ (ts ++ s symbol.Semi ∷ [])) (record { at = at; value = e }))
    → Holds P E → Holds Q (JobLines (kind u) E)
line_holds P u i put h = sign_then u i (λ at. seq_holds P h (λ front e l. sign_last (s symbol.Semi) refl (λ _. put at front e l)))

pub file_holds {ℓ κ} : {E : Rule Expr} {Q : Tokens → JobFile → Type ℓ} (P : Tokens → Expr → Type κ)
    → ((at : ℕ) (x : Quoted) (ts : Tokens) (e : Expr) → P ts e → Q (w word.File ∷ token.Quoted x.text ∷ s symbol.Is ∷ (ts ++ s symbol.Semi ∷ [])) (record { at = at; name = x; value = e }))
    → Holds P E → Holds Q (JobFiles E)
file_holds P put h = sign_then (w word.File) refl (λ at. text_then (λ x. sign_then (s symbol.Is) refl (λ _. seq_holds P h (λ front e l. sign_last (s symbol.Semi) refl (λ _. put at x front e l)))))

-- ---- calls
pub arg_holds {ℓ κ} : {E : Rule Expr} {Q : Tokens → CallArg → Type ℓ} (P : Tokens → Expr → Type κ)
    → ((n : Name) (ts : Tokens) (e : Expr) → P ts e → Q (token.Name n.text ∷ s symbol.Colon ∷ ts) (record { port = n; value = e }))
    → Holds P E → Holds Q (Args E)
arg_holds {Q = Q} P put h = name_then (λ n. sign_then (s symbol.Colon) refl (λ _. as_holds
    (holds_more P (λ ts e. Q (token.Name n.text ∷ s symbol.Colon ∷ ts) (record { port = n; value = e })) (λ ts e k. put n ts e k) h)))

way_words : Words print.way_word ways
way_words = (w word.To, refl, refl, (w word.Append, refl, refl, tt))

-- where a call's child is kept, to the end of the statement
abbrev pub target : Bool → Name → Tokens
target append key = print.way_word append ++ (print.context key ++ s symbol.Semi ∷ [])

target_says : Holds (λ ts t. ts ≡ target t.0 t.1) Targets
target_says = pick_then print.way_word ways way_words (λ p. member_then (w word.Ctx) refl (λ c. sign_last (s symbol.Semi) refl (λ _. refl)))

-- a call with its arguments
pub call_holds {ℓ κ} : {E : Rule Expr} {Q : Tokens → CallStmt → Type ℓ} (n : ℕ) (P : Tokens → List CallArg → Type κ)
    → ((at : ℕ) (x : Name) (ts : Tokens) (xs : List CallArg) (append : Bool) (key : Name) → P ts xs
    → Q (w word.Call ∷ token.Name x.text ∷ (round ts ++ target append key)) (record { at = at; callee = x; args = xs; append = append; key = key }))
    → Holds P (Between n S_COMMA (Args E)) → Holds Q (Calls n E)
call_holds {Q = Q} n P call h = sign_then (w word.Call) refl (λ at. name_then (λ x. sign_then (s symbol.Open) refl (λ _. seq_holds P h (λ front xs k.
    sign_then (s symbol.Close) refl (λ _. as_holds (holds_more (λ ts t. ts ≡ target t.0 t.1)
    (λ ts t. Q (w word.Call ∷ token.Name x.text ∷ s symbol.Open ∷ (front ++ s symbol.Close ∷ ts)) (record { at = at; callee = x; args = xs; append = t.0; key = t.1 }))
    (λ ts t e. subst (λ z. Q (w word.Call ∷ token.Name x.text ∷ s symbol.Open ∷ z) (record { at = at; callee = x; args = xs; append = t.0; key = t.1 }))
    (append_assoc front (s symbol.Close ∷ []) (target t.0 t.1) ∙ ap (λ z. front ++ s symbol.Close ∷ z) (sym e)) (call at x front xs t.0 t.1 k)) target_says))))))
