-- The laws of each rule of the grammar.
use Rattle.std.proofs.Common.{◌≡◌, ℕ, zero, suc, List, [], ◌∷◌, true, false, Some, None, refl}
use Rattle.wc_lexer.specs.declared.token.Token.{Token}
use Rattle.wc_lexer.specs.declared.token.Token.TheVariants as token
use Rattle.wc_syntax.specs.declared.expression.Name.{Name}
use Rattle.wc_syntax.specs.declared.expression.Number.{Number}
use Rattle.wc_syntax.specs.declared.expression.Quoted.{Quoted}
use Rattle.wc_syntax.specs.declared.expression.ChildPart.TheVariants as part
use Rattle.wc_syntax.specs.declared.expression.Expr.{Expr}
use Rattle.wc_syntax.specs.declared.expression.Form.TheVariants as form
use Rattle.wc_grammar.specs.Kinds.{K_NAME, K_NUMBER, K_QUOTED, W_INPUTS, W_CTX, W_OUTPUTS, W_STATUS, W_OK, W_GIVEN, W_COUNT, W_OR, W_AND, S_DOT, S_OPEN, S_CLOSE, S_OPEN_SQUARE, S_CLOSE_SQUARE, S_COMMA, S_EQUAL, S_DIFFERS, S_LESS, S_AT_MOST, S_GREATER, S_AT_LEAST, S_PLUS, S_MINUS, S_STAR, S_SLASH, S_PERCENT}
use Rattle.std.specs.Prelude.{pos}
use Rattle.wc_lexer.specs.declared.token.Word.{Word}
use Rattle.wc_lexer.specs.declared.token.Symbol.{Symbol}
use Rattle.wc_lexer.specs.declared.token.Word.TheVariants as word
use Rattle.wc_lexer.specs.declared.token.Symbol.TheVariants as symbol
use Rattle.wc_grammar.specs.Kinds.{kind}
use Rattle.wc_grammar.specs.Rules.{Rule, Reader, Never, Done, Either, keys, As, mem, deep}
use Rattle.wc_grammar.specs.Grammar.{name_in, named, number_in, numbered, quoted_in, quoted, truths, ones, twos, unaries, ors, ands, compares, sums, products, expr, binary, in_brackets, NAME, NUMBER, TEXT, Member, Index, Part, Path, Given, Count, OneArg, TwoArgs, Brackets, Listed, Nested, Primary, Unary, Compare, Level, Exprs}
use Rattle.wc_grammar.specs.Reading.{name_at, number_at, text_at, NESTED, PRIMARY, EXPR, member_at, index_at, part_at, some_index_at, path_at, given_at, count_at, one_arg_at, two_args_at, brackets_at, listed_at, nested_in, primary_at, unary_at, compare_at, level_at, expr_at}
use Rattle.wc_grammar.proofs.Laws.{Law, Fine, fine_done, law_never, fine_one, fine_seq, law_after, law_either, fine_either, law_wide, fine_wide, law_as, fine_as, fine_sign, fine_between, fine_pick, fine_chain}

-- ---- tokens
is_name : (t : Token) (at : ℕ) (a : Name) → name_in t at ≡ Some a → mem (kind t) (K_NAME ∷ []) ≡ true
is_name (token.Name x) at a e = refl
is_name _ at a e = absurd (cc)

pub fine_name : (m : ℕ) → Fine (K_NAME ∷ []) false [] m NAME name_at name_at
fine_name m = fine_one m (K_NAME ∷ []) named (λ t a e. is_name t.0 t.1 a e) (token.Name [], 0) _ refl

is_number : (t : Token) (at : ℕ) (a : Number) → number_in t at ≡ Some a → mem (kind t) (K_NUMBER ∷ []) ≡ true
is_number (token.Number x) at a e = refl
is_number _ at a e = absurd (cc)

pub fine_number : (m : ℕ) → Fine (K_NUMBER ∷ []) false [] m NUMBER number_at number_at
fine_number m = fine_one m (K_NUMBER ∷ []) numbered (λ t a e. is_number t.0 t.1 a e) (token.Number (pos 0), 0) _ refl

is_text : (t : Token) (at : ℕ) (a : Quoted) → quoted_in t at ≡ Some a → mem (kind t) (K_QUOTED ∷ []) ≡ true
is_text (token.Quoted x) at a e = refl
is_text _ at a e = absurd (cc)

pub fine_text : (m : ℕ) → Fine (K_QUOTED ∷ []) false [] m TEXT text_at text_at
fine_text m = fine_one m (K_QUOTED ∷ []) quoted (λ t a e. is_text t.0 t.1 a e) (token.Quoted [], 0) _ refl

abbrev pub w : Word → Token
w x = token.Word x

abbrev pub s : Symbol → Token
s x = token.Symbol x

-- ---- expressions
inputs_law : (m : ℕ) → Fine (W_INPUTS ∷ []) false [] m (Member W_INPUTS) (member_at W_INPUTS) (member_at W_INPUTS)
inputs_law m = fine_seq (fine_sign m W_INPUTS (w word.Inputs) refl) (λ at. fine_seq (fine_sign m S_DOT (s symbol.Dot) refl) (λ _. fine_as (λ x. (at, x)) (fine_name m)) refl) refl

pub ctx_law : (m : ℕ) → Fine (W_CTX ∷ []) false [] m (Member W_CTX) (member_at W_CTX) (member_at W_CTX)
ctx_law m = fine_seq (fine_sign m W_CTX (w word.Ctx) refl) (λ at. fine_seq (fine_sign m S_DOT (s symbol.Dot) refl) (λ _. fine_as (λ x. (at, x)) (fine_name m)) refl) refl

part_law : (m : ℕ) → Fine (W_OUTPUTS ∷ W_STATUS ∷ W_OK ∷ []) false [] m Part part_at part_at
part_law m = fine_either (W_OUTPUTS ∷ []) (fine_seq (fine_sign m W_OUTPUTS (w word.Outputs) refl) (λ _. fine_seq (fine_sign m S_DOT (s symbol.Dot) refl) (λ _. fine_as part.Outputs (fine_name m)) refl) refl).law
    (fine_either (W_STATUS ∷ []) (fine_as (λ _. part.Status) (fine_sign m W_STATUS (w word.Status) refl)).law (fine_as (λ _. part.Ok) (fine_sign m W_OK (w word.Ok) refl)) refl refl) refl refl

abbrev PATH : List ℕ
PATH = S_OPEN_SQUARE ∷ S_DOT ∷ []

some_index_law : {I : Rule Expr} {i i' : Reader Expr} {m : ℕ} → Law (S_OPEN_SQUARE ∷ []) false [] m I i i'
    → Fine (S_OPEN_SQUARE ∷ []) true (S_OPEN_SQUARE ∷ []) m (Either (As I Some) (Done None)) (some_index_at i) (some_index_at i')
some_index_law {m = m} l = fine_either (S_OPEN_SQUARE ∷ []) (law_as Some l) (fine_done m None) refl refl

path_law : {I : Rule Expr} {i i' : Reader Expr} {m : ℕ} → Law (S_OPEN_SQUARE ∷ []) false [] m I i i' → Fine (W_CTX ∷ []) false PATH m (Path I) (path_at i) (path_at i')
path_law {m = m} l = fine_wide (W_CTX ∷ []) PATH (fine_seq (ctx_law m) (λ c. fine_either PATH
    (fine_seq (some_index_law l) (λ x. fine_seq (fine_sign m S_DOT (s symbol.Dot) refl) (λ _. fine_as (λ p. expr c.0 (form.Child c.0 c.1 x p)) (part_law m)) refl) refl).law
    (fine_done m (expr c.0 (form.Plain c.0 c.1))) refl refl) refl) refl refl

given_law : (m : ℕ) → Fine (W_GIVEN ∷ []) false [] m Given given_at given_at
given_law m = fine_seq (fine_sign m W_GIVEN (w word.Given) refl) (λ at. fine_seq (fine_sign m S_OPEN (s symbol.Open) refl) (λ _. fine_seq
    (fine_either (K_NAME ∷ []) (fine_as (λ x. expr at (form.GivenBare x)) (fine_name m)).law (fine_as (λ c. expr at (form.GivenInput c.0 c.1)) (inputs_law m)) refl refl)
    (λ e. fine_as (λ _. e) (fine_sign m S_CLOSE (s symbol.Close) refl)) refl) refl) refl

count_law : (m : ℕ) → Fine (W_COUNT ∷ []) false [] m Count count_at count_at
count_law m = fine_seq (fine_sign m W_COUNT (w word.Count) refl) (λ at. fine_seq (fine_sign m S_OPEN (s symbol.Open) refl) (λ _. fine_seq (ctx_law m)
    (λ c. fine_as (λ _. expr at (form.Count c.0 c.1)) (fine_sign m S_CLOSE (s symbol.Close) refl)) refl) refl) refl

primary_law : {N I : Rule Expr} {b b' i i' : Reader Expr} {m : ℕ} → Law NESTED false [] m N b b' → Law (S_OPEN_SQUARE ∷ []) false [] m I i i'
    → Fine PRIMARY false PATH m (Primary N I) (primary_at b i) (primary_at b' i')
primary_law {m = m} l k = fine_wide PRIMARY PATH (fine_either NESTED l
    (fine_either (K_NUMBER ∷ []) (fine_as (λ x. expr x.at (form.Number x)) (fine_number m)).law
    (fine_either (K_QUOTED ∷ []) (fine_as (λ x. expr x.at (form.Quoted x)) (fine_text m)).law
    (fine_either (keys truths) (fine_as (λ b. expr b.1 (form.Truth b.0)) (fine_pick m truths (w word.True) (true, 0) refl)).law
    (fine_either (W_INPUTS ∷ []) (fine_as (λ c. expr c.0 (form.Input c.0 c.1)) (inputs_law m)).law
    (fine_either (W_CTX ∷ []) (path_law k).law (fine_either (W_GIVEN ∷ []) (given_law m).law (fine_either (W_COUNT ∷ []) (count_law m).law
    (fine_as (λ x. expr x.at (form.Bare x)) (fine_name m)) refl refl) refl refl) refl refl) refl refl) refl refl) refl refl) refl refl) refl refl) refl refl

unary_law : {P : Rule Expr} {p p' : Reader Expr} {m : ℕ} → Fine PRIMARY false PATH m P p p' → Fine EXPR false PATH m (Unary P) (unary_at p) (unary_at p')
unary_law {m = m} l = fine_wide EXPR PATH (fine_either (keys unaries) (fine_seq (fine_pick m unaries (s symbol.Minus) _ refl) (λ o. fine_as (λ e. expr o.1 (form.Unary o.0 e)) l) refl).law l refl refl) refl refl

-- what an expression may go on with
abbrev pub MORE : List ℕ
MORE = S_OPEN_SQUARE ∷ S_DOT ∷ S_STAR ∷ S_SLASH ∷ S_PERCENT ∷ S_PLUS ∷ S_MINUS ∷ S_EQUAL ∷ S_DIFFERS ∷ S_LESS ∷ S_AT_MOST ∷ S_GREATER ∷ S_AT_LEAST ∷ W_AND ∷ W_OR ∷ []

abbrev SUM : List ℕ
SUM = S_OPEN_SQUARE ∷ S_DOT ∷ S_STAR ∷ S_SLASH ∷ S_PERCENT ∷ S_PLUS ∷ S_MINUS ∷ []

abbrev COMPARE : List ℕ
COMPARE = S_OPEN_SQUARE ∷ S_DOT ∷ S_STAR ∷ S_SLASH ∷ S_PERCENT ∷ S_PLUS ∷ S_MINUS ∷ S_EQUAL ∷ S_DIFFERS ∷ S_LESS ∷ S_AT_MOST ∷ S_GREATER ∷ S_AT_LEAST ∷ []

compare_law : {E : Rule Expr} {e e' : Reader Expr} {m : ℕ} → Fine EXPR false SUM m E e e' → Fine EXPR false COMPARE m (Compare E) (compare_at e) (compare_at e')
compare_law {m = m} l = fine_wide EXPR COMPARE (fine_seq l (λ a. fine_either (keys compares)
    (fine_seq (fine_pick m compares (s symbol.Less) _ refl) (λ o. fine_as (λ b. binary o.0 a b) l) refl).law (fine_done m a) refl refl) refl) refl refl

level_law : {N I : Rule Expr} {b b' i i' : Reader Expr} (n : ℕ) → Law NESTED false [] n N b b' → Law (S_OPEN_SQUARE ∷ []) false [] n I i i'
    → Fine EXPR false MORE n (Level n N I) (level_at n b i) (level_at (suc n) b' i')
level_law n l k =
    let product = fine_chain n products binary (s symbol.Star) _ refl (unary_law (primary_law l k)) refl in
    let sum = fine_wide EXPR SUM (fine_chain n sums binary (s symbol.Plus) _ refl product refl) refl refl in
    let all_of = fine_chain n ands binary (w word.And) _ refl (compare_law sum) refl in
    fine_wide EXPR MORE (fine_chain n ors binary (w word.Or) _ refl all_of refl) refl refl

one_arg_law : {E : Rule Expr} {e e' : Reader Expr} {m : ℕ} → Fine EXPR false MORE m E e e' → Law (keys ones) false [] (suc m) (OneArg E) (one_arg_at e) (one_arg_at e')
one_arg_law {m = m} l = law_after (fine_pick (suc m) ones (w word.Len) _ refl) (λ o. fine_seq (fine_sign m S_OPEN (s symbol.Open) refl) (λ _. fine_seq l
    (λ x. fine_as (λ _. expr o.1 (form.One o.0 x)) (fine_sign m S_CLOSE (s symbol.Close) refl)) refl) refl) refl

two_args_law : {E : Rule Expr} {e e' : Reader Expr} {m : ℕ} → Fine EXPR false MORE m E e e' → Law (keys twos) false [] (suc m) (TwoArgs E) (two_args_at e) (two_args_at e')
two_args_law {m = m} l = law_after (fine_pick (suc m) twos (w word.Get) _ refl) (λ o. fine_seq (fine_sign m S_OPEN (s symbol.Open) refl) (λ _. fine_seq l
    (λ a. fine_seq (fine_sign m S_COMMA (s symbol.Comma) refl) (λ _. fine_seq l (λ b. fine_as (λ _. expr o.1 (form.Two o.0 a b)) (fine_sign m S_CLOSE (s symbol.Close) refl)) refl) refl) refl) refl) refl

brackets_law : {E : Rule Expr} {e e' : Reader Expr} {m : ℕ} → Fine EXPR false MORE m E e e' → Law (S_OPEN ∷ []) false [] (suc m) (Brackets E) (brackets_at e) (brackets_at e')
brackets_law {m = m} l = law_after (fine_sign (suc m) S_OPEN (s symbol.Open) refl) (λ at. fine_seq l (λ x. fine_as (λ _. in_brackets at x) (fine_sign m S_CLOSE (s symbol.Close) refl)) refl) refl

listed_law : {E : Rule Expr} {e e' : Reader Expr} (n : ℕ) → Fine EXPR false MORE n E e e' → Law (S_OPEN_SQUARE ∷ []) false [] (suc n) (Listed n E) (listed_at n e) (listed_at (suc n) e')
listed_law n l = law_after (fine_sign (suc n) S_OPEN_SQUARE (s symbol.OpenSquare) refl) (λ at. fine_seq (fine_between n S_COMMA (s symbol.Comma) EXPR refl l refl refl)
    (λ es. fine_as (λ _. expr at (form.List es)) (fine_sign n S_CLOSE_SQUARE (s symbol.CloseSquare) refl)) refl) refl

index_law : {E : Rule Expr} {e e' : Reader Expr} {m : ℕ} → Fine EXPR false MORE m E e e' → Law (S_OPEN_SQUARE ∷ []) false [] (suc m) (Index E) (index_at e) (index_at e')
index_law {m = m} l = law_after (fine_sign (suc m) S_OPEN_SQUARE (s symbol.OpenSquare) refl) (λ _. fine_seq l (λ x. fine_as (λ _. x) (fine_sign m S_CLOSE_SQUARE (s symbol.CloseSquare) refl)) refl) refl

nested_law : {E : Rule Expr} {e e' : Reader Expr} (n : ℕ) → Fine EXPR false MORE n E e e' → Law NESTED false [] (suc n) (Nested n E) (nested_in n e) (nested_in (suc n) e')
nested_law n l = law_either (keys ones) (one_arg_law l) (law_either (keys twos) (two_args_law l) (law_either (S_OPEN ∷ []) (brackets_law l) (listed_law n l) refl refl) refl refl) refl refl

pub none_law : {A : Type 0} (f : List ℕ) (p' : Reader A) → Law f false [] 0 Never deep p'
none_law f p' = law_wide f [] (law_never p') refl refl

pub expr_law : (n : ℕ) → Fine EXPR false MORE n (Exprs n) (expr_at n) (expr_at (suc n))
expr_law zero = level_law zero (none_law NESTED _) (none_law (S_OPEN_SQUARE ∷ []) _)
expr_law (suc n) = level_law (suc n) (nested_law n (expr_law n)) (index_law (expr_law n))
