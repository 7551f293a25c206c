-- The same grammar, read from the left by one token ahead.
use Rattle.std.specs.Prelude.{ℕ, zero, suc, ◌≡◌, List, [], ◌∷◌, Option, Some, None, Result, Ok, Err}
use Rattle.wc_syntax.specs.declared.expression.Name.{Name}
use Rattle.wc_syntax.specs.declared.expression.Number.{Number}
use Rattle.wc_syntax.specs.declared.expression.Quoted.{Quoted}
use Rattle.wc_syntax.specs.declared.expression.ChildPart.{ChildPart}
use Rattle.wc_syntax.specs.declared.expression.ChildPart.TheVariants as part
use Rattle.wc_syntax.specs.declared.expression.Expr.{Expr}
use Rattle.wc_syntax.specs.declared.expression.Form.TheVariants as form
use Rattle.wc_grammar.specs.Kinds.{K_NAME, K_NUMBER, K_QUOTED, W_TRUE, W_FALSE, W_INPUTS, W_CTX, W_OUTPUTS, W_STATUS, W_OK, W_TEXT, W_INT, W_TRIM, W_LEN, W_GET, W_HAS, W_FILE, W_LINE, W_CONTAINS, W_MIN, W_MAX, W_GIVEN, W_COUNT, W_NOT, S_DOT, S_OPEN, S_CLOSE, S_OPEN_SQUARE, S_CLOSE_SQUARE, S_COMMA, S_MINUS}
use Rattle.wc_grammar.specs.declared.fault.Fault.{Fault}
use Rattle.wc_grammar.specs.declared.fault.Fault.TheVariants.{OutOfMemory}
use Rattle.wc_grammar.specs.Rules.{Reader, done, deep, one, seq, either, as_at, sign_at, between_at, pick_at, keys, chain_at}
use Rattle.wc_grammar.specs.Grammar.{named, numbered, quoted, truths, ones, twos, unaries, ors, ands, compares, sums, products, expr, binary, in_brackets}

-- what was returned is what reading gives, unless memory ran out
abbrev pub Fails : {X : Type 0} → Fault → Result X Fault → Type 0
Fails OutOfMemory read = Unit {0}
Fails e read = read ≡ Err e

-- a call gave what the reading gives, seen so, or failed as it does
abbrev pub Gives : {X Y : Type 0} → (X → Y) → Result X Fault → Result Y Fault → Type 0
Gives view (Ok x) read = read ≡ Ok (view x)
Gives view (Err e) read = Fails e read

-- the reading of a name
abbrev pub name_at : Reader Name
name_at = one named

-- the reading of a number
abbrev pub number_at : Reader Number
number_at = one numbered

-- the reading of a text in quotes
abbrev pub text_at : Reader Quoted
text_at = one quoted

-- ---- expressions
-- the kinds of tokens with which an expression with others inside begins
abbrev pub NESTED : List ℕ
NESTED = W_TEXT ∷ W_INT ∷ W_TRIM ∷ W_LEN ∷ W_GET ∷ W_HAS ∷ W_FILE ∷ W_LINE ∷ W_CONTAINS ∷ W_MIN ∷ W_MAX ∷ S_OPEN ∷ S_OPEN_SQUARE ∷ []

-- the kinds of tokens with which an expression without an operator in front begins
abbrev pub PRIMARY : List ℕ
PRIMARY = K_NAME ∷ K_NUMBER ∷ K_QUOTED ∷ W_TRUE ∷ W_FALSE ∷ W_INPUTS ∷ W_CTX ∷ W_GIVEN ∷ W_COUNT ∷ NESTED

-- the kinds that begin an expression
abbrev pub EXPR : List ℕ
EXPR = S_MINUS ∷ W_NOT ∷ PRIMARY

-- what tokens are read as by the rule `Member`, with the tokens behind it, or the first fault
abbrev pub member_at : ℕ → Reader (ℕ × Name)
member_at w = seq (sign_at w) (λ at. seq (sign_at S_DOT) (λ _. as_at name_at (λ x. (at, x))))

-- what tokens are read as by the rule `Index`, with the tokens behind it, or the first fault
abbrev pub index_at : Reader Expr → Reader Expr
index_at e = seq (sign_at S_OPEN_SQUARE) (λ _. seq e (λ x. as_at (sign_at S_CLOSE_SQUARE) (λ _. x)))

-- what tokens are read as by the rule `Part`, with the tokens behind it, or the first fault
abbrev pub part_at : Reader ChildPart
part_at = either (W_OUTPUTS ∷ []) (seq (sign_at W_OUTPUTS) (λ _. seq (sign_at S_DOT) (λ _. as_at name_at part.Outputs)))
    (either (W_STATUS ∷ []) (as_at (sign_at W_STATUS) (λ _. part.Status)) (as_at (sign_at W_OK) (λ _. part.Ok)))

-- the reading of an index in square brackets, or of none
abbrev pub some_index_at : Reader Expr → Reader (Option Expr)
some_index_at i = either (S_OPEN_SQUARE ∷ []) (as_at i Some) (done None)

-- the reading of what is asked of a child, behind its key
abbrev pub child_at : Reader Expr → ℕ × Name → Reader Expr
child_at i c = seq (some_index_at i) (λ x. seq (sign_at S_DOT) (λ _. as_at part_at (λ p. expr c.0 (form.Child c.0 c.1 x p))))

-- what tokens are read as by the rule `Path`, with the tokens behind it, or the first fault
abbrev pub path_at : Reader Expr → Reader Expr
path_at i = seq (member_at W_CTX) (λ c. either (S_OPEN_SQUARE ∷ S_DOT ∷ []) (child_at i c) (done (expr c.0 (form.Plain c.0 c.1))))

-- the reading of what stands in the brackets of `given`
abbrev pub asked_at : ℕ → Reader Expr
asked_at at = either (K_NAME ∷ []) (as_at name_at (λ x. expr at (form.GivenBare x))) (as_at (member_at W_INPUTS) (λ c. expr at (form.GivenInput c.0 c.1)))

-- what tokens are read as by the rule `Given`, with the tokens behind it, or the first fault
abbrev pub given_at : Reader Expr
given_at = seq (sign_at W_GIVEN) (λ at. seq (sign_at S_OPEN) (λ _. seq (asked_at at) (λ e. as_at (sign_at S_CLOSE) (λ _. e))))

-- what tokens are read as by the rule `Count`, with the tokens behind it, or the first fault
abbrev pub count_at : Reader Expr
count_at = seq (sign_at W_COUNT) (λ at. seq (sign_at S_OPEN) (λ _. seq (member_at W_CTX) (λ c. as_at (sign_at S_CLOSE) (λ _. expr at (form.Count c.0 c.1)))))

-- what tokens are read as by the rule `OneArg`, with the tokens behind it, or the first fault
abbrev pub one_arg_at : Reader Expr → Reader Expr
one_arg_at e = seq (pick_at ones) (λ o. seq (sign_at S_OPEN) (λ _. seq e (λ x. as_at (sign_at S_CLOSE) (λ _. expr o.1 (form.One o.0 x)))))

-- what tokens are read as by the rule `TwoArgs`, with the tokens behind it, or the first fault
abbrev pub two_args_at : Reader Expr → Reader Expr
two_args_at e = seq (pick_at twos) (λ o. seq (sign_at S_OPEN) (λ _. seq e (λ a. seq (sign_at S_COMMA) (λ _. seq e (λ b. as_at (sign_at S_CLOSE) (λ _. expr o.1 (form.Two o.0 a b)))))))

-- what tokens are read as by the rule `Brackets`, with the tokens behind it, or the first fault
abbrev pub brackets_at : Reader Expr → Reader Expr
brackets_at e = seq (sign_at S_OPEN) (λ at. seq e (λ x. as_at (sign_at S_CLOSE) (λ _. in_brackets at x)))

-- what tokens are read as by the rule `Listed`, with the tokens behind it, or the first fault
abbrev pub listed_at : ℕ → Reader Expr → Reader Expr
listed_at n e = seq (sign_at S_OPEN_SQUARE) (λ at. seq (between_at n S_COMMA EXPR e) (λ es. as_at (sign_at S_CLOSE_SQUARE) (λ _. expr at (form.List es))))

-- the reading of an expression with others inside it
abbrev pub nested_in : ℕ → Reader Expr → Reader Expr
nested_in n e = either (keys ones) (one_arg_at e) (either (keys twos) (two_args_at e) (either (S_OPEN ∷ []) (brackets_at e) (listed_at n e)))

-- the reading of an expression with no other inside it, but for an index
abbrev pub simple_at : Reader Expr → Reader Expr
simple_at i =
    either (K_NUMBER ∷ []) (as_at number_at (λ x. expr x.at (form.Number x)))
    (either (K_QUOTED ∷ []) (as_at text_at (λ x. expr x.at (form.Quoted x)))
    (either (keys truths) (as_at (pick_at truths) (λ b. expr b.1 (form.Truth b.0)))
    (either (W_INPUTS ∷ []) (as_at (member_at W_INPUTS) (λ c. expr c.0 (form.Input c.0 c.1)))
    (either (W_CTX ∷ []) (path_at i) (either (W_GIVEN ∷ []) given_at (either (W_COUNT ∷ []) count_at
    (as_at name_at (λ x. expr x.at (form.Bare x)))))))))

-- what tokens are read as by the rule `Primary`, with the tokens behind it, or the first fault
abbrev pub primary_at : Reader Expr → Reader Expr → Reader Expr
primary_at b i = either NESTED b (simple_at i)

-- what tokens are read as by the rule `Unary`, with the tokens behind it, or the first fault
abbrev pub unary_at : Reader Expr → Reader Expr
unary_at p = either (keys unaries) (seq (pick_at unaries) (λ o. as_at p (λ e. expr o.1 (form.Unary o.0 e)))) p

-- the reading of a comparison behind its left operand, or of none
abbrev pub compared_at : Reader Expr → Expr → Reader Expr
compared_at s a = either (keys compares) (seq (pick_at compares) (λ o. as_at s (λ b. binary o.0 a b))) (done a)

-- what tokens are read as by the rule `Compare`, with the tokens behind it, or the first fault
abbrev pub compare_at : Reader Expr → Reader Expr
compare_at s = seq s (compared_at s)

-- what tokens are read as by the rule `Level`, with the tokens behind it, or the first fault
abbrev pub level_at : ℕ → Reader Expr → Reader Expr → Reader Expr
level_at n b i = chain_at n ors binary (chain_at n ands binary (compare_at (chain_at n sums binary (chain_at n products binary (unary_at (primary_at b i))))))

-- the reading of an expression, nested so deep at most
abbrev pub expr_at : ℕ → Reader Expr
expr_at zero = level_at zero deep deep
expr_at (suc n) = level_at (suc n) (nested_in n (expr_at n)) (index_at (expr_at n))

-- the levels by themselves
abbrev pub nested_at : ℕ → Reader Expr
nested_at zero = deep
nested_at (suc n) = nested_in n (expr_at n)

-- the reading of an index, nested so deep at most
abbrev pub indexed_at : ℕ → Reader Expr
indexed_at zero = deep
indexed_at (suc n) = index_at (expr_at n)

-- the reading of an expression without an operator in front, nested so deep at most
unfoldable pub primaries_at : ℕ → Reader Expr
primaries_at n = primary_at (nested_at n) (indexed_at n)

-- the same with operators of one operand in front
unfoldable pub unaries_at : ℕ → Reader Expr
unaries_at n = unary_at (primaries_at n)

-- the reading of products, nested so deep at most
unfoldable pub products_at : ℕ → Reader Expr
products_at n = chain_at n products binary (unaries_at n)

-- the reading of sums, nested so deep at most
unfoldable pub sums_at : ℕ → Reader Expr
sums_at n = chain_at n sums binary (products_at n)

-- the reading of comparisons, nested so deep at most
unfoldable pub compares_at : ℕ → Reader Expr
compares_at n = compare_at (sums_at n)

-- the reading of what is joined by `and`, nested so deep at most
unfoldable pub ands_at : ℕ → Reader Expr
ands_at n = chain_at n ands binary (compares_at n)

-- the reading of what is joined by `or`, nested so deep at most
unfoldable pub ors_at : ℕ → Reader Expr
ors_at n = chain_at n ors binary (ands_at n)
