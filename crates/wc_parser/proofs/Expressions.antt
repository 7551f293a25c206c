-- What holds of the tokens of an expression and of the expression, by what it is made of.
use Rattle.std.proofs.Common.{◌≡◌, ℕ, zero, suc, List, [], ◌∷◌, ◌++◌, Bool, Some, None, refl, sym, append_assoc, append-nil, subst}
use Rattle.wc_lexer.specs.declared.token.Token.{Token}
use Rattle.wc_lexer.specs.declared.token.Token.TheVariants as token
use Rattle.wc_lexer.specs.declared.token.Word.{Word}
use Rattle.wc_lexer.specs.declared.token.Word.TheVariants as word
use Rattle.wc_lexer.specs.declared.token.Symbol.{Symbol}
use Rattle.wc_lexer.specs.declared.token.Symbol.TheVariants as symbol
use Rattle.wc_syntax.specs.declared.expression.Name.{Name}
use Rattle.wc_syntax.specs.declared.expression.Number.{Number}
use Rattle.wc_syntax.specs.declared.expression.Quoted.{Quoted}
use Rattle.wc_syntax.specs.declared.expression.UnaryOp.{UnaryOp}
use Rattle.wc_syntax.specs.declared.expression.BinaryOp.{BinaryOp}
use Rattle.wc_syntax.specs.declared.expression.OneOf.{OneOf}
use Rattle.wc_syntax.specs.declared.expression.TwoOf.{TwoOf}
use Rattle.wc_syntax.specs.declared.expression.ChildPart.{ChildPart}
use Rattle.wc_syntax.specs.declared.expression.Expr.{Expr}
use Rattle.wc_syntax.specs.declared.expression.Form.TheVariants as form
use Rattle.wc_grammar.specs.Kinds.{kind}
use Rattle.wc_grammar.specs.Rules.{Rule, Seq, As}
use Rattle.wc_grammar.specs.Grammar.{truths, ones, twos, unaries, ors, ands, compares, sums, products, expr, binary, in_brackets, Member, Index, Part, Path, Given, Count, Nested, Primary, Unary, Compare, Level, Exprs}
use Rattle.wc_parser.specs.PrintedTokens as print
use Rattle.wc_parser.specs.PrintedTokens.{Tokens}
use Rattle.wc_parser.proofs.TokenKinds.{token_of}
use Rattle.wc_parser.proofs.Derived.{Holds, holds_more, never_holds, done_holds, either_holds, seq_holds, as_holds, first_says, sign_then, sign_last}
use Rattle.wc_parser.proofs.Derived.{name_holds, number_holds, text_holds, Words, pick_then, between_holds, chain_holds, some_holds, maybe_then}

abbrev pub w : Word → Token
w x = token.Word x

abbrev pub s : Symbol → Token
s x = token.Symbol x

-- in round brackets
abbrev pub round : Tokens → Tokens
round ts = s symbol.Open ∷ (ts ++ s symbol.Close ∷ [])

-- in square brackets
abbrev pub square : Tokens → Tokens
square ts = s symbol.OpenSquare ∷ (ts ++ s symbol.CloseSquare ∷ [])

-- P holds of each expression if it holds of those in it; L is what holds of one or more with commas between them.
pub record Cases {ℓ} (P : Tokens → Expr → Type ℓ) (L : Tokens → List Expr → Type ℓ) : Type ℓ where
  pub number : (n : Number) → P (print.number n) (expr n.at (form.Number n))
  pub text : (q : Quoted) → P (print.text q) (expr q.at (form.Quoted q))
  pub truth : (at : ℕ) (b : Bool) → P (print.truth_word b) (expr at (form.Truth b))
  pub name : (n : Name) → P (print.name n) (expr n.at (form.Bare n))
  pub input : (at : ℕ) (n : Name) → P (print.input n) (expr at (form.Input at n))
  pub plain : (at : ℕ) (n : Name) → P (print.context n) (expr at (form.Plain at n))
  pub child_alone : (at : ℕ) (n : Name) (p : ChildPart) → P (print.context n ++ print.child_part p) (expr at (form.Child at n None p))
  pub child_of : (at : ℕ) (n : Name) (p : ChildPart) (ts : Tokens) (e : Expr) → P ts e
      → P (print.context n ++ (square ts ++ print.child_part p)) (expr at (form.Child at n (Some e) p))
  pub unary : (at : ℕ) (o : UnaryOp) (ts : Tokens) (e : Expr) → P ts e → P (print.unary_sign o ++ ts) (expr at (form.Unary o e))
  pub both : (o : BinaryOp) (ts us : Tokens) (a b : Expr) → P ts a → P us b → P (ts ++ (print.binary_sign o ++ us)) (binary o a b)
  pub one : (at : ℕ) (o : OneOf) (ts : Tokens) (e : Expr) → P ts e → P (print.one_word o ++ round ts) (expr at (form.One o e))
  pub two : (at : ℕ) (o : TwoOf) (ts us : Tokens) (a b : Expr) → P ts a → P us b
      → P (print.two_word o ++ round (ts ++ s symbol.Comma ∷ us)) (expr at (form.Two o a b))
  pub given_bare : (at : ℕ) (n : Name) → P (w word.Given ∷ round (print.name n)) (expr at (form.GivenBare n))
  pub given_input : (at place : ℕ) (n : Name) → P (w word.Given ∷ round (print.input n)) (expr at (form.GivenInput place n))
  pub counted : (at place : ℕ) (n : Name) → P (w word.Count ∷ round (print.context n)) (expr at (form.Count place n))
  pub grouped : (at : ℕ) (ts : Tokens) (e : Expr) → P ts e → P (round ts) (in_brackets at e)
  pub no_items : (at : ℕ) → P (square []) (expr at (form.List []))
  pub items : (at : ℕ) (ts : Tokens) (es : List Expr) → L ts es → P (square ts) (expr at (form.List es))
  pub first : (ts : Tokens) (e : Expr) → P ts e → L ts (e ∷ [])
  pub more : (front : Tokens) (es : List Expr) (ts : Tokens) (e : Expr) → L front es → P ts e → L (front ++ s symbol.Comma ∷ ts) (es ++ e ∷ [])

-- ---- what one token stands for
pub member_then {ℓ} : {B : Type 0} {S : ℕ × Name → Rule B} {Q : Tokens → B → Type ℓ} (u : Token) → token_of (kind u) ≡ Some u
    → ((c : ℕ × Name) → Holds (λ ts b. Q (u ∷ s symbol.Dot ∷ token.Name c.1.text ∷ ts) b) (S c)) → Holds Q (Seq (Member (kind u)) S)
member_then u e h = first_says (λ c. u ∷ s symbol.Dot ∷ token.Name c.1.text ∷ [])
    (sign_then u e (λ at. sign_then (s symbol.Dot) refl (λ _. as_holds (name_holds (λ n. refl))))) h

pub member_last {ℓ} : {B : Type 0} {g : ℕ × Name → B} {Q : Tokens → B → Type ℓ} (u : Token) → token_of (kind u) ≡ Some u
    → ((c : ℕ × Name) → Q (u ∷ s symbol.Dot ∷ token.Name c.1.text ∷ []) (g c)) → Holds Q (As (Member (kind u)) g)
member_last {g = g} u e h = member_then u e (λ c. done_holds (h c))

truth_words : Words print.truth_word truths
truth_words = (w word.True, refl, refl, (w word.False, refl, refl, tt))

one_words : Words print.one_word ones
one_words = (w word.Text, refl, refl, (w word.Int, refl, refl, (w word.Trim, refl, refl, (w word.Len, refl, refl, tt))))

two_words : Words print.two_word twos
two_words = (
  w word.Get,
  refl,
  refl,
  (
    w word.Has,
    refl,
    refl,
    (
      w word.File,
      refl,
      refl,
      (
        w word.Line,
        refl,
        refl,
        (w word.Contains, refl, refl, (w word.Min, refl, refl, (w word.Max, refl, refl, tt))),
      ),
    ),
  ),
)

unary_signs : Words print.unary_sign unaries
unary_signs = (s symbol.Minus, refl, refl, (w word.Not, refl, refl, tt))

or_signs : Words print.binary_sign ors
or_signs = (w word.Or, refl, refl, tt)

and_signs : Words print.binary_sign ands
and_signs = (w word.And, refl, refl, tt)

compare_signs : Words print.binary_sign compares
compare_signs = (
  s symbol.Equal,
  refl,
  refl,
  (
    s symbol.Differs,
    refl,
    refl,
    (
      s symbol.Less,
      refl,
      refl,
      (
        s symbol.AtMost,
        refl,
        refl,
        (s symbol.Greater, refl, refl, (s symbol.AtLeast, refl, refl, tt)),
      ),
    ),
  ),
)

sum_signs : Words print.binary_sign sums
sum_signs = (s symbol.Plus, refl, refl, (s symbol.Minus, refl, refl, tt))

product_signs : Words print.binary_sign products
product_signs = (s symbol.Star, refl, refl, (s symbol.Slash, refl, refl, (s symbol.Percent, refl, refl, tt)))

part_says : Holds (λ ts p. s symbol.Dot ∷ ts ≡ print.child_part p) Part
part_says = either_holds (sign_then (w word.Outputs) refl (λ _. sign_then (s symbol.Dot) refl (λ _. as_holds (name_holds (λ n. refl)))))
    (either_holds (sign_last (w word.Status) refl (λ _. refl)) (sign_last (w word.Ok) refl (λ _. refl)))

-- ---- expressions
-- what stands in square brackets
abbrev Indexed {ℓ} : (Tokens → Expr → Type ℓ) → Tokens → Expr → Type ℓ
Indexed P ts e = (inner : Tokens) × (ts ≡ square inner) × P inner e

index_holds {ℓ} : {E : Rule Expr} (P : Tokens → Expr → Type ℓ) → Holds P E → Holds (Indexed P) (Index E)
index_holds P h = sign_then (s symbol.OpenSquare) refl (λ _. seq_holds P h (λ front e k. sign_last (s symbol.CloseSquare) refl (λ _. (front, refl, k))))

path_holds {ℓ} : {P : Tokens → Expr → Type ℓ} {L : Tokens → List Expr → Type ℓ} {I : Rule Expr} → Cases P L → Holds (Indexed P) I → Holds P (Path I)
path_holds {P = P} k i = member_then (w word.Ctx) refl (λ c. either_holds
    (maybe_then (Indexed P) (some_holds (Indexed P) i)
    (λ front e h. sign_then (s symbol.Dot) refl (λ _. as_holds (holds_more (λ ts p. s symbol.Dot ∷ ts ≡ print.child_part p)
    (λ ts p. P (print.context c.1 ++ (front ++ s symbol.Dot ∷ ts)) (expr c.0 (form.Child c.0 c.1 (Some e) p)))
    (λ ts p q. subst (λ z. P (print.context c.1 ++ (front ++ z)) (expr c.0 (form.Child c.0 c.1 (Some e) p))) (sym q)
    (subst (λ z. P (print.context c.1 ++ (z ++ print.child_part p)) (expr c.0 (form.Child c.0 c.1 (Some e) p))) (sym h.1) (k.child_of c.0 c.1 p h.0 e h.2))) part_says)))
    (sign_then (s symbol.Dot) refl (λ _. as_holds (holds_more (λ ts p. s symbol.Dot ∷ ts ≡ print.child_part p)
    (λ ts p. P (print.context c.1 ++ s symbol.Dot ∷ ts) (expr c.0 (form.Child c.0 c.1 None p)))
    (λ ts p q. subst (λ z. P (print.context c.1 ++ z) (expr c.0 (form.Child c.0 c.1 None p))) (sym q) (k.child_alone c.0 c.1 p)) part_says))))
    (done_holds (k.plain c.0 c.1)))

given_holds {ℓ} : {P : Tokens → Expr → Type ℓ} {L : Tokens → List Expr → Type ℓ} → Cases P L → Holds P Given
given_holds {P = P} k = sign_then (w word.Given) refl (λ at. sign_then (s symbol.Open) refl (λ _.
    seq_holds (λ ts e. P (w word.Given ∷ round ts) e)
    (either_holds (as_holds (name_holds (λ n. k.given_bare at n))) (member_last (w word.Inputs) refl (λ c. k.given_input at c.0 c.1)))
    (λ front e h. sign_last (s symbol.Close) refl (λ _. h))))

count_holds {ℓ} : {P : Tokens → Expr → Type ℓ} {L : Tokens → List Expr → Type ℓ} → Cases P L → Holds P Count
count_holds k = sign_then (w word.Count) refl (λ at. sign_then (s symbol.Open) refl (λ _. member_then (w word.Ctx) refl (λ c.
    sign_last (s symbol.Close) refl (λ _. k.counted at c.0 c.1))))

nested_holds {ℓ} : {P : Tokens → Expr → Type ℓ} {L : Tokens → List Expr → Type ℓ} {E : Rule Expr} (n : ℕ) → Cases P L → Holds P E → Holds P (Nested n E)
nested_holds {P = P} {L = L} n k h = either_holds
    (pick_then print.one_word ones one_words (λ o. sign_then (s symbol.Open) refl (λ _. seq_holds P h (λ front e l. sign_last (s symbol.Close) refl (λ _. k.one o.1 o.0 front e l)))))
    (either_holds
    (pick_then print.two_word twos two_words (λ o. sign_then (s symbol.Open) refl (λ _. seq_holds P h (λ front a l. sign_then (s symbol.Comma) refl (λ _.
    seq_holds P h (λ back b m. sign_last (s symbol.Close) refl (λ _.
    subst (λ z. P (print.two_word o.0 ++ s symbol.Open ∷ z) (expr o.1 (form.Two o.0 a b))) (append_assoc front (s symbol.Comma ∷ back) (s symbol.Close ∷ []))
    (k.two o.1 o.0 front back a b l m))))))))
    (either_holds
    (sign_then (s symbol.Open) refl (λ at. seq_holds P h (λ front e l. sign_last (s symbol.Close) refl (λ _. k.grouped at front e l))))
    (sign_then (s symbol.OpenSquare) refl (λ at. seq_holds (λ ts es. P (square ts) (expr at (form.List es)))
    (between_holds n P L (s symbol.Comma) refl (k.no_items at) (k.items at) k.first k.more h)
    (λ front es l. sign_last (s symbol.CloseSquare) refl (λ _. l))))))

primary_holds {ℓ} : {P : Tokens → Expr → Type ℓ} {L : Tokens → List Expr → Type ℓ} {N I : Rule Expr} → Cases P L → Holds P N → Holds (Indexed P) I → Holds P (Primary N I)
primary_holds {P = P} k n i =
    either_holds n
    (either_holds (as_holds (number_holds k.number))
    (either_holds (as_holds (text_holds k.text))
    (either_holds (pick_then print.truth_word truths truth_words (λ b. done_holds (subst (λ z. P z (expr b.1 (form.Truth b.0))) (sym (append-nil (print.truth_word b.0))) (k.truth b.1 b.0))))
    (either_holds (member_last (w word.Inputs) refl (λ c. k.input c.0 c.1))
    (either_holds (path_holds k i) (either_holds (given_holds k) (either_holds (count_holds k)
    (as_holds (name_holds k.name)))))))))

unary_holds {ℓ} : {P : Tokens → Expr → Type ℓ} {L : Tokens → List Expr → Type ℓ} {R : Rule Expr} → Cases P L → Holds P R → Holds P (Unary R)
unary_holds {P = P} k r = either_holds
    (pick_then print.unary_sign unaries unary_signs (λ o. as_holds (holds_more P (λ ts e. P (print.unary_sign o.0 ++ ts) (expr o.1 (form.Unary o.0 e))) (λ ts e h. k.unary o.1 o.0 ts e h) r))) r

compare_holds {ℓ} : {P : Tokens → Expr → Type ℓ} {L : Tokens → List Expr → Type ℓ} {R : Rule Expr} → Cases P L → Holds P R → Holds P (Compare R)
compare_holds {P = P} k r = seq_holds P r (λ front a h. either_holds
    (pick_then print.binary_sign compares compare_signs (λ o. as_holds (holds_more P (λ ts b. P (front ++ (print.binary_sign o.0 ++ ts)) (binary o.0 a b)) (λ ts b l. k.both o.0 front ts a b h l) r)))
    (done_holds (subst (λ z. P z a) (sym (append-nil front)) h)))

level_holds {ℓ} : {P : Tokens → Expr → Type ℓ} {L : Tokens → List Expr → Type ℓ} {N I : Rule Expr} (n : ℕ) → Cases P L → Holds P N → Holds (Indexed P) I → Holds P (Level n N I)
level_holds {P = P} n k h i =
    chain_holds n P print.binary_sign ors or_signs k.both (chain_holds n P print.binary_sign ands and_signs k.both (compare_holds k
    (chain_holds n P print.binary_sign sums sum_signs k.both (chain_holds n P print.binary_sign products product_signs k.both (unary_holds k (primary_holds k h i))))))

-- P holds of each expression and the tokens that derive it.
pub exprs_hold {ℓ} : {P : Tokens → Expr → Type ℓ} {L : Tokens → List Expr → Type ℓ} (n : ℕ) → Cases P L → Holds P (Exprs n)
exprs_hold zero k = level_holds zero k never_holds never_holds
exprs_hold {P = P} (suc n) k = level_holds (suc n) k (nested_holds n k (exprs_hold n k)) (index_holds P (exprs_hold n k))
