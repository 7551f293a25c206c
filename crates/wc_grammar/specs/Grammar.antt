-- The grammar of expressions: one line for each rule, one part of an Either for each alternative.
use Rattle.std.specs.Prelude.{ℕ, zero, suc, Bool, true, false, List, [], ◌∷◌, Option, Some, None}
use Rattle.wc_lexer.specs.declared.token.Token.{Token}
use Rattle.wc_lexer.specs.declared.token.Token.TheVariants as token
use Rattle.wc_syntax.specs.declared.expression.Name.{Name}
use Rattle.wc_syntax.specs.declared.expression.Number.{Number}
use Rattle.wc_syntax.specs.declared.expression.Quoted.{Quoted}
use Rattle.wc_syntax.specs.declared.expression.UnaryOp.{UnaryOp}
use Rattle.wc_syntax.specs.declared.expression.UnaryOp.TheVariants as unary
use Rattle.wc_syntax.specs.declared.expression.BinaryOp.{BinaryOp}
use Rattle.wc_syntax.specs.declared.expression.BinaryOp.TheVariants as op
use Rattle.wc_syntax.specs.declared.expression.OneOf.{OneOf}
use Rattle.wc_syntax.specs.declared.expression.OneOf.TheVariants as oneof
use Rattle.wc_syntax.specs.declared.expression.TwoOf.{TwoOf}
use Rattle.wc_syntax.specs.declared.expression.TwoOf.TheVariants as twoof
use Rattle.wc_syntax.specs.declared.expression.ChildPart.{ChildPart}
use Rattle.wc_syntax.specs.declared.expression.ChildPart.TheVariants as part
use Rattle.wc_syntax.specs.declared.expression.Expr.{Expr, out-Expr, roll-Expr}
use Rattle.wc_syntax.specs.declared.expression.Form.{Form}
use Rattle.wc_syntax.specs.declared.expression.Form.TheVariants as form
use Rattle.wc_grammar.specs.Kinds.{W_TRUE, W_FALSE, W_INPUTS, W_CTX, W_OUTPUTS, W_STATUS, W_OK, W_TEXT, W_INT, W_TRIM, W_LEN, W_GET, W_HAS, W_FILE, W_LINE, W_CONTAINS, W_MIN, W_MAX, W_GIVEN, W_COUNT, W_OR, W_AND, W_NOT, S_DOT, S_OPEN, S_CLOSE, S_OPEN_SQUARE, S_CLOSE_SQUARE, S_COMMA, S_EQUAL, S_DIFFERS, S_LESS, S_AT_MOST, S_GREATER, S_AT_LEAST, S_PLUS, S_MINUS, S_STAR, S_SLASH, S_PERCENT}
use Rattle.wc_grammar.specs.Rules.{Tok, Rule, Done, Never, One, Seq, Either, As, Sign, Between, Pick, Chain}

-- ---- tokens
-- the name that a token is, with its place
abbrev pub name_in : Token → ℕ → Option Name
name_in (token.Name text) at = Some (record { text = text; at = at })
name_in _ at = None

-- the same of a token with its place
abbrev pub named : Tok → Option Name
named t = name_in t.0 t.1

-- the number that a token is, with its place
abbrev pub number_in : Token → ℕ → Option Number
number_in (token.Number value) at = Some (record { value = value; at = at })
number_in _ at = None

-- the same of a token with its place
abbrev pub numbered : Tok → Option Number
numbered t = number_in t.0 t.1

-- the text in quotes that a token is, with its place
abbrev pub quoted_in : Token → ℕ → Option Quoted
quoted_in (token.Quoted text) at = Some (record { text = text; at = at })
quoted_in _ at = None

-- the same of a token with its place
abbrev pub quoted : Tok → Option Quoted
quoted t = quoted_in t.0 t.1

-- the rule of a name: one such token
abbrev pub NAME : Rule Name
NAME = One named

-- the rule of a number: one such token
abbrev pub NUMBER : Rule Number
NUMBER = One numbered

-- the rule of a text in quotes: one such token
abbrev pub TEXT : Rule Quoted
TEXT = One quoted

-- ---- words that stand for values
-- the words for truth values
abbrev pub truths : List (ℕ × Bool)
truths = (W_TRUE, true) ∷ (W_FALSE, false) ∷ []

-- the words of one operand
abbrev pub ones : List (ℕ × OneOf)
ones = (W_TEXT, oneof.Text) ∷ (W_INT, oneof.Int) ∷ (W_TRIM, oneof.Trim) ∷ (W_LEN, oneof.Len) ∷ []

-- the words of two operands
abbrev pub twos : List (ℕ × TwoOf)
twos = (W_GET, twoof.Get) ∷ (W_HAS, twoof.Has) ∷ (W_FILE, twoof.File) ∷ (W_LINE, twoof.Line) ∷ (W_CONTAINS, twoof.Contains) ∷ (W_MIN, twoof.Min) ∷ (W_MAX, twoof.Max) ∷ []

-- the operators of one operand
abbrev pub unaries : List (ℕ × UnaryOp)
unaries = (S_MINUS, unary.Negate) ∷ (W_NOT, unary.Not) ∷ []

-- the operator `or`
abbrev pub ors : List (ℕ × BinaryOp)
ors = (W_OR, op.Or) ∷ []

-- the operator `and`
abbrev pub ands : List (ℕ × BinaryOp)
ands = (W_AND, op.And) ∷ []

-- the operators that compare
abbrev pub compares : List (ℕ × BinaryOp)
compares = (S_EQUAL, op.Equal) ∷ (S_DIFFERS, op.Differs) ∷ (S_LESS, op.Less) ∷ (S_AT_MOST, op.AtMost) ∷ (S_GREATER, op.Greater) ∷ (S_AT_LEAST, op.AtLeast) ∷ []

-- the operators `+` and `-`
abbrev pub sums : List (ℕ × BinaryOp)
sums = (S_PLUS, op.Add) ∷ (S_MINUS, op.Subtract) ∷ []

-- the operators `*`, `/` and `%`
abbrev pub products : List (ℕ × BinaryOp)
products = (S_STAR, op.Multiply) ∷ (S_SLASH, op.Divide) ∷ (S_PERCENT, op.Remainder) ∷ []

-- ---- expressions
-- an expression at a place, of a form
abbrev pub expr : ℕ → Form → Expr
expr at f = roll-Expr (record { at = at; form = f })

-- It begins where its left part does.
abbrev pub binary : BinaryOp → Expr → Expr → Expr
binary o a b = expr (out-Expr a).at (form.Binary o a b)

-- Round brackets leave their offset alone.
abbrev pub in_brackets : ℕ → Expr → Expr
in_brackets at e = expr at (out-Expr e).form

-- ('inputs'|'ctx') '.' NAME, which stands for the offset of the word, and the name
abbrev pub Member : ℕ → Rule (ℕ × Name)
Member w = Seq (Sign w) (λ at. Seq (Sign S_DOT) (λ _. As NAME (λ x. (at, x))))

-- '[' expr ']'
abbrev pub Index : Rule Expr → Rule Expr
Index E = Seq (Sign S_OPEN_SQUARE) (λ _. Seq E (λ e. As (Sign S_CLOSE_SQUARE) (λ _. e)))

-- 'outputs' '.' NAME | 'status' | 'ok'
abbrev pub Part : Rule ChildPart
Part = Either (Seq (Sign W_OUTPUTS) (λ _. Seq (Sign S_DOT) (λ _. As NAME part.Outputs)))
    (Either (As (Sign W_STATUS) (λ _. part.Status)) (As (Sign W_OK) (λ _. part.Ok)))

-- path := 'ctx' '.' NAME [ ['[' expr ']'] '.' ('outputs' '.' NAME | 'status' | 'ok') ]
abbrev pub Path : Rule Expr → Rule Expr
Path I = Seq (Member W_CTX) (λ c. Either
    (Seq (Either (As I Some) (Done None)) (λ i. Seq (Sign S_DOT) (λ _. As Part (λ p. expr c.0 (form.Child c.0 c.1 i p)))))
    (Done (expr c.0 (form.Plain c.0 c.1))))

-- 'given' '(' (NAME | 'inputs' '.' NAME) ')'
abbrev pub Given : Rule Expr
Given = Seq (Sign W_GIVEN) (λ at. Seq (Sign S_OPEN) (λ _. Seq
    (Either (As NAME (λ x. expr at (form.GivenBare x))) (As (Member W_INPUTS) (λ c. expr at (form.GivenInput c.0 c.1))))
    (λ e. As (Sign S_CLOSE) (λ _. e))))

-- 'count' '(' 'ctx' '.' NAME ')'
abbrev pub Count : Rule Expr
Count = Seq (Sign W_COUNT) (λ at. Seq (Sign S_OPEN) (λ _. Seq (Member W_CTX) (λ c. As (Sign S_CLOSE) (λ _. expr at (form.Count c.0 c.1)))))

-- ('text'|'int'|'trim'|'len') '(' expr ')'
abbrev pub OneArg : Rule Expr → Rule Expr
OneArg E = Seq (Pick ones) (λ o. Seq (Sign S_OPEN) (λ _. Seq E (λ e. As (Sign S_CLOSE) (λ _. expr o.1 (form.One o.0 e)))))

-- ('get'|'has'|'file'|'line'|'contains'|'min'|'max') '(' expr ',' expr ')'
abbrev pub TwoArgs : Rule Expr → Rule Expr
TwoArgs E = Seq (Pick twos) (λ o. Seq (Sign S_OPEN) (λ _. Seq E (λ a. Seq (Sign S_COMMA) (λ _. Seq E (λ b. As (Sign S_CLOSE) (λ _. expr o.1 (form.Two o.0 a b)))))))

-- '(' expr ')'
abbrev pub Brackets : Rule Expr → Rule Expr
Brackets E = Seq (Sign S_OPEN) (λ at. Seq E (λ e. As (Sign S_CLOSE) (λ _. in_brackets at e)))

-- '[' [ expr (',' expr)* ] ']'
abbrev pub Listed : ℕ → Rule Expr → Rule Expr
Listed n E = Seq (Sign S_OPEN_SQUARE) (λ at. Seq (Between n S_COMMA E) (λ es. As (Sign S_CLOSE_SQUARE) (λ _. expr at (form.List es))))

-- the alternatives of primary that have expressions in brackets
abbrev pub Nested : ℕ → Rule Expr → Rule Expr
Nested n E = Either (OneArg E) (Either (TwoArgs E) (Either (Brackets E) (Listed n E)))

-- primary := .. | NUMBER | TEXT | 'true' | 'false' | 'inputs' '.' NAME | path | 'given' .. | 'count' .. | NAME
-- N stands for the alternatives with expressions in brackets, and I for the index of a path.
abbrev pub Primary : Rule Expr → Rule Expr → Rule Expr
Primary N I =
    Either N
    (Either (As NUMBER (λ x. expr x.at (form.Number x)))
    (Either (As TEXT (λ x. expr x.at (form.Quoted x)))
    (Either (As (Pick truths) (λ b. expr b.1 (form.Truth b.0)))
    (Either (As (Member W_INPUTS) (λ c. expr c.0 (form.Input c.0 c.1)))
    (Either (Path I) (Either Given (Either Count
    (As NAME (λ x. expr x.at (form.Bare x))))))))))

-- unary := ['-'|'not'] primary
abbrev pub Unary : Rule Expr → Rule Expr
Unary P = Either (Seq (Pick unaries) (λ o. As P (λ e. expr o.1 (form.Unary o.0 e)))) P

-- cmp := sum [('=='|'!='|'<'|'<='|'>'|'>=') sum]
abbrev pub Compare : Rule Expr → Rule Expr
Compare S = Seq S (λ a. Either (Seq (Pick compares) (λ o. As S (λ b. binary o.0 a b))) (Done a))

-- expr := conj ('or' conj)*          conj := cmp ('and' cmp)*
-- sum := prod (('+'|'-') prod)*      prod := unary (('*'|'/'|'%') unary)*
abbrev pub Level : ℕ → Rule Expr → Rule Expr → Rule Expr
Level n N I = Chain n ors binary (Chain n ands binary (Compare (Chain n sums binary (Chain n products binary (Unary (Primary N I))))))

-- expressions whose brackets nest at most n deep, with at most n operators or commas in a row
abbrev pub Exprs : ℕ → Rule Expr
Exprs zero = Level zero Never Never
Exprs (suc n) = Level (suc n) (Nested n (Exprs n)) (Index (Exprs n))
