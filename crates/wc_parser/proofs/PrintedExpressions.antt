-- The tokens of a printed expression are derived as an expression that says the same.
use Rattle.std.proofs.Common.{◌≡◌, ℕ, zero, suc, ◌≤◌, List, [], ◌∷◌, ◌++◌, map, length, Bool, true, false, if◌then◌else◌, Option, Some, None, refl, sym, ap, ◌∙◌, subst, append_assoc, append-nil}
use Rattle.wc_lexer.specs.declared.token.Token.{Token}
use Rattle.wc_lexer.specs.declared.token.Token.TheVariants as token
use Rattle.wc_lexer.specs.declared.token.Word.{Word}
use Rattle.wc_lexer.specs.declared.token.Word.TheVariants as word
use Rattle.wc_lexer.specs.declared.token.Symbol.{Symbol}
use Rattle.wc_lexer.specs.declared.token.Symbol.TheVariants as symbol
use Rattle.wc_syntax.specs.declared.expression.Name.{Name}
use Rattle.wc_syntax.specs.declared.expression.Quoted.{Quoted}
use Rattle.wc_syntax.specs.declared.expression.Number.{Number}
use Rattle.wc_syntax.specs.declared.expression.ChildPart.{ChildPart}
use Rattle.wc_syntax.specs.declared.expression.ChildPart.TheVariants as part
use Rattle.wc_syntax.specs.declared.expression.UnaryOp.{UnaryOp}
use Rattle.wc_syntax.specs.declared.expression.UnaryOp.TheVariants as unary
use Rattle.wc_syntax.specs.declared.expression.BinaryOp.{BinaryOp}
use Rattle.wc_syntax.specs.declared.expression.BinaryOp.TheVariants as op
use Rattle.wc_syntax.specs.declared.expression.OneOf.{OneOf}
use Rattle.wc_syntax.specs.declared.expression.OneOf.TheVariants as oneof
use Rattle.wc_syntax.specs.declared.expression.TwoOf.{TwoOf}
use Rattle.wc_syntax.specs.declared.expression.TwoOf.TheVariants as twoof
use Rattle.wc_syntax.specs.declared.expression.Expr.{Expr, Expr-F, roll-Expr, ind-Expr, fold-roll-Expr}
use Rattle.wc_syntax.specs.declared.expression.Form.{Form, roll-Form, map-Form, fold-roll-Form}
use Rattle.wc_syntax.specs.declared.expression.Form.TheVariants as form
use Rattle.wc_syntax.specs.declared.expression.Form.TheOpen.{Form-F}
use Rattle.wc_syntax.specs.Bare.{bare_name, bare_quoted, bare_number, bare_part, bare_level, at_form, at_expr, bare_expr, bare_form}
use Rattle.std.specs.Prelude.{nat_eq}
use Rattle.wc_grammar.specs.Kinds.{kind, W_INPUTS, W_CTX, W_OUTPUTS, W_STATUS, W_OK, W_GIVEN, W_COUNT, S_DOT, S_OPEN, S_CLOSE, S_OPEN_SQUARE, S_CLOSE_SQUARE, S_COMMA}
use Rattle.wc_grammar.specs.Rules.{Rule, Never, Done, Seq, Either, As, Sign, pick, Pick, Chain}
use Rattle.wc_grammar.specs.Grammar.{named, numbered, quoted, NAME, NUMBER, TEXT, truths, ones, twos, unaries, ors, ands, compares, sums, products, expr, binary, Member, Index, Part, Path, Given, Count, OneArg, TwoArgs, Brackets, Listed, Nested, Primary, Unary, Compare, Level, Exprs}
use Rattle.wc_parser.specs.PrintedTokens.{Tokens, sign, reserved, name, number, text, separated, items, unary_sign, binary_sign, one_word, two_word, truth_word, in_brackets, input, context, index, child_part, form_tokens, its_tokens, expr_tokens, tokens_of_form}
use Rattle.wc_parser.proofs.Makes.{Makes, again, weaken, done_makes, seq_makes, as_makes, left_makes, right_makes, one_makes, Any, sign_makes, Stands, pick_makes, AllOf, Same, between_makes, alone_makes, pair_makes, From, always, reaching, implied, together, above, positive}

-- ---- leaves
abbrev pub SameName : Name → Name → Type 0
SameName = Same bare_name

pub name_makes : (n : Name) → Makes NAME (name n) (SameName n)
name_makes n = one_makes named (token.Name n.text) (SameName n) (λ at. (record { text = n.text; at = at }, refl, refl))

pub number_makes : (n : Number) → Makes NUMBER (number n) (Same bare_number n)
number_makes n = one_makes numbered (token.Number n.value) (Same bare_number n) (λ at. (record { value = n.value; at = at }, refl, refl))

pub text_makes : (q : Quoted) → Makes TEXT (text q) (Same bare_quoted q)
text_makes q = one_makes quoted (token.Quoted q.text) (Same bare_quoted q) (λ at. (record { text = q.text; at = at }, refl, refl))

pub word_makes : (k : ℕ) (w : Word) → nat_eq (kind (token.Word w)) k ≡ true → Makes (Sign k) (reserved w) Any
word_makes k w e = sign_makes k (token.Word w) e

pub symbol_makes : (k : ℕ) (s : Symbol) → nat_eq (kind (token.Symbol s)) k ≡ true → Makes (Sign k) (sign s) Any
symbol_makes k s e = sign_makes k (token.Symbol s) e

-- ---- bare forms
abbrev Level-F : Type 0
Level-F = Form-F Form Expr

-- a level's expression, with each offset at 0
abbrev bared : Level-F → Expr
bared x = expr 0 (roll-Form (bare_level (map-Form Form Expr Form Expr bare_form bare_expr x)))

-- an expression's bare form, by the level that it is made of
bare_at : (at : ℕ) (f : Form) (x : Level-F) → roll-Form x ≡ f → bare_expr (expr at f) ≡ bared x
bare_at at f x e =
    fold-roll-Expr Form Expr at_form at_expr (record { at = at; form = f })
    ∙ ap (λ z. expr 0 (bare_form z)) (sym e) ∙ ap (expr 0) (fold-roll-Form Form Expr at_form at_expr x)

-- brackets change nothing
bare_inside : (at : ℕ) (e : Expr) → bare_expr (expr at e.form) ≡ bare_expr e
bare_inside at e =
    fold-roll-Expr Form Expr at_form at_expr (record { at = at; form = e.form })
    ∙ sym (fold-roll-Expr Form Expr at_form at_expr (record { at = e.at; form = e.form }))

abbrev pub SameExpr : Expr → Expr → Type 0
SameExpr = Same bare_expr

-- ---- parts of a path
abbrev SameMember : Name → ℕ × Name → Type 0
SameMember n x = SameName n x.1

input_makes : (n : Name) → Makes (Member W_INPUTS) (input n) (SameMember n)
input_makes n = seq_makes (word_makes W_INPUTS word.Inputs refl) (λ at _. seq_makes (symbol_makes S_DOT symbol.Dot refl) (λ _ _.
    as_makes (λ x. (at, x)) (name_makes n) (λ x p. p)))

pub context_makes : (n : Name) → Makes (Member W_CTX) (context n) (SameMember n)
context_makes n = seq_makes (word_makes W_CTX word.Ctx refl) (λ at _. seq_makes (symbol_makes S_DOT symbol.Dot refl) (λ _ _.
    as_makes (λ x. (at, x)) (name_makes n) (λ x p. p)))

abbrev SamePart : ChildPart → ChildPart → Type 0
SamePart = Same bare_part

-- what is asked, behind its dot
abbrev asked : ChildPart → Tokens
asked (part.Outputs n) = reserved word.Outputs ++ sign symbol.Dot ++ name n
asked part.Status = reserved word.Status
asked part.Ok = reserved word.Ok

asked_is : (p : ChildPart) → sign symbol.Dot ++ asked p ≡ child_part p
asked_is (part.Outputs n) = refl
asked_is part.Status = refl
asked_is part.Ok = refl

part_makes : (p : ChildPart) → Makes Part (asked p) (SamePart p)
part_makes (part.Outputs n) = left_makes (seq_makes (word_makes W_OUTPUTS word.Outputs refl) (λ _ _. seq_makes (symbol_makes S_DOT symbol.Dot refl) (λ _ _.
    as_makes part.Outputs (name_makes n) (λ x p. λ i. part.Outputs (p i)))))
part_makes part.Status = right_makes (left_makes (as_makes (λ _. part.Status) (word_makes W_STATUS word.Status refl) (λ _ _. refl)))
part_makes part.Ok = right_makes (right_makes (as_makes (λ _. part.Ok) (word_makes W_OK word.Ok refl) (λ _ _. refl)))

-- ---- operators
-- the rules between a primary and an expression
abbrev Products : ℕ → Rule Expr → Rule Expr → Rule Expr
Products n N I = Chain n products binary (Unary (Primary N I))

abbrev Sums : ℕ → Rule Expr → Rule Expr → Rule Expr
Sums n N I = Chain n sums binary (Products n N I)

abbrev Compares : ℕ → Rule Expr → Rule Expr → Rule Expr
Compares n N I = Compare (Sums n N I)

abbrev Ands : ℕ → Rule Expr → Rule Expr → Rule Expr
Ands n N I = Chain n ands binary (Compares n N I)

-- a sum that is compared with nothing
compared : {S : Rule Expr} {a : Tokens} {P : Expr → Type 0} → Makes S a P → Makes (Compare S) a P
compared {a = a} {P = P} h = again (append-nil a) (seq_makes h (λ x p. right_makes (done_makes P x p)))

-- A primary is each of them.
module _ (n : ℕ) (N I : Rule Expr) {a : Tokens} {P : Expr → Type 0} (h : Makes (Primary N I) a P) where
  alone_unary : Makes (Unary (Primary N I)) a P
  alone_unary = right_makes h

  alone_product : Makes (Products n N I) a P
  alone_product = alone_makes n products binary alone_unary

  alone_sum : Makes (Sums n N I) a P
  alone_sum = alone_makes n sums binary alone_product

  alone_compare : Makes (Compares n N I) a P
  alone_compare = compared alone_sum

  alone_and : Makes (Ands n N I) a P
  alone_and = alone_makes n ands binary alone_compare

  alone_expr : Makes (Level n N I) a P
  alone_expr = alone_makes n ors binary alone_and

-- two primaries with an operator between them
module _ (n : ℕ) (N I : Rule Expr) {a b : Tokens} {P Q S : Expr → Type 0} (h : Makes (Primary N I) a P) (k : Makes (Primary N I) b Q) where
  pair_or : (t : Token) (o : BinaryOp) → pick ors (kind t) ≡ Some o → ((x y : Expr) → P x → Q y → S (binary o x y)) → Makes (Level (suc n) N I) (a ++ (t ∷ b)) S
  pair_or t o e j = pair_makes n ors binary t o e (alone_and (suc n) N I h) (alone_and (suc n) N I k) j

  pair_and : (t : Token) (o : BinaryOp) → pick ands (kind t) ≡ Some o → ((x y : Expr) → P x → Q y → S (binary o x y)) → Makes (Level (suc n) N I) (a ++ (t ∷ b)) S
  pair_and t o e j = alone_makes (suc n) ors binary (pair_makes n ands binary t o e (alone_compare (suc n) N I h) (alone_compare (suc n) N I k) j)

  pair_compare : (t : Token) (o : BinaryOp) → pick compares (kind t) ≡ Some o → ((x y : Expr) → P x → Q y → S (binary o x y)) → Makes (Level (suc n) N I) (a ++ (t ∷ b)) S
  pair_compare t o e j = alone_makes (suc n) ors binary (alone_makes (suc n) ands binary (seq_makes (alone_sum (suc n) N I h) (λ x p.
      left_makes (seq_makes (pick_makes compares t o e) (λ c d. as_makes (λ y. binary c.0 x y) (alone_sum (suc n) N I k) (λ y q. subst (λ z. S (binary z x y)) (sym d) (j x y p q)))))))

  pair_sum : (t : Token) (o : BinaryOp) → pick sums (kind t) ≡ Some o → ((x y : Expr) → P x → Q y → S (binary o x y)) → Makes (Level (suc n) N I) (a ++ (t ∷ b)) S
  pair_sum t o e j = alone_makes (suc n) ors binary (alone_makes (suc n) ands binary (compared
      (pair_makes n sums binary t o e (alone_product (suc n) N I h) (alone_product (suc n) N I k) j)))

  pair_product : (t : Token) (o : BinaryOp) → pick products (kind t) ≡ Some o → ((x y : Expr) → P x → Q y → S (binary o x y)) → Makes (Level (suc n) N I) (a ++ (t ∷ b)) S
  pair_product t o e j = alone_makes (suc n) ors binary (alone_makes (suc n) ands binary (compared (alone_makes (suc n) sums binary
      (pair_makes n products binary t o e (alone_unary (suc n) N I h) (alone_unary (suc n) N I k) j))))

  binary_makes : (o : BinaryOp) → ((x y : Expr) → P x → Q y → S (binary o x y)) → Makes (Level (suc n) N I) (a ++ (binary_sign o ++ b)) S
  binary_makes op.Or j = pair_or (token.Word word.Or) op.Or refl j
  binary_makes op.And j = pair_and (token.Word word.And) op.And refl j
  binary_makes op.Equal j = pair_compare (token.Symbol symbol.Equal) op.Equal refl j
  binary_makes op.Differs j = pair_compare (token.Symbol symbol.Differs) op.Differs refl j
  binary_makes op.Less j = pair_compare (token.Symbol symbol.Less) op.Less refl j
  binary_makes op.AtMost j = pair_compare (token.Symbol symbol.AtMost) op.AtMost refl j
  binary_makes op.Greater j = pair_compare (token.Symbol symbol.Greater) op.Greater refl j
  binary_makes op.AtLeast j = pair_compare (token.Symbol symbol.AtLeast) op.AtLeast refl j
  binary_makes op.Add j = pair_sum (token.Symbol symbol.Plus) op.Add refl j
  binary_makes op.Subtract j = pair_sum (token.Symbol symbol.Minus) op.Subtract refl j
  binary_makes op.Multiply j = pair_product (token.Symbol symbol.Star) op.Multiply refl j
  binary_makes op.Divide j = pair_product (token.Symbol symbol.Slash) op.Divide refl j
  binary_makes op.Remainder j = pair_product (token.Symbol symbol.Percent) op.Remainder refl j

pick_unary : (n : ℕ) (N I : Rule Expr) {a : Tokens} {P Q : Expr → Type 0} (o : UnaryOp) (t : Token) → pick unaries (kind t) ≡ Some o → Makes (Primary N I) a P
    → ((x : Expr) (at : ℕ) → P x → Q (expr at (form.Unary o x))) → Makes (Level n N I) (t ∷ a) Q
pick_unary n N I {Q = Q} o t e h j = alone_makes n ors binary (alone_makes n ands binary (compared (alone_makes n sums binary (alone_makes n products binary
    (left_makes (seq_makes (pick_makes unaries t o e) (λ c d. as_makes (λ x. expr c.1 (form.Unary c.0 x)) h
    (λ x p. subst (λ z. Q (expr c.1 (form.Unary z x))) (sym d) (j x c.1 p)))))))))

unary_makes : (n : ℕ) (N I : Rule Expr) {a : Tokens} {P Q : Expr → Type 0} (o : UnaryOp) → Makes (Primary N I) a P
    → ((x : Expr) (at : ℕ) → P x → Q (expr at (form.Unary o x))) → Makes (Level n N I) (unary_sign o ++ a) Q
unary_makes n N I unary.Negate h j = pick_unary n N I unary.Negate (token.Symbol symbol.Minus) refl h j
unary_makes n N I unary.Not h j = pick_unary n N I unary.Not (token.Word word.Not) refl h j

-- ---- words with arguments
one_token : (o : OneOf) → (t : Token) × (one_word o ≡ t ∷ []) × (pick ones (kind t) ≡ Some o)
one_token oneof.Text = (token.Word word.Text, refl, refl)
one_token oneof.Int = (token.Word word.Int, refl, refl)
one_token oneof.Trim = (token.Word word.Trim, refl, refl)
one_token oneof.Len = (token.Word word.Len, refl, refl)

one_word_makes : (o : OneOf) → Makes (Pick ones) (one_word o) (Stands o)
one_word_makes o = let t = one_token o in again (sym t.1) (pick_makes ones t.0 o t.2)

two_token : (o : TwoOf) → (t : Token) × (two_word o ≡ t ∷ []) × (pick twos (kind t) ≡ Some o)
two_token twoof.Get = (token.Word word.Get, refl, refl)
two_token twoof.Has = (token.Word word.Has, refl, refl)
two_token twoof.File = (token.Word word.File, refl, refl)
two_token twoof.Line = (token.Word word.Line, refl, refl)
two_token twoof.Contains = (token.Word word.Contains, refl, refl)
two_token twoof.Min = (token.Word word.Min, refl, refl)
two_token twoof.Max = (token.Word word.Max, refl, refl)

two_word_makes : (o : TwoOf) → Makes (Pick twos) (two_word o) (Stands o)
two_word_makes o = let t = two_token o in again (sym t.1) (pick_makes twos t.0 o t.2)

truth_makes : (b : Bool) → Makes (Pick truths) (truth_word b) (Stands b)
truth_makes true = pick_makes truths (token.Word word.True) true refl
truth_makes false = pick_makes truths (token.Word word.False) false refl

-- what stands in brackets
pub open_makes : {A B : Type 0} {R : Rule A} {a : Tokens} {P : A → Type 0} {Q : B → Type 0} (g : A → B) → Makes R a P → ((x : A) → P x → Q (g x))
    → Makes (Seq (Sign S_OPEN) (λ _. Seq R (λ x. As (Sign S_CLOSE) (λ _. g x)))) (in_brackets a) Q
open_makes g h k = seq_makes (symbol_makes S_OPEN symbol.Open refl) (λ _ _. seq_makes h (λ x p. as_makes (λ _. g x) (symbol_makes S_CLOSE symbol.Close refl) (λ _ _. k x p)))

brackets_make : {E : Rule Expr} {a : Tokens} {v : Expr} → Makes E a (λ y. bare_expr y ≡ v) → Makes (Brackets E) (in_brackets a) (λ y. bare_expr y ≡ v)
brackets_make h = seq_makes (symbol_makes S_OPEN symbol.Open refl) (λ at _. seq_makes h (λ x p.
    as_makes (λ _. expr at x.form) (symbol_makes S_CLOSE symbol.Close refl) (λ _ _. bare_inside at x ∙ p)))

pair_is : (a b : Tokens) → a ++ (sign symbol.Comma ++ (b ++ sign symbol.Close)) ≡ a ++ sign symbol.Comma ++ b ++ sign symbol.Close
pair_is a b = sym (append_assoc (a ++ sign symbol.Comma) b (sign symbol.Close) ∙ append_assoc a (sign symbol.Comma) (b ++ sign symbol.Close))

two_make : {E : Rule Expr} {a b : Tokens} {P Q S : Expr → Type 0} (o : TwoOf) → Makes E a P → Makes E b Q
    → ((at : ℕ) (x y : Expr) → P x → Q y → S (expr at (form.Two o x y))) → Makes (TwoArgs E) (two_word o ++ in_brackets (a ++ sign symbol.Comma ++ b)) S
two_make {a = a} {b = b} {S = S} o h k j = again (ap (λ z. two_word o ++ (sign symbol.Open ++ z)) (pair_is a b)) (seq_makes (two_word_makes o) (λ c d.
    seq_makes (symbol_makes S_OPEN symbol.Open refl) (λ _ _. seq_makes h (λ x p. seq_makes (symbol_makes S_COMMA symbol.Comma refl) (λ _ _. seq_makes k (λ y q.
    as_makes (λ _. expr c.1 (form.Two c.0 x y)) (symbol_makes S_CLOSE symbol.Close refl) (λ _ _. subst (λ z. S (expr c.1 (form.Two z x y))) (sym d) (j c.1 x y p q))))))))

list_makes : {E : Rule Expr} (n : ℕ) (es : List Expr) → AllOf (λ e. Makes E (expr_tokens e) (SameExpr e)) es → length es ≤ n
    → Makes (Listed n E) (sign symbol.OpenSquare ++ items expr_tokens es ++ sign symbol.CloseSquare) (λ y. bare_expr y ≡ expr 0 (roll-Form (Form-F.List (map bare_expr es))))
list_makes {E = E} n es h l = seq_makes (symbol_makes S_OPEN_SQUARE symbol.OpenSquare refl) (λ at _.
    seq_makes (between_makes E expr_tokens bare_expr es h n l) (λ ys p. as_makes (λ _. expr at (form.List ys)) (symbol_makes S_CLOSE_SQUARE symbol.CloseSquare refl)
    (λ _ _. bare_at at (form.List ys) (Form-F.List ys) (form.rolls-List ys) ∙ λ i. expr 0 (roll-Form (Form-F.List (p i))))))

-- an index, and what is asked of a child behind it
index_makes : {E : Rule Expr} {a : Tokens} {P : Expr → Type 0} → Makes E a P → Makes (Index E) (index (Some a)) P
index_makes h = seq_makes (symbol_makes S_OPEN_SQUARE symbol.OpenSquare refl) (λ _ _. seq_makes h (λ x p.
    as_makes (λ _. x) (symbol_makes S_CLOSE_SQUARE symbol.CloseSquare refl) (λ _ _. p)))

path_makes : (I : Rule Expr) (n : Name) (j : Tokens) (P : Option Expr → Type 0) (p : ChildPart) (Q : Expr → Type 0) → Makes (Either (As I Some) (Done None)) j P
    → ((at : ℕ) (x : Name) (i : Option Expr) (q : ChildPart) → SameName n x → P i → SamePart p q → Q (expr at (form.Child at x i q)))
    → Makes (Path I) (context n ++ j ++ child_part p) Q
path_makes I n j P p Q h k = again (ap (λ z. context n ++ j ++ z) (asked_is p)) (seq_makes (context_makes n) (λ c e. left_makes (seq_makes h (λ i d.
    seq_makes (symbol_makes S_DOT symbol.Dot refl) (λ _ _. as_makes (λ q. expr c.0 (form.Child c.0 c.1 i q)) (part_makes p) (λ q g. k c.0 c.1 i q e d g))))))

-- ---- the alternatives of a primary
-- an expression with this level, offsets aside
abbrev Is : Level-F → Expr → Type 0
Is x y = bare_expr y ≡ bared x

number_primary : (n : Number) → Makes (As NUMBER (λ x. expr x.at (form.Number x))) (number n) (Is (Form-F.Number n))
number_primary n = as_makes (λ x. expr x.at (form.Number x)) (number_makes n) (λ x p.
    bare_at x.at (form.Number x) (Form-F.Number x) (form.rolls-Number x) ∙ λ i. expr 0 (roll-Form (Form-F.Number (p i))))

text_primary : (q : Quoted) → Makes (As TEXT (λ x. expr x.at (form.Quoted x))) (text q) (Is (Form-F.Quoted q))
text_primary q = as_makes (λ x. expr x.at (form.Quoted x)) (text_makes q) (λ x p.
    bare_at x.at (form.Quoted x) (Form-F.Quoted x) (form.rolls-Quoted x) ∙ λ i. expr 0 (roll-Form (Form-F.Quoted (p i))))

truth_primary : (b : Bool) → Makes (As (Pick truths) (λ x. expr x.1 (form.Truth x.0))) (truth_word b) (Is (Form-F.Truth b))
truth_primary b = as_makes (λ x. expr x.1 (form.Truth x.0)) (truth_makes b) (λ x p.
    bare_at x.1 (form.Truth x.0) (Form-F.Truth x.0) (form.rolls-Truth x.0) ∙ λ i. expr 0 (roll-Form (Form-F.Truth (p i))))

bare_primary : (n : Name) → Makes (As NAME (λ x. expr x.at (form.Bare x))) (name n) (Is (Form-F.Bare n))
bare_primary n = as_makes (λ x. expr x.at (form.Bare x)) (name_makes n) (λ x p.
    bare_at x.at (form.Bare x) (Form-F.Bare x) (form.rolls-Bare x) ∙ λ i. expr 0 (roll-Form (Form-F.Bare (p i))))

input_primary : (at : ℕ) (n : Name) → Makes (As (Member W_INPUTS) (λ c. expr c.0 (form.Input c.0 c.1))) (input n) (Is (Form-F.Input at n))
input_primary at n = as_makes (λ c. expr c.0 (form.Input c.0 c.1)) (input_makes n) (λ x p.
    bare_at x.0 (form.Input x.0 x.1) (Form-F.Input x.0 x.1) (form.rolls-Input x.0 x.1) ∙ λ i. expr 0 (roll-Form (Form-F.Input 0 (p i))))

plain_primary : (I : Rule Expr) (at : ℕ) (n : Name) → Makes (Path I) (context n) (Is (Form-F.Plain at n))
plain_primary I at n = seq_makes (context_makes n) (λ x p. right_makes (done_makes (Is (Form-F.Plain at n)) (expr x.0 (form.Plain x.0 x.1))
    (bare_at x.0 (form.Plain x.0 x.1) (Form-F.Plain x.0 x.1) (form.rolls-Plain x.0 x.1) ∙ λ i. expr 0 (roll-Form (Form-F.Plain 0 (p i))))))

-- an index that is there, or is not
abbrev IndexSame : Option Expr → Option Expr → Type 0
IndexSame None x = x ≡ None
IndexSame (Some e) x = (y : Expr) × (x ≡ Some y) × SameExpr e y

abbrev IndexDerived : Rule Expr → Option Expr → Type 0
IndexDerived E None = Unit {0}
IndexDerived E (Some e) = Makes E (expr_tokens e) (SameExpr e)

abbrev index_tokens : Option Expr → Tokens
index_tokens None = []
index_tokens (Some e) = index (Some (expr_tokens e))

index_if_any : (E : Rule Expr) (i : Option Expr) → IndexDerived E i → Makes (Either (As (Index E) Some) (Done None)) (index_tokens i) (IndexSame i)
index_if_any E None h = right_makes (done_makes (λ x. x ≡ None) None refl)
index_if_any E (Some e) h = left_makes (as_makes Some (index_makes h) (λ y p. (y, refl, p)))

abbrev bare_index : Option Expr → Option Expr
bare_index None = None
bare_index (Some e) = Some (bare_expr e)

bare_child : (at : ℕ) (n x : Name) (i j : Option Expr) (p q : ChildPart) → SameName n x → IndexSame i j → SamePart p q
    → bare_expr (expr at (form.Child at x j q)) ≡ expr 0 (roll-Form (Form-F.Child 0 (bare_name n) (bare_index i) (bare_part p)))
bare_child at n x None j p q d e f =
    ap (λ z. bare_expr (expr at (form.Child at x z q))) e ∙ bare_at at (form.Child at x None q) (Form-F.Child at x None q) (form.rolls-Child at x None q)
    ∙ λ k. expr 0 (roll-Form (Form-F.Child 0 (d k) None (f k)))
bare_child at n x (Some i) j p q d e f =
    ap (λ z. bare_expr (expr at (form.Child at x z q))) e.1 ∙ bare_at at (form.Child at x (Some e.0) q) (Form-F.Child at x (Some e.0) q) (form.rolls-Child at x (Some e.0) q)
    ∙ λ k. expr 0 (roll-Form (Form-F.Child 0 (d k) (Some (e.2 k)) (f k)))

child_primary : (E : Rule Expr) (n : Name) (i : Option Expr) (p : ChildPart) → IndexDerived E i
    → Makes (Path (Index E)) (context n ++ index_tokens i ++ child_part p) (λ y. bare_expr y ≡ expr 0 (roll-Form (Form-F.Child 0 (bare_name n) (bare_index i) (bare_part p))))
child_primary E n i p h = path_makes (Index E) n (index_tokens i) (IndexSame i) p (λ y. bare_expr y ≡ expr 0 (roll-Form (Form-F.Child 0 (bare_name n) (bare_index i) (bare_part p))))
    (index_if_any E i h) (λ at x j q d e f. bare_child at n x i j p q d e f)

given_makes : {a : Tokens} {P : Expr → Type 0}
    → ((at : ℕ) → Makes (Either (As NAME (λ x. expr at (form.GivenBare x))) (As (Member W_INPUTS) (λ c. expr at (form.GivenInput c.0 c.1)))) a P)
    → Makes Given (reserved word.Given ++ in_brackets a) P
given_makes h = seq_makes (word_makes W_GIVEN word.Given refl) (λ at _. open_makes (λ e. e) (h at) (λ x p. p))

given_bare_primary : (n : Name) → Makes Given (reserved word.Given ++ in_brackets (name n)) (Is (Form-F.GivenBare n))
given_bare_primary n = given_makes (λ at. left_makes (as_makes (λ x. expr at (form.GivenBare x)) (name_makes n) (λ x p.
    bare_at at (form.GivenBare x) (Form-F.GivenBare x) (form.rolls-GivenBare x) ∙ λ i. expr 0 (roll-Form (Form-F.GivenBare (p i))))))

given_input_primary : (place : ℕ) (n : Name) → Makes Given (reserved word.Given ++ in_brackets (input n)) (Is (Form-F.GivenInput place n))
given_input_primary place n = given_makes (λ at. right_makes (as_makes (λ c. expr at (form.GivenInput c.0 c.1)) (input_makes n) (λ x p.
    bare_at at (form.GivenInput x.0 x.1) (Form-F.GivenInput x.0 x.1) (form.rolls-GivenInput x.0 x.1) ∙ λ i. expr 0 (roll-Form (Form-F.GivenInput 0 (p i))))))

count_primary : (place : ℕ) (n : Name) → Makes Count (reserved word.Count ++ in_brackets (context n)) (Is (Form-F.Count place n))
count_primary place n = seq_makes (word_makes W_COUNT word.Count refl) (λ at _. open_makes (λ c. expr at (form.Count c.0 c.1)) (context_makes n) (λ x p.
    bare_at at (form.Count x.0 x.1) (Form-F.Count x.0 x.1) (form.rolls-Count x.0 x.1) ∙ λ i. expr 0 (roll-Form (Form-F.Count 0 (p i)))))

-- those with expressions in brackets
unary_nested : (n : ℕ) (N I : Rule Expr) (o : UnaryOp) (a : Expr) → Makes (Primary N I) (expr_tokens a) (SameExpr a)
    → Makes (Brackets (Level n N I)) (in_brackets (unary_sign o ++ expr_tokens a)) (Is (Form-F.Unary o a))
unary_nested n N I o a h = brackets_make (unary_makes n N I o h (λ x at p.
    bare_at at (form.Unary o x) (Form-F.Unary o x) (form.rolls-Unary o x) ∙ λ i. expr 0 (roll-Form (Form-F.Unary o (p i)))))

binary_nested : (n : ℕ) (N I : Rule Expr) (o : BinaryOp) (a b : Expr) → Makes (Primary N I) (expr_tokens a) (SameExpr a) → Makes (Primary N I) (expr_tokens b) (SameExpr b)
    → Makes (Brackets (Level (suc n) N I)) (in_brackets (expr_tokens a ++ binary_sign o ++ expr_tokens b)) (Is (Form-F.Binary o a b))
binary_nested n N I o a b h k = brackets_make (again (sym (append_assoc (expr_tokens a) (binary_sign o) (expr_tokens b))) (binary_makes n N I h k o (λ x y p q.
    bare_at x.at (form.Binary o x y) (Form-F.Binary o x y) (form.rolls-Binary o x y) ∙ λ i. expr 0 (roll-Form (Form-F.Binary o (p i) (q i))))))

one_nested : (E : Rule Expr) (o : OneOf) (a : Expr) → Makes E (expr_tokens a) (SameExpr a) → Makes (OneArg E) (one_word o ++ in_brackets (expr_tokens a)) (Is (Form-F.One o a))
one_nested E o a h = seq_makes (one_word_makes o) (λ c d. open_makes (λ e. expr c.1 (form.One c.0 e)) h (λ x p.
    bare_at c.1 (form.One c.0 x) (Form-F.One c.0 x) (form.rolls-One c.0 x) ∙ λ i. expr 0 (roll-Form (Form-F.One (d i) (p i)))))

two_nested : (E : Rule Expr) (o : TwoOf) (a b : Expr) → Makes E (expr_tokens a) (SameExpr a) → Makes E (expr_tokens b) (SameExpr b)
    → Makes (TwoArgs E) (two_word o ++ in_brackets (expr_tokens a ++ sign symbol.Comma ++ expr_tokens b)) (Is (Form-F.Two o a b))
two_nested E o a b h k = two_make o h k (λ at x y p q.
    bare_at at (form.Two o x y) (Form-F.Two o x y) (form.rolls-Two o x y) ∙ λ i. expr 0 (roll-Form (Form-F.Two o (p i) (q i))))

-- ---- each level
-- expressions that are primaries, with a bound on the brackets in them
abbrev Primaries : ℕ → Rule Expr
Primaries zero = Never
Primaries (suc n) = Primary (Nested n (Exprs n)) (Index (Exprs n))

-- From some bound on the tokens are a primary with this bare form.
abbrev IsPrimary : Tokens → Expr → Type 0
IsPrimary a v = From (λ n. Makes (Primaries n) a (λ y. bare_expr y ≡ v))

abbrev IsExpr : Tokens → Expr → Type 0
IsExpr a v = From (λ n. Makes (Exprs n) a (λ y. bare_expr y ≡ v))

-- A primary is an expression.
as_expr : {a : Tokens} {v : Expr} → IsPrimary a v → IsExpr a v
as_expr h = positive (λ n k. alone_expr (suc n) (Nested n (Exprs n)) (Index (Exprs n)) k) h

leaf : {a : Tokens} {v : Expr} → ((N I : Rule Expr) → Makes (Primary N I) a (λ y. bare_expr y ≡ v)) → IsPrimary a v
leaf k = above {P = λ n. Unit {0}} (λ n h. k (Nested n (Exprs n)) (Index (Exprs n))) (always (λ n. tt))

nested : {P : ℕ → Type 0} {a : Tokens} {v : Expr} → ((n : ℕ) → P n → Makes (Nested n (Exprs n)) a (λ y. bare_expr y ≡ v)) → From P → IsPrimary a v
nested k h = above (λ n p. left_makes (k n p)) h

bracketed : {P : ℕ → Type 0} {a : Tokens} {v : Expr} → ((n : ℕ) → P (suc n) → Makes (Brackets (Exprs (suc n))) a (λ y. bare_expr y ≡ v)) → From P → IsPrimary a v
bracketed k h = nested (λ n p. right_makes (right_makes (left_makes p))) (positive k h)

-- the alternatives behind the first, where paths begin
behind_four : {Before First Second Third Fourth Last : Rule Expr} {a : Tokens} {P : Expr → Type 0} → Makes Last a P
    → Makes (Either Before (Either First (Either Second (Either Third (Either Fourth Last))))) a P
behind_four h = right_makes (right_makes (right_makes (right_makes (right_makes h))))

items_map : {X : Type 0} (first : Bool) (g : X → Tokens) (xs : List X) → separated first (λ t. t) (map g xs) ≡ separated first g xs
items_map first g [] = refl
items_map first g (x ∷ xs) = ap (λ z. (if first then [] else sign symbol.Comma) ++ (g x ++ z)) (items_map false g xs)

module _ {S S' : Type 0} (v : S → Form) (v' : S' → Expr) (p' : (s : S') → IsPrimary (expr_tokens (v' s)) (bare_expr (v' s))) where
  abbrev opened : Form-F S S' → Level-F
  opened y = map-Form S S' Form Expr v v' y

  abbrev tokens_in : Form-F S S' → Tokens
  tokens_in y = form_tokens (map-Form Form Expr Tokens Tokens tokens_of_form expr_tokens (opened y))

  each : (ss : List S') → From (λ n. AllOf (λ e. Makes (Exprs n) (expr_tokens e) (SameExpr e)) (map v' ss))
  each [] = always (λ n. tt)
  each (s ∷ ss) = together (as_expr (p' s)) (each ss)

  listed : (ss : List S') → IsPrimary (tokens_in (Form-F.List ss)) (bared (opened (Form-F.List ss)))
  listed ss = nested (λ n h. right_makes (right_makes (right_makes
      (again (ap (λ z. sign symbol.OpenSquare ++ z ++ sign symbol.CloseSquare) (sym (items_map true expr_tokens (map v' ss)))) (list_makes n (map v' ss) h.0 h.1)))))
      (together (each ss) (reaching (length (map v' ss))))

  level : (y : Form-F S S') → IsPrimary (tokens_in y) (bared (opened y))
  level (Form-F.Number n) = leaf (λ N I. right_makes (left_makes (number_primary n)))
  level (Form-F.Quoted q) = leaf (λ N I. right_makes (right_makes (left_makes (text_primary q))))
  level (Form-F.Truth b) = leaf (λ N I. right_makes (right_makes (right_makes (left_makes (truth_primary b)))))
  level (Form-F.Input at n) = leaf (λ N I. right_makes (right_makes (right_makes (right_makes (left_makes (input_primary at n))))))
  level (Form-F.Plain at n) = leaf (λ N I. behind_four (left_makes (plain_primary I at n)))
  level (Form-F.Child at n None p) = above {P = λ n. Unit {0}} (λ m h. behind_four (left_makes (child_primary (Exprs m) n None p tt))) (always (λ n. tt))
  level (Form-F.Child at n (Some s) p) = above (λ m h. behind_four (left_makes (child_primary (Exprs m) n (Some (v' s)) p h))) (as_expr (p' s))
  level (Form-F.GivenBare n) = leaf (λ N I. behind_four (right_makes (left_makes (given_bare_primary n))))
  level (Form-F.GivenInput at n) = leaf (λ N I. behind_four (right_makes (left_makes (given_input_primary at n))))
  level (Form-F.Count at n) = leaf (λ N I. behind_four (right_makes (right_makes (left_makes (count_primary at n)))))
  level (Form-F.Bare n) = leaf (λ N I. behind_four (right_makes (right_makes (right_makes (bare_primary n)))))
  level (Form-F.Unary o a) = bracketed (λ n h. unary_nested (suc n) (Nested n (Exprs n)) (Index (Exprs n)) o (v' a) h) (p' a)
  level (Form-F.Binary o a b) = bracketed (λ n h. binary_nested n (Nested n (Exprs n)) (Index (Exprs n)) o (v' a) (v' b) h.0 h.1) (together (p' a) (p' b))
  level (Form-F.One o a) = nested (λ n h. left_makes (one_nested (Exprs n) o (v' a) h)) (as_expr (p' a))
  level (Form-F.Two o a b) = nested (λ n h. right_makes (left_makes (two_nested (Exprs n) o (v' a) (v' b) h.0 h.1))) (together (as_expr (p' a)) (as_expr (p' b)))
  level (Form-F.List es) = listed es

  level_rolled : (y : Form-F S S') → IsPrimary (tokens_of_form (roll-Form (opened y))) (expr 0 (bare_form (roll-Form (opened y))))
  level_rolled y = implied (λ n k. again (sym (fold-roll-Form Tokens Tokens form_tokens its_tokens (opened y)))
      (weaken (λ z e. e ∙ ap (expr 0) (sym (fold-roll-Form Form Expr at_form at_expr (opened y)))) k)) (level y)

expr_at : (e : Expr-F Form Expr) → IsPrimary (tokens_of_form e.form) (expr 0 (bare_form e.form)) → IsPrimary (expr_tokens (roll-Expr e)) (bare_expr (roll-Expr e))
expr_at e h = implied (λ n k. again (sym (fold-roll-Expr Tokens Tokens form_tokens its_tokens e))
    (weaken (λ y d. d ∙ sym (fold-roll-Expr Form Expr at_form at_expr e)) k)) h

primary : (e : Expr) → IsPrimary (expr_tokens e) (bare_expr e)
primary = ind-Expr (λ f. IsPrimary (tokens_of_form f) (expr 0 (bare_form f))) (λ e. IsPrimary (expr_tokens e) (bare_expr e))
    (λ x y e. subst (λ (z : Form-F Form Expr). IsPrimary (tokens_of_form (roll-Form z)) (expr 0 (bare_form (roll-Form z)))) e
    (level_rolled (λ s. s.0) (λ s. s.0) (λ s. s.1) y))
    (λ x y e. subst (λ (z : Expr-F Form Expr). IsPrimary (expr_tokens (roll-Expr z)) (bare_expr (roll-Expr z))) e (expr_at (record { at = y.at; form = y.form.0 }) y.form.1))

-- The tokens of a printed expression are an expression that says the same, from some bound on.
pub expr_makes : (e : Expr) → From (λ n. Makes (Exprs n) (expr_tokens e) (SameExpr e))
expr_makes e = as_expr (primary e)
