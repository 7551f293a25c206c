-- The printed tokens of an expression weigh what its own do, and have no more brackets open than they weigh.
use Rattle.std.proofs.Common.{◌≡◌, ℕ, ◌+◌, List, [], ◌∷◌, ◌++◌, Bool, true, false, Some, None, refl, sym, ap, ◌∙◌, subst, append-nil, append_assoc, arith}
use Rattle.wc_lexer.specs.declared.token.Word.TheVariants as word
use Rattle.wc_lexer.specs.declared.token.Symbol.TheVariants as symbol
use Rattle.wc_syntax.specs.declared.expression.Name.{Name}
use Rattle.wc_syntax.specs.declared.expression.Number.{Number}
use Rattle.wc_syntax.specs.declared.expression.Quoted.{Quoted}
use Rattle.wc_syntax.specs.declared.expression.UnaryOp.{UnaryOp}
use Rattle.wc_syntax.specs.declared.expression.UnaryOp.TheVariants as unary
use Rattle.wc_syntax.specs.declared.expression.BinaryOp.{BinaryOp}
use Rattle.wc_syntax.specs.declared.expression.BinaryOp.TheVariants as op
use Rattle.wc_syntax.specs.declared.expression.OneOf.{OneOf}
use Rattle.wc_syntax.specs.declared.expression.OneOf.TheVariants as oneof
use Rattle.wc_syntax.specs.declared.expression.TwoOf.{TwoOf}
use Rattle.wc_syntax.specs.declared.expression.TwoOf.TheVariants as twoof
use Rattle.wc_syntax.specs.declared.expression.ChildPart.{ChildPart}
use Rattle.wc_syntax.specs.declared.expression.ChildPart.TheVariants as part
use Rattle.wc_syntax.specs.declared.expression.Expr.{Expr, out-Expr}
use Rattle.wc_syntax.specs.declared.expression.Form.TheVariants as form
use Rattle.wc_syntax.specs.declared.expression.Form.TheOpen.{Form-F}
use Rattle.wc_grammar.specs.Grammar.{expr, binary, in_brackets, Exprs}
use Rattle.wc_parser.specs.PrintedTokens as print
use Rattle.wc_parser.specs.PrintedTokens.{Tokens, expr_tokens}
use Rattle.wc_parser.proofs.Derived.{Holds}
use Rattle.wc_parser.proofs.Expressions.{w, s, round, square, Cases, exprs_hold}
use Rattle.wc_parser.proofs.Folds.{tokens_made, brackets_tokens, separated_map}
use Rattle.wc_parser.proofs.Lines.{separated_more, row_is}
use Rattle.wc_parser.proofs.Walks.{Light, Heavy, Shut, Inner, shut, deeper, light_append, light_inner, nothing_inner, join, ahead, ahead_heavy, grouped, bracketed, called, squared}

-- ---- tokens that weigh nothing or one
pub number_light : (n : Number) → Light (print.number n) false
number_light n = record { lean = λ K b w c l. l.2; flat = λ K b r w c h k. (h, k) }

pub text_light : (q : Quoted) → Light (print.text q) false
text_light q = record { lean = λ K b w c l. l.2; flat = λ K b r w c h k. (h, k) }

pub name_light : (n : Name) → Light (print.name n) true
name_light n = record { lean = λ K b w c l. l.2; flat = λ K b r w c h k. (h, k) }

pub comma_light : Light (s symbol.Comma ∷ []) false
comma_light = record { lean = λ K b w c l. l.2; flat = λ K b r w c h k. (h, k) }

truth_light : (b : Bool) → Light (print.truth_word b) false
truth_light true = record { lean = λ K b w c l. l.2; flat = λ K b r w c h k. (h, k) }
truth_light false = record { lean = λ K b w c l. l.2; flat = λ K b r w c h k. (h, k) }

pub input_light : (n : Name) → Light (print.input n) true
input_light n = record { lean = λ K b w c l. l.2.2.2; flat = λ K b r w c h k. (h, (h, (h, k))) }

pub context_light : (n : Name) → Light (print.context n) true
context_light n = record { lean = λ K b w c l. l.2.2.2; flat = λ K b r w c h k. (h, (h, (h, k))) }

ends_called : ChildPart → Bool
ends_called (part.Outputs n) = true
ends_called part.Status = false
ends_called part.Ok = false

part_light : (p : ChildPart) → Light (print.child_part p) (ends_called p)
unfolding ends_called
part_light (part.Outputs n) = record { lean = λ K b w c l. l.2.2.2.2; flat = λ K b r w c h k. (h, (h, (h, (h, k)))) }
part_light part.Status = record { lean = λ K b w c l. l.2.2; flat = λ K b r w c h k. (h, (h, k)) }
part_light part.Ok = record { lean = λ K b w c l. l.2.2; flat = λ K b r w c h k. (h, (h, k)) }

unary_heavy : (o : UnaryOp) → Heavy (print.unary_sign o)
unary_heavy unary.Negate = record { lean = λ K b w c l. (l.1, l.2); flat = λ K b r w c h k. (h, k) }
unary_heavy unary.Not = record { lean = λ K b w c l. (l.1, l.2); flat = λ K b r w c h k. (h, k) }

binary_heavy : (o : BinaryOp) → Heavy (print.binary_sign o)
binary_heavy op.Or = record { lean = λ K b w c l. (l.1, l.2); flat = λ K b r w c h k. (h, k) }
binary_heavy op.And = record { lean = λ K b w c l. (l.1, l.2); flat = λ K b r w c h k. (h, k) }
binary_heavy op.Equal = record { lean = λ K b w c l. (l.1, l.2); flat = λ K b r w c h k. (h, k) }
binary_heavy op.Differs = record { lean = λ K b w c l. (l.1, l.2); flat = λ K b r w c h k. (h, k) }
binary_heavy op.Less = record { lean = λ K b w c l. (l.1, l.2); flat = λ K b r w c h k. (h, k) }
binary_heavy op.AtMost = record { lean = λ K b w c l. (l.1, l.2); flat = λ K b r w c h k. (h, k) }
binary_heavy op.Greater = record { lean = λ K b w c l. (l.1, l.2); flat = λ K b r w c h k. (h, k) }
binary_heavy op.AtLeast = record { lean = λ K b w c l. (l.1, l.2); flat = λ K b r w c h k. (h, k) }
binary_heavy op.Add = record { lean = λ K b w c l. (l.1, l.2); flat = λ K b r w c h k. (h, k) }
binary_heavy op.Subtract = record { lean = λ K b w c l. (l.1, l.2); flat = λ K b r w c h k. (h, k) }
binary_heavy op.Multiply = record { lean = λ K b w c l. (l.1, l.2); flat = λ K b r w c h k. (h, k) }
binary_heavy op.Divide = record { lean = λ K b w c l. (l.1, l.2); flat = λ K b r w c h k. (h, k) }
binary_heavy op.Remainder = record { lean = λ K b w c l. (l.1, l.2); flat = λ K b r w c h k. (h, k) }

one_light : (o : OneOf) → Light (print.one_word o) true
one_light oneof.Text = record { lean = λ K b w c l. l.2; flat = λ K b r w c h k. (h, k) }
one_light oneof.Int = record { lean = λ K b w c l. l.2; flat = λ K b r w c h k. (h, k) }
one_light oneof.Trim = record { lean = λ K b w c l. l.2; flat = λ K b r w c h k. (h, k) }
one_light oneof.Len = record { lean = λ K b w c l. l.2; flat = λ K b r w c h k. (h, k) }

two_light : (o : TwoOf) → Light (print.two_word o) true
two_light twoof.Get = record { lean = λ K b w c l. l.2; flat = λ K b r w c h k. (h, k) }
two_light twoof.Has = record { lean = λ K b w c l. l.2; flat = λ K b r w c h k. (h, k) }
two_light twoof.File = record { lean = λ K b w c l. l.2; flat = λ K b r w c h k. (h, k) }
two_light twoof.Line = record { lean = λ K b w c l. l.2; flat = λ K b r w c h k. (h, k) }
two_light twoof.Contains = record { lean = λ K b w c l. l.2; flat = λ K b r w c h k. (h, k) }
two_light twoof.Min = record { lean = λ K b w c l. l.2; flat = λ K b r w c h k. (h, k) }
two_light twoof.Max = record { lean = λ K b w c l. l.2; flat = λ K b r w c h k. (h, k) }

given_light : Light (w word.Given ∷ []) true
given_light = record { lean = λ K b w c l. l.2; flat = λ K b r w c h k. (h, k) }

count_light : Light (w word.Count ∷ []) true
count_light = record { lean = λ K b w c l. l.2; flat = λ K b r w c h k. (h, k) }

-- ---- expressions
-- the printed tokens of the expression beside tokens that derive it
abbrev pub Weighs : Tokens → Expr → Type 1
Weighs ts e = (n : ℕ) × Inner Shut n n ts (expr_tokens e)

-- so too those of several with commas between them
abbrev pub WeighAll : Tokens → List Expr → Type 1
WeighAll ts es = (row : Tokens) × (s symbol.Comma ∷ row ≡ print.separated false expr_tokens es) × (n : ℕ) × Inner Shut n n ts row

weighs : {ts ps : Tokens} {n : ℕ} (e : Expr) → expr_tokens e ≡ ps → Inner Shut n n ts ps → Weighs ts e
weighs {ts = ts} {n = n} e h x = (n, subst (λ z. Inner Shut n n ts z) (sym h) x)

-- the same tokens, which weigh nothing
plain : {o : Tokens} {f : Bool} (e : Expr) → expr_tokens e ≡ o → Light o f → Weighs o e
plain e h x = weighs e h (shut (light_inner x))

child_of : (at : ℕ) (n : Name) (p : ChildPart) (ts : Tokens) (e : Expr) → Weighs ts e → Weighs (print.context n ++ (square ts ++ print.child_part p)) (expr at (form.Child at n (Some e) p))
child_of at n p ts e x =
    weighs (expr at (form.Child at n (Some e) p)) (tokens_made at (form.Child at n (Some e) p) (Form-F.Child at n (Some e) p) (form.rolls-Child at n (Some e) p))
    (shut (ahead (context_light n) tt (join (squared x.1) (light_inner (part_light p)))))

unary_weighs : (at : ℕ) (o : UnaryOp) (ts : Tokens) (e : Expr) → Weighs ts e → Weighs (print.unary_sign o ++ ts) (expr at (form.Unary o e))
unary_weighs at o ts e x = weighs (expr at (form.Unary o e)) (tokens_made at (form.Unary o e) (Form-F.Unary o e) (form.rolls-Unary o e))
    (bracketed (shut (ahead_heavy (unary_heavy o) x.1)))

both_weigh : (o : BinaryOp) (ts us : Tokens) (a b : Expr) → Weighs ts a → Weighs us b → Weighs (ts ++ (print.binary_sign o ++ us)) (binary o a b)
both_weigh o ts us a b x y = weighs (binary o a b) (tokens_made (out-Expr a).at (form.Binary o a b) (Form-F.Binary o a b) (form.rolls-Binary o a b)
    ∙ ap round (append_assoc (expr_tokens a) (print.binary_sign o) (expr_tokens b)))
    (deeper (omega arith) (bracketed (join x.1 (ahead_heavy (binary_heavy o) y.1))))

one_weighs : (at : ℕ) (o : OneOf) (ts : Tokens) (e : Expr) → Weighs ts e → Weighs (print.one_word o ++ round ts) (expr at (form.One o e))
one_weighs at o ts e x = weighs (expr at (form.One o e)) (tokens_made at (form.One o e) (Form-F.One o e) (form.rolls-One o e))
    (shut (ahead (one_light o) refl (called x.1)))

two_weigh : (at : ℕ) (o : TwoOf) (ts us : Tokens) (a b : Expr) → Weighs ts a → Weighs us b → Weighs (print.two_word o ++ round (ts ++ s symbol.Comma ∷ us)) (expr at (form.Two o a b))
two_weigh at o ts us a b x y = weighs (expr at (form.Two o a b)) (tokens_made at (form.Two o a b) (Form-F.Two o a b) (form.rolls-Two o a b)
    ∙ ap (λ z. print.two_word o ++ round z) (append_assoc (expr_tokens a) (s symbol.Comma ∷ []) (expr_tokens b)))
    (shut (ahead (two_light o) refl (called (join x.1 (ahead comma_light refl y.1)))))

grouped_weighs : (at : ℕ) (ts : Tokens) (e : Expr) → Weighs ts e → Weighs (round ts) (in_brackets at e)
grouped_weighs at ts e x = weighs (in_brackets at e) (brackets_tokens at e) (grouped x.1)

items_weigh : (at : ℕ) (ts : Tokens) (es : List Expr) → WeighAll ts es → Weighs (square ts) (expr at (form.List es))
items_weigh at ts es x = weighs (expr at (form.List es))
    (tokens_made at (form.List es) (Form-F.List es) (form.rolls-List es) ∙ ap square (separated_map true expr_tokens es ∙ sym (row_is expr_tokens x.0 es x.1)))
    (shut (squared x.3))

first_weighs : (ts : Tokens) (e : Expr) → Weighs ts e → WeighAll ts (e ∷ [])
first_weighs ts e x = (expr_tokens e, ap (λ z. s symbol.Comma ∷ z) (sym (append-nil (expr_tokens e))), x.0, x.1)

more_weigh : (front : Tokens) (es : List Expr) (ts : Tokens) (e : Expr) → WeighAll front es → Weighs ts e → WeighAll (front ++ s symbol.Comma ∷ ts) (es ++ e ∷ [])
more_weigh front es ts e x y = (
  x.0 ++ s symbol.Comma ∷ expr_tokens e,
  ap (λ z. z ++ s symbol.Comma ∷ expr_tokens e) x.1 ∙ sym (separated_more expr_tokens es e),
  x.2 + y.0,
  join x.3 (ahead comma_light refl y.1),
)

cases : Cases Weighs WeighAll
cases = record {
  number = λ n. plain (expr n.at (form.Number n)) (tokens_made n.at (form.Number n) (Form-F.Number n) (form.rolls-Number n)) (number_light n);
  text = λ q. plain (expr q.at (form.Quoted q)) (tokens_made q.at (form.Quoted q) (Form-F.Quoted q) (form.rolls-Quoted q)) (text_light q);
  truth = λ at b. plain (expr at (form.Truth b)) (tokens_made at (form.Truth b) (Form-F.Truth b) (form.rolls-Truth b)) (truth_light b);
  name = λ n. plain (expr n.at (form.Bare n)) (tokens_made n.at (form.Bare n) (Form-F.Bare n) (form.rolls-Bare n)) (name_light n);
  input = λ at n. plain (expr at (form.Input at n)) (tokens_made at (form.Input at n) (Form-F.Input at n) (form.rolls-Input at n)) (input_light n);
  plain = λ at n. plain (expr at (form.Plain at n)) (tokens_made at (form.Plain at n) (Form-F.Plain at n) (form.rolls-Plain at n)) (context_light n);
  child_alone = λ at n p. plain (expr at (form.Child at n None p)) (tokens_made at (form.Child at n None p) (Form-F.Child at n None p) (form.rolls-Child at n None p))
      (light_append (context_light n) (part_light p));
  child_of = child_of;
  unary = unary_weighs;
  both = both_weigh;
  one = one_weighs;
  two = two_weigh;
  given_bare = λ at n. weighs (expr at (form.GivenBare n)) (tokens_made at (form.GivenBare n) (Form-F.GivenBare n) (form.rolls-GivenBare n))
      (shut (ahead given_light refl (called (shut (light_inner (name_light n))))));
  given_input = λ at place n. weighs (expr at (form.GivenInput place n)) (tokens_made at (form.GivenInput place n) (Form-F.GivenInput place n) (form.rolls-GivenInput place n))
      (shut (ahead given_light refl (called (shut (light_inner (input_light n))))));
  counted = λ at place n. weighs (expr at (form.Count place n)) (tokens_made at (form.Count place n) (Form-F.Count place n) (form.rolls-Count place n))
      (shut (ahead count_light refl (called (shut (light_inner (context_light n))))));
  grouped = grouped_weighs;
  no_items = λ at. weighs (expr at (form.List [])) (tokens_made at (form.List []) (Form-F.List []) (form.rolls-List [])) (shut (squared nothing_inner));
  items = items_weigh;
  first = first_weighs;
  more = more_weigh;
}

-- Each expression's printed tokens weigh what its own do.
pub exprs_weigh : (n : ℕ) → Holds Weighs (Exprs n)
exprs_weigh n = exprs_hold n cases
