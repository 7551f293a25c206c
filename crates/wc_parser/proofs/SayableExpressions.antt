-- What tokens that are spelled as they must be derive can be said in a file: expressions.
use Rattle.std.proofs.Common.{◌≡◌, ℕ, ◌≤◌, arith, List, [], ◌∷◌, ◌++◌, pos, Bool, true, ◌&&◌, Some, None, refl, ap, ◌∙◌}
use Rattle.std.specs.Prelude.{int_le, int_lt, ◌^◌}
use Rattle.std.specs.List.{list_all}
use Rattle.std.proofs.lemmas.Bool.{and_parts, and_from, le-leb, lt-ltb}
use Rattle.wc_lexer.specs.declared.token.Token.TheVariants as token
use Rattle.wc_lexer.specs.declared.token.Symbol.TheVariants as symbol
use Rattle.wc_lexer.specs.Spellings.{word_of}
use Rattle.wc_lexer.specs.Cuts.{is_letters}
use Rattle.wc_syntax.specs.declared.expression.Name.{Name}
use Rattle.wc_syntax.specs.declared.expression.Number.{Number}
use Rattle.wc_syntax.specs.declared.expression.BinaryOp.{BinaryOp}
use Rattle.wc_syntax.specs.declared.expression.OneOf.{OneOf}
use Rattle.wc_syntax.specs.declared.expression.TwoOf.{TwoOf}
use Rattle.wc_syntax.specs.declared.expression.ChildPart.{ChildPart}
use Rattle.wc_syntax.specs.declared.expression.ChildPart.TheVariants as part
use Rattle.wc_syntax.specs.declared.expression.Expr.{Expr, out-Expr}
use Rattle.wc_syntax.specs.declared.expression.Form.TheVariants as form
use Rattle.wc_syntax.specs.declared.expression.Form.TheOpen.{Form-F}
use Rattle.wc_syntax.specs.Writable.{is_free, is_name, is_number, is_part, is_expr}
use Rattle.wc_grammar.specs.Grammar.{expr, binary, Exprs}
use Rattle.wc_parser.specs.PrintedTokens as print
use Rattle.wc_parser.specs.PrintedTokens.{Tokens}
use Rattle.wc_parser.proofs.Derived.{Holds}
use Rattle.wc_parser.proofs.Expressions.{s, round, square, Cases, exprs_hold}
use Rattle.wc_parser.proofs.Folds.{said_made, brackets_said, all_map}
use Rattle.wc_parser.proofs.Spelled.{IsSpelled, AllSpelled, spelled_left, spelled_right}

pub all_more : {A : Type 0} (p : A → Bool) (xs : List A) (x : A) → list_all p xs ≡ true → p x ≡ true → list_all p (xs ++ x ∷ []) ≡ true
all_more p [] x h k = and_from (p x) true k refl
all_more p (y ∷ xs) x h k =
    let e = and_parts (p y) (list_all p xs) h in
    and_from (p y) (list_all p (xs ++ x ∷ [])) e.0 (all_more p xs x e.1 k)

pub name_said : (n : Name) → IsSpelled (token.Name n.text) → is_name n ≡ true
name_said n h = and_from (is_letters n.text) (is_free (word_of n.text)) h.0 (ap is_free h.1)

pub number_said : (n : Number) → IsSpelled (token.Number n.value) → is_number n ≡ true
number_said n h =
    let e : 0 ≤ h.0 = omega arith in
    and_from (int_le (pos 0) n.value) (int_lt n.value (pos (2 ^ 63))) (ap (int_le (pos 0)) h.1.0 ∙ le-leb 0 h.0 e) (ap (λ z. int_lt z (pos (2 ^ 63))) h.1.0 ∙ lt-ltb h.0 (2 ^ 63) h.1.1)

-- The expression can be said if the tokens are spelled as they must be.
abbrev pub Said : Tokens → Expr → Type 0
Said ts e = AllSpelled ts → is_expr e ≡ true

abbrev pub SaidAll : Tokens → List Expr → Type 0
SaidAll ts es = AllSpelled ts → list_all is_expr es ≡ true

part_said : (p : ChildPart) → AllSpelled (print.child_part p) → is_part p ≡ true
part_said (part.Outputs n) h = name_said n h.1.1.1.0
part_said part.Status h = refl
part_said part.Ok h = refl

child_said : (at : ℕ) (n : Name) (p : ChildPart) (ts : Tokens) (e : Expr) → Said ts e → Said (print.context n ++ (square ts ++ print.child_part p)) (expr at (form.Child at n (Some e) p))
child_said at n p ts e x h =
    let k : AllSpelled (square ts ++ print.child_part p) = h.1.1.1 in
    let l : AllSpelled (ts ++ s symbol.CloseSquare ∷ []) = (spelled_left (square ts) (print.child_part p) k).1 in
    said_made at (form.Child at n (Some e) p) (Form-F.Child at n (Some e) p) (form.rolls-Child at n (Some e) p)
    ∙ and_from (is_name n) (is_expr e && is_part p) (name_said n h.1.1.0)
    (and_from (is_expr e) (is_part p) (x (spelled_left ts (s symbol.CloseSquare ∷ []) l)) (part_said p (spelled_right (square ts) (print.child_part p) k)))

one_said : (at : ℕ) (o : OneOf) (ts : Tokens) (e : Expr) → Said ts e → Said (print.one_word o ++ round ts) (expr at (form.One o e))
one_said at o ts e x h = said_made at (form.One o e) (Form-F.One o e) (form.rolls-One o e) ∙ x (spelled_left ts (s symbol.Close ∷ []) (spelled_right (print.one_word o) (round ts) h).1)

two_said : (at : ℕ) (o : TwoOf) (ts us : Tokens) (a b : Expr) → Said ts a → Said us b → Said (print.two_word o ++ round (ts ++ s symbol.Comma ∷ us)) (expr at (form.Two o a b))
two_said at o ts us a b x y h =
    let k : AllSpelled (ts ++ s symbol.Comma ∷ us) = spelled_left (ts ++ s symbol.Comma ∷ us) (s symbol.Close ∷ []) (spelled_right (print.two_word o) (round (ts ++ s symbol.Comma ∷ us)) h).1 in
    said_made at (form.Two o a b) (Form-F.Two o a b) (form.rolls-Two o a b)
    ∙ and_from (is_expr a) (is_expr b) (x (spelled_left ts (s symbol.Comma ∷ us) k)) (y (spelled_right ts (s symbol.Comma ∷ us) k).1)

both_said : (o : BinaryOp) (ts us : Tokens) (a b : Expr) → Said ts a → Said us b → Said (ts ++ (print.binary_sign o ++ us)) (binary o a b)
both_said o ts us a b x y h =
    said_made (out-Expr a).at (form.Binary o a b) (Form-F.Binary o a b) (form.rolls-Binary o a b)
    ∙ and_from (is_expr a) (is_expr b) (x (spelled_left ts (print.binary_sign o ++ us) h)) (y (spelled_right (print.binary_sign o) us (spelled_right ts (print.binary_sign o ++ us) h)))

cases : Cases Said SaidAll
cases = record {
  number = λ n h. said_made n.at (form.Number n) (Form-F.Number n) (form.rolls-Number n) ∙ number_said n h.0;
  text = λ q h. said_made q.at (form.Quoted q) (Form-F.Quoted q) (form.rolls-Quoted q);
  truth = λ at b h. said_made at (form.Truth b) (Form-F.Truth b) (form.rolls-Truth b);
  name = λ n h. said_made n.at (form.Bare n) (Form-F.Bare n) (form.rolls-Bare n) ∙ name_said n h.0;
  input = λ at n h. said_made at (form.Input at n) (Form-F.Input at n) (form.rolls-Input at n) ∙ name_said n h.1.1.0;
  plain = λ at n h. said_made at (form.Plain at n) (Form-F.Plain at n) (form.rolls-Plain at n) ∙ name_said n h.1.1.0;
  child_alone = λ at n p h. said_made at (form.Child at n None p) (Form-F.Child at n None p) (form.rolls-Child at n None p)
      ∙ and_from (is_name n) (is_part p) (name_said n h.1.1.0) (part_said p h.1.1.1);
  child_of = child_said;
  unary = λ at o ts e x h. said_made at (form.Unary o e) (Form-F.Unary o e) (form.rolls-Unary o e) ∙ x (spelled_right (print.unary_sign o) ts h);
  both = both_said;
  one = one_said;
  two = two_said;
  given_bare = λ at n h. said_made at (form.GivenBare n) (Form-F.GivenBare n) (form.rolls-GivenBare n) ∙ name_said n h.1.1.0;
  given_input = λ at place n h. said_made at (form.GivenInput place n) (Form-F.GivenInput place n) (form.rolls-GivenInput place n) ∙ name_said n h.1.1.1.1.0;
  counted = λ at place n h. said_made at (form.Count place n) (Form-F.Count place n) (form.rolls-Count place n) ∙ name_said n h.1.1.1.1.0;
  grouped = λ at ts e x h. brackets_said at e ∙ x (spelled_left ts (s symbol.Close ∷ []) h.1);
  no_items = λ at h. said_made at (form.List []) (Form-F.List []) (form.rolls-List []);
  items = λ at ts es x h. said_made at (form.List es) (Form-F.List es) (form.rolls-List es) ∙ all_map is_expr es ∙ x (spelled_left ts (s symbol.CloseSquare ∷ []) h.1);
  first = λ ts e x h. and_from (is_expr e) true (x h) refl;
  more = λ front es ts e x y h. all_more is_expr es e (x (spelled_left front (s symbol.Comma ∷ ts) h)) (y (spelled_right front (s symbol.Comma ∷ ts) h).1);
}

-- Each expression that tokens derive can be said.
pub exprs_said : (n : ℕ) → Holds Said (Exprs n)
exprs_said n = exprs_hold n cases
