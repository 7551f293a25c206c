-- The tokens of a printed expression.
use Rattle.std.proofs.Common.{◌≡◌, ℕ, List, [], ◌∷◌, ◌++◌, Bool, true, false, Some, None, map, refl, sym, ap, subst, if◌then◌else◌}
use Rattle.std.specs.Prelude.{◌&&◌, codes}
use Rattle.std.specs.List.{list_all}
use Rattle.wc_lexer.specs.declared.token.Token.{Token}
use Rattle.wc_lexer.specs.declared.token.Word.TheVariants as word
use Rattle.wc_lexer.specs.declared.token.Symbol.TheVariants as symbol
use Rattle.wc_lexer.specs.Tokens.{is_in_name}
use Rattle.wc_syntax.specs.declared.expression.Expr.{Expr, Expr-F, roll-Expr, ind-Expr, fold-roll-Expr}
use Rattle.wc_syntax.specs.declared.expression.Form.{Form, roll-Form, map-Form, fold-Form, fold-roll-Form}
use Rattle.wc_syntax.specs.declared.expression.Form.TheOpen.{Form-F}
use Rattle.wc_syntax.specs.Printing.{separated, items, form_text, its_text, expr_text, text_of, input_text, context_text}
use Rattle.wc_syntax.specs.Writable.{is_form, its_form, is_expr}
use Rattle.wc_parser.specs.PrintedTokens as tokens
use Rattle.wc_parser.specs.PrintedTokens.{sign, form_tokens, its_tokens, expr_tokens, tokens_of_form}
use Rattle.wc_parser.proofs.LexedPieces.{Reads}
use Rattle.wc_parser.proofs.LexedWords.{begins}
use Rattle.wc_parser.proofs.LexedForms.{Spoken, spoken_number, spoken_quoted, spoken_truth, spoken_name, spoken_input, spoken_context}
use Rattle.wc_parser.proofs.LexedForms.{spoken_child, spoken_child_at, spoken_unary, spoken_binary, spoken_one, spoken_two, spoken_asked, spoken_list}

respoken : (a b : List ℕ) (s t : List Token) (i j : Bool) → a ≡ b → s ≡ t → i ≡ j → Spoken a s i → Spoken b t j
respoken a b s t i j e f g h = subst (λ z. Spoken z t j) e (subst (λ z. Spoken a z j) f (subst (λ z. Spoken a s z) g h))

abbrev is_said : Form → Bool
is_said = fold-Form Bool Bool is_form its_form

-- ---- lists behind two maps
separated_maps : {A B : Type 0} (first : Bool) (f : B → List ℕ) (g : A → B) (xs : List A) → separated first (λ x. f (g x)) xs ≡ separated first (λ t. t) (map f (map g xs))
separated_maps first f g [] = refl
separated_maps first f g (x ∷ xs) = ap (λ z. (if first then [] else codes ", ") ++ (f (g x) ++ z)) (separated_maps false f g xs)

tokens_maps : {A B : Type 0} (first : Bool) (f : B → List Token) (g : A → B) (xs : List A) → tokens.separated first (λ x. f (g x)) xs ≡ tokens.separated first (λ t. t) (map f (map g xs))
tokens_maps first f g [] = refl
tokens_maps first f g (x ∷ xs) = ap (λ z. (if first then [] else sign symbol.Comma) ++ (f (g x) ++ z)) (tokens_maps false f g xs)

all_maps : {A B : Type 0} (f : B → Bool) (g : A → B) (xs : List A) → list_all (λ x. f (g x)) xs ≡ list_all (λ t. t) (map f (map g xs))
all_maps f g [] = refl
all_maps f g (x ∷ xs) = ap (λ z. f (g x) && z) (all_maps f g xs)

-- ---- a level whose expressions are as they must be
module _ {S S' : Type 0} (v : S → Form) (v' : S' → Expr) (p' : (s : S') → Spoken (expr_text (v' s)) (expr_tokens (v' s)) (is_expr (v' s))) where
  abbrev opened : Form-F S S' → Form-F Form Expr
  opened y = map-Form S S' Form Expr v v' y

  abbrev level_text : Form-F Form Expr → List ℕ
  level_text y = form_text (map-Form Form Expr (List ℕ) (List ℕ) text_of expr_text y)

  abbrev level_tokens : Form-F Form Expr → List Token
  level_tokens y = form_tokens (map-Form Form Expr (List Token) (List Token) tokens_of_form expr_tokens y)

  abbrev level_said : Form-F Form Expr → Bool
  level_said y = is_form (map-Form Form Expr Bool Bool is_said is_expr y)

  middle : (y : Form-F S S') → Spoken (level_text (opened y)) (level_tokens (opened y)) (level_said (opened y))
  middle (Form-F.Number n) = spoken_number n
  middle (Form-F.Quoted q) = spoken_quoted q
  middle (Form-F.Truth b) = spoken_truth b
  middle (Form-F.Bare n) = spoken_name n
  middle (Form-F.Input at n) = spoken_input n
  middle (Form-F.Plain at n) = spoken_context n
  middle (Form-F.Child at n None p) = spoken_child n p
  middle (Form-F.Child at n (Some e) p) = spoken_child_at n p (expr_text (v' e)) (expr_tokens (v' e)) (is_expr (v' e)) (p' e)
  middle (Form-F.Unary o a) = spoken_unary o (expr_text (v' a)) (expr_tokens (v' a)) (is_expr (v' a)) (p' a)
  middle (Form-F.Binary o a b) =
      spoken_binary o (expr_text (v' a)) (expr_text (v' b)) (expr_tokens (v' a)) (expr_tokens (v' b)) (is_expr (v' a)) (is_expr (v' b)) (p' a) (p' b)
  middle (Form-F.One o a) = spoken_one o (expr_text (v' a)) (expr_tokens (v' a)) (is_expr (v' a)) (p' a)
  middle (Form-F.Two o a b) =
      spoken_two o (expr_text (v' a)) (expr_text (v' b)) (expr_tokens (v' a)) (expr_tokens (v' b)) (is_expr (v' a)) (is_expr (v' b)) (p' a) (p' b)
  middle (Form-F.GivenBare n) = spoken_asked word.Given n.text (tokens.name n) _ (λ rest. refl) (spoken_name n)
  middle (Form-F.GivenInput at n) = spoken_asked word.Given (input_text n) (tokens.input n) _ (λ rest. refl) (spoken_input n)
  middle (Form-F.Count at n) = spoken_asked word.Count (context_text n) (tokens.context n) _ (λ rest. refl) (spoken_context n)
  middle (Form-F.List es) =
      respoken (codes "[" ++ items (λ s. expr_text (v' s)) es ++ codes "]") (level_text (opened (Form-F.List es)))
      (sign symbol.OpenSquare ++ tokens.items (λ s. expr_tokens (v' s)) es ++ sign symbol.CloseSquare) (level_tokens (opened (Form-F.List es)))
      (list_all (λ s. is_expr (v' s)) es) (level_said (opened (Form-F.List es)))
      (ap (λ z. codes "[" ++ z ++ codes "]") (separated_maps true expr_text v' es))
      (ap (λ z. sign symbol.OpenSquare ++ z ++ sign symbol.CloseSquare) (tokens_maps true expr_tokens v' es))
      (all_maps is_expr v' es)
      (spoken_list (λ s. expr_text (v' s)) (λ s. expr_tokens (v' s)) (λ s. is_expr (v' s)) p' es)

  form_spoken : (y : Form-F S S') → Spoken (text_of (roll-Form (opened y))) (tokens_of_form (roll-Form (opened y))) (is_said (roll-Form (opened y)))
  form_spoken y =
      respoken (level_text (opened y)) (text_of (roll-Form (opened y))) (level_tokens (opened y)) (tokens_of_form (roll-Form (opened y)))
      (level_said (opened y)) (is_said (roll-Form (opened y)))
      (sym (fold-roll-Form (List ℕ) (List ℕ) form_text its_text (opened y)))
      (sym (fold-roll-Form (List Token) (List Token) form_tokens its_tokens (opened y)))
      (sym (fold-roll-Form Bool Bool is_form its_form (opened y))) (middle y)

expr_spoken : (e : Expr-F Form Expr) → Spoken (text_of e.form) (tokens_of_form e.form) (is_said e.form) → Spoken (expr_text (roll-Expr e)) (expr_tokens (roll-Expr e)) (is_expr (roll-Expr e))
expr_spoken e h =
    respoken (text_of e.form) (expr_text (roll-Expr e)) (tokens_of_form e.form) (expr_tokens (roll-Expr e)) (is_said e.form) (is_expr (roll-Expr e))
    (sym (fold-roll-Expr (List ℕ) (List ℕ) form_text its_text e))
    (sym (fold-roll-Expr (List Token) (List Token) form_tokens its_tokens e))
    (sym (fold-roll-Expr Bool Bool is_form its_form e)) h

-- a printed expression has its tokens
pub spoken : (e : Expr) → Spoken (expr_text e) (expr_tokens e) (is_expr e)
spoken = ind-Expr (λ f. Spoken (text_of f) (tokens_of_form f) (is_said f)) (λ e. Spoken (expr_text e) (expr_tokens e) (is_expr e))
    (λ x y e. subst (λ (z : Form-F Form Expr). Spoken (text_of (roll-Form z)) (tokens_of_form (roll-Form z)) (is_said (roll-Form z))) e (form_spoken (λ s. s.0) (λ s. s.0) (λ s. s.1) y))
    (λ x y e. subst (λ (z : Expr-F Form Expr). Spoken (expr_text (roll-Expr z)) (expr_tokens (roll-Expr z)) (is_expr (roll-Expr z))) e
    (expr_spoken (record { at = y.at; form = y.form.0 }) y.form.1))

pub expr_reads : (e : Expr) (rest : List ℕ) → is_expr e ≡ true → begins is_in_name rest ≡ false → Reads (expr_text e) (expr_tokens e) rest
expr_reads e rest h k = (spoken e).lays h rest k
