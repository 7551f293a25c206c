-- Offsets play no part in what expressions mean.
use Rattle.std.proofs.Common.{◌≡◌, List, [], ◌∷◌, Some, None, map, refl, sym, ap, subst, ◌∙◌}
use Rattle.wc_syntax.specs.declared.expression.Expr.{Expr, Expr-F, roll-Expr, ind-Expr, fold-roll-Expr}
use Rattle.wc_syntax.specs.declared.expression.Form.{Form, roll-Form, map-Form, fold-roll-Form}
use Rattle.wc_syntax.specs.declared.expression.Form.TheOpen.{Form-F}
use Rattle.wc_syntax.specs.declared.expression.ChildPart.{ChildPart}
use Rattle.wc_syntax.specs.declared.expression.ChildPart.TheVariants as part
use Rattle.wc_syntax.specs.Bare.{bare_level, bare_part, at_form, at_expr, bare_expr, bare_form}
use Rattle.wc_expression.specs.Environment.{asked}
use Rattle.wc_expression.specs.Val.{Meant, form, limited, val, val_form}

asked_bare : (p : ChildPart) → asked (bare_part p) ≡ asked p
asked_bare (part.Outputs n) = refl
asked_bare part.Status = refl
asked_bare part.Ok = refl

module _ {S S' : Type 0} (v : S → Form) (v' : S' → Expr) (p' : (s : S') → val (bare_expr (v' s)) ≡ val (v' s)) where
  abbrev opened : Form-F S S' → Form-F Form Expr
  opened y = map-Form S S' Form Expr v v' y

  abbrev meant : Form-F Form Expr → Form-F Meant Meant
  meant y = map-Form Form Expr Meant Meant val_form val y

  each : (ss : List S') → map val (map bare_expr (map v' ss)) ≡ map val (map v' ss)
  each [] = refl
  each (s ∷ ss) = λ i. p' s i ∷ each ss i

  middle : (y : Form-F S S') → form (meant (bare_level (map-Form Form Expr Form Expr bare_form bare_expr (opened y)))) ≡ form (meant (opened y))
  middle (Form-F.Number n) = refl
  middle (Form-F.Quoted q) = refl
  middle (Form-F.Truth b) = refl
  middle (Form-F.Bare n) = refl
  middle (Form-F.Input at n) = refl
  middle (Form-F.Plain at n) = refl
  middle (Form-F.Child at n None (part.Outputs o)) = refl
  middle (Form-F.Child at n None part.Status) = refl
  middle (Form-F.Child at n None part.Ok) = refl
  middle (Form-F.Child at n (Some e) (part.Outputs o)) = λ i. form (Form-F.Child at n (Some (p' e i)) (part.Outputs o))
  middle (Form-F.Child at n (Some e) part.Status) = λ i. form (Form-F.Child at n (Some (p' e i)) part.Status)
  middle (Form-F.Child at n (Some e) part.Ok) = λ i. form (Form-F.Child at n (Some (p' e i)) part.Ok)
  middle (Form-F.Unary o a) = λ i. form (Form-F.Unary o (p' a i))
  middle (Form-F.Binary o a b) = λ i. form (Form-F.Binary o (p' a i) (p' b i))
  middle (Form-F.One o a) = λ i. form (Form-F.One o (p' a i))
  middle (Form-F.Two o a b) = λ i. form (Form-F.Two o (p' a i) (p' b i))
  middle (Form-F.GivenBare n) = refl
  middle (Form-F.GivenInput at n) = refl
  middle (Form-F.Count at n) = refl
  middle (Form-F.List es) = λ i. form (Form-F.List (each es i))

  form_same : (y : Form-F S S') → val_form (bare_form (roll-Form (opened y))) ≡ val_form (roll-Form (opened y))
  form_same y =
      ap val_form (fold-roll-Form Form Expr at_form at_expr (opened y))
      ∙ fold-roll-Form Meant Meant form limited (bare_level (map-Form Form Expr Form Expr bare_form bare_expr (opened y)))
      ∙ middle y ∙ sym (fold-roll-Form Meant Meant form limited (opened y))

expr_same : (e : Expr-F Form Expr) → val_form (bare_form e.form) ≡ val_form e.form → val (bare_expr (roll-Expr e)) ≡ val (roll-Expr e)
expr_same e h =
    ap val (fold-roll-Expr Form Expr at_form at_expr e)
    ∙ fold-roll-Expr Meant Meant form limited (record { at = 0; form = bare_form e.form })
    ∙ (λ i. limited (record { at = 0; form = h i })) ∙ sym (fold-roll-Expr Meant Meant form limited e)

pub val_bare : (e : Expr) → val (bare_expr e) ≡ val e
val_bare = ind-Expr (λ f. val_form (bare_form f) ≡ val_form f) (λ e. val (bare_expr e) ≡ val e)
    (λ x y e. subst (λ (z : Form-F Form Expr). val_form (bare_form (roll-Form z)) ≡ val_form (roll-Form z)) e (form_same (λ s. s.0) (λ s. s.0) (λ s. s.1) y))
    (λ x y e. subst (λ (z : Expr-F Form Expr). val (bare_expr (roll-Expr z)) ≡ val (roll-Expr z)) e (expr_same (record { at = y.at; form = y.form.0 }) y.form.1))
