-- The value of an expression hangs on what it mentions alone.
use Rattle.std.proofs.Common.{◌≡◌, List, [], ◌∷◌, ◌++◌, Option, Some, None, map, refl, sym, ap, subst, ◌∙◌}
use Rattle.std.specs.Prelude.{if◌then◌else◌, is_some, flat_map}
use Rattle.std.specs.List.{AllByRecursion}
use Rattle.wc_value.specs.declared.process.Reason.TheVariants.{MissingKey}
use Rattle.wc_value.specs.declared.value.Value.{Value, out-Value}
use Rattle.wc_value.specs.declared.value.Value.TheVariants as value
use Rattle.wc_syntax.specs.declared.expression.Expr.{Expr, Expr-F, roll-Expr, ind-Expr, fold-roll-Expr}
use Rattle.wc_syntax.specs.declared.expression.Form.{Form, roll-Form, map-Form, fold-roll-Form}
use Rattle.wc_syntax.specs.declared.expression.Form.TheOpen.{Form-F}
use Rattle.wc_syntax.specs.Mentions.{Mention, part_mentions, form_mentions, its_mentions, mentions}
use Rattle.wc_state.specs.declared.environment.Env.{Env}
use Rattle.wc_state.specs.declared.environment.Item.{Item}
use Rattle.wc_state.specs.declared.environment.NodeValue.{NodeValue}
use Rattle.wc_expression.specs.declared.outcome.Outcome.{Outcome}
use Rattle.wc_expression.specs.declared.outcome.Outcome.TheVariants.{Gives}
use Rattle.wc_outline.specs.Agreement.{AgreeOn, Agree}
use Rattle.wc_outline.specs.Keys.{mentions_of_form}
use Rattle.wc_expression.specs.Contents as contents
use Rattle.wc_expression.specs.Environment.{plain_of, child_of, children_of, count_of, asked}
use Rattle.wc_expression.specs.Operators.{operated, settles, prefixed, of_one, of_two}
use Rattle.wc_expression.specs.Outcomes.{◌>>=◌, mapped, found}
use Rattle.wc_expression.specs.Val.{Meant, all_of, form, limited, sized, val, val_form}

-- ---- parts of a list

pub front : {X : Type 0} (P : X → Type 0) (xs ys : List X) → AllByRecursion P (xs ++ ys) → AllByRecursion P xs
front P [] ys h = tt
front P (x ∷ xs) ys h = (h.0, front P xs ys h.1)

pub behind : {X : Type 0} (P : X → Type 0) (xs ys : List X) → AllByRecursion P (xs ++ ys) → AllByRecursion P ys
behind P [] ys h = h
behind P (x ∷ xs) ys h = behind P xs ys h.1

-- ---- expressions

-- a meaning that hangs on these mentions alone
abbrev HangsOn : Meant → List Mention → Type 0
HangsOn m ms = (one two : Env) → Agree one two ms → m one ≡ m two

module _ {S S' : Type 0} (v : S → Form) (v' : S' → Expr) (p' : (s : S') → HangsOn (val (v' s)) (mentions (v' s))) where
  abbrev opened : Form-F S S' → Form-F Form Expr
  opened y = map-Form S S' Form Expr v v' y

  abbrev meant : Form-F S S' → Form-F Meant Meant
  meant y = map-Form Form Expr Meant Meant val_form val (opened y)

  abbrev told : Form-F S S' → Form-F (List Mention) (List Mention)
  told y = map-Form Form Expr (List Mention) (List Mention) mentions_of_form mentions (opened y)

  each : (ss : List S') (one two : Env) → Agree one two (flat_map (λ ms. ms) (map mentions (map v' ss)))
      → all_of (map val (map v' ss)) one ≡ all_of (map val (map v' ss)) two
  each [] one two h = refl
  each (s ∷ ss) one two h =
      let rest = flat_map (λ ms. ms) (map mentions (map v' ss)) in
      let first : val (v' s) one ≡ val (v' s) two = p' s one two (front (AgreeOn one two) (mentions (v' s)) rest h) in
      let others = each ss one two (behind (AgreeOn one two) (mentions (v' s)) rest h) in
      λ i. first i >>= (λ x. others i >>= (λ xs. Gives (x ∷ xs)))

  middle : (y : Form-F S S') → HangsOn (form (meant y)) (form_mentions (told y))
  middle (Form-F.Number n) one two h = refl
  middle (Form-F.Quoted q) one two h = refl
  middle (Form-F.Truth b) one two h = refl
  middle (Form-F.Bare name) one two h = ap (λ (o : Option NodeValue). mapped (λ i. i.value) (found MissingKey o)) h.0
  middle (Form-F.Input at name) one two h = ap (λ (o : Option NodeValue). mapped (λ i. i.value) (found MissingKey o)) h.0
  middle (Form-F.Plain at name) one two h = ap (λ (o : Option Item). found MissingKey o >>= plain_of) h.0
  middle (Form-F.Child at name None p) one two h = ap (λ (o : Option Item). (found MissingKey o >>= child_of) >>= asked p) h.0
  middle (Form-F.Child at name (Some e) p) one two h =
      let at_index : val (v' e) one ≡ val (v' e) two = p' e one two (front (AgreeOn one two) (mentions (v' e)) (part_mentions p) h.1) in
      λ i. (found MissingKey (h.0 i) >>= children_of) >>= (λ cs. at_index i >>= (λ x. contents.item cs (out-Value x) >>= asked p))
  middle (Form-F.Unary op a) one two h = ap (λ (o : Outcome Value). o >>= (λ x. prefixed op (out-Value x))) (p' a one two h)
  middle (Form-F.Binary op a b) one two h =
      let left : val (v' a) one ≡ val (v' a) two = p' a one two (front (AgreeOn one two) (mentions (v' a)) (mentions (v' b)) h) in
      let right : val (v' b) one ≡ val (v' b) two = p' b one two (behind (AgreeOn one two) (mentions (v' a)) (mentions (v' b)) h) in
      λ i. left i >>= (λ x. if settles op (out-Value x) then Gives x else (right i >>= operated op x))
  middle (Form-F.One word a) one two h = ap (λ (o : Outcome Value). o >>= (λ x. of_one word (out-Value x))) (p' a one two h)
  middle (Form-F.Two word a b) one two h =
      let left : val (v' a) one ≡ val (v' a) two = p' a one two (front (AgreeOn one two) (mentions (v' a)) (mentions (v' b)) h) in
      let right : val (v' b) one ≡ val (v' b) two = p' b one two (behind (AgreeOn one two) (mentions (v' a)) (mentions (v' b)) h) in
      λ i. left i >>= (λ x. right i >>= (λ y. of_two word (out-Value x) (out-Value y)))
  middle (Form-F.GivenBare name) one two h = ap (λ (o : Option NodeValue). Gives (value.Bool (is_some o))) h.0
  middle (Form-F.GivenInput at name) one two h = ap (λ (o : Option NodeValue). Gives (value.Bool (is_some o))) h.0
  middle (Form-F.Count at name) one two h = ap (λ (o : Option Item). mapped value.Int (count_of o)) h.0
  middle (Form-F.List es) one two h = ap (λ (o : Outcome (List Value)). mapped value.List o) (each es one two h)

  form_hangs : (y : Form-F S S') → HangsOn (val_form (roll-Form (opened y))) (mentions_of_form (roll-Form (opened y)))
  form_hangs y one two h =
      let is : val_form (roll-Form (opened y)) ≡ form (meant y) = fold-roll-Form Meant Meant form limited (opened y) in
      let names : mentions_of_form (roll-Form (opened y)) ≡ form_mentions (told y) = fold-roll-Form (List Mention) (List Mention) form_mentions its_mentions (opened y) in
      ap (λ (m : Meant). m one) is ∙ middle y one two (subst (Agree one two) names h) ∙ sym (ap (λ (m : Meant). m two) is)

expr_hangs : (e : Expr-F Form Expr) → HangsOn (val_form e.form) (mentions_of_form e.form) → HangsOn (val (roll-Expr e)) (mentions (roll-Expr e))
expr_hangs e inside one two h =
    let is = fold-roll-Expr Meant Meant form limited e in
    let names : mentions (roll-Expr e) ≡ mentions_of_form e.form = fold-roll-Expr (List Mention) (List Mention) form_mentions its_mentions e in
    ap (λ (m : Meant). m one) is ∙ ap sized (inside one two (subst (Agree one two) names h)) ∙ sym (ap (λ (m : Meant). m two) is)

pub hangs_on_mentions : (e : Expr) (one two : Env) → Agree one two (mentions e) → val e one ≡ val e two
hangs_on_mentions = ind-Expr (λ f. HangsOn (val_form f) (mentions_of_form f)) (λ e. HangsOn (val e) (mentions e))
    (λ x y e. subst (λ (z : Form-F Form Expr). HangsOn (val_form (roll-Form z)) (mentions_of_form (roll-Form z))) e (form_hangs (λ s. s.0) (λ s. s.0) (λ s. s.1) y))
    (λ x y e. subst (λ (z : Expr-F Form Expr). HangsOn (val (roll-Expr z)) (mentions (roll-Expr z))) e (expr_hangs (record { at = y.at; form = y.form.0 }) y.form.1))
