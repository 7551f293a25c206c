-- What the arms of an `if`, the turns of a loop and the calls of a step come to, one after another.
use Rattle.std.proofs.Common.{◌≡◌, ℕ, ◌+◌, ◌-◌, ◌<◌, Bool, true, List, ◌∷◌, Option, length, drop, get_or, sym, ap, ◌∙◌}
use Rattle.std.specs.Prelude.{map, if◌then◌else◌}
use Rattle.std.proofs.lemmas.List.{at_drop_more}
use Rattle.wc_syntax.specs.declared.expression.Expr.{Expr}
use Rattle.wc_syntax.specs.declared.outline.Arm.{Arm}
use Rattle.wc_expression.specs.declared.outcome.Outcome.{Outcome}
use Rattle.wc_expression.specs.declared.outcome.Outcome.TheVariants.{Gives}
use Rattle.wc_expression.specs.Outcomes.{◌>>=◌}
use Rattle.wc_expression.specs.Val.{holds}
use Rattle.wc_semantics.specs.declared.progress.Answer.{Answer}
use Rattle.wc_semantics.specs.declared.progress.Flow.{Flow}
use Rattle.wc_semantics.specs.declared.progress.Flow.TheVariants.{Goes, NoFuel}
use Rattle.wc_semantics.specs.declared.progress.Planned.{Planned}
use Rattle.wc_semantics.specs.declared.progress.Progress.{Progress}
use Rattle.wc_semantics.specs.declared.progress.Replayed.{Replayed}
use Rattle.wc_semantics.specs.Tables.{Label}
use Rattle.wc_semantics.specs.Run.{Act, Around, ◌>->◌, spend, taken, by_value, test, turns, picked, or_nothing, choose, arm_act, run_block, next_label, with_call, take_calls}
use Rattle.wc_semantics.proofs.Acts.{arm_is}
use Rattle.wc_meaning.proofs.Turns.{turns_at, spent}

-- an `if`, by what the condition of its next arm comes to
module _ (arms : List Arm) (i : ℕ) (d x : Arm) (other : Option Act) (a : Around) (n : ℕ) (e : Progress) where
  pub arm_by : (o : Outcome Bool) (whole : Flow) → i < length arms → x ≡ get_or arms i d → holds x.condition e.env ≡ o
      → choose (map arm_act (drop i arms)) other a n e ≡ whole
      → by_value (o >>= (λ b. if b then Gives (run_block x.block) else picked (map arm_act (drop (i + 1) arms)) (or_nothing other) e.env)) n e (λ (f : Act). f a n e) ≡ whole
  arm_by o whole lt is h known =
      ap (λ (q : Outcome Bool). by_value (q >>= (λ b. if b then Gives (run_block x.block) else picked (map arm_act (drop (i + 1) arms)) (or_nothing other) e.env)) n e (λ (f : Act). f a n e)) (sym h)
      ∙ ap (λ (y : Expr × Act). by_value (picked (y ∷ map arm_act (drop (i + 1) arms)) (or_nothing other) e.env) n e (λ (f : Act). f a n e)) (sym (arm_is x))
      ∙ sym (at_drop_more (λ (xs : List Arm). choose (map arm_act xs) other a n e) arms i d lt
      ∙ ap (λ (y : Arm). choose (map arm_act (y ∷ drop (i + 1) arms)) other a n e) (sym is))
      ∙ known

-- a loop, by what its condition comes to
pub turn_by : (fuel i : ℕ) (x : Expr) (body : Act) (a : Around) (n : ℕ) (e : Progress) (o : Outcome Bool) (whole : Flow) → i < fuel → holds x e.env ≡ o
    → turns (fuel - i) x body a n e ≡ whole → test o n e (spend n (λ m. body a m e >-> turns (fuel - (i + 1)) x body a)) (Goes n e) ≡ whole
turn_by fuel i x body a n e o whole lt h known =
    ap (λ (q : Outcome Bool). test q n e (spend n (λ m. body a m e >-> turns (fuel - (i + 1)) x body a)) (Goes n e)) (sym h)
    ∙ sym (turns_at fuel i x body a n e lt) ∙ known

-- with no fuel it ends at a condition that is true
pub turn_lacks : (fuel i : ℕ) (x : Expr) (body : Act) (a : Around) (n : ℕ) (e : Progress) (whole : Flow) → i < fuel → holds x e.env ≡ Gives true → n ≡ 0
    → turns (fuel - i) x body a n e ≡ whole → NoFuel ≡ whole
turn_lacks fuel i x body a n e whole lt h none known =
    ap (λ (k : ℕ). spend k (λ m. body a m e >-> turns (fuel - (i + 1)) x body a)) (sym none) ∙ turn_by fuel i x body a n e (Gives true) whole lt h known

-- the calls of a step, by what the next one comes to
module _ (plan : List Planned) (i : ℕ) (d p : Planned) (a : Around) (n : ℕ) (e : Progress) (l : Label) where
  pub call_by : (x : Answer) (whole : Flow) → i < length plan → p ≡ get_or plan i d → (n ≡ 0 → ⊥) → l ≡ next_label p e → x ≡ a.call l (n - 1) p.callee p.inputs
      → take_calls (drop i plan) a n e ≡ whole → taken x (λ t left. take_calls (drop (i + 1) plan) a left (with_call p l t e)) ≡ whole
  call_by x whole lt is some named gives known =
      let on : Label → Replayed → ℕ → Flow = λ k t left. take_calls (drop (i + 1) plan) a left (with_call p k t e) in
      ap (λ (k : Label). taken x (on k)) named
      ∙ ap (λ (y : Answer). taken y (on (next_label p e))) (gives ∙ ap (λ (k : Label). a.call k (n - 1) p.callee p.inputs) named)
      ∙ sym (spent n (λ m. taken (a.call (next_label p e) m p.callee p.inputs) (on (next_label p e))) some)
      ∙ sym (at_drop_more (λ (ps : List Planned). take_calls ps a n e) plan i d lt
      ∙ ap (λ (q : Planned). take_calls (q ∷ drop (i + 1) plan) a n e) (sym is))
      ∙ known
