-- The next one of those that are ready, in each order.
use Rattle.std.proofs.Common.{◌≡◌, ℕ, suc, ◌<◌, Bool, true, false, List, [], ◌∷◌, Option, Some, None, Result, Ok, Err, get_or, length, refl, sym, ap, ◌∙◌, arith}
use Rattle.std.specs.Prelude.{◌/◌, ◌%◌, nat_lt, unwrap_or, slice_get, ◌==◌}
use Rattle.std.specs.List.{find}
use Rattle.std.specs.Option.{option_or}
use Rattle.std.specs.Result.{IfOk}
use Rattle.wc_value.specs.declared.generator.Generator.{Generator}
use Rattle.wc_records.specs.Ready as records
use Rattle.wc_core.specs.Order.{IsNextOf, IsDrawn}
use Rattle.wc_core.specs.declared.order.Order.{Order}
use Rattle.wc_core.specs.declared.order.Order.TheVariants.{Round, Drawn}

pub round_goes : (ids : List ℕ) (last now : ℕ) (o : Option ℕ) → o ≡ records.first_above last ids → now ≡ unwrap_or o last → IsNextOf ids (Round last) (Round now) o
round_goes [] last now None is then = (refl, ap Round then)
round_goes [] last now (Some pid) is then = absurd (cc)
round_goes (n ∷ ids) last now o is then = by (find (nat_lt last) (n ∷ ids)) refl o is then
  where
    some : 0 < suc (length ids)
    some = omega arith

    by : (found : Option ℕ) → find (nat_lt last) (n ∷ ids) ≡ found → (o : Option ℕ) → o ≡ option_or found (Some n) → now ≡ unwrap_or o last
        → IsNextOf (n ∷ ids) (Round last) (Round now) o
    by found e None is then = absurd (none found is)
      where
        none : (f : Option ℕ) → None ≡ option_or f (Some n) → ⊥
        none None is = cc
        none (Some m) is = cc
    by None e (Some pid) is then = let same : pid ≡ n = cc in (some, same ∙ ap (λ (f : Option ℕ). unwrap_or f n) (sym e), then)
    by (Some m) e (Some pid) is then = let same : pid ≡ m = cc in (some, same ∙ ap (λ (f : Option ℕ). unwrap_or f n) (sym e), then)

pub draw_goes : (ids : List ℕ) (g h : Generator) (o : Option ℕ) → IsDrawn ids g h o → IsNextOf ids (Drawn g) (Drawn h) o
draw_goes ids g h None d = (d.0, ap Drawn d.1)
draw_goes ids g h (Some pid) d = d

pub draws_go : {E : Type 0} (ids : List ℕ) (g h : Generator) (r : Result (Option ℕ) E) → IfOk r (IsDrawn ids g h) → IfOk r (IsNextOf ids (Drawn g) (Drawn h))
draws_go ids g h (Ok o) d = draw_goes ids g h o d
draws_go ids g h (Err e) d = tt
