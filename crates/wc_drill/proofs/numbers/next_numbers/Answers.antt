use Rattle.std.proofs.Common.{ℕ, ◌/◌, ◌%◌, ap, ◌∙◌}
use Rattle.wc_value.specs.Draws.{drawn}
use Rattle.wc_drill.proofs.Drawing.{first_drawn, second_drawn, then_holds}
use Rattle.wc_drill.proofs.numbers.next_numbers.Goals as goal

pub returns-clause-numbers : goal.returns-clause-numbers
returns-clause-numbers c = λ chain seed before. (
  ap (λ (n : ℕ). n % 100) c.draw-first.ensures.value ∙ first_drawn c.args.draws.now.x chain seed before,
  ap (λ (n : ℕ). n % 100) c.draw-second.ensures.value ∙ ap (λ (x : ℕ). drawn x / 65536 % 100) c.draw-first.ensures.next
      ∙ second_drawn c.args.draws.now.x chain seed before,
)

pub returns-clause-next : goal.returns-clause-next
returns-clause-next c = λ chain seed before.
    c.draw-second.ensures.next ∙ ap drawn c.draw-first.ensures.next ∙ then_holds c.args.draws.now.x chain seed before
