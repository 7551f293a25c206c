use Rattle.std.proofs.Common.{◌+◌, ◌∙◌, drop, ap, refl}
use Rattle.std.specs.List.{remove}
use Rattle.wc_records.proofs.Shifts.{dropped_remove}
use Rattle.wc_records.proofs.window.Window.take_out.Goals as goal

pub returns-else-at-len-clause-items : goal.returns-else-at-len-clause-items
returns-else-at-len-clause-items g c =
    ap (drop c.self.inside.begin) c.remove.ensures.items
    ∙ dropped_remove c.self.inside.places.items c.self.inside.begin c.args.at (c.self.inside.begin + c.args.at) refl c.self.invariant
    ∙ (λ i. remove ((c.self.view_is i).items) c.args.at)
