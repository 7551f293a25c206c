use Rattle.std.proofs.Common.{◌≡◌, ap, ◌∙◌}
use Rattle.wc_value.specs.Ascending.{goes_last}
use Rattle.wc_semantics.proofs.Numbered.{next_goes}
use Rattle.wc_semantics.proofs.rules.environment.Goals as goal

pub push-requires : goal.push-requires
push-requires c =
    let es = c.as_slice-port-items in
    ap (goes_last c.in_ok-copy.field-0) c.loop-port.invariant
    ∙ next_goes c.in_ok-copy.field-0 es.result.now c.loop-port.port-index c.loop-port-item.result _ es.ensures.ascends c.loop-port-test.true c.loop-port-item.is c.in_ok-copy.ensures
