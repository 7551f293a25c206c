use Rattle.std.proofs.Common.{◌≡◌, ◌<◌, ℕ, true, false, List, [], Option, Some, None, length, sym, ap, subst, ◌∙◌}
use Rattle.std.specs.Prelude.{All}
use Rattle.wc_world.specs.World.{World}
use Rattle.wc_world.proofs.ReachedWorlds.{reached_is_consistent}
use Rattle.wc_machine.specs.Readiness.{is_ready, ready_at}
use Rattle.wc_core.specs.Ready.{is_ready_at}
use Rattle.wc_core.specs.Order.{IsNextOf, chosen}
use Rattle.wc_core.proofs.Due.{rest_is, some_moment}
use Rattle.wc_core.proofs.NextReady.{all_ready, chosen_has, none_ready}
use Rattle.wc_core.proofs.next.next_turn.Goals as goal

pub returns-in-Some-clause-comes : goal.returns-in-Some-clause-comes
returns-in-Some-clause-comes c =
    let w : World = c.args.world.now.world in
    let now = c.args.now in
    let next = subst (IsNextOf (ready_at w now) c.args.order.now c.next.new.self) c.in-Some.is c.in_ok-pid.ensures in
    subst (λ (n : ℕ). is_ready_at w n now ≡ true) (sym next.1)
    (chosen_has (λ n. is_ready_at w n now ≡ true) c.args.order.now (ready_at w now) next.0 (all_ready w now (reached_is_consistent w c.graph-graph.ensures.reached)))

pub unreachable-requires : goal.unreachable-requires
unreachable-requires c =
    let w : World = c.args.world.now.world in
    let now = c.args.now in
    let next = subst (IsNextOf (ready_at w now) c.args.order.now c.next.new.self) c.in_default.is c.in_ok-pid.ensures in
    some_moment w (reached_is_consistent w c.graph-graph.ensures.reached) now (none_ready w now next.0) c.ready_later.result.now c.ready_later.ensures c.requires.going.2
    (sym c.first_moment.ensures ∙ c.in-None.is)

pub returns-clause-comes : goal.returns-clause-comes
returns-clause-comes c =
    let w : World = c.args.world.now.world in
    let now = c.args.now in
    let next = subst (IsNextOf (ready_at w now) c.args.order.now c.next.new.self) c.in_default.is c.in_ok-pid.ensures in
    let rest = rest_is w (reached_is_consistent w c.graph-graph.ensures.reached) now (none_ready w now next.0) c.ready_later.result.now c.ready_later.ensures c.in-Some-first_moment.due
    (sym c.first_moment.ensures ∙ c.in-Some-first_moment.is) in
    (next.0, rest.0, rest.1)
