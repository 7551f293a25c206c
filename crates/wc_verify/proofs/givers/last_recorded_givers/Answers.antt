use Rattle.std.proofs.Common.{◌≡◌, length, sym, ap, subst, ◌∙◌, arith}
use Rattle.wc_verify.specs.Following.{EndsWithin}
use Rattle.wc_verify.specs.Givers.{recorded_giver}
use Rattle.wc_verify.proofs.Lasts.{ends, may_give_recorded}
use Rattle.wc_verify.proofs.givers.last_recorded_givers.Goals as goal

pub lasts_of-requires : goal.lasts_of-requires
lasts_of-requires c =
    let w = c.args.world.now.world in
    let table = c.loop-pid.table.items in
    let count : c.len-pid-end.result ≡ length w.nodes = c.len-pid-end.ensures.value ∙ ap (λ p. length p.0) c.nodes.ensures.value ∙ ap length c.graph-2.ensures.nodes.0 in
    let size : length table ≡ c.loop-pid.pid = c.loop-pid.invariant.size in
    let past = c.loop-pid-test.false in
    let inside = c.loop-pid.auto.pid-end in
    subst (λ most. EndsWithin most table) (sym c.batches.ensures)
    (ends recorded_giver may_give_recorded w (c.reached_worlds_are_consistent.ensures w c.graph.ensures.reached) table (record {
      size = omega arith;
      givers = λ n lt. c.loop-pid.invariant.givers n (omega arith);
    }))
