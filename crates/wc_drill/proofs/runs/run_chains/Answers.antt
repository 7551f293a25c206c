use Rattle.std.proofs.Common.{inl, inr, ⊎_elim, subst}
use Rattle.wc_state.specs.declared.record.Limits.{Limits}
use Rattle.wc_ends.specs.Runner.Leaves.{IsLedWithin}
use Rattle.wc_ends.specs.Runner.Refusals.{is_live_after}
use Rattle.wc_ends.proofs.Runner.Led.{led_is_taken}
use Rattle.wc_ends.specs.Runner.Runs.{FitsIn}
use Rattle.wc_store.proofs.Stepping.{weaker_step}
use Rattle.wc_drill.specs.Runs.{TakesSome}
use Rattle.wc_drill.proofs.Turned.{breaks_early, ends_all, refuses_run, some_turns}
use Rattle.wc_drill.proofs.Results.{if_err}
use Rattle.wc_drill.proofs.runs.run_chains.Goals as goal

pub returns-clause-stepped : goal.returns-clause-stepped
returns-clause-stepped g c =
    let s = c.args.store.now in
    let w = s.world.world in
    let limits = c.usual_limits-limits.result in
    weaker_step g.D.Disk (IsLedWithin g.T.Transport g.P.Pacer limits c.args.turns c.args.transport.now c.args.pacer.now w s.journal c.run.new.transport c.run.new.pacer)
    (TakesSome c.args.turns s) (is_live_after c.run.result) s c.run.new.store c.args.one.now c.args.two.now c.run.new.one c.run.new.two
    (λ x journal h. (
      some_turns g.T.Transport g.P.Pacer c.usual_limits-limits.result c.usual_limits-limits.ensures.value c.args.transport.now c.run.new.transport c.args.pacer.now c.run.new.pacer c.requires.table c.args.turns w x journal
          (led_is_taken g.T.Transport g.P.Pacer limits c.args.turns c.args.transport.now c.args.pacer.now w s.journal c.run.new.transport c.run.new.pacer x journal h.holds),
      ⊎_elim (λ still. inl still) (λ fits. inr (subst (λ (l : Limits). FitsIn l x journal) c.usual_limits-limits.ensures.value fits)) h.holds.led.fits,
    )) c.run.ensures.stepped

pub returns-clause-ends : goal.returns-clause-ends
returns-clause-ends g c =
    ends_all g.T.Transport g.P.Pacer c.usual_limits-limits.result c.usual_limits-limits.ensures.value c.args.transport.now c.run.new.transport c.args.pacer.now c.run.new.pacer c.requires.table
    c.args.turns 0 c.args.store.now.world.world c.run.new.store.world.world (g.P.Pacer.rests c.args.pacer.now) (g.P.Pacer.rests c.run.new.pacer) c.run.new.store.journal c.run.result
    c.requires.reached c.requires.enough c.run.ensures.went c.run.ensures.ends

pub returns-clause-early : goal.returns-clause-early
returns-clause-early g c =
    breaks_early g.T.Transport g.P.Pacer c.usual_limits-limits.result c.usual_limits-limits.ensures.value c.args.transport.now c.run.new.transport c.args.pacer.now c.run.new.pacer c.requires.table
    c.args.turns c.args.store.now.world.world c.run.new.store.world.world (g.P.Pacer.rests c.args.pacer.now) (g.P.Pacer.rests c.run.new.pacer) c.run.result c.run.ensures.ends

pub returns-clause-refused : goal.returns-clause-refused
returns-clause-refused g c =
    if_err c.run.result _ _ (λ e. refuses_run g.T.Transport g.P.Pacer c.usual_limits-limits.result c.usual_limits-limits.ensures.value c.args.transport.now c.run.new.transport c.args.pacer.now c.run.new.pacer c.requires.table c.run.new.store e) c.run.ensures.refused
