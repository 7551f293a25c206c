use Rattle.std.proofs.Common.{inl, inr, Bool, refl, sym, subst, ⊎_elim}
use Rattle.wc_state.specs.declared.record.Limits.{Limits}
use Rattle.wc_world.specs.Room.{Holding}
use Rattle.wc_store.specs.Stepped.{IsCommitted, IsOrCommitted, Stepped}
use Rattle.wc_store.proofs.Stepping.{not_stepped, weaker_step}
use Rattle.wc_ends.specs.Runner.Refusals.{RefusesStored, is_live_after}
use Rattle.wc_ends.specs.Runner.Runs.{FitsIn}
use Rattle.wc_drill.specs.Drilled.{IsSubmitted}
use Rattle.wc_drill.specs.Submissions.{IsCrowded, IsStorable, RefusesChain, SubmitsOne}
use Rattle.wc_drill.proofs.Chains.{chain_refused, crowd_live, crowd_refused, submitted}
use Rattle.wc_drill.proofs.Results.{if_err, on_ok}
use Rattle.wc_drill.proofs.submissions.submit_chain.Goals as goal

pub returns-in-Ok-clause-stepped : goal.returns-in-Ok-clause-stepped
returns-in-Ok-clause-stepped g c =
    let s = c.args.store.now in
    let w = s.world.world in
    let p : IsStorable c.args.first c.args.second w c.in-Ok.changes = subst (λ (h : Holding). IsStorable c.args.first c.args.second h.world c.in-Ok.changes) c.world.ensures c.in-Ok.ensures.ok in
    let limits = c.usual_limits-limits.result in
    weaker_step g.D.Disk (IsOrCommitted limits c.in-Ok.changes s) (SubmitsOne c.args.first c.args.second s) (is_live_after c.commit_changes.result) s c.commit_changes.new.store
    c.args.one.now c.args.two.now c.commit_changes.new.one c.commit_changes.new.two
    (λ v journal h. ⊎_elim (λ same. (inl same.0, inl same))
    (λ (is : IsCommitted limits c.in-Ok.changes s v journal). (
      inr (subst (IsSubmitted c.args.first c.args.second w) (sym is.world) (submitted c.args.first c.args.second w c.in-Ok.changes p)),
      inr (subst (λ (l : Limits). FitsIn l v journal) c.usual_limits-limits.ensures.value (is.nodes, is.longer.fits)),
    )) h.holds)
    c.commit_changes.ensures.stepped

pub returns-in-Ok-clause-ok : goal.returns-in-Ok-clause-ok
returns-in-Ok-clause-ok g c =
    let s = c.args.store.now in
    let w = s.world.world in
    let p : IsStorable c.args.first c.args.second w c.in-Ok.changes = subst (λ (h : Holding). IsStorable c.args.first c.args.second h.world c.in-Ok.changes) c.world.ensures c.in-Ok.ensures.ok in
    on_ok c.commit_changes.result _ (IsSubmitted c.args.first c.args.second w c.commit_changes.new.store.world.world)
    (λ is. subst (IsSubmitted c.args.first c.args.second w) (sym is.world) (submitted c.args.first c.args.second w c.in-Ok.changes p)) c.commit_changes.ensures.done

pub returns-in-Ok-clause-same : goal.returns-in-Ok-clause-same
returns-in-Ok-clause-same g c = c.commit_changes.ensures.same

pub returns-in-Ok-clause-refused : goal.returns-in-Ok-clause-refused
returns-in-Ok-clause-refused g c =
    let s = c.args.store.now in
    let w = s.world.world in
    let p : IsStorable c.args.first c.args.second w c.in-Ok.changes = subst (λ (h : Holding). IsStorable c.args.first c.args.second h.world c.in-Ok.changes) c.world.ensures c.in-Ok.ensures.ok in
    if_err c.commit_changes.result (RefusesStored s.journal c.usual_limits-limits.result w c.in-Ok.changes) (RefusesChain c.args.first c.args.second s.journal w)
    (λ e refused. chain_refused c.args.first c.args.second w c.in-Ok.changes s.journal e p
    (subst (λ (l : Limits). RefusesStored s.journal l w c.in-Ok.changes e) c.usual_limits-limits.ensures.value refused)) c.commit_changes.ensures.refused

pub returns-in-Err-clause-stepped : goal.returns-in-Err-clause-stepped
returns-in-Err-clause-stepped g c =
    let s = c.args.store.now in
    let w = s.world.world in
    let refused : IsCrowded c.args.first c.args.second w c.in-Err.error = subst (λ (h : Holding). IsCrowded c.args.first c.args.second h.world c.in-Err.error) c.world.ensures c.in-Err.ensures.refused in
    subst (λ (b : Bool). Stepped g.D.Disk (SubmitsOne c.args.first c.args.second s) b s c.args.one.now c.args.two.now s c.args.one.now c.args.two.now)
    (sym (crowd_live c.args.first c.args.second w c.in-Err.error refused))
    (not_stepped g.D.Disk (SubmitsOne c.args.first c.args.second s) s c.args.one.now c.args.two.now g.met.D.Disk.only_now c.requires.live c.requires.stands (inl refl, inl (refl, refl)))

pub returns-in-Err-clause-same : goal.returns-in-Err-clause-same
returns-in-Err-clause-same g c = (refl, refl)

pub returns-in-Err-clause-refused : goal.returns-in-Err-clause-refused
returns-in-Err-clause-refused g c =
    let s = c.args.store.now in
    let w = s.world.world in
    let refused : IsCrowded c.args.first c.args.second w c.in-Err.error = subst (λ (h : Holding). IsCrowded c.args.first c.args.second h.world c.in-Err.error) c.world.ensures c.in-Err.ensures.refused in
    crowd_refused c.args.first c.args.second w s.journal c.in-Err.error refused
