use Rattle.std.proofs.Common.{IfOk, IfErr, sym, subst}
use Rattle.wc_state.specs.Ranges.{AreLimits}
use Rattle.wc_machine.specs.Refusals.{HasRoom, RefusesSubmission}
use Rattle.wc_state.specs.declared.record.Limits.{Limits}
use Rattle.wc_world.specs.Applied.{applied}
use Rattle.wc_act.proofs.Entries.{all_shallow, result_leads, result_submitted}
use Rattle.wc_act.proofs.events.changes_for.Goals as goal

pub submit_changes-requires : goal.submit_changes-requires
submit_changes-requires c = record {
  limits = subst AreLimits (sym c.requires.limits) c.requires.ready.limits;
  ascending = c.requires.ready.names;
  shallow = all_shallow c.args.submission.inputs c.requires.ready.callable.within;
}

pub returns-clause-leads : goal.returns-clause-leads
returns-clause-leads c = result_leads c.args.world.now.world c.args.submission c.submit_changes.result c.submit_changes.ensures.ok

pub returns-clause-storable : goal.returns-clause-storable
returns-clause-storable c =
    let w = c.args.world.now.world in
    result_submitted w c.args.submission c.submit_changes.result c.graph-graph.ensures.reached c.submit_changes.ensures.ok c.submit_changes.ensures.accepted
    c.submit_changes.ensures.continues c.submit_changes.ensures.sound
    (subst (λ (l : Limits). IfOk c.submit_changes.result (λ cs. HasRoom l.max_nodes (applied w cs))) c.requires.limits c.submit_changes.ensures.room)

pub returns-clause-refused : goal.returns-clause-refused
returns-clause-refused c =
    let s = c.args.submission in
    subst (λ (l : Limits). IfErr c.submit_changes.result (RefusesSubmission c.args.world.now.world s.library s.caching s.name s.inputs l.max_nodes)) c.requires.limits
    c.submit_changes.ensures.refused
