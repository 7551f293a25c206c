use Rattle.std.proofs.Common.{Ok, refl, sym, subst}
use Rattle.wc_runner.specs.Asked.{AsksOnce}
use Rattle.wc_runner.specs.Outside.{in_turn}
use Rattle.wc_runner.specs.Refusals.{RefusesPrepared}
use Rattle.wc_runner.specs.Turns.{IsPrepared, IsReady, RefusesChanges}
use Rattle.wc_runner.proofs.Accepted.{if_err, prepares, prepares_none}
use Rattle.wc_runner.proofs.Answered.{ok_map}
use Rattle.wc_runner.proofs.Needed.{asks_on, needs_map}
use Rattle.wc_runner.proofs.turns.prepared.Goals as goal

pub returns-in-Ok-clause-ok : goal.returns-in-Ok-clause-ok
returns-in-Ok-clause-ok g c =
    let w = c.args.world.now.world in
    let limits = c.args.limits.now in
    let o = in_turn g.T.Transport limits c.args.now c.args.transport.now c.answer_for.new.transport in
    ok_map c.changes_of.result (IsReady limits w c.args.pid c.in-Ok.answer c.args.now) (IsPrepared o c.args.pid w)
    (λ cs ready. prepares o w c.args.pid c.args.now c.in-Ok.answer refl (c.in-Ok.ensures.answers limits) cs ready) c.changes_of.ensures.ok

pub returns-in-Ok-clause-refused : goal.returns-in-Ok-clause-refused
returns-in-Ok-clause-refused g c =
    let w = c.args.world.now.world in
    let limits = c.args.limits.now in
    let o = in_turn g.T.Transport limits c.args.now c.args.transport.now c.answer_for.new.transport in
    if_err c.changes_of.result (RefusesChanges limits w c.args.pid c.in-Ok.answer c.args.now) (RefusesPrepared o c.args.pid w)
    (λ e refused. prepares_none o w c.args.pid c.args.now c.in-Ok.answer refl (c.in-Ok.ensures.answers limits) e refused) c.changes_of.ensures.refused

pub returns-in-Ok-clause-asks : goal.returns-in-Ok-clause-asks
returns-in-Ok-clause-asks g c =
    needs_map c.args.world.now.world c.args.pid (AsksOnce (Ok c.in-Ok.answer) g.T.Transport.asked c.args.transport.now c.answer_for.new.transport)
    (AsksOnce c.changes_of.result g.T.Transport.asked c.args.transport.now c.answer_for.new.transport)
    (λ n once. asks_on c.in-Ok.answer c.changes_of.result g.T.Transport.asked c.args.transport.now c.answer_for.new.transport n once) c.in-Ok.ensures.asks

pub returns-in-Ok-clause-stays : goal.returns-in-Ok-clause-stays
returns-in-Ok-clause-stays g c = c.in-Ok.ensures.stays

pub returns-in-Err-clause-refused : goal.returns-in-Err-clause-refused
returns-in-Err-clause-refused g c =
    let o = in_turn g.T.Transport c.args.limits.now c.args.now c.args.transport.now c.answer_for.new.transport in
    subst (RefusesPrepared o c.args.pid c.args.world.now.world) (sym c.in-Err.ensures.memory) tt

pub returns-in-Err-clause-asks : goal.returns-in-Err-clause-asks
returns-in-Err-clause-asks g c = c.in-Err.ensures.asks

pub returns-in-Err-clause-stays : goal.returns-in-Err-clause-stays
returns-in-Err-clause-stays g c = c.in-Err.ensures.stays
