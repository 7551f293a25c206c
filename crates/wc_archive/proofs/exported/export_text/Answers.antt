use Rattle.std.proofs.Common.{subst}
use Rattle.std.specs.Prelude.{IfErr, IfOk}
use Rattle.wc_archive.specs.Exports.{Exports}
use Rattle.wc_archive.proofs.Exporting.{memory_or_refused, not_owed, owed}
use Rattle.wc_archive.proofs.exported.export_text.Goals as goal

pub returns-in_ok-text-in-Ok-clause-text : goal.returns-in_ok-text-in-Ok-clause-text
returns-in_ok-text-in-Ok-clause-text c =
    (c.in-Ok.archive, subst (λ r. IfOk r (Exports c.args.world.now.world c.args.pid)) c.in-Ok.is c.exported.ensures.exports, c.in_ok-text-in-Ok.ensures.text)

pub returns-in_ok-text-in-Ok-clause-refuses : goal.returns-in_ok-text-in-Ok-clause-refuses
returns-in_ok-text-in-Ok-clause-refuses c = λ e r.
    (tt, not_owed c.args.world.now.world c.args.pid c.in-Ok.archive e (subst (λ x. IfOk x (Exports c.args.world.now.world c.args.pid)) c.in-Ok.is c.exported.ensures.exports) r)

pub returns-in-Err-clause-refused : goal.returns-in-Err-clause-refused
returns-in-Err-clause-refused c = subst (λ r. IfErr r (memory_or_refused c.args.world.now.world c.args.pid)) c.in-Err.is c.exported.ensures.refused

pub returns-in-Err-clause-refuses : goal.returns-in-Err-clause-refuses
returns-in-Err-clause-refuses c = λ e r.
    (owed c.args.world.now.world c.args.pid c.in-Err.error e (subst (λ x. IfErr x (memory_or_refused c.args.world.now.world c.args.pid)) c.in-Err.is c.exported.ensures.refused) r, tt)
