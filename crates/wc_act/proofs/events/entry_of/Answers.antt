use Rattle.std.proofs.Common.{◌≡◌, ℕ, Option, Some, subst}
use Rattle.wc_act.specs.Opened.{turn_reply}
use Rattle.wc_act.proofs.Entries.{line_there, refusal_alone}
use Rattle.wc_act.proofs.events.entry_of.Goals as goal

pub there-requires : goal.there-requires
there-requires c =
    line_there c.args.asked c.args.world.now.world c.in-Ok.changes c.in_ok-line.line c.requires.ready c.in-Ok.ensures.leads c.in-Ok.ensures.storable c.in_ok-line.ensures

pub there-requires-in-Ok-2 : goal.there-requires-in-Ok-2
there-requires-in-Ok-2 c =
    line_there c.args.asked c.args.world.now.world c.in-Ok-2.changes c.in_ok-line.line c.requires.ready c.in-Ok-2.ensures.leads c.in-Ok-2.ensures.storable c.in_ok-line.ensures

pub returns-in_ok-refusal-in-Err : goal.returns-in_ok-refusal-in-Err
returns-in_ok-refusal-in-Err c =
    refusal_alone c.args.asked c.args.world.now.world c.in-Err.error c.in_ok-refusal-in-Err.field-0 c.in-Err.ensures.refused
    (subst (λ (o : Option ℕ). turn_reply o c.in-Err.error ≡ Some c.in_ok-refusal-in-Err.field-0) c.process_of-pid.ensures c.in_ok-refusal-in-Err.ensures)
