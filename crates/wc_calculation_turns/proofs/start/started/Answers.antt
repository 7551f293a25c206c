use Rattle.std.proofs.Common.{Some, subst}
use Rattle.std.proofs.lemmas.Result.{IfOk-weaker}
use Rattle.wc_world.specs.Records.{find_record}
use Rattle.wc_machine.specs.Ends.{TakesSource}
use Rattle.wc_calculation_turns.proofs.FirstTurns.{TurnsTo, found_one, is_cloned, source_found}
use Rattle.wc_calculation_turns.proofs.start.started.Goals as goal

pub returns-in-Some : goal.returns-in-Some
returns-in-Some c =
    let w = c.args.world.now.world in
    let r = c.args.process.now in
    let source = c.in-Some.source in
    let taken : TakesSource w r c.in_ok-source.field-0
    = found_one (λ q. TakesSource w q c.in_ok-source.field-0) (find_record r.node w.records) r c.requires.found c.in_ok-source.ensures in
    let takes : TakesSource w r (Some source) = subst (TakesSource w r) c.in-Some.is taken in
    let there = source_found w r source takes in
    IfOk-weaker c.cloned.result _ (TurnsTo w r c.requires) (λ course h. is_cloned w r c.requires there.0 source course there.1 takes (h there.0 there.1)) c.cloned.ensures
