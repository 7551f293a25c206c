use Rattle.std.proofs.Common.{◌≡◌, List, true, rules, Some, sym}
use Rattle.wc_world.specs.declared.change.Change.{Change}
use Rattle.wc_world.specs.Accepted.{IsAccepted}
use Rattle.wc_world.specs.Applied.{applied}
use Rattle.wc_world.specs.Records.{find_record}
use Rattle.wc_machine.specs.Continues.{Continues}
use Rattle.wc_machine.specs.Machine.{turn}
use Rattle.wc_machine.specs.Readiness.{is_ready}
use Rattle.wc_machine.specs.Sound.{IsSound}
use Rattle.wc_machine.specs.Turns.{TurnGives}
use Rattle.wc_soundness.specs.ListLaws.{AreItsChanges}
use Rattle.wc_machine.specs.Refusals.{FullOf, HasRoom, NoneHolds}
use Rattle.wc_core.specs.Refusals.{RefusesTurn}
use Rattle.std.proofs.lemmas.Result.{IfErr-weaker}
use Rattle.wc_core.proofs.Results.{if_both}
use Rattle.wc_core.proofs.TurnsByKind.{found_itself, ready_itself, turn_allowed, turn_changes, turn_continues, turn_is_accepted, turn_refused, turn_sound}
use Rattle.wc_core.proofs.turns.turn.Goals as goal

pub turn_by_kind-requires-clause-found : goal.turn_by_kind-requires-clause-found
turn_by_kind-requires-clause-found c = found_itself c.args.world.now.world c.args.pid c.in-Some.process.now (sym c.in-Some.ensures)

pub turn_by_kind-requires-clause-ready : goal.turn_by_kind-requires-clause-ready
turn_by_kind-requires-clause-ready c =
    ready_itself c.args.world.now.world c.args.now c.args.pid c.in-Some.process.now (sym c.in-Some.ensures) c.is_ready.result c.is_ready.ensures c.if-not-is_ready.false

pub returns-clause-changes : goal.returns-clause-changes
returns-clause-changes c =
    let w = c.args.world.now.world in
    let pid = c.args.pid in
    let r = c.in-Some.process.now in
    let a = c.args.answer in
    let now = c.args.now in
    let poll = c.args.limits.now.poll_ms in
    let most = c.args.limits.now.max_nodes in
    let reached = c.graph-graph.ensures.reached in
    let found : find_record pid w.records ≡ Some r = sym c.in-Some.ensures in
    let ready : is_ready w now r ≡ true = ready_itself w now pid r found c.is_ready.result c.is_ready.ensures c.if-not-is_ready.false in
    if_both c.turn_by_kind.result (TurnGives poll now w r a) (λ (ds : List Change). HasRoom most (applied w ds)) (AreItsChanges poll w (turn pid a now))
    (λ cs gives room. turn_changes poll now pid w r a found ready cs reached gives) c.turn_by_kind.ensures.gives c.turn_by_kind.ensures.room

pub returns-clause-accepted : goal.returns-clause-accepted
returns-clause-accepted c =
    let w = c.args.world.now.world in
    let pid = c.args.pid in
    let r = c.in-Some.process.now in
    let a = c.args.answer in
    let now = c.args.now in
    let poll = c.args.limits.now.poll_ms in
    let most = c.args.limits.now.max_nodes in
    let reached = c.graph-graph.ensures.reached in
    let found : find_record pid w.records ≡ Some r = sym c.in-Some.ensures in
    let ready : is_ready w now r ≡ true = ready_itself w now pid r found c.is_ready.result c.is_ready.ensures c.if-not-is_ready.false in
    if_both c.turn_by_kind.result (TurnGives poll now w r a) (λ (ds : List Change). HasRoom most (applied w ds)) (IsAccepted w)
    (λ cs gives room. turn_is_accepted poll now pid w r a found ready cs reached gives most c.requires.limits.few_nodes room c.outputs_ascend.ensures) c.turn_by_kind.ensures.gives c.turn_by_kind.ensures.room

pub returns-clause-continues : goal.returns-clause-continues
returns-clause-continues c =
    let w = c.args.world.now.world in
    let pid = c.args.pid in
    let r = c.in-Some.process.now in
    let a = c.args.answer in
    let now = c.args.now in
    let poll = c.args.limits.now.poll_ms in
    let most = c.args.limits.now.max_nodes in
    let reached = c.graph-graph.ensures.reached in
    let found : find_record pid w.records ≡ Some r = sym c.in-Some.ensures in
    let ready : is_ready w now r ≡ true = ready_itself w now pid r found c.is_ready.result c.is_ready.ensures c.if-not-is_ready.false in
    if_both c.turn_by_kind.result (TurnGives poll now w r a) (λ (ds : List Change). HasRoom most (applied w ds)) (λ (cs : List Change). IsSound w → Continues w (applied w cs))
    (λ cs gives room. turn_continues poll now pid w r a found ready cs reached gives most c.requires.limits.few_nodes room) c.turn_by_kind.ensures.gives c.turn_by_kind.ensures.room

pub returns-clause-sound : goal.returns-clause-sound
returns-clause-sound c =
    let w = c.args.world.now.world in
    let pid = c.args.pid in
    let r = c.in-Some.process.now in
    let a = c.args.answer in
    let now = c.args.now in
    let poll = c.args.limits.now.poll_ms in
    let most = c.args.limits.now.max_nodes in
    let reached = c.graph-graph.ensures.reached in
    let found : find_record pid w.records ≡ Some r = sym c.in-Some.ensures in
    let ready : is_ready w now r ≡ true = ready_itself w now pid r found c.is_ready.result c.is_ready.ensures c.if-not-is_ready.false in
    if_both c.turn_by_kind.result (TurnGives poll now w r a) (λ (ds : List Change). HasRoom most (applied w ds)) (λ (cs : List Change). IsSound w → IsSound (applied w cs))
    (λ cs gives room. turn_sound poll now pid w r a found ready cs reached gives most c.requires.limits.few_nodes room) c.turn_by_kind.ensures.gives c.turn_by_kind.ensures.room

pub returns-clause-none : goal.returns-clause-none
returns-clause-none c =
    let w = c.args.world.now.world in
    let pid = c.args.pid in
    let r = c.in-Some.process.now in
    let a = c.args.answer in
    let now = c.args.now in
    let poll = c.args.limits.now.poll_ms in
    let most = c.args.limits.now.max_nodes in
    let reached = c.graph-graph.ensures.reached in
    let found : find_record pid w.records ≡ Some r = sym c.in-Some.ensures in
    let ready : is_ready w now r ≡ true = ready_itself w now pid r found c.is_ready.result c.is_ready.ensures c.if-not-is_ready.false in
    if_both c.turn_by_kind.result (TurnGives poll now w r a) (λ (ds : List Change). HasRoom most (applied w ds)) (λ (cs : List Change). NoneHolds (RefusesTurn poll w pid a now most))
    (λ cs gives room. turn_allowed poll now pid w r a found ready cs reached gives most c.requires.limits.few_nodes room) c.turn_by_kind.ensures.gives c.turn_by_kind.ensures.room

pub returns-clause-refused : goal.returns-clause-refused
returns-clause-refused c =
    let w = c.args.world.now.world in
    let pid = c.args.pid in
    let r = c.in-Some.process.now in
    let a = c.args.answer in
    let now = c.args.now in
    let poll = c.args.limits.now.poll_ms in
    let most = c.args.limits.now.max_nodes in
    let reached = c.graph-graph.ensures.reached in
    let found : find_record pid w.records ≡ Some r = sym c.in-Some.ensures in
    let ready : is_ready w now r ≡ true = ready_itself w now pid r found c.is_ready.result c.is_ready.ensures c.if-not-is_ready.false in
    IfErr-weaker c.turn_by_kind.result (FullOf (TurnGives poll now w r a) most w) (RefusesTurn poll w pid a now most)
    (turn_refused poll now pid w r a found ready most) c.turn_by_kind.ensures.refused
