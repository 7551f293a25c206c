use Rattle.wc_chain_turns.specs.Turned.{HasChain}
use Rattle.wc_chain_turns.proofs.Turned.{stands_first, begun_running, begun_waiting, none_after}
use Rattle.wc_chain_turns.proofs.turn.chain_turn.Goals as goal

pub advance_from-requires-clause-stands : goal.advance_from-requires-clause-stands
advance_from-requires-clause-stands c =
    let w = c.args.world.now.world in
    let r = c.args.process.now in
    let h : HasChain w r = record { consistent = c.reached_worlds_are_consistent.ensures w c.graph-graph.ensures.reached; found = c.requires.found; chain = c.requires.chain } in
    stands_first w r h c.in_ok-first-in-Created.first c.in-Created.is c.in_ok-first-in-Created.ensures

pub its_checkpoint-requires : goal.its_checkpoint-requires
its_checkpoint-requires c =
    let w = c.args.world.now.world in
    let r = c.args.process.now in
    let h : HasChain w r = record { consistent = c.reached_worlds_are_consistent.ensures w c.graph-graph.ensures.reached; found = c.requires.found; chain = c.requires.chain } in
    begun_running w r h c.in-Running.is

pub its_checkpoint-requires-in-Waiting : goal.its_checkpoint-requires-in-Waiting
its_checkpoint-requires-in-Waiting c =
    let w = c.args.world.now.world in
    let r = c.args.process.now in
    let h : HasChain w r = record { consistent = c.reached_worlds_are_consistent.ensures w c.graph-graph.ensures.reached; found = c.requires.found; chain = c.requires.chain } in
    begun_waiting w r h c.in-Waiting.is

pub returns-in_ok-first-in-Created-clause-none : goal.returns-in_ok-first-in-Created-clause-none
returns-in_ok-first-in-Created-clause-none c =
    let w = c.args.world.now.world in
    let r = c.args.process.now in
    let h : HasChain w r = record { consistent = c.reached_worlds_are_consistent.ensures w c.graph-graph.ensures.reached; found = c.requires.found; chain = c.requires.chain } in
    none_after w r h c.one_list_of_changes.ensures c.args.limits.now.max_nodes c.advance_from.result c.advance_from.ensures.gives c.advance_from.ensures.room

pub returns-in_ok-own-in-Running-clause-none : goal.returns-in_ok-own-in-Running-clause-none
returns-in_ok-own-in-Running-clause-none c =
    let w = c.args.world.now.world in
    let r = c.args.process.now in
    let h : HasChain w r = record { consistent = c.reached_worlds_are_consistent.ensures w c.graph-graph.ensures.reached; found = c.requires.found; chain = c.requires.chain } in
    none_after w r h c.one_list_of_changes.ensures c.args.limits.now.max_nodes c.advance_from-in-Running.result c.advance_from-in-Running.ensures.gives c.advance_from-in-Running.ensures.room

pub returns-in-Waiting-clause-none : goal.returns-in-Waiting-clause-none
returns-in-Waiting-clause-none c =
    let w = c.args.world.now.world in
    let r = c.args.process.now in
    let h : HasChain w r = record { consistent = c.reached_worlds_are_consistent.ensures w c.graph-graph.ensures.reached; found = c.requires.found; chain = c.requires.chain } in
    none_after w r h c.one_list_of_changes.ensures c.args.limits.now.max_nodes c.bind_from.result c.bind_from.ensures.gives c.bind_from.ensures.room
