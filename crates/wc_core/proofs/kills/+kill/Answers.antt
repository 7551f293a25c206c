use Rattle.std.proofs.Common.{◌≡◌, [], ◌++◌, ◌-◌, ap, arith, subst, ◌∙◌}
use Rattle.std.specs.Prelude.{List}
use Rattle.wc_graph.specs.declared.link.Link.{Link}
use Rattle.wc_graph.specs.Index.{source_of}
use Rattle.wc_world.specs.declared.change.Change.{Change}
use Rattle.wc_world.specs.Linked.{upwards, of_node}
use Rattle.wc_core.proofs.KillParts.{kill_done, kill_passed, kill_taken, kills_begin}
use Rattle.wc_core.proofs.kills.+kill.Goals as goal

pub put_kill-loop-place-init : goal.put_kill-loop-place-init
put_kill-loop-place-init t c =
    let w = c.args.world.now.world in
    let pid = c.args.process.now.node in
    let items = c.in_ok-places.places.items in
    let links : c.graph.result.now.links ≡ w.links = c.graph.ensures.links.0 in
    let same : of_node source_of pid (upwards w.links items []) ≡ of_node source_of pid w.links
    = subst (λ (ls : List Link). of_node source_of pid (upwards ls items []) ≡ of_node source_of pid ls) links c.in_ok-places.ensures in
    ap (λ (cs : List Change). c.args.changes.now ++ cs) (kills_begin (c.args.levels - 1) w pid (upwards w.links items []) w.links same)

pub put_kill-loop-place-preserved : goal.put_kill-loop-place-preserved
put_kill-loop-place-preserved t c =
    let w = c.args.world.now.world in
    kill_taken (c.args.levels - 1) w c.args.process.now.node w.links c.loop-place.places.items c.pop.new.self.items c.in-Some.place c.in-Some.ensures.items c.loop-place.changes
    c.put_called.new.changes c.in-Some-called_at.pid c.in-Some-called_at.ensures c.in_ok-put_called.ensures
    ∙ c.loop-place.invariant

pub put_kill-loop-place-preserved-in_default-called_at : goal.put_kill-loop-place-preserved-in_default-called_at
put_kill-loop-place-preserved-in_default-called_at t c =
    let w = c.args.world.now.world in
    kill_passed (c.args.levels - 1) w c.args.process.now.node w.links c.loop-place.places.items c.pop.new.self.items c.in-Some.place c.in-Some.ensures.items c.loop-place.changes
    c.in_default-called_at.ensures
    ∙ c.loop-place.invariant

pub put_kill-returns : goal.put_kill-returns
put_kill-returns t c =
    kill_done c.put_end-2.result c.args.levels c.args.world.now.world c.args.process.now c.loop-place.places.items c.args.changes.now c.loop-place.changes c.put_end-2.new.changes
    c.if-levels-eq0.false (omega (arith, c.in_default.ensures.cases.0, c.loop-place.places.ok.0)) c.loop-place.invariant c.put_end-2.ensures
