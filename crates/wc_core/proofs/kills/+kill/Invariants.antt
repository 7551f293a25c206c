use Rattle.std.proofs.Common.{◌≡◌, ◌+◌, ◌-◌, ◌*◌, ◌++◌, [], vec_len}
use Rattle.std.specs.Prelude.{flat_map}
use Rattle.wc_world.specs.Linked.{upwards}
use Rattle.wc_core.proofs.KillParts.{kill_over}
use Rattle.wc_core.proofs.kills.+kill.Given as goal

abbrev pub decreases-put_kill : goal.decreases-put_kill
decreases-put_kill l = 2 * l.levels

abbrev pub decreases-put_called : goal.decreases-put_called
decreases-put_called l = 2 * l.levels + 1

abbrev pub invariant-put_kill-loop-place : goal.invariant-put_kill-loop-place
invariant-put_kill-loop-place l =
    l.changes ++ flat_map (kill_over (l.levels - 1) l.world.world l.process.node) (upwards l.world.world.links l.places.items [])
    ≡ l.fn.changes ++ flat_map (kill_over (l.levels - 1) l.world.world l.process.node) l.world.world.links

abbrev pub decreases-put_kill-loop-place : goal.decreases-put_kill-loop-place
decreases-put_kill-loop-place l = vec_len l.places
