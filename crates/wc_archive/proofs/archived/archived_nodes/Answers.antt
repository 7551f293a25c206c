use Rattle.std.proofs.Common.{◌≡◌, ℕ, length, subst, arith}
use Rattle.std.specs.List.{filter_map}
use Rattle.wc_archive.specs.Closure.{archived_node}
use Rattle.wc_archive.proofs.Exporting.{nodes_more}
use Rattle.wc_archive.proofs.Marking.{front}
use Rattle.wc_archive.proofs.archived.archived_nodes.Goals as goal

pub loop-id-preserved : goal.loop-id-preserved
loop-id-preserved c =
    nodes_more (archived_node c.args.world.now.world) c.args.marks.now c.loop-id.nodes c.put_node.new.nodes c.loop-id.id c.loop-id.invariant c.in_ok-put_node.ensures

pub returns : goal.returns
returns c =
    let l = c.loop-id in
    let all : l.id ≡ length c.args.marks.now = omega arith in
    subst (λ (k : ℕ). l.nodes ≡ filter_map (archived_node c.args.world.now.world) (front c.args.marks.now k)) all l.invariant
