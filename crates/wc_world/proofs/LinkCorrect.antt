-- Accepted changes keep links correct.
use Rattle.std.proofs.Common.{List, [], ◌∷◌}
use Rattle.wc_graph.specs.declared.node.NodeKind.TheVariants as node
use Rattle.wc_graph.specs.Rules.{IsLinkCorrect}
use Rattle.wc_graph.proofs.Correct.{link_correct_push, node_keeps_correct}
use Rattle.wc_world.specs.declared.change.Change.{Change}
use Rattle.wc_world.specs.declared.change.Change.TheVariants as change
use Rattle.wc_world.specs.World.{World}
use Rattle.wc_world.specs.Records.{process_node}
use Rattle.wc_world.specs.Applied.{after_change, changed, begun, applied}
use Rattle.wc_world.specs.Accepted.{Setting, setting, Fits, Apply, IsAccepted}

abbrev AreCorrect : World → Type 0
AreCorrect w = IsLinkCorrect w.nodes w.links

change_keeps_correct : (s : Setting) (w : World) (c : Change) → AreCorrect w → Fits s w c → AreCorrect (after_change s.batch w c)
change_keeps_correct s w (change.Library l names) h fits = h
change_keeps_correct s w (change.Data v) h fits = node_keeps_correct w.nodes w.links (node.Data v) h
change_keeps_correct s w (change.Process n) h fits = node_keeps_correct w.nodes w.links (process_node n.kind) h
change_keeps_correct s w (change.Link l) h fits = link_correct_push w.nodes w.links l h fits.0
change_keeps_correct s w (change.Set c) h fits = h
change_keeps_correct s w (change.Count n) h fits = h
change_keeps_correct s w (change.Kept k) h fits = h

changes_keep_correct : (s : Setting) (w : World) (cs : List Change) → AreCorrect w → Apply s w cs → AreCorrect (changed s.batch w cs)
changes_keep_correct s w [] h apply = h
changes_keep_correct s w (c ∷ cs) h apply = changes_keep_correct s (after_change s.batch w c) cs (change_keeps_correct s w c h apply.0) apply.1

pub links_stay_correct : (w : World) (cs : List Change) → IsLinkCorrect w.nodes w.links → IsAccepted w cs → IsLinkCorrect (applied w cs).nodes (applied w cs).links
links_stay_correct w cs h accepted = changes_keep_correct (setting w cs) (begun w) cs h accepted.each
