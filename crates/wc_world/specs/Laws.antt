-- Laws of worlds and changes.
use Rattle.std.specs.Prelude.{◌≡◌, List}
use Rattle.wc_graph.specs.Rules.{IsLinkCorrect}
use Rattle.wc_world.specs.declared.change.Change.{Change}
use Rattle.wc_world.specs.declared.error.WorldError.{WorldError}
use Rattle.wc_world.specs.World.{World, empty}
use Rattle.wc_world.specs.Applied.{applied}
use Rattle.wc_world.specs.Accepted.{IsAccepted, IsRefused, IsReached}
use Rattle.wc_world.specs.Consistent.{IsConsistent}
use Rattle.wc_world.specs.Snapshot.{snapshot}

-- No changes are both accepted and refused, and they are refused in one way.
abbrev pub NotBoth : Type 0
NotBoth = (w : World) (cs : List Change) (e : WorldError) → IsAccepted w cs → IsRefused w cs e → ⊥

-- The law: changes that a world refuses are refused for one reason
abbrev pub OneRefusal : Type 0
OneRefusal = (w : World) (cs : List Change) (d e : WorldError) → IsRefused w cs d → IsRefused w cs e → d ≡ e

-- Accepted changes keep a world's links correct.
abbrev pub LinksStayCorrect : Type 0
LinksStayCorrect = (w : World) (cs : List Change) → IsLinkCorrect w.nodes w.links → IsAccepted w cs → IsLinkCorrect (applied w cs).nodes (applied w cs).links

-- The lists of each world that accepted changes make fit each other.
abbrev pub ReachedIsConsistent : Type 0
ReachedIsConsistent = (w : World) → IsReached w → IsConsistent w

-- The empty world accepts a world's snapshot, and applying it gives that world.
abbrev pub SnapshotsGiveTheWorld : Type 0
SnapshotsGiveTheWorld = (w : World) → IsReached w → IsAccepted empty (snapshot w) × (applied empty (snapshot w) ≡ w)
