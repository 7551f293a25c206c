-- Laws that each question of a store has an answer, whatever the images, the world and the changes.
use Rattle.std.specs.Prelude.{◌≡◌, ◌⊎◌, ℕ, List}
use Rattle.wc_graph.specs.declared.node.NodeKind.{NodeKind}
use Rattle.wc_graph.specs.declared.link.Link.{Link}
use Rattle.wc_graph.specs.declared.error.GraphError.{GraphError}
use Rattle.wc_graph.specs.Refusals as graph
use Rattle.wc_world.specs.declared.change.Change.{Change}
use Rattle.wc_world.specs.declared.error.WorldError.{WorldError}
use Rattle.wc_world.specs.World.{World}
use Rattle.wc_world.specs.Accepted.{IsAccepted, IsRefused}
use Rattle.wc_store.specs.Held.{Standing, IsHeld}

-- A link breaks no rule beside any list of links, or is refused for the first rule that it breaks.
abbrev pub LinksAreDecided : Type 0
LinksAreDecided = (nodes : List NodeKind) (links : List Link) (l : Link) → graph.IsAllowed nodes links l ⊎ ((e : GraphError) × graph.Refuses nodes links l e)

-- A world, whether accepted changes made it or not, accepts changes, or refuses them for a reason.
abbrev pub ChangesAreDecided : Type 0
ChangesAreDecided = (w : World) (cs : List Change) → IsAccepted w cs ⊎ ((e : WorldError) × IsRefused w cs e)

-- Any two images hold nothing, damage at a place of a disk, or a world.
abbrev pub ImagesHoldSomething : Type 0
ImagesHoldSomething = (one two : List ℕ) → (s : Standing) × IsHeld one two s

-- this is what the images hold: this, and nothing else
pub record IsWhatIsHeld (one two : List ℕ) (s : Standing) : Type 0 where
  pub held : IsHeld one two s
  pub only : (t : Standing) → IsHeld one two t → t ≡ s

-- Any two images hold exactly one thing: what is held is a function of them.
abbrev pub ImagesHoldExactlyOneThing : Type 0
ImagesHoldExactlyOneThing = (one two : List ℕ) → (s : Standing) × IsWhatIsHeld one two s
