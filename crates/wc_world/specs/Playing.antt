-- What changes that are left decide of all changes.
use Rattle.std.specs.Prelude.{◌≡◌, List}
use Rattle.wc_world.specs.declared.change.Change.{Change}
use Rattle.wc_world.specs.declared.error.WorldError.{WorldError}
use Rattle.wc_world.specs.declared.draft.Draft.{Draft}
use Rattle.wc_world.specs.declared.terms.Terms.{Terms}
use Rattle.wc_world.specs.World.{World}
use Rattle.wc_world.specs.Applied.{changed}
use Rattle.wc_world.specs.Accepted.{Setting, Apply, FirstRefused}
use Rattle.wc_world.specs.Called.{AwaitsCalled}
use Rattle.wc_world.specs.Drafts.{drafted, Ascends, AreSettledBut, Tells}

-- Each change applies to the world as those before it left it.
abbrev pub ApplyBy : Terms → World → List Change → Type 0
ApplyBy t w cs = (s : Setting) → Tells t s → Apply s w cs

-- The first change that doesn't apply is refused so.
abbrev pub FirstRefusedBy : Terms → World → List Change → WorldError → Type 0
FirstRefusedBy t w cs e = (s : Setting) → Tells t s → FirstRefused s w cs e

-- What the changes left make of the draft so far, and decide, all of them make of the first world, and decide.
pub record Leads (t : Terms) (w : World) (cs : List Change) (d : Draft) (rest : List Change) : Type 0 where
  pub whole : changed t.batch (drafted d) rest ≡ changed t.batch w cs
  pub takes : ApplyBy t (drafted d) rest → ApplyBy t w cs
  pub refuses : (e : WorldError) → FirstRefusedBy t (drafted d) rest e → FirstRefusedBy t w cs e
  pub ascending : Ascends (drafted d)
  pub awaits : AwaitsCalled (drafted d)
  pub settled : AreSettledBut d.touched.items d.graph.links d.records.0
