-- Laws of the turns of a work chain.
use Rattle.std.specs.Prelude.{◌≡◌, List, Some}
use Rattle.wc_syntax.specs.declared.definition.Chain.{Chain}
use Rattle.wc_syntax.specs.declared.definition.Definition.{Definition}
use Rattle.wc_syntax.specs.declared.definition.Definition.TheVariants as definition
use Rattle.wc_state.specs.declared.environment.Env.{Env}
use Rattle.wc_state.specs.declared.record.Checkpoint.{Checkpoint}
use Rattle.wc_state.specs.declared.record.ProcessRecord.{ProcessRecord}
use Rattle.wc_world.specs.Applied.{applied}
use Rattle.wc_world.specs.Records.{find_record, library_at}
use Rattle.wc_world.specs.Trees.{environment_at}
use Rattle.wc_world.specs.World.{World}
use Rattle.wc_machine.specs.Advances.{Advanced, goes, loops, advance}
use Rattle.wc_machine.specs.Calls.{advanced}
use Rattle.wc_machine.specs.Recorded.{its_definition}
use Rattle.wc_machine.specs.Rest.{IsOnTrack}
use Rattle.wc_machine.specs.Sound.{IsSound, IsFitting, IsPlaced, CallsAreKept, AwaitsLastCalls, NamesKnown}
use Rattle.wc_machine.specs.Turns.{StandsAt}
use Rattle.wc_soundness.specs.Touches.{Touches}

-- A work chain of a sound world that is created or runs, with what its advance is evaluated in.
pub record IsAtTurn (w : World) (r : ProcessRecord) (k : Chain) (library : List Definition) (c : Checkpoint) (env : Env) : Type 0 where
  pub sound : IsSound w
  pub found : find_record r.node w.records ≡ Some r
  pub definition : its_definition w r ≡ Some (definition.Chain k)
  pub library_there : library_at w.libraries r.library ≡ Some library
  pub stands : StandsAt r.state r.part c
  pub environment : environment_at w r.node ≡ Some env

-- the world after a turn that comes to this
abbrev pub after_turn : World → ProcessRecord → Chain → Advanced → World
after_turn w r k x = applied w (advanced w r k.head.outputs x)

-- What a sound world asks of the record of a live chain.
pub record IsSoundChain (w : World) (r : ProcessRecord) : Type 0 where
  pub fits : IsFitting w r
  pub placed : IsPlaced w r
  pub calls : CallsAreKept w r
  pub awaits : AwaitsLastCalls w r r.part
  pub names : NamesKnown w r r.part
  pub track : IsOnTrack w r

-- A turn that comes to this touches the chain alone, whose record is sound afterwards.
abbrev pub IsSoundTurn : World → ProcessRecord → Chain → Advanced → Type 0
IsSoundTurn w r k x = Touches w (after_turn w r k x) r.node
    × ((s : ProcessRecord) → find_record r.node (after_turn w r k x).records ≡ Some s → IsSoundChain (after_turn w r k x) s)

-- A chain that goes on, with a turn of a loop or without, is on track afterwards.
abbrev pub ChainsStayOnTrack : Type 0
ChainsStayOnTrack = (w : World) (r : ProcessRecord) (k : Chain) (library : List Definition) (c d : Checkpoint) (env : Env) → IsAtTurn w r k library c env
    → advance library k r.depth env c ≡ goes d
    → (s : ProcessRecord) → find_record r.node (after_turn w r k (goes d)).records ≡ Some s → IsOnTrack (after_turn w r k (goes d)) s

-- The law: a work chain of a sound world is on track after a turn of a loop
abbrev pub LoopsStayOnTrack : Type 0
LoopsStayOnTrack = (w : World) (r : ProcessRecord) (k : Chain) (library : List Definition) (c d : Checkpoint) (env : Env) → IsAtTurn w r k library c env
    → advance library k r.depth env c ≡ loops d
    → (s : ProcessRecord) → find_record r.node (after_turn w r k (loops d)).records ≡ Some s → IsOnTrack (after_turn w r k (loops d)) s

-- So its record is as a sound world asks, and no other process is touched.
abbrev pub ChainsStaySound : Type 0
ChainsStaySound = (w : World) (r : ProcessRecord) (k : Chain) (library : List Definition) (c d : Checkpoint) (env : Env) → IsAtTurn w r k library c env
    → (advance library k r.depth env c ≡ goes d → IsSoundTurn w r k (goes d)) × (advance library k r.depth env c ≡ loops d → IsSoundTurn w r k (loops d))
