-- Noted jobs of a world, by what is taken for their results.
use Rattle.std.specs.Prelude.{◌≡◌, ◌⊎◌, ℕ, List, [], ◌∷◌, Option, Some, None}
use Rattle.wc_value.specs.Requests.{dictionary_of}
use Rattle.wc_value.specs.Spells.{Spells}
use Rattle.wc_value.specs.declared.process.JobResult.{JobResult}
use Rattle.wc_value.specs.declared.process.Request.{Request}
use Rattle.wc_expression.specs.declared.outcome.Outcome.{Outcome}
use Rattle.wc_expression.specs.declared.outcome.Outcome.TheVariants.{Gives}
use Rattle.wc_state.specs.declared.record.ProcessRecord.{ProcessRecord}
use Rattle.wc_world.specs.World.{World}
use Rattle.wc_machine.specs.Recorded.{recorded_request}
use Rattle.wc_verify.specs.declared.firsts.Firsts.{Firsts}
use Rattle.wc_verify.specs.Firsts.{AreFirsts, Noted, Stands}

-- the canonical bytes of a request, or none where there is none
abbrev pub AreBytesOf : Option (Outcome Request) → Option (List ℕ) → Type 0
AreBytesOf asked None = (q : Request) → asked ≡ Some (Gives q) → ⊥
AreBytesOf asked (Some bytes) = (q : Request) × (asked ≡ Some (Gives q)) × Spells (dictionary_of q) bytes

-- a record is in a list
abbrev pub IsAmong : ProcessRecord → List ProcessRecord → Type 0
IsAmong r [] = ⊥
IsAmong r (s ∷ rs) = (s ≡ r) ⊎ IsAmong r rs

-- what is noted is recorded of one of these processes
pub record IsRecorded (has : ℕ → JobResult → Type 0) (w : World) (rs : List ProcessRecord) (n : Noted) : Type 0 where
  pub process : ProcessRecord
  pub among : IsAmong process rs
  pub number : process.node ≡ n.pid
  pub result : has process.node n.result
  pub request : Request
  pub asks : recorded_request w process ≡ Some (Gives request)
  pub spells : Spells (dictionary_of request) n.asked

-- what a process asked and its result are noted
pub record IsNoted (ns : List Noted) (pid : ℕ) (q : Request) (x : JobResult) : Type 0 where
  pub noted : Noted
  pub stands : Stands noted ns
  pub number : noted.pid ≡ pid
  pub result : noted.result ≡ x
  pub spells : Spells (dictionary_of q) noted.asked

-- of these processes those that have a request and a recorded result are noted, and no others
pub record AreNoted (has : ℕ → JobResult → Type 0) (w : World) (rs : List ProcessRecord) (ns : List Noted) : Type 0 where
  pub only : (n : Noted) → Stands n ns → IsRecorded has w rs n
  pub all : (r : ProcessRecord) → IsAmong r rs → (x : JobResult) → has r.node x → (q : Request) → recorded_request w r ≡ Some (Gives q) → IsNoted ns r.node q x

-- all jobs of these records were noted, and what is kept of them is right
pub record HaveNoted (has : ℕ → JobResult → Type 0) (w : World) (rs : List ProcessRecord) (firsts : Firsts) : Type 0 where
  pub seen : List Noted
  pub kept : AreFirsts seen firsts
  pub noted : AreNoted has w rs seen
