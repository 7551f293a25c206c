-- What an event that touches one process leaves of what the others owe.
use Rattle.std.specs.Prelude.{◌≡◌, ◌≢◌, ◌⊎◌, ℕ, ◌<◌, false, length, Option, Some}
use Rattle.wc_value.specs.declared.process.JobResult.{JobResult}
use Rattle.wc_value.specs.declared.process.Request.{Request}
use Rattle.wc_semantics.specs.Meaning.{is_killed}
use Rattle.wc_semantics.specs.Tables.{Path}
use Rattle.wc_state.specs.declared.record.ProcessRecord.{ProcessRecord}
use Rattle.wc_world.specs.Records.{find_record}
use Rattle.wc_world.specs.World.{World}
use Rattle.wc_machine.specs.Paths.{kills}
use Rattle.wc_machine.specs.Sound.{IsSound}
use Rattle.wc_soundness.specs.Touches.{MayBeTouched, Touches}
use Rattle.wc_cost.specs.Left.{PartOwes}

-- The event kills neither the process that it touches nor one that it makes.
abbrev pub KillsNone : World → World → ℕ → Type 0
KillsNone v w pid = (q : ProcessRecord) → find_record q.node w.records ≡ Some q → (pid ≡ q.node) ⊎ (length v.nodes < q.node) → is_killed q.state ≡ false

-- After such an event the recorded kills at and below each process of the world before are as before.
abbrev pub KillsStay : Type 0
KillsStay = (v w : World) (pid : ℕ) → IsSound v → Touches v w pid → MayBeTouched v pid → KillsNone v w pid
    → (r : ProcessRecord) → find_record r.node v.records ≡ Some r → (path : Path) → kills w r.node path ≡ kills v r.node path

-- Each process that it doesn't touch owes what it owed.
abbrev pub OthersOweTheSame : Type 0
OthersOweTheSame = (results : Request → Option JobResult) (v w : World) (pid : ℕ) → IsSound v → Touches v w pid → MayBeTouched v pid → KillsNone v w pid
    → (r : ProcessRecord) → find_record r.node v.records ≡ Some r → pid ≢ r.node → (n : ℕ) → PartOwes results v r r.part n → PartOwes results w r r.part n
