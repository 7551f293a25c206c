-- What a transport in memory holds.
use Rattle.std.specs.Prelude.{◌≡◌, ◌≢◌, ◌≤◌, ◌==◌, ◌-◌, ◌^◌, min, ℕ, List, [], Option, Some, None, true, false, unwrap_or}
use Rattle.std.specs.List.{Contains}
use Rattle.std.specs.Map.{lookup}
use Rattle.std.specs.Ordering.{nat_cmp}
use Rattle.std.specs.BTreeMap.{get}
use Rattle.wc_value.specs.declared.process.Request.{Request}
use Rattle.wc_value.specs.Requests.{requests}
use Rattle.wc_transport.specs.declared.table.Held.{Held}
use Rattle.wc_transport.specs.declared.table.Held.TheVariants.{Nothing, This, Another}
use Rattle.wc_transport.specs.declared.table.Stage.{Stage}
use Rattle.wc_transport.specs.declared.table.TableTransport.{TableTransport}

-- the request that a directory holds
abbrev pub placed_at : TableTransport → ℕ → Option Request
placed_at t dir = get nat_cmp t.placed dir

-- nothing was done in a directory yet
abbrev pub idle : Stage
idle = record { started = false; updates = 0 }

-- what was done in a directory
abbrev pub stage_of : TableTransport → ℕ → Stage
stage_of t dir = unwrap_or (get nat_cmp t.stages dir) idle

-- how many of the first updates of a directory answer Running
abbrev pub busy_at : List (ℕ × ℕ) → ℕ → ℕ
busy_at busy dir = unwrap_or (lookup (λ d. d == dir) busy) 0

-- how many calls were made, which is a number of 64 bits
abbrev pub asked_of : TableTransport → ℕ
asked_of t = min t.schedule.number (2 ^ 64 - 1)

-- The program of a directory has ended: it was started, the table has its request, and the busy updates are over.
pub record IsFinished (t : TableTransport) (dir : ℕ) : Type 0 where
  pub request : Request
  pub placed : placed_at t dir ≡ Some request
  pub row : Contains (requests t.table) request
  pub started : (stage_of t dir).started ≡ true
  pub over : busy_at t.busy dir ≤ (stage_of t dir).updates

-- a directory holds another request than this one
pub record HoldsAnother (q : Request) (held : Option Request) : Type 0 where
  pub other : Request
  pub placed : held ≡ Some other
  pub differs : other ≢ q

-- what a directory holds beside a request: nothing, this one, or another
abbrev pub IsHeld : Request → Option Request → Held → Type 0
IsHeld q held Nothing = held ≡ None
IsHeld q held This = held ≡ Some q
IsHeld q held Another = HoldsAnother q held

-- no call is listed to fail, no fuse is set, and no directory is busy
pub record IsObliging (t : TableTransport) : Type 0 where
  pub listed : t.schedule.failing ≡ []
  pub fuse : t.schedule.fuse ≡ None
  pub busy : t.busy ≡ []
