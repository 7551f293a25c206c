-- A world on its way through one batch.
use Rattle.std.specs.Prelude.{◌≡◌, ℕ, nat_le, nat_lt, ◌==◌, Bool, true, false, not, ◌&&◌, ◌||◌, if◌then◌else◌, List, [], ◌∷◌, length, Option, Some, None}
use Rattle.wc_graph.specs.declared.link.Link.{Link}
use Rattle.wc_state.specs.declared.record.ProcessRecord.{ProcessRecord}
use Rattle.wc_world.specs.declared.change.Change.{Change}
use Rattle.wc_world.specs.declared.change.Change.TheVariants as change
use Rattle.wc_records.specs.declared.change.SetProcess.{SetProcess}
use Rattle.wc_records.specs.declared.change.Kept.{Kept}
use Rattle.wc_world.specs.declared.error.WorldError.{WorldError}
use Rattle.wc_world.specs.declared.draft.Draft.{Draft}
use Rattle.wc_world.specs.declared.terms.Terms.{Terms}
use Rattle.wc_world.specs.World.{World}
use Rattle.wc_world.specs.Records.{find_record, is_calculation}
use Rattle.wc_world.specs.Applied.{started_in, next_number}
use Rattle.wc_world.specs.Applying.{world_of, Ascend}
use Rattle.wc_world.specs.Fits.{is_settled}
use Rattle.wc_world.specs.Slots.{kept_at}
use Rattle.wc_world.specs.Accepted.{Setting, Fits, Refuses, kepts, count_in, kept_of, kept_started, kept_ended, ended_fits, is_among}

-- the world that a draft has come to
abbrev pub drafted : Draft → World
drafted d = world_of d.graph d.records d.libraries d.batches

-- The numbers of the records ascend, up to that of the last node.
abbrev pub Ascends : World → Type 0
Ascends w = Ascend 0 w.records (length w.nodes)

-- ---- where a change stands

-- The terms say of a batch what its setting says.
pub record Tells (t : Terms) (s : Setting) : Type 0 where
  pub batch : s.batch ≡ t.batch
  pub snapshot : s.snapshot ≡ t.snapshot
  pub kepts : t.snapshot ≡ true → (pid : ℕ) → kept_of pid (kepts s.all) ≡ kept_at pid t.slots.items
  pub count : count_in s.all ≡ t.count

-- the batch in which a process has started after it is set
abbrev pub started_by : Terms → SetProcess → ProcessRecord → ℕ
started_by t c r = if t.snapshot then kept_started (kept_at r.node t.slots.items) else started_in t.batch r c.state

-- the batch in which a process ended, 0 for not yet
abbrev pub ended_by : Terms → ProcessRecord → ℕ
ended_by t q = if t.snapshot then kept_ended (kept_at q.node t.slots.items) else q.ended

-- as `is_source`, by what a draft knows of its batch
abbrev pub is_source_by : Terms → SetProcess → ProcessRecord → Option ProcessRecord → Bool
is_source_by t c r None = false
is_source_by t c r (Some q) = is_calculation q.kind && (nat_lt 0 (ended_by t q) && nat_lt (ended_by t q) (started_by t c r))

-- whether a process that is set names no source, or one that may be its source
abbrev pub source_fits_by : Terms → World → SetProcess → ProcessRecord → Bool
source_fits_by t w c r = (c.cached_from == 0) || is_source_by t c r (find_record c.cached_from w.records)

-- whether the batch is a snapshot, and what it keeps of a process fits the record and is within the count of batches
abbrev pub kept_fits_by : Terms → Kept → Option ProcessRecord → Bool
kept_fits_by t k None = false
kept_fits_by t k (Some r) = t.snapshot && (nat_le k.started t.count && (nat_le k.ended t.count && ended_fits k r))

-- The change applies to the world, in each setting of which the terms say so.
abbrev pub FitsBy : Terms → World → Change → Type 0
FitsBy t w c = (s : Setting) → Tells t s → Fits s w c

-- The change doesn't apply, for this reason, in each setting of which the terms say so.
abbrev pub RefusesBy : Terms → World → Change → WorldError → Type 0
RefusesBy t w c e = (s : Setting) → Tells t s → Refuses s w c e

-- ---- processes that a change may unsettle

-- the numbers of processes that a change makes, sets or links from
abbrev pub touched_by : World → Change → List ℕ
touched_by w (change.Library l names) = []
touched_by w (change.Data v) = []
touched_by w (change.Process n) = next_number w ∷ []
touched_by w (change.Link l) = l.source ∷ []
touched_by w (change.Set s) = s.pid ∷ []
touched_by w (change.Count n) = []
touched_by w (change.Kept k) = []

-- Each process is settled whose number isn't among these.
abbrev pub AreSettledBut : List ℕ → List Link → List ProcessRecord → Type 0
AreSettledBut touched links [] = Unit {0}
AreSettledBut touched links (r ∷ rs) = (is_among r.node touched ≡ false → is_settled links r ≡ true) × AreSettledBut touched links rs

-- the record, if there is one, is of a process that isn't settled
abbrev pub is_open : List Link → Option ProcessRecord → Bool
is_open links None = false
is_open links (Some r) = not (is_settled links r)

-- there is a process of this number, and it isn't settled
abbrev pub is_unsettled : List Link → List ProcessRecord → ℕ → Bool
is_unsettled links records pid = is_open links (find_record pid records)

-- the lesser of a number, where there is one, and another
abbrev pub lesser : Option ℕ → ℕ → Option ℕ
lesser None pid = Some pid
lesser (Some least) pid = if nat_lt least pid then Some least else Some pid

-- the lesser of a number, where there is one, and that of a process, where it is unsettled
abbrev pub with_one : List Link → List ProcessRecord → Option ℕ → ℕ → Option ℕ
with_one links records least pid = if is_unsettled links records pid then lesser least pid else least

-- the least of a number, where there is one, and those of these that are of unsettled processes
abbrev pub least_from : List Link → List ProcessRecord → Option ℕ → List ℕ → Option ℕ
least_from links records least [] = least
least_from links records least (pid ∷ pids) = least_from links records (with_one links records least pid) pids

-- this number is the last one, where there is one
abbrev pub is_last : Option ℕ → ℕ → Bool
is_last None pid = false
is_last (Some last) pid = last == pid
