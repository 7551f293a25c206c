-- Which changes a world takes, and what it refuses first.
use Rattle.std.specs.Prelude.{◌≡◌, ℕ, suc, ◌+◌, ◌<◌, ◌≤◌, nat_le, nat_lt, ◌==◌, ◌⊎◌, Bool, true, false, ◌&&◌, ◌||◌, if◌then◌else◌, List, [], ◌∷◌, length, Option, Some, None}
use Rattle.std.specs.List.{list_all, list_any}
use Rattle.wc_value.specs.Spelling.{depth}
use Rattle.wc_graph.specs.Rules.{IsCall}
use Rattle.wc_graph.specs.Refusals.{IsAllowed}
use Rattle.wc_graph.specs.Refusals as refusals
use Rattle.wc_graph.specs.declared.error.GraphError.TheVariants as graph
use Rattle.wc_graph.specs.declared.link.Link.{Link}
use Rattle.wc_state.specs.declared.record.ProcessRecord.{ProcessRecord}
use Rattle.wc_world.specs.declared.change.Change.{Change}
use Rattle.wc_world.specs.declared.change.Change.TheVariants as change
use Rattle.wc_records.specs.declared.change.SetProcess.{SetProcess}
use Rattle.wc_records.specs.declared.change.Kept.{Kept}
use Rattle.wc_world.specs.declared.error.WorldError.{WorldError}
use Rattle.wc_world.specs.declared.error.WorldError.TheVariants as error
use Rattle.wc_world.specs.World.{World, empty}
use Rattle.wc_world.specs.Records.{find_record, has_ended, is_calculation}
use Rattle.wc_world.specs.Applied.{next_number, started_in, after_change, begun, applied}
use Rattle.wc_world.specs.Fits.{is_nil, names_ascend, new_fits, call_fits, set_fits, unsettled}

-- ---- snapshots

-- the kept numbers of these changes
abbrev pub kepts : List Change → List Kept
kepts [] = []
kepts (change.Library l names ∷ cs) = kepts cs
kepts (change.Data v ∷ cs) = kepts cs
kepts (change.Process n ∷ cs) = kepts cs
kepts (change.Link l ∷ cs) = kepts cs
kepts (change.Set s ∷ cs) = kepts cs
kepts (change.Count n ∷ cs) = kepts cs
kepts (change.Kept k ∷ cs) = k ∷ kepts cs

-- the number of batches that the first Count tells
abbrev pub count_in : List Change → ℕ
count_in [] = 0
count_in (change.Library l names ∷ cs) = count_in cs
count_in (change.Data v ∷ cs) = count_in cs
count_in (change.Process n ∷ cs) = count_in cs
count_in (change.Link l ∷ cs) = count_in cs
count_in (change.Set s ∷ cs) = count_in cs
count_in (change.Count n ∷ cs) = n
count_in (change.Kept k ∷ cs) = count_in cs

-- the numbers of the processes that these changes make, where this is the next number
abbrev pub made_from : ℕ → List Change → List ℕ
made_from n [] = []
made_from n (change.Library l names ∷ cs) = made_from n cs
made_from n (change.Data v ∷ cs) = made_from (suc n) cs
made_from n (change.Process p ∷ cs) = n ∷ made_from (suc n) cs
made_from n (change.Link l ∷ cs) = made_from n cs
made_from n (change.Set s ∷ cs) = made_from n cs
made_from n (change.Count c ∷ cs) = made_from n cs
made_from n (change.Kept k ∷ cs) = made_from n cs

-- Kepts and then one Count, which is the last
abbrev pub ends_in_count : List Change → Bool
ends_in_count [] = false
ends_in_count (change.Library l names ∷ cs) = false
ends_in_count (change.Data v ∷ cs) = false
ends_in_count (change.Process n ∷ cs) = false
ends_in_count (change.Link l ∷ cs) = false
ends_in_count (change.Set s ∷ cs) = false
ends_in_count (change.Count n ∷ cs) = is_nil cs
ends_in_count (change.Kept k ∷ cs) = ends_in_count cs

-- other changes, then Kepts, and then one Count, which is the last
abbrev pub is_in_order : List Change → Bool
is_in_order [] = false
is_in_order (change.Library l names ∷ cs) = is_in_order cs
is_in_order (change.Data v ∷ cs) = is_in_order cs
is_in_order (change.Process n ∷ cs) = is_in_order cs
is_in_order (change.Link l ∷ cs) = is_in_order cs
is_in_order (change.Set s ∷ cs) = is_in_order cs
is_in_order (change.Count n ∷ cs) = is_nil cs
is_in_order (change.Kept k ∷ cs) = ends_in_count cs

-- how many Kepts there are for a process
abbrev pub how_often : ℕ → List Kept → ℕ
how_often pid [] = 0
how_often pid (k ∷ ks) = if k.pid == pid then suc (how_often pid ks) else how_often pid ks

-- whether a number is among these
abbrev pub is_among : ℕ → List ℕ → Bool
is_among n ns = list_any (λ m. m == n) ns

-- there is exactly one Kept for each of these processes and no other
abbrev pub keeps_each : List ℕ → List Kept → Bool
keeps_each made ks = list_all (λ pid. how_often pid ks == 1) made && list_all (λ k. is_among k.pid made) ks

-- whether the world has nothing and no batch
abbrev pub is_empty : World → Bool
is_empty w = is_nil w.nodes && (is_nil w.links && (is_nil w.records && (is_nil w.libraries && (w.batches == 0))))

-- The world is the empty one, the last change is the only Count, and those directly before it are the Kepts, one for each
-- process that the changes make.
abbrev pub is_snapshot : World → List Change → Bool
is_snapshot w cs = is_empty w && (is_in_order cs && keeps_each (made_from 1 cs) (kepts cs))

-- ---- where a change stands

-- the number of its batch, whether the changes are a snapshot, and the changes
pub record Setting : Type 0 where
  pub batch : ℕ
  pub snapshot : Bool
  pub all : List Change

-- what the test of a change looks at beside the world: the number of the batch, whether it is a snapshot, and all its changes
abbrev pub setting : World → List Change → Setting
setting w cs = record { batch = w.batches + 1; snapshot = is_snapshot w cs; all = cs }

-- what a snapshot keeps of a process, if anything
abbrev pub kept_of : ℕ → List Kept → Option Kept
kept_of pid [] = None
kept_of pid (k ∷ ks) = if k.pid == pid then Some k else kept_of pid ks

-- the batch of the start that is kept, 0 where nothing is
abbrev pub kept_started : Option Kept → ℕ
kept_started None = 0
kept_started (Some k) = k.started

-- the batch of the end that is kept, 0 where nothing is
abbrev pub kept_ended : Option Kept → ℕ
kept_ended None = 0
kept_ended (Some k) = k.ended

-- the batch in which a process has started after it is set; in a snapshot that of its Kept
abbrev pub started_after : Setting → SetProcess → ProcessRecord → ℕ
started_after s c r = if s.snapshot then kept_started (kept_of r.node (kepts s.all)) else started_in s.batch r c.state

-- the batch in which a process ended, 0 for not yet; in a snapshot that of its Kept
abbrev pub ended_before : Setting → ProcessRecord → ℕ
ended_before s q = if s.snapshot then kept_ended (kept_of q.node (kepts s.all)) else q.ended

-- whether a process may be set to have taken the outcome of this one: a calculation that ended in an earlier batch than the one in which the process
-- started
abbrev pub is_source : Setting → SetProcess → ProcessRecord → Option ProcessRecord → Bool
is_source s c r None = false
is_source s c r (Some q) = is_calculation q.kind && (nat_lt 0 (ended_before s q) && nat_lt (ended_before s q) (started_after s c r))

-- there is no source, or it is a calculation that ended in a batch before the one in which the process started
abbrev pub source_fits : Setting → World → SetProcess → ProcessRecord → Bool
source_fits s w c r = (c.cached_from == 0) || is_source s c r (find_record c.cached_from w.records)

-- ended is 0 exactly for a process that hasn't ended, and else at least started
abbrev pub ended_fits : Kept → ProcessRecord → Bool
ended_fits k r = if has_ended r.state then nat_lt 0 k.ended && nat_le k.started k.ended else (k.ended == 0)

-- the numbers are at most that of the Count, and fit the process
abbrev pub kept_fits : Setting → Kept → Option ProcessRecord → Bool
kept_fits s k None = false
kept_fits s k (Some r) = s.snapshot && (nat_le k.started (count_in s.all) && (nat_le k.ended (count_in s.all) && ended_fits k r))

-- ---- a change

-- there is a number for one more node
abbrev pub HasNumber : World → Type 0
HasNumber w = length w.nodes < 8000000

-- The change applies to the world as those before it left it.
abbrev pub Fits : Setting → World → Change → Type 0
Fits s w (change.Library l names) = names_ascend names ≡ true
Fits s w (change.Data v) = HasNumber w × (depth v ≤ 32)
Fits s w (change.Process n) = HasNumber w × (new_fits w.libraries n ≡ true)
Fits s w (change.Link l) = IsAllowed w.nodes w.links l × (IsCall l.link → call_fits w.records l ≡ true)
Fits s w (change.Set c) = (r : ProcessRecord) × (find_record c.pid w.records ≡ Some r) × (set_fits w c r ≡ true) × (source_fits s w c r ≡ true)
Fits s w (change.Count n) = (s.snapshot ≡ true) × (n ≤ 4000000000)
Fits s w (change.Kept k) = kept_fits s k (find_record k.pid w.records) ≡ true

-- the world refuses a link for this: the first rule of the graph that it breaks, or a call that doesn't fit
abbrev pub RefusesLink : World → Link → WorldError → Type 0
RefusesLink w l (error.Graph e) = refusals.Refuses w.nodes w.links l e
RefusesLink w l (error.NoProcess id) = ⊥
RefusesLink w l (error.BadRecord id) = (id ≡ l.target) × IsAllowed w.nodes w.links l × IsCall l.link × (call_fits w.records l ≡ false)
RefusesLink w l error.OutOfMemory = ⊥

-- The change doesn't apply, for this reason. The graph's reasons come first, then that there is no such process.
abbrev pub Refuses : Setting → World → Change → WorldError → Type 0
Refuses s w (change.Library l names) e = (e ≡ error.BadRecord 0) × (names_ascend names ≡ false)
Refuses s w (change.Data v) e =
    ((e ≡ error.Graph graph.Full) × (8000000 ≤ length w.nodes))
    ⊎ ((e ≡ error.BadRecord (next_number w)) × HasNumber w × (32 < depth v))
Refuses s w (change.Process n) e =
    ((e ≡ error.Graph graph.Full) × (8000000 ≤ length w.nodes))
    ⊎ ((e ≡ error.BadRecord (next_number w)) × HasNumber w × (new_fits w.libraries n ≡ false))
Refuses s w (change.Link l) e = RefusesLink w l e
Refuses s w (change.Set c) e =
    ((e ≡ error.NoProcess c.pid) × (find_record c.pid w.records ≡ None))
    ⊎ ((e ≡ error.BadRecord c.pid) × ((r : ProcessRecord) × (find_record c.pid w.records ≡ Some r) × ((set_fits w c r && source_fits s w c r) ≡ false)))
Refuses s w (change.Count n) e = (e ≡ error.BadRecord 0) × ((s.snapshot && nat_le n 4000000000) ≡ false)
Refuses s w (change.Kept k) e = (e ≡ error.BadRecord k.pid) × (kept_fits s k (find_record k.pid w.records) ≡ false)

-- Each change applies to the world as those before it left it.
abbrev pub Apply : Setting → World → List Change → Type 0
Apply s w [] = Unit {0}
Apply s w (c ∷ cs) = Fits s w c × Apply s (after_change s.batch w c) cs

-- The first change that doesn't apply is refused so.
abbrev pub FirstRefused : Setting → World → List Change → WorldError → Type 0
FirstRefused s w [] e = ⊥
FirstRefused s w (c ∷ cs) e = Refuses s w c e ⊎ (Fits s w c × FirstRefused s (after_change s.batch w c) cs e)

-- ---- changes

-- The batch isn't one too many, each change applies, and after the last one each process is settled.
pub record IsAccepted (w : World) (cs : List Change) : Type 0 where
  pub batch : w.batches < 4000000000
  pub each : Apply (setting w cs) (begun w) cs
  pub settled : unsettled (applied w cs).links (applied w cs).records ≡ None

-- The changes are refused so: as one batch too many, else at the first change that doesn't apply, else at the first
-- process that isn't settled after the last change.
abbrev pub IsRefused : World → List Change → WorldError → Type 0
IsRefused w cs e =
    ((e ≡ error.BadRecord 0) × (4000000000 ≤ w.batches))
    ⊎ ((w.batches < 4000000000) × FirstRefused (setting w cs) (begun w) cs e)
    ⊎ ((w.batches < 4000000000) × Apply (setting w cs) (begun w) cs
    × ((pid : ℕ) × (unsettled (applied w cs).links (applied w cs).records ≡ Some pid) × (e ≡ error.BadRecord pid)))

-- ---- worlds

-- The world is the empty one, or what accepted changes make of such a world.
pub data IsReached : World → Type 0 where
  nothing : IsReached empty
  then_changes : (w : World) (cs : List Change) → IsReached w → IsAccepted w cs → IsReached (applied w cs)
