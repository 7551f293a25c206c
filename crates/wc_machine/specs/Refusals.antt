-- Why an event is refused: what all events have in common, and submissions.
use Rattle.std.specs.Prelude.{◌≡◌, ◌≢◌, ℕ, ◌+◌, ◌<◌, ◌≤◌, true, List, [], length, Some, None}
use Rattle.wc_value.specs.declared.process.ProcessState.{ProcessState}
use Rattle.wc_syntax.specs.Findings.{head_of, definition_named}
use Rattle.wc_syntax.specs.declared.definition.Definition.{Definition}
use Rattle.wc_semantics.specs.Rules.{Values}
use Rattle.wc_state.specs.declared.record.ProcessRecord.{ProcessRecord}
use Rattle.wc_state.specs.declared.record.What.{What}
use Rattle.wc_state.specs.declared.record.What.TheVariants as what
use Rattle.wc_meaning.specs.Inputs.{bad_input}
use Rattle.wc_world.specs.declared.change.Change.{Change}
use Rattle.wc_world.specs.World.{World}
use Rattle.wc_world.specs.Applied.{applied}
use Rattle.wc_world.specs.Records.{find_record, has_ended}
use Rattle.wc_machine.specs.Submissions.{Submits}
use Rattle.wc_machine.specs.declared.error.TurnError.{TurnError}
use Rattle.wc_machine.specs.declared.error.TurnError.TheVariants as error

-- ---- room

-- so many nodes and batches are within the limits, of which the first is the most nodes
abbrev pub AreFew : (nodes batches most : ℕ) → Type 0
AreFew nodes batches most = (nodes ≤ most) × (batches ≤ 4000000000)

-- there is room for a world, where there are at most so many nodes
abbrev pub HasRoom : ℕ → World → Type 0
HasRoom most w = AreFew (length w.nodes) w.batches most

-- there are too many nodes, or else too many batches, and of these there are so many of at most so many
abbrev pub AreTooMany : (nodes batches most : ℕ) → What → (count limit : ℕ) → Type 0
AreTooMany nodes batches most what.Nodes count limit = (count ≡ nodes) × (limit ≡ most) × (most < nodes)
AreTooMany nodes batches most what.Bytes count limit = ⊥
AreTooMany nodes batches most what.Batches count limit = (count ≡ batches) × (limit ≡ 4000000000) × (nodes ≤ most) × (4000000000 < batches)
AreTooMany nodes batches most what.Generations count limit = ⊥

-- a world would be full so
abbrev pub IsFull : ℕ → World → What → (count limit : ℕ) → Type 0
IsFull most w = AreTooMany (length w.nodes) w.batches most

-- so many nodes and batches are refused so
abbrev pub RefusesCounts : (nodes batches most : ℕ) → TurnError → Type 0
RefusesCounts nodes batches most error.NotReady = ⊥
RefusesCounts nodes batches most (error.Full what count limit) = AreTooMany nodes batches most what count limit
RefusesCounts nodes batches most error.UnknownProcess = ⊥
RefusesCounts nodes batches most (error.Ended s) = ⊥
RefusesCounts nodes batches most error.UnknownName = ⊥
RefusesCounts nodes batches most (error.BadInputs port) = ⊥
RefusesCounts nodes batches most error.OutOfMemory = ⊥

-- ---- answers

-- none of the conditions of refusals holds, but that want of memory may come at any time
abbrev pub NoneHolds : (TurnError → Type 0) → Type 0
NoneHolds refuses = (e : TurnError) → refuses e → e ≡ error.OutOfMemory

-- ---- what makes a world too full

-- Where an event has changes of which this holds, the world after them would have more than so many nodes, or else too many batches. Want of
-- memory may come at any time, and nothing else is told.
abbrev pub FullOf : (List Change → Type 0) → (most : ℕ) → World → TurnError → Type 0
FullOf P most w error.NotReady = ⊥
FullOf P most w (error.Full what count limit) = (cs : List Change) × P cs × IsFull most (applied w cs) what count limit
FullOf P most w error.UnknownProcess = ⊥
FullOf P most w (error.Ended s) = ⊥
FullOf P most w error.UnknownName = ⊥
FullOf P most w (error.BadInputs port) = ⊥
FullOf P most w error.OutOfMemory = Unit {0}

-- a world has as many batches as it may, so that one more is one too many
abbrev pub IsOneBatchTooMany : World → What → (count limit : ℕ) → Type 0
IsOneBatchTooMany w what.Nodes count limit = ⊥
IsOneBatchTooMany w what.Bytes count limit = ⊥
IsOneBatchTooMany w what.Batches count limit = (count ≡ w.batches + 1) × (limit ≡ 4000000000) × (4000000000 < w.batches + 1)
IsOneBatchTooMany w what.Generations count limit = ⊥

-- one more batch is refused so
abbrev pub RefusesBatch : World → TurnError → Type 0
RefusesBatch w error.NotReady = ⊥
RefusesBatch w (error.Full what count limit) = IsOneBatchTooMany w what count limit
RefusesBatch w error.UnknownProcess = ⊥
RefusesBatch w (error.Ended s) = ⊥
RefusesBatch w error.UnknownName = ⊥
RefusesBatch w (error.BadInputs port) = ⊥
RefusesBatch w error.OutOfMemory = ⊥

-- Where an event adds no node and has changes of which this holds, these aren't none, and a batch more is one too many. Want of memory may come
-- at any time, and nothing else is told.
abbrev pub FullOfBatches : (List Change → Type 0) → World → TurnError → Type 0
FullOfBatches P w error.NotReady = ⊥
FullOfBatches P w (error.Full what count limit) = ((cs : List Change) × P cs × (cs ≢ [])) × IsOneBatchTooMany w what count limit
FullOfBatches P w error.UnknownProcess = ⊥
FullOfBatches P w (error.Ended s) = ⊥
FullOfBatches P w error.UnknownName = ⊥
FullOfBatches P w (error.BadInputs port) = ⊥
FullOfBatches P w error.OutOfMemory = Unit {0}

-- ---- live processes

-- the process has ended, in this state
abbrev pub HasEndedAs : World → (pid : ℕ) → ProcessState → Type 0
HasEndedAs w pid s = (r : ProcessRecord) × (find_record pid w.records ≡ Some r) × (has_ended r.state ≡ true) × (s ≡ r.state)

-- no process has the number, or else it has ended
abbrev pub RefusesLive : World → (pid : ℕ) → TurnError → Type 0
RefusesLive w pid error.NotReady = ⊥
RefusesLive w pid (error.Full what count limit) = ⊥
RefusesLive w pid error.UnknownProcess = find_record pid w.records ≡ None
RefusesLive w pid (error.Ended s) = HasEndedAs w pid s
RefusesLive w pid error.UnknownName = ⊥
RefusesLive w pid (error.BadInputs port) = ⊥
RefusesLive w pid error.OutOfMemory = ⊥

-- ---- submissions

-- the inputs of a definition of the library have this least bad port
abbrev pub HasBadInput : List Definition → List ℕ → Values → List ℕ → Type 0
HasBadInput library name inputs port = (d : Definition) × (definition_named name library ≡ Some d) × (bad_input (head_of d).inputs inputs ≡ Some port)

-- the library lacks the name, or else a port has a bad input
abbrev pub RefusesName : List Definition → List ℕ → Values → TurnError → Type 0
RefusesName library name inputs error.NotReady = ⊥
RefusesName library name inputs (error.Full what count limit) = ⊥
RefusesName library name inputs error.UnknownProcess = ⊥
RefusesName library name inputs (error.Ended s) = ⊥
RefusesName library name inputs error.UnknownName = definition_named name library ≡ None
RefusesName library name inputs (error.BadInputs port) = HasBadInput library name inputs port
RefusesName library name inputs error.OutOfMemory = Unit {0}

-- The submission is refused so: the library lacks the name, else a port has a bad input, else the world after it would have more
-- than so many nodes, else it would have too many batches. Want of memory may come at any time.
abbrev pub RefusesSubmission : World → List Definition → List (List ℕ) → List ℕ → Values → (most : ℕ) → TurnError → Type 0
RefusesSubmission w library caching name inputs most error.NotReady = ⊥
RefusesSubmission w library caching name inputs most (error.Full what count limit) =
    (cs : List Change) × Submits w library caching name inputs cs × IsFull most (applied w cs) what count limit
RefusesSubmission w library caching name inputs most error.UnknownProcess = ⊥
RefusesSubmission w library caching name inputs most (error.Ended s) = ⊥
RefusesSubmission w library caching name inputs most error.UnknownName = definition_named name library ≡ None
RefusesSubmission w library caching name inputs most (error.BadInputs port) = HasBadInput library name inputs port
RefusesSubmission w library caching name inputs most error.OutOfMemory = Unit {0}
