-- What may be wrong with a world.
use Rattle.std.specs.Prelude.{◌≡◌, ◌≢◌, ◌⊎◌, ℕ, ◌<◌, ◌≤◌, Bool, true, List, All, Option, Some, None}
use Rattle.wc_value.specs.declared.process.JobResult.{JobResult}
use Rattle.wc_value.specs.declared.process.Request.{Request}
use Rattle.wc_expression.specs.declared.outcome.Outcome.TheVariants.{Gives}
use Rattle.wc_graph.specs.declared.link.Link.{Link}
use Rattle.wc_graph.specs.Walks.{Leads, Reaches, IsAcyclic, data_types}
use Rattle.wc_state.specs.declared.record.ProcessKind.TheVariants as kind
use Rattle.wc_state.specs.declared.record.ProcessRecord.{ProcessRecord}
use Rattle.wc_world.specs.World.{World}
use Rattle.wc_world.specs.Records.{find_record, has_ended, is_calculation}
use Rattle.wc_machine.specs.Created.{IsGiven, IsCreatedByInputs}
use Rattle.wc_machine.specs.Recorded.{recorded_request, HasResult}
use Rattle.wc_machine.specs.Results.{HasResultsByRequest, result_of}

-- ---- cycles

-- a walk along data provenance leads from the node back to it
abbrev pub LiesOnCycle : List Link → ℕ → Type 0
LiesOnCycle links node = Reaches (Leads data_types links) node node

-- the least node that lies on a cycle of data provenance, and none exactly where there is no cycle
abbrev pub IsLeastOnCycle : List Link → Option ℕ → Type 0
IsLeastOnCycle links None = IsAcyclic links
IsLeastOnCycle links (Some node) = LiesOnCycle links node × ((other : ℕ) → LiesOnCycle links other → node ≤ other)

-- ---- values

-- the state and the outputs of an ended calculation are those given for it
abbrev pub IsRight : World → ProcessRecord → Type 0
IsRight w r = is_calculation r.kind ≡ true → has_ended r.state ≡ true → IsGiven w r

-- an ended calculation has another state, or other outputs, than those given for it, or nothing is given for it
abbrev pub IsWrong : World → ProcessRecord → Type 0
IsWrong w r = (is_calculation r.kind ≡ true) × (has_ended r.state ≡ true) × ¬ IsGiven w r

-- the lowest calculation that isn't as its inputs give it, and none exactly where all that is created is created by its inputs
abbrev pub IsLowestWrong : World → Option ℕ → Type 0
IsLowestWrong w None = IsCreatedByInputs w
IsLowestWrong w (Some pid) =
    ((r : ProcessRecord) × (find_record pid w.records ≡ Some r) × IsWrong w r) × All (λ q. q.node < pid → IsRight w q) w.records

-- ---- results

-- An ended job that took another's outcome keeps no exit code of its own. So a job has at most one recorded result.
pub record HaveOneOrigin (w : World) : Type 0 where
  pub bare : (r : ProcessRecord) → find_record r.node w.records ≡ Some r → r.kind ≡ kind.Job → has_ended r.state ≡ true
      → (source : ℕ) → r.cached_from ≡ Some source → r.code ≡ None

-- Two jobs, in order of their numbers, have equal requests and different results, by what is taken for the results of jobs.
pub record DisagreeBy (has : ℕ → JobResult → Type 0) (w : World) (p q : ℕ) : Type 0 where
  pub before : p < q
  pub one : ProcessRecord
  pub other : ProcessRecord
  pub one_found : find_record p w.records ≡ Some one
  pub other_found : find_record q w.records ≡ Some other
  pub request : Request
  pub one_asks : recorded_request w one ≡ Some (Gives request)
  pub other_asks : recorded_request w other ≡ Some (Gives request)
  pub one_result : JobResult
  pub other_result : JobResult
  pub one_has : has p one_result
  pub other_has : has q other_result
  pub differ : one_result ≢ other_result

-- two jobs, in order of their numbers, have equal requests and different recorded results
abbrev pub Disagree : World → (p q : ℕ) → Type 0
Disagree w = DisagreeBy (HasResult w) w

-- a pair of numbers is not after another: by the first, then by the second
abbrev pub IsNotAfter : ℕ × ℕ → ℕ × ℕ → Type 0
IsNotAfter p q = (p.0 < q.0) ⊎ ((p.0 ≡ q.0) × (p.1 ≤ q.1))

-- the least two jobs that disagree, and none exactly where equal requests have equal recorded results
abbrev pub IsLeastDisagreement : World → Option (ℕ × ℕ) → Type 0
IsLeastDisagreement w None = HasResultsByRequest w
IsLeastDisagreement w (Some p) = Disagree w p.0 p.1 × ((a b : ℕ) → Disagree w a b → IsNotAfter p (a, b))

-- ---- results of some jobs

-- a process that is chosen has this recorded result, found step by step
abbrev pub HasResultAmong : World → (chosen : ℕ → Bool) → ℕ → JobResult → Type 0
HasResultAmong w chosen pid x = (chosen pid ≡ true) × (result_of w pid ≡ Some x)

-- the least two jobs among those chosen that disagree, and none exactly where no two disagree
abbrev pub IsLeastAmong : World → (chosen : ℕ → Bool) → Option (ℕ × ℕ) → Type 0
IsLeastAmong w chosen None = (p q : ℕ) → ¬ DisagreeBy (HasResultAmong w chosen) w p q
IsLeastAmong w chosen (Some p) =
    DisagreeBy (HasResultAmong w chosen) w p.0 p.1 × ((a b : ℕ) → DisagreeBy (HasResultAmong w chosen) w a b → IsNotAfter p (a, b))
