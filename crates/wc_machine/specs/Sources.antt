-- From which calculation another takes its outcome.
use Rattle.std.specs.Prelude.{◌≡◌, ◌≢◌, ℕ, ◌<◌, pos, Bool, true, false, ◌&&◌, All, Option, Some, None}
use Rattle.std.specs.Ordering.{int_eq}
use Rattle.std.specs.List.{list_any}
use Rattle.wc_value.specs.declared.process.ProcessState.TheVariants as state
use Rattle.wc_syntax.specs.declared.definition.Definition.{Definition}
use Rattle.wc_syntax.specs.Findings.{head_of}
use Rattle.wc_syntax.specs.Printing.{printed_definition}
use Rattle.wc_state.specs.declared.record.ProcessRecord.{ProcessRecord}
use Rattle.wc_world.specs.World.{World}
use Rattle.wc_world.specs.Records.{find_record, is_calculation}
use Rattle.wc_machine.specs.Recorded.{its_definition, recorded_inputs}

-- a definition marks a status as one that no other process takes over
abbrev pub marks : Definition → ℕ → Bool
marks d status = list_any (λ c. c.invalidates && int_eq c.status.value (pos status)) (head_of d).codes

-- two calculations have equal keys: their definitions print the same text, and their inputs are equal by port and value
pub record HaveEqualKeys (w : World) (p q : ProcessRecord) : Type 0 where
  pub one : Definition
  pub other : Definition
  pub is_one : its_definition w p ≡ Some one
  pub is_other : its_definition w q ≡ Some other
  pub texts : printed_definition one ≡ printed_definition other
  pub inputs : recorded_inputs w p.node ≡ recorded_inputs w q.node

-- a calculation is a valid source for a start in a batch: it finished in an earlier one, with a status that its definition doesn't mark
pub record IsValidSource (w : World) (batch : ℕ) (q : ProcessRecord) : Type 0 where
  pub calculates : is_calculation q.kind ≡ true
  pub status : ℕ
  pub finished : q.state ≡ state.Finished status
  pub definition : Definition
  pub is_definition : its_definition w q ≡ Some definition
  pub unmarked : marks definition status ≡ false
  pub ended : 0 < q.ended
  pub earlier : q.ended < batch

-- a source that a calculation may take at a start in a batch
abbrev pub IsSourceFor : World → ℕ → ProcessRecord → ProcessRecord → Type 0
IsSourceFor w batch p q = IsValidSource w batch q × HaveEqualKeys w p q

-- the lowest of these, or none where there is none
abbrev pub IsLowestSource : World → ℕ → ProcessRecord → Option ℕ → Type 0
IsLowestSource w batch p None = All (λ q. ¬ IsSourceFor w batch p q) w.records
IsLowestSource w batch p (Some source) =
    ((q : ProcessRecord) × (find_record source w.records ≡ Some q) × IsSourceFor w batch p q)
    × All (λ q. q.node < source → ¬ IsSourceFor w batch p q) w.records

-- A calculation with caching on that has started took the lowest source, and one with caching off took none: that is the cache rule. The
-- last two parts are more than it says: what hasn't started, and what is no calculation, took none.
abbrev pub KeepsRule : World → ProcessRecord → Type 0
KeepsRule w r =
    (is_calculation r.kind ≡ true → r.caching ≡ true → r.started ≢ 0 → IsLowestSource w r.started r r.cached_from)
    × (r.caching ≡ false → r.cached_from ≡ None) × (r.started ≡ 0 → r.cached_from ≡ None) × (is_calculation r.kind ≡ false → r.cached_from ≡ None)

-- A calculation with caching on takes the lowest valid source for the batch in which it starts that has an equal key, and none where there is none
abbrev pub KeepsCacheRule : World → Type 0
KeepsCacheRule w = All (KeepsRule w) w.records
