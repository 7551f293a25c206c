-- Where a ready calculation stands.
use Rattle.std.proofs.Common.{◌≡◌, ℕ, ◌≤◌, Bool, true, false, Some, None, refl, sym, ap, ◌∙◌, arith}
use Rattle.std.specs.Prelude.{not, ◌==◌, ◌&&◌, ◌||◌, nat_lt}
use Rattle.std.proofs.lemmas.Bool.{ltb-true}
use Rattle.wc_value.specs.declared.process.ProcessState.{ProcessState}
use Rattle.wc_value.specs.declared.process.ProcessState.TheVariants as state
use Rattle.wc_state.specs.declared.record.JobPart.{JobPart}
use Rattle.wc_state.specs.declared.record.Part.{Part}
use Rattle.wc_state.specs.declared.record.Part.TheVariants as part
use Rattle.wc_state.specs.declared.record.ProcessKind.{ProcessKind}
use Rattle.wc_state.specs.declared.record.ProcessKind.TheVariants as kind
use Rattle.wc_state.specs.declared.record.ProcessRecord.{ProcessRecord}
use Rattle.wc_world.specs.World.{World}
use Rattle.wc_world.specs.Consistent.{IsConsistent, Stands}
use Rattle.wc_world.specs.Fits.{fails_fit, part_fits}
use Rattle.wc_world.specs.Records.{find_record, is_calculation}
use Rattle.wc_world.proofs.FoundRecords.{found_holds, left, right}
use Rattle.wc_cache.specs.CalculationLaws.{MayStart}
use Rattle.wc_machine.specs.declared.answer.TaskAnswer.{TaskAnswer}
use Rattle.wc_machine.specs.declared.answer.TaskAnswer.TheVariants as answer
use Rattle.wc_machine.specs.Questions.{fits, is_nothing, need, need_at}
use Rattle.wc_machine.specs.Readiness.{is_ready, may_go}
use Rattle.wc_machine.specs.Recorded.{recorded_request}
use Rattle.wc_calculation_turns.specs.Waits.{MayGoOn, task_of}

-- ---- states

-- a calculation that may go on and waits for no task is created
is_created : (w : World) (now : ℕ) (k : ProcessKind) (s : ProcessState) (p : Part) → is_calculation k ≡ true → task_of p ≡ None → part_fits k s p ≡ true
    → may_go w now s p ≡ true → s ≡ state.Created
is_created w now k state.Created p calculates none fits goes = refl
is_created w now kind.Function state.Running p calculates none fits goes = absurd (cc)
is_created w now kind.Job state.Running p calculates none fits goes = absurd (cc)
is_created w now kind.Chain state.Running p calculates none fits goes = absurd (cc)
is_created w now kind.Function state.Waiting p calculates none fits goes = absurd (cc)
is_created w now kind.Job state.Waiting part.Fresh calculates none fits goes = absurd (cc)
is_created w now kind.Job state.Waiting (part.Chain c) calculates none fits goes = absurd (cc)
is_created w now kind.Job state.Waiting (part.Job j) calculates none fits goes = absurd (cc)
is_created w now kind.Job state.Waiting part.Over calculates none fits goes = absurd (cc)
is_created w now kind.Chain state.Waiting p calculates none fits goes = absurd (cc)
is_created w now k (state.Finished n) p calculates none fits goes = absurd (cc)
is_created w now k (state.Excepted e) p calculates none fits goes = absurd (cc)
is_created w now k state.Killed p calculates none fits goes = absurd (cc)

-- ---- failures

first_holds : (a b : Bool) → a || (b && false) ≡ true → a ≡ true
first_holds true b h = refl
first_holds false true h = absurd (cc)
first_holds false false h = absurd (cc)

isnt_paused : (b : Bool) → not b ≡ true → b ≡ false
isnt_paused true h = absurd (cc)
isnt_paused false h = refl

few_failures : (p : JobPart) (paused : Bool) → paused ≡ false → fails_fit (part.Job p) paused ≡ true → p.fails ≤ 4
few_failures p true e h = absurd (cc)
few_failures p false e h = let below = ltb-true p.fails 5 (first_holds (nat_lt p.fails 5) (p.fails == 5) h) in omega arith

fails_of : (p : JobPart) (x : Part) (paused : Bool) → task_of x ≡ Some p → fails_fit x paused ≡ true → fails_fit (part.Job p) paused ≡ true
fails_of p part.Fresh paused e h = absurd (cc)
fails_of p (part.Chain c) paused e h = absurd (cc)
fails_of p (part.Job q) paused e h = let same : q ≡ p = cc in ap (λ (x : JobPart). fails_fit (part.Job x) paused) (sym same) ∙ h
fails_of p part.Over paused e h = absurd (cc)

-- ---- ready calculations

module _ (w : World) (now : ℕ) (r : ProcessRecord) (consistent : IsConsistent w) (found : find_record r.node w.records ≡ Some r) (ready : is_ready w now r ≡ true) where
  stands : Stands w r
  stands = found_holds (Stands w) r.node w.records r consistent.records found

  pub starts : is_calculation r.kind ≡ true → task_of r.part ≡ None → MayStart w r
  starts calculates none = record {
    found = found;
    calculates = calculates;
    created = is_created w now r.kind r.state r.part calculates none stands.part (right (not r.paused) (may_go w now r.state r.part) ready);
  }

  pub goes_on : (p : JobPart) → task_of r.part ≡ Some p → MayGoOn w r p
  goes_on p is = record {
    found = found;
    waits = is;
    few = few_failures p r.paused (isnt_paused r.paused (left (not r.paused) (may_go w now r.state r.part) ready)) (fails_of p r.part r.paused is stands.fails);
  }

-- ---- answers

pub quiet : (a : TaskAnswer) → is_nothing a ≡ true → a ≡ answer.Nothing
quiet answer.Nothing h = refl
quiet answer.Failed h = absurd (cc)
quiet answer.Done h = absurd (cc)
quiet answer.Running h = absurd (cc)
quiet (answer.Result x) h = absurd (cc)

-- a process that is created gets no answer
pub asks_nothing : (w : World) (r : ProcessRecord) (a : TaskAnswer) → r.state ≡ state.Created → fits (need w r) a ≡ true → a ≡ answer.Nothing
asks_nothing w r a created h =
    quiet a (ap (λ (s : ProcessState). fits (need_at s r.part (recorded_request w r)) a) (sym created) ∙ h)
