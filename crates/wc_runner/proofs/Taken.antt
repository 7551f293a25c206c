-- What is counted while turns and rests are taken.
use Rattle.std.proofs.Common.{◌≡◌, ◌⊎◌, inl, inr, ℕ, suc, ◌+◌, ◌-◌, ◌^◌, ◌<◌, ◌≤◌, true, Option, Some, None, Result, Ok, Err, refl, ap, subst, ◌∙◌, arith}
use Rattle.std.specs.Prelude.{IfSome}
use Rattle.std.proofs.lemmas.Bool.{cases_lt}
use Rattle.wc_io.specs.Counts.{Rises, RisesByOne}
use Rattle.wc_state.specs.declared.record.ProcessRecord.{ProcessRecord}
use Rattle.wc_transport.specs.declared.transport.Transport as transport
use Rattle.wc_world.specs.World.{World}
use Rattle.wc_world.specs.Records.{find_record}
use Rattle.wc_machine.specs.Questions.{Need, nothing, performs, need}
use Rattle.wc_machine.specs.Readiness.{is_ready}
use Rattle.wc_core.specs.Ready.{is_ready_at, is_ready_by}
use Rattle.wc_runner.specs.Asked.{AsksOnce, CountsAsking, IsAsked, IsAskedFor, WhatItNeeds}
use Rattle.wc_runner.specs.Runs.{RisesBy}
use Rattle.wc_runner.specs.declared.error.RunError.{RunError}
use Rattle.wc_runner.specs.declared.error.RunError.TheVariants.{DiskFault, Full, OutOfMemory}

-- ---- what a ready process needs

-- a process that is ready is there
pub ready_there : (w : World) (pid now : ℕ) → is_ready_at w pid now ≡ true → (r : ProcessRecord) × (find_record pid w.records ≡ Some r) × (is_ready w now r ≡ true)
ready_there w pid now h = at (find_record pid w.records) h
  where
    at : (o : Option ProcessRecord) → is_ready_by w now o ≡ true → (r : ProcessRecord) × (o ≡ Some r) × (is_ready w now r ≡ true)
    at None k = absurd (cc)
    at (Some r) k = (r, refl, k)

pub what_it_needs : (w : World) (pid : ℕ) (P : Need → Type 0) (r : ProcessRecord) → find_record pid w.records ≡ Some r → WhatItNeeds w pid P → P (need w r)
what_it_needs w pid P r found h = subst (λ (o : Option ProcessRecord). IfSome o (λ x. P (need w x))) found h

-- ---- counts

pub rises_by_none : (n : ℕ) → RisesBy 0 n n
rises_by_none n = record { later = omega arith; by_each = λ less. omega arith }

pub rises_by_more : (k old mid new : ℕ) → RisesBy k old mid → RisesByOne mid new → RisesBy (suc k) old new
rises_by_more k old mid new first one = record {
  later = omega (arith, first.later, one.later);
  by_each = λ less.
      let so_far : mid ≡ old + k = first.by_each (omega arith) in
      let next : new ≡ mid + 1 = one.by_one (omega arith) in
      omega arith;
}

asked_more : {A T : Type 0} (result : Result A RunError) (asked : T → ℕ) (old new : T) (n : Need) → AsksOnce result asked old new n
    → (asked old ≤ asked new) × (asked old + 1 < 2 ^ 64 → asked new ≤ asked old + 1)
asked_more {A} result asked old new nothing h = let same : asked new ≡ asked old = ap asked h in (omega arith, λ less. omega arith)
asked_more {A} result asked old new (performs t q) h = at result h
  where
    once : RisesByOne (asked old) (asked new) → (asked old ≤ asked new) × (asked old + 1 < 2 ^ 64 → asked new ≤ asked old + 1)
    once k = (k.later, λ less. let by : asked new ≡ asked old + 1 = k.by_one (omega arith) in omega arith)

    at : (r : Result A RunError) → CountsAsking r (asked old) (asked new) → (asked old ≤ asked new) × (asked old + 1 < 2 ^ 64 → asked new ≤ asked old + 1)
    at (Ok a) k = once k
    at (Err DiskFault) k = once k
    at (Err (Full what count limit)) k = once k
    at (Err OutOfMemory) (inl same) = (omega (arith, same), λ less. omega (arith, same))
    at (Err OutOfMemory) (inr k) = once k

module _ {T : Type 0} (g : transport.Ghosts T) where
  pub asked_none : (t : T) → IsAskedFor g 0 t t
  asked_none t = record {
    later = omega arith;
    few = λ less. omega arith;
    table = refl;
    finished = λ dir h. h;
    tells_finished = refl;
    faults = omega arith;
  }

  pub asked_on : {A : Type 0} (result : Result A RunError) (pid most : ℕ) (n : Need) (old mid new : T) → IsAskedFor g most old mid → IsAsked g pid n mid new
      → AsksOnce result g.asked mid new n → IsAskedFor g (suc most) old new
  asked_on result pid most n old mid new first next once =
      let more = asked_more result g.asked mid new n once in
      record {
        later = omega (arith, first.later, more.0);
        few = λ less.
            let so_far : g.asked mid ≤ g.asked old + most = first.few (omega arith) in
            let one : g.asked new ≤ g.asked mid + 1 = more.1 (omega arith) in
            omega arith;
        table = next.table ∙ first.table;
        finished = λ dir h. next.finished dir (first.finished dir h);
        tells_finished = next.tells_finished ∙ first.tells_finished;
        faults = not_fallen next.faults;
      }
    where
      not_fallen : (g.faults new ≡ g.faults mid) ⊎ RisesByOne (g.faults mid) (g.faults new) → g.faults old ≤ g.faults new
      not_fallen (inl same) = omega (arith, first.faults, same)
      not_fallen (inr rises) = omega (arith, first.faults, rises.later)

  pub asked_up_to : (few most : ℕ) (old new : T) → few ≤ most → IsAskedFor g few old new → IsAskedFor g most old new
  asked_up_to few most old new le h = record {
    later = h.later;
    few = λ less. let so : g.asked new ≤ g.asked old + few = h.few (omega arith) in omega arith;
    table = h.table;
    finished = h.finished;
    tells_finished = h.tells_finished;
    faults = h.faults;
  }

-- a count that rose up to one moment rose up to a later one
pub risen_on : (old mid new : ℕ) → Rises old mid → mid ≤ new → Rises old new
risen_on old mid new r le = record { later = omega (arith, r.later); risen = λ less. let up : old < mid = r.risen less in omega arith }

-- and one that rose by one since a later moment rose since an earlier one
pub risen_since : (old mid new : ℕ) → old ≤ mid → RisesByOne mid new → Rises old new
risen_since old mid new le r = record {
  later = omega (arith, r.later);
  risen = λ less.
      elim (cases_lt mid (2 ^ 64 - 1)) [
        | inl low ↦ let up : new ≡ mid + 1 = r.by_one low in omega arith
        | inr high ↦ let up : mid ≤ new = r.later in omega arith
      ];
}
