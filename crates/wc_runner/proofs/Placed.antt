-- Directories belong to processes, which stay.
use Rattle.std.proofs.Common.{◌≡◌, ◌≢◌, ◌⊎◌, ◌+◌, inl, inr, ℕ, true, List, [], ◌∷◌, Option, Some, None, refl, sym, subst, eq-eqb}
use Rattle.std.specs.Prelude.{◌==◌, IsSome}
use Rattle.std.proofs.lemmas.Bool.{cases_Bool, eqb-true}
use Rattle.wc_value.specs.declared.process.Request.{Request}
use Rattle.wc_journal.specs.declared.journal.Journal.{Journal}
use Rattle.wc_state.specs.declared.record.ProcessRecord.{ProcessRecord}
use Rattle.wc_transport.specs.Outside.{BothTold}
use Rattle.wc_world.specs.declared.change.Change.{Change}
use Rattle.wc_world.specs.World.{World}
use Rattle.wc_world.specs.Applied.{after_change, applied, begun, changed}
use Rattle.wc_world.specs.Records.{find_record}
use Rattle.wc_world.proofs.ReachedGrown.{grows}
use Rattle.wc_machine.specs.Questions.{Need, nothing, performs}
use Rattle.wc_runner.specs.Asked.{AreOfProcesses, PlacesFor}
use Rattle.wc_runner.specs.Leaves.{IsOrTurnOf}
use Rattle.wc_runner.specs.Outside.{Outside}

-- ---- processes stay

is_there : (o : Option ProcessRecord) → IsSome o → (r : ProcessRecord) × (o ≡ Some r)
is_there None h = absurd (cc)
is_there (Some r) h = (r, refl)

still_there : (b : ℕ) (w : World) (cs : List Change) (pid : ℕ) → IsSome (find_record pid w.records) → IsSome (find_record pid (changed b w cs).records)
still_there b w [] pid h = h
still_there b w (c ∷ cs) pid h =
    let r = is_there (find_record pid w.records) h in
    let next = (grows b w c).processes pid r.0 r.1 in
    still_there b (after_change b w c) cs pid (subst IsSome (sym next.1) refl)

pub stays_there : (w : World) (cs : List Change) (pid : ℕ) → IsSome (find_record pid w.records) → IsSome (find_record pid (applied w cs).records)
stays_there w cs pid h = still_there (w.batches + 1) (begun w) cs pid h

-- each directory is still the number of a process
pub are_still : (placed : Option (ℕ → Option Request)) (w : World) (cs : List Change) → AreOfProcesses placed w → AreOfProcesses placed (applied w cs)
are_still None w cs h = tt
are_still (Some placed) w cs h = λ dir some. stays_there w cs dir (h dir some)

-- ---- a turn places at most the directory of its own process

same_or_differs : (m n : ℕ) → (m ≡ n) ⊎ (m ≢ n)
same_or_differs m n = elim (cases_Bool (m == n)) [
  | inl e ↦ inl (eqb-true m n e)
  | inr e ↦ inr (λ same. let yes : (m == n) ≡ true = eq-eqb m n same in cc (yes, e))
]

pub own_placed : (pid : ℕ) (n : Need) (old new : Option (ℕ → Option Request)) (w : World) → IsSome (find_record pid w.records)
    → BothTold (PlacesFor pid n) old new → AreOfProcesses old w → AreOfProcesses new w
own_placed pid n None None w there places h = tt
own_placed pid n None (Some q) w there places h = absurd places
own_placed pid n (Some p) None w there places h = tt
own_placed pid nothing (Some p) (Some q) w there places h = λ dir some. h dir (subst IsSome (places dir) some)
own_placed pid (performs t request) (Some p) (Some q) w there places h = λ dir some. elim (same_or_differs dir pid) [
  | inl same ↦ subst (λ (d : ℕ). IsSome (find_record d w.records)) (sym same) there
  | inr other ↦ h dir (subst IsSome (places.others dir other) some)
]

-- and so are they in what a turn of the process makes
pub turn_placed : (o : Outside) (pid : ℕ) (w v : World) (before journal : Journal) (placed : Option (ℕ → Option Request)) → AreOfProcesses placed w
    → IsOrTurnOf o pid w before v journal → AreOfProcesses placed v
turn_placed o pid w v before journal placed h (inl same) = subst (AreOfProcesses placed) (sym same.0) h
turn_placed o pid w v before journal placed h (inr t) = subst (AreOfProcesses placed) (sym t.turn.after) (are_still placed w t.turn.changes h)
