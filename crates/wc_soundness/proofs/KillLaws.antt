-- The laws of kills of processes whose calls have ended.
use Rattle.std.proofs.Common.{◌≡◌, ℕ, suc, ◌+◌, ◌≤◌, Bool, true, false, List, [], ◌∷◌, Option, Some, None, get_or, refl, sym, ap, subst, ◌∙◌, arith}
use Rattle.std.specs.Prelude.{All, ◌==◌, ◌||◌, not, if◌then◌else◌}
use Rattle.std.specs.List.{list_all}
use Rattle.std.proofs.lemmas.Bool.{and_from, eq-eqb}
use Rattle.std.proofs.lemmas.List.Elements.{All-cons, All-head, All-nil, All-tail}
use Rattle.wc_value.specs.declared.process.ProcessState.{ProcessState}
use Rattle.wc_value.specs.declared.process.ProcessState.TheVariants as state
use Rattle.wc_syntax.specs.declared.definition.Chain.{Chain}
use Rattle.wc_syntax.specs.declared.definition.Definition.{Definition}
use Rattle.wc_syntax.specs.declared.definition.Definition.TheVariants as definition
use Rattle.wc_state.specs.declared.record.Await.{Await}
use Rattle.wc_state.specs.declared.record.Checkpoint.{Checkpoint}
use Rattle.wc_state.specs.declared.record.Part.{Part}
use Rattle.wc_state.specs.declared.record.Part.TheVariants as part
use Rattle.wc_state.specs.declared.record.ProcessKind.{ProcessKind}
use Rattle.wc_state.specs.declared.record.ProcessKind.TheVariants as kind
use Rattle.wc_state.specs.declared.record.ProcessRecord.{ProcessRecord}
use Rattle.wc_world.specs.World.{World}
use Rattle.wc_world.specs.Consistent.{Stands}
use Rattle.wc_world.specs.Fits.{is_nil, is_of_kind, part_fits}
use Rattle.wc_world.specs.Records.{has_ended, is_call_from}
use Rattle.wc_world.proofs.FoundRecords.{found_holds}
use Rattle.wc_machine.specs.Calls.{fuel_of}
use Rattle.wc_machine.specs.Kills.{awaits_of}
use Rattle.wc_machine.specs.Machine.{IsLive}
use Rattle.wc_machine.specs.Readiness.{ended_at, is_over}
use Rattle.wc_machine.specs.Recorded.{its_definition}
use Rattle.wc_machine.specs.Rest.{is_awaited}
use Rattle.wc_machine.specs.Sound.{IsSound, fuel_in, is_awaited_in}
use Rattle.wc_machine.specs.Tasks.{saturated}
use Rattle.wc_soundness.specs.Replaced.{world_to}
use Rattle.wc_soundness.proofs.KillChildren.{IsCalled, IsOver, is_called}
use Rattle.wc_soundness.specs.Binding.{Waits}
use Rattle.wc_soundness.proofs.Binding.{awaited_is_called, kept_before, over_by_call}
use Rattle.wc_soundness.proofs.BindingLaw.{exact_fuel}
use Rattle.wc_soundness.proofs.Sums.{found_within, fuel_is_sum, is_one_of, kept_of, sum_of}
use Rattle.wc_soundness.specs.KillLaws.{HasEndedCalls, IsBatch, killed_fuel, SingleKillsKeepSound}
use Rattle.wc_soundness.proofs.OneKill.{killed_sound}
use Rattle.wc_soundness.proofs.WaitingKill.{waiting_killed}

chain_defined : (o : Option Definition) (k : ProcessKind) → k ≡ kind.Chain → is_of_kind k o ≡ true → (c : Chain) × (o ≡ Some (definition.Chain c))
chain_defined None k is h = absurd (cc h)
chain_defined (Some (definition.Function f)) k is h = let e : is_of_kind kind.Chain (Some (definition.Function f)) ≡ true = ap (λ (k : ProcessKind). is_of_kind k (Some (definition.Function f))) (sym is) ∙ h in absurd (cc e)
chain_defined (Some (definition.Job j)) k is h = let e : is_of_kind kind.Chain (Some (definition.Job j)) ≡ true = ap (λ (k : ProcessKind). is_of_kind k (Some (definition.Job j))) (sym is) ∙ h in absurd (cc e)
chain_defined (Some (definition.Chain c)) k is h = (c, refl)

-- a live process with a checkpoint that awaits something is a chain that waits
waiting_state : (k : ProcessKind) (s : ProcessState) (c : Checkpoint) (a : Await) (as' : List Await) → part_fits k s (part.Chain c) ≡ true → has_ended s ≡ false
    → c.awaiting ≡ a ∷ as' → (s ≡ state.Waiting) × (k ≡ kind.Chain)
waiting_state k state.Created c a as' fits live is = absurd (cc fits)
waiting_state kind.Function state.Running c a as' fits live is = absurd (cc fits)
waiting_state kind.Job state.Running c a as' fits live is = absurd (cc fits)
waiting_state kind.Chain state.Running c a as' fits live is = let e : false ≡ true = ap (λ (xs : List Await). is_nil xs) (sym is) ∙ fits in absurd (cc e)
waiting_state kind.Function state.Waiting c a as' fits live is = absurd (cc fits)
waiting_state kind.Job state.Waiting c a as' fits live is = absurd (cc fits)
waiting_state kind.Chain state.Waiting c a as' fits live is = (refl, refl)
waiting_state k (state.Finished n) c a as' fits live is = absurd (cc live)
waiting_state k (state.Excepted x) c a as' fits live is = absurd (cc live)
waiting_state k state.Killed c a as' fits live is = absurd (cc live)

module _ (w : World) (sound : IsSound w) (r : ProcessRecord) (l : IsLive w r) (ended : HasEndedCalls w r) where
  stands : Stands w r
  stands = found_holds (Stands w) r.node w.records r sound.consistent.records l.found

  over : All (λ l. is_call_from r.node l ≡ true → IsOver w l.target) w.links
  over = λ i d lt called.
      let c : IsCalled w sound r l.found (get_or w.links i d).target = is_called w sound r l.found i d lt called in
      (c.child, c.is, ended c.child c.itself c.reached)

  its_fuel : suc r.fuel ≤ fuel_in w.records w.records
  its_fuel =
      let in_it : kept_of w.records r ≤ sum_of (kept_of w.records) w.records = found_within (kept_of w.records) r.node w.records r l.found in
      let one : kept_of w.records r ≡ suc r.fuel = ap (λ (b : Bool). if not b || is_awaited_in w.records r.node then suc r.fuel else 0) l.live in
      let all : fuel_in w.records w.records ≡ sum_of (kept_of w.records) w.records = fuel_is_sum w.records w.records in
      omega arith

  -- what it awaits has ended
  awaited_over : (as' : List Await) → ((pid : ℕ) → is_one_of as' pid ≡ true → is_awaited r.part pid ≡ true) → All (λ a. IsOver w a.pid) as'
  awaited_over [] among = All-nil (λ a. IsOver w a.pid)
  awaited_over (a ∷ as') among =
      All-cons (λ a. IsOver w a.pid) a as'
      (over_by_call w r.node a.pid over (awaited_is_called w sound r r.part stands.standing a.pid (among a.pid (first_is a as'))))
      (awaited_over as' (λ pid h. among pid (or_true (a.pid == pid) (is_one_of as' pid) h)))
    where
      or_true : (x y : Bool) → y ≡ true → (x || y) ≡ true
      or_true true y h = refl
      or_true false y h = h

      first_is : (a : Await) (as' : List Await) → is_one_of (a ∷ as') a.pid ≡ true
      first_is a as' = ap (λ (b : Bool). b || is_one_of as' a.pid) (eq-eqb a.pid a.pid refl)

  all_through : (as' : List Await) → All (λ a. IsOver w a.pid) as' → list_all (λ a. ended_at w.records a.pid) as' ≡ true
  all_through [] h = refl
  all_through (a ∷ as') h =
      let o : IsOver w a.pid = All-head (λ a. IsOver w a.pid) a as' h in
      and_from (ended_at w.records a.pid) (list_all (λ b. ended_at w.records b.pid) as') (ap is_over o.1 ∙ o.2) (all_through as' (All-tail (λ a. IsOver w a.pid) a as' h))

  -- it awaits nothing, or is a chain that waits
  data Awaits : Type 0 where
    nothing : ((pid : ℕ) → is_awaited r.part pid ≡ false) → awaits_of r.part ≡ [] → Awaits
    children : (k : Chain) (c : Checkpoint) → Waits w r k c → Awaits

  awaits : Awaits
  awaits = at r.part refl
    where
      by_list : (c : Checkpoint) → r.part ≡ part.Chain c → (as' : List Await) → c.awaiting ≡ as' → Awaits
      by_list c is [] none =
          nothing (λ pid. ap (λ (p : Part). is_awaited p pid) is ∙ ap (λ (xs : List Await). is_one_of xs pid) none) (ap awaits_of is ∙ none)
      by_list c is (a ∷ as') some =
          let waits = waiting_state r.kind r.state c a as' (ap (part_fits r.kind r.state) (sym is) ∙ stands.part) l.live some in
          let d = chain_defined (its_definition w r) r.kind waits.1 stands.defined in
          children d.0 c (record {
            found = l.found;
            definition = d.1;
            state = waits.0;
            part = is;
            through = all_through c.awaiting (awaited_over c.awaiting (λ pid h. ap (λ (p : Part). is_awaited p pid) is ∙ h));
          })

      at : (p : Part) → r.part ≡ p → Awaits
      at part.Fresh is = nothing (λ pid. ap (λ (p : Part). is_awaited p pid) is) (ap awaits_of is)
      at (part.Chain c) is = by_list c is c.awaiting refl
      at (part.Job j) is = nothing (λ pid. ap (λ (p : Part). is_awaited p pid) is) (ap awaits_of is)
      at part.Over is = nothing (λ pid. ap (λ (p : Part). is_awaited p pid) is) (ap awaits_of is)

  module _ (batch : ℕ) (b : IsBatch w batch) where
    pub single : IsSound (world_to w batch r state.Killed (killed_fuel w r) part.Over)
    single = by awaits
      where
        by : Awaits → IsSound (world_to w batch r state.Killed (killed_fuel w r) part.Over)
        by (nothing none empty) =
            let sum : r.fuel + fuel_of w.records (awaits_of r.part) ≡ r.fuel = let z : fuel_of w.records (awaits_of r.part) ≡ 0 = ap (fuel_of w.records) empty in omega arith in
            let exact : killed_fuel w r ≡ r.fuel = ap saturated sum ∙ exact_fuel w sound r.fuel its_fuel in
            subst (λ (n : ℕ). IsSound (world_to w batch r state.Killed n part.Over)) (sym exact)
            (killed_sound w sound r l.found l.live over none batch b.first b.later b.few)
        by (children k c h) =
            let same : r.fuel + fuel_of w.records (awaits_of r.part) ≡ r.fuel + fuel_of w.records c.awaiting = ap (λ (p : Part). r.fuel + fuel_of w.records (awaits_of p)) h.part in
            let exact : killed_fuel w r ≡ r.fuel + fuel_of w.records c.awaiting =
            ap saturated same ∙ exact_fuel w sound (r.fuel + fuel_of w.records c.awaiting) (kept_before w sound r k c h batch b.first b.later b.few) in
            subst (λ (n : ℕ). IsSound (world_to w batch r state.Killed n part.Over)) (sym exact) (waiting_killed w sound r k c h batch b.first b.later b.few)

pub single_kills_keep_sound : SingleKillsKeepSound
single_kills_keep_sound w batch r sound l ended b = single w sound r l ended batch b
