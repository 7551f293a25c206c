-- The fuel of a killed process is that which is recorded after the kill of those that it awaited.
use Rattle.std.proofs.Common.{◌≡◌, ℕ, zero, suc, ◌+◌, ◌≤◌, Bool, true, false, List, [], ◌∷◌, Option, Some, map, refl, sym, ap, subst, ◌∙◌, arith}
use Rattle.std.specs.Prelude.{All, ◌==◌, if◌then◌else◌, option_map, slice_get}
use Rattle.std.proofs.lemmas.Bool.{cond-false, cond-true, eq-eqb, eqb-true}
use Rattle.std.proofs.lemmas.List.Elements.{All-head, All-tail}
use Rattle.wc_value.specs.declared.process.ProcessState.TheVariants as state
use Rattle.wc_state.specs.declared.record.Await.{Await}
use Rattle.wc_state.specs.declared.record.Part.TheVariants as part
use Rattle.wc_state.specs.declared.record.ProcessRecord.{ProcessRecord}
use Rattle.wc_world.specs.World.{World}
use Rattle.wc_world.specs.declared.change.Change.{Change}
use Rattle.wc_world.specs.Applied.{after_change, applied, begun, changed, set}
use Rattle.wc_world.specs.Records.{find_record, has_called, has_ended}
use Rattle.wc_world.proofs.After.{find_at}
use Rattle.wc_machine.specs.Calls.{fuel_at, fuel_of}
use Rattle.wc_machine.specs.Kills.{awaited_fuel, awaits_of, fuel_after, kill_changes}
use Rattle.wc_machine.specs.Machine.{IsLive}
use Rattle.wc_machine.specs.Sound.{IsSound}
use Rattle.wc_machine.specs.Tasks.{saturated}
use Rattle.wc_soundness.specs.Replaced.{set_to}
use Rattle.wc_soundness.proofs.KillLists.{IsKid, fuel_enough, its_awaited, kid_of, low}
use Rattle.wc_soundness.proofs.Replaced.{one_record}
use Rattle.wc_soundness.specs.Killed.{IsAtOrBelow, IsKilledWith, KillsEach, called, its_kill}
use Rattle.wc_soundness.specs.ListLaws.{KilledFuelIsKept}
use Rattle.wc_soundness.proofs.KilledOnce.{kills_set_each_once}

-- ---- Sets one after another

module _ (w : World) (batch : ℕ) where
  -- the record that the kill of a process leaves
  abbrev left : ProcessRecord → ProcessRecord → ProcessRecord
  left x = set batch (set_to x state.Killed (fuel_after 16 w (Some x)) part.Over)

  after_one : (v : World) (x : ProcessRecord) (q : ℕ)
      → find_record q (after_change batch v (its_kill w x)).records ≡ (if x.node == q then option_map (left x) (find_record q v.records) else find_record q v.records)
  after_one v x q = find_at x.node q (left x) v.records (λ z. refl)

  -- its record is that of a killed process, with the fuel after the kill
  abbrev IsKilled : World → ProcessRecord → Type 0
  IsKilled v x = (z : ProcessRecord) × (find_record x.node v.records ≡ Some z) × (z.state ≡ state.Killed) × (z.fuel ≡ fuel_after 16 w (Some x))

  same_live : (x y : ProcessRecord) → IsLive w x → find_record y.node w.records ≡ Some y → (x.node == y.node) ≡ true → x ≡ y
  same_live x y l found same =
      one_record (find_record y.node w.records) x y (ap (λ (n : ℕ). find_record n w.records) (sym (eqb-true x.node y.node same)) ∙ l.found) found

  -- the Set of one process, where it is this one
  sets : (v : World) (x : ProcessRecord) (o : Option ProcessRecord) (z : ProcessRecord) → find_record x.node v.records ≡ o → o ≡ Some z → (y : ProcessRecord) → y ≡ x → (y.node == x.node) ≡ true
      → IsKilled (after_change batch v (its_kill w y)) x
  sets v x o z is some y same test = (
    left y z,
    after_one v y x.node ∙ cond-true (y.node == x.node) (option_map (left y) (find_record x.node v.records)) (find_record x.node v.records) test ∙ ap (option_map (left y)) (is ∙ some),
    refl,
    ap (λ (u : ProcessRecord). fuel_after 16 w (Some u)) same,
  )

  -- what is killed stays so
  stays_one : (v : World) (x y : ProcessRecord) → IsLive w x → IsLive w y → IsKilled v x → IsKilled (after_change batch v (its_kill w y)) x
  stays_one v x y l m k = by (y.node == x.node) refl
    where
      by : (b : Bool) → (y.node == x.node) ≡ b → IsKilled (after_change batch v (its_kill w y)) x
      by true e = sets v x (Some k.0) k.0 k.1 refl y (same_live y x m l.found e) e
      by false e = (
        k.0,
        after_one v y x.node ∙ cond-false (y.node == x.node) (option_map (left y) (find_record x.node v.records)) (find_record x.node v.records) e ∙ k.1,
        k.2,
        k.3,
      )

  abbrev AllLive : List ProcessRecord → Type 0
  AllLive xs = (i : ℕ) (y : ProcessRecord) → slice_get xs i ≡ Some y → IsLive w y

  stays : (v : World) (xs : List ProcessRecord) (x : ProcessRecord) → AllLive xs → IsLive w x → IsKilled v x → IsKilled (changed batch v (map (its_kill w) xs)) x
  stays v [] x lives l k = k
  stays v (y ∷ ys) x lives l k = stays (after_change batch v (its_kill w y)) ys x (λ i. lives (suc i)) l (stays_one v x y l (lives 0 y refl) k)

  -- it is recorded
  abbrev IsThere : World → ProcessRecord → Type 0
  IsThere v x = (z : ProcessRecord) × (find_record x.node v.records ≡ Some z)

  there_one : (v : World) (x y : ProcessRecord) → IsThere v x → IsThere (after_change batch v (its_kill w y)) x
  there_one v x y t = by (y.node == x.node) refl
    where
      by : (b : Bool) → (y.node == x.node) ≡ b → IsThere (after_change batch v (its_kill w y)) x
      by true e = (
        left y t.0,
        after_one v y x.node ∙ cond-true (y.node == x.node) (option_map (left y) (find_record x.node v.records)) (find_record x.node v.records) e ∙ ap (option_map (left y)) t.1,
      )
      by false e = (
        t.0,
        after_one v y x.node ∙ cond-false (y.node == x.node) (option_map (left y) (find_record x.node v.records)) (find_record x.node v.records) e ∙ t.1,
      )

  same_some : (a b : ProcessRecord) → Some a ≡ Some b → a ≡ b
  same_some a b e = cc

  -- each one of the list is killed
  kills_all : (v : World) (xs : List ProcessRecord) (x : ProcessRecord) → AllLive xs → IsLive w x → IsThere v x → (i : ℕ) → slice_get xs i ≡ Some x
      → IsKilled (changed batch v (map (its_kill w) xs)) x
  kills_all v [] x lives l t i e = absurd (cc e)
  kills_all v (y ∷ ys) x lives l t zero e =
      let same : y ≡ x = same_some y x e in
      let test : (y.node == x.node) ≡ true = eq-eqb y.node x.node (ap (λ (z : ProcessRecord). z.node) same) in
      stays (after_change batch v (its_kill w y)) ys x (λ i. lives (suc i)) l (sets v x (Some t.0) t.0 t.1 refl y same test)
  kills_all v (y ∷ ys) x lives l t (suc i) e =
      kills_all (after_change batch v (its_kill w y)) ys x (λ j. lives (suc j)) l (there_one v x y t) i e

  -- what has ended keeps its record
  keeps_ended : (v : World) (xs : List ProcessRecord) (q : ProcessRecord) → AllLive xs → find_record q.node w.records ≡ Some q → has_ended q.state ≡ true
      → find_record q.node (changed batch v (map (its_kill w) xs)).records ≡ find_record q.node v.records
  keeps_ended v [] q lives found over = refl
  keeps_ended v (y ∷ ys) q lives found over =
      keeps_ended (after_change batch v (its_kill w y)) ys q (λ j. lives (suc j)) found over
      ∙ after_one v y q.node
      ∙ by (y.node == q.node) refl
    where
      by : (b : Bool) → (y.node == q.node) ≡ b → (if b then option_map (left y) (find_record q.node v.records) else find_record q.node v.records) ≡ find_record q.node v.records
      by true e =
          let same : y ≡ q = same_live y q (lives 0 y refl) found e in
          let live : has_ended y.state ≡ false = (lives 0 y refl).live in
          let dead : has_ended y.state ≡ true = ap (λ (z : ProcessRecord). has_ended z.state) same ∙ over in
          absurd (cc (live, dead))
      by false e = refl

-- ---- the kill

module _ (w : World) (r : ProcessRecord) (sound : IsSound w) (l : IsLive w r) where
  abbrev after : World
  after = applied w (kill_changes w r)

  abbrev xs : List ProcessRecord
  xs = (kills_set_each_once w r sound l).0

  each : KillsEach w r xs
  each = (kills_set_each_once w r sound l).1

  lives : AllLive w (w.batches + 1) xs
  lives i y e = (each.live i y e).0

  is_after : after ≡ changed (w.batches + 1) (begun w) (map (its_kill w) xs)
  is_after = ap (λ (cs : List Change). applied w cs) each.changes

  is_killed : (x : ProcessRecord) → IsLive w x → IsAtOrBelow w r x → IsKilled w (w.batches + 1) after x
  is_killed x m b =
      let at = each.each x m b in
      subst (λ (v : World). IsKilled w (w.batches + 1) v x) (sym is_after) (kills_all w (w.batches + 1) (begun w) xs x lives m (x, m.found) at.0 at.1)

  is_kept : (q : ProcessRecord) → find_record q.node w.records ≡ Some q → has_ended q.state ≡ true → find_record q.node after.records ≡ Some q
  is_kept q found over =
      ap (λ (v : World). find_record q.node v.records) is_after ∙ keeps_ended w (w.batches + 1) (begun w) xs q lives found over ∙ found

  module _ (x : ProcessRecord) (m : IsLive w x) (b : IsAtOrBelow w r x) where
    -- a process that it awaited has the fuel after the kill
    one_fuel : (pid : ℕ) → has_called w.links x.node pid ≡ true → fuel_after 15 w (find_record pid w.records) ≡ fuel_at (find_record pid after.records)
    one_fuel pid link =
        let k : IsKid w sound x pid = kid_of w sound x m.found pid link in
        let there : find_record k.child.node w.records ≡ Some k.child = ap (λ (n : ℕ). find_record n w.records) k.number ∙ k.is in
        ap (fuel_after 15 w) k.is ∙ by k there (has_ended k.child.state) refl ∙ ap (λ (n : ℕ). fuel_at (find_record n after.records)) k.number
      where
        by : (k : IsKid w sound x pid) → find_record k.child.node w.records ≡ Some k.child → (e : Bool) → has_ended k.child.state ≡ e
            → fuel_after 15 w (Some k.child) ≡ fuel_at (find_record k.child.node after.records)
        by k there true e = cond-true (has_ended k.child.state) k.child.fuel _ e ∙ ap fuel_at (sym (is_kept k.child there e))
        by k there false e =
            let deep : k.child.depth ≡ suc x.depth = k.deeper in
            let some : 1 ≤ x.depth = (low w sound x m.found).0 in
            let z = is_killed k.child (record { found = there; live = e }) (called x k.child b there (ap (has_called w.links x.node) k.number ∙ link)) in
            fuel_enough w sound 15 k.child there (omega arith) ∙ sym z.3 ∙ ap fuel_at (sym z.1)

    all_fuel : (as' : List Await) → All (λ a. has_called w.links x.node a.pid ≡ true) as' → awaited_fuel (λ pid. fuel_after 15 w (find_record pid w.records)) as' ≡ fuel_of after.records as'
    all_fuel [] h = refl
    all_fuel (a ∷ as') h =
        let one = one_fuel a.pid (All-head (λ a. has_called w.links x.node a.pid ≡ true) a as' h) in
        let rest = all_fuel as' (All-tail (λ a. has_called w.links x.node a.pid ≡ true) a as' h) in
        λ i. suc (one i) + rest i

    with_fuel : IsKilledWith after x
    with_fuel =
        let z = is_killed x m b in
        record {
          process = z.0;
          found = z.1;
          killed = z.2;
          fuel = z.3
              ∙ cond-false (has_ended x.state) x.fuel (saturated (x.fuel + awaited_fuel (λ pid. fuel_after 15 w (find_record pid w.records)) (awaits_of x.part))) m.live
              ∙ ap (λ (n : ℕ). saturated (x.fuel + n)) (all_fuel (awaits_of x.part) (its_awaited w sound x m.found));
        }

pub killed_fuel_is_kept : KilledFuelIsKept
killed_fuel_is_kept w r x sound l m b = with_fuel w r sound l x m b
