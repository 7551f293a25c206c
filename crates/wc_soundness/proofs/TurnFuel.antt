-- The kept fuel of a world in which one live process gets at most 1 more.
use Rattle.std.proofs.Common.{◌≡◌, ℕ, suc, ◌+◌, ◌≤◌, Bool, true, false, List, [], ◌∷◌, Some, get_or, length, refl, sym, ap, subst, ◌∙◌, arith}
use Rattle.std.specs.Prelude.{All, ◌==◌, ◌||◌, not, if◌then◌else◌}
use Rattle.std.proofs.lemmas.Bool.{eqb-true}
use Rattle.std.proofs.lemmas.List.Elements.{All-head, All-tail}
use Rattle.wc_state.specs.declared.record.ProcessRecord.{ProcessRecord}
use Rattle.wc_world.specs.World.{World}
use Rattle.wc_world.specs.Records.{at_process, find_record, has_ended}
use Rattle.wc_world.proofs.ReachedLists.{all_found, unique}
use Rattle.wc_machine.specs.Rest.{is_awaited}
use Rattle.wc_machine.specs.Sound.{IsSound, fuel_in, is_awaited_in}
use Rattle.wc_soundness.proofs.Sums.{fuel_is_sum, kept_of, only, only_once, sum_of, sums_below}

-- a record keeps its number and whether it lives, awaits the same, and has at most 1 more fuel
pub record IsNear (x y : ProcessRecord) : Type 0 where
  pub node : y.node ≡ x.node
  pub over : has_ended y.state ≡ has_ended x.state
  pub awaits : (pid : ℕ) → is_awaited y.part pid ≡ is_awaited x.part pid
  pub fuel : y.fuel ≤ x.fuel + 1

module _ (pid : ℕ) (f : ProcessRecord → ProcessRecord) where
  abbrev Near : ProcessRecord → Type 0
  Near x = x.node ≡ pid → IsNear x (f x)

  abbrev then_is : ProcessRecord → ProcessRecord
  then_is x = if x.node == pid then f x else x

  awaited_same : (rs : List ProcessRecord) → All Near rs → (q : ℕ) → is_awaited_in (at_process pid f rs) q ≡ is_awaited_in rs q
  awaited_same [] h q = refl
  awaited_same (x ∷ xs) h q = at (x.node == pid) refl (awaited_same xs (All-tail Near x xs h) q)
    where
      at : (b : Bool) → (x.node == pid) ≡ b → is_awaited_in (at_process pid f xs) q ≡ is_awaited_in xs q
          → (is_awaited (if b then f x else x).part q || is_awaited_in (at_process pid f xs) q) ≡ (is_awaited x.part q || is_awaited_in xs q)
      at true e more = λ i. (All-head Near x xs h (eqb-true x.node pid e)).awaits q i || more i
      at false e more = ap (λ (b : Bool). is_awaited x.part q || b) more

  -- what is kept of a record grows by at most 1, and only that of the process
  kept_near : (all before : List ProcessRecord) → ((q : ℕ) → is_awaited_in all q ≡ is_awaited_in before q) → (x : ProcessRecord) → Near x
      → kept_of all (then_is x) + 0 ≤ kept_of before x + only pid 1 x
  kept_near all before same x near = at (x.node == pid) refl
    where
      with_fuel : (b : Bool) (n m : ℕ) → n ≤ m + 1 → (if b then suc n else 0) + 0 ≤ (if b then suc m else 0) + 1
      with_fuel true n m le = omega (arith, le)
      with_fuel false n m le = omega arith

      less : (n : ℕ) → n + 0 ≤ n + 0
      less n = omega arith

      at : (b : Bool) → (x.node == pid) ≡ b → kept_of all (if b then f x else x) + 0 ≤ kept_of before x + (if b then 1 else 0)
      at true e =
          let y : IsNear x (f x) = near (eqb-true x.node pid e) in
          let test : (not (has_ended (f x).state) || is_awaited_in all (f x).node) ≡ (not (has_ended x.state) || is_awaited_in before x.node)
          = λ i. not (y.over i) || (ap (is_awaited_in all) y.node ∙ same x.node) i in
          subst (λ (b : Bool). (if b then suc (f x).fuel else 0) + 0 ≤ kept_of before x + 1) (sym test)
          (with_fuel (not (has_ended x.state) || is_awaited_in before x.node) (f x).fuel x.fuel y.fuel)
      at false e =
          subst (λ (b : Bool). (if not (has_ended x.state) || b then suc x.fuel else 0) + 0 ≤ kept_of before x + 0) (sym (same x.node)) (less (kept_of before x))

  fuel_near : (rs : List ProcessRecord) → All Near rs → sum_of (only pid 1) rs ≤ 1 → fuel_in (at_process pid f rs) (at_process pid f rs) ≤ fuel_in rs rs + 1
  fuel_near rs near once =
      let new = at_process pid f rs in
      let below : sum_of (kept_of new) new + sum_of (λ x. 0) rs ≤ sum_of (kept_of rs) rs + sum_of (only pid 1) rs =
      sums_below then_is (kept_of new) (kept_of rs) (λ x. 0) (only pid 1) rs (λ i d lt. kept_near new rs (awaited_same rs near) (get_or rs i d) (near i d lt)) in
      let one : fuel_in new new ≡ sum_of (kept_of new) new = fuel_is_sum new new in
      let two : fuel_in rs rs ≡ sum_of (kept_of rs) rs = fuel_is_sum rs rs in
      omega (arith, below, one, two, once)

-- the sum of a sound world stays within its bound, since a batch comes with the change
pub fuel_within : (w : World) → IsSound w → (r : ProcessRecord) → find_record r.node w.records ≡ Some r → (f : ProcessRecord → ProcessRecord) → IsNear r (f r)
    → fuel_in (at_process r.node f w.records) (at_process r.node f w.records) ≤ w.batches + 1 + length w.nodes
fuel_within w sound r found f near =
    let u = unique 1 w.nodes w.records sound.consistent.numbered in
    let le = fuel_near r.node f w.records (all_found (λ x. IsNear x (f x)) r.node w.records r u found near) (only_once 1 w.nodes w.records sound.consistent.numbered r.node 1) in
    let bound : fuel_in w.records w.records ≤ w.batches + length w.nodes = sound.fuel in
    omega (arith, le, bound)
