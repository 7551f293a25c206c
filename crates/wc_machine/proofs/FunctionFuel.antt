-- The fuel that is kept in a world of functions.
use Rattle.std.proofs.Common.{◌≡◌, ℕ, suc, ◌+◌, ◌≤◌, Bool, true, false, List, [], ◌∷◌, refl, sym, ap, subst, ◌∙◌, arith}
use Rattle.std.specs.Prelude.{◌==◌, ◌||◌, not, if◌then◌else◌}
use Rattle.wc_state.specs.declared.record.ProcessRecord.{ProcessRecord}
use Rattle.wc_world.specs.Records.{at_process, has_ended}
use Rattle.wc_machine.specs.Sound.{is_awaited_in, fuel_in}

-- the kept fuel of the live processes, each with 1 added
abbrev pub live_fuel : List ProcessRecord → ℕ
live_fuel [] = 0
live_fuel (r ∷ rs) = if not (has_ended r.state) then suc r.fuel + live_fuel rs else live_fuel rs

or_false : (b : Bool) → (b || false) ≡ b
or_false true = refl
or_false false = refl

-- where nothing is awaited, that is all
pub fuel_of_live : (all rs : List ProcessRecord) → ((pid : ℕ) → is_awaited_in all pid ≡ false) → fuel_in all rs ≡ live_fuel rs
fuel_of_live all [] h = refl
fuel_of_live all (r ∷ rs) h =
    let test : (not (has_ended r.state) || is_awaited_in all r.node) ≡ not (has_ended r.state) =
    ap (λ (b : Bool). not (has_ended r.state) || b) (h r.node) ∙ or_false (not (has_ended r.state)) in
    λ i. if test i then suc r.fuel + fuel_of_live all rs h i else fuel_of_live all rs h i

first_less : (b : Bool) (fuel n m : ℕ) → n ≤ m → n ≤ (if b then suc fuel + m else m)
first_less true fuel n m le = omega arith
first_less false fuel n m le = le

both_less : (b : Bool) (fuel n m : ℕ) → n ≤ m → (if b then suc fuel + n else n) ≤ (if b then suc fuel + m else m)
both_less true fuel n m le = omega arith
both_less false fuel n m le = le

-- a process that ends keeps no fuel
pub less_fuel : (pid : ℕ) (f : ProcessRecord → ProcessRecord) (rs : List ProcessRecord) → ((r : ProcessRecord) → has_ended (f r).state ≡ true)
    → live_fuel (at_process pid f rs) ≤ live_fuel rs
less_fuel pid f [] over = omega arith
less_fuel pid f (r ∷ rs) over = at (r.node == pid) (less_fuel pid f rs over)
  where
    ended : live_fuel (at_process pid f rs) ≡ live_fuel (f r ∷ at_process pid f rs)
    ended = ap (λ (b : Bool). if not b then suc (f r).fuel + live_fuel (at_process pid f rs) else live_fuel (at_process pid f rs)) (sym (over r))

    at : (b : Bool) → live_fuel (at_process pid f rs) ≤ live_fuel rs → live_fuel ((if b then f r else r) ∷ at_process pid f rs) ≤ live_fuel (r ∷ rs)
    at true le =
        subst (λ (n : ℕ). n ≤ live_fuel (r ∷ rs)) ended (first_less (not (has_ended r.state)) r.fuel (live_fuel (at_process pid f rs)) (live_fuel rs) le)
    at false le = both_less (not (has_ended r.state)) r.fuel (live_fuel (at_process pid f rs)) (live_fuel rs) le
