-- The sum of kept fuel is no more after an end.
use Rattle.std.proofs.Common.{◌≡◌, ℕ, suc, ◌+◌, ◌≤◌, Bool, true, false, List, [], ◌∷◌, refl, sym, ap, subst, ◌∙◌, arith}
use Rattle.std.specs.Prelude.{All, ◌==◌, ◌||◌, not, if◌then◌else◌}
use Rattle.std.proofs.lemmas.Bool.{eqb-true}
use Rattle.std.proofs.lemmas.List.Elements.{All-head, All-tail}
use Rattle.wc_state.specs.declared.record.ProcessRecord.{ProcessRecord}
use Rattle.wc_world.specs.Records.{at_process, has_ended}
use Rattle.wc_machine.specs.Rest.{is_awaited}
use Rattle.wc_machine.specs.Sound.{fuel_in, is_awaited_in}

-- a record keeps its number and its fuel and what it awaits, and ends
pub record IsOverLike (x y : ProcessRecord) : Type 0 where
  pub node : y.node ≡ x.node
  pub fuel : y.fuel ≡ x.fuel
  pub over : has_ended y.state ≡ true
  pub awaits : (pid : ℕ) → is_awaited y.part pid ≡ is_awaited x.part pid

counted_less : (live awaited : Bool) (fuel n m : ℕ) → n ≤ m → (if awaited then suc fuel + n else n) ≤ (if live || awaited then suc fuel + m else m)
counted_less true true fuel n m le = omega arith
counted_less true false fuel n m le = omega arith
counted_less false true fuel n m le = omega arith
counted_less false false fuel n m le = le

counted_same : (b : Bool) (fuel n m : ℕ) → n ≤ m → (if b then suc fuel + n else n) ≤ (if b then suc fuel + m else m)
counted_same true fuel n m le = omega arith
counted_same false fuel n m le = le

module _ (pid : ℕ) (f : ProcessRecord → ProcessRecord) where
  abbrev pub OverLike : ProcessRecord → Type 0
  OverLike x = x.node ≡ pid → IsOverLike x (f x)

  awaited_same : (rs : List ProcessRecord) → All OverLike rs → (q : ℕ) → is_awaited_in (at_process pid f rs) q ≡ is_awaited_in rs q
  awaited_same [] h q = refl
  awaited_same (x ∷ xs) h q = at (x.node == pid) refl (awaited_same xs (All-tail OverLike x xs h) q)
    where
      at : (b : Bool) → (x.node == pid) ≡ b → is_awaited_in (at_process pid f xs) q ≡ is_awaited_in xs q
          → (is_awaited (if b then f x else x).part q || is_awaited_in (at_process pid f xs) q) ≡ (is_awaited x.part q || is_awaited_in xs q)
      at true e more = λ i. (All-head OverLike x xs h (eqb-true x.node pid e)).awaits q i || more i
      at false e more = ap (λ (b : Bool). is_awaited x.part q || b) more

  fuel_less : (all before : List ProcessRecord) → ((q : ℕ) → is_awaited_in all q ≡ is_awaited_in before q) → (rs : List ProcessRecord) → All OverLike rs
      → fuel_in all (at_process pid f rs) ≤ fuel_in before rs
  fuel_less all before same [] h = omega arith
  fuel_less all before same (x ∷ xs) h = at (x.node == pid) refl (fuel_less all before same xs (All-tail OverLike x xs h))
    where
      at : (b : Bool) → (x.node == pid) ≡ b → fuel_in all (at_process pid f xs) ≤ fuel_in before xs
          → fuel_in all ((if b then f x else x) ∷ at_process pid f xs) ≤ fuel_in before (x ∷ xs)
      at true e more =
          let like : IsOverLike x (f x) = All-head OverLike x xs h (eqb-true x.node pid e) in
          let here : fuel_in all (f x ∷ at_process pid f xs) ≡ (if is_awaited_in before x.node then suc x.fuel + fuel_in all (at_process pid f xs) else fuel_in all (at_process pid f xs))
          = λ i. if not (like.over i) || (ap (is_awaited_in all) like.node ∙ same x.node) i then suc (like.fuel i) + fuel_in all (at_process pid f xs) else fuel_in all (at_process pid f xs) in
          subst (λ (n : ℕ). n ≤ fuel_in before (x ∷ xs)) (sym here)
          (counted_less (not (has_ended x.state)) (is_awaited_in before x.node) x.fuel (fuel_in all (at_process pid f xs)) (fuel_in before xs) more)
      at false e more =
          let here : fuel_in all (x ∷ at_process pid f xs)
          ≡ (if not (has_ended x.state) || is_awaited_in before x.node then suc x.fuel + fuel_in all (at_process pid f xs) else fuel_in all (at_process pid f xs))
          = ap (λ (b : Bool). if not (has_ended x.state) || b then suc x.fuel + fuel_in all (at_process pid f xs) else fuel_in all (at_process pid f xs)) (same x.node) in
          subst (λ (n : ℕ). n ≤ fuel_in before (x ∷ xs)) (sym here)
          (counted_same (not (has_ended x.state) || is_awaited_in before x.node) x.fuel (fuel_in all (at_process pid f xs)) (fuel_in before xs) more)

  -- the sum of kept fuel is no more after an end
  pub fuel_falls : (rs : List ProcessRecord) → All OverLike rs → fuel_in (at_process pid f rs) (at_process pid f rs) ≤ fuel_in rs rs
  fuel_falls rs h = fuel_less (at_process pid f rs) rs (awaited_same rs h) rs h
