-- A process that awaits nothing keeps its fuel where it ends or goes on, and that counts no more than before.
use Rattle.std.proofs.Common.{◌≡◌, ℕ, suc, ◌+◌, ◌≤◌, Bool, true, false, List, [], ◌∷◌, refl, sym, ap, subst, ◌∙◌, arith}
use Rattle.std.specs.Prelude.{All, ◌==◌, ◌||◌, not, if◌then◌else◌}
use Rattle.std.proofs.lemmas.Bool.{eqb-true}
use Rattle.std.proofs.lemmas.List.Elements.{All-head, All-tail}
use Rattle.wc_state.specs.declared.record.ProcessRecord.{ProcessRecord}
use Rattle.wc_world.specs.Records.{at_process, has_ended}
use Rattle.wc_machine.specs.Rest.{is_awaited}
use Rattle.wc_machine.specs.Sound.{is_awaited_in, fuel_in}

-- A record that is put through a function lives before, awaits nothing before and after, and keeps its fuel.
pub record KeepsFuel (f : ProcessRecord → ProcessRecord) (x : ProcessRecord) : Type 0 where
  pub live : has_ended x.state ≡ false
  pub none : (n : ℕ) → is_awaited x.part n ≡ false
  pub still : (n : ℕ) → is_awaited (f x).part n ≡ false
  pub fuel : (f x).fuel ≡ x.fuel

module _ (pid : ℕ) (f : ProcessRecord → ProcessRecord) where
  abbrev pub AllKeepFuel : List ProcessRecord → Type 0
  AllKeepFuel rs = All (λ x. x.node ≡ pid → KeepsFuel f x) rs

  -- it is awaited by the same processes
  awaited_same : (rs : List ProcessRecord) (n : ℕ) → AllKeepFuel rs → is_awaited_in (at_process pid f rs) n ≡ is_awaited_in rs n
  awaited_same [] n h = refl
  awaited_same (x ∷ xs) n h = at (x.node == pid) refl (awaited_same xs n (All-tail (λ y. y.node ≡ pid → KeepsFuel f y) x xs h))
    where
      at : (b : Bool) → (x.node == pid) ≡ b → is_awaited_in (at_process pid f xs) n ≡ is_awaited_in xs n
          → (is_awaited (if b then f x else x).part n || is_awaited_in (at_process pid f xs) n) ≡ (is_awaited x.part n || is_awaited_in xs n)
      at true is rest =
          let e = All-head (λ y. y.node ≡ pid → KeepsFuel f y) x xs h (eqb-true x.node pid is) in
          (λ i. e.still n i || rest i) ∙ sym (ap (λ (b : Bool). b || is_awaited_in xs n) (e.none n))
      at false is rest = ap (λ (b : Bool). is_awaited x.part n || b) rest

  counted : (b : Bool) (k m n : ℕ) → m ≤ n → (if b then suc k + m else m) ≤ suc k + n
  counted true k m n le = omega arith
  counted false k m n le = omega arith

  counted_same : (b : Bool) (k m n : ℕ) → m ≤ n → (if b then suc k + m else m) ≤ (if b then suc k + n else n)
  counted_same true k m n le = omega arith
  counted_same false k m n le = le

  pub fuel_falls : (all more rs : List ProcessRecord) → ((n : ℕ) → is_awaited_in more n ≡ is_awaited_in all n) → AllKeepFuel rs
      → fuel_in more (at_process pid f rs) ≤ fuel_in all rs
  fuel_falls all more [] same h = omega arith
  fuel_falls all more (x ∷ xs) same h =
      at (x.node == pid) refl (fuel_falls all more xs same (All-tail (λ y. y.node ≡ pid → KeepsFuel f y) x xs h))
    where
      at : (b : Bool) → (x.node == pid) ≡ b → fuel_in more (at_process pid f xs) ≤ fuel_in all xs
          → fuel_in more ((if b then f x else x) ∷ at_process pid f xs) ≤ fuel_in all (x ∷ xs)
      at true is le =
          let e = All-head (λ y. y.node ≡ pid → KeepsFuel f y) x xs h (eqb-true x.node pid is) in
          let there : fuel_in all (x ∷ xs) ≡ suc x.fuel + fuel_in all xs
          = λ i. if not (e.live i) || is_awaited_in all x.node then suc x.fuel + fuel_in all xs else fuel_in all xs in
          let less = counted (not (has_ended (f x).state) || is_awaited_in more (f x).node) (f x).fuel (fuel_in more (at_process pid f xs)) (fuel_in all xs) le in
          subst (λ (n : ℕ). fuel_in more (f x ∷ at_process pid f xs) ≤ n) (ap (λ (k : ℕ). suc k + fuel_in all xs) e.fuel ∙ sym there) less
      at false is le =
          let here : fuel_in more (x ∷ at_process pid f xs) ≡ (if not (has_ended x.state) || is_awaited_in all x.node then suc x.fuel + fuel_in more (at_process pid f xs) else fuel_in more (at_process pid f xs))
          = ap (λ (b : Bool). if not (has_ended x.state) || b then suc x.fuel + fuel_in more (at_process pid f xs) else fuel_in more (at_process pid f xs)) (same x.node) in
          subst (λ (n : ℕ). n ≤ fuel_in all (x ∷ xs)) (sym here)
          (counted_same (not (has_ended x.state) || is_awaited_in all x.node) x.fuel (fuel_in more (at_process pid f xs)) (fuel_in all xs) le)

  -- the sum of fuel doesn't rise
  pub sum_falls : (rs : List ProcessRecord) → AllKeepFuel rs → fuel_in (at_process pid f rs) (at_process pid f rs) ≤ fuel_in rs rs
  sum_falls rs h = fuel_falls rs (at_process pid f rs) rs (λ n. awaited_same rs n h) h
