-- What is known of the ready processes.
use Rattle.std.proofs.Common.{◌≡◌, ℕ, suc, ◌<◌, Bool, true, false, cond, List, [], ◌∷◌, Some, get_or, length, map, refl, ap, ◌∙◌, arith, inl, inr, eq-eqb}
use Rattle.std.specs.Prelude.{◌==◌, ◌/◌, ◌%◌, nat_lt, All, unwrap_or, filter}
use Rattle.std.specs.List.{find}
use Rattle.std.proofs.lemmas.Bool.{cases_lt, eqb-true}
use Rattle.std.proofs.lemmas.List.Elements.{All-nil, All-cons, All-head, All-tail, All-get_or}
use Rattle.wc_state.specs.declared.record.ProcessRecord.{ProcessRecord}
use Rattle.wc_value.specs.Draws.{drawn}
use Rattle.wc_world.specs.World.{World}
use Rattle.wc_world.specs.Consistent.{IsConsistent}
use Rattle.wc_world.specs.Records.{find_record}
use Rattle.wc_world.proofs.ReachedLists.{unique}
use Rattle.wc_machine.specs.Readiness.{is_ready, ready_at}
use Rattle.wc_core.specs.Ready.{is_ready_at, is_ready_by}
use Rattle.wc_core.specs.Order.{chosen}
use Rattle.wc_core.specs.declared.order.Order.{Order}
use Rattle.wc_core.specs.declared.order.Order.TheVariants.{Round, Drawn}

-- ---- the list of those that are ready

module _ (w : World) (now : ℕ) where
  ready_in : (rs : List ProcessRecord) → All (λ r. find_record r.node w.records ≡ Some r) rs
      → All (λ n. is_ready_at w n now ≡ true) (map (λ r. r.node) (filter (is_ready w now) rs))
  ready_in [] all = All-nil (λ n. is_ready_at w n now ≡ true)
  ready_in (r ∷ rs) all = at (is_ready w now r) refl (ready_in rs (All-tail (λ x. find_record x.node w.records ≡ Some x) r rs all))
    where
      at : (b : Bool) → is_ready w now r ≡ b → All (λ n. is_ready_at w n now ≡ true) (map (λ (x : ProcessRecord). x.node) (filter (is_ready w now) rs))
          → All (λ n. is_ready_at w n now ≡ true) (map (λ (x : ProcessRecord). x.node) (cond b (r ∷ filter (is_ready w now) rs) (filter (is_ready w now) rs)))
      at true e rest =
          All-cons (λ n. is_ready_at w n now ≡ true) r.node (map (λ (x : ProcessRecord). x.node) (filter (is_ready w now) rs))
          (ap (is_ready_by w now) (All-head (λ x. find_record x.node w.records ≡ Some x) r rs all) ∙ e) rest
      at false e rest = rest

  pub all_ready : IsConsistent w → All (λ n. is_ready_at w n now ≡ true) (ready_at w now)
  all_ready c = ready_in w.records (unique 1 w.nodes w.records c.numbered)

  none_in : (rs : List ProcessRecord) → map (λ (r : ProcessRecord). r.node) (filter (is_ready w now) rs) ≡ [] → All (λ r. is_ready w now r ≡ false) rs
  none_in [] e = All-nil (λ r. is_ready w now r ≡ false)
  none_in (r ∷ rs) e = at (is_ready w now r) refl (λ none. none_in rs none) e
    where
      at : (b : Bool) → is_ready w now r ≡ b
          → (map (λ (x : ProcessRecord). x.node) (filter (is_ready w now) rs) ≡ [] → All (λ x. is_ready w now x ≡ false) rs)
          → map (λ (x : ProcessRecord). x.node) (cond b (r ∷ filter (is_ready w now) rs) (filter (is_ready w now) rs)) ≡ []
          → All (λ x. is_ready w now x ≡ false) (r ∷ rs)
      at true is rest none = absurd (cc)
      at false is rest none = All-cons (λ x. is_ready w now x ≡ false) r rs is (rest none)

  pub none_ready : ready_at w now ≡ [] → All (λ r. is_ready w now r ≡ false) w.records
  none_ready e = none_in w.records e

-- ---- the one that comes next

-- what holds of all holds of the one that is found
found_has : (P : ℕ → Type 0) (p : ℕ → Bool) (xs : List ℕ) (d : ℕ) → All P xs → P d → P (unwrap_or (find p xs) d)
found_has P p [] d all here = here
found_has P p (x ∷ xs) d all here = at (p x) (found_has P p xs d (All-tail P x xs all) here)
  where
    at : (b : Bool) → P (unwrap_or (find p xs) d) → P (unwrap_or (cond b (Some x) (find p xs)) d)
    at true rest = All-head P x xs all
    at false rest = rest

pub chosen_has : (P : ℕ → Type 0) (order : Order) (ids : List ℕ) → 0 < length ids → All P ids → P (chosen order ids)
chosen_has P (Round last) ids some all = found_has P (nat_lt last) ids (get_or ids 0 0) all (All-get_or P ids 0 0 some all)
chosen_has P (Drawn g) ids some all =
    let n : ℕ = drawn g.x / 65536 in
    let within : n % length ids < length ids = omega arith in
    All-get_or P ids (n % length ids) 0 within all

-- ---- whether there are any

pub none_of : {T : Type 0} (xs : List T) → (length xs == 0) ≡ true → xs ≡ []
none_of [] e = refl
none_of (x ∷ xs) e = let none : suc (length xs) ≡ 0 = eqb-true (suc (length xs)) 0 e in absurd (omega arith)

pub some_of : {T : Type 0} (xs : List T) → (length xs == 0) ≡ false → 0 < length xs
some_of xs e =
    elim (cases_lt 0 (length xs)) [
      | inl some ↦ some
      | inr less ↦
          let none : length xs ≡ 0 = omega arith in
          let is : (length xs == 0) ≡ true = eq-eqb (length xs) 0 none in
          absurd (cc (is, e))
    ]
