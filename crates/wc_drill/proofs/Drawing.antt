-- Two draws more.
use Rattle.std.proofs.Common.{◌≡◌, ℕ, zero, suc, ◌+◌, ◌*◌, ◌/◌, ◌%◌, refl, sym, ap, ◌∙◌, add-one, arith}
use Rattle.wc_value.specs.Draws.{drawn, after_draws}
use Rattle.wc_drill.specs.Draws.{first_number, second_number, sum_of_squares}

after_suc : (n x : ℕ) → after_draws (suc n) x ≡ drawn (after_draws n x)
after_suc zero x = refl
after_suc (suc n) x = after_suc n (drawn x)

after_one : (n x : ℕ) → after_draws (n + 1) x ≡ drawn (after_draws n x)
after_one n x = ap (λ (k : ℕ). after_draws k x) (add-one n) ∙ after_suc n x

-- what is drawn for a chain, from what the generator holds before it
module _ (x chain seed : ℕ) (before : x ≡ after_draws (2 * chain) seed) where
  pub first_drawn : drawn x / 65536 % 100 ≡ first_number chain seed
  first_drawn = ap (λ (y : ℕ). drawn y / 65536 % 100) before

  between : drawn x ≡ after_draws (2 * chain + 1) seed
  between = ap drawn before ∙ sym (after_one (2 * chain) seed)

  pub second_drawn : drawn (drawn x) / 65536 % 100 ≡ second_number chain seed
  second_drawn = ap (λ (y : ℕ). drawn y / 65536 % 100) between

  pub then_holds : drawn (drawn x) ≡ after_draws (2 * (chain + 1)) seed
  then_holds =
      let even : 2 * chain + 1 + 1 ≡ 2 * (chain + 1) = omega arith in
      ap drawn between ∙ sym (after_one (2 * chain + 1) seed) ∙ ap (λ (k : ℕ). after_draws k seed) even

-- ---- sums

pub sum_none : (seed : ℕ) → sum_of_squares 0 seed ≡ 0
sum_none seed = refl

pub sum_more : (n seed : ℕ) → sum_of_squares (n + 1) seed ≡ sum_of_squares n seed + (first_number n seed * first_number n seed + second_number n seed * second_number n seed)
sum_more n seed = ap (λ (k : ℕ). sum_of_squares k seed) (add-one n)
