-- One more draw of the generator.
use Rattle.std.proofs.Common.{◌≡◌, ℕ, zero, suc, ◌+◌, ◌/◌, ◌%◌, List, [], ◌∷◌, ◌++◌, length, refl, ap, ◌∙◌, add-one, arith}
use Rattle.wc_value.specs.Draws.{drawn, after_draws, noise}

after_suc : (n x : ℕ) → after_draws (suc n) x ≡ drawn (after_draws n x)
after_suc zero x = refl
after_suc (suc n) x = after_suc n (drawn x)

pub after_more : (n x : ℕ) → after_draws (n + 1) x ≡ drawn (after_draws n x)
after_more n x = ap (λ (k : ℕ). after_draws k x) (add-one n) ∙ after_suc n x

noise_suc : (n x : ℕ) → noise (suc n) x ≡ noise n x ++ (drawn (after_draws n x) / 65536) % 256 ∷ []
noise_suc zero x = refl
noise_suc (suc n) x = ap (λ (l : List ℕ). (drawn x / 65536) % 256 ∷ l) (noise_suc n (drawn x))

pub noise_more : (n x : ℕ) → noise (n + 1) x ≡ noise n x ++ (drawn (after_draws n x) / 65536) % 256 ∷ []
noise_more n x = ap (λ (k : ℕ). noise k x) (add-one n) ∙ noise_suc n x

pub length-noise : (n x : ℕ) → length (noise n x) ≡ n
length-noise zero x = refl
length-noise (suc n) x = omega (arith, length-noise n (drawn x))
