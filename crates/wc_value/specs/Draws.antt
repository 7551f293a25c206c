-- The numbers of the generator, and the bytes that it draws.
use Rattle.std.specs.Prelude.{ℕ, zero, suc, ◌+◌, ◌*◌, ◌/◌, ◌%◌, ◌^◌, List, [], ◌∷◌}

-- the generator's state after one draw; what it draws is this by 65536
abbrev pub drawn : ℕ → ℕ
drawn x = (x * 1103515245 + 12345) % 2 ^ 31

-- the generator's state after so many draws
abbrev pub after_draws : ℕ → ℕ → ℕ
after_draws zero x = x
after_draws (suc n) x = after_draws n (drawn x)

-- n bytes, each a draw modulo 256
abbrev pub noise : ℕ → ℕ → List ℕ
noise zero x = []
noise (suc n) x = (drawn x / 65536) % 256 ∷ noise n (drawn x)
