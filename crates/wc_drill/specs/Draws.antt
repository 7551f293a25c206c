-- What is drawn from a seed for chains.
use Rattle.std.specs.Prelude.{ℕ, zero, suc, ◌+◌, ◌*◌, ◌/◌, ◌%◌}
use Rattle.wc_value.specs.Draws.{drawn, after_draws}

-- the draw of this number, counted from 0
abbrev pub draw : (at seed : ℕ) → ℕ
draw at seed = drawn (after_draws at seed) / 65536

-- the two numbers of a chain, which is counted from 0: each a draw modulo 100
abbrev pub first_number : (chain seed : ℕ) → ℕ
first_number chain seed = draw (2 * chain) seed % 100

-- the second number of a chain: a draw from the seed, modulo 100
abbrev pub second_number : (chain seed : ℕ) → ℕ
second_number chain seed = draw (2 * chain + 1) seed % 100

-- the squares of the numbers of so many chains, added up
abbrev pub sum_of_squares : (chains seed : ℕ) → ℕ
sum_of_squares zero seed = 0
sum_of_squares (suc n) seed =
    sum_of_squares n seed + (first_number n seed * first_number n seed + second_number n seed * second_number n seed)
