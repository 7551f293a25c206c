-- The order of numbers, and that of due moments with their processes.
use Rattle.std.proofs.Common.{◌≡◌, ℕ, true, false, arith}
use Rattle.std.specs.Prelude.{nat_lt}
use Rattle.std.proofs.lemmas.Bool.{ltb-true, ltb-false, lt-ltb, le-ltb}
use Rattle.std.proofs.lemmas.Bool.Decides.{nat_tests}
use Rattle.wc_records.specs.Readiness.{sooner}
use Rattle.wc_records.specs.Marked.{IsOrder}

pub numbers_in_order : IsOrder nat_lt
numbers_in_order = record {
  not_itself = λ x. le-ltb x x (omega arith);
  one_way = λ x y lt. let h = ltb-true x y lt in le-ltb y x (omega (arith, h));
  same = λ x y one other. let h = ltb-false x y one in let g = ltb-false y x other in omega (arith, h, g);
  along = λ x y z one other. let h = ltb-true x y one in let g = ltb-true y z other in lt-ltb x z (omega (arith, h, g));
}

sooner_itself : (x : ℕ × ℕ) → sooner x x ≡ false
sooner_itself x = grind (arith, nat_tests)

sooner_one_way : (x y : ℕ × ℕ) → sooner x y ≡ true → sooner y x ≡ false
sooner_one_way x y h = grind (arith, nat_tests)

sooner_first : (x y : ℕ × ℕ) → sooner x y ≡ false → sooner y x ≡ false → x.0 ≡ y.0
sooner_first x y one other = grind (arith, nat_tests)

sooner_second : (x y : ℕ × ℕ) → sooner x y ≡ false → sooner y x ≡ false → x.1 ≡ y.1
sooner_second x y one other = grind (arith, nat_tests)

sooner_along : (x y z : ℕ × ℕ) → sooner x y ≡ true → sooner y z ≡ true → sooner x z ≡ true
sooner_along x y z one other = grind (arith, nat_tests)

pub dues_in_order : IsOrder sooner
dues_in_order = record {
  not_itself = sooner_itself;
  one_way = sooner_one_way;
  same = λ x y one other i. (sooner_first x y one other i, sooner_second x y one other i);
  along = sooner_along;
}
