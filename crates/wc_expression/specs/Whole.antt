-- Arithmetic on whole numbers of 64 bits.
use Rattle.std.specs.Prelude.{ℕ, ◌^◌, ℤ, pos, negsuc, ◌+ℤ◌, ◌-ℤ◌, ◌*ℤ◌, neg_ℤ, int_div, Bool, not, ◌&&◌, ◌==◌, nat_lt, if◌then◌else◌, List, length, slice_index, Option, Some, None}
use Rattle.std.specs.Char.{digit_value}
use Rattle.std.specs.List.{list_all}
use Rattle.std.specs.Ordering.{int_eq}
use Rattle.std.specs.Str.Parse.{without_leading_sign, signed_digits_value}
use Rattle.wc_value.specs.declared.process.Reason.TheVariants.{Overflow, DivideByZero}
use Rattle.wc_expression.specs.declared.outcome.Outcome.{Outcome}
use Rattle.wc_expression.specs.declared.outcome.Outcome.TheVariants.{Gives, Faults}

-- whether a number is one of 64 bits
abbrev pub is_i64 : ℤ → Bool
is_i64 (pos n) = nat_lt n (2 ^ 63)
is_i64 (negsuc n) = nat_lt n (2 ^ 63)

-- the number, or the reason that it is beyond 64 bits
abbrev pub within : ℤ → Outcome ℤ
within z = if is_i64 z then Gives z else Faults Overflow

-- the sum of two whole numbers, or `overflow` beyond 64 bits
abbrev pub sum : ℤ → ℤ → Outcome ℤ
sum a b = within (a +ℤ b)

-- the difference of two whole numbers, or `overflow` beyond 64 bits
abbrev pub difference : ℤ → ℤ → Outcome ℤ
difference a b = within (a -ℤ b)

-- the product of two whole numbers, or `overflow` beyond 64 bits
abbrev pub product : ℤ → ℤ → Outcome ℤ
product a b = within (a *ℤ b)

-- a whole number with the other sign, or `overflow` beyond 64 bits
abbrev pub opposite : ℤ → Outcome ℤ
opposite a = within (neg_ℤ a)

-- the quotient, cut toward zero
abbrev pub quotient : ℤ → ℤ → Outcome ℤ
quotient a b = if int_eq b (pos 0) then Faults DivideByZero else within (int_div a b)

-- what the quotient over all whole numbers leaves
abbrev pub remainder : ℤ → ℤ → Outcome ℤ
remainder a b = if int_eq b (pos 0) then Faults DivideByZero else Gives (a -ℤ (b *ℤ int_div a b))

-- ---- numbers in texts

-- one decimal digit or more
abbrev pub is_numeral : List ℕ → Bool
is_numeral ds = nat_lt 0 (length ds) && list_all (λ d. nat_lt (digit_value d) 10) ds

-- an optional `-`, one or more digits, and a number of 64 bits
abbrev pub is_number : List ℕ → Bool
is_number text = not (slice_index text 0 == 43) && (is_numeral (without_leading_sign text) && is_i64 (signed_digits_value 10 text))

-- the number that a text spells
abbrev pub number_of : List ℕ → Option ℤ
number_of text = if is_number text then Some (signed_digits_value 10 text) else None
