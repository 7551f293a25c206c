-- The value of an operator or a word at the values of its operands.
use Rattle.std.specs.Prelude.{ℤ, Bool, false, not, ◌&&◌, ◌||◌, if◌then◌else◌, ◌++◌}
use Rattle.std.specs.declared.cmp.Ordering.{Ordering}
use Rattle.std.specs.Cmp.Lexicographic.{slice_cmp}
use Rattle.std.specs.Int.{int_min, int_max}
use Rattle.std.specs.Ordering.{nat_cmp, int_cmp, is_lt, is_le, is_gt, is_ge}
use Rattle.wc_value.specs.Kinds.{kind_of}
use Rattle.wc_value.specs.declared.process.Reason.TheVariants.{WrongKind}
use Rattle.wc_value.specs.declared.value.Value.{Value, out-Value}
use Rattle.wc_value.specs.declared.value.Value.TheVariants as value
use Rattle.wc_value.specs.declared.value.Value.TheOpen.{Value-F}
use Rattle.wc_syntax.specs.declared.expression.BinaryOp.{BinaryOp}
use Rattle.wc_syntax.specs.declared.expression.BinaryOp.TheVariants as binary
use Rattle.wc_syntax.specs.declared.expression.OneOf.{OneOf}
use Rattle.wc_syntax.specs.declared.expression.OneOf.TheVariants as one
use Rattle.wc_syntax.specs.declared.expression.TwoOf.{TwoOf}
use Rattle.wc_syntax.specs.declared.expression.TwoOf.TheVariants as two
use Rattle.wc_syntax.specs.declared.expression.UnaryOp.{UnaryOp}
use Rattle.wc_syntax.specs.declared.expression.UnaryOp.TheVariants as unary
use Rattle.wc_expression.specs.declared.outcome.Outcome.{Outcome}
use Rattle.wc_expression.specs.declared.outcome.Outcome.TheVariants.{Gives, Faults}
use Rattle.wc_expression.specs.Outcomes.{◌>>=◌, mapped}
use Rattle.wc_expression.specs.Whole.{sum, difference, product, opposite, quotient, remainder}
use Rattle.wc_expression.specs.Equality.{equal}
use Rattle.wc_expression.specs.Contents.{Seen, has_kind, ints_of, bools_of, printed, whole, size, trimmed_text, got, has_name, content, line, contains}

-- the sum of whole numbers; texts or lists one behind the other
abbrev pub plus : Seen → Seen → Outcome Value
plus (Value-F.Int a) (Value-F.Int b) = mapped value.Int (sum a b)
plus (Value-F.Text a) (Value-F.Text b) = Gives (value.Text (a ++ b))
plus (Value-F.List a) (Value-F.List b) = Gives (value.List (a ++ b))
plus _ _ = Faults WrongKind

-- of two whole numbers
abbrev pub counted : (ℤ → ℤ → Outcome ℤ) → Seen → Seen → Outcome Value
counted f v w = do
  p ← ints_of v w
  mapped value.Int (f p.0 p.1)

-- of two truth values
abbrev pub decided : (Bool → Bool → Bool) → Seen → Seen → Outcome Value
decided f v w = mapped (λ p. value.Bool (f p.0 p.1)) (bools_of v w)

-- how two whole numbers compare, or two texts by their bytes
abbrev pub order : Seen → Seen → Outcome Ordering
order (Value-F.Int a) (Value-F.Int b) = Gives (int_cmp a b)
order (Value-F.Text a) (Value-F.Text b) = Gives (slice_cmp nat_cmp a b)
order _ _ = Faults WrongKind

-- whether the order of two values is as asked
abbrev pub compared : (Ordering → Bool) → Seen → Seen → Outcome Value
compared holds v w = mapped (λ o. value.Bool (holds o)) (order v w)

-- whether two values of one kind are equal
abbrev pub equality : Value → Value → Outcome Bool
equality a b = if has_kind (kind_of a) (out-Value b) then Gives (equal a b) else Faults WrongKind

-- The value of an operator with two operands, at their values
abbrev pub operated : BinaryOp → Value → Value → Outcome Value
operated binary.Or a b = decided (λ x y. x || y) (out-Value a) (out-Value b)
operated binary.And a b = decided (λ x y. x && y) (out-Value a) (out-Value b)
operated binary.Equal a b = mapped value.Bool (equality a b)
operated binary.Differs a b = mapped (λ same. value.Bool (not same)) (equality a b)
operated binary.Less a b = compared is_lt (out-Value a) (out-Value b)
operated binary.AtMost a b = compared is_le (out-Value a) (out-Value b)
operated binary.Greater a b = compared is_gt (out-Value a) (out-Value b)
operated binary.AtLeast a b = compared is_ge (out-Value a) (out-Value b)
operated binary.Add a b = plus (out-Value a) (out-Value b)
operated binary.Subtract a b = counted difference (out-Value a) (out-Value b)
operated binary.Multiply a b = counted product (out-Value a) (out-Value b)
operated binary.Divide a b = counted quotient (out-Value a) (out-Value b)
operated binary.Remainder a b = counted remainder (out-Value a) (out-Value b)

-- whether the left operand is the value, and the right one isn't evaluated: `false and e`, `true or e`
abbrev pub settles : BinaryOp → Seen → Bool
settles binary.And (Value-F.Bool b) = not b
settles binary.Or (Value-F.Bool b) = b
settles _ _ = false

-- the value of an operator with one operand, at its value: `-` of a whole number, `not` of a truth value
abbrev pub prefixed : UnaryOp → Seen → Outcome Value
prefixed unary.Negate (Value-F.Int n) = mapped value.Int (opposite n)
prefixed unary.Not (Value-F.Bool b) = Gives (value.Bool (not b))
prefixed _ _ = Faults WrongKind

-- the value of a word with one operand, at its value: `text`, `int`, `trim`, `len`
abbrev pub of_one : OneOf → Seen → Outcome Value
of_one one.Text v = mapped value.Text (printed v)
of_one one.Int v = mapped value.Int (whole v)
of_one one.Trim v = mapped value.Text (trimmed_text v)
of_one one.Len v = mapped value.Int (size v)

-- the value of a word with two operands, at their values: `get`, `has`, `file`, `line`, `contains`, `min`, `max`
abbrev pub of_two : TwoOf → Seen → Seen → Outcome Value
of_two two.Get v w = got v w
of_two two.Has v w = mapped value.Bool (has_name v w)
of_two two.File v w = mapped value.Text (content v w)
of_two two.Line v w = mapped value.Text (line v w)
of_two two.Contains v w = mapped value.Bool (contains v w)
of_two two.Min v w = mapped (λ p. value.Int (int_min p.0 p.1)) (ints_of v w)
of_two two.Max v w = mapped (λ p. value.Int (int_max p.0 p.1)) (ints_of v w)
