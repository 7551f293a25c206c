-- Whether two values are equal: of one kind, and with the same contents.
use Rattle.std.specs.Prelude.{Bool, false, not, ◌&&◌, if◌then◌else◌}
use Rattle.std.specs.Cmp.Lexicographic.{pointwise}
use Rattle.std.specs.Ordering.{int_eq}
use Rattle.std.specs.Str.{bytes_eq}
use Rattle.wc_value.specs.declared.value.Value.{Value, fold-Value, out-Value}
use Rattle.wc_value.specs.declared.value.Value.TheOpen.{Value-F}

-- whether two truth values are equal
abbrev pub same_truth : Bool → Bool → Bool
same_truth a b = if a then b else not b

-- one level, where each value inside the first is already the test that it is equal to another
abbrev pub equal_level : Value-F (Value → Bool) → Value-F Value → Bool
equal_level (Value-F.Int a) (Value-F.Int b) = int_eq a b
equal_level (Value-F.Bool a) (Value-F.Bool b) = same_truth a b
equal_level (Value-F.Text a) (Value-F.Text b) = bytes_eq a b
equal_level (Value-F.List as') (Value-F.List bs) = pointwise (λ a b. a b) as' bs
equal_level (Value-F.Dict as') (Value-F.Dict bs) = pointwise (λ a b. bytes_eq a.0 b.0 && a.1 b.1) as' bs
equal_level (Value-F.Folder as') (Value-F.Folder bs) = pointwise (λ a b. bytes_eq a.0 b.0 && bytes_eq a.1 b.1) as' bs
equal_level _ _ = false

-- whether a value is equal to another, from the answers for what is inside it
abbrev pub is_equal_to : Value-F (Value → Bool) → Value → Bool
is_equal_to a b = equal_level a (out-Value b)

-- Whether two values have the same contents
abbrev pub equal : Value → Value → Bool
equal = fold-Value (Value → Bool) is_equal_to
