-- The number that values have under a name, where 0 stands for none.
use Rattle.std.proofs.Common.{ℕ, ℤ, List, Option, Some, None}
use Rattle.std.specs.Prelude.{pos}
use Rattle.wc_value.specs.Ascending.{lookup}
use Rattle.wc_value.specs.declared.value.Value.{Value, out-Value}
use Rattle.wc_value.specs.declared.value.Value.TheOpen.{Value-F}
use Rattle.wc_semantics.specs.Rules.{Values}

abbrev number_seen : Value-F Value → ℤ
number_seen (Value-F.Int n) = n
number_seen (Value-F.Bool b) = pos 0
number_seen (Value-F.Text t) = pos 0
number_seen (Value-F.List vs) = pos 0
number_seen (Value-F.Dict ps) = pos 0
number_seen (Value-F.Folder fs) = pos 0

abbrev number_under : Option Value → ℤ
number_under None = pos 0
number_under (Some v) = number_seen (out-Value v)

unfoldable pub number_at : List ℕ → Values → ℤ
number_at name vs = number_under (lookup name vs)
