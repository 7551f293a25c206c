-- The kind of a value.
use Rattle.wc_value.specs.declared.value.Value.{Value, out-Value}
use Rattle.wc_value.specs.declared.value.Value.TheOpen.{Value-F}
use Rattle.wc_value.specs.declared.value.Kind.{Kind}
use Rattle.wc_value.specs.declared.value.Kind.TheVariants as kind

-- the kind of a value, seen one level deep
abbrev pub kind_seen : Value-F Value → Kind
kind_seen (Value-F.Int n) = kind.Int
kind_seen (Value-F.Bool b) = kind.Bool
kind_seen (Value-F.Text t) = kind.Text
kind_seen (Value-F.List vs) = kind.List
kind_seen (Value-F.Dict ps) = kind.Dict
kind_seen (Value-F.Folder fs) = kind.Folder

-- The kind of a value
abbrev pub kind_of : Value → Kind
kind_of v = kind_seen (out-Value v)
