-- Values that are read have at most 4,194,304 canonical bytes and a depth of at most 32. This is tried last.
use Rattle.std.specs.Prelude.{ℕ, ◌&&◌, Bool, List, [], ◌∷◌, Result, Ok, nat_le, length, if◌then◌else◌}
use Rattle.wc_value.specs.Spelling.{depth, spelling}
use Rattle.wc_value.specs.declared.value.Value.{Value}
use Rattle.serde_json.specs.Data.{Data}
use Rattle.wc_value.specs.declared.value.Kind.{Kind}
use Rattle.wc_json.specs.Reading.{Refusal, under, shape, read_as, read_inputs, ◌>>=◌}

-- whether a value is within 4 MiB and 32 levels
abbrev pub fits : Value → Bool
fits v = nat_le (length (spelling v)) 4194304 && nat_le (depth v) 32

-- a value, where it is within 4 MiB and 32 levels, else another shape
abbrev pub within : Value → Result Value Refusal
within v = if fits v then Ok v else shape

-- the first of the entries past the limits is refused at its name
abbrev pub all_within : List (List ℕ × Value) → Result (Unit {0}) Refusal
all_within [] = Ok tt
all_within (e ∷ es) = under e.0 (within e.1) >>= (λ v. all_within es)

-- a value of a kind
abbrev pub read_value : Kind → Data → Result Value Refusal
read_value k d = read_as k d >>= within

-- the values by port of an inputs file
abbrev pub read_fields : List (List ℕ × Kind) → Data → Result (List (List ℕ × Value)) Refusal
read_fields ports d = read_inputs ports d >>= (λ fs. all_within fs >>= (λ x. Ok fs))
