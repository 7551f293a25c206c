-- Which of several findings is the first: that of the least place, then of the lowest number, then of the least name in byte order.
use Rattle.std.specs.Prelude.{◌≡◌, false, List}
use Rattle.std.specs.declared.cmp.Ordering.{Ordering}
use Rattle.std.specs.Ordering.{nat_cmp, ordering_then, is_lt}
use Rattle.std.specs.Cmp.Lexicographic.{slice_cmp}
use Rattle.std.specs.List.{Contains}
use Rattle.wc_syntax.specs.Findings.{Finding}

-- the order of findings: by place, then by rule, then by name
abbrev pub finding_cmp : Finding → Finding → Ordering
finding_cmp f g = ordering_then (nat_cmp f.at g.at) (ordering_then (nat_cmp f.number g.number) (slice_cmp nat_cmp f.name g.name))

-- one of the findings, and none of them stands before it
pub record IsFirst (fs : List Finding) (f : Finding) : Type 0 where
  pub among : Contains fs f
  pub least : (g : Finding) → Contains fs g → is_lt (finding_cmp g f) ≡ false
