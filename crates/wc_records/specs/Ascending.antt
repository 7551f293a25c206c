-- Records in order of their processes' numbers.
use Rattle.std.specs.Prelude.{ℕ, ◌<◌, ◌≤◌, ◌==◌, Bool, false, List, [], ◌∷◌, length, Option, Some, None, slice_index_or}
use Rattle.wc_state.specs.declared.record.ProcessRecord.{ProcessRecord}

-- The numbers of records ascend, above this bound.
abbrev pub AreAscending : ℕ → List ProcessRecord → Type 0
AreAscending low [] = Unit {0}
AreAscending low (r ∷ rs) = (low < r.node) × AreAscending r.node rs

-- The records before the place have lesser numbers, and those from it on haven't.
pub record IsCut (pid : ℕ) (rs : List ProcessRecord) (at : ℕ) : Type 0 where
  pub before : (k : ℕ) (d : ProcessRecord) → k < at → k < length rs → (slice_index_or rs k d).node < pid
  pub behind : (k : ℕ) (d : ProcessRecord) → at ≤ k → k < length rs → pid ≤ (slice_index_or rs k d).node

-- there is a record, and it has the number
abbrev pub is_numbered : ℕ → Option ProcessRecord → Bool
is_numbered pid None = false
is_numbered pid (Some r) = r.node == pid
