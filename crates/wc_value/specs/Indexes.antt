-- Where the rows of a table stand, by the canonical bytes of their requests.
use Rattle.std.specs.Prelude.{◌≡◌, ℕ, ◌<◌, List, Vec, Option, Some, None, get_or}
use Rattle.std.specs.Ordering.{nat_cmp}
use Rattle.std.specs.Cmp.Lexicographic.{slice_cmp}
use Rattle.std.specs.BTreeMap.{BTreeMap, get_by}
use Rattle.std.specs.declared.alloc.Global.{Global}
use Rattle.wc_value.specs.Requests.{dictionary_of}
use Rattle.wc_value.specs.Spells.{Spells}
use Rattle.wc_value.specs.declared.process.Request.{Request}
use Rattle.wc_value.specs.declared.process.JobResult.{JobResult}

-- the canonical bytes are those of one of the first n requests
pub record IsTold (rows : List (Request × JobResult)) (n : ℕ) (bytes : List ℕ) : Type 0 where
  pub place : ℕ
  pub before : place < n
  pub spells : (d : Request × JobResult) → Spells (dictionary_of (get_or rows place d).0) bytes

-- the place that is kept for these bytes
abbrev pub place_at : List ℕ → BTreeMap (Vec ℕ Global) ℕ → Option ℕ
place_at bytes = get_by (λ k. slice_cmp nat_cmp bytes k.items)

-- Places by canonical bytes: of each of the first n rows, and no others.
pub record IsIndex (rows : List (Request × JobResult)) (n : ℕ) (places : BTreeMap (Vec ℕ Global) ℕ) : Type 0 where
  pub told : (bytes : List ℕ) (i : ℕ) → place_at bytes places ≡ Some i → (t : IsTold rows n bytes) × (t.place ≡ i)
  pub every : (bytes : List ℕ) → IsTold rows n bytes → place_at bytes places ≡ None → ⊥
