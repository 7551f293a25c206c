-- Requests as values, and tables of results.
use Rattle.std.specs.Prelude.{◌≡◌, ◌≢◌, ℕ, List, [], ◌∷◌, map, take, Some, slice_get, codes}
use Rattle.std.specs.List.{AllPairs, Contains}
use Rattle.std.specs.Map.{keys_of}
use Rattle.wc_value.specs.declared.value.Value.{Value}
use Rattle.wc_value.specs.declared.value.Value.TheVariants as value
use Rattle.wc_value.specs.declared.process.Request.{Request}
use Rattle.wc_value.specs.declared.process.JobResult.{JobResult}

-- a list of texts as a value
abbrev pub list_of_texts : List (List ℕ) → Value
list_of_texts ts = value.List (map value.Text ts)

-- a request as a dictionary
abbrev pub dictionary_of : Request → Value
dictionary_of q = value.Dict (
    (codes "args", list_of_texts q.args)
    ∷ (codes "fetch", list_of_texts q.fetch)
    ∷ (codes "files", value.Folder q.files)
    ∷ (codes "program", value.Text q.program)
    ∷ [])

-- the requests of a table's rows
abbrev pub requests : List (Request × JobResult) → List Request
requests rows = keys_of rows

-- no item stands twice
abbrev pub IsDistinct : {A : Type 0} → List A → Type 0
IsDistinct xs = AllPairs (λ x y. x ≢ y) xs

-- the row at i is the first whose request stands in an earlier row
pub record RepeatsFirst (rows : List (Request × JobResult)) (i : ℕ) : Type 0 where
  pub row : Request × JobResult
  pub at : slice_get rows i ≡ Some row
  pub earlier : Contains (requests (take i rows)) row.0
  pub distinct : IsDistinct (requests (take i rows))
