-- Rows of lists, and tables as functions.
use Rattle.std.proofs.Common.{◌≡◌, ℕ, Bool, true, false, List, [], ◌∷◌, Option, Some, None, refl}
use Rattle.std.specs.Prelude.{if◌then◌else◌, ◌&&◌}
use Rattle.std.specs.Str.{bytes_eq}
use Rattle.wc_value.specs.declared.process.JobResult.{JobResult}
use Rattle.wc_value.specs.declared.process.Request.{Request}
use Rattle.wc_semantics.specs.Tables.{Label, Path, under, texts_eq, row_of, row_at, or_else, with_paths, kills_of, below_first, rows_under}
use Rattle.wc_semantics.specs.Laws.{HasRows}

-- the first row of a list, by its path
first_row : {A : Type 0} (label : Label) (path p : Path) (x : A) (rs : List (Path × A)) (rest : Option A) → row_at path rs ≡ rest
    → row_at path (below_first label p x rs) ≡ (if texts_eq p (label ∷ path) then Some x else rest)
first_row label path [] x rs rest h = h
first_row label path (l ∷ p) x rs rest h = at (bytes_eq l label)
  where
    at : (b : Bool) → row_at path (if b then (p, x) ∷ rs else rs) ≡ (if b && texts_eq p path then Some x else rest)
    at true = λ i. if texts_eq p path then Some x else h i
    at false = h

row_under : {A : Type 0} (label : Label) (path : Path) (rs : List (Path × A)) → row_at path (rows_under label rs) ≡ row_at (label ∷ path) rs
row_under label path [] = refl
row_under label path (r ∷ rs) = first_row label path r.0 r.1 (rows_under label rs) (row_at (label ∷ path) rs) (row_under label path rs)

pub kills_under : (label : Label) (rows : List (Path × ℕ)) → kills_of (rows_under label rows) ≡ under label (kills_of rows)
kills_under label rows = λ i path. row_under label path rows i

pub table_under : (label : Label) (by_path : List (Path × JobResult)) (rows : List (Request × JobResult))
    → with_paths (rows_under label by_path) rows ≡ under label (with_paths by_path rows)
table_under label by_path rows = λ i path q. or_else (row_under label path by_path i) (row_of q rows)

kept_row : (o : Option JobResult) (other : Option JobResult) (r : JobResult) → or_else o None ≡ Some r → or_else o other ≡ Some r
kept_row None other r h = absurd (cc)
kept_row (Some x) other r h = h

-- where rows by path suffice, rows by request play no part
pub has_paths : (by_path : List (Path × JobResult)) (rows : List (Request × JobResult)) → HasRows (with_paths by_path []) (with_paths by_path rows)
has_paths by_path rows path q r h = kept_row (row_at path by_path) (row_of q rows) r h
