-- Tables of results and lists of kills, by call path.
use Rattle.std.specs.Prelude.{ℕ, Bool, true, false, ◌&&◌, if◌then◌else◌, List, [], ◌∷◌, Option, Some, None}
use Rattle.std.specs.Str.{bytes_eq}
use Rattle.wc_value.specs.declared.process.JobResult.{JobResult}
use Rattle.wc_value.specs.declared.process.Request.{Request}

-- the label of a call, which the calls of one process don't share
abbrev pub Label : Type 0
Label = List ℕ

-- the labels from a process down to one that it called, directly or through calls
abbrev pub Path : Type 0
Path = List Label

-- the result that a table has for the request of the job with this call path
abbrev pub Table : Type 0
Table = Path → Request → Option JobResult

-- for a killed process, by its call path, the number of processes that it had called
abbrev pub Kills : Type 0
Kills = Path → Option ℕ

-- the rows whose path begins with the label, with it taken off
abbrev pub under : {A : Type 0} → Label → (Path → A) → Path → A
under label rows path = rows (label ∷ path)

-- no process is killed
abbrev pub no_kills : Kills
no_kills path = None

-- ---- lists of rows

-- whether two lists of texts are equal
abbrev pub texts_eq : List (List ℕ) → List (List ℕ) → Bool
texts_eq [] [] = true
texts_eq [] (u ∷ us) = false
texts_eq (t ∷ ts) [] = false
texts_eq (t ∷ ts) (u ∷ us) = bytes_eq t u && texts_eq ts us

-- whether two lists of files are equal, by names and contents
abbrev pub files_eq : List (List ℕ × List ℕ) → List (List ℕ × List ℕ) → Bool
files_eq [] [] = true
files_eq [] (g ∷ gs) = false
files_eq (f ∷ fs) [] = false
files_eq (f ∷ fs) (g ∷ gs) = (bytes_eq f.0 g.0 && bytes_eq f.1 g.1) && files_eq fs gs

-- whether two requests are equal
abbrev pub request_eq : Request → Request → Bool
request_eq q r = bytes_eq q.program r.program && (texts_eq q.args r.args && (files_eq q.files r.files && texts_eq q.fetch r.fetch))

-- what the first row with this request has
abbrev pub row_of : Request → List (Request × JobResult) → Option JobResult
row_of q [] = None
row_of q (r ∷ rs) = if request_eq r.0 q then Some r.1 else row_of q rs

-- what the first row with this path has
abbrev pub row_at : {A : Type 0} → Path → List (Path × A) → Option A
row_at path [] = None
row_at path (r ∷ rs) = if texts_eq r.0 path then Some r.1 else row_at path rs

-- a table with rows by request alone
abbrev pub plain : List (Request × JobResult) → Table
plain rows path q = row_of q rows

-- what is there, or another where nothing is
abbrev pub or_else : {A : Type 0} → Option A → Option A → Option A
or_else None other = other
or_else (Some x) other = Some x

-- a table with rows by call path too, which come first
abbrev pub with_paths : List (Path × JobResult) → List (Request × JobResult) → Table
with_paths by_path rows path q = or_else (row_at path by_path) (row_of q rows)

-- the kills of a list
abbrev pub kills_of : List (Path × ℕ) → Kills
kills_of rows path = row_at path rows

-- a row whose path begins with the label, in front of these
abbrev pub below_first : {A : Type 0} → Label → Path → A → List (Path × A) → List (Path × A)
below_first label [] x rows = rows
below_first label (l ∷ path) x rows = if bytes_eq l label then (path, x) ∷ rows else rows

-- the rows of a list whose path begins with the label, with it taken off
abbrev pub rows_under : {A : Type 0} → Label → List (Path × A) → List (Path × A)
rows_under label [] = []
rows_under label (r ∷ rs) = below_first label r.0 r.1 (rows_under label rs)
