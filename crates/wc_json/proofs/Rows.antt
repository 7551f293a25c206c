-- What is told of rows that are read one after another.
use Rattle.std.proofs.Common.{◌≡◌, ℕ, suc, List, [], ◌∷◌, ◌++◌, ◌+◌, ◌<◌, Bool, true, false, if◌then◌else◌, length, drop, get_or, Result, Ok, Err, ap, sym, ◌∙◌, subst}
use Rattle.std.specs.Prelude.{decimal}
use Rattle.std.proofs.Math.Numerals.{add-one}
use Rattle.std.proofs.lemmas.List.{drop_more}
use Rattle.serde_json.specs.Data.{item}
use Rattle.serde_json.specs.View.{view, items_view}
use Rattle.serde_json.specs.declared.value.Value.{Value as Json}
use Rattle.wc_value.specs.Requests.{dictionary_of}
use Rattle.wc_value.specs.Spelling.{spelling}
use Rattle.wc_json.specs.declared.error.JsonError.{JsonError}
use Rattle.wc_json.specs.Answers.{IsTold, Tells, Lifts}
use Rattle.wc_json.specs.Reading.{Refusal, under, shape, other_shape, ◌>>=◌}
use Rattle.wc_json.specs.Tables.{Row, read_row, read_rows, has_request, if_new, row_within, rows_within}
use Rattle.wc_json.proofs.Steps.{step-tells, tells-same}

-- what a reading refuses is refused whatever would follow it
pub stops : {A B : Type 0} (read : Result A Refusal) (next : A → Result B Refusal) (e : JsonError) → Tells read e → Tells (read >>= next) e
stops (Ok x) next e told = more (next x)
  where
    more : {B : Type 0} (r : Result B Refusal) → Tells r e
    more (Ok y) = told
    more (Err q) = subst (IsTold q) (sym told) (record {})
stops (Err r) next e told = told

-- ---- a row

items-at : (vs : List Json) (i : ℕ) (v d : Json) → i < length vs → v ≡ get_or vs i d → items_view (drop i vs) ≡ item (view v) (items_view (drop (i + 1) vs))
items-at vs i v d within is = rw (drop_more vs i d within) (ap (λ (w : Json). item (view w) (items_view (drop (i + 1) vs))) (sym is))

-- the row at a place, of an array whose rows before it were read
module _ (wanted : Result (List Row) Refusal) (front : List Row) (vs : List Json) (i : ℕ) (v d : Json) (within : i < length vs) (is : v ≡ get_or vs i d)
    (before : wanted ≡ read_rows i front (items_view (drop i vs))) where
  abbrev next : Row → Result (List Row) Refusal
  next row = read_rows (suc i) (front ++ row ∷ []) (items_view (drop (i + 1) vs))

  here : wanted ≡ (under (decimal i) (read_row (view v) >>= if_new front) >>= next)
  here = before ∙ ap (read_rows i front) (items-at vs i v d within is)

  -- it is refused for what stands in it
  pub row-tells : (e f : JsonError) → Tells (read_row (view v)) e → Lifts (decimal i) e f → Tells wanted f
  row-tells e f told lifts =
      tells-same (under (decimal i) (read_row (view v) >>= if_new front) >>= next) wanted f here
      (step-tells (decimal i) (read_row (view v) >>= if_new front) next e f (stops (read_row (view v)) (if_new front) e told) lifts)

  new-at : (row : Row) (b : Bool) → read_row (view v) ≡ Ok row → has_request (spelling (dictionary_of row.0)) front ≡ b
      → (read_row (view v) >>= if_new front) ≡ (if b then shape else Ok row)
  new-at row b read found = ap (λ (r : Result Row Refusal). r >>= if_new front) read ∙ ap (λ (c : Bool). if c then shape else Ok row) found

  -- or since its request stands in an earlier row
  pub again-tells : (row : Row) (e f : JsonError) → read_row (view v) ≡ Ok row → has_request (spelling (dictionary_of row.0)) front ≡ true → IsTold (other_shape, []) e
      → Lifts (decimal i) e f → Tells wanted f
  again-tells row e f read found told lifts =
      tells-same (under (decimal i) (read_row (view v) >>= if_new front) >>= next) wanted f here
      (step-tells (decimal i) (read_row (view v) >>= if_new front) next e f (tells-same shape (read_row (view v) >>= if_new front) e (new-at row true read found) told) lifts)

  -- or it is one row more
  pub next-row : (row : Row) → read_row (view v) ≡ Ok row → has_request (spelling (dictionary_of row.0)) front ≡ false
      → wanted ≡ read_rows (i + 1) (front ++ row ∷ []) (items_view (drop (i + 1) vs))
  next-row row read found =
      here ∙ ap (λ (r : Result Row Refusal). under (decimal i) r >>= next) (new-at row false read found)
      ∙ ap (λ (n : ℕ). read_rows n (front ++ row ∷ []) (items_view (drop (i + 1) vs))) (sym (add-one i))

-- ---- the limits

pub within-tells : (wanted : Result (Unit {0}) Refusal) (rows : List Row) (i : ℕ) (r d : Row) (e f : JsonError) → i < length rows → r ≡ get_or rows i d
    → Tells (row_within r) e → Lifts (decimal i) e f → wanted ≡ rows_within i (drop i rows) → Tells wanted f
within-tells wanted rows i r d e f within is told lifts before =
    let rest = drop (i + 1) rows in
    let here : drop i rows ≡ r ∷ rest = drop_more rows i d within ∙ ap (λ (x : Row). x ∷ rest) (sym is) in
    tells-same (under (decimal i) (row_within r) >>= (λ v. rows_within (suc i) rest)) wanted f (before ∙ ap (rows_within i) here)
    (step-tells (decimal i) (row_within r) (λ v. rows_within (suc i) rest) e f told lifts)
