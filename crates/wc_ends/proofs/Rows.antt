-- Rows of a table, by their requests.
use Rattle.std.proofs.Common.{◌≡◌, ◌≢◌, ℕ, zero, suc, ◌<◌, Bool, true, false, List, [], ◌∷◌, Some, length, refl, sym, ap, ◌∙◌, arith}
use Rattle.std.specs.Prelude.{if◌then◌else◌, slice_index_or}
use Rattle.wc_value.specs.Requests.{requests}
use Rattle.wc_value.specs.declared.process.JobResult.{JobResult}
use Rattle.wc_value.specs.declared.process.Request.{Request}
use Rattle.wc_semantics.specs.Tables.{request_eq, row_of}
use Rattle.wc_meaning.proofs.Requests.{request_itself, request_same}
use Rattle.wc_transport.specs.Obliging.{HasRow}
use Rattle.wc_transport.specs.Outside.{IsRow}

abbrev Rows : Type 0
Rows = List (Request × JobResult)

-- the request at a place of the rows
request_at : (rows : Rows) (k : ℕ) (d : Request × JobResult) → k < length rows → slice_index_or (requests rows) k d.0 ≡ (slice_index_or rows k d).0
request_at [] k d lt = absurd (omega (arith, lt))
request_at (r ∷ rs) zero d lt = refl
request_at (r ∷ rs) (suc k) d lt = request_at rs k d (omega (arith, lt))

many : (rows : Rows) → length (requests rows) ≡ length rows
many [] = refl
many (r ∷ rs) = ap suc (many rs)

-- where the requests differ, the result of a row is that of the first row with its request
row_at : (q : Request) (x : JobResult) (rows : Rows) → ((i j : ℕ) (d : Request) → i < j → j < length (requests rows) → slice_index_or (requests rows) i d ≢ slice_index_or (requests rows) j d)
    → (k : ℕ) → k < length rows → slice_index_or rows k (q, x) ≡ (q, x) → row_of q rows ≡ Some x
row_at q x [] differ k lt is = absurd (omega (arith, lt))
row_at q x (r ∷ rs) differ zero lt is =
    let own : request_eq r.0 q ≡ true = ap (λ (y : Request × JobResult). request_eq y.0 q) is ∙ request_itself q in
    ap (λ (b : Bool). if b then Some r.1 else row_of q rs) own ∙ ap (λ (y : Request × JobResult). Some y.1) is
row_at q x (r ∷ rs) differ (suc k) lt is =
    let below : k < length rs = omega (arith, lt) in
    let all : length (requests rs) ≡ length rs = many rs in
    let apart : r.0 ≢ slice_index_or (requests rs) k q = differ 0 (suc k) q (omega arith) (omega (arith, below, all)) in
    let there : slice_index_or (requests rs) k q ≡ q = request_at rs k (q, x) below ∙ ap (λ (y : Request × JobResult). y.0) is in
    by (request_eq r.0 q) refl (λ e. apart (e ∙ sym there))
    (row_at q x rs (λ i j d lt within. differ (suc i) (suc j) d (omega (arith, lt)) (omega (arith, within))) k below is)
  where
    by : (b : Bool) → request_eq r.0 q ≡ b → (r.0 ≡ q → ⊥) → row_of q rs ≡ Some x → (if b then Some r.1 else row_of q rs) ≡ Some x
    by true e other rest = absurd (other (request_same r.0 q e))
    by false e other rest = rest

pub row_is : (q : Request) (x : JobResult) (rows : Rows) → IsRow q x rows → row_of q rows ≡ Some x
row_is q x rows row = row_at q x rows row.distinct row.stands.0 row.stands.1 row.stands.2

-- a request that has a result stands in the table
pub row_stands : (q : Request) (x : JobResult) (rows : Rows) → row_of q rows ≡ Some x → HasRow q rows
row_stands q x [] h = absurd (cc h)
row_stands q x (r ∷ rs) h = by (request_eq r.0 q) refl h (row_stands q x rs)
  where
    later : HasRow q rs → HasRow q (r ∷ rs)
    later (k, lt, is) = (suc k, omega (arith, lt), is)

    by : (b : Bool) → request_eq r.0 q ≡ b → (if b then Some r.1 else row_of q rs) ≡ Some x → (row_of q rs ≡ Some x → HasRow q rs) → HasRow q (r ∷ rs)
    by true e is below = (0, omega arith, request_same r.0 q e)
    by false e is below = later (below is)
