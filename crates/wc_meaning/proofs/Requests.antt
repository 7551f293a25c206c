-- Rows of a table, by their requests.
use Rattle.std.proofs.Common.{◌≡◌, ℕ, zero, suc, ◌<◌, Bool, true, false, List, [], ◌∷◌, Some, None, length, get_or, refl, sym, ap, subst, ◌∙◌, arith}
use Rattle.std.specs.List.{Contains}
use Rattle.std.specs.Prelude.{if◌then◌else◌, ◌&&◌}
use Rattle.std.specs.Str.{bytes_eq}
use Rattle.std.proofs.lemmas.Slice.Eq.{bytes_eq-Decides}
use Rattle.wc_value.specs.Requests.{IsDistinct, requests}
use Rattle.wc_value.specs.declared.process.JobResult.{JobResult}
use Rattle.wc_value.specs.declared.process.Request.{Request}
use Rattle.wc_semantics.specs.Tables.{texts_eq, files_eq, request_eq, row_of}

left : (a b : Bool) → a && b ≡ true → a ≡ true
left true b h = refl
left false b h = h

right : (a b : Bool) → a && b ≡ true → b ≡ true
right true b h = h
right false b h = absurd (cc)

both : (a b : Bool) → a ≡ true → b ≡ true → a && b ≡ true
both a b p q = ap (λ c. c && b) p ∙ q

pub texts_same : (ts us : List (List ℕ)) → texts_eq ts us ≡ true → ts ≡ us
texts_same [] [] h = refl
texts_same [] (u ∷ us) h = absurd (cc)
texts_same (t ∷ ts) [] h = absurd (cc)
texts_same (t ∷ ts) (u ∷ us) h = λ i. (bytes_eq-Decides t u).0 (left (bytes_eq t u) (texts_eq ts us) h) i ∷ texts_same ts us (right (bytes_eq t u) (texts_eq ts us) h) i

texts_itself : (ts : List (List ℕ)) → texts_eq ts ts ≡ true
texts_itself [] = refl
texts_itself (t ∷ ts) = both (bytes_eq t t) (texts_eq ts ts) ((bytes_eq-Decides t t).1 refl) (texts_itself ts)

files_same : (fs gs : List (List ℕ × List ℕ)) → files_eq fs gs ≡ true → fs ≡ gs
files_same [] [] h = refl
files_same [] (g ∷ gs) h = absurd (cc)
files_same (f ∷ fs) [] h = absurd (cc)
files_same (f ∷ fs) (g ∷ gs) h =
    let one : (bytes_eq f.0 g.0 && bytes_eq f.1 g.1) ≡ true = left (bytes_eq f.0 g.0 && bytes_eq f.1 g.1) (files_eq fs gs) h in
    λ i. ((bytes_eq-Decides f.0 g.0).0 (left (bytes_eq f.0 g.0) (bytes_eq f.1 g.1) one) i, (bytes_eq-Decides f.1 g.1).0 (right (bytes_eq f.0 g.0) (bytes_eq f.1 g.1) one) i)
    ∷ files_same fs gs (right (bytes_eq f.0 g.0 && bytes_eq f.1 g.1) (files_eq fs gs) h) i

files_itself : (fs : List (List ℕ × List ℕ)) → files_eq fs fs ≡ true
files_itself [] = refl
files_itself (f ∷ fs) = both (bytes_eq f.0 f.0 && bytes_eq f.1 f.1) (files_eq fs fs)
    (both (bytes_eq f.0 f.0) (bytes_eq f.1 f.1) ((bytes_eq-Decides f.0 f.0).1 refl) ((bytes_eq-Decides f.1 f.1).1 refl)) (files_itself fs)

pub request_same : (q r : Request) → request_eq q r ≡ true → q ≡ r
request_same q r h =
    let a = bytes_eq q.program r.program in
    let b = texts_eq q.args r.args in
    let c = files_eq q.files r.files in
    let d = texts_eq q.fetch r.fetch in
    let rest : b && (c && d) ≡ true = right a (b && (c && d)) h in
    let last : c && d ≡ true = right b (c && d) rest in
    λ i. record {
      program = (bytes_eq-Decides q.program r.program).0 (left a (b && (c && d)) h) i;
      args = texts_same q.args r.args (left b (c && d) rest) i;
      files = files_same q.files r.files (left c d last) i;
      fetch = texts_same q.fetch r.fetch (right c d last) i;
    }

pub request_itself : (q : Request) → request_eq q q ≡ true
request_itself q = both (bytes_eq q.program q.program) _ ((bytes_eq-Decides q.program q.program).1 refl)
    (both (texts_eq q.args q.args) _ (texts_itself q.args) (both (files_eq q.files q.files) _ (files_itself q.files) (texts_itself q.fetch)))

-- the row is the one that is looked for
row_hit : (q : Request) (r : Request × JobResult) (rs : List (Request × JobResult)) → r.0 ≡ q → row_of q (r ∷ rs) ≡ Some r.1
row_hit q r rs h = ap (λ (b : Bool). if b then Some r.1 else row_of q rs) (subst (λ (x : Request). request_eq r.0 x ≡ true) h (request_itself r.0))

row_miss : (q : Request) (r : Request × JobResult) (rs : List (Request × JobResult)) → (r.0 ≡ q → ⊥) → row_of q (r ∷ rs) ≡ row_of q rs
row_miss q r rs h = by_test (request_eq r.0 q) refl
  where
    by_test : (b : Bool) → request_eq r.0 q ≡ b → (if b then Some r.1 else row_of q rs) ≡ row_of q rs
    by_test true e = absurd (h (request_same r.0 q e))
    by_test false e = refl

-- ---- a row of a table

request_at : (rows : List (Request × JobResult)) (k : ℕ) (row : Request × JobResult) (q : Request) → k < length rows → get_or rows k row ≡ row → get_or (requests rows) k q ≡ row.0
request_at [] k row q lt e = absurd (omega arith)
request_at (r ∷ rs) zero row q lt e = ap (λ (x : Request × JobResult). x.0) e
request_at (r ∷ rs) (suc k) row q lt e = request_at rs k row q (omega arith) e

length_requests : (rows : List (Request × JobResult)) → length (requests rows) ≡ length rows
length_requests [] = refl
length_requests (r ∷ rs) = ap suc (length_requests rs)

-- where no request stands twice, the row that has it is the first
row_at_place : (q : Request) (x : JobResult) (rows : List (Request × JobResult)) (k : ℕ) → IsDistinct (requests rows) → k < length rows → get_or rows k (q, x) ≡ (q, x) → row_of q rows ≡ Some x
row_at_place q x [] k h lt e = absurd (omega arith)
row_at_place q x (r ∷ rs) zero h lt e = row_hit q r rs (ap (λ (y : Request × JobResult). y.0) e) ∙ ap (λ (y : Request × JobResult). Some y.1) e
row_at_place q x (r ∷ rs) (suc k) h lt e =
    let within : k < length rs = omega arith in
    let n = length_requests rs in
    let there : get_or (requests rs) k q ≡ q = request_at rs k (q, x) q within e in
    row_miss q r rs (λ same. h zero (suc k) q (omega arith) (omega arith) (same ∙ sym there))
    ∙ row_at_place q x rs k (λ i j d less low. h (suc i) (suc j) d (omega arith) (omega arith)) within e

pub row_is : (q : Request) (x : JobResult) (rows : List (Request × JobResult)) → IsDistinct (requests rows) → Contains rows (q, x) → row_of q rows ≡ Some x
row_is q x rows h c = row_at_place q x rows c.0 h c.1 c.2

-- and where it stands in none, there is no row
pub no_row : (q : Request) (rows : List (Request × JobResult)) → (Contains (requests rows) q → ⊥) → row_of q rows ≡ None
no_row q [] h = refl
no_row q (r ∷ rs) h = row_miss q r rs (λ same. h (0, omega arith, same)) ∙ no_row q rs (λ c. let lt = c.1 in h (suc c.0, omega arith, c.2))
