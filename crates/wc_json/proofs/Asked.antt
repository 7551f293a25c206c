-- A set of the canonical bytes of the requests of rows.
use Rattle.std.proofs.Common.{◌≡◌, ℕ, List, [], ◌∷◌, ◌++◌, ◌||◌, Bool, true, false, not, cond, Vec, get_or, refl, sym, ap, subst, ◌∙◌}
use Rattle.std.proofs.lemmas.List.Folds.{list_any-append, list_any_at}
use Rattle.std.proofs.lemmas.Map.Text.{is_eq-slice_cmp}
use Rattle.std.proofs.lemmas.Slice.Eq.{bytes_eq-Decides}
use Rattle.std.specs.declared.alloc.Global.{Global}
use Rattle.std.specs.BTreeMap.{is_at}
use Rattle.std.specs.BTreeSet.{BTreeSet, contains, Updates}
use Rattle.std.specs.List.{Contains, list_any}
use Rattle.std.specs.Str.{bytes_eq}
use Rattle.wc_value.specs.Requests.{requests, dictionary_of, IsDistinct}
use Rattle.wc_value.specs.Spelling.{spelling}
use Rattle.wc_value.specs.declared.process.Request.{Request}
use Rattle.wc_value.proofs.Keys.{distinct_push, lacks_key}
use Rattle.wc_value.proofs.Named.{order}
use Rattle.wc_json.specs.Tables.{Row, has_request}

-- the set has the canonical bytes of the rows' requests, and no others
abbrev pub AreAsked : BTreeSet (Vec ℕ Global) → List Row → Type 0
AreAsked set rows = (key : Vec ℕ Global) → contains order set key ≡ has_request key.items rows

pub none_asked : (set : BTreeSet (Vec ℕ Global)) → set.keys ≡ [] → AreAsked set []
none_asked set e = λ key. ap (λ (ks : List (Vec ℕ Global)). list_any (is_at (order key)) ks) e

joined : (a b : Bool) → cond a true b ≡ (b || (a || false))
joined true true = refl
joined true false = refl
joined false true = refl
joined false false = refl

-- the next row's request is put into the set
pub one_more_asked : (set more : BTreeSet (Vec ℕ Global)) (rows : List Row) (row : Row) (key : Vec ℕ Global) → key.items ≡ spelling (dictionary_of row.0) → Updates order set more key true
    → AreAsked set rows → AreAsked more (rows ++ row ∷ [])
one_more_asked set more rows row key is u asked = λ q.
    let p : Row → Bool = λ r. bytes_eq (spelling (dictionary_of r.0)) q.items in
    u.0 q ∙ (λ i. cond (is_eq-slice_cmp key.items q.items i) true (asked q i)) ∙ ap (λ (k : List ℕ). cond (bytes_eq k q.items) true (list_any p rows)) is
    ∙ joined (p row) (list_any p rows) ∙ sym (list_any-append p rows (row ∷ []))

-- ---- no request stands twice

-- a request whose canonical bytes are none of the rows' stands in none of them
not_among : (rows : List Row) (q : Request) → has_request (spelling (dictionary_of q)) rows ≡ false → Contains (requests rows) q → ⊥
not_among rows q none =
    let wanted : List ℕ = spelling (dictionary_of q) in
    let p : Row → Bool = λ r. bytes_eq (spelling (dictionary_of r.0)) wanted in
    lacks_key rows q (λ k d lt e.
    let here : p (get_or rows k d) ≡ true = ap (λ (r : Request). bytes_eq (spelling (dictionary_of r)) wanted) e ∙ (bytes_eq-Decides wanted wanted).1 refl in
    let found : list_any p rows ≡ true = list_any_at p rows k d lt here in
    absurd (cc))

requests_end : (rows : List Row) (row : Row) → requests (rows ++ row ∷ []) ≡ requests rows ++ row.0 ∷ []
requests_end [] row = refl
requests_end (r ∷ rows) row = ap (λ qs. r.0 ∷ qs) (requests_end rows row)

pub one_more_distinct : (rows : List Row) (row : Row) → has_request (spelling (dictionary_of row.0)) rows ≡ false → IsDistinct (requests rows) → IsDistinct (requests (rows ++ row ∷ []))
one_more_distinct rows row none distinct = subst IsDistinct (sym (requests_end rows row)) (distinct_push (requests rows) row.0 distinct (not_among rows row.0 none))

-- an insertion that is answered with `false` found the bytes there
pub was_there : (added had : Bool) → added ≡ not had → added ≡ false → had ≡ true
was_there added true e h = refl
was_there added false e h = absurd (cc)

pub was_new : (added had : Bool) → added ≡ not had → added ≡ true → had ≡ false
was_new added true e h = absurd (cc)
was_new added false e h = refl
