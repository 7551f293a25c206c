-- What is told of what is read, one level up and one element further.
use Rattle.std.proofs.Common.{◌≡◌, inl, inr, ℕ, suc, List, [], ◌∷◌, ◌++◌, ◌+◌, ◌<◌, length, drop, get_or, Result, Ok, Err, refl, ap, sym, ◌∙◌}
use Rattle.std.specs.Prelude.{decimal}
use Rattle.std.proofs.Math.Numerals.{add-one}
use Rattle.std.proofs.lemmas.List.{drop_more}
use Rattle.serde_json.specs.Data.{item}
use Rattle.serde_json.specs.View.{view, items_view}
use Rattle.serde_json.specs.declared.value.Value.{Value as Json}
use Rattle.wc_value.specs.declared.value.Value.{Value}
use Rattle.wc_json.specs.declared.error.JsonError.{JsonError}
use Rattle.wc_json.specs.declared.error.JsonError.TheVariants as error
use Rattle.wc_json.specs.Answers.{IsTold, Tells, Lifts}
use Rattle.wc_json.specs.Reading.{Refusal, path_under, under, ◌>>=◌, read_any, read_items}

-- want of memory may come for whatever is read
pub memory-tells : {A : Type 0} (read : Result A Refusal) → Tells read error.OutOfMemory
memory-tells (Ok x) = refl
memory-tells (Err r) = record {}

lifted-memory : (step : List ℕ) (e f : JsonError) → e ≡ error.OutOfMemory → Lifts step e f → f ≡ error.OutOfMemory
lifted-memory step error.NotJson f is lifts = lifts ∙ is
lifted-memory step (error.Float path) f is lifts = absurd (cc is)
lifted-memory step (error.OutOfRange path) f is lifts = absurd (cc is)
lifted-memory step (error.Shape path) f is lifts = absurd (cc is)
lifted-memory step error.OutOfMemory f is lifts = lifts

abbrev one-more : List ℕ → Refusal → Refusal
one-more step q = (q.0, path_under step q.1)

told-lifts : (step : List ℕ) (r : Refusal) (e f : JsonError) → IsTold r e → Lifts step e f → IsTold (r.0, path_under step r.1) f
told-lifts step r error.NotJson f told lifts = absurd told
told-lifts step r (error.Float path) f told (inl is) = rw is (ap (one-more step) told)
told-lifts step r (error.Float path) f told (inr is) = rw is (record {})
told-lifts step r (error.OutOfRange path) f told (inl is) = rw is (ap (one-more step) told)
told-lifts step r (error.OutOfRange path) f told (inr is) = rw is (record {})
told-lifts step r (error.Shape path) f told (inl is) = rw is (ap (one-more step) told)
told-lifts step r (error.Shape path) f told (inr is) = rw is (record {})
told-lifts step r error.OutOfMemory f told is = rw is (record {})

-- what is refused inside a step is refused with the step in front
pub step-tells : {A B : Type 0} (step : List ℕ) (read : Result A Refusal) (next : A → Result B Refusal) (e f : JsonError) → Tells read e → Lifts step e f
    → Tells (under step read >>= next) f
step-tells step (Ok x) next e f told lifts = rw (lifted-memory step e f told lifts) (memory-tells (next x))
step-tells step (Err r) next e f told lifts = told-lifts step r e f told lifts

-- what tells one reading tells an equal one
pub tells-same : {A : Type 0} (one other : Result A Refusal) (e : JsonError) → other ≡ one → Tells one e → Tells other e
tells-same one other e same tells = rw same tells

-- the element at a place, before those behind it
pub items-here : (vs : List Json) (i : ℕ) (v : Json) → i < length vs → v ≡ get_or vs i v → items_view (drop i vs) ≡ item (view v) (items_view (drop (i + 1) vs))
items-here vs i v within is =
    rw (drop_more vs i v within) (ap (λ (w : Json). item (view w) (items_view (drop (i + 1) vs))) (sym is))

pub next-item : (wanted : Result (List Value) Refusal) (front : List Value) (got : Value) (vs : List Json) (i : ℕ) (v : Json) → i < length vs → v ≡ get_or vs i v
    → read_any (view v) ≡ Ok got → wanted ≡ read_items i front (items_view (drop i vs)) → wanted ≡ read_items (i + 1) (front ++ got ∷ []) (items_view (drop (i + 1) vs))
next-item wanted front got vs i v within is read before =
    let more = items_view (drop (i + 1) vs) in
    before ∙ ap (read_items i front) (items-here vs i v within is)
    ∙ ap (λ (r : Result Value Refusal). under (decimal i) r >>= (λ w. read_items (suc i) (front ++ w ∷ []) more)) read
    ∙ ap (λ (n : ℕ). read_items n (front ++ got ∷ []) more) (sym (add-one i))

pub item-tells : (wanted : Result (List Value) Refusal) (front : List Value) (vs : List Json) (i : ℕ) (v : Json) (e f : JsonError) → i < length vs → v ≡ get_or vs i v
    → Tells (read_any (view v)) e → Lifts (decimal i) e f → wanted ≡ read_items i front (items_view (drop i vs)) → Tells wanted f
item-tells wanted front vs i v e f within is told lifts before =
    let more = items_view (drop (i + 1) vs) in
    tells-same _ wanted f (before ∙ ap (read_items i front) (items-here vs i v within is))
    (step-tells (decimal i) (read_any (view v)) (λ w. read_items (suc i) (front ++ w ∷ []) more) e f told lifts)
