-- Rows whose requests have told their canonical bytes.
use Rattle.std.proofs.Common.{◌≡◌, ◌⊎◌, inl, inr, ⊎_elim, ℕ, zero, suc, ◌+◌, ◌<◌, ◌≤◌, List, [], ◌∷◌, Bool, true, false, Option, Some, None, is_some, slice_get, if◌then◌else◌, length, take, get_or, refl, sym, ap, subst, ◌∙◌, arith}
use Rattle.std.proofs.lemmas.Bool.{cases_eq, cases_lt}
use Rattle.std.proofs.lemmas.List.{get_or-take}
use Rattle.std.proofs.lemmas.Slice.Eq.{bytes_eq-Decides}
use Rattle.std.specs.BTreeMap.{BTreeMap, insert_entry}
use Rattle.std.specs.List.{Contains}
use Rattle.std.specs.Str.{bytes_eq}
use Rattle.wc_value.specs.Indexes.{IsIndex, IsTold, place_at}
use Rattle.wc_value.specs.Requests.{IsDistinct, RepeatsFirst, requests, dictionary_of}
use Rattle.wc_value.specs.Spells.{Spells}
use Rattle.wc_value.specs.declared.process.Request.{Request}
use Rattle.wc_value.specs.declared.process.JobResult.{JobResult}
use Rattle.wc_value.proofs.Keys.{contains_key, lacks_key}
use Rattle.wc_value.proofs.Named.{Got, Key, got, order}
use Rattle.wc_value.proofs.Respelled.{spells_is}
use Rattle.wc_value.proofs.Variants.{same_requests}

pub none_told : (rows : List (Request × JobResult)) (bytes : List ℕ) → IsTold rows 0 bytes → ⊥
none_told rows bytes t = let h = t.before in omega arith

length_take : {A : Type 0} (n : ℕ) (xs : List A) (k : ℕ) → k < n → n < length xs → k < length (take n xs)
length_take zero xs k h l = absurd (omega arith)
length_take (suc n) [] k h l = absurd (omega arith)
length_take (suc n) (x ∷ xs) zero h l = omega arith
length_take (suc n) (x ∷ xs) (suc k) h l = let r = length_take n xs k (omega arith) (omega arith) in omega arith

-- told bytes are of a request that stands in an earlier row
pub told_earlier : (rows : List (Request × JobResult)) (n : ℕ) (q : Request) (bytes : List ℕ) → n < length rows → Spells (dictionary_of q) bytes
    → IsTold rows n bytes → Contains (requests (take n rows)) q
told_earlier [] n q bytes l s t = absurd (omega arith)
told_earlier (row ∷ rows) n q bytes l s t =
    contains_key (take n (row ∷ rows)) t.place q row (length_take n (row ∷ rows) t.place t.before l)
    (ap (λ (r : Request × JobResult). r.0) (get_or-take n (row ∷ rows) t.place row t.before) ∙ same_requests _ q bytes (t.spells row) s)

same_row : {A : Type 0} (xs : List A) (k : ℕ) (d e : A) → k < length xs → get_or xs k d ≡ get_or xs k e
same_row [] k d e h = absurd (omega arith)
same_row (x ∷ xs) zero d e h = refl
same_row (x ∷ xs) (suc k) d e h = same_row xs k d e (omega arith)

-- and a request whose bytes are not told stands in none
pub untold_new : (rows : List (Request × JobResult)) (n : ℕ) (q : Request) (bytes : List ℕ) → n < length rows → Spells (dictionary_of q) bytes
    → (IsTold rows n bytes → ⊥) → Contains (requests (take n rows)) q → ⊥
untold_new rows n q bytes l s untold =
    lacks_key (take n rows) q (λ k d h e.
    let below : k < n = take_below n rows k h in
    untold (record {
      place = k;
      before = below;
      spells = λ f. subst (λ (r : Request). Spells (dictionary_of r) bytes)
          (sym e ∙ ap (λ (r : Request × JobResult). r.0) (get_or-take n rows k d below ∙ same_row rows k d f (omega arith))) s;
    }))
  where
    take_below : {A : Type 0} (n : ℕ) (xs : List A) (k : ℕ) → k < length (take n xs) → k < n
    take_below zero xs k h = absurd (omega arith)
    take_below (suc n) [] k h = absurd (omega arith)
    take_below (suc n) (x ∷ xs) zero h = omega arith
    take_below (suc n) (x ∷ xs) (suc k) h = let r = take_below n xs k (omega arith) in omega arith

pub told_more : (rows : List (Request × JobResult)) (n : ℕ) (bytes : List ℕ) → IsTold rows n bytes → IsTold rows (n + 1) bytes
told_more rows n bytes t = let h = t.before in record { place = t.place; before = omega arith; spells = t.spells }

-- the request at n tells its bytes
pub told_here : (rows : List (Request × JobResult)) (n : ℕ) (d : Request × JobResult) (bytes : List ℕ) → n < length rows
    → Spells (dictionary_of (get_or rows n d).0) bytes → IsTold rows (n + 1) bytes
told_here rows n d bytes l s = record {
  place = n;
  before = omega arith;
  spells = λ f. subst (λ (r : Request × JobResult). Spells (dictionary_of r.0) bytes) (same_row rows n d f l) s;
}

-- ---- places by told bytes

pub index_none : (rows : List (Request × JobResult)) (places : BTreeMap Key ℕ) → places.entries ≡ [] → IsIndex rows 0 places
index_none rows places e = record {
  told = λ bytes i found. let none : place_at bytes places ≡ None = ap (Got bytes) e in absurd (cc (none, found));
  every = λ bytes t none. none_told rows bytes t;
}

one_row_more : (rows : List (Request × JobResult)) (n : ℕ) (d : Request × JobResult) (bytes : List ℕ)
    → IsTold rows (n + 1) bytes → IsTold rows n bytes ⊎ Spells (dictionary_of (get_or rows n d).0) bytes
one_row_more rows n d bytes t =
    ⊎_elim
    (λ (e : t.place ≡ n). inr (subst (λ (k : ℕ). Spells (dictionary_of (get_or rows k d).0) bytes) e (t.spells d)))
    (λ (ne : t.place ≡ n → ⊥). inl (record { place = t.place; before = earlier ne; spells = t.spells }))
    (cases_eq t.place n)
  where
    earlier : (t.place ≡ n → ⊥) → t.place < n
    earlier ne = ⊎_elim (λ (h : t.place < n). h) (λ (h : n ≤ t.place). let b = t.before in absurd (ne (omega arith))) (cases_lt t.place n)

-- the place of the next row, put into the map
pub index_more : (places more : BTreeMap Key ℕ) (rows : List (Request × JobResult)) (n : ℕ) (row d : Request × JobResult) (key : Key) → n < length rows
    → row ≡ get_or rows n d → Spells (dictionary_of row.0) key.items → more.entries ≡ insert_entry order places.entries key n → IsIndex rows n places → IsIndex rows (n + 1) more
unfolding told_more told_here
index_more places more rows n row d key l is s entries index = record {
  told = λ bytes i found. told bytes i (bytes_eq key.items bytes) refl (sym (now bytes) ∙ found);
  every = λ bytes t none. every bytes (bytes_eq key.items bytes) refl (one_row_more rows n d bytes t) (sym (now bytes) ∙ none);
}
  where
    here : Spells (dictionary_of (get_or rows n d).0) key.items
    here = subst (λ (r : Request × JobResult). Spells (dictionary_of r.0) key.items) is s

    now : (bytes : List ℕ) → place_at bytes more ≡ (if bytes_eq key.items bytes then Some n else place_at bytes places)
    now bytes = ap (Got bytes) entries ∙ got bytes key n places.entries

    told : (bytes : List ℕ) (i : ℕ) (b : Bool) → bytes_eq key.items bytes ≡ b → (if b then Some n else place_at bytes places) ≡ Some i → (t : IsTold rows (n + 1) bytes) × (t.place ≡ i)
    told bytes i true same found =
        let e : n ≡ i = cc in
        (told_here rows n d bytes l (subst (Spells (dictionary_of (get_or rows n d).0)) ((bytes_eq-Decides key.items bytes).0 same) here), e)
    told bytes i false other found = let t = index.told bytes i found in (told_more rows n bytes t.0, t.1)

    every : (bytes : List ℕ) (b : Bool) → bytes_eq key.items bytes ≡ b → IsTold rows n bytes ⊎ Spells (dictionary_of (get_or rows n d).0) bytes
        → (if b then Some n else place_at bytes places) ≡ None → ⊥
    every bytes true same t none = absurd (cc)
    every bytes false other (inl old) none = index.every bytes old none
    every bytes false other (inr new) none =
        let same : bytes_eq key.items bytes ≡ true = (bytes_eq-Decides key.items bytes).1 (spells_is _ _ here ∙ sym (spells_is _ _ new)) in
        absurd (cc (same, other))

-- the place that is kept for a request's bytes is that of its row
pub told_row : (rows : List (Request × JobResult)) (places : BTreeMap Key ℕ) (q : Request) (bytes : List ℕ) (i : ℕ) (row d : Request × JobResult) → Spells (dictionary_of q) bytes
    → IsIndex rows (length rows) places → place_at bytes places ≡ Some i → row ≡ get_or rows i d → Contains rows (q, row.1)
told_row rows places q bytes i row d s index found is =
    let t = index.told bytes i found in
    let lt = t.0.before in
    let at : get_or rows t.0.place d ≡ row = ap (λ (k : ℕ). get_or rows k d) t.1 ∙ sym is in
    let asked : row.0 ≡ q = same_requests row.0 q bytes (subst (λ (r : Request × JobResult). Spells (dictionary_of r.0) bytes) at (t.0.spells d)) s in
    (t.0.place, lt, same_row rows t.0.place (q, row.1) d lt ∙ at ∙ (λ j. (asked j, row.1)))

pub place_within : (rows : List (Request × JobResult)) (places : BTreeMap Key ℕ) (bytes : List ℕ) (i : ℕ) → IsIndex rows (length rows) places → place_at bytes places ≡ Some i → i < length rows
place_within rows places bytes i index found = let t = index.told bytes i found in let lt = t.0.before in let e = t.1 in omega arith

-- where no place is kept for a request's bytes, no row has it
pub told_none : (rows : List (Request × JobResult)) (places : BTreeMap Key ℕ) (q : Request) (bytes : List ℕ) → Spells (dictionary_of q) bytes
    → IsIndex rows (length rows) places → place_at bytes places ≡ None → Contains (requests rows) q → ⊥
told_none rows places q bytes s index none =
    lacks_key rows q (λ k d h e.
    index.every bytes (record {
      place = k;
      before = h;
      spells = λ f. subst (λ (r : Request). Spells (dictionary_of r) bytes) (sym e ∙ ap (λ (r : Request × JobResult). r.0) (same_row rows k d f h)) s;
    }) none)

-- ---- what an insertion answers

pub is_none : {A : Type 0} (o : Option A) → is_some o ≡ false → o ≡ None
is_none None h = refl
is_none (Some x) h = absurd (cc)

pub some_is : {A : Type 0} (o : Option A) → is_some o ≡ true → (x : A) × (o ≡ Some x)
some_is None h = absurd (cc)
some_is (Some x) h = (x, refl)

-- ---- no request stands twice

at_place : (rows : List (Request × JobResult)) (i : ℕ) (row : Request × JobResult) (d : Request) → slice_get rows i ≡ Some row → (i < length (requests rows)) × (get_or (requests rows) i d ≡ row.0)
at_place [] i row d h = absurd (cc)
at_place (r ∷ rows) zero row d h = let same : r ≡ row = cc in (omega arith, ap (λ (x : Request × JobResult). x.0) same)
at_place (r ∷ rows) (suc i) row d h = let rest = at_place rows i row d h in let below = rest.0 in (omega arith, rest.1)

in_take : (rows : List (Request × JobResult)) (i k : ℕ) (d : Request) → k < length (requests (take i rows)) → (k < i) × (get_or (requests (take i rows)) k d ≡ get_or (requests rows) k d)
in_take rows zero k d h = absurd (omega arith)
in_take [] (suc i) k d h = absurd (omega arith)
in_take (r ∷ rows) (suc i) zero d h = (omega arith, refl)
in_take (r ∷ rows) (suc i) (suc k) d h = let rest = in_take rows i k d (omega arith) in let below = rest.0 in (omega arith, rest.1)

-- rows whose requests differ are a table
pub no_repeat : (rows : List (Request × JobResult)) (i : ℕ) → RepeatsFirst rows i → IsDistinct (requests rows) → ⊥
no_repeat rows i r distinct =
    let q : Request = r.row.0 in
    let here = at_place rows i r.row q r.at in
    let earlier = in_take rows i r.earlier.0 q r.earlier.1 in
    distinct r.earlier.0 i q earlier.0 here.0 (sym earlier.1 ∙ r.earlier.2 ∙ sym here.1)
