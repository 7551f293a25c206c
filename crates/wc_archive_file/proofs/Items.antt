-- Elements of an array, read one after another.
use Rattle.std.proofs.Common.{◌≡◌, ℕ, zero, suc, ◌+◌, ◌<◌, ◌≤◌, List, [], ◌∷◌, ◌++◌, length, take, get_or, map, Result, refl, sym, ap, ◌∙◌, arith}
use Rattle.std.specs.Prelude.{All, IsErr, IsErrAnd}
use Rattle.std.proofs.lemmas.List.{map-append, take_all, take_more}
use Rattle.std.proofs.lemmas.List.Elements.{All-append, All-cons, All-nil}
use Rattle.serde_json.specs.Data.{Data, Items}
use Rattle.serde_json.specs.View.{items_of, items_view, view}
use Rattle.serde_json.specs.declared.value.Value.{Value as Json}
use Rattle.wc_json.specs.Writing.{elements_by}
use Rattle.wc_archive_file.specs.declared.misread.Misread.{Misread}
use Rattle.wc_archive_file.specs.Reads.{Reads, Refuses}
use Rattle.wc_archive_file.proofs.Steps.{passed, refuses}

items_one : (xs ys : List Data) → items_of xs ≡ items_of ys → xs ≡ ys
items_one [] [] e = refl
items_one [] (y ∷ ys) e = cc
items_one (x ∷ xs) [] e = cc
items_one (x ∷ xs) (y ∷ ys) e =
    let first : x ≡ y = cc in
    let rest : items_of xs ≡ items_of ys = cc in
    λ i. first i ∷ items_one xs ys rest i

module _ {A : Type 0} (write : A → Data) (fits : A → Type 0) where
  -- what was read so far, of the elements before a place
  pub record ReadSoFar (vs : List Json) (i : ℕ) (xs : List A) : Type 0 where
    pub same : map write xs ≡ map view (take i vs)
    pub fit : All fits xs

  pub none_so_far : (vs : List Json) (xs : List A) → xs ≡ [] → ReadSoFar vs 0 xs
  none_so_far vs xs e = rw e (record { same = refl; fit = All-nil fits })

  one_more_at : (vs : List Json) (i : ℕ) (v d : Json) (xs : List A) (x : A) → i < length vs → v ≡ get_or vs i d → ReadSoFar vs i xs → (view v ≡ write x) × fits x
      → ReadSoFar vs (i + 1) (xs ++ x ∷ [])
  one_more_at vs i v d xs x within is so h = record {
    same =
        map-append write xs (x ∷ []) ∙ (λ j. so.same j ++ (sym h.0 ∙ ap view is) j ∷ [])
        ∙ sym (map-append view (take i vs) (get_or vs i d ∷ [])) ∙ ap (λ (l : List Json). map view l) (sym (take_more vs i d within));
    fit = All-append fits xs (x ∷ []) so.fit (All-cons fits x [] h.1 (All-nil fits));
  }

  pub one_more : (vs : List Json) (i : ℕ) (v d : Json) (xs ys : List A) (x : A) → i < length vs → v ≡ get_or vs i d → ReadSoFar vs i xs → (view v ≡ write x) × fits x
      → ys ≡ xs ++ x ∷ [] → ReadSoFar vs (i + 1) ys
  one_more vs i v d xs ys x within is so h grown = rw grown (one_more_at vs i v d xs x within is so h)

  pub all_read : (vs ws : List Json) (n : ℕ) (xs : List A) → length vs ≤ n → vs ≡ ws → ReadSoFar vs n xs → (items_view ws ≡ elements_by write xs) × All fits xs
  all_read vs ws n xs ended same so =
      (ap items_view (sym same) ∙ ap items_of (ap (λ (l : List Json). map view l) (sym (take_all n vs ended)) ∙ sym so.same), so.fit)

  record Element (xs : List A) (i : ℕ) (v : Json) : Type 0 where
    element : A
    fit : fits element
    is : view v ≡ write element

  element_at : (vs : List Json) (xs : List A) (i : ℕ) (d : Json) → map view vs ≡ map write xs → All fits xs → i < length vs → Element xs i (get_or vs i d)
  element_at [] xs i d e h within = absurd (omega arith)
  element_at (v ∷ vs) [] i d e h within = cc
  element_at (v ∷ vs) (x ∷ xs) zero d e h within = record { element = x; fit = h 0 x (omega arith); is = cc }
  element_at (v ∷ vs) (x ∷ xs) (suc i) d e h within =
      let rest : map view vs ≡ map write xs = cc in
      let r = element_at vs xs i d rest (λ k y low. h (suc k) y (omega arith)) (omega arith) in
      record { element = r.element; fit = r.fit; is = r.is }

  -- an element isn't read
  one_unread_at : (vs ws : List Json) (i : ℕ) (v d : Json) (e : Misread) → i < length vs → v ≡ get_or vs i d → vs ≡ ws → Refuses ((x : A) → fits x → view v ≡ write x → ⊥) e
      → Refuses ((xs : List A) → All fits xs → items_view ws ≡ elements_by write xs → ⊥) e
  one_unread_at vs ws i v d e within is same h =
      refuses e (λ never xs fit all.
      let maps : map view vs ≡ map write xs = items_one (map view vs) (map write xs) (ap items_view same ∙ all) in
      let r = element_at vs xs i d maps fit within in
      never r.element r.fit (ap view is ∙ r.is)) h

  pub one_unread : (vs ws : List Json) (i : ℕ) (v d : Json) (r : Result (List A) Misread) (e : Misread) → i < length vs → v ≡ get_or vs i d → vs ≡ ws
      → IsErr r × IsErrAnd r (λ f. f ≡ e) → Refuses ((x : A) → fits x → view v ≡ write x → ⊥) e → Reads (elements_by write) (All fits) (items_view ws) r
  one_unread vs ws i v d r e within is same h never =
      passed (elements_by write) (All fits) (items_view ws) r e h (one_unread_at vs ws i v d e within is same never)

-- ---- elements that were written

pub all_written : {A : Type 0} (write : A → Data) (items elements : List A) (n : ℕ) (ds : Items) → ds ≡ elements_by write (take n items) → length items ≤ n → items ≡ elements → ds ≡ elements_by write elements
all_written write items elements n ds before ended same = before ∙ ap (elements_by write) (take_all n items ended ∙ same)
