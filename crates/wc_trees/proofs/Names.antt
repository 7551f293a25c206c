-- A list is made anew, name by name, out of one whose names differ.
use Rattle.std.proofs.Common.{◌≡◌, ℕ, zero, suc, ◌+◌, Bool, true, false, List, [], ◌∷◌, ◌++◌, Option, Some, None, if◌then◌else◌, refl, sym, ap, ◌∙◌, append_assoc, append-nil}
use Rattle.std.specs.Prelude.{map, take, slice_get}
use native.Mathlib.Numerals.{unary_clauses}
use Rattle.std.specs.Str.{bytes_eq}
use Rattle.wc_state.specs.Context.{found_at, with_set, DifferFrom, KeysDiffer}

abbrev pub names : {T : Type 0} → List (List ℕ × T) → List (List ℕ)
names ps = map (λ p. p.0) ps

module _ {T : Type 0} where
  passed : (b : Bool) (x : T) (o : Option T) → (if b then Some x else o) ≡ None → (b ≡ false) × (o ≡ None)
  passed true x o h = absurd cc
  passed false x o h = (refl, h)

  put_last : (b : Bool) (p : List ℕ × T) (key : List ℕ) (held : T) (ps : List (List ℕ × T)) → b ≡ false → with_set ps key held ≡ ps ++ (key, held) ∷ []
      → (if b then (p.0, held) ∷ ps else p ∷ with_set ps key held) ≡ p ∷ (ps ++ (key, held) ∷ [])
  put_last true p key held ps h rest = absurd (cc)
  put_last false p key held ps h rest = ap (λ (xs : List (List ℕ × T)). p ∷ xs) rest

  -- a new name goes last
  pub set_new : (ps : List (List ℕ × T)) (key : List ℕ) (held : T) → found_at ps key ≡ None → with_set ps key held ≡ ps ++ (key, held) ∷ []
  set_new [] key held h = refl
  set_new (p ∷ ps) key held h =
      let r = passed (bytes_eq key p.0) p.1 (found_at ps key) h in
      put_last (bytes_eq key p.0) p key held ps r.0 (set_new ps key held r.1)

  -- the name at a place isn't before it
  new_from : (front ps : List (List ℕ × T)) (at : ℕ) (e : List ℕ × T) → DifferFrom front ps → slice_get ps at ≡ Some e → found_at (front ++ take at ps) e.0 ≡ None
  new_from front [] at e d h = absurd (cc)
  new_from front (p ∷ ps) zero e d h =
      let same : p ≡ e = cc in
      ap (λ (xs : List (List ℕ × T)). found_at xs e.0) (append-nil front) ∙ ap (λ (q : List ℕ × T). found_at front q.0) (sym same) ∙ d.0
  new_from front (p ∷ ps) (suc at) e d h =
      ap (λ (xs : List (List ℕ × T)). found_at xs e.0) (sym (append_assoc front (p ∷ []) (take at ps))) ∙ new_from (front ++ p ∷ []) ps at e d.1 h

  pub new_at : (ps : List (List ℕ × T)) (at : ℕ) (e : List ℕ × T) → KeysDiffer ps → slice_get ps at ≡ Some e → found_at (take at ps) e.0 ≡ None
  new_at ps at e d h = new_from [] ps at e d h

  -- up to the next place there is one more
  pub one_more : (ps : List (List ℕ × T)) (at : ℕ) (e : List ℕ × T) → slice_get ps at ≡ Some e → take (suc at) ps ≡ take at ps ++ e ∷ []
  one_more [] at e h = absurd (cc)
  one_more (p ∷ ps) zero e h =
      let same : p ≡ e = cc in
      ap (λ (q : List ℕ × T). q ∷ []) same
  one_more (p ∷ ps) (suc at) e h = ap (λ (xs : List (List ℕ × T)). p ∷ xs) (one_more ps at e h)

  named_after : (xs : List (List ℕ × T)) (e : List ℕ × T) → names (xs ++ e ∷ []) ≡ names xs ++ e.0 ∷ []
  named_after [] e = refl
  named_after (x ∷ xs) e = ap (λ (ns : List (List ℕ)). x.0 ∷ ns) (named_after xs e)

missed : {S : Type 0} (a : Bool) (x : S) (o : Option S) → a ≡ false → o ≡ None → (if a then Some x else o) ≡ None
missed true x o h r = absurd (cc)
missed false x o h r = r

module _ {S T : Type 0} where
  -- equal names hold the same keys
  none_by_names : (xs : List (List ℕ × S)) (ys : List (List ℕ × T)) (key : List ℕ) → names xs ≡ names ys → found_at ys key ≡ None → found_at xs key ≡ None
  none_by_names [] ys key n h = refl
  none_by_names (x ∷ xs) [] key n h = absurd (cc)
  none_by_names (x ∷ xs) (y ∷ ys) key n h =
      let r = passed (bytes_eq key y.0) y.1 (found_at ys key) h in
      let first : x.0 ≡ y.0 = cc in
      let others : names xs ≡ names ys = cc in
      missed (bytes_eq key x.0) x.1 (found_at xs key) (ap (λ (name : List ℕ). bytes_eq key name) first ∙ r.0) (none_by_names xs ys key others r.1)

  -- the name of the next place is set as a new one
  pub set_next : (xs : List (List ℕ × S)) (ys : List (List ℕ × T)) (at : ℕ) (e : List ℕ × T) (held : S) → names xs ≡ names (take at ys) → KeysDiffer ys
      → slice_get ys at ≡ Some e → with_set xs e.0 held ≡ xs ++ (e.0, held) ∷ []
  set_next xs ys at e held n d h = set_new xs e.0 held (none_by_names xs (take at ys) e.0 n (new_at ys at e d h))

  pub names_next : (xs more : List (List ℕ × S)) (ys : List (List ℕ × T)) (at : ℕ) (e : List ℕ × T) (held : S) → names xs ≡ names (take at ys)
      → slice_get ys at ≡ Some e → more ≡ xs ++ (e.0, held) ∷ [] → names more ≡ names (take (at + 1) ys)
  names_next xs more ys at e held n h m =
      simp unary_clauses (ap names m ∙ named_after xs (e.0, held) ∙ ap (λ (ns : List (List ℕ)). ns ++ e.0 ∷ []) n ∙ sym (named_after (take at ys) e) ∙ ap names (sym (one_more ys at e h)))
