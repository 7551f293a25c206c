-- The keys of a map, of which no two are equal, are keys that differ.
use Rattle.std.proofs.Common.{◌≡◌, ℕ, Bool, true, false, cond, List, [], ◌∷◌, ◌++◌, Option, Some, None, refl, ◌∙◌}
use Rattle.std.specs.Cmp.Lexicographic.{nat_list_eq_equiv}
use Rattle.std.specs.List.{AllByRecursion, IsDistinct}
use Rattle.std.specs.Map.{keys_of}
use Rattle.std.specs.Str.{bytes_eq}
use Rattle.wc_state.specs.Context.{found_at, DifferFrom, KeysDiffer}

module _ {T : Type 0} where
  -- none of the pairs has a key that stands in front of them
  abbrev AreNew : List (List ℕ × T) → List (List ℕ × T) → Type 0
  AreNew front [] = Unit {0}
  AreNew front (p ∷ ps) = (found_at front p.0 ≡ None) × AreNew front ps

  step_over : (b : Bool) (c : T) (o : Option T) → b ≡ false → o ≡ None → cond b (Some c) o ≡ None
  step_over true c o h e = absurd (cc h)
  step_over false c o h e = e

  skipped : (b : Bool) (c : T) (o : Option T) → cond b (Some c) o ≡ None → (b ≡ false) × (o ≡ None)
  skipped true c o e = absurd cc
  skipped false c o e = (refl, e)

  not_found : (front : List (List ℕ × T)) (p : List ℕ × T) (key : List ℕ) → found_at front key ≡ None → bytes_eq key p.0 ≡ false → found_at (front ++ p ∷ []) key ≡ None
  not_found [] p key h d = step_over (bytes_eq key p.0) p.1 None d refl
  not_found (f ∷ fs) p key h d =
      let r = skipped (bytes_eq key f.0) f.1 (found_at fs key) h in
      step_over (bytes_eq key f.0) f.1 (found_at (fs ++ p ∷ []) key) r.0 (not_found fs p key r.1 d)

  still_new : (front : List (List ℕ × T)) (p : List ℕ × T) (ps : List (List ℕ × T)) → AreNew front ps → AllByRecursion (λ k. bytes_eq p.0 k ≡ false) (keys_of ps) → AreNew (front ++ p ∷ []) ps
  still_new front p [] n d = tt
  still_new front p (q ∷ qs) n d = (not_found front p q.0 n.0 (nat_list_eq_equiv.symm q.0 p.0 ∙ d.0), still_new front p qs n.1 d.1)

  all_new : (ps : List (List ℕ × T)) → AreNew [] ps
  all_new [] = tt
  all_new (p ∷ ps) = (refl, all_new ps)

  differ_from : (front ps : List (List ℕ × T)) → AreNew front ps → IsDistinct bytes_eq (keys_of ps) → DifferFrom front ps
  unfolding IsDistinct
  differ_from front [] n d = tt
  differ_from front (p ∷ ps) n d = (n.0, differ_from (front ++ p ∷ []) ps (still_new front p ps n.1 d.0) d.1)

  pub keys_differ : (ps : List (List ℕ × T)) → IsDistinct bytes_eq (keys_of ps) → KeysDiffer ps
  keys_differ ps d = differ_from [] ps (all_new ps) d
