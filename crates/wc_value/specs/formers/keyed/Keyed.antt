-- `Keyed` as a type that may hold the type that holds it, by the values of its entries.
use mathlib.Core.Path.{◌≡◌, refl, sym, subst}
use mathlib.Core.List.{List, [], ◌∷◌}
use mathlib.Core.Former.{Former, this, list, via, children}
use mathlib.Core.HLevel.{×_prop}
use native.Mathlib.Bridge.{le_prop}
use lib.ListN.{length-map}
use Rattle.std.specs.Prelude.{ℕ, ◌<◌, ◌^◌}
use denote.RattleType.{RattleType}
use denote.HoleLaws.{Alike}
use denote.HolePlaces.{Recodes, struct_places, laid, stays}
use denote.Hole.Carrier.{listed}
use denote.Hole.Fix.{over}
use denote.Param.Weighed.{Weighed, w_list, w_pair, w_const}
use denote.Model.Placed.{view_places}
use denote.Struct.Tuple.{tuple_type, Tuple}
use Rattle.std.specs.formers.vec.Vec as vec
use Rattle.std.specs.declared.alloc.Global.{Global}
use Rattle.std.specs.contracts.alloc.Global as heap
use Rattle.std.specs.contracts.impls.GlobalAllocator.TheImpl.{ghosts}
use Rattle.std.specs.Ordering.{nat_cmp}
use Rattle.std.specs.Cmp.Lexicographic.{slice_cmp}
use Rattle.std.specs.List.Sorted.{IsStrictlySortedBy, IsStrictlySortedBy-prop}
use Rattle.std.specs.Map.{values_of}
use Rattle.wc_value.specs.Entries.{entry, on_value, values_listed, keys_on_values, entries_recoded}
use Rattle.wc_value.specs.contracts.text.Text as text
use Rattle.wc_value.specs.declared.keyed.Keyed.TheInside.{Inside}
use Rattle.wc_value.specs.declared.keyed.Keyed.TheView.{view, invariant}
use Rattle.wc_value.specs.contracts.keyed.Keyed as C
use Rattle.wc_value.specs.contracts.keyed.Keyed.TheInside as I

-- an ascending list of named items as a former of types, by which the toolchain makes folds for types that lead back to themselves through it
abbrev pub the_former : Former {0} → Former {0}
the_former g = list (entry g (List ℕ))

-- that what is inside an ascending list of named items weighs less than the whole
abbrev pub the_weighed : {g : Former {0}} → Weighed g → Weighed (the_former g)
the_weighed w = w_list (w_pair (w_const (List ℕ)) w)

pub the_empty : List (List ℕ × ⊥)
the_empty = []

-- the items of an ascending list of named items
abbrev pub the_items : (X : Type 0) → List (List ℕ × X) → List X
the_items X es = values_of es

pub the_items_listed : (X : Type 0) (es : List (List ℕ × X)) → listed _ (children (the_former this) X es) ≡ the_items X es
the_items_listed X es = values_listed (List ℕ) X es

abbrev fields : Former {0}
fields = via (vec.the_former (entry this (List ℕ)) Global) Inside (λ X a. a.items) (λ X v. record { items = v }) (λ X a. refl) (λ X v. refl)

abbrev pair_row : RattleType → RattleType
pair_row R = Tuple (text.the_row ∷ R ∷ [])

module _ (R S : RattleType) (h : R.Denot → S.Denot) where
  pair_places : Alike R S h → Alike (pair_row R) (pair_row S) (on_value h)
  pair_places a = struct_places (tuple_type (text.the_row ∷ R ∷ [])) (tuple_type (text.the_row ∷ S ∷ [])) ((λ x. x), (h, tt)) (on_value h) (λ d. refl) refl (stays text.the_row, (laid _ _ _ a, tt))

  to : (a : Inside R.Denot) → invariant R.Denot a → invariant S.Denot (fields.map R.Denot S.Denot h a)
  to a p =
      let P : ℕ → Type 0 = λ n. n < 2 ^ 32 in
      (subst (IsStrictlySortedBy (slice_cmp nat_cmp)) (sym (keys_on_values h a.items.items)) p.0, subst P (sym (length-map a.items.items (on_value h))) p.1)

  from : (a : Inside R.Denot) → invariant S.Denot (fields.map R.Denot S.Denot h a) → invariant R.Denot a
  from a p =
      let P : ℕ → Type 0 = λ n. n < 2 ^ 32 in
      (subst (IsStrictlySortedBy (slice_cmp nat_cmp)) (keys_on_values h a.items.items) p.0, subst P (length-map a.items.items (on_value h)) p.1)

  pub the_places : Alike R S h → Alike (C.the_row R) (C.the_row S) ((the_former this).map R.Denot S.Denot h)
  the_places a = view_places fields (the_former this) view (λ X Y k u. refl) (λ X u. refl) R.Denot S.Denot h (C.the_row R).coded (C.the_row S).coded
      (invariant R.Denot) (invariant S.Denot) (λ u. ×_prop (IsStrictlySortedBy-prop _ _) le_prop) (λ u. ×_prop (IsStrictlySortedBy-prop _ _) le_prop) to from
      (over (I.the_row R)) (over (I.the_row S))
      (struct_places (I.the_type R) (I.the_type S) (vec.mapped (on_value h), tt) _ (λ d. refl) refl (laid _ _ _ (vec.the_places heap.the_row ghosts (pair_row R) (pair_row S) (on_value h) (pair_places a)), tt))

  pub the_codes_placed : Recodes R S h → Recodes (C.the_row R) (C.the_row S) ((the_former this).map R.Denot S.Denot h)
  the_codes_placed e es = entries_recoded text.the_row R S h e es
