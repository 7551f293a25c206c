-- An object takes the entries of an ascending list one after another, each at its end.
use Rattle.std.proofs.Common.{◌≡◌, ℕ, ◌+◌, ◌<◌, ◌≤◌, List, [], ◌∷◌, ◌++◌, length, take, get_or, String, Global, Less, Greater, string_bytes, string_cmp, nat_cmp, refl, sym, ap, ◌∙◌}
use Rattle.std.proofs.lemmas.List.{take_more, take_all}
use Rattle.std.proofs.lemmas.Cmp.{nat_list_cmp_total}
use Rattle.std.specs.BTreeMap.{insert_entry}
use Rattle.std.specs.Cmp.Lexicographic.{slice_cmp}
use Rattle.std.specs.List.{AllByRecursion}
use Rattle.std.specs.List.Sorted.{IsStrictlySortedBy}
use Rattle.std.specs.Map.{keys_of}
use Rattle.std.specs.Ordering.{ordering_reverse}
use Rattle.serde_json.specs.Data.{Data, Items, Members, member, put}
use Rattle.serde_json.specs.View.{view, members_view}
use Rattle.serde_json.specs.declared.value.Value.{Value}
use Rattle.serde_json.proofs.Views.{members_view-insert_entry}
use Rattle.wc_value.specs.Ascending.{Ascends}
use Rattle.wc_value.proofs.Entries.{ascends_next}
use Rattle.wc_json.specs.Writing.{elements_by, members_by}

below_last : {A : Type 0} (first : List ℕ) (done : List (List ℕ × A)) (e : List ℕ × A) → AllByRecursion (λ y. slice_cmp nat_cmp first y ≡ Less) (keys_of (done ++ e ∷ [])) → slice_cmp nat_cmp first e.0 ≡ Less
below_last first [] e h = h.0
below_last first (x ∷ done) e h = below_last first done e h.1

put_last : {A : Type 0} (f : A → Data) (done : List (List ℕ × A)) (e : List ℕ × A) → Ascends (done ++ e ∷ [])
    → put e.0 (f e.1) (members_by f done) ≡ members_by f (done ++ e ∷ [])
unfolding IsStrictlySortedBy
put_last f [] e h = refl
put_last f (first ∷ done) e h =
    let above : slice_cmp nat_cmp e.0 first.0 ≡ Greater = nat_list_cmp_total.antisymm e.0 first.0 ∙ ap ordering_reverse (below_last first.0 done e h.0) in
    rw above (ap (member first.0 (f first.1)) (put_last f done e h.1))

next_member : {A : Type 0} (f : A → Data) (items : List (List ℕ × A)) (i : ℕ) (p d : List ℕ × A) → Ascends items → i < length items → p ≡ get_or items i d
    → put p.0 (f p.1) (members_by f (take i items)) ≡ members_by f (take (i + 1) items)
next_member f items i p d a within is =
    put_last f (take i items) p (ascends_next items (take i items) i p d a within refl is)
    ∙ ap (members_by f) (ap (λ q. take i items ++ q ∷ []) is ∙ sym (take_more items i d within))

-- a loop over the entries has inserted one more
pub one_more : {A : Type 0} (f : A → Data) (items : List (List ℕ × A)) (i : ℕ) (p d : List ℕ × A) (old new : List (String Global × Value)) (key : String Global) (json : Value)
    → Ascends items → i < length items → p ≡ get_or items i d → members_view old ≡ members_by f (take i items)
    → new ≡ insert_entry string_cmp old key json → string_bytes key ≡ p.0 → view json ≡ f p.1 → members_view new ≡ members_by f (take (i + 1) items)
one_more f items i p d old new key json a within is before grown named seen =
    ap members_view grown ∙ members_view-insert_entry old key json ∙ (λ j. put (named j) (seen j) (before j)) ∙ next_member f items i p d a within is

pub all_members : {A : Type 0} (f : A → Data) (items entries : List (List ℕ × A)) (n : ℕ) (ms : Members) → ms ≡ members_by f (take n items) → length items ≤ n → items ≡ entries → ms ≡ members_by f entries
all_members f items entries n ms before ended same = before ∙ ap (members_by f) (take_all n items ended ∙ same)

pub all_elements : {A : Type 0} (f : A → Data) (items elements : List A) (n : ℕ) (ds : Items) → ds ≡ elements_by f (take n items) → length items ≤ n → items ≡ elements → ds ≡ elements_by f elements
all_elements f items elements n ds before ended same = before ∙ ap (elements_by f) (take_all n items ended ∙ same)
