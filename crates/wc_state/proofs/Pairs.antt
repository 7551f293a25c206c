-- The words of the map are those of the list of pairs.
use Rattle.std.proofs.Common.{◌≡◌, ℕ, Bool, List, [], ◌∷◌, Option, Some, if◌then◌else◌, refl}
use Rattle.std.specs.Map.{lookup}
use Rattle.std.specs.Cmp.Lexicographic.{nat_list_eq_equiv}
use Rattle.std.specs.Str.{bytes_eq}
use Rattle.indexmap.specs.IndexMap.{insert_entry}
use Rattle.wc_value.specs.Ascending.{lookup as named}
use Rattle.wc_state.specs.Context.{found_at, with_set}

pub with_set_is : {T : Type 0} (ps : List (List ℕ × T)) (key : List ℕ) (held : T) → insert_entry bytes_eq ps key held ≡ with_set ps key held
with_set_is [] key held = refl
with_set_is (p ∷ ps) key held = rw (with_set_is ps key held) refl

pub found_at_is : {T : Type 0} (ps : List (List ℕ × T)) (key : List ℕ) → lookup (bytes_eq key) ps ≡ found_at ps key
found_at_is [] key = refl
found_at_is (p ∷ ps) key = rw (found_at_is ps key) refl

-- ---- the words that are used of any list of names

same_held : {T : Type 0} (a b : Bool) (x : T) (o p : Option T) → a ≡ b → o ≡ p → (if a then Some x else o) ≡ (if b then Some x else p)
same_held a b x o p q r = λ i. if q i then Some x else r i

pub found_at_named : {T : Type 0} (ps : List (List ℕ × T)) (key : List ℕ) → found_at ps key ≡ named key ps
found_at_named [] key = refl
found_at_named (p ∷ ps) key = same_held (bytes_eq key p.0) (bytes_eq p.0 key) p.1 (found_at ps key) (named key ps) (nat_list_eq_equiv.symm key p.0) (found_at_named ps key)
