-- No value has a float.
use Rattle.std.proofs.Common.{◌≡◌, ℤ, Bool, true, false, ℕ, List, [], ◌∷◌, map, refl, ap, ◌∙◌, subst}
use Rattle.std.specs.Prelude.{pos, negsuc, if◌then◌else◌}
use Rattle.std.specs.Str.{is_utf8}
use Rattle.serde_json.specs.Data.{Data, string}
use Rattle.serde_json.specs.Find.{of_integer, is_float}
use Rattle.serde_json.specs.Written.{has_float, items_have_float, members_have_float}
use Rattle.wc_value.specs.declared.value.Value.{Value, fold-roll-Value, ind-Value, map-Value}
use Rattle.wc_value.specs.declared.value.Value.TheOpen.{Value-F}
use Rattle.wc_json.specs.Writing.{elements_by, members_by, hex_data, content_data, level, data_of}

int_is_whole : (z : ℤ) → is_float (of_integer z) ≡ false
int_is_whole (pos n) = refl
int_is_whole (negsuc n) = refl

content_is_whole_at : (bytes : List ℕ) (b : Bool) → has_float (if b then string bytes else hex_data bytes) ≡ false
content_is_whole_at bytes true = refl
content_is_whole_at bytes false = refl

files_are_whole : (fs : List (List ℕ × List ℕ)) → members_have_float (members_by content_data fs) ≡ false
files_are_whole [] = refl
files_are_whole (f ∷ fs) = rw (content_is_whole_at f.1 (is_utf8 f.1)) (files_are_whole fs)

abbrev IsWhole : Value → Type 0
IsWhole v = has_float (data_of v) ≡ false

abbrev Known : Type 0
Known = (v : Value) × IsWhole v

items_are_whole : (vs : List Known) → items_have_float (elements_by data_of (map (λ s. s.0) vs)) ≡ false
items_are_whole [] = refl
items_are_whole (s ∷ vs) = rw s.1 (items_are_whole vs)

pairs_are_whole : (ps : List (List ℕ × Known)) → members_have_float (members_by data_of (map (λ p. (p.0, p.1.0)) ps)) ≡ false
pairs_are_whole [] = refl
pairs_are_whole (p ∷ ps) = rw p.1.1 (pairs_are_whole ps)

level_is_whole : (y : Value-F Known) → has_float (level (map-Value Value Data data_of (map-Value Known Value (λ s. s.0) y))) ≡ false
level_is_whole (Value-F.Int n) = int_is_whole n
level_is_whole (Value-F.Bool b) = refl
level_is_whole (Value-F.Text t) = refl
level_is_whole (Value-F.List vs) = items_are_whole vs
level_is_whole (Value-F.Dict ps) = pairs_are_whole ps
level_is_whole (Value-F.Folder fs) = files_are_whole fs

pub whole : (v : Value) → has_float (data_of v) ≡ false
whole = ind-Value IsWhole (λ x y is. ap has_float (fold-roll-Value Data level x) ∙ subst (λ z. has_float (level (map-Value Value Data data_of z)) ≡ false) is (level_is_whole y))
