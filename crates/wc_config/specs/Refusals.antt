-- Why a table is no settings: all its refusals, and the least of them.
use Rattle.std.specs.Prelude.{ℕ, ℤ, Bool, true, false, ◌&&◌, List, [], ◌∷◌, ◌++◌, Option, Some, None, is_some, if◌then◌else◌, codes, int_le}
use Rattle.std.specs.List.{list_any}
use Rattle.std.specs.Ordering.{nat_cmp, match_ordering}
use Rattle.std.specs.Str.{bytes_eq}
use Rattle.std.specs.Cmp.Lexicographic.{slice_cmp}
use Rattle.toml.specs.Data.{Data, as_bool, as_integer, as_str, as_array, as_table, Items, no_items, item, Members, no_members, member}
use Rattle.wc_config.specs.declared.keys.Holds.{Holds}
use Rattle.wc_config.specs.declared.keys.Holds.TheVariants.{Truth, Names, Number}
use Rattle.wc_config.specs.declared.keys.Part.{Part}
use Rattle.wc_config.specs.declared.keys.Part.TheVariants as part
use Rattle.wc_config.specs.declared.refusals.Kind.{Kind}
use Rattle.wc_config.specs.declared.refusals.Kind.TheVariants.{UnknownKey, BadValue}
use Rattle.wc_config.specs.Keys.{part_named, name_of, holds_of}
use Rattle.wc_config.specs.Settings.{names_at}

-- what is wrong, and the path of the key
abbrev pub Refusal : Type 0
Refusal = Kind × List ℕ

-- the path of a key in a part
abbrev pub path : Part → List ℕ → List ℕ
path p key = name_of p ++ codes "." ++ key

-- ---- values

-- whether a number is there and within its range
abbrev pub is_within : ℤ → ℤ → Option ℤ → Bool
is_within least most None = false
is_within least most (Some z) = int_le least z && int_le z most

-- whether all items are texts
abbrev pub all_strings : Items → Bool
all_strings no_items = true
all_strings (item d ds) = is_some (as_str d) && all_strings ds

-- whether an array of texts is there
abbrev pub are_names : Option Items → Bool
are_names None = false
are_names (Some ds) = all_strings ds

-- a value is one that the setting may hold
abbrev pub is_held : Holds → Data → Bool
is_held Truth d = is_some (as_bool d)
is_held Names d = are_names (as_array d)
is_held (Number least most) d = is_within least most (as_integer d)

-- ---- all refusals

-- the refusals of a key: that it is unknown, or that its value is bad
abbrev pub value_refusals : Part → List ℕ → Option Holds → Data → List Refusal
value_refusals p key None d = (UnknownKey, path p key) ∷ []
value_refusals p key (Some h) d = if is_held h d then [] else (BadValue, path p key) ∷ []

-- the refusals of the keys of a table
abbrev pub member_refusals : Part → Members → List Refusal
member_refusals p no_members = []
member_refusals p (member key d ms) = value_refusals p key (holds_of p key) d ++ member_refusals p ms

-- a part is a table
abbrev pub part_refusals : Part → Option Members → List Refusal
part_refusals p None = (BadValue, name_of p) ∷ []
part_refusals p (Some ms) = member_refusals p ms

-- the refusals of a key at the top: that it is unknown, or those of its table
abbrev pub top_refusals : List ℕ → Option Part → Data → List Refusal
top_refusals key None d = (UnknownKey, key) ∷ []
top_refusals key (Some p) d = part_refusals p (as_table d)

-- the refusals of all keys
abbrev pub all_refusals : Members → List Refusal
all_refusals no_members = []
all_refusals (member key d ms) = top_refusals key (part_named key) d ++ all_refusals ms

-- a name is in both lists
abbrev pub has_both : List (List ℕ) → List (List ℕ) → Bool
has_both names others = list_any (λ n. list_any (λ o. bytes_eq o n) others) names

-- the refusal of names that are both enabled and disabled
abbrev pub both_refusals : Members → List Refusal
both_refusals ms =
    if has_both (names_at (codes "enabled") ms) (names_at (codes "disabled") ms) then (BadValue, path part.Caching (codes "enabled")) ∷ [] else []

-- all refusals of a document
abbrev pub refusals : Members → List Refusal
refusals ms = all_refusals ms ++ both_refusals ms

-- ---- the least

-- of two refusals at one path an unknown key is told
abbrev pub of_two : Refusal → Refusal → Refusal
of_two (UnknownKey, p) r = (UnknownKey, p)
of_two (BadValue, p) r = r

-- the one with the lesser path in byte order
abbrev pub lesser : Option Refusal → Refusal → Option Refusal
lesser None r = Some r
lesser (Some a) r = match_ordering (slice_cmp nat_cmp r.1 a.1) (Some r) (Some (of_two a r)) (Some a)

-- the least refusal, of one and those behind it
abbrev pub least_after : Option Refusal → List Refusal → Option Refusal
least_after best [] = best
least_after best (r ∷ rs) = least_after (lesser best r) rs

-- the least refusal, if there is one
abbrev pub least : List Refusal → Option Refusal
least rs = least_after None rs
