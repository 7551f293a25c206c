-- Why a table is no spec: all its refusals, and the least of them.
use Rattle.std.specs.Prelude.{ℕ, Bool, true, false, List, [], ◌∷◌, ◌++◌, Option, Some, None, is_some, if◌then◌else◌, codes}
use Rattle.std.specs.Ordering.{nat_cmp, match_ordering}
use Rattle.std.specs.Cmp.Lexicographic.{slice_cmp}
use Rattle.std.specs.Prelude.{option_and_then}
use Rattle.toml.specs.Data.{Data, as_array, as_table, Items, no_items, item, Members, no_members, member, get_member}
use Rattle.wc_handlers.specs.declared.keys.Holds.{Holds}
use Rattle.wc_handlers.specs.declared.keys.Place.{Place}
use Rattle.wc_handlers.specs.declared.keys.Place.TheVariants as place
use Rattle.wc_handlers.specs.declared.refusals.Kind.{Kind}
use Rattle.wc_handlers.specs.declared.refusals.Kind.TheVariants.{UnknownKey, BadValue}
use Rattle.wc_handlers.specs.Keys.{holds_of, path}
use Rattle.wc_handlers.specs.Values.{is_held}

-- what is wrong, and the path of the key
abbrev pub Refusal : Type 0
Refusal = Kind × List ℕ

-- ---- all refusals

-- the refusals of a key: that it is unknown, or that its value is bad
abbrev pub value_refusals : Place → List ℕ → Option Holds → Data → List Refusal
value_refusals p key None d = (UnknownKey, path p key) ∷ []
value_refusals p key (Some h) d = if is_held h d then [] else (BadValue, path p key) ∷ []

-- the refusals of the keys of a table
abbrev pub member_refusals : Place → Members → List Refusal
member_refusals p no_members = []
member_refusals p (member key d ms) = value_refusals p key (holds_of p key) d ++ member_refusals p ms

-- a key that has to be there
abbrev pub missing : Place → List ℕ → Members → List Refusal
missing p key ms = if is_some (get_member key ms) then [] else (BadValue, path p key) ∷ []

-- exactly one of the two
abbrev pub one_of : Bool → Bool → List Refusal
one_of true false = []
one_of false true = []
one_of _ _ = (BadValue, path place.Handler (codes "abort")) ∷ []

-- a handler either calls a function or ends the chain
abbrev pub remedy_refusals : Members → List Refusal
remedy_refusals ms = one_of (is_some (get_member (codes "call") ms)) (is_some (get_member (codes "abort") ms))

-- all refusals of one handler
abbrev pub handler_refusals : Members → List Refusal
handler_refusals ms =
    member_refusals place.Handler ms ++ (missing place.Handler (codes "statuses") ms ++ (missing place.Handler (codes "priority") ms ++ remedy_refusals ms))

-- the refusals of a handler, if its table is there
abbrev pub table_refusals : Option Members → List Refusal
table_refusals None = []
table_refusals (Some ms) = handler_refusals ms

-- the refusals of handlers
abbrev pub item_refusals : Items → List Refusal
item_refusals no_items = []
item_refusals (item d ds) = table_refusals (as_table d) ++ item_refusals ds

-- the refusals of handlers, if there are any
abbrev pub list_refusals : Option Items → List Refusal
list_refusals None = []
list_refusals (Some ds) = item_refusals ds

-- the handlers of a file
abbrev pub handlers_in : Members → Option Items
handlers_in ms = option_and_then as_array (get_member (codes "handler") ms)

-- All refusals of a table, each a kind and the path of a key: keys that there aren't, values that a key can't have, keys that have to be there (`name`,
-- `of`; of a handler `statuses`, `priority` and exactly one of `call` and `abort`)
abbrev pub refusals : Members → List Refusal
refusals ms =
    member_refusals place.Top ms ++ (missing place.Top (codes "name") ms ++ (missing place.Top (codes "of") ms ++ list_refusals (handlers_in ms)))

-- ---- the least

-- of two refusals at one path an unknown key is told
abbrev pub of_two : Refusal → Refusal → Refusal
of_two (UnknownKey, p) r = (UnknownKey, p)
of_two (BadValue, p) r = r

-- the one with the lesser path in byte order
abbrev pub lesser : Option Refusal → Refusal → Option Refusal
lesser None r = Some r
lesser (Some a) r = match_ordering (slice_cmp nat_cmp r.1 a.1) (Some r) (Some (of_two a r)) (Some a)

-- the least refusal, of one and those behind it
abbrev pub least_after : Option Refusal → List Refusal → Option Refusal
least_after best [] = best
least_after best (r ∷ rs) = least_after (lesser best r) rs

-- The refusal with the least path in byte order
abbrev pub least : List Refusal → Option Refusal
least rs = least_after None rs
