-- What values a key may have.
use Rattle.std.specs.Prelude.{ℕ, suc, ℤ, pos, negsuc, Bool, false, true, ◌&&◌, ◌||◌, ◌==◌, List, Option, Some, None, is_some, nat_le, if◌then◌else◌}
use Rattle.toml.specs.Data.{Data, as_integer, as_str, as_array, as_table, Items, no_items, item}
use Rattle.wc_handlers.specs.declared.keys.Holds.{Holds}
use Rattle.wc_handlers.specs.declared.keys.Holds.TheVariants as holds
use Rattle.wc_handlers.specs.Names.{is_name}

-- ---- numbers

-- the number, if there is one and it is from the least to the most
abbrev pub within : ℕ → ℕ → Option ℤ → Option ℕ
within least most None = None
within least most (Some (pos n)) = if nat_le least n && nat_le n most then Some n else None
within least most (Some (negsuc n)) = None

-- a status, unless it is 401 or 402, which are the chain's own
abbrev pub unless_own : ℕ → Option ℕ
unless_own n = if n == 401 || n == 402 then None else Some n

-- a status that isn't the chain's own, if there is one
abbrev pub then_other : Option ℕ → Option ℕ
then_other None = None
then_other (Some n) = unless_own n

-- an exit status with which a handler may end the chain: not one that the chain has of its own
abbrev pub abort_of : Option ℤ → Option ℕ
abort_of z = then_other (within 100 9999 z)

-- ---- lists

-- how many items there are
abbrev pub count : Items → ℕ
count no_items = 0
count (item d ds) = suc (count ds)

-- so many items at least, and at most 16
abbrev pub are_few : ℕ → Items → Bool
are_few least ds = nat_le least (count ds) && nat_le (count ds) 16

-- whether an item is a status
abbrev pub is_status : Data → Bool
is_status d = is_some (within 1 9999 (as_integer d))

-- whether all items are statuses
abbrev pub all_statuses : Items → Bool
all_statuses no_items = true
all_statuses (item d ds) = is_status d && all_statuses ds

-- 1 to 16 exit statuses of the job
abbrev pub are_statuses : Option Items → Bool
are_statuses None = false
are_statuses (Some ds) = are_few 1 ds && all_statuses ds

-- whether all items are tables
abbrev pub all_tables : Items → Bool
all_tables no_items = true
all_tables (item d ds) = is_some (as_table d) && all_tables ds

-- at most 16 tables
abbrev pub are_handlers : Option Items → Bool
are_handlers None = false
are_handlers (Some ds) = are_few 0 ds && all_tables ds

-- ---- values

-- whether a text is there and is a name
abbrev pub is_name_text : Option (List ℕ) → Bool
is_name_text None = false
is_name_text (Some text) = is_name text

-- whether an item is a name
abbrev pub is_name_in : Data → Bool
is_name_in d = is_name_text (as_str d)

-- a value is one that the key may hold
abbrev pub is_held : Holds → Data → Bool
is_held holds.Name d = is_name_in d
is_held (holds.Number least most) d = is_some (within least most (as_integer d))
is_held holds.Statuses d = are_statuses (as_array d)
is_held holds.Abort d = is_some (abort_of (as_integer d))
is_held holds.Handlers d = are_handlers (as_array d)
