-- The keys that there are.
use Rattle.std.specs.Prelude.{ℕ, ◌||◌, List, ◌++◌, Option, Some, None, if◌then◌else◌, codes}
use Rattle.std.specs.Str.{bytes_eq}
use Rattle.wc_handlers.specs.declared.keys.Holds.{Holds}
use Rattle.wc_handlers.specs.declared.keys.Holds.TheVariants as holds
use Rattle.wc_handlers.specs.declared.keys.Place.{Place}
use Rattle.wc_handlers.specs.declared.keys.Place.TheVariants as place

-- the names of the chain and of its job, how often it is tried at most, and the handlers
abbrev pub top_key : List ℕ → Option Holds
top_key key =
    if bytes_eq key (codes "name") || bytes_eq key (codes "of") then Some holds.Name
    else (if bytes_eq key (codes "max") then Some (holds.Number 1 5)
    else (if bytes_eq key (codes "handler") then Some holds.Handlers else None))

-- what a handler handles, before which others it decides, and what it does
abbrev pub handler_key : List ℕ → Option Holds
handler_key key =
    if bytes_eq key (codes "statuses") then Some holds.Statuses
    else (if bytes_eq key (codes "priority") then Some (holds.Number 0 1000)
    else (if bytes_eq key (codes "call") then Some holds.Name
    else (if bytes_eq key (codes "abort") then Some holds.Abort else None)))

-- what a key holds, if there is such a key in this table
abbrev pub holds_of : Place → List ℕ → Option Holds
holds_of place.Top key = top_key key
holds_of place.Handler key = handler_key key

-- the path of a key, which doesn't say which handler it is of
abbrev pub path : Place → List ℕ → List ℕ
path place.Top key = key
path place.Handler key = codes "handler." ++ key
