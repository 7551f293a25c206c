-- The settings that there are.
use Rattle.std.specs.Prelude.{ℕ, pos, ◌||◌, List, Option, Some, None, if◌then◌else◌, codes}
use Rattle.std.specs.Str.{bytes_eq}
use Rattle.wc_config.specs.declared.keys.Holds.{Holds}
use Rattle.wc_config.specs.declared.keys.Holds.TheVariants.{Truth, Names, Number}
use Rattle.wc_config.specs.declared.keys.Part.{Part}
use Rattle.wc_config.specs.declared.keys.Part.TheVariants as part

-- the table of settings with this name
abbrev pub part_named : List ℕ → Option Part
part_named name =
    if bytes_eq name (codes "caching") then Some part.Caching
    else (if bytes_eq name (codes "limits") then Some part.Limits
    else (if bytes_eq name (codes "run") then Some part.Run else None))

-- the name of a table of settings
abbrev pub name_of : Part → List ℕ
name_of part.Caching = codes "caching"
name_of part.Limits = codes "limits"
name_of part.Run = codes "run"

-- whether caching is on for names that are in no list, and the names for which it is on, and off
abbrev pub caching_key : List ℕ → Option Holds
caching_key key =
    if bytes_eq key (codes "default") then Some Truth
    else (if bytes_eq key (codes "enabled") || bytes_eq key (codes "disabled") then Some Names else None)

-- the most nodes of a store, and the most bytes of its journal
abbrev pub limits_key : List ℕ → Option Holds
limits_key key =
    if bytes_eq key (codes "max_nodes") then Some (Number (pos 1) (pos 8000000))
    else (if bytes_eq key (codes "max_bytes") then Some (Number (pos 1024) (pos 2147483648)) else None)

-- milliseconds between two questions whether a job has ended
abbrev pub run_key : List ℕ → Option Holds
run_key key = if bytes_eq key (codes "poll_ms") then Some (Number (pos 1) (pos 600000)) else None

-- what a setting holds, if there is one with this key in this part
abbrev pub holds_of : Part → List ℕ → Option Holds
holds_of part.Caching key = caching_key key
holds_of part.Limits key = limits_key key
holds_of part.Run key = run_key key
