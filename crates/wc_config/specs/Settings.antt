-- The settings that a table gives: each key that isn't there, or has a value of another kind, leaves its default.
use Rattle.std.specs.Prelude.{◌≡◌, ℕ, ℤ, pos, Bool, false, ◌&&◌, List, [], ◌∷◌, Option, Some, None, option_and_then, unwrap_or, if◌then◌else◌, codes, int_le}
use Rattle.std.specs.List.{list_any}
use Rattle.std.specs.Str.{bytes_eq}
use Rattle.toml.specs.Data.{Data, as_bool, as_integer, as_str, as_array, as_table, Items, no_items, item, Members, get_member}
use Rattle.wc_state.specs.Ranges.{AreLimits}
use Rattle.wc_config.specs.declared.keys.Part.{Part}
use Rattle.wc_config.specs.declared.keys.Part.TheVariants as part
use Rattle.wc_config.specs.declared.settings.Settings.{Settings}
use Rattle.wc_config.specs.Keys.{name_of}

-- the value at a key of a part
abbrev pub entry_at : Part → List ℕ → Members → Option Data
entry_at p key ms = option_and_then (get_member key) (option_and_then as_table (get_member (name_of p) ms))

-- ---- names

-- a name in front of names, where it is one
abbrev pub name_then : Option (List ℕ) → List (List ℕ) → List (List ℕ)
name_then None names = names
name_then (Some n) names = n ∷ names

-- the strings of an array
abbrev pub strings : Items → List (List ℕ)
strings no_items = []
strings (item d ds) = name_then (as_str d) (strings ds)

-- the names of an array
abbrev pub names_in : Option Items → List (List ℕ)
names_in None = []
names_in (Some ds) = strings ds

-- the names that a key of the part on caching lists
abbrev pub names_at : List ℕ → Members → List (List ℕ)
names_at key ms = names_in (option_and_then as_array (entry_at part.Caching key ms))

-- ---- numbers and truths

-- a number within its range, else the usual one
abbrev pub within : ℤ → ℤ → ℤ → Option ℤ → ℤ
within least most usual None = usual
within least most usual (Some z) = if int_le least z && int_le z most then z else usual

-- the number of a setting, else the usual one
abbrev pub number_at : Part → List ℕ → (least most usual : ℤ) → Members → ℤ
number_at p key least most usual ms = within least most usual (option_and_then as_integer (entry_at p key ms))

-- whether caching is on where nothing else is said
abbrev pub default_on : Members → Bool
default_on ms = unwrap_or (option_and_then as_bool (entry_at part.Caching (codes "default") ms)) false

-- ---- all settings

-- The settings are those of the table, and their limits are within their ranges.
pub record AreOf (ms : Members) (s : Settings) : Type 0 where
  pub default : s.default_on ≡ default_on ms
  pub enabled : s.enabled ≡ names_at (codes "enabled") ms
  pub disabled : s.disabled ≡ names_at (codes "disabled") ms
  pub nodes : pos s.limits.max_nodes ≡ number_at part.Limits (codes "max_nodes") (pos 1) (pos 8000000) (pos 1000000) ms
  pub bytes : pos s.limits.max_bytes ≡ number_at part.Limits (codes "max_bytes") (pos 1024) (pos 2147483648) (pos 268435456) ms
  pub poll : pos s.limits.poll_ms ≡ number_at part.Run (codes "poll_ms") (pos 1) (pos 600000) (pos 1000) ms
  pub limits : AreLimits s.limits

-- ---- whether caching is on

-- whether a name is in a list
abbrev pub is_listed : List ℕ → List (List ℕ) → Bool
is_listed name names = list_any (λ n. bytes_eq n name) names

-- a disabled name has caching off, an enabled one on, and any other the default
abbrev pub caching_on : Settings → List ℕ → Bool
caching_on s name = if is_listed name s.disabled then false else (if is_listed name s.enabled then Bool.true else s.default_on)
