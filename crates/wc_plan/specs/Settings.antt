-- What settings a command has, and what they say of a submission.
use Rattle.std.specs.Prelude.{◌≡◌, ℕ, false, if◌then◌else◌, List, [], ◌∷◌, Option, Some, None, IfSome, Result, Ok, Err}
use Rattle.std.specs.Map.{keys_of}
use Rattle.wc_value.specs.Ascending.{put}
use Rattle.wc_syntax.specs.Findings.{head_of}
use Rattle.wc_syntax.specs.declared.definition.Definition.{Definition}
use Rattle.wc_state.specs.Ranges.{AreLimits}
use Rattle.wc_state.specs.declared.record.Limits.{Limits}
use Rattle.wc_config.specs.Reading.{Reads, Refuses}
use Rattle.wc_config.specs.Settings.{caching_on}
use Rattle.wc_config.specs.declared.error.ConfigError.{ConfigError}
use Rattle.wc_config.specs.declared.error.ConfigError.TheVariants as config
use Rattle.wc_config.specs.declared.settings.Settings.{Settings}
use Rattle.wc_plan.specs.declared.status.Cause.{Cause}
use Rattle.wc_plan.specs.declared.status.Cause.TheVariants as cause
use Rattle.wc_plan.specs.declared.submission.Invocation.{Invocation}
use Rattle.wc_plan.specs.declared.submission.Submission.{Submission}

-- ---- a settings file

-- the limits where none are set
abbrev pub usual_limits : Limits
usual_limits = record { max_nodes = 1000000; max_bytes = 268435456; poll_ms = 1000 }

-- the settings where no file is named: no definition has caching on, and the limits are the usual ones
abbrev pub usual_settings : Settings
usual_settings = record { default_on = false; enabled = []; disabled = []; limits = usual_limits }

-- the bytes are no settings, for this reason; want of memory is none
abbrev pub IsNoSettings : List ℕ → ConfigError → Type 0
IsNoSettings bytes config.NotToml = Refuses bytes config.NotToml
IsNoSettings bytes (config.UnknownKey key) = Refuses bytes (config.UnknownKey key)
IsNoSettings bytes (config.BadValue key) = Refuses bytes (config.BadValue key)
IsNoSettings bytes config.OutOfMemory = ⊥

-- what the bytes of a settings file are read as
abbrev pub ReadsConfig : List ℕ → Result Settings Cause → Type 0
ReadsConfig bytes (Ok s) = Reads bytes s
ReadsConfig bytes (Err c) = (e : ConfigError) × IsNoSettings bytes e × (c ≡ cause.Settings e)

-- the file of this name with this content, none where there is no such file
abbrev pub ReadsSettings : List ℕ → Option (List ℕ) → Result Settings Cause → Type 0
ReadsSettings file None s = s ≡ Err (cause.NoFile file)
ReadsSettings file (Some bytes) s = ReadsConfig bytes s

-- the settings of a command that names this file, or none, on a shelf that tells this
abbrev pub SettingsFrom : Option (List ℕ → Option (List ℕ)) → Option (List ℕ) → Result Settings Cause → Type 0
SettingsFrom told None s = s ≡ Ok usual_settings
SettingsFrom told (Some file) s = (content : Option (List ℕ)) × IfSome told (λ contents. content ≡ contents file) × ReadsSettings file content s

-- the limits are within their ranges
abbrev pub SettingsReady : Result Settings Cause → Type 0
SettingsReady (Ok s) = AreLimits s.limits
SettingsReady (Err c) = Unit {0}

-- ---- a submission

-- a name among others, where caching is on for it
abbrev pub with_name : Settings → List ℕ → List (List ℕ × Unit {0}) → List (List ℕ × Unit {0})
with_name t name names = if caching_on t name then put name tt names else names

-- names with those of the definitions of a library for which settings have caching on
abbrev pub with_names : Settings → List Definition → List (List ℕ × Unit {0}) → List (List ℕ × Unit {0})
with_names t [] names = names
with_names t (d ∷ ds) names = with_names t ds (with_name t (head_of d).name.text names)

-- the names of a library's definitions for which caching is on, ascending
abbrev pub names_on : Settings → List Definition → List (List ℕ)
names_on t library = keys_of (with_names t library [])

-- a definition that is called so is submitted with the names that the settings have on, within their limits
abbrev pub submitted_with : Settings → Invocation → Submission
submitted_with t i = record { library = i.library; name = i.name; inputs = i.inputs; caching = names_on t i.library; limits = t.limits }
