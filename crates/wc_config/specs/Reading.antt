-- What reading a settings file answers.
use Rattle.std.specs.Prelude.{◌≡◌, ℕ, List, Some, None, IsUtf8}
use Rattle.toml.specs.Data.{Members}
use Rattle.toml.specs.Parse.{parse_document}
use Rattle.wc_config.specs.declared.error.ConfigError.{ConfigError}
use Rattle.wc_config.specs.declared.error.ConfigError.TheVariants as error
use Rattle.wc_config.specs.declared.refusals.Kind.{Kind}
use Rattle.wc_config.specs.declared.refusals.Kind.TheVariants as kind
use Rattle.wc_config.specs.declared.settings.Settings.{Settings}
use Rattle.wc_config.specs.Refusals.{Refusal, least, refusals}
use Rattle.wc_config.specs.Settings.{AreOf}

-- The bytes are the TOML of a table that nothing refuses, and these are its settings.
pub record Reads (bytes : List ℕ) (s : Settings) : Type 0 where
  pub utf8 : IsUtf8 bytes
  pub table : Members
  pub parsed : parse_document bytes ≡ Some table
  pub fine : least (refusals table) ≡ None
  pub settings : AreOf table s

-- The bytes are the TOML of a table whose least refusal is this one.
pub record RefusesAt (bytes : List ℕ) (k : Kind) (key : List ℕ) : Type 0 where
  pub utf8 : IsUtf8 bytes
  pub table : Members
  pub parsed : parse_document bytes ≡ Some table
  pub least : least (refusals table) ≡ Some (k, key)

-- a refusal as an error
abbrev pub told : Refusal → ConfigError
told (kind.UnknownKey, key) = error.UnknownKey key
told (kind.BadValue, key) = error.BadValue key

-- The bytes are refused so; want of memory may come at any time.
abbrev pub Refuses : List ℕ → ConfigError → Type 0
Refuses bytes error.NotToml = IsUtf8 bytes → parse_document bytes ≡ None
Refuses bytes (error.UnknownKey key) = RefusesAt bytes kind.UnknownKey key
Refuses bytes (error.BadValue key) = RefusesAt bytes kind.BadValue key
Refuses bytes error.OutOfMemory = Unit {0}
