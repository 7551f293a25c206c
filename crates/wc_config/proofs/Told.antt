-- What is told of the least refusal of a table is why its bytes are refused.
use Rattle.std.proofs.Common.{◌≡◌, ℕ, List, Some, IsUtf8}
use Rattle.toml.specs.Data.{Members}
use Rattle.toml.specs.Parse.{parse_document}
use Rattle.wc_config.specs.declared.refusals.Kind.TheVariants as kind
use Rattle.wc_config.specs.Reading.{Refuses, told}
use Rattle.wc_config.specs.Refusals.{Refusal, least, refusals}

pub told-refuses : (bytes : List ℕ) (ms : Members) (r : Refusal) → IsUtf8 bytes → parse_document bytes ≡ Some ms → least (refusals ms) ≡ Some r → Refuses bytes (told r)
told-refuses bytes ms (kind.UnknownKey, key) utf8 parsed first = record { utf8 = utf8; table = ms; parsed = parsed; least = first }
told-refuses bytes ms (kind.BadValue, key) utf8 parsed first = record { utf8 = utf8; table = ms; parsed = parsed; least = first }
