-- Refusals: which of them tell that bytes are missing, and why a list of rows is no table.
use Rattle.std.specs.Prelude.{List}
use Rattle.wc_value.specs.declared.process.Request.{Request}
use Rattle.wc_value.specs.declared.process.JobResult.{JobResult}
use Rattle.wc_value.specs.declared.refusal.ValueError.{ValueError}
use Rattle.wc_value.specs.declared.refusal.ValueError.TheVariants as refusal
use Rattle.wc_value.specs.declared.table.TableError.{TableError}
use Rattle.wc_value.specs.declared.table.TableError.TheVariants.{OutOfMemory, Twice}
use Rattle.wc_value.specs.Requests.{RepeatsFirst}

-- rows are refused as a table: one has a request that an earlier one has, or memory ran out
abbrev pub IsRefused : List (Request × JobResult) → TableError → Type 0
IsRefused rows OutOfMemory = Unit {0}
IsRefused rows (Twice i) = RepeatsFirst rows i

-- the refusal tells that bytes are missing
abbrev pub IsTruncated : ValueError → Type 0
IsTruncated (refusal.Truncated length) = Unit {0}
IsTruncated _ = ⊥
