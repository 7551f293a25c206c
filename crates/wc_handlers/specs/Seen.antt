-- How the refusal so far is seen.
use Rattle.std.specs.Prelude.{Option, option_map}
use Rattle.wc_handlers.specs.declared.refusals.Refused.{Refused}
use Rattle.wc_handlers.specs.Refusals.{Refusal}

-- a refusal as contracts see it
abbrev pub seen : Option Refused → Option Refusal
seen = option_map (λ r. (r.kind, r.path))
