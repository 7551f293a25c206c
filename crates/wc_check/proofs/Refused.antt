-- The refusal that the least finding is.
use Rattle.std.proofs.Common.{◌≡◌, List, Result, Ok, Err, IfOk, sym}
use Rattle.std.specs.Prelude.{Option, Some, None}
use Rattle.wc_syntax.specs.declared.definition.Definition.{Definition}
use Rattle.wc_syntax.specs.Findings.{Finding}
use Rattle.wc_syntax.specs.Checked.{findings}
use Rattle.wc_check.specs.declared.error.CheckError.{CheckError}
use Rattle.wc_check.specs.Least.{least_after}
use Rattle.wc_check.specs.Refusals.{SaysBest, IsFirstFinding}
use Rattle.wc_check.proofs.Leasts.{none_first, some_first}

first_said : (library : List Definition) (best : Option Finding) (e : Option CheckError) → best ≡ least_after None (findings library) → SaysBest e best → IsFirstFinding library e
first_said library None None h s = none_first (findings library) (sym h)
first_said library None (Some e) h s = absurd s
first_said library (Some f) None h s = absurd s
first_said library (Some f) (Some e) h s = record { finding = f; says = s; first = some_first (findings library) f (sym h) }

pub if_said : {E : Type 0} (library : List Definition) (best : Option Finding) (result : Result (Option CheckError) E) → best ≡ least_after None (findings library)
    → IfOk result (λ e. SaysBest e best) → IfOk result (λ e. IsFirstFinding library e)
if_said library best (Ok e) h s = first_said library best e h s
if_said library best (Err e) h s = s
