-- Why no chain is added to a library: the first of these refusals, in this order.
use Rattle.std.specs.Prelude.{ℕ, Bool, true, false, not, nat_lt, nat_le, List, [], ◌∷◌, ◌++◌, Option, Some, None, is_some, length, ◌==◌, if◌then◌else◌, Result, Ok, Err}
use Rattle.std.specs.List.{list_any}
use Rattle.wc_handlers.specs.declared.error.RestartError.{RestartError}
use Rattle.wc_handlers.specs.declared.error.RestartError.TheVariants as error
use Rattle.wc_handlers.specs.declared.spec.Handler.{Handler}
use Rattle.wc_handlers.specs.declared.spec.Remedy.{Remedy}
use Rattle.wc_handlers.specs.declared.spec.Remedy.TheVariants as remedy
use Rattle.wc_handlers.specs.declared.spec.Spec.{Spec}
use Rattle.wc_handlers.specs.Reading.{spec_in}
use Rattle.wc_syntax.specs.Findings.{definition_named}
use Rattle.wc_syntax.specs.Printing.{printed}
use Rattle.wc_syntax.specs.declared.definition.Definition.{Definition}
use Rattle.wc_syntax.specs.declared.definition.Function.{Function}
use Rattle.wc_syntax.specs.declared.definition.Port.{Port}
use Rattle.wc_restart.specs.Chains.{expanded}
use Rattle.wc_restart.specs.Ports.{job_named, function_named, asked_of, ports_fit}

-- a refusal, or none
abbrev pub Refusal : Type 0
Refusal = Option RestartError

-- a refusal, where the test fails
abbrev pub unless : Bool → RestartError → Refusal
unless true e = None
unless false e = Some e

-- the first of two
abbrev pub or_then : Refusal → Refusal → Refusal
or_then None r = r
or_then (Some e) r = Some e

-- ---- of one handler

-- the refusal of a handler whose function isn't in the library
abbrev pub unknown_in : List Definition → Remedy → Refusal
unknown_in library (remedy.Abort status) = None
unknown_in library (remedy.Call name) = unless (is_some (function_named name library)) (error.UnknownName name)

-- whether a function's ports fit those of the job, where there is such a function
abbrev pub fits : List Port → Option Function → Bool
fits ports None = true
fits ports (Some f) = ports_fit ports f

-- a function that isn't there is refused before
abbrev pub misfit_in : List Definition → List Port → Remedy → Refusal
misfit_in library ports (remedy.Abort status) = None
misfit_in library ports (remedy.Call name) = unless (fits ports (function_named name library)) (error.BadPorts name)

-- ---- of handlers as written

-- the first refusal of handlers for a function that isn't in the library
abbrev pub unknown_functions : List Definition → List Handler → Refusal
unknown_functions library [] = None
unknown_functions library (h ∷ hs) = or_then (unknown_in library h.remedy) (unknown_functions library hs)

-- the first refusal of handlers whose functions' ports don't fit
abbrev pub bad_ports : List Definition → List Port → List Handler → Refusal
bad_ports library ports [] = None
bad_ports library ports (h ∷ hs) = or_then (misfit_in library ports h.remedy) (bad_ports library ports hs)

-- whether a number is among these
abbrev pub is_number_among : ℕ → List ℕ → Bool
is_number_among n ns = list_any (λ m. m == n) ns

-- the first handler whose priority one before it has
abbrev pub same_priorities : List ℕ → List Handler → Refusal
same_priorities before [] = None
same_priorities before (h ∷ hs) =
    or_then (unless (not (is_number_among h.priority before)) (error.SamePriority h.priority)) (same_priorities (before ++ h.priority ∷ []) hs)

-- ---- of a spec

-- what is refused of the library's names and ports, and of the handlers
abbrev pub misnamed : List Definition → Spec → Refusal
misnamed library s =
    or_then (unless (is_some (job_named s.job library)) (error.UnknownName s.job))
    (or_then (unknown_functions library s.handlers)
    (or_then (unless (not (is_some (definition_named s.name library))) (error.NameTaken s.name))
    (or_then (bad_ports library (asked_of s.job library) s.handlers) (same_priorities [] s.handlers))))

-- at most 64 definitions, and at most 1,048,576 bytes of text
abbrev pub is_small : List Definition → Spec → Bool
is_small library s = if nat_lt (length library) 64 then nat_le (length (printed (expanded library s))) 1048576 else false

-- The first refusal of a spec for a library: of its names and ports, or that there would be too many definitions or too long a text
abbrev pub refusal : List Definition → Spec → Refusal
refusal library s = or_then (misnamed library s) (unless (is_small library s) error.TooMany)

-- the refusal of a file, or that of its spec for a library
abbrev pub refusal_with : List Definition → Result Spec RestartError → Refusal
refusal_with library (Err e) = Some e
refusal_with library (Ok s) = refusal library s

-- the refusal of a library and the bytes of a spec file, if they are refused
abbrev pub refusal_of : List Definition → List ℕ → Refusal
refusal_of library bytes = refusal_with library (spec_in bytes)
