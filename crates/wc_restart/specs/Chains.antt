-- The chain that tries a job until it succeeds.
use Rattle.std.specs.Prelude.{ℕ, Bool, true, false, List, [], ◌∷◌, ◌++◌, map, Option, Some, None, nat_lt, ◌==◌, if◌then◌else◌, codes}
use Rattle.wc_handlers.specs.declared.spec.Handler.{Handler}
use Rattle.wc_handlers.specs.declared.spec.Remedy.{Remedy}
use Rattle.wc_handlers.specs.declared.spec.Remedy.TheVariants as remedy
use Rattle.wc_handlers.specs.declared.spec.Spec.{Spec}
use Rattle.wc_syntax.specs.declared.definition.Chain.{Chain}
use Rattle.wc_syntax.specs.declared.definition.Definition.{Definition}
use Rattle.wc_syntax.specs.declared.definition.Definition.TheVariants as definition
use Rattle.wc_syntax.specs.declared.definition.ExitCode.{ExitCode}
use Rattle.wc_syntax.specs.declared.definition.Port.{Port}
use Rattle.wc_syntax.specs.declared.outline.Arm.{Arm}
use Rattle.wc_syntax.specs.declared.outline.Instr.{Instr}
use Rattle.wc_restart.specs.Pieces.{word, number, input, plain, call_with, step, block, arm, either, while}
use Rattle.wc_restart.specs.Ports.{inputs_of, asked_of, given_of}
use Rattle.wc_restart.specs.Sources.{of_fix}
use Rattle.wc_restart.specs.Statements.{goes_on, has_succeeded, is_one_of, setting, counting, passing, ending, mending, failing, closing}

-- ---- exit codes

-- a declared status with its message
abbrev pub code : ℕ → List ℕ → ExitCode
code status message = record { at = 0; status = number status; message = record { text = message; at = 0 }; invalidates = false }

-- a status among ascending ones, once
abbrev pub placed : ℕ → List ℕ → List ℕ
placed n [] = n ∷ []
placed n (m ∷ ms) = if nat_lt n m then n ∷ (m ∷ ms) else (if n == m then m ∷ ms else m ∷ placed n ms)

-- statuses with that of a handler that ends the chain
abbrev pub with_abort : Remedy → List ℕ → List ℕ
with_abort (remedy.Call name) statuses = statuses
with_abort (remedy.Abort status) statuses = placed status statuses

-- these statuses with those with which handlers end the chain
abbrev pub aborts_among : List ℕ → List Handler → List ℕ
aborts_among statuses [] = statuses
aborts_among statuses (h ∷ hs) = aborts_among (with_abort h.remedy statuses) hs

-- the statuses with which handlers end the chain, ascending, each once
abbrev pub aborts : List Handler → List ℕ
aborts = aborts_among []

-- the declared status of an end by a handler
abbrev pub aborted : ℕ → ExitCode
aborted n = code n (codes "aborted")

-- the exit codes of the chain: 401, 402, and each status with which a handler ends it, ascending, once
abbrev pub codes_of : Spec → List ExitCode
codes_of s = code 401 (codes "maximum iterations") ∷ (code 402 (codes "second unhandled failure") ∷ map aborted (aborts s.handlers))

-- ---- calls, with the chain's inputs or with the outputs of the last function

-- if ctx.fresh { step first { call .. } } else { step then { call .. } }
abbrev pub fresh_or_fixed : (first second callee key : List ℕ) → List Port → Instr
fresh_or_fixed first second callee key ports =
    either (arm (plain (codes "fresh")) (step first (call_with callee input ports key ∷ []) ∷ []) ∷ [])
    (step second (call_with callee of_fix ports key ∷ []) ∷ [])

-- ---- handlers

-- handlers by falling priority with one more, behind those of the same priority
abbrev pub inserted : Handler → List Handler → List Handler
inserted h [] = h ∷ []
inserted h (k ∷ ks) = if nat_lt k.priority h.priority then h ∷ (k ∷ ks) else k ∷ inserted h ks

-- these handlers, which are in order, with further ones
abbrev pub sorted_among : List Handler → List Handler → List Handler
sorted_among found [] = found
sorted_among found (h ∷ hs) = sorted_among (inserted h found) hs

-- handlers by falling priority
abbrev pub by_priority : List Handler → List Handler
by_priority = sorted_among []

-- the instructions of a handler: an end, or a call of its function
abbrev pub remedied : List Definition → Remedy → List Instr
remedied library (remedy.Abort status) = step (codes "stop") (ending status) ∷ []
remedied library (remedy.Call name) =
    fresh_or_fixed (codes "mend") (codes "remend") name (codes "fix") (inputs_of name library)
    ∷ (step (codes "mended") mending ∷ [])

-- the arm of a handler: for its statuses, what it does
abbrev pub arm_of : List Definition → Handler → Arm
arm_of library h = arm (is_one_of h.statuses) (remedied library h.remedy)

-- ---- the outline

-- the step that sets the counters
abbrev pub setup : Instr
setup = step (codes "setup") setting

-- the step that counts an attempt
abbrev pub counted : Instr
counted = step (codes "counted") counting

-- the arm for a job that has succeeded: its outputs are the chain's
abbrev pub good : List Port → Arm
good outputs = arm has_succeeded (step (codes "good") (passing outputs) ∷ [])

-- the step for a failure that no handler names
abbrev pub unhandled : Instr
unhandled = step (codes "unhandled") failing

-- one attempt at the job with these required ports, and what its status asks for
abbrev pub turn_with : List Definition → Spec → (asked given : List Port) → List Instr
turn_with library s asked given =
    fresh_or_fixed (codes "start") (codes "again") s.job (codes "job") asked
    ∷ (counted ∷ (either (good given ∷ map (arm_of library) (by_priority s.handlers)) (unhandled ∷ []) ∷ []))

-- the instructions of one attempt
abbrev pub turn : List Definition → Spec → List Instr
turn library s = turn_with library s (asked_of s.job library) (given_of s.job library)

-- the step behind the last attempt
abbrev pub finish : Instr
finish = step (codes "finish") closing

-- The chain that tries the job of a spec until it succeeds, with the job's required ports
abbrev pub chain_of : List Definition → Spec → Chain
chain_of library s = record {
  head = record {
    at = 0;
    name = word s.name;
    inputs = asked_of s.job library;
    outputs = given_of s.job library;
    codes = codes_of s;
  };
  outline = block (setup ∷ (while (goes_on s.most) (turn library s) ∷ (finish ∷ [])));
}

-- the library with the one chain added
abbrev pub expanded : List Definition → Spec → List Definition
expanded library s = library ++ definition.Chain (chain_of library s) ∷ []
