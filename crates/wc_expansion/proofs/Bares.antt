-- Offsets play no part in the chain of a spec, nor in what is refused of one.
use Rattle.std.proofs.Common.{◌≡◌, ◌∙◌, ap, sym, refl, ℕ, Bool, true, false, if◌then◌else◌, List, [], ◌∷◌, ◌++◌, map, Option, Some, None}
use Rattle.std.proofs.lemmas.List.{map-append}
use Rattle.std.specs.Prelude.{codes, not, ◌&&◌, is_some, option_map}
use Rattle.std.specs.Str.{bytes_eq}
use Rattle.wc_handlers.specs.declared.error.RestartError.TheVariants as error
use Rattle.wc_handlers.specs.declared.spec.Handler.{Handler}
use Rattle.wc_handlers.specs.declared.spec.Remedy.{Remedy}
use Rattle.wc_handlers.specs.declared.spec.Remedy.TheVariants as remedy
use Rattle.wc_handlers.specs.declared.spec.Spec.{Spec}
use Rattle.wc_syntax.specs.Bare.{bare_part, bare_instr, bare_arm, at_form, at_expr, bare_expr, bare_port, bare_code, bare_head, bare_arg, bare_stmt, at_instr, at_arm, at_block, bare_block, bare_definition, bare_library}
use Rattle.wc_syntax.specs.Findings.{head_of, definition_named}
use Rattle.wc_syntax.specs.declared.definition.Definition.{Definition}
use Rattle.wc_syntax.specs.declared.definition.Definition.TheVariants as definition
use Rattle.wc_syntax.specs.declared.definition.Head.{Head}
use Rattle.wc_syntax.specs.declared.definition.Port.{Port}
use Rattle.wc_syntax.specs.declared.expression.BinaryOp.{BinaryOp}
use Rattle.wc_syntax.specs.declared.expression.BinaryOp.TheVariants as binary
use Rattle.wc_syntax.specs.declared.expression.ChildPart.{ChildPart}
use Rattle.wc_syntax.specs.declared.expression.ChildPart.TheVariants as asked
use Rattle.wc_syntax.specs.declared.expression.Expr.{Expr}
use Rattle.wc_syntax.specs.declared.expression.Form.{roll-Form}
use Rattle.wc_syntax.specs.declared.expression.Form.TheVariants as form
use Rattle.wc_syntax.specs.declared.expression.Form.TheOpen.{Form-F}
use Rattle.wc_syntax.specs.declared.expression.UnaryOp.TheVariants as unary
use Rattle.wc_syntax.specs.declared.outline.Arm.{Arm, roll-Arm}
use Rattle.wc_syntax.specs.declared.outline.Instr.{Instr, roll-Instr}
use Rattle.wc_syntax.specs.declared.outline.Instr.TheOpen.{Instr-F}
use Rattle.wc_syntax.specs.declared.outline.Instr.TheVariants as instr
use Rattle.wc_syntax.specs.declared.outline.Stmt.{Stmt}
use Rattle.wc_syntax.specs.declared.outline.Stmt.TheVariants as stmt
use Rattle.wc_restart.specs.Chains.{code, aborted, aborts, codes_of, fresh_or_fixed, by_priority, remedied, arm_of, setup, counted, good, unhandled, turn, finish, chain_of, expanded}
use Rattle.wc_restart.specs.Judging.{unless, or_then, unknown_in, fits, misfit_in, unknown_functions, bad_ports, same_priorities, misnamed}
use Rattle.wc_restart.specs.Pieces.{word, number, expr, numeral, truth, input, plain, child, output_of, negated, joined, set, exit, given, call_with, step, block, arm, either, while}
use Rattle.wc_restart.specs.Ports.{is_required, port_of, required, has_port, all_among, as_job, as_function, job_named, inputs_in, outputs_in, inputs_of, asked_of, given_of}
use Rattle.wc_restart.specs.Sources.{of_fix}
use Rattle.wc_restart.specs.Statements.{goes_on, has_succeeded, has_status, or_one_of, is_one_of, setting, counting, passing, ending, mending, failing, closing}
use Rattle.wc_restart.proofs.Folded.{numeral_folded, truth_folded, input_folded, plain_folded, child_folded, negated_folded, joined_folded, step_folded, block_folded, arm_folded, either_folded, while_folded}

-- ---- definitions of a bare library

pub head_bare : (d : Definition) → head_of (bare_definition d) ≡ bare_head (head_of d)
head_bare (definition.Function f) = refl
head_bare (definition.Job j) = refl
head_bare (definition.Chain c) = refl

pub named_bare : (name : List ℕ) (library : List Definition) → definition_named name (bare_library library) ≡ option_map bare_definition (definition_named name library)
named_bare name [] = refl
named_bare name (d ∷ ds) =
    (λ i. if bytes_eq (head_bare d i).name.text name then Some (bare_definition d) else named_bare name ds i) ∙ by_test (bytes_eq (head_of d).name.text name)
  where
    by_test : (b : Bool) → (if b then Some (bare_definition d) else option_map bare_definition (definition_named name ds)) ≡ option_map bare_definition (if b then Some d else definition_named name ds)
    by_test true = refl
    by_test false = refl

pub required_bare : (ps : List Port) → required (map bare_port ps) ≡ required ps
required_bare [] = refl
required_bare (p ∷ ps) = λ i. if is_required p then port_of p ∷ required_bare ps i else required_bare ps i

inputs_bare : (o : Option Definition) → inputs_in (option_map bare_definition o) ≡ map bare_port (inputs_in o)
inputs_bare None = refl
inputs_bare (Some d) = ap (λ (h : Head). h.inputs) (head_bare d)

outputs_bare : (o : Option Definition) → outputs_in (option_map bare_definition o) ≡ map bare_port (outputs_in o)
outputs_bare None = refl
outputs_bare (Some d) = ap (λ (h : Head). h.outputs) (head_bare d)

inputs_of_bare : (name : List ℕ) (library : List Definition) → inputs_of name (bare_library library) ≡ map bare_port (inputs_of name library)
inputs_of_bare name library = ap inputs_in (named_bare name library) ∙ inputs_bare (definition_named name library)

pub asked_bare : (name : List ℕ) (library : List Definition) → asked_of name (bare_library library) ≡ asked_of name library
asked_bare name library = ap required (inputs_of_bare name library) ∙ required_bare (inputs_of name library)

pub given_bare : (name : List ℕ) (library : List Definition) → given_of name (bare_library library) ≡ given_of name library
given_bare name library = ap (λ (o : Option Definition). required (outputs_in o)) (named_bare name library) ∙ ap required (outputs_bare (definition_named name library)) ∙ required_bare (outputs_in (definition_named name library))

-- ---- the chain

given_ports : (source : List ℕ → Expr) (ps : List Port) → map (given source) (map bare_port ps) ≡ map (given source) ps
given_ports source [] = refl
given_ports source (p ∷ ps) = λ i. given source p ∷ given_ports source ps i

calls_bare : (one two callee key : List ℕ) (ports bare : List Port) → bare ≡ map bare_port ports → fresh_or_fixed one two callee key bare ≡ fresh_or_fixed one two callee key ports
calls_bare one two callee key ports bare h =
    ap (fresh_or_fixed one two callee key) h
    ∙ (λ i.
    either (arm (plain (codes "fresh")) (step one (stmt.Call (record { at = 0; callee = word callee; args = given_ports input ports i; append = false; key = word key }) ∷ []) ∷ []) ∷ [])
    (step two (stmt.Call (record { at = 0; callee = word callee; args = given_ports of_fix ports i; append = false; key = word key }) ∷ []) ∷ []))

remedied_bare : (library : List Definition) (r : Remedy) → remedied (bare_library library) r ≡ remedied library r
remedied_bare library (remedy.Abort status) = refl
remedied_bare library (remedy.Call name) =
    λ i. calls_bare (codes "mend") (codes "remend") name (codes "fix") (inputs_of name library) (inputs_of name (bare_library library)) (inputs_of_bare name library) i ∷ (step (codes "mended") mending ∷ [])

arms_bare : (library : List Definition) (hs : List Handler) → map (arm_of (bare_library library)) hs ≡ map (arm_of library) hs
arms_bare library [] = refl
arms_bare library (h ∷ hs) = λ i. arm (is_one_of h.statuses) (remedied_bare library h.remedy i) ∷ arms_bare library hs i

turn_bare : (library : List Definition) (s : Spec) → turn (bare_library library) s ≡ turn library s
turn_bare library s = λ i.
    fresh_or_fixed (codes "start") (codes "again") s.job (codes "job") (asked_bare s.job library i)
    ∷ (counted ∷ (either (good (given_bare s.job library i) ∷ arms_bare library (by_priority s.handlers) i) (unhandled ∷ []) ∷ []))

-- The chain doesn't hang on offsets of the library.
pub chain_bare : (library : List Definition) (s : Spec) → chain_of (bare_library library) s ≡ chain_of library s
chain_bare library s = λ i. record {
  head = record { at = 0; name = word s.name; inputs = asked_bare s.job library i; outputs = given_bare s.job library i; codes = codes_of s };
  outline = block (setup ∷ (while (goes_on s.most) (turn_bare library s i) ∷ (finish ∷ [])));
}

-- ---- a chain without offsets

expr_numeral : (n : ℕ) → bare_expr (numeral n) ≡ numeral n
expr_numeral n = numeral_folded at_form at_expr n ∙ ap expr (form.rolls-Number (number n))

expr_truth : (b : Bool) → bare_expr (truth b) ≡ truth b
expr_truth b = truth_folded at_form at_expr b ∙ ap expr (form.rolls-Truth b)

expr_plain : (key : List ℕ) → bare_expr (plain key) ≡ plain key
expr_plain key = plain_folded at_form at_expr key ∙ ap expr (form.rolls-Plain 0 (word key))

expr_input : (name : List ℕ) → bare_expr (input name) ≡ input name
expr_input name = input_folded at_form at_expr name ∙ ap expr (form.rolls-Input 0 (word name))

expr_child : (key : List ℕ) (part : ChildPart) → bare_part part ≡ part → bare_expr (child key part) ≡ child key part
expr_child key part h =
    child_folded at_form at_expr key part ∙ ap (λ (p : ChildPart). expr (roll-Form (Form-F.Child 0 (word key) None p))) h ∙ ap expr (form.rolls-Child 0 (word key) None part)

expr_output : (key name : List ℕ) → bare_expr (output_of key name) ≡ output_of key name
expr_output key name = expr_child key (asked.Outputs (word name)) refl

expr_negated : (e : Expr) → bare_expr e ≡ e → bare_expr (negated e) ≡ negated e
expr_negated e h = negated_folded at_form at_expr e ∙ ap (λ (z : Expr). expr (roll-Form (Form-F.Unary unary.Not z))) h ∙ ap expr (form.rolls-Unary unary.Not e)

expr_joined : (o : BinaryOp) (d e : Expr) → bare_expr d ≡ d → bare_expr e ≡ e → bare_expr (joined o d e) ≡ joined o d e
expr_joined o d e h k = joined_folded at_form at_expr o d e ∙ (λ i. expr (roll-Form (Form-F.Binary o (h i) (k i)))) ∙ ap expr (form.rolls-Binary o d e)

expr_goes_on : (most : ℕ) → bare_expr (goes_on most) ≡ goes_on most
expr_goes_on most =
    expr_joined binary.And (negated (plain (codes "done"))) (joined binary.Less (plain (codes "n")) (numeral most)) (expr_negated (plain (codes "done")) (expr_plain (codes "done")))
    (expr_joined binary.Less (plain (codes "n")) (numeral most) (expr_plain (codes "n")) (expr_numeral most))

expr_status : (n : ℕ) → bare_expr (has_status n) ≡ has_status n
expr_status n = expr_joined binary.Equal (child (codes "job") asked.Status) (numeral n) (expr_child (codes "job") asked.Status refl) (expr_numeral n)

expr_or : (e : Expr) (ns : List ℕ) → bare_expr e ≡ e → bare_expr (or_one_of e ns) ≡ or_one_of e ns
expr_or e [] h = h
expr_or e (n ∷ ns) h = expr_or (joined binary.Or e (has_status n)) ns (expr_joined binary.Or e (has_status n) h (expr_status n))

expr_one_of : (ns : List ℕ) → bare_expr (is_one_of ns) ≡ is_one_of ns
expr_one_of [] = expr_truth false
expr_one_of (n ∷ ns) = expr_or (has_status n) ns (expr_status n)

set_same : (key : List ℕ) (e : Expr) → bare_expr e ≡ e → bare_stmt (set key e) ≡ set key e
set_same key e h = ap (stmt.Ctx 0 (word key)) h

setting_same : map bare_stmt setting ≡ setting
setting_same = λ i.
    set_same (codes "n") (numeral 0) (expr_numeral 0) i
    ∷ (set_same (codes "bad") (truth false) (expr_truth false) i
    ∷ (set_same (codes "fresh") (truth true) (expr_truth true) i ∷ (set_same (codes "done") (truth false) (expr_truth false) i ∷ [])))

counting_same : map bare_stmt counting ≡ counting
counting_same = λ i.
    set_same (codes "n") (joined binary.Add (plain (codes "n")) (numeral 1)) (expr_joined binary.Add (plain (codes "n")) (numeral 1) (expr_plain (codes "n")) (expr_numeral 1)) i ∷ []

passing_same : (ps : List Port) → map bare_stmt (passing ps) ≡ passing ps
passing_same [] = λ i. set_same (codes "done") (truth true) (expr_truth true) i ∷ []
passing_same (p ∷ ps) = λ i. stmt.Out 0 (word p.name.text) (expr_output (codes "job") p.name.text i) ∷ passing_same ps i

mending_same : map bare_stmt mending ≡ mending
mending_same = λ i. set_same (codes "fresh") (truth false) (expr_truth false) i ∷ (set_same (codes "bad") (truth false) (expr_truth false) i ∷ [])

exit_same : (n : ℕ) (e : Expr) → bare_expr e ≡ e → bare_stmt (exit n (Some e)) ≡ exit n (Some e)
exit_same n e h = λ i. exit n (Some (h i))

failing_same : map bare_stmt failing ≡ failing
failing_same = λ i. exit_same 402 (plain (codes "bad")) (expr_plain (codes "bad")) i ∷ (set_same (codes "bad") (truth true) (expr_truth true) i ∷ [])

closing_same : map bare_stmt closing ≡ closing
closing_same = λ i. exit_same 401 (negated (plain (codes "done"))) (expr_negated (plain (codes "done")) (expr_plain (codes "done"))) i ∷ []

arguments_same : (source : List ℕ → Expr) → ((x : List ℕ) → bare_expr (source x) ≡ source x) → (ps : List Port) → map bare_arg (map (given source) ps) ≡ map (given source) ps
arguments_same source h [] = refl
arguments_same source h (p ∷ ps) = λ i. record { port = word p.name.text; value = h p.name.text i } ∷ arguments_same source h ps i

call_same : (callee : List ℕ) (source : List ℕ → Expr) → ((x : List ℕ) → bare_expr (source x) ≡ source x) → (ps : List Port) (key : List ℕ)
    → map bare_stmt (call_with callee source ps key ∷ []) ≡ call_with callee source ps key ∷ []
call_same callee source h ps key = λ i. stmt.Call (record { at = 0; callee = word callee; args = arguments_same source h ps i; append = false; key = word key }) ∷ []

-- ---- instructions

step_same : (name : List ℕ) (stmts : List Stmt) → map bare_stmt stmts ≡ stmts → bare_instr (step name stmts) ≡ step name stmts
step_same name stmts h =
    step_folded at_instr at_arm at_block name stmts ∙ ap (λ (z : List Stmt). roll-Instr (Instr-F.Step (record { at = 0; name = word name; stmts = z }))) h
    ∙ instr.rolls-Step (record { at = 0; name = word name; stmts = stmts })

block_same : (is : List Instr) → map bare_instr is ≡ is → bare_block (block is) ≡ block is
block_same is h = block_folded at_instr at_arm at_block is ∙ ap block h

arm_same : (c : Expr) (is : List Instr) → bare_expr c ≡ c → map bare_instr is ≡ is → bare_arm (arm c is) ≡ arm c is
arm_same c is h k = arm_folded at_instr at_arm at_block c is ∙ (λ i. roll-Arm (record { condition = h i; block = block_same is k i }))

either_same : (arms : List Arm) (is : List Instr) → map bare_arm arms ≡ arms → map bare_instr is ≡ is → bare_instr (either arms is) ≡ either arms is
either_same arms is h k =
    either_folded at_instr at_arm at_block arms is ∙ (λ i. roll-Instr (Instr-F.If 0 (h i) (Some (block_same is k i)))) ∙ instr.rolls-If 0 arms (Some (block is))

while_same : (c : Expr) (is : List Instr) → bare_expr c ≡ c → map bare_instr is ≡ is → bare_instr (while c is) ≡ while c is
while_same c is h k = while_folded at_instr at_arm at_block c is ∙ (λ i. roll-Instr (Instr-F.While 0 (h i) (block_same is k i))) ∙ instr.rolls-While 0 c (block is)

calls_same : (one two callee key : List ℕ) (ports : List Port) → bare_instr (fresh_or_fixed one two callee key ports) ≡ fresh_or_fixed one two callee key ports
calls_same one two callee key ports =
    either_same (arm (plain (codes "fresh")) (step one (call_with callee input ports key ∷ []) ∷ []) ∷ []) (step two (call_with callee of_fix ports key ∷ []) ∷ [])
    (λ i. arm_same (plain (codes "fresh")) (step one (call_with callee input ports key ∷ []) ∷ []) (expr_plain (codes "fresh"))
    (λ j. step_same one (call_with callee input ports key ∷ []) (call_same callee input expr_input ports key) j ∷ []) i ∷ [])
    (λ i. step_same two (call_with callee of_fix ports key ∷ []) (call_same callee of_fix (expr_output (codes "fix")) ports key) i ∷ [])

remedied_same : (library : List Definition) (r : Remedy) → map bare_instr (remedied library r) ≡ remedied library r
remedied_same library (remedy.Abort status) = λ i. step_same (codes "stop") (ending status) refl i ∷ []
remedied_same library (remedy.Call name) =
    λ i. calls_same (codes "mend") (codes "remend") name (codes "fix") (inputs_of name library) i ∷ (step_same (codes "mended") mending mending_same i ∷ [])

handlers_same : (library : List Definition) (hs : List Handler) → map bare_arm (map (arm_of library) hs) ≡ map (arm_of library) hs
handlers_same library [] = refl
handlers_same library (h ∷ hs) =
    λ i. arm_same (is_one_of h.statuses) (remedied library h.remedy) (expr_one_of h.statuses) (remedied_same library h.remedy) i ∷ handlers_same library hs i

turn_same : (library : List Definition) (s : Spec) → map bare_instr (turn library s) ≡ turn library s
turn_same library s =
    let outputs = given_of s.job library in
    let arms = good outputs ∷ map (arm_of library) (by_priority s.handlers) in
    let first : bare_arm (good outputs) ≡ good outputs =
    arm_same has_succeeded (step (codes "good") (passing outputs) ∷ []) (expr_child (codes "job") asked.Ok refl) (λ i. step_same (codes "good") (passing outputs) (passing_same outputs) i ∷ []) in
    λ i.
    calls_same (codes "start") (codes "again") s.job (codes "job") (asked_of s.job library) i
    ∷ (step_same (codes "counted") counting counting_same i
    ∷ (either_same arms (unhandled ∷ []) (λ j. first j ∷ handlers_same library (by_priority s.handlers) j) (λ j. step_same (codes "unhandled") failing failing_same j ∷ []) i ∷ []))

outline_same : (library : List Definition) (s : Spec) → bare_block (chain_of library s).outline ≡ (chain_of library s).outline
outline_same library s =
    block_same (setup ∷ (while (goes_on s.most) (turn library s) ∷ (finish ∷ [])))
    (λ i. step_same (codes "setup") setting setting_same i
    ∷ (while_same (goes_on s.most) (turn library s) (expr_goes_on s.most) (turn_same library s) i ∷ (step_same (codes "finish") closing closing_same i ∷ [])))

ports_same : (ps : List Port) → map bare_port (required ps) ≡ required ps
ports_same [] = refl
ports_same (p ∷ ps) = by_test (is_required p) (ports_same ps)
  where
    by_test : (b : Bool) → map bare_port (required ps) ≡ required ps → map bare_port (if b then port_of p ∷ required ps else required ps) ≡ (if b then port_of p ∷ required ps else required ps)
    by_test true rest = λ i. port_of p ∷ rest i
    by_test false rest = rest

aborts_same : (ns : List ℕ) → map bare_code (map aborted ns) ≡ map aborted ns
aborts_same [] = refl
aborts_same (n ∷ ns) = λ i. aborted n ∷ aborts_same ns i

-- The chain has no offsets.
pub chain_same : (library : List Definition) (s : Spec) → bare_definition (definition.Chain (chain_of library s)) ≡ definition.Chain (chain_of library s)
chain_same library s = λ i. definition.Chain (record {
  head = record {
    at = 0;
    name = word s.name;
    inputs = ports_same (inputs_of s.job library) i;
    outputs = ports_same (outputs_in (definition_named s.job library)) i;
    codes = code 401 (codes "maximum iterations") ∷ (code 402 (codes "second unhandled failure") ∷ aborts_same (aborts s.handlers) i);
  };
  outline = outline_same library s i;
})

-- The library with the chain added is bare where the library is.
pub expanded_bare : (library : List Definition) (s : Spec) → bare_library (expanded library s) ≡ expanded (bare_library library) s
expanded_bare library s =
    map-append bare_definition library (definition.Chain (chain_of library s) ∷ [])
    ∙ (λ i. bare_library library ++ chain_same library s i ∷ [])
    ∙ (λ i. bare_library library ++ definition.Chain (sym (chain_bare library s) i) ∷ [])

-- ---- refusals

job_there : (o : Option Definition) → is_some (as_job (option_map bare_definition o)) ≡ is_some (as_job o)
job_there None = refl
job_there (Some (definition.Function f)) = refl
job_there (Some (definition.Job j)) = refl
job_there (Some (definition.Chain c)) = refl

function_there : (o : Option Definition) → is_some (as_function (option_map bare_definition o)) ≡ is_some (as_function o)
function_there None = refl
function_there (Some (definition.Function f)) = refl
function_there (Some (definition.Job j)) = refl
function_there (Some (definition.Chain c)) = refl

there : (o : Option Definition) → is_some (option_map bare_definition o) ≡ is_some o
there None = refl
there (Some d) = refl

among_bare : (ps others : List Port) → all_among (map bare_port ps) others ≡ all_among ps others
among_bare [] others = refl
among_bare (p ∷ ps) others = λ i. has_port others p && among_bare ps others i

fit_bare : (ports : List Port) (o : Option Definition) → fits ports (as_function (option_map bare_definition o)) ≡ fits ports (as_function o)
fit_bare ports None = refl
fit_bare ports (Some (definition.Function f)) = λ i.
    among_bare f.head.inputs ports i && (all_among (required_bare f.head.outputs i) ports && all_among ports (required_bare f.head.outputs i))
fit_bare ports (Some (definition.Job j)) = refl
fit_bare ports (Some (definition.Chain c)) = refl

unknown_bare : (library : List Definition) (r : Remedy) → unknown_in (bare_library library) r ≡ unknown_in library r
unknown_bare library (remedy.Abort status) = refl
unknown_bare library (remedy.Call name) =
    ap (λ (b : Bool). unless b (error.UnknownName name)) (ap (λ (o : Option Definition). is_some (as_function o)) (named_bare name library) ∙ function_there (definition_named name library))

misfit_bare : (library : List Definition) (ports : List Port) (r : Remedy) → misfit_in (bare_library library) ports r ≡ misfit_in library ports r
misfit_bare library ports (remedy.Abort status) = refl
misfit_bare library ports (remedy.Call name) =
    ap (λ (b : Bool). unless b (error.BadPorts name)) (ap (λ (o : Option Definition). fits ports (as_function o)) (named_bare name library) ∙ fit_bare ports (definition_named name library))

unknowns_bare : (library : List Definition) (hs : List Handler) → unknown_functions (bare_library library) hs ≡ unknown_functions library hs
unknowns_bare library [] = refl
unknowns_bare library (h ∷ hs) = λ i. or_then (unknown_bare library h.remedy i) (unknowns_bare library hs i)

misfits_bare : (library : List Definition) (ports : List Port) (hs : List Handler) → bad_ports (bare_library library) ports hs ≡ bad_ports library ports hs
misfits_bare library ports [] = refl
misfits_bare library ports (h ∷ hs) = λ i. or_then (misfit_bare library ports h.remedy i) (misfits_bare library ports hs i)

-- What is refused of names and ports doesn't hang on offsets.
pub misnamed_bare : (library : List Definition) (s : Spec) → misnamed (bare_library library) s ≡ misnamed library s
misnamed_bare library s =
    let job : is_some (job_named s.job (bare_library library)) ≡ is_some (job_named s.job library) =
    ap (λ (o : Option Definition). is_some (as_job o)) (named_bare s.job library) ∙ job_there (definition_named s.job library) in
    let free : is_some (definition_named s.name (bare_library library)) ≡ is_some (definition_named s.name library) =
    ap (λ (o : Option Definition). is_some o) (named_bare s.name library) ∙ there (definition_named s.name library) in
    let ports : bad_ports (bare_library library) (asked_of s.job (bare_library library)) s.handlers ≡ bad_ports library (asked_of s.job library) s.handlers =
    ap (λ (ps : List Port). bad_ports (bare_library library) ps s.handlers) (asked_bare s.job library) ∙ misfits_bare library (asked_of s.job library) s.handlers in
    λ i. or_then (unless (job i) (error.UnknownName s.job))
    (or_then (unknowns_bare library s.handlers i)
    (or_then (unless (not (free i)) (error.NameTaken s.name)) (or_then (ports i) (same_priorities [] s.handlers))))
