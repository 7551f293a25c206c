-- Offsets play no part in what definitions mean.
use Rattle.std.proofs.Common.{◌≡◌, ℕ, zero, suc, List, [], ◌∷◌, ◌++◌, Option, Some, None, Bool, true, false, map, refl, sym, ap, ◌∙◌}
use Rattle.std.specs.Prelude.{if◌then◌else◌, ◌&&◌, ◌==◌, option_map}
use Rattle.std.specs.List.{list_all}
use Rattle.std.specs.Str.{bytes_eq}
use Rattle.wc_value.specs.Ascending.{put}
use Rattle.wc_value.specs.declared.process.JobResult.{JobResult}
use Rattle.wc_value.specs.declared.process.ProcessState.{ProcessState}
use Rattle.wc_value.specs.declared.process.ProcessState.TheVariants.{Created, Running, Waiting, Finished, Excepted, Killed}
use Rattle.wc_value.specs.declared.process.Reason.TheVariants.{WrongKind, Depth, BadInput}
use Rattle.wc_value.specs.declared.process.Request.{Request}
use Rattle.wc_value.specs.declared.value.Kind.{Kind}
use Rattle.wc_value.specs.declared.value.Value.{out-Value}
use Rattle.wc_syntax.specs.Bare.{bare_level, at_form, at_expr, bare_expr, bare_form, bare_port, bare_number, bare_arg, bare_call, bare_stmt, at_instr, at_arm, at_block, instr_level, bare_instr, bare_arm, bare_block, bare_definition, bare_library}
use Rattle.wc_syntax.specs.Findings.{is_data, head_of, definition_named}
use Rattle.wc_syntax.specs.declared.definition.Chain.{Chain}
use Rattle.wc_syntax.specs.declared.definition.Definition.{Definition}
use Rattle.wc_syntax.specs.declared.definition.Definition.TheVariants as definition
use Rattle.wc_syntax.specs.declared.definition.Port.{Port}
use Rattle.wc_syntax.specs.declared.expression.ChildPart.TheVariants as part
use Rattle.wc_syntax.specs.declared.expression.Expr.{Expr, fold_out-Expr}
use Rattle.wc_syntax.specs.declared.expression.Form.{Form, out-Form, map-Form, fold-roll-Form, fold_out-Form, out-roll-Form}
use Rattle.wc_syntax.specs.declared.expression.Form.TheOpen.{Form-F}
use Rattle.wc_syntax.specs.declared.expression.Number.{Number}
use Rattle.wc_syntax.specs.declared.outline.Arm.{Arm, fold_out-Arm, fold-roll-Arm}
use Rattle.wc_syntax.specs.declared.outline.Block.{Block, fold_out-Block, fold-roll-Block}
use Rattle.wc_syntax.specs.declared.outline.CallArg.{CallArg}
use Rattle.wc_syntax.specs.declared.outline.CallStmt.{CallStmt}
use Rattle.wc_syntax.specs.declared.outline.Instr.{Instr, out-Instr, map-Instr, fold_out-Instr, fold-roll-Instr}
use Rattle.wc_syntax.specs.declared.outline.Instr.TheOpen.{Instr-F}
use Rattle.wc_syntax.specs.declared.outline.Stmt.{Stmt}
use Rattle.wc_syntax.specs.declared.outline.Stmt.TheVariants as stmt
use Rattle.wc_state.specs.declared.environment.Env.{Env}
use Rattle.wc_state.specs.declared.environment.Item.TheVariants.{Plain}
use Rattle.wc_expression.specs.declared.outcome.Outcome.TheVariants.{Gives, Faults}
use Rattle.wc_expression.specs.Outcomes.{◌>>=◌}
use Rattle.wc_expression.specs.Contents.{bool_of}
use Rattle.wc_expression.specs.Val.{Meant, form, limited, val, val_form, holds}
use Rattle.wc_expression.proofs.Bare.{val_bare}
use Rattle.wc_semantics.specs.Rules.{Values, fits_port, fitting, status_of}
use Rattle.wc_semantics.proofs.BareCalculations.{kind_bare, lacks_bare, taken_bare, calculated_bare, request_bare, parsed_bare}
use Rattle.wc_semantics.specs.declared.progress.Answer.TheVariants.{Gave}
use Rattle.wc_semantics.specs.declared.progress.Flow.{Flow}
use Rattle.wc_semantics.specs.declared.progress.Flow.TheVariants.{Goes, Ends, NoFuel, Lacks, Off}
use Rattle.wc_semantics.specs.declared.progress.Planned.{Planned}
use Rattle.wc_semantics.specs.Tables.{Table, Kills, under}
use Rattle.wc_semantics.specs.Statements.{with_key, names_data, datum, argument, arguments, planned, or_stops, exits, collected, statements}
use Rattle.wc_semantics.specs.Run.{Call, Around, Act, ◌>->◌, spend, by_value, after, step_of, test, picked, or_nothing, turns, returned, instr, arm, block, exec, arm_act, run_block, run, instrs}
use Rattle.wc_semantics.specs.Meaning.{leaf, judged, end, ended, first, kinds_of, within, chain, job, whole, cut, by_kill, is_good, takes_inputs, takes_of, surrounding, meaning}
use Rattle.wc_semantics.specs.Laws.{arm_block, condition}
use Rattle.wc_semantics.proofs.Induction.{AllOf, Inside, every_block}
use Rattle.wc_semantics.proofs.Acts.{block_is, arm_is}

-- ---- data that is passed

each : (es : List Expr) → map val (map bare_expr es) ≡ map val es
each [] = refl
each (e ∷ es) = λ i. val_bare e i ∷ each es i

level_bare : (y : Form-F Form Expr)
    → form (map-Form Form Expr Meant Meant val_form val (bare_level (map-Form Form Expr Form Expr bare_form bare_expr y))) ≡ form (map-Form Form Expr Meant Meant val_form val y)
level_bare (Form-F.Number n) = refl
level_bare (Form-F.Quoted q) = refl
level_bare (Form-F.Truth b) = refl
level_bare (Form-F.Bare n) = refl
level_bare (Form-F.Input at n) = refl
level_bare (Form-F.Plain at n) = refl
level_bare (Form-F.Child at n None (part.Outputs o)) = refl
level_bare (Form-F.Child at n None part.Status) = refl
level_bare (Form-F.Child at n None part.Ok) = refl
level_bare (Form-F.Child at n (Some e) (part.Outputs o)) = λ i. form (Form-F.Child at n (Some (val_bare e i)) (part.Outputs o))
level_bare (Form-F.Child at n (Some e) part.Status) = λ i. form (Form-F.Child at n (Some (val_bare e i)) part.Status)
level_bare (Form-F.Child at n (Some e) part.Ok) = λ i. form (Form-F.Child at n (Some (val_bare e i)) part.Ok)
level_bare (Form-F.Unary o a) = λ i. form (Form-F.Unary o (val_bare a i))
level_bare (Form-F.Binary o a b) = λ i. form (Form-F.Binary o (val_bare a i) (val_bare b i))
level_bare (Form-F.One o a) = λ i. form (Form-F.One o (val_bare a i))
level_bare (Form-F.Two o a b) = λ i. form (Form-F.Two o (val_bare a i) (val_bare b i))
level_bare (Form-F.GivenBare n) = refl
level_bare (Form-F.GivenInput at n) = refl
level_bare (Form-F.Count at n) = refl
level_bare (Form-F.List es) = λ i. form (Form-F.List (each es i))

form_bare : (f : Form) → val_form (bare_form f) ≡ val_form f
form_bare f =
    ap val_form (fold_out-Form Form Expr at_form at_expr f)
    ∙ fold-roll-Form Meant Meant form limited (bare_level (map-Form Form Expr Form Expr bare_form bare_expr (out-Form f)))
    ∙ level_bare (out-Form f) ∙ sym (fold_out-Form Meant Meant form limited f)

data_level : (y : Form-F Form Expr) → is_data (bare_level (map-Form Form Expr Form Expr bare_form bare_expr y)) ≡ is_data y
data_level (Form-F.Number n) = refl
data_level (Form-F.Quoted q) = refl
data_level (Form-F.Truth b) = refl
data_level (Form-F.Bare n) = refl
data_level (Form-F.Input at n) = refl
data_level (Form-F.Plain at n) = refl
data_level (Form-F.Child at n None (part.Outputs o)) = refl
data_level (Form-F.Child at n None part.Status) = refl
data_level (Form-F.Child at n None part.Ok) = refl
data_level (Form-F.Child at n (Some e) (part.Outputs o)) = refl
data_level (Form-F.Child at n (Some e) part.Status) = refl
data_level (Form-F.Child at n (Some e) part.Ok) = refl
data_level (Form-F.Unary o a) = refl
data_level (Form-F.Binary o a b) = refl
data_level (Form-F.One o a) = refl
data_level (Form-F.Two o a b) = refl
data_level (Form-F.GivenBare n) = refl
data_level (Form-F.GivenInput at n) = refl
data_level (Form-F.Count at n) = refl
data_level (Form-F.List es) = refl

data_bare : (f : Form) → is_data (out-Form (bare_form f)) ≡ is_data (out-Form f)
data_bare f =
    ap (λ (g : Form). is_data (out-Form g)) (fold_out-Form Form Expr at_form at_expr f)
    ∙ ap is_data (out-roll-Form (bare_level (map-Form Form Expr Form Expr bare_form bare_expr (out-Form f))))
    ∙ data_level (out-Form f)

its_form : (x : Expr) → (bare_expr x).form ≡ bare_form x.form
its_form x = ap (λ (e : Expr). e.form) (fold_out-Expr Form Expr at_form at_expr x)

names_bare : (x : Expr) → names_data (bare_expr x) ≡ names_data x
names_bare x = ap (λ (f : Form). is_data (out-Form f)) (its_form x) ∙ data_bare x.form

passed_bare : (x : Expr) → val_form (bare_expr x).form ≡ val_form x.form
passed_bare x = ap val_form (its_form x) ∙ form_bare x.form

datum_bare : (x : Expr) (env : Env) → datum (bare_expr x) env ≡ datum x env
datum_bare x env = λ i. if names_bare x i then passed_bare x i env else Faults WrongKind

argument_bare : (x : Expr) (env : Env) → argument (bare_expr x) env ≡ argument x env
argument_bare x env = λ i. if names_bare x i then passed_bare x i env else val_bare x i env

arguments_bare : (as' : List CallArg) (env : Env) (values : Values) → arguments (map bare_arg as') env values ≡ arguments as' env values
arguments_bare [] env values = refl
arguments_bare (a ∷ as') env values = λ i. argument_bare a.value env i >>= (λ v. arguments_bare as' env (put a.port.text v values) i)

-- ---- statements

collected_bare : (deep : Bool) (takes : List ℕ → Values → Bool) (c : CallStmt) (env : Env) → collected deep takes (bare_call c) env ≡ collected deep takes c env
collected_bare deep takes c env =
    λ i. if deep then Faults Depth else (arguments_bare c.args env [] i >>= (λ vs. if takes c.callee.text vs then Gives (planned c vs) else Faults BadInput))

statements_bare : (deep : Bool) (takes : List ℕ → Values → Bool) (kinds : List ℕ → Option Kind) (ss : List Stmt) (ps : List Planned) (env : Env) (outs : Values)
    → statements deep takes kinds (map bare_stmt ss) ps env outs ≡ statements deep takes kinds ss ps env outs
statements_bare deep takes kinds [] ps env outs = refl
statements_bare deep takes kinds (stmt.Ctx at key x ∷ ss) ps env outs =
    λ i. or_stops (val_bare x i env) env outs (λ v. statements_bare deep takes kinds ss ps (with_key key.text (Plain v) env) outs i)
statements_bare deep takes kinds (stmt.Out at name x ∷ ss) ps env outs =
    λ i. or_stops (datum_bare x env i >>= fitting (kinds name.text)) env outs (λ v. statements_bare deep takes kinds ss ps env (put name.text v outs) i)
statements_bare deep takes kinds (stmt.Exit x ∷ ss) ps env outs =
    λ i. or_stops (taken_bare x.condition env i) env outs (λ b. if b then exits (status_of x) ps env outs else statements_bare deep takes kinds ss ps env outs i)
statements_bare deep takes kinds (stmt.Call c ∷ ss) ps env outs =
    λ i. or_stops (collected_bare deep takes c env i) env outs (λ p. statements_bare deep takes kinds ss (ps ++ p ∷ []) env outs i)

step_bare : (ss : List Stmt) → step_of (map bare_stmt ss) ≡ step_of ss
step_bare ss = λ i a n e. after (statements_bare a.deep a.takes a.kinds ss [] e.env e.outputs i) a n e

-- ---- instructions

holds_bare : (c : Expr) (env : Env) → holds (bare_expr c) env ≡ holds c env
holds_bare c env = λ i. val_bare c i env >>= (λ v. bool_of (out-Value v))

turns_bare : (most : ℕ) (c : Expr) (x y : Act) → x ≡ y → turns most (bare_expr c) x ≡ turns most c y
turns_bare zero c x y h = λ i a n e. test (holds_bare c e.env i) n e NoFuel (Goes n e)
turns_bare (suc most) c x y h =
    λ i a n e. test (holds_bare c e.env i) n e (spend n (λ m. h i a m e >-> turns_bare most c x y h i a)) (Goes n e)

returned_bare : (code : Option Number) → returned (option_map bare_number code) ≡ returned code
returned_bare None = refl
returned_bare (Some k) = refl

abbrev Same : Block → Type 0
Same b = run_block (bare_block b) ≡ run_block b

arm_bare : (x : Arm) → arm_act (bare_arm x) ≡ (bare_expr (condition x), run_block (bare_block (arm_block x)))
arm_bare x = ap arm_act (fold_out-Arm Instr Arm Block at_instr at_arm at_block x)
    ∙ fold-roll-Arm Act (Expr × Act) Act instr arm block (record { condition = bare_expr (condition x); block = bare_block (arm_block x) })

picked_bare : (arms : List Arm) (other : Act) (env : Env) → AllOf (λ x. Same (arm_block x)) arms
    → picked (map arm_act (map bare_arm arms)) other env ≡ picked (map arm_act arms) other env
picked_bare [] other env t = refl
picked_bare (x ∷ xs) other env t =
    ap (λ (y : Expr × Act). picked (y ∷ map arm_act (map bare_arm xs)) other env) (arm_bare x)
    ∙ (λ i. holds_bare (condition x) env i >>= (λ b. if b then Gives (t.0 i) else picked_bare xs other env t.1 i))
    ∙ sym (ap (λ (y : Expr × Act). picked (y ∷ map arm_act xs) other env) (arm_is x))

instr_bare : (y : Instr-F Instr Arm Block) → Inside Same y
    → instr (map-Instr Instr Arm Block Act (Expr × Act) Act exec arm_act run_block (instr_level (map-Instr Instr Arm Block Instr Arm Block bare_instr bare_arm bare_block y)))
    ≡ instr (map-Instr Instr Arm Block Act (Expr × Act) Act exec arm_act run_block y)
instr_bare (Instr-F.Step s) t = step_bare s.stmts
instr_bare (Instr-F.If at arms None) t = λ i a n e. by_value (picked_bare arms (or_nothing None) e.env t.0 i) n e (λ x. x a n e)
instr_bare (Instr-F.If at arms (Some b)) t = λ i a n e. by_value (picked_bare arms (t.1 i) e.env t.0 i) n e (λ x. x a n e)
instr_bare (Instr-F.While at c b) t = λ i a n e. turns_bare n c (run_block (bare_block b)) (run_block b) t i a n e
instr_bare (Instr-F.Return at code) t = λ i a n e. Ends (Finished (returned_bare code i)) n e

exec_bare : (i : Instr) → Inside Same (out-Instr i) → exec (bare_instr i) ≡ exec i
exec_bare i t =
    ap exec (fold_out-Instr Instr Arm Block at_instr at_arm at_block i)
    ∙ fold-roll-Instr Act (Expr × Act) Act instr arm block (instr_level (map-Instr Instr Arm Block Instr Arm Block bare_instr bare_arm bare_block (out-Instr i)))
    ∙ instr_bare (out-Instr i) t ∙ sym (fold_out-Instr Act (Expr × Act) Act instr arm block i)

all_bare : (is : List Instr) → AllOf (λ i. exec (bare_instr i) ≡ exec i) is → map exec (map bare_instr is) ≡ map exec is
all_bare [] t = refl
all_bare (x ∷ xs) t = λ i. t.0 i ∷ all_bare xs t.1 i

many_bare : (b : Block) → AllOf (λ i. exec (bare_instr i) ≡ exec i) (instrs b) → Same b
many_bare b t =
    ap run_block (fold_out-Block Instr Arm Block at_instr at_arm at_block b)
    ∙ fold-roll-Block Act (Expr × Act) Act instr arm block (record { instrs = map bare_instr (instrs b) })
    ∙ ap (λ (xs : List Act). block (record { instrs = xs })) (all_bare (instrs b) t)
    ∙ sym (block_is b)

pub block_bare : (b : Block) → run_block (bare_block b) ≡ run_block b
block_bare = every_block (λ i. exec (bare_instr i) ≡ exec i) Same exec_bare many_bare

outline_bare : (b : Block) → run (instrs (bare_block b)) ≡ run (instrs b)
outline_bare b = sym (block_is (bare_block b)) ∙ block_bare b ∙ block_is b

-- ---- definitions

judged_bare : (ports : List Port) (s : ProcessState) (outs : Values) → judged (map bare_port ports) s outs ≡ judged ports s outs
judged_bare ports Created outs = refl
judged_bare ports Running outs = refl
judged_bare ports Waiting outs = refl
judged_bare ports (Finished n) outs = λ i. Finished (if (n == 0) && lacks_bare ports outs i then 11 else n)
judged_bare ports (Excepted r) outs = refl
judged_bare ports Killed outs = refl

ended_bare : (stop : Option ℕ) (name : List ℕ) (ports : List Port) (f : Flow) → ended stop name (map bare_port ports) f ≡ ended stop name ports f
ended_bare stop name ports (Goes n e) = λ i. end stop name (judged_bare ports (Finished 0) e.outputs i) n e
ended_bare stop name ports (Ends s n e) = λ i. end stop name (judged_bare ports s e.outputs i) n e
ended_bare stop name ports NoFuel = refl
ended_bare stop name ports (Lacks q) = refl
ended_bare stop name ports Off = refl

chain_bare : (stop : Option ℕ) (name : List ℕ) (c : Chain) (a : Around) (n : ℕ) (inputs : Values)
    → ended stop name (map bare_port c.head.outputs) (run (instrs (bare_block c.outline)) (within (map bare_port c.head.outputs) stop a) n (first inputs)) ≡ chain stop name c a n inputs
chain_bare stop name c a n inputs =
    (λ i. ended stop name (map bare_port c.head.outputs) (outline_bare c.outline i
    (record { call = a.call; deep = a.deep; takes = a.takes; kinds = λ x. kind_bare x c.head.outputs i; stop = stop }) n (first inputs)))
    ∙ ended_bare stop name c.head.outputs _

whole_bare : (d : Option Definition) (a : Around) (results : Request → Option JobResult) (n : ℕ) (name : List ℕ) (inputs : Values)
    → whole (option_map bare_definition d) a results n name inputs ≡ whole d a results n name inputs
whole_bare None a results n name inputs = refl
whole_bare (Some (definition.Function f)) a results n name inputs = λ i. Gave (leaf name (calculated_bare f inputs i) []) n
whole_bare (Some (definition.Job j)) a results n name inputs = λ i. job name (request_bare j inputs i) (λ r. parsed_bare j inputs r i) results n
whole_bare (Some (definition.Chain c)) a results n name inputs = chain_bare None name c a n inputs

cut_bare : (s : ℕ) (d : Option Definition) (a : Around) (n : ℕ) (name : List ℕ) (inputs : Values)
    → cut s (option_map bare_definition d) a n name inputs ≡ cut s d a n name inputs
cut_bare zero d a n name inputs = refl
cut_bare (suc s) None a n name inputs = refl
cut_bare (suc s) (Some (definition.Function f)) a n name inputs = refl
cut_bare (suc s) (Some (definition.Job j)) a n name inputs = refl
cut_bare (suc s) (Some (definition.Chain c)) a n name inputs = chain_bare (Some (suc s)) name c a n inputs

by_kill_bare : (s : Option ℕ) (d : Option Definition) (a : Around) (results : Request → Option JobResult) (n : ℕ) (name : List ℕ) (inputs : Values)
    → by_kill s (option_map bare_definition d) a results n name inputs ≡ by_kill s d a results n name inputs
by_kill_bare None d a results n name inputs = whole_bare d a results n name inputs
by_kill_bare (Some s) d a results n name inputs = cut_bare s d a n name inputs

-- ---- libraries

head_bare : (d : Definition) → (head_of (bare_definition d)).name.text ≡ (head_of d).name.text
head_bare (definition.Function f) = refl
head_bare (definition.Job j) = refl
head_bare (definition.Chain c) = refl

pub inputs_bare : (d : Definition) → (head_of (bare_definition d)).inputs ≡ map bare_port (head_of d).inputs
inputs_bare (definition.Function f) = refl
inputs_bare (definition.Job j) = refl
inputs_bare (definition.Chain c) = refl

chosen : (b : Bool) (d : Definition) (o : Option Definition)
    → (if b then Some (bare_definition d) else option_map bare_definition o) ≡ option_map bare_definition (if b then Some d else o)
chosen true d o = refl
chosen false d o = refl

pub named_bare : (name : List ℕ) (ds : List Definition) → definition_named name (bare_library ds) ≡ option_map bare_definition (definition_named name ds)
named_bare name [] = refl
named_bare name (d ∷ ds) = (λ i. if bytes_eq (head_bare d i) name then Some (bare_definition d) else named_bare name ds i)
    ∙ chosen (bytes_eq (head_of d).name.text name) d (definition_named name ds)

good_bare : (ports : List Port) (inputs : Values) → list_all (is_good (map bare_port ports)) inputs ≡ list_all (is_good ports) inputs
good_bare ports inputs = λ i. list_all (λ x. fits_port (kind_bare x.0 ports i) x.1) inputs

takes_inputs_bare : (d : Option Definition) (inputs : Values) → takes_inputs (option_map bare_definition d) inputs ≡ takes_inputs d inputs
takes_inputs_bare None inputs = refl
takes_inputs_bare (Some d) inputs = ap (λ (ports : List Port). list_all (is_good ports) inputs) (inputs_bare d) ∙ good_bare (head_of d).inputs inputs

takes_bare : (ds : List Definition) → takes_of (bare_library ds) ≡ takes_of ds
takes_bare ds = λ i name inputs. (ap (λ d. takes_inputs d inputs) (named_bare name ds) ∙ takes_inputs_bare (definition_named name ds) inputs) i

surrounding_bare : (ds : List Definition) (call : Option Call) → surrounding (bare_library ds) call ≡ surrounding ds call
surrounding_bare ds None = λ i. record { call = (surrounding ds None).call; deep = true; takes = takes_bare ds i; kinds = kinds_of []; stop = None }
surrounding_bare ds (Some call) = λ i. record { call = call; deep = false; takes = takes_bare ds i; kinds = kinds_of []; stop = None }

one_level : (ds : List Definition) (call : Option Call) (s : Option ℕ) (results : Request → Option JobResult) (n : ℕ) (name : List ℕ) (inputs : Values)
    → by_kill s (definition_named name (bare_library ds)) (surrounding (bare_library ds) call) results n name inputs
    ≡ by_kill s (definition_named name ds) (surrounding ds call) results n name inputs
one_level ds call s results n name inputs =
    (λ i. by_kill s (named_bare name ds i) (surrounding_bare ds call i) results n name inputs)
    ∙ by_kill_bare s (definition_named name ds) (surrounding ds call) results n name inputs

pub meaning_bare : (levels : ℕ) (ds : List Definition) (table : Table) (kills : Kills) (n : ℕ) (name : List ℕ) (inputs : Values)
    → meaning levels (bare_library ds) table kills n name inputs ≡ meaning levels ds table kills n name inputs
meaning_bare zero ds table kills n name inputs = one_level ds None (kills []) (table []) n name inputs
meaning_bare (suc levels) ds table kills n name inputs =
    (λ i. by_kill (kills []) (definition_named name (bare_library ds))
    (surrounding (bare_library ds) (Some (λ l m x y. meaning_bare levels ds (under l table) (under l kills) m x y i))) (table []) n name inputs)
    ∙ one_level ds (Some (λ l. meaning levels ds (under l table) (under l kills))) (kills []) (table []) n name inputs
