-- Offsets play no part in an advance.
use Rattle.std.proofs.Common.{◌≡◌, ℕ, ◌+◌, Bool, List, [], ◌∷◌, Option, Some, None, length, map, reverse, refl, ap, ◌∙◌}
use Rattle.std.specs.Prelude.{is_some, if◌then◌else◌, nat_le, option_map, slice_get}
use Rattle.std.specs.List.{list_all}
use Rattle.wc_value.specs.Ascending.{put}
use Rattle.wc_value.specs.declared.process.ProcessState.TheVariants.{Finished}
use Rattle.wc_value.specs.declared.process.Reason.TheVariants.{BadInput, Depth}
use Rattle.wc_value.specs.declared.value.Kind.{Kind}
use Rattle.wc_value.specs.declared.value.Value.{out-Value}
use Rattle.wc_syntax.specs.Bare.{bare_level, at_form, at_expr, bare_expr, bare_form, bare_port, bare_number, bare_arg, bare_stmt, bare_call, bare_instr, bare_arm, bare_block, bare_chain, bare_definition, bare_library}
use Rattle.wc_syntax.specs.Findings.{head_of, definition_named}
use Rattle.wc_syntax.specs.declared.definition.Chain.{Chain}
use Rattle.wc_syntax.specs.declared.definition.Definition.{Definition}
use Rattle.wc_syntax.specs.declared.definition.Definition.TheVariants as definition
use Rattle.wc_syntax.specs.declared.definition.Port.{Port}
use Rattle.wc_syntax.specs.declared.expression.ChildPart.TheVariants as part
use Rattle.wc_syntax.specs.declared.expression.Expr.{Expr, fold_out-Expr}
use Rattle.wc_syntax.specs.declared.expression.Form.{Form, out-Form, map-Form, fold_out-Form, out-roll-Form}
use Rattle.wc_syntax.specs.declared.expression.Form.TheOpen.{Form-F}
use Rattle.wc_syntax.specs.declared.expression.Name.{Name}
use Rattle.wc_syntax.specs.declared.expression.Number.{Number}
use Rattle.wc_syntax.specs.declared.outline.Arm.{Arm}
use Rattle.wc_syntax.specs.declared.outline.Block.{Block}
use Rattle.wc_syntax.specs.declared.outline.CallArg.{CallArg}
use Rattle.wc_syntax.specs.declared.outline.CallStmt.{CallStmt}
use Rattle.wc_syntax.specs.declared.outline.Instr.{Instr, out-Instr}
use Rattle.wc_syntax.specs.declared.outline.Instr.TheOpen.{Instr-F}
use Rattle.wc_syntax.specs.declared.outline.Stmt.{Stmt}
use Rattle.wc_syntax.specs.declared.outline.Stmt.TheVariants as stmt
use Rattle.wc_state.specs.declared.environment.Env.{Env}
use Rattle.wc_state.specs.declared.environment.NodeValue.{NodeValue}
use Rattle.wc_state.specs.declared.record.Checkpoint.{Checkpoint}
use Rattle.wc_state.specs.declared.record.Frame.{Frame}
use Rattle.wc_expression.specs.declared.outcome.Outcome.{Outcome}
use Rattle.wc_expression.specs.declared.outcome.Outcome.TheVariants.{Gives, Faults}
use Rattle.wc_expression.specs.Outcomes.{◌>>=◌}
use Rattle.wc_expression.specs.Contents.{bool_of, item}
use Rattle.wc_expression.specs.Environment.{children}
use Rattle.wc_expression.specs.Val.{Meant, holds}
use Rattle.wc_expression.proofs.Bare.{val_bare}
use Rattle.wc_semantics.specs.Rules.{Values, fits_port, status_of}
use Rattle.wc_semantics.proofs.BareCalculations.{kind_bare, taken_bare}
use Rattle.wc_semantics.specs.Laws.{arm_block, condition}
use Rattle.wc_semantics.specs.Meaning.{kinds_of, is_good, takes_inputs, takes_of}
use Rattle.wc_semantics.specs.Run.{picked, returned}
use Rattle.wc_semantics.proofs.Bare.{inputs_bare, named_bare}
use Rattle.wc_machine.specs.Advances.{Advanced, ends, past, at_head, first_block, numbered_arms, after_arms, other_number, chosen, turned, after_step, done, does, at_innermost, advance, popped}
use Rattle.wc_machine.specs.Outlines.{Blocks, blocks, block_of}
use Rattle.wc_machine.specs.Steps.{Argument, values_in, output_node, node_in, named_node, or_wrong, fitting_node, output, or_plain, arguments, Noted, or_stops, exits, with_plain, with_output, with_call, planned, collected, statements}
use Rattle.wc_outline.specs.Places.{chain_of}
use Rattle.wc_outline.specs.Shown.{shown}
use Rattle.wc_outline.proofs.BareBlocks.{bare_all, bare_opened, instr_opened, arm_condition, arm_count, blocks_bare, get_map, found_bare, popped_bare, first_bare}

-- ---- what is called

good_bare : (ports : List Port) (inputs : Values) → list_all (is_good (map bare_port ports)) inputs ≡ list_all (is_good ports) inputs
good_bare ports inputs = λ i. list_all (λ x. fits_port (kind_bare x.0 ports i) x.1) inputs

takes_inputs_bare : (d : Option Definition) (inputs : Values) → takes_inputs (option_map bare_definition d) inputs ≡ takes_inputs d inputs
takes_inputs_bare None inputs = refl
takes_inputs_bare (Some d) inputs = ap (λ (ports : List Port). list_all (is_good ports) inputs) (inputs_bare d) ∙ good_bare (head_of d).inputs inputs

takes_bare : (ds : List Definition) → takes_of (bare_library ds) ≡ takes_of ds
takes_bare ds = λ i name inputs. (ap (λ d. takes_inputs d inputs) (named_bare name ds) ∙ takes_inputs_bare (definition_named name ds) inputs) i

kinds_bare : (ports : List Port) → kinds_of (map bare_port ports) ≡ kinds_of ports
kinds_bare ports = λ i name. kind_bare name ports i

-- ---- nodes that are named

abbrev indexed_node : List ℕ → Meant → Name → Env → Option (Outcome NodeValue)
indexed_node key m label env = Some (do
  cs ← children key env
  i ← m env
  c ← item cs (out-Value i)
  output_node (part.Outputs label) c)

node_level : (y : Form-F Form Expr) (env : Env) → node_in (bare_level (map-Form Form Expr Form Expr bare_form bare_expr y)) env ≡ node_in y env
node_level (Form-F.Number n) env = refl
node_level (Form-F.Quoted q) env = refl
node_level (Form-F.Truth b) env = refl
node_level (Form-F.Bare n) env = refl
node_level (Form-F.Input at n) env = refl
node_level (Form-F.Plain at n) env = refl
node_level (Form-F.Child at n None (part.Outputs o)) env = refl
node_level (Form-F.Child at n None part.Status) env = refl
node_level (Form-F.Child at n None part.Ok) env = refl
node_level (Form-F.Child at n (Some e) (part.Outputs o)) env = λ j. indexed_node n.text (val_bare e j) o env
node_level (Form-F.Child at n (Some e) part.Status) env = refl
node_level (Form-F.Child at n (Some e) part.Ok) env = refl
node_level (Form-F.Unary o a) env = refl
node_level (Form-F.Binary o a b) env = refl
node_level (Form-F.One o a) env = refl
node_level (Form-F.Two o a b) env = refl
node_level (Form-F.GivenBare n) env = refl
node_level (Form-F.GivenInput at n) env = refl
node_level (Form-F.Count at n) env = refl
node_level (Form-F.List es) env = refl

form_opened : (f : Form) → out-Form (bare_form f) ≡ bare_level (map-Form Form Expr Form Expr bare_form bare_expr (out-Form f))
form_opened f = ap out-Form (fold_out-Form Form Expr at_form at_expr f) ∙ out-roll-Form (bare_level (map-Form Form Expr Form Expr bare_form bare_expr (out-Form f)))

its_form : (x : Expr) → (bare_expr x).form ≡ bare_form x.form
its_form x = ap (λ (e : Expr). e.form) (fold_out-Expr Form Expr at_form at_expr x)

named_node_bare : (x : Expr) (env : Env) → named_node (bare_expr x) env ≡ named_node x env
named_node_bare x env = ap (λ (f : Form). node_in (out-Form f) env) (its_form x) ∙ ap (λ (y : Form-F Form Expr). node_in y env) (form_opened x.form) ∙ node_level (out-Form x.form) env

output_bare : (port : Option Kind) (x : Expr) (env : Env) → output port (bare_expr x) env ≡ output port x env
output_bare port x env = λ i. or_wrong (named_node_bare x env i) >>= fitting_node port

arguments_bare : (as' : List CallArg) (env : Env) (args : List (List ℕ × Argument)) → arguments (map bare_arg as') env args ≡ arguments as' env args
arguments_bare [] env args = refl
arguments_bare (a ∷ as') env args = λ i. or_plain (named_node_bare a.value env i) (val_bare a.value i env) >>= (λ x. arguments_bare as' env (put a.port.text x args) i)

-- ---- statements

module _ (before : ℕ) (deep : Bool) (takes : List ℕ → Values → Bool) (kinds : List ℕ → Option Kind) where
  collected_bare : (c : CallStmt) (s : Noted) → collected before deep takes kinds (bare_call c) s ≡ collected before deep takes kinds c s
  collected_bare c s = λ i. if deep then Faults Depth
      else (arguments_bare c.args s.env [] i >>= (λ args.
      if takes c.callee.text (values_in args) then Gives (planned before deep takes kinds c (before + length s.calls + 1) args) else Faults BadInput))

  statements_bare : (ss : List Stmt) (s : Noted) → statements before deep takes kinds (map bare_stmt ss) s ≡ statements before deep takes kinds ss s
  statements_bare [] s = refl
  statements_bare (stmt.Ctx at key x ∷ ss) s = λ i. or_stops (val_bare x i s.env) s (λ v. statements_bare ss (with_plain key.text v s) i)
  statements_bare (stmt.Out at name x ∷ ss) s = λ i. or_stops (output_bare (kinds name.text) x s.env i) s (λ n. statements_bare ss (with_output name.text n.node s) i)
  statements_bare (stmt.Exit x ∷ ss) s = λ i. or_stops (taken_bare x.condition s.env i) s (λ b. if b then exits (status_of x) s else statements_bare ss s i)
  statements_bare (stmt.Call c ∷ ss) s = λ i. or_stops (collected_bare c s i) s (λ p. statements_bare ss (with_call p s) i)

-- ---- conditions and blocks

holds_bare : (c : Expr) (env : Env) → holds (bare_expr c) env ≡ holds c env
holds_bare c env = λ i. val_bare c i env >>= (λ v. bool_of (out-Value v))

arms_bare : (n : ℕ) (arms : List Arm) (other : Option ℕ) (env : Env) → picked (numbered_arms n (map bare_arm arms)) other env ≡ picked (numbered_arms n arms) other env
arms_bare n [] other env = refl
arms_bare n (x ∷ xs) other env = λ i. (ap (λ (c : Expr). holds c env) (arm_condition x) ∙ holds_bare (condition x) env) i
    >>= (λ b. if b then Gives (Some n)
    else (ap (λ (m : ℕ). picked (numbered_arms (n + m) (map bare_arm xs)) other env) (arm_count x) ∙ arms_bare (n + length (blocks (arm_block x))) xs other env) i)

after_bare : (n : ℕ) (arms : List Arm) → after_arms n (map bare_arm arms) ≡ after_arms n arms
after_bare n [] = refl
after_bare n (x ∷ xs) = ap (λ (m : ℕ). after_arms (n + m) (map bare_arm xs)) (arm_count x) ∙ after_bare (n + length (blocks (arm_block x))) xs

returned_bare : (code : Option Number) → returned (option_map bare_number code) ≡ returned code
returned_bare None = refl
returned_bare (Some k) = refl

-- ---- an advance

module _ (library : List Definition) (k : Chain) (depth : ℕ) (env : Env) (c : Checkpoint) where
  abbrev it : Blocks → Instr-F Instr Arm Block → Frame → List Frame → Advanced
  it = done library k depth env c

  abbrev bare_it : Blocks → Instr-F Instr Arm Block → Frame → List Frame → Advanced
  bare_it = done (bare_library library) (bare_chain k) depth env c

  branch : (n m : ℕ) (arms : List Arm) (other other' : Option Block) (fs : List Frame) → n ≡ m → ((l : ℕ) → other_number l other ≡ other_number l other')
      → chosen library k depth env c (picked (numbered_arms n (map bare_arm arms)) (other_number (after_arms n (map bare_arm arms)) other) env) fs
      ≡ chosen library k depth env c (picked (numbered_arms m arms) (other_number (after_arms m arms) other') env) fs
  branch n m arms other other' fs h q =
      ap (λ o. chosen library k depth env c o fs)
      ((λ i. picked (numbered_arms n (map bare_arm arms)) ((q (after_arms n (map bare_arm arms)) ∙ ap (λ (l : ℕ). other_number l other') (after_bare n arms)) i) env)
      ∙ arms_bare n arms (other_number (after_arms n arms) other') env
      ∙ ap (λ (l : ℕ). picked (numbered_arms l arms) (other_number (after_arms l arms) other') env) h)

  it_bare : (bs : Blocks) (y : Instr-F Instr Arm Block) (f : Frame) (fs : List Frame) → bare_it (bare_all bs) (bare_opened y) f fs ≡ it bs y f fs
  it_bare bs (Instr-F.Step s) f fs =
      ap (λ t. after_step library k depth env c t (past f ∷ fs))
      ((λ i. statements c.calls (nat_le 16 depth) (takes_bare library i) (kinds_bare k.head.outputs i) (map bare_stmt s.stmts) (record { env = env; ctx = c.ctx; outputs = c.outputs; calls = [] }))
      ∙ statements_bare c.calls (nat_le 16 depth) (takes_of library) (kinds_of k.head.outputs) s.stmts (record { env = env; ctx = c.ctx; outputs = c.outputs; calls = [] }))
  it_bare bs (Instr-F.If at arms None) f fs = branch (first_block (bare_all bs) f) (first_block bs f) arms None None (past f ∷ fs) (first_bare bs f) (λ l. refl)
  it_bare bs (Instr-F.If at arms (Some b)) f fs = branch (first_block (bare_all bs) f) (first_block bs f) arms (Some (bare_block b)) (Some b) (past f ∷ fs) (first_bare bs f) (λ l. refl)
  it_bare bs (Instr-F.While at e b) f fs = λ i. turned library k depth env c (holds_bare e env i) (at_head (first_bare bs f i) ∷ (f ∷ fs)) (past f ∷ fs)
  it_bare bs (Instr-F.Return at code) f fs = λ i. ends (Finished (returned_bare code i)) c.outputs

  does_bare : (bs : Blocks) (o : Option Instr) (f : Frame) (fs : List Frame)
      → does (bare_library library) (bare_chain k) depth env c (bare_all bs) (option_map bare_instr o) f fs ≡ does library k depth env c bs o f fs
  does_bare bs None f fs = refl
  does_bare bs (Some i) f fs = ap (λ (y : Instr-F Instr Arm Block). bare_it (bare_all bs) y f fs) (instr_opened i) ∙ it_bare bs (out-Instr i) f fs

  innermost_bare : (bs : Blocks) (fs : List Frame)
      → at_innermost (bare_library library) (bare_chain k) depth env c (bare_all bs) fs ≡ at_innermost library k depth env c bs fs
  innermost_bare bs [] = refl
  innermost_bare bs (f ∷ fs) =
      ap (λ o. does (bare_library library) (bare_chain k) depth env c (bare_all bs) o f fs)
      (ap (λ (is : List Instr). slice_get is f.next) (found_bare bs f.block) ∙ get_map bare_instr (block_of (slice_get bs f.block)) f.next)
      ∙ does_bare bs (slice_get (block_of (slice_get bs f.block)) f.next) f fs

  pub advance_bare : advance (bare_library library) (bare_chain k) depth env c ≡ advance library k depth env c
  advance_bare =
      (λ i. at_innermost (bare_library library) (bare_chain k) depth env c (blocks_bare k.outline i) (popped (blocks_bare k.outline i) (reverse c.frames)))
      ∙ ap (at_innermost (bare_library library) (bare_chain k) depth env c (bare_all (blocks k.outline))) (popped_bare (blocks k.outline) (reverse c.frames))
      ∙ innermost_bare (blocks k.outline) (popped (blocks k.outline) (reverse c.frames))

-- of a chain that is found by its name
chain_named : (o : Option Definition) (k : Chain) → chain_of o ≡ Some k → o ≡ Some (definition.Chain k)
chain_named None k h = absurd (cc)
chain_named (Some (definition.Function f)) k h = absurd (cc)
chain_named (Some (definition.Job j)) k h = absurd (cc)
chain_named (Some (definition.Chain j)) k h = ap (λ (o : Option Chain). option_map definition.Chain o) h

pub advance_named : (name : List ℕ) (ds : List Definition) (k : Chain) (depth : ℕ) (env : Env) (c : Checkpoint) → chain_of (definition_named name ds) ≡ Some k
    → option_map (λ j. shown (advance (bare_library ds) j depth env c)) (chain_of (definition_named name (bare_library ds))) ≡ Some (shown (advance ds k depth env c))
advance_named name ds k depth env c h =
    ap (λ (o : Option Definition). option_map (λ j. shown (advance (bare_library ds) j depth env c)) (chain_of o))
    (named_bare name ds ∙ ap (option_map bare_definition) (chain_named (definition_named name ds) k h))
    ∙ ap (λ x. Some (shown x)) (advance_bare ds k depth env c)

pub chain_bare : (name : List ℕ) (ds : List Definition) (k : Chain) → chain_of (definition_named name ds) ≡ Some k → chain_of (definition_named name (bare_library ds)) ≡ Some (bare_chain k)
chain_bare name ds k h = ap chain_of (named_bare name ds ∙ ap (option_map bare_definition) (chain_named (definition_named name ds) k h))

is_some_bare : (o : Option Definition) → is_some (chain_of (option_map bare_definition o)) ≡ is_some (chain_of o)
is_some_bare None = refl
is_some_bare (Some (definition.Function f)) = refl
is_some_bare (Some (definition.Job j)) = refl
is_some_bare (Some (definition.Chain k)) = refl

pub is_chain_bare : (name : List ℕ) (ds : List Definition) → is_some (chain_of (definition_named name (bare_library ds))) ≡ is_some (chain_of (definition_named name ds))
is_chain_bare name ds = ap (λ (o : Option Definition). is_some (chain_of o)) (named_bare name ds) ∙ is_some_bare (definition_named name ds)
