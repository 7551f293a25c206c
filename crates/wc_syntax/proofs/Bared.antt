-- Offsets play no part in what is printed.
use Rattle.std.proofs.Common.{◌≡◌, ℕ, List, [], ◌∷◌, ◌++◌, Option, Some, None, Bool, true, false, if◌then◌else◌, map, refl, sym, ap, subst, ◌∙◌}
use Rattle.std.specs.Prelude.{codes, flat_map}
use Rattle.std.specs.Option.{option_map}
use Rattle.wc_syntax.specs.declared.expression.Expr.{Expr, Expr-F, roll-Expr, ind-Expr, fold-roll-Expr}
use Rattle.wc_syntax.specs.declared.expression.Form.{Form, roll-Form, map-Form, fold-roll-Form}
use Rattle.wc_syntax.specs.declared.expression.Form.TheOpen.{Form-F}
use Rattle.wc_syntax.specs.declared.expression.ChildPart.TheVariants as part
use Rattle.wc_syntax.specs.declared.expression.Number.{Number}
use Rattle.wc_syntax.specs.declared.definition.Definition.{Definition}
use Rattle.wc_syntax.specs.declared.definition.Definition.TheVariants as definition
use Rattle.wc_syntax.specs.declared.definition.Head.{Head}
use Rattle.wc_syntax.specs.declared.definition.Job.{Job}
use Rattle.wc_syntax.specs.declared.definition.Exit.{Exit}
use Rattle.wc_syntax.specs.declared.definition.Rule.{Rule}
use Rattle.wc_syntax.specs.declared.definition.Rule.TheVariants as rule
use Rattle.wc_syntax.specs.declared.outline.CallArg.{CallArg}
use Rattle.wc_syntax.specs.declared.outline.CallStmt.{CallStmt}
use Rattle.wc_syntax.specs.declared.outline.Stmt.{Stmt}
use Rattle.wc_syntax.specs.declared.outline.Stmt.TheVariants as stmt
use Rattle.wc_syntax.specs.declared.outline.Step.{Step}
use Rattle.wc_syntax.specs.declared.outline.Block.{Block, Block-F, roll-Block, ind-Block, fold-roll-Block}
use Rattle.wc_syntax.specs.declared.outline.Arm.{Arm, Arm-F, roll-Arm, fold-roll-Arm}
use Rattle.wc_syntax.specs.declared.outline.Instr.{Instr, roll-Instr, map-Instr, fold-roll-Instr}
use Rattle.wc_syntax.specs.declared.outline.Instr.TheOpen.{Instr-F}
use Rattle.wc_syntax.specs.Bare.{bare_level, at_form, at_expr, bare_expr, bare_form, bare_port, bare_code, bare_head, bare_exit, bare_rule, bare_line, bare_file, bare_fetch, bare_job, bare_arg, bare_call, bare_stmt, bare_step, bare_number, instr_level, at_instr, at_arm, at_block, bare_instr, bare_arm, bare_block, bare_definition, bare_library}
use Rattle.wc_syntax.specs.declared.definition.Port.{Port}
use Rattle.wc_syntax.specs.declared.definition.ExitCode.{ExitCode}
use Rattle.wc_syntax.specs.Printing.{quoted_text, number_text, in_brackets, context_text, closed, separated, form_text, its_text, expr_text, text_of, condition_text, exit_text, rule_text, rule_lines, port_text, code_text, code_lines, head_text, inside, line, deeper, arg_text, call_text, stmt_text, step_lines, Lines, Branch, branches_lines, else_lines, returned_text, branch_lines, instr_level_lines, arm_level_lines, block_level_lines, instr_lines, arm_branch, block_lines, file_text, job_lines, definition_lines, start_lines, printed_definition, printed}

-- ---- expressions

module _ {S S' : Type 0} (v : S → Form) (v' : S' → Expr) (p' : (s : S') → expr_text (bare_expr (v' s)) ≡ expr_text (v' s)) where
  abbrev opened : Form-F S S' → Form-F Form Expr
  opened y = map-Form S S' Form Expr v v' y

  abbrev told : Form-F Form Expr → Form-F (List ℕ) (List ℕ)
  told y = map-Form Form Expr (List ℕ) (List ℕ) text_of expr_text y

  each : (ss : List S') → map expr_text (map bare_expr (map v' ss)) ≡ map expr_text (map v' ss)
  each [] = refl
  each (s ∷ ss) = λ i. p' s i ∷ each ss i

  middle : (y : Form-F S S') → form_text (told (bare_level (map-Form Form Expr Form Expr bare_form bare_expr (opened y)))) ≡ form_text (told (opened y))
  middle (Form-F.Number n) = refl
  middle (Form-F.Quoted q) = refl
  middle (Form-F.Truth b) = refl
  middle (Form-F.Bare n) = refl
  middle (Form-F.Input at n) = refl
  middle (Form-F.Plain at n) = refl
  middle (Form-F.Child at n None (part.Outputs o)) = refl
  middle (Form-F.Child at n None part.Status) = refl
  middle (Form-F.Child at n None part.Ok) = refl
  middle (Form-F.Child at n (Some e) (part.Outputs o)) = λ i. form_text (Form-F.Child at n (Some (p' e i)) (part.Outputs o))
  middle (Form-F.Child at n (Some e) part.Status) = λ i. form_text (Form-F.Child at n (Some (p' e i)) part.Status)
  middle (Form-F.Child at n (Some e) part.Ok) = λ i. form_text (Form-F.Child at n (Some (p' e i)) part.Ok)
  middle (Form-F.Unary o a) = λ i. form_text (Form-F.Unary o (p' a i))
  middle (Form-F.Binary o a b) = λ i. form_text (Form-F.Binary o (p' a i) (p' b i))
  middle (Form-F.One o a) = λ i. form_text (Form-F.One o (p' a i))
  middle (Form-F.Two o a b) = λ i. form_text (Form-F.Two o (p' a i) (p' b i))
  middle (Form-F.GivenBare n) = refl
  middle (Form-F.GivenInput at n) = refl
  middle (Form-F.Count at n) = refl
  middle (Form-F.List es) = λ i. form_text (Form-F.List (each es i))

  form_same : (y : Form-F S S') → text_of (bare_form (roll-Form (opened y))) ≡ text_of (roll-Form (opened y))
  form_same y =
      ap text_of (fold-roll-Form Form Expr at_form at_expr (opened y))
      ∙ fold-roll-Form (List ℕ) (List ℕ) form_text its_text (bare_level (map-Form Form Expr Form Expr bare_form bare_expr (opened y)))
      ∙ middle y ∙ sym (fold-roll-Form (List ℕ) (List ℕ) form_text its_text (opened y))

expr_same : (e : Expr-F Form Expr) → text_of (bare_form e.form) ≡ text_of e.form → expr_text (bare_expr (roll-Expr e)) ≡ expr_text (roll-Expr e)
expr_same e h =
    ap expr_text (fold-roll-Expr Form Expr at_form at_expr e)
    ∙ fold-roll-Expr (List ℕ) (List ℕ) form_text its_text (record { at = 0; form = bare_form e.form })
    ∙ h ∙ sym (fold-roll-Expr (List ℕ) (List ℕ) form_text its_text e)

pub expr_bare : (e : Expr) → expr_text (bare_expr e) ≡ expr_text e
expr_bare = ind-Expr (λ f. text_of (bare_form f) ≡ text_of f) (λ e. expr_text (bare_expr e) ≡ expr_text e)
    (λ x y e. subst (λ (z : Form-F Form Expr). text_of (bare_form (roll-Form z)) ≡ text_of (roll-Form z)) e (form_same (λ s. s.0) (λ s. s.0) (λ s. s.1) y))
    (λ x y e. subst (λ (z : Expr-F Form Expr). expr_text (bare_expr (roll-Expr z)) ≡ expr_text (roll-Expr z)) e (expr_same (record { at = y.at; form = y.form.0 }) y.form.1))

-- ---- lists

each_bare : {A : Type 0} (bare : A → A) (text : A → List ℕ) → ((x : A) → text (bare x) ≡ text x) → (xs : List A) → flat_map text (map bare xs) ≡ flat_map text xs
each_bare bare text h [] = refl
each_bare bare text h (x ∷ xs) = λ i. h x i ++ each_bare bare text h xs i

separated_bare : {A : Type 0} (first : Bool) (bare : A → A) (text : A → List ℕ) → ((x : A) → text (bare x) ≡ text x) → (xs : List A)
    → separated first text (map bare xs) ≡ separated first text xs
separated_bare first bare text h [] = refl
separated_bare first bare text h (x ∷ xs) = λ i. (if first then [] else codes ", ") ++ (h x i ++ separated_bare false bare text h xs i)

-- ---- statements

set_bare : (front : List ℕ) (e : Expr) → front ++ codes " = " ++ expr_text (bare_expr e) ++ codes ";" ≡ front ++ codes " = " ++ expr_text e ++ codes ";"
set_bare front e = λ i. front ++ codes " = " ++ expr_bare e i ++ codes ";"

condition_bare : (c : Option Expr) → condition_text (option_map bare_expr c) ≡ condition_text c
condition_bare None = refl
condition_bare (Some e) = λ i. codes " if " ++ expr_bare e i

exit_bare : (x : Exit) → exit_text (bare_exit x) ≡ exit_text x
exit_bare x = λ i. codes "exit " ++ number_text x.status ++ condition_bare x.condition i ++ codes ";"

rule_bare : (r : Rule) → rule_text (bare_rule r) ≡ rule_text r
rule_bare (rule.Let at n e) = set_bare (codes "let " ++ n.text) e
rule_bare (rule.Out at n e) = set_bare (codes "out " ++ n.text) e
rule_bare (rule.Exit x) = exit_bare x

rules_bare : (margin : List ℕ) (rs : List Rule) → rule_lines margin (map bare_rule rs) ≡ rule_lines margin rs
rules_bare margin = each_bare bare_rule (λ r. line margin (rule_text r)) (λ r. ap (line margin) (rule_bare r))

arg_bare : (a : CallArg) → arg_text (bare_arg a) ≡ arg_text a
arg_bare a = λ i. a.port.text ++ codes ": " ++ expr_bare a.value i

call_bare : (c : CallStmt) → call_text (bare_call c) ≡ call_text c
call_bare c = λ i.
    codes "call " ++ c.callee.text ++ in_brackets (separated_bare true bare_arg arg_text arg_bare c.args i)
    ++ (if c.append then codes " append " else codes " to ") ++ context_text c.key ++ codes ";"

stmt_bare : (t : Stmt) → stmt_text (bare_stmt t) ≡ stmt_text t
stmt_bare (stmt.Ctx at n e) = set_bare (context_text n) e
stmt_bare (stmt.Out at n e) = set_bare (codes "out " ++ n.text) e
stmt_bare (stmt.Exit x) = exit_bare x
stmt_bare (stmt.Call c) = call_bare c

step_bare : (margin : List ℕ) (s : Step) → step_lines margin (bare_step s) ≡ step_lines margin s
step_bare margin s = λ i.
    line margin (codes "step " ++ s.name.text ++ codes " {")
    ++ each_bare bare_stmt (λ t. line (deeper margin) (stmt_text t)) (λ t. ap (line (deeper margin)) (stmt_bare t)) s.stmts i
    ++ line margin (codes "}")

-- ---- outlines

returned_bare : (n : Option Number) → returned_text (option_map bare_number n) ≡ returned_text n
returned_bare None = refl
returned_bare (Some n) = refl

module _ {S S' S'' : Type 0} (v : S → Instr) (v' : S' → Arm) (v'' : S'' → Block)
    (p' : (s : S') → arm_branch (bare_arm (v' s)) ≡ arm_branch (v' s)) (p'' : (s : S'') → block_lines (bare_block (v'' s)) ≡ block_lines (v'' s)) where
  abbrev laid : Instr-F S S' S'' → Instr-F Instr Arm Block
  laid y = map-Instr S S' S'' Instr Arm Block v v' v'' y

  abbrev bared : Instr-F Instr Arm Block → Instr-F Instr Arm Block
  bared y = instr_level (map-Instr Instr Arm Block Instr Arm Block bare_instr bare_arm bare_block y)

  abbrev written : Instr-F Instr Arm Block → Instr-F Lines Branch Lines
  written y = map-Instr Instr Arm Block Lines Branch Lines instr_lines arm_branch block_lines y

  each_arm : (ss : List S') → map arm_branch (map bare_arm (map v' ss)) ≡ map arm_branch (map v' ss)
  each_arm [] = refl
  each_arm (s ∷ ss) = λ i. p' s i ∷ each_arm ss i

  level_bare : (y : Instr-F S S' S'') → instr_level_lines (written (bared (laid y))) ≡ instr_level_lines (written (laid y))
  level_bare (Instr-F.Step s) = λ i margin. step_bare margin s i
  level_bare (Instr-F.If at arms None) = λ i margin. branches_lines true margin (each_arm arms i) ++ [] ++ line margin (codes "}")
  level_bare (Instr-F.If at arms (Some b)) = λ i margin. branches_lines true margin (each_arm arms i) ++ else_lines margin (Some (p'' b i)) ++ line margin (codes "}")
  level_bare (Instr-F.While at e b) = λ i margin. branch_lines (codes "while ") margin (expr_bare e i, p'' b i) ++ line margin (codes "}")
  level_bare (Instr-F.Return at n) = λ i margin. line margin (codes "return" ++ returned_bare n i ++ codes ";")

  instr_same : (y : Instr-F S S' S'') → instr_lines (bare_instr (roll-Instr (laid y))) ≡ instr_lines (roll-Instr (laid y))
  instr_same y =
      ap instr_lines (fold-roll-Instr Instr Arm Block at_instr at_arm at_block (laid y))
      ∙ fold-roll-Instr Lines Branch Lines instr_level_lines arm_level_lines block_level_lines (bared (laid y))
      ∙ level_bare y ∙ sym (fold-roll-Instr Lines Branch Lines instr_level_lines arm_level_lines block_level_lines (laid y))

arm_same : (a : Arm-F Instr Arm Block) → block_lines (bare_block a.block) ≡ block_lines a.block → arm_branch (bare_arm (roll-Arm a)) ≡ arm_branch (roll-Arm a)
arm_same a h =
    ap arm_branch (fold-roll-Arm Instr Arm Block at_instr at_arm at_block a)
    ∙ fold-roll-Arm Lines Branch Lines instr_level_lines arm_level_lines block_level_lines (record { condition = bare_expr a.condition; block = bare_block a.block })
    ∙ (λ i. (expr_bare a.condition i, h i)) ∙ sym (fold-roll-Arm Lines Branch Lines instr_level_lines arm_level_lines block_level_lines a)

module _ {S : Type 0} (v : S → Instr) (p : (s : S) → instr_lines (bare_instr (v s)) ≡ instr_lines (v s)) where
  each_instr : (ss : List S) → map instr_lines (map bare_instr (map v ss)) ≡ map instr_lines (map v ss)
  each_instr [] = refl
  each_instr (s ∷ ss) = λ i. p s i ∷ each_instr ss i

  block_same : (ss : List S) → block_lines (bare_block (roll-Block (record { instrs = map v ss }))) ≡ block_lines (roll-Block (record { instrs = map v ss }))
  block_same ss =
      ap block_lines (fold-roll-Block Instr Arm Block at_instr at_arm at_block (record { instrs = map v ss }))
      ∙ fold-roll-Block Lines Branch Lines instr_level_lines arm_level_lines block_level_lines (record { instrs = map bare_instr (map v ss) })
      ∙ (λ i margin. flat_map (λ (lines : Lines). lines margin) (each_instr ss i))
      ∙ sym (fold-roll-Block Lines Branch Lines instr_level_lines arm_level_lines block_level_lines (record { instrs = map v ss }))

pub block_bare : (b : Block) → block_lines (bare_block b) ≡ block_lines b
block_bare = ind-Block (λ i. instr_lines (bare_instr i) ≡ instr_lines i) (λ a. arm_branch (bare_arm a) ≡ arm_branch a) (λ b. block_lines (bare_block b) ≡ block_lines b)
    (λ x y e. subst (λ (z : Instr-F Instr Arm Block). instr_lines (bare_instr (roll-Instr z)) ≡ instr_lines (roll-Instr z)) e
    (instr_same (λ s. s.0) (λ s. s.0) (λ s. s.0) (λ s. s.1) (λ s. s.1) y))
    (λ x y e. subst (λ (z : Arm-F Instr Arm Block). arm_branch (bare_arm (roll-Arm z)) ≡ arm_branch (roll-Arm z)) e
    (arm_same (record { condition = y.condition; block = y.block.0 }) y.block.1))
    (λ x y e. subst (λ (z : Block-F Instr Arm Block). block_lines (bare_block (roll-Block z)) ≡ block_lines (roll-Block z)) e (block_same (λ s. s.0) (λ s. s.1) y.instrs))

-- ---- definitions

ports_bare : (ports : List Port) → separated true port_text (map bare_port ports) ≡ separated true port_text ports
ports_bare = separated_bare true bare_port port_text (λ p. refl)

codes_bare : (cs : List ExitCode) → code_lines (map bare_code cs) ≡ code_lines cs
codes_bare = each_bare bare_code (λ c. line inside (code_text c)) (λ c. refl)

head_bare : (word : List ℕ) (h : Head) → head_text word (bare_head h) ≡ head_text word h
head_bare word h = λ i.
    word ++ h.name.text
    ++ (in_brackets (ports_bare h.inputs i) ++ codes " -> " ++ in_brackets (ports_bare h.outputs i))
    ++ codes " {"

start_bare : (word : List ℕ) (h : Head) → start_lines word (bare_head h) ≡ start_lines word h
unfolding start_lines
start_bare word h = λ i. line [] (head_bare word h i) ++ codes_bare h.codes i

job_bare : (j : Job) → job_lines (bare_job j) ≡ job_lines j
job_bare j = λ i.
    line inside (codes "program " ++ expr_bare j.program.value i ++ codes ";")
    ++ each_bare bare_line (λ l. line inside (codes "arg " ++ expr_text l.value ++ codes ";")) (λ l k. line inside (codes "arg " ++ expr_bare l.value k ++ codes ";")) j.args i
    ++ each_bare bare_file (λ f. line inside (file_text f)) (λ f. ap (line inside) (set_bare (codes "file " ++ quoted_text f.name) f.value)) j.files i
    ++ each_bare bare_fetch (λ f. line inside (codes "fetch " ++ quoted_text f.name ++ codes ";")) (λ f. refl) j.fetch i
    ++ line inside (codes "parse {") ++ rules_bare (deeper inside) j.parse i ++ line inside (codes "}")

both_bare : (word : List ℕ) (h : Head) (body other : List ℕ) → body ≡ other → definition_lines word (bare_head h) body ≡ definition_lines word h other
both_bare word h body other e = λ i. start_bare word h i ++ closed (e i)

pub definition_bare : (d : Definition) → printed_definition (bare_definition d) ≡ printed_definition d
definition_bare (definition.Function f) = both_bare (codes "calcfunction ") f.head _ _ (rules_bare inside f.rules)
definition_bare (definition.Job j) = both_bare (codes "calcjob ") j.head _ _ (job_bare j)
definition_bare (definition.Chain c) = both_bare (codes "workchain ") c.head _ _ (λ i. block_bare c.outline i inside)

pub printed_bare : (library : List Definition) → printed (bare_library library) ≡ printed library
printed_bare = each_bare bare_definition printed_definition definition_bare
