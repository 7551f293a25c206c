-- A bare library is its own bare form.
use Rattle.std.proofs.Common.{◌≡◌, ◌∙◌, ap, sym, refl, subst, List, [], ◌∷◌, map, Option, Some, None}
use Rattle.std.specs.Option.{option_map}
use Rattle.wc_syntax.specs.Bare.{bare_level, at_form, at_expr, bare_expr, bare_form, bare_port, bare_code, bare_head, bare_exit, bare_rule, bare_line, bare_file, bare_fetch, bare_arg, bare_stmt, bare_number, instr_level, at_instr, at_arm, at_block, bare_instr, bare_arm, bare_block, bare_definition, bare_library}
use Rattle.wc_syntax.specs.declared.definition.Definition.{Definition}
use Rattle.wc_syntax.specs.declared.definition.Definition.TheVariants as definition
use Rattle.wc_syntax.specs.declared.definition.Exit.{Exit}
use Rattle.wc_syntax.specs.declared.definition.Head.{Head}
use Rattle.wc_syntax.specs.declared.definition.Rule.{Rule}
use Rattle.wc_syntax.specs.declared.definition.Rule.TheVariants as rule
use Rattle.wc_syntax.specs.declared.expression.ChildPart.TheVariants as part
use Rattle.wc_syntax.specs.declared.expression.Expr.{Expr, Expr-F, roll-Expr, ind-Expr, fold-roll-Expr}
use Rattle.wc_syntax.specs.declared.expression.Form.{Form, roll-Form, map-Form, fold-roll-Form}
use Rattle.wc_syntax.specs.declared.expression.Form.TheOpen.{Form-F}
use Rattle.wc_syntax.specs.declared.expression.Number.{Number}
use Rattle.wc_syntax.specs.declared.outline.Arm.{Arm, Arm-F, roll-Arm, fold-roll-Arm}
use Rattle.wc_syntax.specs.declared.outline.Block.{Block, Block-F, roll-Block, ind-Block, fold-roll-Block}
use Rattle.wc_syntax.specs.declared.outline.Instr.{Instr, roll-Instr, map-Instr, fold-roll-Instr}
use Rattle.wc_syntax.specs.declared.outline.Instr.TheOpen.{Instr-F}
use Rattle.wc_syntax.specs.declared.outline.Stmt.{Stmt}
use Rattle.wc_syntax.specs.declared.outline.Stmt.TheVariants as stmt

-- ---- lists

pub each : {A : Type 0} (bare : A → A) → ((x : A) → bare (bare x) ≡ bare x) → (xs : List A) → map bare (map bare xs) ≡ map bare xs
each bare h [] = refl
each bare h (x ∷ xs) = λ i. h x i ∷ each bare h xs i

-- ---- expressions

module _ {S S' : Type 0} (v : S → Form) (v' : S' → Expr) (p' : (s : S') → bare_expr (bare_expr (v' s)) ≡ bare_expr (v' s)) where
  abbrev opened : Form-F S S' → Form-F Form Expr
  opened y = map-Form S S' Form Expr v v' y

  abbrev bared : Form-F Form Expr → Form-F Form Expr
  bared y = map-Form Form Expr Form Expr bare_form bare_expr y

  each_item : (ss : List S') → map bare_expr (map bare_expr (map v' ss)) ≡ map bare_expr (map v' ss)
  each_item [] = refl
  each_item (s ∷ ss) = λ i. p' s i ∷ each_item ss i

  middle : (y : Form-F S S') → at_form (bared (bare_level (bared (opened y)))) ≡ at_form (bared (opened y))
  middle (Form-F.Number n) = refl
  middle (Form-F.Quoted q) = refl
  middle (Form-F.Truth b) = refl
  middle (Form-F.Bare n) = refl
  middle (Form-F.Input at n) = refl
  middle (Form-F.Plain at n) = refl
  middle (Form-F.Child at n None (part.Outputs o)) = refl
  middle (Form-F.Child at n None part.Status) = refl
  middle (Form-F.Child at n None part.Ok) = refl
  middle (Form-F.Child at n (Some e) (part.Outputs o)) = λ i. at_form (Form-F.Child at n (Some (p' e i)) (part.Outputs o))
  middle (Form-F.Child at n (Some e) part.Status) = λ i. at_form (Form-F.Child at n (Some (p' e i)) part.Status)
  middle (Form-F.Child at n (Some e) part.Ok) = λ i. at_form (Form-F.Child at n (Some (p' e i)) part.Ok)
  middle (Form-F.Unary o a) = λ i. at_form (Form-F.Unary o (p' a i))
  middle (Form-F.Binary o a b) = λ i. at_form (Form-F.Binary o (p' a i) (p' b i))
  middle (Form-F.One o a) = λ i. at_form (Form-F.One o (p' a i))
  middle (Form-F.Two o a b) = λ i. at_form (Form-F.Two o (p' a i) (p' b i))
  middle (Form-F.GivenBare n) = refl
  middle (Form-F.GivenInput at n) = refl
  middle (Form-F.Count at n) = refl
  middle (Form-F.List es) = λ i. at_form (Form-F.List (each_item es i))

  form_same : (y : Form-F S S') → bare_form (bare_form (roll-Form (opened y))) ≡ bare_form (roll-Form (opened y))
  form_same y =
      ap bare_form (fold-roll-Form Form Expr at_form at_expr (opened y))
      ∙ fold-roll-Form Form Expr at_form at_expr (bare_level (bared (opened y)))
      ∙ middle y ∙ sym (fold-roll-Form Form Expr at_form at_expr (opened y))

expr_same : (e : Expr-F Form Expr) → bare_form (bare_form e.form) ≡ bare_form e.form → bare_expr (bare_expr (roll-Expr e)) ≡ bare_expr (roll-Expr e)
expr_same e h =
    ap bare_expr (fold-roll-Expr Form Expr at_form at_expr e)
    ∙ fold-roll-Expr Form Expr at_form at_expr (record { at = 0; form = bare_form e.form })
    ∙ (λ i. roll-Expr (record { at = 0; form = h i })) ∙ sym (fold-roll-Expr Form Expr at_form at_expr e)

expr_bare : (e : Expr) → bare_expr (bare_expr e) ≡ bare_expr e
expr_bare = ind-Expr (λ f. bare_form (bare_form f) ≡ bare_form f) (λ e. bare_expr (bare_expr e) ≡ bare_expr e)
    (λ x y e. subst (λ (z : Form-F Form Expr). bare_form (bare_form (roll-Form z)) ≡ bare_form (roll-Form z)) e (form_same (λ s. s.0) (λ s. s.0) (λ s. s.1) y))
    (λ x y e. subst (λ (z : Expr-F Form Expr). bare_expr (bare_expr (roll-Expr z)) ≡ bare_expr (roll-Expr z)) e (expr_same (record { at = y.at; form = y.form.0 }) y.form.1))

-- ---- statements

condition_bare : (c : Option Expr) → option_map bare_expr (option_map bare_expr c) ≡ option_map bare_expr c
condition_bare None = refl
condition_bare (Some e) = λ i. Some (expr_bare e i)

exit_bare : (x : Exit) → bare_exit (bare_exit x) ≡ bare_exit x
exit_bare x = λ i. record { at = 0; status = bare_number x.status; condition = condition_bare x.condition i }

rule_bare : (r : Rule) → bare_rule (bare_rule r) ≡ bare_rule r
rule_bare (rule.Let at n e) = λ i. rule.Let 0 (record { text = n.text; at = 0 }) (expr_bare e i)
rule_bare (rule.Out at n e) = λ i. rule.Out 0 (record { text = n.text; at = 0 }) (expr_bare e i)
rule_bare (rule.Exit x) = λ i. rule.Exit (exit_bare x i)

stmt_bare : (t : Stmt) → bare_stmt (bare_stmt t) ≡ bare_stmt t
stmt_bare (stmt.Ctx at n e) = λ i. stmt.Ctx 0 (record { text = n.text; at = 0 }) (expr_bare e i)
stmt_bare (stmt.Out at n e) = λ i. stmt.Out 0 (record { text = n.text; at = 0 }) (expr_bare e i)
stmt_bare (stmt.Exit x) = λ i. stmt.Exit (exit_bare x i)
stmt_bare (stmt.Call c) = λ i. stmt.Call (record {
  at = 0;
  callee = record { text = c.callee.text; at = 0 };
  args = each bare_arg (λ a j. record { port = record { text = a.port.text; at = 0 }; value = expr_bare a.value j }) c.args i;
  append = c.append;
  key = record { text = c.key.text; at = 0 };
})

-- ---- outlines

returned_bare : (n : Option Number) → option_map bare_number (option_map bare_number n) ≡ option_map bare_number n
returned_bare None = refl
returned_bare (Some n) = refl

module _ {S S' S'' : Type 0} (v : S → Instr) (v' : S' → Arm) (v'' : S'' → Block)
    (p' : (s : S') → bare_arm (bare_arm (v' s)) ≡ bare_arm (v' s)) (p'' : (s : S'') → bare_block (bare_block (v'' s)) ≡ bare_block (v'' s)) where
  abbrev laid : Instr-F S S' S'' → Instr-F Instr Arm Block
  laid y = map-Instr S S' S'' Instr Arm Block v v' v'' y

  abbrev level_bared : Instr-F Instr Arm Block → Instr-F Instr Arm Block
  level_bared y = map-Instr Instr Arm Block Instr Arm Block bare_instr bare_arm bare_block y

  each_arm : (ss : List S') → map bare_arm (map bare_arm (map v' ss)) ≡ map bare_arm (map v' ss)
  each_arm [] = refl
  each_arm (s ∷ ss) = λ i. p' s i ∷ each_arm ss i

  level_bare : (y : Instr-F S S' S'') → at_instr (level_bared (instr_level (level_bared (laid y)))) ≡ at_instr (level_bared (laid y))
  level_bare (Instr-F.Step s) = λ i. roll-Instr (Instr-F.Step (record { at = 0; name = record { text = s.name.text; at = 0 }; stmts = each bare_stmt stmt_bare s.stmts i }))
  level_bare (Instr-F.If at arms None) = λ i. roll-Instr (Instr-F.If 0 (each_arm arms i) None)
  level_bare (Instr-F.If at arms (Some b)) = λ i. roll-Instr (Instr-F.If 0 (each_arm arms i) (Some (p'' b i)))
  level_bare (Instr-F.While at e b) = λ i. roll-Instr (Instr-F.While 0 (expr_bare e i) (p'' b i))
  level_bare (Instr-F.Return at n) = λ i. roll-Instr (Instr-F.Return 0 (returned_bare n i))

  instr_same : (y : Instr-F S S' S'') → bare_instr (bare_instr (roll-Instr (laid y))) ≡ bare_instr (roll-Instr (laid y))
  instr_same y =
      ap bare_instr (fold-roll-Instr Instr Arm Block at_instr at_arm at_block (laid y))
      ∙ fold-roll-Instr Instr Arm Block at_instr at_arm at_block (instr_level (level_bared (laid y)))
      ∙ level_bare y ∙ sym (fold-roll-Instr Instr Arm Block at_instr at_arm at_block (laid y))

arm_same : (a : Arm-F Instr Arm Block) → bare_block (bare_block a.block) ≡ bare_block a.block → bare_arm (bare_arm (roll-Arm a)) ≡ bare_arm (roll-Arm a)
arm_same a h =
    ap bare_arm (fold-roll-Arm Instr Arm Block at_instr at_arm at_block a)
    ∙ fold-roll-Arm Instr Arm Block at_instr at_arm at_block (record { condition = bare_expr a.condition; block = bare_block a.block })
    ∙ (λ i. roll-Arm (record { condition = expr_bare a.condition i; block = h i })) ∙ sym (fold-roll-Arm Instr Arm Block at_instr at_arm at_block a)

module _ {S : Type 0} (v : S → Instr) (p : (s : S) → bare_instr (bare_instr (v s)) ≡ bare_instr (v s)) where
  each_instr : (ss : List S) → map bare_instr (map bare_instr (map v ss)) ≡ map bare_instr (map v ss)
  each_instr [] = refl
  each_instr (s ∷ ss) = λ i. p s i ∷ each_instr ss i

  block_same : (ss : List S) → bare_block (bare_block (roll-Block (record { instrs = map v ss }))) ≡ bare_block (roll-Block (record { instrs = map v ss }))
  block_same ss =
      ap bare_block (fold-roll-Block Instr Arm Block at_instr at_arm at_block (record { instrs = map v ss }))
      ∙ fold-roll-Block Instr Arm Block at_instr at_arm at_block (record { instrs = map bare_instr (map v ss) })
      ∙ (λ i. roll-Block (record { instrs = each_instr ss i })) ∙ sym (fold-roll-Block Instr Arm Block at_instr at_arm at_block (record { instrs = map v ss }))

outline_bare : (b : Block) → bare_block (bare_block b) ≡ bare_block b
outline_bare = ind-Block (λ i. bare_instr (bare_instr i) ≡ bare_instr i) (λ a. bare_arm (bare_arm a) ≡ bare_arm a) (λ b. bare_block (bare_block b) ≡ bare_block b)
    (λ x y e. subst (λ (z : Instr-F Instr Arm Block). bare_instr (bare_instr (roll-Instr z)) ≡ bare_instr (roll-Instr z)) e
    (instr_same (λ s. s.0) (λ s. s.0) (λ s. s.0) (λ s. s.1) (λ s. s.1) y))
    (λ x y e. subst (λ (z : Arm-F Instr Arm Block). bare_arm (bare_arm (roll-Arm z)) ≡ bare_arm (roll-Arm z)) e (arm_same (record { condition = y.condition; block = y.block.0 }) y.block.1))
    (λ x y e. subst (λ (z : Block-F Instr Arm Block). bare_block (bare_block (roll-Block z)) ≡ bare_block (roll-Block z)) e (block_same (λ s. s.0) (λ s. s.1) y.instrs))

-- ---- definitions

head_bare : (h : Head) → bare_head (bare_head h) ≡ bare_head h
head_bare h = λ i. record {
  at = 0;
  name = record { text = h.name.text; at = 0 };
  inputs = each bare_port (λ p. refl) h.inputs i;
  outputs = each bare_port (λ p. refl) h.outputs i;
  codes = each bare_code (λ c. refl) h.codes i;
}

definition_bare : (d : Definition) → bare_definition (bare_definition d) ≡ bare_definition d
definition_bare (definition.Function f) = λ i. definition.Function (record { head = head_bare f.head i; rules = each bare_rule rule_bare f.rules i })
definition_bare (definition.Job j) = λ i. definition.Job (record {
  head = head_bare j.head i;
  program = record { at = 0; value = expr_bare j.program.value i };
  args = each bare_line (λ l k. record { at = 0; value = expr_bare l.value k }) j.args i;
  files = each bare_file (λ f k. record { at = 0; name = record { text = f.name.text; at = 0 }; value = expr_bare f.value k }) j.files i;
  fetch = each bare_fetch (λ f. refl) j.fetch i;
  parse = each bare_rule rule_bare j.parse i;
})
definition_bare (definition.Chain c) = λ i. definition.Chain (record { head = head_bare c.head i; outline = outline_bare c.outline i })

pub library_bare : (library : List Definition) → bare_library (bare_library library) ≡ bare_library library
library_bare = each bare_definition definition_bare
