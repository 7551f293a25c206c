-- What bare expressions and outlines mention.
use Rattle.std.proofs.Common.{◌≡◌, List, [], ◌∷◌, Option, Some, None, map, refl, sym, ap, subst, ◌∙◌}
use Rattle.std.specs.Prelude.{flat_map}
use Rattle.std.specs.Option.{option_map}
use Rattle.wc_syntax.specs.declared.expression.ChildPart.{ChildPart}
use Rattle.wc_syntax.specs.declared.expression.ChildPart.TheVariants as part
use Rattle.wc_syntax.specs.declared.expression.Expr.{Expr, Expr-F, roll-Expr, ind-Expr, fold-roll-Expr, fold_out-Expr}
use Rattle.wc_syntax.specs.declared.expression.Form.{Form, out-Form, fold-Form, roll-Form, map-Form, fold-roll-Form, fold_out-Form, out-roll-Form}
use Rattle.wc_syntax.specs.declared.expression.Form.TheOpen.{Form-F}
use Rattle.wc_syntax.specs.declared.expression.Number.{Number}
use Rattle.wc_syntax.specs.declared.outline.Step.{Step}
use Rattle.wc_syntax.specs.declared.outline.Block.{Block, Block-F, roll-Block, ind-Block, fold-roll-Block}
use Rattle.wc_syntax.specs.declared.outline.Arm.{Arm, Arm-F, roll-Arm, fold-roll-Arm}
use Rattle.wc_syntax.specs.declared.outline.Instr.{Instr, roll-Instr, map-Instr, fold-roll-Instr}
use Rattle.wc_syntax.specs.declared.outline.Instr.TheOpen.{Instr-F}
use Rattle.wc_syntax.specs.Bare.{bare_name, bare_number, bare_level, at_form, at_expr, bare_expr, bare_form, bare_part, bare_stmt, bare_step, instr_level, at_instr, at_arm, at_block, bare_instr, bare_arm, bare_block}
use Rattle.wc_syntax.specs.Findings.{is_data}
use Rattle.wc_syntax.specs.Mentions.{Mention, Bare, Given, Input, Context, Label, part_mentions, form_mentions, its_mentions, mentions, Piece, Begins, Named, Does, Tests, Returns, step_pieces, returned_pieces, instr_pieces, arm_pieces, block_pieces, pieces}
use Rattle.wc_check.specs.Flat.{pieces_of_instr, pieces_of_arm}
use Rattle.wc_check.proofs.BareLists.{both, mapped, joined}

-- ---- expressions

abbrev pub bare_mention : Mention → Mention
bare_mention (Bare n) = Bare (bare_name n)
bare_mention (Given n) = Given (bare_name n)
bare_mention (Input at n) = Input 0 (bare_name n)
bare_mention (Context at n) = Context 0 (bare_name n)
bare_mention (Label n) = Label (bare_name n)

abbrev mentions_of_form : Form → List Mention
mentions_of_form = fold-Form (List Mention) (List Mention) form_mentions its_mentions

-- the mentions of what is bare are bare
abbrev FormBared : Form → Type 0
FormBared f = mentions_of_form (bare_form f) ≡ map bare_mention (mentions_of_form f)

abbrev ExprBared : Expr → Type 0
ExprBared e = mentions (bare_expr e) ≡ map bare_mention (mentions e)

part_bare : (p : ChildPart) → part_mentions (bare_part p) ≡ map bare_mention (part_mentions p)
part_bare (part.Outputs n) = refl
part_bare part.Status = refl
part_bare part.Ok = refl

module _ {S S' : Type 0} (v : S → Form) (v' : S' → Expr) (p' : (s : S') → ExprBared (v' s)) where
  abbrev opened : Form-F S S' → Form-F Form Expr
  opened y = map-Form S S' Form Expr v v' y

  abbrev told : Form-F Form Expr → Form-F (List Mention) (List Mention)
  told y = map-Form Form Expr (List Mention) (List Mention) mentions_of_form mentions y

  abbrev bared_form : Form-F Form Expr → Form-F Form Expr
  bared_form y = bare_level (map-Form Form Expr Form Expr bare_form bare_expr y)

  level_bare : (y : Form-F S S') → form_mentions (told (bared_form (opened y))) ≡ map bare_mention (form_mentions (told (opened y)))
  level_bare (Form-F.Number n) = refl
  level_bare (Form-F.Quoted q) = refl
  level_bare (Form-F.Truth b) = refl
  level_bare (Form-F.Bare n) = refl
  level_bare (Form-F.Input at n) = refl
  level_bare (Form-F.Plain at n) = refl
  level_bare (Form-F.Child at n None p) = ap (λ ms. Context 0 (bare_name n) ∷ ms) (part_bare p)
  level_bare (Form-F.Child at n (Some e) p) = ap (λ ms. Context 0 (bare_name n) ∷ ms) (both bare_mention (mentions (v' e)) (part_mentions p) _ _ (p' e) (part_bare p))
  level_bare (Form-F.Unary o a) = p' a
  level_bare (Form-F.Binary o a b) = both bare_mention (mentions (v' a)) (mentions (v' b)) _ _ (p' a) (p' b)
  level_bare (Form-F.One o a) = p' a
  level_bare (Form-F.Two o a b) = both bare_mention (mentions (v' a)) (mentions (v' b)) _ _ (p' a) (p' b)
  level_bare (Form-F.GivenBare n) = refl
  level_bare (Form-F.GivenInput at n) = refl
  level_bare (Form-F.Count at n) = refl
  level_bare (Form-F.List es) = joined v' bare_expr bare_mention mentions p' es

  form_bare : (y : Form-F S S') → FormBared (roll-Form (opened y))
  form_bare y =
      ap mentions_of_form (fold-roll-Form Form Expr at_form at_expr (opened y))
      ∙ fold-roll-Form (List Mention) (List Mention) form_mentions its_mentions (bared_form (opened y))
      ∙ level_bare y ∙ ap (map bare_mention) (sym (fold-roll-Form (List Mention) (List Mention) form_mentions its_mentions (opened y)))

expr_bare : (e : Expr-F Form Expr) → FormBared e.form → ExprBared (roll-Expr e)
expr_bare e h =
    ap mentions (fold-roll-Expr Form Expr at_form at_expr e)
    ∙ fold-roll-Expr (List Mention) (List Mention) form_mentions its_mentions (record { at = 0; form = bare_form e.form })
    ∙ h ∙ ap (map bare_mention) (sym (fold-roll-Expr (List Mention) (List Mention) form_mentions its_mentions e))

pub mentions_bare : (e : Expr) → mentions (bare_expr e) ≡ map bare_mention (mentions e)
mentions_bare = ind-Expr FormBared ExprBared
    (λ x y e. subst (λ (z : Form-F Form Expr). FormBared (roll-Form z)) e (form_bare (λ s. s.0) (λ s. s.0) (λ s. s.1) y))
    (λ x y e. subst (λ (z : Expr-F Form Expr). ExprBared (roll-Expr z)) e (expr_bare (record { at = y.at; form = y.form.0 }) y.form.1))

pub place_bare : (e : Expr) → (bare_expr e).at ≡ 0
place_bare e = ap (λ (x : Expr). x.at) (fold_out-Expr Form Expr at_form at_expr e)

-- ---- expressions that name data

level_data : (y : Form-F Form Expr) → is_data (bare_level (map-Form Form Expr Form Expr bare_form bare_expr y)) ≡ is_data y
level_data (Form-F.Number n) = refl
level_data (Form-F.Quoted q) = refl
level_data (Form-F.Truth b) = refl
level_data (Form-F.Bare n) = refl
level_data (Form-F.Input at n) = refl
level_data (Form-F.Plain at n) = refl
level_data (Form-F.Child at n i (part.Outputs o)) = refl
level_data (Form-F.Child at n i part.Status) = refl
level_data (Form-F.Child at n i part.Ok) = refl
level_data (Form-F.Unary o a) = refl
level_data (Form-F.Binary o a b) = refl
level_data (Form-F.One o a) = refl
level_data (Form-F.Two o a b) = refl
level_data (Form-F.GivenBare n) = refl
level_data (Form-F.GivenInput at n) = refl
level_data (Form-F.Count at n) = refl
level_data (Form-F.List es) = refl

pub data_bare : (e : Expr) → is_data (out-Form (bare_expr e).form) ≡ is_data (out-Form e.form)
data_bare e =
    ap (λ (x : Expr). is_data (out-Form x.form)) (fold_out-Expr Form Expr at_form at_expr e)
    ∙ ap (λ (f : Form). is_data (out-Form f)) (fold_out-Form Form Expr at_form at_expr e.form)
    ∙ ap is_data (out-roll-Form (bare_level (map-Form Form Expr Form Expr bare_form bare_expr (out-Form e.form))))
    ∙ level_data (out-Form e.form)

-- ---- outlines

abbrev pub bare_piece : Piece → Piece
bare_piece (Begins at) = Begins 0
bare_piece (Named n) = Named (bare_name n)
bare_piece (Does s) = Does (bare_stmt s)
bare_piece (Tests e) = Tests (bare_expr e)
bare_piece (Returns n) = Returns (bare_number n)

-- the pieces of what is bare are bare
abbrev InstrBared : Instr → Type 0
InstrBared i = pieces_of_instr (bare_instr i) ≡ map bare_piece (pieces_of_instr i)

abbrev ArmBared : Arm → Type 0
ArmBared a = pieces_of_arm (bare_arm a) ≡ map bare_piece (pieces_of_arm a)

abbrev BlockBared : Block → Type 0
BlockBared b = pieces (bare_block b) ≡ map bare_piece (pieces b)

step_bare : (s : Step) → step_pieces (bare_step s) ≡ map bare_piece (step_pieces s)
step_bare s = ap (λ ps. Begins 0 ∷ Named (bare_name s.name) ∷ ps) (mapped bare_stmt bare_piece Does Does (λ x. refl) s.stmts)

returned_bare : (n : Option Number) → returned_pieces (option_map bare_number n) ≡ map bare_piece (returned_pieces n)
returned_bare None = refl
returned_bare (Some n) = refl

module _ {S S' S'' : Type 0} (v : S → Instr) (v' : S' → Arm) (v'' : S'' → Block) (p' : (s : S') → ArmBared (v' s)) (p'' : (s : S'') → BlockBared (v'' s)) where
  abbrev laid : Instr-F S S' S'' → Instr-F Instr Arm Block
  laid y = map-Instr S S' S'' Instr Arm Block v v' v'' y

  abbrev bared : Instr-F Instr Arm Block → Instr-F Instr Arm Block
  bared y = instr_level (map-Instr Instr Arm Block Instr Arm Block bare_instr bare_arm bare_block y)

  abbrev cut : Instr-F Instr Arm Block → Instr-F (List Piece) (List Piece) (List Piece)
  cut y = map-Instr Instr Arm Block (List Piece) (List Piece) (List Piece) pieces_of_instr pieces_of_arm pieces y

  abbrev arms_pieces : List S' → List Piece
  arms_pieces arms = flat_map (λ ps. ps) (map pieces_of_arm (map v' arms))

  level_pieces : (y : Instr-F S S' S'') → instr_pieces (cut (bared (laid y))) ≡ map bare_piece (instr_pieces (cut (laid y)))
  level_pieces (Instr-F.Step s) = step_bare s
  level_pieces (Instr-F.If at arms None) =
      ap (λ ps. Begins 0 ∷ ps) (both bare_piece (arms_pieces arms) [] _ _ (joined v' bare_arm bare_piece pieces_of_arm p' arms) refl)
  level_pieces (Instr-F.If at arms (Some b)) =
      ap (λ ps. Begins 0 ∷ ps) (both bare_piece (arms_pieces arms) (pieces (v'' b)) _ _ (joined v' bare_arm bare_piece pieces_of_arm p' arms) (p'' b))
  level_pieces (Instr-F.While at e b) = ap (λ ps. Begins 0 ∷ Tests (bare_expr e) ∷ ps) (p'' b)
  level_pieces (Instr-F.Return at n) = ap (λ ps. Begins 0 ∷ ps) (returned_bare n)

  instr_bare : (y : Instr-F S S' S'') → InstrBared (roll-Instr (laid y))
  instr_bare y =
      ap pieces_of_instr (fold-roll-Instr Instr Arm Block at_instr at_arm at_block (laid y))
      ∙ fold-roll-Instr (List Piece) (List Piece) (List Piece) instr_pieces arm_pieces block_pieces (bared (laid y))
      ∙ level_pieces y ∙ ap (map bare_piece) (sym (fold-roll-Instr (List Piece) (List Piece) (List Piece) instr_pieces arm_pieces block_pieces (laid y)))

arm_bare : (a : Arm-F Instr Arm Block) → BlockBared a.block → ArmBared (roll-Arm a)
arm_bare a h =
    ap pieces_of_arm (fold-roll-Arm Instr Arm Block at_instr at_arm at_block a)
    ∙ fold-roll-Arm (List Piece) (List Piece) (List Piece) instr_pieces arm_pieces block_pieces (record { condition = bare_expr a.condition; block = bare_block a.block })
    ∙ ap (λ ps. Tests (bare_expr a.condition) ∷ ps) h
    ∙ ap (map bare_piece) (sym (fold-roll-Arm (List Piece) (List Piece) (List Piece) instr_pieces arm_pieces block_pieces a))

module _ {S : Type 0} (v : S → Instr) (p : (s : S) → InstrBared (v s)) where
  block_bare : (ss : List S) → BlockBared (roll-Block (record { instrs = map v ss }))
  block_bare ss =
      ap pieces (fold-roll-Block Instr Arm Block at_instr at_arm at_block (record { instrs = map v ss }))
      ∙ fold-roll-Block (List Piece) (List Piece) (List Piece) instr_pieces arm_pieces block_pieces (record { instrs = map bare_instr (map v ss) })
      ∙ joined v bare_instr bare_piece pieces_of_instr p ss
      ∙ ap (map bare_piece) (sym (fold-roll-Block (List Piece) (List Piece) (List Piece) instr_pieces arm_pieces block_pieces (record { instrs = map v ss })))

pub pieces_bare : (b : Block) → pieces (bare_block b) ≡ map bare_piece (pieces b)
pieces_bare = ind-Block InstrBared ArmBared BlockBared
    (λ x y e. subst (λ (z : Instr-F Instr Arm Block). InstrBared (roll-Instr z)) e (instr_bare (λ s. s.0) (λ s. s.0) (λ s. s.0) (λ s. s.1) (λ s. s.1) y))
    (λ x y e. subst (λ (z : Arm-F Instr Arm Block). ArmBared (roll-Arm z)) e (arm_bare (record { condition = y.condition; block = y.block.0 }) y.block.1))
    (λ x y e. subst (λ (z : Block-F Instr Arm Block). BlockBared (roll-Block z)) e (block_bare (λ s. s.0) (λ s. s.1) y.instrs))
