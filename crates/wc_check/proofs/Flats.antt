-- One level of what an expression mentions, and of the pieces of an outline.
use Rattle.std.proofs.Common.{◌≡◌, ℕ, List, [], ◌∷◌, ◌++◌, refl, sym, ap, ◌∙◌, map, append-nil, append_assoc}
use Rattle.std.specs.Prelude.{flat_map, Some, None}
use Rattle.wc_syntax.specs.declared.expression.Expr.{Expr, fold-roll-Expr}
use Rattle.wc_syntax.specs.declared.expression.Form.{fold-Form, fold-roll-Form}
use Rattle.wc_syntax.specs.declared.expression.Form.TheVariants as form
use Rattle.wc_syntax.specs.declared.expression.Form.TheOpen.{Form-F}
use Rattle.wc_syntax.specs.declared.expression.Number.{Number}
use Rattle.wc_syntax.specs.declared.expression.Name.{Name}
use Rattle.wc_syntax.specs.declared.expression.ChildPart.{ChildPart}
use Rattle.wc_syntax.specs.declared.expression.BinaryOp.{BinaryOp}
use Rattle.wc_syntax.specs.declared.expression.TwoOf.{TwoOf}
use Rattle.wc_syntax.specs.declared.outline.Arm.{Arm, fold-roll-Arm}
use Rattle.wc_syntax.specs.declared.outline.Block.{Block, fold-roll-Block}
use Rattle.wc_syntax.specs.declared.outline.Instr.{Instr, fold-roll-Instr}
use Rattle.wc_syntax.specs.declared.outline.Instr.TheVariants as instr
use Rattle.wc_syntax.specs.declared.outline.Instr.TheOpen.{Instr-F}
use Rattle.wc_syntax.specs.Mentions.{Mention, Context, part_mentions, mentions, form_mentions, its_mentions, Piece, Begins, Tests, Returns, pieces, instr_pieces, arm_pieces, block_pieces}
use Rattle.wc_check.specs.Flat.{pieces_of_instr, pieces_of_arm}

joined_map : {A B : Type 0} (f : A → List B) (xs : List A) → flat_map (λ ys. ys) (map f xs) ≡ flat_map f xs
joined_map f [] = refl
joined_map f (x ∷ xs) = ap (λ ys. f x ++ ys) (joined_map f xs)

pub mentions_list : (e : Expr) (es : List Expr) → e.form ≡ form.List es → mentions e ≡ flat_map mentions es
mentions_list e es h =
    fold-roll-Expr (List Mention) (List Mention) form_mentions its_mentions (record { at = e.at; form = e.form })
    ∙ ap (fold-Form (List Mention) (List Mention) form_mentions its_mentions) (h ∙ sym (form.rolls-List es))
    ∙ fold-roll-Form (List Mention) (List Mention) form_mentions its_mentions (Form-F.List es)
    ∙ joined_map mentions es

pub mentions_binary : (e : Expr) (o : BinaryOp) (a b : Expr) → e.form ≡ form.Binary o a b → mentions e ≡ mentions a ++ mentions b
mentions_binary e o a b h =
    fold-roll-Expr (List Mention) (List Mention) form_mentions its_mentions (record { at = e.at; form = e.form })
    ∙ ap (fold-Form (List Mention) (List Mention) form_mentions its_mentions) (h ∙ sym (form.rolls-Binary o a b))
    ∙ fold-roll-Form (List Mention) (List Mention) form_mentions its_mentions (Form-F.Binary o a b)

pub mentions_two : (e : Expr) (o : TwoOf) (a b : Expr) → e.form ≡ form.Two o a b → mentions e ≡ mentions a ++ mentions b
mentions_two e o a b h =
    fold-roll-Expr (List Mention) (List Mention) form_mentions its_mentions (record { at = e.at; form = e.form })
    ∙ ap (fold-Form (List Mention) (List Mention) form_mentions its_mentions) (h ∙ sym (form.rolls-Two o a b))
    ∙ fold-roll-Form (List Mention) (List Mention) form_mentions its_mentions (Form-F.Two o a b)

pub mentions_child : (e : Expr) (at : ℕ) (n : Name) (p : ChildPart) → e.form ≡ form.Child at n None p → mentions e ≡ (Context at n ∷ []) ++ part_mentions p
mentions_child e at n p h =
    fold-roll-Expr (List Mention) (List Mention) form_mentions its_mentions (record { at = e.at; form = e.form })
    ∙ ap (fold-Form (List Mention) (List Mention) form_mentions its_mentions) (h ∙ sym (form.rolls-Child at n None p))
    ∙ fold-roll-Form (List Mention) (List Mention) form_mentions its_mentions (Form-F.Child at n None p)

pub mentions_at : (e : Expr) (at : ℕ) (n : Name) (i : Expr) (p : ChildPart) → e.form ≡ form.Child at n (Some i) p → mentions e ≡ (Context at n ∷ mentions i) ++ part_mentions p
mentions_at e at n i p h =
    fold-roll-Expr (List Mention) (List Mention) form_mentions its_mentions (record { at = e.at; form = e.form })
    ∙ ap (fold-Form (List Mention) (List Mention) form_mentions its_mentions) (h ∙ sym (form.rolls-Child at n (Some i) p))
    ∙ fold-roll-Form (List Mention) (List Mention) form_mentions its_mentions (Form-F.Child at n (Some i) p)

pub pieces_block : (b : Block) → pieces b ≡ flat_map pieces_of_instr b.instrs
pieces_block b = fold-roll-Block (List Piece) (List Piece) (List Piece) instr_pieces arm_pieces block_pieces (record { instrs = b.instrs }) ∙ joined_map pieces_of_instr b.instrs

pub pieces_arm : (a : Arm) → pieces_of_arm a ≡ Tests a.condition ∷ pieces a.block
pieces_arm a = fold-roll-Arm (List Piece) (List Piece) (List Piece) instr_pieces arm_pieces block_pieces (record { condition = a.condition; block = a.block })

pub pieces_none : (i : Instr) (at : ℕ) (arms : List Arm) → i ≡ instr.If at arms None → pieces_of_instr i ≡ Begins at ∷ flat_map pieces_of_arm arms
pieces_none i at arms h =
    ap pieces_of_instr (h ∙ sym (instr.rolls-If at arms None))
    ∙ fold-roll-Instr (List Piece) (List Piece) (List Piece) instr_pieces arm_pieces block_pieces (Instr-F.If at arms None)
    ∙ ap (λ ps. Begins at ∷ ps) (append-nil (flat_map (λ ps. ps) (map pieces_of_arm arms)) ∙ joined_map pieces_of_arm arms)

pub pieces_some : (i : Instr) (at : ℕ) (arms : List Arm) (b : Block) → i ≡ instr.If at arms (Some b) → pieces_of_instr i ≡ Begins at ∷ (flat_map pieces_of_arm arms ++ pieces b)
pieces_some i at arms b h =
    ap pieces_of_instr (h ∙ sym (instr.rolls-If at arms (Some b)))
    ∙ fold-roll-Instr (List Piece) (List Piece) (List Piece) instr_pieces arm_pieces block_pieces (Instr-F.If at arms (Some b))
    ∙ ap (λ ps. Begins at ∷ (ps ++ pieces b)) (joined_map pieces_of_arm arms)

pub pieces_while : (i : Instr) (at : ℕ) (e : Expr) (b : Block) → i ≡ instr.While at e b → pieces_of_instr i ≡ Begins at ∷ Tests e ∷ pieces b
pieces_while i at e b h =
    ap pieces_of_instr (h ∙ sym (instr.rolls-While at e b))
    ∙ fold-roll-Instr (List Piece) (List Piece) (List Piece) instr_pieces arm_pieces block_pieces (Instr-F.While at e b)

pub pieces_return : (i : Instr) (at : ℕ) → i ≡ instr.Return at None → pieces_of_instr i ≡ Begins at ∷ []
pieces_return i at h =
    ap pieces_of_instr (h ∙ sym (instr.rolls-Return at None))
    ∙ fold-roll-Instr (List Piece) (List Piece) (List Piece) instr_pieces arm_pieces block_pieces (Instr-F.Return at None)

pub pieces_status : (i : Instr) (at : ℕ) (n : Number) → i ≡ instr.Return at (Some n) → pieces_of_instr i ≡ Begins at ∷ Returns n ∷ []
pieces_status i at n h =
    ap pieces_of_instr (h ∙ sym (instr.rolls-Return at (Some n)))
    ∙ fold-roll-Instr (List Piece) (List Piece) (List Piece) instr_pieces arm_pieces block_pieces (Instr-F.Return at (Some n))

-- ---- two lists, put at the end one after the other
pub two : (s₀ s₁ s₂ a b all : List Piece) → s₁ ≡ s₀ ++ a → s₂ ≡ s₁ ++ b → all ≡ a ++ b → s₂ ≡ s₀ ++ all
two s₀ s₁ s₂ a b all p q h = q ∙ ap (λ s. s ++ b) p ∙ append_assoc s₀ a b ∙ ap (λ s. s₀ ++ s) (sym h)
