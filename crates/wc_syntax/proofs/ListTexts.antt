-- The printed text of what holds a list.
use Rattle.std.proofs.Common.{◌≡◌, ℕ, Result, Ok, Err, OnOk, append_assoc, List, [], ◌∷◌, ◌++◌, Bool, true, false, map, refl, sym, ap, ◌∙◌, if◌then◌else◌}
use Rattle.std.specs.Prelude.{codes, flat_map}
use Rattle.wc_syntax.specs.declared.expression.Expr.{Expr}
use Rattle.wc_syntax.specs.declared.expression.Form.{fold-roll-Form}
use Rattle.wc_syntax.specs.declared.expression.Form.TheVariants as form
use Rattle.wc_syntax.specs.declared.expression.Form.TheVariants.{rolls-List}
use Rattle.wc_syntax.specs.declared.expression.Form.TheOpen.{Form-F}
use Rattle.wc_syntax.specs.declared.outline.Instr.{Instr}
use Rattle.wc_syntax.specs.declared.outline.Arm.{Arm}
use Rattle.wc_syntax.specs.declared.outline.Block.{Block, Block-F, out-Block, roll-Block, roll-out-Block, fold-roll-Block}
use Rattle.wc_syntax.specs.Printing.{separated, items, form_text, its_text, expr_text, text_of, Lines, instr_level_lines, arm_level_lines, block_level_lines, Branch, instr_lines, block_lines}

separated_map : {A : Type 0} (first : Bool) (text : A → List ℕ) (xs : List A) → separated first (λ t. t) (map text xs) ≡ separated first text xs
separated_map first text [] = refl
separated_map first text (x ∷ xs) = ap (λ z. (if first then [] else codes ", ") ++ (text x ++ z)) (separated_map false text xs)

pub list_text : (es : List Expr) → text_of (form.List es) ≡ codes "[" ++ items expr_text es ++ codes "]"
list_text es =
    ap text_of (sym (rolls-List es)) ∙ fold-roll-Form (List ℕ) (List ℕ) form_text its_text (Form-F.List es)
    ∙ ap (λ z. codes "[" ++ z ++ codes "]") (separated_map true expr_text es)

lines_map : (margin : List ℕ) (is : List Instr) → flat_map (λ lines. lines margin) (map instr_lines is) ≡ flat_map (λ i. instr_lines i margin) is
lines_map margin [] = refl
lines_map margin (i ∷ is) = ap (λ z. instr_lines i margin ++ z) (lines_map margin is)

rolled_lines : (b : Block-F Instr Arm Block) (margin : List ℕ) → block_lines (roll-Block b) margin ≡ flat_map (λ i. instr_lines i margin) b.instrs
rolled_lines b margin =
    ap (λ f. f margin) (fold-roll-Block Lines Branch Lines instr_level_lines arm_level_lines block_level_lines b) ∙ lines_map margin b.instrs

-- the lines in a block are those of its instructions
pub block_text : (b : Block) (margin : List ℕ) → block_lines b margin ≡ flat_map (λ i. instr_lines i margin) (out-Block b).instrs
block_text b margin = ap (λ z. block_lines z margin) (sym (roll-out-Block b)) ∙ rolled_lines (out-Block b) margin

-- what was written in two turns, where the last one answers Ok
pub in_two : {A E : Type 0} (r : Result A E) (old a new x y : List ℕ) → a ≡ old ++ x → OnOk r (new ≡ a ++ y) → OnOk r (new ≡ old ++ (x ++ y))
in_two (Ok e) old a new x y h k = k ∙ ap (λ w. w ++ y) h ∙ append_assoc old x y
in_two (Err e) old a new x y h k = k
