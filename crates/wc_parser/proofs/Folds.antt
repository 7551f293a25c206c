-- The printed tokens of what holds others, and what is said of it, one level at a time.
use Rattle.std.proofs.Common.{◌≡◌, ℕ, List, [], ◌∷◌, ◌++◌, map, Bool, false, if◌then◌else◌, ◌&&◌, refl, sym, ap, ◌∙◌}
use Rattle.std.specs.Prelude.{flat_map}
use Rattle.std.specs.List.{list_all}
use Rattle.wc_syntax.specs.declared.expression.Expr.{Expr, out-Expr, fold-roll-Expr, fold_out-Expr}
use Rattle.wc_syntax.specs.declared.expression.Form.{Form, roll-Form, map-Form, fold-Form, fold-roll-Form}
use Rattle.wc_syntax.specs.declared.expression.Form.TheOpen.{Form-F}
use Rattle.wc_syntax.specs.declared.outline.Arm.{Arm, roll-Arm, fold-roll-Arm}
use Rattle.wc_syntax.specs.declared.outline.Block.{Block, roll-Block, fold-roll-Block}
use Rattle.wc_syntax.specs.declared.outline.Instr.{Instr, roll-Instr, map-Instr, fold-Instr, fold-roll-Instr}
use Rattle.wc_syntax.specs.declared.outline.Instr.TheOpen.{Instr-F}
use Rattle.wc_syntax.specs.declared.outline.Arm.{fold-Arm}
use Rattle.wc_syntax.specs.Writable.{is_form, its_form, is_expr, is_instr, is_arm, is_level, is_block}
use Rattle.wc_grammar.specs.Grammar.{expr, in_brackets}
use Rattle.wc_parser.specs.PrintedTokens as print
use Rattle.wc_parser.specs.PrintedTokens.{Tokens, form_tokens, its_tokens, expr_tokens, tokens_of_form, instr_level_tokens, arm_level_tokens, block_level_tokens, instr_tokens, arm_tokens, block_tokens}
use Rattle.wc_parser.proofs.Expressions.{s}
use Rattle.wc_lexer.specs.declared.token.Symbol.TheVariants as symbol

-- ---- expressions
pub tokens_made : (at : ℕ) (f : Form) (l : Form-F Form Expr) → roll-Form l ≡ f → expr_tokens (expr at f) ≡ form_tokens (map-Form Form Expr Tokens Tokens tokens_of_form expr_tokens l)
tokens_made at f l e =
    fold-roll-Expr Tokens Tokens form_tokens its_tokens (record { at = at; form = f }) ∙ ap tokens_of_form (sym e) ∙ fold-roll-Form Tokens Tokens form_tokens its_tokens l

pub brackets_tokens : (at : ℕ) (e : Expr) → expr_tokens (in_brackets at e) ≡ expr_tokens e
brackets_tokens at e =
    fold-roll-Expr Tokens Tokens form_tokens its_tokens (record { at = at; form = (out-Expr e).form }) ∙ sym (fold_out-Expr Tokens Tokens form_tokens its_tokens e)

abbrev pub is_said : Form → Bool
is_said = fold-Form Bool Bool is_form its_form

pub said_made : (at : ℕ) (f : Form) (l : Form-F Form Expr) → roll-Form l ≡ f → is_expr (expr at f) ≡ is_form (map-Form Form Expr Bool Bool is_said is_expr l)
said_made at f l e =
    fold-roll-Expr Bool Bool is_form its_form (record { at = at; form = f }) ∙ ap is_said (sym e) ∙ fold-roll-Form Bool Bool is_form its_form l

pub brackets_said : (at : ℕ) (e : Expr) → is_expr (in_brackets at e) ≡ is_expr e
brackets_said at e =
    fold-roll-Expr Bool Bool is_form its_form (record { at = at; form = (out-Expr e).form }) ∙ sym (fold_out-Expr Bool Bool is_form its_form e)

pub separated_map : {A : Type 0} (first : Bool) (f : A → Tokens) (xs : List A) → print.separated first (λ t. t) (map f xs) ≡ print.separated first f xs
separated_map first f [] = refl
separated_map first f (x ∷ xs) = ap (λ z. (if first then [] else s symbol.Comma ∷ []) ++ (f x ++ z)) (separated_map false f xs)

pub flat_mapped : {A B : Type 0} (f : A → List B) (xs : List A) → flat_map (λ t. t) (map f xs) ≡ flat_map f xs
flat_mapped f [] = refl
flat_mapped f (x ∷ xs) = ap (λ z. f x ++ z) (flat_mapped f xs)

pub all_map : {A : Type 0} (p : A → Bool) (xs : List A) → list_all (λ b. b) (map p xs) ≡ list_all p xs
all_map p [] = refl
all_map p (x ∷ xs) = ap (λ z. p x && z) (all_map p xs)

-- ---- outlines
pub instr_made : (i : Instr) (l : Instr-F Instr Arm Block) → roll-Instr l ≡ i
    → instr_tokens i ≡ instr_level_tokens (map-Instr Instr Arm Block Tokens Tokens Tokens instr_tokens arm_tokens block_tokens l)
instr_made i l e = ap instr_tokens (sym e) ∙ fold-roll-Instr Tokens Tokens Tokens instr_level_tokens arm_level_tokens block_level_tokens l

pub arm_made : (c : Expr) (b : Block) → arm_tokens (roll-Arm (record { condition = c; block = b })) ≡ expr_tokens c ++ print.in_braces (block_tokens b)
arm_made c b = fold-roll-Arm Tokens Tokens Tokens instr_level_tokens arm_level_tokens block_level_tokens (record { condition = c; block = b })

pub block_made : (is : List Instr) → block_tokens (roll-Block (record { instrs = is })) ≡ flat_map instr_tokens is
block_made is = fold-roll-Block Tokens Tokens Tokens instr_level_tokens arm_level_tokens block_level_tokens (record { instrs = is }) ∙ flat_mapped instr_tokens is

abbrev pub instr_said : Instr → Bool
instr_said = fold-Instr Bool Bool Bool is_instr is_arm is_level

abbrev pub arm_said : Arm → Bool
arm_said = fold-Arm Bool Bool Bool is_instr is_arm is_level

pub said_instr : (i : Instr) (l : Instr-F Instr Arm Block) → roll-Instr l ≡ i → instr_said i ≡ is_instr (map-Instr Instr Arm Block Bool Bool Bool instr_said arm_said is_block l)
said_instr i l e = ap instr_said (sym e) ∙ fold-roll-Instr Bool Bool Bool is_instr is_arm is_level l

pub said_arm : (c : Expr) (b : Block) → arm_said (roll-Arm (record { condition = c; block = b })) ≡ (is_expr c && is_block b)
said_arm c b = fold-roll-Arm Bool Bool Bool is_instr is_arm is_level (record { condition = c; block = b })

pub said_block : (is : List Instr) → is_block (roll-Block (record { instrs = is })) ≡ list_all instr_said is
said_block is = fold-roll-Block Bool Bool Bool is_instr is_arm is_level (record { instrs = is }) ∙ all_map instr_said is
