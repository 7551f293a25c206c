-- The lengths of an outline's blocks are those of its blocks by number.
use Rattle.std.proofs.Common.{◌≡◌, ℕ, List, [], ◌∷◌, ◌++◌, Some, None, map, refl, sym, ap, ◌∙◌}
use Rattle.std.specs.Prelude.{length, flat_map}
use Rattle.std.proofs.lemmas.List.{length-map, map-append}
use Rattle.wc_syntax.specs.declared.outline.Arm.{Arm, fold-Arm, fold_out-Arm}
use Rattle.wc_syntax.specs.declared.outline.Block.{Block, fold_out-Block}
use Rattle.wc_syntax.specs.declared.outline.Instr.{Instr, out-Instr, map-Instr, fold-Instr, fold_out-Instr}
use Rattle.wc_syntax.specs.declared.outline.Instr.TheOpen.{Instr-F}
use Rattle.wc_semantics.specs.Laws.{arm_block}
use Rattle.wc_semantics.specs.Run.{instrs}
use Rattle.wc_semantics.proofs.Induction.{AllOf, Inside, every_block}
use Rattle.wc_world.specs.Blocks.{instr_lengths, arm_lengths, level_lengths, block_lengths}
use Rattle.wc_machine.specs.Outlines.{Blocks, blocks, blocks_in}
use Rattle.wc_turn_laws.proofs.Numbering.{arm_blocks, opened_blocks, blocks_in_are, blocks_are}

abbrev pub size : List Instr → ℕ
size is = length is

abbrev pub sizes : Blocks → List ℕ
sizes bs = map size bs

abbrev of_instr : Instr → List ℕ
of_instr = fold-Instr (List ℕ) (List ℕ) (List ℕ) instr_lengths arm_lengths level_lengths

abbrev of_arm : Arm → List ℕ
of_arm = fold-Arm (List ℕ) (List ℕ) (List ℕ) instr_lengths arm_lengths level_lengths

abbrev IsSized : Block → Type 0
IsSized b = block_lengths b ≡ sizes (blocks b)

arms_sized : (xs : List Arm) → AllOf (λ x. IsSized (arm_block x)) xs → flat_map (λ a. a) (map of_arm xs) ≡ sizes (arm_blocks xs)
arms_sized [] t = refl
arms_sized (x ∷ xs) t =
    (λ i. (fold_out-Arm (List ℕ) (List ℕ) (List ℕ) instr_lengths arm_lengths level_lengths x ∙ t.0) i ++ arms_sized xs t.1 i)
    ∙ sym (map-append size (blocks (arm_block x)) (arm_blocks xs))

opened_sized : (y : Instr-F Instr Arm Block) → Inside IsSized y
    → instr_lengths (map-Instr Instr Arm Block (List ℕ) (List ℕ) (List ℕ) of_instr of_arm block_lengths y) ≡ sizes (opened_blocks y)
opened_sized (Instr-F.Step s) t = refl
opened_sized (Instr-F.If at arms None) t = ap (λ (ls : List ℕ). ls ++ []) (arms_sized arms t.0) ∙ sym (map-append size (arm_blocks arms) [])
opened_sized (Instr-F.If at arms (Some b)) t = (λ i. arms_sized arms t.0 i ++ t.1 i) ∙ sym (map-append size (arm_blocks arms) (blocks b))
opened_sized (Instr-F.While at c b) t = t
opened_sized (Instr-F.Return at code) t = refl

abbrev InSizes : Instr → Type 0
InSizes i = of_instr i ≡ sizes (blocks_in i)

instr_sized : (i : Instr) → Inside IsSized (out-Instr i) → InSizes i
instr_sized i t =
    fold_out-Instr (List ℕ) (List ℕ) (List ℕ) instr_lengths arm_lengths level_lengths i ∙ opened_sized (out-Instr i) t ∙ ap sizes (sym (blocks_in_are i))

each_sized : (is : List Instr) → AllOf InSizes is → flat_map (λ l. l) (map of_instr is) ≡ sizes (flat_map blocks_in is)
each_sized [] t = refl
each_sized (i ∷ is) t = (λ j. t.0 j ++ each_sized is t.1 j) ∙ sym (map-append size (blocks_in i) (flat_map blocks_in is))

block_sized : (b : Block) → AllOf InSizes (instrs b) → IsSized b
block_sized b t =
    fold_out-Block (List ℕ) (List ℕ) (List ℕ) instr_lengths arm_lengths level_lengths b
    ∙ (λ i. length-map (instrs b) of_instr i ∷ each_sized (instrs b) t i) ∙ ap sizes (sym (blocks_are b))

pub lengths_are : (b : Block) → block_lengths b ≡ sizes (blocks b)
lengths_are = every_block InSizes IsSized instr_sized block_sized
