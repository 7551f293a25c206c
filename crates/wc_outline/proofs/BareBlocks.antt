-- Offsets play no part in where a work chain stands.
use Rattle.std.proofs.Common.{◌≡◌, ℕ, zero, suc, ◌+◌, List, [], ◌∷◌, ◌++◌, Option, Some, None, length, map, take, refl, sym, ap, ◌∙◌}
use Rattle.std.specs.Prelude.{if◌then◌else◌, flat_map, nat_le, option_map, slice_get}
use Rattle.std.proofs.lemmas.List.{map-append, length-map}
use Rattle.wc_syntax.specs.Bare.{bare_expr, instr_level, at_instr, at_arm, at_block, bare_instr, bare_arm, bare_block}
use Rattle.wc_syntax.specs.declared.outline.Arm.{Arm, fold_out-Arm, out-roll-Arm}
use Rattle.wc_syntax.specs.declared.outline.Block.{Block, fold_out-Block, out-roll-Block}
use Rattle.wc_syntax.specs.declared.outline.Instr.{Instr, out-Instr, map-Instr, fold_out-Instr, out-roll-Instr}
use Rattle.wc_syntax.specs.declared.outline.Instr.TheOpen.{Instr-F, Arm-F, Block-F}
use Rattle.wc_state.specs.declared.record.Frame.{Frame}
use Rattle.wc_semantics.specs.Laws.{arm_block, condition}
use Rattle.wc_semantics.specs.Run.{instrs}
use Rattle.wc_semantics.proofs.Induction.{AllOf, Inside, every_block, every_instr}
use Rattle.wc_machine.specs.Advances.{is_done, popped, block_count, first_block}
use Rattle.wc_machine.specs.Outlines.{Blocks, blocks, blocks_in, block_of}
use Rattle.wc_turn_laws.proofs.Numbering.{arm_blocks, opened_blocks, blocks_in_are, listed, blocks_are}

abbrev pub bare_list : List Instr → List Instr
bare_list = map bare_instr

abbrev pub bare_all : Blocks → Blocks
bare_all = map bare_list

-- an instruction, opened, with each offset at 0
abbrev pub bare_opened : Instr-F Instr Arm Block → Instr-F Instr Arm Block
bare_opened y = instr_level (map-Instr Instr Arm Block Instr Arm Block bare_instr bare_arm bare_block y)

pub instr_opened : (i : Instr) → out-Instr (bare_instr i) ≡ bare_opened (out-Instr i)
instr_opened i = ap out-Instr (fold_out-Instr Instr Arm Block at_instr at_arm at_block i) ∙ out-roll-Instr (bare_opened (out-Instr i))

arm_opened : (x : Arm) → arm_block (bare_arm x) ≡ bare_block (arm_block x)
arm_opened x = ap arm_block (fold_out-Arm Instr Arm Block at_instr at_arm at_block x)
    ∙ ap (λ (y : Arm-F Instr Arm Block). y.block) (out-roll-Arm (record { condition = bare_expr (condition x); block = bare_block (arm_block x) }))

pub arm_condition : (x : Arm) → condition (bare_arm x) ≡ bare_expr (condition x)
arm_condition x = ap condition (fold_out-Arm Instr Arm Block at_instr at_arm at_block x)
    ∙ ap (λ (y : Arm-F Instr Arm Block). y.condition) (out-roll-Arm (record { condition = bare_expr (condition x); block = bare_block (arm_block x) }))

block_opened : (b : Block) → instrs (bare_block b) ≡ bare_list (instrs b)
block_opened b = ap instrs (fold_out-Block Instr Arm Block at_instr at_arm at_block b)
    ∙ ap (λ (y : Block-F Instr Arm Block). y.instrs) (out-roll-Block (record { instrs = bare_list (instrs b) }))

-- ---- the blocks of an outline

abbrev Same : Block → Type 0
Same b = blocks (bare_block b) ≡ bare_all (blocks b)

abbrev SameIn : Instr → Type 0
SameIn i = blocks_in (bare_instr i) ≡ bare_all (blocks_in i)

arms_bare : (arms : List Arm) → AllOf (λ x. Same (arm_block x)) arms → arm_blocks (map bare_arm arms) ≡ bare_all (arm_blocks arms)
arms_bare [] t = refl
arms_bare (x ∷ xs) t =
    (λ i. (ap blocks (arm_opened x) ∙ t.0) i ++ arms_bare xs t.1 i)
    ∙ sym (map-append bare_list (blocks (arm_block x)) (arm_blocks xs))

opened_bare : (y : Instr-F Instr Arm Block) → Inside Same y → opened_blocks (bare_opened y) ≡ bare_all (opened_blocks y)
opened_bare (Instr-F.Step s) t = refl
opened_bare (Instr-F.If at arms None) t = ap (λ (bs : Blocks). bs ++ []) (arms_bare arms t.0) ∙ sym (map-append bare_list (arm_blocks arms) [])
opened_bare (Instr-F.If at arms (Some b)) t = (λ i. arms_bare arms t.0 i ++ t.1 i) ∙ sym (map-append bare_list (arm_blocks arms) (blocks b))
opened_bare (Instr-F.While at c b) t = t
opened_bare (Instr-F.Return at code) t = refl

in_bare : (i : Instr) → Inside Same (out-Instr i) → SameIn i
in_bare i t = blocks_in_are (bare_instr i) ∙ ap opened_blocks (instr_opened i) ∙ opened_bare (out-Instr i) t ∙ ap bare_all (sym (blocks_in_are i))

flat_bare : (is : List Instr) → AllOf SameIn is → flat_map blocks_in (bare_list is) ≡ bare_all (flat_map blocks_in is)
flat_bare [] t = refl
flat_bare (i ∷ is) t = (λ j. t.0 j ++ flat_bare is t.1 j) ∙ sym (map-append bare_list (blocks_in i) (flat_map blocks_in is))

many_bare : (b : Block) → AllOf SameIn (instrs b) → Same b
many_bare b t = blocks_are (bare_block b) ∙ ap listed (block_opened b)
    ∙ (λ i. bare_list (instrs b) ∷ flat_bare (instrs b) t i) ∙ ap bare_all (sym (blocks_are b))

pub blocks_bare : (b : Block) → Same b
blocks_bare = every_block SameIn Same in_bare many_bare

blocks_in_bare : (i : Instr) → SameIn i
blocks_in_bare = every_instr SameIn Same in_bare many_bare

-- as many blocks are in an instruction or an arm
count_bare : (i : Instr) → length (blocks_in (bare_instr i)) ≡ length (blocks_in i)
count_bare i = ap (length {A = List Instr}) (blocks_in_bare i) ∙ length-map (blocks_in i) bare_list

pub arm_count : (x : Arm) → length (blocks (arm_block (bare_arm x))) ≡ length (blocks (arm_block x))
arm_count x = ap (λ (b : Block). length (blocks b)) (arm_opened x) ∙ ap (length {A = List Instr}) (blocks_bare (arm_block x)) ∙ length-map (blocks (arm_block x)) bare_list

-- ---- frames

pub get_map : {A B : Type 0} (f : A → B) (xs : List A) (n : ℕ) → slice_get (map f xs) n ≡ option_map f (slice_get xs n)
get_map f [] n = refl
get_map f (x ∷ xs) zero = refl
get_map f (x ∷ xs) (suc n) = get_map f xs n

listed_bare : (o : Option (List Instr)) → block_of (option_map bare_list o) ≡ bare_list (block_of o)
listed_bare None = refl
listed_bare (Some is) = refl

pub found_bare : (bs : Blocks) (n : ℕ) → block_of (slice_get (bare_all bs) n) ≡ bare_list (block_of (slice_get bs n))
found_bare bs n = ap block_of (get_map bare_list bs n) ∙ listed_bare (slice_get bs n)

done_bare : (bs : Blocks) (f : Frame) → is_done (bare_all bs) f ≡ is_done bs f
done_bare bs f = ap (λ (is : List Instr). nat_le (length is) f.next) (found_bare bs f.block) ∙ ap (λ (n : ℕ). nat_le n f.next) (length-map (block_of (slice_get bs f.block)) bare_instr)

pub popped_bare : (bs : Blocks) (fs : List Frame) → popped (bare_all bs) fs ≡ popped bs fs
popped_bare bs [] = refl
popped_bare bs (f ∷ []) = refl
popped_bare bs (f ∷ (g ∷ fs)) = λ i. if done_bare bs f i then popped_bare bs (g ∷ fs) i else f ∷ (g ∷ fs)

counts_bare : (n : ℕ) (is : List Instr) → block_count (take n (bare_list is)) ≡ block_count (take n is)
counts_bare zero is = refl
counts_bare (suc n) [] = refl
counts_bare (suc n) (i ∷ is) = λ j. count_bare i j + counts_bare n is j

pub first_bare : (bs : Blocks) (f : Frame) → first_block (bare_all bs) f ≡ first_block bs f
first_bare bs f = ap (λ (is : List Instr). suc f.block + block_count (take f.next is)) (found_bare bs f.block)
    ∙ ap (λ (n : ℕ). suc f.block + n) (counts_bare f.next (block_of (slice_get bs f.block)))
