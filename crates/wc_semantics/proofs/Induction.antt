-- Induction over outlines: what holds of an instruction where it holds of the blocks directly inside, and of a block where it holds of its instructions.
use Rattle.std.proofs.Common.{List, [], ◌∷◌, Option, Some, None, map, sym, subst, ◌∙◌}
use Rattle.wc_syntax.specs.declared.outline.Instr.{Instr, roll-Instr, out-Instr, map-Instr, out-roll-Instr}
use Rattle.wc_syntax.specs.declared.outline.Instr.TheOpen.{Instr-F, Arm-F, Block-F}
use Rattle.wc_syntax.specs.declared.outline.Arm.{Arm, out-roll-Arm}
use Rattle.wc_syntax.specs.declared.outline.Block.{Block, roll-Block, ind-Block, out-roll-Block}
use Rattle.wc_semantics.specs.Run.{instrs}
use Rattle.wc_semantics.specs.Laws.{arm_block}

abbrev pub AllOf : {A : Type 0} → (A → Type 0) → List A → Type 0
AllOf P [] = Unit {0}
AllOf P (x ∷ xs) = P x × AllOf P xs

abbrev pub OptionOf : {A : Type 0} → (A → Type 0) → Option A → Type 0
OptionOf P None = Unit {0}
OptionOf P (Some x) = P x

-- what holds of each block directly inside
abbrev pub Inside : (Block → Type 0) → Instr-F Instr Arm Block → Type 0
Inside Q (Instr-F.Step s) = Unit {0}
Inside Q (Instr-F.If at arms other) = AllOf (λ x. Q (arm_block x)) arms × OptionOf Q other
Inside Q (Instr-F.While at c b) = Q b
Inside Q (Instr-F.Return at code) = Unit {0}

module _ (P : Instr → Type 0) (Q : Block → Type 0)
    (one : (i : Instr) → Inside Q (out-Instr i) → P i) (many : (b : Block) → AllOf P (instrs b) → Q b) where
  all_listed : {S : Type 0} (v : S → Instr) → ((s : S) → P (v s)) → (ss : List S) → AllOf P (map v ss)
  all_listed v p [] = tt
  all_listed v p (s ∷ ss) = (p s, all_listed v p ss)

  arms_listed : {S : Type 0} (v : S → Arm) → ((s : S) → Q (arm_block (v s))) → (ss : List S) → AllOf (λ x. Q (arm_block x)) (map v ss)
  arms_listed v p [] = tt
  arms_listed v p (s ∷ ss) = (p s, arms_listed v p ss)

  module _ {S S' S'' : Type 0} (v : S → Instr) (v' : S' → Arm) (v'' : S'' → Block)
      (p' : (s : S') → Q (arm_block (v' s))) (p'' : (s : S'') → Q (v'' s)) where
    all_inside : (y : Instr-F S S' S'') → Inside Q (map-Instr S S' S'' Instr Arm Block v v' v'' y)
    all_inside (Instr-F.Step s) = tt
    all_inside (Instr-F.If at arms None) = (arms_listed v' p' arms, tt)
    all_inside (Instr-F.If at arms (Some s)) = (arms_listed v' p' arms, p'' s)
    all_inside (Instr-F.While at c s) = p'' s
    all_inside (Instr-F.Return at code) = tt

  pub every_block : (b : Block) → Q b
  every_block = ind-Block P (λ x. Q (arm_block x)) Q
      (λ x y e. one (roll-Instr x) (subst (Inside Q) (e ∙ sym (out-roll-Instr x)) (all_inside (λ s. s.0) (λ s. s.0) (λ s. s.0) (λ s. s.1) (λ s. s.1) y)))
      (λ x y e. subst (λ (z : Arm-F Instr Arm Block). Q z.block) (e ∙ sym (out-roll-Arm x)) y.block.1)
      (λ x y e. many (roll-Block x) (subst (λ (z : Block-F Instr Arm Block). AllOf P z.instrs) (e ∙ sym (out-roll-Block x))
      (all_listed (λ s. s.0) (λ s. s.1) y.instrs)))

  each_arm : (arms : List Arm) → AllOf (λ x. Q (arm_block x)) arms
  each_arm [] = tt
  each_arm (x ∷ xs) = (every_block (arm_block x), each_arm xs)

  each_inside : (y : Instr-F Instr Arm Block) → Inside Q y
  each_inside (Instr-F.Step s) = tt
  each_inside (Instr-F.If at arms None) = (each_arm arms, tt)
  each_inside (Instr-F.If at arms (Some b)) = (each_arm arms, every_block b)
  each_inside (Instr-F.While at c b) = every_block b
  each_inside (Instr-F.Return at code) = tt

  pub every_instr : (i : Instr) → P i
  every_instr i = one i (each_inside (out-Instr i))

  pub every_list : (is : List Instr) → AllOf P is
  every_list [] = tt
  every_list (i ∷ is) = (every_instr i, every_list is)
