-- One level of the lengths of an outline's blocks, in which offsets play no part.
use Rattle.std.proofs.Common.{◌≡◌, ℕ, suc, List, [], ◌∷◌, ◌++◌, length, map, refl, sym, ap, ◌∙◌, append-nil, subst}
use Rattle.std.specs.Prelude.{flat_map, Some, None}
use Rattle.wc_syntax.specs.declared.outline.Block.{Block, Block-F, roll-Block, ind-Block, fold-roll-Block}
use Rattle.wc_syntax.specs.declared.outline.Arm.{Arm, Arm-F, roll-Arm, fold-roll-Arm}
use Rattle.wc_syntax.specs.declared.outline.Instr.{Instr, roll-Instr, map-Instr, fold-roll-Instr}
use Rattle.wc_syntax.specs.declared.outline.Instr.TheVariants as instr
use Rattle.wc_syntax.specs.declared.outline.Instr.TheOpen.{Instr-F}
use Rattle.wc_syntax.specs.declared.definition.Definition.{Definition}
use Rattle.wc_syntax.specs.declared.definition.Definition.TheVariants as definition
use Rattle.wc_syntax.specs.Bare.{instr_level, at_instr, at_arm, at_block, bare_instr, bare_arm, bare_block, bare_definition, bare_expr}
use Rattle.wc_fits.specs.Blocks.{instr_lengths, arm_lengths, level_lengths, block_lengths, lengths_of}
use Rattle.wc_fits.specs.Levels.{lengths_in_instr, lengths_in_arm}

joined_map : {A B : Type 0} (f : A → List B) (xs : List A) → flat_map (λ ys. ys) (map f xs) ≡ flat_map f xs
joined_map f [] = refl
joined_map f (x ∷ xs) = ap (λ ys. f x ++ ys) (joined_map f xs)

mapped_length : {A B : Type 0} (f : A → B) (xs : List A) → length (map f xs) ≡ length xs
mapped_length f [] = refl
mapped_length f (x ∷ xs) = ap (λ n. suc n) (mapped_length f xs)

-- ---- one level

rolled : (i : Instr-F Instr Arm Block)
    → lengths_in_instr (roll-Instr i) ≡ instr_lengths (map-Instr Instr Arm Block (List ℕ) (List ℕ) (List ℕ) lengths_in_instr lengths_in_arm block_lengths i)
rolled i = fold-roll-Instr (List ℕ) (List ℕ) (List ℕ) instr_lengths arm_lengths level_lengths i

pub lengths_block : (b : Block) → block_lengths b ≡ length b.instrs ∷ flat_map lengths_in_instr b.instrs
lengths_block b =
    fold-roll-Block (List ℕ) (List ℕ) (List ℕ) instr_lengths arm_lengths level_lengths (record { instrs = b.instrs })
    ∙ (λ i. mapped_length lengths_in_instr b.instrs i ∷ joined_map lengths_in_instr b.instrs i)

pub lengths_none : (i : Instr) (at : ℕ) (arms : List Arm) → i ≡ instr.If at arms None → lengths_in_instr i ≡ flat_map lengths_in_arm arms
lengths_none i at arms h =
    ap lengths_in_instr (h ∙ sym (instr.rolls-If at arms None)) ∙ rolled (Instr-F.If at arms None)
    ∙ append-nil (flat_map (λ ps. ps) (map lengths_in_arm arms)) ∙ joined_map lengths_in_arm arms

pub lengths_some : (i : Instr) (at : ℕ) (arms : List Arm) (b : Block) → i ≡ instr.If at arms (Some b)
    → lengths_in_instr i ≡ flat_map lengths_in_arm arms ++ block_lengths b
lengths_some i at arms b h =
    ap lengths_in_instr (h ∙ sym (instr.rolls-If at arms (Some b))) ∙ rolled (Instr-F.If at arms (Some b))
    ∙ ap (λ ps. ps ++ block_lengths b) (joined_map lengths_in_arm arms)

-- ---- offsets

module _ {S S' S'' : Type 0} (v : S → Instr) (v' : S' → Arm) (v'' : S'' → Block)
    (p' : (s : S') → lengths_in_arm (bare_arm (v' s)) ≡ lengths_in_arm (v' s)) (p'' : (s : S'') → block_lengths (bare_block (v'' s)) ≡ block_lengths (v'' s)) where
  abbrev laid : Instr-F S S' S'' → Instr-F Instr Arm Block
  laid y = map-Instr S S' S'' Instr Arm Block v v' v'' y

  abbrev bared : Instr-F Instr Arm Block → Instr-F Instr Arm Block
  bared y = instr_level (map-Instr Instr Arm Block Instr Arm Block bare_instr bare_arm bare_block y)

  abbrev counted : Instr-F Instr Arm Block → Instr-F (List ℕ) (List ℕ) (List ℕ)
  counted y = map-Instr Instr Arm Block (List ℕ) (List ℕ) (List ℕ) lengths_in_instr lengths_in_arm block_lengths y

  each_arm : (ss : List S') → map lengths_in_arm (map bare_arm (map v' ss)) ≡ map lengths_in_arm (map v' ss)
  each_arm [] = refl
  each_arm (s ∷ ss) = λ i. p' s i ∷ each_arm ss i

  level_bare : (y : Instr-F S S' S'') → instr_lengths (counted (bared (laid y))) ≡ instr_lengths (counted (laid y))
  level_bare (Instr-F.Step s) = refl
  level_bare (Instr-F.If at arms None) = λ i. flat_map (λ a. a) (each_arm arms i) ++ []
  level_bare (Instr-F.If at arms (Some b)) = λ i. flat_map (λ a. a) (each_arm arms i) ++ p'' b i
  level_bare (Instr-F.While at e b) = p'' b
  level_bare (Instr-F.Return at n) = refl

  instr_same : (y : Instr-F S S' S'') → lengths_in_instr (bare_instr (roll-Instr (laid y))) ≡ lengths_in_instr (roll-Instr (laid y))
  instr_same y =
      ap lengths_in_instr (fold-roll-Instr Instr Arm Block at_instr at_arm at_block (laid y))
      ∙ rolled (bared (laid y)) ∙ level_bare y ∙ sym (rolled (laid y))

arm_same : (a : Arm-F Instr Arm Block) → block_lengths (bare_block a.block) ≡ block_lengths a.block → lengths_in_arm (bare_arm (roll-Arm a)) ≡ lengths_in_arm (roll-Arm a)
arm_same a h =
    ap lengths_in_arm (fold-roll-Arm Instr Arm Block at_instr at_arm at_block a)
    ∙ fold-roll-Arm (List ℕ) (List ℕ) (List ℕ) instr_lengths arm_lengths level_lengths (record { condition = bare_expr a.condition; block = bare_block a.block })
    ∙ h ∙ sym (fold-roll-Arm (List ℕ) (List ℕ) (List ℕ) instr_lengths arm_lengths level_lengths a)

module _ {S : Type 0} (v : S → Instr) (p : (s : S) → lengths_in_instr (bare_instr (v s)) ≡ lengths_in_instr (v s)) where
  each_instr : (ss : List S) → map lengths_in_instr (map bare_instr (map v ss)) ≡ map lengths_in_instr (map v ss)
  each_instr [] = refl
  each_instr (s ∷ ss) = λ i. p s i ∷ each_instr ss i

  block_same : (ss : List S) → block_lengths (bare_block (roll-Block (record { instrs = map v ss }))) ≡ block_lengths (roll-Block (record { instrs = map v ss }))
  block_same ss =
      ap block_lengths (fold-roll-Block Instr Arm Block at_instr at_arm at_block (record { instrs = map v ss }))
      ∙ fold-roll-Block (List ℕ) (List ℕ) (List ℕ) instr_lengths arm_lengths level_lengths (record { instrs = map bare_instr (map v ss) })
      ∙ (λ i. length (each_instr ss i) ∷ flat_map (λ l. l) (each_instr ss i))
      ∙ sym (fold-roll-Block (List ℕ) (List ℕ) (List ℕ) instr_lengths arm_lengths level_lengths (record { instrs = map v ss }))

block_bare : (b : Block) → block_lengths (bare_block b) ≡ block_lengths b
block_bare = ind-Block (λ i. lengths_in_instr (bare_instr i) ≡ lengths_in_instr i) (λ a. lengths_in_arm (bare_arm a) ≡ lengths_in_arm a)
    (λ b. block_lengths (bare_block b) ≡ block_lengths b)
    (λ x y e. subst (λ (z : Instr-F Instr Arm Block). lengths_in_instr (bare_instr (roll-Instr z)) ≡ lengths_in_instr (roll-Instr z)) e
    (instr_same (λ s. s.0) (λ s. s.0) (λ s. s.0) (λ s. s.1) (λ s. s.1) y))
    (λ x y e. subst (λ (z : Arm-F Instr Arm Block). lengths_in_arm (bare_arm (roll-Arm z)) ≡ lengths_in_arm (roll-Arm z)) e
    (arm_same (record { condition = y.condition; block = y.block.0 }) y.block.1))
    (λ x y e. subst (λ (z : Block-F Instr Arm Block). block_lengths (bare_block (roll-Block z)) ≡ block_lengths (roll-Block z)) e (block_same (λ s. s.0) (λ s. s.1) y.instrs))

pub lengths_bare : (d : Definition) → lengths_of (bare_definition d) ≡ lengths_of d
lengths_bare (definition.Function f) = refl
lengths_bare (definition.Job j) = refl
lengths_bare (definition.Chain c) = block_bare c.outline
