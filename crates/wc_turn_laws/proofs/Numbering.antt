-- A block that is entered stands under the number that it is given.
use Rattle.std.proofs.Common.{inl, inr, ◌≡◌, ℕ, zero, suc, ◌+◌, List, [], ◌∷◌, ◌++◌, Option, Some, None, map, refl, sym, ap, subst, ◌∙◌, arith}
use Rattle.std.specs.Prelude.{◌⊎◌, length, take, flat_map, slice_get}
use Rattle.std.proofs.lemmas.List.{append_assoc, append-nil, length-append}
use Rattle.wc_syntax.specs.declared.outline.Arm.{Arm, out-Arm, roll-Arm, fold-Arm, fold_out-Arm, roll-out-Arm}
use Rattle.wc_syntax.specs.declared.outline.Block.{Block, roll-Block, out-Block, map-Block, fold-Block, fold_out-Block, roll-out-Block}
use Rattle.wc_syntax.specs.declared.outline.Instr.{Instr, roll-Instr, out-Instr, map-Instr, fold-Instr, fold_out-Instr, roll-out-Instr}
use Rattle.wc_syntax.specs.declared.outline.Instr.TheOpen.{Instr-F}
use Rattle.wc_semantics.specs.Laws.{arm_block}
use Rattle.wc_semantics.specs.Run.{instrs}
use Rattle.wc_semantics.proofs.Induction.{AllOf, OptionOf, Inside, every_block}
use Rattle.wc_machine.specs.Advances.{block_count}
use Rattle.wc_machine.specs.Outlines.{Blocks, InstrIn, ArmIn, BlockIn, instr_in, arm_in, block_in, blocks_in, blocks}

abbrev one : Instr → InstrIn
one = fold-Instr InstrIn ArmIn BlockIn instr_in arm_in block_in

abbrev arm : Arm → ArmIn
arm = fold-Arm InstrIn ArmIn BlockIn instr_in arm_in block_in

abbrev whole : Block → BlockIn
whole = fold-Block InstrIn ArmIn BlockIn instr_in arm_in block_in

-- ---- the fold gives each block back

same_list : {X Y : Type 0} (f : X → X × Y) (xs : List X) → AllOf (λ x. (f x).0 ≡ x) xs → map (λ p. p.0) (map f xs) ≡ xs
same_list f [] t = refl
same_list f (x ∷ xs) t = λ i. t.0 i ∷ same_list f xs t.1 i

arm_same : (x : Arm) → (whole (arm_block x)).0 ≡ arm_block x → (arm x).0 ≡ x
arm_same x p = ap (λ (y : ArmIn). y.0) (fold_out-Arm InstrIn ArmIn BlockIn instr_in arm_in block_in x)
    ∙ ap (λ (b : Block). roll-Arm (record { condition = (out-Arm x).condition; block = b })) p ∙ roll-out-Arm x

arms_same : (xs : List Arm) → AllOf (λ x. (whole (arm_block x)).0 ≡ arm_block x) xs → AllOf (λ x. (arm x).0 ≡ x) xs
arms_same [] t = tt
arms_same (x ∷ xs) t = (arm_same x t.0, arms_same xs t.1)

opened_same : (y : Instr-F Instr Arm Block) → Inside (λ b. (whole b).0 ≡ b) y → (instr_in (map-Instr Instr Arm Block InstrIn ArmIn BlockIn one arm whole y)).0 ≡ roll-Instr y
opened_same (Instr-F.Step s) t = refl
opened_same (Instr-F.If at arms None) t = ap (λ (xs : List Arm). roll-Instr (Instr-F.If at xs None)) (same_list arm arms (arms_same arms t.0))
opened_same (Instr-F.If at arms (Some b)) t = λ i. roll-Instr (Instr-F.If at (same_list arm arms (arms_same arms t.0) i) (Some (t.1 i)))
opened_same (Instr-F.While at c b) t = ap (λ (d : Block). roll-Instr (Instr-F.While at c d)) t
opened_same (Instr-F.Return at code) t = refl

instr_same : (i : Instr) → Inside (λ b. (whole b).0 ≡ b) (out-Instr i) → (one i).0 ≡ i
instr_same i t = ap (λ (y : InstrIn). y.0) (fold_out-Instr InstrIn ArmIn BlockIn instr_in arm_in block_in i) ∙ opened_same (out-Instr i) t ∙ roll-out-Instr i

whole_is : (b : Block) → whole b ≡ block_in (map-Block Instr Arm Block InstrIn ArmIn BlockIn one arm whole (out-Block b))
whole_is b = fold_out-Block InstrIn ArmIn BlockIn instr_in arm_in block_in b

many_same : (b : Block) → AllOf (λ i. (one i).0 ≡ i) (instrs b) → (whole b).0 ≡ b
many_same b t = ap (λ (y : BlockIn). y.0) (whole_is b)
    ∙ ap (λ (is : List Instr). roll-Block (record { instrs = is })) (same_list one (instrs b) t) ∙ roll-out-Block b

block_same : (b : Block) → (whole b).0 ≡ b
block_same = every_block (λ i. (one i).0 ≡ i) (λ b. (whole b).0 ≡ b) instr_same many_same

-- ---- the blocks of a block: itself, and those in its instructions

abbrev pub other_blocks : Option Block → Blocks
other_blocks None = []
other_blocks (Some b) = blocks b

abbrev pub arm_blocks : List Arm → Blocks
arm_blocks arms = flat_map (λ x. blocks (arm_block x)) arms

abbrev pub opened_blocks : Instr-F Instr Arm Block → Blocks
opened_blocks (Instr-F.Step s) = []
opened_blocks (Instr-F.If at arms other) = arm_blocks arms ++ other_blocks other
opened_blocks (Instr-F.While at c b) = blocks b
opened_blocks (Instr-F.Return at code) = []

-- a list of instructions as a block, with the blocks in it
abbrev pub listed : List Instr → Blocks
listed is = is ∷ flat_map blocks_in is

arms_inside : (xs : List Arm) → flat_map (λ p. p.1) (map arm xs) ≡ arm_blocks xs
arms_inside [] = refl
arms_inside (x ∷ xs) = λ i. (fold_out-Arm InstrIn ArmIn BlockIn instr_in arm_in block_in x i).1 ++ arms_inside xs i

opened_inside : (y : Instr-F Instr Arm Block) → (instr_in (map-Instr Instr Arm Block InstrIn ArmIn BlockIn one arm whole y)).1 ≡ opened_blocks y
opened_inside (Instr-F.Step s) = refl
opened_inside (Instr-F.If at arms None) = ap (λ (bs : Blocks). bs ++ []) (arms_inside arms)
opened_inside (Instr-F.If at arms (Some b)) = ap (λ (bs : Blocks). bs ++ blocks b) (arms_inside arms)
opened_inside (Instr-F.While at c b) = refl
opened_inside (Instr-F.Return at code) = refl

pub blocks_in_are : (i : Instr) → blocks_in i ≡ opened_blocks (out-Instr i)
blocks_in_are i = ap (λ (y : InstrIn). y.1) (fold_out-Instr InstrIn ArmIn BlockIn instr_in arm_in block_in i) ∙ opened_inside (out-Instr i)

all_inside : (is : List Instr) → flat_map (λ p. p.1) (map one is) ≡ flat_map blocks_in is
all_inside [] = refl
all_inside (j ∷ is) = ap (λ (bs : Blocks). blocks_in j ++ bs) (all_inside is)

all_same : (is : List Instr) → AllOf (λ i. (one i).0 ≡ i) is
all_same [] = tt
all_same (i ∷ is) = (instr_same i (inside (out-Instr i)), all_same is)
  where
    arms_inside' : (xs : List Arm) → AllOf (λ x. (whole (arm_block x)).0 ≡ arm_block x) xs
    arms_inside' [] = tt
    arms_inside' (x ∷ xs) = (block_same (arm_block x), arms_inside' xs)

    inside : (y : Instr-F Instr Arm Block) → Inside (λ b. (whole b).0 ≡ b) y
    inside (Instr-F.Step s) = tt
    inside (Instr-F.If at arms None) = (arms_inside' arms, tt)
    inside (Instr-F.If at arms (Some b)) = (arms_inside' arms, block_same b)
    inside (Instr-F.While at c b) = block_same b
    inside (Instr-F.Return at code) = tt

pub blocks_are : (b : Block) → blocks b ≡ listed (instrs b)
blocks_are b = ap (λ (y : BlockIn). y.1) (whole_is b) ∙ (λ i. same_list one (instrs b) (all_same (instrs b)) i ∷ all_inside (instrs b) i)

-- ---- where a block is, those in it follow

-- the list ys stands in xs from the place n on
abbrev pub StandsIn : {X : Type 0} → List X → ℕ → List X → Type 0
StandsIn {X = X} xs n ys = (before : List X) × (behind : List X) × (xs ≡ before ++ (ys ++ behind)) × (length before ≡ n)

abbrev Whole : Blocks → Type 0
Whole xs = (n : ℕ) (is : List Instr) → slice_get xs n ≡ Some is → StandsIn xs n (listed is)

abbrev Split : {X : Type 0} → List X → List X → ℕ → X → Type 0
Split xs ys n b = (slice_get xs n ≡ Some b) ⊎ ((m : ℕ) × (n ≡ length xs + m) × (slice_get ys m ≡ Some b))

split_next : {X : Type 0} (x : X) (xs ys : List X) (n : ℕ) (b : X) → Split xs ys n b → Split (x ∷ xs) ys (suc n) b
split_next x xs ys n b (inl p) = inl p
split_next x xs ys n b (inr q) = inr (q.0, omega (arith, q.1), q.2)

split_at : {X : Type 0} (xs ys : List X) (n : ℕ) (b : X) → slice_get (xs ++ ys) n ≡ Some b → Split xs ys n b
split_at [] ys n b p = inr (n, omega arith, p)
split_at (x ∷ xs) ys zero b p = inl p
split_at (x ∷ xs) ys (suc n) b p = split_next x xs ys n b (split_at xs ys n b p)

whole_nil : Whole []
whole_nil n b p = absurd (cc)

whole_by : (xs ys : Blocks) → Whole xs → Whole ys → (n : ℕ) (is : List Instr) → Split xs ys n is → StandsIn (xs ++ ys) n (listed is)
whole_by xs ys p q n is (inl h) = let s = p n is h in
    (s.0, s.1 ++ ys, ap (λ l. l ++ ys) s.2 ∙ append_assoc s.0 (listed is ++ s.1) ys ∙ ap (λ l. s.0 ++ l) (append_assoc (listed is) s.1 ys), s.3)
whole_by xs ys p q n is (inr h) = let s = q h.0 is h.2 in
    (xs ++ s.0, s.1, ap (λ l. xs ++ l) s.2 ∙ sym (append_assoc xs s.0 (listed is ++ s.1)), omega (arith, length-append xs s.0, s.3, h.1))

whole_append : (xs ys : Blocks) → Whole xs → Whole ys → Whole (xs ++ ys)
whole_append xs ys p q n b h = whole_by xs ys p q n b (split_at xs ys n b h)

some_same : {X : Type 0} (x y : X) → Some x ≡ Some y → x ≡ y
some_same x y p = cc

whole_arms : (xs : List Arm) → AllOf (λ x. Whole (blocks (arm_block x))) xs → Whole (arm_blocks xs)
whole_arms [] t = whole_nil
whole_arms (x ∷ xs) t = whole_append (blocks (arm_block x)) _ t.0 (whole_arms xs t.1)

whole_other : (o : Option Block) → OptionOf (λ b. Whole (blocks b)) o → Whole (other_blocks o)
whole_other None t = whole_nil
whole_other (Some b) t = t

whole_in : (y : Instr-F Instr Arm Block) → Inside (λ b. Whole (blocks b)) y → Whole (opened_blocks y)
whole_in (Instr-F.Step s) t = whole_nil
whole_in (Instr-F.If at arms other) t = whole_append _ _ (whole_arms arms t.0) (whole_other other t.1)
whole_in (Instr-F.While at c b) t = t
whole_in (Instr-F.Return at code) t = whole_nil

whole_list : (is : List Instr) → AllOf (λ i. Whole (blocks_in i)) is → Whole (flat_map blocks_in is)
whole_list [] t = whole_nil
whole_list (i ∷ is) t = whole_append (blocks_in i) _ t.0 (whole_list is t.1)

whole_cons : (is : List Instr) → Whole (flat_map blocks_in is) → Whole (listed is)
whole_cons is t zero js p = ([], [], ap listed (some_same is js p) ∙ sym (append-nil (listed js)), refl)
whole_cons is t (suc n) js p = let s = t n js p in (is ∷ s.0, s.1, ap (λ l. is ∷ l) s.2, omega (arith, s.3))

block_whole : (b : Block) → Whole (blocks b)
block_whole = every_block (λ i. Whole (blocks_in i)) (λ b. Whole (blocks b)) (λ i t. subst Whole (sym (blocks_in_are i)) (whole_in (out-Instr i) t))
    (λ b t. subst Whole (sym (blocks_are b)) (whole_cons (instrs b) (whole_list (instrs b) t)))

-- ---- the number of a block in an instruction

pub get_behind : {X : Type 0} (xs ys : List X) (m : ℕ) → slice_get (xs ++ ys) (length xs + m) ≡ slice_get ys m
get_behind [] ys m = let p : zero + m ≡ m = omega arith in ap (slice_get ys) p
get_behind (x ∷ xs) ys m = let p : suc (length xs) + m ≡ suc (length xs + m) = omega arith in ap (slice_get (x ∷ (xs ++ ys))) p ∙ get_behind xs ys m

pub get_front : {X : Type 0} (xs ys : List X) (m : ℕ) (b : X) → slice_get xs m ≡ Some b → slice_get (xs ++ ys) m ≡ Some b
get_front [] ys m b p = absurd (cc)
get_front (x ∷ xs) ys zero b p = p
get_front (x ∷ xs) ys (suc m) b p = get_front xs ys m b p

get_standing : {X : Type 0} (xs ys : List X) (n m : ℕ) (b : X) → StandsIn xs n ys → slice_get ys m ≡ Some b → slice_get xs (n + m) ≡ Some b
get_standing xs ys n m b s p = (λ i. slice_get (s.2 i) (sym s.3 i + m)) ∙ get_behind s.0 (ys ++ s.1) m ∙ get_front ys s.1 m b p

count_is : (is : List Instr) → block_count is ≡ length (flat_map blocks_in is)
count_is [] = refl
count_is (i ∷ is) = ap (λ m. length (blocks_in i) + m) (count_is is) ∙ sym (length-append (blocks_in i) (flat_map blocks_in is))

get_inside : (is : List Instr) (j o : ℕ) (i : Instr) (c : List Instr) → slice_get is j ≡ Some i → slice_get (blocks_in i) o ≡ Some c
    → slice_get (flat_map blocks_in is) (length (flat_map blocks_in (take j is)) + o) ≡ Some c
get_inside [] j o i c p q = absurd (cc)
get_inside (x ∷ is) zero o i c p q = let e : zero + o ≡ o = omega arith in ap (slice_get (blocks_in x ++ flat_map blocks_in is)) e
    ∙ get_front (blocks_in x) (flat_map blocks_in is) o c (ap (λ z. slice_get (blocks_in z) o) (some_same x i p) ∙ q)
get_inside (x ∷ is) (suc j) o i c p q =
    let l : ℕ = length (flat_map blocks_in (take j is)) in
    let e : length (blocks_in x ++ flat_map blocks_in (take j is)) + o ≡ length (blocks_in x) + (l + o) = omega (arith, length-append (blocks_in x) (flat_map blocks_in (take j is))) in
    ap (slice_get (blocks_in x ++ flat_map blocks_in is)) e ∙ get_behind (blocks_in x) (flat_map blocks_in is) (l + o) ∙ get_inside is j o i c p q

-- A block in the j-th instruction of the block with number k, as the o-th of those in it.
pub entered : (outline : Block) (is : List Instr) (k j o : ℕ) (i : Instr) (c : List Instr) → slice_get (blocks outline) k ≡ Some is → slice_get is j ≡ Some i
    → slice_get (blocks_in i) o ≡ Some c → slice_get (blocks outline) (suc k + block_count (take j is) + o) ≡ Some c
entered outline is k j o i c p q r =
    let l : ℕ = length (flat_map blocks_in (take j is)) in
    let e : suc k + block_count (take j is) + o ≡ k + suc (l + o) = omega (arith, count_is (take j is)) in
    ap (slice_get (blocks outline)) e ∙ get_standing (blocks outline) (listed is) k (suc (l + o)) c (block_whole outline k is p)
    (get_inside is j o i c q r)
