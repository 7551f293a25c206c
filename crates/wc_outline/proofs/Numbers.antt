-- The numbers of the blocks in an instruction have 32 bits where the blocks of its outline are that few.
use Rattle.std.proofs.Common.{◌≡◌, ℕ, zero, suc, ◌+◌, ◌^◌, ◌<◌, List, [], ◌∷◌, Option, Some, None, length, take, refl, sym, ap, subst, ◌∙◌, append_assoc, arith}
use Rattle.std.specs.Prelude.{reverse, option_map, slice_get}
use Rattle.std.proofs.lemmas.List.{length-append}
use Rattle.wc_syntax.specs.declared.expression.Expr.{Expr}
use Rattle.wc_syntax.specs.declared.outline.Arm.{Arm, out-Arm}
use Rattle.wc_syntax.specs.declared.outline.Block.{Block}
use Rattle.wc_syntax.specs.declared.outline.Instr.{Instr}
use Rattle.wc_syntax.specs.declared.outline.Instr.TheVariants as instr
use Rattle.wc_state.specs.declared.record.Frame.{Frame}
use Rattle.wc_machine.specs.Advances.{block_count}
use Rattle.wc_machine.specs.Outlines.{Blocks, blocks, blocks_in, block_of}
use Rattle.wc_turn_laws.proofs.Numbering.{blocks_are, entered}
use Rattle.wc_outline.specs.Places.{Standing, front_of, standing, first_number, if_blocks, Fit}
use Rattle.wc_outline.proofs.Opened.{blocks_both, blocks_while}

-- ---- the instruction that comes next

below : {A : Type 0} (xs : List A) (n : ℕ) (x : A) → slice_get xs n ≡ Some x → n < length xs
below [] n x h = absurd (cc)
below (y ∷ ys) zero x h = omega arith
below (y ∷ ys) (suc n) x h = let e = below ys n x h in omega (arith, e)

-- the last item of a list that has one
abbrev Last : {A : Type 0} → List A → Type 0
Last {A = A} xs = (o : ℕ) × (x : A) × (length xs ≡ suc o) × (slice_get xs o ≡ Some x)

last_of : {A : Type 0} (x : A) (xs : List A) → Last (x ∷ xs)
last_of x [] = (0, x, refl, refl)
last_of x (y ∷ ys) = let l = last_of y ys in (suc l.0, l.1, ap suc l.2, l.3)

last_there : {A : Type 0} (xs : List A) → 0 < length xs → Last xs
last_there [] h = absurd (omega arith)
last_there (x ∷ xs) h = last_of x xs

some_same : {A : Type 0} (x y : A) → Some x ≡ Some y → x ≡ y
some_same x y h = cc

module _ (outline : Block) (few : length (blocks outline) < 2 ^ 32) where
  abbrev placed : Frame → List Frame → Instr → Standing
  placed f fs i = record { instr = i; front = front_of (blocks outline) f; frame = f; outer = reverse fs }

  -- the numbers of the blocks in an instruction at a place of a block
  fit_at : (is : List Instr) (k j : ℕ) (i : Instr) → slice_get (blocks outline) k ≡ Some is → slice_get is j ≡ Some i
      → Fit (suc k + block_count (take j is)) (length (blocks_in i))
  fit_at is k j i p q h =
      let l = last_there (blocks_in i) h in
      let b : suc k + block_count (take j is) + l.0 < length (blocks outline)
      = below (blocks outline) (suc k + block_count (take j is) + l.0) l.1 (entered outline is k j l.0 i l.1 p q l.3) in
      let n = l.2 in
      omega (arith, b, n, few)

  abbrev FitsAt : Standing → Type 0
  FitsAt st = Fit (first_number st.frame st.front) (length (blocks_in st.instr))

  fit_in : (ob : Option (List Instr)) (oi : Option Instr) (f : Frame) (fs : List Frame) (st : Standing) → slice_get (blocks outline) f.block ≡ ob
      → slice_get (block_of ob) f.next ≡ oi → Some st ≡ option_map (placed f fs) oi → FitsAt st
  fit_in None oi f fs st p q h = absurd (cc)
  fit_in (Some is) None f fs st p q h = absurd (cc)
  fit_in (Some is) (Some i) f fs st p q h =
      subst FitsAt (sym (some_same st (placed f fs i) h))
      (subst (λ (o : Option (List Instr)). Fit (suc f.block + block_count (take f.next (block_of o))) (length (blocks_in i))) (sym p) (fit_at is f.block f.next i p q))

  pub fit_there : (fs : List Frame) (st : Standing) → Some st ≡ standing (blocks outline) fs → FitsAt st
  fit_there [] st h = absurd (cc)
  fit_there (f ∷ fs) st h = fit_in (slice_get (blocks outline) f.block) (slice_get (block_of (slice_get (blocks outline) f.block)) f.next) f fs st refl refl h

-- ---- what stands in it

no_less : (b : Block) → 0 < length (blocks b)
no_less b = let e = ap (length {A = List Instr}) (blocks_are b) in omega (arith, e)

pub fit_if : (first : ℕ) (i : Instr) (at : ℕ) (arms : List Arm) (other : Option Block) → i ≡ instr.If at arms other → Fit first (length (blocks_in i))
    → Fit first (length (if_blocks arms other))
fit_if first i at arms other h t = subst (λ (bs : Blocks). Fit first (length bs)) (blocks_both i at arms other h) t

pub fit_while : (first : ℕ) (i : Instr) (at : ℕ) (e : Expr) (b : Block) → i ≡ instr.While at e b → Fit first (length (blocks_in i)) → first < 2 ^ 32
fit_while first i at e b h t =
    let n = no_less b in
    let s = subst (λ (bs : Blocks). Fit first (length bs)) (blocks_while i at e b h) t n in
    omega (arith, n, s)

-- ---- arm by arm

module _ (n : ℕ) (x : Arm) (xs : List Arm) (other : Option Block) (t : Fit n (length (if_blocks (x ∷ xs) other))) where
  abbrev inside : Blocks
  inside = blocks (out-Arm x).block

  more : length (if_blocks (x ∷ xs) other) ≡ length inside + length (if_blocks xs other)
  more = ap (length {A = List Instr}) (append_assoc inside _ _) ∙ length-append inside (if_blocks xs other)

  pub fit_here : n < 2 ^ 32
  fit_here =
      let b = no_less (out-Arm x).block in
      let m = more in
      let s = t (omega (arith, b, m)) in
      omega (arith, b, m, s)

  pub fit_on : Fit (n + length inside) (length (if_blocks xs other))
  fit_on h =
      let m = more in
      let s = t (omega (arith, h, m)) in
      omega (arith, m, s)

pub fit_other : (n : ℕ) (b : Block) → Fit n (length (if_blocks [] (Some b))) → n < 2 ^ 32
fit_other n b t = let h = no_less b in let s = t h in omega (arith, h, s)
