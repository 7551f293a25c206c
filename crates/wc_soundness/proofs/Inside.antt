-- An advance from a checkpoint in an outline comes to one in it.
use Rattle.std.proofs.Common.{◌≡◌, ℕ, suc, ◌+◌, ◌<◌, ◌≤◌, Bool, true, false, List, [], ◌∷◌, ◌++◌, Option, Some, None, length, refl, sym, ap, subst, ◌∙◌, arith}
use Rattle.std.specs.Prelude.{if◌then◌else◌, not, nat_le, option_map, take, reverse, slice_get}
use Rattle.std.specs.List.{list_all}
use Rattle.std.proofs.lemmas.Bool.{and_parts, and_from, leb-true, le-leb}
use Rattle.std.proofs.lemmas.List.{append_assoc, reverse-append}
use Rattle.std.proofs.lemmas.Option.{slice_get-map, slice_get_within}
use Rattle.wc_syntax.specs.declared.definition.Chain.{Chain}
use Rattle.wc_syntax.specs.declared.definition.Definition.{Definition}
use Rattle.wc_syntax.specs.declared.outline.Arm.{Arm}
use Rattle.wc_syntax.specs.declared.outline.Block.{Block}
use Rattle.wc_syntax.specs.declared.outline.Instr.{Instr, out-Instr}
use Rattle.wc_syntax.specs.declared.outline.Instr.TheOpen.{Instr-F}
use Rattle.wc_state.specs.Checkpoint.{first}
use Rattle.wc_state.specs.declared.environment.Env.{Env}
use Rattle.wc_state.specs.declared.record.Checkpoint.{Checkpoint}
use Rattle.wc_state.specs.declared.record.Frame.{Frame}
use Rattle.wc_expression.specs.declared.outcome.Outcome.{Outcome}
use Rattle.wc_expression.specs.declared.outcome.Outcome.TheVariants.{Gives, Faults}
use Rattle.wc_expression.specs.Outcomes.{◌>>=◌}
use Rattle.wc_expression.specs.Val.{holds}
use Rattle.wc_semantics.specs.Laws.{arm_block, condition}
use Rattle.wc_semantics.specs.Meaning.{takes_of, kinds_of}
use Rattle.wc_semantics.specs.Run.{picked, instrs}
use Rattle.wc_semantics.proofs.Induction.{AllOf, OptionOf}
use Rattle.wc_world.specs.Blocks.{block_lengths}
use Rattle.wc_world.specs.Fits.{is_nil, is_within, frame_fits}
use Rattle.wc_machine.specs.Advances.{is_done, popped, past, at_head, block_count, first_block, numbered_arms, after_arms, other_number, chosen, turned, after_step, done, does, at_innermost, advance}
use Rattle.wc_machine.specs.Outlines.{Blocks, blocks, block_of, blocks_in}
use Rattle.wc_machine.specs.Steps.{Stepped, stops, makes, statements}
use Rattle.wc_turn_laws.proofs.Frames.{Stand, stand_first}
use Rattle.wc_turn_laws.proofs.Named.{HasNode}
use Rattle.wc_turn_laws.proofs.Numbering.{arm_blocks, other_blocks, opened_blocks, blocks_are, blocks_in_are, get_behind, get_front}
use Rattle.wc_turn_laws.proofs.Numbering as numbers
use Rattle.wc_soundness.specs.ChainTurnLaws.{AdvancesStayInside}
use Rattle.wc_soundness.specs.Standing.{StandsIn, StandsAfter}
use Rattle.wc_soundness.proofs.Sizes.{size, sizes, lengths_are}

-- ---- lists

all_append : {A : Type 0} (P : A → Type 0) (xs ys : List A) → AllOf P xs → AllOf P ys → AllOf P (xs ++ ys)
all_append P [] ys h k = k
all_append P (x ∷ xs) ys h k = (h.0, all_append P xs ys h.1 k)

all_reverse : {A : Type 0} (P : A → Type 0) (xs : List A) → AllOf P xs → AllOf P (reverse xs)
all_reverse P [] h = h
all_reverse P (x ∷ xs) h = subst (AllOf P) (sym (reverse-append (x ∷ []) xs)) (all_append P (reverse xs) (x ∷ []) (all_reverse P xs h.1) (h.0, tt))

ends_some : {A : Type 0} (xs : List A) (x : A) → not (is_nil (xs ++ x ∷ [])) ≡ true
ends_some [] x = refl
ends_some (y ∷ ys) x = refl

some_reversed : {A : Type 0} (x : A) (xs : List A) → not (is_nil (reverse (x ∷ xs))) ≡ true
some_reversed {A} x xs = ap (λ (ys : List A). not (is_nil ys)) (reverse-append (x ∷ []) xs) ∙ ends_some (reverse xs) x

-- ---- frames

-- a frame is in one of the blocks, at one of its instructions or at its end
abbrev pub IsIn : Blocks → Frame → Type 0
IsIn bs f = (is : List Instr) × (slice_get bs f.block ≡ Some is) × (f.next ≤ length is)

in_from : (bs : Blocks) (f : Frame) → frame_fits (sizes bs) f ≡ true → IsIn bs f
in_from bs f h = at (slice_get bs f.block) refl (ap (is_within f.next) (sym (slice_get-map size bs f.block)) ∙ h)
  where
    at : (o : Option (List Instr)) → slice_get bs f.block ≡ o → is_within f.next (option_map size o) ≡ true → IsIn bs f
    at None is h = absurd (cc)
    at (Some is) e h = (is, e, leb-true f.next (length is) h)

in_fits : (bs : Blocks) (f : Frame) → IsIn bs f → frame_fits (sizes bs) f ≡ true
in_fits bs f h = ap (is_within f.next) (slice_get-map size bs f.block ∙ ap (option_map size) h.1) ∙ le-leb f.next (length h.0) h.2

all_in : (bs : Blocks) (fs : List Frame) → list_all (frame_fits (sizes bs)) fs ≡ true → AllOf (IsIn bs) fs
all_in bs [] h = tt
all_in bs (f ∷ fs) h =
    let b = and_parts (frame_fits (sizes bs) f) (list_all (frame_fits (sizes bs)) fs) h in
    (in_from bs f b.0, all_in bs fs b.1)

all_fit : (bs : Blocks) (fs : List Frame) → AllOf (IsIn bs) fs → list_all (frame_fits (sizes bs)) fs ≡ true
all_fit bs [] h = refl
all_fit bs (f ∷ fs) h = and_from (frame_fits (sizes bs) f) (list_all (frame_fits (sizes bs)) fs) (in_fits bs f h.0) (all_fit bs fs h.1)

popped_in : (P : Frame → Type 0) (bs : Blocks) (fs : List Frame) → AllOf P fs → AllOf P (popped bs fs)
popped_in P bs [] h = tt
popped_in P bs (f ∷ []) h = h
popped_in P bs (f ∷ (g ∷ fs)) h = by (is_done bs f) (popped_in P bs (g ∷ fs) h.1)
  where
    by : (b : Bool) → AllOf P (popped bs (g ∷ fs)) → AllOf P (if b then popped bs (g ∷ fs) else f ∷ (g ∷ fs))
    by true t = t
    by false t = h

-- past the next instruction a frame is still in its block
past_in : (bs : Blocks) (f : Frame) (i : Instr) → IsIn bs f → slice_get (block_of (slice_get bs f.block)) f.next ≡ Some i → IsIn bs (past f)
past_in bs f i h there =
    let lt : f.next < length h.0 = slice_get_within h.0 f.next i (ap (λ (o : Option (List Instr)). slice_get (block_of o) f.next) (sym h.1) ∙ there) in
    (h.0, h.1, omega (arith, lt))

-- the head of a block is in it
head_in : (bs : Blocks) (n : ℕ) (is : List Instr) → slice_get bs n ≡ Some is → IsIn bs (at_head n)
head_in bs n is h = (is, h, omega arith)

-- every chain begins in its outline
pub first_inside : (k : Chain) → StandsIn k first
first_inside k = (
  refl,
  ap (λ (ls : List ℕ). list_all (frame_fits ls) first.frames) (lengths_are k.outline ∙ ap sizes (blocks_are k.outline))
      ∙ and_from (nat_le 0 (size (instrs k.outline))) true (le-leb 0 (size (instrs k.outline)) (omega arith)) refl,
)

-- ---- blocks that are entered

stand_behind : (bs : Blocks) (n : ℕ) (xs ys : Blocks) → Stand bs n (xs ++ ys) → Stand bs (n + length xs) ys
stand_behind bs n xs ys h o c p = let q : n + length xs + o ≡ n + (length xs + o) = omega arith in ap (slice_get bs) q ∙ h (length xs + o) c (get_behind xs ys o ∙ p)

stand_front : (bs : Blocks) (n : ℕ) (xs ys : Blocks) → Stand bs n (xs ++ ys) → Stand bs n xs
stand_front bs n xs ys h o c p = h o c (get_front xs ys o c p)

-- the number of a block to enter, or none
abbrev Enters : Blocks → Option ℕ → Type 0
Enters bs o = OptionOf (λ n. IsIn bs (at_head n)) o

other_enters : (bs : Blocks) (n : ℕ) (other : Option Block) → Stand bs n (other_blocks other) → Enters bs (other_number n other)
other_enters bs n None h = tt
other_enters bs n (Some b) h = head_in bs n (instrs b) (stand_first bs n b h)

by_test : {A : Type 0} (P : A → Type 0) (o : Outcome Bool) (x : A) (rest : Outcome A) → P x → HasNode P rest → HasNode P (o >>= (λ b. if b then Gives x else rest))
by_test P (Faults q) x rest h t = tt
by_test P (Gives true) x rest h t = h
by_test P (Gives false) x rest h t = t

picked_enters : (bs : Blocks) (arms : List Arm) (n : ℕ) (other : Option Block) (env : Env) → Stand bs n (arm_blocks arms ++ other_blocks other)
    → HasNode (Enters bs) (picked (numbered_arms n arms) (other_number (after_arms n arms) other) env)
picked_enters bs [] n other env h = other_enters bs n other h
picked_enters bs (x ∷ xs) n other env h =
    let front : Stand bs n (blocks (arm_block x)) = stand_front bs n (blocks (arm_block x)) (arm_blocks xs) (stand_front bs n (arm_blocks (x ∷ xs)) (other_blocks other) h) in
    let l : ℕ = length (blocks (arm_block x)) in
    by_test (Enters bs) (holds (condition x) env) (Some n) (picked (numbered_arms (n + l) xs) (other_number (after_arms (n + l) xs) other) env)
    (head_in bs n (instrs (arm_block x)) (stand_first bs n (arm_block x) front))
    (picked_enters bs xs (n + l) other env (stand_behind bs n (blocks (arm_block x)) (arm_blocks xs ++ other_blocks other)
    (subst (Stand bs n) (append_assoc (blocks (arm_block x)) (arm_blocks xs) (other_blocks other)) h)))

-- ---- the next instruction

module _ (library : List Definition) (k : Chain) (depth : ℕ) (env : Env) (c : Checkpoint) where
  abbrev bs : Blocks
  bs = blocks k.outline

  -- frames with the innermost first are in the outline
  inside : (f : Frame) (fs : List Frame) → AllOf (IsIn bs) (f ∷ fs) → (not (is_nil (reverse (f ∷ fs))) ≡ true) × (list_all (frame_fits (block_lengths k.outline)) (reverse (f ∷ fs)) ≡ true)
  inside f fs h = (
    some_reversed f fs,
    ap (λ (ls : List ℕ). list_all (frame_fits ls) (reverse (f ∷ fs))) (lengths_are k.outline) ∙ all_fit bs (reverse (f ∷ fs)) (all_reverse (IsIn bs) (f ∷ fs) h),
  )

  chosen_inside : (o : Outcome (Option ℕ)) (f : Frame) (fs : List Frame) → HasNode (Enters bs) o → AllOf (IsIn bs) (f ∷ fs) → StandsAfter k (chosen library k depth env c o (f ∷ fs))
  chosen_inside (Gives None) f fs e h = inside f fs h
  chosen_inside (Gives (Some n)) f fs e h = inside (at_head n) (f ∷ fs) (e, h)
  chosen_inside (Faults r) f fs e h = tt

  turned_inside : (o : Outcome Bool) (g : Frame) (gs : List Frame) (f : Frame) (fs : List Frame) → AllOf (IsIn bs) (g ∷ gs) → AllOf (IsIn bs) (f ∷ fs)
      → StandsAfter k (turned library k depth env c o (g ∷ gs) (f ∷ fs))
  turned_inside (Gives true) g gs f fs inner outer = inside g gs inner
  turned_inside (Gives false) g gs f fs inner outer = inside f fs outer
  turned_inside (Faults r) g gs f fs inner outer = tt

  step_inside : (x : Stepped) (f : Frame) (fs : List Frame) → AllOf (IsIn bs) (f ∷ fs) → StandsAfter k (after_step library k depth env c x (f ∷ fs))
  step_inside (stops s outputs) f fs h = tt
  step_inside (makes ctx outputs []) f fs h = inside f fs h
  step_inside (makes ctx outputs (x ∷ xs)) f fs h = inside f fs h

  done_inside : (y : Instr-F Instr Arm Block) (f : Frame) (fs : List Frame) → AllOf (IsIn bs) (f ∷ fs) → IsIn bs (past f) → Stand bs (first_block bs f) (opened_blocks y)
      → StandsAfter k (done library k depth env c bs y f fs)
  done_inside (Instr-F.Step s) f fs h next stand =
      step_inside
      (statements c.calls (nat_le 16 depth) (takes_of library) (kinds_of k.head.outputs) s.stmts (record { env = env; ctx = c.ctx; outputs = c.outputs; calls = [] }))
      (past f) fs (next, h.1)
  done_inside (Instr-F.If at arms other) f fs h next stand =
      chosen_inside (picked (numbered_arms (first_block bs f) arms) (other_number (after_arms (first_block bs f) arms) other) env) (past f) fs
      (picked_enters bs arms (first_block bs f) other env stand) (next, h.1)
  done_inside (Instr-F.While at x b) f fs h next stand =
      turned_inside (holds x env) (at_head (first_block bs f)) (f ∷ fs) (past f) fs
      (head_in bs (first_block bs f) (instrs b) (stand_first bs (first_block bs f) b stand), h) (next, h.1)
  done_inside (Instr-F.Return at n) f fs h next stand = tt

  stands : (f : Frame) (i : Instr) (o : Option (List Instr)) → slice_get bs f.block ≡ o → slice_get (block_of o) f.next ≡ Some i
      → Stand bs (suc f.block + block_count (take f.next (block_of o))) (blocks_in i)
  stands f i None p q o d r = absurd (cc)
  stands f i (Some is) p q o d r = numbers.entered k.outline is f.block f.next o i d p q r

  does_inside : (x : Option Instr) (f : Frame) (fs : List Frame) → slice_get (block_of (slice_get bs f.block)) f.next ≡ x → AllOf (IsIn bs) (f ∷ fs)
      → StandsAfter k (does library k depth env c bs x f fs)
  does_inside None f fs is h = tt
  does_inside (Some i) f fs is h =
      done_inside (out-Instr i) f fs h (past_in bs f i h.0 is) (subst (Stand bs (first_block bs f)) (blocks_in_are i) (stands f i (slice_get bs f.block) refl is))

  innermost_inside : (fs : List Frame) → AllOf (IsIn bs) fs → StandsAfter k (at_innermost library k depth env c bs fs)
  innermost_inside [] h = tt
  innermost_inside (f ∷ fs) h = does_inside (slice_get (block_of (slice_get bs f.block)) f.next) f fs refl h

  advance_inside : StandsIn k c → StandsAfter k (advance library k depth env c)
  advance_inside h =
      innermost_inside (popped bs (reverse c.frames))
      (popped_in (IsIn bs) bs (reverse c.frames)
      (all_reverse (IsIn bs) c.frames (all_in bs c.frames (ap (λ (ls : List ℕ). list_all (frame_fits ls) c.frames) (sym (lengths_are k.outline)) ∙ h.1))))

pub advances_stay_inside : AdvancesStayInside
advances_stay_inside = advance_inside
