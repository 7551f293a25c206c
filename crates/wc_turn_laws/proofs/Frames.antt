-- What frames leave, and what stands where a block is entered.
use Rattle.std.proofs.Common.{◌≡◌, ℕ, zero, suc, ◌+◌, ◌≤◌, Bool, true, false, List, [], ◌∷◌, ◌++◌, Option, Some, None, map, length, refl, sym, ap, subst, ◌∙◌, arith}
use Rattle.std.specs.Prelude.{if◌then◌else◌, drop, reverse, slice_get}
use Rattle.std.proofs.lemmas.Bool.{leb-true, le-leb}
use Rattle.std.proofs.lemmas.List.{append_assoc, append-nil, length-append, reverse-append, reverse-reverse}
use Rattle.wc_syntax.specs.declared.outline.Arm.{Arm}
use Rattle.wc_syntax.specs.declared.outline.Block.{Block}
use Rattle.wc_syntax.specs.declared.outline.Instr.{Instr}
use Rattle.wc_state.specs.declared.environment.Env.{Env}
use Rattle.wc_state.specs.declared.record.Frame.{Frame}
use Rattle.wc_expression.specs.declared.outcome.Outcome.{Outcome}
use Rattle.wc_expression.specs.declared.outcome.Outcome.TheVariants.{Gives, Faults}
use Rattle.wc_expression.specs.Outcomes.{◌>>=◌, mapped}
use Rattle.wc_expression.specs.Val.{holds}
use Rattle.wc_semantics.specs.Laws.{arm_block, condition, arm_list, else_list}
use Rattle.wc_semantics.specs.Run.{picked, instrs}
use Rattle.wc_machine.specs.Advances.{is_done, popped, numbered_arms, after_arms, other_number}
use Rattle.wc_machine.specs.Outlines.{Blocks, blocks, block_of, left_in, left}
use Rattle.wc_turn_laws.proofs.Numbering.{arm_blocks, other_blocks, blocks_are, get_behind, get_front}

-- ---- the innermost frame first

abbrev pub remaining : Blocks → List Frame → List Instr
remaining bs [] = []
remaining bs (f ∷ fs) = left_in bs f ++ remaining bs fs

left_append : (bs : Blocks) (xs ys : List Frame) → left bs (xs ++ ys) ≡ left bs ys ++ left bs xs
left_append bs [] ys = sym (append-nil (left bs ys))
left_append bs (x ∷ xs) ys = ap (λ is. is ++ left_in bs x) (left_append bs xs ys) ∙ append_assoc (left bs ys) (left bs xs) (left_in bs x)

pub left_reverse : (bs : Blocks) (fs : List Frame) → left bs (reverse fs) ≡ remaining bs fs
left_reverse bs [] = refl
left_reverse bs (f ∷ fs) = ap (left bs) (reverse-append (f ∷ []) fs) ∙ left_append bs (reverse fs) (f ∷ []) ∙ ap (λ is. left_in bs f ++ is) (left_reverse bs fs)

pub left_is : (bs : Blocks) (fs : List Frame) → left bs fs ≡ remaining bs (reverse fs)
left_is bs fs = ap (left bs) (sym (reverse-reverse fs)) ∙ left_reverse bs (reverse fs)

-- ---- frames at their block's end

drop_past : {A : Type 0} (xs : List A) (n : ℕ) → length xs ≤ n → drop n xs ≡ []
drop_past [] zero h = refl
drop_past [] (suc n) h = refl
drop_past (x ∷ xs) zero h = absurd (omega (arith, h))
drop_past (x ∷ xs) (suc n) h = drop_past xs n (omega (arith, h))

pub drop_end : {A : Type 0} (xs : List A) (n : ℕ) → slice_get xs n ≡ None → drop n xs ≡ []
drop_end [] zero h = refl
drop_end [] (suc n) h = refl
drop_end (x ∷ xs) zero h = absurd (cc)
drop_end (x ∷ xs) (suc n) h = drop_end xs n h

past_end : {A : Type 0} (xs : List A) (n : ℕ) → slice_get xs n ≡ None → length xs ≤ n
past_end [] n h = omega arith
past_end (x ∷ xs) zero h = absurd (cc)
past_end (x ∷ xs) (suc n) h = omega (arith, past_end xs n h)

pub drop_next : {A : Type 0} (xs : List A) (n : ℕ) (x : A) → slice_get xs n ≡ Some x → drop n xs ≡ x ∷ drop (suc n) xs
drop_next [] n x h = absurd (cc)
drop_next (y ∷ ys) zero x h = ap (λ (z : _). z ∷ ys) (same y x h)
  where
    same : {A : Type 0} (y x : A) → Some y ≡ Some x → y ≡ x
    same y x h = cc
drop_next (y ∷ ys) (suc n) x h = drop_next ys n x h

popped_if : (bs : Blocks) (b : Bool) (f : Frame) (fs gs : List Frame) → is_done bs f ≡ b → remaining bs gs ≡ remaining bs fs
    → remaining bs (if b then gs else f ∷ fs) ≡ remaining bs (f ∷ fs)
popped_if bs true f fs gs h p = p ∙ ap (λ is. is ++ remaining bs fs) (sym (drop_past (block_of (slice_get bs f.block)) f.next (leb-true (length (block_of (slice_get bs f.block))) f.next h)))
popped_if bs false f fs gs h p = refl

pub popped_same : (bs : Blocks) (fs : List Frame) → remaining bs (popped bs fs) ≡ remaining bs fs
popped_same bs [] = refl
popped_same bs (f ∷ []) = refl
popped_same bs (f ∷ (g ∷ fs)) = popped_if bs (is_done bs f) f (g ∷ fs) (popped bs (g ∷ fs)) refl (popped_same bs (g ∷ fs))

-- of frames that are popped only the last one may be at its end
abbrev pub Trimmed : Blocks → List Frame → Type 0
Trimmed bs [] = Unit {0}
Trimmed bs (f ∷ fs) = slice_get (block_of (slice_get bs f.block)) f.next ≡ None → fs ≡ []

trimmed_if : (bs : Blocks) (b : Bool) (f : Frame) (fs gs : List Frame) → is_done bs f ≡ b → Trimmed bs gs → Trimmed bs (if b then gs else f ∷ fs)
trimmed_if bs true f fs gs h t = t
trimmed_if bs false f fs gs h t = λ p.
    let done : is_done bs f ≡ true = le-leb (length (block_of (slice_get bs f.block))) f.next (past_end (block_of (slice_get bs f.block)) f.next p) in
    absurd (cc)

pub trimmed : (bs : Blocks) (fs : List Frame) → Trimmed bs (popped bs fs)
trimmed bs [] = tt
trimmed bs (f ∷ []) = λ p. refl
trimmed bs (f ∷ (g ∷ fs)) = trimmed_if bs (is_done bs f) f (g ∷ fs) (popped bs (g ∷ fs)) refl (trimmed bs (g ∷ fs))

-- ---- the first true condition, by number and by list

abbrev pub entered_list : Blocks → Option ℕ → List Instr
entered_list bs None = []
entered_list bs (Some n) = block_of (slice_get bs n)

abbrev ArmsAt : Blocks → ℕ → List Arm → Type 0
ArmsAt bs n [] = Unit {0}
ArmsAt bs n (x ∷ xs) = (slice_get bs n ≡ Some (instrs (arm_block x))) × ArmsAt bs (n + length (blocks (arm_block x))) xs

picked_on : {A B : Type 0} (f : A → B) (o : Outcome Bool) (x : A) (r : Outcome A) (y : B) (s : Outcome B) → f x ≡ y → mapped f r ≡ s
    → mapped f (o >>= (λ b. if b then Gives x else r)) ≡ (o >>= (λ b. if b then Gives y else s))
picked_on f (Faults q) x r y s h k = refl
picked_on f (Gives true) x r y s h k = ap Gives h
picked_on f (Gives false) x r y s h k = k

numbers_picked : (bs : Blocks) (arms : List Arm) (n : ℕ) (other : Option ℕ) (js : List Instr) (env : Env) → entered_list bs other ≡ js → ArmsAt bs n arms
    → mapped (entered_list bs) (picked (numbered_arms n arms) other env) ≡ picked (map arm_list arms) js env
numbers_picked bs [] n other js env h t = ap Gives h
numbers_picked bs (x ∷ xs) n other js env h t =
    picked_on (entered_list bs) (holds (condition x) env) (Some n) (picked (numbered_arms (n + length (blocks (arm_block x))) xs) other env)
    (instrs (arm_block x)) (picked (map arm_list xs) js env) (ap block_of t.0) (numbers_picked bs xs (n + length (blocks (arm_block x))) other js env h t.1)

-- the blocks of a list stand among others from n on
abbrev pub Stand : Blocks → ℕ → Blocks → Type 0
Stand bs n xs = (o : ℕ) (is : List Instr) → slice_get xs o ≡ Some is → slice_get bs (n + o) ≡ Some is

stand_behind : (bs : Blocks) (n : ℕ) (xs ys : Blocks) → Stand bs n (xs ++ ys) → Stand bs (n + length xs) ys
stand_behind bs n xs ys h o c p = let q : n + length xs + o ≡ n + (length xs + o) = omega arith in ap (slice_get bs) q ∙ h (length xs + o) c (get_behind xs ys o ∙ p)

stand_front : (bs : Blocks) (n : ℕ) (xs ys : Blocks) → Stand bs n (xs ++ ys) → Stand bs n xs
stand_front bs n xs ys h o c p = h o c (get_front xs ys o c p)

pub stand_first : (bs : Blocks) (n : ℕ) (b : Block) → Stand bs n (blocks b) → slice_get bs n ≡ Some (instrs b)
stand_first bs n b h = let p : n ≡ n + 0 = omega arith in ap (slice_get bs) p ∙ h 0 (instrs b) (ap (λ xs. slice_get xs 0) (blocks_are b))

arms_at : (bs : Blocks) (n : ℕ) (arms : List Arm) → Stand bs n (arm_blocks arms) → ArmsAt bs n arms
arms_at bs n [] h = tt
arms_at bs n (x ∷ xs) h =
    (stand_first bs n (arm_block x) (stand_front bs n (blocks (arm_block x)) _ h), arms_at bs (n + length (blocks (arm_block x))) xs (stand_behind bs n (blocks (arm_block x)) _ h))

after_is : (n : ℕ) (arms : List Arm) → after_arms n arms ≡ n + length (arm_blocks arms)
after_is n [] = omega arith
after_is n (x ∷ xs) = let l : ℕ = length (blocks (arm_block x)) in
    let e : n + l + length (arm_blocks xs) ≡ n + length (blocks (arm_block x) ++ arm_blocks xs) = omega (arith, length-append (blocks (arm_block x)) (arm_blocks xs)) in
    after_is (n + l) xs ∙ e

other_at : (bs : Blocks) (n : ℕ) (other : Option Block) → Stand bs n (other_blocks other) → entered_list bs (other_number n other) ≡ else_list other
other_at bs n None h = refl
other_at bs n (Some b) h = ap block_of (stand_first bs n b h)

-- The branch of an `if` that is entered by number is the one that the run takes.
pub branch_entered : (bs : Blocks) (n : ℕ) (arms : List Arm) (other : Option Block) (env : Env) → Stand bs n (arm_blocks arms ++ other_blocks other)
    → mapped (entered_list bs) (picked (numbered_arms n arms) (other_number (after_arms n arms) other) env) ≡ picked (map arm_list arms) (else_list other) env
branch_entered bs n arms other env h = numbers_picked bs arms n (other_number (after_arms n arms) other) (else_list other) env
    (other_at bs (after_arms n arms) other (subst (λ m. Stand bs m (other_blocks other)) (sym (after_is n arms)) (stand_behind bs n (arm_blocks arms) (other_blocks other) h)))
    (arms_at bs n arms (stand_front bs n (arm_blocks arms) (other_blocks other) h))
