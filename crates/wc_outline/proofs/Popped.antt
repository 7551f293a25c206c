-- Frames at their block's end, the innermost first.
use Rattle.std.proofs.Common.{◌≡◌, ℕ, zero, suc, ◌+◌, ◌<◌, ◌≤◌, Bool, true, false, List, [], ◌∷◌, Option, Some, None, length, get_or, take, refl, sym, ap, ◌∙◌, arith}
use Rattle.std.specs.Borrow.{Bor}
use Rattle.std.specs.Prelude.{reverse, if◌then◌else◌, option_map, slice_get}
use Rattle.std.proofs.lemmas.List.{reverse-append, reverse-reverse}
use Rattle.wc_syntax.specs.declared.outline.Instr.{Instr}
use Rattle.wc_state.specs.declared.record.Frame.{Frame}
use Rattle.wc_machine.specs.Advances.{is_done, popped}
use Rattle.wc_machine.specs.Outlines.{Blocks, block_of}
use Rattle.wc_outline.specs.Places.{behind, front_of, standing}
use Rattle.wc_outline.proofs.Gathered.{take_next}

-- the last of those taken comes first
pub last_first : {A : Type 0} (xs : List A) (n : ℕ) (x : A) → n < length xs → x ≡ get_or xs n x → reverse (take (n + 1) xs) ≡ x ∷ reverse (take n xs)
last_first xs n x h e = ap reverse (take_next xs n x h e) ∙ reverse-append (take n xs) (x ∷ [])

pub pop_one : (bs : Blocks) (f : Frame) (fs : List Frame) → is_done bs f ≡ true → 0 < length fs → popped bs (f ∷ fs) ≡ popped bs fs
pop_one bs f [] h p = absurd (omega arith)
pop_one bs f (g ∷ fs) h p = ap (λ (b : Bool). if b then popped bs (g ∷ fs) else f ∷ (g ∷ fs)) h

pub pop_none : (bs : Blocks) (f : Frame) (fs : List Frame) → is_done bs f ≡ false → popped bs (f ∷ fs) ≡ f ∷ fs
pop_none bs f [] h = refl
pop_none bs f (g ∷ fs) h = ap (λ (b : Bool). if b then popped bs (g ∷ fs) else f ∷ (g ∷ fs)) h

pub pop_few : (bs : Blocks) (fs : List Frame) → length fs ≤ 1 → popped bs fs ≡ fs
pop_few bs [] p = refl
pop_few bs (f ∷ []) p = refl
pop_few bs (f ∷ (g ∷ fs)) p = absurd (omega arith)

pub get_at : {A : Type 0} (xs : List A) (n : ℕ) (x : A) → n < length xs → x ≡ get_or xs n x → slice_get xs n ≡ Some x
get_at [] n x h e = absurd (omega arith)
get_at (y ∷ xs) zero x h e = ap Some (sym e)
get_at (y ∷ xs) (suc n) x h e = get_at xs n x (omega arith) e

-- the block behind a reference at a place
pub behind_at : {A : Type 0} (xs : List (Bor A)) (n : ℕ) (x : Bor A) → n < length xs → x ≡ get_or xs n x → slice_get (behind xs) n ≡ Some x.now
behind_at [] n x h e = absurd (omega arith)
behind_at (y ∷ xs) zero x h e = ap (λ (z : Bor _). Some z.now) (sym e)
behind_at (y ∷ xs) (suc n) x h e = behind_at xs n x (omega arith) e

past_end : {A : Type 0} (xs : List A) (n : ℕ) → length xs ≤ n → slice_get xs n ≡ None
past_end [] n h = refl
past_end (x ∷ xs) zero h = absurd (omega arith)
past_end (x ∷ xs) (suc n) h = past_end xs n (omega arith)

-- where a chain stands whose innermost frame isn't at its block's end
pub stands : (bs : Blocks) (f : Frame) (is front : List Instr) (outer : List Frame) (i : Instr) → slice_get bs f.block ≡ Some is → slice_get is f.next ≡ Some i → front ≡ take f.next is
    → Some (record { instr = i; front = front; frame = f; outer = outer }) ≡ standing bs (f ∷ reverse outer)
stands bs f is front outer i p q r =
    (λ k. option_map (λ (j : Instr). record { instr = j; front = r k; frame = f; outer = sym (reverse-reverse outer) k }) (sym q k))
    ∙ (λ k. option_map (λ (j : Instr). record { instr = j; front = take f.next (block_of (sym p k)); frame = f; outer = reverse (reverse outer) }) (slice_get (block_of (sym p k)) f.next))

-- one that is at its end stands nowhere
pub stands_none : (bs : Blocks) (f : Frame) (is : List Instr) (fs : List Frame) → slice_get bs f.block ≡ Some is → length is ≤ f.next → None ≡ standing bs (f ∷ fs)
stands_none bs f is fs p h =
    ap (λ (o : Option Instr). option_map (λ (j : Instr). record { instr = j; front = front_of bs f; frame = f; outer = reverse fs }) o)
    (sym (past_end is f.next h) ∙ ap (λ (o : Option (List Instr)). slice_get (block_of o) f.next) (sym p))
