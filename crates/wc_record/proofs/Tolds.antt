-- Changes read one after another in a loop.
use Rattle.std.proofs.Common.{◌≡◌, ℕ, suc, ◌+◌, ◌-◌, ◌<◌, List, [], ◌∷◌, ◌++◌, Result, Ok, Err, refl, sym, subst, inl, inr, arith}
use Rattle.wc_world.specs.declared.change.Change.{Change}
use Rattle.wc_record.specs.declared.error.RecordError.{RecordError}
use Rattle.wc_record.specs.declared.error.RecordError.TheVariants as error
use Rattle.wc_record.specs.Readers.{u32}
use Rattle.wc_record.specs.Reading.{bind, one_change, changes, counted_changes, Told}

-- a refusal, from that of a step in it
pub told_on : {X Y : Type 0} (e : RecordError) (f : Result X RecordError → Type 0) (g : Result Y RecordError → Type 0) → Told (Err e) f → (f (Err e) → g (Err e)) → Told (Err e) g
told_on error.OutOfMemory f g h k = tt
told_on (error.Truncated at) f g h k = k h
told_on (error.BadTag at) f g h k = k h
told_on (error.NotUtf8 at) f g h k = k h
told_on (error.Unsorted at) f g h k = k h
told_on (error.TooDeep at) f g h k = k h
told_on (error.Trailing at) f g h k = k h
told_on (error.BadLibrary at) f g h k = k h

-- ---- several
abbrev pub Outcome : Type 0
Outcome = Result (List Change × ℕ) RecordError

pub step_of : (count i : ℕ) (front : List Change) (bytes : List ℕ) (place : ℕ) (r : Outcome) → i < count
    → bind one_change (λ c. changes (count - (i + 1)) (front ++ c ∷ [])) bytes place r → changes (count - i) front bytes place r
step_of count i front bytes place r lt h =
    let p : suc (count - (i + 1)) ≡ count - i = omega arith in
    subst (λ (k : ℕ). changes k front bytes place r) p h

-- the invariant of the loop
abbrev pub Rest : ℕ → ℕ → List Change → List ℕ → ℕ → ℕ → Type 0
Rest count i front bytes place start = (r : Outcome) → changes (count - i) front bytes place r → changes count [] bytes start r

pub rest_next : (count i : ℕ) (front : List Change) (bytes : List ℕ) (place start : ℕ) (c : Change) (next : ℕ) → i < count → Rest count i front bytes place start
    → one_change bytes place (Ok (c, next)) → Rest count (i + 1) (front ++ c ∷ []) bytes next start
rest_next count i front bytes place start c next lt rest one r h = rest r (step_of count i front bytes place r lt (inl (c, next, one, h)))

pub rest_err : (count i : ℕ) (front : List Change) (bytes : List ℕ) (place start : ℕ) (e : RecordError) → i < count → Rest count i front bytes place start
    → u32 bytes 0 ≡ Ok (count, start) → Told (Err e) (one_change bytes place) → Told (Err e) (counted_changes bytes 0)
rest_err count i front bytes place start e lt rest first h =
    told_on e (one_change bytes place) (counted_changes bytes 0) h (λ k. inl (count, start, sym first, rest (Err e) (step_of count i front bytes place (Err e) lt (inr (e, k, refl)))))
