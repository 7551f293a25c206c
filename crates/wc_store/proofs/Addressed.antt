-- The payloads of an image end no later than its last gate.
use Rattle.std.proofs.Common.{◌≡◌, ℕ, zero, suc, ◌+◌, ◌^◌, ◌<◌, ◌≤◌, Bool, true, false, List, [], ◌∷◌, length, take, drop, Option, Some, None, Ok, Err, subst, arith}
use Rattle.std.specs.Prelude.{All, ◌==◌, if◌then◌else◌}
use Rattle.std.proofs.lemmas.List.{length-take, length-drop}
use Rattle.std.proofs.lemmas.List.Elements.{All-nil, All-cons}
use Rattle.wc_journal.specs.declared.error.Found.{Found}
use Rattle.wc_journal.specs.declared.error.Found.TheVariants.{Byte}
use Rattle.wc_journal.specs.declared.journal.Journal.{Journal}
use Rattle.wc_journal.specs.Reading.{Placed, Outcome, Held, no_journal, holds, damaged, header_misfit, generation_in, version_in, size_of, stated, wrong_kind, and_then_batch, unless_wrong, batches_from, stands_for_none, held_by, after_header, journal_of, end_from, end_of}
use Rattle.wc_journal.specs.Journals.{IsJournalOf}
use Rattle.wc_store.specs.Played.{AreCounted}

-- each payload begins behind the end of the one before
abbrev Climbs : ℕ → Placed → Type 0
Climbs at [] = Unit {0}
Climbs at (b ∷ bs) = (at ≤ b.0) × Climbs (b.0 + length b.1) bs

from_lower : (at from : ℕ) (bs : Placed) → at ≤ from → Climbs from bs → Climbs at bs
from_lower at from [] le climbs = tt
from_lower at from (b ∷ bs) le climbs = (omega (arith, climbs.0), climbs.1)

climbs_up : (at : ℕ) (bs : Placed) → Climbs at bs → at ≤ end_from at bs
climbs_up at [] climbs = omega arith
climbs_up at (b ∷ bs) climbs = omega (arith, climbs.0, climbs_up (b.0 + length b.1) bs climbs.1)

all_below : (n at : ℕ) (bs : Placed) → Climbs at bs → end_from at bs < n → All (λ b. b.0 + length b.1 < n) bs
all_below n at [] climbs lt = All-nil (λ (b : ℕ × List ℕ). b.0 + length b.1 < n)
all_below n at (b ∷ bs) climbs lt =
    All-cons (λ (c : ℕ × List ℕ). c.0 + length c.1 < n) b bs (omega (arith, climbs_up (b.0 + length b.1) bs climbs.1))
    (all_below n (b.0 + length b.1) bs climbs.1 lt)

-- ---- batches that were read
abbrev DoClimb : ℕ → Outcome → Type 0
DoClimb at (Ok bs) = Climbs at bs
DoClimb at (Err e) = Unit {0}

and_then_climbs : (at next : ℕ) (b : ℕ × List ℕ) (outcome : Outcome) → at ≤ b.0 → b.0 + length b.1 ≤ next → DoClimb next outcome → DoClimb at (and_then_batch b outcome)
and_then_climbs at next b (Ok bs) begins ends climb = (begins, from_lower (b.0 + length b.1) next bs ends climb)
and_then_climbs at next b (Err e) begins ends climb = tt

unless_climbs : (wrong : Option ℕ) (place at : ℕ) (outcome : Outcome) → DoClimb at outcome → DoClimb at (unless_wrong wrong place outcome)
unless_climbs None place at outcome climb = climb
unless_climbs (Some kind) place at outcome climb = tt

gate_climbs : (open_gate : Bool) (at : ℕ) (outcome : Outcome) → DoClimb at outcome → DoClimb at (if open_gate then outcome else Ok [])
gate_climbs true at outcome climb = climb
gate_climbs false at outcome climb = tt

batches_climb : (v g place at skip : ℕ) (bytes : List ℕ) → DoClimb (at + skip) (batches_from v g place at skip bytes)
batches_climb v g place at skip [] = tt
batches_climb v g place at (suc skip) (b ∷ bs) =
    let behind : at + 1 + skip ≡ at + suc skip = omega arith in
    subst (λ (n : ℕ). DoClimb n (batches_from v g place (at + 1) skip bs)) behind (batches_climb v g place (at + 1) skip bs)
batches_climb v g place at zero (gate ∷ bs) =
    let skip : ℕ = size_of v + stated v bs in
    let rest : Outcome = batches_from v g (place + 1) (at + 1) skip bs in
    let batch : ℕ × List ℕ = (at + 1 + size_of v, take (stated v bs) (drop (size_of v) bs)) in
    let ends : at + 1 + size_of v + length (take (stated v bs) (drop (size_of v) bs)) ≤ at + 1 + (size_of v + stated v bs)
    = omega (arith, length-take (stated v bs) (drop (size_of v) bs)) in
    gate_climbs (gate == 1) (at + 0) (unless_wrong (wrong_kind v g place bs) (at + 1) (and_then_batch batch rest))
    (unless_climbs (wrong_kind v g place bs) (at + 1) (at + 0) (and_then_batch batch rest)
    (and_then_climbs (at + 0) (at + 1 + skip) batch rest (omega arith) ends (batches_climb v g (place + 1) (at + 1) skip bs)))

-- ---- images
abbrev Ascends : Held → Type 0
Ascends no_journal = Unit {0}
Ascends (holds version generation bs) = Climbs 16 bs
Ascends (damaged at found) = Unit {0}

held_ascends : (v g : ℕ) (outcome : Outcome) → DoClimb 16 outcome → Ascends (held_by v g outcome)
held_ascends v g (Ok bs) climb = climb
held_ascends v g (Err e) climb = tt

numbered_ascends : (none : Bool) (held : Held) → Ascends held → Ascends (if none then damaged 15 (Byte 0) else held)
numbered_ascends true held ascends = tt
numbered_ascends false held ascends = ascends

after_ascends : (misfit : Option (ℕ × Found)) (image : List ℕ) → Ascends (after_header misfit image)
after_ascends (Some e) image = tt
after_ascends None image =
    let outcome : Outcome = batches_from (version_in image) (generation_in image) 0 16 0 (drop 16 image) in
    numbered_ascends (generation_in image == 0) (held_by (version_in image) (generation_in image) outcome)
    (held_ascends (version_in image) (generation_in image) outcome (batches_climb (version_in image) (generation_in image) 0 16 0 (drop 16 image)))

none_ascends : (none : Bool) (held : Held) → Ascends held → Ascends (if none then no_journal else held)
none_ascends true held ascends = tt
none_ascends false held ascends = ascends

journal_ascends : (image : List ℕ) → Ascends (journal_of image)
unfolding journal_of
journal_ascends image = none_ascends (stands_for_none image) (after_header (header_misfit image) image) (after_ascends (header_misfit image) image)

-- ---- the gate behind the batches that were read
abbrev DoesEnd : ℕ → ℕ → Outcome → Type 0
DoesEnd from n (Ok bs) = end_from from bs < n
DoesEnd from n (Err e) = Unit {0}

end_sooner : (from at n : ℕ) (bs : Placed) → from ≤ at → end_from at bs < n → end_from from bs < n
end_sooner from at n [] le lt = omega arith
end_sooner from at n (b ∷ bs) le lt = lt

and_then_ends : (from next n : ℕ) (b : ℕ × List ℕ) (outcome : Outcome) → b.0 + length b.1 ≤ next → DoesEnd next n outcome → DoesEnd from n (and_then_batch b outcome)
and_then_ends from next n b (Ok bs) le ends = end_sooner (b.0 + length b.1) next n bs le ends
and_then_ends from next n b (Err e) le ends = tt

unless_ends : (wrong : Option ℕ) (place from n : ℕ) (outcome : Outcome) → DoesEnd from n outcome → DoesEnd from n (unless_wrong wrong place outcome)
unless_ends None place from n outcome ends = ends
unless_ends (Some kind) place from n outcome ends = tt

gate_ends : (open_gate : Bool) (from n : ℕ) (outcome : Outcome) → from < n → DoesEnd from n outcome → DoesEnd from n (if open_gate then outcome else Ok [])
gate_ends true from n outcome lt ends = ends
gate_ends false from n outcome lt ends = lt

batches_end : (v g place at skip : ℕ) (bytes : List ℕ) → DoesEnd (at + skip) (at + length bytes) (batches_from v g place at skip bytes)
batches_end v g place at skip [] = tt
batches_end v g place at (suc skip) (b ∷ bs) =
    let behind : at + 1 + skip ≡ at + suc skip = omega arith in
    let long : at + 1 + length bs ≡ at + length (b ∷ bs) = omega arith in
    let outcome : Outcome = batches_from v g place (at + 1) skip bs in
    subst (λ (n : ℕ). DoesEnd (at + suc skip) n outcome) long
    (subst (λ (n : ℕ). DoesEnd n (at + 1 + length bs) outcome) behind (batches_end v g place (at + 1) skip bs))
batches_end v g place at zero (gate ∷ bs) =
    let skip : ℕ = size_of v + stated v bs in
    let rest : Outcome = batches_from v g (place + 1) (at + 1) skip bs in
    let batch : ℕ × List ℕ = (at + 1 + size_of v, take (stated v bs) (drop (size_of v) bs)) in
    let n : ℕ = at + length (gate ∷ bs) in
    let ends : at + 1 + size_of v + length (take (stated v bs) (drop (size_of v) bs)) ≤ at + 1 + (size_of v + stated v bs)
    = omega (arith, length-take (stated v bs) (drop (size_of v) bs)) in
    let long : at + 1 + length bs ≡ at + length (gate ∷ bs) = omega arith in
    let later : DoesEnd (at + 1 + skip) n rest = subst (λ (m : ℕ). DoesEnd (at + 1 + skip) m rest) long (batches_end v g (place + 1) (at + 1) skip bs) in
    gate_ends (gate == 1) (at + 0) n (unless_wrong (wrong_kind v g place bs) (at + 1) (and_then_batch batch rest)) (omega arith)
    (unless_ends (wrong_kind v g place bs) (at + 1) (at + 0) n (and_then_batch batch rest) (and_then_ends (at + 0) (at + 1 + skip) n batch rest ends later))

abbrev IsInside : ℕ → Held → Type 0
IsInside n no_journal = Unit {0}
IsInside n (holds version generation bs) = end_of bs < n
IsInside n (damaged at found) = Unit {0}

held_inside : (v g n : ℕ) (outcome : Outcome) → DoesEnd 16 n outcome → IsInside n (held_by v g outcome)
held_inside v g n (Ok bs) ends = ends
held_inside v g n (Err e) ends = tt

numbered_inside : (n : ℕ) (none : Bool) (held : Held) → IsInside n held → IsInside n (if none then damaged 15 (Byte 0) else held)
numbered_inside n true held inside = tt
numbered_inside n false held inside = inside

after_inside : (misfit : Option (ℕ × Found)) (image : List ℕ) → IsInside (16 + length (drop 16 image)) (after_header misfit image)
after_inside (Some e) image = tt
after_inside None image =
    let outcome : Outcome = batches_from (version_in image) (generation_in image) 0 16 0 (drop 16 image) in
    let n : ℕ = 16 + length (drop 16 image) in
    numbered_inside n (generation_in image == 0) (held_by (version_in image) (generation_in image) outcome)
    (held_inside (version_in image) (generation_in image) n outcome (batches_end (version_in image) (generation_in image) 0 16 0 (drop 16 image)))

none_inside : (n : ℕ) (none : Bool) (held : Held) → IsInside n held → IsInside n (if none then no_journal else held)
none_inside n true held inside = tt
none_inside n false held inside = inside

journal_inside : (image : List ℕ) → IsInside (16 + length (drop 16 image)) (journal_of image)
unfolding journal_of
journal_inside image =
    none_inside (16 + length (drop 16 image)) (stands_for_none image) (after_header (header_misfit image) image) (after_inside (header_misfit image) image)

pub addressed : (journal : Journal) (bs : Placed) (image : List ℕ) → IsJournalOf journal bs image → AreCounted image bs
addressed journal bs image stands short =
    let climbs : Climbs 16 bs = subst Ascends stands.held (journal_ascends image) in
    let inside : end_of bs < 16 + length (drop 16 image) = subst (IsInside (16 + length (drop 16 image))) stands.held (journal_inside image) in
    all_below (2 ^ 64) 16 bs climbs (omega (arith, length-drop 16 image, climbs_up 16 bs climbs, inside))
