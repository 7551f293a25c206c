-- One turn of a loop that reads or writes, and its end.
use Rattle.std.proofs.Common.{length-append, length-take-le, append_assoc, take_at, take-take, ◌≡◌, ℕ, ◌+◌, ◌≤◌, List, ◌∷◌, ◌++◌, length, take, drop, sym, ◌∙◌, ap, subst, arith, refl, take_all, append-nil}
use Rattle.std.proofs.lemmas.List.{take-append-drop}
use Rattle.std.proofs.lemmas.Slice.{take-put_mid, take-put_mid_below}
use borrow.Rule.Slice.PartMut.{put_mid}
use Rattle.wc_disk.specs.Steps.{overwritten}
use Rattle.wc_file_disk.specs.Calls.{FileCall, floor}
use Rattle.wc_file_disk.specs.Calls.FileCall.{read, wrote}
use Rattle.wc_file_disk.specs.Holds.{Between, Keeps}
use Rattle.wc_file_disk.proofs.Spans.{between_none, between_one, between_then, between_weaker, between_reaching}
use Rattle.wc_file_disk.proofs.Pieces.{overwritten_more, read_more}

-- a part of a buffer that was filled behind the first bytes
pub take_joined : (a k n : ℕ) (xs ys : List ℕ) → a ≤ length xs → n ≤ length ys → take (a + n) (put_mid a k xs ys) ≡ take a xs ++ take n ys
take_joined a k n xs ys within fits =
    sym (take-take (a + n) (a + length ys) (put_mid a k xs ys) (omega (arith, fits)))
    ∙ ap (take (a + n)) (take-put_mid a k xs ys (a + length ys) refl within ∙ ap (λ (l : List ℕ). take a xs ++ l) (sym (take-append-drop n ys)) ∙ sym (append_assoc (take a xs) (take n ys) (drop n ys)))
    ∙ take_at (take a xs ++ take n ys) (drop n ys) (a + n) (omega (arith, length-append (take a xs) (take n ys), length-take-le a xs within, length-take-le n ys fits))

pub between_same : (old mid new : List FileCall) (R : List ℕ → List ℕ → Type 0) → new ≡ mid → Between old mid R → Between old new R
between_same old mid new R same one = subst (λ (calls : List FileCall). Between old calls R) (sym same) one

-- what was read into the first bytes is what the file held
abbrev Reads : (at done : ℕ) (into : List ℕ) → List ℕ → List ℕ → Type 0
Reads at done into before after = take done into ≡ take done (drop at before)

pub read_none : (old new : List FileCall) (at : ℕ) (into : List ℕ) → Keeps old new → Between old new (λ before after. take 0 into ≡ take 0 (drop at before))
read_none old new at into kept = between_weaker old new (λ before after. after ≡ before) (Reads at 0 into) kept (λ a b is. refl)

pub read_then : (old mid new : List FileCall) (at from done n : ℕ) (into into' piece : List ℕ) → from ≡ at + done → length piece ≡ n → take (done + n) into' ≡ take done into ++ piece → new ≡ read from piece ∷ mid
    → Keeps old mid → Between old mid (λ before after. take done into ≡ take done (drop at before)) → Between old new (λ before after. take (done + n) into' ≡ take (done + n) (drop at before))
read_then old mid new at from done n into into' piece place size joined noted kept reads =
    let both : Between old mid (λ before after. (after ≡ before) × Reads at done into before after) = record { related = λ contents agrees. (kept.related contents agrees, reads.related contents agrees); grown = kept.grown } in
    let last : Between mid new (λ before after. piece ≡ take (length piece) (drop from before)) = between_one mid new (read from piece) (λ before after. piece ≡ take (length piece) (drop from before)) noted (λ a b answers. answers.0) in
    between_then old mid new (λ before after. (after ≡ before) × Reads at done into before after) (λ before after. piece ≡ take (length piece) (drop from before)) (Reads at (done + n) into') both last
    (λ a b d first next.
    let here : piece ≡ take (length piece) (drop (at + done) a) = next ∙ ap (λ (k : ℕ). take (length piece) (drop k b)) place ∙ ap (λ (l : List ℕ). take (length piece) (drop (at + done) l)) first.0 in
    joined ∙ ap (λ (l : List ℕ). l ++ piece) first.1 ∙ read_more at done n a piece size here)

-- a read that was interrupted, and may have changed the rest of the buffer
pub read_nothing : (old mid new : List FileCall) (at done k : ℕ) (into part : List ℕ) → done ≤ length into → new ≡ mid
    → Between old mid (λ before after. take done into ≡ take done (drop at before)) → Between old new (λ before after. take done (put_mid done k into part) ≡ take done (drop at before))
read_nothing old mid new at done k into part within same reads =
    between_weaker old new (Reads at done into) (Reads at done (put_mid done k into part)) (between_same old mid new (Reads at done into) same reads)
    (λ a b is. take-put_mid_below done k into part done (omega arith) within ∙ is)

pub read_whole : (old new : List FileCall) (at done n : ℕ) (into : List ℕ) → n ≤ done → length into ≡ n → done ≤ n → Between old new (λ before after. take done into ≡ take done (drop at before)) → Between old new (λ before after. into ≡ take n (drop at before))
read_whole old new at done n into most size least reads =
    let same : done ≡ n = omega (arith, most, least) in
    between_weaker old new (Reads at done into) (λ before after. into ≡ take n (drop at before)) reads
    (λ a b is. sym (take_all done into (omega (arith, most, size))) ∙ is ∙ ap (λ (k : ℕ). take k (drop at a)) same)

-- what was written of the first bytes
abbrev Writes : (at done : ℕ) (bytes : List ℕ) → List ℕ → List ℕ → Type 0
Writes at done bytes before after = at ≤ length before → after ≡ overwritten at (take done bytes) before

pub write_then : (old mid new : List FileCall) (at from done n : ℕ) (bytes : List ℕ) → from ≡ at + done → done + n ≤ length bytes → new ≡ wrote from (take n (drop done bytes)) ∷ mid
    → Between old mid (λ before after. at ≤ length before → after ≡ overwritten at (take done bytes) before) → Between old new (λ before after. at ≤ length before → after ≡ overwritten at (take (done + n) bytes) before)
write_then old mid new at from done n bytes place fits noted writes =
    let last : Between mid new (λ before after. after ≡ overwritten from (take n (drop done bytes)) before)
    = between_one mid new (wrote from (take n (drop done bytes))) (λ before after. after ≡ overwritten from (take n (drop done bytes)) before) noted (λ a b answers. answers) in
    between_then old mid new (Writes at done bytes) (λ before after. after ≡ overwritten from (take n (drop done bytes)) before) (Writes at (done + n) bytes) writes last
    (λ a b d first next within.
    next ∙ ap (λ (k : ℕ). overwritten k (take n (drop done bytes)) b) place ∙ ap (λ (l : List ℕ). overwritten (at + done) (take n (drop done bytes)) l) (first within)
    ∙ overwritten_more at done n bytes a within fits)

pub write_whole : (old new : List FileCall) (at done : ℕ) (bytes : List ℕ) → at ≤ floor old → length bytes ≤ done → Between old new (λ before after. at ≤ length before → after ≡ overwritten at (take done bytes) before)
    → Between old new (λ before after. after ≡ overwritten at bytes before)
write_whole old new at done bytes within most writes =
    between_reaching old new at (Writes at done bytes) (λ before after. after ≡ overwritten at bytes before) within writes
    (λ a b reaches is. is reaches ∙ ap (λ (l : List ℕ). overwritten at l a) (take_all done bytes most))

pub write_none : (old new : List FileCall) (at : ℕ) (bytes : List ℕ) → new ≡ old → Between old new (λ before after. at ≤ length before → after ≡ overwritten at (take 0 bytes) before)
write_none old new at bytes same =
    between_none old new (Writes at 0 bytes) same
    (λ a within. sym (ap (λ (l : List ℕ). l ++ drop (at + 0) a) (append-nil (take at a)) ∙ ap (λ (k : ℕ). take at a ++ drop k a) (omega arith) ∙ take-append-drop at a))
