-- What is known of each disk in memory, whatever its calls were.
use Rattle.std.specs.Prelude.{◌≡◌, ◌<◌, ◌≤◌, ◌⊎◌, ◌+◌, ◌-◌, ◌++◌, ℕ, List, [], ◌∷◌, length, take, drop, get_or, refl}
use Rattle.std.proofs.Common.{inl, inr, sym, ◌∙◌, ap, subst, arith, length-append}
use Rattle.std.proofs.lemmas.List.{length-take, get_or-take, get_or-drop, get_or_append_left, get_or-append_right, take_all}
use Rattle.wc_disk.specs.declared.calls.Call.{Call}
use Rattle.wc_disk.specs.declared.calls.Call.TheVariants.{Write, Cut, Sync}
use Rattle.wc_disk.specs.Steps.{overwritten}
use Rattle.wc_disk.specs.Volume.{Volume, settled, after_call, after_calls, IsImage}

-- a byte below the range stays
below : (at : ℕ) (bytes old : List ℕ) (p : ℕ) → p < at → p < length old → get_or (overwritten at bytes old) p 0 ≡ get_or old p 0
below at bytes old p lt within =
    let first : p < length (take at old) = omega (arith, length-take at old) in
    let both : p < length (take at old ++ bytes) = omega (arith, length-append (take at old) bytes) in
    get_or_append_left (take at old ++ bytes) (drop (at + length bytes) old) 0 p both
    ∙ get_or_append_left (take at old) bytes 0 p first ∙ get_or-take at old p 0 lt

-- and so does one behind it
behind : (at : ℕ) (bytes old : List ℕ) (p : ℕ) → at + length bytes ≤ p → p < length old → get_or (overwritten at bytes old) p 0 ≡ get_or old p 0
behind at bytes old p le within =
    let front : length (take at old ++ bytes) ≡ at + length bytes = omega (arith, length-append (take at old) bytes, length-take at old) in
    let back : at + length bytes + (p - (at + length bytes)) ≡ p = omega arith in
    get_or-append_right (take at old ++ bytes) (drop (at + length bytes) old) (at + length bytes) p 0 front le
    ∙ get_or-drop (at + length bytes) old (p - (at + length bytes)) 0 ∙ ap (λ n. get_or old n 0) back

pub spared : (at : ℕ) (bytes old : List ℕ) (p : ℕ) → (p < at) ⊎ (at + length bytes ≤ p) → p < length old → get_or (overwritten at bytes old) p 0 ≡ get_or old p 0
spared at bytes old p (inl lt) within = below at bytes old p lt within
spared at bytes old p (inr le) within = behind at bytes old p le within

-- a disk reads as an image that a crash may leave
reads_after : (c : Call) (v : Volume) → IsImage v v.seen → IsImage (after_call c v) (after_call c v).seen
reads_after (Write at bytes) v reads = record {
  least = omega arith;
  greatest = omega arith;
  stays = λ p within below_synced spares. spared at bytes v.seen p spares.0.0 spares.0.1 ∙ reads.stays p spares.0.1 below_synced spares.1;
}
reads_after (Cut len) v reads = record {
  least = omega arith;
  greatest = omega arith;
  stays = λ p within below_synced spares.
      let both : (p < len) × (p < length v.seen) = (omega (arith, length-take len v.seen, within), omega (arith, length-take len v.seen, within)) in
      get_or-take len v.seen p 0 both.0 ∙ reads.stays p both.1 below_synced spares;
}
reads_after Sync v reads = record { least = omega arith; greatest = omega arith; stays = λ p within below_synced spares. refl }

pub reads_always : (cs : List Call) (v : Volume) → IsImage v v.seen → IsImage (after_calls cs v) (after_calls cs v).seen
reads_always [] v reads = reads
reads_always (c ∷ cs) v reads = reads_always cs (after_call c v) (reads_after c v reads)

pub reads_as_image : (cs : List Call) (begun : List ℕ) → IsImage (after_calls cs (settled begun)) (after_calls cs (settled begun)).seen
reads_as_image cs begun = reads_always cs (settled begun) (record { least = omega arith; greatest = omega arith; stays = λ p within below_synced spares. refl })

-- a crash at some moment since the first t calls may have left the image
abbrev pub LeftSince : List Call → List ℕ → ℕ → List ℕ → Type 0
LeftSince calls begun t image = (k : ℕ) × (t ≤ k) × (k ≤ length calls) × IsImage (after_calls (take k calls) (settled begun)) image

pub counts_here : (calls : List Call) (begun : List ℕ) (t : ℕ) (image : List ℕ) → t ≤ length calls → IsImage (after_calls calls (settled begun)) image → LeftSince calls begun t image
counts_here calls begun t image le now =
    (length calls, le, omega arith, subst (λ (cs : List Call). IsImage (after_calls cs (settled begun)) image) (sym (take_all (length calls) calls (omega arith))) now)

pub only_here : (calls : List Call) (begun : List ℕ) (image : List ℕ) → LeftSince calls begun (length calls) image → IsImage (after_calls calls (settled begun)) image
only_here calls begun image left =
    subst (λ (cs : List Call). IsImage (after_calls cs (settled begun)) image) (take_all left.0 calls left.1) left.3
