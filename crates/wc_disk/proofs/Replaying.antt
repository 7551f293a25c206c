-- Calls that are done again on bytes in memory.
use Rattle.std.proofs.Common.{◌≡◌, ◌⊎◌, inl, inr, ⊎_elim, ℕ, ◌+◌, ◌<◌, ◌≤◌, List, [], ◌∷◌, ◌++◌, length, take, drop, get_or, refl, sym, ◌∙◌, ap, subst, arith, length-append, length-drop}
use Rattle.std.proofs.lemmas.List.{length-take, take_more, take-append-drop}
use Rattle.wc_disk.specs.declared.calls.Call.{Call}
use Rattle.wc_disk.specs.declared.calls.Call.TheVariants.{Write, Cut, Sync}
use Rattle.wc_disk.specs.declared.pick.Pick.{Pick}
use Rattle.wc_disk.specs.declared.pick.Pick.TheVariants.{Old, New, Noise}
use Rattle.wc_disk.specs.Picked.{IsPicked}
use Rattle.wc_disk.specs.Volume.{Volume, settled, after_call, after_calls, bytes_after, AllSpare, IsImage}
use Rattle.wc_disk.specs.Replay.{spared, reads_as_image}
use Rattle.wc_value.specs.Draws.{noise}
use Rattle.wc_disk.specs.Noise.{held, scattered, noised, HasNoSync, EndsInSync, IsSinceSync}
use Rattle.wc_value.proofs.Draws.{length-noise}
use Rattle.wc_disk.proofs.Times.{after_push}

pub seen_after : (c : Call) (v : Volume) → (after_call c v).seen ≡ bytes_after c v.seen
seen_after (Write at bytes) v = refl
seen_after (Cut len) v = refl
seen_after Sync v = refl

-- one call more was done again
pub replay_more : (calls : List Call) (begun bytes next : List ℕ) (i : ℕ) (c : Call) → i < length calls → c ≡ get_or calls i c → bytes ≡ (after_calls (take i calls) (settled begun)).seen
    → next ≡ bytes_after c bytes → next ≡ (after_calls (take (i + 1) calls) (settled begun)).seen
replay_more calls begun bytes next i c lt item before is =
    let pushed : take (i + 1) calls ≡ take i calls ++ c ∷ [] = take_more calls i c lt ∙ ap (λ (d : Call). take i calls ++ d ∷ []) (sym item) in
    is ∙ ap (bytes_after c) before ∙ sym (seen_after c (after_calls (take i calls) (settled begun)))
    ∙ sym (ap (λ (cs : List Call). (after_calls cs (settled begun)).seen) pushed ∙ ap (λ (v : Volume). v.seen) (after_push (take i calls) c (settled begun)))

-- ---- what a crash leaves
synced_after : (c : Call) (v : Volume) → IsImage v v.synced → IsImage (after_call c v) (after_call c v).synced
synced_after (Write at bytes) v is = record { least = omega (arith, is.least); greatest = omega (arith, is.greatest); stays = λ p within below spares. refl }
synced_after (Cut len) v is = record { least = omega (arith, is.least); greatest = omega (arith, is.greatest); stays = λ p within below spares. refl }
synced_after Sync v is = record { least = omega arith; greatest = omega arith; stays = λ p within below spares. refl }

synced_always : (cs : List Call) (v : Volume) → IsImage v v.synced → IsImage (after_calls cs v) (after_calls cs v).synced
synced_always [] v is = is
synced_always (c ∷ cs) v is = synced_always cs (after_call c v) (synced_after c v is)

-- the bytes of the last sync are one of the images
pub synced_is_image : (cs : List Call) (begun : List ℕ) → IsImage (after_calls cs (settled begun)) (after_calls cs (settled begun)).synced
synced_is_image cs begun = synced_always cs (settled begun) (record { least = omega arith; greatest = omega arith; stays = λ p within below spares. refl })

after_both : (cs ds : List Call) (v : Volume) → after_calls (cs ++ ds) v ≡ after_calls ds (after_calls cs v)
after_both [] ds v = refl
after_both (c ∷ cs) ds v = after_both cs ds (after_call c v)

synced_stays : (cs : List Call) (v : Volume) → HasNoSync cs → (after_calls cs v).synced ≡ v.synced
synced_stays [] v none = refl
synced_stays (Write at bytes ∷ cs) v none = synced_stays cs (after_call (Write at bytes) v) none
synced_stays (Cut len ∷ cs) v none = synced_stays cs (after_call (Cut len) v) none
synced_stays (Sync ∷ cs) v none = absurd none

settled_at : (front : List Call) (begun : List ℕ) → EndsInSync front → (after_calls front (settled begun)).synced ≡ (after_calls front (settled begun)).seen
settled_at front begun (inl empty) =
    let P : List Call → Type 0 = λ cs. (after_calls cs (settled begun)).synced ≡ (after_calls cs (settled begun)).seen in subst P (sym empty) refl
settled_at front begun (inr (before, is)) =
    let P : Volume → Type 0 = λ v. v.synced ≡ v.seen in
    subst P (sym (ap (λ (cs : List Call). after_calls cs (settled begun)) is ∙ after_push before Sync (settled begun))) refl

-- the bytes of the last sync are those that a read gave then
pub synced_then : (all rest : List Call) (begun : List ℕ) (since : IsSinceSync all rest) → (after_calls all (settled begun)).synced ≡ (after_calls since.front (settled begun)).seen
synced_then all rest begun since =
    ap (λ (v : Volume). v.synced) (ap (λ (cs : List Call). after_calls cs (settled begun)) since.split ∙ after_both since.front rest (settled begun))
    ∙ synced_stays rest (after_calls since.front (settled begun)) since.none ∙ settled_at since.front begun since.ends

spare_before : (cs : List Call) (v : Volume) (p : ℕ) → HasNoSync cs → AllSpare p (after_calls cs v).pending → AllSpare p v.pending
spare_before [] v p none spares = spares
spare_before (Write at bytes ∷ cs) v p none spares = (spare_before cs (after_call (Write at bytes) v) p none spares).1
spare_before (Cut len ∷ cs) v p none spares = spare_before cs (after_call (Cut len) v) p none spares
spare_before (Sync ∷ cs) v p none spares = absurd none

length-scattered : (at count : ℕ) (s : ℕ × List ℕ) → length (scattered at count s).1 ≡ length s.1
length-scattered at count s =
    omega (
      arith,
      length-append (take at s.1 ++ noise (held at count s.1) s.0) (drop (at + length (noise (held at count s.1) s.0)) s.1),
      length-append (take at s.1) (noise (held at count s.1) s.0),
      length-take at s.1,
      length-drop (at + length (noise (held at count s.1) s.0)) s.1,
      length-noise (held at count s.1) s.0,
    )

length-noised : (cs : List Call) (s : ℕ × List ℕ) → length (noised cs s).1 ≡ length s.1
length-noised [] s = refl
length-noised (Write at bytes ∷ cs) s = length-noised cs (scattered at (length bytes) s) ∙ length-scattered at (length bytes) s
length-noised (Cut len ∷ cs) s = length-noised cs s
length-noised (Sync ∷ cs) s = length-noised cs s

-- noise leaves the bytes that no write since the sync touched
noise_spares : (cs : List Call) (v : Volume) (s : ℕ × List ℕ) (p : ℕ) → HasNoSync cs → p < length s.1 → AllSpare p (after_calls cs v).pending → get_or (noised cs s).1 p 0 ≡ get_or s.1 p 0
noise_spares [] v s p none within spares = refl
noise_spares (Write at bytes ∷ cs) v s p none within spares =
    let apart : (p < at) ⊎ (at + length bytes ≤ p) = (spare_before cs (after_call (Write at bytes) v) p none spares).0.0 in
    let clear : (p < at) ⊎ (at + length (noise (held at (length bytes) s.1) s.0) ≤ p)
    = ⊎_elim (λ (o : p < at). inl o) (λ (o : at + length bytes ≤ p). inr (omega (arith, length-noise (held at (length bytes) s.1) s.0))) apart in
    noise_spares cs (after_call (Write at bytes) v) (scattered at (length bytes) s) p none (omega (arith, length-scattered at (length bytes) s)) spares
    ∙ spared at (noise (held at (length bytes) s.1) s.0) s.1 p clear within
noise_spares (Cut len ∷ cs) v s p none within spares = noise_spares cs (after_call (Cut len) v) s p none within spares
noise_spares (Sync ∷ cs) v s p none within spares = absurd none

-- noise over what was written since the last sync is one of the images
pub noise_is_image : (all rest : List Call) (begun : List ℕ) (seed : ℕ) (since : IsSinceSync all rest)
    → IsImage (after_calls all (settled begun)) (noised rest (seed, (after_calls all (settled begun)).seen)).1
noise_is_image all rest begun seed since =
    let v = after_calls all (settled begun) in
    let reads = reads_as_image all begun in
    let same : v ≡ after_calls rest (after_calls since.front (settled begun)) = ap (λ (cs : List Call). after_calls cs (settled begun)) since.split ∙ after_both since.front rest (settled begun) in
    record {
      least = omega (arith, length-noised rest (seed, v.seen), reads.least);
      greatest = omega (arith, length-noised rest (seed, v.seen), reads.greatest);
      stays = λ p within below spares.
          let inside : p < length v.seen = omega (arith, within, length-noised rest (seed, v.seen)) in
          noise_spares rest (after_calls since.front (settled begun)) (seed, v.seen) p since.none inside (subst (λ (u : Volume). AllSpare p u.pending) same spares) ∙ reads.stays p inside below spares;
    }

-- ---- the picked image
pub old_is_picked : (pick : Pick) (begun : List ℕ) (calls front : List Call) (n : ℕ) (image : List ℕ) → pick ≡ Old → EndsInSync (take n calls) → HasNoSync (drop n calls)
    → image ≡ (after_calls front (settled begun)).seen → front ≡ take n calls → IsPicked pick begun calls image
old_is_picked pick begun calls front n image is ends none replayed part =
    let since : IsSinceSync calls (drop n calls) = record { front = take n calls; split = sym (take-append-drop n calls); ends = ends; none = none } in
    subst (λ (p : Pick). IsPicked p begun calls image) (sym is)
    (replayed ∙ ap (λ (cs : List Call). (after_calls cs (settled begun)).seen) part ∙ sym (synced_then calls (drop n calls) begun since))

picked_is_image : (pick : Pick) (begun : List ℕ) (calls : List Call) (image : List ℕ) → IsPicked pick begun calls image → IsImage (after_calls calls (settled begun)) image
picked_is_image Old begun calls image is = subst (IsImage (after_calls calls (settled begun))) (sym is) (synced_is_image calls begun)
picked_is_image New begun calls image is = subst (IsImage (after_calls calls (settled begun))) (sym is) (reads_as_image calls begun)
picked_is_image (Noise seed) begun calls image (rest, since, is) = subst (IsImage (after_calls calls (settled begun))) (sym is) (noise_is_image calls rest begun seed since)

pub copy_is_image : (pick : Pick) (begun then_begun : List ℕ) (calls then_calls : List Call) (image copy : List ℕ) → begun ≡ then_begun → calls ≡ then_calls → copy ≡ image
    → IsPicked pick begun calls image → IsImage (after_calls then_calls (settled then_begun)) copy
copy_is_image pick begun then_begun calls then_calls image copy same also is picked =
    picked_is_image pick then_begun then_calls copy (subst (λ (b : List ℕ). IsPicked pick b then_calls copy) same
    (subst (λ (cs : List Call). IsPicked pick begun cs copy) also (subst (λ (i : List ℕ). IsPicked pick begun calls i) (sym is) picked)))
