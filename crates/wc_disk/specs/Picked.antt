-- Which of the images that a crash may leave is taken.
use Rattle.std.specs.Prelude.{◌≡◌, ℕ, List}
use Rattle.wc_disk.specs.declared.calls.Call.{Call}
use Rattle.wc_disk.specs.declared.pick.Pick.{Pick}
use Rattle.wc_disk.specs.declared.pick.Pick.TheVariants.{Old, New, Noise}
use Rattle.wc_disk.specs.Volume.{settled, after_calls}
use Rattle.wc_disk.specs.Noise.{noised, IsSinceSync}

-- The image is the picked one of a disk that held `begun`, after these calls. Noise lies over each range written
-- since the last sync, the first one first.
abbrev pub IsPicked : Pick → List ℕ → List Call → List ℕ → Type 0
IsPicked Old begun calls image = image ≡ (after_calls calls (settled begun)).synced
IsPicked New begun calls image = image ≡ (after_calls calls (settled begun)).seen
IsPicked (Noise seed) begun calls image = (rest : List Call) × IsSinceSync calls rest × (image ≡ (noised rest (seed, (after_calls calls (settled begun)).seen)).1)
