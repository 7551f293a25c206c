-- Worlds and journals that are within the limits of a drill.
use Rattle.std.proofs.Common.{◌≡◌, ◌+◌, ◌≤◌, inl, inr, ℕ, length, sym, subst, ◌∙◌, arith}
use Rattle.wc_journal.specs.declared.journal.Journal.{Journal}
use Rattle.wc_world.specs.World.{World, empty}
use Rattle.wc_store.specs.Refusals.{byte_limit}
use Rattle.wc_store.specs.Stores.{IsNew}
use Rattle.wc_store.specs.declared.store.Store.{Store}
use Rattle.wc_ends.specs.Runner.Runs.{FitsIn}
use Rattle.wc_drill.specs.Drilled.{StaysOrFits, usual_limits}

-- the same world is, by a journal that ends at the same place, in the same version
fits_as : (w v : World) (before journal : Journal) → v ≡ w → journal.end ≡ before.end → journal.version ≡ before.version → FitsIn usual_limits w before
    → FitsIn usual_limits v journal
fits_as w v before journal world end version fits = (
  subst (λ (x : World). length x.nodes ≤ usual_limits.max_nodes) (sym world) fits.0,
  subst (λ (c : ℕ). journal.end + 1 ≤ byte_limit c usual_limits.max_bytes) (sym version)
      (subst (λ (e : ℕ). e + 1 ≤ byte_limit before.version usual_limits.max_bytes) (sym end) fits.1),
)

-- so is the empty world, by a first journal
pub empty_fits : (v : World) (journal : Journal) → v ≡ empty → journal.end ≡ 16 → journal.version ≡ 2 → FitsIn usual_limits v journal
empty_fits v journal is end version =
    let few : 0 ≤ 1000000 = omega arith in
    let short : 16 + 1 ≤ 268435456 = omega arith in (
      subst (λ (x : World). length x.nodes ≤ usual_limits.max_nodes) (sym is) few,
      subst (λ (c : ℕ). journal.end + 1 ≤ byte_limit c usual_limits.max_bytes) (sym version)
          (subst (λ (e : ℕ). e + 1 ≤ byte_limit 2 usual_limits.max_bytes) (sym end) short),
    )

-- what comes of a store in two parts is as it was, or within the limits
pub fits_on : (old mid : Store) (v : World) (journal : Journal) → journal.version ≡ mid.journal.version → StaysOrFits old mid.world.world mid.journal
    → StaysOrFits mid v journal → StaysOrFits old v journal
fits_on old mid v journal version (inl first) (inl next) = inl (next.0 ∙ first.0, next.1 ∙ first.1)
fits_on old mid v journal version (inr fits) (inl next) = inr (fits_as mid.world.world v mid.journal journal next.0 next.1 version fits)
fits_on old mid v journal version (inl first) (inr fits) = inr fits
fits_on old mid v journal version (inr first) (inr fits) = inr fits

-- what comes of a new store is within them
pub fits_new : (store : Store) → IsNew store → (v : World) (journal : Journal) → journal.version ≡ store.journal.version → StaysOrFits store v journal
    → FitsIn usual_limits v journal
fits_new store fresh v journal version (inl still) =
    empty_fits v journal (still.0 ∙ fresh.empty_yet) (still.1 ∙ fresh.first.end) (version ∙ fresh.first.version)
fits_new store fresh v journal version (inr fits) = fits
