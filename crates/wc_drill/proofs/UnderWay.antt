-- A drill that has submitted some of its chains.
use Rattle.std.proofs.Common.{◌≡◌, inl, ⊎_elim, ℕ, ◌+◌, ◌*◌, ◌<◌, ◌≤◌, Bool, true, List, refl, sym, subst, add-one, arith}
use Rattle.std.specs.Prelude.{IsTrue}
use Rattle.wc_disk.specs.declared.disk.Disk as disk
use Rattle.wc_value.specs.Draws.{after_draws}
use Rattle.wc_world.specs.World.{World}
use Rattle.wc_store.specs.declared.store.Store.{Store}
use Rattle.wc_store.specs.Stepped.{IsAsBefore, Stepped}
use Rattle.wc_store.specs.Stores.{StandsFor}
use Rattle.wc_store.proofs.Stepping.{not_stepped, stepped_then}
use Rattle.wc_ends.specs.Runner.declared.error.RunError.{RunError}
use Rattle.wc_ends.specs.Runner.declared.error.RunError.TheVariants.{DiskFault, Full, OutOfMemory}
use Rattle.wc_drill.specs.Draws.{first_number, second_number}
use Rattle.wc_drill.specs.Drilled.{IsSubmitted, Submitted, none, one_more}
use Rattle.wc_drill.specs.Refusals.{RefusesChains}
use Rattle.wc_drill.specs.Submissions.{RefusesChain, SubmitsOne, SubmitsSome}
use Rattle.wc_drill.proofs.Chains.{chain_by}
use Rattle.wc_drill.proofs.Fitting.{fits_on}

-- So many chains are submitted of so many, by one step from one store and its disks to others, in which no disk has failed; the generator stands behind
-- their draws.
pub record UnderWay {D : Type 0} (g : disk.Ghosts D) (seed count : ℕ) (old : Store) (one two : D) (n x : ℕ) (store : Store) (one_now two_now : D) : Type 0 where
  pub few : n ≤ count
  pub draws : x ≡ after_draws (2 * n) seed
  pub submitted : Submitted seed n old.world.world store.world.world
  pub stepped : Stepped g (SubmitsSome seed count old) true old one two store one_now two_now

-- one chain more
pub then_submitted : (seed n : ℕ) (u v w : World) → Submitted seed n u v → IsSubmitted (first_number n seed) (second_number n seed) v w → Submitted seed (n + 1) u w
then_submitted seed n u v w before more = subst (λ (k : ℕ). Submitted seed k u w) (sym (add-one n)) (one_more n u v w before more)

module _ {D : Type 0} (g : disk.Ghosts D) (seed count : ℕ) (old : Store) (one two : D) where
  pub begins : ((d : D) (image : List ℕ) → g.left_since d (g.moment d) image → g.may_leave d image) → old.live ≡ true
      → (IsTrue (g.tells one) → IsTrue (g.tells two) → StandsFor g old one two) → UnderWay g seed count old one two 0 seed old one two
  begins only_now live stands = record {
    few = omega arith;
    draws = refl;
    submitted = none old.world.world;
    stepped = not_stepped g (SubmitsSome seed count old) old one two only_now live stands ((0, omega arith, none old.world.world), inl (refl, refl));
  }

  -- a chain with the next numbers is submitted to the store, or not
  module _ (n x : ℕ) (s : Store) (one_s two_s : D) (u : UnderWay g seed count old one two n x s one_s two_s) (first second : ℕ)
      (drawn : (first ≡ first_number n seed) × (second ≡ second_number n seed)) (v : Store) (one_v two_v : D) where
    -- what is known of these numbers is known of those that are drawn
    as_drawn : (P : ℕ → ℕ → Type 0) → P first second → P (first_number n seed) (second_number n seed)
    as_drawn P h = subst (λ (b : ℕ). P (first_number n seed) b) drawn.1 (subst (λ (a : ℕ). P a second) drawn.0 h)

    -- the store with one chain more
    more_submitted : (w : World) → IsSubmitted first second s.world.world w → Submitted seed (n + 1) old.world.world w
    more_submitted w more =
        then_submitted seed n old.world.world s.world.world w u.submitted (as_drawn (λ (a b : ℕ). IsSubmitted a b s.world.world w) more)

    -- the submission, as a part of the drill's step
    pub stepped_on : (whole : Bool) → n < count → Stepped g (SubmitsOne first second s) whole s one_s two_s v one_v two_v
        → Stepped g (SubmitsSome seed count old) whole old one two v one_v two_v
    stepped_on whole less turned =
        stepped_then g (SubmitsSome seed count old) (SubmitsOne first second s) (SubmitsSome seed count old) whole old s v one two one_s two_s one_v two_v
        (λ w journal h. h.holds)
        (λ w journal h. (
          ⊎_elim (λ same. (n, u.few, subst (Submitted seed n old.world.world) (sym same) u.submitted))
              (λ more. (n + 1, omega (arith, less), more_submitted w more)) h.holds.0,
          fits_on old s w journal h.version u.stepped.comes.holds.1 h.holds.1,
        )) u.stepped turned

    pub goes_on : (y : ℕ) → n < count → y ≡ after_draws (2 * (n + 1)) seed → IsSubmitted first second s.world.world v.world.world
        → Stepped g (SubmitsOne first second s) true s one_s two_s v one_v two_v → UnderWay g seed count old one two (n + 1) y v one_v two_v
    goes_on y less next more turned =
        record { few = omega (arith, less); draws = next; submitted = more_submitted v.world.world more; stepped = stepped_on true less turned }

    -- the submission was refused, and so the store is the one before
    pub breaks : (e : RunError) → n < count → IsAsBefore s v.world.world v.journal → v.journal.version ≡ s.journal.version
        → RefusesChain first second s.journal s.world.world e → RefusesChains seed count old.world.world v e
    breaks DiskFault less same version refused = tt
    breaks (Full what most limit) less same version refused = record {
      chain = n;
      before = less;
      submitted = subst (Submitted seed n old.world.world) (sym same.0) u.submitted;
      refused = chain_by (first_number n seed) (second_number n seed) s.journal v.journal v.world.world (Full what most limit) same.1 version
          (subst (λ (w : World). RefusesChain (first_number n seed) (second_number n seed) s.journal w (Full what most limit)) (sym same.0)
          (as_drawn (λ (a b : ℕ). RefusesChain a b s.journal s.world.world (Full what most limit)) refused));
    }
    breaks OutOfMemory less same version refused = tt

  -- the store stands for its disks, where a chain more is submitted
  pub stands_there : (n x : ℕ) (s : Store) (one_s two_s : D) → UnderWay g seed count old one two n x s one_s two_s → IsTrue (g.tells one_s) → IsTrue (g.tells two_s)
      → StandsFor g s one_s two_s
  stands_there n x s one_s two_s u told told_too =
      u.stepped.call.stands refl (subst (λ (b : Bool). IsTrue b) u.stepped.call.tells_one told) (subst (λ (b : Bool). IsTrue b) u.stepped.call.tells_two told_too)
