use Rattle.std.proofs.Common.{ℕ, ◌+◌, ◌^◌, ◌<◌, ◌≤◌, ◌++◌, List, [], ◌∷◌, arith, length, refl, ap, sym, subst, ◌∙◌, Ok, Err}
use Rattle.std.proofs.lemmas.Result.{err_from_is_err_and}
use Rattle.wc_journal.specs.declared.journal.Journal.{Journal}
use Rattle.wc_journal.specs.Batches.{payload_of}
use Rattle.wc_journal.specs.Frame.{most_of}
use Rattle.wc_journal.specs.Reading.{holds}
use Rattle.wc_journal.specs.Spelled as journal
use Rattle.wc_record.specs.Reading.{whole}
use Rattle.wc_record.proofs.Whole.{written_is_read}
use Rattle.wc_world.specs.Snapshot.{snapshot}
use Rattle.wc_store.specs.declared.place.Place.{Place}
use Rattle.wc_store.specs.Writes.{Replaces}
use Rattle.wc_store.specs.Prepared.{HasGeneration}
use Rattle.wc_store.specs.Stores.{other, StandsFor, PacksTo}
use Rattle.wc_store.proofs.Committed.{replaced_leaves, replaced_none, replaced_stands, unpacked}
use Rattle.wc_store.proofs.Counted.{counted_as, counts_other, other_told, tells_other, unchanged, unchanged_other}
use Rattle.wc_store.proofs.Imaged.{images_packed}
use Rattle.wc_store.proofs.store.Store.pack.Goals as goal

pub returns-in-Ok-clause-call : goal.returns-in-Ok-clause-call
returns-in-Ok-clause-call g c =
    let s = c.args.self.now in
    let one = c.args.one.now in
    let two = c.args.two.now in
    let one_new = c.replace_beside.new.one in
    let two_new = c.replace_beside.new.two in
    let batch = c.in_ok-batch.ensures.batch in
    let p = payload_of c.in_ok-batch.batch in
    let j = c.in-Ok.journal in
    let replaces = subst (λ (m : ℕ). Replaces g.D.Disk (m + 1) p (other s.place one two) (other s.place one_new two_new) (Ok j)) c.generation-generation.ensures.value c.in-Ok.ensures.replaces in
    let tells = tells_other g.D.Disk one two one_new two_new s.place replaces.tells c.in-Ok.ensures.untouched in
    record {
      live = c.requires.live;
      stands = λ whole told told_too.
          subst (λ (q : Place). StandsFor g.D.Disk (record { world = s.world; journal = j; place = q; live = s.live }) one_new two_new) (sym c.other-self.ensures)
          (replaced_stands g.D.Disk s one two c.requires.stands told told_too p one_new two_new (Ok j) batch.payload batch.written c.in_ok-batch.ensures.reached (subst (λ (m : ℕ). HasGeneration m s.world.world) c.generation-generation.ensures.value c.in_ok-batch.ensures.fits) replaces
          c.in-Ok.ensures.untouched s.world j s.live refl replaces.version replaces.generation replaces.settled replaces.held);
      tells_one = tells.0;
      tells_two = tells.1;
      counts = counts_other {T = Journal} g.D.Disk (Ok j) one two one_new two_new s.place replaces.cause c.in-Ok.ensures.untouched;
    }

pub returns-clause-call : goal.returns-clause-call
returns-clause-call g c =
    let s = c.args.self.now in
    let one = c.args.one.now in
    let two = c.args.two.now in
    let one_new = c.replace_beside.new.one in
    let two_new = c.replace_beside.new.two in
    let e = c.in-Err.error in
    let replaces = c.in-Err.ensures.replaces in
    let tells = tells_other g.D.Disk one two one_new two_new s.place replaces.tells c.in-Err.ensures.untouched in
    let counts = counts_other {T = Journal} g.D.Disk (Err e) one two one_new two_new s.place replaces.cause c.in-Err.ensures.untouched in
    record {
      live = c.is_live_after-self.ensures;
      stands = λ whole told told_too.
          replaced_none g.D.Disk s one two one_new two_new e c.is_live_after-self.result replaces.untouched c.in-Err.ensures.untouched whole (c.requires.stands told told_too);
      tells_one = tells.0;
      tells_two = tells.1;
      counts = counted_as {T = Journal} (Err e) (g.D.Disk.faults one) (g.D.Disk.faults one_new) (g.D.Disk.faults two) (g.D.Disk.faults two_new)
          (g.D.Disk.failed one_new) (g.D.Disk.failed two_new) counts;
    }

pub returns-in_err-batch-clause-call : goal.returns-in_err-batch-clause-call
returns-in_err-batch-clause-call g c =
    let exit = err_from_is_err_and c.from_residual.result c.from_residual.ensures.1 in
    rw (exit.1, exit.2) (unpacked g.D.Disk c.args.self.now c.args.one.now c.args.two.now c.requires.live c.requires.stands c.generation-generation.result
    c.args.self.now.world.world _ c.in_err-batch.ensures.refused)

pub returns-in-Ok-clause-packed : goal.returns-in-Ok-clause-packed
returns-in-Ok-clause-packed g c =
    let s = c.args.self.now in
    let batch = c.in_ok-batch.ensures.batch in
    let p = payload_of c.in_ok-batch.batch in
    let j = c.in-Ok.journal in
    let number = c.generation-generation.ensures.value in
    let replaces = subst (λ (m : ℕ). Replaces g.D.Disk (m + 1) p (other s.place c.args.one.now c.args.two.now) (other s.place c.replace_beside.new.one c.replace_beside.new.two) (Ok j)) number c.in-Ok.ensures.replaces in
    let few : s.journal.generation + 1 < 2 ^ 64 = omega (arith, c.in_ok-batch.ensures.fits.few, number) in
    let fits : length p ≤ most_of 2 = subst (λ (v : ℕ). length p ≤ most_of v) batch.version_is c.in_ok-batch.batch.is_small in
    record {
      next = ap (λ (m : ℕ). m + 1) number;
      is = c.in-Ok.ensures.replaces.generation;
      version = replaces.version;
      place = c.other-self.ensures;
      room = subst (λ (m : ℕ). HasGeneration m s.world.world) number c.in_ok-batch.ensures.fits;
      images = subst (λ (q : Place). PacksTo s (record { world = s.world; journal = j; place = q; live = s.live })) (sym c.other-self.ensures)
          (images_packed s p s.world j s.live batch.payload (subst (λ (q : List ℕ). whole q (Ok (snapshot s.world.world))) (sym batch.payload) (written_is_read (snapshot s.world.world) batch.written))
          c.in_ok-batch.ensures.reached fits few refl replaces.version replaces.generation replaces.end);
    }

pub returns-in-Ok-clause-written : goal.returns-in-Ok-clause-written
returns-in-Ok-clause-written g c =
    λ told told_too.
    let s = c.args.self.now in
    let p = payload_of c.in_ok-batch.batch in
    let j = c.in-Ok.journal in
    let n = s.journal.generation + 1 in
    let payload = c.in_ok-batch.ensures.batch.payload in
    let replaces = subst (λ (m : ℕ). Replaces g.D.Disk (m + 1) p (other s.place c.args.one.now c.args.two.now) (other s.place c.replace_beside.new.one c.replace_beside.new.two) (Ok j)) c.generation-generation.ensures.value c.in-Ok.ensures.replaces in
    let there = other_told g.D.Disk c.args.one.now c.args.two.now s.place told told_too in (
      replaces.held there ∙ ap (λ (q : List ℕ). holds 2 n ((26, q) ∷ [])) payload,
      replaces.written there ∙ ap (λ (q : List ℕ). journal.spelled 2 n (q ∷ []) ++ 0 ∷ []) payload,
    )

pub returns-clause-untouched : goal.returns-clause-untouched
returns-clause-untouched g c =
    unchanged_other ℕ Journal c.in-Err.error c.args.one.now c.args.two.now c.replace_beside.new.one c.replace_beside.new.two c.args.self.now.place
    c.in-Err.ensures.replaces.untouched c.in-Err.ensures.untouched

pub returns-in_err-batch-clause-untouched : goal.returns-in_err-batch-clause-untouched
returns-in_err-batch-clause-untouched g c =
    (unchanged c.from_residual.result c.args.one.now c.args.one.now refl, unchanged c.from_residual.result c.args.two.now c.args.two.now refl)

pub returns-in-Ok-clause-moments : goal.returns-in-Ok-clause-moments
returns-in-Ok-clause-moments g c =
    λ told told_too.
    let s = c.args.self.now in
    let one = c.args.one.now in
    let two = c.args.two.now in
    let one_new = c.replace_beside.new.one in
    let two_new = c.replace_beside.new.two in
    let batch = c.in_ok-batch.ensures.batch in
    let p = payload_of c.in_ok-batch.batch in
    let j = c.in-Ok.journal in
    let replaces = subst (λ (m : ℕ). Replaces g.D.Disk (m + 1) p (other s.place one two) (other s.place one_new two_new) (Ok j)) c.generation-generation.ensures.value c.in-Ok.ensures.replaces in
    replaced_leaves g.D.Disk s one two c.requires.stands told told_too p one_new two_new (Ok j) batch.payload batch.written c.in_ok-batch.ensures.reached (subst (λ (m : ℕ). HasGeneration m s.world.world) c.generation-generation.ensures.value c.in_ok-batch.ensures.fits) replaces
    c.in-Ok.ensures.untouched

pub returns-clause-moments : goal.returns-clause-moments
returns-clause-moments g c =
    λ told told_too.
    let s = c.args.self.now in
    let one = c.args.one.now in
    let two = c.args.two.now in
    let one_new = c.replace_beside.new.one in
    let two_new = c.replace_beside.new.two in
    let batch = c.in_ok-batch.ensures.batch in
    let p = payload_of c.in_ok-batch.batch in
    let e = c.in-Err.error in
    let replaces = subst (λ (m : ℕ). Replaces g.D.Disk (m + 1) p (other s.place one two) (other s.place one_new two_new) (Err e)) c.generation-generation.ensures.value c.in-Err.ensures.replaces in
    replaced_leaves g.D.Disk s one two c.requires.stands told told_too p one_new two_new (Err e) batch.payload batch.written c.in_ok-batch.ensures.reached (subst (λ (m : ℕ). HasGeneration m s.world.world) c.generation-generation.ensures.value c.in_ok-batch.ensures.fits) replaces
    c.in-Err.ensures.untouched
