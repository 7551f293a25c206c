use Rattle.std.proofs.Common.{◌≤◌, ◌∙◌, inl, inr, ℕ, List, length, max, ap, refl, subst, sym, Result, Ok, Err}
use Rattle.std.proofs.lemmas.Result.{err_from_is_err_and}
use Rattle.wc_journal.specs.Batches.{payload_of}
use Rattle.wc_journal.specs.Frame.{most_of}
use Rattle.wc_journal.specs.Journals.{StaysWithin}
use Rattle.wc_journal.specs.Refusals.{size_after}
use Rattle.wc_journal.proofs.Lengths.{stays_uncalled}
use Rattle.wc_record.specs.Reading.{whole}
use Rattle.wc_record.proofs.Whole.{written_is_read}
use Rattle.wc_world.specs.World.{World}
use Rattle.wc_world.specs.Applied.{applied}
use Rattle.wc_store.specs.declared.error.StoreError.{StoreError}
use Rattle.wc_store.specs.Places.{its}
use Rattle.wc_store.specs.Refusals.{byte_limit}
use Rattle.wc_store.specs.Stepped.{IsOrCommitted}
use Rattle.wc_store.proofs.Committed.{settled_there, plain_there, appended_leaves, appended_stands, committed_by, refused_stands, unprepared}
use Rattle.wc_store.proofs.Counted.{counted_as, counts_own, own_told, tells_own, unchanged, unchanged_own}
use Rattle.wc_store.proofs.Imaged.{images_more, images_same}
use Rattle.wc_store.proofs.Stepping.{commit_held}
use Rattle.wc_store.proofs.store.Store.commit.Goals as goal

pub append_at-requires : goal.append_at-requires
append_at-requires g c =
    let s = c.args.self.now in
    record {
      settled = settled_there g.D.Disk s c.args.one.now c.args.two.now c.requires.stands (g.met.D.Disk.alike c.args.one.now c.args.two.now);
      version = c.in_ok-batch.ensures.batch.version_is;
      kind = λ told. c.in_ok-batch.ensures.batch.snapshot_is ∙ sym (plain_there g.D.Disk s c.args.one.now c.args.two.now c.requires.stands (g.met.D.Disk.alike c.args.one.now c.args.two.now) told);
    }

-- ---- what is left

pub returns-in-Ok-clause-done : goal.returns-in-Ok-clause-done
returns-in-Ok-clause-done g c =
    let s = c.args.self.now in
    let appends = c.in-Ok.ensures.appends in
    committed_by s c.args.limits.now c.args.changes (payload_of c.in_ok-batch.batch) c.apply.new.self c.append_at.new.journal c.byte_limit-limit.result
    c.in_ok-batch.ensures.batch.payload (c.byte_limit-limit.ensures ∙ ap (λ (v : ℕ). byte_limit v c.args.limits.now.max_bytes) c.version-version.ensures.value)
    (c.apply.ensures.world ∙ ap (λ (w : World). applied w c.args.changes) c.prepare.ensures.same) c.in_ok-batch.ensures.nodes appends.version appends.generation appends.longer appends.fits

pub returns-in-Err-clause-same : goal.returns-in-Err-clause-same
returns-in-Err-clause-same g c = (c.prepare.ensures.same, c.in-Err.ensures.appends.kept)

pub returns-in_err-batch-clause-same : goal.returns-in_err-batch-clause-same
returns-in_err-batch-clause-same g c =
    let exit = err_from_is_err_and c.from_residual.result c.from_residual.ensures.1 in
    rw exit.1 (c.prepare.ensures.same, refl)

pub returns-in-Err-clause-untouched : goal.returns-in-Err-clause-untouched
returns-in-Err-clause-untouched g c =
    unchanged_own {T = Unit {0}} (Err c.in-Err.error) c.args.one.now c.args.two.now c.append_at.new.one c.append_at.new.two c.args.self.now.place
    c.in-Err.ensures.appends.untouched c.in-Err.ensures.untouched

pub returns-in_err-batch-clause-untouched : goal.returns-in_err-batch-clause-untouched
returns-in_err-batch-clause-untouched g c =
    (unchanged c.from_residual.result c.args.one.now c.args.one.now refl, unchanged c.from_residual.result c.args.two.now c.args.two.now refl)

-- ---- the step

pub returns-in-Ok-clause-stepped : goal.returns-in-Ok-clause-stepped
returns-in-Ok-clause-stepped g c =
    let s = c.args.self.now in
    let one = c.args.one.now in
    let two = c.args.two.now in
    let appends = c.in-Ok.ensures.appends in
    let batch = c.in_ok-batch.ensures.batch in
    let p = payload_of c.in_ok-batch.batch in
    let is = c.apply.ensures.world ∙ ap (λ (w : World). applied w c.args.changes) c.prepare.ensures.same in
    let limit = c.byte_limit-limit.ensures ∙ ap (λ (v : ℕ). byte_limit v c.args.limits.now.max_bytes) c.version-version.ensures.value in
    let fits : length p ≤ most_of s.journal.version = subst (λ (v : ℕ). length p ≤ most_of v) batch.version_is c.in_ok-batch.batch.is_small in
    let tells = tells_own g.D.Disk one two c.append_at.new.one c.append_at.new.two s.place appends.tells c.in-Ok.ensures.untouched in
    record {
      call = record {
        live = c.requires.live;
        stands = λ whole told told_too.
            appended_stands g.D.Disk s one two c.requires.stands told told_too c.args.changes p c.byte_limit-limit.result
            c.append_at.new.journal c.append_at.new.one c.append_at.new.two {T = Unit {0}} (Ok tt) batch.payload batch.written c.requires.plain
            c.requires.accepted appends c.in-Ok.ensures.untouched c.apply.new.self s.live is appends.settled appends.held;
        tells_one = tells.0;
        tells_two = tells.1;
        counts = counts_own {T = Unit {0}} g.D.Disk (Ok tt) one two c.append_at.new.one c.append_at.new.two s.place appends.cause c.in-Ok.ensures.untouched;
      };
      place = refl;
      comes = record { holds = inr (returns-in-Ok-clause-done g c); version = appends.version; generation = appends.generation };
      images = images_more s c.args.changes p c.apply.new.self c.append_at.new.journal s.live
          (subst (λ (q : List ℕ). whole q (Ok c.args.changes)) (sym batch.payload) (written_is_read c.args.changes batch.written)) c.requires.plain c.requires.accepted fits
          is appends.version appends.generation appends.longer;
      moments = λ told told_too.
          commit_held g.D.Disk s c.args.limits.now c.args.changes one two c.append_at.new.one c.append_at.new.two c.in_ok-batch.ensures.nodes
          (appended_leaves g.D.Disk s one two c.requires.stands told told_too c.args.changes p c.byte_limit-limit.result
          c.append_at.new.journal c.append_at.new.one c.append_at.new.two {T = Unit {0}} (Ok tt) batch.payload batch.written c.requires.plain
          c.requires.accepted appends c.in-Ok.ensures.untouched c.args.limits.now limit g.met.D.Disk.only_now);
    }

pub returns-in-Err-clause-stepped : goal.returns-in-Err-clause-stepped
returns-in-Err-clause-stepped g c =
    let s = c.args.self.now in
    let one = c.args.one.now in
    let two = c.args.two.now in
    let appends = c.in-Err.ensures.appends in
    let batch = c.in_ok-batch.ensures.batch in
    let p = payload_of c.in_ok-batch.batch in
    let limit = c.byte_limit-limit.ensures ∙ ap (λ (v : ℕ). byte_limit v c.args.limits.now.max_bytes) c.version-version.ensures.value in
    let failed : Result (Unit {0}) StoreError = Err c.in-Err.error in
    let tells = tells_own g.D.Disk one two c.append_at.new.one c.append_at.new.two s.place appends.tells c.in-Err.ensures.untouched in
    let counts = counts_own g.D.Disk failed one two c.append_at.new.one c.append_at.new.two s.place appends.cause c.in-Err.ensures.untouched in
    record {
      call = record {
        live = c.is_live_after-self.ensures;
        stands = λ whole told told_too.
            refused_stands g.D.Disk s one two c.requires.stands told told_too (Unit {0}) c.in-Err.error p c.byte_limit-limit.result
            c.append_at.new.journal c.append_at.new.one c.append_at.new.two c.prepare.new.world c.is_live_after-self.result appends c.in-Err.ensures.untouched
            c.prepare.ensures.same whole;
        tells_one = tells.0;
        tells_two = tells.1;
        counts = counted_as failed (g.D.Disk.faults one) (g.D.Disk.faults c.append_at.new.one) (g.D.Disk.faults two) (g.D.Disk.faults c.append_at.new.two)
            (g.D.Disk.failed c.append_at.new.one) (g.D.Disk.failed c.append_at.new.two) counts;
      };
      place = refl;
      comes = record { holds = inl (c.prepare.ensures.same, appends.kept); version = appends.version; generation = appends.generation };
      images = images_same s c.prepare.new.world c.append_at.new.journal c.is_live_after-self.result c.prepare.ensures.same appends.version appends.generation appends.kept;
      moments = λ told told_too.
          commit_held g.D.Disk s c.args.limits.now c.args.changes one two c.append_at.new.one c.append_at.new.two c.in_ok-batch.ensures.nodes
          (appended_leaves g.D.Disk s one two c.requires.stands told told_too c.args.changes p c.byte_limit-limit.result
          c.append_at.new.journal c.append_at.new.one c.append_at.new.two failed batch.payload batch.written c.requires.plain
          c.requires.accepted appends c.in-Err.ensures.untouched c.args.limits.now limit g.met.D.Disk.only_now);
    }

pub returns-in_err-batch-clause-stepped : goal.returns-in_err-batch-clause-stepped
returns-in_err-batch-clause-stepped g c =
    let exit = err_from_is_err_and c.from_residual.result c.from_residual.ensures.1 in
    rw (exit.1, exit.2) (unprepared g.D.Disk (IsOrCommitted c.args.limits.now c.args.changes c.args.self.now) c.args.self.now c.prepare.new.world c.args.one.now c.args.two.now g.met.D.Disk.only_now
    c.requires.live c.requires.stands c.prepare.ensures.same (inl (refl, refl)) (inl (c.prepare.ensures.same, refl))
    c.args.self.now.journal c.args.limits.now c.args.self.now.world.world c.args.changes _ c.in_err-batch.ensures.refused)

-- ---- how long the file gets

pub returns-in-Ok-clause-no_longer : goal.returns-in-Ok-clause-no_longer
returns-in-Ok-clause-no_longer g c = λ told told_too.
    let s = c.args.self.now in
    let old = its s.place c.args.one.now c.args.two.now in
    subst (λ (p : List ℕ). StaysWithin g.D.Disk (max (length (g.D.Disk.seen old)) (size_after s.journal.end s.journal.version p)) old (its s.place c.append_at.new.one c.append_at.new.two))
    c.in_ok-batch.ensures.batch.payload (c.in-Ok.ensures.appends.no_longer (own_told g.D.Disk c.args.one.now c.args.two.now s.place told told_too))

pub returns-in-Err-clause-no_longer : goal.returns-in-Err-clause-no_longer
returns-in-Err-clause-no_longer g c = λ told told_too.
    let s = c.args.self.now in
    let old = its s.place c.args.one.now c.args.two.now in
    subst (λ (p : List ℕ). StaysWithin g.D.Disk (max (length (g.D.Disk.seen old)) (size_after s.journal.end s.journal.version p)) old (its s.place c.append_at.new.one c.append_at.new.two))
    c.in_ok-batch.ensures.batch.payload (c.in-Err.ensures.appends.no_longer (own_told g.D.Disk c.args.one.now c.args.two.now s.place told told_too))

pub returns-in_err-batch-clause-no_longer : goal.returns-in_err-batch-clause-no_longer
returns-in_err-batch-clause-no_longer g c = λ told told_too.
    stays_uncalled g.D.Disk (its c.args.self.now.place c.args.one.now c.args.two.now) _ g.met.D.Disk.only_now (c.requires.stands told told_too).settled.durable
