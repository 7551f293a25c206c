use Rattle.std.proofs.Common.{◌∙◌, arith, refl}
use Rattle.wc_journal.specs.Batches.{payload_of}
use Rattle.wc_journal.proofs.Adding.{adds_by, gate_inside, first_added, second_added, added_held, added_settled, first_short, second_short}
use Rattle.wc_journal.proofs.Lengths.{stays_by, stays_uncalled}
use Rattle.wc_journal.proofs.journal.Journal.append.Goals as goal

pub put-requires-clause-within : goal.put-requires-clause-within
put-requires-clause-within g c = λ told. omega (
  arith,
  gate_inside g.D.Disk c.args.disk.now c.args.self.now c.args.batch.now.snapshot (payload_of c.args.batch.now) c.bytes-bytes.result.now
      (adds_by g.D.Disk c.args.disk.now c.args.self.now c.args.batch.now.version c.args.batch.now.snapshot (payload_of c.args.batch.now) c.bytes-bytes.result.now
      (c.requires.settled told) (c.requires.kind told) c.requires.version c.bytes-bytes.ensures.fits c.bytes-bytes.ensures.value),
)

pub returns-in_err-put-clause-any_moment : goal.returns-in_err-put-clause-any_moment
returns-in_err-put-clause-any_moment g c = λ told. first_added g.D.Disk c.args.disk.now c.args.self.now c.args.batch.now.snapshot (payload_of c.args.batch.now) c.bytes-bytes.result.now
    (adds_by g.D.Disk c.args.disk.now c.args.self.now c.args.batch.now.version c.args.batch.now.snapshot (payload_of c.args.batch.now) c.bytes-bytes.result.now
    (c.requires.settled told) (c.requires.kind told) c.requires.version c.bytes-bytes.ensures.fits c.bytes-bytes.ensures.value)
    c.put.new.disk (c.put.ensures.any_moment told)

pub returns-in_err-put-2-clause-any_moment : goal.returns-in_err-put-2-clause-any_moment
returns-in_err-put-2-clause-any_moment g c = λ told. second_added g.D.Disk c.args.disk.now c.args.self.now c.args.batch.now.snapshot (payload_of c.args.batch.now) c.bytes-bytes.result.now
    (adds_by g.D.Disk c.args.disk.now c.args.self.now c.args.batch.now.version c.args.batch.now.snapshot (payload_of c.args.batch.now) c.bytes-bytes.result.now
    (c.requires.settled told) (c.requires.kind told) c.requires.version c.bytes-bytes.ensures.fits c.bytes-bytes.ensures.value)
    c.put.new.disk c.put-2.new.disk (c.in_ok-put.ensures.written told) (c.put.ensures.any_moment told) (c.put-2.ensures.any_moment (c.put.ensures.tells ∙ told))

pub returns-clause-any_moment : goal.returns-clause-any_moment
returns-clause-any_moment g c = λ told. second_added g.D.Disk c.args.disk.now c.args.self.now c.args.batch.now.snapshot (payload_of c.args.batch.now) c.bytes-bytes.result.now
    (adds_by g.D.Disk c.args.disk.now c.args.self.now c.args.batch.now.version c.args.batch.now.snapshot (payload_of c.args.batch.now) c.bytes-bytes.result.now
    (c.requires.settled told) (c.requires.kind told) c.requires.version c.bytes-bytes.ensures.fits c.bytes-bytes.ensures.value)
    c.put.new.disk c.put-2.new.disk (c.in_ok-put.ensures.written told) (c.put.ensures.any_moment told) (c.put-2.ensures.any_moment (c.put.ensures.tells ∙ told))

pub returns-clause-held : goal.returns-clause-held
returns-clause-held g c = λ told. added_held g.D.Disk c.args.disk.now c.args.self.now c.args.batch.now.snapshot (payload_of c.args.batch.now) c.bytes-bytes.result.now
    (adds_by g.D.Disk c.args.disk.now c.args.self.now c.args.batch.now.version c.args.batch.now.snapshot (payload_of c.args.batch.now) c.bytes-bytes.result.now
    (c.requires.settled told) (c.requires.kind told) c.requires.version c.bytes-bytes.ensures.fits c.bytes-bytes.ensures.value)
    c.put.new.disk c.put-2.new.disk (c.in_ok-put.ensures.written told) (c.in_ok-put-2.ensures.written (c.put.ensures.tells ∙ told))

pub returns-clause-settled : goal.returns-clause-settled
returns-clause-settled g c = λ told. added_settled g.D.Disk c.args.disk.now c.args.self.now c.args.batch.now.snapshot (payload_of c.args.batch.now) c.bytes-bytes.result.now
    (adds_by g.D.Disk c.args.disk.now c.args.self.now c.args.batch.now.version c.args.batch.now.snapshot (payload_of c.args.batch.now) c.bytes-bytes.result.now
    (c.requires.settled told) (c.requires.kind told) c.requires.version c.bytes-bytes.ensures.fits c.bytes-bytes.ensures.value)
    c.put.new.disk c.put-2.new.disk (c.in_ok-put.ensures.written told) _ refl refl refl (c.in_ok-put-2.ensures.written (c.put.ensures.tells ∙ told))
    (c.in_ok-put-2.ensures.durable (c.put.ensures.tells ∙ told))

pub returns-in-Some-clause-no_longer : goal.returns-in-Some-clause-no_longer
returns-in-Some-clause-no_longer g c = λ told. stays_uncalled g.D.Disk c.args.disk.now _ g.met.D.Disk.only_now (c.requires.settled told).durable

pub returns-in_err-put-clause-no_longer : goal.returns-in_err-put-clause-no_longer
returns-in_err-put-clause-no_longer g c = λ told. stays_by g.D.Disk c.args.disk.now c.put.new.disk _ g.met.D.Disk.reads_as g.met.D.Disk.counts_now (c.put.ensures.tells ∙ told)
    (first_short g.D.Disk c.args.disk.now c.args.self.now c.args.batch.now.snapshot (payload_of c.args.batch.now) c.bytes-bytes.result.now
    (adds_by g.D.Disk c.args.disk.now c.args.self.now c.args.batch.now.version c.args.batch.now.snapshot (payload_of c.args.batch.now) c.bytes-bytes.result.now
    (c.requires.settled told) (c.requires.kind told) c.requires.version c.bytes-bytes.ensures.fits c.bytes-bytes.ensures.value)
    c.put.new.disk (c.put.ensures.any_moment told))

pub returns-in_err-put-2-clause-no_longer : goal.returns-in_err-put-2-clause-no_longer
returns-in_err-put-2-clause-no_longer g c = λ told. stays_by g.D.Disk c.args.disk.now c.put-2.new.disk _ g.met.D.Disk.reads_as g.met.D.Disk.counts_now
    (c.put-2.ensures.tells ∙ c.put.ensures.tells ∙ told)
    (second_short g.D.Disk c.args.disk.now c.args.self.now c.args.batch.now.snapshot (payload_of c.args.batch.now) c.bytes-bytes.result.now
    (adds_by g.D.Disk c.args.disk.now c.args.self.now c.args.batch.now.version c.args.batch.now.snapshot (payload_of c.args.batch.now) c.bytes-bytes.result.now
    (c.requires.settled told) (c.requires.kind told) c.requires.version c.bytes-bytes.ensures.fits c.bytes-bytes.ensures.value)
    c.put.new.disk c.put-2.new.disk (c.in_ok-put.ensures.written told) (c.put.ensures.any_moment told) (c.put-2.ensures.any_moment (c.put.ensures.tells ∙ told)))

pub returns-clause-no_longer : goal.returns-clause-no_longer
returns-clause-no_longer g c = λ told. stays_by g.D.Disk c.args.disk.now c.put-2.new.disk _ g.met.D.Disk.reads_as g.met.D.Disk.counts_now
    (c.put-2.ensures.tells ∙ c.put.ensures.tells ∙ told)
    (second_short g.D.Disk c.args.disk.now c.args.self.now c.args.batch.now.snapshot (payload_of c.args.batch.now) c.bytes-bytes.result.now
    (adds_by g.D.Disk c.args.disk.now c.args.self.now c.args.batch.now.version c.args.batch.now.snapshot (payload_of c.args.batch.now) c.bytes-bytes.result.now
    (c.requires.settled told) (c.requires.kind told) c.requires.version c.bytes-bytes.ensures.fits c.bytes-bytes.ensures.value)
    c.put.new.disk c.put-2.new.disk (c.in_ok-put.ensures.written told) (c.put.ensures.any_moment told) (c.put-2.ensures.any_moment (c.put.ensures.tells ∙ told)))
