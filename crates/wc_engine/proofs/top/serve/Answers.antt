use Rattle.std.proofs.Common.{◌≡◌, Err, refl, sym, subst, ◌∙◌}
use Rattle.wc_cli.specs.Words.{command_of}
use Rattle.wc_act.specs.Aborted.{ServesAborted}
use Rattle.wc_act.specs.Counts.{CountsReply, status_of}
use Rattle.wc_act.specs.Exchanges.{exchange}
use Rattle.wc_act.specs.Outside.{ServesOutside}
use Rattle.wc_act.specs.Owed.{visit}
use Rattle.wc_plan.specs.Replies.{OwesStatus}
use Rattle.wc_act.specs.Statuses.{IsDoneOrFull}
use Rattle.wc_act.specs.Undone.{IsBeforeTurns}
use Rattle.wc_act.specs.declared.error.ReplyError.{ReplyError}
use Rattle.wc_plan.specs.declared.reply.Reply.{Reply}
use Rattle.wc_plan.specs.declared.status.Status.{Status}
use Rattle.wc_plan.specs.declared.status.Status.TheVariants as status
use Rattle.wc_act.proofs.Ending.{ends_or_breaks, ends_told}
use Rattle.wc_act.proofs.Acknowledging.{owed_ok, stands_done}
use Rattle.wc_act.proofs.Exchanged.{owed_done}
use Rattle.wc_act.proofs.Exits.{durable_same, stay_sound}
use Rattle.wc_act.proofs.Undamaged.{owed_tells, ends_whole, ends_faultless}
use Rattle.wc_act.proofs.Once.{owed_once}
use Rattle.wc_act.proofs.Replied.{owed_replied, done_owed}
use Rattle.wc_act.proofs.Unwriting.{row_undone, said_of_reply}
use Rattle.wc_engine.proofs.top.serve.Goals as goal

pub finish-requires : goal.finish-requires
finish-requires g c = owed_replied (g.R.Shelf.contents c.args.shelf.now) (visit g.D.Disk c.args.one.now c.args.two.now c.answer.new.one c.answer.new.two) c.args.words.now c.in-Ok.reply c.in-Ok.ensures.owed

pub returns-in-Ok-clause-exact : goal.returns-in-Ok-clause-exact
returns-in-Ok-clause-exact g c =
    λ of r owed.
    let P : Reply → Type 0 = λ z. OwesStatus z.status c.finish.result in
    subst P (owed_once c.worlds_are_kept.ensures.one (g.R.Shelf.contents c.args.shelf.now) (visit g.D.Disk c.args.one.now c.args.two.now c.answer.new.one c.answer.new.two) c.args.words.now c.in-Ok.reply r of c.in-Ok.ensures.owed owed) c.finish.ensures.status

pub returns-in-Ok-clause-durable : goal.returns-in-Ok-clause-durable
returns-in-Ok-clause-durable g c =
    λ needs done told told_too.
    let d = c.in-Ok.ensures.durable needs (done_owed c.in-Ok.reply.status c.finish.result c.finish.ensures.status done) told told_too in
    (d, durable_same g.D.Disk c.answer.new.one c.answer.new.two d)

pub returns-in-Ok-clause-sound : goal.returns-in-Ok-clause-sound
returns-in-Ok-clause-sound g c =
    λ told told_too entry.
    let reads = g.met.D.Disk.reads_as c.args.one.now told in
    let reads_too = g.met.D.Disk.reads_as c.args.two.now told_too in
    let owed = c.in-Ok.ensures.owed in
    let whole = owed_tells c.worlds_are_kept.ensures.one (g.R.Shelf.contents c.args.shelf.now) (command_of c.args.words.now) (visit g.D.Disk c.args.one.now c.args.two.now c.answer.new.one c.answer.new.two) owed.0 c.in-Ok.reply
    (entry (g.D.Disk.seen c.args.one.now) (g.D.Disk.seen c.args.two.now) reads reads_too) told told_too owed.1 owed.2 in
    let e = exchange g.T.Transport g.P.Pacer c.args.transport.now c.answer.new.transport c.args.pacer.now c.answer.new.pacer in
    stay_sound g.D.Disk c.worlds_are_kept.ensures.one g.met.D.Disk.only_now g.met.D.Disk.counts_now (g.R.Shelf.contents c.args.shelf.now) c.args.words.now e c.args.one.now c.args.two.now c.answer.new.one c.answer.new.two
    c.finish.result entry reads reads_too (c.answer.ensures.made told told_too) (ends_whole c.in-Ok.reply.status c.finish.result c.finish.ensures.status whole)
    (ends_faultless c.in-Ok.reply.status c.finish.result c.finish.ensures.status whole)

pub returns-in-Ok-clause-acknowledged : goal.returns-in-Ok-clause-acknowledged
returns-in-Ok-clause-acknowledged g c =
    λ needs is told told_too.
    let ok : c.in-Ok.reply.status ≡ status.Ok = owed_ok c.in-Ok.reply.status c.finish.result c.finish.ensures.status is in
    stands_done g.D.Disk c.worlds_are_kept.ensures.reached (g.R.Shelf.contents c.args.shelf.now) c.args.words.now c.args.one.now c.args.two.now c.answer.new.one c.answer.new.two (g.W.Sink.taken c.args.sink.now) (g.W.Sink.taken c.finish.new.sink)
    c.in-Ok.reply told told_too needs ok (c.finish.ensures.whole (λ fault. let both : status.Ok ≡ status.WriteFault = sym is ∙ fault in cc)).0
    (c.in-Ok.ensures.durable needs (subst IsDoneOrFull (sym ok) tt) told told_too) c.in-Ok.ensures.owed

pub returns-in-Ok-clause-undone : goal.returns-in-Ok-clause-undone
returns-in-Ok-clause-undone g c =
    λ ends.
    let f = c.finish.ensures in
    c.in-Ok.ensures.undone (λ d plans. row_undone d c.in-Ok.reply.status c.finish.result f.status f.memory f.reading f.disks (ends d plans))

pub returns-in-Ok-clause-unbegun : goal.returns-in-Ok-clause-unbegun
returns-in-Ok-clause-unbegun g c =
    λ ends.
    let f = c.finish.ensures in
    c.in-Ok.ensures.unbegun (said_of_reply IsBeforeTurns (λ never. never) c.in-Ok.reply.status c.finish.result f.status f.memory f.reading f.disks ends)

pub returns-in-Ok-clause-files : goal.returns-in-Ok-clause-files
returns-in-Ok-clause-files g c =
    λ of.
    let u = c.in-Ok.ensures.unasked of in
    (u.0, u.1, c.finish.ensures.disks)

pub returns-in-Ok-clause-early : goal.returns-in-Ok-clause-early
returns-in-Ok-clause-early g c = λ x is none. c.in-Ok.ensures.early x (sym (subst (OwesStatus c.in-Ok.reply.status) is c.finish.ensures.status)) none

pub returns-in-Ok-clause-disk_fault : goal.returns-in-Ok-clause-disk_fault
returns-in-Ok-clause-disk_fault g c = λ fault. absurd (c.finish.ensures.disks fault)

pub returns-in-Ok-clause-write_fault : goal.returns-in-Ok-clause-write_fault
returns-in-Ok-clause-write_fault g c =
    λ fault.
    let f = c.finish.ensures.fault fault in (
      f.0,
      f.1,
      c.in-Ok.reply,
      c.in-Ok.ensures.owed,
      f.2,
      λ needs done told told_too. c.in-Ok.ensures.durable needs done told told_too,
      λ ends. c.in-Ok.ensures.undone ends,
      λ ends. c.in-Ok.ensures.unbegun ends,
    )

pub returns-in-Ok-clause-outside : goal.returns-in-Ok-clause-outside
returns-in-Ok-clause-outside g c =
    λ needs done told told_too.
    let r = c.in-Ok.reply in
    let e = exchange g.T.Transport g.P.Pacer c.args.transport.now c.answer.new.transport c.args.pacer.now c.answer.new.pacer in
    let v = visit g.D.Disk c.args.one.now c.args.two.now c.answer.new.one c.answer.new.two in
    subst (λ (s : Status). ServesOutside (g.R.Shelf.contents c.args.shelf.now) c.args.words.now e v s) (owed_done r.status c.finish.result c.finish.ensures.status done)
    (c.in-Ok.ensures.outside needs (done_owed r.status c.finish.result c.finish.ensures.status done) told told_too)

pub returns-in-Ok-clause-outside_at_fault : goal.returns-in-Ok-clause-outside_at_fault
returns-in-Ok-clause-outside_at_fault g c =
    λ fault. (c.in-Ok.reply, c.in-Ok.ensures.owed, λ needs done told told_too. c.in-Ok.ensures.outside needs done told told_too)

pub returns-in-Ok-clause-enough : goal.returns-in-Ok-clause-enough
returns-in-Ok-clause-enough g c =
    λ e. ends_told (g.D.Disk.seen c.answer.new.one, g.D.Disk.seen c.answer.new.two) c.in-Ok.reply.status c.finish.result c.finish.ensures.status
    (ends_or_breaks g.D.Disk g.T.Transport g.P.Pacer c.worlds_are_kept.ensures.one c.worlds_are_kept.ensures.reached (g.R.Shelf.contents c.args.shelf.now) c.args.words.now
    c.args.one.now c.args.two.now c.answer.new.one c.answer.new.two c.args.transport.now c.answer.new.transport c.args.pacer.now c.answer.new.pacer e
    c.in-Ok.reply c.in-Ok.ensures.owed c.in-Ok.ensures.outside)

pub returns-in-Err-OutOfMemory-clause-sound : goal.returns-in-Err-OutOfMemory-clause-sound
returns-in-Err-OutOfMemory-clause-sound g c =
    λ told told_too entry.
    let e = exchange g.T.Transport g.P.Pacer c.args.transport.now c.answer.new.transport c.args.pacer.now c.answer.new.pacer in
    stay_sound g.D.Disk c.worlds_are_kept.ensures.one g.met.D.Disk.only_now g.met.D.Disk.counts_now (g.R.Shelf.contents c.args.shelf.now) c.args.words.now e c.args.one.now c.args.two.now c.answer.new.one c.answer.new.two
    status.OutOfMemory entry (g.met.D.Disk.reads_as c.args.one.now told) (g.met.D.Disk.reads_as c.args.two.now told_too) (c.answer.ensures.made told told_too) (λ disk at found is. cc) (λ f is. cc)

pub returns-in-Err-ReadFault-clause-sound : goal.returns-in-Err-ReadFault-clause-sound
returns-in-Err-ReadFault-clause-sound g c =
    λ told told_too entry.
    let e = exchange g.T.Transport g.P.Pacer c.args.transport.now c.answer.new.transport c.args.pacer.now c.answer.new.pacer in
    stay_sound g.D.Disk c.worlds_are_kept.ensures.one g.met.D.Disk.only_now g.met.D.Disk.counts_now (g.R.Shelf.contents c.args.shelf.now) c.args.words.now e c.args.one.now c.args.two.now c.answer.new.one c.answer.new.two
    status.ReadFault entry (g.met.D.Disk.reads_as c.args.one.now told) (g.met.D.Disk.reads_as c.args.two.now told_too) (c.answer.ensures.made told told_too) (λ disk at found is. cc) (λ f is. cc)

pub returns-in-Err-DiskFault-clause-sound : goal.returns-in-Err-DiskFault-clause-sound
returns-in-Err-DiskFault-clause-sound g c =
    λ told told_too entry.
    let e = exchange g.T.Transport g.P.Pacer c.args.transport.now c.answer.new.transport c.args.pacer.now c.answer.new.pacer in
    stay_sound g.D.Disk c.worlds_are_kept.ensures.one g.met.D.Disk.only_now g.met.D.Disk.counts_now (g.R.Shelf.contents c.args.shelf.now) c.args.words.now e c.args.one.now c.args.two.now c.answer.new.one c.answer.new.two
    status.DiskFault entry (g.met.D.Disk.reads_as c.args.one.now told) (g.met.D.Disk.reads_as c.args.two.now told_too) (c.answer.ensures.made told told_too) (λ disk at found is. cc) (λ f is. cc)

-- ---- memory ran out, or a disk failed

pub returns-in-Ok-clause-memory : goal.returns-in-Ok-clause-memory
returns-in-Ok-clause-memory g c = λ is. absurd (c.finish.ensures.memory is)

pub returns-in-Err-OutOfMemory-clause-memory : goal.returns-in-Err-OutOfMemory-clause-memory
returns-in-Err-OutOfMemory-clause-memory g c =
    λ is. (
      refl,
      λ told told_too.
          let e = exchange g.T.Transport g.P.Pacer c.args.transport.now c.answer.new.transport c.args.pacer.now c.answer.new.pacer in
          let P : ReplyError → Type 0 = λ x. ServesAborted g.D.Disk (g.R.Shelf.contents c.args.shelf.now) c.args.words.now e c.args.one.now c.args.two.now c.answer.new.one c.answer.new.two (status_of (Err x)) ((c.answer.new.transport ≡ c.args.transport.now) × (c.answer.new.pacer ≡ c.args.pacer.now)) in
          subst P c.in-Err-OutOfMemory.field-0-is (c.in-Err-OutOfMemory.ensures.broken told told_too),
    )

pub returns-in-Err-OutOfMemory-clause-disk_fault : goal.returns-in-Err-OutOfMemory-clause-disk_fault
returns-in-Err-OutOfMemory-clause-disk_fault g c = λ is. absurd (cc)

pub returns-in-Err-ReadFault-clause-memory : goal.returns-in-Err-ReadFault-clause-memory
returns-in-Err-ReadFault-clause-memory g c = λ is. absurd (cc)

pub returns-in-Err-ReadFault-clause-disk_fault : goal.returns-in-Err-ReadFault-clause-disk_fault
returns-in-Err-ReadFault-clause-disk_fault g c = λ is. absurd (cc)

pub returns-in-Err-DiskFault-clause-disk_fault : goal.returns-in-Err-DiskFault-clause-disk_fault
returns-in-Err-DiskFault-clause-disk_fault g c =
    let counts = subst (λ (x : ReplyError). CountsReply (Err x) (g.R.Shelf.faults c.args.shelf.now) (g.R.Shelf.faults c.answer.new.shelf) (g.D.Disk.faults c.args.one.now) (g.D.Disk.faults c.answer.new.one)
    (g.D.Disk.faults c.args.two.now) (g.D.Disk.faults c.answer.new.two) c.args.one.now c.answer.new.one c.args.two.now c.answer.new.two
    (g.R.Shelf.failed c.answer.new.shelf) (g.D.Disk.failed c.answer.new.one) (g.D.Disk.failed c.answer.new.two)) c.in-Err-DiskFault.field-0-is c.in-Err-DiskFault.ensures.counts in
    λ is. (
      counts.1,
      refl,
      λ told told_too.
          let e = exchange g.T.Transport g.P.Pacer c.args.transport.now c.answer.new.transport c.args.pacer.now c.answer.new.pacer in
          let P : ReplyError → Type 0 = λ x. ServesAborted g.D.Disk (g.R.Shelf.contents c.args.shelf.now) c.args.words.now e c.args.one.now c.args.two.now c.answer.new.one c.answer.new.two (status_of (Err x))
          ((c.answer.new.transport ≡ c.args.transport.now) × (c.answer.new.pacer ≡ c.args.pacer.now)) in
          subst P c.in-Err-DiskFault.field-0-is (c.in-Err-DiskFault.ensures.broken told told_too),
    )

pub returns-in-Err-DiskFault-clause-memory : goal.returns-in-Err-DiskFault-clause-memory
returns-in-Err-DiskFault-clause-memory g c = λ is. absurd (cc)
