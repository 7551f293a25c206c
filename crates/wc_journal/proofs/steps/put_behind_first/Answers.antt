use Rattle.std.proofs.Common.{◌∙◌, ap, List, ℕ}
use Rattle.wc_disk.specs.Steps.{overwritten}
use Rattle.wc_journal.proofs.Puts.{first_run, behind_first}
use Rattle.wc_journal.proofs.steps.put_behind_first.Goals as goal

pub returns-in_err-sync-clause-any_moment : goal.returns-in_err-sync-clause-any_moment
returns-in_err-sync-clause-any_moment g c =
    λ told. first_run g.D.Disk c.args.disk.now c.cut.new.self c.write_at.new.self c.sync.new.self _ _ (g.met.D.Disk.only_now c.args.disk.now) (c.requires.durable told) (c.requires.some told)
    c.cut.ensures.crash c.write_at.ensures.crash c.sync.ensures.crash c.cut.ensures.time c.write_at.ensures.time c.sync.ensures.time

pub returns-clause-any_moment : goal.returns-clause-any_moment
returns-clause-any_moment g c =
    λ told. first_run g.D.Disk c.args.disk.now c.cut.new.self c.write_at.new.self c.sync.new.self _ _ (g.met.D.Disk.only_now c.args.disk.now) (c.requires.durable told) (c.requires.some told)
    c.cut.ensures.crash c.write_at.ensures.crash c.sync.ensures.crash c.cut.ensures.time c.write_at.ensures.time c.sync.ensures.time

pub returns-clause-written : goal.returns-clause-written
returns-clause-written g c =
    λ told. c.sync.ensures.seen ∙ c.in_ok-write_at.ensures.written (c.cut.ensures.tells ∙ told)
    ∙ ap (λ (l : List ℕ). overwritten 1 c.args.bytes.now l) (c.in_ok-cut.ensures.shorter told) ∙ behind_first (g.D.Disk.seen c.args.disk.now) c.args.bytes.now
