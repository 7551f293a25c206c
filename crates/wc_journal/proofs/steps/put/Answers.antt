use Rattle.wc_journal.proofs.Puts.{put_run}
use Rattle.wc_journal.proofs.steps.put.Goals as goal

pub returns-in_err-sync-clause-any_moment : goal.returns-in_err-sync-clause-any_moment
returns-in_err-sync-clause-any_moment g c =
    λ told. put_run g.D.Disk c.args.disk.now c.write_at.new.self c.sync.new.self _ _ (g.met.D.Disk.only_now c.args.disk.now) (c.requires.durable told)
    c.write_at.ensures.crash c.sync.ensures.crash c.write_at.ensures.time c.sync.ensures.time

pub returns-clause-any_moment : goal.returns-clause-any_moment
returns-clause-any_moment g c =
    λ told. put_run g.D.Disk c.args.disk.now c.write_at.new.self c.sync.new.self _ _ (g.met.D.Disk.only_now c.args.disk.now) (c.requires.durable told)
    c.write_at.ensures.crash c.sync.ensures.crash c.write_at.ensures.time c.sync.ensures.time
