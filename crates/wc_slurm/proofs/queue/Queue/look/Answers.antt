use Rattle.wc_slurm.proofs.Stale.{on_ok, asked_anew, not_asked, differ}
use Rattle.wc_slurm.proofs.queue.Queue.look.Goals as goal
use Rattle.wc_slurm.proofs.queue.Queue.look.Goals.{then-is_stale+in_ok-ask, else-is_stale}

pub returns-clause-others : goal.returns-clause-others
returns-clause-others g c =
    on_ok c.note.result
    (λ noted. elim c.if-is_stale.branch [
      | then-is_stale+in_ok-ask w ↦ asked_anew c.args.self.now _ _ c.note.new.self c.args.dir w.self-is w.in_ok-ask.ensures.fresh noted
      | else-is_stale w ↦ not_asked c.args.self.now _ c.note.new.self c.args.dir w.self-is (λ s. differ c.is_stale.result (c.is_stale.ensures.1 s) w.if-is_stale.false) noted
    ])
    c.note.ensures.others
