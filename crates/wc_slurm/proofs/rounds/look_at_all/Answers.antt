use Rattle.std.proofs.Common.{refl, arith}
use Rattle.std.proofs.lemmas.Grind.{common_steps}
use Rattle.wc_slurm.proofs.Stale.{next_look}
use Rattle.wc_slurm.proofs.rounds.look_at_all.Goals as goal

pub loop-dir-preserved : goal.loop-dir-preserved
loop-dir-preserved g c =
    next_look c.args.dirs.now c.loop-dir.dir-index _ c.loop-dir.queue c.look.new.self _ _ _ c.requires c.loop-dir-test.true refl c.look.ensures.once c.look.ensures.never c.in_ok-look.ensures.others c.loop-dir.invariant

pub returns : goal.returns
returns c = grind (arith, common_steps)

pub returns-in_err-look : goal.returns-in_err-look
returns-in_err-look c = grind (arith, common_steps)
