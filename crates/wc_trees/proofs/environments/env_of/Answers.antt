use Rattle.std.proofs.Common.{sym, ◌∙◌, refl}
use Rattle.wc_world.proofs.ReachedWorlds.{reached_is_consistent}
use Rattle.wc_world.proofs.RecordedEnvironments.{no_context}
use Rattle.wc_trees.proofs.environments.env_of.Goals as goal

pub returns-in-None-clause-no_process : goal.returns-in-None-clause-no_process
returns-in-None-clause-no_process c =
    let w = c.args.world.now.world in
    let lacks = no_context w c.args.pid c.in-Some.record.now (reached_is_consistent w c.graph.ensures.reached) c.in-Some.ensures (sym c.in-None.is ∙ c.in_ok-ctx.ensures) in
    ((λ _. absurd lacks), (λ _. refl))
