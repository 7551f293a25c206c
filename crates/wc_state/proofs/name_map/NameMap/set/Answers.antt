use Rattle.std.proofs.Common.{◌∙◌}
use Rattle.wc_state.proofs.Pairs.{with_set_is, found_at_is}
use Rattle.wc_state.proofs.name_map.NameMap.set.Goals as goal

pub returns-clause-ok : goal.returns-clause-ok
returns-clause-ok g c = rw (← c.self.view_is) (c.in_ok-insert.ensures.entries ∙ with_set_is _ c.args.key c.args.held)

pub returns-clause-before : goal.returns-clause-before
returns-clause-before g c = rw (← c.self.view_is) (c.in_ok-insert.ensures.old ∙ found_at_is _ c.args.key)
