use Rattle.std.proofs.Common.{◌-◌, ◌∙◌, take, ap, arith, vec_len}
use Rattle.wc_records.proofs.Shifts.{closed}
use Rattle.wc_records.proofs.window.close_up.Goals as goal

pub returns-clause-items : goal.returns-clause-items
returns-clause-items g c =
    c.truncate.ensures.items ∙ ap (take (c.len.result - c.args.begin)) c.copy_within.ensures.items
    ∙ closed c.args.places.now.items c.args.begin (c.len.result - c.args.begin) (vec_len c.args.places.now) c.requires (omega (arith, c.args.places.now.ok.0)) (omega (arith, c.args.places.now.ok.0, c.len.ensures))
