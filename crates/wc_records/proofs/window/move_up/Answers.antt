use Rattle.std.proofs.Common.{◌+◌, ◌-◌, take, drop, refl, arith}
use Rattle.wc_records.proofs.Shifts.{moved_up}
use Rattle.wc_records.proofs.window.move_up.Goals as goal

pub returns-clause-items : goal.returns-clause-items
returns-clause-items g c =
    moved_up c.args.places.now (take (c.args.begin + c.args.at + 1 - c.args.begin) (drop c.args.begin c.args.places.now)) c.rotate_right.new.self c.args.begin c.args.at
    (c.args.begin + c.args.at + 1 - c.args.begin) c.requires (omega arith) refl c.rotate_right.ensures.after
