use Rattle.std.proofs.Common.{◌+◌, ◌-◌, take, drop, refl, arith}
use Rattle.wc_records.proofs.Shifts.{moved_down}
use Rattle.wc_records.proofs.window.move_down.Goals as goal

pub returns-clause-items : goal.returns-clause-items
returns-clause-items g c =
    moved_down c.args.places.now (take (c.args.begin + c.args.at + 1 - c.args.begin) (drop c.args.begin c.args.places.now)) c.rotate_left.new.self c.args.begin c.args.at
    (c.args.begin + c.args.at + 1 - c.args.begin) c.args.item c.requires (omega arith) refl c.rotate_left.ensures.after
