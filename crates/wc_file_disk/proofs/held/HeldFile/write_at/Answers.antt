use Rattle.std.proofs.Common.{◌≡◌}
use Rattle.wc_disk.specs.Steps.{overwritten}
use Rattle.wc_file_disk.proofs.Spans.{after_kept, keeps_all}
use Rattle.wc_file_disk.proofs.held.HeldFile.write_at.Goals as goal

pub returns-clause-written : goal.returns-clause-written
returns-clause-written g c =
    after_kept _ _ _ (λ before after. after ≡ overwritten c.args.at c.args.bytes.now before)
    (keeps_all _ _ _ c.open_for.ensures.kept c.reach.ensures.kept) c.in_ok-write_all.ensures.written
