use Rattle.std.proofs.Common.{◌≡◌, length, take, drop}
use Rattle.std.proofs.lemmas.Result.{on_ok_weaker}
use Rattle.wc_file_disk.proofs.Spans.{before_kept, keeps_all}
use Rattle.wc_file_disk.proofs.held.HeldFile.read.Goals as goal

pub returns-then-branch-clause-bytes : goal.returns-then-branch-clause-bytes
returns-then-branch-clause-bytes g c =
    on_ok_weaker c.read_all.result
    (λ is. before_kept _ _ _ (λ before. c.read_all.new.into ≡ take (length c.args.into.now) (drop c.args.at before)) c.open_once.ensures.kept is)
    c.read_all.ensures.bytes

pub returns-then-branch-clause-kept : goal.returns-then-branch-clause-kept
returns-then-branch-clause-kept g c = keeps_all _ _ _ c.open_once.ensures.kept c.read_all.ensures.kept
