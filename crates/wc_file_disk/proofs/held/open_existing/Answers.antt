use Rattle.std.proofs.Common.{refl, rules}
use Rattle.wc_file_disk.specs.Calls.{calls_of}
use Rattle.wc_file_disk.specs.Calls.FileCall.{opened}
use Rattle.wc_file_disk.proofs.Spans.{keeps_one, keeps_all}
use Rattle.wc_file_disk.proofs.held.open_existing.Goals as goal

pub returns-in_err-hold-clause-kept : goal.returns-in_err-hold-clause-kept
returns-in_err-hold-clause-kept g c =
    keeps_all _ _ _ (keeps_one (calls_of c.args.file.now.log.events) (calls_of c.open.new.self.log.events) opened (search rules) refl) c.hold.ensures.kept

pub returns-clause-kept : goal.returns-clause-kept
returns-clause-kept g c =
    keeps_all _ _ _ (keeps_one (calls_of c.args.file.now.log.events) (calls_of c.open.new.self.log.events) opened (search rules) refl) c.hold.ensures.kept
