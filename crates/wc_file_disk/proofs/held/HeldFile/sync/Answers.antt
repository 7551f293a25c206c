use Rattle.std.proofs.Common.{refl}
use Rattle.wc_file_disk.specs.Calls.{calls_of}
use Rattle.wc_file_disk.specs.Calls.FileCall.{synced}
use Rattle.wc_file_disk.proofs.Spans.{keeps_either, keeps_all}
use Rattle.wc_file_disk.proofs.held.HeldFile.sync.Goals as goal

pub returns-clause-kept : goal.returns-clause-kept
returns-clause-kept g c =
    keeps_all _ _ _ c.open_once.ensures.kept
    (keeps_either c.sync.result (calls_of c.open_once.new.self.file.log.events) (calls_of c.sync.new.self.log.events) synced c.sync.ensures.noted c.sync.ensures.refused refl)
