use Rattle.wc_archive_file.specs.Archives.{process_object}
use Rattle.wc_archive_file.specs.Reads.{IsCoded}
use Rattle.wc_archive_file.proofs.Processes.{no_coded}
use Rattle.wc_archive_file.proofs.Steps.{passed}
use Rattle.wc_archive_file.proofs.nodes.coded_in.Goals as goal

pub returns-in_err-process : goal.returns-in_err-process
returns-in_err-process c =
    passed process_object IsCoded _ c.from_residual-in_err-process.result _ c.from_residual-in_err-process.ensures (no_coded _ _ _ c.in_ok-code.ensures.0 _ c.in_err-process.ensures)
