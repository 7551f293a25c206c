-- The world after an import, written out.
use Rattle.std.specs.Prelude.{ℕ, suc, ◌+◌, List, [], ◌∷◌, ◌++◌, length, map}
use Rattle.wc_state.specs.declared.record.ProcessRecord.{ProcessRecord}
use Rattle.wc_world.specs.Applied.{made, set}
use Rattle.wc_world.specs.World.{World}
use Rattle.wc_subworlds.specs.Parts.{placed}
use Rattle.wc_archive_file.specs.declared.archive.Archive.{Archive}
use Rattle.wc_archive_file.specs.declared.archive.ArchiveNode.{ArchiveNode}
use Rattle.wc_archive_file.specs.declared.archive.ArchiveNode.TheVariants as node
use Rattle.wc_archive_file.specs.declared.archive.ArchiveProcess.{ArchiveProcess}
use Rattle.wc_archive.specs.Alone.{ended_process, new_process, raised}
use Rattle.wc_archive.specs.Good.{kind_of_node}

-- the record of a process that came with this batch: made, and ended in it
abbrev pub ended_record : (batch library pid : ℕ) → ArchiveProcess → ProcessRecord
ended_record batch library pid p = set batch (ended_process pid p) (made pid (new_process library p))

-- one for each process, where the first of these nodes has this number
abbrev pub records_from : (batch library pid : ℕ) → List ArchiveNode → List ProcessRecord
records_from batch library pid [] = []
records_from batch library pid (node.Data v ∷ ns) = records_from batch library (suc pid) ns
records_from batch library pid (node.Process p ∷ ns) = ended_record batch library pid p ∷ records_from batch library (suc pid) ns

-- the world with the archive behind its own nodes, links, records and libraries, and one batch more
abbrev pub with_archive : World → Archive → World
with_archive w a = record {
  nodes = w.nodes ++ map kind_of_node a.nodes;
  links = w.links ++ map (placed (raised (length w.nodes))) a.links;
  records = w.records ++ records_from (w.batches + 1) (suc (length w.libraries)) (suc (length w.nodes)) a.nodes;
  libraries = w.libraries ++ (a.library, []) ∷ [];
  batches = w.batches + 1;
}

-- the archive as a world of its own, written out
abbrev pub own_world : Archive → World
own_world a = record {
  nodes = map kind_of_node a.nodes;
  links = a.links;
  records = records_from 1 1 1 a.nodes;
  libraries = (a.library, []) ∷ [];
  batches = 1;
}
