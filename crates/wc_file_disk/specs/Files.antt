-- What a disk of the system has asked, and what was answered.
use Rattle.std.specs.Prelude.{ℕ, List}
use Rattle.wc_file_disk.specs.declared.disk.FileDisk.{FileDisk}
use Rattle.wc_file_disk.specs.Calls.{FileCall, calls_of}

-- the calls so far, the last one first
abbrev pub calls : {R : Type 0} → FileDisk R → List FileCall
calls disk = calls_of disk.file.file.log.events

-- the path of its file
abbrev pub path_of : {R : Type 0} → FileDisk R → List ℕ
path_of disk = disk.file.file.path
