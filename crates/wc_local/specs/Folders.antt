-- Where the jobs of a transport have their folders.
use Rattle.std.specs.Prelude.{ℕ, List}
use Rattle.wc_local.specs.declared.local.LocalTransport.{LocalTransport}

-- the path of the folder that has a folder for each job
abbrev pub jobs_folder : {R : Type 0} → LocalTransport R → List ℕ
jobs_folder transport = transport.folder
