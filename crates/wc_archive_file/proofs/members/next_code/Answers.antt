use Rattle.serde_json.specs.Data.{no_members}
use Rattle.std.specs.Prelude.{FitsSigned}
use Rattle.std.specs.Int.{w64}
use Rattle.wc_archive_file.specs.Archives.{code_data}
use Rattle.wc_archive_file.proofs.Steps.{next_none, next_read}
use Rattle.wc_archive_file.proofs.members.next_code.Goals as goal

pub returns-in-Some : goal.returns-in-Some
returns-in-Some c = next_read code_data (FitsSigned w64) c.args.key.now _ _ _ _ c.in-Some.ensures c.code_of.ensures

pub returns-in-None : goal.returns-in-None
returns-in-None c = next_none code_data (FitsSigned w64) c.args.key.now _ no_members c.in-None.ensures
