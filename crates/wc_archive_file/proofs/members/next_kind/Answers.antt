use Rattle.serde_json.specs.Data.{no_members}
use Rattle.wc_archive_file.specs.Archives.{kind_data}
use Rattle.wc_archive_file.specs.Reads.{IsAny}
use Rattle.wc_archive_file.proofs.Steps.{next_none, next_read}
use Rattle.wc_archive_file.proofs.members.next_kind.Goals as goal

pub returns-in-Some : goal.returns-in-Some
returns-in-Some c = next_read kind_data IsAny c.args.key.now _ _ _ _ c.in-Some.ensures c.process_kind_of.ensures

pub returns-in-None : goal.returns-in-None
returns-in-None c = next_none kind_data IsAny c.args.key.now _ no_members c.in-None.ensures
