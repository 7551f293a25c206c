use Rattle.serde_json.specs.Data.{no_members}
use Rattle.std.proofs.Common.{◌<◌, ◌^◌}
use Rattle.wc_archive_file.specs.Archives.{number_data}
use Rattle.wc_archive_file.proofs.Steps.{next_none, next_read}
use Rattle.wc_archive_file.proofs.members.next_u32.Goals as goal

pub returns-in-Some : goal.returns-in-Some
returns-in-Some c = next_read number_data (λ n. n < 2 ^ 32) c.args.key.now _ _ _ _ c.in-Some.ensures c.u32_of.ensures

pub returns-in-None : goal.returns-in-None
returns-in-None c = next_none number_data (λ n. n < 2 ^ 32) c.args.key.now _ no_members c.in-None.ensures
