use Rattle.serde_json.specs.Data.{no_members}
use Rattle.std.specs.Prelude.{All}
use Rattle.wc_archive_file.specs.Archives.{IsLink, links_data}
use Rattle.wc_archive_file.proofs.Steps.{next_none, next_read}
use Rattle.wc_archive_file.proofs.file.next_links.Goals as goal

pub returns-in-Some : goal.returns-in-Some
returns-in-Some c = next_read links_data (All IsLink) _ _ _ _ _ c.in-Some.ensures c.links_in.ensures

pub returns-in-None : goal.returns-in-None
returns-in-None c = next_none links_data (All IsLink) _ _ no_members c.in-None.ensures
