use Rattle.std.proofs.Common.{ap}
use Rattle.serde_json.specs.View.{items_of}
use Rattle.wc_archive_file.specs.Archives.{link_data}
use Rattle.wc_archive_file.proofs.Items.{all_written}
use Rattle.wc_archive_file.proofs.writing.links_json.Goals as goal

pub returns : goal.returns
returns c = all_written link_data _ _ _ _ (ap items_of c.loop-link.invariant) c.loop-link-test.false c.as_slice-link-items.ensures
