use Rattle.serde_json.specs.Data.{no_members}
use Rattle.wc_archive_file.specs.Archives.{IsValue, data_object}
use Rattle.wc_archive_file.proofs.Links.{no_data}
use Rattle.wc_archive_file.proofs.Steps.{passed}
use Rattle.wc_archive_file.proofs.nodes.data_in.Goals as goal

pub returns-in_err-next_word : goal.returns-in_err-next_word
returns-in_err-next_word c = passed data_object IsValue _ c.from_residual.result _ c.from_residual.ensures (no_data _ no_members _ c.in_err-next_word.ensures)
