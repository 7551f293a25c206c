use Rattle.serde_json.specs.Data.{no_members}
use Rattle.wc_archive_file.proofs.Forms.{form_done, form_more, no_archive, no_library, no_links, no_nodes}
use Rattle.wc_archive_file.specs.Reads.{IsForm, form_object}
use Rattle.wc_archive_file.proofs.Steps.{passed}
use Rattle.wc_archive_file.proofs.file.form_in.Goals as goal

pub returns-in_err-next_version : goal.returns-in_err-next_version
returns-in_err-next_version c =
    passed form_object IsForm _ c.from_residual.result _ c.from_residual.ensures
    (no_archive _ no_members _ c.in_err-next_version.ensures)

pub returns-in_err-library : goal.returns-in_err-library
returns-in_err-library c =
    passed form_object IsForm _ c.from_residual-in_err-library.result _ c.from_residual-in_err-library.ensures
    (no_library _ _ c.in_ok-next_version.ensures.0 no_members _ c.in_err-library.ensures)

pub returns-in_err-links : goal.returns-in_err-links
returns-in_err-links c =
    passed form_object IsForm _ c.from_residual-in_err-links.result _ c.from_residual-in_err-links.ensures
    (no_links _ _ c.in_ok-next_version.ensures.0 _ _ c.in_ok-library.ensures.0 no_members _ c.in_err-links.ensures)

pub returns-in_err-nodes : goal.returns-in_err-nodes
returns-in_err-nodes c =
    passed form_object IsForm _ c.from_residual-in_err-nodes.result _ c.from_residual-in_err-nodes.ensures
    (no_nodes _ _ c.in_ok-next_version.ensures.0 _ _ c.in_ok-library.ensures.0 _ _ c.in_ok-links.ensures.0 no_members _ c.in_err-nodes.ensures)

pub returns-then-is_done : goal.returns-then-is_done
returns-then-is_done c = (
  form_done _ _ c.in_ok-next_version.ensures.0 _ _ c.in_ok-library.ensures.0 _ _ c.in_ok-links.ensures.0 _ _ c.in_ok-nodes.ensures.0
      (c.is_done.ensures.0 c.if-is_done.true),
  (c.in_ok-links.ensures.1, c.in_ok-nodes.ensures.1),
)

pub returns-else-is_done : goal.returns-else-is_done
returns-else-is_done c =
    form_more _ _ c.in_ok-next_version.ensures.0 _ _ c.in_ok-library.ensures.0 _ _ c.in_ok-links.ensures.0 _ _ c.in_ok-nodes.ensures.0
    (λ e. let yes = c.is_done.ensures.1 e in let no = c.if-is_done.false in cc)
