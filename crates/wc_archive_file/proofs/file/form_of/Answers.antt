use Rattle.std.proofs.Common.{ap, ◌∙◌, subst}
use Rattle.serde_json.specs.View.{members_view, view}
use Rattle.serde_json.proofs.Views.{view-Object}
use Rattle.wc_archive_file.specs.Reads.{IsForm, Reads, form_object}
use Rattle.wc_archive_file.proofs.Objects.{object_read}
use Rattle.wc_archive_file.proofs.file.form_of.Goals as goal

pub returns-in-Object : goal.returns-in-Object
returns-in-Object c =
    object_read form_object IsForm _ _ _ (ap view c.in-Object.is ∙ view-Object _) (subst (λ es. Reads form_object IsForm (members_view es) c.form_in.result) c.iter.ensures.rest c.form_in.ensures)
