use Rattle.std.proofs.Common.{◌≡◌, take}
use Rattle.serde_json.specs.View.{members_view}
use Rattle.wc_json.specs.Writing.{members_by, content_data}
use Rattle.wc_json.proofs.writing.files_data.Given as goal

abbrev pub invariant-loop-name : goal.invariant-loop-name
invariant-loop-name l = members_view l.members.entries ≡ members_by content_data (take l.name-index l.name-items)
