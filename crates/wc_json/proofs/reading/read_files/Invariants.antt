use Rattle.std.proofs.Common.{◌≡◌, []}
use Rattle.serde_json.specs.View.{members_view}
use Rattle.wc_json.specs.Reading.{read_files}
use Rattle.wc_json.proofs.reading.read_files.Given as goal

abbrev pub invariant-loop-key : goal.invariant-loop-key
invariant-loop-key l = read_files [] (members_view l.members.entries) ≡ read_files l.files (members_view l.key-iterator)
