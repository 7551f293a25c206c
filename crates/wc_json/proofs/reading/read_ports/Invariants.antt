use Rattle.std.proofs.Common.{◌≡◌, []}
use Rattle.serde_json.specs.View.{members_view}
use Rattle.wc_json.specs.Reading.{read_ports}
use Rattle.wc_json.proofs.reading.read_ports.Given as goal

abbrev pub invariant-loop-key : goal.invariant-loop-key
invariant-loop-key l = read_ports l.ports [] (members_view l.members.entries) ≡ read_ports l.ports l.fields (members_view l.key-iterator)
