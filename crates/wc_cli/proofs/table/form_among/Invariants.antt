use Rattle.std.proofs.Common.{◌≡◌, drop, map}
use Rattle.wc_cli.specs.Table.{entry_of, form_among}
use Rattle.wc_cli.proofs.table.form_among.Given as goal

abbrev pub invariant-loop-entry : goal.invariant-loop-entry
invariant-loop-entry l = form_among l.word (map entry_of (drop l.entry-index l.entries)) ≡ form_among l.word (map entry_of l.entries)
