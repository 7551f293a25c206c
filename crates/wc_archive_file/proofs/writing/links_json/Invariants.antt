use Rattle.std.proofs.Common.{◌≡◌, map, take}
use Rattle.serde_json.specs.View.{view}
use Rattle.wc_archive_file.specs.Archives.{link_data}
use Rattle.wc_archive_file.proofs.writing.links_json.Given as goal

abbrev pub invariant-loop-link : goal.invariant-loop-link
invariant-loop-link l = map view l.items.items ≡ map link_data (take l.link-index l.link-items)
