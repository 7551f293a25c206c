use Rattle.std.proofs.Common.{sym, ◌∙◌}
use Rattle.std.specs.Option.{option_copied}
use Rattle.wc_keys.proofs.TextDigests.{digest_told}
use Rattle.wc_keys.proofs.digests.digest_of.Goals as goal

pub returns : goal.returns
returns c =
    let graph = c.args.graph.now in
    c.digest_with.ensures ∙ sym (digest_told graph.nodes graph.links c.args.libraries.now c.args.record.now (option_copied c.text_of.result) c.text_of.ensures)
