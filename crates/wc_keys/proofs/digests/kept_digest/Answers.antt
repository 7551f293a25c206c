use Rattle.std.proofs.Common.{◌≡◌, Some, None, sym, ap, ◌∙◌}
use Rattle.std.specs.Prelude.{if◌then◌else◌}
use Rattle.std.specs.Option.{option_copied}
use Rattle.wc_keys.specs.Beginnings.{text_at}
use Rattle.wc_keys.specs.Keys.{is_finished_calculation}
use Rattle.wc_keys.proofs.TextDigests.{digest_told, text_is}
use Rattle.wc_keys.proofs.digests.kept_digest.Goals as goal

pub returns-clause-digest : goal.returns-clause-digest
returns-clause-digest c =
    let graph = c.args.graph.now in
    let libraries = c.args.libraries.now in
    let ran = c.args.record.now in
    let text = c.in-Some.text.now in
    let told : Some text ≡ (if is_finished_calculation ran then text_at libraries ran.library ran.definition else None) = sym (ap option_copied c.in-Some.is) ∙ c.text_of.ensures in
    let begun = c.in_ok-hasher.ensures.holds libraries c.requires (text_is graph.nodes graph.links libraries ran text told) in
    ap Some (c.in_ok-quick_digest.ensures text begun) ∙ sym (digest_told graph.nodes graph.links libraries ran (Some text) told)
