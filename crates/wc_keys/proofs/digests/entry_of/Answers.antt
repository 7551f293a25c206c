use Rattle.std.proofs.Common.{sym, ap, ◌∙◌}
use Rattle.std.specs.Prelude.{option_and_then}
use Rattle.std.specs.Option.{option_copied}
use Rattle.wc_keys.specs.Keys.{digest_by, entry_of}
use Rattle.wc_keys.proofs.digests.entry_of.Goals as goal

pub returns-in-Some : goal.returns-in-Some
returns-in-Some c =
    let graph = c.args.graph.now in
    let libraries = c.args.libraries.now in
    c.entry_with.ensures
    ∙ ap (entry_of c.args.pid) (c.digest_of.ensures ∙ ap (option_and_then (digest_by graph.nodes graph.links libraries)) (sym (ap option_copied c.in-Some.is) ∙ c.find.ensures))

pub returns-in-None : goal.returns-in-None
returns-in-None c =
    let graph = c.args.graph.now in
    let libraries = c.args.libraries.now in
    ap (λ o. entry_of c.args.pid (option_and_then (digest_by graph.nodes graph.links libraries) o)) (sym (ap option_copied c.in-None.is) ∙ c.find.ensures)
