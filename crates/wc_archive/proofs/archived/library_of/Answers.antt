use Rattle.std.proofs.Common.{◌≡◌, List, ℕ, sym, ap, ◌∙◌}
use Rattle.std.specs.Prelude.{None, Some}
use Rattle.std.specs.Option.{option_copied}
use Rattle.std.proofs.lemmas.Result.{MatchResult-weaker}
use Rattle.wc_world.specs.Records.{library_at}
use Rattle.wc_world.specs.World.{Known}
use Rattle.wc_archive.proofs.Exporting.{library_there}
use Rattle.wc_archive.proofs.archived.library_of.Goals as goal

pub returns : goal.returns
returns c =
    let w = c.args.world.now.world in
    let n = c.args.process.now.library in
    let libraries : c.as_slice.result.now ≡ w.libraries = c.as_slice.ensures ∙ ap (λ (p : List Known × ℕ). p.0) c.libraries.ensures in
    let there : library_at w.libraries n ≡ Some c.in-Some.library.now
    = ap (λ (ls : List Known). library_at ls n) (sym libraries) ∙ sym c.library_at.ensures ∙ ap option_copied c.in-Some.is in
    MatchResult-weaker c.clone.result c.clone.ensures.cases (λ copy e. there ∙ ap (λ l. Some l) (sym e)) (λ _ _. tt)

pub unreachable-requires : goal.unreachable-requires
unreachable-requires c =
    let w = c.args.world.now.world in
    let n = c.args.process.now.library in
    let libraries : c.as_slice.result.now ≡ w.libraries = c.as_slice.ensures ∙ ap (λ (p : List Known × ℕ). p.0) c.libraries.ensures in
    let none : library_at w.libraries n ≡ None
    = ap (λ (ls : List Known). library_at ls n) (sym libraries) ∙ sym c.library_at.ensures ∙ ap option_copied c.in-None.is in
    library_there w (c.reached_worlds_are_consistent.ensures w c.graph.ensures.reached) c.args.process.now.node c.args.process.now c.requires none
