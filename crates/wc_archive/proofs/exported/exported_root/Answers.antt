use Rattle.std.proofs.Common.{inr, length, sym, subst}
use Rattle.std.specs.Prelude.{MatchOption}
use Rattle.wc_archive.specs.Closure.{is_at_or_below}
use Rattle.wc_archive.specs.Exports.{AllHaveEnded, IsLowestLive}
use Rattle.wc_archive.specs.Marks.{AreMarks}
use Rattle.wc_archive.proofs.Exporting.{exports_from, refuses_from, refuses_live}
use Rattle.wc_archive.proofs.exported.exported_root.Goals as goal

pub returns-in-Some-clause-refused : goal.returns-in-Some-clause-refused
returns-in-Some-clause-refused c =
    let w = c.args.world.now.world in
    let root = c.args.root.now in
    let are : AreMarks (is_at_or_below w.links root.node) (length w.nodes) c.deref.result.now
    = subst (AreMarks (is_at_or_below w.links root.node) (length w.nodes)) (sym c.deref.ensures.value) c.in_ok-marks.ensures in
    inr (refuses_live w root.node root c.requires.found c.requires.is_root c.in-Some.live
    (subst (λ o. MatchOption o (AllHaveEnded w root.node) (IsLowestLive w root.node)) c.in-Some.is (c.find_live.ensures root.node are)))

pub returns-clause-exports : goal.returns-clause-exports
returns-clause-exports c =
    let w = c.args.world.now.world in
    let root = c.args.root.now in
    let are : AreMarks (is_at_or_below w.links root.node) (length w.nodes) c.deref.result.now
    = subst (AreMarks (is_at_or_below w.links root.node) (length w.nodes)) (sym c.deref.ensures.value) c.in_ok-marks.ensures in
    exports_from w root.node root c.requires.found c.requires.is_root
    (subst (λ o. MatchOption o (AllHaveEnded w root.node) (IsLowestLive w root.node)) c.in-None.is (c.find_live.ensures root.node are))
    c.agreed.result c.agreed.ensures.archive c.agreed.ensures.agrees

pub returns-clause-refused : goal.returns-clause-refused
returns-clause-refused c =
    let w = c.args.world.now.world in
    let root = c.args.root.now in
    let are : AreMarks (is_at_or_below w.links root.node) (length w.nodes) c.deref.result.now
    = subst (AreMarks (is_at_or_below w.links root.node) (length w.nodes)) (sym c.deref.ensures.value) c.in_ok-marks.ensures in
    refuses_from w root.node root c.requires.found c.requires.is_root
    (subst (λ o. MatchOption o (AllHaveEnded w root.node) (IsLowestLive w root.node)) c.in-None.is (c.find_live.ensures root.node are))
    c.agreed.result c.agreed.ensures.refused
