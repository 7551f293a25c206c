use Rattle.std.proofs.Common.{◌≡◌, length, slice_index, refl, inr, sym, ap, subst, ◌∙◌}
use Rattle.std.specs.Prelude.{IsSome, Some, None}
use Rattle.wc_verify.specs.Faults.{IsLeastAmong}
use Rattle.wc_verify.specs.Givers.{AreLastGivers, recorded_giver}
use Rattle.wc_archive_file.specs.declared.error.ArchiveError.TheVariants as error
use Rattle.wc_archive.specs.Closure.{archive_number, closure, is_in_closure}
use Rattle.wc_archive.specs.Marks.{AreMarks, is_marked}
use Rattle.wc_archive.proofs.Exporting.{chosen_is}
use Rattle.wc_archive.proofs.exported.agreed.Goals as goal

pub archive_numbers-requires : goal.archive_numbers-requires
archive_numbers-requires c = ap length c.deref.ensures.value ∙ (c.in_ok-marks.ensures c.args.root.now.node c.requires.below).size

pub find_disagreement_among-requires : goal.find_disagreement_among-requires
find_disagreement_among-requires c = subst (AreLastGivers recorded_giver c.args.world.now.world) (sym c.deref-2.ensures.value) c.in_ok-lasts.ensures

pub returns-in-Some-clause-refused : goal.returns-in-Some-clause-refused
returns-in-Some-clause-refused c =
    let w = c.args.world.now.world in
    let root = c.args.root.now.node in
    let pair = c.in-Some.pair in
    let marks : AreMarks (is_in_closure w.links root) (length w.nodes) c.deref.result.now
    = subst (AreMarks (is_in_closure w.links root) (length w.nodes)) (sym c.deref.ensures.value) (c.in_ok-marks.ensures root c.requires.below) in
    let numbers = c.in_ok-numbers.ensures root (subst IsSome (sym c.requires.found) refl) marks in
    let one : c.number_at.result ≡ archive_number (closure w root) pair.0
    = c.number_at.ensures ∙ ap (λ ns. slice_index ns pair.0) c.deref-in-Some.ensures.value ∙ numbers pair.0 in
    let other : c.number_at-in-Some.result ≡ archive_number (closure w root) pair.1
    = c.number_at-in-Some.ensures ∙ ap (λ ns. slice_index ns pair.1) c.deref-in-Some-2.ensures.value ∙ numbers pair.1 in
    inr (
      pair,
      (λ i. error.Disagrees (one i) (other i)),
      chosen_is w root c.args.below.now (Some pair) c.requires.below (subst (IsLeastAmong w (is_marked c.args.below.now)) c.in-Some.is c.in_ok-found.ensures),
    )

pub returns-clause-agrees : goal.returns-clause-agrees
returns-clause-agrees c =
    let w = c.args.world.now.world in
    chosen_is w c.args.root.now.node c.args.below.now None c.requires.below (subst (IsLeastAmong w (is_marked c.args.below.now)) c.in-None.is c.in_ok-found.ensures)

pub archive_of-requires-clause-marks : goal.archive_of-requires-clause-marks
archive_of-requires-clause-marks c =
    let w = c.args.world.now.world in
    let root = c.args.root.now.node in
    subst (AreMarks (is_in_closure w.links root) (length w.nodes)) (sym c.deref-in-None-2.ensures.value) (c.in_ok-marks.ensures root c.requires.below)

pub archive_of-requires-clause-numbers : goal.archive_of-requires-clause-numbers
archive_of-requires-clause-numbers c =
    let w = c.args.world.now.world in
    let root = c.args.root.now.node in
    let marks : AreMarks (is_in_closure w.links root) (length w.nodes) c.deref.result.now
    = subst (AreMarks (is_in_closure w.links root) (length w.nodes)) (sym c.deref.ensures.value) (c.in_ok-marks.ensures root c.requires.below) in
    λ n. ap (λ ns. slice_index ns n) c.deref-in-None-3.ensures.value ∙ c.in_ok-numbers.ensures root (subst IsSome (sym c.requires.found) refl) marks n
