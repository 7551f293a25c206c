use Rattle.std.proofs.Common.{◌≡◌, ◌∙◌, ap, ◌∷◌, ◌++◌, [], w64}
use Rattle.std.specs.Prelude.{not}
use Rattle.std.proofs.lemmas.Int.{to_z-of_z}
use mir.Val.{to_z, of_z}
use Rattle.wc_syntax.specs.Findings.{is_status}
use Rattle.wc_check.proofs.Named.{status_found, status_last}
use Rattle.wc_check.proofs.statuses.Statuses.add.Goals as goal

pub returns-clause-added : goal.returns-clause-added
returns-clause-added c =
    let same : to_z w64 (of_z w64 c.args.status) ≡ c.args.status = to_z-of_z w64 c.args.status c.ranges.status in
    c.in_ok-insert.ensures.added
    ∙ ap not (status_found _ c.self.inside.set.keys ∙ (λ i. is_status (same i) (c.self.view_is i)))

pub returns-clause-statuses : goal.returns-clause-statuses
returns-clause-statuses c = λ m.
    let same : to_z w64 (of_z w64 c.args.status) ≡ c.args.status = to_z-of_z w64 c.args.status c.ranges.status in
    ap (is_status m) c.in_ok-insert.ensures.keys
    ∙ status_last _ c.self.inside.set.keys m
    ∙ (λ i. is_status m (c.self.view_is i ++ same i ∷ []))
