use Rattle.std.proofs.Common.{◌≡◌, ◌∙◌, w64}
use Rattle.std.proofs.lemmas.Int.{to_z-of_z}
use mir.Val.{to_z, of_z}
use Rattle.wc_syntax.specs.Findings.{is_status}
use Rattle.wc_check.proofs.Named.{status_found}
use Rattle.wc_check.proofs.statuses.Statuses.has.Goals as goal

pub returns : goal.returns
returns c =
    let same : to_z w64 (of_z w64 c.args.status) ≡ c.args.status = to_z-of_z w64 c.args.status c.ranges.status in
    c.contains.ensures ∙ status_found _ c.self.inside.set.keys ∙ (λ i. is_status (same i) (c.self.view_is i))
